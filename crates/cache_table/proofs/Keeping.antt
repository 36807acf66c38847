-- A table with another entry in one cell keeps to its protocol.
use Rattle.std.proofs.Common.{◌≡◌, ◌∙◌, ◌≢◌, ◌⊎◌, inl, inr, Bool, true, false, if◌then◌else◌, refl, ap, sym, subst}
use Rattle.std.proofs.lemmas.Bool.{cases_eq}
use Rattle.base.specs.declared.controller.protocol.Protocol.{Protocol}
use Rattle.base.proofs.Cells.{HasSize-replaced, replaced-here, replaced-other, same-place, TableOf}
use Rattle.cache_table.specs.declared.state.CacheState.{CacheState}
use Rattle.cache_table.specs.declared.event.CacheEvent.{CacheEvent}
use Rattle.cache_table.specs.Table.{Cells, CacheEntry, CacheTableView, with_cell, with_entry, has_cell, state_number, event_number}
use Rattle.cache_table.specs.Baseline.{all_states, all_events, baseline_entry}
use Rattle.cache_table.specs.Keeping.{IsKeptAt, IsCacheTable}
use Rattle.cache_table.specs.inner.Standing.{state_stands, event_stands}

listed : TableOf all_states all_events state_number event_number
listed = record { states_stand = state_stands; events_stand = event_stands }

pub keeps-replaced : (protocol : Protocol) (cells : Cells) (state : CacheState) (event : CacheEvent) (entry : CacheEntry) → IsCacheTable protocol cells →
    has_cell protocol state event entry ≡ true → (s : CacheState) (e : CacheEvent) → IsKeptAt protocol (with_cell cells state event entry) s e
keeps-replaced protocol cells state event entry h known s e =
    by-place (cases_eq (state_number s) (state_number state)) (cases_eq (event_number e) (event_number event))
  where
    elsewhere : ¬ ((s ≡ state) × (e ≡ event)) → IsKeptAt protocol (with_cell cells state event entry) s e
    elsewhere other =
        subst (λ x. (x ≡ baseline_entry protocol s e) ⊎ (has_cell protocol s e x ≡ true))
        (sym (replaced-other all_states all_events state_number event_number listed cells state event entry s e h.whole other)) (h.keeps s e)

    here : IsKeptAt protocol (with_cell cells state event entry) state event
    here = inr (ap (has_cell protocol state event) (replaced-here all_states all_events state_number event_number listed cells state event entry h.whole)
        ∙ known)

    by-place : (state_number s ≡ state_number state) ⊎ (state_number s ≢ state_number state) →
        (event_number e ≡ event_number event) ⊎ (event_number e ≢ event_number event) → IsKeptAt protocol (with_cell cells state event entry) s e
    by-place (inl row) (inl column) =
        let same_state : s ≡ state = same-place all_states state_number state_stands s state row in
        let same_event : e ≡ event = same-place all_events event_number event_stands e event column in
        subst (λ x. IsKeptAt protocol (with_cell cells state event entry) x e) (sym same_state)
        (subst (λ y. IsKeptAt protocol (with_cell cells state event entry) state y) (sym same_event) here)
    by-place (inr row) column = elsewhere (λ both. row (ap state_number both.0))
    by-place (inl row) (inr column) = elsewhere (λ both. column (ap event_number both.1))

-- so does one with another entry of which it isn't known whether the protocol has it
pub table-with : (t : CacheTableView) (s : CacheState) (e : CacheEvent) (x : CacheEntry) → IsCacheTable t.protocol t.cells →
    IsCacheTable (with_entry t s e x).protocol (with_entry t s e x).cells
table-with t s e x h = by-known (has_cell t.protocol s e x) refl
  where
    by-known : (b : Bool) → has_cell t.protocol s e x ≡ b →
        IsCacheTable (if b then record t { cells = with_cell t.cells s e x } else t).protocol (if b then record t { cells = with_cell t.cells s e x } else t).cells
    by-known true known = record {
      whole = HasSize-replaced all_states 13 state_number event_number state_stands t.cells s e x h.whole;
      keeps = keeps-replaced t.protocol t.cells s e x h known;
    }
    by-known false known = h
