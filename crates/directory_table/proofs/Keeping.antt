-- A table with another entry in one cell keeps to its protocol.
use Rattle.std.proofs.Common.{◌≡◌, ◌∙◌, ◌≢◌, ◌⊎◌, inl, inr, Bool, true, false, if◌then◌else◌, refl, ap, sym, subst}
use Rattle.std.proofs.lemmas.Bool.{cases_eq}
use Rattle.base.specs.declared.controller.protocol.Protocol.{Protocol}
use Rattle.base.proofs.Cells.{HasSize-replaced, replaced-here, replaced-other, same-place, TableOf}
use Rattle.directory_table.specs.declared.state.DirectoryState.{DirectoryState}
use Rattle.directory_table.specs.declared.event.DirectoryEvent.{DirectoryEvent}
use Rattle.directory_table.specs.Table.{Cells, DirectoryEntry, DirectoryTableView, with_cell, with_entry, has_entry, state_number, event_number}
use Rattle.directory_table.specs.Baseline.{all_states, all_events, baseline_entry}
use Rattle.directory_table.specs.Keeping.{IsKeptAt, IsDirectoryTable}
use Rattle.directory_table.specs.inner.Standing.{state_stands, event_stands}

listed : TableOf all_states all_events state_number event_number
listed = record { states_stand = state_stands; events_stand = event_stands }

pub keeps-replaced : (protocol : Protocol) (cells : Cells) (state : DirectoryState) (event : DirectoryEvent) (entry : DirectoryEntry) → IsDirectoryTable protocol cells →
    has_entry protocol entry ≡ true → (s : DirectoryState) (e : DirectoryEvent) → IsKeptAt protocol (with_cell cells state event entry) s e
keeps-replaced protocol cells state event entry h known s e =
    by-place (cases_eq (state_number s) (state_number state)) (cases_eq (event_number e) (event_number event))
  where
    elsewhere : ¬ ((s ≡ state) × (e ≡ event)) → IsKeptAt protocol (with_cell cells state event entry) s e
    elsewhere other =
        subst (λ x. (x ≡ baseline_entry protocol s e) ⊎ (has_entry protocol x ≡ true))
        (sym (replaced-other all_states all_events state_number event_number listed cells state event entry s e h.whole other)) (h.keeps s e)

    here : IsKeptAt protocol (with_cell cells state event entry) state event
    here = inr (ap (has_entry protocol) (replaced-here all_states all_events state_number event_number listed cells state event entry h.whole) ∙ known)

    by-place : (state_number s ≡ state_number state) ⊎ (state_number s ≢ state_number state) →
        (event_number e ≡ event_number event) ⊎ (event_number e ≢ event_number event) → IsKeptAt protocol (with_cell cells state event entry) s e
    by-place (inl row) (inl column) =
        let same_state : s ≡ state = same-place all_states state_number state_stands s state row in
        let same_event : e ≡ event = same-place all_events event_number event_stands e event column in
        subst (λ x. IsKeptAt protocol (with_cell cells state event entry) x e) (sym same_state)
        (subst (λ y. IsKeptAt protocol (with_cell cells state event entry) state y) (sym same_event) here)
    by-place (inr row) column = elsewhere (λ both. row (ap state_number both.0))
    by-place (inl row) (inr column) = elsewhere (λ both. column (ap event_number both.1))

-- so does one with another entry of which it isn't known whether the protocol has it
pub table-with : (t : DirectoryTableView) (s : DirectoryState) (e : DirectoryEvent) (x : DirectoryEntry) → IsDirectoryTable t.protocol t.cells →
    IsDirectoryTable (with_entry t s e x).protocol (with_entry t s e x).cells
table-with t s e x h = by-known (has_entry t.protocol x) refl
  where
    by-known : (b : Bool) → has_entry t.protocol x ≡ b →
        IsDirectoryTable (if b then record t { cells = with_cell t.cells s e x } else t).protocol (if b then record t { cells = with_cell t.cells s e x } else t).cells
    by-known true known = record {
      whole = HasSize-replaced all_states 7 state_number event_number state_stands t.cells s e x h.whole;
      keeps = keeps-replaced t.protocol t.cells s e x h known;
    }
    by-known false known = h
