-- Where the Data of a store waits for its acks, no line ever gathers them after it.
use Rattle.std.proofs.Common.{◌≡◌, ◌⊎◌, inl, inr, ℕ, refl, ap, sym, subst, ◌∙◌, Option, Some, None, Bool, true, false}
use Rattle.std.proofs.Common.{if◌then◌else◌, slice_get, slice_set}
use Rattle.std.proofs.lemmas.Bool.{cases_eq}
use Rattle.base.specs.declared.ids.CacheId.{CacheId}
use Rattle.base.specs.declared.ids.Place.TheVariants.{Dir, Cache}
use Rattle.base.specs.declared.controller.protocol.Protocol.{Protocol}
use Rattle.base.specs.declared.controller.protocol.Protocol.TheVariants.{Msi, MsiE}
use Rattle.base.specs.declared.step.Ask.{Ask}
use Rattle.base.specs.declared.step.Step.{Step}
use Rattle.base.specs.declared.step.Step.TheVariants as step
use Rattle.base.specs.declared.step.Outcome.TheVariants as outcome
use Rattle.base.specs.declared.controller.entry.CellEntry.TheVariants as entry
use Rattle.network.specs.declared.message.Request.{Request}
use Rattle.network.specs.declared.message.Forward.{Forward}
use Rattle.network.specs.declared.message.Response.{Response}
use Rattle.network.specs.declared.message.Response.TheVariants.{Data, InvAck, DataExcl}
use Rattle.network.specs.Traffic.{link}
use Rattle.cache_table.specs.declared.state.CacheState.{CacheState}
use Rattle.cache_table.specs.declared.state.CacheState.TheVariants.{ImAd, ImA, SmAd, SmA}
use Rattle.cache_table.specs.declared.event.CacheEvent.{CacheEvent}
use Rattle.cache_table.specs.declared.event.CacheEvent.TheVariants.{DataDirMore}
use Rattle.cache_table.specs.Table.{CacheEntry, cell}
use Rattle.cache_table.specs.Baseline.{baseline_entry}
use Rattle.cache_table.proofs.BaselineCells.{cell-baseline}
use Rattle.directory_table.specs.Table.{DirectoryEntry}
use Rattle.control.specs.declared.line.Line.{Line}
use Rattle.control.specs.declared.line.LineInput.{LineInput}
use Rattle.control.specs.declared.line.LineInput.TheVariants as line_input
use Rattle.control.specs.declared.home.HomeInput.{HomeInput}
use Rattle.control.specs.LineEvents.{event_at_line}
use Rattle.control.specs.LineEffect.{line_after, line_completes, moved_on}
use Rattle.tables.specs.Tables.{Tables, baseline_of}
use Rattle.machine.specs.declared.decision.Origin.{Origin}
use Rattle.machine.specs.declared.decision.Origin.TheVariants as origin
use Rattle.machine.specs.declared.decision.Decision.{Decision}
use Rattle.machine.specs.declared.decision.Decision.TheVariants.{Refused}
use Rattle.machine.specs.Block.{BlockState}
use Rattle.machine.specs.Transition.{transition, carried_out, by_line_entry, by_home_entry, at_line, at_ask, at_request, at_forward, at_response, is_idle}
use Rattle.machine.specs.Restraint.{AreRestrained}
use Rattle.machine.proofs.Places.{slice_get-set_same, slice_get-set_other, some-same}
use Rattle.machine.proofs.Fitting.{below_read}
use Rattle.machine.proofs.Settling.{stays-settled}
use Rattle.machine.proofs.Sound.{Sound}
use Rattle.machine.proofs.Plain.{Plain}
use Rattle.machine.proofs.Own.{own-fine}

-- no line is in one of these states
abbrev pub Avoids : (CacheState → Type 0) → BlockState → Type 0
Avoids P b = (c : ℕ) (line : Line) → Some line ≡ slice_get b.lines c → P line.state → ⊥

-- a cell leads to one of these states
abbrev Leads : (CacheState → Type 0) → CacheEntry → Type 0
Leads P entry.Blank = ⊥
Leads P entry.Stall = ⊥
Leads P (entry.Act next actions) = P next

-- the own tables lead there from one state alone, by Data whose acks haven't come
abbrev Entered : (CacheState → Type 0) → CacheState → Type 0
Entered P awaiting = (p : Protocol) (e : CacheEvent) (s : CacheState) → Leads P (baseline_entry p s e) → P s ⊎ ((s ≡ awaiting) × (e ≡ DataDirMore))

abbrev pub IsImA : CacheState → Type 0
IsImA ImA = Unit {0}
IsImA other = ⊥

abbrev pub IsSmA : CacheState → Type 0
IsSmA SmA = Unit {0}
IsSmA other = ⊥

im_a-entered : (p : Protocol) (e : CacheEvent) (s : CacheState) → Leads IsImA (baseline_entry p s e) → IsImA s ⊎ ((s ≡ ImAd) × (e ≡ DataDirMore))
im_a-entered Msi DataDirMore ImAd h = inr (refl, refl)
im_a-entered MsiE DataDirMore ImAd h = inr (refl, refl)
im_a-entered p e ImA h = inl tt
im_a-entered p e s h = absurd h

sm_a-entered : (p : Protocol) (e : CacheEvent) (s : CacheState) → Leads IsSmA (baseline_entry p s e) → IsSmA s ⊎ ((s ≡ SmAd) × (e ≡ DataDirMore))
sm_a-entered Msi DataDirMore SmAd h = inr (refl, refl)
sm_a-entered MsiE DataDirMore SmAd h = inr (refl, refl)
sm_a-entered p e SmA h = inl tt
sm_a-entered p e s h = absurd h

-- what is asked of such states and of tables
record Closed (P : CacheState → Type 0) (awaiting : CacheState) (tables : Tables) : Type 0 where
  pub restrains : AreRestrained tables
  pub entered : Entered P awaiting
  pub waits : cell tables.cache awaiting DataDirMore ≡ entry.Stall

im_a-closed : (tables : Tables) → AreRestrained tables → cell tables.cache ImAd DataDirMore ≡ entry.Stall → Closed IsImA ImAd tables
im_a-closed tables r w = record { restrains = r; entered = im_a-entered; waits = w }

sm_a-closed : (tables : Tables) → AreRestrained tables → cell tables.cache SmAd DataDirMore ≡ entry.Stall → Closed IsSmA SmAd tables
sm_a-closed tables r w = record { restrains = r; entered = sm_a-entered; waits = w }

-- a cell that is met from elsewhere leads elsewhere
elsewhere : (P : CacheState → Type 0) (awaiting : CacheState) (tables : Tables) → Closed P awaiting tables → (s : CacheState) (e : CacheEvent) →
    (cell (baseline_of tables.protocol).cache s e ≡ entry.Blank → ⊥) → (P s → ⊥) → Leads P (cell tables.cache s e) → ⊥
elsewhere P awaiting tables k s e met out leads = elim (k.restrains.cache s e) [
  | inl own ↦ elim (k.entered tables.protocol e s (subst (λ x. Leads P x) (own ∙ cell-baseline tables.protocol s e) leads)) [
    | inl p ↦ out p
    | inr at ↦ subst (λ x. Leads P x) (ap (λ x. cell tables.cache x e) at.0 ∙ ap (λ x. cell tables.cache awaiting x) at.1 ∙ k.waits) leads
  ]
  | inr (inl stall) ↦ subst (λ x. Leads P x) stall leads
  | inr (inr blank) ↦ met blank
]

entry-avoids : (P : CacheState → Type 0) (b : BlockState) (cache : CacheId) (line : Line) (input : LineInput) (from : Origin) (x : CacheEntry) →
    Some line ≡ slice_get b.lines cache.0 → Avoids P b → (Leads P x → ⊥) → Avoids P (carried_out (by_line_entry x cache line input from) b).block
entry-avoids P b cache line input from entry.Blank there h never = h
entry-avoids P b cache line input from entry.Stall there h never = h
entry-avoids P b cache line input from (entry.Act next actions) there h never = λ c l at p. elim (cases_eq c cache.0) [
  | inl same ↦
      let new : Line = line_after input next line in
      let it : l ≡ new = some-same l new
      (at ∙ ap (λ (k : ℕ). slice_get (slice_set b.lines cache.0 new) k) same
      ∙ slice_get-set_same b.lines cache.0 new (below_read b.lines cache.0 line there)) in
      let state : new.state ≡ next = (stays-settled input (line_completes input next line) (moved_on input next line)).state in
      never (subst P (ap (λ (x : Line). x.state) it ∙ state) p)
  | inr ne ↦ h c l (at ∙ slice_get-set_other b.lines cache.0 c (line_after input next line) ne) p
]

home-avoids : (P : CacheState → Type 0) (b : BlockState) (input : HomeInput) (from : Origin) (x : DirectoryEntry) → Avoids P b →
    Avoids P (carried_out (by_home_entry x input from) b).block
home-avoids P b input from entry.Blank h = h
home-avoids P b input from entry.Stall h = h
home-avoids P b input from (entry.Act next actions) h = h

-- the own decision doesn't meet a blank cell
abbrev IsMet : Decision → BlockState → Type 0
IsMet own b = (carried_out own b).outcome ≡ outcome.Blank → ⊥

line-avoids : (P : CacheState → Type 0) (awaiting : CacheState) (tables : Tables) → Closed P awaiting tables →
    (b : BlockState) (cache : CacheId) (input : LineInput)
    (from : Origin) (found : Option Line) → found ≡ slice_get b.lines cache.0 →
    IsMet (at_line (baseline_of tables.protocol).cache cache input from found) b → Avoids P b →
    Avoids P (carried_out (at_line tables.cache cache input from found) b).block
line-avoids P awaiting tables k b cache input from None e met h = h
line-avoids P awaiting tables k b cache input from (Some line) e met h =
    entry-avoids P b cache line input from (cell tables.cache line.state (event_at_line line.acks input)) e h
    (λ leads. elsewhere P awaiting tables k line.state (event_at_line line.acks input)
    (λ z. met (ap (λ (x : CacheEntry). (carried_out (by_line_entry x cache line input from) b).outcome) z)) (h cache.0 line e) leads)

if-avoids : (P : CacheState → Type 0) (b : BlockState) (t : Bool) (x own d : Decision) → (carried_out x b).block ≡ b → Avoids P b →
    (IsMet own b → Avoids P (carried_out d b).block) → IsMet (if t then x else own) b → Avoids P (carried_out (if t then x else d) b).block
if-avoids P b true x own d same h f met = subst (λ (y : BlockState). Avoids P y) (sym same) h
if-avoids P b false x own d same h f met = f met

ask-avoids : (P : CacheState → Type 0) (awaiting : CacheState) (tables : Tables) → Closed P awaiting tables → (b : BlockState) (cache : CacheId) (a : Ask)
    (found : Option Line) → found ≡ slice_get b.lines cache.0 → IsMet (at_ask (baseline_of tables.protocol).cache cache a found) b → Avoids P b →
    Avoids P (carried_out (at_ask tables.cache cache a found) b).block
ask-avoids P awaiting tables k b cache a None e met h = h
ask-avoids P awaiting tables k b cache a (Some line) e met h =
    if-avoids P b (is_idle a line.state) (Refused outcome.Idle) (at_line (baseline_of tables.protocol).cache cache (line_input.Ask a) origin.Core (Some line))
    (at_line tables.cache cache (line_input.Ask a) origin.Core (Some line)) refl h
    (λ m. line-avoids P awaiting tables k b cache (line_input.Ask a) origin.Core (Some line) e m h) met

request-avoids : (P : CacheState → Type 0) (tables : Tables) (b : BlockState) (i : ℕ) (found : Option Request) → Avoids P b →
    Avoids P (carried_out (at_request tables.directory i b.home found) b).block
request-avoids P tables b i None h = h
request-avoids P tables b i (Some r) h = home-avoids P b _ (origin.Request i) _ h

forward-avoids : (P : CacheState → Type 0) (awaiting : CacheState) (tables : Tables) → Closed P awaiting tables → (b : BlockState) (cache : CacheId)
    (found : Option Forward) → IsMet (at_forward (baseline_of tables.protocol).cache cache b.lines found) b → Avoids P b →
    Avoids P (carried_out (at_forward tables.cache cache b.lines found) b).block
forward-avoids P awaiting tables k b cache None met h = h
forward-avoids P awaiting tables k b cache (Some m) met h =
    line-avoids P awaiting tables k b cache (line_input.Forward m) (origin.Head cache) (slice_get b.lines cache.0) refl met h

response-avoids : (P : CacheState → Type 0) (awaiting : CacheState) (tables : Tables) → Closed P awaiting tables → (b : BlockState) (i : ℕ)
    (found : Option Response) → IsMet (at_response (baseline_of tables.protocol) i b found) b → Avoids P b →
    Avoids P (carried_out (at_response tables i b found) b).block
response-avoids P awaiting tables k b i None met h = h
response-avoids P awaiting tables k b i (Some (Data by Dir value acks)) met h = home-avoids P b _ (origin.Response i) _ h
response-avoids P awaiting tables k b i (Some (Data by (Cache to) value acks)) met h =
    line-avoids P awaiting tables k b to (line_input.Response (Data by (Cache to) value acks)) (origin.Response i) (slice_get b.lines to.0) refl met h
response-avoids P awaiting tables k b i (Some (InvAck by to)) met h =
    line-avoids P awaiting tables k b to (line_input.Response (InvAck by to)) (origin.Response i) (slice_get b.lines to.0) refl met h
response-avoids P awaiting tables k b i (Some (DataExcl to value)) met h =
    line-avoids P awaiting tables k b to (line_input.Response (DataExcl to value)) (origin.Response i) (slice_get b.lines to.0) refl met h

step-avoids : (P : CacheState → Type 0) (awaiting : CacheState) (tables : Tables) → Closed P awaiting tables → (s : Step) (b : BlockState) →
    ((transition (baseline_of tables.protocol) s b).outcome ≡ outcome.Blank → ⊥) → Avoids P b → Avoids P (transition tables s b).block
step-avoids P awaiting tables k (step.Ask cache block a) b met h = ask-avoids P awaiting tables k b cache a (slice_get b.lines cache.0) refl met h
step-avoids P awaiting tables k (step.Request block i) b met h = request-avoids P tables b i (slice_get b.traffic.requests i) h
step-avoids P awaiting tables k (step.Forward block cache) b met h = forward-avoids P awaiting tables k b cache (slice_get (link b.traffic cache.0) 0) met h
step-avoids P awaiting tables k (step.Response block i) b met h = response-avoids P awaiting tables k b i (slice_get b.traffic.responses i) met h

-- each transition leaves no line in these states
transition-avoids : (P : CacheState → Type 0) (awaiting : CacheState) (tables : Tables) → Closed P awaiting tables → (n : ℕ) (s : Step) (b : BlockState) →
    Sound n b → Plain tables.protocol b → Avoids P b → Avoids P (transition tables s b).block
transition-avoids P awaiting tables k n s b h pl a = step-avoids P awaiting tables k s b (own-fine tables.protocol n s b h pl).met a

-- where the Data of a store waits for its acks, no line gathers them after it
pub record Gathering (tables : Tables) (b : BlockState) : Type 0 where
  pub invalid : cell tables.cache ImAd DataDirMore ≡ entry.Stall → Avoids IsImA b
  pub shared : cell tables.cache SmAd DataDirMore ≡ entry.Stall → Avoids IsSmA b

pub transition-gathering : (n : ℕ) (tables : Tables) (s : Step) (b : BlockState) → AreRestrained tables → Sound n b → Plain tables.protocol b →
    Gathering tables b →
    Gathering tables (transition tables s b).block
transition-gathering n tables s b r h pl g = record {
  invalid = λ w. transition-avoids IsImA ImAd tables (im_a-closed tables r w) n s b h pl (g.invalid w);
  shared = λ w. transition-avoids IsSmA SmAd tables (sm_a-closed tables r w) n s b h pl (g.shared w);
}
