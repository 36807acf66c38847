-- A block that isn't kept, and one that is kept from now on.
use Rattle.std.proofs.Common.{◌≡◌, ℕ, ◌<◌, List, [], ◌∷◌, Option, Some, None, Bool}
use Rattle.std.proofs.Common.{true, false, if◌then◌else◌, refl, ap, sym, subst, ◌∙◌, zero, suc, arith}
use Rattle.std.proofs.Common.{length, set, replicate, slice_get, inl, inr, ◌⊎◌, IsSome, true≢false}
use Rattle.std.proofs.lemmas.List.{get_or-set_other, get_or-set_same, length-set}
use Rattle.std.proofs.lemmas.Bool.{eq-eqb}
use Rattle.control.proofs.HomeSends.{no-flag}
use Rattle.base.specs.declared.ids.CacheId.{CacheId}
use Rattle.base.specs.declared.step.Ask.{Ask}
use Rattle.base.specs.declared.step.Step.{Step}
use Rattle.base.specs.declared.step.Step.TheVariants as step
use Rattle.network.specs.declared.message.Forward.{Forward}
use Rattle.cache_table.specs.Table.{CacheEntry}
use Rattle.cache_table.specs.Table as cache_table
use Rattle.base.specs.declared.controller.entry.CellEntry.TheVariants as table_entry
use Rattle.control.specs.declared.line.Line.{Line}
use Rattle.control.specs.declared.line.LineInput.TheVariants as line_input
use Rattle.control.specs.LineEffect.{opened_line}
use Rattle.control.specs.LineEvents.{event_at_line}
use Rattle.machine.specs.declared.decision.Decision.{Decision}
use Rattle.machine.specs.declared.decision.Decision.TheVariants.{Refused, AtLine, AtHome}
use Rattle.machine.specs.declared.decision.Origin.TheVariants as origin
use Rattle.tables.specs.Tables.{Tables}
use Rattle.machine.specs.Block.{BlockState, opened_block}
use Rattle.machine.specs.Transition.{at_ask, at_forward, by_line_entry, decision_of, is_idle}
use Rattle.rows.specs.Flags.{is_set}
use Rattle.blocks.specs.Steps.{BlockNeedsNoMemory}
use Rattle.blocks.specs.View.{BlockView, HasSpaceFor, Space, acts, acts_at_line, lines_after, wakes_line}
use Rattle.world.specs.Keeping.{has_line}
use Rattle.world.specs.View.{HasSpaceAt, space_of, state_or}
use Rattle.blocks.specs.Marking.{marks_of}
use Rattle.world.specs.inner.Holding.{kept_at, SendsAndWakesNothing, OthersStay}
use Rattle.world.specs.inner.Tests.{IsMarked}
use Rattle.blocks.proofs.Opening.{no-message}

set-twice : {X : Type 0} (xs : List X) (i : ℕ) (x y : X) → set (set xs i x) i y ≡ set xs i y
set-twice [] i x y = refl
set-twice (z ∷ zs) zero x y = refl
set-twice (z ∷ zs) (suc i) x y = ap (λ ws. z ∷ ws) (set-twice zs i x y)

-- the block is written once more
pub others-set : (old new : List (Option BlockView)) (number : ℕ) (k : Option BlockView) → number < length old → OthersStay number old new →
    OthersStay number old (set new number k)
others-set old new number k below h =
    let long : length new ≡ length old = ap length h.items ∙ length-set old number (kept_at new number) in
    let at : kept_at (set new number k) number ≡ k = get_or-set_same new number k None (omega (arith, long, below)) in
    record { items = ap (λ ks. set ks number k) h.items ∙ set-twice old number (kept_at new number) k ∙ ap (λ x. set old number x) (sym at) }

opened-at : (n i : ℕ) (line : Line) → slice_get (replicate n opened_line) i ≡ Some line → line ≡ opened_line
opened-at zero i line e = absurd (cc e)
opened-at (suc n) zero line e = cc e
opened-at (suc n) (suc i) line e = opened-at n i line e

entry-wakes : (x : CacheEntry) (cache : CacheId) (line : Line) (ask : Ask) → line ≡ opened_line →
    wakes_line (by_line_entry x cache line (line_input.Ask ask) origin.Core) ≡ false
    → acts (by_line_entry x cache line (line_input.Ask ask) origin.Core) ≡ false
entry-wakes table_entry.Blank cache line ask o w = refl
entry-wakes table_entry.Stall cache line ask o w = refl
entry-wakes (table_entry.Act next actions) cache line ask o w =
    absurd (true≢false (sym (ap (λ (l : Line). wakes_line (by_line_entry (table_entry.Act next actions) cache l (line_input.Ask ask) origin.Core)) o) ∙ w))

if-acts : (test : Bool) (x y : Decision) → acts x ≡ false → (wakes_line y ≡ false → acts y ≡ false) →
    wakes_line (if test then x else y) ≡ false → acts (if test then x else y) ≡ false
if-acts true x y a b w = a
if-acts false x y a b w = b w

ask-wakes : (cells : cache_table.Cells) (cache : CacheId) (ask : Ask) (found : Option Line)
    → ((line : Line) → found ≡ Some line → line ≡ opened_line) →
    wakes_line (at_ask cells cache ask found) ≡ false → acts (at_ask cells cache ask found) ≡ false
ask-wakes cells cache ask None o w = refl
ask-wakes cells cache ask (Some line) o w =
    if-acts (is_idle ask line.state) _ _ refl
    (entry-wakes (cache_table.cell cells line.state (event_at_line line.acks (line_input.Ask ask))) cache line ask (o line refl)) w

-- nothing but an ask at a line in I acts at a block that opens
opened-wakes : (tables : Tables) (s : Step) (caches value : ℕ) → wakes_line (decision_of tables s (opened_block caches value)) ≡ false →
    acts (decision_of tables s (opened_block caches value)) ≡ false
opened-wakes tables (step.Ask cache block ask) caches value w =
    ask-wakes tables.cache cache ask (slice_get (replicate caches opened_line) cache.0) (opened-at caches cache.0) w
opened-wakes tables (step.Request block index) caches value w = refl
opened-wakes tables (step.Forward block cache) caches value w =
    ap (λ (fs : List Forward). acts (at_forward tables.cache cache (replicate caches opened_line) (slice_get fs 0))) (no-message caches cache.0)
opened-wakes tables (step.Response block index) caches value w = refl

-- a step that wants nothing is made at a block that is kept, or nothing acts
pub light-at : (tables : Tables) (s : Step) (caches value : ℕ) (old : Option BlockView) → SendsAndWakesNothing tables s (state_or caches value old) →
    (IsSome old) ⊎ (acts (decision_of tables s (state_or caches value old)) ≡ false)
light-at tables s caches value None h = inr (opened-wakes tables s caches value h.wakes)
light-at tables s caches value (Some k) h = inl refl

-- and so is one that wants no memory
pub either-at : (tables : Tables) (s : Step) (caches value : ℕ) (old : Option BlockView) →
    (HasSpaceAt (decision_of tables s (state_or caches value old)) (state_or caches value old) (space_of old))
    ⊎ SendsAndWakesNothing tables s (state_or caches value old) →
    (IsSome old) ⊎ (acts (decision_of tables s (state_or caches value old)) ≡ false)
either-at tables s caches value None (inl none) = inr none
either-at tables s caches value (Some k) (inl space) = inl refl
either-at tables s caches value old (inr light) = light-at tables s caches value old light

-- what no cell acts on wants nothing
pub idle-wants : (d : Decision) (b : BlockState) (space : Space) → acts d ≡ false → BlockNeedsNoMemory d b space
idle-wants (Refused what) b space none = inr (refl, refl)
idle-wants (AtLine cache line input next actions from) b space none = absurd (cc)
idle-wants (AtHome input next actions from) b space none = absurd (cc)

-- where there is room at a block, kept or not, what is decided there wants nothing of the block that is kept then
pub wants-at : (tables : Tables) (s : Step) (caches value : ℕ) (old : Option BlockView) (k : BlockView) → (IsSome old → old ≡ Some k) →
    k.state ≡ state_or caches value old →
    HasSpaceAt (decision_of tables s (state_or caches value old)) (state_or caches value old) (space_of old) → BlockNeedsNoMemory
    (decision_of tables s k.state) k.state k.space
wants-at tables s caches value None k kept same space = idle-wants _ _ _ (subst (λ b. acts (decision_of tables s b) ≡ false) (sym same) space)
wants-at tables s caches value (Some old) k kept same space =
    let here : old ≡ k = same-view old k (kept refl) in
    inl (subst (λ (v : BlockView). HasSpaceFor (decision_of tables s v.state) v.state v.space) here space)
  where
    same-view : (a b : BlockView) → Some a ≡ Some b → a ≡ b
    same-view a b e = cc e

-- a block that is kept from now on has no line yet
pub none-yet : (caches : ℕ) (k : BlockView) → k.space.lines ≡ replicate caches false → (cache : ℕ) → has_line (space_of (Some k)) cache ≡ false
none-yet caches k none cache = ap (λ ls. is_set ls cache) none ∙ no-flag caches cache

-- a block that is kept is put again, with a line kept or not as before
pub lines-put : (old mid : List (Option BlockView)) (i cache : ℕ) (k new : BlockView) → i < length mid → Some k ≡ kept_at mid i →
    is_set new.space.lines cache ≡ is_set k.space.lines cache →
    has_line (space_of (kept_at mid i)) cache ≡ has_line (space_of (kept_at old i)) cache →
    has_line (space_of (kept_at (set mid i (Some new)) i)) cache ≡ has_line (space_of (kept_at old i)) cache
lines-put old mid i cache k new below there same before =
    ap (λ o. has_line (space_of o) cache) (get_or-set_same mid i (Some new) None below) ∙ same
    ∙ ap (λ o. has_line (space_of o) cache) there ∙ before

-- where a cell acts at no line of a cache, that stays kept or not
pub line-left : (d : Decision) (lines : List Bool) (cache : ℕ) → acts_at_line d cache ≡ false → is_set (lines_after d lines) cache ≡ is_set lines cache
line-left (Refused what) lines cache apart = refl
line-left (AtHome input next actions from) lines cache apart = refl
line-left (AtLine own line input next actions from) lines cache apart =
    get_or-set_other lines own.0 cache true false (λ same. true≢false (sym (eq-eqb own.0 cache (sym same)) ∙ apart))

-- the marks of a block that is kept from now on
pub marked-put : (tables : Tables) (ks : List (Option BlockView)) (i : ℕ) (k : BlockView) → i < length ks → k.marks ≡ marks_of tables k.state →
    IsMarked tables (kept_at (set ks i (Some k)) i)
marked-put tables ks i k below m = subst (IsMarked tables) (sym (get_or-set_same ks i (Some k) None below)) m
