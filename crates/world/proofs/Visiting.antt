-- A step at a block of a row, by what it makes of that block.
use Rattle.std.proofs.Common.{◌≡◌, ◌∙◌, ◌<◌, ◌≤◌, ℕ, List, [], Option, None, Some, IsSome, Result, Ok, Err, IfOk, IsOk, OnErr, false, ap, inl, inr}
use Rattle.std.proofs.Common.{length, refl, set, subst, sym, arith}
use Rattle.std.proofs.lemmas.List.{get_or-set_same, length-set}
use Rattle.base.specs.declared.fault.NoMemory.{NoMemory}
use Rattle.base.specs.declared.step.Step.{Step}
use Rattle.network.proofs.Linked.{set-same}
use Rattle.tables.specs.Tables.{Tables}
use Rattle.machine.specs.Made.{made_at}
use Rattle.machine.specs.Transition.{decision_of, messages_of, transition}
use Rattle.rows.specs.Flags.{is_set}
use Rattle.blocks.specs.Marking.{marks_of}
use Rattle.blocks.specs.Steps.{Stays, BlockNeedsNoMemory}
use Rattle.blocks.specs.View.{BlockView, acts, acts_at_line, wakes_line}
use Rattle.world.specs.Keeping.{has_line}
use Rattle.world.specs.View.{space_of, state_or}
use Rattle.world.specs.inner.AtBlock.{HasStayed, HasStepped, IsVisited, NeedsNoMemoryAt, Visits}
use Rattle.world.specs.inner.Holding.{kept_at, state_at, OthersStay}
use Rattle.world.specs.inner.Tests.{IsMarked, IsTested, tested_in}
use Rattle.world.specs.declared.at_block.Visit.{Visit}
use Rattle.world.proofs.Touching.{idle-wants, line-left, others-set, wants-at}

-- a row in which a block was kept, if it wasn't before: all else is as it was
pub record Kept (tables : Tables) (caches value number : ℕ) (step : Step) (old mid : List (Option BlockView)) (k : BlockView) : Type 0 where
  pub below : number < length old
  pub there : Some k ≡ kept_at mid number
  pub others : OthersStay number old mid
  pub state : k.state ≡ state_at caches value old number
  pub idle : acts (decision_of tables step (state_at caches value old number)) ≡ false → kept_at mid number ≡ kept_at old number
  pub lines : (cache : ℕ) → is_set k.space.lines cache ≡ has_line (space_of (kept_at old number)) cache

-- a block that was kept before
pub kept-already : (tables : Tables) (caches value number : ℕ) (step : Step) (old : List (Option BlockView)) (k : BlockView) → number < length old →
    Some k ≡ kept_at old number → Kept tables caches value number step old old k
kept-already tables caches value number step old k below there = record {
  below = below;
  there = there;
  others = record { items = sym (set-same old number (kept_at old number) None refl) };
  state = ap (state_or caches value) there;
  idle = λ none. refl;
  lines = λ cache. ap (λ o. has_line (space_of o) cache) there;
}

here : (mid : List (Option BlockView)) (number : ℕ) (k : BlockView) → number < length mid → kept_at (set mid number (Some k)) number ≡ Some k
here mid number k below = get_or-set_same mid number (Some k) None below

long : (number : ℕ) (old mid : List (Option BlockView)) → OthersStay number old mid → length mid ≡ length old
long number old mid o = ap length o.items ∙ length-set old number (kept_at mid number)

visited : (tables : Tables) (caches value number : ℕ) (step : Step) (old mid : List (Option BlockView)) (k new : BlockView) →
    Kept tables caches value number step old mid k → new.marks ≡ marks_of tables new.state →
    (acts (decision_of tables step k.state) ≡ false → new.space ≡ k.space) →
    ((cache : ℕ) → acts_at_line (decision_of tables step k.state) cache ≡ false → is_set new.space.lines cache ≡ is_set k.space.lines cache) →
    IsVisited tables caches value number step old (set mid number (Some new))
visited tables caches value number step old mid k new h marks idle lines =
    let at = here mid number new (omega (arith, long number old mid h.others, h.below)) in
    record {
      others = others-set old mid number (Some new) h.below h.others;
      marked = subst (IsMarked tables) (sym at) marks;
      idle = λ none.
          ap space_of at
          ∙ (ap (λ s. Some s) (idle (subst (λ b. acts (decision_of tables step b) ≡ false) (sym h.state) none))
          ∙ (ap space_of h.there ∙ ap space_of (h.idle none)));
      lines = λ cache apart.
          ap (λ o. has_line (space_of o) cache) at
          ∙ (lines cache (subst (λ b. acts_at_line (decision_of tables step b) cache ≡ false) (sym h.state) apart) ∙ h.lines cache);
    }

-- what a step makes of a block that is kept, it makes of its row
pub put-visit : (tables : Tables) (caches value number : ℕ) (step : Step) (old mid : List (Option BlockView)) (k new : BlockView) (visit : Visit) →
    Kept tables caches value number step old mid k → Visits tables k step visit new →
    HasStepped tables caches value number step old visit (set mid number (Some new))
put-visit tables caches value number step old mid k new visit h v =
    let at = here mid number new (omega (arith, long number old mid h.others, h.below)) in
    let after : state_at caches value (set mid number (Some new)) number ≡ new.state = ap (state_or caches value) at in
    record {
      visited =
          visited tables caches value number step old mid k new h v.marks v.idle
          (λ cache apart. ap (λ ls. is_set ls cache) v.lines ∙ line-left _ _ cache apart);
      made = v.made ∙ ap (made_at tables step) h.state;
      state = ap (λ b. (transition tables step b).block) (sym h.state) ∙ (sym v.state ∙ sym after);
      tested =
          subst (λ b. IsTested tables b (state_at caches value (set mid number (Some new)) number) visit.tested) h.state
          (subst (λ b. IsTested tables k.state b visit.tested) (sym after) v.tested);
      sent = subst (λ b. length (messages_of (decision_of tables step b) b) ≤ tested_in visit.tested) h.state v.sent;
    }

-- where it is refused, the row's block stays
pub put-stay : (tables : Tables) (caches value number : ℕ) (step : Step) (old mid : List (Option BlockView)) (k new : BlockView) →
    Kept tables caches value number step old mid k → Stays tables k new → (acts (decision_of tables step k.state) ≡ false → new.space ≡ k.space) →
    HasStayed tables caches value number step old (set mid number (Some new))
put-stay tables caches value number step old mid k new h s idle =
    let at = here mid number new (omega (arith, long number old mid h.others, h.below)) in
    record {
      visited =
          visited tables caches value number step old mid k new h s.marks idle (λ cache apart. ap (λ ls. is_set ls cache) s.lines);
      state = ap (state_or caches value) at ∙ (s.state ∙ h.state);
    }

-- what wants nothing of the row wants nothing of its block
pub wants : (tables : Tables) (caches value number : ℕ) (step : Step) (old mid : List (Option BlockView)) (k : BlockView) →
    Kept tables caches value number step old mid k → (IsSome (kept_at old number) → kept_at old number ≡ Some k) →
    NeedsNoMemoryAt tables caches value number step old → BlockNeedsNoMemory (decision_of tables step k.state) k.state k.space
wants tables caches value number step old mid k h same needs = elim needs [
  | inl room ↦ wants-at tables step caches value (kept_at old number) k same h.state room
  | inr light ↦ inr (
    subst (λ b. messages_of (decision_of tables step b) b ≡ []) (sym h.state) light.sends,
    subst (λ b. wakes_line (decision_of tables step b) ≡ false) (sym h.state) light.wakes,
  )
]

-- the same of an answer that may be a refusal
pub steps-or : (tables : Tables) (caches value number : ℕ) (step : Step) (old mid : List (Option BlockView)) (k new : BlockView)
    (r : Result Visit NoMemory) → Kept tables caches value number step old mid k → IfOk r (λ visit. Visits tables k step visit new) →
    IfOk r (λ visit. HasStepped tables caches value number step old visit (set mid number (Some new)))
steps-or tables caches value number step old mid k new (Ok visit) h v = put-visit tables caches value number step old mid k new visit h v
steps-or tables caches value number step old mid k new (Err refused) h v = tt

pub stays-or : (tables : Tables) (caches value number : ℕ) (step : Step) (old mid : List (Option BlockView)) (k new : BlockView)
    (r : Result Visit NoMemory) → Kept tables caches value number step old mid k → OnErr r (Stays tables k new) →
    (BlockNeedsNoMemory (decision_of tables step k.state) k.state k.space → IsOk r) →
    OnErr r (HasStayed tables caches value number step old (set mid number (Some new)))
stays-or tables caches value number step old mid k new (Ok visit) h s ok = tt
stays-or tables caches value number step old mid k new (Err refused) h s ok =
    put-stay tables caches value number step old mid k new h s
    (λ none. absurd (cc (ok (idle-wants (decision_of tables step k.state) k.state k.space none))))
