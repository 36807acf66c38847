-- A tally has of each seat how many deliveries belong to it.
use Rattle.std.proofs.Common.{◌≡◌, ◌≢◌, ◌<◌, ◌≤◌, ◌+◌, ◌==◌, ◌%◌, ℕ, List, [], Option, Some, None, Bool, true, false}
use Rattle.std.proofs.Common.{filter, length, take, get_or, slice_get, slice_set, slice_index, count_by, IfSome, IfNone}
use Rattle.std.proofs.Common.{refl, sym, ap, ◌∙◌, inl, inr, arith, subst}
use Rattle.std.specs.Option.{option_map, option_map_or}
use Rattle.std.proofs.lemmas.Bool.{cases_eq, eq-eqb, eqb-true}
use Rattle.std.proofs.lemmas.List.{get_or-set_same, get_or-set_other, length-set, length-take}
use Rattle.std.proofs.lemmas.List.Sums.{count_by_more_no, count_by_more_yes, count_by-le-length}
use Rattle.std.proofs.lemmas.Option.{get_or_from_slice_get}
use Rattle.base.specs.Steps.{block_of}
use Rattle.base.specs.declared.ids.BlockId.{BlockId}
use Rattle.base.specs.declared.ids.Place.{Place}
use Rattle.base.specs.declared.step.Step.{Step}
use Rattle.machine.specs.Machine.{State}
use Rattle.machine.proofs.Places.{slice_get-set_same, slice_get-set_other, some-same}
use Rattle.world.specs.Looks.{place_at}
use Rattle.world.specs.View.{View}
use Rattle.world.specs.declared.counts.Spot.{Spot}
use Rattle.world.specs.Enabled.{enabled_at_block}
use Rattle.world.specs.inner.Counts.{Rows, all_in, FallsAt}
use Rattle.floor.specs.Belonging.{belongs, controller, is_of, ready_for}
use Rattle.floor.specs.inner.Sharing.{AreShared, owner_of, recounted}
use Rattle.floor.proofs.Sharing.{ready-count, ready-get}
use Rattle.floor.proofs.Recounting.{get-below, get-there}

eqb-no : (a b : ℕ) → (a ≡ b → ⊥) → (a == b) ≡ false
eqb-no a b ne = by (a == b) refl
  where
    by : (c : Bool) → (a == b) ≡ c → (a == b) ≡ false
    by true e = absurd (ne (eqb-true a b e))
    by false e = e

-- one more of a list is noted: for its owner, or for all where it has none
module _ (seats caches : ℕ) (s : State) (steps : List Step) (k : ℕ) (x : Step) (each each' : List ℕ) (all all' : ℕ)
    (there : slice_get steps k ≡ Some x) (long : seats ≤ length each)
    (before : (seat : ℕ) → seat < seats → slice_index each seat + all ≡ count_by (λ y. belongs seats caches s seat y) (take k steps)) where
  inside : k < length steps
  inside = get-below steps k x there

  here : get_or steps k x ≡ x
  here = get_or_from_slice_get steps k x x there

  -- a seat to whom the step belongs has one more, the others have what they had
  with-it : (seat : ℕ) → seat < seats → belongs seats caches s seat x ≡ true → slice_index each' seat + all' ≡ slice_index each seat + all + 1 →
      slice_index each' seat + all' ≡ count_by (λ y. belongs seats caches s seat y) (take (k + 1) steps)
  with-it seat lt its more =
      let c = count_by_more_yes (λ y. belongs seats caches s seat y) steps k x inside (ap (λ y. belongs seats caches s seat y) here ∙ its) in
      let b = before seat lt in
      omega (arith, c, b, more)

  without-it : (seat : ℕ) → seat < seats → belongs seats caches s seat x ≡ false → slice_index each' seat + all' ≡ slice_index each seat + all →
      slice_index each' seat + all' ≡ count_by (λ y. belongs seats caches s seat y) (take (k + 1) steps)
  without-it seat lt its same =
      let c = count_by_more_no (λ y. belongs seats caches s seat y) steps k x inside (ap (λ y. belongs seats caches s seat y) here ∙ its) in
      let b = before seat lt in
      omega (arith, c, b, same)

  pub noted : (who : Option ℕ) → who ≡ owner_of seats caches s x →
      IfSome who (λ o. each' ≡ slice_set each o (slice_index each o + 1)) →
      IfSome who (λ o. all' ≡ all) →
      IfNone who (each' ≡ each) →
      IfNone who (all' ≡ all + 1) →
      (seat : ℕ) → seat < seats → slice_index each' seat + all' ≡ count_by (λ y. belongs seats caches s seat y) (take (k + 1) steps)
  noted who is some some_all none none_all seat lt = by (place_at s x) refl
    where
      owner : Option Place → Option ℕ
      owner o = option_map (λ at. controller caches (block_of x) at % seats) o

      its : Option Place → Bool
      its o = option_map_or (λ at. is_of seats seat (controller caches (block_of x) at)) o true

      by : (o : Option Place) → place_at s x ≡ o → slice_index each' seat + all' ≡ count_by (λ y. belongs seats caches s seat y) (take (k + 1) steps)
      by None e =
          let a : each' ≡ each = subst (λ o. IfNone o (each' ≡ each)) (is ∙ ap owner e) none in
          let b : all' ≡ all + 1 = subst (λ o. IfNone o (all' ≡ all + 1)) (is ∙ ap owner e) none_all in
          let c : slice_index each' seat ≡ slice_index each seat = ap (λ l. slice_index l seat) a in
          with-it seat lt (ap its e) (omega (arith, b, c))
      by (Some at) e =
          let o : ℕ = controller caches (block_of x) at % seats in
          let a : each' ≡ slice_set each o (slice_index each o + 1) =
          subst (λ p. IfSome p (λ o. each' ≡ slice_set each o (slice_index each o + 1))) (is ∙ ap owner e) some in
          let b : all' ≡ all = subst (λ p. IfSome p (λ o. all' ≡ all)) (is ∙ ap owner e) some_all in
          elim (cases_eq o seat) [
            | inl same ↦
                let lt' : o < length each = (let q = same in omega (arith, q, lt, long)) in
                let c : slice_index each' o ≡ slice_index each o + 1 =
                ap (λ l. slice_index l o) a ∙ get_or-set_same each o (slice_index each o + 1) 0 lt' in
                let d : slice_index each' seat ≡ slice_index each seat + 1 = subst (λ n. slice_index each' n ≡ slice_index each n + 1) same c in
                with-it seat lt (ap its e ∙ eq-eqb o seat same) (omega (arith, b, d))
            | inr other ↦
                let c : slice_index each' seat ≡ slice_index each seat =
                ap (λ l. slice_index l seat) a ∙ get_or-set_other each o seat (slice_index each o + 1) 0 (λ q. other (sym q)) in
                without-it seat lt (ap its e ∙ eqb-no o seat other) (omega (arith, b, c))
          ]

-- ---- the rows of one more seat are counted again

pub record IsCountedAgain (seats : ℕ) (world : View) (block : BlockId) (old now : List Rows) (seat : ℕ) : Type 0 where
  pub count : length now ≡ length old
  pub done : (j : ℕ) (rows : Rows) → j < seat → slice_get old j ≡ Some rows → slice_get now j ≡ Some (recounted seats world j block rows)
  pub rest : (j : ℕ) → seat ≤ j → slice_get now j ≡ slice_get old j

-- what is at a place of a list that is so long is something
pub get_some : (steps : List Step) (n k : ℕ) (o : Option Step) → n ≡ k → k < length steps → o ≡ slice_get steps n → IfSome o (λ x. slice_get steps k ≡ Some x)
get_some steps n k None e lt is = tt
get_some steps n k (Some x) e lt is = ap (slice_get steps) (sym e) ∙ sym is

pub get_none : (steps : List Step) (n k : ℕ) (o : Option Step) → n ≡ k → k < length steps → o ≡ slice_get steps n → IfNone o (steps ≡ [])
get_none steps n k None e lt is =
    let there = get-there steps k lt in
    let nothing : None ≡ slice_get steps k = is ∙ ap (slice_get steps) e in
    absurd (cc (nothing, there.1))
get_none steps n k (Some x) e lt is = tt

-- a word draws something of a list, and this is it
abbrev IsTaken : List Step → ℕ → Option Step → Type 0
IsTaken steps word found = (word % length steps < length steps) × (found ≡ slice_get steps (word % length steps))

-- what is left at the spot that a word falls at is the step that it draws
pub drawn_at : (seats : ℕ) (world : View) (seat word total from : ℕ) (shares : List Rows) (rows : Rows) (spot : Spot) (found : Option Step) →
    world.state.broken ≡ false → AreShared seats world shares → slice_get shares seat ≡ Some rows → total ≡ all_in rows → total ≢ 0 → from ≡ word →
    FallsAt rows (from % total) spot →
    found ≡ slice_get (filter (λ x. belongs seats world.shape.caches world.state seat x)
    (enabled_at_block world.tables spot.kind world.state (record { 0 = spot.block }))) spot.rest →
    IsTaken (ready_for seats world.shape.caches world.tables world.state seat) word found
drawn_at seats world seat word total from shares rows spot found going shared at is some same falls left =
    let ready : List Step = ready_for seats world.shape.caches world.tables world.state seat in
    let counted = shared.each seat rows at in
    let long : total ≡ length ready = is ∙ sym (ready-count seats world.shape.caches world.tables world.state seat rows going counted) in
    let few : 0 < length ready = (let l = long in let s = some in omega (arith, l, s)) in (
      (let f = few in omega (arith, f)),
      left ∙ sym (ready-get seats world.shape.caches world.tables world.state seat rows (from % total) spot going counted falls)
          ∙ ap (λ n. slice_get ready (n % total)) same ∙ ap (λ n. slice_get ready (word % n)) long,
    )
