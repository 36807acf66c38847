-- A pair that isn't few stays so whatever a home does, and its links keep a mark for each place.
use Rattle.std.proofs.Common.{◌≡◌, ◌∙◌, ℕ, ◌+◌, ◌<◌, Bool, true, false, List, [], ◌∷◌, ◌++◌, length}
use Rattle.std.proofs.Common.{length-append, drop, get_or, Option, Some, None, if◌then◌else◌, refl, ap, sym}
use Rattle.std.proofs.lemmas.List.{at_drop_more}
use Rattle.directory_table.specs.declared.actions.DirectoryAction.{DirectoryAction}
use Rattle.directory_table.specs.declared.actions.DirectoryAction.TheVariants as action
use Rattle.network.specs.declared.message.ForwardKind.{ForwardKind}
use Rattle.network.specs.declared.message.ForwardKind.TheVariants as forward
use Rattle.pairs.specs.declared.link.LinkPlace.{LinkPlace}
use Rattle.pairs.specs.declared.side.PairSide.{PairSide}
use Rattle.pairs.specs.declared.pair.Pair.{Pair}
use Rattle.pairs.specs.declared.steps.Party.{Party}
use Rattle.pairs.specs.declared.steps.Party.TheVariants.{Nobody, First, Second, Third}
use Rattle.pairs.specs.declared.steps.Scene.{Scene}
use Rattle.pairs.specs.Pairs.{is_few, is_few_side}
use Rattle.pairs.specs.Marking.{IsMarked}
use Rattle.pairs.specs.Sights.{announces, dir_data_sent, excl_data_sent, first_linked, forwarded, home_acted, home_acts}
use Rattle.pairs.specs.Sights.{invited, more_announced, more_invalidated, named, others_share, owner_added, owner_linked, second_linked}
use Rattle.pairs.specs.inner.Following.{few_scene}
use Rattle.pairs.proofs.Few.{false-from, few-dir_data, few-excl_data, few-fwd_gets, few-fwd_getm, few-link, few-first, few-second}

-- FEW

few-named : (owner : Party) (kind : ForwardKind) (s : PairSide) → is_few_side (named owner kind s) ≡ true → is_few_side s ≡ true
few-named Nobody kind s e = e
few-named owner forward.FwdGetS s e = few-fwd_gets s e
few-named owner forward.FwdGetM s e = few-fwd_getm s e
few-named owner other s e = e

few-first_linked : (kind : ForwardKind) (p : Pair) → is_few (first_linked kind p) ≡ true → is_few p ≡ true
few-first_linked kind p e =
    let x : LinkPlace = record { kind = kind; own = true } in
    few-first p (record p.first { link = p.first.link ++ x ∷ [] }) (few-link p.first x) e

few-second_linked : (kind : ForwardKind) (p : Pair) → is_few (second_linked kind p) ≡ true → is_few p ≡ true
few-second_linked kind p e =
    let x : LinkPlace = record { kind = kind; own = false } in
    few-second p (record p.second { link = p.second.link ++ x ∷ [] }) (few-link p.second x) e

few-owner_linked : (owner : Party) (kind : ForwardKind) (p : Pair) → is_few (owner_linked owner kind p) ≡ true → is_few p ≡ true
few-owner_linked Nobody kind p e = e
few-owner_linked First kind p e = few-first_linked kind p e
few-owner_linked Second kind p e = few-second_linked kind p e
few-owner_linked Third kind p e = e

few-forwarded : (kind : ForwardKind) (s : Scene) → is_few (forwarded kind s).pair ≡ true → is_few s.pair ≡ true
few-forwarded kind s e =
    let p : Pair = owner_linked s.owner kind s.pair in
    few-owner_linked s.owner kind s.pair (few-first p (named s.owner kind p.first) (few-named s.owner kind p.first) e)

few-if_second_linked : (b : Bool) (kind : ForwardKind) (p : Pair) → is_few (if b then second_linked kind p else p) ≡ true → is_few p ≡ true
few-if_second_linked true kind p e = few-second_linked kind p e
few-if_second_linked false kind p e = e

few-if_invited : (b : Bool) (s t : Scene) → (is_few t.pair ≡ true → is_few s.pair ≡ true) → is_few (if b then t else s).pair ≡ true → is_few s.pair ≡ true
few-if_invited true s t h e = h e
few-if_invited false s t h e = e

-- an Inv goes onto the link of each other sharer, where there is one
abbrev widely_invited : Scene → Scene
widely_invited s = record s {
  pair = (let p : Pair = if s.pair.second.shares then second_linked forward.Inv s.pair else s.pair in record p { first = record p.first { owed = true } });
  debt = more_invalidated s.pair.first.owed s.debt;
}

few-invited : (s : Scene) → is_few (invited s).pair ≡ true → is_few s.pair ≡ true
few-invited s e = few-if_invited (others_share s) s (widely_invited s) (few-if_second_linked s.pair.second.shares forward.Inv s.pair) e

few-announces : (s : Scene) → is_few (announces s).pair ≡ true → is_few s.pair ≡ true
few-announces s e = few-if_invited (others_share s) s (record s { debt = more_announced s.debt }) (λ few. few) e

few-owner_added : (owner : Party) (s : Scene) → is_few (owner_added owner s).pair ≡ true → is_few s.pair ≡ true
few-owner_added Nobody s e = e
few-owner_added First s e = e
few-owner_added Second s e = e
few-owner_added Third s e = e

-- an action of a home takes nothing away
pub few-home_acted : (asked : Bool) (value : Option Bool) (a : DirectoryAction) (s : Scene) →
    is_few (home_acted asked value a s).pair ≡ true → is_few s.pair ≡ true
few-home_acted true value action.DataReq s e = few-first s.pair (dir_data_sent s.pair.shared.fresh_memory s.pair.first) (few-dir_data s.pair.first) e
few-home_acted true value action.DataAcks s e =
    let first : PairSide = dir_data_sent s.pair.shared.fresh_memory s.pair.first in
    few-first s.pair first (few-dir_data s.pair.first) (few-announces (record s { pair = record s.pair { first = first } }) e)
few-home_acted true value action.DataExcl s e = few-first s.pair (excl_data_sent s.pair.shared.fresh_memory s.pair.first) (few-excl_data s.pair.first) e
few-home_acted true value action.InvSharers s e = few-invited s e
few-home_acted true value action.FwdGetS s e = few-forwarded forward.FwdGetS s e
few-home_acted true value action.FwdGetM s e = few-forwarded forward.FwdGetM s e
few-home_acted true value action.PutAck s e = few-first_linked forward.PutAck s.pair e
few-home_acted true value action.AddReq s e = e
few-home_acted true value action.RemoveReq s e = e
few-home_acted true value action.SetOwner s e = e
few-home_acted asked value action.AddOwner s e = few-owner_added s.owner s e
few-home_acted asked value action.ClearSharers s e = e
few-home_acted asked value action.ClearOwner s e = e
few-home_acted asked (Some fresh) action.CopyData s e = e
few-home_acted asked value other s e = e

few-home_acts : (asked : Bool) (value : Option Bool) (actions : List DirectoryAction) (s : Scene) →
    is_few (home_acts asked value actions s).pair ≡ true → is_few s.pair ≡ true
few-home_acts asked value [] s e = e
few-home_acts asked value (a ∷ actions) s e = few-home_acted asked value a s (few-home_acts asked value actions (home_acted asked value a s) e)

-- one action more is done
pub home_acts-drop : (asked : Bool) (value : Option Bool) (actions : List DirectoryAction) (i : ℕ) (d : DirectoryAction) (s t : Scene) → i < length actions →
    t ≡ home_acted asked value (get_or actions i d) s → home_acts asked value (drop i actions) s ≡ home_acts asked value (drop (i + 1) actions) t
home_acts-drop asked value actions i d s t more e =
    at_drop_more (λ (left : List DirectoryAction). home_acts asked value left s) actions i d more
    ∙ ap (λ (r : Scene). home_acts asked value (drop (i + 1) actions) r) (sym e)

-- so a scene may be given up before the actions are all done
pub few_scene-home_acts : (asked : Bool) (value : Option Bool) (actions : List DirectoryAction) (s : Scene) → is_few s.pair ≡ false →
    few_scene (home_acts asked value actions s) ≡ None
few_scene-home_acts asked value actions s e =
    let t : Scene = home_acts asked value actions s in
    let lost : is_few t.pair ≡ false = false-from (is_few t.pair) (is_few s.pair) (few-home_acts asked value actions s) e in
    rw lost refl

-- MARKED

length-more : {A : Type 0} {B : Type 0} (xs : List A) (x : A) (ys : List B) (y : B) → length xs ≡ length ys → length (xs ++ x ∷ []) ≡ length (ys ++ y ∷ [])
length-more xs x ys y e = length-append xs (x ∷ []) ∙ ap (λ n. n + 1) e ∙ sym (length-append ys (y ∷ []))

marked-first_linked : (kind : ForwardKind) (p : Pair) → IsMarked p → IsMarked (first_linked kind p)
marked-first_linked kind p h = record {
  first = length-more p.first_names false p.first.link (record { kind = kind; own = true }) h.first;
  second = h.second;
}

marked-second_linked : (kind : ForwardKind) (p : Pair) → IsMarked p → IsMarked (second_linked kind p)
marked-second_linked kind p h = record {
  first = h.first;
  second = length-more p.second_names true p.second.link (record { kind = kind; own = false }) h.second;
}

marked-owner_linked : (owner : Party) (kind : ForwardKind) (p : Pair) → IsMarked p → IsMarked (owner_linked owner kind p)
marked-owner_linked Nobody kind p h = h
marked-owner_linked First kind p h = marked-first_linked kind p h
marked-owner_linked Second kind p h = marked-second_linked kind p h
marked-owner_linked Third kind p h = h

link-named : (owner : Party) (kind : ForwardKind) (s : PairSide) → (named owner kind s).link ≡ s.link
link-named Nobody kind s = refl
link-named owner forward.FwdGetS s = refl
link-named owner forward.FwdGetM s = refl
link-named owner other s = refl

-- a change of the first cache that leaves its link alone
marked-first : (p : Pair) (s : PairSide) → s.link ≡ p.first.link → IsMarked p → IsMarked (record p { first = s })
marked-first p s e h = record { first = h.first ∙ ap length (sym e); second = h.second }

marked-forwarded : (kind : ForwardKind) (s : Scene) → IsMarked s.pair → IsMarked (forwarded kind s).pair
marked-forwarded kind s h =
    let p : Pair = owner_linked s.owner kind s.pair in
    marked-first p (named s.owner kind p.first) (link-named s.owner kind p.first) (marked-owner_linked s.owner kind s.pair h)

marked-if_second_linked : (b : Bool) (kind : ForwardKind) (p : Pair) → IsMarked p → IsMarked (if b then second_linked kind p else p)
marked-if_second_linked true kind p h = marked-second_linked kind p h
marked-if_second_linked false kind p h = h

marked-if : (b : Bool) (s t : Scene) → IsMarked t.pair → IsMarked s.pair → IsMarked (if b then t else s).pair
marked-if true s t h k = h
marked-if false s t h k = k

marked-owed : (p : Pair) → IsMarked p → IsMarked (record p { first = record p.first { owed = true } })
marked-owed p h = record { first = h.first; second = h.second }

marked-invited : (s : Scene) → IsMarked s.pair → IsMarked (invited s).pair
marked-invited s h =
    marked-if (others_share s) s (widely_invited s)
    (marked-owed (if s.pair.second.shares then second_linked forward.Inv s.pair else s.pair)
    (marked-if_second_linked s.pair.second.shares forward.Inv s.pair h)) h

marked-announces : (s : Scene) → IsMarked s.pair → IsMarked (announces s).pair
marked-announces s h = marked-if (others_share s) s (record s { debt = more_announced s.debt }) h h

marked-owner_added : (owner : Party) (s : Scene) → IsMarked s.pair → IsMarked (owner_added owner s).pair
marked-owner_added Nobody s h = h
marked-owner_added First s h = record { first = h.first; second = h.second }
marked-owner_added Second s h = record { first = h.first; second = h.second }
marked-owner_added Third s h = h

pub marked-home_acted : (asked : Bool) (value : Option Bool) (a : DirectoryAction) (s : Scene) → IsMarked s.pair → IsMarked (home_acted asked value a s).pair
marked-home_acted true value action.DataReq s h = record { first = h.first; second = h.second }
marked-home_acted true value action.DataAcks s h =
    marked-announces (record s { pair = record s.pair { first = dir_data_sent s.pair.shared.fresh_memory s.pair.first } })
    (record { first = h.first; second = h.second })
marked-home_acted true value action.DataExcl s h = record { first = h.first; second = h.second }
marked-home_acted true value action.InvSharers s h = marked-invited s h
marked-home_acted true value action.FwdGetS s h = marked-forwarded forward.FwdGetS s h
marked-home_acted true value action.FwdGetM s h = marked-forwarded forward.FwdGetM s h
marked-home_acted true value action.PutAck s h = marked-first_linked forward.PutAck s.pair h
marked-home_acted true value action.AddReq s h = record { first = h.first; second = h.second }
marked-home_acted true value action.RemoveReq s h = record { first = h.first; second = h.second }
marked-home_acted true value action.SetOwner s h = h
marked-home_acted asked value action.AddOwner s h = marked-owner_added s.owner s h
marked-home_acted asked value action.ClearSharers s h = record { first = h.first; second = h.second }
marked-home_acted asked value action.ClearOwner s h = h
marked-home_acted asked (Some fresh) action.CopyData s h = record { first = h.first; second = h.second }
marked-home_acted asked value other s h = h
