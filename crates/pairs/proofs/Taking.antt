-- A pair that is few and marked is so too where something was taken from its way.
use Rattle.std.proofs.Common.{◌≡◌, ◌∙◌, ◌-◌, ◌≤◌, Bool, true, List, length, Some, refl, ap, sym, arith}
use Rattle.std.proofs.lemmas.Bool.Decides.{nat_tests}
use Rattle.network.specs.declared.message.ForwardKind.{ForwardKind}
use Rattle.network.specs.declared.message.ForwardKind.TheVariants.{FwdGetS, FwdGetM, Inv, PutAck}
use Rattle.pairs.specs.declared.link.LinkPlace.{LinkPlace}
use Rattle.pairs.specs.declared.side.PairSide.{PairSide}
use Rattle.pairs.specs.declared.pair.Pair.{Pair}
use Rattle.pairs.specs.declared.steps.Party.{Party}
use Rattle.pairs.specs.declared.steps.Party.TheVariants.{Nobody, First, Second, Third}
use Rattle.pairs.specs.Pairs.{is_few, is_few_side}
use Rattle.pairs.specs.Marking.{IsMarked}
use Rattle.pairs.specs.Sights.{headless, unnamed, unnamed_side}
use Rattle.pairs.specs.inner.Short.{behind, head_of}
use Rattle.pairs.proofs.Few.{few-first, few-second}
use Rattle.pairs.proofs.Parting.{length-behind}

-- a pair is few with another side that is few
pub few-with_first : (p : Pair) (s : PairSide) → (is_few_side p.first ≡ true → is_few_side s ≡ true) → is_few p ≡ true → is_few (record p { first = s }) ≡ true
few-with_first p s h e = few-first (record p { first = s }) p.first h e

few-with_second : (p : Pair) (s : PairSide) → (is_few_side p.second ≡ true → is_few_side s ≡ true) → is_few p ≡ true → is_few (record p { second = s }) ≡ true
few-with_second p s h e = few-second (record p { second = s }) p.second h e

few-shorter : (s : PairSide) (xs : List LinkPlace) → length xs ≤ length s.link → is_few_side s ≡ true → is_few_side (record s { link = xs }) ≡ true
few-shorter s xs shorter e = grind (arith, nat_tests)

pub few-less_dir_data : (s : PairSide) → is_few_side s ≡ true → is_few_side (record s { dir_data = s.dir_data - 1 }) ≡ true
few-less_dir_data s e = grind (arith, nat_tests)

pub few-less_owner_data : (s : PairSide) → is_few_side s ≡ true → is_few_side (record s { owner_data = s.owner_data - 1 }) ≡ true
few-less_owner_data s e = grind (arith, nat_tests)

pub few-less_excl_data : (s : PairSide) → is_few_side s ≡ true → is_few_side (record s { excl_data = s.excl_data - 1 }) ≡ true
few-less_excl_data s e = grind (arith, nat_tests)

few-less_fwd_gets : (s : PairSide) → is_few_side s ≡ true → is_few_side (record s { fwd_gets = s.fwd_gets - 1 }) ≡ true
few-less_fwd_gets s e = grind (arith, nat_tests)

few-less_fwd_getm : (s : PairSide) → is_few_side s ≡ true → is_few_side (record s { fwd_getm = s.fwd_getm - 1 }) ≡ true
few-less_fwd_getm s e = grind (arith, nat_tests)

few-unnamed_side : (kind : ForwardKind) (s : PairSide) → is_few_side s ≡ true → is_few_side (unnamed_side kind s) ≡ true
few-unnamed_side FwdGetS s e = few-less_fwd_gets s e
few-unnamed_side FwdGetM s e = few-less_fwd_getm s e
few-unnamed_side Inv s e = e
few-unnamed_side PutAck s e = e

few-unnamed : (to : Party) (kind : ForwardKind) (p : Pair) → is_few p ≡ true → is_few (unnamed to kind p) ≡ true
few-unnamed First kind p e = few-with_first p (unnamed_side kind p.first) (few-unnamed_side kind p.first) e
few-unnamed Second kind p e = few-with_second p (unnamed_side kind p.second) (few-unnamed_side kind p.second) e
few-unnamed Nobody kind p e = e
few-unnamed Third kind p e = e

-- the head was taken
pub few-headless : (to : Party) (kind : ForwardKind) (p : Pair) (x : LinkPlace) (xs : List LinkPlace) (marks : List Bool) →
    Some x ≡ head_of p.first.link → xs ≡ behind p.first.link → is_few p ≡ true → is_few (unnamed to kind (headless xs marks p)) ≡ true
few-headless to kind p x xs marks head rest few =
    let shorter : length xs ≤ length p.first.link = omega (arith, length-behind p.first.link x head, ap length rest) in
    few-unnamed to kind (headless xs marks p) (few-with_first p (record p.first { link = xs }) (few-shorter p.first xs shorter) few)

link-unnamed_side : (kind : ForwardKind) (s : PairSide) → (unnamed_side kind s).link ≡ s.link
link-unnamed_side FwdGetS s = refl
link-unnamed_side FwdGetM s = refl
link-unnamed_side Inv s = refl
link-unnamed_side PutAck s = refl

marked-unnamed : (to : Party) (kind : ForwardKind) (p : Pair) → IsMarked p → IsMarked (unnamed to kind p)
marked-unnamed First kind p h = record { first = h.first ∙ ap length (sym (link-unnamed_side kind p.first)); second = h.second }
marked-unnamed Second kind p h = record { first = h.first; second = h.second ∙ ap length (sym (link-unnamed_side kind p.second)) }
marked-unnamed Nobody kind p h = h
marked-unnamed Third kind p h = h

pub marked-headless : (to : Party) (kind : ForwardKind) (p : Pair) (x : LinkPlace) (xs : List LinkPlace) (mark : Bool) (marks : List Bool) →
    Some x ≡ head_of p.first.link → xs ≡ behind p.first.link → Some mark ≡ head_of p.first_names → marks ≡ behind p.first_names → IsMarked p →
    IsMarked (unnamed to kind (headless xs marks p))
marked-headless to kind p x xs mark marks head rest first later h =
    let same : length marks ≡ length xs = omega (
      arith,
      length-behind p.first.link x head,
      length-behind p.first_names mark first,
      ap length rest,
      ap length later,
      h.first,
    ) in
    marked-unnamed to kind (headless xs marks p) (record { first = same; second = h.second })
