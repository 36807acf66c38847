-- What alike trees have in common.
use Rattle.std.proofs.Common.{◌≡◌, ℕ, ◌<◌, Bool, if◌then◌else◌, List, [], ◌∷◌, length}
use Rattle.std.proofs.Common.{Option, Some, None, option_map, slice_get, sym, ap, ◌∙◌, subst}
use Rattle.base.specs.declared.step.CoreAsk.{CoreAsk}
use Rattle.scenario.specs.Tree.{Tree}
use Rattle.scenario.specs.Taking.{ends, offers, left}
use Rattle.scenario.specs.Alike.{Alike, SeenTree, followed, seen}
use Rattle.scenario.specs.Words.{IsWord}
use Rattle.scenario.proofs.Places.{is_below}
use Rattle.scenario.proofs.Reached.{offer_below, ask-in, ask-out, nothing-in, nothing-out}

same_seen : (a b : SeenTree) → Some a ≡ Some b → a ≡ b
same_seen a b e = cc e

pub alike-offers : (s t : Tree) → Alike s t → offers s ≡ offers t
alike-offers s t alike = ap (λ (a : SeenTree). a.offers) (same_seen (seen s) (seen t) (alike []))

pub alike-ends : (s t : Tree) → Alike s t → ends s ≡ ends t
alike-ends s t alike = ap (λ (a : SeenTree). a.ends) (same_seen (seen s) (seen t) (alike []))

abbrev pub follow_if : Bool → Tree → List ℕ → Option Tree
follow_if b t path = if b then followed t path else None

pub alike-left : (s t : Tree) (i : ℕ) → Alike s t → i < length (offers s) → Alike (left s i) (left t i)
alike-left s t i alike h path =
    let one = is_below i (length (offers s)) h in
    let other = is_below i (length (offers t)) (subst (λ os. i < length os) (alike-offers s t alike) h) in
    sym (ap (λ b. option_map seen (follow_if b (left s i) path)) one)
    ∙ (alike (i ∷ path) ∙ ap (λ b. option_map seen (follow_if b (left t i) path)) other)

pub alike-words : (word : List CoreAsk) (s t : Tree) → Alike s t → IsWord s word → IsWord t word
alike-words [] s t alike w = nothing-in t (sym (alike-ends s t alike) ∙ nothing-out s w)
alike-words (ask ∷ word) s t alike w =
    let there = ask-out s ask word w in
    let h = offer_below (offers s) there.0 ask there.1 in
    ask-in t there.0 ask word (ap (λ os. slice_get os there.0) (sym (alike-offers s t alike)) ∙ there.1)
    (alike-words word (left s there.0) (left t there.0) (alike-left s t there.0 alike h) there.2)
