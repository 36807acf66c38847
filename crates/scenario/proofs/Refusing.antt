-- What the first fault of a text says of the texts that are read.
use Rattle.std.proofs.Common.{◌≡◌, ◌≢◌, ◌≤◌, ◌<◌, ◌∙◌, ◌⊎◌, ◌&&◌, inl, inr, ℕ, zero, suc, List, true}
use Rattle.std.proofs.Common.{nat_lt, Option, Some, None, Result, Ok, Err, IfOk, IfErr, refl, sym, ap, arith}
use Rattle.serde_json.specs.Data.{Data, Items, no_items, item}
use Rattle.base.specs.Extent.{Extent}
use Rattle.scenario.specs.Tree.{Tree, Trees, One, Seq, Any, Times, Both, Nil, Cons}
use Rattle.scenario.specs.Limits.{depth, deepest, longest, Throughout, InEach, HasChoice, IsInShape, IsWithin}
use Rattle.scenario.specs.Nodes.{Node, any, or_else}
use Rattle.scenario.specs.Says.{IsJson, IsTextOf, Says, SayEach}
use Rattle.scenario.specs.Refusals.{Visit, visited, visited_in, first_some, fault_of, fault_at, node_children, first_fault, IsRefusal}
use Rattle.scenario.specs.inner.Walk.{tree_at}
use Rattle.scenario.specs.declared.reading.ScenarioFault.{ScenarioFault}
use Rattle.scenario.specs.declared.reading.ScenarioFault.TheVariants.{NotJson, BadShape, EmptyAny, TooDeep, TooLong, OutOfShape, NoMemory}
use Rattle.scenario.proofs.Visits.{HasFault, Tells, first_some-append}
use Rattle.scenario.proofs.Answering.{fault-of, built-of}
use Rattle.scenario.proofs.Distinct.{json-one, text-one, some-level}

-- the fault of a node that may be missing, and else the first one of what is under it
abbrev found_at : Extent → Tells → (Data → List Visit) → Option Node → Option ScenarioFault
found_at shape f visits o = or_else (elim o [ None ↦ Some BadShape | Some node ↦ fault_of shape node ])
    (first_some f (visited_in visits (elim o [ None ↦ no_items | Some node ↦ node_children node ])))

is-in : (a b c d : ℕ) → a < b → c < d → (nat_lt a b && nat_lt c d) ≡ true
is-in a b c d x y = grind (arith)

-- no fault is found of this tree, where so many levels are left for it
abbrev IsFaultless : Extent → Tells → ℕ → Data → Tree → Type 0
IsFaultless shape f levels d t = depth t ≤ levels → Throughout HasChoice t → Throughout (IsInShape shape) t → Says d t
    → first_some f (visited levels d) ≡ None

none-each : (shape : Extent) (f : Tells) (levels : ℕ) → ((d : Data) (t : Tree) → IsFaultless shape f levels d t) → (ds : Items) (ts : Trees)
    → deepest ts ≤ levels → InEach HasChoice ts → InEach (IsInShape shape) ts → SayEach ds ts
    → first_some f (visited_in (visited levels) ds) ≡ None
none-each shape f levels none no_items Nil low choices asks say = refl
none-each shape f levels none no_items (Cons t ts) low choices asks say = absurd say
none-each shape f levels none (item d ds) Nil low choices asks say = absurd say
none-each shape f levels none (item d ds) (Cons t ts) low choices asks say =
    first_some-append f (visited levels d) (visited_in (visited levels) ds)
    ∙ rw (none d t (omega (arith, low)) choices.0 asks.0 say.0) (none-each shape f levels none ds ts (omega (arith, low)) choices.1 asks.1 say.1)

none-choice : (shape : Extent) (f : Tells) (levels : ℕ) (ds : Items) (t : Tree) (ts : Trees) → SayEach ds (Cons t ts)
    → first_some f (visited_in (visited levels) ds) ≡ None → found_at shape f (visited levels) (Some (any ds)) ≡ None
none-choice shape f levels no_items t ts say none = absurd say
none-choice shape f levels (item d ds) t ts say none = none

none-at : (shape : Extent) (levels : ℕ) (d : Data) (t : Tree) → IsFaultless shape (λ visit. fault_at shape visit.0 visit.1) levels d t
none-at shape zero d t low choices asks say = absurd (some-level t low)
none-at shape (suc levels) d (One ask) low choices asks say =
    ap (found_at shape (λ visit. fault_at shape visit.0 visit.1) (visited levels)) say
    ∙ rw (is-in ask.core.0 shape.caches ask.block.0 shape.blocks asks.0 asks.1) refl
none-at shape (suc levels) d (Seq ts) low choices asks say =
    ap (found_at shape (λ visit. fault_at shape visit.0 visit.1) (visited levels)) say.1
    ∙ none-each shape _ levels (none-at shape levels) say.0 ts (omega (arith, low)) choices.1 asks.1 say.2
none-at shape (suc levels) d (Any Nil) low choices asks say = absurd choices.0
none-at shape (suc levels) d (Any (Cons t ts)) low choices asks say =
    ap (found_at shape (λ visit. fault_at shape visit.0 visit.1) (visited levels)) say.1
    ∙ none-choice shape _ levels say.0 t ts say.2
    (none-each shape _ levels (none-at shape levels) say.0 (Cons t ts) (omega (arith, low)) choices.1 asks.1 say.2)
none-at shape (suc levels) d (Times n t) low choices asks say =
    ap (found_at shape (λ visit. fault_at shape visit.0 visit.1) (visited levels)) say.1
    ∙ none-each shape _ levels (none-at shape levels) (item say.0 no_items) (Cons t Nil) (omega (arith, low)) (choices.1, tt) (asks.1, tt) (say.2, tt)
none-at shape (suc levels) d (Both ts) low choices asks say =
    ap (found_at shape (λ visit. fault_at shape visit.0 visit.1) (visited levels)) say.1
    ∙ none-each shape _ levels (none-at shape levels) say.0 ts (omega (arith, low)) choices.1 asks.1 say.2

-- a tree within the limits has no first fault
pub none-within : (shape : Extent) (d : Data) (t : Tree) → IsWithin shape t → Says d t → first_fault shape d ≡ None
unfolding first_fault
none-within shape d t w say = none-at shape 48 d t w.shallow w.choices w.asks say

built-some : (shape : Extent) (d : Data) (r : Result Tree ScenarioFault) → tree_at shape 48 d ≡ r → HasFault r (first_fault shape d)
    → first_fault shape d ≡ None → (t : Tree) × Says d t
built-some shape d (Ok t) is fault none = (t, (built-of shape d t is).0)
built-some shape d (Err f) is fault none = absurd (cc)

-- what has no first fault says a tree
pub tree-of-none : (shape : Extent) (d : Data) → first_fault shape d ≡ None → (t : Tree) × Says d t
tree-of-none shape d none = built-some shape d (tree_at shape 48 d) refl (fault-of shape d (tree_at shape 48 d) refl) none

-- what a refusal says of the first fault
first_of : ScenarioFault → Option ScenarioFault
first_of TooLong = None
first_of NotJson = Some NotJson
first_of BadShape = Some BadShape
first_of EmptyAny = Some EmptyAny
first_of TooDeep = Some TooDeep
first_of OutOfShape = Some OutOfShape
first_of NoMemory = Some NoMemory

refusal_of : Option ScenarioFault → ScenarioFault
refusal_of None = TooLong
refusal_of (Some fault) = fault

refusal-first : (fault : ScenarioFault) → refusal_of (first_of fault) ≡ fault
unfolding first_of refusal_of
refusal-first TooLong = refl
refusal-first NotJson = refl
refusal-first BadShape = refl
refusal-first EmptyAny = refl
refusal-first TooDeep = refl
refusal-first OutOfShape = refl
refusal-first NoMemory = refl

abbrev HasFirst : Extent → List ℕ → ScenarioFault → Type 0
HasFirst shape bytes fault = (d : Data) × IsJson bytes d × (first_fault shape d ≡ first_of fault)

-- a refusal is for no JSON, or for the first fault of what the bytes say
refusal : (shape : Extent) (bytes : List ℕ) (fault : ScenarioFault) → IsRefusal shape bytes fault → fault ≢ NoMemory
    → ((fault ≡ NotJson) × ((d : Data) → ¬ IsJson bytes d)) ⊎ HasFirst shape bytes fault
unfolding first_of
refusal shape bytes NotJson r some = inl (refl, r)
refusal shape bytes BadShape r some = inr r
refusal shape bytes EmptyAny r some = inr r
refusal shape bytes TooDeep r some = inr r
refusal shape bytes TooLong r some = inr (r.0, r.2, r.4)
refusal shape bytes OutOfShape r some = inr r
refusal shape bytes NoMemory r some = absurd (some refl)

abbrev IsCause : Extent → List ℕ → ScenarioFault → Type 0
IsCause shape bytes fault = ((fault ≡ NotJson) × ((d : Data) → ¬ IsJson bytes d)) ⊎ HasFirst shape bytes fault

same-cause : (shape : Extent) (bytes : List ℕ) (one other : ScenarioFault) → IsCause shape bytes one → IsCause shape bytes other → one ≡ other
same-cause shape bytes one other (inl a) (inl b) = a.0 ∙ sym b.0
same-cause shape bytes one other (inl a) (inr b) = absurd (a.1 b.0 b.1)
same-cause shape bytes one other (inr a) (inl b) = absurd (b.1 a.0 a.1)
same-cause shape bytes one other (inr a) (inr b) =
    let first : first_fault shape a.0 ≡ first_fault shape b.0 = ap (first_fault shape) (json-one bytes a.0 b.0 a.1 b.1) in
    sym (refusal-first one) ∙ ap refusal_of (sym a.2 ∙ first ∙ b.2) ∙ refusal-first other

pub refusal-one : (shape : Extent) (bytes : List ℕ) (one other : ScenarioFault) → IsRefusal shape bytes one → IsRefusal shape bytes other
    → one ≢ NoMemory → other ≢ NoMemory → one ≡ other
refusal-one shape bytes one other a b x y = same-cause shape bytes one other (refusal shape bytes one a x) (refusal shape bytes other b y)

-- the text of a tree within the limits has no fault that a value may have
other-fault : (shape : Extent) (bytes : List ℕ) (t : Tree) (fault : ScenarioFault) → IsWithin shape t → IsTextOf bytes t
    → (d : Data) × IsJson bytes d × (first_fault shape d ≡ Some fault) → ⊥
other-fault shape bytes t fault w text r =
    let none = none-within shape text.0 t w text.2 in
    let same : first_fault shape text.0 ≡ first_fault shape r.0 = ap (first_fault shape) (json-one bytes text.0 r.0 text.1 r.1) in
    let some : first_fault shape r.0 ≡ Some fault = r.2 in
    cc

-- the text of a tree within the limits is refused only for want of memory
pub refused-within : (shape : Extent) (bytes : List ℕ) (t : Tree) (fault : ScenarioFault) → IsWithin shape t → IsTextOf bytes t
    → IsRefusal shape bytes fault → fault ≡ NoMemory
refused-within shape bytes t NotJson w text r = absurd (r text.0 text.1)
refused-within shape bytes t BadShape w text r = absurd (other-fault shape bytes t BadShape w text r)
refused-within shape bytes t EmptyAny w text r = absurd (other-fault shape bytes t EmptyAny w text r)
refused-within shape bytes t TooDeep w text r = absurd (other-fault shape bytes t TooDeep w text r)
refused-within shape bytes t TooLong w text r =
    let same : longest t ≡ longest r.1 = ap longest (text-one bytes t r.1 text (r.0, r.2, r.3)) in
    absurd (omega (arith, same, w.short, r.5))
refused-within shape bytes t OutOfShape w text r = absurd (other-fault shape bytes t OutOfShape w text r)
refused-within shape bytes t NoMemory w text r = refl

-- what meets the contract of reading, of the text of a tree within the limits
pub answer-within : (shape : Extent) (bytes : List ℕ) (t : Tree) (answer : Result Tree ScenarioFault) → IsWithin shape t → IsTextOf bytes t
    → IfOk answer (IsTextOf bytes) → IfErr answer (IsRefusal shape bytes) → (answer ≡ Ok t) ⊎ (answer ≡ Err NoMemory)
answer-within shape bytes t (Ok u) w text ok err = inl (ap Ok (text-one bytes u t ok text))
answer-within shape bytes t (Err fault) w text ok err = inr (ap Err (refused-within shape bytes t fault w text err))
