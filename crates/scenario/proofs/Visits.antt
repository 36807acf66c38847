-- The first fault of what is visited is the one that the walk comes to.
use Rattle.std.proofs.Common.{◌≡◌, ◌++◌, ◌∙◌, ℕ, zero, suc, List, [], ◌∷◌, Bool, true, false}
use Rattle.std.proofs.Common.{if◌then◌else◌, Option, Some, None, Result, Ok, Err, refl, sym, ap, subst}
use Rattle.serde_json.specs.Data.{Data, Items, no_items, item}
use Rattle.base.specs.declared.step.CoreAsk.{CoreAsk}
use Rattle.base.specs.Extent.{Extent}
use Rattle.scenario.specs.Tree.{Tree, One, Times}
use Rattle.scenario.specs.Nodes.{Node, one, seq, any, times, both, node_of, or_else}
use Rattle.scenario.specs.Refusals.{node_children, fault_of, fault_at, is_in_shape, Visit, visited, visited_in, first_some}
use Rattle.scenario.specs.inner.Walk.{tree_at, tree_of, trees_behind, over}
use Rattle.scenario.specs.declared.reading.ScenarioFault.{ScenarioFault}
use Rattle.scenario.specs.declared.reading.ScenarioFault.TheVariants.{BadShape, OutOfShape}

-- a result has this fault, or none
abbrev pub HasFault : {X : Type 0} → Result X ScenarioFault → Option ScenarioFault → Type 0
HasFault (Ok x) found = found ≡ None
HasFault (Err fault) found = found ≡ Some fault

-- what is told of each visit
abbrev pub Tells : Type 0
Tells = Visit → Option ScenarioFault

or_else-assoc : {X : Type 0} (a b c : Option X) → or_else (or_else a b) c ≡ or_else a (or_else b c)
or_else-assoc None b c = refl
or_else-assoc (Some x) b c = refl

or_else-none : {X : Type 0} (a : Option X) → or_else a None ≡ a
or_else-none None = refl
or_else-none (Some x) = refl

pub first_some-append : (f : Tells) (xs ys : List Visit) → first_some f (xs ++ ys) ≡ or_else (first_some f xs) (first_some f ys)
first_some-append f [] ys = refl
first_some-append f (x ∷ xs) ys =
    ap (or_else (f x)) (first_some-append f xs ys) ∙ sym (or_else-assoc (f x) (first_some f xs) (first_some f ys))

then_next : {X Y : Type 0} (r : Result X ScenarioFault) (found later : Option ScenarioFault) (next : X → Result Y ScenarioFault) → HasFault r found
    → ((x : X) → HasFault (next x) later)
    → HasFault (elim r [ Ok x ↦ next x | Err fault ↦ Err fault ]) (or_else found later)
then_next (Ok x) found later next a b = subst (λ o. HasFault (next x) (or_else o later)) (sym a) (b x)
then_next (Err fault) found later next a b = ap (λ o. or_else o later) a

over-fault : {X : Type 0} (make : X → Tree) (r : Result X ScenarioFault) (found : Option ScenarioFault) → HasFault r found → HasFault (over make r) found
over-fault make (Ok x) found a = a
over-fault make (Err fault) found a = a

behind-fault : (f : Tells) (tree : Data → Result Tree ScenarioFault) (visits : Data → List Visit)
    → ((d : Data) → HasFault (tree d) (first_some f (visits d)))
    → (before : List Tree) (ds : Items) → HasFault (trees_behind tree before ds) (first_some f (visited_in visits ds))
behind-fault f tree visits each before no_items = refl
behind-fault f tree visits each before (item d ds) =
    subst (HasFault (trees_behind tree before (item d ds))) (sym (first_some-append f (visits d) (visited_in visits ds)))
    (then_next (tree d) (first_some f (visits d)) (first_some f (visited_in visits ds)) (λ t. trees_behind tree (before ++ t ∷ []) ds) (each d)
    (λ t. behind-fault f tree visits each (before ++ t ∷ []) ds))

ask-fault : (b : Bool) (ask : CoreAsk) → HasFault (if b then Ok (One ask) else Err OutOfShape) (or_else (if b then None else Some OutOfShape) None)
ask-fault true ask = refl
ask-fault false ask = refl

-- the fault of a form, and else that of what is under it
level-fault : (shape : Extent) (f : Tells) (tree : Data → Result Tree ScenarioFault) (visits : Data → List Visit)
    → ((d : Data) → HasFault (tree d) (first_some f (visits d)))
    → (o : Option Node) → HasFault (tree_of shape tree o)
    (or_else (elim o [ None ↦ Some BadShape | Some node ↦ fault_of shape node ])
    (first_some f (visited_in visits (elim o [ None ↦ no_items | Some node ↦ node_children node ]))))
level-fault shape f tree visits each None = refl
level-fault shape f tree visits each (Some (one ask)) = ask-fault (is_in_shape shape ask) ask
level-fault shape f tree visits each (Some (seq ds)) = over-fault _ (trees_behind tree [] ds) _ (behind-fault f tree visits each [] ds)
level-fault shape f tree visits each (Some (any no_items)) = refl
level-fault shape f tree visits each (Some (any (item d ds))) =
    over-fault _ (trees_behind tree [] (item d ds)) _ (behind-fault f tree visits each [] (item d ds))
level-fault shape f tree visits each (Some (times n d)) =
    over-fault (Times n) (tree d) _
    (subst (HasFault (tree d)) (sym (first_some-append f (visits d) [] ∙ or_else-none (first_some f (visits d)))) (each d))
level-fault shape f tree visits each (Some (both ds)) = over-fault _ (trees_behind tree [] ds) _ (behind-fault f tree visits each [] ds)

-- the walk ends at the first fault of what is visited
pub walk-fault : (shape : Extent) (levels : ℕ) (d : Data)
    → HasFault (tree_at shape levels d) (first_some (λ visit. fault_at shape visit.0 visit.1) (visited levels d))
walk-fault shape zero d = refl
walk-fault shape (suc levels) d =
    level-fault shape (λ visit. fault_at shape visit.0 visit.1) (tree_at shape levels) (visited levels) (walk-fault shape levels) (node_of d)
