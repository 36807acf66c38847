-- What the walk over a value that was read text-of of the answer.
use Rattle.std.proofs.Common.{◌≡◌, ◌≤◌, ◌<◌, ℕ, zero, suc, Bool, true, false, if◌then◌else◌}
use Rattle.std.proofs.Common.{List, [], ◌∷◌, Option, Some, None, Result, Ok, Err, subst}
use Rattle.std.specs.Prelude.{⊤}
use Rattle.serde_json.specs.Data.{Data, no_items, item}
use Rattle.base.specs.Extent.{Extent}
use Rattle.scenario.specs.Tree.{Tree}
use Rattle.scenario.specs.Says.{IsJson, IsTextOf}
use Rattle.scenario.specs.Limits.{FitsTypes, IsWithin, Throughout, longest}
use Rattle.scenario.specs.Nodes.{Node, one, seq, any, times, both, node_of, or_else}
use Rattle.scenario.specs.Refusals.{fault_of, fault_at, is_in_shape, Visit, visited, first_some, first_fault, IsRefusal}
use Rattle.scenario.specs.inner.Walk.{tree_at, Gives}
use Rattle.scenario.specs.declared.reading.ScenarioFault.{ScenarioFault}
use Rattle.scenario.specs.declared.reading.ScenarioFault.TheVariants.{NotJson, BadShape, EmptyAny, TooDeep, TooLong, OutOfShape, NoMemory}
use Rattle.scenario.proofs.Visits.{HasFault, walk-fault}
use Rattle.scenario.proofs.Built.{IsBuilt, tree-built}

pub fault-of : (shape : Extent) (d : Data) (r : Result Tree ScenarioFault) → tree_at shape 48 d ≡ r → HasFault r (first_fault shape d)
unfolding first_fault
fault-of shape d r is = subst (λ r. HasFault r (first_fault shape d)) is (walk-fault shape 48 d)

pub built-of : (shape : Extent) (d : Data) (t : Tree) → tree_at shape 48 d ≡ Ok t → IsBuilt shape 48 d (Ok t)
built-of shape d t is = subst (IsBuilt shape 48 d) is (tree-built shape 48 d)

-- a fault that one node may have
abbrev IsOfNode : Option ScenarioFault → Type 0
IsOfNode (Some NotJson) = ⊥
IsOfNode (Some TooLong) = ⊥
IsOfNode (Some NoMemory) = ⊥
IsOfNode found = ⊤

node-or : (a b : Option ScenarioFault) → IsOfNode a → IsOfNode b → IsOfNode (or_else a b)
node-or None b p q = q
node-or (Some fault) b p q = p

node-ask : (b : Bool) → IsOfNode (if b then None else Some OutOfShape)
node-ask true = tt
node-ask false = tt

node-form : (shape : Extent) (o : Option Node) → IsOfNode (elim o [ None ↦ Some BadShape | Some node ↦ fault_of shape node ])
node-form shape None = tt
node-form shape (Some (one ask)) = node-ask (is_in_shape shape ask)
node-form shape (Some (seq ds)) = tt
node-form shape (Some (any no_items)) = tt
node-form shape (Some (any (item d ds))) = tt
node-form shape (Some (times n d)) = tt
node-form shape (Some (both ds)) = tt

node-at : (shape : Extent) (levels : ℕ) (d : Data) → IsOfNode (fault_at shape levels d)
node-at shape zero d = tt
node-at shape (suc levels) d = node-form shape (node_of d)

node-first : (shape : Extent) (visits : List Visit) → IsOfNode (first_some (λ visit. fault_at shape visit.0 visit.1) visits)
node-first shape [] = tt
node-first shape (visit ∷ visits) = node-or (fault_at shape visit.0 visit.1) _ (node-at shape visit.0 visit.1) (node-first shape visits)

node-fault : (shape : Extent) (d : Data) → IsOfNode (first_fault shape d)
unfolding first_fault
node-fault shape d = node-first shape (visited 48 d)

-- a fault that the walk came to
pub refused : {X : Type 0} (meaning : X → Tree) (shape : Extent) (bytes : List ℕ) (d : Data) (fault : ScenarioFault) → IsJson bytes d
    → Gives meaning (Err fault) (tree_at shape 48 d)
    → IsRefusal shape bytes fault
refused meaning shape bytes d NotJson json gives = absurd (subst IsOfNode (fault-of shape d (Err NotJson) gives) (node-fault shape d))
refused meaning shape bytes d BadShape json gives = (d, json, fault-of shape d (Err BadShape) gives)
refused meaning shape bytes d EmptyAny json gives = (d, json, fault-of shape d (Err EmptyAny) gives)
refused meaning shape bytes d TooDeep json gives = (d, json, fault-of shape d (Err TooDeep) gives)
refused meaning shape bytes d TooLong json gives = absurd (subst IsOfNode (fault-of shape d (Err TooLong) gives) (node-fault shape d))
refused meaning shape bytes d OutOfShape json gives = (d, json, fault-of shape d (Err OutOfShape) gives)
refused meaning shape bytes d NoMemory json gives = tt

-- the bytes are the tree's text
pub text-of : (shape : Extent) (bytes : List ℕ) (d : Data) (t : Tree) → IsJson bytes d → tree_at shape 48 d ≡ Ok t → IsTextOf bytes t
text-of shape bytes d t json is = (d, json, (built-of shape d t is).0)

-- a tree whose words are too long has no other fault
pub too_long : (shape : Extent) (bytes : List ℕ) (d : Data) (t : Tree) → IsJson bytes d → tree_at shape 48 d ≡ Ok t
    → 1000000 < longest t → IsRefusal shape bytes TooLong
too_long shape bytes d t json is long = (d, t, json, (built-of shape d t is).0, fault-of shape d (Ok t) is, long)

-- and else the tree is within the limits
pub within : (shape : Extent) (d : Data) (t : Tree) → tree_at shape 48 d ≡ Ok t → longest t ≤ 1000000 → Throughout FitsTypes t → IsWithin shape t
within shape d t is few fits =
    let built = built-of shape d t is in record {
      shallow = built.1;
      short = few;
      choices = built.2;
      asks = built.3;
      numbers = fits;
    }
