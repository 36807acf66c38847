-- The children of a scenario, as a list.
use Rattle.std.proofs.Common.{◌≡◌, map, refl, ap, sym, ◌∙◌}
use Rattle.std.specs.declared.vec.Vec.{Vec}
use Rattle.scenario.specs.declared.tree.Scenario.{Scenario, Row_of-Scenario, end_of-Scenario}
use Rattle.scenario.specs.declared.tree.Scenario.{more_of-Scenario, items-the_row-Scenario, items_hidden-the_row-Scenario-0}
use Rattle.scenario.specs.declared.tree.Scenario.TheBlock.{hidden-the_row-Scenario-0}
use Rattle.scenario.specs.declared.tree.Scenario.TheVariants.{Seq, Any, Both}
use Rattle.scenario.specs.Tree as tree
use Rattle.scenario.specs.Tree.{plain, plain_row, plain_all, trees_of}

row_items : (A : Type 0) {n : _} (k : Row_of-Scenario A n) → plain_row k ≡ plain_all (items-the_row-Scenario A n k)
row_items A end_of-Scenario = refl
row_items A (more_of-Scenario s more) = ap (λ ts. tree.Cons (plain s) ts) (row_items A more)

pub plain-Seq : {A : Type 0} (v : Vec (Scenario A) A) → plain (Seq v) ≡ tree.Seq (plain_all v.items)
plain-Seq {A} v = ap tree.Seq (row_items A (hidden-the_row-Scenario-0 A v) ∙ ap plain_all (items_hidden-the_row-Scenario-0 A v))

pub plain-Any : {A : Type 0} (v : Vec (Scenario A) A) → plain (Any v) ≡ tree.Any (plain_all v.items)
plain-Any {A} v = ap tree.Any (row_items A (hidden-the_row-Scenario-0 A v) ∙ ap plain_all (items_hidden-the_row-Scenario-0 A v))

pub plain-Both : {A : Type 0} (v : Vec (Scenario A) A) → plain (Both v) ≡ tree.Both (plain_all v.items)
plain-Both {A} v = ap tree.Both (row_items A (hidden-the_row-Scenario-0 A v) ∙ ap plain_all (items_hidden-the_row-Scenario-0 A v))

-- those of equal children are equal
pub copied-Seq : {A B : Type 0} (v : Vec (Scenario A) A) (w : Vec (Scenario B) B) → map plain w.items ≡ map plain v.items
    → plain (Seq w) ≡ plain (Seq v)
copied-Seq v w e = plain-Seq w ∙ (ap (λ ts. tree.Seq (trees_of ts)) e ∙ sym (plain-Seq v))

pub copied-Any : {A B : Type 0} (v : Vec (Scenario A) A) (w : Vec (Scenario B) B) → map plain w.items ≡ map plain v.items
    → plain (Any w) ≡ plain (Any v)
copied-Any v w e = plain-Any w ∙ (ap (λ ts. tree.Any (trees_of ts)) e ∙ sym (plain-Any v))

pub copied-Both : {A B : Type 0} (v : Vec (Scenario A) A) (w : Vec (Scenario B) B) → map plain w.items ≡ map plain v.items
    → plain (Both w) ≡ plain (Both v)
copied-Both v w e = plain-Both w ∙ (ap (λ ts. tree.Both (trees_of ts)) e ∙ sym (plain-Both v))

pub ruleset children = (plain-Seq, plain-Any, plain-Both)
