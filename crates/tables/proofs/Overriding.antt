-- What the reading of overrides counts and adds up.
use Rattle.std.proofs.Common.{◌≡◌, ◌<◌, ◌+◌, ◌++◌, ◌∙◌, ℕ, sym, arith, drop, get_or, List, [], ◌∷◌, refl, ap, suc, Bool, true, false, Some, Result}
use Rattle.std.proofs.Common.{Ok, Err, String, Global, length}
use Rattle.std.proofs.Math.Seq.{drop-cons}
use Rattle.std.specs.List.{list_any}
use Rattle.serde_json.specs.Data.{Data, Items, item}
use Rattle.serde_json.specs.View.{view, items_view, members_view}
use Rattle.serde_json.specs.Events.{items_len, members_len}
use Rattle.serde_json.specs.declared.value.Value.{Value}
use Rattle.tables.specs.declared.overrides.TablesFault.{TablesFault}
use Rattle.tables.specs.declared.overrides.TablesFault.TheVariants.{SameCellTwice}
use Rattle.tables.specs.Written.{WrittenCell, written_cell}
use Rattle.tables.specs.Overrides.{changes_after}

-- the members of an object are as many as its entries
pub members_count : (es : List (String Global × Value)) → members_len (members_view es) ≡ length es
members_count [] = refl
members_count (e ∷ es) = ap suc (members_count es)

-- the items of an array are as many as its values
pub items_count : (vs : List Value) → items_len (items_view vs) ≡ length vs
items_count [] = refl
items_count (v ∷ vs) = ap suc (items_count vs)

-- the first of the values left, and the ones behind it
pub items-next : (vs : List Value) (i : ℕ) (v d : Value) → i < length vs → v ≡ get_or vs i d →
    items_view (drop i vs) ≡ item (view v) (items_view (drop (i + 1) vs))
items-next vs i v d lt at =
    let after : suc i ≡ i + 1 = omega arith in
    ap items_view (drop-cons vs i d lt) ∙ ap (λ w. item (view w) (items_view (drop (suc i) vs))) (sym at)
    ∙ ap (λ n. item (view v) (items_view (drop n vs))) after

-- a cell that no change before is of adds its change
pub changes-more : {C : Type 0} (change_of : WrittenCell → Result C TablesFault) (same : C → C →
    Bool) (before : List C) (d : Data) (ds : Items) (cell : WrittenCell) (change : C) →
    written_cell d ≡ Some cell → change_of cell ≡ Ok change → list_any (λ c. same c change) before ≡ false →
    changes_after change_of same before (item d ds) ≡ changes_after change_of same (before ++ change ∷ []) ds
changes-more change_of same before d ds cell change has_form is_known is_new = rw (has_form, is_known, is_new) refl

-- a cell that a change before is of is a fault
pub changes-twice : {C : Type 0} (change_of : WrittenCell → Result C TablesFault) (same : C → C →
    Bool) (before : List C) (d : Data) (ds : Items) (cell : WrittenCell) (change : C) →
    written_cell d ≡ Some cell → change_of cell ≡ Ok change → list_any (λ c. same c change) before ≡ true →
    changes_after change_of same before (item d ds) ≡ Err SameCellTwice
changes-twice change_of same before d ds cell change has_form is_known is_old = rw (has_form, is_known, is_old) refl

pub ruleset counts = (members_count, items_count)
