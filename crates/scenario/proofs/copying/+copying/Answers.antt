use Rattle.std.proofs.Common.{map, ap, sym, ◌∙◌, arith}
use Rattle.std.proofs.lemmas.Grind.{common_steps}
use Rattle.scenario.specs.Tree.{plain}
use Rattle.scenario.specs.declared.tree.Scenario.TheFolds.{the_lemmas}
use Rattle.scenario.proofs.Children.{children, copied-Any, copied-Both, copied-Seq}
use Rattle.scenario.proofs.Failing.{if_ok-failed}
use Rattle.scenario.proofs.copying.+copying.Goals as goal

pub copy_all-loop-child-init : goal.copy_all-loop-child-init
copy_all-loop-child-init g t c = grind (arith, common_steps)

pub copy_all-loop-child-preserved : goal.copy_all-loop-child-preserved
copy_all-loop-child-preserved g t c = grind (arith, common_steps)

pub copy_all-loop-child-smaller : goal.copy_all-loop-child-smaller
copy_all-loop-child-smaller g t c = omega arith

pub copy_all-offset_bounds-children-child-index : goal.copy_all-offset_bounds-children-child-index
copy_all-offset_bounds-children-child-index g t c = grind (arith, common_steps)

pub copy_all-returns : goal.copy_all-returns
copy_all-returns g t c = grind (arith, common_steps, children)

pub copy_all-returns-in_err-copies : goal.copy_all-returns-in_err-copies
copy_all-returns-in_err-copies g t c = if_ok-failed _ _ c.from_residual.ensures.0

pub copy_all-returns-in_err-copy_one : goal.copy_all-returns-in_err-copy_one
copy_all-returns-in_err-copy_one g t c = if_ok-failed _ _ c.from_residual-in_err-copy_one.ensures.0

pub copy_all-returns-in_err-push : goal.copy_all-returns-in_err-push
copy_all-returns-in_err-push g t c = if_ok-failed _ _ c.from_residual-in_err-push.ensures.0

pub copy_one-returns-in-One : goal.copy_one-returns-in-One
copy_one-returns-in-One g t c = ap plain (sym c.in-One.is)

pub copy_one-returns-in_err-copy_all-in-Any : goal.copy_one-returns-in_err-copy_all-in-Any
copy_one-returns-in_err-copy_all-in-Any g t c = if_ok-failed _ _ c.from_residual-in_err-copy_all-in-Any.ensures.0

pub copy_one-returns-in_err-copy_all-in-Both : goal.copy_one-returns-in_err-copy_all-in-Both
copy_one-returns-in_err-copy_all-in-Both g t c = if_ok-failed _ _ c.from_residual-in_err-copy_all-in-Both.ensures.0

pub copy_one-returns-in_err-copy_all-in-Seq : goal.copy_one-returns-in_err-copy_all-in-Seq
copy_one-returns-in_err-copy_all-in-Seq g t c = if_ok-failed _ _ c.from_residual.ensures.0

pub copy_one-returns-in_err-copy_one-in-Times : goal.copy_one-returns-in_err-copy_one-in-Times
copy_one-returns-in_err-copy_one-in-Times g t c = if_ok-failed _ _ c.from_residual-in_err-copy_one-in-Times.ensures.0

pub copy_one-returns-in_err-times_in-in-Times : goal.copy_one-returns-in_err-times_in-in-Times
copy_one-returns-in_err-times_in-in-Times g t c = if_ok-failed _ _ c.from_residual-in_err-times_in-in-Times.ensures.0

pub copy_one-returns-in_ok-copy_all-in-Any : goal.copy_one-returns-in_ok-copy_all-in-Any
copy_one-returns-in_ok-copy_all-in-Any g t c =
    let same = c.in_ok-copy_all-in-Any.ensures ∙ ap (map plain) c.as_slice-in-Any.ensures.value in
    copied-Any c.in-Any.children c.in_ok-copy_all-in-Any.field-0 same ∙ ap plain (sym c.in-Any.is)

pub copy_one-returns-in_ok-copy_all-in-Both : goal.copy_one-returns-in_ok-copy_all-in-Both
copy_one-returns-in_ok-copy_all-in-Both g t c =
    let same = c.in_ok-copy_all-in-Both.ensures ∙ ap (map plain) c.as_slice-in-Both.ensures.value in
    copied-Both c.in-Both.children c.in_ok-copy_all-in-Both.field-0 same ∙ ap plain (sym c.in-Both.is)

pub copy_one-returns-in_ok-copy_all-in-Seq : goal.copy_one-returns-in_ok-copy_all-in-Seq
copy_one-returns-in_ok-copy_all-in-Seq g t c =
    let same = c.in_ok-copy_all-in-Seq.ensures ∙ ap (map plain) c.as_slice.ensures.value in
    copied-Seq c.in-Seq.children c.in_ok-copy_all-in-Seq.field-0 same ∙ ap plain (sym c.in-Seq.is)

pub copy_one-returns-in_ok-times_in-in-Times : goal.copy_one-returns-in_ok-times_in-in-Times
copy_one-returns-in_ok-times_in-in-Times g t c = grind (arith, common_steps, children)

pub copy_all-copy_one-requires : goal.copy_all-copy_one-requires
copy_all-copy_one-requires g t c = grind (the_lemmas, arith, common_steps)

pub copy_one-copy_all-requires : goal.copy_one-copy_all-requires
copy_one-copy_all-requires g t c = grind (the_lemmas, arith, common_steps)

pub copy_one-copy_all-requires-in-Any : goal.copy_one-copy_all-requires-in-Any
copy_one-copy_all-requires-in-Any g t c = grind (the_lemmas, arith, common_steps)

pub copy_one-copy_all-requires-in-Both : goal.copy_one-copy_all-requires-in-Both
copy_one-copy_all-requires-in-Both g t c = grind (the_lemmas, arith, common_steps)

pub copy_one-copy_one-requires : goal.copy_one-copy_one-requires
copy_one-copy_one-requires g t c = grind (the_lemmas, arith, common_steps)
