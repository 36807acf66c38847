use Rattle.std.proofs.Common.{◌≡◌, ◌∙◌, ℕ, List, ap, subst, get_or}
use Rattle.std.specs.Global.{Vec}
use Rattle.closing.specs.declared.following.Followed.{Followed}
use Rattle.closing.specs.declared.ranked.RankedPair.{RankedPair}
use Rattle.closing.specs.inner.Told.{GlueTogether}
use Rattle.closing.proofs.Reading.{read}
use Rattle.closing.proofs.glueing.is_glued_with.Goals as goal

pub returns-else-not-are_apart : goal.returns-else-not-are_apart
returns-else-not-are_apart c = λ glued q theirs second at_q at_theirs at_second apart.
    let found = c.in-Some-Some-Some in
    let same_other : found.other.now ≡ q = found.ensures.lookup.1 ∙ read c.args.list.now c.args.place q found.other.now at_q in
    let same_theirs : found.theirs.now ≡ theirs = found.ensures'.lookup.1 ∙ read c.args.steps.now c.args.place theirs found.theirs.now at_theirs in
    let same_second : found.second.now ≡ second =
    found.ensures''.lookup.1 ∙ ap (λ (xs : List ℕ). get_or xs c.args.place found.second.now) c.deref.ensures.value
    ∙ read c.args.numbers.now.seconds.items c.args.place second found.second.now at_second in
    subst (λ (x : RankedPair). GlueTogether c.args.list.now c.args.numbers.now.seconds.items c.args.between second x c.args.mine.now theirs.items)
    same_other
    (subst (λ (n : ℕ). GlueTogether c.args.list.now c.args.numbers.now.seconds.items c.args.between n found.other.now c.args.mine.now theirs.items)
    same_second
    (subst (λ (ts : List Followed).
    GlueTogether c.args.list.now c.args.numbers.now.seconds.items c.args.between found.second.now found.other.now c.args.mine.now ts)
    (c.deref-else-not-are_apart.ensures.value ∙ ap (λ (v : Vec Followed). v.items) same_theirs) (c.are_glued_within.ensures glued)))
