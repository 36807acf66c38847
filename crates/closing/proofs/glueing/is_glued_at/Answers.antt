use Rattle.std.proofs.Common.{◌≡◌, ◌∙◌, ◌≤◌, ◌<◌, ℕ, List, ap, subst, get_or}
use Rattle.std.specs.Global.{Vec}
use Rattle.closing.specs.declared.ranked.RankedPair.{RankedPair}
use Rattle.closing.specs.declared.following.Followed.{Followed}
use Rattle.closing.specs.declared.numbering.Span.{Span}
use Rattle.closing.specs.inner.Told.{GluesWith}
use Rattle.closing.proofs.Reading.{read}
use Rattle.closing.proofs.glueing.is_glued_at.Goals as goal

pub returns : goal.returns
returns c = λ glued p mine n m beside between at_p at_mine at_n at_m at_beside at_between.
    let found = c.in-Some-Some-Some-Some in
    let spans = c.in-Some-Some in
    let same_p : found.ranked.now ≡ p = found.ensures.lookup.1 ∙ read c.args.list.now c.args.place p found.ranked.now at_p in
    let same_mine : found.mine.now ≡ mine = found.ensures'.lookup.1 ∙ read c.args.steps.now c.args.place mine found.mine.now at_mine in
    let same_n : found.first.now ≡ n =
    found.ensures''.lookup.1 ∙ ap (λ (xs : List ℕ). get_or xs c.args.place found.first.now) c.deref.ensures.value
    ∙ read c.args.numbers.now.firsts.items c.args.place n found.first.now at_n in
    let same_m : found.second.now ≡ m =
    found.ensures'''.lookup.1 ∙ ap (λ (xs : List ℕ). get_or xs c.args.place found.second.now) c.deref-2.ensures.value
    ∙ read c.args.numbers.now.seconds.items c.args.place m found.second.now at_m in
    let same_beside : spans.beside.now ≡ beside =
    spans.ensures.lookup.1 ∙ ap (λ (xs : List Span). get_or xs found.first.now spans.beside.now) c.deref-3.ensures.value
    ∙ ap (λ k. get_or c.args.numbers.now.spans.items k spans.beside.now) same_n ∙ read c.args.numbers.now.spans.items n beside spans.beside.now at_beside in
    let same_between : spans.between.now ≡ between =
    spans.ensures'.lookup.1 ∙ ap (λ (xs : List Span). get_or xs found.second.now spans.between.now) c.deref-4.ensures.value
    ∙ ap (λ k. get_or c.args.numbers.now.spans.items k spans.between.now) same_m ∙ read c.args.numbers.now.spans.items m between spans.between.now at_between in
    subst (λ (s : Span). (j : ℕ) → s.begin ≤ j → j < s.end →
    GluesWith c.args.list.now c.args.numbers.now.seconds.items c.args.steps.now p mine.items between j) same_beside
    (subst (λ (s : Span). (j : ℕ) → spans.beside.now.begin ≤ j → j < spans.beside.now.end →
    GluesWith c.args.list.now c.args.numbers.now.seconds.items c.args.steps.now p mine.items s j) same_between
    (subst (λ (fs : List Followed). (j : ℕ) → spans.beside.now.begin ≤ j → j < spans.beside.now.end →
    GluesWith c.args.list.now c.args.numbers.now.seconds.items c.args.steps.now p fs spans.between.now j)
    (c.deref-5.ensures.value ∙ ap (λ (v : Vec Followed). v.items) same_mine)
    (subst (λ (q : RankedPair). (j : ℕ) → spans.beside.now.begin ≤ j → j < spans.beside.now.end →
    GluesWith c.args.list.now c.args.numbers.now.seconds.items c.args.steps.now q c.deref-5.result.now spans.between.now j) same_p
    (c.is_glued_beside.ensures glued))))
