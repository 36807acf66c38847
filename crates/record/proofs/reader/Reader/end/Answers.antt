use Rattle.std.proofs.Common.{◌++◌, ap, ◌∙◌, refl, rules, inl}
use Rattle.record.proofs.Steps.{none-if, none-pulled, pulled-more, some-if, some-pending}
use Rattle.record.proofs.reader.Reader.end.Goals as goal

pub returns-clause-ok : goal.returns-clause-ok
returns-clause-ok g c =
    let none = none-if c.in_ok-pull.field-0 _ (search rules) c.in_ok-pull.ensures.pull.some_if in
    let line = c.in_ok-pull.ensures.pull.line ∙ c.requires.ready.line c.requires.done in
    (c.in_ok-pull.ensures.pull.at_end none, ap (λ l. l ++ c.pull.new.self.ahead) line ∙ none)

pub returns-clause-pulled : goal.returns-clause-pulled
returns-clause-pulled g c =
    let tells = g.N.Entries.tells in
    let left = g.S.Source.left c.args.source.now in
    let old = c.args.self.now in
    let none = none-if c.are_bytes_ahead.result _ (search rules) c.are_bytes_ahead.ensures in
    pulled-more tells left left _ old old _ old.lines (none-pulled tells left old) refl none c.in_ok-pull.ensures.pull.line c.in_ok-pull.ensures.pull.bytes
    c.in_ok-pull.ensures.pull.number refl refl (λ r t. t)

pub returns-in_err-pull-clause-pulled : goal.returns-in_err-pull-clause-pulled
returns-in_err-pull-clause-pulled g c =
    let tells = g.N.Entries.tells in
    let left = g.S.Source.left c.args.source.now in
    let old = c.args.self.now in
    let none = none-if c.are_bytes_ahead.result _ (search rules) c.are_bytes_ahead.ensures in
    pulled-more tells left left _ old old _ old.lines (none-pulled tells left old) refl none c.in_err-pull.ensures.pull.line c.in_err-pull.ensures.pull.bytes
    c.in_err-pull.ensures.pull.number refl refl (λ r t. t)

pub returns-then-branch-clause-pulled : goal.returns-then-branch-clause-pulled
returns-then-branch-clause-pulled g c =
    let tells = g.N.Entries.tells in
    let left = g.S.Source.left c.args.source.now in
    let old = c.args.self.now in
    let none = none-if c.are_bytes_ahead.result _ (search rules) c.are_bytes_ahead.ensures in
    pulled-more tells left left _ old old _ old.lines (none-pulled tells left old) refl none c.in_ok-pull.ensures.pull.line c.in_ok-pull.ensures.pull.bytes
    c.in_ok-pull.ensures.pull.number refl refl (λ r t. t)

pub returns-then-are_bytes_ahead-clause-pulled : goal.returns-then-are_bytes_ahead-clause-pulled
returns-then-are_bytes_ahead-clause-pulled g c = none-pulled g.N.Entries.tells (g.S.Source.left c.args.source.now) c.args.self.now

pub returns-then-branch-clause-err : goal.returns-then-branch-clause-err
returns-then-branch-clause-err g c =
    inl (refl, some-pending c.pull.new.self (some-if c.in_ok-pull.field-0 _ (search rules) c.in_ok-pull.ensures.pull.some_if))

pub returns-then-are_bytes_ahead-clause-err : goal.returns-then-are_bytes_ahead-clause-err
returns-then-are_bytes_ahead-clause-err g c =
    inl (refl, some-pending c.args.self.now.lines (some-if c.are_bytes_ahead.result _ (search rules) c.are_bytes_ahead.ensures))
