use Rattle.std.proofs.Common.{◌≢◌, ◌+◌, ◌-◌, ◌<◌, ap, subst, length, sym, ◌∙◌, refl, rules, arith}
use Rattle.std.proofs.lemmas.Grind.{common_steps}
use Rattle.record_lines.specs.declared.due.Due.TheVariants.{Nothing}
use Rattle.record_lines.specs.declared.fault.ReadKind.TheVariants.{Device, NoMemory}
use Rattle.record_lines.specs.Refused.{limit, IsUnfinished}
use Rattle.record_lines.specs.Reading.{pending}
use Rattle.record.proofs.Telling.{ready-gathered}
use Rattle.record.proofs.Exits.{handed-on}
use Rattle.record.proofs.Steps.{none-if, none-pulled, not-whole, some-if, pulled-gathered, pulled-more, then-longer, unfinished}
use Rattle.record.proofs.reader.Reader.gather.Goals as goal

pub returns-in_err-reserve-clause-err : goal.returns-in_err-reserve-clause-err
returns-in_err-reserve-clause-err g c =
    let short = c.gather.ensures.gathers.short (omega (arith, c.loop-self.invariant.ready.short, c.limit.ensures.limit)) in
    let none = not-whole c.in_ok-gather.field-0 _ (search rules) c.in_ok-gather.ensures.whole in
    let most = c.limit.ensures.limit ∙ ap limit c.loop-self.invariant.pulled.due in
    let line = unfinished _ c.gather.new.self _ none refl c.gather.ensures.gathers.no_end short in
    handed-on c.from_residual-in_err-reserve.result NoMemory _ _ c.from_residual-in_err-reserve.ensures.1
    (c.requires.more, subst (λ n. IsUnfinished n (pending c.gather.new.self)) most line)

pub returns-in_err-pull-clause-err : goal.returns-in_err-pull-clause-err
returns-in_err-pull-clause-err g c =
    let short = c.gather.ensures.gathers.short (omega (arith, c.loop-self.invariant.ready.short, c.limit.ensures.limit)) in
    let line = unfinished _ c.pull.new.self _ c.in_err-pull.ensures.pull.ahead c.in_err-pull.ensures.pull.line c.gather.ensures.gathers.no_end short in
    let most = c.limit.ensures.limit ∙ ap limit c.loop-self.invariant.pulled.due in
    handed-on c.from_residual-in_err-pull.result Device _ _ c.from_residual-in_err-pull.ensures.1
    (subst (λ n. IsUnfinished n (pending c.pull.new.self)) most line, λ done. absurd (c.requires.more done))

pub returns-in_err-pull-clause-pulled : goal.returns-in_err-pull-clause-pulled
returns-in_err-pull-clause-pulled g c =
    let none = not-whole c.in_ok-gather.field-0 _ (search rules) c.in_ok-gather.ensures.whole in
    pulled-more g.N.Entries.tells _ (g.S.Source.left c.loop-self.source) _ c.args.self.now c.loop-self.self _ c.gather.new.self c.loop-self.invariant.pulled
    c.gather.ensures.gathers.kept none c.in_err-pull.ensures.pull.line c.in_err-pull.ensures.pull.bytes
    (c.in_err-pull.ensures.pull.number ∙ c.gather.ensures.gathers.number) refl refl
    c.reserve.ensures.told

pub returns-in_err-gather-clause-pulled : goal.returns-in_err-gather-clause-pulled
returns-in_err-gather-clause-pulled g c =
    pulled-gathered g.N.Entries.tells _ _ c.args.self.now c.loop-self.self _ c.loop-self.invariant.pulled c.gather.ensures.gathers.kept
    c.gather.ensures.gathers.number refl refl (λ r t. t)

pub returns-in_err-reserve-clause-pulled : goal.returns-in_err-reserve-clause-pulled
returns-in_err-reserve-clause-pulled g c =
    pulled-gathered g.N.Entries.tells _ _ c.args.self.now c.loop-self.self _ c.loop-self.invariant.pulled c.gather.ensures.gathers.kept
    c.gather.ensures.gathers.number refl refl c.reserve.ensures.told

pub returns-clause-pulled : goal.returns-clause-pulled
returns-clause-pulled g c =
    pulled-gathered g.N.Entries.tells _ _ c.args.self.now c.loop-self.self _ c.loop-self.invariant.pulled c.gather.ensures.gathers.kept
    c.gather.ensures.gathers.number refl refl (λ r t. t)

pub returns-then-not-branch-2-clause-err : goal.returns-then-not-branch-2-clause-err
returns-then-not-branch-2-clause-err g c =
    let short = c.gather.ensures.gathers.short (omega (arith, c.loop-self.invariant.ready.short, c.limit.ensures.limit)) in
    let none = none-if c.in_ok-pull.field-0 _ (search rules) c.in_ok-pull.ensures.pull.some_if in
    let line = unfinished _ c.pull.new.self _ none c.in_ok-pull.ensures.pull.line c.gather.ensures.gathers.no_end short in
    let most = c.limit.ensures.limit ∙ ap limit c.loop-self.invariant.pulled.due in
    (c.requires.more, subst (λ n. IsUnfinished n (pending c.pull.new.self)) most line, c.in_ok-pull.ensures.pull.at_end none)

pub returns-then-not-branch-2-clause-pulled : goal.returns-then-not-branch-2-clause-pulled
returns-then-not-branch-2-clause-pulled g c =
    let none = not-whole c.in_ok-gather.field-0 _ (search rules) c.in_ok-gather.ensures.whole in
    pulled-more g.N.Entries.tells _ (g.S.Source.left c.loop-self.source) _ c.args.self.now c.loop-self.self _ c.gather.new.self c.loop-self.invariant.pulled
    c.gather.ensures.gathers.kept none c.in_ok-pull.ensures.pull.line c.in_ok-pull.ensures.pull.bytes
    (c.in_ok-pull.ensures.pull.number ∙ c.gather.ensures.gathers.number) refl refl
    c.reserve.ensures.told

pub loop-self-smaller : goal.loop-self-smaller
loop-self-smaller g c =
    let short = c.gather.ensures.gathers.short (omega (arith, c.loop-self.invariant.ready.short, c.limit.ensures.limit)) in
    let none = not-whole c.in_ok-gather.field-0 _ (search rules) c.in_ok-gather.ensures.whole in
    let some = some-if c.in_ok-pull.field-0 _ (search rules) c.in_ok-pull.ensures.pull.some_if in
    subst (λ n. (n + 1) - length (pending c.pull.new.self) < (n + 1) - length (pending c.loop-self.self.lines)) c.limit.ensures.limit
    (then-longer _ c.loop-self.self.lines c.gather.new.self c.pull.new.self c.gather.ensures.gathers.kept none c.in_ok-pull.ensures.pull.line short some)

pub loop-self-preserved : goal.loop-self-preserved
loop-self-preserved g c =
    let short = c.gather.ensures.gathers.short (omega (arith, c.loop-self.invariant.ready.short, c.limit.ensures.limit)) in
    let none = not-whole c.in_ok-gather.field-0 _ (search rules) c.in_ok-gather.ensures.whole in
    let space = c.in_ok-reserve.ensures.ok (c.loop-self.invariant.ready.space 0 (omega arith)) in
    let number = c.in_ok-pull.ensures.pull.number ∙ c.gather.ensures.gathers.number in
    let more : c.loop-self.self.due ≢ Nothing = λ done. c.requires.more (sym c.loop-self.invariant.pulled.due ∙ done) in
    record {
      ready =
          ready-gathered g.N.Entries.has_room c.loop-self.self _ c.loop-self.invariant.ready more refl refl number
          (λ n low. space n (omega (arith, low, c.in_ok-pull.ensures.pull.few)))
          (omega (arith, ap length c.in_ok-pull.ensures.pull.line, short, c.limit.ensures.limit));
      pulled =
          pulled-more g.N.Entries.tells _ (g.S.Source.left c.loop-self.source) _ c.args.self.now c.loop-self.self _ c.gather.new.self
          c.loop-self.invariant.pulled c.gather.ensures.gathers.kept none c.in_ok-pull.ensures.pull.line c.in_ok-pull.ensures.pull.bytes number refl
          refl c.reserve.ensures.told;
    }

pub loop-self-init : goal.loop-self-init
loop-self-init g c = record { ready = c.requires.ready; pulled = none-pulled g.N.Entries.tells _ c.args.self.now }

pub returns-in_err-gather-clause-ok : goal.returns-in_err-gather-clause-ok
returns-in_err-gather-clause-ok g c = grind (arith, common_steps)

pub returns-in_err-gather-clause-err : goal.returns-in_err-gather-clause-err
returns-in_err-gather-clause-err g c = grind (arith, common_steps)

pub returns-in_err-gather-clause-ready : goal.returns-in_err-gather-clause-ready
returns-in_err-gather-clause-ready g c = grind (arith, common_steps)

pub returns-in_err-gather-clause-device : goal.returns-in_err-gather-clause-device
returns-in_err-gather-clause-device g c = grind (arith, common_steps)

pub returns-in_err-reserve-clause-ok : goal.returns-in_err-reserve-clause-ok
returns-in_err-reserve-clause-ok g c = grind (arith, common_steps)

pub returns-in_err-reserve-clause-ready : goal.returns-in_err-reserve-clause-ready
returns-in_err-reserve-clause-ready g c = grind (arith, common_steps)

pub returns-in_err-reserve-clause-device : goal.returns-in_err-reserve-clause-device
returns-in_err-reserve-clause-device g c = grind (arith, common_steps)

pub returns-in_err-pull-clause-ok : goal.returns-in_err-pull-clause-ok
returns-in_err-pull-clause-ok g c = grind (arith, common_steps)

pub returns-in_err-pull-clause-ready : goal.returns-in_err-pull-clause-ready
returns-in_err-pull-clause-ready g c = grind (arith, common_steps)

pub returns-in_err-pull-clause-device : goal.returns-in_err-pull-clause-device
returns-in_err-pull-clause-device g c = grind (arith, common_steps)

pub returns-then-not-branch-2-clause-ok : goal.returns-then-not-branch-2-clause-ok
returns-then-not-branch-2-clause-ok g c = grind (arith, common_steps)

pub returns-then-not-branch-2-clause-ready : goal.returns-then-not-branch-2-clause-ready
returns-then-not-branch-2-clause-ready g c = grind (arith, common_steps)

pub returns-then-not-branch-2-clause-device : goal.returns-then-not-branch-2-clause-device
returns-then-not-branch-2-clause-device g c = grind (arith, common_steps)

pub returns-clause-ok : goal.returns-clause-ok
returns-clause-ok g c = grind (arith, common_steps)

pub returns-clause-err : goal.returns-clause-err
returns-clause-err g c = grind (arith, common_steps)

pub returns-clause-ready : goal.returns-clause-ready
returns-clause-ready g c = grind (arith, common_steps)

pub returns-clause-device : goal.returns-clause-device
returns-clause-device g c = grind (arith, common_steps)
