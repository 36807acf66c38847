use Rattle.std.proofs.Common.{◌≡◌, ◌<◌, ◌+◌, rules, subst, sym, ◌∙◌, arith}
use Rattle.std.proofs.lemmas.Grind.{common_steps}
use Rattle.std.proofs.lemmas.Result.{IfErr-weaker, on_ok_weaker}
use Rattle.record_lines.specs.declared.due.Due.TheVariants.{Header, Nothing}
use Rattle.record_lines.specs.Refused.{IsFaultOfRest, IsRefused}
use Rattle.record.specs.inner.Drafts.{lines_left}
use Rattle.record_lines.specs.Reading.{Gathered, pending}
use Rattle.record.proofs.Exits.{handed-on}
use Rattle.record.proofs.Steps.{fewer-left, line-fault, taken-text, taken-whole, then-gathered, then-refused, then-taken}
use Rattle.record.proofs.reader.Reader.read_all.Goals as goal

pub returns-in_err-gather-clause-fault : goal.returns-in_err-gather-clause-fault
returns-in_err-gather-clause-fault g c =
    let left = g.S.Source.left c.gather.new.source in
    let kind = c.in_err-gather.field-0.0 in
    let new = c.gather.new.self in
    let reading = c.accept_entries.ensures.reads _ _ c.loop-self.invariant.reading in
    let taken = then-gathered g.N.Entries.tells _ _ left c.accept_entries.new.self new reading c.gather.ensures.pulled in
    handed-on c.from_residual.result _ _ _ c.from_residual.ensures.1
    (then-refused g.N.Entries.tells _ left new kind taken
    (subst (λ d. IsFaultOfRest d (pending new.lines) left kind) (sym c.gather.ensures.pulled.due) c.in_err-gather.ensures.err))

pub loop-self-smaller : goal.loop-self-smaller
loop-self-smaller g c =
    let left = g.S.Source.left c.gather.new.source in
    let reading = c.accept_entries.ensures.reads _ _ c.loop-self.invariant.reading in
    let taken = then-gathered g.N.Entries.tells _ _ left c.accept_entries.new.self c.gather.new.self reading c.gather.ensures.pulled in
    let less : lines_left c.accept.new.self.due < lines_left c.accept_entries.new.self.due =
    subst (λ d. lines_left c.accept.new.self.due < lines_left d) c.gather.ensures.pulled.due
    (fewer-left c.gather.new.self.due _ c.accept.new.self.due (c.in_ok-accept.ensures.ok taken.recording taken.read).taken.leads) in
    omega (arith, less, c.accept_entries.ensures.fewer)

pub loop-self-preserved : goal.loop-self-preserved
loop-self-preserved g c =
    let left = g.S.Source.left c.gather.new.source in
    let reading = c.accept_entries.ensures.reads _ _ c.loop-self.invariant.reading in
    let taken = then-gathered g.N.Entries.tells _ _ left c.accept_entries.new.self c.gather.new.self reading c.gather.ensures.pulled in
    record {
      reading =
          then-taken g.N.Entries.tells _ left c.gather.new.self c.accept.new.self taken (c.in_ok-accept.ensures.ok taken.recording taken.read)
          c.in_ok-accept.ensures.off;
      ready = c.in_ok-accept.ensures.ready;
    }

pub returns-in_err-accept-clause-fault : goal.returns-in_err-accept-clause-fault
returns-in_err-accept-clause-fault g c =
    let left = g.S.Source.left c.gather.new.source in
    let kind = c.in_err-accept.field-0.0 in
    let new = c.gather.new.self in
    let line = c.in_ok-gather.ensures.ok in
    let reading = c.accept_entries.ensures.reads _ _ c.loop-self.invariant.reading in
    let taken = then-gathered g.N.Entries.tells _ _ left c.accept_entries.new.self new reading c.gather.ensures.pulled in
    handed-on c.from_residual-in_err-accept.result _ _ _ c.from_residual-in_err-accept.ensures.1
    (subst (λ (l : Gathered). IsRefused (g.S.Source.left c.args.source.now) left 0 Header (l.number + 1) kind) (sym c.in_err-accept.ensures.lines)
    (then-refused g.N.Entries.tells _ left new kind taken
    (line-fault new.due new.lines.line new.lines.ahead line.whole.0 left kind line.whole.1 line.no_end line.short c.in_err-accept.ensures.err)))

pub returns-clause-text : goal.returns-clause-text
returns-clause-text g c =
    let left = g.S.Source.left c.end.new.source in
    let taken = then-gathered g.N.Entries.tells _ _ left c.loop-self.self c.end.new.self c.loop-self.invariant.reading c.end.ensures.pulled in
    let done : c.loop-self.self.due ≡ Nothing = search rules in
    on_ok_weaker c.end.result (λ end. taken-text g.N.Entries.tells _ left c.end.new.self taken (c.end.ensures.pulled.due ∙ done) end.1) c.end.ensures.ok

pub returns-clause-whole : goal.returns-clause-whole
returns-clause-whole g c =
    let left = g.S.Source.left c.end.new.source in
    let taken = then-gathered g.N.Entries.tells _ _ left c.loop-self.self c.end.new.self c.loop-self.invariant.reading c.end.ensures.pulled in
    let done : c.loop-self.self.due ≡ Nothing = search rules in
    on_ok_weaker c.end.result (λ end. taken-whole g.N.Entries.tells _ left c.end.new.self taken (c.end.ensures.pulled.due ∙ done) end.1 end.0) c.end.ensures.ok

pub returns-clause-fault : goal.returns-clause-fault
returns-clause-fault g c =
    let left = g.S.Source.left c.end.new.source in
    let new = c.end.new.self in
    let at : c.loop-self.self.due ≡ Nothing = search rules in
    let done : new.due ≡ Nothing = c.end.ensures.pulled.due ∙ at in
    let taken = then-gathered g.N.Entries.tells _ _ left c.loop-self.self new c.loop-self.invariant.reading c.end.ensures.pulled in
    IfErr-weaker c.end.result _ _
    (λ kind fault. then-refused g.N.Entries.tells _ left new kind taken
    (subst (λ d. IsFaultOfRest d (pending new.lines) left kind) (sym done) fault)) c.end.ensures.err

pub loop-self-init : goal.loop-self-init
loop-self-init g c = grind (arith, common_steps)

pub returns-in_err-gather-clause-text : goal.returns-in_err-gather-clause-text
returns-in_err-gather-clause-text g c = grind (arith, common_steps)

pub returns-in_err-gather-clause-whole : goal.returns-in_err-gather-clause-whole
returns-in_err-gather-clause-whole g c = grind (arith, common_steps)

pub returns-in_err-gather-clause-device : goal.returns-in_err-gather-clause-device
returns-in_err-gather-clause-device g c = grind (arith, common_steps)

pub returns-in_err-gather-clause-few : goal.returns-in_err-gather-clause-few
returns-in_err-gather-clause-few g c = grind (arith, common_steps)

pub returns-in_err-accept-clause-text : goal.returns-in_err-accept-clause-text
returns-in_err-accept-clause-text g c = grind (arith, common_steps)

pub returns-in_err-accept-clause-whole : goal.returns-in_err-accept-clause-whole
returns-in_err-accept-clause-whole g c = grind (arith, common_steps)

pub returns-in_err-accept-clause-device : goal.returns-in_err-accept-clause-device
returns-in_err-accept-clause-device g c = grind (arith, common_steps)

pub returns-in_err-accept-clause-few : goal.returns-in_err-accept-clause-few
returns-in_err-accept-clause-few g c = grind (arith, common_steps)

pub returns-clause-device : goal.returns-clause-device
returns-clause-device g c = grind (arith, common_steps)

pub returns-clause-few : goal.returns-clause-few
returns-clause-few g c = grind (arith, common_steps)

pub accept-requires-clause-read : goal.accept-requires-clause-read
accept-requires-clause-read g c =
    let left = g.S.Source.left c.gather.new.source in
    let reading = c.accept_entries.ensures.reads _ _ c.loop-self.invariant.reading in
    let taken = then-gathered g.N.Entries.tells _ _ left c.accept_entries.new.self c.gather.new.self reading c.gather.ensures.pulled in
    (taken.recording, taken.read)

pub accept_entries-requires-clause-read : goal.accept_entries-requires-clause-read
accept_entries-requires-clause-read g c = (_, _, c.loop-self.invariant.reading)
