use Rattle.std.proofs.Common.{subst}
use Rattle.std.specs.Io.KnownBytes.{Appends}
use Rattle.record.specs.View.{RecordingView}
use Rattle.record.specs.Text.{text}
use Rattle.record_lines.specs.declared.version.Version.TheVariants.{Two}
use Rattle.record.proofs.moving.move_text.Goals as goal

pub returns-in-Ok-write-clause-moved : goal.returns-in-Ok-write-clause-moved
returns-in-Ok-write-clause-moved g c v r h t is =
    subst (λ (x : RecordingView). Appends (g.K.Sink.taken c.args.sink.now) (g.K.Sink.taken c.write.new.sink) (text Two x)) (c.in-Ok.ensures.back v r h t is)
    c.in-Ok-write.ensures.written.sent
