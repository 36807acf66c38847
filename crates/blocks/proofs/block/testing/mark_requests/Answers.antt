use Rattle.std.proofs.Common.{◌++◌, ◌∙◌, ap, drop, map, take}
use Rattle.tables.specs.Tables.{Tables}
use Rattle.control.specs.declared.home.HomeInput.TheVariants as home_input
use Rattle.network.specs.Room.{Wiring}
use Rattle.network.specs.declared.message.Request.{Request}
use Rattle.blocks.specs.Marking.{home_stalls}
use Rattle.blocks.proofs.Asked.{first-and-others}
use Rattle.blocks.proofs.block.testing.mark_requests.Goals as goal

pub returns-clause-marks : goal.returns-clause-marks
returns-clause-marks c =
    let w = c.args.wires.now in
    let told = λ (t : Tables) (r : Request). home_stalls t.directory c.args.home.now (home_input.Request r) in
    ap (λ (k : Wiring). k.marks) c.mark_requests.ensures
    ∙ (λ i. record w.marks {
      requests = (ap (λ (t : Tables). take c.from.result w.marks.requests ++ map (told t) (drop c.from.result w.traffic.requests)) c.tables-tables.ensures
          ∙ (ap (λ n. take n w.marks.requests ++ map (told c.args.controllers.now) (drop n w.traffic.requests)) c.from.ensures
          ∙ first-and-others (told c.args.controllers.now) w.marks.requests c.args.right w.traffic.requests c.requires)) i;
    })
