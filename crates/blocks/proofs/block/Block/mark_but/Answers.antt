use Rattle.std.proofs.Common.{◌≡◌, ◌∙◌, Bool, ap, slice_get, sym}
use Rattle.tables.specs.Tables.{Tables}
use Rattle.control.specs.declared.line.LineInput.TheVariants as line_input
use Rattle.network.specs.Marking.{link_marked}
use Rattle.network.specs.Room.{Wiring}
use Rattle.network.specs.declared.message.Forward.{Forward}
use Rattle.blocks.specs.Marking.{line_stalls, marks_of}
use Rattle.blocks.specs.inner.Linking.{AreRight}
use Rattle.blocks.specs.inner.Lined.{lines_of}
use Rattle.blocks.specs.inner.Tested.{block_with, requests_stall}
use Rattle.blocks.proofs.block.Block.mark_but.Goals as goal

pub mark_requests-requires : goal.mark_requests-requires
mark_requests-requires c = rw (sym c.self.view_is) at c.requires.requests

pub returns-clause-marks : goal.returns-clause-marks
returns-clause-marks c =
    let w = c.self.inside.wires in
    let tables = c.args.controllers.now in
    let lines = lines_of c.self.inside.lines.items in
    let home = c.self.inside.home in
    let cache = c.args.others.cache.0 in
    let others : AreRight tables lines w.traffic.links cache w.marks.links = rw (sym c.self.view_is) at c.requires.links in
    let told : Tables → Forward → Bool = λ t f. line_stalls t.cache (slice_get lines cache) (line_input.Forward f) in
    let middle = c.mark_requests.new.wires in
    let traffic : c.mark_link.new.self.traffic ≡ w.traffic = ap (λ (k : Wiring). k.traffic) c.mark_link.ensures ∙ c.mark_requests.ensures.traffic in
    let links = ap (λ (k : Wiring). k.marks) (c.mark_link.ensures ∙ ap (λ (t : Tables). link_marked cache (told t) middle) c.tables-tables.ensures) in
    rw (← c.self.view_is)
    (c.mark_responses.ensures.marks
    ∙ (λ i. record (links i) { responses = (marks_of tables (block_with c.self.inside.lines.items home (traffic i))).responses })
    ∙ (λ i. record (link_marked cache (told tables) (record {
      traffic = c.mark_requests.ensures.traffic i;
      marks = c.mark_requests.ensures.marks i;
      room = middle.room;
    })).marks {
      responses = (marks_of tables (block_with c.self.inside.lines.items home w.traffic)).responses;
    })
    ∙ (λ i. record {
      requests = requests_stall tables.directory home w.traffic.requests;
      links = others i;
      responses = (marks_of tables (block_with c.self.inside.lines.items home w.traffic)).responses;
    }))
