use Rattle.std.proofs.Common.{◌+◌, ◌++◌, [], ap, sym, ◌∙◌, rules}
use Rattle.record_lines.specs.Reading.{Gathered}
use Rattle.record_lines.proofs.Streams.{held-begins}
use Rattle.record_lines.proofs.lines.Lines.take_off.Goals as goal

pub returns : goal.returns
returns c =
    let ahead = ap (λ (g : Gathered). g.ahead) c.self.view_is in
    record {
      line = ap (λ l. l ++ []) c.clear.ensures.items;
      ahead =
          sym ahead
          ∙ (held-begins c.self.inside.buffer c.requires.whole.0 10 c.self.inside.at c.self.inside.end (search rules) (ahead ∙ c.requires.whole.1)).1;
      number = ap (λ (g : Gathered). g.number + 1) c.self.view_is;
    }
