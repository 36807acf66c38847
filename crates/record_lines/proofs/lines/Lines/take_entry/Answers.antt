use Rattle.std.proofs.Common.{◌≡◌, ◌+◌, ◌-◌, ◌++◌, ◌∷◌, [], ap, append_assoc, drop, length, rules, sym, take, ◌∙◌}
use Rattle.base.specs.Words.{joined}
use Rattle.record_lines.specs.Text.{entry_words}
use Rattle.record_lines.specs.Reading.{Gathered}
use Rattle.record_lines.proofs.Streams.{left-behind, no-line}
use Rattle.record_lines.proofs.lines.Lines.take_entry.Goals as goal

pub returns : goal.returns
returns c =
    let inside = c.self.inside in
    let entry = joined (entry_words c.in_ok-entry.entry) in
    let rest = c.in_ok-entry.rest.now in
    let text = c.in_ok-entry.ensures.text in
    let none = no-line inside.line.items inside.buffer inside.at inside.held (search rules) c.if-self-gt0.false in
    let behind : take (inside.end - (inside.end - length rest)) (drop (inside.end - length rest) inside.buffer) ≡ rest =
    left-behind inside.buffer (entry ++ 10 ∷ []) rest inside.at inside.end (search rules) c.self.invariant.in_order
    (text ∙ sym (append_assoc entry (10 ∷ []) rest)) in
    record {
      fits = c.in_ok-entry.ensures.fits;
      none = sym (ap (λ (g : Gathered). g.line) c.self.view_is) ∙ none;
      ahead = sym (ap (λ (g : Gathered). g.ahead) c.self.view_is) ∙ text ∙ ap (λ l. entry ++ 10 ∷ l) (sym behind);
      line = no-line inside.line.items inside.buffer (inside.end - length rest) inside.held (search rules) c.if-self-gt0.false;
      number = ap (λ (g : Gathered). g.number + 1) c.self.view_is;
    }
