use Rattle.std.proofs.Common.{◌≡◌, ◌-◌, ◌++◌, ◌∷◌, [], ap, append_assoc, drop, length, rules, sym, take, ◌∙◌}
use Rattle.base.specs.Words.{joined}
use Rattle.base.specs.Spelling.{step_words}
use Rattle.record_lines.specs.Reading.{Gathered, next_number}
use Rattle.record_lines.proofs.Streams.{left-behind, no-line}
use Rattle.record_lines.proofs.lines.Lines.take_step.Goals as goal

pub returns : goal.returns
returns c =
    let inside = c.self.inside in
    let step = joined (step_words c.in_ok-step.step) in
    let rest = c.in_ok-step.rest.now in
    let text = c.in_ok-step.ensures in
    let none = no-line inside.line.items inside.buffer inside.at inside.held (search rules) c.if-self-gt0.false in
    let behind : take (inside.end - (inside.end - length rest)) (drop (inside.end - length rest) inside.buffer) ≡ rest =
    left-behind inside.buffer (step ++ 10 ∷ []) rest inside.at inside.end (search rules) c.self.invariant.in_order
    (text ∙ sym (append_assoc step (10 ∷ []) rest)) in
    record {
      none = sym (ap (λ (g : Gathered). g.line) c.self.view_is) ∙ none;
      ahead = sym (ap (λ (g : Gathered). g.ahead) c.self.view_is) ∙ text ∙ ap (λ l. step ++ 10 ∷ l) (sym behind);
      line = no-line inside.line.items inside.buffer (inside.end - length rest) inside.held (search rules) c.if-self-gt0.false;
      number = c.saturating_add-self-inside.ensures ∙ ap (λ (g : Gathered). next_number g.number) c.self.view_is;
    }
