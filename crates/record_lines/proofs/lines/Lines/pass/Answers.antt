use Rattle.std.proofs.Common.{◌≡◌, ◌<◌, ◌≤◌, ◌+◌, ◌-◌, ◌++◌, [], true, ℕ, List, get_or, length, take, drop, ap, sym, subst, ◌∙◌, refl}
use Rattle.std.proofs.Common.{arith, rules, take-append-drop}
use Rattle.record_lines.specs.Reading.{Gathered, next_number}
use Rattle.record_lines.proofs.Streams.{held-begins, held-behind, held-length, held-whole}
use Rattle.record_lines.proofs.lines.Lines.pass.Goals as goal

pub returns : goal.returns
returns c =
    let inside = c.self.inside in
    let count = c.bytes_of_line.result in
    let found = c.bytes_of_line.ensures in
    let old : List ℕ = c.args.self.now.ahead in
    let is : take (inside.end - inside.at) (drop inside.at inside.buffer) ≡ old = ap (λ (g : Gathered). g.ahead) c.self.view_is in
    let all = held-length inside.buffer inside.at inside.end (search rules) in
    let within : count ≤ length (take (inside.end - inside.at) (drop inside.at inside.buffer)) =
    subst (λ (l : List ℕ). count ≤ length l) (sym is) found.within in
    let ends = subst (λ (l : List ℕ). count < length l → get_or l count 0 ≡ 10) (sym is) found.end in
    let low : inside.at + count < inside.end = omega (arith, c.if-end-self.false, within, all, c.self.invariant.in_order) in
    let whole = held-whole true inside.buffer inside.at inside.end count (search rules) within ends (λ e. low, λ l. refl) in
    let next = held-begins inside.buffer whole.0 10 (inside.at + count) inside.end (search rules) whole.1 in
    let few : count ≤ inside.end - inside.at = omega (arith, within, all) in
    record {
      rest = take count old;
      no_end = found.open;
      ahead =
          sym (take-append-drop count old)
          ∙ ap (λ l. take count old ++ l) (ap (drop count) (sym is) ∙ held-behind inside.buffer inside.at inside.end count few ∙ next.1);
      line = ap (λ l. l ++ []) c.clear.ensures.items;
      number = c.saturating_add-self-inside.ensures ∙ ap (λ (g : Gathered). next_number g.number) c.self.view_is;
    }
