use Rattle.std.proofs.Common.{◌≡◌, ◌≢◌, ◌≤◌, ◌<◌, ◌+◌, ◌-◌, ◌++◌, ℕ, List, length, take, drop, ap, subst, sym, ◌∙◌, rules, arith}
use Rattle.std.proofs.Common.{append_assoc, length-append, length-drop, take-append-drop}
use Rattle.std.proofs.lemmas.List.{get_or-take, length-take}
use Rattle.record_lines.specs.Refused.{HasNoEnd}
use Rattle.record_lines.specs.Reading.{Gathered, Gathers}
use Rattle.record_lines.proofs.Streams.{standing-length, still-open}
use Rattle.record_lines.proofs.lines.Lines.gather_front.Goals as goal

-- no line ends in fewer bytes either
fewer : (m n : ℕ) (xs : List ℕ) → m ≤ n → HasNoEnd (take n xs) → HasNoEnd (take m xs)
fewer m n xs low none = λ k d here.
    let in_m : k < m = omega (arith, here, length-take {A = ℕ} m xs) in
    subst (λ b. b ≢ 10) (get_or-take n xs k d (omega (arith, in_m, low)) ∙ sym (get_or-take m xs k d in_m))
    (none k d (omega (arith, here, low, length-take {A = ℕ} m xs, length-take {A = ℕ} n xs)))

-- so many of the bytes ahead are added to the line
gathered : (most count : ℕ) (old new : Gathered) → new.line ≡ old.line ++ take count old.ahead → new.ahead ≡ drop count old.ahead →
    new.number ≡ old.number → HasNoEnd old.line → HasNoEnd (take count old.ahead) → (length old.line ≤ most → length old.line + count ≤ most) →
    Gathers most old new
gathered most count old new line ahead number no_end more short = record {
  kept =
      ap (λ l. l ++ new.ahead) line ∙ ap (λ l. (old.line ++ take count old.ahead) ++ l) ahead
      ∙ append_assoc old.line (take count old.ahead) (drop count old.ahead) ∙ ap (λ l. old.line ++ l) (take-append-drop count old.ahead);
  ahead = omega (arith, ap length ahead, length-drop {A = ℕ} count old.ahead);
  no_end = still-open _ _ _ line no_end more;
  short = λ low.
      omega (arith, short low, ap length line, length-append old.line (take count old.ahead), length-take {A = ℕ} count old.ahead);
  number = number;
}

pub returns-then-are_bytes_ahead-clause-gathers : goal.returns-then-are_bytes_ahead-clause-gathers
returns-then-are_bytes_ahead-clause-gathers c =
    let inside = c.self.inside in
    let standing = take inside.held (drop (inside.at - inside.held) inside.buffer) in
    let held : length standing ≡ inside.held = standing-length inside.buffer inside.at inside.held c.self.invariant.behind (search rules) in
    let all = ap (λ (g : Gathered). length g.line) c.self.view_is in
    gathered c.args.most c.min-count.result c.args.self.now c.add.new.self c.add.ensures.line c.add.ensures.ahead c.add.ensures.number
    (subst HasNoEnd (ap (λ (g : Gathered). g.line) c.self.view_is) c.self.invariant.no_end) (fewer c.min-count.result c.bytes_of_line.result c.args.self.now.ahead (omega (arith, c.min-count.ensures)) c.bytes_of_line.ensures.open)
    (λ low. omega (arith, low, all, held, length-append inside.line.items standing, c.min-count.ensures, c.saturating_sub-left.ensures, c.len.ensures))

pub returns-else-are_bytes_ahead-clause-gathers : goal.returns-else-are_bytes_ahead-clause-gathers
returns-else-are_bytes_ahead-clause-gathers c =
    let inside = c.self.inside in
    let standing = take inside.held (drop (inside.at - inside.held) inside.buffer) in
    let held : length standing ≡ inside.held = standing-length inside.buffer inside.at inside.held c.self.invariant.behind (search rules) in
    let all = ap (λ (g : Gathered). length g.line) c.self.view_is in
    gathered c.args.most c.min-count.result c.args.self.now c.add.new.self c.add.ensures.line c.add.ensures.ahead c.add.ensures.number
    (subst HasNoEnd (ap (λ (g : Gathered). g.line) c.self.view_is) c.self.invariant.no_end) (fewer c.min-count.result c.bytes_of_line.result c.args.self.now.ahead (omega (arith, c.min-count.ensures)) c.bytes_of_line.ensures.open)
    (λ low. omega (arith, low, all, held, length-append inside.line.items standing, c.min-count.ensures, c.saturating_sub-left.ensures, c.len.ensures))
