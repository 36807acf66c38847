use Rattle.std.proofs.Common.{◌≡◌, ◌≤◌, ◌+◌, ◌-◌, ℕ, List, ◌++◌, length, take, drop, arith, subst, sym, ◌∙◌}
use Rattle.std.proofs.Math.Seq.{take-add}
use Rattle.std.proofs.lemmas.Grind.{common_steps}
use Rattle.std.specs.Io.KnownBytes.{Appends}
use Rattle.std.proofs.KnownBytes.{Appends-trans}
use Rattle.base.proofs.ends.put_all.Goals as goal

-- n more of the rest
more : (xs : List ℕ) (d n : ℕ) → d ≤ length xs → n ≤ length (take (length xs - d) (drop d xs)) →
    take d xs ++ take n (take (length xs - d) (drop d xs)) ≡ take (d + n) xs
more xs d n p q =
    let whole : take (length xs - d) (drop d xs) ≡ drop d xs = grind (arith, common_steps) in
    rw whole (sym (take-add d n xs))

pub loop-written-preserved : goal.loop-written-preserved
loop-written-preserved g c =
    let e = c.in-Ok.ensures in
    let i = c.loop-written.invariant in
    let at = more c.args.bytes.now c.loop-written.written c.in-Ok.n i.0 e.within in (
      grind (arith, common_steps, e.within),
      subst (λ z. Appends (g.S.Sink.taken c.args.sink.now) (g.S.Sink.taken c.put.new.self) z) at
          (Appends-trans (g.S.Sink.taken c.args.sink.now) (g.S.Sink.taken c.loop-written.sink) (g.S.Sink.taken c.put.new.self) _ _ i.1 e.bytes),
      e.mark ∙ i.2,
    )
