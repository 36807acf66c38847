use Rattle.std.proofs.Common.{◌≡◌, ◌↔◌, IsTrue, subst, sym, rules}
use Rattle.base.specs.Entries.{same_entry}
use Rattle.base.proofs.Same.{same-equal}
use Rattle.base.proofs.controller.entry.CellEntry.is_same.Goals as goal

pub returns-then-number-clause-equal : goal.returns-then-number-clause-equal
returns-then-number-clause-equal g c =
    let found : c.are_same-actions_are.result ≡ same_entry g.S.Listed.place g.A.Listed.place c.args.self.now c.args.other.now = search rules in
    subst (λ b. IsTrue b ↔ (c.args.self.now ≡ c.args.other.now)) (sym found)
    (same-equal g.S.Listed.kind g.S.Listed.place g.met.S.Listed.stands g.A.Listed.kind g.A.Listed.place g.met.A.Listed.stands
    c.args.self.now c.args.other.now)
