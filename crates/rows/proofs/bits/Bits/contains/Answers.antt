use Rattle.std.proofs.Common.{◌/◌, ◌%◌, ◌==◌, ap, arith, get_or, sym, ◌∙◌}
use Rattle.std.specs.Int.{bit_at}
use Rattle.std.proofs.lemmas.Nat.Bits.{bit_at-zero, shr_and_one}
use Rattle.rows.proofs.Words.{flag-at}
use Rattle.rows.proofs.bits.Bits.contains.Goals as goal

pub returns-in-Some : goal.returns-in-Some
returns-in-Some c =
    rw (← c.self.view_is)
    (ap (λ b. b == 1) (shr_and_one c.in-Some.word.now (c.args.at % 64))
    ∙ ap (λ w. bit_at w (c.args.at % 64) == 1) (c.in-Some.ensures.lookup.3.1 0 ∙ ap (λ ws. get_or ws (c.args.at / 64) 0) c.deref.ensures.value)
    ∙ sym (flag-at c.self.inside.words.items c.self.inside.places c.self.inside.ones c.args.at c.self.invariant))

pub returns-in-None : goal.returns-in-None
returns-in-None c =
    rw (← c.self.view_is)
    (ap (λ b. b == 1) (sym (bit_at-zero (c.args.at % 64)))
    ∙ ap (λ w. bit_at w (c.args.at % 64) == 1) (c.in-None.ensures.lookup.4 (omega arith) 0
    ∙ ap (λ ws. get_or ws (c.args.at / 64) 0) c.deref.ensures.value)
    ∙ sym (flag-at c.self.inside.words.items c.self.inside.places c.self.inside.ones c.args.at c.self.invariant))
