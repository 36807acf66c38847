use Rattle.std.proofs.Common.{◌≡◌, ◌∙◌, ℕ, nat_eq, true, sym, arith}
use Rattle.std.proofs.lemmas.Bool.Decides.{nat_tests}
use Rattle.command_tables.proofs.Jammed.{jammed}
use Rattle.command_tables.proofs.jamming.is_jammed.Goals as goal

none : (n : ℕ) → nat_eq n 0 ≡ true → n ≡ 0
none n e = grind (arith, nat_tests)

pub returns : goal.returns
returns c = λ yes.
    jammed c.args.world.now.tables c.args.world.now.state (sym c.broken.ensures ∙ c.if-broken.false) (sym c.empty-is_quiet.ensures ∙ c.if-is_quiet.false)
    (sym c.enabled_count.ensures.count ∙ none c.enabled_count.result yes)
