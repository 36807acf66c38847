use Rattle.std.proofs.Common.{take, ◌+◌}
use Rattle.monitor.proofs.Violations.{none-safe, safe-none, first-before, first-behind, none-answered, answered-none}
use Rattle.monitor.proofs.safety.violations_are_what_isnt_safe.Goals as goal

pub returns-clause-none : goal.returns-clause-none
returns-clause-none c shape tables opening steps =
    (none-safe shape tables opening steps (c.blank_has_a_place.ensures tables), safe-none shape tables opening steps)

pub returns-clause-before : goal.returns-clause-before
returns-clause-before c shape tables opening steps number violation first =
    none-safe shape tables opening (take number steps) (c.blank_has_a_place.ensures tables) (first-before shape tables opening steps number violation first)

pub returns-clause-behind : goal.returns-clause-behind
returns-clause-behind c shape tables opening steps number violation first safe =
    first-behind shape tables opening steps number violation first (safe-none shape tables opening (take (number + 1) steps) safe)

pub returns-clause-answer : goal.returns-clause-answer
returns-clause-answer c shape tables opening steps found answers = (
  λ none. none-safe shape tables opening steps (c.blank_has_a_place.ensures tables) (answered-none shape tables opening steps found none answers),
  λ safe. none-answered shape tables opening steps found (safe-none shape tables opening steps safe) answers,
)
