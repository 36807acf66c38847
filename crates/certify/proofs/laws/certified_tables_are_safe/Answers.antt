use Rattle.std.proofs.Common.{ℕ, ◌⊎◌, inl, inr}
use Rattle.tables.specs.Tables.{Tables}
use Rattle.machine.specs.Going.{AreNeverStuck, KeepsGoing}
use Rattle.machine.specs.Restraint.{AreRestrained}
use Rattle.closing.specs.Blamed.{HasFlow}
use Rattle.closing.specs.declared.deciding.Flow.{Flow}
use Rattle.closing.specs.declared.deciding.Flow.TheVariants as by_pairs
use Rattle.certify.specs.Certificates.{HasClosed, IsCertificate, SaysSafe, SaysFlowing, SaysNeverStuck}
use Rattle.certify.specs.declared.certifying.Certificate.{Certificate}
use Rattle.certify.specs.declared.certifying.Certificate.TheVariants.{NotProved, ClosedPairs, NeverStuck, AsksMayBeHeld, MessagesMayGetStuck}
use Rattle.certify.proofs.laws.certified_tables_are_safe.Goals as goal

-- closed pairs of tables, and what ranked ones show
abbrev Shown : Tables → Flow → Type 0
Shown tables flow = (count : ℕ) × HasClosed tables count × HasFlow tables flow

-- an answer that says that messages flow says so of restrained tables that keep going, or by ranked pairs
abbrev Flows : Tables → Type 0
Flows tables = (AreRestrained tables × KeepsGoing tables) ⊎ Shown tables by_pairs.NeverStuck ⊎ Shown tables by_pairs.AsksMayBeHeld

says-flowing : (tables : Tables) (x : Certificate) → IsCertificate tables x → SaysFlowing x → Flows tables
says-flowing tables (NotProved cell refusal) h said = absurd said
says-flowing tables (ClosedPairs cell count by_pairs.NeverStuck) h said = inr (inl (count, h.1, h.2))
says-flowing tables (ClosedPairs cell count by_pairs.AsksMayBeHeld) h said = inr (inr (count, h.1, h.2))
says-flowing tables (ClosedPairs cell count by_pairs.MessagesMayGetStuck) h said = absurd said
says-flowing tables NeverStuck h said = inl (h.restrained, h.going)
says-flowing tables (AsksMayBeHeld cell) h said = inl (h.0, h.1)
says-flowing tables (MessagesMayGetStuck cell) h said = absurd said

says-never_stuck : (tables : Tables) (x : Certificate) → IsCertificate tables x → SaysNeverStuck x → AreNeverStuck tables ⊎ Shown tables by_pairs.NeverStuck
says-never_stuck tables (NotProved cell refusal) h said = absurd said
says-never_stuck tables (ClosedPairs cell count by_pairs.NeverStuck) h said = inr (count, h.1, h.2)
says-never_stuck tables (ClosedPairs cell count by_pairs.AsksMayBeHeld) h said = absurd said
says-never_stuck tables (ClosedPairs cell count by_pairs.MessagesMayGetStuck) h said = absurd said
says-never_stuck tables NeverStuck h said = inl h
says-never_stuck tables (AsksMayBeHeld cell) h said = absurd said
says-never_stuck tables (MessagesMayGetStuck cell) h said = absurd said

-- what says safe is said of restrained tables, or of such with closed pairs
says-closed : (tables : Tables) (x : Certificate) → IsCertificate tables x → SaysSafe x → AreRestrained tables ⊎ ((count : ℕ) × HasClosed tables count)
says-closed tables (NotProved cell refusal) h said = absurd said
says-closed tables (ClosedPairs cell count flow) h said = inr (count, h.1)
says-closed tables NeverStuck h said = inl h.restrained
says-closed tables (AsksMayBeHeld cell) h said = inl h.0
says-closed tables (MessagesMayGetStuck cell) h said = inl h.0

pub returns-clause-safe : goal.returns-clause-safe
returns-clause-safe c tables certificate shape opening steps certified said within long = elim (says-closed tables certificate certified said) [
  | inl restrained ↦ c.restrained_tables_are_safe.ensures.safe tables shape opening steps restrained within long
  | inr found ↦ c.closed_tables_are_safe.ensures.safe tables found.1.pairs shape opening steps found.1.closed within long
]

pub returns-clause-flowing : goal.returns-clause-flowing
returns-clause-flowing c tables certificate shape opening steps certified said within long = elim (says-flowing tables certificate certified said) [
  | inl keeps ↦ c.restrained_tables_are_unstuck.ensures.flowing tables shape opening steps keeps.0 keeps.1 within long
  | inr (inl never) ↦
      c.blamed_tables_are_unstuck.ensures.flowing tables never.1.pairs never.2.0 shape opening steps never.1.closed never.2.1 within long
  | inr (inr held) ↦ c.blamed_tables_are_unstuck.ensures.flowing tables held.1.pairs held.2.0 shape opening steps held.1.closed held.2.1 within long
]

pub returns-clause-unstuck : goal.returns-clause-unstuck
returns-clause-unstuck c tables certificate shape opening steps certified said within long = elim (says-never_stuck tables certificate certified said) [
  | inl never ↦ c.restrained_tables_are_unstuck.ensures.unstuck tables shape opening steps never within long
  | inr shown ↦
      c.blamed_tables_are_unstuck.ensures.unstuck tables shown.1.pairs shown.2.0 shape opening steps shown.1.closed shown.2.1 shown.2.2 within long
]
