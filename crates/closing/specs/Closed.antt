-- Sets of pairs that no step leaves.
use Rattle.std.specs.Prelude.{◌≡◌, List, [], ◌∷◌, Bool, true, false, not, ◌&&◌, IsTrue, Contains}
use Rattle.control.specs.LineEffect.{is_reader, is_writer}
use Rattle.tables.specs.Tables.{Tables}
use Rattle.pairs.specs.declared.link.LinkPlace.{LinkPlace}
use Rattle.pairs.specs.declared.pair.Pair.{Pair}
use Rattle.pairs.specs.Pairs.{swapped, opened_pair, fits}
use Rattle.pairs.specs.declared.steps.Party.{Party}
use Rattle.pairs.specs.declared.steps.Rule.{Rule}
use Rattle.pairs.specs.declared.steps.Sight.{Sight}
use Rattle.pairs.specs.declared.steps.Party.TheVariants.{Nobody, Second, Third}
use Rattle.pairs.specs.declared.steps.Sight.TheVariants.{Unmoved, Lost, Spoilt, Seen}
use Rattle.pairs.specs.Sights.{sight, home_data_seen}

-- what comes of a pair is one of these pairs; where the step concerns a third cache, that cache's own pair is looked at
abbrev pub StaysIn : List Pair → Sight → Type 0
StaysIn pairs Unmoved = Unit {0}
StaysIn pairs Lost = ⊥
StaysIn pairs (Spoilt Third) = Unit {0}
StaysIn pairs (Spoilt concerned) = ⊥
StaysIn pairs (Seen Third p) = Unit {0}
StaysIn pairs (Seen concerned p) = Contains pairs p

-- no place of a link is marked twice
abbrev pub are_apart : List Bool → List Bool → Bool
are_apart [] others = true
are_apart (mark ∷ marks) [] = true
are_apart (mark ∷ marks) (other ∷ others) = not (mark && other) && are_apart marks others

-- three pairs of three caches, the first with the second and the third, and these two with each other
pub record Meet (p q r : Pair) : Type 0 where
  pub shared : p.shared ≡ q.shared
  pub shared_too : p.shared ≡ r.shared
  pub first : p.first ≡ q.first
  pub second : p.second ≡ r.first
  pub third : q.second ≡ r.second
  pub apart : IsTrue (are_apart p.first_names q.first_names)

-- marks for a link that may have grown at its end: no later place is marked
abbrev pub lengthened : List LinkPlace → List Bool → List Bool
lengthened [] marks = []
lengthened (x ∷ xs) [] = false ∷ lengthened xs []
lengthened (x ∷ xs) (mark ∷ marks) = mark ∷ lengthened xs marks

-- the two that don't act, after a step that made these two pairs: what came onto their links names the one that acts
abbrev pub glued : Pair → Pair → Pair → Pair
glued p q r = record {
  shared = p.shared;
  first = p.second;
  second = q.second;
  first_names = lengthened p.second.link r.first_names;
  second_names = lengthened q.second.link r.second_names;
}

-- whom one step may concern in two pairs: nobody in both, a third cache in both, or the one cache that is in one of the pairs alone
abbrev pub AreAlike : Party → Party → Type 0
AreAlike Nobody Nobody = Unit {0}
AreAlike Third Third = Unit {0}
AreAlike Second Third = Unit {0}
AreAlike Third Second = Unit {0}
AreAlike one other = ⊥

-- the pair of a cache that the step doesn't concern is one of these too, where the other one is concerned
abbrev pub KeepsUnconcerned : List Pair → Party → Party → Pair → Pair → Type 0
KeepsUnconcerned pairs Second Third p q = Contains pairs q
KeepsUnconcerned pairs Third Second p q = Contains pairs p
KeepsUnconcerned pairs one other p q = Unit {0}

-- the pairs are closed under the steps of these tables
pub record Closed (tables : Tables) (pairs : List Pair) : Type 0 where
  pub opened : Contains pairs opened_pair
  pub turned : (p : Pair) → Contains pairs p → Contains pairs (swapped p)
  pub single : (p : Pair) → Contains pairs p → is_writer p.first.state ≡ true → is_reader p.second.state ≡ false
  pub steps : (p : Pair) (rule : Rule) (guess : Bool) → Contains pairs p → StaysIn pairs (sight tables rule guess p)
  pub home_data : (p : Pair) (third_shares : Bool) → Contains pairs p → StaysIn pairs (home_data_seen tables third_shares p)
  pub unconcerned : (p q r : Pair) (rule : Rule) (t u : Bool) (one other : Party) (p2 q2 : Pair) → Contains pairs p → Contains pairs q → Contains pairs r →
      Meet p q r → AreAlike one other → sight tables rule t p ≡ Seen one p2 → sight tables rule u q ≡ Seen other q2 → p2.shared ≡ q2.shared →
      p2.first ≡ q2.first → KeepsUnconcerned pairs one other p2 q2
  pub glue : (p q r : Pair) (rule : Rule) (t u : Bool) (one other : Party) (p2 q2 : Pair) → Contains pairs p → Contains pairs q → Contains pairs r →
      Meet p q r → AreAlike one other → sight tables rule t p ≡ Seen one p2 → sight tables rule u q ≡ Seen other q2 → p2.shared ≡ q2.shared →
      p2.first ≡ q2.first → IsTrue (fits (glued p2 q2 r)) → Contains pairs (glued p2 q2 r)
