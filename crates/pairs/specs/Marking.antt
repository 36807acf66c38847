-- Pairs whose links have a mark for each place, and what steps lead to from there.
use Rattle.std.specs.Prelude.{◌≡◌, true, length, ⊤}
use Rattle.pairs.specs.declared.pair.Pair.{Pair}
use Rattle.pairs.specs.declared.steps.Sight.{Sight}
use Rattle.pairs.specs.declared.steps.Sight.TheVariants.{Seen}
use Rattle.pairs.specs.Pairs.{is_few}

-- of each place of both links it is told whether it names the other cache
pub record IsMarked (p : Pair) : Type 0 where
  pub first : length p.first_names ≡ length p.first.link
  pub second : length p.second_names ≡ length p.second.link

-- a pair from which steps can be followed: it has no more of each message than is followed, and marks for its links
abbrev pub CanBeFollowed : Pair → Type 0
CanBeFollowed p = (is_few p ≡ true) × IsMarked p

-- a pair that is seen can be followed again
abbrev pub IsFollowed : Sight → Type 0
IsFollowed (Seen concerned p) = CanBeFollowed p
IsFollowed other = ⊤

-- what is seen is this, and can be followed again
abbrev pub IsFollowedAs : Sight → Sight → Type 0
IsFollowedAs told sight = (sight ≡ told) × IsFollowed sight
