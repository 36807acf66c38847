-- What comes of a cell's actions at a pair that is given up as soon as it isn't few any more, and what completes then.
use Rattle.std.specs.Prelude.{Option, Some, None, Bool, false, if◌then◌else◌}
use Rattle.cache_table.specs.declared.state.CacheState.{CacheState}
use Rattle.control.specs.LineEffect.{is_reader, is_modified}
use Rattle.pairs.specs.declared.side.Waiting.{Waiting}
use Rattle.pairs.specs.declared.side.Waiting.TheVariants as waiting_for
use Rattle.pairs.specs.declared.pair.Pair.{Pair}
use Rattle.pairs.specs.declared.steps.Rule.{Rule}
use Rattle.pairs.specs.declared.steps.Rule.TheVariants.{AsksLoad, AsksStore, AsksReplacement}
use Rattle.pairs.specs.declared.steps.Scene.{Scene}
use Rattle.pairs.specs.Pairs.{is_few}
use Rattle.pairs.specs.Sights.{resharing, stored, waiting}

-- a pair, if it is few
abbrev pub few_pair : Pair → Option Pair
few_pair p = if is_few p then Some p else None

-- a scene, if its pair is few
abbrev pub few_scene : Scene → Option Scene
few_scene s = if is_few s.pair then Some s else None

-- nobody shares from now on
abbrev pub unshared : Scene → Scene
unshared s = record (resharing s) {
  pair = record s.pair { first = record s.pair.first { shares = false }; second = record s.pair.second { shares = false } };
  third_shares = false;
}

-- whether a load completes on a message, where this waits, in the line's new state
abbrev pub wait_loads : Option Waiting → CacheState → Bool
wait_loads (Some waiting_for.Load) next = is_reader next
wait_loads other next = false

-- whether a load completes
abbrev pub loads : Rule → Option Waiting → CacheState → Bool
loads AsksLoad waits next = is_reader next
loads AsksStore waits next = false
loads AsksReplacement waits next = false
loads other waits next = wait_loads waits next

-- the pair after what waits completed, if it can
abbrev pub wait_done : Option Waiting → Pair → Pair
wait_done None p = p
wait_done (Some waiting_for.Load) p = if is_reader p.first.state then waiting None p else p
wait_done (Some waiting_for.Store) p = if is_modified p.first.state then stored (waiting None p) else p

-- the pair after an ask completed, or waits from now on, or what waits completed
abbrev pub done : Rule → Pair → Pair
done AsksLoad p = if is_reader p.first.state then p else waiting (Some waiting_for.Load) p
done AsksStore p = if is_modified p.first.state then stored p else waiting (Some waiting_for.Store) p
done AsksReplacement p = p
done other p = wait_done p.first.waits p
