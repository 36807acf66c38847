-- What a step came to: its outcome, and what a cell did, if one acted.
use Rattle.std.specs.Prelude.{◌≡◌, Option, Some, None, Bool, ◌&&◌, if◌then◌else◌, nat_lt, count_by, slice_get}
use Rattle.std.specs.Option.{option_map}
use Rattle.base.specs.Steps.{block_of}
use Rattle.base.specs.declared.ids.Place.{Place}
use Rattle.base.specs.declared.ids.Place.TheVariants.{Dir, Cache}
use Rattle.base.specs.declared.step.Step.{Step}
use Rattle.base.specs.declared.step.Outcome.{Outcome}
use Rattle.base.specs.declared.step.Outcome.TheVariants.{Absent, Broken}
use Rattle.control.specs.LineEffect.{is_reader, is_writer}
use Rattle.tables.specs.Tables.{Tables}
use Rattle.machine.specs.declared.decision.Decision.{Decision}
use Rattle.machine.specs.declared.decision.Decision.TheVariants.{Refused, AtLine, AtHome}
use Rattle.machine.specs.declared.made.Made.{Made}
use Rattle.machine.specs.declared.made.Acted.{Acted}
use Rattle.machine.specs.declared.made.Actor.{Actor}
use Rattle.machine.specs.declared.made.Actor.TheVariants.{Home, Line}
use Rattle.machine.specs.Block.{BlockState}
use Rattle.machine.specs.Transition.{decision_of, transition}
use Rattle.machine.specs.Machine.{State, next}

-- whether more than one cache may read a block, and one may write it
abbrev pub is_crowded : BlockState → Bool
is_crowded b = nat_lt 1 (count_by (λ line. is_reader line.state) b.lines) && nat_lt 0 (count_by (λ line. is_writer line.state) b.lines)

-- what a decision has a cell do, if one acts, where its block is crowded after it or isn't
abbrev pub acted_by : Decision → Bool → Option Acted
acted_by (Refused what) crowded = None
acted_by (AtLine cache line input next actions from) crowded = Some (record { by = Line cache line.state next; crowded = crowded })
acted_by (AtHome input next actions from) crowded = Some (record { by = Home; crowded = crowded })

-- what a step came to that no cell acted on
abbrev pub refused : Outcome → Made
refused what = record { outcome = what; acted = None }

-- what a step comes to at its block
abbrev pub made_at : Tables → Step → BlockState → Made
made_at tables step b = record {
  outcome = (transition tables step b).outcome;
  acted = acted_by (decision_of tables step b) (is_crowded (transition tables step b).block);
}

-- the same, if the block is there
abbrev pub made_in : Tables → Step → Option BlockState → Made
made_in tables step None = refused Absent
made_in tables step (Some b) = made_at tables step b

-- what a step comes to in a state
abbrev pub made_of : Tables → State → Step → Made
made_of tables s step = if s.broken then refused Broken else made_in tables step (slice_get s.blocks (block_of step))

-- the controller whose cell acted
abbrev pub actor_place : Actor → Place
actor_place Home = Dir
actor_place (Line cache before after) = Cache cache

-- the same, if one did
abbrev pub place_of : Made → Option Place
place_of made = option_map (λ (acted : Acted). actor_place acted.by) made.acted

-- a step has led from a state to another one, and it is told what it came to
pub record IsTold (tables : Tables) (before : State) (step : Step) (made : Made) (behind : State) : Type 0 where
  pub told : made ≡ made_of tables before step
  pub state : behind ≡ (next tables before step).state

-- the same, whatever state it was
abbrev pub WasTold : Tables → Step → Made → State → Type 0
WasTold tables step made behind = (before : State) × IsTold tables before step made behind
