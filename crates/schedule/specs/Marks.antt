-- Marks made anew, and what they say can be put.
use Rattle.std.specs.Prelude.{◌≡◌, ℕ, ◌+◌, ◌==◌, Bool, not, ◌&&◌, if◌then◌else◌, List, [], ◌∷◌, ◌++◌, map}
use Rattle.base.specs.declared.ids.BlockId.{BlockId}
use Rattle.base.specs.declared.ids.CacheId.{CacheId}
use Rattle.base.specs.declared.step.Ask.{Ask}
use Rattle.base.specs.declared.step.CoreAsk.{CoreAsk}
use Rattle.base.specs.declared.step.Step.TheVariants as step
use Rattle.blocks.specs.Asking.{holds}
use Rattle.blocks.specs.declared.block.asking.HeldAsks.{HeldAsks}
use Rattle.tables.specs.Tables.{Tables}
use Rattle.machine.specs.Machine.{State}
use Rattle.world.specs.Looks.{held_at}
use Rattle.cores.specs.Cores.{Core, is_free}
use Rattle.schedule.specs.Listed.{Listed, is_unheld}
use Rattle.schedule.specs.declared.choosing.Choice.{Choice}
use Rattle.schedule.specs.declared.choosing.Choice.TheVariants.{Offer}

-- the asks with right marks
abbrev pub all_marked : Tables → State → Listed → Listed
all_marked tables state l = record { asks = l.asks; unheld = map (is_unheld tables state) l.asks }

-- an ask is this core's, and about this block
abbrev pub is_at : CacheId → BlockId → CoreAsk → Bool
is_at core block ask = (ask.core.0 == core.0) && (ask.block.0 == block.0)

-- these of a core's asks about a block would be held
abbrev pub AreHeldAt : Tables → State → CacheId → BlockId → HeldAsks → Type 0
AreHeldAt tables state core block held = (ask : Ask) → holds held ask ≡ held_at tables state (step.Ask core block ask)

-- the mark of an ask, where these are held
abbrev pub mark_by : HeldAsks → CoreAsk → Bool
mark_by held ask = not (holds held ask.ask)

-- the marks, with those of a core's asks about a block made anew, of which these are held
abbrev pub marks_by : HeldAsks → CacheId → BlockId → List CoreAsk → List Bool → List Bool
marks_by held core block [] marks = marks
marks_by held core block (ask ∷ asks) [] = []
marks_by held core block (ask ∷ asks) (mark ∷ marks) =
    (if is_at core block ask then mark_by held ask else mark) ∷ marks_by held core block asks marks

abbrev pub marked_by : HeldAsks → CacheId → BlockId → Listed → Listed
marked_by held core block l = record { asks = l.asks; unheld = marks_by held core block l.asks l.unheld }

-- the offers whose core is free and whose mark says that they wouldn't be held, of those from a number on
abbrev pub offers_by : List Core → ℕ → List CoreAsk → List Bool → List Choice
offers_by cores i [] marks = []
offers_by cores i (ask ∷ asks) [] = []
offers_by cores i (ask ∷ asks) (mark ∷ marks) =
    (if is_free cores ask.core.0 && mark then Offer i ask ∷ [] else []) ++ offers_by cores (i + 1) asks marks
