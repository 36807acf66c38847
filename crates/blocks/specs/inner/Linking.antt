-- What a step at a line leaves of the links of a block: all but one.
use Rattle.std.specs.Prelude.{◌≡◌, ℕ, List, [], Bool, slice_index_or, slice_set}
use Rattle.base.specs.declared.ids.CacheId.{CacheId}
use Rattle.network.specs.declared.message.Forward.{Forward}
use Rattle.machine.specs.declared.decision.Origin.{Origin}
use Rattle.machine.specs.declared.decision.Origin.TheVariants as origin
use Rattle.machine.specs.declared.decision.Decision.{Decision}
use Rattle.machine.specs.declared.decision.Decision.TheVariants.{Refused, AtLine, AtHome}
use Rattle.control.specs.declared.line.Line.{Line}
use Rattle.tables.specs.Tables.{Tables}
use Rattle.blocks.specs.Marking.{link_stalls, links_stall}

-- an input at the line of a cache comes from no other cache's link, and is no request
abbrev pub IsOwn : Origin → CacheId → Type 0
IsOwn (origin.Head link) cache = link.0 ≡ cache.0
IsOwn (origin.Request index) cache = ⊥
IsOwn other cache = Unit {0}

-- a cell acts at the line of this cache, on an input from no other cache's link
abbrev pub IsAtOwn : Decision → CacheId → Type 0
IsAtOwn (AtLine cache line input next actions from) own = (cache.0 ≡ own.0) × IsOwn from own
IsAtOwn (Refused what) own = ⊥
IsAtOwn (AtHome input next actions from) own = ⊥

-- of all links only that to a cache may be another
pub record IsRelinked (cache : ℕ) (old_marks : List (List Bool)) (old_links : List (List Forward)) (new_marks : List (List Bool))
    (new_links : List (List Forward)) : Type 0 where
  pub marks : new_marks ≡ slice_set old_marks cache (slice_index_or new_marks cache [])
  pub links : new_links ≡ slice_set old_links cache (slice_index_or new_links cache [])

-- the marks of all links but that to a cache are right, for these lines and what is on the links
abbrev pub AreRight : Tables → List Line → List (List Forward) → ℕ → List (List Bool) → Type 0
AreRight tables lines links cache marks =
    slice_set marks cache (link_stalls tables.cache lines cache (slice_index_or links cache [])) ≡ links_stall tables.cache lines 0 links
