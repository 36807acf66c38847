-- What an act leaves of the lines that a block keeps.
use Rattle.std.specs.Prelude.{◌≡◌, List, Option, Some, slice_set}
use Rattle.base.specs.declared.ids.CacheId.{CacheId}
use Rattle.cache_table.specs.declared.actions.CacheAction.{CacheAction}
use Rattle.cache_table.specs.declared.state.CacheState.{CacheState}
use Rattle.network.specs.Room.{Sends, Wiring}
use Rattle.control.specs.LineEffect.{line_after, line_completes, line_sends}
use Rattle.control.specs.declared.line.Line.{Line}
use Rattle.control.specs.declared.line.LineInput.{LineInput}
use Rattle.control.specs.declared.line.LineCompletion.{LineCompletion}

-- an input has acted at the line of a cache, which is kept from now on: what that is to send was sent, and this ask completed, if one did
pub record ActsAtLine (cache : CacheId) (input : LineInput) (next : CacheState) (actions : List CacheAction) (line : Line)
    (lines : List (Option Line)) (wires : Wiring) (completion : Option LineCompletion) (after : List (Option Line)) (left : Wiring) : Type 0 where
  pub done : completion ≡ line_completes input next line
  pub items : after ≡ slice_set lines cache.0 (Some (line_after input next line))
  pub sent : Sends (line_sends cache input actions line) wires left
