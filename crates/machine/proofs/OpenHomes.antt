-- What a request on its way to a home says of its cache, by state.
use Rattle.std.proofs.Common.{◌≡◌, ◌<◌, false, arith}
use Rattle.cache_table.specs.declared.state.CacheState.{CacheState}
use Rattle.cache_table.specs.declared.state.CacheState.TheVariants.{I, IsD, ImAd, ImA, S, SmAd, SmA, M, MiA, SiA, IiA, E}
use Rattle.machine.proofs.Truths.{Never}
use Rattle.machine.proofs.Views.{View, Local, HasFwdGetS}

pub open_shares : (s : CacheState) (v : View) → 0 < v.getm → Local s v → (v.owns ≡ false) × (v.fwd_gets ≡ 0) × (HasFwdGetS v.link → Never)
open_shares I v p h = grind (arith)
open_shares IsD v p h = grind (arith)
open_shares ImAd v p h = grind (arith)
open_shares ImA v p h = grind (arith)
open_shares S v p h = grind (arith)
open_shares SmAd v p h = grind (arith)
open_shares SmA v p h = grind (arith)
open_shares M v p h = grind (arith)
open_shares MiA v p h = grind (arith)
open_shares SiA v p h = grind (arith)
open_shares IiA v p h = grind (arith)
open_shares E v p h = grind (arith)

pub open_gets : (s : CacheState) (v : View) → 0 < v.gets → Local s v → (v.owns ≡ false) × (v.shares ≡ false)
open_gets I v p h = grind (arith)
open_gets IsD v p h = grind (arith)
open_gets ImAd v p h = grind (arith)
open_gets ImA v p h = grind (arith)
open_gets S v p h = grind (arith)
open_gets SmAd v p h = grind (arith)
open_gets SmA v p h = grind (arith)
open_gets M v p h = grind (arith)
open_gets MiA v p h = grind (arith)
open_gets SiA v p h = grind (arith)
open_gets IiA v p h = grind (arith)
open_gets E v p h = grind (arith)
