-- No response is answered, by state.
use Rattle.std.proofs.Common.{◌≡◌, [], arith}
use Rattle.cache_table.specs.declared.state.CacheState.{CacheState}
use Rattle.cache_table.specs.declared.state.CacheState.TheVariants.{I, IsD, ImAd, ImA, S, SmAd, SmA, M, MiA, SiA, IiA, E}
use Rattle.cache_table.specs.declared.event.CacheEvent.TheVariants as event
use Rattle.cache_table.specs.Table.{CacheEntry}
use Rattle.cache_table.specs.Baseline.{msi_e_entry}
use Rattle.base.specs.declared.controller.entry.CellEntry.TheVariants.{Blank, Stall, Act}

-- a response is answered by nothing
abbrev pub QuietRule : CacheEntry → Type 0
QuietRule Blank = Unit {0}
QuietRule Stall = Unit {0}
QuietRule (Act next actions) = actions ≡ []

pub data_zero_quiet : (s : CacheState) → QuietRule (msi_e_entry s event.DataDirZero)
data_zero_quiet I = grind (arith)
data_zero_quiet IsD = grind (arith)
data_zero_quiet ImAd = grind (arith)
data_zero_quiet ImA = grind (arith)
data_zero_quiet S = grind (arith)
data_zero_quiet SmAd = grind (arith)
data_zero_quiet SmA = grind (arith)
data_zero_quiet M = grind (arith)
data_zero_quiet MiA = grind (arith)
data_zero_quiet SiA = grind (arith)
data_zero_quiet IiA = grind (arith)
data_zero_quiet E = grind (arith)

pub data_more_quiet : (s : CacheState) → QuietRule (msi_e_entry s event.DataDirMore)
data_more_quiet I = grind (arith)
data_more_quiet IsD = grind (arith)
data_more_quiet ImAd = grind (arith)
data_more_quiet ImA = grind (arith)
data_more_quiet S = grind (arith)
data_more_quiet SmAd = grind (arith)
data_more_quiet SmA = grind (arith)
data_more_quiet M = grind (arith)
data_more_quiet MiA = grind (arith)
data_more_quiet SiA = grind (arith)
data_more_quiet IiA = grind (arith)
data_more_quiet E = grind (arith)

pub data_owner_quiet : (s : CacheState) → QuietRule (msi_e_entry s event.DataOwner)
data_owner_quiet I = grind (arith)
data_owner_quiet IsD = grind (arith)
data_owner_quiet ImAd = grind (arith)
data_owner_quiet ImA = grind (arith)
data_owner_quiet S = grind (arith)
data_owner_quiet SmAd = grind (arith)
data_owner_quiet SmA = grind (arith)
data_owner_quiet M = grind (arith)
data_owner_quiet MiA = grind (arith)
data_owner_quiet SiA = grind (arith)
data_owner_quiet IiA = grind (arith)
data_owner_quiet E = grind (arith)

pub data_excl_quiet : (s : CacheState) → QuietRule (msi_e_entry s event.DataDirExcl)
data_excl_quiet I = grind (arith)
data_excl_quiet IsD = grind (arith)
data_excl_quiet ImAd = grind (arith)
data_excl_quiet ImA = grind (arith)
data_excl_quiet S = grind (arith)
data_excl_quiet SmAd = grind (arith)
data_excl_quiet SmA = grind (arith)
data_excl_quiet M = grind (arith)
data_excl_quiet MiA = grind (arith)
data_excl_quiet SiA = grind (arith)
data_excl_quiet IiA = grind (arith)
data_excl_quiet E = grind (arith)

pub inv_ack_quiet : (s : CacheState) → QuietRule (msi_e_entry s event.InvAck)
inv_ack_quiet I = grind (arith)
inv_ack_quiet IsD = grind (arith)
inv_ack_quiet ImAd = grind (arith)
inv_ack_quiet ImA = grind (arith)
inv_ack_quiet S = grind (arith)
inv_ack_quiet SmAd = grind (arith)
inv_ack_quiet SmA = grind (arith)
inv_ack_quiet M = grind (arith)
inv_ack_quiet MiA = grind (arith)
inv_ack_quiet SiA = grind (arith)
inv_ack_quiet IiA = grind (arith)
inv_ack_quiet E = grind (arith)

pub last_ack_quiet : (s : CacheState) → QuietRule (msi_e_entry s event.LastInvAck)
last_ack_quiet I = grind (arith)
last_ack_quiet IsD = grind (arith)
last_ack_quiet ImAd = grind (arith)
last_ack_quiet ImA = grind (arith)
last_ack_quiet S = grind (arith)
last_ack_quiet SmAd = grind (arith)
last_ack_quiet SmA = grind (arith)
last_ack_quiet M = grind (arith)
last_ack_quiet MiA = grind (arith)
last_ack_quiet SiA = grind (arith)
last_ack_quiet IiA = grind (arith)
last_ack_quiet E = grind (arith)
