-- Where the latest value of a block is, by state and cell.
use Rattle.std.proofs.Common.{◌≡◌, ℕ, ◌+◌, ◌<◌, true, List, ◌∷◌, ◌⊎◌, arith, Option, Some, None, ℤ}
use Rattle.base.specs.declared.step.Ask.{Ask}
use Rattle.base.specs.declared.step.Ask.TheVariants as ask
use Rattle.network.specs.declared.message.ForwardKind.{ForwardKind}
use Rattle.network.specs.declared.message.ForwardKind.TheVariants.{FwdGetS, FwdGetM}
use Rattle.cache_table.specs.declared.state.CacheState.{CacheState}
use Rattle.cache_table.specs.declared.state.CacheState.TheVariants.{I, IsD, ImAd, ImA, S, SmAd, SmA, M, MiA, SiA, IiA, E}
use Rattle.cache_table.specs.declared.event.CacheEvent.{CacheEvent}
use Rattle.cache_table.specs.declared.event.CacheEvent.TheVariants as event
use Rattle.cache_table.specs.Table.{CacheEntry}
use Rattle.base.specs.declared.controller.entry.CellEntry.TheVariants.{Blank, Stall, Act}
use Rattle.cache_table.specs.Baseline.{msi_e_entry}
use Rattle.control.specs.declared.line.Line.{Line}
use Rattle.control.specs.declared.line.LineInput.{LineInput}
use Rattle.control.specs.declared.line.LineCompletion.{LineCompletion}
use Rattle.control.specs.declared.line.LineCompletion.TheVariants as done
use Rattle.control.specs.LineEffect.{settled, pending_completed, after_settling, after_message}
use Rattle.machine.proofs.Truths.{Always, Never}
use Rattle.machine.specs.Transition.{latest_after}
use Rattle.machine.proofs.Views.{View, Local, Holds, HasInv, HasFwdGetS, NoRequest, NoPut, Apart}

-- the line's value is the latest, where a cache in this state is seen so
abbrev pub HasValue : CacheState → View → Type 0
HasValue S v = Always
HasValue SmAd v = Always
HasValue SmA v = Always
HasValue M v = Always
HasValue E v = Always
HasValue MiA v = Holds MiA v
HasValue other v = Never

-- what is pending at a line in this state
abbrev pub Waits : CacheState → Option Ask → Type 0
Waits IsD p = p ≡ Some ask.Load
Waits ImAd p = (x : ℕ) × (p ≡ Some (ask.Store x))
Waits ImA p = (x : ℕ) × (p ≡ Some (ask.Store x))
Waits SmAd p = (x : ℕ) × (p ≡ Some (ask.Store x))
Waits SmA p = (x : ℕ) × (p ≡ Some (ask.Store x))
Waits other p = p ≡ None

-- a load gives the latest value
abbrev pub LoadFits : ℕ → Option LineCompletion → Type 0
LoadFits latest (Some (done.Load x)) = x ≡ latest
LoadFits latest other = Unit {0}

-- a store completes in M alone
abbrev pub StoredIn : CacheState → Option LineCompletion → Type 0
StoredIn next (Some (done.Store x)) = next ≡ M
StoredIn next other = Unit {0}

-- what a line and its completion are once an input has acted
pub record Settles (next : CacheState) (latest : ℕ) (line : Line) (completion : Option LineCompletion) : Type 0 where
  pub waits : Waits next line.pending
  pub fits : LoadFits latest completion
  pub stored : StoredIn next completion
  pub value : (w : View) → HasValue next w → line.value ≡ latest_after completion latest

-- a line in this state, with this value, these acks and this ask that waits
abbrev pub line_in : CacheState → ℕ → ℤ → Option Ask → Line
line_in state value acks p = record { state = state; value = value; acks = acks; pending = p }

-- what an input settles
abbrev pub SettleRule : LineInput → ℕ → ℤ → Option Ask → ℕ → CacheEntry → Type 0
SettleRule input value acks p latest Blank = Unit {0}
SettleRule input value acks p latest Stall = Unit {0}
SettleRule input value acks p latest (Act next actions) =
    Settles next latest (after_settling input (settled input (line_in next value acks p)) (line_in next value acks p))
    (settled input (line_in next value acks p))

-- a delivery settles what is pending
abbrev pub DeliverRule : ℕ → ℤ → Option Ask → ℕ → CacheEntry → Type 0
DeliverRule value acks p latest Blank = Unit {0}
DeliverRule value acks p latest Stall = Unit {0}
DeliverRule value acks p latest (Act next actions) =
    Settles next latest (after_message (pending_completed p (line_in next value acks p)) (line_in next value acks p))
    (pending_completed p (line_in next value acks p))

-- who serves a forward has the latest value
abbrev pub ValueRule : CacheState → View → CacheEntry → Type 0
ValueRule s v Blank = Unit {0}
ValueRule s v Stall = Unit {0}
ValueRule s v (Act next actions) = HasValue s v

pub fwd_gets_value : (s : CacheState) (v : View) (rest : List ForwardKind) → v.link ≡ FwdGetS ∷ rest → Local s v →
    ValueRule s v (msi_e_entry s event.FwdGetS)
fwd_gets_value I v rest l h = grind (arith)
fwd_gets_value IsD v rest l h = grind (arith)
fwd_gets_value ImAd v rest l h = grind (arith)
fwd_gets_value ImA v rest l h = grind (arith)
fwd_gets_value S v rest l h = grind (arith)
fwd_gets_value SmAd v rest l h = grind (arith)
fwd_gets_value SmA v rest l h = grind (arith)
fwd_gets_value M v rest l h = grind (arith)
fwd_gets_value MiA v rest l h = grind (arith)
fwd_gets_value SiA v rest l h = grind (arith)
fwd_gets_value IiA v rest l h = grind (arith)
fwd_gets_value E v rest l h = grind (arith)

pub fwd_getm_value : (s : CacheState) (v : View) (rest : List ForwardKind) → v.link ≡ FwdGetM ∷ rest → Local s v →
    ValueRule s v (msi_e_entry s event.FwdGetM)
fwd_getm_value I v rest l h = grind (arith)
fwd_getm_value IsD v rest l h = grind (arith)
fwd_getm_value ImAd v rest l h = grind (arith)
fwd_getm_value ImA v rest l h = grind (arith)
fwd_getm_value S v rest l h = grind (arith)
fwd_getm_value SmAd v rest l h = grind (arith)
fwd_getm_value SmA v rest l h = grind (arith)
fwd_getm_value M v rest l h = grind (arith)
fwd_getm_value MiA v rest l h = grind (arith)
fwd_getm_value SiA v rest l h = grind (arith)
fwd_getm_value IiA v rest l h = grind (arith)
fwd_getm_value E v rest l h = grind (arith)

-- a line that comes to MI^A has the latest value, and no PutM on its way
abbrev pub PutRule : CacheState → View → CacheEntry → Type 0
PutRule s v Blank = Unit {0}
PutRule s v Stall = Unit {0}
PutRule s v (Act next actions) = next ≡ MiA → (v.putm ≡ 0) × HasValue s v

pub put_rule : (s : CacheState) (e : CacheEvent) (v : View) → Local s v → PutRule s v (msi_e_entry s e)
put_rule I event.Load v h = grind (arith)
put_rule I event.Store v h = grind (arith)
put_rule I event.Replacement v h = grind (arith)
put_rule I event.FwdGetS v h = grind (arith)
put_rule I event.FwdGetM v h = grind (arith)
put_rule I event.Inv v h = grind (arith)
put_rule I event.PutAck v h = grind (arith)
put_rule I event.DataDirZero v h = grind (arith)
put_rule I event.DataDirMore v h = grind (arith)
put_rule I event.DataOwner v h = grind (arith)
put_rule I event.InvAck v h = grind (arith)
put_rule I event.LastInvAck v h = grind (arith)
put_rule I event.DataDirExcl v h = grind (arith)
put_rule IsD event.Load v h = grind (arith)
put_rule IsD event.Store v h = grind (arith)
put_rule IsD event.Replacement v h = grind (arith)
put_rule IsD event.FwdGetS v h = grind (arith)
put_rule IsD event.FwdGetM v h = grind (arith)
put_rule IsD event.Inv v h = grind (arith)
put_rule IsD event.PutAck v h = grind (arith)
put_rule IsD event.DataDirZero v h = grind (arith)
put_rule IsD event.DataDirMore v h = grind (arith)
put_rule IsD event.DataOwner v h = grind (arith)
put_rule IsD event.InvAck v h = grind (arith)
put_rule IsD event.LastInvAck v h = grind (arith)
put_rule IsD event.DataDirExcl v h = grind (arith)
put_rule ImAd event.Load v h = grind (arith)
put_rule ImAd event.Store v h = grind (arith)
put_rule ImAd event.Replacement v h = grind (arith)
put_rule ImAd event.FwdGetS v h = grind (arith)
put_rule ImAd event.FwdGetM v h = grind (arith)
put_rule ImAd event.Inv v h = grind (arith)
put_rule ImAd event.PutAck v h = grind (arith)
put_rule ImAd event.DataDirZero v h = grind (arith)
put_rule ImAd event.DataDirMore v h = grind (arith)
put_rule ImAd event.DataOwner v h = grind (arith)
put_rule ImAd event.InvAck v h = grind (arith)
put_rule ImAd event.LastInvAck v h = grind (arith)
put_rule ImAd event.DataDirExcl v h = grind (arith)
put_rule ImA event.Load v h = grind (arith)
put_rule ImA event.Store v h = grind (arith)
put_rule ImA event.Replacement v h = grind (arith)
put_rule ImA event.FwdGetS v h = grind (arith)
put_rule ImA event.FwdGetM v h = grind (arith)
put_rule ImA event.Inv v h = grind (arith)
put_rule ImA event.PutAck v h = grind (arith)
put_rule ImA event.DataDirZero v h = grind (arith)
put_rule ImA event.DataDirMore v h = grind (arith)
put_rule ImA event.DataOwner v h = grind (arith)
put_rule ImA event.InvAck v h = grind (arith)
put_rule ImA event.LastInvAck v h = grind (arith)
put_rule ImA event.DataDirExcl v h = grind (arith)
put_rule S event.Load v h = grind (arith)
put_rule S event.Store v h = grind (arith)
put_rule S event.Replacement v h = grind (arith)
put_rule S event.FwdGetS v h = grind (arith)
put_rule S event.FwdGetM v h = grind (arith)
put_rule S event.Inv v h = grind (arith)
put_rule S event.PutAck v h = grind (arith)
put_rule S event.DataDirZero v h = grind (arith)
put_rule S event.DataDirMore v h = grind (arith)
put_rule S event.DataOwner v h = grind (arith)
put_rule S event.InvAck v h = grind (arith)
put_rule S event.LastInvAck v h = grind (arith)
put_rule S event.DataDirExcl v h = grind (arith)
put_rule SmAd event.Load v h = grind (arith)
put_rule SmAd event.Store v h = grind (arith)
put_rule SmAd event.Replacement v h = grind (arith)
put_rule SmAd event.FwdGetS v h = grind (arith)
put_rule SmAd event.FwdGetM v h = grind (arith)
put_rule SmAd event.Inv v h = grind (arith)
put_rule SmAd event.PutAck v h = grind (arith)
put_rule SmAd event.DataDirZero v h = grind (arith)
put_rule SmAd event.DataDirMore v h = grind (arith)
put_rule SmAd event.DataOwner v h = grind (arith)
put_rule SmAd event.InvAck v h = grind (arith)
put_rule SmAd event.LastInvAck v h = grind (arith)
put_rule SmAd event.DataDirExcl v h = grind (arith)
put_rule SmA event.Load v h = grind (arith)
put_rule SmA event.Store v h = grind (arith)
put_rule SmA event.Replacement v h = grind (arith)
put_rule SmA event.FwdGetS v h = grind (arith)
put_rule SmA event.FwdGetM v h = grind (arith)
put_rule SmA event.Inv v h = grind (arith)
put_rule SmA event.PutAck v h = grind (arith)
put_rule SmA event.DataDirZero v h = grind (arith)
put_rule SmA event.DataDirMore v h = grind (arith)
put_rule SmA event.DataOwner v h = grind (arith)
put_rule SmA event.InvAck v h = grind (arith)
put_rule SmA event.LastInvAck v h = grind (arith)
put_rule SmA event.DataDirExcl v h = grind (arith)
put_rule M event.Load v h = grind (arith)
put_rule M event.Store v h = grind (arith)
put_rule M event.Replacement v h = grind (arith)
put_rule M event.FwdGetS v h = grind (arith)
put_rule M event.FwdGetM v h = grind (arith)
put_rule M event.Inv v h = grind (arith)
put_rule M event.PutAck v h = grind (arith)
put_rule M event.DataDirZero v h = grind (arith)
put_rule M event.DataDirMore v h = grind (arith)
put_rule M event.DataOwner v h = grind (arith)
put_rule M event.InvAck v h = grind (arith)
put_rule M event.LastInvAck v h = grind (arith)
put_rule M event.DataDirExcl v h = grind (arith)
put_rule MiA event.Load v h = grind (arith)
put_rule MiA event.Store v h = grind (arith)
put_rule MiA event.Replacement v h = grind (arith)
put_rule MiA event.FwdGetS v h = grind (arith)
put_rule MiA event.FwdGetM v h = grind (arith)
put_rule MiA event.Inv v h = grind (arith)
put_rule MiA event.PutAck v h = grind (arith)
put_rule MiA event.DataDirZero v h = grind (arith)
put_rule MiA event.DataDirMore v h = grind (arith)
put_rule MiA event.DataOwner v h = grind (arith)
put_rule MiA event.InvAck v h = grind (arith)
put_rule MiA event.LastInvAck v h = grind (arith)
put_rule MiA event.DataDirExcl v h = grind (arith)
put_rule SiA event.Load v h = grind (arith)
put_rule SiA event.Store v h = grind (arith)
put_rule SiA event.Replacement v h = grind (arith)
put_rule SiA event.FwdGetS v h = grind (arith)
put_rule SiA event.FwdGetM v h = grind (arith)
put_rule SiA event.Inv v h = grind (arith)
put_rule SiA event.PutAck v h = grind (arith)
put_rule SiA event.DataDirZero v h = grind (arith)
put_rule SiA event.DataDirMore v h = grind (arith)
put_rule SiA event.DataOwner v h = grind (arith)
put_rule SiA event.InvAck v h = grind (arith)
put_rule SiA event.LastInvAck v h = grind (arith)
put_rule SiA event.DataDirExcl v h = grind (arith)
put_rule IiA event.Load v h = grind (arith)
put_rule IiA event.Store v h = grind (arith)
put_rule IiA event.Replacement v h = grind (arith)
put_rule IiA event.FwdGetS v h = grind (arith)
put_rule IiA event.FwdGetM v h = grind (arith)
put_rule IiA event.Inv v h = grind (arith)
put_rule IiA event.PutAck v h = grind (arith)
put_rule IiA event.DataDirZero v h = grind (arith)
put_rule IiA event.DataDirMore v h = grind (arith)
put_rule IiA event.DataOwner v h = grind (arith)
put_rule IiA event.InvAck v h = grind (arith)
put_rule IiA event.LastInvAck v h = grind (arith)
put_rule IiA event.DataDirExcl v h = grind (arith)
put_rule E event.Load v h = grind (arith)
put_rule E event.Store v h = grind (arith)
put_rule E event.Replacement v h = grind (arith)
put_rule E event.FwdGetS v h = grind (arith)
put_rule E event.FwdGetM v h = grind (arith)
put_rule E event.Inv v h = grind (arith)
put_rule E event.PutAck v h = grind (arith)
put_rule E event.DataDirZero v h = grind (arith)
put_rule E event.DataDirMore v h = grind (arith)
put_rule E event.DataOwner v h = grind (arith)
put_rule E event.InvAck v h = grind (arith)
put_rule E event.LastInvAck v h = grind (arith)
put_rule E event.DataDirExcl v h = grind (arith)

-- where a cache has the latest value, it holds the block, or the home knows of it, or an Inv is on its way
abbrev pub Reads : CacheState → View → Type 0
Reads s v = Holds s v ⊎ HasInv v.link ⊎ ((v.shares ≡ true) × (v.fwd_gets ≡ 0) × (HasFwdGetS v.link → Never))

pub value_reads : (s : CacheState) (v : View) → HasValue s v → Local s v → Reads s v
value_reads I v p h = grind (arith)
value_reads IsD v p h = grind (arith)
value_reads ImAd v p h = grind (arith)
value_reads ImA v p h = grind (arith)
value_reads S v p h = grind (arith)
value_reads SmAd v p h = grind (arith)
value_reads SmA v p h = grind (arith)
value_reads M v p h = grind (arith)
value_reads MiA v p h = grind (arith)
value_reads SiA v p h = grind (arith)
value_reads IiA v p h = grind (arith)
value_reads E v p h = grind (arith)

-- and so has one to which Data is on its way
pub data_reads : (s : CacheState) (v : View) → 0 < v.dir_data + v.owner_data + v.excl_data → Local s v → Reads s v
data_reads I v p h = grind (arith)
data_reads IsD v p h = grind (arith)
data_reads ImAd v p h = grind (arith)
data_reads ImA v p h = grind (arith)
data_reads S v p h = grind (arith)
data_reads SmAd v p h = grind (arith)
data_reads SmA v p h = grind (arith)
data_reads M v p h = grind (arith)
data_reads MiA v p h = grind (arith)
data_reads SiA v p h = grind (arith)
data_reads IiA v p h = grind (arith)
data_reads E v p h = grind (arith)

-- the link alone decides it
pub value_link : (s : CacheState) (v w : View) → v.link ≡ w.link → HasValue s v → HasValue s w
value_link I v w e h = grind (arith)
value_link IsD v w e h = grind (arith)
value_link ImAd v w e h = grind (arith)
value_link ImA v w e h = grind (arith)
value_link S v w e h = grind (arith)
value_link SmAd v w e h = grind (arith)
value_link SmA v w e h = grind (arith)
value_link M v w e h = grind (arith)
value_link MiA v w e h = grind (arith)
value_link SiA v w e h = grind (arith)
value_link IiA v w e h = grind (arith)
value_link E v w e h = grind (arith)

-- nothing is on its way that the home could answer, and the home doesn't know of it
abbrev pub Calm : View → Type 0
Calm v = NoRequest v × NoPut v × Apart v

-- what a home sends leaves the value of a line where it counts
pub value_steady : (s : CacheState) (v w : View) → Local s v → (Calm v → w.link ≡ v.link) → HasValue s w → HasValue s v
value_steady I v w l c h = grind (arith)
value_steady IsD v w l c h = grind (arith)
value_steady ImAd v w l c h = grind (arith)
value_steady ImA v w l c h = grind (arith)
value_steady S v w l c h = grind (arith)
value_steady SmAd v w l c h = grind (arith)
value_steady SmA v w l c h = grind (arith)
value_steady M v w l c h = grind (arith)
value_steady MiA v w l c h = grind (arith)
value_steady SiA v w l c h = grind (arith)
value_steady IiA v w l c h = grind (arith)
value_steady E v w l c h = grind (arith)

-- an owner that puts the block back is in MI^A
pub owner_puts : (s : CacheState) (v : View) → 0 < v.putm → v.owns ≡ true → Local s v → s ≡ MiA
owner_puts I v p o h = grind (arith)
owner_puts IsD v p o h = grind (arith)
owner_puts ImAd v p o h = grind (arith)
owner_puts ImA v p o h = grind (arith)
owner_puts S v p o h = grind (arith)
owner_puts SmAd v p o h = grind (arith)
owner_puts SmA v p o h = grind (arith)
owner_puts M v p o h = grind (arith)
owner_puts MiA v p o h = grind (arith)
owner_puts SiA v p o h = grind (arith)
owner_puts IiA v p o h = grind (arith)
owner_puts E v p o h = grind (arith)
