-- In a block with a message one can be delivered, under tables that keep going: Data that waits for acks, and acks that wait for Data.
use Rattle.std.proofs.Common.{◌≡◌, ◌≢◌, ◌⊎◌, ◌∙◌, ℕ, ◌<◌, ◌≤◌, ◌+◌, ◌-◌, List, [], ◌∷◌, inl, inr, refl, ap, sym, subst, remove, arith}
use Rattle.std.proofs.Common.{Some, Bool, true, false, if◌then◌else◌, slice_get, sum_by, eq-eqb}
use Rattle.std.proofs.lemmas.Bool.{cases_eq}
use Rattle.base.specs.declared.ids.BlockId.{BlockId}
use Rattle.base.specs.declared.ids.CacheId.{CacheId}
use Rattle.base.specs.declared.ids.Place.TheVariants.{Dir, Cache}
use Rattle.base.specs.declared.controller.entry.CellEntry.TheVariants.{Blank, Stall, Act}
use Rattle.network.specs.declared.message.Response.{Response}
use Rattle.network.specs.declared.message.Response.TheVariants.{Data, InvAck, DataExcl}
use Rattle.cache_table.specs.declared.state.CacheState.{CacheState}
use Rattle.base.specs.declared.controller.protocol.Protocol.{Protocol}
use Rattle.base.specs.declared.controller.protocol.Protocol.TheVariants.{Msi, MsiE}
use Rattle.cache_table.specs.declared.state.CacheState.TheVariants.{ImAd, ImA, SmAd, SmA}
use Rattle.cache_table.specs.declared.event.CacheEvent.TheVariants as event
use Rattle.cache_table.specs.Table.{cell}
use Rattle.cache_table.specs.Baseline.{baseline_entry}
use Rattle.cache_table.proofs.BaselineCells.{cell-baseline}
use Rattle.control.specs.declared.line.Line.{Line}
use Rattle.control.specs.LineEvents.{is_count, more_acks}
use Rattle.tables.specs.Tables.{Tables, baseline_of}
use Rattle.machine.specs.Block.{BlockState}
use Rattle.machine.specs.Going.{KeepsGoing, AwaitsData, DataWaits, AckMayWait, LastAckMayWait}
use Rattle.machine.proofs.Acks.{sum-early, sum-late}
use Rattle.machine.proofs.Facts.{promised-zero}
use Rattle.machine.proofs.Views.{View, Local}
use Rattle.machine.proofs.Counts.{only, sum_by-remove}
use Rattle.machine.proofs.Seen.{seen, view_of, dir_data, ack_number, inv_ack, early_of, late_of}
use Rattle.machine.proofs.Sound.{Sound, Bounded, local-at, view-at}
use Rattle.machine.proofs.Plain.{Plain}
use Rattle.machine.proofs.AskTransitions.{bounded-at}
use Rattle.machine.proofs.ResponseTransitions.{early-promised, zero-false}
use Rattle.machine.proofs.Quiet.{IsQuiet}
use Rattle.machine.proofs.Ranks.{Ranked}
use Rattle.machine.proofs.Gathering.{Gathering, IsImA, IsSmA}
use Rattle.machine.proofs.Moves.{Found, Waits, ResponseWaits, response-goes}
use Rattle.machine.proofs.ResponseMoves.{find-response, only-same, same-line, more-waits, data-found}
use Rattle.machine.proofs.HeadMoves.{found-inv, without-responses}

-- an ack is served where a line awaits its Data
ack-acts : (p : Protocol) (s : CacheState) → AwaitsData s → baseline_entry p s event.InvAck ≡ Act s []
ack-acts Msi ImAd a = refl
ack-acts MsiE ImAd a = refl
ack-acts Msi SmAd a = refl
ack-acts MsiE SmAd a = refl
ack-acts p s a = absurd a

ack-free : (tables : Tables) (s : CacheState) → AwaitsData s → AckMayWait tables s → DataWaits tables s → ⊥
ack-free tables ImAd a m w = m w
ack-free tables SmAd a m w = m w
ack-free tables s a m w = absurd a

-- where the Data waits, the acks don't
acks-served : (tables : Tables) → KeepsGoing tables → (s : CacheState) → Waits tables s event.DataDirMore → cell tables.cache s event.InvAck ≢ Stall
acks-served tables k s w = λ x.
    let own : cell (baseline_of tables.protocol).cache s event.InvAck ≡ Act s [] =
    cell-baseline tables.protocol s event.InvAck ∙ ack-acts tables.protocol s w.0 in
    elim (k.cache s event.InvAck x) [
      | inl e ↦ let no : Act s [] ≡ Stall = sym own ∙ e in absurd (cc)
      | inr (inl e) ↦ let no : Act s [] ≡ Blank = sym own ∙ e in absurd (cc)
      | inr (inr may) ↦ ack-free tables s w.0 may w.1
    ]

last-not : (tables : Tables) (s : CacheState) → AwaitsData s → LastAckMayWait tables s → ⊥
last-not tables ImAd a m = m
last-not tables SmAd a m = m
last-not tables s a m = a

no-ack-waits : (tables : Tables) (t : Bool) (s : CacheState) → AwaitsData s → cell tables.cache s event.InvAck ≢ Stall →
    Waits tables s (if t then event.LastInvAck else event.InvAck) → ⊥
no-ack-waits tables true s a ne w = last-not tables s a w.0
no-ack-waits tables false s a ne w = ne w.1

ack-goes : (tables : Tables) (b : BlockState) (c : ℕ) (line : Line) → Some line ≡ slice_get b.lines c → AwaitsData line.state →
    cell tables.cache line.state event.InvAck ≢ Stall → (x : Response) → 0 < inv_ack c x → ResponseWaits tables b x → ⊥
ack-goes tables b c line there a ne (Data by to value acks) p w = absurd (omega arith)
ack-goes tables b c line there a ne (DataExcl to value) p w = absurd (omega arith)
ack-goes tables b c line there a ne (InvAck by to) p w =
    no-ack-waits tables (is_count line.acks 1) line.state a ne
    (subst (λ (l : Line). Waits tables l.state (if is_count l.acks 1 then event.LastInvAck else event.InvAck))
    (same-line b c to.0 w.0 line (only-same to.0 c (omega arith)) w.1 there) w.2)

-- an ack that a line waits for is on its way and can be delivered, or is still to be sent
acks-found : (n : ℕ) (tables : Tables) → KeepsGoing tables → (b : BlockState) (block : BlockId) (c : ℕ) (line : Line) → Some line ≡ slice_get b.lines c →
    Sound n b → Plain tables.protocol b →
    AwaitsData line.state → cell tables.cache line.state event.InvAck ≢ Stall → 0 < (view_of b c).invs → Found tables b block
acks-found n tables k b block c line there h pl a ne some =
    elim (cases_eq (sum_by (inv_ack c) b.traffic.responses) 0) as (λ _. Found tables b block) [
      | inl z ↦ found-inv n tables k b block c h pl (omega (arith, z))
      | inr more ↦
          let r : (i : ℕ) × (x : Response) × (Some x ≡ slice_get b.traffic.responses i) × (0 < inv_ack c x) =
          find-response (inv_ack c) b.traffic.responses (omega (arith, more)) in
          elim (response-goes n tables k b block r.0 r.1 r.2 h pl) as (λ _. Found tables b block) [
            | inl f ↦ f
            | inr w ↦ absurd (ack-goes tables b c line there a ne r.1 r.3 w)
          ]
    ]

-- how the counts stand where a line awaits its Data
awaits-one : (s : CacheState) (v : View) → AwaitsData s → Local s v → 0 < v.dir_data → v.dir_data ≡ 1
awaits-one ImAd v a h p = grind (arith)
awaits-one SmAd v a h p = grind (arith)
awaits-one s v a h p = absurd a

awaits-none : (s : CacheState) (v : View) → AwaitsData s → Local s v → v.acks ≡ 0
awaits-none ImAd v a h = h.acks
awaits-none SmAd v a h = h.acks
awaits-none s v a h = absurd a

awaits-acks : (s : CacheState) (v : View) → AwaitsData s → Local s v → 0 < v.dir_data → v.promised ≢ v.early → 0 < v.invs
awaits-acks ImAd v a h p ne = grind (arith)
awaits-acks SmAd v a h p ne = grind (arith)
awaits-acks s v a h p ne = absurd a

awaits-data : (s : CacheState) (v : View) → AwaitsData s → Local s v → 0 < v.invs → 0 < v.dir_data
awaits-data ImAd v a h p = grind (arith)
awaits-data SmAd v a h p = grind (arith)
awaits-data s v a h p = absurd a

-- Data that comes before its acks has acks on their way
acks-owed : (n : ℕ) (b : BlockState) (i : ℕ) (c : CacheId) (value acks : ℕ) (line : Line) → Some line ≡ slice_get b.lines c.0 → Sound n b →
    Some (Data Dir (Cache c) value acks) ≡ slice_get b.traffic.responses i → AwaitsData line.state → is_count (more_acks line.acks acks) 0 ≡ false →
    0 < (view_of b c.0).invs
acks-owed n b i c value acks line there h at a t =
    let x : Response = Data Dir (Cache c) value acks in
    let v : View = seen line b.home b.traffic c.0 in
    let local : Local line.state v = local-at n b c.0 line h there in
    let bound : Bounded n v = bounded-at n b c.0 line h there in
    let few : n ≤ 4294967296 = h.few in
    let one : dir_data c.0 x ≡ 1 = ap (λ t. only t 1) (eq-eqb c.0 c.0 refl) in
    let number : ack_number c.0 x ≡ acks = ap (λ t. only t acks) (eq-eqb c.0 c.0 refl) in
    let counted : sum_by (dir_data c.0) (remove b.traffic.responses i) + dir_data c.0 x ≡ v.dir_data =
    sum_by-remove (dir_data c.0) b.traffic.responses i x at in
    let summed : sum_by (ack_number c.0) (remove b.traffic.responses i) + ack_number c.0 x ≡ v.promised =
    sum_by-remove (ack_number c.0) b.traffic.responses i x at in
    let some : 0 < v.dir_data = omega (arith, counted, one) in
    let alone : v.dir_data ≡ 1 = awaits-one line.state v a local some in
    let promised : v.promised ≡ acks =
    omega (arith, summed, number, promised-zero c.0 (remove b.traffic.responses i) (omega (arith, counted, one, alone))) in
    let early : v.early ≤ v.promised = early-promised line.state v local in
    let none : v.acks ≡ 0 = awaits-none line.state v a local in
    let e1 : early_of (more_acks line.acks acks) ≡ v.early - (v.acks + acks) =
    sum-early line.acks acks (omega (arith, bound.promised)) (omega (arith, bound.acks)) (omega (arith, bound.promised)) in
    let e2 : late_of (more_acks line.acks acks) ≡ v.acks + acks - v.early =
    sum-late line.acks acks (omega (arith, bound.promised)) (omega (arith, bound.acks)) (omega (arith, bound.promised)) in
    let owed : 0 < v.invs = awaits-acks line.state v a local some (λ e. zero-false (more_acks line.acks acks) t (omega (arith, e1, e2, e, promised, none))) in
    omega (arith, owed, ap (λ (u : View). u.invs) (view-at b c.0 line there))

-- what an ack waits for: the Data, or nothing, as no line gathers it
abbrev AckWaits : Tables → CacheState → Type 0
AckWaits tables s = (AwaitsData s × ¬ DataWaits tables s) ⊎ (IsImA s × DataWaits tables ImAd) ⊎ (IsSmA s × DataWaits tables SmAd)

ack-may : (tables : Tables) (s : CacheState) → AckMayWait tables s → AckWaits tables s
ack-may tables ImAd m = inl (tt, m)
ack-may tables SmAd m = inl (tt, m)
ack-may tables ImA m = inr (inl (tt, m))
ack-may tables SmA m = inr (inr (tt, m))
ack-may tables s m = absurd m

last-may : (tables : Tables) (s : CacheState) → LastAckMayWait tables s → AckWaits tables s
last-may tables ImA m = inr (inl (tt, m))
last-may tables SmA m = inr (inr (tt, m))
last-may tables s m = absurd m

ack-waits : (tables : Tables) (t : Bool) (s : CacheState) → Waits tables s (if t then event.LastInvAck else event.InvAck) → AckWaits tables s
ack-waits tables true s w = last-may tables s w.0
ack-waits tables false s w = ack-may tables s w.0

waiting-response : (n : ℕ) (tables : Tables) → KeepsGoing tables → (b : BlockState) (block : BlockId) (i : ℕ) (x : Response) →
    Some x ≡ slice_get b.traffic.responses i → Sound n b → Plain tables.protocol b → Gathering tables b → ResponseWaits tables b x → Found tables b block
waiting-response n tables k b block i (Data Dir Dir value acks) at h pl g w = absurd w
waiting-response n tables k b block i (Data (Cache by) Dir value acks) at h pl g w = absurd w
waiting-response n tables k b block i (Data (Cache by) (Cache c) value acks) at h pl g w = absurd w.2.0
waiting-response n tables k b block i (Data Dir (Cache c) value acks) at h pl g w =
    let m : (is_count (more_acks w.0.acks acks) 0 ≡ false) × Waits tables w.0.state event.DataDirMore =
    more-waits tables (is_count (more_acks w.0.acks acks) 0) w.0.state w.2 in
    acks-found n tables k b block c.0 w.0 w.1 h pl m.1.0 (acks-served tables k w.0.state m.1)
    (acks-owed n b i c value acks w.0 w.1 h at m.1.0 m.0)
waiting-response n tables k b block i (DataExcl c value) at h pl g w = absurd w.2.0
waiting-response n tables k b block i (InvAck by c) at h pl g w =
    elim (ack-waits tables (is_count w.0.acks 1) w.0.state w.2) as (λ _. Found tables b block) [
      | inl a ↦
          let v : View = seen w.0 b.home b.traffic c.0 in
          let one : inv_ack c.0 (InvAck by c) ≡ 1 = ap (λ t. only t 1) (eq-eqb c.0 c.0 refl) in
          let some : 0 < v.invs = omega (arith, sum_by-remove (inv_ack c.0) b.traffic.responses i (InvAck by c) at, one) in
          let sent : 0 < v.dir_data = awaits-data w.0.state v a.0 (local-at n b c.0 w.0 h w.1) some in
          elim (data-found n tables k b block c.0 w.0 w.1 h pl (omega (arith, sent, ap (λ (u : View). u.dir_data) (view-at b c.0 w.0 w.1)))) as
          (λ _. Found tables b block) [
            | inl f ↦ f
            | inr waits ↦ absurd (a.1 waits.1)
          ]
      | inr (inl a) ↦ absurd (g.invalid a.1 c.0 w.0 w.1 a.0)
      | inr (inr a) ↦ absurd (g.shared a.1 c.0 w.0 w.1 a.0)
    ]

-- a block with a message has one that can be delivered
pub some-move : (n : ℕ) (tables : Tables) → KeepsGoing tables → (b : BlockState) (block : BlockId) (xs : List Response) → xs ≡ b.traffic.responses →
    Ranked b → Sound n b → Plain tables.protocol b → Gathering tables b → (IsQuiet b.traffic → ⊥) → Found tables b block
some-move n tables k b block [] e rd h pl g not_quiet = without-responses n tables k b block b.traffic.requests refl rd h pl (sym e) not_quiet
some-move n tables k b block (x ∷ xs) e rd h pl g not_quiet =
    let at : Some x ≡ slice_get b.traffic.responses 0 = ap (λ l. slice_get l 0) e in
    elim (response-goes n tables k b block 0 x at h pl) as (λ _. Found tables b block) [
      | inl f ↦ f
      | inr w ↦ waiting-response n tables k b block 0 x at h pl g w
    ]
