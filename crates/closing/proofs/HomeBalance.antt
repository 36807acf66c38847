-- The acks that a cell of the home announces to the requestor, and the Invs that it sends.
use Rattle.std.proofs.Common.{◌≡◌, ◌≢◌, ℕ, ◌+◌, ◌≤◌, ◌<◌, refl, ap, sym, Option, Some, None, Bool, true, false, ◌==◌, arith}
use Rattle.std.proofs.Common.{sum_by, eq-eqb, if◌then◌else◌, not, subst, length, zero, suc}
use Rattle.std.proofs.lemmas.Bool.{ne_eqb}
use Rattle.std.proofs.lemmas.List.Sums.{sum_by_push}
use Rattle.base.specs.declared.ids.CacheId.{CacheId}
use Rattle.base.specs.declared.ids.Place.TheVariants.{Dir, Cache}
use Rattle.network.specs.declared.message.Forward.{Forward}
use Rattle.network.specs.declared.message.ForwardKind.{ForwardKind}
use Rattle.network.specs.declared.message.ForwardKind.TheVariants.{FwdGetS, FwdGetM, PutAck}
use Rattle.network.specs.declared.message.Response.{Response}
use Rattle.network.specs.declared.message.Response.TheVariants.{Data, DataExcl}
use Rattle.network.specs.Traffic.{Traffic, all_sent, response_sent, forward_sent}
use Rattle.directory_table.specs.declared.actions.DirectoryAction.{DirectoryAction}
use Rattle.directory_table.specs.declared.actions.DirectoryAction.TheVariants as action
use Rattle.control.specs.declared.home.Home.{Home}
use Rattle.control.specs.Sharing.{others_from}
use Rattle.control.specs.HomeEffect.{home_message, owner_message}
use Rattle.control.specs.Homes.{IsBelow}
use Rattle.machine.specs.Block.{BlockState}
use Rattle.machine.proofs.Counts.{only, only-nothing, forward_sent-total}
use Rattle.machine.proofs.Seen.{names, is_inv, dir_data, ack_number, inv_ack}
use Rattle.machine.proofs.Invitations.{invs_from, invs-responses}
use Rattle.pairs.specs.declared.steps.Debt.{Debt}
use Rattle.pairs.specs.declared.steps.Debt.TheVariants.{Even, Announced, Invalidated, Uneven}
use Rattle.pairs.specs.Sights.{more_announced, more_invalidated, settled_debt}
use Rattle.closing.proofs.Alpha.{owed_to}
use Rattle.closing.proofs.HomeSending.{at}
use Rattle.closing.proofs.HomeInviting.{all-invited, invs-owed, invs-owed_other}
use Rattle.closing.proofs.HomeActing.{IsAt}

-- the acks that are announced to a cache by Data on their way
abbrev pub acks_to : Traffic → ℕ → ℕ
acks_to w c = sum_by (ack_number c) w.responses

-- the Data from the home on their way to a cache
abbrev pub datas_to : Traffic → ℕ → ℕ
datas_to w c = sum_by (dir_data c) w.responses

-- EFFECTS
-- what an action announces to the requestor, by how many Data, and how many Invs for it are sent
abbrev pub announced_by : Home → ℕ → DirectoryAction → ℕ
announced_by home c action.DataAcks = others_from 0 c home.sharers
announced_by home c other = 0

abbrev pub datas_by : DirectoryAction → ℕ
datas_by action.DataReq = 1
datas_by action.DataAcks = 1
datas_by other = 0

abbrev pub invited_by : Home → ℕ → DirectoryAction → ℕ
invited_by home c action.InvSharers = others_from 0 c home.sharers
invited_by home c other = 0

-- what messages do to these numbers of a cache
pub record Adds (b : BlockState) (home : Home) (w v : Traffic) (c more_acks more_datas more_owed : ℕ) : Type 0 where
  pub acks : acks_to v c ≡ acks_to w c + more_acks
  pub datas : datas_to v c ≡ datas_to w c + more_datas
  pub owed : owed_to (at b home v) c ≡ owed_to (at b home w) c + more_owed

module _ (b : BlockState) (home : Home) (w : Traffic) where
  adds-nothing : (c : ℕ) → Adds b home w w c 0 0 0
  adds-nothing c = record { acks = omega arith; datas = omega arith; owed = omega arith }

  adds-response : (x : Response) (c acks datas : ℕ) → ack_number c x ≡ acks → dir_data c x ≡ datas → inv_ack c x ≡ 0 →
      Adds b home w (response_sent x w) c acks datas 0
  adds-response x c acks datas e f g = record {
    acks = omega (arith, sum_by_push (ack_number c) w.responses x, e);
    datas = omega (arith, sum_by_push (dir_data c) w.responses x, f);
    owed = omega (arith, sum_by_push (inv_ack c) w.responses x, g);
  }

  adds-forward : (k : ℕ) (m : Forward) (c : ℕ) → is_inv m.kind ≡ 0 → k < length w.links → Adds b home w (forward_sent k m w) c 0 0 0
  adds-forward k m c e there = record {
    acks = omega arith;
    datas = omega arith;
    owed =
        omega (arith, forward_sent-total (names c is_inv) w k m there, ap (λ n. only (m.requestor.0 == c) n) e, only-nothing (m.requestor.0 == c));
  }

  adds-owner : (o : Option CacheId) (kind : ForwardKind) (a : CacheId) (c : ℕ) → is_inv kind ≡ 0 → IsBelow o (length w.links) →
      Adds b home w (all_sent (owner_message o kind a) w) c 0 0 0
  adds-owner None kind a c e there = adds-nothing c
  adds-owner (Some o) kind a c e there = adds-forward o.0 (record { kind = kind; requestor = a }) c e there

  data-to : (a : CacheId) (value acks : ℕ) → Adds b home w (response_sent (Data Dir (Cache a) value acks) w) a.0 acks 1 0
  data-to a value acks =
      adds-response (Data Dir (Cache a) value acks) a.0 acks 1 (ap (λ (t : Bool). only t acks) (eq-eqb a.0 a.0 refl))
      (ap (λ (t : Bool). only t 1) (eq-eqb a.0 a.0 refl)) refl

  data-past : (a : CacheId) (value acks c : ℕ) → c ≢ a.0 → Adds b home w (response_sent (Data Dir (Cache a) value acks) w) c 0 0 0
  data-past a value acks c ne =
      let other : (a.0 == c) ≡ false = ne_eqb a.0 c (λ e. ne (sym e)) in
      adds-response (Data Dir (Cache a) value acks) c 0 0 (ap (λ (t : Bool). only t acks) other) (ap (λ (t : Bool). only t 1) other) refl

  invs-to : (a : CacheId) → length home.sharers ≤ length w.links → Adds b home w (invs_from a 0 home.sharers w) a.0 0 0 (others_from 0 a.0 home.sharers)
  invs-to a h =
      let same : (invs_from a 0 home.sharers w).responses ≡ w.responses = invs-responses a 0 home.sharers w in record {
        acks = omega (arith, ap (λ l. sum_by (ack_number a.0) l) same);
        datas = omega (arith, ap (λ l. sum_by (dir_data a.0) l) same);
        owed = invs-owed b home w a h;
      }

  invs-past : (a : CacheId) (c : ℕ) → c ≢ a.0 → length home.sharers ≤ length w.links → Adds b home w (invs_from a 0 home.sharers w) c 0 0 0
  invs-past a c ne h =
      let same : (invs_from a 0 home.sharers w).responses ≡ w.responses = invs-responses a 0 home.sharers w in record {
        acks = omega (arith, ap (λ l. sum_by (ack_number c) l) same);
        datas = omega (arith, ap (λ l. sum_by (dir_data c) l) same);
        owed = omega (arith, invs-owed_other b home w a c ne h);
      }

  -- an action, for the requestor
  pub adds-here : (caches : ℕ) (a : CacheId) (x : DirectoryAction) → IsAt caches home w → a.0 < caches →
      Adds b home w (all_sent (home_message (Some a) x home) w) a.0 (announced_by home a.0 x) (datas_by x) (invited_by home a.0 x)
  adds-here caches a action.DataReq h l = data-to a home.memory 0
  adds-here caches a action.DataAcks h l = data-to a home.memory (others_from 0 a.0 home.sharers)
  adds-here caches a action.DataExcl h l = adds-response (DataExcl a home.memory) a.0 0 0 refl refl refl
  adds-here caches a action.InvSharers h l =
      subst (λ (v : Traffic). Adds b home w v a.0 0 0 (others_from 0 a.0 home.sharers)) (sym (all-invited a home.sharers w))
      (invs-to a (omega (arith, h.links, h.sharers)))
  adds-here caches a action.FwdGetS h l = adds-owner home.owner FwdGetS a a.0 refl (subst (λ (n : ℕ). IsBelow home.owner n) (sym h.links) h.owner)
  adds-here caches a action.FwdGetM h l = adds-owner home.owner FwdGetM a a.0 refl (subst (λ (n : ℕ). IsBelow home.owner n) (sym h.links) h.owner)
  adds-here caches a action.PutAck h l = adds-forward a.0 (record { kind = PutAck; requestor = a }) a.0 refl (omega (arith, l, h.links))
  adds-here caches a action.AddReq h l = adds-nothing a.0
  adds-here caches a action.AddOwner h l = adds-nothing a.0
  adds-here caches a action.RemoveReq h l = adds-nothing a.0
  adds-here caches a action.ClearSharers h l = adds-nothing a.0
  adds-here caches a action.ClearOwner h l = adds-nothing a.0
  adds-here caches a action.SetOwner h l = adds-nothing a.0
  adds-here caches a action.CopyData h l = adds-nothing a.0

  -- and for any other cache
  pub adds-elsewhere : (caches : ℕ) (a : CacheId) (x : DirectoryAction) (c : ℕ) → c ≢ a.0 → IsAt caches home w → a.0 < caches →
      Adds b home w (all_sent (home_message (Some a) x home) w) c 0 0 0
  adds-elsewhere caches a action.DataReq c ne h l = data-past a home.memory 0 c ne
  adds-elsewhere caches a action.DataAcks c ne h l = data-past a home.memory (others_from 0 a.0 home.sharers) c ne
  adds-elsewhere caches a action.DataExcl c ne h l = adds-response (DataExcl a home.memory) c 0 0 refl refl refl
  adds-elsewhere caches a action.InvSharers c ne h l =
      subst (λ (v : Traffic). Adds b home w v c 0 0 0) (sym (all-invited a home.sharers w)) (invs-past a c ne (omega (arith, h.links, h.sharers)))
  adds-elsewhere caches a action.FwdGetS c ne h l = adds-owner home.owner FwdGetS a c refl (subst (λ (n : ℕ). IsBelow home.owner n) (sym h.links) h.owner)
  adds-elsewhere caches a action.FwdGetM c ne h l = adds-owner home.owner FwdGetM a c refl (subst (λ (n : ℕ). IsBelow home.owner n) (sym h.links) h.owner)
  adds-elsewhere caches a action.PutAck c ne h l = adds-forward a.0 (record { kind = PutAck; requestor = a }) c refl (omega (arith, l, h.links))
  adds-elsewhere caches a action.AddReq c ne h l = adds-nothing c
  adds-elsewhere caches a action.AddOwner c ne h l = adds-nothing c
  adds-elsewhere caches a action.RemoveReq c ne h l = adds-nothing c
  adds-elsewhere caches a action.ClearSharers c ne h l = adds-nothing c
  adds-elsewhere caches a action.ClearOwner c ne h l = adds-nothing c
  adds-elsewhere caches a action.SetOwner c ne h l = adds-nothing c
  adds-elsewhere caches a action.CopyData c ne h l = adds-nothing c

-- DEBT
-- the requestor was announced so many acks and is owed so many, from those at first: what is apart is the number of the others that share
abbrev pub Owes : Debt → ℕ → ℕ → ℕ → ℕ → ℕ → Type 0
Owes Even acks owed acks_first owed_first others = acks + owed_first ≡ owed + acks_first
Owes Announced acks owed acks_first owed_first others = (acks + owed_first ≡ owed + acks_first + others) × (1 ≤ others)
Owes Invalidated acks owed acks_first owed_first others = (acks + owed_first + others ≡ owed + acks_first) × (1 ≤ others)
Owes Uneven acks owed acks_first owed_first others = Unit {0}

pub none-if : (n : ℕ) → not (n == 0) ≡ false → n ≡ 0
none-if zero e = refl
none-if (suc n) e =
    let some : not (suc n == 0) ≡ true = ap (λ (t : Bool). not t) (ne_eqb (suc n) 0 (λ z. absurd (omega (arith, z)))) in
    absurd (cc)

some-if : (n : ℕ) → not (n == 0) ≡ true → 1 ≤ n
some-if zero e = absurd (cc)
some-if (suc n) e = omega arith

module _ (acks owed acks_first owed_first others : ℕ) where
  pub owes-announced : (debt : Debt) (t : Bool) → not (others == 0) ≡ t → Owes debt acks owed acks_first owed_first others →
      Owes (if t then more_announced debt else debt) (acks + others) owed acks_first owed_first others
  owes-announced Even true e h = (omega (arith, h), some-if others e)
  owes-announced Announced true e h = tt
  owes-announced Invalidated true e h = omega (arith, h.0)
  owes-announced Uneven true e h = tt
  owes-announced Even false e h = omega (arith, h, none-if others e)
  owes-announced Announced false e h = (omega (arith, h.0, none-if others e), h.1)
  owes-announced Invalidated false e h = (omega (arith, h.0, none-if others e), h.1)
  owes-announced Uneven false e h = tt

  pub owes-invited : (debt : Debt) (t before : Bool) → not (others == 0) ≡ t → Owes debt acks owed acks_first owed_first others →
      Owes (if t then more_invalidated before debt else debt) acks (owed + others) acks_first owed_first others
  owes-invited Even true true e h = tt
  owes-invited Announced true true e h = tt
  owes-invited Invalidated true true e h = tt
  owes-invited Uneven true true e h = tt
  owes-invited Even true false e h = (omega (arith, h), some-if others e)
  owes-invited Announced true false e h = omega (arith, h.0)
  owes-invited Invalidated true false e h = tt
  owes-invited Uneven true false e h = tt
  owes-invited Even false before e h = omega (arith, h, none-if others e)
  owes-invited Announced false before e h = (omega (arith, h.0, none-if others e), h.1)
  owes-invited Invalidated false before e h = (omega (arith, h.0, none-if others e), h.1)
  owes-invited Uneven false before e h = tt

  pub owes-settled : (debt : Debt) (more : ℕ) → Owes debt acks owed acks_first owed_first others → Owes (settled_debt debt) acks owed acks_first owed_first more
  owes-settled Even more h = h
  owes-settled Announced more h = tt
  owes-settled Invalidated more h = tt
  owes-settled Uneven more h = tt

  pub owes-same : (debt : Debt) (acks2 owed2 more : ℕ) → acks2 ≡ acks → owed2 ≡ owed → more ≡ others → Owes debt acks owed acks_first owed_first others →
      Owes debt acks2 owed2 acks_first owed_first more
  owes-same Even acks2 owed2 more e f g h = omega (arith, e, f, h)
  owes-same Announced acks2 owed2 more e f g h = (omega (arith, e, f, g, h.0), omega (arith, g, h.1))
  owes-same Invalidated acks2 owed2 more e f g h = (omega (arith, e, f, g, h.0), omega (arith, g, h.1))
  owes-same Uneven acks2 owed2 more e f g h = tt
