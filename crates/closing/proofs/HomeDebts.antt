-- The acks that are owed to a requestor balance those that it was announced, as the debt of its pairs says.
use Rattle.std.proofs.Common.{◌≡◌, ℕ, ◌+◌, ◌≤◌, ◌<◌, List, [], ◌∷◌, refl, ap, sym, ◌∙◌, inl, inr, Option, Some, None, Bool, true, false, ◌==◌, arith}
use Rattle.std.proofs.Common.{sum_by, eq-eqb, if◌then◌else◌, not, ◌⊎◌, slice_set, subst}
use Rattle.std.proofs.lemmas.Bool.{cases_eq, ne_eqb}
use Rattle.std.proofs.lemmas.List.Sums.{sum_by-cons}
use Rattle.base.specs.declared.ids.CacheId.{CacheId}
use Rattle.base.specs.declared.ids.Place.TheVariants.{Dir, Cache}
use Rattle.network.specs.declared.message.Response.{Response}
use Rattle.network.specs.declared.message.Response.TheVariants.{Data, InvAck, DataExcl}
use Rattle.network.specs.Traffic.{Traffic}
use Rattle.directory_table.specs.declared.actions.DirectoryAction.{DirectoryAction}
use Rattle.directory_table.specs.declared.actions.DirectoryAction.TheVariants as action
use Rattle.control.specs.declared.home.Home.{Home}
use Rattle.control.specs.Sharing.{others_from}
use Rattle.control.specs.HomeEffect.{home_changed, with_owner}
use Rattle.machine.proofs.Counts.{only}
use Rattle.machine.proofs.Seen.{dir_data, ack_number}
use Rattle.pairs.specs.declared.steps.Debt.{Debt}
use Rattle.pairs.specs.declared.steps.Debt.TheVariants.{Even, Announced, Invalidated, Uneven}
use Rattle.pairs.specs.Sights.{more_announced, more_invalidated, settled_debt}
use Rattle.closing.proofs.HomeScene.{others-set}
use Rattle.closing.proofs.HomeSharing.{owner_debt}
use Rattle.closing.proofs.HomeActing.{others_in, debt_after}
use Rattle.closing.proofs.HomeBalance.{acks_to, datas_to, announced_by, datas_by, invited_by, Owes, none-if}
use Rattle.closing.proofs.HomeBalance.{owes-announced, owes-invited, owes-settled, owes-same}

-- THE DEBT
module _ (home : Home) (a : CacheId) (before : Bool) (acks owed acks_first owed_first : ℕ) where
  abbrev others : ℕ
  others = others_from 0 a.0 home.sharers

  owes-owner : (debt : Debt) (o : Option CacheId) → Owes debt acks owed acks_first owed_first others →
      Owes (owner_debt o a.0 debt) acks owed acks_first owed_first (others_from 0 a.0 (with_owner o home).sharers)
  owes-owner debt None h = h
  owes-owner debt (Some o) h =
      elim (cases_eq o.0 a.0) [
        | inl same ↦
            let kept : others_from 0 a.0 (slice_set home.sharers o.0 true) ≡ others = others-set 0 o.0 a.0 home.sharers true (omega (arith, same)) in
            subst (λ (t : Bool). Owes (if t then debt else settled_debt debt) acks owed acks_first owed_first
            (others_from 0 a.0 (slice_set home.sharers o.0 true)))
            (sym (eq-eqb o.0 a.0 same)) (owes-same acks owed acks_first owed_first others debt acks owed _ refl refl kept h)
        | inr differ ↦
            subst (λ (t : Bool). Owes (if t then debt else settled_debt debt) acks owed acks_first owed_first
            (others_from 0 a.0 (slice_set home.sharers o.0 true)))
            (sym (ne_eqb o.0 a.0 differ)) (owes-settled acks owed acks_first owed_first others debt _ h)
      ]

  -- where an action adds this to the numbers, the debt after it says so
  pub owes-after : (brought : Option ℕ) (debt : Debt) (x : DirectoryAction) (acks_after owed_after : ℕ) → acks_after ≡ acks + announced_by home a.0 x →
      owed_after ≡ owed + invited_by home a.0 x → Owes debt acks owed acks_first owed_first others →
      Owes (debt_after a.0 before home x debt) acks_after owed_after acks_first owed_first (others_from 0 a.0 (home_changed (Some a) brought x home).sharers)
  owes-after brought debt action.DataAcks m n e f h =
      owes-same (acks + others) owed acks_first owed_first others (debt_after a.0 before home action.DataAcks debt) m n others e (omega (arith, f)) refl
      (owes-announced acks owed acks_first owed_first others debt (others_in home a.0) refl h)
  owes-after brought debt action.InvSharers m n e f h =
      owes-same acks (owed + others) acks_first owed_first others (debt_after a.0 before home action.InvSharers debt) m n others (omega (arith, e)) f refl
      (owes-invited acks owed acks_first owed_first others debt (others_in home a.0) before refl h)
  owes-after brought debt action.AddOwner m n e f h =
      owes-same acks owed acks_first owed_first _ (owner_debt home.owner a.0 debt) m n _ (omega (arith, e)) (omega (arith, f)) refl
      (owes-owner debt home.owner h)
  owes-after brought debt action.ClearSharers m n e f h =
      owes-same acks owed acks_first owed_first _ (settled_debt debt) m n _ (omega (arith, e)) (omega (arith, f)) refl
      (owes-settled acks owed acks_first owed_first others debt _ h)
  owes-after brought debt action.AddReq m n e f h =
      owes-same acks owed acks_first owed_first others debt m n _ (omega (arith, e)) (omega (arith, f)) (others-set 0 a.0 a.0 home.sharers true (omega arith)) h
  owes-after brought debt action.RemoveReq m n e f h =
      owes-same acks owed acks_first owed_first others debt m n _ (omega (arith, e)) (omega (arith, f))
      (others-set 0 a.0 a.0 home.sharers false (omega arith)) h
  owes-after brought debt action.DataReq m n e f h = owes-same acks owed acks_first owed_first others debt m n _ (omega (arith, e)) (omega (arith, f)) refl h
  owes-after brought debt action.DataExcl m n e f h = owes-same acks owed acks_first owed_first others debt m n _ (omega (arith, e)) (omega (arith, f)) refl h
  owes-after brought debt action.FwdGetS m n e f h = owes-same acks owed acks_first owed_first others debt m n _ (omega (arith, e)) (omega (arith, f)) refl h
  owes-after brought debt action.FwdGetM m n e f h = owes-same acks owed acks_first owed_first others debt m n _ (omega (arith, e)) (omega (arith, f)) refl h
  owes-after brought debt action.PutAck m n e f h = owes-same acks owed acks_first owed_first others debt m n _ (omega (arith, e)) (omega (arith, f)) refl h
  owes-after brought debt action.ClearOwner m n e f h = owes-same acks owed acks_first owed_first others debt m n _ (omega (arith, e)) (omega (arith, f)) refl h
  owes-after brought debt action.SetOwner m n e f h = owes-same acks owed acks_first owed_first others debt m n _ (omega (arith, e)) (omega (arith, f)) refl h
  owes-after None debt action.CopyData m n e f h = owes-same acks owed acks_first owed_first others debt m n _ (omega (arith, e)) (omega (arith, f)) refl h
  owes-after (Some v) debt action.CopyData m n e f h = owes-same acks owed acks_first owed_first others debt m n _ (omega (arith, e)) (omega (arith, f)) refl h

-- WHAT CAN'T BE FOLLOWED STAYS SO
uneven-owner : (o : Option CacheId) (c : ℕ) → owner_debt o c Uneven ≡ Uneven
uneven-owner None c = refl
uneven-owner (Some o) c = uneven (o.0 == c)
  where
    uneven : (t : Bool) → (if t then Uneven else settled_debt Uneven) ≡ Uneven
    uneven true = refl
    uneven false = refl

uneven-announced : (t : Bool) → (if t then more_announced Uneven else Uneven) ≡ Uneven
uneven-announced true = refl
uneven-announced false = refl

uneven-invited : (t before : Bool) → (if t then more_invalidated before Uneven else Uneven) ≡ Uneven
uneven-invited true true = refl
uneven-invited true false = refl
uneven-invited false before = refl

uneven-after : (c : ℕ) (before : Bool) (home : Home) (x : DirectoryAction) (debt : Debt) → debt ≡ Uneven → debt_after c before home x debt ≡ Uneven
uneven-after c before home x debt e = ap (λ (d : Debt). debt_after c before home x d) e ∙ at x
  where
    at : (x : DirectoryAction) → debt_after c before home x Uneven ≡ Uneven
    at action.DataAcks = uneven-announced (others_in home c)
    at action.InvSharers = uneven-invited (others_in home c) before
    at action.AddOwner = uneven-owner home.owner c
    at action.ClearSharers = refl
    at action.AddReq = refl
    at action.RemoveReq = refl
    at action.DataReq = refl
    at action.DataExcl = refl
    at action.FwdGetS = refl
    at action.FwdGetM = refl
    at action.PutAck = refl
    at action.ClearOwner = refl
    at action.SetOwner = refl
    at action.CopyData = refl

-- BOUNDS
-- few acks are owed, or the debt can't be followed
abbrev pub FewOwed : Debt → ℕ → Type 0
FewOwed debt owed = (debt ≡ Uneven) ⊎ (owed ≤ 4294967296)

-- few acks are announced, or more than one Data is on its way
abbrev pub FewAnnounced : ℕ → ℕ → Type 0
FewAnnounced acks datas = (acks ≤ 4294967296) ⊎ (1 < datas)

invited-few : (debt : Debt) (some before : Bool) (owed others owed_after : ℕ) → not (others == 0) ≡ some → not (owed == 0) ≡ before → others ≤ 4294967296 →
    owed_after ≡ owed + others → FewOwed debt owed → FewOwed (if some then more_invalidated before debt else debt) owed_after
invited-few debt false before owed others n e f few g (inl u) = inl u
invited-few debt false before owed others n e f few g (inr h) = inr (omega (arith, g, h, none-if others e))
invited-few debt true true owed others n e f few g h = inl (uneven debt)
  where
    uneven : (debt : Debt) → more_invalidated true debt ≡ Uneven
    uneven Even = refl
    uneven Announced = refl
    uneven Invalidated = refl
    uneven Uneven = refl
invited-few debt true false owed others n e f few g h = inr (omega (arith, g, few, none-if owed f))

pub few-owed_after : (c : ℕ) (home : Home) (x : DirectoryAction) (debt : Debt) (owed owed_after : ℕ) → others_from 0 c home.sharers ≤ 4294967296 →
    owed_after ≡ owed + invited_by home c x → FewOwed debt owed → FewOwed (debt_after c (not (owed == 0)) home x debt) owed_after
few-owed_after c home x debt owed n few e h = at x e h
  where
    plain : (x : DirectoryAction) → n ≡ owed → FewOwed debt owed → FewOwed (debt_after c (not (owed == 0)) home x debt) n
    plain x e (inl u) = inl (uneven-after c (not (owed == 0)) home x debt u)
    plain x e (inr h) = inr (omega (arith, e, h))

    at : (x : DirectoryAction) → n ≡ owed + invited_by home c x → FewOwed debt owed → FewOwed (debt_after c (not (owed == 0)) home x debt) n
    at action.InvSharers e h = invited-few debt (others_in home c) (not (owed == 0)) owed (others_from 0 c home.sharers) n refl refl few e h
    at action.DataAcks e h = plain action.DataAcks (omega (arith, e)) h
    at action.AddOwner e h = plain action.AddOwner (omega (arith, e)) h
    at action.ClearSharers e h = plain action.ClearSharers (omega (arith, e)) h
    at action.AddReq e h = plain action.AddReq (omega (arith, e)) h
    at action.RemoveReq e h = plain action.RemoveReq (omega (arith, e)) h
    at action.DataReq e h = plain action.DataReq (omega (arith, e)) h
    at action.DataExcl e h = plain action.DataExcl (omega (arith, e)) h
    at action.FwdGetS e h = plain action.FwdGetS (omega (arith, e)) h
    at action.FwdGetM e h = plain action.FwdGetM (omega (arith, e)) h
    at action.PutAck e h = plain action.PutAck (omega (arith, e)) h
    at action.ClearOwner e h = plain action.ClearOwner (omega (arith, e)) h
    at action.SetOwner e h = plain action.SetOwner (omega (arith, e)) h
    at action.CopyData e h = plain action.CopyData (omega (arith, e)) h

-- acks are announced by Data alone
no-acks : (c : ℕ) (rs : List Response) → sum_by (dir_data c) rs ≡ 0 → sum_by (ack_number c) rs ≡ 0
no-acks c [] e = refl
no-acks c (x ∷ rs) e =
    omega (
      arith,
      sum_by-cons (ack_number c) x rs,
      one x (omega (arith, e, sum_by-cons (dir_data c) x rs)),
      no-acks c rs (omega (arith, e, sum_by-cons (dir_data c) x rs)),
    )
  where
    only-none : (t : Bool) (n : ℕ) → only t 1 ≡ 0 → only t n ≡ 0
    only-none true n e = absurd (omega (arith, e))
    only-none false n e = refl

    one : (x : Response) → dir_data c x ≡ 0 → ack_number c x ≡ 0
    one (Data Dir (Cache to) v acks) e = only-none (to.0 == c) acks e
    one (Data Dir Dir v acks) e = refl
    one (Data (Cache by) to v acks) e = refl
    one (InvAck by to) e = refl
    one (DataExcl to v) e = refl

pub few-announced_after : (home : Home) (w : Traffic) (c : ℕ) (x : DirectoryAction) (acks datas : ℕ) → others_from 0 c home.sharers ≤ 4294967296 →
    acks ≡ acks_to w c + announced_by home c x → datas ≡ datas_to w c + datas_by x → FewAnnounced (acks_to w c) (datas_to w c) → FewAnnounced acks datas
few-announced_after home w c x acks datas few e f h = at x e f h
  where
    acks-some : datas ≡ datas_to w c + 1 → acks ≡ acks_to w c + others_from 0 c home.sharers → FewAnnounced acks datas
    acks-some f e =
        elim (cases_eq (datas_to w c) 0) [
          | inl none ↦ inl (omega (arith, e, few, no-acks c w.responses none))
          | inr some ↦ inr (omega (arith, f, some))
        ]

    plain : (more : ℕ) → acks ≡ acks_to w c → datas ≡ datas_to w c + more → FewAnnounced (acks_to w c) (datas_to w c) → FewAnnounced acks datas
    plain more e f (inl h) = inl (omega (arith, e, h))
    plain more e f (inr h) = inr (omega (arith, f, h))

    at : (x : DirectoryAction) → acks ≡ acks_to w c + announced_by home c x → datas ≡ datas_to w c + datas_by x →
        FewAnnounced (acks_to w c) (datas_to w c) → FewAnnounced acks datas
    at action.DataAcks e f h = acks-some f e
    at action.DataReq e f h = plain 1 (omega (arith, e)) f h
    at action.DataExcl e f h = plain 0 (omega (arith, e)) f h
    at action.InvSharers e f h = plain 0 (omega (arith, e)) f h
    at action.AddOwner e f h = plain 0 (omega (arith, e)) f h
    at action.ClearSharers e f h = plain 0 (omega (arith, e)) f h
    at action.AddReq e f h = plain 0 (omega (arith, e)) f h
    at action.RemoveReq e f h = plain 0 (omega (arith, e)) f h
    at action.FwdGetS e f h = plain 0 (omega (arith, e)) f h
    at action.FwdGetM e f h = plain 0 (omega (arith, e)) f h
    at action.PutAck e f h = plain 0 (omega (arith, e)) f h
    at action.ClearOwner e f h = plain 0 (omega (arith, e)) f h
    at action.SetOwner e f h = plain 0 (omega (arith, e)) f h
    at action.CopyData e f h = plain 0 (omega (arith, e)) f h
