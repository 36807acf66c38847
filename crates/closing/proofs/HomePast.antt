-- What a cell of the home makes of a side that no message goes to and that nobody names.
use Rattle.std.proofs.Common.{◌≡◌, ◌≢◌, ℕ, ◌≤◌, refl, ap, ◌∙◌, inl, inr, Option, Some, None, Bool, true, false, arith, if◌then◌else◌}
use Rattle.std.proofs.lemmas.Bool.{cases_eq}
use Rattle.base.specs.declared.ids.CacheId.{CacheId}
use Rattle.network.specs.declared.message.ForwardKind.{ForwardKind}
use Rattle.network.specs.declared.message.ForwardKind.TheVariants as forward
use Rattle.directory_table.specs.declared.actions.DirectoryAction.{DirectoryAction}
use Rattle.directory_table.specs.declared.actions.DirectoryAction.TheVariants as action
use Rattle.control.specs.Homes.{IsBelow}
use Rattle.pairs.specs.declared.pair.Pair.{Pair}
use Rattle.pairs.specs.Pairs.{is_few_side}
use Rattle.pairs.specs.declared.steps.Party.{Party}
use Rattle.pairs.specs.declared.steps.Party.TheVariants.{Nobody, First, Second, Third}
use Rattle.pairs.specs.declared.steps.Scene.{Scene}
use Rattle.pairs.specs.Sights.{home_acted, announces, others_share, owner_linked, owner_added, second_linked, more_announced, more_invalidated}
use Rattle.pairs.specs.Sights as sights
use Rattle.closing.proofs.Sending.{party_of, party-first, party-third}

-- whether few messages concern the second of the two
abbrev pub few_second : Scene → Bool
few_second s = is_few_side s.pair.second

few-announces : (s : Scene) (t : Bool) → others_share s ≡ t → few_second (announces s) ≡ few_second s
few-announces s true e = ap (λ (u : Bool). few_second (if u then record s { debt = more_announced s.debt } else s)) e
few-announces s false e = ap (λ (u : Bool). few_second (if u then record s { debt = more_announced s.debt } else s)) e

-- Invs, where it doesn't share
abbrev served : Scene → Bool → Scene
served s sharer = record s {
  pair = (let p : Pair = if sharer then second_linked forward.Inv s.pair else s.pair in record p { first = record p.first { owed = true } });
  debt = more_invalidated s.pair.first.owed s.debt;
}

few-invited : (s : Scene) (t : Bool) → others_share s ≡ t → s.pair.second.shares ≡ false → few_second (sights.invited s) ≡ few_second s
few-invited s true e unshared =
    ap (λ (u : Bool). few_second (if u then served s s.pair.second.shares else s)) e ∙ ap (λ (u : Bool). few_second (served s u)) unshared
few-invited s false e unshared = ap (λ (u : Bool). few_second (if u then served s s.pair.second.shares else s)) e

-- forwards, where it isn't the owner
few-linked : (o : Party) (kind : ForwardKind) (p : Pair) → o ≢ Second → is_few_side (owner_linked o kind p).second ≡ is_few_side p.second
few-linked Nobody kind p ne = refl
few-linked First kind p ne = refl
few-linked Second kind p ne = absurd (ne refl)
few-linked Third kind p ne = refl

few-added : (o : Party) (s : Scene) → few_second (owner_added o s) ≡ few_second s
few-added Nobody s = refl
few-added First s = refl
few-added Second s = refl
few-added Third s = refl

pub few-acted : (value : Option Bool) (x : DirectoryAction) (s : Scene) → s.owner ≢ Second → s.pair.second.shares ≡ false →
    few_second (home_acted true value x s) ≡ few_second s
few-acted value action.DataReq s ne unshared = refl
few-acted value action.DataAcks s ne unshared = few-announces (home_acted true value action.DataReq s) (others_share s) refl
few-acted value action.DataExcl s ne unshared = refl
few-acted value action.InvSharers s ne unshared = few-invited s (others_share s) refl unshared
few-acted value action.FwdGetS s ne unshared = few-linked s.owner forward.FwdGetS s.pair ne
few-acted value action.FwdGetM s ne unshared = few-linked s.owner forward.FwdGetM s.pair ne
few-acted value action.PutAck s ne unshared = refl
few-acted value action.AddReq s ne unshared = refl
few-acted value action.RemoveReq s ne unshared = refl
few-acted value action.SetOwner s ne unshared = refl
few-acted value action.AddOwner s ne unshared = few-added s.owner s
few-acted value action.ClearSharers s ne unshared = refl
few-acted value action.ClearOwner s ne unshared = refl
few-acted (Some fresh) action.CopyData s ne unshared = refl
few-acted None action.CopyData s ne unshared = refl

-- an owner that isn't the second of the two
pub owner-past : (caches : ℕ) (o : Option CacheId) (a c : ℕ) → IsBelow o caches → caches ≤ c → party_of o a c ≢ Second
owner-past caches None a c h past e = absurd (cc)
owner-past caches (Some o) a c h past e =
    elim (cases_eq o.0 a) [
      | inl same ↦ let first : party_of (Some o) a c ≡ First = party-first o a c same in absurd (cc)
      | inr differ ↦
          let third : party_of (Some o) a c ≡ Third = party-third o a c differ (λ same. absurd (omega (arith, h, past, same))) in
          absurd (cc)
    ]
