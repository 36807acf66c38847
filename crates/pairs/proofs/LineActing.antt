-- What the actions of the first cache's line leave as it was, and that a pair that isn't few stays so.
use Rattle.std.proofs.Common.{◌≡◌, ◌∙◌, ℕ, ◌+◌, ◌<◌, Bool, true, false, List, [], ◌∷◌, length, drop, get_or, None, refl, ap, sym}
use Rattle.std.proofs.lemmas.List.{at_drop_more}
use Rattle.cache_table.specs.declared.actions.CacheAction.{CacheAction}
use Rattle.cache_table.specs.declared.actions.CacheAction.TheVariants as action
use Rattle.pairs.specs.declared.pair.Pair.{Pair}
use Rattle.pairs.specs.declared.steps.Party.{Party}
use Rattle.pairs.specs.declared.steps.Party.TheVariants.{Nobody, First, Second, Third}
use Rattle.pairs.specs.Pairs.{is_few}
use Rattle.pairs.specs.Marking.{IsMarked}
use Rattle.pairs.specs.Sights.{line_acted, line_acts, putm_sent, owner_data_sent}
use Rattle.pairs.specs.inner.Following.{few_pair}
use Rattle.pairs.proofs.Few.{false-from, few-gets, few-getm, few-puts, few-putm, few-owner_data, few-first, few-second, few-home_data}

-- an action of a line takes nothing away
pub few-line_acted : (to : Party) (fresh : Bool) (a : CacheAction) (p : Pair) → is_few (line_acted to fresh a p) ≡ true → is_few p ≡ true
few-line_acted to fresh action.GetS p e = few-first p (record p.first { gets = p.first.gets + 1 }) (few-gets p.first) e
few-line_acted to fresh action.GetM p e = few-first p (record p.first { getm = p.first.getm + 1 }) (few-getm p.first) e
few-line_acted to fresh action.PutS p e = few-first p (record p.first { puts = p.first.puts + 1 }) (few-puts p.first) e
few-line_acted to fresh action.PutM p e = few-first p (putm_sent fresh p.first) (few-putm p.first) e
few-line_acted to fresh action.DataDir p e = few-home_data p e
few-line_acted First fresh action.DataReq p e = few-first p (owner_data_sent fresh p.first) (few-owner_data p.first) e
few-line_acted Second fresh action.DataReq p e = few-second p (owner_data_sent fresh p.second) (few-owner_data p.second) e
few-line_acted Nobody fresh action.DataReq p e = e
few-line_acted Third fresh action.DataReq p e = e
few-line_acted to fresh action.InvAck p e = e

pub few-line_acts : (to : Party) (fresh : Bool) (actions : List CacheAction) (p : Pair) → is_few (line_acts to fresh actions p) ≡ true → is_few p ≡ true
few-line_acts to fresh [] p e = e
few-line_acts to fresh (a ∷ actions) p e = few-line_acted to fresh a p (few-line_acts to fresh actions (line_acted to fresh a p) e)

-- one action more is done
pub line_acts-drop : (to : Party) (fresh : Bool) (actions : List CacheAction) (i : ℕ) (d : CacheAction) (p q : Pair) → i < length actions →
    q ≡ line_acted to fresh (get_or actions i d) p → line_acts to fresh (drop i actions) p ≡ line_acts to fresh (drop (i + 1) actions) q
line_acts-drop to fresh actions i d p q more e =
    at_drop_more (λ (left : List CacheAction). line_acts to fresh left p) actions i d more
    ∙ ap (λ (r : Pair). line_acts to fresh (drop (i + 1) actions) r) (sym e)

-- so a pair may be given up before the actions are all done
pub few_pair-line_acts : (to : Party) (fresh : Bool) (actions : List CacheAction) (p : Pair) → is_few p ≡ false →
    few_pair (line_acts to fresh actions p) ≡ None
few_pair-line_acts to fresh actions p e =
    let q : Pair = line_acts to fresh actions p in
    let lost : is_few q ≡ false = false-from (is_few q) (is_few p) (few-line_acts to fresh actions p) e in
    rw lost refl

-- of the first cache's line its value stays, and what waits there; of both links what is on them and what they name
pub record KeepsLine (p q : Pair) : Type 0 where
  pub fresh : q.first.fresh ≡ p.first.fresh
  pub waits : q.first.waits ≡ p.first.waits
  pub first_link : q.first.link ≡ p.first.link
  pub second_link : q.second.link ≡ p.second.link
  pub first_names : q.first_names ≡ p.first_names
  pub second_names : q.second_names ≡ p.second_names

kept : (p q : Pair) → q.first.fresh ≡ p.first.fresh → q.first.waits ≡ p.first.waits → q.first.link ≡ p.first.link → q.second.link ≡ p.second.link →
    q.first_names ≡ p.first_names → q.second_names ≡ p.second_names → KeepsLine p q
kept p q a b c d e f = record { fresh = a; waits = b; first_link = c; second_link = d; first_names = e; second_names = f }

both_kept : (p q r : Pair) → KeepsLine p q → KeepsLine q r → KeepsLine p r
both_kept p q r h k = record {
  fresh = k.fresh ∙ h.fresh;
  waits = k.waits ∙ h.waits;
  first_link = k.first_link ∙ h.first_link;
  second_link = k.second_link ∙ h.second_link;
  first_names = k.first_names ∙ h.first_names;
  second_names = k.second_names ∙ h.second_names;
}

pub keeps-line_acted : (to : Party) (fresh : Bool) (a : CacheAction) (p : Pair) → KeepsLine p (line_acted to fresh a p)
keeps-line_acted to fresh action.GetS p = kept p (line_acted to fresh action.GetS p) refl refl refl refl refl refl
keeps-line_acted to fresh action.GetM p = kept p (line_acted to fresh action.GetM p) refl refl refl refl refl refl
keeps-line_acted to fresh action.PutS p = kept p (line_acted to fresh action.PutS p) refl refl refl refl refl refl
keeps-line_acted to fresh action.PutM p = kept p (line_acted to fresh action.PutM p) refl refl refl refl refl refl
keeps-line_acted to fresh action.DataDir p = kept p (line_acted to fresh action.DataDir p) refl refl refl refl refl refl
keeps-line_acted First fresh action.DataReq p = kept p (line_acted First fresh action.DataReq p) refl refl refl refl refl refl
keeps-line_acted Second fresh action.DataReq p = kept p (line_acted Second fresh action.DataReq p) refl refl refl refl refl refl
keeps-line_acted Nobody fresh action.DataReq p = kept p (line_acted Nobody fresh action.DataReq p) refl refl refl refl refl refl
keeps-line_acted Third fresh action.DataReq p = kept p (line_acted Third fresh action.DataReq p) refl refl refl refl refl refl
keeps-line_acted to fresh action.InvAck p = kept p (line_acted to fresh action.InvAck p) refl refl refl refl refl refl

pub keeps-line_acts : (to : Party) (fresh : Bool) (actions : List CacheAction) (p : Pair) → KeepsLine p (line_acts to fresh actions p)
keeps-line_acts to fresh [] p = kept p p refl refl refl refl refl refl
keeps-line_acts to fresh (a ∷ actions) p =
    let q : Pair = line_acted to fresh a p in
    both_kept p q (line_acts to fresh actions q) (keeps-line_acted to fresh a p) (keeps-line_acts to fresh actions q)

pub marked-kept : (p q : Pair) → KeepsLine p q → IsMarked p → IsMarked q
marked-kept p q k h = record { first = cc; second = cc }
