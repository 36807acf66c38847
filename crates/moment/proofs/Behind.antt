-- What a moment is behind a pick.
use Rattle.std.proofs.Common.{◌≡◌, ℕ, List, Result, Ok, Err, MatchResult, true, false, None, Some, get_or, map, slice_get, ap, refl, sym, ◌∙◌}
use Rattle.base.specs.declared.step.Step.{Step}
use Rattle.machine.specs.declared.made.Made.{Made}
use Rattle.cores.specs.Cores.{Core}
use Rattle.lanes.specs.Lanes.{AreAgain, AreReadyIn, IsSourceIn, IsSpoilt, Laned, Source, source_at, whole}
use Rattle.lanes.specs.Picks.{choice_of}
use Rattle.lanes.specs.declared.picking.Pick.{Pick}
use Rattle.machine.specs.Machine.{opened}
use Rattle.scenario.specs.Taking.{offers}
use Rattle.scenario.specs.Tree.{Both, Nil, Seq, trees_of}
use Rattle.schedule.specs.Choices.{choices_of}
use Rattle.schedule.specs.Listed.{is_unheld}
use Rattle.moment.specs.Seen.{IsLike, MakesChoice}
use Rattle.moment.specs.inner.Going.{GoesOn, StaysUnder}
use Rattle.moment.specs.inner.Holding.{Holds, moment_of, seen_of}
use Rattle.world.specs.View.{View}

-- the marks of a source that stays are right still
pub source-behind : (world new : View) (lanes lanes_now : Laned) → StaysUnder world new lanes lanes_now →
    IsSourceIn world.tables (opened world.shape world.opening) lanes → IsSourceIn new.tables (opened new.shape new.opening) lanes_now
source-behind world new lanes lanes_now stays right lane marks there =
    right lane marks (ap (λ (s : Source). slice_get s.marks lane) (sym stays.source) ∙ there)
    ∙ ap (λ t. map (is_unheld t (opened world.shape world.opening)) (offers (source_at lanes lane))) (sym stays.tables)
    ∙ ap (λ shape. map (is_unheld new.tables (opened shape world.opening)) (offers (source_at lanes lane))) (sym stays.shape)
    ∙ ap (λ opening. map (is_unheld new.tables (opened new.shape opening)) (offers (source_at lanes lane))) (sym stays.opening)
    ∙ ap (λ (s : Source). map (is_unheld new.tables (opened new.shape new.opening)) (offers (get_or s.trees lane (Seq Nil)))) (sym stays.source)

pub like-behind : (world new : View) (cores cores_now : List Core) (lanes lanes_now : Laned) → StaysUnder world new lanes lanes_now →
    IsLike (seen_of world cores lanes) (seen_of new cores_now lanes_now)
like-behind world new cores cores_now lanes lanes_now stays = record {
  shape = stays.shape;
  tables = stays.tables;
  opening = stays.opening;
  scenario = ap (λ (s : Source). Both (trees_of s.trees)) stays.source;
}

-- lanes that aren't spoilt were restarted
pub ready-again : {U E : Type 0} (r : Result U E) (world : View) (cores : List Core) (l : Laned) →
    MatchResult r (λ _. AreAgain world cores l) (λ _. IsSpoilt l) → l.usable ≡ true → AreReadyIn world cores l
ready-again r world cores l again usable = elim r as (λ r. MatchResult r (λ _. AreAgain world cores l) (λ _. IsSpoilt l) → AreReadyIn world cores l) [
  | Ok made ↦ λ is. is.ready
  | Err e ↦ λ spoilt. (let both : true ≡ false = sym usable ∙ spoilt in absurd (cc both))
] again

module _ {E : Type 0} (r : Result (Step × Made) E) (pick : Pick) (world new : View) (cores cores_now : List Core) (lanes lanes_now : Laned)
    (went : MatchResult r (λ made. GoesOn pick made.0 made.1 world cores lanes new cores_now lanes_now) (λ _. IsSpoilt lanes_now)) where
  -- all holds of it, where it isn't spoilt
  pub holds-behind : lanes_now.usable ≡ true → Holds new.tables new.state cores_now lanes_now
  holds-behind usable = elim r as (λ r. MatchResult r (λ made. GoesOn pick made.0 made.1 world cores lanes new cores_now lanes_now) (λ _. IsSpoilt lanes_now) →
      Holds new.tables new.state cores_now lanes_now) [
        | Ok made ↦ λ goes. goes.holds
        | Err e ↦ λ spoilt. (let both : true ≡ false = sym usable ∙ spoilt in absurd (cc both))
      ] went

  -- the pick's choice was made
  pub choice-made : (k : ℕ) → lanes.usable ≡ true → slice_get (choices_of world.tables world.state cores (whole lanes)) k ≡ Some (choice_of lanes pick) →
      MatchResult r (λ made. MakesChoice (seen_of world cores lanes) k made.0 made.1 (seen_of new cores_now lanes_now))
      (λ _. (seen_of new cores_now lanes_now).now ≡ None)
  choice-made k usable taken = elim r as (λ r. MatchResult r (λ made. GoesOn pick made.0 made.1 world cores lanes new cores_now lanes_now)
      (λ _. IsSpoilt lanes_now) → MatchResult r (λ made. MakesChoice (seen_of world cores lanes) k made.0 made.1 (seen_of new cores_now lanes_now))
      (λ _. (seen_of new cores_now lanes_now).now ≡ None)) [
        | Ok made ↦ λ goes. record {
          before = moment_of world cores lanes;
          was = rw usable refl;
          choice = choice_of lanes pick;
          taken = taken;
          step_is = goes.step_is;
          told = goes.told;
          leads = goes.leads;
        }
        | Err e ↦ λ spoilt. rw spoilt refl
      ] went
