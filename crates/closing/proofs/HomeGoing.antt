-- What is kept from action to action while a cell of the home serves a request.
use Rattle.std.proofs.Common.{◌≡◌, ◌≢◌, ℕ, ◌≤◌, ◌<◌, List, [], ◌∷◌, ap, ◌∙◌, Option, Some, Bool, true, false, ◌==◌, arith, not}
use Rattle.std.proofs.lemmas.List.{get_or_past}
use Rattle.base.specs.declared.ids.CacheId.{CacheId}
use Rattle.network.specs.Traffic.{Traffic, all_sent}
use Rattle.directory_table.specs.declared.actions.DirectoryAction.{DirectoryAction}
use Rattle.control.specs.Sharing.{others_from}
use Rattle.control.specs.HomeEffect.{home_message}
use Rattle.machine.specs.Block.{BlockState}
use Rattle.machine.proofs.Homes.{others-few}
use Rattle.pairs.specs.declared.side.Owned.TheVariants.{ByNobody}
use Rattle.pairs.specs.Pairs.{is_few_side}
use Rattle.pairs.specs.declared.steps.Scene.{Scene}
use Rattle.closing.proofs.Alpha.{AreTrue, side, owed_to}
use Rattle.closing.proofs.HomeSending.{at}
use Rattle.closing.proofs.HomeScene.{Frame}
use Rattle.closing.proofs.HomeActing.{Matches, IsAt, acted}
use Rattle.closing.proofs.HomeStages.{Stage, at_stage, scene_at, next_stage, last_stage, next-among}
use Rattle.closing.proofs.HomeTruths.{acted-true}
use Rattle.closing.proofs.HomeBalance.{acks_to, datas_to, announced_by, datas_by, invited_by, Adds, adds-here, adds-elsewhere, Owes}
use Rattle.closing.proofs.HomeDebts.{owes-after, FewOwed, few-owed_after, FewAnnounced, few-announced_after}
use Rattle.closing.proofs.HomePast.{few_second, few-acted, owner-past}

-- the debt says how what is announced and owed to a cache changed since there were these wires
abbrev pub OwesAt : BlockState → ℕ → Traffic → Stage → Type 0
OwesAt b c first st =
    Owes st.debt (acks_to st.wires c) (owed_to (at_stage b st) c) (acks_to first c) (owed_to (at b b.home first) c) (others_from 0 c st.home.sharers)

-- a stage of serving a request of a cache, since there were these wires
pub record IsServing (caches : ℕ) (b : BlockState) (a : CacheId) (first : Traffic) (st : Stage) : Type 0 where
  pub among : IsAt caches st.home st.wires
  pub truths : AreTrue st.tags (at_stage b st)
  pub owes : OwesAt b a.0 first st
  pub owed : owed_to (at b b.home first) a.0 ≤ 4294967296 → FewOwed st.debt (owed_to (at_stage b st) a.0)
  pub announced : FewAnnounced (acks_to st.wires a.0) (datas_to st.wires a.0)
  pub acks_elsewhere : (c : ℕ) → c ≢ a.0 → acks_to st.wires c ≡ acks_to first c
  pub owed_elsewhere : (c : ℕ) → c ≢ a.0 → owed_to (at_stage b st) c ≡ owed_to (at b b.home first) c
  pub past : (c : ℕ) → caches ≤ c → is_few_side (side st.tags (at_stage b st) c) ≡ true

-- some frame
plain_frame : Frame
plain_frame = record { first_others = false; first_owned = ByNobody; second_others = false; second_owned = ByNobody }

module _ (caches : ℕ) (b : BlockState) (a : CacheId) (value : Option Bool) (brought : Option ℕ) (first : Traffic) where
  -- a cache that isn't there is concerned by nothing
  past-kept : (x : DirectoryAction) (st : Stage) (c : ℕ) → a.0 < caches → Matches value brought b.latest → IsAt caches st.home st.wires → caches ≤ c →
      is_few_side (side (next_stage b a value brought x st).tags (at_stage b (next_stage b a value brought x st)) c) ≡ is_few_side
      (side st.tags (at_stage b st) c)
  past-kept x st c l m h past =
      ap (λ (s : Scene). few_second s)
      (acted caches plain_frame st.debt st.tags b st.home st.wires a c value brought x (λ e. absurd (omega (arith, e, l, past))) h l m)
      ∙ few-acted value x (scene_at plain_frame b st a.0 c) (owner-past caches st.home.owner a.0 c h.owner past)
      (get_or_past st.home.sharers c false (omega (arith, h.sharers, past)))

  serving-next : (x : DirectoryAction) (st : Stage) → caches ≤ 4294967296 → a.0 < caches → Matches value brought b.latest →
      IsServing caches b a first st → IsServing caches b a first (next_stage b a value brought x st)
  serving-next x st few l m h =
      let adds : Adds b st.home st.wires (all_sent (home_message (Some a) x st.home) st.wires) a.0 (announced_by st.home a.0 x) (datas_by x)
      (invited_by st.home a.0 x) =
      adds-here b st.home st.wires caches a x h.among l in
      let others : others_from 0 a.0 st.home.sharers ≤ 4294967296 = omega (arith, others-few a.0 0 st.home.sharers, h.among.sharers, few) in
      record {
        among = next-among caches b a value brought x st l h.among;
        truths = acted-true st.tags b st.home st.wires a value brought x m h.truths;
        owes =
            owes-after st.home a (not (owed_to (at_stage b st) a.0 == 0)) (acks_to st.wires a.0) (owed_to (at_stage b st) a.0) (acks_to first a.0)
            (owed_to (at b b.home first) a.0) brought st.debt x _ _ adds.acks adds.owed h.owes;
        owed = λ few_first. few-owed_after a.0 st.home x st.debt (owed_to (at_stage b st) a.0) _ others adds.owed (h.owed few_first);
        announced = few-announced_after st.home st.wires a.0 x _ _ others adds.acks adds.datas h.announced;
        acks_elsewhere =
            λ c ne. omega (arith, (adds-elsewhere b st.home st.wires caches a x c ne h.among l).acks, h.acks_elsewhere c ne);
        owed_elsewhere =
            λ c ne. omega (arith, (adds-elsewhere b st.home st.wires caches a x c ne h.among l).owed, h.owed_elsewhere c ne);
        past = λ c past. past-kept x st c l m h.among past ∙ h.past c past;
      }

  pub serving-last : (actions : List DirectoryAction) (st : Stage) → caches ≤ 4294967296 → a.0 < caches → Matches value brought b.latest →
      IsServing caches b a first st → IsServing caches b a first (last_stage b a value brought actions st)
  serving-last [] st few l m h = h
  serving-last (x ∷ actions) st few l m h = serving-last actions (next_stage b a value brought x st) few l m (serving-next x st few l m h)
