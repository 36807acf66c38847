-- A cell of the home acts action by action, and the pairs of the requestor see each stage.
use Rattle.std.proofs.Common.{◌≡◌, ◌≢◌, ℕ, ◌<◌, List, [], ◌∷◌, refl, ap, sym, ◌∙◌, Option, Some, None, Bool, true, ◌==◌, not}
use Rattle.base.specs.declared.ids.CacheId.{CacheId}
use Rattle.network.specs.Traffic.{Traffic, all_sent}
use Rattle.network.proofs.Sending.{all_sent-append, links-all_sent}
use Rattle.directory_table.specs.declared.actions.DirectoryAction.{DirectoryAction}
use Rattle.directory_table.specs.declared.actions.DirectoryAction.TheVariants as action
use Rattle.control.specs.declared.home.Home.{Home}
use Rattle.control.specs.HomeEffect.{home_message, home_messages, home_changed, home_moved}
use Rattle.control.specs.Homes.{IsAmong}
use Rattle.control.proofs.HomeSends.{Keeps, keeps-changed, names-among}
use Rattle.machine.specs.Block.{BlockState}
use Rattle.pairs.specs.declared.steps.Debt.{Debt}
use Rattle.pairs.specs.declared.steps.Scene.{Scene}
use Rattle.pairs.specs.Sights.{home_acts}
use Rattle.closing.proofs.Alpha.{Tags, owed_to}
use Rattle.closing.proofs.HomeSending.{at}
use Rattle.closing.proofs.HomeScene.{Frame, scene_of}
use Rattle.closing.proofs.HomeActing.{home_tags, debt_after, Matches, IsAt, acted}

-- what there is between two actions
pub record Stage : Type 0 where
  pub home : Home
  pub wires : Traffic
  pub tags : Tags
  pub debt : Debt

-- a block at a stage
abbrev pub at_stage : BlockState → Stage → BlockState
at_stage b st = at b st.home st.wires

-- what two caches see of it
abbrev pub scene_at : Frame → BlockState → Stage → ℕ → ℕ → Scene
scene_at fr b st c d = scene_of fr st.debt st.tags (at_stage b st) c d

-- the stage after an action on a request
abbrev pub next_stage : BlockState → CacheId → Option Bool → Option ℕ → DirectoryAction → Stage → Stage
next_stage b a value brought x st = record {
  home = home_changed (Some a) brought x st.home;
  wires = all_sent (home_message (Some a) x st.home) st.wires;
  tags = home_tags a value x st.wires st.tags;
  debt = debt_after a.0 (not (owed_to (at_stage b st) a.0 == 0)) st.home x st.debt;
}

abbrev pub last_stage : BlockState → CacheId → Option Bool → Option ℕ → List DirectoryAction → Stage → Stage
last_stage b a value brought [] st = st
last_stage b a value brought (x ∷ actions) st = last_stage b a value brought actions (next_stage b a value brought x st)

-- a home and its wires stay among their caches
pub next-among : (caches : ℕ) (b : BlockState) (a : CacheId) (value : Option Bool) (brought : Option ℕ) (x : DirectoryAction) (st : Stage) → a.0 < caches →
    IsAt caches st.home st.wires → IsAt caches (next_stage b a value brought x st).home (next_stage b a value brought x st).wires
next-among caches b a value brought x st l h =
    let kept : Keeps (Some a) st.home (home_changed (Some a) brought x st.home) = keeps-changed (Some a) brought x st.home in
    let among : IsAmong caches st.home = record { sharers = h.sharers; owner = h.owner } in
    record {
      links = links-all_sent (home_message (Some a) x st.home) st.wires ∙ h.links;
      sharers = kept.flags ∙ h.sharers;
      owner = (kept.names caches (names-among caches st.home among) l).owner;
    }

module _ (caches : ℕ) (fr : Frame) (b : BlockState) (a : CacheId) (value : Option Bool) (brought : Option ℕ) (d : ℕ) where
  -- all actions are seen
  pub all-acted : (actions : List DirectoryAction) (st : Stage) → d ≢ a.0 → a.0 < caches → Matches value brought b.latest → IsAt caches st.home st.wires →
      scene_at fr b (last_stage b a value brought actions st) a.0 d ≡ home_acts true value actions (scene_at fr b st a.0 d)
  all-acted [] st ne l m h = refl
  all-acted (x ∷ actions) st ne l m h =
      all-acted actions (next_stage b a value brought x st) ne l m (next-among caches b a value brought x st l h)
      ∙ ap (λ (s : Scene). home_acts true value actions s) (acted caches fr st.debt st.tags b st.home st.wires a d value brought x ne h l m)

-- no action on a request moves a lag in its tags
pub last-lags : (b : BlockState) (a : CacheId) (value : Option Bool) (brought : Option ℕ) (actions : List DirectoryAction) (st : Stage) →
    (last_stage b a value brought actions st).tags.lag ≡ st.tags.lag
last-lags b a value brought [] st = refl
last-lags b a value brought (x ∷ actions) st = last-lags b a value brought actions (next_stage b a value brought x st) ∙ one value x
  where
    one : (value : Option Bool) (x : DirectoryAction) → (home_tags a value x st.wires st.tags).lag ≡ st.tags.lag
    one value action.DataReq = refl
    one value action.DataAcks = refl
    one value action.DataExcl = refl
    one None action.CopyData = refl
    one (Some fresh) action.CopyData = refl
    one value other = refl

-- the last stage is what the cell leaves
pub last-home : (b : BlockState) (a : CacheId) (value : Option Bool) (brought : Option ℕ) (actions : List DirectoryAction) (st : Stage) →
    (last_stage b a value brought actions st).home ≡ home_moved (Some a) brought actions st.home
last-home b a value brought [] st = refl
last-home b a value brought (x ∷ actions) st = last-home b a value brought actions (next_stage b a value brought x st)

pub last-wires : (b : BlockState) (a : CacheId) (value : Option Bool) (brought : Option ℕ) (actions : List DirectoryAction) (st : Stage) →
    (last_stage b a value brought actions st).wires ≡ all_sent (home_messages (Some a) brought actions st.home) st.wires
last-wires b a value brought [] st = refl
last-wires b a value brought (x ∷ actions) st =
    last-wires b a value brought actions (next_stage b a value brought x st)
    ∙ sym (all_sent-append (home_message (Some a) x st.home) (home_messages (Some a) brought actions (home_changed (Some a) brought x st.home)) st.wires)
