-- What the pairs of a requestor see in the end, where a cell of the home served its request.
use Rattle.std.proofs.Common.{◌≡◌, ◌≢◌, ℕ, ◌<◌, List, refl, ap, sym, ◌∙◌, Option, Some, None, Bool, true, false, ◌==◌}
use Rattle.std.proofs.Common.{if◌then◌else◌, eq-eqb}
use Rattle.base.specs.declared.ids.CacheId.{CacheId}
use Rattle.base.specs.declared.controller.entry.CellEntry.TheVariants as table_entry
use Rattle.network.specs.Traffic.{Traffic}
use Rattle.directory_table.specs.declared.state.DirectoryState.{DirectoryState}
use Rattle.directory_table.specs.declared.event.DirectoryEvent.{DirectoryEvent}
use Rattle.directory_table.specs.declared.actions.DirectoryAction.{DirectoryAction}
use Rattle.directory_table.specs.Table as directory_table
use Rattle.directory_table.specs.Table.{DirectoryEntry}
use Rattle.tables.specs.Tables.{Tables}
use Rattle.machine.specs.Block.{BlockState, IsBlockAmong}
use Rattle.pairs.specs.declared.side.Lag.{Lag}
use Rattle.pairs.specs.declared.pair.Pair.{Pair}
use Rattle.pairs.specs.Pairs.{fits, is_few}
use Rattle.pairs.specs.declared.steps.Party.{Party}
use Rattle.pairs.specs.declared.steps.Party.TheVariants.{Nobody, First, Second, Third}
use Rattle.pairs.specs.declared.steps.Debt.TheVariants.{Even}
use Rattle.pairs.specs.declared.steps.Scene.{Scene}
use Rattle.pairs.specs.declared.steps.Sight.TheVariants.{Unmoved, Lost, Seen}
use Rattle.pairs.specs.Sights.{at_home, by_home, home_acts, home_settled, looked_at, lag_after, lag_settled, owner_in, concerned_by, any_names_owner}
use Rattle.closing.proofs.Alpha.{Tags, alpha}
use Rattle.closing.proofs.AlphaFits.{alpha-fits}
use Rattle.closing.proofs.Sending.{party_of}
use Rattle.closing.proofs.Simulation.{role}
use Rattle.closing.proofs.HomeScene.{Frame, frame_of, third_of, third-fits, owner-seen_of, scene-left}
use Rattle.closing.proofs.HomeActing.{Matches, IsAt}
use Rattle.closing.proofs.HomeStages.{Stage, at_stage, scene_at, last_stage, all-acted}

-- WHOM IT CONCERNS
-- the owner, if it isn't the requestor
abbrev pub owner_besides : Option CacheId → ℕ → Option ℕ
owner_besides None a = None
owner_besides (Some o) a = if o.0 == a then None else Some o.0

-- the cache besides the requestor that the actions name
abbrev pub besides_of : List DirectoryAction → Option CacheId → ℕ → Option ℕ
besides_of actions o a = if any_names_owner actions then owner_besides o a else None

if-nobody : (t : Bool) → (if t then Nobody else Nobody) ≡ Nobody
if-nobody true = refl
if-nobody false = refl

concerned-some : (actions : List DirectoryAction) (o x : ℕ) (named mine theirs : Bool) → any_names_owner actions ≡ named → (o == x) ≡ theirs →
    concerned_by true actions (if mine then First else (if theirs then Second else Third)) ≡ role (if named then (if mine then None else Some o) else None) x
concerned-some actions o x true true theirs e f = refl
concerned-some actions o x false true theirs e f = refl
concerned-some actions o x true false true e f = ap (λ (t : Bool). if t then Second else Nobody) e ∙ ap (λ (t : Bool). if t then Second else Third) (sym f)
concerned-some actions o x true false false e f = ap (λ (t : Bool). if t then Third else Nobody) e ∙ ap (λ (t : Bool). if t then Second else Third) (sym f)
concerned-some actions o x false false true e f = ap (λ (t : Bool). if t then Second else Nobody) e
concerned-some actions o x false false false e f = ap (λ (t : Bool). if t then Third else Nobody) e

concerned-none : (actions : List DirectoryAction) (named : Bool) (x : ℕ) → any_names_owner actions ≡ named →
    concerned_by true actions Nobody ≡ role (if named then None else None) x
concerned-none actions true x e = if-nobody (any_names_owner actions)
concerned-none actions false x e = if-nobody (any_names_owner actions)

pub concerned-role : (actions : List DirectoryAction) (o : Option CacheId) (a x : ℕ) →
    concerned_by true actions (party_of o a x) ≡ role (besides_of actions o a) x
concerned-role actions None a x = concerned-none actions (any_names_owner actions) x refl
concerned-role actions (Some o) a x = concerned-some actions o.0 x (any_names_owner actions) (o.0 == a) (o.0 == x) refl refl

pub besides-apart : (actions : List DirectoryAction) (o : Option CacheId) (a e : ℕ) → besides_of actions o a ≡ Some e → e ≢ a
besides-apart actions o a e same = at (any_names_owner actions) o same
  where
    differs : (o : CacheId) (t : Bool) → (o.0 == a) ≡ t → (if t then None else Some o.0) ≡ Some e → e ≢ a
    differs o true f same = absurd (cc)
    differs o false f same = λ mine. let is : (o.0 == a) ≡ true = eq-eqb o.0 a (let own : o.0 ≡ e = cc in own ∙ mine) in absurd (cc)

    at : (named : Bool) (o : Option CacheId) → (if named then owner_besides o a else None) ≡ Some e → e ≢ a
    at true None same = absurd (cc)
    at true (Some o) same = differs o (o.0 == a) refl same
    at false o same = absurd (cc)

-- WHAT IS SEEN
-- a stage with the next state of the home
abbrev pub ended : BlockState → DirectoryState → Stage → BlockState
ended b next st = let c : BlockState = at_stage b st in record c { home = record c.home { state = next } }

-- the stage at which the actions begin
abbrev pub begun_with : BlockState → Tags → Traffic → Stage
begun_with b tags w = record { home = b.home; wires = w; tags = tags; debt = Even }

module _ (tables : Tables) (caches : ℕ) (b : BlockState) (a : CacheId) (value : Option Bool) (brought : Option ℕ) (next : DirectoryState)
    (actions : List DirectoryAction) (tags : Tags) (w : Traffic) where
  abbrev begun : Stage
  begun = begun_with b tags w

  abbrev done : Stage
  done = last_stage b a value brought actions begun

  -- the requestor's lag in the end, if that can be followed
  abbrev lag_then : Option Lag
  lag_then = lag_after done.debt (done.tags.lag a.0)

  -- the scene at which they begin
  abbrev begin_scene : ℕ → Scene
  begin_scene x = (let p : Pair = alpha tags (at_stage b begun) a.0 x in record {
    pair = p;
    owner = owner_in p.first.owned p.second.owned;
    third_shares = third_of a.0 x b.home.sharers;
    debt = Even;
  })

  begin-seen : (x : ℕ) → x ≢ a.0 → begin_scene x ≡ scene_at (frame_of (alpha tags (at_stage b begun) a.0 x)) b begun a.0 x
  begin-seen x ne = ap (λ (o : Party). record (begin_scene x) { owner = o }) (owner-seen_of b.home.owner a.0 x (λ e. ne (sym e)))

  settled-seen : (x : ℕ) → x ≢ a.0 → a.0 < caches → Matches value brought b.latest → IsAt caches b.home w →
      home_settled (concerned_by true actions (begin_scene x).owner) next (home_acts true value actions (begin_scene x)) ≡
      lag_settled (role (besides_of actions b.home.owner a.0) x) lag_then (alpha done.tags (ended b next done) a.0 x)
  settled-seen x ne l m h =
      let fr : Frame = frame_of (alpha tags (at_stage b begun) a.0 x) in
      let concerned : concerned_by true actions (begin_scene x).owner ≡ role (besides_of actions b.home.owner a.0) x =
      ap (λ (o : Party). concerned_by true actions o) (owner-seen_of b.home.owner a.0 x (λ e. ne (sym e))) ∙ concerned-role actions b.home.owner a.0 x in
      let scene : home_acts true value actions (begin_scene x) ≡ scene_at fr b done a.0 x =
      ap (λ (s : Scene). home_acts true value actions s) (begin-seen x ne) ∙ sym (all-acted caches fr b a value brought x actions begun ne l m h) in
      (λ i. home_settled (concerned i) next (scene i))
      ∙ ap (λ (p : Pair). lag_settled (role (besides_of actions b.home.owner a.0) x) lag_then p)
      (scene-left fr done.debt done.tags (at_stage b done) next a.0 x (λ e. ne (sym e)))

  -- the pair of the requestor and another cache sees all that the cell does
  pub end-seen : (e : DirectoryEvent) (x : ℕ) → x ≢ a.0 → a.0 < caches → Matches value brought b.latest → IsAt caches b.home w →
      directory_table.cell tables.directory b.home.state e ≡ table_entry.Act next actions →
      at_home tables (third_of a.0 x b.home.sharers) true value e (alpha tags (at_stage b begun) a.0 x) ≡
      lag_settled (role (besides_of actions b.home.owner a.0) x) lag_then (alpha done.tags (ended b next done) a.0 x)
  end-seen e x ne l m h cell =
      ap (λ (t : Bool). if t then by_home true value (directory_table.cell tables.directory b.home.state e) (begin_scene x) else Unmoved)
      (third-fits tags (at_stage b begun) a.0 x (λ same. ne (sym same)))
      ∙ ap (λ (y : DirectoryEntry). by_home true value y (begin_scene x)) cell ∙ settled-seen x ne l m h

-- a pair of a block that is few is seen, one that isn't is lost
pub looked-few : (caches : ℕ) (tags : Tags) (b : BlockState) (concerned : Party) (c d : ℕ) → IsBlockAmong caches b → c ≢ d →
    is_few (alpha tags b c d) ≡ true → looked_at concerned (alpha tags b c d) ≡ Seen concerned (alpha tags b c d)
looked-few caches tags b concerned c d whole ne few =
    let p : Pair = alpha tags b c d in
    ap (λ (t : Bool). if t then (if fits p then Seen concerned p else Unmoved) else Lost) few
    ∙ ap (λ (t : Bool). if t then Seen concerned p else Unmoved) (alpha-fits caches tags b c d whole ne)

pub looked-many : (concerned : Party) (p : Pair) → is_few p ≡ false → looked_at concerned p ≡ Lost
looked-many concerned p many = ap (λ (t : Bool). if t then (if fits p then Seen concerned p else Unmoved) else Lost) many

-- with whatever lag
pub settled-many : (concerned : Party) (lag : Option Lag) (p : Pair) → is_few p ≡ false → lag_settled concerned lag p ≡ Lost
settled-many concerned None p many = refl
settled-many concerned (Some lag) p many = looked-many concerned (record p { first = record p.first { lag = lag } }) many
