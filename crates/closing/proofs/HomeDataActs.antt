-- A cell of the home that acts on Data that comes to it: all pairs have the step among their sights.
use Rattle.std.proofs.Common.{◌≡◌, ◌≢◌, ℕ, ◌≤◌, List, refl, ap, sym, subst, ◌∙◌, inr, Some, None, Bool, true, false, arith}
use Rattle.std.proofs.Common.{if◌then◌else◌, ◌&&◌, slice_get, nat_le, sum_by, pos, ◌+ℤ◌}
use Rattle.std.proofs.lemmas.Bool.{leb-true, le-leb}
use Rattle.base.specs.declared.ids.Place.{Place}
use Rattle.base.specs.declared.ids.Place.TheVariants.{Dir}
use Rattle.base.specs.declared.controller.entry.CellEntry.TheVariants as table_entry
use Rattle.network.specs.declared.message.Message.{Message}
use Rattle.network.specs.declared.message.Response.TheVariants.{Data}
use Rattle.network.specs.Traffic.{Traffic, response_taken, all_sent}
use Rattle.directory_table.specs.declared.state.DirectoryState.{DirectoryState}
use Rattle.directory_table.specs.declared.event.DirectoryEvent.TheVariants as home_event
use Rattle.directory_table.specs.declared.actions.DirectoryAction.{DirectoryAction}
use Rattle.directory_table.specs.Table as directory_table
use Rattle.directory_table.specs.Table.{DirectoryEntry}
use Rattle.tables.specs.Tables.{Tables}
use Rattle.control.specs.declared.home.Home.{Home}
use Rattle.control.specs.declared.home.HomeInput.TheVariants as home_input
use Rattle.control.specs.HomeEffect.{home_moved}
use Rattle.control.proofs.HomeCounts.{nothing-sent}
use Rattle.machine.specs.Block.{BlockState, IsBlockAmong}
use Rattle.machine.specs.declared.decision.Decision.TheVariants.{AtHome}
use Rattle.machine.specs.declared.decision.Origin.TheVariants as origin
use Rattle.machine.specs.Transition.{carried_out}
use Rattle.machine.proofs.Whole.{whole-at_home}
use Rattle.machine.proofs.Seen.{line_of, home_data, ack_number}
use Rattle.pairs.specs.declared.pair.Pair.{Pair}
use Rattle.pairs.specs.declared.side.PairSide.{PairSide}
use Rattle.pairs.specs.Pairs.{is_few, is_few_side}
use Rattle.pairs.specs.declared.steps.Party.{Party}
use Rattle.pairs.specs.declared.steps.Party.TheVariants.{Nobody}
use Rattle.pairs.specs.declared.steps.Debt.TheVariants.{Even}
use Rattle.pairs.specs.declared.steps.Scene.{Scene}
use Rattle.pairs.specs.declared.steps.Sight.TheVariants.{Unmoved, Seen}
use Rattle.pairs.specs.Sights.{home_data_seen, at_home, by_home, home_acts, home_settled, looked_at, owner_in}
use Rattle.closing.proofs.Alpha.{Tags, LagIs, alpha, owed_to, side, shared, AreTrue, Faithful}
use Rattle.closing.proofs.Lags.{same-lag}
use Rattle.pairs.specs.declared.side.Lag.{Lag}
use Rattle.closing.proofs.Simulation.{HomeActs, HomeMoves}
use Rattle.closing.proofs.HomeSending.{at}
use Rattle.closing.proofs.HomeScene.{Frame, frame_of, scene_of, third_of, third-fits, owner-seen_of, scene-left}
use Rattle.closing.proofs.HomeActing.{IsAt}
use Rattle.closing.proofs.HomeData.{data_tags_after, all-data, all-true, acks-left, data-lags, owed-left, side-left, home-left, home-there, pair-left}
use Rattle.closing.proofs.HomeData.{left-true, value-true}
use Rattle.closing.proofs.RequestTaken.{some-seen}
use Rattle.closing.proofs.RequestEnds.{looked-few}

module _ (tables : Tables) (caches : ℕ) (tags : Tags) (b : BlockState) (index : ℕ) (by : Place) (value acks : ℕ) (whole : IsBlockAmong caches b)
    (faithful : Faithful tags b) (e : Some (Data by Dir value acks) ≡ slice_get b.traffic.responses index) (next : DirectoryState)
    (actions : List DirectoryAction) where
  abbrev wires : Traffic
  wires = response_taken index b.traffic

  abbrev left : BlockState
  left = at b b.home wires

  -- whether the value is known to be the last store's
  abbrev fresh : Bool
  fresh = (shared tags b).fresh_home_data

  abbrev tags_after : Tags
  tags_after = data_tags_after fresh actions tags

  abbrev home_after : Home
  home_after = home_moved None (Some value) actions b.home

  abbrev after : BlockState
  after = at b (record home_after { state = next }) wires

  abbrev new : BlockState
  new = (carried_out (AtHome (home_input.Data value) next actions (origin.Response index)) b).block

  same-block : after ≡ new
  same-block =
      ap (λ (ms : List Message). at b (record home_after { state = next }) (all_sent ms wires)) (sym (nothing-sent (Some value) actions b.home))

  whole-after : IsBlockAmong caches after
  whole-after =
      subst (λ (x : BlockState). IsBlockAmong caches x) (sym same-block)
      (whole-at_home caches (home_input.Data value) next actions (origin.Response index) b new whole tt refl refl refl)

  among : IsAt caches b.home wires
  among = record { links = whole.links; sharers = whole.home.sharers; owner = whole.home.owner }

  -- FAITHFUL
  truths : AreTrue tags_after (at b home_after wires)
  truths =
      all-true b wires fresh value actions b.home tags (value-true tags b index by value acks e faithful.tags_are_true)
      (left-true tags b index by value acks e faithful.tags_are_true)

  few-after : (c : ℕ) → is_few_side (side tags_after after c) ≡ true
  few-after c = ap (λ (s : PairSide). is_few_side s) (side-left tags b index by value acks e c) ∙ faithful.few c

  few-home : nat_le (sum_by home_data wires.responses) 1 ≡ true
  few-home =
      le-leb (sum_by home_data wires.responses) 1
      (omega (arith, home-left tags b index by value acks e, leb-true (sum_by home_data b.traffic.responses) 1 faithful.few_home))

  faithful-after : Faithful tags_after after
  faithful-after = record {
    tags_are_true =
        record { line = truths.line; data_to = truths.data_to; putm = truths.putm; home_data = truths.home_data; memory = truths.memory };
    few = few-after;
    few_home = few-home;
    lags = λ c.
        subst (λ (l : ℕ → Lag). LagIs (l c) ((line_of b.lines c).acks +ℤ pos (sum_by (ack_number c) wires.responses)) (owed_to (at b b.home wires) c))
        (sym (data-lags fresh actions tags))
        (same-lag (tags.lag c) _ _ _ _ _ _ refl (sym (acks-left tags b index by value acks e c)) (sym (owed-left tags b index by value acks e c))
        (faithful.lags c));
    announced = λ c. omega (arith, acks-left tags b index by value acks e c, faithful.announced c);
  }

  few-pair : (c d : ℕ) → is_few (alpha tags_after after c d) ≡ true
  few-pair c d =
      ap (λ (t : Bool). t && is_few_side (side tags_after after c) && is_few_side (side tags_after after d)) few-home
      ∙ ap (λ (t : Bool). t && is_few_side (side tags_after after d)) (few-after c) ∙ few-after d

  -- SIGHTS
  abbrev begin_scene : ℕ → ℕ → Scene
  begin_scene c d = (let p : Pair = alpha tags left c d in record {
    pair = p;
    owner = owner_in p.first.owned p.second.owned;
    third_shares = third_of c d b.home.sharers;
    debt = Even;
  })

  settled-seen : (c d : ℕ) → c ≢ d →
      home_settled Nobody next (home_acts false (Some fresh) actions (begin_scene c d)) ≡ looked_at Nobody (alpha tags_after after c d)
  settled-seen c d ne =
      let fr : Frame = frame_of (alpha tags left c d) in
      let begun : begin_scene c d ≡ scene_of fr Even tags left c d =
      ap (λ (o : Party). record (begin_scene c d) { owner = o }) (owner-seen_of b.home.owner c d ne) in
      let scene : home_acts false (Some fresh) actions (begin_scene c d) ≡ scene_of fr Even tags_after (at b home_after wires) c d =
      ap (λ (s : Scene). home_acts false (Some fresh) actions s) begun ∙ sym (all-data caches fr b wires fresh value c d actions b.home tags ne among) in
      ap (λ (s : Scene). home_settled Nobody next s) scene
      ∙ ap (λ (p : Pair). looked_at Nobody p) (scene-left fr Even tags_after (at b home_after wires) next c d ne)

  sees : (c d : ℕ) → c ≢ d → directory_table.cell tables.directory b.home.state home_event.Data ≡ table_entry.Act next actions →
      home_data_seen tables (third_of c d b.home.sharers) (alpha tags b c d) ≡ Seen Nobody (alpha tags_after after c d)
  sees c d ne cell =
      some-seen (sum_by home_data b.traffic.responses) _ (home-there tags b index by value acks e)
      ∙ ap (λ (p : Pair). at_home tables (third_of c d b.home.sharers) false (Some fresh) home_event.Data p) (pair-left tags b index by value acks e c d)
      ∙ ap (λ (t : Bool). if t then by_home false (Some fresh) (directory_table.cell tables.directory b.home.state home_event.Data) (begin_scene c d)
      else Unmoved)
      (third-fits tags left c d ne)
      ∙ ap (λ (y : DirectoryEntry). by_home false (Some fresh) y (begin_scene c d)) cell ∙ settled-seen c d ne
      ∙ looked-few caches tags_after after Nobody c d whole-after ne (few-pair c d)

  home-moves : directory_table.cell tables.directory b.home.state home_event.Data ≡ table_entry.Act next actions → HomeMoves tables tags b after
  home-moves cell = record {
    after = tags_after;
    faithful = faithful-after;
    sees = λ c d ne. (third_of c d b.home.sharers, sees c d ne cell);
  }

pub home_data-acted : (tables : Tables) (caches : ℕ) (tags : Tags) (b : BlockState) (index : ℕ) (by : Place) (value acks : ℕ) → caches ≤ 4294967296 →
    IsBlockAmong caches b → Faithful tags b → Some (Data by Dir value acks) ≡ slice_get b.traffic.responses index →
    HomeActs tables tags b (home_input.Data value) (origin.Response index)
home_data-acted tables caches tags b index by value acks few whole faithful e next actions cell =
    inr (record {
      unmet = λ blank. absurd (cc);
      fits = refl;
      moves =
          inr (inr (subst (λ (x : BlockState). HomeMoves tables tags b x) (same-block tables caches tags b index by value acks whole faithful e next actions)
          (home-moves tables caches tags b index by value acks whole faithful e next actions cell)));
    })
