-- What completes at a line, as a pair sees it.
use Rattle.std.proofs.Common.{◌≡◌, ℕ, refl, sym, subst, ◌∙◌, inl, inr, Option, Some, None, Bool, true, false, if◌then◌else◌, ◌==◌, ◌⊎◌}
use Rattle.base.specs.declared.ids.CacheId.{CacheId}
use Rattle.base.specs.declared.step.Ask.{Ask}
use Rattle.base.specs.declared.step.Ask.TheVariants as ask
use Rattle.base.specs.declared.step.Outcome.TheVariants as outcome
use Rattle.network.specs.Traffic.{Traffic}
use Rattle.control.specs.declared.line.Line.{Line}
use Rattle.control.specs.declared.line.LineCompletion.{LineCompletion}
use Rattle.control.specs.declared.line.LineCompletion.TheVariants as done
use Rattle.control.specs.LineEffect.{is_reader, is_modified, completed, pending_completed, after_ask, after_message}
use Rattle.control.specs.declared.home.Home.{Home}
use Rattle.machine.specs.declared.decision.Origin.{Origin}
use Rattle.machine.specs.declared.decision.Origin.TheVariants as origin
use Rattle.machine.specs.Transition.{outcome_of, latest_after, plain_outcome}
use Rattle.machine.proofs.LineValues.{FitsLatest}
use Rattle.pairs.specs.declared.side.Waiting.TheVariants as waiting_for
use Rattle.pairs.specs.declared.side.Lag.TheVariants.{Level}
use Rattle.pairs.specs.declared.pair.Pair.{Pair}
use Rattle.pairs.specs.declared.steps.Party.{Party}
use Rattle.pairs.specs.declared.steps.Sight.{Sight}
use Rattle.pairs.specs.declared.steps.Sight.TheVariants.{Spoilt}
use Rattle.pairs.specs.Sights.{looked_at, loaded, stored, waiting, ask_settled, wait_settled}
use Rattle.closing.proofs.Alpha.{Owing, Tags, Face, pair_of, waiting_of}

-- nothing is known to be fresh but a line. What is awaited isn't told
abbrev pub stale_tags : ℕ → Tags
stale_tags a = record { line = λ c. c == a; data_to = λ c. false; putm = λ c. false; home_data = false; memory = false; lag = λ c. Level }

-- nothing is stored: the pair goes on as the line does
pub record Plain (settle : Party → Pair → Sight) (m : Line) (fresh : Bool) (owed : Owing) (l : Line) (done : Option LineCompletion) : Type 0 where
  pub sees : (concerned : Party) (g : Face) (tags : Tags) (home : Home) (w : Traffic) (a x : ℕ) →
      settle concerned (pair_of (record { line = m; fresh = fresh; owed = owed }) g tags home w a x) ≡
      looked_at concerned (pair_of (record { line = l; fresh = fresh; owed = owed }) g tags home w a x)
  pub value : l.value ≡ m.value
  pub acks : l.acks ≡ m.acks
  pub latest : (n : ℕ) → latest_after done n ≡ n
  pub fits : (cache : CacheId) (from : Origin) (n : ℕ) → (fresh ≡ true → m.value ≡ n) → FitsLatest (outcome_of cache from done) n (latest_after done n)
  pub unmet : (cache : CacheId) (from : Origin) → outcome_of cache from done ≡ outcome.Blank → ⊥

-- a store completes: its line alone is fresh from now on
pub record Stores (settle : Party → Pair → Sight) (m : Line) (fresh : Bool) (owed : Owing) (l : Line) (done : Option LineCompletion) : Type 0 where
  pub sees : (concerned : Party) (g : Face) (tags : Tags) (home : Home) (w : Traffic) (a x : ℕ) →
      settle concerned (pair_of (record { line = m; fresh = fresh; owed = owed }) g tags home w a x) ≡
      looked_at concerned (pair_of (record { line = l; fresh = true; owed = owed }) (record g { fresh = false }) (stale_tags a) home w a x)
  pub acks : l.acks ≡ m.acks
  pub latest : (n : ℕ) → latest_after done n ≡ l.value
  pub fits : (cache : CacheId) (from : Origin) (n : ℕ) → FitsLatest (outcome_of cache from done) n (latest_after done n)
  pub unmet : (cache : CacheId) (from : Origin) → outcome_of cache from done ≡ outcome.Blank → ⊥

-- a load completes by what may not be the last store's value
pub record Spoils (settle : Party → Pair → Sight) (m : Line) (fresh : Bool) (owed : Owing) : Type 0 where
  pub sees : (concerned : Party) (g : Face) (tags : Tags) (home : Home) (w : Traffic) (a x : ℕ) →
      settle concerned (pair_of (record { line = m; fresh = fresh; owed = owed }) g tags home w a x) ≡ Spoilt concerned

abbrev pub SettlesAs : (Party → Pair → Sight) → Line → Bool → Owing → Line → Option LineCompletion → Type 0
SettlesAs settle m fresh owed l done = Plain settle m fresh owed l done ⊎ Stores settle m fresh owed l done ⊎ Spoils settle m fresh owed

plain-fits : (from : Origin) (n : ℕ) → FitsLatest (plain_outcome from) n n
plain-fits origin.Core n = refl
plain-fits (origin.Request index) n = refl
plain-fits (origin.Head cache) n = refl
plain-fits (origin.Response index) n = refl

plain-unmet : (from : Origin) → plain_outcome from ≡ outcome.Blank → ⊥
plain-unmet origin.Core e = absurd (cc)
plain-unmet (origin.Request index) e = absurd (cc)
plain-unmet (origin.Head cache) e = absurd (cc)
plain-unmet (origin.Response index) e = absurd (cc)

-- nothing completes
nothing-done : (settle : Party → Pair → Sight) (m : Line) (fresh : Bool) (owed : Owing) (l : Line) → l.value ≡ m.value → l.acks ≡ m.acks →
    ((concerned : Party) (g : Face) (tags : Tags) (home : Home) (w : Traffic) (a x : ℕ) →
    settle concerned (pair_of (record { line = m; fresh = fresh; owed = owed }) g tags home w a x) ≡
    looked_at concerned (pair_of (record { line = l; fresh = fresh; owed = owed }) g tags home w a x)) → SettlesAs settle m fresh owed l None
nothing-done settle m fresh owed l value acks sees = inl (record {
  sees = sees;
  value = value;
  acks = acks;
  latest = λ n. refl;
  fits = λ cache from n right. plain-fits from n;
  unmet = λ cache from. plain-unmet from;
})

-- a load completes
load-done : (settle : Party → Pair → Sight) (m : Line) (owed : Owing) (l : Line) → l.value ≡ m.value → l.acks ≡ m.acks →
    ((concerned : Party) (g : Face) (tags : Tags) (home : Home) (w : Traffic) (a x : ℕ) →
    settle concerned (pair_of (record { line = m; fresh = true; owed = owed }) g tags home w a x) ≡
    looked_at concerned (pair_of (record { line = l; fresh = true; owed = owed }) g tags home w a x)) →
    SettlesAs settle m true owed l (Some (done.Load m.value))
load-done settle m owed l value acks sees = inl (record {
  sees = sees;
  value = value;
  acks = acks;
  latest = λ n. refl;
  fits = λ cache from n right. (right refl, refl);
  unmet = λ cache from e. absurd (cc);
})

-- a store completes
store-done : (settle : Party → Pair → Sight) (m : Line) (fresh : Bool) (owed : Owing) (l : Line) (value : ℕ) → l.value ≡ value → l.acks ≡ m.acks →
    ((concerned : Party) (g : Face) (tags : Tags) (home : Home) (w : Traffic) (a x : ℕ) →
    settle concerned (pair_of (record { line = m; fresh = fresh; owed = owed }) g tags home w a x) ≡
    looked_at concerned (pair_of (record { line = l; fresh = true; owed = owed }) (record g { fresh = false }) (stale_tags a) home w a x)) →
    SettlesAs settle m fresh owed l (Some (done.Store value))
store-done settle m fresh owed l value is acks sees = inr (inl (record {
  sees = sees;
  acks = acks;
  latest = λ n. sym is;
  fits = λ cache from n. refl;
  unmet = λ cache from e. absurd (cc);
}))

-- ASKS
-- an ask completes, where the line may be read or may be written, or waits
abbrev asks_by : Ask → Bool → Bool → Party → Pair → Sight
asks_by ask.Load reads writes concerned q = if reads then loaded concerned q q else looked_at concerned (waiting (Some waiting_for.Load) q)
asks_by (ask.Store value) reads writes concerned q = looked_at concerned (if writes then stored q else waiting (Some waiting_for.Store) q)
asks_by ask.Replace reads writes concerned q = looked_at concerned q

abbrev done_by : Ask → Bool → Bool → Line → Option LineCompletion
done_by ask.Load reads writes m = if reads then Some (done.Load m.value) else None
done_by (ask.Store value) reads writes m = if writes then Some (done.Store value) else None
done_by ask.Replace reads writes m = None

asked : (a : Ask) (reads writes : Bool) (m : Line) (fresh : Bool) (owed : Owing) →
    SettlesAs (asks_by a reads writes) m fresh owed (after_ask a (done_by a reads writes m) m) (done_by a reads writes m)
asked ask.Load true writes m true owed = load-done (asks_by ask.Load true writes) m owed m refl refl (λ concerned g tags home w a x. refl)
asked ask.Load true writes m false owed = inr (inr (record { sees = λ concerned g tags home w a x. refl }))
asked ask.Load false writes m fresh owed =
    nothing-done (asks_by ask.Load false writes) m fresh owed (record m { pending = Some ask.Load }) refl refl (λ concerned g tags home w a x. refl)
asked (ask.Store value) reads true m fresh owed =
    store-done (asks_by (ask.Store value) reads true) m fresh owed (record m { value = value }) value refl refl (λ concerned g tags home w a x. refl)
asked (ask.Store value) reads false m fresh owed =
    nothing-done (asks_by (ask.Store value) reads false) m fresh owed (record m { pending = Some (ask.Store value) }) refl refl
    (λ concerned g tags home w a x. refl)
asked ask.Replace reads writes m fresh owed =
    nothing-done (asks_by ask.Replace reads writes) m fresh owed m refl refl (λ concerned g tags home w a x. refl)

-- how a pair settles hangs on what it makes of the line alone
pub same-settle : (by to : Party → Pair → Sight) (m : Line) (fresh : Bool) (owed : Owing) (l : Line) (done : Option LineCompletion) →
    ((concerned : Party) (g : Face) (tags : Tags) (home : Home) (w : Traffic) (a x : ℕ) →
    to concerned (pair_of (record { line = m; fresh = fresh; owed = owed }) g tags home w a x) ≡
    by concerned (pair_of (record { line = m; fresh = fresh; owed = owed }) g tags home w a x)) →
    SettlesAs by m fresh owed l done → SettlesAs to m fresh owed l done
same-settle by to m fresh owed l done same (inl p) = inl (record {
  sees = λ concerned g tags home w a x. same concerned g tags home w a x ∙ p.sees concerned g tags home w a x;
  value = p.value;
  acks = p.acks;
  latest = p.latest;
  fits = p.fits;
  unmet = p.unmet;
})
same-settle by to m fresh owed l done same (inr (inl p)) = inr (inl (record {
  sees = λ concerned g tags home w a x. same concerned g tags home w a x ∙ p.sees concerned g tags home w a x;
  acks = p.acks;
  latest = p.latest;
  fits = p.fits;
  unmet = p.unmet;
}))
same-settle by to m fresh owed l done same (inr (inr p)) =
    inr (inr (record { sees = λ concerned g tags home w a x. same concerned g tags home w a x ∙ p.sees concerned g tags home w a x }))

-- asks settle as their rules say
pub load-settles : (m : Line) (fresh : Bool) (owed : Owing) → SettlesAs (λ concerned q. ask_settled concerned waiting_for.Load q) m fresh owed
    (after_ask ask.Load (completed ask.Load m) m) (completed ask.Load m)
load-settles m fresh owed =
    same-settle (asks_by ask.Load (is_reader m.state) (is_modified m.state)) _ m fresh owed _ _ (λ concerned g tags home w a x. refl)
    (asked ask.Load (is_reader m.state) (is_modified m.state) m fresh owed)

pub store-settles : (value : ℕ) (m : Line) (fresh : Bool) (owed : Owing) → SettlesAs (λ concerned q. ask_settled concerned waiting_for.Store q) m fresh owed
    (after_ask (ask.Store value) (completed (ask.Store value) m) m) (completed (ask.Store value) m)
store-settles value m fresh owed =
    same-settle (asks_by (ask.Store value) (is_reader m.state) (is_modified m.state)) _ m fresh owed _ _ (λ concerned g tags home w a x. refl)
    (asked (ask.Store value) (is_reader m.state) (is_modified m.state) m fresh owed)

pub replacement-settles : (m : Line) (fresh : Bool) (owed : Owing) →
    SettlesAs (λ concerned q. looked_at concerned q) m fresh owed (after_ask ask.Replace (completed ask.Replace m) m) (completed ask.Replace m)
replacement-settles m fresh owed = nothing-done (λ concerned q. looked_at concerned q) m fresh owed m refl refl (λ concerned g tags home w a x. refl)

-- MESSAGES
-- what waits completes, where the line may be read or may be written
abbrev waits_by : Option Ask → Bool → Bool → Party → Pair → Sight
waits_by None reads writes concerned q = looked_at concerned q
waits_by (Some ask.Load) reads writes concerned q = if reads then loaded concerned q (waiting None q) else looked_at concerned q
waits_by (Some (ask.Store value)) reads writes concerned q = looked_at concerned (if writes then stored (waiting None q) else q)
waits_by (Some ask.Replace) reads writes concerned q = looked_at concerned q

abbrev waiting_done_by : Option Ask → Bool → Bool → Line → Option LineCompletion
waiting_done_by None reads writes m = None
waiting_done_by (Some a) reads writes m = done_by a reads writes m

waited : (o : Option Ask) (reads writes : Bool) (m : Line) (fresh : Bool) (owed : Owing) →
    SettlesAs (waits_by o reads writes) m fresh owed (after_message (waiting_done_by o reads writes m) m) (waiting_done_by o reads writes m)
waited None reads writes m fresh owed = nothing-done (waits_by None reads writes) m fresh owed m refl refl (λ concerned g tags home w a x. refl)
waited (Some ask.Load) true writes m true owed =
    load-done (waits_by (Some ask.Load) true writes) m owed (record m { pending = None }) refl refl (λ concerned g tags home w a x. refl)
waited (Some ask.Load) true writes m false owed = inr (inr (record { sees = λ concerned g tags home w a x. refl }))
waited (Some ask.Load) false writes m fresh owed =
    nothing-done (waits_by (Some ask.Load) false writes) m fresh owed m refl refl (λ concerned g tags home w a x. refl)
waited (Some (ask.Store value)) reads true m fresh owed =
    store-done (waits_by (Some (ask.Store value)) reads true) m fresh owed (record m { value = value; pending = None }) value refl refl
    (λ concerned g tags home w a x. refl)
waited (Some (ask.Store value)) reads false m fresh owed =
    nothing-done (waits_by (Some (ask.Store value)) reads false) m fresh owed m refl refl (λ concerned g tags home w a x. refl)
waited (Some ask.Replace) reads writes m fresh owed =
    nothing-done (waits_by (Some ask.Replace) reads writes) m fresh owed m refl refl (λ concerned g tags home w a x. refl)

waits-same : (o : Option Ask) (concerned : Party) (q : Pair) →
    wait_settled concerned (waiting_of o) q ≡ waits_by o (is_reader q.first.state) (is_modified q.first.state) concerned q
waits-same None concerned q = refl
waits-same (Some ask.Load) concerned q = refl
waits-same (Some (ask.Store value)) concerned q = refl
waits-same (Some ask.Replace) concerned q = refl

pending-done : (o : Option Ask) (m : Line) → waiting_done_by o (is_reader m.state) (is_modified m.state) m ≡ pending_completed o m
pending-done None m = refl
pending-done (Some ask.Load) m = refl
pending-done (Some (ask.Store value)) m = refl
pending-done (Some ask.Replace) m = refl

-- on a message what waits settles
pub message-settles : (m : Line) (fresh : Bool) (owed : Owing) → SettlesAs (λ concerned q. wait_settled concerned q.first.waits q) m fresh owed
    (after_message (pending_completed m.pending m) m) (pending_completed m.pending m)
message-settles m fresh owed =
    same-settle (waits_by m.pending (is_reader m.state) (is_modified m.state)) _ m fresh owed _ _
    (λ concerned g tags home w a x. waits-same m.pending concerned (pair_of (record { line = m; fresh = fresh; owed = owed }) g tags home w a x))
    (subst (λ (d : Option LineCompletion). SettlesAs (waits_by m.pending (is_reader m.state) (is_modified m.state)) m fresh owed (after_message d m) d)
    (pending-done m.pending m) (waited m.pending (is_reader m.state) (is_modified m.state) m fresh owed))
