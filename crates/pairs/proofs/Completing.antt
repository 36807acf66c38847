-- What completes at a pair, told apart from what a load returns.
use Rattle.std.proofs.Common.{◌≡◌, ◌∙◌, ◌&&◌, if◌then◌else◌, not, Bool, true, false, Option, Some, None, List, refl, ap}
use Rattle.cache_table.specs.declared.actions.CacheAction.{CacheAction}
use Rattle.cache_table.specs.declared.state.CacheState.{CacheState}
use Rattle.control.specs.LineEffect.{is_reader, is_modified}
use Rattle.pairs.specs.declared.side.Waiting.{Waiting}
use Rattle.pairs.specs.declared.side.Waiting.TheVariants as waiting_for
use Rattle.pairs.specs.declared.pair.Pair.{Pair}
use Rattle.pairs.specs.declared.steps.Party.{Party}
use Rattle.pairs.specs.declared.steps.Rule.{Rule}
use Rattle.pairs.specs.declared.steps.Rule.TheVariants.{AsksLoad, AsksStore, AsksReplacement}
use Rattle.pairs.specs.declared.steps.Sight.{Sight}
use Rattle.pairs.specs.declared.steps.Sight.TheVariants.{Lost, Spoilt}
use Rattle.pairs.specs.Pairs.{is_few}
use Rattle.pairs.specs.Marking.{IsMarked}
use Rattle.pairs.specs.Sights.{line_acts, line_settled, looked_at, settles, stored, wait_settled, waiting}
use Rattle.pairs.specs.inner.Following.{done, few_pair, loads, wait_done, wait_loads}
use Rattle.pairs.proofs.LineActing.{KeepsLine, keeps-line_acts}

-- where there is no pair, it isn't few
few-none : (b : Bool) (q : Pair) → ◌≡◌ {A = Option Pair} None (if b then Some q else None) → b ≡ false
few-none true q e = cc
few-none false q e = refl

some-few : (b : Bool) (q r : Pair) → Some r ≡ (if b then Some q else None) → r ≡ q
some-few true q r e = cc
some-few false q r e = cc

-- where there is one, it is this
pub few_pair-some : (q r : Pair) → Some r ≡ few_pair q → r ≡ q
few_pair-some q r e = some-few (is_few q) q r e

-- a load that completes is looked at where it is fresh, and nothing else spoils
chosen : (completes fresh : Bool) (concerned : Party) (after p : Pair) →
    (if completes then (if fresh then looked_at concerned after else Spoilt concerned) else looked_at concerned p)
    ≡ (if completes && not fresh then Spoilt concerned else looked_at concerned (if completes then after else p))
chosen true true concerned after p = refl
chosen true false concerned after p = refl
chosen false fresh concerned after p = refl

wait_settled-done : (concerned : Party) (waits : Option Waiting) (p : Pair) →
    wait_settled concerned waits p
    ≡ (if wait_loads waits p.first.state && not p.first.fresh then Spoilt concerned else looked_at concerned (wait_done waits p))
wait_settled-done concerned None p = refl
wait_settled-done concerned (Some waiting_for.Load) p = chosen (is_reader p.first.state) p.first.fresh concerned (waiting None p) p
wait_settled-done concerned (Some waiting_for.Store) p = refl

-- what comes of a rule, from what a load returns and what the pair becomes
pub settles-done : (concerned : Party) (rule : Rule) (p : Pair) →
    settles concerned rule p ≡ (if loads rule p.first.waits p.first.state && not p.first.fresh then Spoilt concerned else looked_at concerned (done rule p))
settles-done concerned AsksLoad p = chosen (is_reader p.first.state) p.first.fresh concerned p (waiting (Some waiting_for.Load) p)
settles-done concerned AsksStore p = refl
settles-done concerned AsksReplacement p = refl
settles-done concerned other p = wait_settled-done concerned p.first.waits p

few-if : (b : Bool) (p q r : Pair) → is_few p ≡ is_few r → is_few q ≡ is_few r → is_few (if b then p else q) ≡ is_few r
few-if true p q r e f = e
few-if false p q r e f = f

few-wait_done : (waits : Option Waiting) (p : Pair) → is_few (wait_done waits p) ≡ is_few p
few-wait_done None p = refl
few-wait_done (Some waiting_for.Load) p = few-if (is_reader p.first.state) (waiting None p) p p refl refl
few-wait_done (Some waiting_for.Store) p = few-if (is_modified p.first.state) (stored (waiting None p)) p p refl refl

-- what completes makes nothing more or less
pub few-done : (rule : Rule) (p : Pair) → is_few (done rule p) ≡ is_few p
few-done AsksLoad p = few-if (is_reader p.first.state) p (waiting (Some waiting_for.Load) p) p refl refl
few-done AsksStore p = few-if (is_modified p.first.state) (stored p) (waiting (Some waiting_for.Store) p) p refl refl
few-done AsksReplacement p = refl
few-done other p = few-wait_done p.first.waits p

marked-if : (b : Bool) (p q : Pair) → IsMarked p → IsMarked q → IsMarked (if b then p else q)
marked-if true p q h k = h
marked-if false p q h k = k

marked-waiting : (a : Option Waiting) (p : Pair) → IsMarked p → IsMarked (waiting a p)
marked-waiting a p h = record { first = h.first; second = h.second }

marked-stored : (p : Pair) → IsMarked p → IsMarked (stored p)
marked-stored p h = record { first = h.first; second = h.second }

marked-wait_done : (waits : Option Waiting) (p : Pair) → IsMarked p → IsMarked (wait_done waits p)
marked-wait_done None p h = h
marked-wait_done (Some waiting_for.Load) p h = marked-if (is_reader p.first.state) (waiting None p) p (marked-waiting None p h) h
marked-wait_done (Some waiting_for.Store) p h =
    marked-if (is_modified p.first.state) (stored (waiting None p)) p (marked-stored (waiting None p) (marked-waiting None p h)) h

-- nor does it touch a link
pub marked-done : (rule : Rule) (p : Pair) → IsMarked p → IsMarked (done rule p)
marked-done AsksLoad p h = marked-if (is_reader p.first.state) p (waiting (Some waiting_for.Load) p) h (marked-waiting (Some waiting_for.Load) p h)
marked-done AsksStore p h =
    marked-if (is_modified p.first.state) (stored p) (waiting (Some waiting_for.Store) p) (marked-stored p h) (marked-waiting (Some waiting_for.Store) p h)
marked-done AsksReplacement p h = h
marked-done other p h = marked-wait_done p.first.waits p h

pub marked-state : (p : Pair) (next : CacheState) → IsMarked p → IsMarked (record p { first = record p.first { state = next } })
marked-state p next h = record { first = h.first; second = h.second }

-- what a line's actions make of a pair, in its new state
abbrev pub moved : Party → List CacheAction → CacheState → Pair → Pair
moved to actions next p = let q : Pair = line_acts to p.first.fresh actions p in record q { first = record q.first { state = next } }

-- whether a load is spoilt is seen before the actions are done
pub line_settled-act : (rule : Rule) (to concerned : Party) (next : CacheState) (actions : List CacheAction) (p : Pair) →
    line_settled rule to concerned next actions (Some p)
    ≡ (if loads rule p.first.waits next && not p.first.fresh then Spoilt concerned else looked_at concerned (done rule (moved to actions next p)))
line_settled-act rule to concerned next actions p =
    let q : Pair = line_acts to p.first.fresh actions p in
    let k : KeepsLine p q = keeps-line_acts to p.first.fresh actions p in
    let m : Pair = moved to actions next p in
    let seen : Sight = looked_at concerned (done rule m) in
    settles-done concerned rule m
    ∙ ap (λ (waits : Option Waiting). if loads rule waits next && not q.first.fresh then Spoilt concerned else seen) k.waits
    ∙ ap (λ (fresh : Bool). if loads rule p.first.waits next && not fresh then Spoilt concerned else seen) k.fresh

-- a load that returns what may not be the last store's value spoils all
pub line_settled-spoilt : (rule : Rule) (to concerned : Party) (next : CacheState) (actions : List CacheAction) (p : Pair) →
    (loads rule p.first.waits next && not p.first.fresh) ≡ true →
    line_settled rule to concerned next actions (Some p) ≡ Spoilt concerned
line_settled-spoilt rule to concerned next actions p old = line_settled-act rule to concerned next actions p ∙ rw old refl

-- else what comes of it is looked at
pub line_settled-looked_at : (rule : Rule) (to concerned : Party) (next : CacheState) (actions : List CacheAction) (p : Pair) →
    (loads rule p.first.waits next && not p.first.fresh) ≡ false →
    line_settled rule to concerned next actions (Some p) ≡ looked_at concerned (done rule (moved to actions next p))
line_settled-looked_at rule to concerned next actions p fresh = line_settled-act rule to concerned next actions p ∙ rw fresh refl

looked_at-lost : (concerned : Party) (p : Pair) → is_few p ≡ false → looked_at concerned p ≡ Lost
looked_at-lost concerned p e = rw e refl

-- and lost, where the pair isn't few after the actions
pub line_settled-lost : (rule : Rule) (to concerned : Party) (next : CacheState) (actions : List CacheAction) (p : Pair) →
    (loads rule p.first.waits next && not p.first.fresh) ≡ false →
    None ≡ few_pair (line_acts to p.first.fresh actions p) →
    line_settled rule to concerned next actions (Some p) ≡ Lost
line_settled-lost rule to concerned next actions p fresh none =
    let q : Pair = line_acts to p.first.fresh actions p in
    line_settled-looked_at rule to concerned next actions p fresh
    ∙ looked_at-lost concerned (done rule (moved to actions next p)) (few-done rule (moved to actions next p) ∙ few-none (is_few q) q none)
