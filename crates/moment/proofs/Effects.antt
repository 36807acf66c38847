-- What a step changes of what the lines wait for.
use Rattle.std.proofs.Common.{◌≡◌, ◌⊎◌, inl, inr, ℕ, List, [], ◌∷◌, Option, Some, None, true, false, slice_get, refl, ap, ◌∙◌, subst, arith}
use Rattle.std.specs.Prelude.{if◌then◌else◌}
use Rattle.base.specs.Steps.{block_of}
use Rattle.base.specs.declared.ids.CacheId.{CacheId}
use Rattle.base.specs.declared.ids.BlockId.{BlockId}
use Rattle.base.specs.declared.ids.Place.TheVariants.{Dir, Cache}
use Rattle.base.specs.declared.step.Ask.{Ask}
use Rattle.base.specs.declared.step.CoreAsk.{CoreAsk}
use Rattle.base.specs.declared.step.Step.{Step}
use Rattle.base.specs.declared.step.Step.TheVariants as step
use Rattle.base.specs.declared.step.Outcome.{Outcome}
use Rattle.base.specs.declared.step.Outcome.TheVariants as outcome
use Rattle.network.specs.declared.message.Request.{Request}
use Rattle.network.specs.declared.message.Forward.{Forward}
use Rattle.network.specs.declared.message.Response.{Response}
use Rattle.network.specs.declared.message.Response.TheVariants.{Data, InvAck, DataExcl}
use Rattle.network.specs.Traffic.{link}
use Rattle.cache_table.specs.Table as cache_table
use Rattle.cache_table.specs.Table.{CacheEntry}
use Rattle.base.specs.declared.controller.entry.CellEntry.TheVariants as table_entry
use Rattle.cache_table.specs.declared.state.CacheState.{CacheState}
use Rattle.cache_table.specs.declared.actions.CacheAction.{CacheAction}
use Rattle.directory_table.specs.Table as directory_table
use Rattle.directory_table.specs.Table.{DirectoryEntry}
use Rattle.control.specs.declared.line.Line.{Line}
use Rattle.control.specs.declared.line.LineInput.{LineInput}
use Rattle.control.specs.declared.line.LineInput.TheVariants as line_input
use Rattle.control.specs.declared.line.LineCompletion.{LineCompletion}
use Rattle.control.specs.declared.line.LineCompletion.TheVariants as done
use Rattle.control.specs.declared.home.HomeInput.{HomeInput}
use Rattle.control.specs.declared.home.HomeInput.TheVariants as home_input
use Rattle.control.specs.LineEvents.{event_at_line}
use Rattle.control.specs.HomeEvents.{event_at_home}
use Rattle.control.specs.LineEffect.{line_after, line_completes}
use Rattle.machine.specs.declared.decision.Decision.{Decision}
use Rattle.machine.specs.declared.decision.Decision.TheVariants.{Refused, AtLine}
use Rattle.machine.specs.declared.decision.Origin.{Origin}
use Rattle.machine.specs.declared.decision.Origin.TheVariants as origin
use Rattle.tables.specs.Tables.{Tables}
use Rattle.machine.specs.Block.{BlockState}
use Rattle.machine.specs.Transition.{by_line_entry, at_line, at_ask, by_home_entry, at_home, at_request, at_forward, at_response, is_idle}
use Rattle.machine.specs.Transition.{carried_out, outcome_of, plain_outcome}
use Rattle.machine.specs.Machine.{State, Next, IsRefusal, next, next_at, with_transition}
use Rattle.machine.specs.Completions as completions
use Rattle.machine.specs.Completions.{completed_by}
use Rattle.machine.specs.Unstuck.{IsDelivery}
use Rattle.cores.specs.Cores.{Completes}
use Rattle.moment.specs.Moments.{put_by, answered}
use Rattle.schedule.specs.Choices.{step_of}
use Rattle.moment.specs.inner.Tracked.{pending_at}
use Rattle.moment.proofs.Pending.{Same, Sets, settled_ask, settles-completes, AskDoes, ask-does, MessageDoes, forward-does, response-does}
use Rattle.moment.proofs.Pending.{same-lines, one-line, sets-same}

-- nothing is put, nothing completes, and the lines wait for the same
pub record Stays (before : State) (s : Step) (made : Next) : Type 0 where
  pub put : put_by s made.outcome ≡ []
  pub done : completed_by s made.outcome ≡ []
  pub same : Same before made.state

-- an ask is put and waits from now on
pub record Puts (before : State) (s : Step) (made : Next) : Type 0 where
  pub ask : CoreAsk
  pub is : s ≡ step_of ask
  pub put : put_by s made.outcome ≡ ask ∷ []
  pub done : completed_by s made.outcome ≡ []
  pub completes : Completes ask.ask
  pub was : Option Ask
  pub sets : Sets before made.state ask.core.0 ask.block.0 was (Some ask.ask)

-- an ask is put and completes at once
pub record PutsDone (before : State) (s : Step) (made : Next) : Type 0 where
  pub ask : CoreAsk
  pub completion : completions.Completion
  pub is : s ≡ step_of ask
  pub put : put_by s made.outcome ≡ ask ∷ []
  pub done : completed_by s made.outcome ≡ completion ∷ []
  pub answers : answered completion ≡ ask
  pub was : Option Ask
  pub there : pending_at before ask.core.0 ask.block.0 ≡ Some was
  pub same : Same before made.state

-- an ask that waited completes
pub record Settles (before : State) (s : Step) (made : Next) : Type 0 where
  pub completion : completions.Completion
  pub delivery : IsDelivery s
  pub put : put_by s made.outcome ≡ []
  pub done : completed_by s made.outcome ≡ completion ∷ []
  pub completes : Completes (answered completion).ask
  pub sets : Sets before made.state completion.cache.0 completion.block (Some (answered completion).ask) None

abbrev pub Effect : State → Step → Next → Type 0
Effect before s made = Stays before s made ⊎ Puts before s made ⊎ PutsDone before s made ⊎ Settles before s made

-- ---- nothing happens

pub none-put : (s : Step) (what : Outcome) → IsRefusal what → put_by s what ≡ []
none-put s what r = grind (arith)

pub none-done : (s : Step) (what : Outcome) → IsRefusal what → completed_by s what ≡ []
none-done s what r = grind (arith)

-- a delivery puts nothing
pub delivery-puts-none : (s : Step) (what : Outcome) → IsDelivery s → put_by s what ≡ []
delivery-puts-none s what d = grind (arith)

-- a decision that is made of the block where a step goes
record Here (before : State) (s : Step) (b : BlockState) : Type 0 where
  there : slice_get before.blocks (block_of s) ≡ Some b

abbrev Does : State → Step → BlockState → Decision → Type 0
Does before s b d = Effect before s (with_transition before (block_of s) (carried_out d b))

refused-stays : (before : State) (s : Step) (b : BlockState) (what : Outcome) → Here before s b → IsRefusal what → Does before s b (Refused what)
refused-stays before s b what here r = inl (record {
  put = none-put s what r;
  done = none-done s what r;
  same = same-lines before _ (block_of s) b b here.there refl;
})

home-stays : (before : State) (s : Step) (b : BlockState) (entry : DirectoryEntry) (input : HomeInput) (from : Origin) → Here before s b →
    IsDelivery s → Does before s b (by_home_entry entry input from)
home-stays before s b table_entry.Stall input from here d = refused-stays before s b outcome.Held here tt
home-stays before s b table_entry.Blank input from here d = refused-stays before s b outcome.Blank here tt
home-stays before s b (table_entry.Act state actions) input from here d = inl (record {
  put = delivery-puts-none s outcome.Moved d;
  done = refl;
  same = same-lines before _ (block_of s) b _ here.there refl;
})

-- ---- a message at a line

-- a message comes off a wire
record IsWired (from : Origin) : Type 0 where
  moves : plain_outcome from ≡ outcome.Moved

plain : (cache : CacheId) (s : Step) (from : Origin) (c : Option LineCompletion) → IsWired from → c ≡ None → completed_by s (outcome_of cache from c) ≡ []
plain cache s from c wired none = ap (λ x. completed_by s (outcome_of cache from x)) none ∙ ap (completed_by s) wired.moves

-- the machine's completion of a line's
abbrev of_line : CacheId → ℕ → LineCompletion → completions.Completion
of_line cache block (done.Load value) = record { cache = cache; block = block; access = completions.load; value = value }
of_line cache block (done.Store value) = record { cache = cache; block = block; access = completions.store; value = value }

done-here : (cache : CacheId) (s : Step) (from : Origin) (c : LineCompletion) →
    completed_by s (outcome_of cache from (Some c)) ≡ of_line cache (block_of s) c ∷ []
done-here cache s from (done.Load value) = refl
done-here cache s from (done.Store value) = refl

settles-at : (before : State) (s : Step) (made : Next) (cache : CacheId) (c : LineCompletion) → IsDelivery s →
    completed_by s made.outcome ≡ of_line cache (block_of s) c ∷ []
    → Sets before made.state cache.0 (block_of s) (Some (settled_ask c)) None → Settles before s made
settles-at before s made cache (done.Load value) d is sets =
    record { completion = _; delivery = d; put = delivery-puts-none s made.outcome d; done = is; completes = tt; sets = sets }
settles-at before s made cache (done.Store value) d is sets =
    record { completion = _; delivery = d; put = delivery-puts-none s made.outcome d; done = is; completes = tt; sets = sets }

message-acts : (before : State) (s : Step) (b : BlockState) (cache : CacheId) (line : Line) (input : LineInput) (state : CacheState)
    (actions : List CacheAction) (from : Origin)
    → Here before s b → IsDelivery s → IsWired from → slice_get b.lines cache.0 ≡ Some line → MessageDoes (line_completes input state line) line
    (line_after input state line) → Does before s b (AtLine cache line input state actions from)
message-acts before s b cache line input state actions from here d wired found (inl h) =
    let sets =
    one-line before _ (block_of s) cache.0 b (carried_out (AtLine cache line input state actions from) b).block line
    (line_after input state line) here.there found refl in
    inl (record {
      put = delivery-puts-none s _ d;
      done = plain cache s from (line_completes input state line) wired h.none;
      same = sets-same before _ cache.0 (block_of s) line.pending (line_after input state line).pending sets h.kept;
    })
message-acts before s b cache line input state actions from here d wired found (inr h) =
    let made : Next = with_transition before (block_of s) (carried_out (AtLine cache line input state actions from) b) in
    let sets : Sets before made.state cache.0 (block_of s) line.pending (line_after input state line).pending =
    one-line before _ (block_of s) cache.0 b (carried_out (AtLine cache line input state actions from) b).block line
    (line_after input state line) here.there found refl in
    inr (inr (inr (settles-at before s made cache h.completion d
    (ap (λ x. completed_by s (outcome_of cache from x)) h.some ∙ done-here cache s from h.completion)
    (subst (λ (p : Option Ask). Sets before made.state cache.0 (block_of s) p None) h.waited
    (subst (λ (p : Option Ask). Sets before made.state cache.0 (block_of s) line.pending p) h.free sets)))))

message-at-entry : (before : State) (s : Step) (b : BlockState) (entry : CacheEntry) (cache : CacheId) (line : Line) (input : LineInput) (from : Origin)
    → Here before s b → IsDelivery s → IsWired from → slice_get b.lines cache.0 ≡ Some line →
    ((state : CacheState) → MessageDoes (line_completes input state line) line (line_after input state line)) → Does before s b
    (by_line_entry entry cache line input from)
message-at-entry before s b table_entry.Stall cache line input from here d wired found does = refused-stays before s b outcome.Held here tt
message-at-entry before s b table_entry.Blank cache line input from here d wired found does = refused-stays before s b outcome.Blank here tt
message-at-entry before s b (table_entry.Act state actions) cache line input from here d wired found does =
    message-acts before s b cache line input state actions from here d wired found (does state)

message-at-line : (before : State) (s : Step) (b : BlockState) (cells : cache_table.Cells) (cache : CacheId) (input : LineInput) (from : Origin)
    (found : Option Line)
    → Here before s b → IsDelivery s → IsWired from → slice_get b.lines cache.0 ≡ found →
    ((state : CacheState) (line : Line) → MessageDoes (line_completes input state line) line (line_after input state line)) → Does before s b
    (at_line cells cache input from found)
message-at-line before s b cells cache input from None here d wired found does = refused-stays before s b outcome.Absent here tt
message-at-line before s b cells cache input from (Some line) here d wired found does =
    message-at-entry before s b (cache_table.cell cells line.state (event_at_line line.acks input)) cache line input from here d wired found
    (λ state. does state line)

-- ---- an ask

abbrev asked : CacheId → BlockId → Ask → CoreAsk
asked cache block a = record { core = cache; block = block; ask = a }

ask-put : (cache : CacheId) (block : BlockId) (a : Ask) (c : Option LineCompletion) → Completes a →
    put_by (step.Ask cache block a) (outcome_of cache origin.Core c) ≡ asked cache block a ∷ []
ask-put cache block a c e = grind (arith)

answers-ask : (cache : CacheId) (block : BlockId) (c : LineCompletion) → answered (of_line cache block.0 c) ≡ asked cache block (settled_ask c)
answers-ask cache block c = grind (arith)

ask-acts : (before : State) (cache : CacheId) (block : BlockId) (a : Ask) (b : BlockState) (line : Line) (state : CacheState) (actions : List CacheAction)
    → Here before (step.Ask cache block a) b → slice_get b.lines cache.0 ≡ Some line → AskDoes a (line_completes (line_input.Ask a) state line) line
    (line_after (line_input.Ask a) state line)
    → Does before (step.Ask cache block a) b (AtLine cache line (line_input.Ask a) state actions origin.Core)
ask-acts before cache block a b line state actions here found (inl h) =
    let s : Step = step.Ask cache block a in
    let made : Next = with_transition before block.0 (carried_out (AtLine cache line (line_input.Ask a) state actions origin.Core) b) in
    let sets : Sets before made.state cache.0 block.0 line.pending (line_after (line_input.Ask a) state line).pending =
    one-line before _ block.0 cache.0 b (carried_out (AtLine cache line (line_input.Ask a) state actions origin.Core) b).block line
    (line_after (line_input.Ask a) state line) here.there found refl in
    inr (inl (record {
      ask = asked cache block a;
      is = refl;
      put = ask-put cache block a (line_completes (line_input.Ask a) state line) h.completes;
      done = ap (λ x. completed_by s (outcome_of cache origin.Core x)) h.none;
      completes = h.completes;
      was = line.pending;
      sets = subst (λ (p : Option Ask). Sets before made.state cache.0 block.0 line.pending p) h.waits sets;
    }))
ask-acts before cache block a b line state actions here found (inr (inl h)) =
    let s : Step = step.Ask cache block a in
    let made : Next = with_transition before block.0 (carried_out (AtLine cache line (line_input.Ask a) state actions origin.Core) b) in
    let sets : Sets before made.state cache.0 block.0 line.pending (line_after (line_input.Ask a) state line).pending =
    one-line before _ block.0 cache.0 b (carried_out (AtLine cache line (line_input.Ask a) state actions origin.Core) b).block line
    (line_after (line_input.Ask a) state line) here.there found refl in
    inr (inr (inl (record {
      ask = asked cache block a;
      completion = of_line cache block.0 h.completion;
      is = refl;
      put = ask-put cache block a (line_completes (line_input.Ask a) state line) (subst Completes h.answers (settles-completes h.completion));
      done = ap (λ x. completed_by s (outcome_of cache origin.Core x)) h.some ∙ done-here cache s origin.Core h.completion;
      answers = answers-ask cache block h.completion ∙ ap (asked cache block) h.answers;
      was = line.pending;
      there = sets.there;
      same = sets-same before _ cache.0 block.0 line.pending (line_after (line_input.Ask a) state line).pending sets h.kept;
    })))
ask-acts before cache block a b line state actions here found (inr (inr h)) =
    let s : Step = step.Ask cache block a in
    let made : Next = with_transition before block.0 (carried_out (AtLine cache line (line_input.Ask a) state actions origin.Core) b) in
    let sets : Sets before made.state cache.0 block.0 line.pending (line_after (line_input.Ask a) state line).pending =
    one-line before _ block.0 cache.0 b (carried_out (AtLine cache line (line_input.Ask a) state actions origin.Core) b).block line
    (line_after (line_input.Ask a) state line) here.there found refl in
    inl (record {
      put = ap (λ (x : Ask). put_by (step.Ask cache block x) made.outcome) h.replaces;
      done = ap (λ x. completed_by s (outcome_of cache origin.Core x)) h.none;
      same = sets-same before _ cache.0 block.0 line.pending (line_after (line_input.Ask a) state line).pending sets h.kept;
    })

ask-at-entry : (before : State) (cache : CacheId) (block : BlockId) (a : Ask) (b : BlockState) (line : Line) (entry : CacheEntry) →
    Here before (step.Ask cache block a) b → slice_get b.lines cache.0 ≡ Some line
    → Does before (step.Ask cache block a) b (by_line_entry entry cache line (line_input.Ask a) origin.Core)
ask-at-entry before cache block a b line table_entry.Stall here found = refused-stays before (step.Ask cache block a) b outcome.Held here tt
ask-at-entry before cache block a b line table_entry.Blank here found = refused-stays before (step.Ask cache block a) b outcome.Blank here tt
ask-at-entry before cache block a b line (table_entry.Act state actions) here found =
    ask-acts before cache block a b line state actions here found (ask-does a state line)

ask-at-line : (before : State) (cells : cache_table.Cells) (cache : CacheId) (block : BlockId) (a : Ask) (b : BlockState) (found : Option Line) →
    Here before (step.Ask cache block a) b → slice_get b.lines cache.0 ≡ found
    → Does before (step.Ask cache block a) b (at_ask cells cache a found)
ask-at-line before cells cache block a b None here found = refused-stays before (step.Ask cache block a) b outcome.Absent here tt
ask-at-line before cells cache block a b (Some line) here found =
    elim (is_idle a line.state) as
    (λ t. Does before (step.Ask cache block a) b (if t then Refused outcome.Idle else at_line cells cache (line_input.Ask a) origin.Core (Some line))) [
      | true ↦ refused-stays before (step.Ask cache block a) b outcome.Idle here tt
      | false ↦ ask-at-entry before cache block a b line (cache_table.cell cells line.state (event_at_line line.acks (line_input.Ask a))) here found
    ]

-- ---- a step

wired-head : (cache : CacheId) → IsWired (origin.Head cache)
wired-head cache = record { moves = refl }

wired-response : (i : ℕ) → IsWired (origin.Response i)
wired-response i = record { moves = refl }

at-home : (before : State) (s : Step) (b : BlockState) (cells : directory_table.Cells) (input : HomeInput) (from : Origin) → Here before s b →
    IsDelivery s → Does before s b (at_home cells input from b.home)
at-home before s b cells input from here d =
    home-stays before s b (directory_table.cell cells b.home.state (event_at_home b.home.owner b.home.sharers input)) input from here d

by-request : (before : State) (tables : Tables) (block : BlockId) (i : ℕ) (b : BlockState) (found : Option Request) →
    Here before (step.Request block i) b → Does before (step.Request block i) b (at_request tables.directory i b.home found)
by-request before tables block i b None here = refused-stays before (step.Request block i) b outcome.Absent here tt
by-request before tables block i b (Some r) here = at-home before (step.Request block i) b tables.directory (home_input.Request r) (origin.Request i) here tt

by-forward : (before : State) (tables : Tables) (block : BlockId) (cache : CacheId) (b : BlockState) (found : Option Forward) →
    Here before (step.Forward block cache) b → Does before (step.Forward block cache) b (at_forward tables.cache cache b.lines found)
by-forward before tables block cache b None here = refused-stays before (step.Forward block cache) b outcome.Absent here tt
by-forward before tables block cache b (Some f) here =
    message-at-line before (step.Forward block cache) b tables.cache cache (line_input.Forward f) (origin.Head cache)
    (slice_get b.lines cache.0) here tt (wired-head cache) refl (forward-does f)

by-response : (before : State) (tables : Tables) (block : BlockId) (i : ℕ) (b : BlockState) (found : Option Response) →
    Here before (step.Response block i) b → Does before (step.Response block i) b (at_response tables i b found)
by-response before tables block i b None here = refused-stays before (step.Response block i) b outcome.Absent here tt
by-response before tables block i b (Some (Data from Dir value acks)) here =
    at-home before (step.Response block i) b tables.directory (home_input.Data value) (origin.Response i) here tt
by-response before tables block i b (Some (Data from (Cache to) value acks)) here =
    message-at-line before (step.Response block i) b tables.cache to (line_input.Response (Data from (Cache to) value acks)) (origin.Response i)
    (slice_get b.lines to.0) here tt (wired-response i) refl (response-does (Data from (Cache to) value acks))
by-response before tables block i b (Some (InvAck from to)) here =
    message-at-line before (step.Response block i) b tables.cache to (line_input.Response (InvAck from to)) (origin.Response i)
    (slice_get b.lines to.0) here tt (wired-response i) refl (response-does (InvAck from to))
by-response before tables block i b (Some (DataExcl to value)) here =
    message-at-line before (step.Response block i) b tables.cache to (line_input.Response (DataExcl to value)) (origin.Response i)
    (slice_get b.lines to.0) here tt (wired-response i) refl (response-does (DataExcl to value))

at-block : (tables : Tables) (before : State) (s : Step) (b : BlockState) → Here before s b → Effect before s (next_at tables before s (Some b))
at-block tables before (step.Ask cache block a) b here = ask-at-line before tables.cache cache block a b (slice_get b.lines cache.0) here refl
at-block tables before (step.Request block i) b here = by-request before tables block i b (slice_get b.traffic.requests i) here
at-block tables before (step.Forward block cache) b here = by-forward before tables block cache b (slice_get (link b.traffic cache.0) 0) here
at-block tables before (step.Response block i) b here = by-response before tables block i b (slice_get b.traffic.responses i) here

all-stays : (before : State) (s : Step) (what : Outcome) → IsRefusal what → Effect before s (record { state = before; outcome = what })
all-stays before s what r = inl (record { put = none-put s what r; done = none-done s what r; same = record { each = λ c b. refl } })

at-found : (tables : Tables) (before : State) (s : Step) (found : Option BlockState) → slice_get before.blocks (block_of s) ≡ found →
    Effect before s (next_at tables before s found)
at-found tables before s None there = all-stays before s outcome.Absent tt
at-found tables before s (Some b) there = at-block tables before s b (record { there = there })

-- what a step of any world does
pub effect : (tables : Tables) (before : State) (s : Step) → Effect before s (next tables before s)
effect tables before s =
    let broken : Next = record { state = before; outcome = outcome.Broken } in
    let made : Next = next_at tables before s (slice_get before.blocks (block_of s)) in
    elim before.broken as (λ t. Effect before s (if t then broken else made)) [
      | true ↦ all-stays before s outcome.Broken tt
      | false ↦ at-found tables before s (slice_get before.blocks (block_of s)) refl
    ]
