-- What the lines wait for, and what an input changes of it.
use Rattle.std.proofs.Common.{◌≡◌, ◌≢◌, ◌⊎◌, inl, inr, ℕ, List, Option, Some, None, Bool, true, false, slice_get, slice_set, refl, sym, ap, ◌∙◌}
use Rattle.std.proofs.lemmas.Bool.{cases_eq}
use Rattle.std.specs.Prelude.{if◌then◌else◌}
use Rattle.std.specs.Option.{option_map, option_and_then}
use Rattle.base.specs.declared.step.Ask.{Ask}
use Rattle.base.specs.declared.step.Ask.TheVariants.{Load, Store, Replace}
use Rattle.network.specs.declared.message.Forward.{Forward}
use Rattle.network.specs.declared.message.Response.{Response}
use Rattle.network.specs.declared.message.Response.TheVariants.{Data, InvAck, DataExcl}
use Rattle.base.specs.declared.ids.Place.TheVariants.{Dir, Cache}
use Rattle.cache_table.specs.declared.state.CacheState.{CacheState}
use Rattle.control.specs.declared.line.Line.{Line}
use Rattle.control.specs.declared.line.LineInput.TheVariants as line_input
use Rattle.control.specs.declared.line.LineCompletion.{LineCompletion}
use Rattle.control.specs.declared.line.LineCompletion.TheVariants as done
use Rattle.control.specs.LineEffect.{is_reader, is_modified, line_after, line_completes, taken_in, moved_on, after_ask, after_message, pending_completed}
use Rattle.machine.specs.Block.{BlockState}
use Rattle.machine.specs.Machine.{State}
use Rattle.cores.specs.Cores.{Completes}
use Rattle.moment.specs.inner.Tracked.{pending_at}
use Rattle.moment.proofs.Places.{set-other, set-here}

-- the lines wait for the same as before
pub record Same (before behind : State) : Type 0 where
  pub each : (cache block : ℕ) → pending_at behind cache block ≡ pending_at before cache block

-- the line of a cache for a block waited for this, and waits for that from now on, and the others for the same as before
pub record Sets (before behind : State) (cache block : ℕ) (was now : Option Ask) : Type 0 where
  pub there : pending_at before cache block ≡ Some was
  pub set : pending_at behind cache block ≡ Some now
  pub caches : (c b : ℕ) → c ≢ cache → pending_at behind c b ≡ pending_at before c b
  pub blocks : (c b : ℕ) → b ≢ block → pending_at behind c b ≡ pending_at before c b

-- what a line's completion answers
abbrev pub settled_ask : LineCompletion → Ask
settled_ask (done.Load value) = Load
settled_ask (done.Store value) = Store value

pub settles-completes : (c : LineCompletion) → Completes (settled_ask c)
settles-completes (done.Load value) = tt
settles-completes (done.Store value) = tt

-- an ask that isn't done at once waits, and nothing else changes what waits
pub record AskWaits (a : Ask) (done : Option LineCompletion) (after : Line) : Type 0 where
  pub none : done ≡ None
  pub completes : Completes a
  pub waits : after.pending ≡ Some a

pub record AskSettles (a : Ask) (done : Option LineCompletion) (line after : Line) : Type 0 where
  pub completion : LineCompletion
  pub some : done ≡ Some completion
  pub answers : settled_ask completion ≡ a
  pub kept : after.pending ≡ line.pending

pub record AskReplaces (a : Ask) (done : Option LineCompletion) (line after : Line) : Type 0 where
  pub none : done ≡ None
  pub replaces : a ≡ Replace
  pub kept : after.pending ≡ line.pending

abbrev pub AskDoes : Ask → Option LineCompletion → Line → Line → Type 0
AskDoes a done line after = AskWaits a done after ⊎ AskSettles a done line after ⊎ AskReplaces a done line after

pub ask-does : (a : Ask) (next : CacheState) (line : Line) →
    AskDoes a (line_completes (line_input.Ask a) next line) line (line_after (line_input.Ask a) next line)
ask-does Load next line =
    let moved : Line = moved_on (line_input.Ask Load) next line in
    elim (is_reader next) as
    (λ t. AskDoes Load (if t then Some (done.Load line.value) else None) line (after_ask Load (if t then Some (done.Load line.value) else None) moved)) [
      | true ↦ inr (inl (record { completion = done.Load line.value; some = refl; answers = refl; kept = refl }))
      | false ↦ inl (record { none = refl; completes = tt; waits = refl })
    ]
ask-does (Store v) next line =
    let moved : Line = moved_on (line_input.Ask (Store v)) next line in
    elim (is_modified next) as
    (λ t. AskDoes (Store v) (if t then Some (done.Store v) else None) line (after_ask (Store v) (if t then Some (done.Store v) else None) moved)) [
      | true ↦ inr (inl (record { completion = done.Store v; some = refl; answers = refl; kept = refl }))
      | false ↦ inl (record { none = refl; completes = tt; waits = refl })
    ]
ask-does Replace next line = inr (inr (record { none = refl; replaces = refl; kept = refl }))

-- a message leaves what waits, or completes it
pub record MessageKeeps (done : Option LineCompletion) (line after : Line) : Type 0 where
  pub none : done ≡ None
  pub kept : after.pending ≡ line.pending

pub record MessageSettles (done : Option LineCompletion) (line after : Line) : Type 0 where
  pub completion : LineCompletion
  pub some : done ≡ Some completion
  pub waited : line.pending ≡ Some (settled_ask completion)
  pub free : after.pending ≡ None

abbrev pub MessageDoes : Option LineCompletion → Line → Line → Type 0
MessageDoes done line after = MessageKeeps done line after ⊎ MessageSettles done line after

settling : (waits : Option Ask) (line : Line) → line.pending ≡ waits →
    MessageDoes (pending_completed waits line) line (after_message (pending_completed waits line) line)
settling None line e = inl (record { none = refl; kept = refl })
settling (Some Load) line e =
    elim (is_reader line.state) as
    (λ t. MessageDoes (if t then Some (done.Load line.value) else None) line (after_message (if t then Some (done.Load line.value) else None) line)) [
      | true ↦ inr (record { completion = done.Load line.value; some = refl; waited = e; free = refl })
      | false ↦ inl (record { none = refl; kept = refl })
    ]
settling (Some (Store v)) line e =
    elim (is_modified line.state) as
    (λ t. MessageDoes (if t then Some (done.Store v) else None) line (after_message (if t then Some (done.Store v) else None) line)) [
      | true ↦ inr (record { completion = done.Store v; some = refl; waited = e; free = refl })
      | false ↦ inl (record { none = refl; kept = refl })
    ]
settling (Some Replace) line e = inl (record { none = refl; kept = refl })

like : (what : Option LineCompletion) (moved line after : Line) → moved.pending ≡ line.pending → MessageDoes what moved after → MessageDoes what line after
like what moved line after e (inl h) = inl (record { none = h.none; kept = h.kept ∙ e })
like what moved line after e (inr h) = inr (record { completion = h.completion; some = h.some; waited = sym e ∙ h.waited; free = h.free })

pub forward-does : (f : Forward) (next : CacheState) (line : Line) →
    MessageDoes (line_completes (line_input.Forward f) next line) line (line_after (line_input.Forward f) next line)
forward-does f next line = let moved : Line = moved_on (line_input.Forward f) next line in like _ moved line _ refl (settling moved.pending moved refl)

taken-keeps : (r : Response) (line : Line) → (taken_in (line_input.Response r) line).pending ≡ line.pending
taken-keeps (Data (Cache from) to value more) line = refl
taken-keeps (Data Dir to value more) line = refl
taken-keeps (InvAck from to) line = refl
taken-keeps (DataExcl to value) line = refl

pub response-does : (r : Response) (next : CacheState) (line : Line) →
    MessageDoes (line_completes (line_input.Response r) next line) line (line_after (line_input.Response r) next line)
response-does r next line =
    let moved : Line = moved_on (line_input.Response r) next line in
    like _ moved line _ (taken-keeps r line) (settling moved.pending moved refl)

-- ---- a block that is set

abbrev pending_in : ℕ → Option BlockState → Option (Option Ask)
pending_in cache b = option_map (λ line. line.pending) (option_and_then (λ b. slice_get b.lines cache) b)

-- with the same lines
pub same-lines : (s : State) (broken : Bool) (n : ℕ) (b new : BlockState) → slice_get s.blocks n ≡ Some b → new.lines ≡ b.lines →
    Same s (record { blocks = slice_set s.blocks n new; broken = broken })
same-lines s broken n b new there same = record {
  each = λ c k. elim (cases_eq k n) [
    | inl e ↦
        ap (λ m. pending_in c (slice_get (slice_set s.blocks n new) m)) e ∙ ap (pending_in c) (set-here s.blocks n new b there)
        ∙ ap (λ (ls : List Line). option_map (λ line. line.pending) (slice_get ls c)) same
        ∙ sym (ap (λ m. pending_in c (slice_get s.blocks m)) e ∙ ap (pending_in c) there)
    | inr ne ↦ ap (pending_in c) (set-other s.blocks n k new ne)
  ];
}

-- with one line set
pub one-line : (s : State) (broken : Bool) (n cache : ℕ) (b new : BlockState) (line after : Line) → slice_get s.blocks n ≡ Some b →
    slice_get b.lines cache ≡ Some line → new.lines ≡ slice_set b.lines cache after
    → Sets s (record { blocks = slice_set s.blocks n new; broken = broken }) cache n line.pending after.pending
one-line s broken n cache b new line after there found set =
    let here : (c : ℕ) → pending_in c (slice_get (slice_set s.blocks n new) n) ≡ option_map (λ line. line.pending)
    (slice_get (slice_set b.lines cache after) c) =
    λ c. ap (pending_in c) (set-here s.blocks n new b there) ∙ ap (λ (ls : List Line). option_map (λ line. line.pending) (slice_get ls c)) set in
    let others : (c k : ℕ) → k ≢ n → pending_in c (slice_get (slice_set s.blocks n new) k) ≡ pending_in c (slice_get s.blocks k) =
    λ c k ne. ap (pending_in c) (set-other s.blocks n k new ne) in
    record {
      there = ap (pending_in cache) there ∙ ap (option_map (λ line. line.pending)) found;
      set = here cache ∙ ap (option_map (λ line. line.pending)) (set-here b.lines cache after line found);
      caches = λ c k ne. elim (cases_eq k n) [
        | inl e ↦
            ap (λ m. pending_in c (slice_get (slice_set s.blocks n new) m)) e ∙ here c
            ∙ ap (option_map (λ line. line.pending)) (set-other b.lines cache c after ne)
            ∙ sym (ap (λ m. pending_in c (slice_get s.blocks m)) e ∙ ap (pending_in c) there)
        | inr other ↦ others c k other
      ];
      blocks = others;
    }

-- what is set to what was there stays
pub sets-same : (before behind : State) (cache block : ℕ) (was now : Option Ask) → Sets before behind cache block was now → now ≡ was → Same before behind
sets-same before behind cache block was now h kept = record {
  each = λ c k. elim (cases_eq c cache) [
    | inr ne ↦ h.caches c k ne
    | inl e ↦ elim (cases_eq k block) [
      | inr ne ↦ h.blocks c k ne
      | inl f ↦ ap (λ x. pending_at behind x k) e ∙ ap (pending_at behind cache) f ∙ h.set ∙ ap Some kept ∙ sym h.there
          ∙ sym (ap (λ x. pending_at before x k) e ∙ ap (pending_at before cache) f)
    ]
  ];
}
