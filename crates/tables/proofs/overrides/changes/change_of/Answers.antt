use Rattle.std.proofs.Common.{◌≡◌, ◌∙◌, ℕ, List, sym, ap, arith}
use Rattle.std.proofs.lemmas.Grind.{common_steps}
use Rattle.std.specs.Prelude.{Option, Ok, Some, None, Err}
use Rattle.std.specs.Option.{option_map}
use Rattle.base.specs.Spelling.{named_of}
use Rattle.tables.specs.declared.overrides.TablesFault.TheVariants.{UnknownState, UnknownEvent, UnknownAction}
use Rattle.tables.specs.Written.{WrittenCell, WrittenEntry}
use Rattle.tables.specs.Overrides.{needed, known_next, entry_of, change_of}
use Rattle.tables.specs.inner.Seen.{seen_cell, seen_entry}
use Rattle.tables.proofs.overrides.changes.change_of.Goals as goal

-- where the states are known and the event isn't, that is the fault
unknown-event : {S E A : Type 0} (state_named : List ℕ → Option S) (event_named : List ℕ → Option E) (action_named : List ℕ → Option A)
    (c : WrittenCell) (state : S) (entry : WrittenEntry S) → state_named c.state ≡ Some state → known_next state_named c.entry ≡ Some entry →
    event_named c.event ≡ None → change_of state_named event_named action_named c ≡ Err UnknownEvent
unknown-event state_named event_named action_named c state entry by-state by-entry by-event =
    ap
    (λ s. needed UnknownState s (λ state.
    needed UnknownState (known_next state_named c.entry) (λ entry.
    needed UnknownEvent (event_named c.event) (λ event.
    needed UnknownAction (entry_of action_named entry) (λ entry. Ok (record { state = state; event = event; entry = entry }))))))
    by-state
    ∙ ap
    (λ e. needed UnknownState e (λ entry.
    needed UnknownEvent (event_named c.event) (λ event.
    needed UnknownAction (entry_of action_named entry) (λ entry. Ok (record { state = state; event = event; entry = entry })))))
    by-entry
    ∙ ap
    (λ e. needed UnknownEvent e (λ event.
    needed UnknownAction (entry_of action_named entry) (λ entry. Ok (record { state = state; event = event; entry = entry }))))
    by-event

pub returns-in_default-named_of-clause-change : goal.returns-in_default-named_of-clause-change
returns-in_default-named_of-clause-change g c =
    let state_named = named_of (g.S.Listed.has c.args.protocol) g.S.Listed.spelling g.S.Listed.kind in
    let event_named = named_of (g.E.Listed.has c.args.protocol) g.E.Listed.spelling g.E.Listed.kind in
    sym (unknown-event state_named event_named (named_of (g.A.Listed.has c.args.protocol) g.A.Listed.spelling g.A.Listed.kind)
    (seen_cell c.args.cell) c.in-Some.state
    (seen_entry (λ s. s) c.in-Some-known_next.entry)
    (ap state_named (sym c.as_bytes.ensures.value) ∙ sym c.named_of.ensures ∙ c.in-Some.is)
    (sym c.known_next.ensures.next ∙ ap (option_map (seen_entry (λ s. s))) c.in-Some-known_next.is)
    (ap event_named (sym c.as_bytes-2.ensures.value) ∙ sym c.named_of-2.ensures ∙ c.in_default-named_of.is))

pub returns-in_default-clause-change : goal.returns-in_default-clause-change
returns-in_default-clause-change g c = grind (arith, common_steps)

pub returns-in_default-clause-json : goal.returns-in_default-clause-json
returns-in_default-clause-json g c = grind (arith, common_steps)

pub returns-in_default-known_next-clause-change : goal.returns-in_default-known_next-clause-change
returns-in_default-known_next-clause-change g c = grind (arith, common_steps)

pub returns-in_default-known_next-clause-json : goal.returns-in_default-known_next-clause-json
returns-in_default-known_next-clause-json g c = grind (arith, common_steps)

pub returns-in_default-named_of-clause-json : goal.returns-in_default-named_of-clause-json
returns-in_default-named_of-clause-json g c = grind (arith, common_steps)

pub returns-in_default-entry_of-clause-change : goal.returns-in_default-entry_of-clause-change
returns-in_default-entry_of-clause-change g c = grind (arith, common_steps)

pub returns-in_default-entry_of-clause-json : goal.returns-in_default-entry_of-clause-json
returns-in_default-entry_of-clause-json g c = grind (arith, common_steps)

pub returns-clause-change : goal.returns-clause-change
returns-clause-change g c = grind (arith, common_steps)

pub returns-clause-json : goal.returns-clause-json
returns-clause-json g c = grind (arith, common_steps)
