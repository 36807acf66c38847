use Rattle.std.proofs.Common.{◌≡◌, ℕ, ◌<◌, ◌≤◌, ◌+◌, List, [], ◌∷◌, ◌++◌, refl, ap, sym, ◌∙◌, arith, length, take, get_or, append_assoc}
use Rattle.std.proofs.lemmas.List.{take_more}
use Rattle.base.specs.declared.step.Step.{Step}
use Rattle.base.specs.declared.step.Outcome.{Outcome}
use Rattle.tables.specs.Tables.{Tables}
use Rattle.base.specs.Steps.{block_of}
use Rattle.machine.specs.Machine.{Next, State, next, sent_by, state_after, outcomes_of}
use Rattle.world.specs.Messages.{messages_at, raised}
use Rattle.machine.specs.declared.made.Made.{Made}
use Rattle.machine.proofs.Making.{next-told}
use Rattle.world.specs.OneStep.{Steps}
use Rattle.world.specs.View.{View}
use Rattle.world.specs.Runs.{IsRun, tested_at_least, tested_at_most}
use Rattle.world.proofs.Histories.{state_after-append}

-- the outcomes of steps stand one behind the other
outcomes_of-append : (tables : Tables) (s : State) (xs ys : List Step) →
    outcomes_of tables s (xs ++ ys) ≡ outcomes_of tables s xs ++ outcomes_of tables (state_after tables s xs) ys
outcomes_of-append tables s [] ys = refl
outcomes_of-append tables s (x ∷ xs) ys = ap (λ os. (next tables s x).outcome ∷ os) (outcomes_of-append tables (next tables s x).state xs ys)

-- what the steps before the last test, and then what the last does
least-append : (tables : Tables) (s : State) (steps : List Step) (step : Step) (count : ℕ) →
    tested_at_least tables s (steps ++ step ∷ []) count
    ≡ raised (tested_at_least tables s steps count) (length (sent_by tables (state_after tables s steps) step))
least-append tables s [] step count = refl
least-append tables s (x ∷ steps) step count = least-append tables (next tables s x).state steps step _

most-append : (tables : Tables) (s : State) (steps : List Step) (step : Step) (count : ℕ) →
    tested_at_most tables s (steps ++ step ∷ []) count
    ≡ raised (tested_at_most tables s steps count) (messages_at (next tables (state_after tables s steps) step).state (block_of step))
most-append tables s [] step count = refl
most-append tables s (x ∷ steps) step count = most-append tables (next tables s x).state steps step _

-- a greater count stays one when both are raised
raised-more : (a b more : ℕ) → a ≤ b → raised a more ≤ raised b more
raised-more a b more le = omega (arith, le)

-- one more step of a run
pub run-more : (old mid new : View) (steps : List Step) (i : ℕ) (step d : Step) (before so_far after : List Outcome) (made : Made) →
    i < length steps → step ≡ get_or steps i d → IsRun old (take i steps) before mid so_far → Steps mid step made new → after ≡ so_far ++ made.outcome ∷ [] →
    IsRun old (take (i + 1) steps) before new after
run-more old mid new steps i step d before so_far after made lt at h s appended =
    let front : take (i + 1) steps ≡ take i steps ++ step ∷ [] = take_more steps i d lt ∙ ap (λ x. take i steps ++ x ∷ []) (sym at) in
    let so : State = state_after old.tables old.state (take i steps) in
    let came : next old.tables so step ≡ record { state = new.state; outcome = made.outcome } =
    sym (ap (λ s. (next mid.tables s step)) h.state ∙ ap (λ t. next t so step) h.tables) ∙ next-told mid.tables mid.state step made new.state s.told in
    let sent = rw (h.tables, h.state) at s.tests_what_it_sends in
    let led : (next old.tables so step).state ≡ new.state = ap (λ (n : Next). n.state) came in
    rw front (record {
      state = sym led ∙ sym (state_after-append old.tables old.state (take i steps) (step ∷ []));
      outcomes =
          appended ∙ ap (λ os. os ++ made.outcome ∷ []) h.outcomes ∙ append_assoc before _ _
          ∙ ap (λ os. before ++ os)
          (ap (λ o. outcomes_of old.tables old.state (take i steps) ++ o ∷ []) (ap (λ (n : Next). n.outcome) (sym came))
          ∙ sym (outcomes_of-append old.tables old.state (take i steps) (step ∷ [])));
      shape = s.shape ∙ h.shape;
      tables = s.tables ∙ h.tables;
      opening = s.opening ∙ h.opening;
      tests_what_they_send =
          let more = raised-more _ _ (length (sent_by old.tables so step)) h.tests_what_they_send in
          rw (least-append old.tables old.state (take i steps) step old.tested) (omega (arith, more, sent));
      tests_their_blocks =
          let more = raised-more _ _ (messages_at new.state (block_of step)) h.tests_their_blocks in
          let most = s.tests_its_block in
          rw (most-append old.tables old.state (take i steps) step old.tested, led) (omega (arith, more, most));
    })
