-- Trials on their way: how they start, go on and end.
use Rattle.std.proofs.Common.{◌≡◌, ◌<◌, ◌≤◌, ◌+◌, ℕ, List, [], ◌∷◌, Option, Some, None, MatchOption, length, slice_get, ap, sym, subst, ◌∙◌, refl, arith}
use Rattle.std.specs.Option.{option_map_or}
use Rattle.std.proofs.lemmas.List.{length-map}
use Rattle.rand_pcg.specs.Pcg.{multiplier_64}
use Rattle.rand_pcg.specs.Lcg as lcg
use Rattle.tables.specs.Tables.{Tables}
use Rattle.machine.specs.Machine.{State, opened, state_after}
use Rattle.cores.specs.Cores.{Core}
use Rattle.scenario.specs.Tree.{Tree}
use Rattle.scenario.specs.Alike.{Alike}
use Rattle.scenario.specs.Taking.{left, offers}
use Rattle.schedule.specs.Choices.{choices_of}
use Rattle.schedule.specs.Words.{dice, dice_after}
use Rattle.schedule.specs.declared.choosing.Choice.{Choice}
use Rattle.moment.specs.Moments.{IsAtRest, Moment, choices_at}
use Rattle.moment.specs.Seen.{IsAt, Rests, Seen, choices_in}
use Rattle.record_lines.specs.declared.entry.Entry.{Entry}
use Rattle.record.specs.View.{RecordingView, steps_of}
use Rattle.monitor.specs.Violations.{HasNoViolation}
use Rattle.trials.specs.Terms.{Terms}
use Rattle.trials.specs.Moments.{IsPath, first_moment}
use Rattle.trials.specs.declared.verdict.Verdict.{Verdict}
use Rattle.trials.specs.declared.verdict.Verdict.TheVariants.{Quiet, Cut, Stuck, Broke}
use Rattle.trials.specs.Trial.{IsTrial, IsVerdict, IsUnowned}
use Rattle.trials.specs.inner.Going.{Chooses, Course, IsGoing, IsVerdictAtRest, Starts}
use Rattle.trials.proofs.Paths.{path-starts}

-- the laws of the crates below that are used here
abbrev pub NoWords : Type 0
NoWords = (seed stream : ℕ) → dice_after seed stream 0 ≡ dice seed stream

abbrev pub NextWord : Type 0
NextWord = (seed stream k : ℕ) → lcg.next 64 multiplier_64 (dice_after seed stream k) ≡ dice_after seed stream (k + 1)

abbrev pub SameLeft : Type 0
SameLeft = (s t : Tree) (i : ℕ) → Alike s t → i < length (offers s) → Alike (left s i) (left t i)

abbrev pub SameChoices : Type 0
SameChoices = (tables : Tables) (state : State) (cores : List Core) (s t : Tree) → Alike s t → choices_of tables state cores s ≡ choices_of tables state cores t

-- ---- the start

pub starts : NoWords → (terms : Terms) (tree : Tree) (number : ℕ) (c : Course) → Starts terms tree number c → IsGoing terms tree number c
starts none terms tree number c s =
    let nothing : c.recording.entries ≡ [] = ap (λ (r : RecordingView). r.entries) s.recording in
    let steps : steps_of c.recording ≡ [] = ap steps_of s.recording in
    record {
      under = s.of.under;
      shape = ap (λ (r : RecordingView). r.shape) s.recording;
      tables = ap (λ (r : RecordingView). r.tables) s.recording;
      opening = ap (λ (r : RecordingView). r.opening) s.recording;
      unowned = subst IsUnowned (sym s.recording) (record { seats = refl; owners = refl });
      moments = first_moment terms tree ∷ [];
      last = first_moment terms tree;
      path = subst (λ (es : List Entry). IsPath terms tree number (first_moment terms tree ∷ []) es) (sym nothing) (path-starts terms tree number);
      at_last = ap (λ (es : List Entry). slice_get (first_moment terms tree ∷ []) (length es)) nothing;
      at = s.at;
      drawn = s.dice ∙ sym (none terms.seed number) ∙ ap (λ (es : List Entry). dice_after terms.seed number (length es)) (sym nothing);
      led = ap (state_after terms.tables (opened terms.shape terms.opening)) (sym steps);
      clean = subst (HasNoViolation terms.shape terms.tables terms.opening) (sym steps) (λ k step e. absurd (cc e));
    }

-- ---- what there is to choose

pub same-choices : SameChoices → (terms : Terms) (tree : Tree) (number : ℕ) (c : Course) (g : IsGoing terms tree number c) →
    choices_in c.moment ≡ choices_at terms.tables g.last
same-choices same terms tree number c g =
    ap (λ (o : Option Moment). option_map_or (choices_at c.moment.tables) o []) g.at.now
    ∙ same c.moment.tables g.last.state g.last.cores g.at.rest g.last.rest g.at.alike ∙ ap (λ (t : Tables). choices_at t g.last) g.under.tables

-- ---- the end

abbrev pub SameOffers : Type 0
SameOffers = (s t : Tree) → Alike s t → offers s ≡ offers t

rests-there : SameOffers → (s : Seen) (last : Moment) → IsAt s last → Rests s → IsAtRest last
rests-there same s last at rests =
    let rest = subst (λ (o : Option Moment). MatchOption o ⊥ IsAtRest) at.now rests in
    record { nothing_offered = sym (same at.rest last.rest at.alike) ∙ rest.nothing_offered; quiet = rest.quiet; free = rest.free }

rests-here : SameOffers → (s : Seen) (last : Moment) → IsAt s last → IsAtRest last → Rests s
rests-here same s last at rest =
    subst (λ (o : Option Moment). MatchOption o ⊥ IsAtRest) (sym at.now)
    (record { nothing_offered = same at.rest last.rest at.alike ∙ rest.nothing_offered; quiet = rest.quiet; free = rest.free })

verdict-at-rest : SameOffers → SameChoices →
    (terms : Terms) (tree : Tree) (number : ℕ) (c : Course) (verdict : Verdict) (g : IsGoing terms tree number c) → choices_in c.moment ≡ [] →
    IsVerdictAtRest c.moment verdict → IsVerdict terms (steps_of c.recording) g.last verdict
verdict-at-rest offered same terms tree number c Quiet g none rest =
    (g.clean, sym (same-choices same terms tree number c g) ∙ none, rests-there offered c.moment g.last g.at rest)
verdict-at-rest offered same terms tree number c Stuck g none rest =
    (g.clean, sym (same-choices same terms tree number c g) ∙ none, λ there. rest (rests-here offered c.moment g.last g.at there))
verdict-at-rest offered same terms tree number c Cut g none rest = absurd rest
verdict-at-rest offered same terms tree number c (Broke violation) g none rest = absurd rest

pub ends-at-rest : SameOffers → SameChoices → (terms : Terms) (tree : Tree) (number : ℕ) (c chosen : Course) (verdict : Verdict) →
    IsGoing terms tree number c → length c.recording.entries ≤ terms.limit → Chooses c None chosen → IsVerdictAtRest chosen.moment verdict →
    IsTrial terms tree number chosen.recording verdict
ends-at-rest offered same terms tree number c chosen verdict g few none rest =
    subst (λ (x : Course). IsTrial terms tree number x.recording verdict) (sym none.1) (record {
      shape = g.shape;
      tables = g.tables;
      opening = g.opening;
      unowned = g.unowned;
      moments = g.moments;
      last = g.last;
      path = g.path;
      at_last = g.at_last;
      few = few;
      ends = verdict-at-rest offered same terms tree number c verdict g none.0 (subst (λ (x : Course). IsVerdictAtRest x.moment verdict) none.1 rest);
    })

some-choice : (cs : List Choice) (k : ℕ) → k < length cs → ¬ (cs ≡ [])
some-choice [] k low e = absurd (omega (arith, low))
some-choice (c ∷ cs) k low e = absurd (cc e)

-- at the limit there is a choice
pub ends-cut : SameChoices → (terms : Terms) (tree : Tree) (number : ℕ) (c chosen : Course) (k : ℕ) → IsGoing terms tree number c →
    length c.recording.entries ≡ terms.limit → Chooses c (Some k) chosen → IsTrial terms tree number chosen.recording Cut
ends-cut same terms tree number c chosen k g many taken =
    subst (λ (x : Course). IsTrial terms tree number x.recording Cut) (sym taken.2) (record {
      shape = g.shape;
      tables = g.tables;
      opening = g.opening;
      unowned = g.unowned;
      moments = g.moments;
      last = g.last;
      path = g.path;
      at_last = g.at_last;
      few = omega (arith, many);
      ends = (
        g.clean,
        λ none. some-choice (choices_in c.moment) k taken.0 (same-choices same terms tree number c g ∙ none),
        length-map c.recording.entries (λ (e : Entry). e.step) ∙ many,
      );
    })
