-- The moments of a path keep the cores tracked.
use Rattle.std.proofs.Common.{◌≡◌, ◌<◌, ℕ, zero, suc, List, length, Some, slice_get, sym}
use Rattle.std.proofs.Common.{ap, ◌∙◌, subst, arith, add-one}
use Rattle.tables.specs.Tables.{Tables}
use Rattle.scenario.specs.Tree.{Tree}
use Rattle.schedule.specs.Choices.{chosen_step}
use Rattle.record_lines.specs.declared.entry.Entry.{Entry}
use Rattle.moment.specs.inner.Tracked.{IsTracked}
use Rattle.moment.proofs.Chosen.{IsFair, choice-fair, fair-puts}
use Rattle.moment.proofs.Places.{same-some, get-low, there-is}
use Rattle.moment.proofs.Tracking.{tracked-first, tracked-next}
use Rattle.trials.specs.Terms.{Terms}
use Rattle.moment.specs.Moments.{Moment}
use Rattle.trials.specs.Moments.{IsNext, IsPath, first_moment}

pub next-fair : (tables : Tables) (drawn : ℕ) (before behind : Moment) (entry : Entry) (is : IsNext tables drawn before entry behind) →
    IsFair tables before.state before.cores is.choice
next-fair tables drawn before behind entry is = choice-fair tables before.state before.cores before.rest _ is.choice is.taken

-- the next moment is tracked
pub tracked-moment : (tables : Tables) (drawn : ℕ) (before behind : Moment) (entry : Entry) → IsNext tables drawn before entry behind →
    IsTracked before.state before.cores → IsTracked behind.state behind.cores
tracked-moment tables drawn before behind entry is tracked =
    subst (λ (m : Moment). IsTracked m.state m.cores) (sym is.leads)
    (tracked-next tables before.state (chosen_step is.choice) before.cores
    (fair-puts tables before.state before.cores is.choice (next-fair tables drawn before behind entry is)) tracked)

-- every moment of a path is tracked
pub path-tracked : (terms : Terms) (tree : Tree) (number : ℕ) (moments : List Moment) (entries : List Entry) →
    IsPath terms tree number moments entries → (k : ℕ) (m : Moment) → slice_get moments k ≡ Some m → IsTracked m.state m.cores
path-tracked terms tree number moments entries path zero m e =
    subst (λ (x : Moment). IsTracked x.state x.cores) (same-some (first_moment terms tree) m (sym path.first ∙ e))
    (tracked-first terms.shape.caches terms.shape.blocks terms.opening)
path-tracked terms tree number moments entries path (suc k) m e =
    let low : suc k < length moments = get-low moments m (suc k) e in
    let before : (x : Moment) × (slice_get moments k ≡ Some x) = there-is moments k (omega (arith, low)) in
    let entry : (x : Entry) × (slice_get entries k ≡ Some x) = there-is entries k (omega (arith, low, path.count)) in
    tracked-moment terms.tables _ before.0 m entry.0 (path.each k before.0 m entry.0 before.1 (ap (slice_get moments) (add-one k) ∙ e) entry.1)
    (path-tracked terms tree number moments entries path k before.0 before.1)
