-- By each decision the links of the caches that don't act keep what they name.
use Rattle.std.proofs.Common.{◌≡◌, ◌≢◌, ℕ, List, refl, sym, subst, ◌∙◌}
use Rattle.network.specs.declared.message.Forward.{Forward}
use Rattle.network.specs.Traffic.{Traffic, link, all_sent}
use Rattle.control.specs.LineEffect.{line_sends, taken_in, requestor_of}
use Rattle.control.specs.HomeEffect.{home_sends, brought_by}
use Rattle.control.specs.declared.home.HomeInput.{HomeInput}
use Rattle.control.specs.declared.home.HomeInput.TheVariants as home_input
use Rattle.machine.specs.declared.decision.Origin.{Origin}
use Rattle.machine.specs.declared.decision.Origin.TheVariants as origin
use Rattle.machine.specs.declared.decision.Decision.{Decision}
use Rattle.machine.specs.declared.decision.Decision.TheVariants.{Refused, AtLine, AtHome}
use Rattle.machine.specs.Block.{BlockState}
use Rattle.machine.specs.Transition.{carried_out, without}
use Rattle.machine.proofs.Counts.{link-taken_other}
use Rattle.closing.specs.Closed.{lengthened}
use Rattle.closing.proofs.Alpha.{Tags, side, names_on}
use Rattle.closing.proofs.Naming.{Grew, not-grown, all_sent-grew, line-names, home-names, grown-names, EachNames}

-- if a head is taken, it is this cache's
abbrev pub TakenBy : ℕ → Origin → Type 0
TakenBy a (origin.Head cache) = cache.0 ≡ a
TakenBy a other = Unit {0}

-- this cache acts, or its request comes to the home
abbrev pub ActsFor : ℕ → Decision → Type 0
ActsFor a (Refused what) = Unit {0}
ActsFor a (AtLine cache line input next actions from) = TakenBy a from
ActsFor a (AtHome (home_input.Request r) next actions from) = (r.from.0 ≡ a) × TakenBy a from
ActsFor a (AtHome (home_input.Data value) next actions from) = ⊥

untaken : (a x : ℕ) (from : Origin) (w : Traffic) → TakenBy a from → x ≢ a → link (without from w) x ≡ link w x
untaken a x origin.Core w h ne = refl
untaken a x (origin.Request index) w h ne = refl
untaken a x (origin.Response index) w h ne = refl
untaken a x (origin.Head cache) w h ne = link-taken_other w cache.0 x (λ e. ne (e ∙ h))

grew-from : (a : ℕ) (l m n : List Forward) → m ≡ l → Grew a m n → Grew a l n
grew-from a l m n e g = subst (λ (k : List Forward). Grew a k n) e g

-- each other link grows by what names the actor
pub links-grow : (a x : ℕ) (d : Decision) (b : BlockState) → ActsFor a d → x ≢ a → Grew a (link b.traffic x) (link (carried_out d b).block.traffic x)
links-grow a x (Refused what) b h ne = not-grown a (link b.traffic x) (link b.traffic x) refl
links-grow a x (AtLine cache line input next actions from) b h ne =
    let w : Traffic = without from b.traffic in
    grew-from a (link b.traffic x) (link w x) (link (all_sent (line_sends cache input actions line) w) x) (untaken a x from b.traffic h ne)
    (all_sent-grew a x (line_sends cache input actions line) w (line-names a cache (taken_in input line).value (requestor_of input) actions))
links-grow a x (AtHome (home_input.Request r) next actions from) b h ne =
    let w : Traffic = without from b.traffic in
    let input : HomeInput = home_input.Request r in
    grew-from a (link b.traffic x) (link w x) (link (all_sent (home_sends input actions b.home) w) x) (untaken a x from b.traffic h.1 ne)
    (all_sent-grew a x (home_sends input actions b.home) w
    (subst (λ (n : ℕ). EachNames n (home_sends input actions b.home)) h.0 (home-names r.from (brought_by input) actions b.home)))
links-grow a x (AtHome (home_input.Data value) next actions from) b h ne = absurd h

-- so what they name stays
pub names-stay : (a : ℕ) (d : Decision) (b : BlockState) (after : Tags) → ActsFor a d → (x y : ℕ) → x ≢ a → y ≢ a →
    names_on (carried_out d b).block x y ≡ lengthened (side after (carried_out d b).block x).link (names_on b x y)
names-stay a d b after h x y x_other y_other =
    grown-names a y x (link b.traffic x) (link (carried_out d b).block.traffic x) (λ e. y_other (sym e)) (links-grow a x d b h x_other)
