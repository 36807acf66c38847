-- The home serves one cache after another: which of two was served earlier, as ranked pairs know it, stays so.
use Rattle.std.proofs.Common.{◌≡◌, ◌≢◌, ℕ, ◌<◌, ◌+◌, List, refl, ap, sym, subst, ◌∙◌, inl, inr, Option, Some, None, Bool, true, false, ◌&&◌, ◌==◌}
use Rattle.std.proofs.Common.{if◌then◌else◌, Contains, eq-eqb, arith}
use Rattle.std.proofs.lemmas.Bool.{cases_eq, ne_eqb}
use Rattle.tables.specs.Tables.{Tables}
use Rattle.machine.specs.Block.{BlockState, IsBlockAmong}
use Rattle.pairs.specs.declared.pair.Pair.{Pair}
use Rattle.pairs.specs.Pairs.{fits}
use Rattle.pairs.specs.declared.steps.Party.{Party}
use Rattle.pairs.specs.declared.steps.Party.TheVariants.{Nobody, First, Second, Third}
use Rattle.closing.specs.declared.ranked.Order.{Order}
use Rattle.closing.specs.declared.ranked.Order.TheVariants.{Unknown, Before, After}
use Rattle.closing.specs.declared.ranked.RankedPair.{RankedPair}
use Rattle.closing.specs.Closed.{glued}
use Rattle.closing.specs.Ranked.{turned, is_open, ranked, is_request, order_after, Sees, LeadsTo, Ranked}
use Rattle.closing.proofs.Alpha.{Tags, alpha}
use Rattle.closing.proofs.AlphaFits.{alpha-fits}
use Rattle.closing.proofs.Simulation.{role, Moves, HomeMoves}
use Rattle.closing.proofs.Gluing.{alpha-meet, role-there, role-elsewhere, roles-alike, nobody-third, second-third, glued-is}

-- ORDERS
-- an order is so, where the home served the first cache at this time and the second at that
abbrev pub IsOrder : Order → ℕ → ℕ → Type 0
IsOrder Unknown m n = Unit {0}
IsOrder Before m n = m < n
IsOrder After m n = n < m

turned-so : (o : Order) (m n : ℕ) → IsOrder o m n → IsOrder (turned o) n m
turned-so Unknown m n h = tt
turned-so Before m n h = h
turned-so After m n h = h

-- one that is forgotten is so
kept-so : (t : Bool) (o : Order) (m n : ℕ) → IsOrder o m n → IsOrder (if t then o else Unknown) m n
kept-so true o m n h = h
kept-so false o m n h = tt

-- when each cache was served, after a step that serves this one or doesn't
abbrev served_at : Bool → ℕ → ℕ → (ℕ → ℕ) → ℕ → ℕ
served_at serves a clock times c = if serves && (c == a) then clock else times c

same-and : (s t : Bool) (m n : ℕ) → t ≡ false → (if s && t then m else n) ≡ n
same-and true true m n e = absurd (cc)
same-and true false m n e = refl
same-and false t m n e = refl

served-other : (serves : Bool) (a clock : ℕ) (times : ℕ → ℕ) (c : ℕ) → c ≢ a → served_at serves a clock times c ≡ times c
served-other serves a clock times c ne = same-and serves (c == a) clock (times c) (ne_eqb c a ne)

served-now : (a clock : ℕ) (times : ℕ → ℕ) → served_at true a clock times a ≡ clock
served-now a clock times = ap (λ (t : Bool). if t then clock else times a) (eq-eqb a a refl)

served-below : (serves : Bool) (a clock : ℕ) (times : ℕ → ℕ) → ((c : ℕ) → times c < clock) → (c : ℕ) → served_at serves a clock times c < clock + 1
served-below serves a clock times below c = at (serves && (c == a))
  where
    at : (t : Bool) → (if t then clock else times c) < clock + 1
    at true = omega arith
    at false = omega (arith, below c)

-- the order of the one that acts and another
acted-so : (serves : Bool) (o : Order) (a d clock : ℕ) (times : ℕ → ℕ) → d ≢ a → ((c : ℕ) → times c < clock) → IsOrder o (times a) (times d) →
    IsOrder (if serves then After else o) (served_at serves a clock times a) (served_at serves a clock times d)
acted-so true o a d clock times ne below h = omega (arith, served-now a clock times, served-other true a clock times d ne, below d)
acted-so false o a d clock times ne below h = h

-- and of two others
others-so : (serves : Bool) (o : Order) (a c d clock : ℕ) (times : ℕ → ℕ) → c ≢ a → d ≢ a → IsOrder o (times c) (times d) →
    IsOrder o (served_at serves a clock times c) (served_at serves a clock times d)
others-so serves o a c d clock times c_other d_other h =
    subst (λ (n : ℕ). IsOrder o (served_at serves a clock times c) n) (sym (served-other serves a clock times d d_other))
    (subst (λ (m : ℕ). IsOrder o m (times d)) (sym (served-other serves a clock times c c_other)) h)

-- PAIRS
-- two caches are among these ranked pairs, in an order that is so
pub record Placed (list : List RankedPair) (times : ℕ → ℕ) (p : Pair) (c d : ℕ) : Type 0 where
  pub order : Order
  pub there : Contains list (record { pair = p; order = order })
  pub so : IsOrder order (times c) (times d)

-- any two caches of a block are
pub record Served (list : List RankedPair) (tags : Tags) (b : BlockState) : Type 0 where
  pub times : ℕ → ℕ
  pub clock : ℕ
  pub below : (c : ℕ) → times c < clock
  pub placed : (c d : ℕ) → c ≢ d → Placed list times (alpha tags b c d) c d

placed-as : (list : List RankedPair) (times : ℕ → ℕ) (p : Pair) (c d : ℕ) (o : Order) → Contains list (ranked p o) → IsOrder o (times c) (times d) →
    Placed list times p c d
placed-as list times p c d o has so = record {
  order = if is_open p.first && is_open p.second then o else Unknown;
  there = has;
  so = kept-so (is_open p.first && is_open p.second) o (times c) (times d) so;
}

-- what doesn't concern a third cache is among them
leads-in : (list : List RankedPair) (concerned : Party) (r : RankedPair) → LeadsTo list concerned r → concerned ≢ Third → Contains list r
leads-in list Nobody r h ne = h
leads-in list First r h ne = h
leads-in list Second r h ne = h
leads-in list Third r h ne = absurd (ne refl)

module _ (tables : Tables) (list : List RankedPair) (caches : ℕ) (tags : Tags) (b new : BlockState) (ranks : Ranked tables list)
    (served : Served list tags b) where
  -- STEPS OF A CACHE
  module _ (whole : IsBlockAmong caches new) (m : Moves tables tags b new) where
    abbrev times_after : ℕ → ℕ
    times_after = served_at (is_request m.rule) m.actor served.clock served.times

    abbrev before : (c d : ℕ) → c ≢ d → RankedPair
    before c d ne = record { pair = alpha tags b c d; order = (served.placed c d ne).order }

    -- a sight, by whom it concerns
    sees-as : (x : ℕ) (one other : Party) → one ≡ other → Sees tables m.rule (alpha tags b m.actor x) one (alpha m.after new m.actor x) →
        Sees tables m.rule (alpha tags b m.actor x) other (alpha m.after new m.actor x)
    sees-as x one other same h =
        subst (λ (p : Party). Sees tables m.rule (alpha tags b m.actor x) p (alpha m.after new m.actor x)) same h

    -- the one that acts, and another one
    actors-there : (d : ℕ) (ne : m.actor ≢ d) → Contains list (ranked (alpha m.after new m.actor d) (order_after m.rule (served.placed m.actor d ne).order))
    actors-there d ne = at m.besides refl
      where
        other : d ≢ m.actor
        other e = ne (sym e)

        stays : role m.besides d ≢ Third → Contains list (ranked (alpha m.after new m.actor d) (order_after m.rule (served.placed m.actor d ne).order))
        stays not_third =
            leads-in list (role m.besides d) (ranked (alpha m.after new m.actor d) (order_after m.rule (served.placed m.actor d ne).order))
            (ranks.steps (before m.actor d ne) m.rule (role m.besides d) (alpha m.after new m.actor d) (served.placed m.actor d ne).there (m.sees d other))
            not_third

        at : (besides : Option ℕ) → m.besides ≡ besides →
            Contains list (ranked (alpha m.after new m.actor d) (order_after m.rule (served.placed m.actor d ne).order))
        at None e = stays (λ same. nobody-third (sym (ap (λ o. role o d) e) ∙ same))
        at (Some x) e =
            elim (cases_eq x d) [
              | inl same ↦ stays (λ far. second-third (sym (ap (λ o. role o d) e ∙ ap (λ n. role (Some n) d) same ∙ role-there d) ∙ far))
              | inr differ ↦
                  let apart : x ≢ m.actor = m.apart x e in
                  let ne_x : m.actor ≢ x = λ s. apart (sym s) in
                  ranks.unconcerned (before m.actor x ne_x) (before m.actor d ne) (before x d differ) m.rule
                  (alpha m.after new m.actor x) (alpha m.after new m.actor d) (served.placed m.actor x ne_x).there (served.placed m.actor d ne).there
                  (served.placed x d differ).there (alpha-meet tags b m.actor x d differ)
                  (sees-as x (role m.besides x) Second (ap (λ o. role o x) e ∙ role-there x) (m.sees x apart))
                  (sees-as d (role m.besides d) Third (ap (λ o. role o d) e ∙ role-elsewhere x d differ) (m.sees d other)) refl refl
            ]

    actors-placed : (d : ℕ) → m.actor ≢ d → Placed list times_after (alpha m.after new m.actor d) m.actor d
    actors-placed d ne =
        placed-as list times_after (alpha m.after new m.actor d) m.actor d (order_after m.rule (served.placed m.actor d ne).order) (actors-there d ne)
        (acted-so (is_request m.rule) (served.placed m.actor d ne).order m.actor d served.clock served.times (λ e. ne (sym e)) served.below
        (served.placed m.actor d ne).so)

    turned-placed : (c d : ℕ) → Placed list times_after (alpha m.after new d c) d c → Placed list times_after (alpha m.after new c d) c d
    turned-placed c d h = record {
      order = turned h.order;
      there = ranks.turned (record { pair = alpha m.after new d c; order = h.order }) h.there;
      so = turned-so h.order (times_after d) (times_after c) h.so;
    }

    others-placed : (c d : ℕ) → c ≢ d → c ≢ m.actor → d ≢ m.actor → Placed list times_after (alpha m.after new c d) c d
    others-placed c d ne c_other d_other =
        let ac : m.actor ≢ c = λ e. c_other (sym e) in
        let ad : m.actor ≢ d = λ e. d_other (sym e) in
        let old : Order = (served.placed c d ne).order in
        let same : glued (alpha m.after new m.actor c) (alpha m.after new m.actor d) (alpha tags b c d) ≡ alpha m.after new c d =
        glued-is tables tags b new m c d c_other d_other in
        placed-as list times_after (alpha m.after new c d) c d old
        (subst (λ (p : Pair). Contains list (ranked p old)) same
        (ranks.glue (before m.actor c ac) (before m.actor d ad) (before c d ne) m.rule
        (role m.besides c) (role m.besides d) (alpha m.after new m.actor c) (alpha m.after new m.actor d) (served.placed m.actor c ac).there
        (served.placed m.actor d ad).there (served.placed c d ne).there (alpha-meet tags b m.actor c d ne) (roles-alike m.besides c d ne) (m.sees c c_other)
        (m.sees d d_other) refl refl (subst (λ (p : Pair). fits p ≡ true) (sym same) (alpha-fits caches m.after new c d whole ne))))
        (others-so (is_request m.rule) old m.actor c d served.clock served.times c_other d_other (served.placed c d ne).so)

    all-placed : (c d : ℕ) → c ≢ d → Placed list times_after (alpha m.after new c d) c d
    all-placed c d ne =
        elim (cases_eq c m.actor) [
          | inl same ↦ subst (λ n. Placed list times_after (alpha m.after new n d) n d) (sym same) (actors-placed d (λ e. ne (same ∙ e)))
          | inr c_other ↦ elim (cases_eq d m.actor) [
            | inl same ↦ turned-placed c d
                (subst (λ n. Placed list times_after (alpha m.after new n c) n c) (sym same) (actors-placed c (λ e. c_other (sym e))))
            | inr d_other ↦ others-placed c d ne c_other d_other
          ]
        ]

    -- so all stay placed where a cache acts
    pub served-moved : Served list m.after new
    served-moved = record {
      times = times_after;
      clock = served.clock + 1;
      below = served-below (is_request m.rule) m.actor served.clock served.times served.below;
      placed = all-placed;
    }

  -- and where Data comes to the home
  pub served-home_moved : (m : HomeMoves tables tags b new) → Served list m.after new
  served-home_moved m = record {
    times = served.times;
    clock = served.clock;
    below = served.below;
    placed = λ c d ne.
        let old : Placed list served.times (alpha tags b c d) c d = served.placed c d ne in
        placed-as list served.times (alpha m.after new c d) c d old.order
        (ranks.home_data (record { pair = alpha tags b c d; order = old.order }) Nobody (alpha m.after new c d) old.there (m.sees c d ne)) old.so;
  }
