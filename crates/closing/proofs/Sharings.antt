-- A home waits for as many Data as are on their way to it or are brought by a Fwd-GetS: each step keeps that.
use Rattle.std.proofs.Common.{◌≡◌, ◌≢◌, ℕ, ◌+◌, List, [], ◌∷◌, refl, ap, sym, subst, ◌∙◌, Option, Some, None, length}
use Rattle.std.proofs.Common.{if◌then◌else◌, get_or, sum_by, zero, suc, arith}
use Rattle.std.proofs.lemmas.List.Sums.{sum_by-cons}
use Rattle.network.specs.declared.message.Forward.{Forward}
use Rattle.network.specs.declared.message.ForwardKind.{ForwardKind}
use Rattle.network.specs.declared.message.ForwardKind.TheVariants.{FwdGetS, FwdGetM, Inv, PutAck}
use Rattle.network.specs.Traffic.{link}
use Rattle.tables.specs.Tables.{Tables}
use Rattle.machine.specs.Block.{BlockState, IsBlockAmong}
use Rattle.machine.proofs.Counts.{total}
use Rattle.machine.proofs.Seen.{is_fwd_gets, of_kind, home_data}
use Rattle.pairs.specs.Pairs.{same_kind}
use Rattle.pairs.specs.declared.steps.Party.{Party}
use Rattle.pairs.specs.declared.steps.Party.TheVariants.{Nobody, Second, Third}
use Rattle.closing.specs.declared.ranked.RankedPair.{RankedPair}
use Rattle.closing.specs.Ranked.{Balanced, KeepsBalance, sharings_on, awaited}
use Rattle.closing.proofs.Alpha.{Tags, alpha, side}
use Rattle.closing.proofs.AlphaFits.{places}
use Rattle.closing.proofs.Simulation.{role, Moves, HomeMoves, next-other}
use Rattle.closing.proofs.Gluing.{role-there, role-elsewhere}
use Rattle.closing.proofs.Serving.{Served}

-- SUMS
-- a weight of all links that are the same but for two
same-totals : (f : Forward → ℕ) (ls ms : List (List Forward)) → length ls ≡ length ms →
    ((c : ℕ) → sum_by f (get_or ms c []) ≡ sum_by f (get_or ls c [])) → total f ms ≡ total f ls
same-totals f [] [] e h = refl
same-totals f [] (m ∷ ms) e h = absurd (omega (arith, e))
same-totals f (l ∷ ls) [] e h = absurd (omega (arith, e))
same-totals f (l ∷ ls) (m ∷ ms) e h = omega (arith, h 0, same-totals f ls ms (omega (arith, e)) (λ c. h (suc c)))

one-differs : (f : Forward → ℕ) (ls ms : List (List Forward)) (a : ℕ) → length ls ≡ length ms →
    ((c : ℕ) → c ≢ a → sum_by f (get_or ms c []) ≡ sum_by f (get_or ls c [])) →
    total f ms + sum_by f (get_or ls a []) ≡ total f ls + sum_by f (get_or ms a [])
one-differs f [] [] a e h = refl
one-differs f [] (m ∷ ms) a e h = absurd (omega (arith, e))
one-differs f (l ∷ ls) [] a e h = absurd (omega (arith, e))
one-differs f (l ∷ ls) (m ∷ ms) zero e h = omega (arith, same-totals f ls ms (omega (arith, e)) (λ c. h (suc c) (λ z. absurd (omega (arith, z)))))
one-differs f (l ∷ ls) (m ∷ ms) (suc a) e h =
    omega (
      arith,
      h 0 (λ z. absurd (omega (arith, z))),
      one-differs f ls ms a (omega (arith, e)) (λ c ne. h (suc c) (λ s. ne (omega (arith, s)))),
    )

two-differ : (f : Forward → ℕ) (ls ms : List (List Forward)) (a e : ℕ) → length ls ≡ length ms → a ≢ e →
    ((c : ℕ) → c ≢ a → c ≢ e → sum_by f (get_or ms c []) ≡ sum_by f (get_or ls c [])) →
    total f ms + sum_by f (get_or ls a []) + sum_by f (get_or ls e []) ≡ total f ls + sum_by f (get_or ms a []) + sum_by f (get_or ms e [])
two-differ f [] [] a e same ne h = refl
two-differ f [] (m ∷ ms) a e same ne h = absurd (omega (arith, same))
two-differ f (l ∷ ls) [] a e same ne h = absurd (omega (arith, same))
two-differ f (l ∷ ls) (m ∷ ms) zero zero same ne h = absurd (ne refl)
two-differ f (l ∷ ls) (m ∷ ms) zero (suc e) same ne h =
    omega (arith, one-differs f ls ms e (omega (arith, same)) (λ c other. h (suc c) (λ z. absurd (omega (arith, z))) (λ s. other (omega (arith, s)))))
two-differ f (l ∷ ls) (m ∷ ms) (suc a) zero same ne h =
    omega (arith, one-differs f ls ms a (omega (arith, same)) (λ c other. h (suc c) (λ s. other (omega (arith, s))) (λ z. absurd (omega (arith, z)))))
two-differ f (l ∷ ls) (m ∷ ms) (suc a) (suc e) same ne h =
    omega (
      arith,
      h 0 (λ z. absurd (omega (arith, z))) (λ z. absurd (omega (arith, z))),
      two-differ f ls ms a e (omega (arith, same)) (λ s. ne (ap (λ n. suc n) s))
          (λ c no no_too. h (suc c) (λ s. no (omega (arith, s))) (λ s. no_too (omega (arith, s)))),
    )

-- a link's Fwd-GetS, as the pair sees them
weighs : (kind : ForwardKind) → (if same_kind kind FwdGetS then 1 else 0) ≡ is_fwd_gets kind
weighs FwdGetS = refl
weighs FwdGetM = refl
weighs Inv = refl
weighs PutAck = refl

sharings-sum : (c : ℕ) (fs : List Forward) → sharings_on (places c fs) ≡ sum_by (of_kind is_fwd_gets) fs
sharings-sum c [] = refl
sharings-sum c (f ∷ fs) = omega (arith, weighs f.kind, sharings-sum c fs, sum_by-cons (of_kind is_fwd_gets) f fs)

pub sharings-seen : (tags : Tags) (b : BlockState) (c : ℕ) → sharings_on (side tags b c).link ≡ sum_by (of_kind is_fwd_gets) (link b.traffic c)
sharings-seen tags b c = sharings-sum c (link b.traffic c)

-- THE BALANCE
-- a home waits for as many Data as are on their way to it or are brought by a Fwd-GetS
abbrev pub IsLevel : BlockState → Type 0
IsLevel b = sum_by home_data b.traffic.responses + total (of_kind is_fwd_gets) b.traffic.links ≡ awaited b.home.state

module _ (tables : Tables) (list : List RankedPair) (caches : ℕ) (tags : Tags) (b new : BlockState) (balanced : Balanced tables list)
    (served : Served list tags b) (level : IsLevel b) (few : IsBlockAmong caches b) (few_new : IsBlockAmong caches new) where
  abbrev on : ℕ → ℕ
  on c = sum_by (of_kind is_fwd_gets) (link b.traffic c)

  abbrev on_new : ℕ → ℕ
  on_new c = sum_by (of_kind is_fwd_gets) (link new.traffic c)

  same-length : length b.traffic.links ≡ length new.traffic.links
  same-length = few.links ∙ sym few_new.links

  module _ (m : Moves tables tags b new) where
    step-kept : (x : ℕ) (ne : x ≢ m.actor) → KeepsBalance (role m.besides x) (alpha tags b m.actor x) (alpha m.after new m.actor x)
    step-kept x ne =
        let placed = served.placed m.actor x (λ e. ne (sym e)) in
        balanced.steps (record { pair = alpha tags b m.actor x; order = placed.order }) m.rule (role m.besides x) (alpha m.after new m.actor x) placed.there
        (m.sees x ne)

    abbrev keeps_as : Party → ℕ → Type 0
    keeps_as concerned x = KeepsBalance concerned (alpha tags b m.actor x) (alpha m.after new m.actor x)

    -- nobody is concerned
    alone : ((x : ℕ) → x ≢ m.actor → keeps_as Nobody x) → IsLevel new
    alone keeps =
        let x : ℕ = m.actor + 1 in
        let ne : x ≢ m.actor = λ e. next-other m.actor (sym e) in
        omega (
          arith,
          level,
          (keeps x ne).1,
          sharings-seen tags b m.actor,
          sharings-seen m.after new m.actor,
          one-differs (of_kind is_fwd_gets) b.traffic.links new.traffic.links m.actor same-length
              (λ c other. sym (sharings-seen m.after new c) ∙ (keeps c other).0 ∙ sharings-seen tags b c),
        )

    -- one cache is
    together : (e : ℕ) → e ≢ m.actor → keeps_as Second e → ((x : ℕ) → x ≢ m.actor → x ≢ e → keeps_as Third x) → IsLevel new
    together e ne keeps others =
        omega (
          arith,
          level,
          keeps,
          sharings-seen tags b m.actor,
          sharings-seen m.after new m.actor,
          sharings-seen tags b e,
          sharings-seen m.after new e,
          two-differ (of_kind is_fwd_gets) b.traffic.links new.traffic.links m.actor e same-length (λ s. ne (sym s))
              (λ c other apart. sym (sharings-seen m.after new c) ∙ others c other apart ∙ sharings-seen tags b c),
        )

    pub level-moved : IsLevel new
    level-moved = at m.besides refl
      where
        at : (besides : Option ℕ) → m.besides ≡ besides → IsLevel new
        at None e = alone (λ x ne. subst (λ (o : Option ℕ). keeps_as (role o x) x) e (step-kept x ne))
        at (Some x) e =
            let apart : x ≢ m.actor = m.apart x e in
            together x apart (subst (λ (p : Party). keeps_as p x) (ap (λ o. role o x) e ∙ role-there x) (step-kept x apart))
            (λ c other ne. subst (λ (p : Party). keeps_as p c) (ap (λ o. role o c) e ∙ role-elsewhere x c (λ s. ne (sym s))) (step-kept c other))

  module _ (m : HomeMoves tables tags b new) where
    home-kept : (c d : ℕ) (ne : c ≢ d) → KeepsBalance Nobody (alpha tags b c d) (alpha m.after new c d)
    home-kept c d ne =
        let placed = served.placed c d ne in
        balanced.home_data (record { pair = alpha tags b c d; order = placed.order }) Nobody (alpha m.after new c d) placed.there (m.sees c d ne)

    second-kept : (d : ℕ) → on_new d ≡ on d
    second-kept d =
        let ne : d + 1 ≢ d = λ e. next-other d (sym e) in
        sym (sharings-seen m.after new d) ∙ (home-kept (d + 1) d ne).0 ∙ sharings-seen tags b d

    pub level-home_moved : IsLevel new
    level-home_moved =
        omega (
          arith,
          level,
          (home-kept 0 1 (next-other 0)).1,
          sharings-seen tags b 0,
          sharings-seen m.after new 0,
          second-kept 0,
          same-totals (of_kind is_fwd_gets) b.traffic.links new.traffic.links same-length second-kept,
        )
