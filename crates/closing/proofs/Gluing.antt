-- Where all pairs of a block are among closed ones, they are after each step.
use Rattle.std.proofs.Common.{◌≡◌, ◌≢◌, ℕ, List, [], ◌∷◌, refl, ap, sym, subst, ◌∙◌, inl, inr, Option, Some, None, Bool, true, not, ◌&&◌, ◌==◌}
use Rattle.std.proofs.Common.{if◌then◌else◌, Contains, map, eq-eqb}
use Rattle.std.proofs.lemmas.Bool.{cases_eq, ne_eqb}
use Rattle.network.specs.declared.message.Forward.{Forward}
use Rattle.network.specs.Traffic.{link}
use Rattle.tables.specs.Tables.{Tables}
use Rattle.machine.specs.Block.{BlockState, IsBlockAmong}
use Rattle.pairs.specs.declared.pair.Pair.{Pair}
use Rattle.pairs.specs.Pairs.{fits}
use Rattle.pairs.specs.declared.steps.Party.{Party}
use Rattle.pairs.specs.declared.steps.Sight.{Sight}
use Rattle.pairs.specs.declared.steps.Party.TheVariants.{Nobody, First, Second, Third}
use Rattle.pairs.specs.declared.steps.Sight.TheVariants.{Unmoved, Lost, Spoilt, Seen}
use Rattle.pairs.specs.Sights.{sight, home_data_seen}
use Rattle.closing.specs.Closed.{StaysIn, are_apart, lengthened, Meet, glued, AreAlike, KeepsUnconcerned, Closed}
use Rattle.closing.proofs.Alpha.{Tags, alpha, side, shared, names_on}
use Rattle.closing.proofs.AlphaFits.{alpha-fits, not-both}
use Rattle.closing.proofs.Staying.{names-stay}
use Rattle.closing.proofs.Simulation.{role, Moves, HomeMoves, IsBreach}

-- all pairs of a block are among these
abbrev pub AllIn : List Pair → Tags → BlockState → Type 0
AllIn pairs tags b = (c d : ℕ) → c ≢ d → Contains pairs (alpha tags b c d)

marks-apart : (fs : List Forward) (x y : ℕ) → x ≢ y →
    are_apart (map (λ (f : Forward). f.requestor.0 == x) fs) (map (λ (f : Forward). f.requestor.0 == y) fs) ≡ true
marks-apart [] x y ne = refl
marks-apart (f ∷ fs) x y ne =
    ap (λ t. not t && are_apart (map (λ (f : Forward). f.requestor.0 == x) fs) (map (λ (f : Forward). f.requestor.0 == y) fs)) (not-both f.requestor.0 x y ne)
    ∙ marks-apart fs x y ne

-- three caches of a block make three pairs that meet
pub alpha-meet : (tags : Tags) (b : BlockState) (a x y : ℕ) → x ≢ y → Meet (alpha tags b a x) (alpha tags b a y) (alpha tags b x y)
alpha-meet tags b a x y ne = record {
  shared = refl;
  shared_too = refl;
  first = refl;
  second = refl;
  third = refl;
  apart = marks-apart (link b.traffic a) x y
      ne;
}

-- a breach is in no closed set
pub no-breach : (pairs : List Pair) (s : Sight) → StaysIn pairs s → IsBreach s → ⊥
no-breach pairs Unmoved h breach = breach
no-breach pairs Lost h breach = h
no-breach pairs (Spoilt Nobody) h breach = h
no-breach pairs (Spoilt First) h breach = h
no-breach pairs (Spoilt Second) h breach = h
no-breach pairs (Spoilt Third) h breach = breach
no-breach pairs (Seen concerned p) h breach = breach

-- what is seen and doesn't concern a third cache is among them
seen-in : (pairs : List Pair) (concerned : Party) (p : Pair) (s : Sight) → StaysIn pairs s → s ≡ Seen concerned p → concerned ≢ Third → Contains pairs p
seen-in pairs concerned p s h e ne = at concerned (subst (λ (s : Sight). StaysIn pairs s) e h) ne
  where
    at : (concerned : Party) → StaysIn pairs (Seen concerned p) → concerned ≢ Third → Contains pairs p
    at Nobody h ne = h
    at First h ne = h
    at Second h ne = h
    at Third h ne = absurd (ne refl)

pub role-there : (e : ℕ) → role (Some e) e ≡ Second
role-there e = ap (λ (t : Bool). if t then Second else Third) (eq-eqb e e refl)

pub role-elsewhere : (e x : ℕ) → e ≢ x → role (Some e) x ≡ Third
role-elsewhere e x ne = ap (λ (t : Bool). if t then Second else Third) (ne_eqb e x ne)

-- the roles of two caches besides the actor are alike
pub roles-alike : (besides : Option ℕ) (x y : ℕ) → x ≢ y → AreAlike (role besides x) (role besides y)
roles-alike None x y ne = tt
roles-alike (Some e) x y ne =
    elim (cases_eq e x) [
      | inl same ↦ subst (λ (p : Party). AreAlike p (role (Some e) y)) (sym (ap (λ n. role (Some e) n) (sym same) ∙ role-there e))
          (subst (λ (p : Party). AreAlike Second p) (sym (role-elsewhere e y (λ here. ne (sym same ∙ here)))) tt)
      | inr differ ↦ subst (λ (p : Party). AreAlike p (role (Some e) y)) (sym (role-elsewhere e x differ)) (elim (cases_eq e y) [
        | inl same ↦ subst (λ (p : Party). AreAlike Third p) (sym (ap (λ n. role (Some e) n) (sym same) ∙ role-there e)) tt
        | inr too ↦ subst (λ (p : Party). AreAlike Third p) (sym (role-elsewhere e y too)) tt
      ])
    ]

pub nobody-third : Nobody ≡ Third → ⊥
nobody-third e = absurd (cc)

pub second-third : Second ≡ Third → ⊥
second-third e = absurd (cc)

-- in a pair with the cache that is concerned the other one is kept
unconcerned-in : (pairs : List Pair) (one other : Party) (p q : Pair) → one ≡ Second → other ≡ Third → KeepsUnconcerned pairs one other p q → Contains pairs q
unconcerned-in pairs one other p q e f h =
    subst (λ (x : Party). KeepsUnconcerned pairs Second x p q) f (subst (λ (x : Party). KeepsUnconcerned pairs x other p q) e h)

-- the pairs of the actor stay in
actors-in : (tables : Tables) (pairs : List Pair) (tags : Tags) (b new : BlockState) → Closed tables pairs → AllIn pairs tags b →
    (m : Moves tables tags b new) →
    (d : ℕ) → d ≢ m.actor → Contains pairs (alpha m.after new m.actor d)
actors-in tables pairs tags b new closed all m d ne = at m.besides refl
  where
    here : Contains pairs (alpha tags b m.actor d)
    here = all m.actor d (λ e. ne (sym e))

    stays : StaysIn pairs (sight tables m.rule (m.sees d ne).0 (alpha tags b m.actor d))
    stays = closed.steps (alpha tags b m.actor d) m.rule (m.sees d ne).0 here

    at : (besides : Option ℕ) → m.besides ≡ besides → Contains pairs (alpha m.after new m.actor d)
    at None e =
        seen-in pairs (role m.besides d) (alpha m.after new m.actor d) (sight tables m.rule (m.sees d ne).0 (alpha tags b m.actor d)) stays (m.sees d ne).1
        (λ same. nobody-third (sym (ap (λ o. role o d) e) ∙ same))
    at (Some x) e =
        elim (cases_eq x d) [
          | inl same ↦
              seen-in pairs (role m.besides d) (alpha m.after new m.actor d) (sight tables m.rule (m.sees d ne).0 (alpha tags b m.actor d)) stays
              (m.sees d ne).1
              (λ far. second-third (sym (ap (λ o. role o d) e ∙ ap (λ n. role (Some n) d) same ∙ role-there d) ∙ far))
          | inr differ ↦
              let other : x ≢ m.actor = m.apart x e in
              unconcerned-in pairs (role m.besides x) (role m.besides d) (alpha m.after new m.actor x) (alpha m.after new m.actor d)
              (ap (λ o. role o x) e ∙ role-there x) (ap (λ o. role o d) e ∙ role-elsewhere x d differ)
              (closed.unconcerned (alpha tags b m.actor x) (alpha tags b m.actor d) (alpha tags b x d) m.rule (m.sees x other).0 (m.sees d ne).0
              (role m.besides x) (role m.besides d) (alpha m.after new m.actor x) (alpha m.after new m.actor d) (all m.actor x (λ s. other (sym s))) here
              (all x d differ) (alpha-meet tags b m.actor x d differ) (roles-alike m.besides x d differ) (m.sees x other).1 (m.sees d ne).1 refl refl)
        ]

-- the links of the caches that don't act keep what they name
same-names : (tables : Tables) (tags : Tags) (b new : BlockState) (m : Moves tables tags b new) (x y : ℕ) → x ≢ m.actor → y ≢ m.actor →
    names_on new x y ≡ lengthened (side m.after new x).link (names_on b x y)
same-names tables tags b new m x y x_other y_other =
    subst (λ (n : BlockState). names_on n x y ≡ lengthened (side m.after n x).link (names_on b x y)) (sym m.made)
    (names-stay m.actor m.decided b m.after m.acts x y x_other y_other)

-- what is glued is the pair of the two others after the step
pub glued-is : (tables : Tables) (tags : Tags) (b new : BlockState) (m : Moves tables tags b new) (c d : ℕ) → c ≢ m.actor → d ≢ m.actor →
    glued (alpha m.after new m.actor c) (alpha m.after new m.actor d) (alpha tags b c d) ≡ alpha m.after new c d
glued-is tables tags b new m c d c_other d_other = λ i. record {
  shared = shared m.after new;
  first = side m.after new c;
  second = side m.after new d;
  first_names = sym (same-names tables tags b new m c d c_other d_other) i;
  second_names = sym (same-names tables tags b new m d c d_other c_other) i;
}

-- the pair of two others stays in
others-in : (tables : Tables) (pairs : List Pair) (caches : ℕ) (tags : Tags) (b new : BlockState) → Closed tables pairs → IsBlockAmong caches new →
    AllIn pairs tags b → (m : Moves tables tags b new) → (c d : ℕ) → c ≢ d → c ≢ m.actor → d ≢ m.actor → Contains pairs (alpha m.after new c d)
others-in tables pairs caches tags b new closed whole all m c d ne c_other d_other =
    let same : glued (alpha m.after new m.actor c) (alpha m.after new m.actor d) (alpha tags b c d) ≡ alpha m.after new c d =
    glued-is tables tags b new m c d c_other d_other in
    subst (λ (p : Pair). Contains pairs p) same
    (closed.glue (alpha tags b m.actor c) (alpha tags b m.actor d) (alpha tags b c d) m.rule (m.sees c c_other).0 (m.sees d d_other).0
    (role m.besides c) (role m.besides d) (alpha m.after new m.actor c) (alpha m.after new m.actor d) (all m.actor c (λ s. c_other (sym s)))
    (all m.actor d (λ s. d_other (sym s))) (all c d ne) (alpha-meet tags b m.actor c d ne) (roles-alike m.besides c d ne) (m.sees c c_other).1
    (m.sees d d_other).1 refl refl (subst (λ (p : Pair). fits p ≡ true) (sym same) (alpha-fits caches m.after new c d whole ne)))

-- so all pairs stay in where a cache acts
pub moved-in : (tables : Tables) (pairs : List Pair) (caches : ℕ) (tags : Tags) (b new : BlockState) → Closed tables pairs → IsBlockAmong caches new →
    AllIn pairs tags b → (m : Moves tables tags b new) → AllIn pairs m.after new
moved-in tables pairs caches tags b new closed whole all m c d ne =
    elim (cases_eq c m.actor) [
      | inl same ↦ subst (λ n. Contains pairs (alpha m.after new n d)) (sym same)
          (actors-in tables pairs tags b new closed all m d (λ e. ne (same ∙ sym e)))
      | inr c_other ↦ elim (cases_eq d m.actor) [
        | inl same ↦ subst (λ n. Contains pairs (alpha m.after new c n)) (sym same)
            (closed.turned (alpha m.after new m.actor c) (actors-in tables pairs tags b new closed all m c c_other))
        | inr d_other ↦ others-in tables pairs caches tags b new closed whole all m c d ne c_other d_other
      ]
    ]

-- and where Data comes to the home
pub home_moved-in : (tables : Tables) (pairs : List Pair) (tags : Tags) (b new : BlockState) → Closed tables pairs →
    AllIn pairs tags b → (m : HomeMoves tables tags b new) → AllIn pairs m.after new
home_moved-in tables pairs tags b new closed all m c d ne =
    seen-in pairs Nobody (alpha m.after new c d) (home_data_seen tables (m.sees c d ne).0 (alpha tags b c d))
    (closed.home_data (alpha tags b c d) (m.sees c d ne).0 (all c d ne)) (m.sees c d ne).1 nobody-third
