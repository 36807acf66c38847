-- Whom a step concerns besides its actor, and a cache whose pair with the actor shows each breach.
use Rattle.std.proofs.Common.{◌≡◌, ◌≢◌, ℕ, ◌+◌, refl, ap, sym, subst, ◌∙◌, inl, inr, Option, Some, None, Bool, true, false, ◌==◌}
use Rattle.std.proofs.Common.{if◌then◌else◌, arith, eq-eqb}
use Rattle.std.proofs.lemmas.Bool.{cases_eq, ne_eqb}
use Rattle.base.specs.declared.ids.CacheId.{CacheId}
use Rattle.pairs.specs.declared.steps.Party.{Party}
use Rattle.pairs.specs.declared.steps.Party.TheVariants.{Nobody, First, Second, Third}
use Rattle.pairs.specs.declared.steps.Sight.TheVariants.{Spoilt}
use Rattle.pairs.specs.Sights.{besides}
use Rattle.closing.proofs.Sending.{party_of, party-first, party-second, party-third}
use Rattle.closing.proofs.Simulation.{role, IsBreach}

-- PARTIES
-- the cache besides the actor that is concerned
abbrev pub besides_of : Option CacheId → ℕ → Option ℕ
besides_of None a = None
besides_of (Some to) a = if to.0 == a then None else Some to.0

role-of : (s t : Bool) → besides (if s then First else (if t then Second else Third)) ≡ (if s then Nobody else (if t then Second else Third))
role-of true t = refl
role-of false true = refl
role-of false false = refl

role-if : (s : Bool) (to x : ℕ) → role (if s then None else Some to) x ≡ (if s then Nobody else (if to == x then Second else Third))
role-if true to x = refl
role-if false to x = refl

-- both say the same of whom a step concerns
pub same-role : (to : Option CacheId) (a x : ℕ) → besides (party_of to a x) ≡ role (besides_of to a) x
same-role None a x = refl
same-role (Some to) a x = role-of (to.0 == a) (to.0 == x) ∙ sym (role-if (to.0 == a) to.0 x)

pub besides-apart : (to : Option CacheId) (a e : ℕ) → besides_of to a ≡ Some e → e ≢ a
besides-apart None a e same = absurd (cc)
besides-apart (Some to) a e same =
    elim (cases_eq to.0 a) [
      | inl here ↦ (let no : None ≡ Some e = sym (ap (λ (t : Bool). if t then None else Some to.0) (eq-eqb to.0 a here)) ∙ same in absurd (cc))
      | inr ne ↦ (let is : Some to.0 ≡ Some e = sym (ap (λ (t : Bool). if t then None else Some to.0) (ne_eqb to.0 a ne)) ∙ same in
          let at : to.0 ≡ e = cc in λ here. ne (at ∙ here))
    ]

-- a cache whose pair with the actor shows each breach: the one that is concerned, or any
pub record Witness (to : Option CacheId) (a : ℕ) : Type 0 where
  pub cache : ℕ
  pub apart : cache ≢ a
  pub shows : IsBreach (Spoilt (besides (party_of to a cache)))
  pub others : (x : ℕ) → x ≢ a → x ≢ cache → party_of to a x ≡ Second → ⊥

next-one : (a : ℕ) → a + 1 ≢ a
next-one a e = absurd (omega (arith, e))

first-second : First ≡ Second → ⊥
first-second e = absurd (cc)

third-second : Third ≡ Second → ⊥
third-second e = absurd (cc)

nobody-second : Nobody ≡ Second → ⊥
nobody-second e = absurd (cc)

pub witness : (to : Option CacheId) (a : ℕ) → Witness to a
witness None a = record { cache = a + 1; apart = next-one a; shows = tt; others = λ x ne far e. nobody-second e }
witness (Some to) a =
    elim (cases_eq to.0 a) [
      | inl same ↦ record {
        cache = a + 1;
        apart = next-one a;
        shows = subst (λ (p : Party). IsBreach (Spoilt (besides p))) (sym (party-first to a (a + 1) same)) tt;
        others = λ x ne far e. first-second (sym (party-first to a x same) ∙ e);
      }
      | inr differ ↦ record {
        cache = to.0;
        apart = differ;
        shows = subst (λ (p : Party). IsBreach (Spoilt (besides p))) (sym (party-second to a to.0 differ refl)) tt;
        others = λ x ne far e. third-second (sym (party-third to a x differ (λ s. far (sym s))) ∙ e);
      }
    ]
