-- Cores that may have asked something, and the others, which are idle.
use Rattle.std.proofs.Common.{◌≡◌, ◌<◌, ◌≤◌, ◌+◌, ℕ, Bool, true, false, List, length, replicate, get_or, set, refl, ap, sym, subst, ◌∙◌, arith, inl, inr}
use Rattle.std.proofs.Common.{true≢false}
use Rattle.std.specs.Prelude.{is_none}
use Rattle.std.proofs.lemmas.Bool.{cases_eq, cases_lt}
use Rattle.std.proofs.lemmas.List.{ext_get_or, get_or-replicate, get_or-set_other, get_or-set_same, get_or_past, length-replicate, length-set}
use Rattle.rows.specs.Flags.{IsFirstFrom, NoneFrom, is_set}
use Rattle.cores.specs.Cores.{Core, idle, is_free}
use Rattle.cores.specs.inner.Counted.{AreCounted, IsCounted}
use Rattle.cores.specs.inner.Touched.{AreIdleBut}

-- a place with a flag is one of the places
pub flag-within : (flags : List Bool) (at : ℕ) → is_set flags at ≡ true → at < length flags
flag-within flags at set =
    elim (cases_lt at (length flags)) [
      | inl low ↦ low
      | inr high ↦ absurd (true≢false (sym set ∙ get_or_past flags at false high))
    ]

idle-at : (n number : ℕ) → get_or (replicate n idle) number idle ≡ idle
idle-at n number =
    elim (cases_lt number n) [
      | inl low ↦ get_or-replicate n number idle idle low
      | inr high ↦ get_or_past (replicate n idle) number idle (omega (arith, length-replicate n idle, high))
    ]

-- cores that have asked nothing
pub counted-idle : (n : ℕ) → AreCounted (replicate n idle)
counted-idle n number low = subst IsCounted (sym (idle-at n number)) refl

pub idle-opened : (n : ℕ) → AreIdleBut (replicate n false) (replicate n idle)
idle-opened n = record {
  many = length-replicate n false ∙ sym (length-replicate n idle);
  rest = λ number e. idle-at n number;
}

-- all cores below a number are idle, and above it those without a flag
pub record AreIdleBelow (touched : List Bool) (from : ℕ) (cores : List Core) : Type 0 where
  pub many : length touched ≡ length cores
  pub few : from ≤ length touched
  pub below : (number : ℕ) → number < from → get_or cores number idle ≡ idle
  pub rest : (number : ℕ) → is_set touched number ≡ false → get_or cores number idle ≡ idle

pub below-none : (touched : List Bool) (cores : List Core) → AreIdleBut touched cores → AreIdleBelow touched 0 cores
below-none touched cores h = record { many = h.many; few = omega arith; below = λ number low. absurd (omega (arith, low)); rest = h.rest }

-- the next one whose flag is set was made idle
pub below-more : (touched : List Bool) (from at : ℕ) (cores : List Core) → AreIdleBelow touched from cores → IsFirstFrom touched from at →
    AreIdleBelow touched (at + 1) (set cores at idle)
below-more touched from at cores h found = record {
  many = h.many ∙ sym (length-set cores at idle);
  few = omega (arith, within);
  below = λ number low. elim (cases_eq number at) [
    | inl same ↦ subst (λ i. get_or (set cores at idle) i idle ≡ idle) (sym same) here
    | inr other ↦ get_or-set_other cores at number idle idle other ∙ before number (omega (arith, low, other))
  ];
  rest = λ number e. elim (cases_eq number at) [
    | inl same ↦ subst (λ i. get_or (set cores at idle) i idle ≡ idle) (sym same) here
    | inr other ↦ get_or-set_other cores at number idle idle other ∙ h.rest number e
  ];
}
  where
    within : at < length touched
    within = flag-within touched at found.set

    here : get_or (set cores at idle) at idle ≡ idle
    here = get_or-set_same cores at idle idle (omega (arith, within, h.many))

    before : (number : ℕ) → number < at → get_or cores number idle ≡ idle
    before number low = elim (cases_lt number from) [
      | inl done ↦ h.below number done
      | inr left ↦ h.rest number (found.first number left low)
    ]

all-idle : (n : ℕ) (cores : List Core) → n ≡ length cores → ((number : ℕ) → get_or cores number idle ≡ idle) → cores ≡ replicate n idle
all-idle n cores many each =
    ext_get_or idle cores (replicate n idle) (sym many ∙ sym (length-replicate n idle)) (λ number low. each number ∙ sym (idle-at n number))

-- no flag is left
pub idle-all : (touched : List Bool) (from : ℕ) (cores : List Core) → AreIdleBelow touched from cores → NoneFrom touched from →
    cores ≡ replicate (length touched) idle
idle-all touched from cores h left =
    all-idle (length touched) cores h.many (λ number. elim (cases_lt number from) [
      | inl done ↦ h.below number done
      | inr more ↦ h.rest number (left.none number more)
    ])

-- no place is left
pub none-past : (touched : List Bool) (from : ℕ) → length touched ≤ from → NoneFrom touched from
none-past touched from past = record { none = λ number more. get_or_past touched number false (omega (arith, past, more)) }

-- what is idle is free
free-idle : (cores : List Core) (number : ℕ) → get_or cores number idle ≡ idle → is_free cores number ≡ true
free-idle cores number e = ap (λ (c : Core). is_none c.outstanding) e

-- all cores below a number are free
abbrev pub AreFreeBelow : ℕ → List Core → Type 0
AreFreeBelow from cores = (number : ℕ) → number < from → is_free cores number ≡ true

pub free-all : (touched : List Bool) (from : ℕ) (cores : List Core) → AreIdleBut touched cores → AreFreeBelow from cores → NoneFrom touched from →
    (number : ℕ) → is_free cores number ≡ true
free-all touched from cores h below left number =
    elim (cases_lt number from) [
      | inl done ↦ below number done
      | inr more ↦ free-idle cores number (h.rest number (left.none number more))
    ]
