use Rattle.std.proofs.Common.{◌≡◌, ◌≤◌, ◌<◌, ℕ, ◌+◌, List, [], ◌∷◌, ◌++◌, length, get_or, take, ap, sym, ◌∙◌, zero, suc, arith, ◌==◌, inl, inr, slice_index}
use Rattle.std.proofs.lemmas.Bool.{cases_eq, ne_eqb}
use Rattle.std.proofs.lemmas.List.{take_more}
use Rattle.base.specs.declared.ids.CacheId.{CacheId}
use Rattle.network.specs.Room.{Room, UsesRoomFor, times, one_if, AllBelow}

-- a listed cache is one of so many
pub AllBelow-get_or : (n : ℕ) (cs : List CacheId) (i : ℕ) (d : CacheId) → AllBelow n cs → i < length cs → (get_or cs i d).0 < n
AllBelow-get_or n [] i d h lt = absurd (omega arith)
AllBelow-get_or n (c ∷ cs) zero d h lt = h.0
AllBelow-get_or n (c ∷ cs) (suc i) d h lt = AllBelow-get_or n cs i d h.1 (omega arith)

times-append : (k : ℕ) (cs : List CacheId) (c : CacheId) → times k (cs ++ c ∷ []) ≡ times k cs + one_if (c.0 == k)
times-append k [] c = omega arith
times-append k (x ∷ cs) c = omega (arith, times-append k cs c)

-- once a listed link has its room, each link listed so far has
pub room-more : (listed : List CacheId) (i : ℕ) (d : CacheId) (old new : Room) → i < length listed
    → ((k : ℕ) → 0 < times k (take i listed) → times k listed ≤ slice_index old.links k)
    → UsesRoomFor [] old new
    → times (get_or listed i d).0 listed ≤ slice_index new.links (get_or listed i d).0
    → (k : ℕ) → 0 < times k (take (i + 1) listed) → times k listed ≤ slice_index new.links k
room-more listed i d old new lt before kept here k some =
    elim (cases_eq k (get_or listed i d).0) [
      | inl e ↦ rw e here
      | inr ne ↦
          let more : times k (take (i + 1) listed) ≡ times k (take i listed) + one_if ((get_or listed i d).0 == k) =
          ap (λ l. times k l) (take_more listed i d lt) ∙ times-append k (take i listed) (get_or listed i d) in
          let none : one_if ((get_or listed i d).0 == k) ≡ 0 = ap one_if (ne_eqb (get_or listed i d).0 k (λ e. ne (sym e))) in
          omega (arith, kept.links k, before k (omega (arith, more, none, some)))
    ]
