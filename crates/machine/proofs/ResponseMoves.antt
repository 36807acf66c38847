-- Data on its way can be delivered, or waits for acks.
use Rattle.std.proofs.Common.{◌≡◌, ◌⊎◌, ℕ, ◌<◌, ◌+◌, List, [], ◌∷◌, inl, inr, refl, ap, sym, subst, ◌∙◌, suc, arith}
use Rattle.std.proofs.Common.{Some, Bool, true, false, ◌==◌, if◌then◌else◌, slice_get, sum_by}
use Rattle.std.proofs.lemmas.Bool.{cases_eq, ne_eqb}
use Rattle.std.proofs.lemmas.List.Sums.{sum_by-cons}
use Rattle.base.specs.declared.ids.BlockId.{BlockId}
use Rattle.base.specs.declared.ids.Place.TheVariants.{Dir, Cache}
use Rattle.network.specs.declared.message.Response.{Response}
use Rattle.network.specs.declared.message.Response.TheVariants.{Data, InvAck, DataExcl}
use Rattle.cache_table.specs.declared.state.CacheState.{CacheState}
use Rattle.cache_table.specs.declared.event.CacheEvent.TheVariants as event
use Rattle.control.specs.declared.line.Line.{Line}
use Rattle.control.specs.LineEvents.{is_count, more_acks}
use Rattle.tables.specs.Tables.{Tables}
use Rattle.machine.specs.Block.{BlockState}
use Rattle.machine.specs.Going.{KeepsGoing}
use Rattle.machine.proofs.Counts.{only}
use Rattle.machine.proofs.Seen.{view_of, dir_data, owner_data, excl_data}
use Rattle.machine.proofs.Sound.{Sound}
use Rattle.machine.proofs.Plain.{Plain}
use Rattle.machine.proofs.Places.{some-same}
use Rattle.machine.proofs.Moves.{Found, Waits, ResponseWaits, response-goes}

-- a response that a sum counts
pub find-response : (f : Response → ℕ) (xs : List Response) → 0 < sum_by f xs → (i : ℕ) × (x : Response) × (Some x ≡ slice_get xs i) × (0 < f x)
find-response f [] h = absurd (omega arith)
find-response f (x ∷ xs) h = elim (cases_eq (f x) 0) as (λ _. (i : ℕ) × (y : Response) × (Some y ≡ slice_get (x ∷ xs) i) × (0 < f y)) [
  | inl z ↦ let r : (i : ℕ) × (y : Response) × (Some y ≡ slice_get xs i) × (0 < f y) = find-response f xs (omega (arith, z, sum_by-cons f x xs)) in
      (suc r.0, r.1, r.2, r.3)
  | inr ne ↦ (0, x, refl, omega (arith, ne))
]

pub only-same : (a c : ℕ) → 0 < only (a == c) 1 → a ≡ c
only-same a c p = elim (cases_eq a c) [
  | inl e ↦ e
  | inr ne ↦ absurd (omega (arith, ap (λ t. only t 1) (ne_eqb a c ne)))
]

-- a cache has one line
pub same-line : (b : BlockState) (c d : ℕ) (l line : Line) → d ≡ c → Some l ≡ slice_get b.lines d → Some line ≡ slice_get b.lines c → l ≡ line
same-line b c d l line e at there = some-same l line (at ∙ ap (λ k. slice_get b.lines k) e ∙ sym there)

-- Data from the home waits only where its acks haven't come
pub more-waits : (tables : Tables) (t : Bool) (s : CacheState) → Waits tables s (if t then event.DataDirZero else event.DataDirMore) →
    (t ≡ false) × Waits tables s event.DataDirMore
more-waits tables true s w = absurd w.0
more-waits tables false s w = (refl, w)

data-waits : (tables : Tables) (b : BlockState) (c : ℕ) (line : Line) → Some line ≡ slice_get b.lines c → (x : Response) →
    0 < dir_data c x + owner_data c x + excl_data c x →
    ResponseWaits tables b x → Waits tables line.state event.DataDirMore
data-waits tables b c line there (Data Dir Dir value acks) p w = absurd w
data-waits tables b c line there (Data (Cache by) Dir value acks) p w = absurd w
data-waits tables b c line there (Data (Cache by) (Cache to) value acks) p w = absurd w.2.0
data-waits tables b c line there (InvAck by to) p w = absurd (omega arith)
data-waits tables b c line there (DataExcl to value) p w = absurd w.2.0
data-waits tables b c line there (Data Dir (Cache to) value acks) p w =
    subst (λ (l : Line). Waits tables l.state event.DataDirMore) (same-line b c to.0 w.0 line (only-same to.0 c (omega arith)) w.1 there)
    (more-waits tables (is_count (more_acks w.0.acks acks) 0) w.0.state w.2).1

data-goes : (n : ℕ) (tables : Tables) → KeepsGoing tables → (b : BlockState) (block : BlockId) (c : ℕ) (line : Line) → Some line ≡ slice_get b.lines c →
    Sound n b → Plain tables.protocol b →
    (i : ℕ) (x : Response) → Some x ≡ slice_get b.traffic.responses i → 0 < dir_data c x + owner_data c x + excl_data c x →
    Found tables b block ⊎ Waits tables line.state event.DataDirMore
data-goes n tables k b block c line there h pl i x at p = elim (response-goes n tables k b block i x at h pl) [
  | inl f ↦ inl f
  | inr w ↦ inr (data-waits tables b c line there x p w)
]

-- Data that is on its way to a cache can be delivered, or waits for acks
pub data-found : (n : ℕ) (tables : Tables) → KeepsGoing tables → (b : BlockState) (block : BlockId) (c : ℕ) (line : Line) → Some line ≡ slice_get b.lines c →
    Sound n b → Plain tables.protocol b → 0 < (view_of b c).dir_data + (view_of b c).owner_data + (view_of b c).excl_data →
    Found tables b block ⊎ Waits tables line.state event.DataDirMore
data-found n tables k b block c line there h pl some =
    elim (cases_eq (view_of b c).dir_data 0) as (λ _. Found tables b block ⊎ Waits tables line.state event.DataDirMore) [
      | inl z ↦ elim (cases_eq (view_of b c).owner_data 0) as (λ _. Found tables b block ⊎ Waits tables line.state event.DataDirMore) [
        | inl y ↦
            let r : (i : ℕ) × (x : Response) × (Some x ≡ slice_get b.traffic.responses i) × (0 < excl_data c x) =
            find-response (excl_data c) b.traffic.responses (omega (arith, z, y)) in
            data-goes n tables k b block c line there h pl r.0 r.1 r.2 (omega (arith, r.3))
        | inr ne ↦
            let r : (i : ℕ) × (x : Response) × (Some x ≡ slice_get b.traffic.responses i) × (0 < owner_data c x) =
            find-response (owner_data c) b.traffic.responses (omega (arith, ne)) in
            data-goes n tables k b block c line there h pl r.0 r.1 r.2 (omega (arith, r.3))
      ]
      | inr ne ↦
          let r : (i : ℕ) × (x : Response) × (Some x ≡ slice_get b.traffic.responses i) × (0 < dir_data c x) =
          find-response (dir_data c) b.traffic.responses (omega (arith, ne)) in
          data-goes n tables k b block c line there h pl r.0 r.1 r.2 (omega (arith, r.3))
    ]
