-- The invariant of a block's values.
use Rattle.std.proofs.Common.{◌≡◌, ℕ, ◌<◌, ◌+◌, List, [], ◌∷◌, ◌++◌, ◌⊎◌, inl, inr, remove, refl, ap, sym, subst, ◌∙◌, zero, suc, arith, Some, ◌==◌}
use Rattle.std.proofs.Common.{slice_get, sum_by, eq-eqb}
use Rattle.std.proofs.lemmas.Bool.{cases_eq}
use Rattle.std.proofs.lemmas.List.Sums.{sum_by-cons}
use Rattle.base.specs.declared.ids.CacheId.{CacheId}
use Rattle.base.specs.declared.ids.Place.TheVariants.{Dir, Cache}
use Rattle.network.specs.declared.message.Request.{Request}
use Rattle.network.specs.declared.message.RequestKind.{RequestKind}
use Rattle.network.specs.declared.message.RequestKind.TheVariants as request
use Rattle.network.specs.declared.message.Response.{Response}
use Rattle.network.specs.declared.message.Response.TheVariants.{Data, InvAck, DataExcl}
use Rattle.cache_table.specs.declared.state.CacheState.{CacheState}
use Rattle.cache_table.specs.declared.state.CacheState.TheVariants.{M, MiA}
use Rattle.directory_table.specs.declared.state.DirectoryState.TheVariants as home
use Rattle.machine.proofs.Truths.{Never}
use Rattle.machine.specs.Block.{BlockState}
use Rattle.machine.proofs.Views.{View, Good, Local, Holds}
use Rattle.machine.proofs.Counts.{only}
use Rattle.machine.proofs.Facts.{counted}
use Rattle.machine.proofs.Seen.{view_of, block_view, line_of, from, is_putm, dir_data, owner_data, excl_data, home_data}
use Rattle.machine.proofs.Sound.{Sound}
use Rattle.machine.proofs.SingleWriter.{sole-reader}
use Rattle.machine.proofs.ValueRules.{HasValue, Waits, Reads, value_reads, data_reads}

-- Data carries this value
abbrev pub CarriesOne : ℕ → Response → Type 0
CarriesOne latest (Data by to value acks) = value ≡ latest
CarriesOne latest (InvAck by to) = Unit {0}
CarriesOne latest (DataExcl to value) = value ≡ latest

-- all Data on its way carries this value
abbrev pub Carries : ℕ → List Response → Type 0
Carries latest [] = Unit {0}
Carries latest (x ∷ xs) = CarriesOne latest x × Carries latest xs

-- a PutM of a cache carries this value
abbrev pub PutOne : ℕ → ℕ → RequestKind → CacheId → Type 0
PutOne latest c (request.PutM value) by = by.0 ≡ c → value ≡ latest
PutOne latest c other by = Unit {0}

-- all PutMs of a cache carry this value
abbrev pub PutsCarry : ℕ → ℕ → List Request → Type 0
PutsCarry latest c [] = Unit {0}
PutsCarry latest c (r ∷ rs) = PutOne latest c r.kind r.from × PutsCarry latest c rs

-- where the latest value of a block is
pub record Valued (b : BlockState) : Type 0 where
  pub lines : (c : ℕ) → HasValue (line_of b.lines c).state (view_of b c) → (line_of b.lines c).value ≡ b.latest
  pub sent : Carries b.latest b.traffic.responses
  pub memory : (b.home.state ≡ home.I) ⊎ (b.home.state ≡ home.S) → b.home.memory ≡ b.latest
  pub puts : (c : ℕ) → (line_of b.lines c).state ≡ MiA → PutsCarry b.latest c b.traffic.requests
  pub waits : (c : ℕ) → Waits (line_of b.lines c).state (line_of b.lines c).pending

pub carries-pushed : (latest : ℕ) (xs : List Response) (x : Response) → Carries latest xs → CarriesOne latest x → Carries latest (xs ++ x ∷ [])
carries-pushed latest [] x h o = (o, tt)
carries-pushed latest (y ∷ ys) x h o = (h.0, carries-pushed latest ys x h.1 o)

pub carries-removed : (latest : ℕ) (xs : List Response) (i : ℕ) → Carries latest xs → Carries latest (remove xs i)
carries-removed latest [] zero h = tt
carries-removed latest [] (suc i) h = tt
carries-removed latest (y ∷ ys) zero h = h.1
carries-removed latest (y ∷ ys) (suc i) h = (h.0, carries-removed latest ys i h.1)

pub carries-read : (latest : ℕ) (xs : List Response) (i : ℕ) (x : Response) → Carries latest xs → Some x ≡ slice_get xs i → CarriesOne latest x
carries-read latest [] i x h e = absurd (cc)
carries-read latest (y ∷ ys) zero x h e = let s : y ≡ x = cc in subst (λ z. CarriesOne latest z) s h.0
carries-read latest (y ∷ ys) (suc i) x h e = carries-read latest ys i x h.1 e

pub puts-pushed : (latest c : ℕ) (rs : List Request) (r : Request) → PutsCarry latest c rs → PutOne latest c r.kind r.from → PutsCarry latest c (rs ++ r ∷ [])
puts-pushed latest c [] r h o = (o, tt)
puts-pushed latest c (y ∷ ys) r h o = (h.0, puts-pushed latest c ys r h.1 o)

pub puts-removed : (latest c : ℕ) (rs : List Request) (i : ℕ) → PutsCarry latest c rs → PutsCarry latest c (remove rs i)
puts-removed latest c [] zero h = tt
puts-removed latest c [] (suc i) h = tt
puts-removed latest c (y ∷ ys) zero h = h.1
puts-removed latest c (y ∷ ys) (suc i) h = (h.0, puts-removed latest c ys i h.1)

pub puts-read : (latest c : ℕ) (rs : List Request) (i : ℕ) (kind : RequestKind) (by : CacheId) → PutsCarry latest c rs →
    Some (record { kind = kind; from = by }) ≡ slice_get rs i → PutOne latest c kind by
puts-read latest c [] i kind by h e = absurd (cc)
puts-read latest c (y ∷ ys) zero kind by h e =
    let s : y ≡ record { kind = kind; from = by } = cc in subst (λ (z : Request). PutOne latest c z.kind z.from) s h.0
puts-read latest c (y ∷ ys) (suc i) kind by h e = puts-read latest c ys i kind by h.1 e

put-none : (latest c : ℕ) (kind : RequestKind) (by : CacheId) → only (by.0 == c) (is_putm kind) ≡ 0 → PutOne latest c kind by
put-none latest c request.GetS by e = tt
put-none latest c request.GetM by e = tt
put-none latest c request.PutS by e = tt
put-none latest c (request.PutM value) by e = λ x. absurd (omega (arith, e, ap (λ t. only t 1) (eq-eqb by.0 c x)))

-- without PutMs there is nothing to carry
pub puts-none : (latest c : ℕ) (rs : List Request) → sum_by (from c is_putm) rs ≡ 0 → PutsCarry latest c rs
puts-none latest c [] e = tt
puts-none latest c (r ∷ rs) e = (
  put-none latest c r.kind r.from (omega (arith, sum_by-cons (from c is_putm) r rs)),
  puts-none latest c rs
      (omega (arith, sum_by-cons (from c is_putm) r rs)),
)

-- without Data either
data-none : (latest : ℕ) (x : Response) → home_data x ≡ 0 → ((d : ℕ) → dir_data d x ≡ 0) → ((d : ℕ) → owner_data d x ≡ 0) →
    ((d : ℕ) → excl_data d x ≡ 0) → CarriesOne latest x
data-none latest (Data Dir Dir value acks) h p q r = absurd (omega (arith, h))
data-none latest (Data (Cache by) Dir value acks) h p q r = absurd (omega (arith, h))
data-none latest (Data Dir (Cache to) value acks) h p q r = absurd (omega (arith, p to.0, ap (λ t. only t 1) (eq-eqb to.0 to.0 refl)))
data-none latest (Data (Cache by) (Cache to) value acks) h p q r = absurd (omega (arith, q to.0, ap (λ t. only t 1) (eq-eqb to.0 to.0 refl)))
data-none latest (InvAck by to) h p q r = tt
data-none latest (DataExcl to value) h p q r = absurd (omega (arith, r to.0, ap (λ t. only t 1) (eq-eqb to.0 to.0 refl)))

carries-none : (latest : ℕ) (xs : List Response) → sum_by home_data xs ≡ 0 → ((d : ℕ) → sum_by (dir_data d) xs ≡ 0) →
    ((d : ℕ) → sum_by (owner_data d) xs ≡ 0) → ((d : ℕ) → sum_by (excl_data d) xs ≡ 0) → Carries latest xs
carries-none latest [] h p q r = tt
carries-none latest (x ∷ xs) h p q r = (
  data-none latest x (omega (arith, sum_by-cons home_data x xs)) (λ d. omega (arith, p d, sum_by-cons (dir_data d) x xs))
      (λ d. omega (arith, q d, sum_by-cons (owner_data d) x xs)) (λ d. omega (arith, r d, sum_by-cons (excl_data d) x xs)),
  carries-none latest xs (omega (arith, sum_by-cons home_data x xs)) (λ d. omega (arith, p d, sum_by-cons (dir_data d) x xs))
      (λ d. omega (arith, q d, sum_by-cons (owner_data d) x xs)) (λ d. omega (arith, r d, sum_by-cons (excl_data d) x xs)),
)

writer : (s : CacheState) (v : View) → s ≡ M → Local s v → Holds s v × (v.invs ≡ 0) × (v.dir_data ≡ 0) × (v.owner_data ≡ 0) × (v.excl_data ≡ 0)
writer s v e h = grind (arith)

put-holds : (s : CacheState) (v : View) → s ≡ MiA → 0 < v.putm → Local s v → Holds s v
put-holds s v e p h = grind (arith)

-- where a writer has the latest value, nothing else matters
pub fresh : (n : ℕ) (b : BlockState) (c : ℕ) → Sound n b → (line_of b.lines c).state ≡ M → (line_of b.lines c).value ≡ b.latest →
    ((d : ℕ) → Waits (line_of b.lines d).state (line_of b.lines d).pending) → Valued b
fresh n b c h e is_latest waits =
    let g : Good (block_view b) = h.good in
    let w : Holds (line_of b.lines c).state (view_of b c) × ((view_of b c).invs ≡ 0) × ((view_of b c).dir_data ≡ 0) × ((view_of b c).owner_data ≡ 0)
    × ((view_of b c).excl_data ≡ 0) =
    writer (line_of b.lines c).state (view_of b c) e (g.each c) in
    let sole : (d : ℕ) → Reads (line_of b.lines d).state (view_of b d) → c ≡ d = λ d p. sole-reader (block_view b) c d g (counted b) w.0 w.1 p in
    let quiet : (d : ℕ) → (view_of b d).dir_data + (view_of b d).owner_data + (view_of b d).excl_data ≡ 0 =
    λ d. elim (cases_eq ((view_of b d).dir_data + (view_of b d).owner_data + (view_of b d).excl_data) 0) as
    (λ _. (view_of b d).dir_data + (view_of b d).owner_data + (view_of b d).excl_data ≡ 0) [
      | inl z ↦ z
      | inr ne ↦
          let same : c ≡ d = sole d (data_reads (line_of b.lines d).state (view_of b d) (omega (arith, ne)) (g.each d)) in
          omega (
            arith,
            ap (λ x. (view_of b x).dir_data) same,
            ap (λ x. (view_of b x).owner_data) same,
            ap (λ x. (view_of b x).excl_data) same,
            w.2,
            w.3,
            w.4,
          )
    ] in
    record {
      lines = λ d p. subst (λ x. (line_of b.lines x).value ≡ b.latest) (sole d (value_reads (line_of b.lines d).state (view_of b d) p (g.each d))) is_latest;
      sent = carries-none b.latest b.traffic.responses
          (elim (cases_eq (sum_by home_data b.traffic.responses) 0) as (λ _. sum_by home_data b.traffic.responses ≡ 0) [
            | inl z ↦ z
            | inr ne ↦ absurd (omega (arith, g.home_holds (inr (inr (omega (arith, ne)))) c w.0))
          ])
          (λ d. omega (arith, quiet d)) (λ d. omega (arith, quiet d)) (λ d. omega (arith, quiet d));
      memory = λ p. absurd (omega (
        arith,
        elim p as (λ _. Never) [
          | inl i ↦ g.home_holds (inl i) c w.0
          | inr s ↦ g.home_holds (inr (inl s)) c w.0
        ],
      ));
      puts = λ d m. elim (cases_eq (view_of b d).putm 0) as (λ _. PutsCarry b.latest d b.traffic.requests) [
        | inl z ↦ puts-none b.latest d b.traffic.requests z
        | inr ne ↦
            let same : c ≡ d = g.one c d w.0 (put-holds (line_of b.lines d).state (view_of b d) m (omega (arith, ne)) (g.each d)) in
            let both : M ≡ MiA = sym e ∙ ap (λ x. (line_of b.lines x).state) same ∙ m in
            absurd (cc)
      ];
      waits = waits;
    }
