-- What the counts of a seat say of the deliveries that are ready for it.
use Rattle.std.proofs.Common.{◌≡◌, ◌<◌, ◌+◌, ◌-◌, ℕ, zero, suc, List, [], ◌∷◌, ◌++◌, Some, Bool, true, false}
use Rattle.std.proofs.Common.{if◌then◌else◌, cond, length, filter, take, get_or, slice_get, slice_set}
use Rattle.std.proofs.Common.{refl, sym, ap, ◌∙◌, inl, inr, arith, add-zero, zero-add, length-append, subst}
use Rattle.std.specs.List.{sum}
use Rattle.std.specs.Option.{option_map_or, option_and_then}
use Rattle.std.proofs.lemmas.Bool.{cases_lt}
use Rattle.std.proofs.lemmas.List.{get_or_past}
use Rattle.std.proofs.lemmas.List.Elements.{filter-append}
use Rattle.std.proofs.lemmas.List.Sums.{sum_by-cons}
use Rattle.std.proofs.lemmas.List.Filters.{length-filter_more}
use Rattle.std.proofs.lemmas.Option.{get_or_from_slice_get}
use Rattle.rows.specs.Counts.{Finds}
use Rattle.rows.proofs.Bridge.{get_front, get_behind}
use Rattle.base.specs.Steps.{block_of}
use Rattle.base.specs.declared.ids.BlockId.{BlockId}
use Rattle.base.specs.declared.step.Step.{Step}
use Rattle.base.specs.declared.step.Step.TheVariants as step
use Rattle.network.specs.declared.message.Request.{Request}
use Rattle.network.specs.declared.message.Forward.{Forward}
use Rattle.network.specs.declared.message.Response.{Response}
use Rattle.tables.specs.Tables.{Tables}
use Rattle.blocks.specs.Looks.{held_in, place_in}
use Rattle.machine.specs.Block.{BlockState}
use Rattle.machine.specs.Machine.{State}
use Rattle.world.specs.declared.counts.DeliveryKind.{DeliveryKind}
use Rattle.world.specs.declared.counts.DeliveryKind.TheVariants as kind
use Rattle.world.specs.declared.counts.Spot.{Spot}
use Rattle.world.specs.Enabled.{all_enabled, enabled_at_block, heads_from, kind_enabled, kind_found, of_each, requests_from, responses_from, unless_held}
use Rattle.world.specs.inner.Counts.{Rows, all_in, count_before, row_of_kind, FallsAt, FallsInRow}
use Rattle.world.proofs.Counted.{block-there, enabled-going}
use Rattle.floor.specs.Belonging.{belongs, controller, is_of, ready_for}
use Rattle.floor.specs.inner.Sharing.{AreCountedFor, belongs_in, lengths_from, ready_at}

-- ---- what there is of each block, by its lengths

each-length : (f : BlockId → BlockState → List Step) (i : ℕ) (bs : List BlockState) → length (of_each f i bs) ≡ sum (lengths_from f i bs)
each-length f i [] = refl
each-length f i (b ∷ bs) =
    let e = each-length f (i + 1) bs in
    let a = length-append (f (record { 0 = i }) b) (of_each f (i + 1) bs) in
    let s : sum (lengths_from f i (b ∷ bs)) ≡ length (f (record { 0 = i }) b) + sum (lengths_from f (i + 1) bs) =
    sum_by-cons (λ x. x) (length (f (record { 0 = i }) b)) (lengths_from f (i + 1) bs) in
    omega arith

each-get : (f : BlockId → BlockState → List Step) (i : ℕ) (bs : List BlockState) (k p r : ℕ) (b : BlockState) →
    sum (take p (lengths_from f i bs)) + r ≡ k → r < length (f (record { 0 = i + p }) b) →
    slice_get bs p ≡ Some b → slice_get (of_each f i bs) k ≡ slice_get (f (record { 0 = i + p }) b) r
each-get f i [] k p r b e w there = absurd (cc)
each-get f i (x ∷ bs) k zero r b e w there =
    let same : x ≡ b = cc in
    let q : r ≡ k = omega (arith, e) in
    let w' : r < length (f (record { 0 = i }) b) = subst (λ m. r < length (f (record { 0 = m }) b)) (add-zero i) w in
    ap (λ m. slice_get (f (record { 0 = i }) x ++ of_each f (i + 1) bs) m) (sym q)
    ∙ ap (λ y. slice_get (f (record { 0 = i }) y ++ of_each f (i + 1) bs) r) same
    ∙ get_front (f (record { 0 = i }) b) (of_each f (i + 1) bs) r w'
    ∙ ap (λ m. slice_get (f (record { 0 = m }) b) r) (sym (add-zero i))
each-get f i (x ∷ bs) k (suc p) r b e w there =
    let here : List Step = f (record { 0 = i }) x in
    let lengths : List ℕ = take p (lengths_from f (i + 1) bs) in
    let s : sum (length here ∷ lengths) ≡ length here + sum lengths = sum_by-cons (λ x. x) (length here) lengths in
    let q : k ≡ length here + (sum lengths + r) = omega (arith, e, s) in
    let z : i + 1 + p ≡ i + suc p = omega arith in
    ap (λ m. slice_get (here ++ of_each f (i + 1) bs) m) q
    ∙ get_behind here (of_each f (i + 1) bs) (sum lengths + r)
    ∙ each-get f (i + 1) bs (sum lengths + r) p r b refl (subst (λ m. r < length (f (record { 0 = m }) b)) (sym z) w) there
    ∙ ap (λ m. slice_get (f (record { 0 = m }) b) r) z

pub lengths-length : (f : BlockId → BlockState → List Step) (i : ℕ) (bs : List BlockState) → length (lengths_from f i bs) ≡ length bs
lengths-length f i [] = refl
lengths-length f i (b ∷ bs) = ap suc (lengths-length f (i + 1) bs)

lengths-get : (f : BlockId → BlockState → List Step) (i : ℕ) (bs : List BlockState) (p : ℕ) (b : BlockState) → slice_get bs p ≡ Some b →
    get_or (lengths_from f i bs) p 0 ≡ length (f (record { 0 = i + p }) b)
lengths-get f i [] p b there = absurd (cc)
lengths-get f i (x ∷ bs) zero b there =
    let same : x ≡ b = cc in
    ap (λ y. length (f (record { 0 = i }) y)) same ∙ ap (λ m. length (f (record { 0 = m }) b)) (sym (add-zero i))
lengths-get f i (x ∷ bs) (suc p) b there =
    let z : i + 1 + p ≡ i + suc p = omega arith in
    lengths-get f (i + 1) bs p b there ∙ ap (λ m. length (f (record { 0 = m }) b)) z

-- one of the blocks is another
pub lengths-set : (f : BlockId → BlockState → List Step) (i : ℕ) (bs : List BlockState) (n : ℕ) (b : BlockState) →
    slice_set (lengths_from f i bs) n (length (f (record { 0 = i + n }) b)) ≡ lengths_from f i (slice_set bs n b)
lengths-set f i [] n b = refl
lengths-set f i (x ∷ bs) zero b = ap (λ m. length (f (record { 0 = m }) b) ∷ lengths_from f (i + 1) bs) (add-zero i)
lengths-set f i (x ∷ bs) (suc n) b =
    let z : i + suc n ≡ i + 1 + n = omega arith in
    ap (λ ns. length (f (record { 0 = i }) x) ∷ ns)
    (ap (λ m. slice_set (lengths_from f (i + 1) bs) n (length (f (record { 0 = m }) b))) z ∙ lengths-set f (i + 1) bs n b)

-- where a number falls there is a block, and as much of it
found-there : (f : BlockId → BlockState → List Step) (bs : List BlockState) (k place rest : ℕ) → Finds (lengths_from f 0 bs) k place rest →
    (b : BlockState) × (slice_get bs place ≡ Some b) × (rest < length (f (record { 0 = place }) b))
found-there f bs k place rest found =
    elim (cases_lt place (length bs)) [
      | inl inside ↦
          let there = block-there bs place inside in
          let here : get_or (lengths_from f 0 bs) place 0 ≡ length (f (record { 0 = place }) there.0) =
          lengths-get f 0 bs place there.0 there.1 ∙ ap (λ m. length (f (record { 0 = m }) there.0)) (zero-add place) in
          (there.0, there.1, omega (arith, found.within, here))
      | inr past ↦ absurd (
          let l = lengths-length f 0 bs in
          let none : get_or (lengths_from f 0 bs) place 0 ≡ 0 = get_or_past (lengths_from f 0 bs) place 0 (omega (arith, l, past)) in
          omega (arith, found.within, none))
    ]

found-get : (f : BlockId → BlockState → List Step) (bs : List BlockState) (k place rest : ℕ) (b : BlockState) → Finds (lengths_from f 0 bs) k place rest →
    slice_get bs place ≡ Some b → rest < length (f (record { 0 = place }) b) →
    slice_get (of_each f 0 bs) k ≡ slice_get (f (record { 0 = place }) b) rest
found-get f bs k place rest b found there within =
    each-get f 0 bs k place rest b found.front (subst (λ m. rest < length (f (record { 0 = m }) b)) (sym (zero-add place)) within) there
    ∙ ap (λ m. slice_get (f (record { 0 = m }) b) rest) (zero-add place)

-- ---- the n-th that passes a test

pub nth-passes : {X : Type 0} (p : X → Bool) (xs : List X) (k : ℕ) (x : X) → slice_get xs k ≡ Some x → p x ≡ true →
    slice_get (filter p xs) (length (filter p (take k xs))) ≡ Some x
nth-passes p [] k x there its = absurd (cc)
nth-passes p (y ∷ ys) zero x there its =
    let same : y ≡ x = cc in
    ap (λ c. slice_get (cond c (y ∷ filter p ys) (filter p ys)) 0) (ap p same ∙ its) ∙ ap Some same
nth-passes p (y ∷ ys) (suc k) x there its = by (p y) (nth-passes p ys k x there its)
  where
    by : (c : Bool) → slice_get (filter p ys) (length (filter p (take k ys))) ≡ Some x →
        slice_get (cond c (y ∷ filter p ys) (filter p ys)) (length (cond c (y ∷ filter p (take k ys)) (filter p (take k ys)))) ≡ Some x
    by true rest = rest
    by false rest = rest

-- one more of a list passes, or doesn't
pub passes-not : {X : Type 0} (p : X → Bool) (xs : List X) (k : ℕ) (x : X) → Some x ≡ slice_get xs k → k < length xs → p x ≡ false →
    length (filter p (take (k + 1) xs)) ≡ length (filter p (take k xs))
passes-not p xs k x at lt isnt =
    let here : get_or xs k x ≡ x = get_or_from_slice_get xs k x x (sym at) in
    length-filter_more p xs k x lt
    ∙ ap (λ c. length (filter p (take k xs)) + cond c 1 0) (ap p here ∙ isnt)
    ∙ add-zero (length (filter p (take k xs)))

pub passes-more : {X : Type 0} (p : X → Bool) (xs : List X) (k : ℕ) (x : X) → Some x ≡ slice_get xs k → k < length xs → p x ≡ true →
    length (filter p (take (k + 1) xs)) ≡ length (filter p (take k xs)) + 1
passes-more p xs k x at lt its =
    let here : get_or xs k x ≡ x = get_or_from_slice_get xs k x x (sym at) in
    length-filter_more p xs k x lt
    ∙ ap (λ c. length (filter p (take k xs)) + cond c 1 0) (ap p here ∙ its)

-- ---- three kinds

get-first : (a b c : List Step) (k : ℕ) → k < length a → slice_get (a ++ b ++ c) k ≡ slice_get a k
get-first a b c k h = get_front (a ++ b) c k (let l = length-append a b in omega arith) ∙ get_front a b k h

get-second : (a b c : List Step) (n k : ℕ) → n ≡ length a + k → k < length b → slice_get (a ++ b ++ c) n ≡ slice_get b k
get-second a b c n k e h =
    ap (slice_get (a ++ b ++ c)) e ∙ get_front (a ++ b) c (length a + k) (let l = length-append a b in omega arith) ∙ get_behind a b k

get-third : (a b c : List Step) (n k : ℕ) → n ≡ length a + length b + k → slice_get (a ++ b ++ c) n ≡ slice_get c k
get-third a b c n k e =
    ap (slice_get (a ++ b ++ c)) e ∙ ap (λ m. slice_get (a ++ b ++ c) (m + k)) (sym (length-append a b)) ∙ get_behind (a ++ b) c k

-- all that there is of three kinds
abbrev all-of : (DeliveryKind → BlockId → BlockState → List Step) → List BlockState → List Step
all-of f bs = of_each (f kind.Request) 0 bs ++ of_each (f kind.Head) 0 bs ++ of_each (f kind.Response) 0 bs

module _ (f : DeliveryKind → BlockId → BlockState → List Step) (bs : List BlockState) (rows : Rows)
    (counted : (k : DeliveryKind) → row_of_kind rows k ≡ lengths_from (f k) 0 bs) where
  of-kind : (k : DeliveryKind) → length (of_each (f k) 0 bs) ≡ sum (row_of_kind rows k)
  of-kind k = each-length (f k) 0 bs ∙ ap sum (sym (counted k))

  all-length : length (all-of f bs) ≡ all_in rows
  all-length =
      let a : length (of_each (f kind.Request) 0 bs) ≡ sum rows.requests = of-kind kind.Request in
      let b : length (of_each (f kind.Head) 0 bs) ≡ sum rows.heads = of-kind kind.Head in
      let c : length (of_each (f kind.Response) 0 bs) ≡ sum rows.responses = of-kind kind.Response in
      let l = length-append (of_each (f kind.Request) 0 bs) (of_each (f kind.Head) 0 bs) in
      length-append (of_each (f kind.Request) 0 bs ++ of_each (f kind.Head) 0 bs) (of_each (f kind.Response) 0 bs) ∙ omega (arith, a, b, c, l)

  finds : (k : DeliveryKind) (n place rest : ℕ) → Finds (row_of_kind rows k) n place rest → Finds (lengths_from (f k) 0 bs) n place rest
  finds k n place rest found = subst (λ ns. Finds ns n place rest) (counted k) found

  kind-get : (k : DeliveryKind) (n place rest : ℕ) (b : BlockState) → FallsInRow (row_of_kind rows k) (count_before rows k) n place rest →
      slice_get bs place ≡ Some b → rest < length (f k (record { 0 = place }) b) →
      slice_get (all-of f bs) n ≡ slice_get (f k (record { 0 = place }) b) rest
  kind-get kind.Request n place rest b falls there within =
      let same : n - 0 ≡ n = omega arith in
      let a : length (of_each (f kind.Request) 0 bs) ≡ sum rows.requests = of-kind kind.Request in
      get-first (of_each (f kind.Request) 0 bs) (of_each (f kind.Head) 0 bs) (of_each (f kind.Response) 0 bs) n (omega (arith, a, falls.within))
      ∙ found-get (f kind.Request) bs n place rest b
      (subst (λ m. Finds (lengths_from (f kind.Request) 0 bs) m place rest) same (finds kind.Request _ place rest falls.found)) there within
  kind-get kind.Head n place rest b falls there within =
      let a : length (of_each (f kind.Request) 0 bs) ≡ sum rows.requests = of-kind kind.Request in
      let h : length (of_each (f kind.Head) 0 bs) ≡ sum rows.heads = of-kind kind.Head in
      get-second (of_each (f kind.Request) 0 bs) (of_each (f kind.Head) 0 bs) (of_each (f kind.Response) 0 bs) n (n - sum rows.requests)
      (omega (arith, a, falls.behind)) (omega (arith, h, falls.behind, falls.within))
      ∙ found-get (f kind.Head) bs (n - sum rows.requests) place rest b (finds kind.Head _ place rest falls.found) there within
  kind-get kind.Response n place rest b falls there within =
      let a : length (of_each (f kind.Request) 0 bs) ≡ sum rows.requests = of-kind kind.Request in
      let h : length (of_each (f kind.Head) 0 bs) ≡ sum rows.heads = of-kind kind.Head in
      get-third (of_each (f kind.Request) 0 bs) (of_each (f kind.Head) 0 bs) (of_each (f kind.Response) 0 bs) n (n - (sum rows.requests + sum rows.heads))
      (omega (arith, a, h, falls.behind))
      ∙ found-get (f kind.Response) bs (n - (sum rows.requests + sum rows.heads)) place rest b (finds kind.Response _ place rest falls.found) there within

  -- the n-th of all is the one that is left at its spot
  all-get : (n : ℕ) (spot : Spot) → FallsAt rows n spot →
      (b : BlockState) × (slice_get bs spot.block ≡ Some b) × (slice_get (all-of f bs) n ≡ slice_get (f spot.kind (record { 0 = spot.block }) b) spot.rest)
  all-get n spot falls =
      let there = found-there (f spot.kind) bs _ spot.block spot.rest (finds spot.kind _ spot.block spot.rest falls.found) in
      (there.0, there.1, kind-get spot.kind n spot.block spot.rest there.0 falls there.1 there.2)

-- ---- each delivery is of its block

abbrev Each : (Step → Type 0) → List Step → Type 0
Each P [] = Unit {0}
Each P (x ∷ xs) = P x × Each P xs

each-append : (P : Step → Type 0) (xs ys : List Step) → Each P xs → Each P ys → Each P (xs ++ ys)
each-append P [] ys h k = k
each-append P (x ∷ xs) ys h k = (h.0, each-append P xs ys h.1 k)

abbrev AreOf : ℕ → List Step → Type 0
AreOf n steps = Each (λ s. block_of s ≡ n) steps

unless-of : (tables : Tables) (s : Step) (b : BlockState) (n : ℕ) → block_of s ≡ n → AreOf n (unless_held tables s b)
unless-of tables s b n e = by (held_in tables s b)
  where
    by : (held : Bool) → AreOf n (if held then [] else (s ∷ []))
    by true = tt
    by false = (e, tt)

requests-of : (tables : Tables) (n : ℕ) (b : BlockState) (i : ℕ) (rs : List Request) → AreOf n (requests_from tables (record { 0 = n }) b i rs)
requests-of tables n b i [] = tt
requests-of tables n b i (r ∷ rs) =
    each-append (λ s. block_of s ≡ n) (unless_held tables (step.Request (record { 0 = n }) i) b) (requests_from tables (record { 0 = n }) b (i + 1) rs)
    (unless-of tables (step.Request (record { 0 = n }) i) b n refl) (requests-of tables n b (i + 1) rs)

heads-of : (tables : Tables) (n : ℕ) (b : BlockState) (i : ℕ) (ls : List (List Forward)) → AreOf n (heads_from tables (record { 0 = n }) b i ls)
heads-of tables n b i [] = tt
heads-of tables n b i ([] ∷ ls) = heads-of tables n b (i + 1) ls
heads-of tables n b i ((x ∷ xs) ∷ ls) =
    let head : Step = step.Forward (record { 0 = n }) (record { 0 = i }) in
    each-append (λ s. block_of s ≡ n) (unless_held tables head b) (heads_from tables (record { 0 = n }) b (i + 1) ls)
    (unless-of tables head b n refl) (heads-of tables n b (i + 1) ls)

responses-of : (tables : Tables) (n : ℕ) (b : BlockState) (i : ℕ) (rs : List Response) → AreOf n (responses_from tables (record { 0 = n }) b i rs)
responses-of tables n b i [] = tt
responses-of tables n b i (r ∷ rs) =
    each-append (λ s. block_of s ≡ n) (unless_held tables (step.Response (record { 0 = n }) i) b) (responses_from tables (record { 0 = n }) b (i + 1) rs)
    (unless-of tables (step.Response (record { 0 = n }) i) b n refl) (responses-of tables n b (i + 1) rs)

kind-of : (tables : Tables) (k : DeliveryKind) (n : ℕ) (b : BlockState) → AreOf n (kind_enabled tables k (record { 0 = n }) b)
kind-of tables kind.Request n b = requests-of tables n b 0 b.traffic.requests
kind-of tables kind.Head n b = heads-of tables n b 0 b.traffic.links
kind-of tables kind.Response n b = responses-of tables n b 0 b.traffic.responses

-- ---- what belongs to a seat is seen at its block

filter-same : (P Q : Step → Bool) (xs : List Step) → Each (λ x. P x ≡ Q x) xs → filter P xs ≡ filter Q xs
filter-same P Q [] h = refl
filter-same P Q (x ∷ xs) h = by (P x) (Q x) h.0 (filter-same P Q xs h.1)
  where
    by : (p q : Bool) → p ≡ q → filter P xs ≡ filter Q xs → cond p (x ∷ filter P xs) (filter P xs) ≡ cond q (x ∷ filter Q xs) (filter Q xs)
    by true true e rest = ap (λ ys. x ∷ ys) rest
    by false false e rest = rest
    by true false e rest = absurd (cc)
    by false true e rest = absurd (cc)

all-same : (P Q : Step → Bool) (n : ℕ) → ((s : Step) → block_of s ≡ n → P s ≡ Q s) → (xs : List Step) → AreOf n xs → Each (λ x. P x ≡ Q x) xs
all-same P Q n same [] h = tt
all-same P Q n same (x ∷ xs) h = (same x h.0, all-same P Q n same xs h.1)

filter-each : (P : Step → Bool) (Q : BlockState → Step → Bool) (f : BlockId → BlockState → List Step) (i : ℕ) (bs : List BlockState) →
    ((j : ℕ) (b : BlockState) → slice_get bs j ≡ Some b → filter P (f (record { 0 = i + j }) b) ≡ filter (Q b) (f (record { 0 = i + j }) b)) →
    filter P (of_each f i bs) ≡ of_each (λ block b. filter (Q b) (f block b)) i bs
filter-each P Q f i [] same = refl
filter-each P Q f i (b ∷ bs) same =
    filter-append P (f (record { 0 = i }) b) (of_each f (i + 1) bs)
    ∙ ap (λ xs. xs ++ filter P (of_each f (i + 1) bs))
    (subst (λ m. filter P (f (record { 0 = m }) b) ≡ filter (Q b) (f (record { 0 = m }) b)) (add-zero i) (same 0 b refl))
    ∙ ap (λ xs. filter (Q b) (f (record { 0 = i }) b) ++ xs)
    (filter-each P Q f (i + 1) bs (λ j c at.
    let z : i + suc j ≡ i + 1 + j = omega arith in
    subst (λ m. filter P (f (record { 0 = m }) c) ≡ filter (Q c) (f (record { 0 = m }) c)) z (same (suc j) c at)))

module _ (seats caches : ℕ) (tables : Tables) (s : State) (seat : ℕ) where
  -- a step of a block that is there belongs to whom it belongs at the block
  belongs-there : (n : ℕ) (b : BlockState) → slice_get s.blocks n ≡ Some b → (x : Step) → block_of x ≡ n →
      belongs seats caches s seat x ≡ belongs_in seats caches seat b x
  belongs-there n b there x e =
      ap (λ o. option_map_or (λ at. is_of seats seat (controller caches (block_of x) at)) (option_and_then (place_in x) o) true)
      (ap (slice_get s.blocks) e ∙ there)

  pub ready-there : (k : DeliveryKind) (n : ℕ) (b : BlockState) → slice_get s.blocks n ≡ Some b →
      filter (λ x. belongs seats caches s seat x) (kind_enabled tables k (record { 0 = n }) b) ≡ ready_at seats caches tables seat k (record { 0 = n }) b
  ready-there k n b there =
      filter-same (λ x. belongs seats caches s seat x) (belongs_in seats caches seat b) (kind_enabled tables k (record { 0 = n }) b)
      (all-same (λ x. belongs seats caches s seat x) (belongs_in seats caches seat b) n (belongs-there n b there)
      (kind_enabled tables k (record { 0 = n }) b) (kind-of tables k n b))

  kind-ready : (k : DeliveryKind) → filter (λ x. belongs seats caches s seat x) (of_each (kind_enabled tables k) 0 s.blocks) ≡
      of_each (ready_at seats caches tables seat k) 0 s.blocks
  kind-ready k =
      filter-each (λ x. belongs seats caches s seat x) (belongs_in seats caches seat) (kind_enabled tables k) 0 s.blocks
      (λ j b at. ready-there k (0 + j) b (ap (slice_get s.blocks) (zero-add j) ∙ at))

  -- all that is ready for a seat, block by block
  ready-all : s.broken ≡ false → ready_for seats caches tables s seat ≡ all-of (ready_at seats caches tables seat) s.blocks
  ready-all going =
      let its : Step → Bool = λ x. belongs seats caches s seat x in
      let all : DeliveryKind → List Step = λ k. of_each (kind_enabled tables k) 0 s.blocks in
      let mine : DeliveryKind → List Step = λ k. of_each (ready_at seats caches tables seat k) 0 s.blocks in
      let requests : filter its (all kind.Request) ≡ mine kind.Request = kind-ready kind.Request in
      let heads : filter its (all kind.Head) ≡ mine kind.Head = kind-ready kind.Head in
      let responses : filter its (all kind.Response) ≡ mine kind.Response = kind-ready kind.Response in
      ap (filter its) (enabled-going tables s going)
      ∙ filter-append its (all kind.Request ++ all kind.Head) (all kind.Response)
      ∙ ap (λ xs. xs ++ filter its (all kind.Response)) (filter-append its (all kind.Request) (all kind.Head))
      ∙ ap (λ xs. xs ++ filter its (all kind.Head) ++ filter its (all kind.Response)) requests
      ∙ ap (λ xs. mine kind.Request ++ xs ++ filter its (all kind.Response)) heads
      ∙ ap (λ xs. mine kind.Request ++ mine kind.Head ++ xs) responses

  pub ready-broken : s.broken ≡ true → ready_for seats caches tables s seat ≡ []
  ready-broken broken = ap (λ (b : Bool). filter (λ x. belongs seats caches s seat x) (if b then [] else all_enabled tables s.blocks)) broken

  pub ready-count : (rows : Rows) → s.broken ≡ false → AreCountedFor seats caches tables s.blocks seat rows →
      length (ready_for seats caches tables s seat) ≡ all_in rows
  ready-count rows going counted =
      ap length (ready-all going) ∙ all-length (ready_at seats caches tables seat) s.blocks rows counted

  -- the n-th is the one that is left at its spot
  pub ready-get : (rows : Rows) (n : ℕ) (spot : Spot) → s.broken ≡ false → AreCountedFor seats caches tables s.blocks seat rows → FallsAt rows n spot →
      slice_get (ready_for seats caches tables s seat) n ≡
      slice_get (filter (λ x. belongs seats caches s seat x) (enabled_at_block tables spot.kind s (record { 0 = spot.block }))) spot.rest
  ready-get rows n spot going counted falls =
      let at = all-get (ready_at seats caches tables seat) s.blocks rows counted n spot falls in
      ap (λ xs. slice_get xs n) (ready-all going)
      ∙ at.2
      ∙ ap (λ xs. slice_get xs spot.rest) (sym (ready-there spot.kind spot.block at.0 at.1))
      ∙ ap (λ o. slice_get (filter (λ x. belongs seats caches s seat x) (kind_found tables spot.kind (record { 0 = spot.block }) o)) spot.rest) (sym at.1)
