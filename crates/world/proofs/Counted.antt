-- Rows of the counts of blocks say how many deliveries there are, and where the k-th is.
use Rattle.std.proofs.Common.{◌≡◌, ℕ, ◌+◌, ◌<◌, ◌≤◌, List, [], ◌∷◌, ◌++◌, Some, None}
use Rattle.std.proofs.Common.{length, map, take, get_or, slice_get, slice_set, false, if◌then◌else◌}
use Rattle.std.proofs.Common.{refl, sym, ap, ◌∙◌, zero, suc, arith, inl, inr, add-zero, zero-add}
use Rattle.std.specs.List.{sum}
use Rattle.std.specs.Option.{option_map}
use Rattle.std.proofs.lemmas.List.{length-append, length-map, get_or-map, get_or_past, map-set}
use Rattle.std.proofs.lemmas.List.Sums.{sum_by-cons}
use Rattle.std.proofs.lemmas.Bool.{cases_lt}
use Rattle.std.proofs.lemmas.Option.{slice_get_past, get_or_from_slice_get}
use Rattle.rows.specs.Counts.{Finds}
use Rattle.rows.proofs.Bridge.{get_front, get_behind}
use Rattle.base.specs.declared.ids.BlockId.{BlockId}
use Rattle.base.specs.declared.step.Step.{Step}
use Rattle.base.specs.declared.step.Step.TheVariants as step
use Rattle.tables.specs.Tables.{Tables}
use Rattle.machine.specs.Block.{BlockState}
use Rattle.machine.specs.Machine.{State}
use Rattle.world.specs.Enabled.{requests_enabled, heads_in, responses_enabled, of_each, all_enabled, enabled_steps}
use Rattle.world.specs.inner.Counts.{AreCounted}
use Rattle.blocks.specs.Marking.{marks_of, free_requests, free_heads, free_responses}
use Rattle.network.specs.Marks.{unmarked, unmarked_heads}
use Rattle.world.proofs.Marking.{requests-count, heads-count, responses-count, requests-kth, heads-kth, responses-kth}

-- ---- one kind of delivery, whose count is right for each block

-- a number for each block is the length of what there is of it
abbrev Counts : (BlockId → BlockState → List Step) → (BlockState → ℕ) → Type 0
Counts f count = (block : BlockId) (b : BlockState) → length (f block b) ≡ count b

module _ (f : BlockId → BlockState → List Step) (count : BlockState → ℕ) (counts : Counts f count) where
  each-length : (i : ℕ) (bs : List BlockState) → length (of_each f i bs) ≡ sum (map count bs)
  each-length i [] = refl
  each-length i (b ∷ bs) =
      let e = each-length (i + 1) bs in
      let a = length-append (f (record { 0 = i }) b) (of_each f (i + 1) bs) in
      let s : sum (map count (b ∷ bs)) ≡ count b + sum (map count bs) = sum_by-cons (λ x. x) (count b) (map count bs) in
      let c = counts (record { 0 = i }) b in
      omega arith

  each-get : (i : ℕ) (bs : List BlockState) (k p r : ℕ) (b : BlockState) → sum (take p (map count bs)) + r ≡ k → r < count b →
      slice_get bs p ≡ Some b → slice_get (of_each f i bs) k ≡ slice_get (f (record { 0 = i + p }) b) r
  each-get i [] k p r b e w there = absurd (cc)
  each-get i (x ∷ bs) k zero r b e w there =
      let same : x ≡ b = cc in
      let c = counts (record { 0 = i }) b in
      let q : r ≡ k = omega (arith, e) in
      ap (λ m. slice_get (f (record { 0 = i }) x ++ of_each f (i + 1) bs) m) (sym q)
      ∙ ap (λ y. slice_get (f (record { 0 = i }) y ++ of_each f (i + 1) bs) r) same
      ∙ get_front (f (record { 0 = i }) b) (of_each f (i + 1) bs) r (omega (arith, w, c))
      ∙ ap (λ m. slice_get (f (record { 0 = m }) b) r) (sym (add-zero i))
  each-get i (x ∷ bs) k (suc p) r b e w there =
      let c = counts (record { 0 = i }) x in
      let s : sum (count x ∷ take p (map count bs)) ≡ count x + sum (take p (map count bs)) = sum_by-cons (λ x. x) (count x) (take p (map count bs)) in
      let q : k ≡ length (f (record { 0 = i }) x) + (sum (take p (map count bs)) + r) = omega (arith, e, s, c) in
      let z : i + 1 + p ≡ i + suc p = omega arith in
      ap (λ m. slice_get (f (record { 0 = i }) x ++ of_each f (i + 1) bs) m) q
      ∙ get_behind (f (record { 0 = i }) x) (of_each f (i + 1) bs) (sum (take p (map count bs)) + r)
      ∙ each-get (i + 1) bs (sum (take p (map count bs)) + r) p r b refl w there
      ∙ ap (λ m. slice_get (f (record { 0 = m }) b) r) z

-- what is found in a row of counts is in a block that is there, and below its count
pub found-within : (count : BlockState → ℕ) (bs : List BlockState) (numbers : List ℕ) (k place rest : ℕ) → numbers ≡ map count bs →
    Finds numbers k place rest → place < length bs
found-within count bs numbers k place rest e found =
    elim (cases_lt place (length bs)) [
      | inl h ↦ h
      | inr h ↦ absurd (
          let l : length numbers ≡ length bs = ap length e ∙ length-map bs count in
          let none : get_or numbers place 0 ≡ 0 = get_or_past numbers place 0 (omega arith) in
          omega (arith, found.within))
    ]

pub found-rest : (count : BlockState → ℕ) (bs : List BlockState) (numbers : List ℕ) (k place rest : ℕ) (b : BlockState) → numbers ≡ map count bs →
    Finds numbers k place rest → slice_get bs place ≡ Some b → rest < count b
found-rest count bs numbers k place rest b e found there =
    let within = found-within count bs numbers k place rest e found in
    let here : get_or numbers place 0 ≡ count b =
    ap (λ ns. get_or ns place 0) e ∙ get_or-map count bs place b 0 within ∙ ap count (get_or_from_slice_get bs place b b there) in
    omega (arith, found.within)

-- a block that is below the end is there
pub block-there : (bs : List BlockState) (i : ℕ) → i < length bs → (b : BlockState) × (slice_get bs i ≡ Some b)
block-there [] i h = absurd (omega arith)
block-there (b ∷ bs) zero h = (b, refl)
block-there (b ∷ bs) (suc i) h = block-there bs i (omega arith)

-- the block that it is found in
pub found-there : (count : BlockState → ℕ) (bs : List BlockState) (numbers : List ℕ) (k place rest : ℕ) → numbers ≡ map count bs →
    Finds numbers k place rest → (b : BlockState) × (slice_get bs place ≡ Some b)
found-there count bs numbers k place rest e found = block-there bs place (found-within count bs numbers k place rest e found)

-- the k-th of one kind
kind-kth : (f : BlockId → BlockState → List Step) (count : BlockState → ℕ) → Counts f count →
    (bs : List BlockState) (numbers : List ℕ) (k place rest : ℕ) (b : BlockState) → numbers ≡ map count bs → Finds numbers k place rest →
    slice_get bs place ≡ Some b → slice_get (of_each f 0 bs) k ≡ slice_get (f (record { 0 = place }) b) rest
kind-kth f count counts bs numbers k place rest b e found there =
    each-get f count counts 0 bs k place rest b (ap (λ ns. sum (take place ns) + rest) (sym e) ∙ found.front)
    (found-rest count bs numbers k place rest b e found there) there
    ∙ ap (λ m. slice_get (f (record { 0 = m }) b) rest) (zero-add place)

kind-length : (f : BlockId → BlockState → List Step) (count : BlockState → ℕ) → Counts f count →
    (bs : List BlockState) (numbers : List ℕ) → numbers ≡ map count bs → length (of_each f 0 bs) ≡ sum numbers
kind-length f count counts bs numbers e = each-length f count counts 0 bs ∙ ap sum (sym e)

-- ---- all deliveries

-- the k-th of three lists
get-first : (a b c : List Step) (k : ℕ) → k < length a → slice_get (a ++ b ++ c) k ≡ slice_get a k
get-first a b c k h = get_front (a ++ b) c k (let l = length-append a b in omega arith) ∙ get_front a b k h

get-second : (a b c : List Step) (k : ℕ) → k < length b → slice_get (a ++ b ++ c) (length a + k) ≡ slice_get b k
get-second a b c k h = get_front (a ++ b) c (length a + k) (let l = length-append a b in omega arith) ∙ get_behind a b k

get-third : (a b c : List Step) (k : ℕ) → slice_get (a ++ b ++ c) (length a + length b + k) ≡ slice_get c k
get-third a b c k = ap (λ n. slice_get (a ++ b ++ c) (n + k)) (sym (length-append a b)) ∙ get_behind (a ++ b) c k

module _ (tables : Tables) (bs : List BlockState) (requests heads responses : List ℕ) (counted : AreCounted tables bs requests heads responses) where
  of-requests : length (of_each (requests_enabled tables) 0 bs) ≡ sum requests
  of-requests = kind-length (requests_enabled tables) (free_requests tables) (requests-count tables) bs requests counted.of_requests

  of-heads : length (of_each (heads_in tables) 0 bs) ≡ sum heads
  of-heads = kind-length (heads_in tables) (free_heads tables) (heads-count tables) bs heads counted.of_heads

  of-responses : length (of_each (responses_enabled tables) 0 bs) ≡ sum responses
  of-responses = kind-length (responses_enabled tables) (free_responses tables) (responses-count tables) bs responses counted.of_responses

  pub enabled-count : length (all_enabled tables bs) ≡ sum requests + sum heads + sum responses
  enabled-count =
      length-append (of_each (requests_enabled tables) 0 bs ++ of_each (heads_in tables) 0 bs) (of_each (responses_enabled tables) 0 bs)
      ∙ (let a = length-append (of_each (requests_enabled tables) 0 bs) (of_each (heads_in tables) 0 bs) in
      omega (arith, of-requests, of-heads, of-responses))

  -- the k-th falls in the requests
  pub enabled-request : (k place rest : ℕ) (b : BlockState) → Finds requests k place rest → slice_get bs place ≡ Some b → k < sum requests →
      slice_get (all_enabled tables bs) k ≡ slice_get (requests_enabled tables (record { 0 = place }) b) rest
  enabled-request k place rest b found there below =
      get-first (of_each (requests_enabled tables) 0 bs) (of_each (heads_in tables) 0 bs) (of_each (responses_enabled tables) 0 bs) k
      (omega (arith, of-requests, below))
      ∙ kind-kth (requests_enabled tables) (free_requests tables) (requests-count tables) bs requests k place rest b counted.of_requests found there

  -- in the heads
  pub enabled-head : (k left place rest : ℕ) (b : BlockState) → sum requests + left ≡ k → Finds heads left place rest →
      slice_get bs place ≡ Some b → left < sum heads → slice_get (all_enabled tables bs) k ≡ slice_get (heads_in tables (record { 0 = place }) b) rest
  enabled-head k left place rest b e found there below =
      ap (slice_get (all_enabled tables bs)) (let q : k ≡ length (of_each (requests_enabled tables) 0 bs) + left = omega (arith, of-requests) in q)
      ∙ get-second (of_each (requests_enabled tables) 0 bs) (of_each (heads_in tables) 0 bs) (of_each (responses_enabled tables) 0 bs) left
      (omega (arith, of-heads, below))
      ∙ kind-kth (heads_in tables) (free_heads tables) (heads-count tables) bs heads left place rest b counted.of_heads found there

  -- in the responses
  pub enabled-response : (k left place rest : ℕ) (b : BlockState) → sum requests + sum heads + left ≡ k → Finds responses left place rest →
      slice_get bs place ≡ Some b → slice_get (all_enabled tables bs) k ≡ slice_get (responses_enabled tables (record { 0 = place }) b) rest
  enabled-response k left place rest b e found there =
      ap (slice_get (all_enabled tables bs))
      (let q : k ≡ length (of_each (requests_enabled tables) 0 bs) + length (of_each (heads_in tables) 0 bs) + left =
      omega (arith, of-requests, of-heads) in q)
      ∙ get-third (of_each (requests_enabled tables) 0 bs) (of_each (heads_in tables) 0 bs) (of_each (responses_enabled tables) 0 bs) left
      ∙ kind-kth (responses_enabled tables) (free_responses tables) (responses-count tables) bs responses left place rest b counted.of_responses found there

  -- beyond the end
  pub enabled-none : (k : ℕ) → sum requests + sum heads + sum responses ≤ k → slice_get (all_enabled tables bs) k ≡ None
  enabled-none k past = slice_get_past (all_enabled tables bs) k (omega (arith, enabled-count))

  -- the same, as the step of a place without a mark
  pub enabled-request-step : (k place rest : ℕ) (b : BlockState) → Finds requests k place rest → slice_get bs place ≡ Some b → k < sum requests →
      slice_get (all_enabled tables bs) k ≡
      option_map (λ i. step.Request (record { 0 = place }) i) (slice_get (unmarked 0 (marks_of tables b).requests) rest)
  enabled-request-step k place rest b found there below =
      enabled-request k place rest b found there below ∙ requests-kth tables (record { 0 = place }) b rest

  pub enabled-head-step : (k left place rest : ℕ) (b : BlockState) → sum requests + left ≡ k → Finds heads left place rest →
      slice_get bs place ≡ Some b → left < sum heads → slice_get (all_enabled tables bs) k ≡
      option_map (λ cache. step.Forward (record { 0 = place }) (record { 0 = cache })) (slice_get (unmarked_heads 0 (marks_of tables b).links) rest)
  enabled-head-step k left place rest b e found there below =
      enabled-head k left place rest b e found there below ∙ heads-kth tables (record { 0 = place }) b rest

  pub enabled-response-step : (k left place rest : ℕ) (b : BlockState) → sum requests + sum heads + left ≡ k → Finds responses left place rest →
      slice_get bs place ≡ Some b → slice_get (all_enabled tables bs) k ≡
      option_map (λ i. step.Response (record { 0 = place }) i) (slice_get (unmarked 0 (marks_of tables b).responses) rest)
  enabled-response-step k left place rest b e found there =
      enabled-response k left place rest b e found there ∙ responses-kth tables (record { 0 = place }) b rest

-- ---- one block is replaced

pub row-set : (count : BlockState → ℕ) (bs : List BlockState) (numbers : List ℕ) (n : ℕ) (b : BlockState) → numbers ≡ map count bs →
    slice_set numbers n (count b) ≡ map count (slice_set bs n b)
row-set count bs numbers n b e = ap (λ ns. slice_set ns n (count b)) e ∙ sym (map-set count bs n b)

pub requests-set : (tables : Tables) (bs : List BlockState) (numbers : List ℕ) (n : ℕ) (b : BlockState) → numbers ≡ map (free_requests tables) bs →
    slice_set numbers n (free_requests tables b) ≡ map (free_requests tables) (slice_set bs n b)
requests-set tables = row-set (free_requests tables)

pub heads-set : (tables : Tables) (bs : List BlockState) (numbers : List ℕ) (n : ℕ) (b : BlockState) → numbers ≡ map (free_heads tables) bs →
    slice_set numbers n (free_heads tables b) ≡ map (free_heads tables) (slice_set bs n b)
heads-set tables = row-set (free_heads tables)

pub responses-set : (tables : Tables) (bs : List BlockState) (numbers : List ℕ) (n : ℕ) (b : BlockState) → numbers ≡ map (free_responses tables) bs →
    slice_set numbers n (free_responses tables b) ≡ map (free_responses tables) (slice_set bs n b)
responses-set tables = row-set (free_responses tables)

pub counted-set : (tables : Tables) (bs : List BlockState) (requests heads responses : List ℕ) (n : ℕ) (b : BlockState) →
    AreCounted tables bs requests heads responses →
    AreCounted tables (slice_set bs n b) (slice_set requests n (free_requests tables b)) (slice_set heads n (free_heads tables b))
    (slice_set responses n (free_responses tables b))
counted-set tables bs requests heads responses n b counted = record {
  of_requests = requests-set tables bs requests n b counted.of_requests;
  of_heads = heads-set tables bs heads n b counted.of_heads;
  of_responses = responses-set tables bs responses n b counted.of_responses;
}

-- ---- a broken world, and one that goes on

pub enabled-going : (tables : Tables) (s : State) → s.broken ≡ false → enabled_steps tables s ≡ all_enabled tables s.blocks
enabled-going tables s going = ap (λ h. if h then [] else all_enabled tables s.blocks) going
