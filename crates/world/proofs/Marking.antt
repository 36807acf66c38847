-- What the marks of a block say of its deliveries: they are those of the messages without a mark.
use Rattle.std.proofs.Common.{◌≡◌, ℕ, ◌+◌, List, [], ◌∷◌, ◌++◌, Option, Some}
use Rattle.std.proofs.Common.{None, Bool, true, false, if◌then◌else◌, length, map, get_or, slice_get}
use Rattle.std.proofs.Common.{refl, sym, ap, ◌∙◌, suc, arith, add-zero, zero-add}
use Rattle.std.specs.Option.{option_map}
use Rattle.std.proofs.lemmas.List.{length-map}
use Rattle.std.proofs.lemmas.Option.{slice_get-map}
use Rattle.base.specs.declared.ids.BlockId.{BlockId}
use Rattle.base.specs.declared.ids.CacheId.{CacheId}
use Rattle.base.specs.declared.ids.Place.TheVariants.{Dir, Cache}
use Rattle.base.specs.declared.controller.entry.CellEntry.TheVariants as table_entry
use Rattle.base.specs.declared.step.Step.{Step}
use Rattle.base.specs.declared.step.Step.TheVariants as step
use Rattle.network.specs.declared.message.Request.{Request}
use Rattle.network.specs.declared.message.Forward.{Forward}
use Rattle.network.specs.declared.message.Response.{Response}
use Rattle.network.specs.declared.message.Response.TheVariants.{Data, InvAck, DataExcl}
use Rattle.network.specs.Traffic.{link}
use Rattle.cache_table.specs.Table as cache_table
use Rattle.cache_table.specs.Table.{CacheEntry}
use Rattle.directory_table.specs.Table as directory_table
use Rattle.directory_table.specs.Table.{DirectoryEntry}
use Rattle.control.specs.declared.line.Line.{Line}
use Rattle.control.specs.declared.line.LineInput.{LineInput}
use Rattle.control.specs.declared.line.LineInput.TheVariants as line_input
use Rattle.control.specs.declared.line.LineCompletion.{LineCompletion}
use Rattle.control.specs.declared.line.LineCompletion.TheVariants as done
use Rattle.control.specs.declared.home.HomeInput.{HomeInput}
use Rattle.control.specs.declared.home.HomeInput.TheVariants as home_input
use Rattle.control.specs.LineEvents.{event_at_line}
use Rattle.control.specs.HomeEvents.{event_at_home}
use Rattle.control.specs.LineEffect.{line_completes}
use Rattle.machine.specs.declared.decision.Origin.{Origin}
use Rattle.machine.specs.declared.decision.Origin.TheVariants as origin
use Rattle.tables.specs.Tables.{Tables}
use Rattle.machine.specs.Block.{BlockState}
use Rattle.machine.specs.Transition.{at_line, at_home, at_request, at_forward, at_response, by_line_entry, by_home_entry, carried_out, outcome_of}
use Rattle.blocks.specs.Looks.{is_held, held_in}
use Rattle.world.specs.Enabled.{requests_from, heads_from, responses_from, requests_enabled, heads_in, responses_enabled}
use Rattle.blocks.specs.Marking.{is_stall, home_stalls, line_stalls, response_stalls, links_stall, marks_of, free_requests, free_heads, free_responses}
use Rattle.network.specs.Marks.{unmarked, unmarked_heads}
use Rattle.network.proofs.UnmarkedPlaces.{unmarked-length, unmarked_heads-length}

-- ---- a step is held exactly where its cell is a stall

outcome-moves : (cache : CacheId) (from : Origin) (completion : Option LineCompletion) → is_held (outcome_of cache from completion) ≡ false
outcome-moves cache origin.Core None = refl
outcome-moves cache (origin.Request i) None = refl
outcome-moves cache (origin.Head c) None = refl
outcome-moves cache (origin.Response i) None = refl
outcome-moves cache from (Some (done.Load value)) = refl
outcome-moves cache from (Some (done.Store value)) = refl

held-by_line : (e : CacheEntry) (cache : CacheId) (line : Line) (input : LineInput) (from : Origin) (b : BlockState) →
    is_held (carried_out (by_line_entry e cache line input from) b).outcome ≡ is_stall e
held-by_line table_entry.Blank cache line input from b = refl
held-by_line table_entry.Stall cache line input from b = refl
held-by_line (table_entry.Act next actions) cache line input from b = outcome-moves cache from (line_completes input next line)

held-by_home : (e : DirectoryEntry) (input : HomeInput) (from : Origin) (b : BlockState) →
    is_held (carried_out (by_home_entry e input from) b).outcome ≡ is_stall e
held-by_home table_entry.Blank input from b = refl
held-by_home table_entry.Stall input from b = refl
held-by_home (table_entry.Act next actions) input from b = refl

held-line : (cells : cache_table.Cells) (cache : CacheId) (input : LineInput) (from : Origin) (line : Option Line) (b : BlockState) →
    is_held (carried_out (at_line cells cache input from line) b).outcome ≡ line_stalls cells line input
held-line cells cache input from None b = refl
held-line cells cache input from (Some line) b =
    held-by_line (cache_table.cell cells line.state (event_at_line line.acks input)) cache line input from b

held-home : (tables : Tables) (input : HomeInput) (from : Origin) (b : BlockState) →
    is_held (carried_out (at_home tables.directory input from b.home) b).outcome ≡ home_stalls tables.directory b.home input
held-home tables input from b =
    held-by_home (directory_table.cell tables.directory b.home.state (event_at_home b.home.owner b.home.sharers input)) input from b

pub held-request : (tables : Tables) (block : BlockId) (b : BlockState) (i : ℕ) (r : Request) → slice_get b.traffic.requests i ≡ Some r →
    held_in tables (step.Request block i) b ≡ home_stalls tables.directory b.home (home_input.Request r)
held-request tables block b i r there =
    ap (λ o. is_held (carried_out (at_request tables.directory i b.home o) b).outcome) there
    ∙ held-home tables (home_input.Request r) (origin.Request i) b

pub held-forward : (tables : Tables) (block : BlockId) (b : BlockState) (cache : CacheId) (f : Forward) → slice_get (link b.traffic cache.0) 0 ≡ Some f →
    held_in tables (step.Forward block cache) b ≡ line_stalls tables.cache (slice_get b.lines cache.0) (line_input.Forward f)
held-forward tables block b cache f there =
    ap (λ o. is_held (carried_out (at_forward tables.cache cache b.lines o) b).outcome) there
    ∙ held-line tables.cache cache (line_input.Forward f) (origin.Head cache) (slice_get b.lines cache.0) b

held-receiver : (tables : Tables) (i : ℕ) (b : BlockState) (r : Response) →
    is_held (carried_out (at_response tables i b (Some r)) b).outcome ≡ response_stalls tables b r
held-receiver tables i b (Data from Dir value acks) = held-home tables (home_input.Data value) (origin.Response i) b
held-receiver tables i b (Data from (Cache to) value acks) =
    held-line tables.cache to (line_input.Response (Data from (Cache to) value acks)) (origin.Response i) (slice_get b.lines to.0) b
held-receiver tables i b (InvAck from to) =
    held-line tables.cache to (line_input.Response (InvAck from to)) (origin.Response i) (slice_get b.lines to.0) b
held-receiver tables i b (DataExcl to value) =
    held-line tables.cache to (line_input.Response (DataExcl to value)) (origin.Response i) (slice_get b.lines to.0) b

pub held-response : (tables : Tables) (block : BlockId) (b : BlockState) (i : ℕ) (r : Response) → slice_get b.traffic.responses i ≡ Some r →
    held_in tables (step.Response block i) b ≡ response_stalls tables b r
held-response tables block b i r there =
    ap (λ o. is_held (carried_out (at_response tables i b o) b).outcome) there ∙ held-receiver tables i b r

-- ---- so the deliveries are those of the places without a mark

one-more : (held mark : Bool) (make : ℕ → Step) (i : ℕ) (steps : List Step) (places : List ℕ) → held ≡ mark → steps ≡ map make places →
    (if held then [] else (make i ∷ [])) ++ steps ≡ map make (if mark then places else i ∷ places)
one-more held mark make i steps places same rest =
    ap (λ h. (if h then [] else (make i ∷ [])) ++ steps) same ∙ ap (λ ss. (if mark then [] else (make i ∷ [])) ++ ss) rest ∙ by mark
  where
    by : (mark : Bool) → (if mark then [] else (make i ∷ [])) ++ map make places ≡ map make (if mark then places else i ∷ places)
    by true = refl
    by false = refl

-- the first of a rest stands at the number of those before, and the others behind it
first_of : {X : Type 0} (all : List X) (x : X) (xs : List X) (i : ℕ) → ((j : ℕ) → slice_get (x ∷ xs) j ≡ slice_get all (i + j)) →
    slice_get all i ≡ Some x
first_of all x xs i h = ap (slice_get all) (sym (add-zero i)) ∙ sym (h 0)

rest_of : {X : Type 0} (all : List X) (x : X) (xs : List X) (i : ℕ) → ((j : ℕ) → slice_get (x ∷ xs) j ≡ slice_get all (i + j)) →
    (j : ℕ) → slice_get xs j ≡ slice_get all (i + 1 + j)
rest_of all x xs i h j = h (suc j) ∙ ap (slice_get all) (let e : i + suc j ≡ i + 1 + j = omega arith in e)

requests-from : (tables : Tables) (block : BlockId) (b : BlockState) (i : ℕ) (rs : List Request) →
    ((j : ℕ) → slice_get rs j ≡ slice_get b.traffic.requests (i + j)) → requests_from tables block b i rs ≡
    map (λ i. step.Request block i) (unmarked i (map (λ r. home_stalls tables.directory b.home (home_input.Request r)) rs))
requests-from tables block b i [] h = refl
requests-from tables block b i (r ∷ rs) h =
    one-more (held_in tables (step.Request block i) b) (home_stalls tables.directory b.home (home_input.Request r)) (λ i. step.Request block i) i
    (requests_from tables block b (i + 1) rs) (unmarked (i + 1) (map (λ r. home_stalls tables.directory b.home (home_input.Request r)) rs))
    (held-request tables block b i r (first_of b.traffic.requests r rs i h))
    (requests-from tables block b (i + 1) rs (rest_of b.traffic.requests r rs i h))

pub requests-enabled : (tables : Tables) (block : BlockId) (b : BlockState) →
    requests_enabled tables block b ≡ map (λ i. step.Request block i) (unmarked 0 (marks_of tables b).requests)
requests-enabled tables block b =
    requests-from tables block b 0 b.traffic.requests (λ j. ap (slice_get b.traffic.requests) (sym (zero-add j)))

responses-from : (tables : Tables) (block : BlockId) (b : BlockState) (i : ℕ) (rs : List Response) →
    ((j : ℕ) → slice_get rs j ≡ slice_get b.traffic.responses (i + j)) → responses_from tables block b i rs ≡
    map (λ i. step.Response block i) (unmarked i (map (response_stalls tables b) rs))
responses-from tables block b i [] h = refl
responses-from tables block b i (r ∷ rs) h =
    one-more (held_in tables (step.Response block i) b) (response_stalls tables b r) (λ i. step.Response block i) i
    (responses_from tables block b (i + 1) rs) (unmarked (i + 1) (map (response_stalls tables b) rs))
    (held-response tables block b i r (first_of b.traffic.responses r rs i h))
    (responses-from tables block b (i + 1) rs (rest_of b.traffic.responses r rs i h))

pub responses-enabled : (tables : Tables) (block : BlockId) (b : BlockState) →
    responses_enabled tables block b ≡ map (λ i. step.Response block i) (unmarked 0 (marks_of tables b).responses)
responses-enabled tables block b =
    responses-from tables block b 0 b.traffic.responses (λ j. ap (slice_get b.traffic.responses) (sym (zero-add j)))

-- the step of a link's head
abbrev head : BlockId → ℕ → Step
head block cache = step.Forward block (record { 0 = cache })

heads-from : (tables : Tables) (block : BlockId) (b : BlockState) (cache : ℕ) (ls : List (List Forward)) →
    ((j : ℕ) → get_or ls j [] ≡ get_or b.traffic.links (cache + j) []) → heads_from tables block b cache ls ≡
    map (head block) (unmarked_heads cache (links_stall tables.cache b.lines cache ls))
heads-from tables block b cache [] h = refl
heads-from tables block b cache ([] ∷ ls) h =
    heads-from tables block b (cache + 1) ls
    (λ j. h (suc j) ∙ ap (λ n. get_or b.traffic.links n []) (let e : cache + suc j ≡ cache + 1 + j = omega arith in e))
heads-from tables block b cache ((f ∷ fs) ∷ ls) h =
    let here : f ∷ fs ≡ link b.traffic cache = h 0 ∙ ap (λ n. get_or b.traffic.links n []) (add-zero cache) in
    one-more (held_in tables (head block cache) b) (line_stalls tables.cache (slice_get b.lines cache) (line_input.Forward f)) (head block) cache
    (heads_from tables block b (cache + 1) ls) (unmarked_heads (cache + 1) (links_stall tables.cache b.lines (cache + 1) ls))
    (held-forward tables block b (record { 0 = cache }) f (ap (λ l. slice_get l 0) (sym here)))
    (heads-from tables block b (cache + 1) ls
    (λ j. h (suc j) ∙ ap (λ n. get_or b.traffic.links n []) (let e : cache + suc j ≡ cache + 1 + j = omega arith in e)))

pub heads-enabled : (tables : Tables) (block : BlockId) (b : BlockState) →
    heads_in tables block b ≡ map (λ cache. step.Forward block (record { 0 = cache })) (unmarked_heads 0 (marks_of tables b).links)
heads-enabled tables block b =
    heads-from tables block b 0 b.traffic.links (λ j. ap (λ n. get_or b.traffic.links n []) (sym (zero-add j)))

-- ---- how many they are, and the k-th

pub requests-count : (tables : Tables) (block : BlockId) (b : BlockState) → length (requests_enabled tables block b) ≡ free_requests tables b
requests-count tables block b =
    ap length (requests-enabled tables block b)
    ∙ length-map (unmarked 0 (marks_of tables b).requests) (λ i. step.Request block i)
    ∙ unmarked-length 0 (marks_of tables b).requests

pub heads-count : (tables : Tables) (block : BlockId) (b : BlockState) → length (heads_in tables block b) ≡ free_heads tables b
heads-count tables block b =
    ap length (heads-enabled tables block b)
    ∙ length-map (unmarked_heads 0 (marks_of tables b).links) (head block)
    ∙ unmarked_heads-length 0 (marks_of tables b).links

pub responses-count : (tables : Tables) (block : BlockId) (b : BlockState) → length (responses_enabled tables block b) ≡ free_responses tables b
responses-count tables block b =
    ap length (responses-enabled tables block b)
    ∙ length-map (unmarked 0 (marks_of tables b).responses) (λ i. step.Response block i)
    ∙ unmarked-length 0 (marks_of tables b).responses

pub requests-kth : (tables : Tables) (block : BlockId) (b : BlockState) (k : ℕ) →
    slice_get (requests_enabled tables block b) k ≡ option_map (λ i. step.Request block i) (slice_get (unmarked 0 (marks_of tables b).requests) k)
requests-kth tables block b k =
    ap (λ ss. slice_get ss k) (requests-enabled tables block b)
    ∙ slice_get-map (λ i. step.Request block i) (unmarked 0 (marks_of tables b).requests) k

pub heads-kth : (tables : Tables) (block : BlockId) (b : BlockState) (k : ℕ) →
    slice_get (heads_in tables block b) k ≡
    option_map (λ cache. step.Forward block (record { 0 = cache })) (slice_get (unmarked_heads 0 (marks_of tables b).links) k)
heads-kth tables block b k =
    ap (λ ss. slice_get ss k) (heads-enabled tables block b)
    ∙ slice_get-map (head block) (unmarked_heads 0 (marks_of tables b).links) k

pub responses-kth : (tables : Tables) (block : BlockId) (b : BlockState) (k : ℕ) →
    slice_get (responses_enabled tables block b) k ≡ option_map (λ i. step.Response block i) (slice_get (unmarked 0 (marks_of tables b).responses) k)
responses-kth tables block b k =
    ap (λ ss. slice_get ss k) (responses-enabled tables block b)
    ∙ slice_get-map (λ i. step.Response block i) (unmarked 0 (marks_of tables b).responses) k
