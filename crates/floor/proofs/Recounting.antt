-- What is counted stays right where one block is counted again behind a step.
use Rattle.std.proofs.Common.{◌≡◌, ◌<◌, ◌+◌, ℕ, zero, suc, List, [], ◌∷◌, Option, Some, None, Bool, true, false}
use Rattle.std.proofs.Common.{if◌then◌else◌, length, map, filter, slice_get, slice_set, replicate, All, IsSome}
use Rattle.std.proofs.Common.{refl, sym, ap, ◌∙◌, arith, zero-add, subst}
use Rattle.std.proofs.lemmas.List.{length-set}
use Rattle.std.proofs.lemmas.List.Sums.{length-filter}
use Rattle.std.proofs.lemmas.List.Elements.{All-get_or}
use Rattle.std.proofs.lemmas.Option.{get_or_from_slice_get}
use Rattle.base.specs.Extent.{Extent}
use Rattle.base.specs.Steps.{block_of}
use Rattle.base.specs.declared.ids.BlockId.{BlockId}
use Rattle.base.specs.declared.step.Step.{Step}
use Rattle.tables.specs.Tables.{Tables}
use Rattle.machine.specs.Block.{BlockState, opened_block}
use Rattle.machine.specs.Machine.{State, Next, next, next_at}
use Rattle.base.specs.declared.step.Outcome.TheVariants.{Broken}
use Rattle.machine.specs.Transition.{transition}
use Rattle.machine.proofs.Places.{slice_get-set_same, some-same}
use Rattle.world.specs.declared.counts.DeliveryKind.{DeliveryKind}
use Rattle.world.specs.declared.counts.DeliveryKind.TheVariants as kind
use Rattle.world.specs.Enabled.{enabled_at_block, heads_from, kind_enabled, kind_found}
use Rattle.world.specs.View.{View}
use Rattle.world.specs.inner.Counts.{Rows, row_of_kind, none_counted}
use Rattle.floor.specs.Belonging.{belongs}
use Rattle.floor.specs.inner.Keeping.{Advances}
use Rattle.floor.specs.inner.Sharing.{AreCountedFor, AreRecounted, AreShared, belongs_in, lengths_from, ready_at, recounted, share}
use Rattle.machine.specs.declared.made.Made.{Made}
use Rattle.record.specs.View.{RecordingView}
use Rattle.trials.specs.Making.{StartsUnder}
use Rattle.trials.specs.Terms.{Terms}
use Rattle.floor.proofs.Sharing.{lengths-length, lengths-set, ready-there}

-- ---- a step changes one block at most

-- what was at a place, written there again, changes nothing
set-again : {X : Type 0} (xs : List X) (n : ℕ) (x : X) → slice_get xs n ≡ Some x → xs ≡ slice_set xs n x
set-again [] n x e = refl
set-again (y ∷ ys) zero x e = (let same : y ≡ x = cc in ap (λ z. z ∷ ys) same)
set-again (y ∷ ys) (suc n) x e = ap (λ zs. y ∷ zs) (set-again ys n x e)

-- where something is, the list goes on beyond it
pub get-below : {X : Type 0} (xs : List X) (n : ℕ) (x : X) → slice_get xs n ≡ Some x → n < length xs
get-below [] n x e = absurd (cc)
get-below (y ∷ ys) zero x e = omega arith
get-below (y ∷ ys) (suc n) x e = let h = get-below ys n x e in omega (arith, h)

-- the block of a step behind it, and all others as they were
abbrev Changed : State → ℕ → State → Type 0
Changed old n new = (b : BlockState) → slice_get new.blocks n ≡ Some b → new.blocks ≡ slice_set old.blocks n b

abbrev Unchanged : State → ℕ → State → Type 0
Unchanged old n new = slice_get new.blocks n ≡ None → new.blocks ≡ old.blocks

changed-at : (tables : Tables) (s : State) (x : Step) (found : Option BlockState) → slice_get s.blocks (block_of x) ≡ found →
    Changed s (block_of x) (next_at tables s x found).state × Unchanged s (block_of x) (next_at tables s x found).state
changed-at tables s x None e = ((λ b at. absurd (cc (e, at))), (λ at. refl))
changed-at tables s x (Some old) e =
    let here : slice_get (slice_set s.blocks (block_of x) (transition tables x old).block) (block_of x) ≡ Some (transition tables x old).block =
    slice_get-set_same s.blocks (block_of x) (transition tables x old).block (get-below s.blocks (block_of x) old e) in (
      (λ b at. ap (slice_set s.blocks (block_of x)) (some-same (transition tables x old).block b (sym here ∙ at))),
      (λ at. absurd (cc (here, at))),
    )

-- a step of a broken state, and one of a state that isn't
next-broken : (tables : Tables) (s : State) (x : Step) → s.broken ≡ true → record { state = s; outcome = Broken } ≡ next tables s x
next-broken tables s x e =
    ap (λ (h : Bool). if h then record { state = s; outcome = Broken } else next_at tables s x (slice_get s.blocks (block_of x))) (sym e)

next-going : (tables : Tables) (s : State) (x : Step) → s.broken ≡ false → next_at tables s x (slice_get s.blocks (block_of x)) ≡ next tables s x
next-going tables s x e =
    ap (λ (h : Bool). if h then record { state = s; outcome = Broken } else next_at tables s x (slice_get s.blocks (block_of x))) (sym e)

abbrev BothAt : State → ℕ → Next → Type 0
BothAt s n m = Changed s n m.state × Unchanged s n m.state

changed-by : (tables : Tables) (s : State) (x : Step) → BothAt s (block_of x) (next tables s x)
changed-by tables s x = by s.broken refl
  where
    by : (broken : Bool) → s.broken ≡ broken → BothAt s (block_of x) (next tables s x)
    by true e = subst (BothAt s (block_of x)) (next-broken tables s x e) ((λ b at. set-again s.blocks (block_of x) b at), (λ at. refl))
    by false e = subst (BothAt s (block_of x)) (next-going tables s x e) (changed-at tables s x (slice_get s.blocks (block_of x)) refl)

-- ---- counts behind a step

module _ (seats : ℕ) (old new : View) (n : ℕ) (shape : new.shape ≡ old.shape) (tables : new.tables ≡ old.tables) where
  -- what is counted for a seat of a kind at a block that is there
  share-there : (seat : ℕ) (k : DeliveryKind) (b : BlockState) → slice_get new.state.blocks n ≡ Some b →
      share seats new seat k (record { 0 = n }) ≡ length (ready_at seats old.shape.caches old.tables seat k (record { 0 = n }) b)
  share-there seat k b there =
      sym (length-filter (λ x. belongs seats new.shape.caches new.state seat x) (enabled_at_block new.tables k new.state (record { 0 = n })))
      ∙ ap (λ o. length (filter (λ x. belongs seats new.shape.caches new.state seat x) (kind_found new.tables k (record { 0 = n }) o))) there
      ∙ ap length (ready-there seats new.shape.caches new.tables new.state seat k n b there)
      ∙ ap (λ (x : Extent). length (ready_at seats x.caches new.tables seat k (record { 0 = n }) b)) shape
      ∙ ap (λ (t : Tables). length (ready_at seats old.shape.caches t seat k (record { 0 = n }) b)) tables

  row-again : (seat : ℕ) (k : DeliveryKind) (b : BlockState) (row : List ℕ) → slice_get new.state.blocks n ≡ Some b →
      new.state.blocks ≡ slice_set old.state.blocks n b →
      row ≡ lengths_from (ready_at seats old.shape.caches old.tables seat k) 0 old.state.blocks →
      slice_set row n (share seats new seat k (record { 0 = n })) ≡ lengths_from (ready_at seats new.shape.caches new.tables seat k) 0 new.state.blocks
  row-again seat k b row there changed is =
      ap (λ ns. slice_set ns n (share seats new seat k (record { 0 = n }))) is
      ∙ ap (slice_set (lengths_from (ready_at seats old.shape.caches old.tables seat k) 0 old.state.blocks) n)
      (share-there seat k b there
      ∙ ap (λ m. length (ready_at seats old.shape.caches old.tables seat k (record { 0 = m }) b)) (sym (zero-add n)))
      ∙ lengths-set (ready_at seats old.shape.caches old.tables seat k) 0 old.state.blocks n b
      ∙ ap (lengths_from (ready_at seats old.shape.caches old.tables seat k) 0) (sym changed)
      ∙ ap (λ (x : Extent). lengths_from (ready_at seats x.caches old.tables seat k) 0 new.state.blocks) (sym shape)
      ∙ ap (λ (t : Tables). lengths_from (ready_at seats new.shape.caches t seat k) 0 new.state.blocks) (sym tables)

  rows-again : (seat : ℕ) (b : BlockState) (rows : Rows) → slice_get new.state.blocks n ≡ Some b → new.state.blocks ≡ slice_set old.state.blocks n b →
      AreCountedFor seats old.shape.caches old.tables old.state.blocks seat rows →
      AreCountedFor seats new.shape.caches new.tables new.state.blocks seat (recounted seats new seat (record { 0 = n }) rows)
  rows-again seat b rows there changed h kind.Request = row-again seat kind.Request b rows.requests there changed (h kind.Request)
  rows-again seat b rows there changed h kind.Head = row-again seat kind.Head b rows.heads there changed (h kind.Head)
  rows-again seat b rows there changed h kind.Response = row-again seat kind.Response b rows.responses there changed (h kind.Response)

  -- where the block isn't there, nothing has changed
  rows-same : (seat : ℕ) (rows : Rows) → new.state.blocks ≡ old.state.blocks →
      AreCountedFor seats old.shape.caches old.tables old.state.blocks seat rows →
      AreCountedFor seats new.shape.caches new.tables new.state.blocks seat rows
  rows-same seat rows same h k =
      h k
      ∙ ap (lengths_from (ready_at seats old.shape.caches old.tables seat k) 0) (sym same)
      ∙ ap (λ (x : Extent). lengths_from (ready_at seats x.caches old.tables seat k) 0 new.state.blocks) (sym shape)
      ∙ ap (λ (t : Tables). lengths_from (ready_at seats new.shape.caches t seat k) 0 new.state.blocks) (sym tables)

-- there is an element wherever the list goes
pub get-there : {X : Type 0} (xs : List X) (n : ℕ) → n < length xs → (x : X) × (slice_get xs n ≡ Some x)
get-there [] n h = absurd (omega arith)
get-there (x ∷ xs) zero h = (x, refl)
get-there (x ∷ xs) (suc n) h = get-there xs n (omega arith)

-- the counts of all seats are right again, once the block of a step is counted again behind it
pub shared_again : (seats : ℕ) (old new : View) (x : Step) (shares shares' : List Rows) →
    new.shape ≡ old.shape → new.tables ≡ old.tables → new.state ≡ (next old.tables old.state x).state →
    AreShared seats old shares →
    ((b : BlockState) → slice_get new.state.blocks (block_of x) ≡ Some b → AreRecounted seats new (record { 0 = block_of x }) shares shares') →
    (slice_get new.state.blocks (block_of x) ≡ None → shares' ≡ shares) →
    AreShared seats new shares'
shared_again seats old new x shares shares' shape tables state h there absent = by (slice_get new.state.blocks (block_of x)) refl
  where
    changed : Changed old.state (block_of x) new.state × Unchanged old.state (block_of x) new.state
    changed = subst (λ (s : State). Changed old.state (block_of x) s × Unchanged old.state (block_of x) s) (sym state) (changed-by old.tables old.state x)

    by : (found : Option BlockState) → slice_get new.state.blocks (block_of x) ≡ found → AreShared seats new shares'
    by None e =
        subst (AreShared seats new) (sym (absent e)) (record {
          count = h.count;
          each = λ seat rows at. rows-same seats old new (block_of x) shape tables seat rows (changed.1 e) (h.each seat rows at);
        })
    by (Some b) e =
        let again = there b e in
        record {
          count = again.count ∙ h.count;
          each = λ seat rows at.
              let within : seat < length shares = (let l = get-below shares' seat rows at in let c = again.count in omega (arith, l, c)) in
              let before = get-there shares seat within in
              subst (AreCountedFor seats new.shape.caches new.tables new.state.blocks seat)
              (some-same (recounted seats new seat (record { 0 = block_of x }) before.0) rows (sym (again.each seat before.0 before.1) ∙ at))
              (rows-again seats old new (block_of x) shape tables seat b before.0 e (changed.0 b e) (h.each seat before.0 before.1));
        }

-- the same of a hall whose world has advanced
pub shared_behind : (f seats : ℕ) (old new : View) (before after : RecordingView) (who : ℕ) (x : Step) (made : Made) (block : BlockId)
    (shares shares' : List Rows) → seats ≡ f → block.0 ≡ block_of x → Advances old new before after who x made → AreShared f old shares →
    (IsSome (slice_get new.state.blocks block.0) → AreRecounted seats new block shares shares') →
    (slice_get new.state.blocks block.0 ≡ None → shares' ≡ shares) → AreShared f new shares'
shared_behind f seats old new before after who x made block shares shares' many is a h there absent =
    shared_again f old new x shares shares' a.shape a.tables a.told.state h
    (λ b at. subst (λ n. AreRecounted n new (record { 0 = block_of x }) shares shares') many
    (subst (λ (n : ℕ). AreRecounted seats new (record { 0 = n }) shares shares') is
    (there (subst IsSome (sym (ap (slice_get new.state.blocks) is ∙ at)) refl))))
    (λ none. absent (ap (slice_get new.state.blocks) is ∙ none))

-- a step leaves as many blocks as there are
next-length : (tables : Tables) (s : State) (x : Step) → length (next tables s x).state.blocks ≡ length s.blocks
next-length tables s x = by s.broken refl
  where
    at : (found : Option BlockState) → length (next_at tables s x found).state.blocks ≡ length s.blocks
    at None = refl
    at (Some b) = length-set s.blocks (block_of x) (transition tables x b).block

    by : (broken : Bool) → s.broken ≡ broken → length (next tables s x).state.blocks ≡ length s.blocks
    by true e = ap (λ (m : Next). length m.state.blocks) (sym (next-broken tables s x e))
    by false e = ap (λ (m : Next). length m.state.blocks) (sym (next-going tables s x e)) ∙ at (slice_get s.blocks (block_of x))

-- each row is as long as there are blocks, in a world that has advanced too
pub level_behind : (f : ℕ) (old new : View) (before after : RecordingView) (who : ℕ) (x : Step) (made : Made) (shares : List Rows) →
    Advances old new before after who x made → AreShared f old shares →
    (n : ℕ) (rows : Rows) → slice_get shares n ≡ Some rows → length rows.requests ≡ length new.state.blocks
level_behind f old new before after who x made shares a h n rows at =
    ap length (h.each n rows at kind.Request)
    ∙ lengths-length (ready_at f old.shape.caches old.tables n kind.Request) 0 old.state.blocks
    ∙ sym (ap (λ (s : State). length s.blocks) a.told.state ∙ next-length old.tables old.state x)

-- ---- before the first step

no-heads : (tables : Tables) (block : BlockId) (b : BlockState) (i caches : ℕ) → heads_from tables block b i (replicate caches []) ≡ []
no-heads tables block b i zero = refl
no-heads tables block b i (suc n) = no-heads tables block b (i + 1) n

none-opened : (tables : Tables) (k : DeliveryKind) (block : BlockId) (caches value : ℕ) → kind_enabled tables k block (opened_block caches value) ≡ []
none-opened tables kind.Request block caches value = refl
none-opened tables kind.Head block caches value = no-heads tables block (opened_block caches value) 0 caches
none-opened tables kind.Response block caches value = refl

lengths-opened : (seats caches : ℕ) (tables : Tables) (seat : ℕ) (k : DeliveryKind) (i : ℕ) (values : List ℕ) →
    replicate (length values) 0 ≡ lengths_from (ready_at seats caches tables seat k) i (map (opened_block caches) values)
lengths-opened seats caches tables seat k i [] = refl
lengths-opened seats caches tables seat k i (v ∷ values) =
    ap (λ ns. 0 ∷ ns) (lengths-opened seats caches tables seat k (i + 1) values)
    ∙ (let rest : List ℕ = lengths_from (ready_at seats caches tables seat k) (i + 1) (map (opened_block caches) values) in
    ap (λ xs. length (filter (belongs_in seats caches seat (opened_block caches v)) xs) ∷ rest) (sym (none-opened tables k (record { 0 = i }) caches v)))

-- before the first step nothing is ready for anybody
pub shared_first : (seats : ℕ) (setup : Terms) (world : View) (shares : List Rows) → StartsUnder setup world →
    length shares ≡ seats → All (λ rows. rows ≡ none_counted (length setup.opening)) shares → AreShared seats world shares
shared_first seats setup world shares starts count none = record {
  count = count;
  each = λ seat rows at k. row k rows (none-at shares seat rows none at) ∙ zeros k seat;
}
  where
    blocks : ℕ
    blocks = length setup.opening

    none-at : (xs : List Rows) (n : ℕ) (x : Rows) → All (λ rows. rows ≡ none_counted blocks) xs → slice_get xs n ≡ Some x → x ≡ none_counted blocks
    none-at xs n x h at =
        subst (λ (r : Rows). r ≡ none_counted blocks) (get_or_from_slice_get xs n x x at)
        (All-get_or (λ rows. rows ≡ none_counted blocks) xs n x (get-below xs n x at) h)

    row : (k : DeliveryKind) (rows : Rows) → rows ≡ none_counted blocks → row_of_kind rows k ≡ replicate blocks 0
    row kind.Request rows e = ap (λ (r : Rows). r.requests) e
    row kind.Head rows e = ap (λ (r : Rows). r.heads) e
    row kind.Response rows e = ap (λ (r : Rows). r.responses) e

    zeros : (k : DeliveryKind) (seat : ℕ) → replicate blocks 0 ≡ lengths_from (ready_at seats world.shape.caches world.tables seat k) 0 world.state.blocks
    zeros k seat =
        let opened : List BlockState = map (opened_block setup.shape.caches) setup.opening in
        lengths-opened seats setup.shape.caches world.tables seat k 0 setup.opening
        ∙ ap (λ (x : Extent). lengths_from (ready_at seats x.caches world.tables seat k) 0 opened) (sym starts.shape)
        ∙ ap (λ (s : State). lengths_from (ready_at seats world.shape.caches world.tables seat k) 0 s.blocks) (sym starts.state)
