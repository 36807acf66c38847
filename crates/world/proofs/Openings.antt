-- Blocks that are made as they open, one after another.
use Rattle.std.proofs.Common.{◌≡◌, ◌<◌, ◌≤◌, ◌+◌, ℕ, List, [], ◌∷◌, Option, Some, None, IsSome, length, map, replicate, slice_get}
use Rattle.std.proofs.Common.{refl, ap, sym, subst, ◌∙◌, zero, suc, arith, inl, inr, false, Bool}
use Rattle.std.specs.Option.{is_some}
use Rattle.std.proofs.lemmas.Bool.{cases_eq}
use Rattle.std.proofs.lemmas.List.{length-replicate, length-set}
use Rattle.base.specs.Extent.{Extent, IsWithinLimits}
use Rattle.network.specs.Traffic.{quiet}
use Rattle.control.specs.LineEffect.{opened_line}
use Rattle.tables.specs.Tables.{Tables}
use Rattle.machine.specs.Block.{BlockState, opened_block}
use Rattle.blocks.specs.Marking.{free_heads, free_requests, free_responses}
use Rattle.blocks.specs.View.{BlockView}
use Rattle.world.specs.Keeping.{has_line}
use Rattle.world.specs.View.{AllLined, IsShaped, space_of, state_or, states}
use Rattle.world.specs.inner.Counts.{AreCounted, Rows, none_counted}
use Rattle.world.specs.inner.Holding.{kept_at, AreLined, IsOpened, IsWorld, OthersStay}
use Rattle.world.specs.inner.Tests.{IsMarked}
use Rattle.world.proofs.Keeping.{kept-other, shaped-opened, states-length}
use Rattle.world.proofs.QuietMarks.{counted-opened, heads-quiet, marks-quiet, requests-quiet, responses-quiet}

-- the blocks at the first keys are as they open, and no other is kept than before
pub record AreReset (opening keys : List ℕ) (n : ℕ) (old new : List (Option BlockView)) : Type 0 where
  pub count : length new ≡ length old
  pub lined : (caches : ℕ) → AreLined caches old → AreLined caches new
  pub none : (at : ℕ) → kept_at old at ≡ None → kept_at new at ≡ None
  pub done : (caches : ℕ) → AreLined caches old → (j at v : ℕ) → j < n → slice_get keys j ≡ Some at → slice_get opening at ≡ Some v →
      IsOpened caches v (kept_at new at)

pub reset-none : (opening keys : List ℕ) (ks : List (Option BlockView)) → AreReset opening keys 0 ks ks
reset-none opening keys ks = record {
  count = refl;
  lined = λ caches h. h;
  none = λ at e. e;
  done = λ caches h j at v low. absurd (omega arith);
}

opened-lined : (caches v : ℕ) (o : Option BlockView) (k : BlockView) → IsOpened caches v o → o ≡ Some k → length k.state.lines ≡ caches
opened-lined caches v None k h e = absurd (cc e)
opened-lined caches v (Some x) k h e =
    let same : x ≡ k = cc e in
    ap (λ (y : BlockView). length y.state.lines) (sym same) ∙ ap (λ (b : BlockState). length b.lines) h.state ∙ length-replicate caches opened_line

-- one more was made as it opens
pub reset-more : (opening keys : List ℕ) (n number value : ℕ) (old mid new : List (Option BlockView)) → AreReset opening keys n old mid →
    slice_get keys n ≡ Some number → slice_get opening number ≡ Some value → OthersStay number mid new →
    (kept_at mid number ≡ None → kept_at new number ≡ None) →
    ((caches : ℕ) → AreLined caches mid → IsOpened caches value (kept_at new number)) → AreReset opening keys (n + 1) old new
reset-more opening keys n number value old mid new h key is others none here = record {
  count = ap length others.items ∙ length-set mid number (kept_at new number) ∙ h.count;
  lined = λ caches l i k e. elim (cases_eq i number) [
    | inl same ↦ opened-lined caches value (kept_at new number) k (here caches (h.lined caches l)) (ap (kept_at new) (sym same) ∙ e)
    | inr other ↦ h.lined caches l i k (sym (kept-other mid new number i others other) ∙ e)
  ];
  none = λ at e. elim (cases_eq at number) [
    | inl same ↦ ap (kept_at new) same ∙ none (ap (kept_at mid) (sym same) ∙ h.none at e)
    | inr other ↦ kept-other mid new number at others other ∙ h.none at e
  ];
  done = λ caches l j at v low e o. elim (cases_eq at number) [
    | inl same ↦
        let found : Some v ≡ Some value = sym o ∙ ap (slice_get opening) same ∙ is in
        let one : v ≡ value = cc found in
        subst (λ i. IsOpened caches v (kept_at new i)) (sym same)
        (subst (λ w. IsOpened caches w (kept_at new number)) (sym one) (here caches (h.lined caches l)))
    | inr other ↦
        let earlier : j < n = elim (cases_eq j n) [
          | inl last ↦
              let found : Some at ≡ Some number = sym e ∙ ap (slice_get keys) last ∙ key in
              absurd (other (cc found))
          | inr before ↦ omega (arith, low, before)
        ] in
        subst (IsOpened caches v) (sym (kept-other mid new number at others other)) (h.done caches l j at v earlier e o)
  ];
}

-- a key without an opening value is passed over
pub reset-past : (opening keys : List ℕ) (n number : ℕ) (old new : List (Option BlockView)) → AreReset opening keys n old new →
    slice_get keys n ≡ Some number → slice_get opening number ≡ None → AreReset opening keys (n + 1) old new
reset-past opening keys n number old new h key past = record {
  count = h.count;
  lined = h.lined;
  none = h.none;
  done = λ caches l j at v low e o. elim (cases_eq j n) [
    | inl last ↦
        let found : Some at ≡ Some number = sym e ∙ ap (slice_get keys) last ∙ key in
        let same : at ≡ number = cc found in
        let wrong : Some v ≡ None = sym o ∙ ap (slice_get opening) same ∙ past in
        absurd (cc wrong)
    | inr before ↦ h.done caches l j at v (omega (arith, low, before)) e o
  ];
}

pub get-below : (keys : List ℕ) (j at : ℕ) → slice_get keys j ≡ Some at → j < length keys
get-below [] j at e = absurd (cc e)
get-below (k ∷ keys) zero at e = omega arith
get-below (k ∷ keys) (suc j) at e = omega (arith, get-below keys j at e)

at-none : (caches v : ℕ) (ks : List (Option BlockView)) (i : ℕ) → kept_at ks i ≡ None → IsOpened caches v (kept_at ks i)
at-none caches v ks i e = subst (IsOpened caches v) (sym e) (record { state = refl; marks = tt; lines = λ cache. refl })

-- all that are kept were made as they open
pub reset-all : (opening keys : List ℕ) (n caches : ℕ) (old new : List (Option BlockView)) → AreReset opening keys n old new → length keys ≤ n →
    ((at : ℕ) → IsSome (kept_at old at) → (j : ℕ) × (slice_get keys j ≡ Some at)) → AreLined caches old →
    (i v : ℕ) → slice_get opening i ≡ Some v → IsOpened caches v (kept_at new i)
reset-all opening keys n caches old new h end all l i v e = by (kept_at old i) refl
  where
    by : (o : Option BlockView) → kept_at old i ≡ o → IsOpened caches v (kept_at new i)
    by None is = at-none caches v new i (h.none i is)
    by (Some k) is =
        let found = all i (ap is_some is) in
        h.done caches l found.0 i v (omega (arith, end, get-below keys found.0 i found.1)) found.1 e

-- and none of them keeps a line
pub lines-reset : (opening : List ℕ) (caches : ℕ) (ks : List (Option BlockView)) → length ks ≡ length opening →
    ((i v : ℕ) → slice_get opening i ≡ Some v → IsOpened caches v (kept_at ks i)) → (i cache : ℕ) → has_line (space_of (kept_at ks i)) cache ≡ false
lines-reset [] caches [] e h i cache = refl
lines-reset (v ∷ opening) caches (k ∷ ks) e h zero cache = (h zero v refl).lines cache
lines-reset (v ∷ opening) caches (k ∷ ks) e h (suc i) cache = lines-reset opening caches ks (omega (arith, e)) (λ j w f. h (suc j) w f) i cache
lines-reset [] caches (k ∷ ks) e h i cache = absurd (omega (arith, e))
lines-reset (v ∷ opening) caches [] e h i cache = absurd (omega (arith, e))

-- the states of blocks that are as they open
pub states-reset : (caches : ℕ) (values : List ℕ) (ks : List (Option BlockView)) →
    ((i v : ℕ) → slice_get values i ≡ Some v → IsOpened caches v (kept_at ks i)) → states caches values ks ≡ map (opened_block caches) values
states-reset caches [] ks h = refl
states-reset caches (v ∷ values) [] h =
    ap (λ bs. opened_block caches v ∷ bs) (states-reset caches values [] (λ i w e. h (suc i) w e))
states-reset caches (v ∷ values) (k ∷ ks) h =
    ap (λ b. b ∷ states caches values ks) (h zero v refl).state
    ∙ ap (λ bs. opened_block caches v ∷ bs) (states-reset caches values ks (λ i w e. h (suc i) w e))

marked-opened : (tables : Tables) (caches v : ℕ) (o : Option BlockView) → IsOpened caches v o → IsMarked tables o
marked-opened tables caches v None h = tt
marked-opened tables caches v (Some k) h =
    h.marks ∙ sym (marks-quiet tables k.state caches (ap (λ (b : BlockState). b.traffic) h.state))

marked-reset : (tables : Tables) (caches : ℕ) (values : List ℕ) (ks : List (Option BlockView)) → length ks ≡ length values →
    ((i v : ℕ) → slice_get values i ≡ Some v → IsOpened caches v (kept_at ks i)) → (i : ℕ) → IsMarked tables (kept_at ks i)
marked-reset tables caches [] [] e h i = tt
marked-reset tables caches (v ∷ values) (k ∷ ks) e h zero = marked-opened tables caches v k (h zero v refl)
marked-reset tables caches (v ∷ values) (k ∷ ks) e h (suc i) = marked-reset tables caches values ks (omega (arith, e)) (λ j w f. h (suc j) w f) i
marked-reset tables caches [] (k ∷ ks) e h i = absurd (omega (arith, e))
marked-reset tables caches (v ∷ values) [] e h i = absurd (omega (arith, e))

-- a world whose blocks are as they open holds together
pub world-reset : (shape : Extent) (tables : Tables) (values : List ℕ) (ks : List (Option BlockView)) (rows : Rows) → IsWithinLimits shape →
    length values ≡ shape.blocks → length ks ≡ shape.blocks →
    ((i v : ℕ) → slice_get values i ≡ Some v → IsOpened shape.caches v (kept_at ks i)) → rows ≡ none_counted shape.blocks →
    IsWorld shape tables values ks rows (record { blocks = states shape.caches values ks; broken = false })
world-reset shape tables values ks rows within e places h counts =
    let opened = states-reset shape.caches values ks h in
    record {
      shaped = subst (λ (bs : List BlockState). IsShaped shape (record { blocks = bs; broken = false })) (sym opened)
          (shaped-opened shape values false within e);
      opening = e;
      places = places;
      marked = marked-reset tables shape.caches values ks (places ∙ sym e) h;
      counted =
          rw counts
          (subst (λ (bs : List BlockState). AreCounted tables bs (replicate shape.blocks 0) (replicate shape.blocks 0) (replicate shape.blocks 0)) (sym opened)
          (counted-opened tables shape.caches shape.blocks values e));
    }

-- each block that is kept has the lines of the shape
pub lined : (caches : ℕ) (values : List ℕ) (ks : List (Option BlockView)) → length ks ≡ length values → AllLined caches (states caches values ks) →
    AreLined caches ks
lined caches [] [] e h i k is = absurd (cc is)
lined caches (v ∷ values) (o ∷ ks) e h zero k is = ap (λ (x : Option BlockView). length (state_or caches v x).lines) (sym is) ∙ h.0
lined caches (v ∷ values) (o ∷ ks) e h (suc i) k is = lined caches values ks (omega (arith, e)) h.1 i k is
lined caches [] (o ∷ ks) e h i k is = absurd (omega (arith, e))
lined caches (v ∷ values) [] e h i k is = absurd (omega (arith, e))

-- what is kept has its lines with any opening values
lines-valued : (caches : ℕ) (values other : List ℕ) (ks : List (Option BlockView)) → length other ≡ length values →
    AllLined caches (states caches values ks) → AllLined caches (states caches other ks)
lines-valued caches [] [] ks e h = tt
lines-valued caches (v ∷ values) (w ∷ other) [] e h =
    (length-replicate caches opened_line, lines-valued caches values other [] (omega (arith, e)) h.1)
lines-valued caches (v ∷ values) (w ∷ other) (None ∷ ks) e h =
    (length-replicate caches opened_line, lines-valued caches values other ks (omega (arith, e)) h.1)
lines-valued caches (v ∷ values) (w ∷ other) (Some k ∷ ks) e h = (h.0, lines-valued caches values other ks (omega (arith, e)) h.1)
lines-valued caches [] (w ∷ other) ks e h = absurd (omega (arith, e))
lines-valued caches (v ∷ values) [] ks e h = absurd (omega (arith, e))

-- and as much is counted, since nothing is where a block opens
counts-valued : (count : BlockState → ℕ) (caches : ℕ) (values other : List ℕ) (ks : List (Option BlockView)) →
    ((b : BlockState) → b.traffic ≡ quiet caches → count b ≡ 0) → length other ≡ length values →
    map count (states caches values ks) ≡ map count (states caches other ks)
counts-valued count caches [] [] ks none e = refl
counts-valued count caches (v ∷ values) (w ∷ other) [] none e =
    ap (λ n. n ∷ map count (states caches values [])) (none (opened_block caches v) refl ∙ sym (none (opened_block caches w) refl))
    ∙ ap (λ (ns : List ℕ). count (opened_block caches w) ∷ ns) (counts-valued count caches values other [] none (omega (arith, e)))
counts-valued count caches (v ∷ values) (w ∷ other) (None ∷ ks) none e =
    ap (λ n. n ∷ map count (states caches values ks)) (none (opened_block caches v) refl ∙ sym (none (opened_block caches w) refl))
    ∙ ap (λ (ns : List ℕ). count (opened_block caches w) ∷ ns) (counts-valued count caches values other ks none (omega (arith, e)))
counts-valued count caches (v ∷ values) (w ∷ other) (Some k ∷ ks) none e =
    ap (λ (ns : List ℕ). count k.state ∷ ns) (counts-valued count caches values other ks none (omega (arith, e)))
counts-valued count caches [] (w ∷ other) ks none e = absurd (omega (arith, e))
counts-valued count caches (v ∷ values) [] ks none e = absurd (omega (arith, e))

-- a world holds together with any opening values, if there are as many
pub world-valued : (shape : Extent) (tables : Tables) (values other : List ℕ) (ks : List (Option BlockView)) (rows : Rows) (broken : Bool) →
    IsWorld shape tables values ks rows (record { blocks = states shape.caches values ks; broken = broken }) → length other ≡ length values →
    IsWorld shape tables other ks rows (record { blocks = states shape.caches other ks; broken = broken })
world-valued shape tables values other ks rows broken h e = record {
  shaped = record {
    within = h.shaped.within;
    blocks = states-length shape.caches other ks ∙ e ∙ h.opening;
    lines = lines-valued shape.caches values other ks e h.shaped.lines;
  };
  opening = e ∙ h.opening;
  places = h.places;
  marked = h.marked;
  counted = record {
    of_requests = h.counted.of_requests ∙ same (free_requests tables) (λ b q. requests-quiet tables b shape.caches q);
    of_heads = h.counted.of_heads ∙ same (free_heads tables) (λ b q. heads-quiet tables b shape.caches q);
    of_responses = h.counted.of_responses ∙ same (free_responses tables) (λ b q. responses-quiet tables b shape.caches q);
  };
}
  where
    same : (count : BlockState → ℕ) → ((b : BlockState) → b.traffic ≡ quiet shape.caches → count b ≡ 0) →
        map count (states shape.caches values ks) ≡ map count (states shape.caches other ks)
    same count none = counts-valued count shape.caches values other ks none e
