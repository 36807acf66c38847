-- The rule of the word: what a token has drawn, and what a step tells it. For private clauses.
use Rattle.std.specs.Prelude.{◌≡◌, ℕ, ◌+◌, ◌<◌, ◌≤◌, ◌^◌, min, List, [], ◌∷◌, ◌++◌, length, slice_index, nat_lt, ◌||◌, if◌then◌else◌, true, false, not}
use mathlib.Core.Option.{some}
use lib.ListN.{get_elem?}
use Rattle.atomic_table.specs.Table.{State, Me, Step}
use Rattle.atomic_table.specs.Seated.{TableId}
use Rattle.desk.specs.declared.word.WordTokenView.{WordTokenView}
use Rattle.desk.specs.declared.word.Size.{Size}
use Rattle.desk.specs.Counting.{times, once_below}

-- the sum of this over all tokens
abbrev pub total : (WordTokenView → ℕ) → List WordTokenView → ℕ
total f [] = 0
total f (v ∷ vs) = f v + total f vs

-- a token with so many parts, which has drawn nothing
abbrev pub fresh : ℕ → ℕ → WordTokenView
fresh parts count = record { parts = parts; count = count; drawn = []; over = false }

-- a token is of the table with this id, which has one word, and has taken no slot
pub record IsTokenOf (word mine : TableId) (me : Me (Unit {0}) WordTokenView) : Type 0 where
  pub table : mine ≡ word
  pub one : word.words ≡ 1
  pub free : me.1 ≡ []

-- nothing was drawn with such a token, and it has a part to give
pub record CanBeDealt (word mine : TableId) (me : Me (Unit {0}) WordTokenView) : Type 0 where
  pub of_word : IsTokenOf word mine me
  pub unused : me.0 ≡ fresh me.0.parts me.0.count
  pub some : 0 < me.0.parts

-- such a token may draw one of so many numbers: it has a part, and wasn't told that there are no more
pub record CanDraw (word mine : TableId) (size : Size) (me : Me (Unit {0}) WordTokenView) (count : ℕ) : Type 0 where
  pub of_word : IsTokenOf word mine me
  pub count_is : me.0.count ≡ size.count
  pub given : count ≡ me.0.count
  pub part : 0 < me.0.parts
  pub small : size.count + size.parts < 2 ^ 64
  pub on : me.0.over ≡ false

-- the token has drawn this number, one of so many and above all that it had drawn
pub record DrawsNumber (old : Me (Unit {0}) WordTokenView) (number count : ℕ) (new : Me (Unit {0}) WordTokenView) : Type 0 where
  pub draws : new ≡ (record { parts = old.0.parts; count = old.0.count; drawn = old.0.drawn ++ number ∷ []; over = false }, [])
  pub within : number < count
  pub rises : (x : ℕ) → 0 < times x old.0.drawn → x < number

-- the token was told that there are no more
abbrev pub IsToldOver : Me (Unit {0}) WordTokenView → Me (Unit {0}) WordTokenView → Type 0
IsToldOver old new = new ≡ (record { parts = old.0.parts; count = old.0.count; drawn = old.0.drawn; over = true }, [])

-- such a token has every part of a word of this size
pub record HasEveryPart (word mine : TableId) (size : Size) (me : Me (Unit {0}) WordTokenView) : Type 0 where
  pub of_word : IsTokenOf word mine me
  pub count_is : me.0.count ≡ size.count
  pub all : size.parts ≤ me.0.parts

-- what such a token has drawn are the numbers below c, each once; and these are all where it was told that there are no more
pub record HasDrawnAllBelow (token : WordTokenView) : Type 0 where
  pub c : ℕ
  pub within : c ≤ token.count
  pub each : (x : ℕ) → times x token.drawn ≡ once_below x c
  pub all : token.over ≡ true → c ≡ token.count

-- the parts of a token that was told that there are no more
abbrev pub ended : WordTokenView → ℕ
ended v = if v.over then v.parts else 0

-- the rule: what is drawn are the numbers below the word and below the count, each once; only who was told steps past the count, once a part
pub record IsDrawn (size : Size) (state : State (Unit {0}) WordTokenView) : Type 0 where
  pub one : length state.words ≡ 1
  pub parts : total (λ v. v.parts) state.views ≡ size.parts
  pub each : (x : ℕ) → total (λ v. times x v.drawn) state.views ≡ once_below x (min (slice_index state.words 0) size.count)
  pub bound : slice_index state.words 0 ≤ size.count + total ended state.views
  pub told : (id : ℕ) (v : WordTokenView) → get_elem? state.views id ≡ some v → v.over ≡ true → size.count ≤ slice_index state.words 0
  pub idle : (id : ℕ) (v : WordTokenView) → get_elem? state.views id ≡ some v → v.parts ≡ 0 → v.drawn ≡ []

-- the token once it has found the number k at the word
abbrev pub drew : ℕ → WordTokenView → ℕ → WordTokenView
drew n v k = record { parts = v.parts; count = v.count; drawn = if nat_lt k n then v.drawn ++ k ∷ [] else v.drawn; over = not (nat_lt k n) }

-- two tokens in one
abbrev pub merged : WordTokenView → WordTokenView → WordTokenView
merged v w = record { parts = v.parts + w.parts; count = v.count; drawn = v.drawn ++ w.drawn; over = v.over || w.over }

-- a step that draws the number that it finds, which is above all that the token drew
abbrev pub Draws : Step (Unit {0}) → Me (Unit {0}) WordTokenView → ℕ → Me (Unit {0}) WordTokenView → Type 0
Draws s me k new = (new.0 ≡ drew me.0.count me.0 k) × (new.1 ≡ me.1) × ((x : ℕ) → 0 < times x me.0.drawn → x < k)

-- a step that tells the token with every part that it has drawn the numbers below the word
abbrev pub Totals : Step (Unit {0}) → Me (Unit {0}) WordTokenView → ℕ → Me (Unit {0}) WordTokenView → Type 0
Totals s me k new = ((x : ℕ) → times x me.0.drawn ≡ once_below x (min k me.0.count)) × (me.0.over ≡ true → me.0.count ≤ k)
