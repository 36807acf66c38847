-- Lists of names in a line.
use Rattle.std.proofs.Common.{◌≡◌, ◌≢◌, ◌≤◌, ◌<◌, ◌+◌, ℕ, List, [], ◌∷◌, ◌++◌, Option, Some, None, length, map, take, drop, get_or, eqb, ap, sym, ◌∙◌, arith}
use Rattle.std.proofs.Common.{length-append, append_assoc}
use Rattle.std.specs.Prelude.{MatchOption, ◌==◌, ◌&&◌, Bool, true, false, refl, suc}
use Rattle.base.specs.declared.controller.entry.CellEntry.{CellEntry}
use Rattle.base.specs.declared.controller.entry.CellEntry.TheVariants.{Blank, Stall, Act}
use Rattle.base.specs.declared.controller.entry.Change.{Change}
use Rattle.base.specs.Entries.{same_list, entry_words, SpellsOneChange}
use Rattle.std.specs.Borrow.{Bor}
use Rattle.std.proofs.lemmas.List.{length-map, map_more, append-nil}
use Rattle.std.proofs.lemmas.Grind.{flat_map-append}
use Rattle.std.proofs.lemmas.List.Splits.{length-slice_split}
use Rattle.base.specs.Words.{words, spaced, words_behind}
use Rattle.base.specs.Spelling.{named_in}

-- the first word, and those behind its blank
pub cut-words : (o : Option (Bor (List ℕ))) (ws : List (List ℕ)) (w : List ℕ) → MatchOption o (ws ≡ w ∷ []) (λ rest. ws ≡ w ∷ words rest.now) →
    ws ≡ w ∷ words_behind o
cut-words None ws w h = h
cut-words (Some rest) ws w h = h

-- behind names a word that is none
pub no-name : {A : Type 0} (name : A → List ℕ) (known others : List A) (word : List ℕ) (behind : List (List ℕ)) → ((a : A) → word ≢ name a) →
    map name known ++ word ∷ behind ≡ map name others → ⊥
no-name name [] [] word behind none e = absurd (cc)
no-name name [] (o ∷ os) word behind none e = none o cc
no-name name (k ∷ ks) [] word behind none e = absurd (cc)
no-name name (k ∷ ks) (o ∷ os) word behind none e = no-name name ks os word behind none cc

-- more words than names
pub more-words : {A : Type 0} (name : A → List ℕ) (known others : List A) (rest : List ℕ) → 8 ≤ length known → length others ≤ 8 →
    map name known ++ words rest ≡ map name others → ⊥
more-words name known others rest full few e =
    absurd
    (omega (
      arith,
      ap length e,
      length-append (map name known) (words rest),
      length-slice_split
          (λ b. eqb b 32) rest,
      length-map known name,
      length-map others name,
      full,
      few,
    ))

-- one word more
pub spaced-more : {X : Type 0} (f : X → List ℕ) (xs : List X) (i : ℕ) (d : X) → i < length xs →
    spaced (map f (take (i + 1) xs)) ≡ spaced (map f (take i xs)) ++ (32 ∷ f (get_or xs i d))
spaced-more f xs i d low =
    ap spaced (map_more f xs i d low) ∙ flat_map-append (λ word. 32 ∷ word) (map f (take i xs)) (f (get_or xs i d) ∷ [])
    ∙ ap (λ l. spaced (map f (take i xs)) ++ l) (append-nil (32 ∷ f (get_or xs i d)))

-- a text that ends in words, with one word more
pub pushed-more : {X : Type 0} (f : X → List ℕ) (xs : List X) (i : ℕ) (d : X) (first old new word : List ℕ) → i < length xs →
    old ≡ first ++ spaced (map f (take i xs)) → new ≡ old ++ (32 ∷ word) → word ≡ f (get_or xs i d) → new ≡ first ++ spaced (map f (take (i + 1) xs))
pushed-more f xs i d first old new word low so_far pushed is =
    pushed ∙ ap (λ l. l ++ (32 ∷ word)) so_far ∙ append_assoc first _ _
    ∙ ap (λ l. first ++ l) (ap (λ w. spaced (map f (take i xs)) ++ (32 ∷ w)) is ∙ sym (spaced-more f xs i d low))

-- lists of other lengths aren't the same
pub same_list-length : {A : Type 0} (number : A → ℕ) (xs ys : List A) → length xs ≢ length ys → same_list number xs ys ≡ false
same_list-length number [] [] other = absurd (other refl)
same_list-length number [] (y ∷ ys) other = refl
same_list-length number (x ∷ xs) [] other = refl
same_list-length number (x ∷ xs) (y ∷ ys) other =
    ap (λ b. (number x == number y) && b) (same_list-length number xs ys (λ e. other (ap (λ n. suc n) e))) ∙ both-false (number x == number y)
  where
    both-false : (b : Bool) → (b && false) ≡ false
    both-false true = refl
    both-false false = refl

-- things that are found by their names are told apart by them
pub same-name : {X : Type 0} (kind : List X) (spelling : X → List ℕ) → ((x : X) → named_in spelling kind (spelling x) ≡ Some x) →
    (x y : X) → spelling x ≡ spelling y → x ≡ y
same-name {X} kind spelling found x y e =
    let same : Some x ≡ Some y = sym (found x) ∙ ap (named_in spelling kind) e ∙ found y in cc

same-names : {X : Type 0} (spelling : X → List ℕ) → ((x y : X) → spelling x ≡ spelling y → x ≡ y) →
    (xs ys : List X) → map spelling xs ≡ map spelling ys → xs ≡ ys
same-names spelling one [] [] e = refl
same-names spelling one [] (y ∷ ys) e = absurd (cc)
same-names spelling one (x ∷ xs) [] e = absurd (cc)
same-names spelling one (x ∷ xs) (y ∷ ys) e = cc (one x y cc, same-names spelling one xs ys cc)

-- entries that are spelled alike are the same
entry-one : {S A : Type 0} (state : S → List ℕ) (action : A → List ℕ) → ((x y : S) → state x ≡ state y → x ≡ y) →
    ((x y : A) → action x ≡ action y → x ≡ y) → (e f : CellEntry S A) → entry_words state action e ≡ entry_words state action f → e ≡ f
entry-one state action states actions (Act m a) (Act n b) e = cc (states m n cc, same-names action actions a b cc)
entry-one state action states actions (Act m a) Blank e = absurd (cc)
entry-one state action states actions (Act m a) Stall e = absurd (cc)
entry-one state action states actions Blank Blank e = refl
entry-one state action states actions Blank Stall e = let first : 98 ≡ 115 = ap (λ l. get_or (get_or l 0 []) 0 0) e in absurd (omega (arith, first))
entry-one state action states actions Blank (Act n b) e = absurd (cc)
entry-one state action states actions Stall Blank e = let first : 115 ≡ 98 = ap (λ l. get_or (get_or l 0 []) 0 0) e in absurd (omega (arith, first))
entry-one state action states actions Stall Stall e = refl
entry-one state action states actions Stall (Act n b) e = absurd (cc)

-- changes that are spelled alike are the same
pub change-one : {S E A : Type 0} (state : S → List ℕ) (event : E → List ℕ) (action : A → List ℕ) → ((x y : S) → state x ≡ state y → x ≡ y) →
    ((x y : E) → event x ≡ event y → x ≡ y) → ((x y : A) → action x ≡ action y → x ≡ y) → SpellsOneChange state event action
change-one state event action states events actions side c d e =
    let row : c.state ≡ d.state = states c.state d.state (ap (λ l. get_or l 2 []) e) in
    let column : c.event ≡ d.event = events c.event d.event (ap (λ l. get_or l 3 []) e) in
    let entry : c.entry ≡ d.entry = entry-one state action states actions c.entry d.entry (ap (λ l. drop 4 l) e) in
    ap (λ s. change s c.event c.entry) row ∙ ap (λ v. change d.state v c.entry) column ∙ ap (λ x. change d.state d.event x) entry
  where
    change : {S E A : Type 0} → S → E → CellEntry S A → Change S E A
    change s v x = record { state = s; event = v; entry = x }
