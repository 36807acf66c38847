-- Bytes that come from a source, with those that were pulled and aren't taken yet.
use Rattle.std.proofs.Common.{◌≡◌, Bool, true, false, ℕ, ◌+◌, ◌-◌, ◌<◌, ◌≤◌, List, [], ◌∷◌, ◌++◌, Option, Some, None, length, take, drop, get_or, zero, suc}
use Rattle.std.proofs.Common.{refl, ap, ◌≢◌, inl, inr, sym, ◌∙◌, subst, arith, append_assoc, length-append, length-drop, take-append-drop}
use Rattle.std.proofs.lemmas.List.{drop_more, drop-drop, drop-take, append-nil, get_or-drop, get_or-take, length-take-le}
use Rattle.std.proofs.lemmas.List.{drop_at, take-append-le, take-take}
use Rattle.std.proofs.Math.Seq.{take-add}
use Rattle.std.proofs.lemmas.Bool.{cases_lt}
use Rattle.std.proofs.lemmas.List.Elements.{All-append, All-take}
use Rattle.std.specs.Bool.{Decides}
use Rattle.std.specs.Io.KnownBytes.{Consumes, prepend_known}
use Rattle.record_lines.specs.Refused.{ended, HasNoEnd, IsTooLong}
use Rattle.record_lines.specs.Reading.{BeginsWithEnd, IsWholeIf}

pub none-held : (a : Option (List ℕ)) → prepend_known [] a ≡ a
none-held None = refl
none-held (Some x) = refl

-- what is held was read as well
pub let-go : (before after : Option (List ℕ)) (bs held : List ℕ) → Consumes before (prepend_known held after) bs → Consumes before after (bs ++ held)
let-go None after bs held h = tt
let-go (Some x) None bs held h = absurd h
let-go (Some x) (Some y) bs held h = h ∙ sym (append_assoc bs held y)

-- bytes that are pulled where none are ahead
pub pulled : (a b : Option (List ℕ)) (line ahead more : List ℕ) → ahead ≡ [] → Consumes a b more →
    Consumes (prepend_known (line ++ ahead) a) (prepend_known (line ++ more) b) []
pulled None b line ahead more none h = tt
pulled (Some x) None line ahead more none h = absurd h
pulled (Some x) (Some y) line ahead more none h =
    ap (λ l. (line ++ l) ++ x) none ∙ ap (λ l. l ++ x) (append-nil line) ∙ ap (λ l. line ++ l) h ∙ sym (append_assoc line more y)

-- a line that is taken off with its end
pub line-off : (left : Option (List ℕ)) (line ahead none more : List ℕ) → ahead ≡ 10 ∷ more → none ≡ [] →
    Consumes (prepend_known (line ++ ahead) left) (prepend_known (none ++ more) left) (ended line)
line-off None line ahead none more is nothing = tt
line-off (Some x) line ahead none more is nothing =
    ap (λ l. (line ++ l) ++ x) is ∙ append_assoc line (10 ∷ more) x ∙ sym (append_assoc line (10 ∷ []) (more ++ x))
    ∙ ap (λ l. ended line ++ ((l ++ more) ++ x)) (sym nothing)

-- ---- a buffer between two ends

-- the first of the bytes that are held
pub first-held : (buffer : List ℕ) (at end : ℕ) → at < end → end ≤ length buffer →
    take (end - at) (drop at buffer) ≡ get_or buffer at 0 ∷ take (end - (at + 1)) (drop (at + 1) buffer)
first-held buffer at end low fits =
    let n : end - at ≡ (end - (at + 1)) + 1 = omega arith in
    rw (n, drop_more buffer at 0 (omega arith)) (taken (end - (at + 1)) (get_or buffer at 0) (drop (at + 1) buffer))
  where
    taken : (n x : ℕ) (xs : List ℕ) → take (n + 1) (x ∷ xs) ≡ x ∷ take n xs
    taken n x xs = let e : n + 1 ≡ suc n = omega arith in rw e refl

pub none-held_between : (buffer : List ℕ) (at end : ℕ) → end ≤ at → take (end - at) (drop at buffer) ≡ []
none-held_between buffer at end high = let none : end - at ≡ 0 = omega arith in ap (λ n. take n (drop at buffer)) none

-- the end of a line is held
pub held-ends : (buffer : List ℕ) (at end : ℕ) → at < end → end ≤ length buffer → get_or buffer at 0 ≡ 10 →
    BeginsWithEnd (take (end - at) (drop at buffer))
held-ends buffer at end low fits is =
    let behind = take (end - (at + 1)) (drop (at + 1) buffer) in (behind, first-held buffer at end low fits ∙ ap (λ b. b ∷ behind) is)

-- the first byte, where it is known
pub held-begins : (buffer more : List ℕ) (x at end : ℕ) → end ≤ length buffer → take (end - at) (drop at buffer) ≡ x ∷ more →
    (at < end) × (take (end - at) (drop at buffer) ≡ x ∷ take (end - (at + 1)) (drop (at + 1) buffer))
held-begins buffer more x at end fits is = elim (cases_lt at end) [
  | inl low ↦ let held = first-held buffer at end low fits in
      let same : get_or buffer at 0 ≡ x = cc in
      (low, held ∙ ap (λ b. b ∷ take (end - (at + 1)) (drop (at + 1) buffer)) same)
  | inr high ↦ let none = none-held_between buffer at end high in absurd (cc)
]

-- the bytes behind some of those that are held
pub held-behind : (buffer : List ℕ) (at end count : ℕ) → count ≤ end - at →
    drop count (take (end - at) (drop at buffer)) ≡ take (end - (at + count)) (drop (at + count) buffer)
held-behind buffer at end count few =
    let split : end - at ≡ count + (end - (at + count)) = omega arith in
    ap (λ n. drop count (take n (drop at buffer))) split ∙ drop-take count (end - (at + count)) (drop at buffer)
    ∙ ap (take (end - (at + count))) (drop-drop count at buffer)

pub held-length : (buffer : List ℕ) (at end : ℕ) → end ≤ length buffer → length (take (end - at) (drop at buffer)) ≡ end - at
held-length buffer at end fits = length-take-le (end - at) (drop at buffer) (omega (arith, length-drop {A = ℕ} at buffer))

-- the bytes that stand in front of a place
pub standing-length : (buffer : List ℕ) (at count : ℕ) → count ≤ at → at ≤ length buffer → length (take count (drop (at - count) buffer)) ≡ count
standing-length buffer at count behind fits =
    length-take-le count (drop (at - count) buffer) (omega (arith, behind, fits, length-drop {A = ℕ} (at - count) buffer))

-- the first of the bytes that are held, with those that stand in front of them
pub grown : (kept buffer : List ℕ) (at end standing count : ℕ) → standing ≤ at → count ≤ end - at →
    kept ++ take (standing + count) (drop ((at + count) - (standing + count)) buffer) ≡
    (kept ++ take standing (drop (at - standing) buffer)) ++ take count (take (end - at) (drop at buffer))
grown kept buffer at end standing count behind few =
    let from : (at + count) - (standing + count) ≡ at - standing = omega arith in
    let back : (at - standing) + standing ≡ at = omega (arith, behind) in
    let front = take standing (drop (at - standing) buffer) in
    ap (λ n. kept ++ take (standing + count) (drop n buffer)) from ∙ ap (λ l. kept ++ l) (take-add standing count (drop (at - standing) buffer))
    ∙ ap (λ l. kept ++ (front ++ take count l)) (drop-drop standing (at - standing) buffer ∙ ap (λ n. drop n buffer) back)
    ∙ ap (λ l. kept ++ (front ++ l)) (sym (take-take count (end - at) (drop at buffer) few)) ∙ sym (append_assoc kept front _)

-- what stands behind a front of the bytes that are held
pub left-behind : (buffer front rest : List ℕ) (at end : ℕ) → end ≤ length buffer → at ≤ end → take (end - at) (drop at buffer) ≡ front ++ rest →
    take (end - (end - length rest)) (drop (end - length rest) buffer) ≡ rest
left-behind buffer front rest at end fits low is =
    let all = held-length buffer at end fits in
    let whole : length front + length rest ≡ end - at = sym (length-append front rest) ∙ sym (ap length is) ∙ all in
    let behind : end - length rest ≡ at + length front = omega (arith, whole, low) in
    ap (λ k. take (end - k) (drop k buffer)) behind ∙ sym (held-behind buffer at end (length front) (omega (arith, whole)))
    ∙ ap (drop (length front)) is ∙ drop_at front rest (length front) refl

-- where nothing is kept and nothing is held there is no line
pub no-line : (kept buffer : List ℕ) (at held : ℕ) → length kept ≡ 0 → held ≤ 0 → kept ++ take held (drop (at - held) buffer) ≡ []
no-line [] buffer at zero none low = refl
no-line [] buffer at (suc held) none low = absurd (omega (arith, low))
no-line (x ∷ kept) buffer at held none low = absurd (omega (arith, none))

-- and the line has no end still
pub still-open : (line front new : List ℕ) → new ≡ line ++ front → HasNoEnd line → HasNoEnd front → HasNoEnd new
still-open line front new is none lasting = subst HasNoEnd (sym is) (All-append (λ b. b ≢ 10) line front none lasting)

-- what is held behind the bytes of a line: its end, or nothing
pub held-whole : (whole : Bool) (buffer : List ℕ) (at end count : ℕ) → end ≤ length buffer → count ≤ length (take (end - at) (drop at buffer)) →
    (count < length (take (end - at) (drop at buffer)) → get_or (take (end - at) (drop at buffer)) count 0 ≡ 10) → Decides whole (at + count < end) →
    IsWholeIf whole (take (end - (at + count)) (drop (at + count) buffer))
held-whole true buffer at end count fits few ends decides =
    let low : at + count < end = decides.0 refl in
    let held = held-length buffer at end fits in
    held-ends buffer (at + count) end low fits
    (sym (get_or-drop at buffer count 0) ∙ sym (get_or-take (end - at) (drop at buffer) count 0 (omega arith)) ∙ ends (omega (arith, held)))
held-whole false buffer at end count fits few ends decides = elim (cases_lt (at + count) end) [
  | inl low ↦ let yes = decides.1 low in absurd (cc)
  | inr high ↦ none-held_between buffer (at + count) end high
]

-- the line with the bytes of it that are held is too long
pub too-long : (most : ℕ) (line held : List ℕ) (count : ℕ) → HasNoEnd line → HasNoEnd (take count held) → count ≤ length held → most < length line + count →
    IsTooLong most (line ++ held)
too-long most line held count none lasting few long =
    let front = line ++ take count held in
    let n : length front ≡ length line + count = length-append line (take count held) ∙ ap (λ k. length line + k) (length-take-le count held few) in
    let split : line ++ held ≡ front ++ drop count held =
    ap (λ l. line ++ l) (sym (take-append-drop count held)) ∙ sym (append_assoc line (take count held) (drop count held)) in
    record {
      long = omega (arith, ap length split, n, length-append front (drop count held), long);
      no_end =
          subst HasNoEnd (sym (ap (take (most + 1)) split ∙ take-append-le (most + 1) front (drop count held) (omega (arith, n, long))))
          (All-take (λ b. b ≢ 10) (most + 1) front (All-append (λ b. b ≢ 10) line (take count held) none lasting));
    }
