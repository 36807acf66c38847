-- Members of a crew that start one after the other.
use Rattle.std.proofs.Common.{◌≡◌, ◌≤◌, ◌<◌, ◌+◌, ℕ, List, [], ◌∷◌, ◌++◌, length}
use Rattle.std.proofs.Common.{map, get_or, drop, sym, ap, ◌∙◌, append_assoc, append-nil, arith, length-append}

-- one more has started
pub one_started : {X Y : Type 0} (running running' : List X) (ms ms' : List (X × Y)) (all : List X) (one : X × Y) (x : X) (index count room room' : ℕ) →
    running ++ map (λ m. m.0) ms ≡ all → length ms + index ≡ count → length running + length ms ≤ room → index < count →
    one ≡ get_or ms 0 one → ms' ≡ drop 1 ms → x ≡ one.0 → running' ≡ running ++ x ∷ [] → room' ≡ room →
    (running' ++ map (λ m. m.0) ms' ≡ all) × (length ms' + (index + 1) ≡ count) × (length running' + length ms' ≤ room')
one_started running running' [] ms' all one x index count room room' so_far counted fits some is rest same added roomy = absurd (omega (arith, some, counted))
one_started running running' (m ∷ ms) ms' all one x index count room room' so_far counted fits some is rest same added roomy =
    let more : length running' ≡ length running + 1 = ap (λ (l : List _). length l) added ∙ length-append running (x ∷ []) in
    let less : length ms' ≡ length ms = ap (λ (l : List _). length l) rest in (
      ap (λ l. l ++ map (λ p. p.0) ms') added
          ∙ (ap (λ (l : List _). (running ++ x ∷ []) ++ map (λ p. p.0) l) rest
          ∙ (append_assoc running (x ∷ []) (map (λ p. p.0) ms) ∙ (ap (λ y. running ++ y ∷ map (λ p. p.0) ms) (same ∙ ap (λ p. p.0) is) ∙ so_far))),
      omega (arith, counted, less),
      omega (arith, fits, more, less, roomy),
    )

-- all have started
pub all_started : {X Y : Type 0} (running : List X) (ms : List (X × Y)) (all : List X) (index count : ℕ) → running ++ map (λ m. m.0) ms ≡ all →
    length ms + index ≡ count → count ≤ index →
    running ≡ all
all_started running [] all index count so_far counted done = sym (append-nil running) ∙ so_far
all_started running (m ∷ ms) all index count so_far counted done = absurd (omega (arith, counted, done))
