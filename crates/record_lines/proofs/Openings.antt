-- Lines of opening values.
use Rattle.std.proofs.Common.{◌≡◌, ◌≢◌, ◌<◌, ◌^◌, ◌+◌, suc, ℕ, List, [], ◌∷◌, ◌++◌, length, map, get_or, ap, sym, ◌∙◌, arith, eqb}
use Rattle.std.proofs.Common.{length-append}
use Rattle.std.specs.Fmt.{decimal}
use Rattle.std.proofs.lemmas.List.{length-map, get_or-map, get_or_at}
use Rattle.std.proofs.lemmas.List.Elements.{All-get_or}
use Rattle.std.proofs.lemmas.List.Splits.{length-slice_split}
use Rattle.base.specs.Words.{words}
use Rattle.record_lines.specs.Text.{opening_words}
use Rattle.record_lines.specs.declared.fault.ReadKind.TheVariants.{BadLine}
use Rattle.record_lines.specs.Reading.{IsBadOpening}

-- too many values
pub many-values : (blocks : ℕ) (line : List (List ℕ)) (values rest : List ℕ) → line ≡ opening_words values ++ words rest → length values ≡ blocks →
    IsBadOpening blocks line BadLine
many-values blocks line values rest is full others count small spelled =
    omega (
      arith,
      ap length (sym is ∙ spelled),
      length-append (opening_words values) (words rest),
      length-slice_split
          (λ b. eqb b 32) rest,
      length-map values decimal,
      length-map others decimal,
      count,
      full,
    )

-- a word that is no value
pub no-value : (blocks : ℕ) (line : List (List ℕ)) (values word : List ℕ) (behind : List (List ℕ)) → line ≡ opening_words values ++ word ∷ behind →
    length values < blocks → ((n : ℕ) → n < 2 ^ 64 → word ≢ decimal n) → IsBadOpening blocks line BadLine
no-value blocks line values word behind is low none others count small spelled =
    let k : ℕ = length values in
    let n : length (map decimal values) ≡ k = length-map values decimal in
    let here : word ≡ get_or (opening_words values ++ word ∷ behind) (k + 1) [] =
    sym (get_or_at (opening_words values) word behind [] (k + 1) (omega (arith, n))) in
    let there : get_or (opening_words others) (k + 1) [] ≡ decimal (get_or others k 0) =
    ap (λ i. get_or (opening_words others) i []) (let e : k + 1 ≡ suc k = omega arith in e)
    ∙ get_or-map decimal others k 0 [] (omega (arith, count, low)) in
    none (get_or others k 0) (All-get_or (λ value. value < 2 ^ 64) others k 0 (omega (arith, count, low)) small)
    (here ∙ ap (λ l. get_or l (k + 1) []) (sym is ∙ spelled) ∙ there)
