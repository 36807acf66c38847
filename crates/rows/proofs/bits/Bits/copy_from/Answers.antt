use Rattle.std.proofs.Common.{List, ap, arith, drop, length, subst, sym, take, ◌++◌, ◌∙◌, ◌≡◌, ℕ}
use Rattle.std.proofs.lemmas.Grind.{common_steps}
use Rattle.rows.specs.inner.Words.{IsRowOfWords, copied_over, flags_of}
use Rattle.rows.proofs.Copying.{copied-row}
use Rattle.rows.proofs.Words.{flags-length}
use Rattle.rows.proofs.bits.Bits.copy_from.Goals as goal

-- the words behind it
abbrev words : goal.After-self-2-1 → List ℕ
words c = take c.self.inside.words.len (c.copy_over.new.words ++ drop (length c.copy_over.new.words) c.self.inside.words.items)

words-are : (c : goal.After-self-2-1) → words c ≡ copied_over c.from.inside.words.items c.self.inside.words.items
words-are c = grind (arith, common_steps)

-- both rows have as many flags
as-many : (c : goal.After-self-2-1) → c.from.inside.places ≡ c.self.inside.places
as-many c =
    sym (flags-length c.from.inside.words.items c.from.inside.places) ∙ ap length c.from.view_is ∙ c.requires ∙ ap length (sym c.self.view_is)
    ∙ flags-length c.self.inside.words.items c.self.inside.places

made : (c : goal.After-self-2-1) →
    IsRowOfWords (words c) c.self.inside.places c.from.inside.ones × (flags_of (words c) c.self.inside.places ≡ c.args.from.now)
made c =
    let row = subst (λ places. IsRowOfWords c.from.inside.words.items places c.from.inside.ones) (as-many c) c.from.invariant in
    let both = copied-row c.from.inside.words.items c.self.inside.words.items c.self.inside.places c.from.inside.ones c.self.inside.ones row c.self.invariant in
    let flags : flags_of (words c) c.self.inside.places ≡ c.args.from.now =
    ap (λ ws. flags_of ws c.self.inside.places) (words-are c) ∙ both.1 ∙ ap (flags_of c.from.inside.words.items) (sym (as-many c)) ∙ c.from.view_is in
    (subst (λ ws. IsRowOfWords ws c.self.inside.places c.from.inside.ones) (sym (words-are c)) both.0, flags)

pub invariant_of-self : goal.invariant_of-self
invariant_of-self c = (made c).0

pub returns : goal.returns
returns c = (made c).1
