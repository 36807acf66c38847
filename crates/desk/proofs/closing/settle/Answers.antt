use Rattle.std.proofs.Common.{◌≡◌, ◌||◌, ◌∷◌, [], ap, sym, ◌∙◌, arith, false, Some, length, length-append}
use Rattle.std.proofs.lemmas.Grind.{common_steps}
use Rattle.std.proofs.lemmas.List.Elements.{All-pop}
use Rattle.desk.specs.Counting.{times}
use Rattle.desk.specs.Seats.{DeskSeatView}
use Rattle.desk.specs.Closing.{claims_of, any_told}
use Rattle.desk.proofs.Drawing.{times-append}
use Rattle.desk.proofs.Collecting.{claims_of-push, told_moves}
use Rattle.desk.proofs.closing.settle.Goals as goal

pub loop-seat-init : goal.loop-seat-init
loop-seat-init g c =
    let s : DeskSeatView = c.in-Some.seat in
    let rest = c.pop.new.self.items in
    let e = c.in-Some.ensures.items in
    let t = c.into_token-token.ensures in
    let p = All-pop (λ (v : DeskSeatView). (v.desk.table ≡ c.args.word.now.shared.table_id) × (length v.desk.cells ≡ c.args.word.now.shared.key.count))
    c.args.seats.items rest (Some s) e c.requires.these in
    record {
      table = t.table ∙ p.1.0;
      free = ap (λ m. m.1) t.me;
      count = ap (λ m. m.0.count) t.me ∙ p.1.1;
      parts = let n = ap (λ m. m.0.parts) t.me in let l = ap (λ l. length l) e in omega (arith, n, l, length-append rest (s ∷ []));
      each = λ x. let n = ap (λ m. times x m.0.drawn) t.me in let l = ap (λ l. claims_of x l) e in let q = claims_of-push x rest s in omega (arith, n, l, q);
      told = ap (λ m. m.0.over || any_told rest) t.me ∙ sym (ap (λ l. any_told l) e ∙ told_moves false rest s);
      these = p.0;
    }

pub merge_token-requires-clause-token : goal.merge_token-requires-clause-token
merge_token-requires-clause-token g c = let i = c.loop-seat.invariant in record { table = i.table; one = c.requires.one; free = i.free }

pub merge_token-requires-clause-other : goal.merge_token-requires-clause-other
merge_token-requires-clause-other g c =
    let t = c.into_token-other.ensures in
    let p = All-pop (λ (v : DeskSeatView). (v.desk.table ≡ c.args.word.now.shared.table_id) × (length v.desk.cells ≡ c.args.word.now.shared.key.count))
    c.loop-seat.seats.items c.pop-in-loop-seat.new.self.items (Some c.in-Some-pop.seat) c.in-Some-pop.ensures.items c.loop-seat.invariant.these in
    record { table = t.table ∙ p.1.0; one = c.requires.one; free = ap (λ m. m.1) t.me }

pub loop-seat-preserved : goal.loop-seat-preserved
loop-seat-preserved g c =
    let i = c.loop-seat.invariant in
    let s : DeskSeatView = c.in-Some-pop.seat in
    let rest = c.pop-in-loop-seat.new.self.items in
    let e = c.in-Some-pop.ensures.items in
    let t = c.into_token-other.ensures in
    let m = c.merge_token.ensures in
    let old = c.loop-seat.token.me.0 in
    let p = All-pop (λ (v : DeskSeatView). (v.desk.table ≡ c.args.word.now.shared.table_id) × (length v.desk.cells ≡ c.args.word.now.shared.key.count))
    c.loop-seat.seats.items rest (Some s) e i.these in
    record {
      table = m.1 ∙ i.table;
      free = ap (λ x. x.1) m.0;
      count = ap (λ x. x.0.count) m.0 ∙ i.count;
      parts = let a = ap (λ x. x.0.parts) m.0 in
          let n = ap (λ x. x.0.parts) t.me in let l = ap (λ l. length l) e in omega (arith, a, n, l, i.parts, length-append rest (s ∷ []));
      each = λ x. let a = ap (λ y. times x y.0.drawn) m.0 in
          let n = ap (λ y. times x y.0.drawn) t.me in
          let l = ap (λ l. claims_of x l) e in
          let b = times-append x old.drawn c.into_token-other.result.me.0.drawn in let q = claims_of-push x rest s in let was = i.each x in omega
          (arith, a, n, l, b, q, was);
      told =
          ap (λ x. x.0.over || any_told rest) m.0
          ∙ (ap (λ x. (old.over || x.0.over) || any_told rest) t.me ∙ (sym (told_moves old.over rest s) ∙ (ap (λ l. old.over || any_told l) (sym e) ∙ i.told)));
      these = p.0;
    }

pub count_all-requires : goal.count_all-requires
count_all-requires g c =
    let i = c.loop-seat.invariant in
    record { of_word = record { table = i.table; one = c.requires.one; free = i.free }; count_is = i.count; all = grind (arith, common_steps) }

pub returns-in_default : goal.returns-in_default
returns-in_default g c = grind (arith, common_steps)

pub loop-seat-smaller : goal.loop-seat-smaller
loop-seat-smaller g c = grind (arith, common_steps)

pub returns : goal.returns
returns g c = grind (arith, common_steps)
