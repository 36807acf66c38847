use Rattle.std.proofs.Common.{◌≡◌, ◌++◌, ◌∷◌, ◌+◌, [], ℕ, List, map, arith, ap, refl, subst, sym, ◌∙◌}
use Rattle.std.proofs.lemmas.Grind.{common_steps}
use Rattle.std.specs.List.{range_with_len}
use Rattle.std.proofs.lemmas.List.FromFn.{map-range_with_len_more}
use Rattle.atomic_table.specs.Table.{Me}
use Rattle.record_lines.specs.declared.entry.Entry.{Entry}
use Rattle.floor.specs.declared.tokens.TokenView.{TokenView}
use Rattle.floor.specs.Turning.{SeatView, new_seat}
use Rattle.floor.specs.inner.Tokens.{keeper}
use Rattle.floor.proofs.opening.deal_row.Goals as goal

pub loop-number-preserved : goal.loop-number-preserved
loop-number-preserved g c =
    let i = c.loop-number.invariant in
    let n : ℕ = c.loop-number.number in
    let row : List SeatView = c.loop-number.row.items in
    let fresh : row ++ record { number = n; made = c.new.result.items } ∷ [] ≡ row ++ new_seat n ∷ [] =
    ap (λ (made : List (ℕ × Entry)). row ++ record { number = n; made = made } ∷ []) c.new.ensures.items in
    let listed : row ++ new_seat n ∷ [] ≡ map new_seat (range_with_len 0 (n + 1)) =
    ap (λ (l : List SeatView). l ++ new_seat n ∷ []) i.row ∙ sym (map-range_with_len_more new_seat 0 n n (omega arith)) in
    record {
      row = subst (λ (l : List SeatView). c.push_reserved.new.self.items ≡ l) (fresh ∙ listed) c.push_reserved.ensures.items;
      count = omega (arith, i.count, c.push_reserved.ensures.len);
      room = omega (arith, i.room, c.push_reserved.ensures.capacity);
      table = c.deal_seat-dealt.ensures.hall.1 ∙ i.table;
      dealt = ◌∙◌ {A = Me Entry TokenView} c.deal_seat-dealt.ensures.hall.0
          (ap (λ (m : Me Entry TokenView). (keeper [] [] (m.0.next + 1), [])) i.dealt);
    }

pub returns-in_err-row-clause-row : goal.returns-in_err-row-clause-row
returns-in_err-row-clause-row g c = grind (arith, common_steps)

pub returns-in_err-row-clause-dealt : goal.returns-in_err-row-clause-dealt
returns-in_err-row-clause-dealt g c = grind (arith, common_steps)

pub returns-in_err-row-clause-same : goal.returns-in_err-row-clause-same
returns-in_err-row-clause-same g c = grind (arith, common_steps)

pub loop-number-init : goal.loop-number-init
loop-number-init g c = grind (arith, common_steps)

pub invariant_of-push_reserved : goal.invariant_of-push_reserved
invariant_of-push_reserved g c = grind (arith, common_steps)

pub loop-number-smaller : goal.loop-number-smaller
loop-number-smaller g c = grind (arith, common_steps)

pub returns-clause-row : goal.returns-clause-row
returns-clause-row g c = grind (arith, common_steps)

pub returns-clause-dealt : goal.returns-clause-dealt
returns-clause-dealt g c = grind (arith, common_steps)

pub returns-clause-same : goal.returns-clause-same
returns-clause-same g c = grind (arith, common_steps)

pub deal_seat-dealt-requires : goal.deal_seat-dealt-requires
deal_seat-dealt-requires g c =
    let i = c.loop-number.invariant in
    record {
      table = i.table;
      one = c.requires.one;
      keeps = subst (λ (m : Me Entry TokenView). m ≡ (keeper [] [] m.0.next, [])) (sym i.dealt) refl;
    }
