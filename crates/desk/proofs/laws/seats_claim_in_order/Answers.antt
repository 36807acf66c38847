use Rattle.std.proofs.Common.{subst, arith}
use Rattle.std.proofs.lemmas.List.{length-map}
use Rattle.desk.specs.Seats.{ClaimsInOrder}
use Rattle.desk.proofs.laws.seats_claim_in_order.Goals as goal

pub returns : goal.returns
returns g c =
    let k = c.seat.invariant in
    subst ClaimsInOrder c.seat.view_is (record {
      rises = k.rises;
      below = λ x p. let lt = k.below x p in omega (arith, lt, length-map c.seat.inside.notes.items (λ n. n.cell));
      own = λ x p. (k.posts_are x p).0;
    })
