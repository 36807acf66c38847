-- Pairs that are few and marked: the opened one, and each in the other order.
use Rattle.std.proofs.Common.{refl}
use Rattle.pairs.specs.Pairs.{opened_pair}
use Rattle.pairs.specs.Marking.{IsMarked}

pub marked-opened : IsMarked opened_pair
marked-opened = record { first = refl; second = refl }
