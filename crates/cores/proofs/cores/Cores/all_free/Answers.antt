use Rattle.cores.proofs.cores.Cores.all_free.Goals as goal

pub are_free-requires : goal.are_free-requires
are_free-requires c = rw c.as_slice.ensures.value c.self.invariant.1
