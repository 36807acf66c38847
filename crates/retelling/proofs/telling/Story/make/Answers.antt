use Rattle.retelling.proofs.telling.Story.make.Goals as goal

pub see_made-violation-requires : goal.see_made-violation-requires
see_made-violation-requires c = (c.args.self.now.world.state, rw c.in_ok-made.ensures.ok.tables c.in_ok-made.ensures.ok.told)
