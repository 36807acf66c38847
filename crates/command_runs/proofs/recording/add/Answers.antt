use Rattle.command_runs.proofs.recording.add.Goals as goal

pub see_made-requires : goal.see_made-requires
see_made-requires c = (c.args.world.now.state, rw c.in_ok-made.ensures.ok.tables c.in_ok-made.ensures.ok.told)
