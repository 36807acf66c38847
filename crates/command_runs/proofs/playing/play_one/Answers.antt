use Rattle.command_runs.proofs.playing.play_one.Goals as goal

pub see_made-requires : goal.see_made-requires
see_made-requires g c = (c.args.world.now.state, rw c.in_ok-made.ensures.ok.tables c.in_ok-made.ensures.ok.told)
