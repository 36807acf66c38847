use Rattle.floor.proofs.Ties.{opens}
use Rattle.floor.proofs.grounds.Ground.new.Goals as goal

pub of_words-requires : goal.of_words-requires
of_words-requires c = opens
