use Rattle.std.proofs.Common.{Some, sym, ◌∙◌}
use Rattle.indexmap.specs.IndexMap.{keys}
use Rattle.rows.proofs.Held.{key_there}
use Rattle.rows.proofs.sparse.seek_index.Goals as goal

pub returns-in-Some-clause-key : goal.returns-in-Some-clause-key
returns-in-Some-clause-key g c =
    key_there (keys c.args.held.now) c.args.at (Some c.in-Some.index) (sym c.in-Some.is ∙ c.get_index_of-found.ensures.index)
