use Rattle.monitor.proofs.Histories.{due-last_store, due-no_store}
use Rattle.monitor.proofs.laws.due_is_the_last_store.Goals as goal

pub returns-clause-last_store : goal.returns-clause-last_store
returns-clause-last_store c opening earlier later = due-last_store opening earlier later

pub returns-clause-no_store : goal.returns-clause-no_store
returns-clause-no_store c = due-no_store
