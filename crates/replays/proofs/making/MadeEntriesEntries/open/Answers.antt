use Rattle.replays.proofs.making.MadeEntriesEntries.open.Goals as goal

pub returns-clause-told : goal.returns-clause-told
returns-clause-told c seats = (c.requires.none, c.open.ensures seats)
