use Rattle.record.proofs.entries.KeptEntriesEntries.open.Goals as goal

pub returns-clause-told : goal.returns-clause-told
returns-clause-told c seats = c.requires.none
