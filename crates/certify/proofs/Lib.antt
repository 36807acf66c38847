mod OwnEntries
