-- Changes leave the protocol of a table.
use Rattle.std.proofs.Common.{◌≡◌, ◌∙◌, List, [], ◌∷◌, Bool, true, false, if◌then◌else◌, refl}
use Rattle.directory_table.specs.Table.{DirectoryTableView, DirectoryChange, has_entry, laid_over, with_cell, with_entry}

same-if : (known : Bool) (new old : DirectoryTableView) → new.protocol ≡ old.protocol → (if known then new else old).protocol ≡ old.protocol
same-if true new old e = e
same-if false new old e = refl

pub laid-protocol : (changes : List DirectoryChange) (table : DirectoryTableView) → (laid_over changes table).protocol ≡ table.protocol
laid-protocol [] table = refl
laid-protocol (c ∷ changes) table =
    laid-protocol changes (with_entry table c.state c.event c.entry)
    ∙ same-if (has_entry table.protocol c.entry)
    (record table { cells = with_cell table.cells c.state c.event c.entry }) table refl
