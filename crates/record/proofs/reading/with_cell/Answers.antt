use Rattle.std.proofs.Common.{◌≡◌, true, ap, sym, subst, ◌∙◌, rules}
use Rattle.tables.specs.Tables.{Tables}
use Rattle.tables.specs.declared.cell_places.CellPlace.TheVariants as place
use Rattle.cache_table.specs.Keeping as cache_keeping
use Rattle.cache_table.specs.Table as cache_table
use Rattle.directory_table.specs.Keeping as directory_keeping
use Rattle.directory_table.specs.Table as directory_table
use Rattle.record_lines.specs.declared.cells.Cell.TheVariants as cell
use Rattle.record_lines.specs.Cells.{is_known, place_of}
use Rattle.record.proofs.Standing.{cache-here, cache-more, directory-here, directory-more, whole-more}
use Rattle.record.proofs.reading.with_cell.Goals as goal

pub returns-in-Cache-clause-here : goal.returns-in-Cache-clause-here
returns-in-Cache-clause-here c =
    let protocol = ap (λ (t : Tables). t.protocol) c.tables.view_is in
    let known = subst (λ d. is_known c.args.tables.protocol d ≡ true) c.in-Cache.is c.requires in
    let has =
    subst (λ p. cache_table.has_cell p c.in-Cache.state c.in-Cache.event c.in-Cache.entry ≡ true) (sym protocol) known in
    let made : Tables = record {
      protocol = c.with-tables-inside.result.protocol;
      cache = c.with-tables-inside.result.cells;
      directory = c.tables.inside.directory.cells;
    } in
    cache-here made c.args.cell.now c.in-Cache.state c.in-Cache.event c.in-Cache.entry c.in-Cache.is (c.with-tables-inside.ensures.here has)

pub returns-in-Cache-clause-others : goal.returns-in-Cache-clause-others
returns-in-Cache-clause-others c (place.Cache s e) other =
    let kept : cache_table.cell c.with-tables-inside.result.cells s e ≡ cache_table.cell c.tables.inside.cache.cells s e =
    c.with-tables-inside.ensures.others s e
    (λ both. other (ap (λ t. place.Cache t e) both.0 ∙ (ap (place.Cache c.in-Cache.state) both.1 ∙ ap place_of (sym c.in-Cache.is)))) in
    ap (cell.Cache s e) (kept ∙ search rules)
returns-in-Cache-clause-others c (place.Directory s e) other = ap (cell.Directory s e) (search rules)

pub returns-in-Directory-clause-here : goal.returns-in-Directory-clause-here
returns-in-Directory-clause-here c =
    let protocol = sym c.tables.invariant ∙ ap (λ (t : Tables). t.protocol) c.tables.view_is in
    let known = subst (λ d. is_known c.args.tables.protocol d ≡ true) c.in-Directory.is c.requires in
    let has = subst (λ p. directory_table.has_entry p c.in-Directory.entry ≡ true) (sym protocol) known in
    let made : Tables = record {
      protocol = c.tables.inside.cache.protocol;
      cache = c.tables.inside.cache.cells;
      directory = c.with-tables-inside-in-Directory.result.cells;
    } in
    directory-here made c.args.cell.now c.in-Directory.state c.in-Directory.event c.in-Directory.entry c.in-Directory.is
    (c.with-tables-inside-in-Directory.ensures.here has)

pub returns-in-Directory-clause-others : goal.returns-in-Directory-clause-others
returns-in-Directory-clause-others c (place.Cache s e) other = ap (cell.Cache s e) (search rules)
returns-in-Directory-clause-others c (place.Directory s e) other =
    let kept : directory_table.cell c.with-tables-inside-in-Directory.result.cells s e ≡ directory_table.cell c.tables.inside.directory.cells s e =
    c.with-tables-inside-in-Directory.ensures.others s e
    (λ both. other (ap (λ t. place.Directory t e) both.0 ∙ (ap (place.Directory c.in-Directory.state) both.1 ∙ ap place_of (sym c.in-Directory.is)))) in
    ap (cell.Directory s e) (kept ∙ search rules)

pub returns-in-Cache-clause-protocol : goal.returns-in-Cache-clause-protocol
returns-in-Cache-clause-protocol c = c.with-tables-inside.ensures.protocol ∙ ap (λ (t : Tables). t.protocol) c.tables.view_is

pub returns-in-Directory-clause-protocol : goal.returns-in-Directory-clause-protocol
returns-in-Directory-clause-protocol c = ap (λ (t : Tables). t.protocol) c.tables.view_is

pub returns-in-Cache-clause-whole : goal.returns-in-Cache-clause-whole
returns-in-Cache-clause-whole c whole fits =
    let cache = subst (λ (t : Tables). cache_keeping.IsCacheTable t.protocol t.cache) (sym c.tables.view_is) whole.cache in
    let directory = subst (λ (t : Tables). directory_keeping.IsDirectoryTable t.protocol t.directory) (sym c.tables.view_is) whole.directory in
    whole-more c.args.tables _ c.args.cell.now (returns-in-Cache-clause-here c) (returns-in-Cache-clause-others c)
    (cache-more c.tables.inside.cache c.with-tables-inside.result c.in-Cache.state c.in-Cache.event c.in-Cache.entry
    c.with-tables-inside.ensures.table cache)
    (subst (λ p. directory_keeping.IsDirectoryTable p c.tables.inside.directory.cells) (sym c.with-tables-inside.ensures.protocol) directory) whole fits

pub returns-in-Directory-clause-whole : goal.returns-in-Directory-clause-whole
returns-in-Directory-clause-whole c whole fits =
    let cache = subst (λ (t : Tables). cache_keeping.IsCacheTable t.protocol t.cache) (sym c.tables.view_is) whole.cache in
    let directory = subst (λ (t : Tables). directory_keeping.IsDirectoryTable t.protocol t.directory) (sym c.tables.view_is) whole.directory in
    let made =
    directory-more c.tables.inside.directory c.with-tables-inside-in-Directory.result c.in-Directory.state c.in-Directory.event c.in-Directory.entry
    c.with-tables-inside-in-Directory.ensures.table
    (subst (λ p. directory_keeping.IsDirectoryTable p c.tables.inside.directory.cells) c.tables.invariant directory) in
    whole-more c.args.tables _ c.args.cell.now (returns-in-Directory-clause-here c) (returns-in-Directory-clause-others c) cache
    (subst (λ p. directory_keeping.IsDirectoryTable p c.with-tables-inside-in-Directory.result.cells)
    (c.with-tables-inside-in-Directory.ensures.protocol ∙ sym c.tables.invariant) made) whole fits
