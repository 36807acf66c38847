use Rattle.std.proofs.Common.{◌≡◌, ◌∙◌, ap, sym, Ok}
use Rattle.cache_table.specs.Baseline as cache_baseline
use Rattle.cache_table.specs.Table as cache_table
use Rattle.directory_table.specs.Baseline as directory_baseline
use Rattle.directory_table.specs.Table as directory_table
use Rattle.tables.specs.Tables.{Tables}
use Rattle.tables.proofs.overrides.overridden.Goals as goal

pub returns-clause-gives : goal.returns-clause-gives
returns-clause-gives c =
    let p = c.args.protocol in
    let lines : cache_table.CacheTableView = cache_table.laid_over c.in_ok-of_cache.of_cache.items (record { protocol = p; cells = cache_baseline.baseline_cells p }) in
    let homes : directory_table.DirectoryTableView =
    directory_table.laid_over c.in_ok-of_directory.of_directory.items (record { protocol = p; cells = directory_baseline.baseline_cells p }) in
    let cache : c.with_changes.result ≡ lines =
    c.with_changes.ensures.table ∙ ap (λ cs. cache_table.laid_over cs c.baseline_of.result) c.as_slice.ensures.value
    ∙ ap (cache_table.laid_over c.in_ok-of_cache.of_cache.items) c.baseline_of.ensures.table in
    let directory : c.with_changes-2.result ≡ homes =
    c.with_changes-2.ensures.table ∙ ap (λ cs. directory_table.laid_over cs c.baseline_of-2.result) c.as_slice-2.ensures.value
    ∙ ap (directory_table.laid_over c.in_ok-of_directory.of_directory.items) c.baseline_of-2.ensures.table in
    let protocol : c.with_changes.result.protocol ≡ p = c.with_changes.ensures.protocol
    ∙ ap (λ (t : cache_table.CacheTableView). t.protocol) c.baseline_of.ensures.table in
    rw (← c.in-Some.ensures, c.in_ok-of_cache.ensures.changes, c.in_ok-of_directory.ensures.changes)
    (ap (λ q. let t : Tables = record { protocol = q; cache = lines.cells; directory = homes.cells } in Ok t) (sym protocol)
    ∙ ap (λ (l : cache_table.CacheTableView). let t : Tables = record { protocol = c.with_changes.result.protocol; cache = l.cells; directory = homes.cells } in
    Ok t) (sym cache)
    ∙ ap (λ (h : directory_table.DirectoryTableView). let t : Tables =
    record { protocol = c.with_changes.result.protocol; cache = c.with_changes.result.cells; directory = h.cells } in Ok t) (sym directory))
