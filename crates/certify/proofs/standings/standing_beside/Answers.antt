use Rattle.std.proofs.Common.{◌∙◌, ap, sym, subst}
use Rattle.cache_table.specs.Table as cache_table
use Rattle.directory_table.specs.Table as directory_table
use Rattle.tables.specs.Tables.{Tables, baseline_of}
use Rattle.tables.specs.declared.cell_places.CellPlace.{CellPlace}
use Rattle.certify.specs.Standings.{HasStanding}
use Rattle.certify.proofs.OwnEntries.{same-reason}
use Rattle.certify.proofs.standings.standing_beside.Goals as goal

pub returns-in-Cache : goal.returns-in-Cache
returns-in-Cache c =
    let t : Tables = c.args.tables.now in
    subst (λ (p : CellPlace). HasStanding t p c.reason.result) (sym c.in-Cache.is)
    (same-reason c.entry.result (cache_table.cell (baseline_of t.protocol).cache c.in-Cache.state c.in-Cache.event)
    c.entry-in-Cache.result (cache_table.cell t.cache c.in-Cache.state c.in-Cache.event) c.reason.result
    (c.entry.ensures.entry ∙ ap (λ (u : Tables). cache_table.cell u.cache c.in-Cache.state c.in-Cache.event) (c.own.view_is ∙ c.requires))
    (c.entry-in-Cache.ensures.entry ∙ ap (λ (u : Tables). cache_table.cell u.cache c.in-Cache.state c.in-Cache.event) c.tables.view_is) c.reason.ensures)

pub returns-in-Directory : goal.returns-in-Directory
returns-in-Directory c =
    let t : Tables = c.args.tables.now in
    subst (λ (p : CellPlace). HasStanding t p c.reason-in-Directory.result) (sym c.in-Directory.is)
    (same-reason c.entry-in-Directory.result (directory_table.cell (baseline_of t.protocol).directory c.in-Directory.state c.in-Directory.event)
    c.entry-in-Directory-2.result (directory_table.cell t.directory c.in-Directory.state c.in-Directory.event) c.reason-in-Directory.result
    (c.entry-in-Directory.ensures.entry ∙ ap (λ (u : Tables). directory_table.cell u.directory c.in-Directory.state c.in-Directory.event) (c.own.view_is ∙ c.requires))
    (c.entry-in-Directory-2.ensures.entry ∙ ap (λ (u : Tables). directory_table.cell u.directory c.in-Directory.state c.in-Directory.event) c.tables.view_is)
    c.reason-in-Directory.ensures)
