use Rattle.std.proofs.Common.{◌++◌, ◌∷◌, [], refl}
use Rattle.base.specs.Words.{words}
use Rattle.record.specs.View.{owner_list}
use Rattle.record.specs.inner.Drafts.{recorded}
use Rattle.record.proofs.Drafting.{entry-taken}
use Rattle.record.proofs.Telling.{added-room, same-room}
use Rattle.record.proofs.Exits.{handed-on}
use Rattle.record_lines.proofs.Splitting.{told-fault}
use Rattle.record.proofs.draft.accept_entry.Goals as goal

pub returns-in_err-told-clause-err : goal.returns-in_err-told-clause-err
returns-in_err-told-clause-err g c =
    handed-on c.from_residual.result _ _ _ c.from_residual.ensures.1
    (told-fault c.args.form c.args.left (words c.args.line.now) _ c.in_err-told.ensures.err)

pub returns-clause-ok : goal.returns-clause-ok
returns-clause-ok g c r read told = record {
  all = r.entries ++ c.in_ok-told.told.entry ∷ [];
  owners = r.owners ++ owner_list c.in_ok-told.told.owner;
  taken = entry-taken c.args.form r _ _ c.args.left c.in_ok-told.told _ _ read c.in_ok-told.ensures.fits c.in_ok-told.ensures.ok refl refl c.entries.ensures;
  told = c.add.ensures.told (recorded r) told;
}

pub returns-in_err-told-clause-space : goal.returns-in_err-told-clause-space
returns-in_err-told-clause-space g c n = same-room g.N.Entries.has_room c.args.entries.now n

pub returns-clause-space : goal.returns-clause-space
returns-clause-space g c n = added-room g.N.Entries.has_room c.args.entries.now c.add.new.self n c.add.ensures.room
