use Rattle.std.proofs.Common.{sym, [], refl, subst, ◌∙◌, arith}
use Rattle.std.proofs.lemmas.List.{length_push}
use Rattle.replays.specs.inner.Making.{HasCome, HasMade}
use Rattle.record.specs.View.{with_owned}
use Rattle.replays.proofs.Makings.{stays-refused, to-come}
use Rattle.replays.proofs.making.MadeEntriesEntries.add.Goals as goal

pub returns-in_default : goal.returns-in_default
returns-in_default c = record {
  told = λ r h. (
    omega (arith, h.0, length_push r.entries c.args.told.entry),
    stays-refused r c.args.told.entry c.args.told.owner c.args.self.now.stage c.in_default.not-Same h.1,
  );
  room = λ n h. tt;
}

pub returns-in-Err-clause-told : goal.returns-in-Err-clause-told
returns-in-Err-clause-told c r h =
    let came : HasMade r c.in-Same.run' = subst (HasCome r) c.in-Same.is h.1 in (
      omega (arith, h.0, length_push r.entries c.args.told.entry),
      subst (HasCome (with_owned r c.args.told.entry c.args.told.owner)) (sym c.stop.ensures)
          (c.in-Err.ensures.differs (with_owned r c.args.told.entry c.args.told.owner) r.entries [] (c.from-number.ensures ∙ h.0)
          (to-come r c.args.told.entry c.args.told.owner r.entries c.in-Same.run' came) refl),
    )

pub returns-in_default-make-clause-told : goal.returns-in_default-make-clause-told
returns-in_default-make-clause-told c r h =
    let came : HasMade r c.in-Same.run' = subst (HasCome r) c.in-Same.is h.1 in (
      omega (arith, h.0, length_push r.entries c.args.told.entry),
      c.in_default-make.ensures.ok (with_owned r c.args.told.entry c.args.told.owner) r.entries (c.from-number.ensures ∙ h.0)
          (to-come r c.args.told.entry c.args.told.owner r.entries c.in-Same.run' came),
    )
