use Rattle.std.proofs.Common.{refl, sym, ◌∙◌}
use Rattle.indexmap.proofs.CallerLemmas.{keys-with_value_at}
use Rattle.indexmap.specs.IndexMap.{spare, with_value_at}
use Rattle.rows.proofs.Held.{items-at, items-set, same_loan, updates-there}
use Rattle.rows.proofs.Hints.{kept-same_keys}
use Rattle.rows.proofs.sparse.Sparse.get_mut.Goals as goal

pub invariant_of-self-lent : goal.invariant_of-self-lent
invariant_of-self-lent g c =
    let held = c.self.inside.held in
    let index = c.in-Some.index in
    λ r. (
      λ w. kept-same_keys held.entries (with_value_at held index w).entries c.self.inside.places _ _ c.self.invariant.within
          c.index_of.ensures.hinted (keys-with_value_at held index w),
      record { within = c.self.invariant.within; hinted = c.index_of.ensures.hinted },
    )

pub returns-in-Some : goal.returns-in-Some
returns-in-Some g c =
    let held = c.self.inside.held in
    let index = c.in-Some.index in
    let places = c.self.inside.places in
    let value = c.get_index_mut.ensures.value ∙ c.in-Some.ensures.value in
    rw (← c.self.view_is) (
      same_loan c.get_index_mut.result _ _ _ _ _ value
          (λ some w i. record {
            items = items-set held.entries (with_value_at held index w).entries places c.args.at w
                (updates-there held index c.args.at w c.get_index_mut.ensures.unique c.in-Some.ensures.key _ c.in-Some.ensures.value some) i;
            keys = keys-with_value_at held index w i;
            spare = spare held;
          })
          refl,
      record { writes_back = tt; item = value ∙ sym (items-at held.entries places c.args.at c.self.invariant.within) },
    )

pub returns-in-None : goal.returns-in-None
returns-in-None g c =
    rw (← c.self.view_is) (
      refl,
      record {
        writes_back = tt;
        item = sym (items-at c.self.inside.held.entries c.self.inside.places c.args.at c.self.invariant.within ∙ c.in-None.ensures.none);
      },
    )
