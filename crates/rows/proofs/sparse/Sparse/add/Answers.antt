use Rattle.std.proofs.Common.{◌≡◌, ◌<◌, ◌%◌, [], ◌∷◌, ◌++◌, None, arith, ap, length, nat_eq, set, subst, sym, ◌∙◌}
use Rattle.std.proofs.lemmas.Grind.{common_steps}
use Rattle.std.specs.Map.{keys_of, lookup}
use Rattle.std.proofs.lemmas.List.{map-append}
use Rattle.indexmap.proofs.CallerLemmas.{insert_entry-new}
use Rattle.indexmap.specs.IndexMap.{index_map_len}
use Rattle.rows.specs.Row.{item}
use Rattle.rows.specs.inner.Items.{AreHinted}
use Rattle.rows.proofs.Held.{items-at, items-length, items-set, within-insert}
use Rattle.rows.proofs.sparse.Sparse.add.Goals as goal

pub invariant_of-self : goal.invariant_of-self
invariant_of-self g c =
    let below : c.args.at < length c.args.self.now.items = c.requires.inside in
    let inside = rw (← c.self.view_is) at below in
    record {
      within = within-insert c.self.inside.held.entries c.insert.new.self.entries c.self.inside.places c.args.at c.args.value
          (omega (arith, items-length c.self.inside.held.entries c.self.inside.places, inside)) c.self.invariant.within
          (λ updates. updates.0) c.insert.result c.insert.ensures.updates c.insert.ensures.err;
      hinted = λ e.
          let held = c.self.inside.held.entries in
          let free : item c.args.self.now c.args.at ≡ None = c.requires.free in
          let none : lookup (nat_eq c.args.at) held ≡ None = sym (items-at held c.self.inside.places c.args.at c.self.invariant.within)
          ∙ rw (← c.self.view_is) at free in
          let order : keys_of c.insert.new.self.entries ≡ keys_of held ++ c.args.at ∷ [] =
          ap keys_of (c.in-Ok.ensures.entries ∙ insert_entry-new nat_eq c.self.inside.held c.args.at c.args.value none)
          ∙ map-append (λ e. e.0) held ((c.args.at, c.args.value) ∷ []) in
          let hints : c.remember.new.hints ≡ set c.self.inside.hints (c.args.at % 64) (index_map_len c.self.inside.held % 65536) =
          c.remember.ensures ∙ ap (λ n. set c.self.inside.hints (c.args.at % 64) (n % 65536)) c.len-index.ensures.len in
          subst (λ ks. AreHinted ks c.remember.new.hints) (sym order)
          (subst (λ hs. AreHinted (keys_of held ++ c.args.at ∷ []) hs) (sym hints) (c.stays_exact-exact.ensures e));
    }

pub returns-in-Ok-clause-ok : goal.returns-in-Ok-clause-ok
returns-in-Ok-clause-ok g c =
    rw (← c.self.view_is)
    (items-set c.self.inside.held.entries c.insert.new.self.entries c.self.inside.places c.args.at c.args.value c.in-Ok.ensures.updates.0)

pub returns-in-Ok-clause-order : goal.returns-in-Ok-clause-order
returns-in-Ok-clause-order g c =
    let held = c.self.inside.held.entries in
    let free : item c.args.self.now c.args.at ≡ None = c.requires.free in
    let none : lookup (nat_eq c.args.at) held ≡ None = sym (items-at held c.self.inside.places c.args.at c.self.invariant.within)
    ∙ rw (← c.self.view_is) at free in
    rw (← c.self.view_is)
    (ap keys_of (c.in-Ok.ensures.entries ∙ insert_entry-new nat_eq c.self.inside.held c.args.at c.args.value none)
    ∙ map-append (λ e. e.0) held ((c.args.at, c.args.value) ∷ []))

pub returns-in-Ok-clause-err : goal.returns-in-Ok-clause-err
returns-in-Ok-clause-err g c = grind (arith, common_steps)

pub returns-in-Ok-clause-err_order : goal.returns-in-Ok-clause-err_order
returns-in-Ok-clause-err_order g c = grind (arith, common_steps)

pub returns-in-Ok-clause-back : goal.returns-in-Ok-clause-back
returns-in-Ok-clause-back g c = grind (arith, common_steps)

pub returns-in-Ok-clause-succeeds : goal.returns-in-Ok-clause-succeeds
returns-in-Ok-clause-succeeds g c = grind (arith, common_steps)

pub returns-in-Ok-clause-room : goal.returns-in-Ok-clause-room
returns-in-Ok-clause-room g c = grind (arith, common_steps)

pub invariant_of-self-in-Err : goal.invariant_of-self-in-Err
invariant_of-self-in-Err g c = grind (arith, common_steps)

pub returns-clause-ok : goal.returns-clause-ok
returns-clause-ok g c = grind (arith, common_steps)

pub returns-clause-order : goal.returns-clause-order
returns-clause-order g c = grind (arith, common_steps)

pub returns-clause-err : goal.returns-clause-err
returns-clause-err g c = grind (arith, common_steps)

pub returns-clause-err_order : goal.returns-clause-err_order
returns-clause-err_order g c = grind (arith, common_steps)

pub returns-clause-back : goal.returns-clause-back
returns-clause-back g c = grind (arith, common_steps)

pub returns-clause-succeeds : goal.returns-clause-succeeds
returns-clause-succeeds g c = grind (arith, common_steps)

pub returns-clause-room : goal.returns-clause-room
returns-clause-room g c = grind (arith, common_steps)
