use Rattle.std.proofs.Common.{◌≡◌, [], ◌∷◌, ◌++◌, ap, nat_eq, sym, ◌∙◌}
use Rattle.indexmap.proofs.CallerLemmas.{insert_entry-new}
use Rattle.rows.specs.inner.Items.{seen_entries}
use Rattle.rows.proofs.Copied.{all_copied, copied-more, not_copied}
use Rattle.rows.proofs.sparse.copy_all.Goals as goal

pub loop-at-init : goal.loop-at-init
loop-at-init g c =
    let seen = g.T.TryClone.seen in
    let empty : c.args.to.now.entries ≡ [] = c.requires in
    record {
      can = tt;
      ends = tt;
      copied = λ i. seen_entries seen (empty i) ++ seen_entries seen ((c.into_iter-at-iterator.ensures.into_iter_gives
          ∙ c.iter-at-items.ensures.rest) i);
    }

pub loop-at-preserved : goal.loop-at-preserved
loop-at-preserved g c =
    let seen = g.T.TryClone.seen in
    let all = c.args.from.now.entries in
    let copied : seen_entries seen c.loop-at.to.entries ++ seen_entries seen ((c.in-Some.at.now, c.in-Some.item.now) ∷ c.next.new.self) ≡
    seen_entries seen all =
    ap (λ es. seen_entries seen c.loop-at.to.entries ++ seen_entries seen es) (sym c.in-Some.ensures.steps) ∙ c.loop-at.invariant.copied in
    let none = not_copied seen all c.loop-at.to.entries c.next.new.self c.in-Some.at.now c.in-Some.item.now c.iter-at-items.ensures.unique copied in
    record {
      can = tt;
      ends = tt;
      copied =
          copied-more seen all c.loop-at.to.entries c.next.new.self c.insert.new.self.entries c.in-Some.at.now c.in-Some.item.now
          c.in_ok-try_clone.field-0 copied
          c.in_ok-try_clone.ensures
          (c.in_ok-insert.ensures.entries ∙ insert_entry-new nat_eq c.loop-at.to c.in-Some.at.now c.in_ok-try_clone.field-0 none);
    }

pub loop-at-preserved-in_ok-insert : goal.loop-at-preserved-in_ok-insert
loop-at-preserved-in_ok-insert g c =
    let seen = g.T.TryClone.seen in
    let all = c.args.from.now.entries in
    let copied : seen_entries seen c.loop-at.to.entries ++ seen_entries seen ((c.in-Some.at.now, c.in-Some.item.now) ∷ c.next.new.self) ≡
    seen_entries seen all =
    ap (λ es. seen_entries seen c.loop-at.to.entries ++ seen_entries seen es) (sym c.in-Some.ensures.steps) ∙ c.loop-at.invariant.copied in
    let none = not_copied seen all c.loop-at.to.entries c.next.new.self c.in-Some.at.now c.in-Some.item.now c.iter-at-items.ensures.unique copied in
    record {
      can = tt;
      ends = tt;
      copied =
          copied-more seen all c.loop-at.to.entries c.next.new.self c.insert.new.self.entries c.in-Some.at.now c.in-Some.item.now
          c.in_ok-try_clone.field-0 copied
          c.in_ok-try_clone.ensures
          (c.in_ok-insert.ensures.entries ∙ insert_entry-new nat_eq c.loop-at.to c.in-Some.at.now c.in_ok-try_clone.field-0 none);
    }

pub returns : goal.returns
returns g c =
    all_copied g.T.TryClone.seen c.args.from.now.entries c.loop-at.to.entries c.loop-at.at-iterator c.in-None.ensures.steps.0 c.loop-at.invariant.copied
