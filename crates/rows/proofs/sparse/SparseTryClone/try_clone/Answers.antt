use Rattle.rows.proofs.Copied.{items-alike, keys-alike}
use Rattle.rows.proofs.Hints.{kept-same_keys}
use Rattle.rows.proofs.sparse.SparseTryClone.try_clone.Goals as goal

pub invariant_of-result : goal.invariant_of-result
invariant_of-result g c =
    let all = c.self.inside.held.entries in
    let new = c.copy_all.new.to.entries in
    kept-same_keys all new c.self.inside.places _ _ c.self.invariant.within c.self.invariant.hinted
    (keys-alike g.T.TryClone.seen new all c.in_ok-copy_all.ensures)

pub returns : goal.returns
returns g c =
    let all = c.self.inside.held.entries in
    let new = c.copy_all.new.to.entries in
    rw (← c.self.view_is) (λ i. record {
      items = items-alike g.T.TryClone.seen new all c.self.inside.places c.in_ok-copy_all.ensures i;
      keys = keys-alike g.T.TryClone.seen new all c.in_ok-copy_all.ensures i;
    })
