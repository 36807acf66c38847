use Rattle.std.proofs.Common.{◌++◌, ◌∷◌, [], None, Some, ap, arith, length, ◌∙◌}
use Rattle.std.proofs.lemmas.Grind.{common_steps}
use Rattle.network.specs.inner.Links.{on_link, unmarked_one}
use Rattle.network.proofs.Linked.{none-used, one_place-used, parts-set, parts-set_same, short-set}
use Rattle.network.proofs.Waits.{on_err}
use Rattle.network.proofs.links.send_on.Goals.{in-Ok, in-Err}
use Rattle.network.proofs.links.send_on.Goals as goal

pub returns-in_err-send-clause-sent : goal.returns-in_err-send-clause-sent
returns-in_err-send-clause-sent c = record {
  ok = grind (arith, common_steps);
  err = on_err c.from_residual.result (parts-set_same on_link c.args.links.now.items c.args.cache.0 (Some c.in-Some.link.now) c.send.new.self
      c.in-Some.ensures.item c.in_err-send.ensures.err);
  back = grind (arith, common_steps);
  succeeds = grind (arith, common_steps);
  room = one_place-used c.args.links.now.items c.args.cache.0 (Some c.in-Some.link.now) c.send.new.self c.requires c.in-Some.ensures.item
      (omega (arith, c.send.ensures.room));
}

pub returns-in-Some-clause-sent : goal.returns-in-Some-clause-sent
returns-in-Some-clause-sent c = record {
  ok = parts-set on_link c.args.links.now.items c.args.cache.0 (Some c.in-Some.link.now) c.send.new.self
      (λ xs. xs ++ unmarked_one c.args.forward ∷ []) c.in-Some.ensures.item c.in_ok-send.ensures.ok;
  err = grind (arith, common_steps);
  back = grind (arith, common_steps);
  succeeds = grind (arith, common_steps);
  room = one_place-used c.args.links.now.items c.args.cache.0 (Some c.in-Some.link.now) c.send.new.self c.requires c.in-Some.ensures.item
      (omega (arith, c.send.ensures.room));
}

pub returns-in-Some-clause-short : goal.returns-in-Some-clause-short
returns-in-Some-clause-short c =
    short-set c.args.links.now.items c.args.cache.0 c.send.new.self c.requires (omega (arith, c.len-count.ensures, c.len-count.type_inv))

pub returns-clause-sent : goal.returns-clause-sent
returns-clause-sent c = record {
  ok =
      elim c.match-put.branch [
        | in-Ok w ↦
            rw (w.result-is, w.in-Ok.ensures.ok)
            (parts-set on_link c.args.links.now.items c.args.cache.0 None c.send-2.new.self
            (λ xs. xs ++ unmarked_one c.args.forward ∷ []) c.in_default.ensures.item
            (c.in_ok-send-2.ensures.ok ∙ ap (λ xs. xs ++ unmarked_one c.args.forward ∷ []) c.open-link.ensures))
        | in-Err w ↦ rw w.result-is tt
      ];
  err = grind (arith, common_steps);
  back = grind (arith, common_steps);
  succeeds = grind (arith, common_steps);
  room =
      elim c.match-put.branch [
        | in-Ok w ↦
            rw w.in-Ok.ensures.ok
            (one_place-used c.args.links.now.items c.args.cache.0 None c.send-2.new.self c.requires c.in_default.ensures.item (omega arith))
        | in-Err w ↦ none-used c.args.links.now.items c.put.new.self.items c.args.cache.0 w.in-Err.ensures.err
      ];
}

pub returns-clause-short : goal.returns-clause-short
returns-clause-short c =
    let one = ap length (c.in_ok-send-2.ensures.ok ∙ ap (λ xs. xs ++ unmarked_one c.args.forward ∷ []) c.open-link.ensures) in
    elim c.match-put.branch [
      | in-Ok w ↦ rw (w.result-is, w.in-Ok.ensures.ok) (short-set c.args.links.now.items c.args.cache.0 c.send-2.new.self c.requires (omega arith))
      | in-Err w ↦ rw w.result-is tt
    ]
