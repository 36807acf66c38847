use Rattle.std.proofs.Common.{◌≡◌, ◌≤◌, ◌∙◌, ap, arith, sym, length, vec_capacity, Some, true, false}
use Rattle.std.proofs.lemmas.Grind.{common_steps}
use Rattle.network.specs.Room.{requests_in, responses_in, forwards_in}
use Rattle.control.specs.HomeEffect.{value_in}
use Rattle.control.specs.inner.HomeCounting.{replies_by, links_of}
use Rattle.control.proofs.HomeCounts.{nothing-sent, requests-by, responses-by}
use Rattle.control.proofs.HomeLinks.{listed-all, listed-below, listed-count}
use Rattle.control.proofs.home_links.home_needs.Goals as goal

pub returns-in-Data-clause-ok : goal.returns-in-Data-clause-ok
returns-in-Data-clause-ok c =
    let none = nothing-sent (Some c.in-Data.field-0) c.args.actions c.args.home.now in
    record {
      requests = rw c.in-Data.is (ap requests_in none);
      links = λ cache. rw (c.in-Data.is, c.clear.ensures.items) (ap (forwards_in cache) none);
      responses = rw c.in-Data.is (ap responses_in none);
      below = grind (arith, common_steps);
    }

pub returns-in_ok-list_links-in-Request-clause-ok : goal.returns-in_ok-list_links-in-Request-clause-ok
returns-in_ok-list_links-in-Request-clause-ok c =
    let from = c.in-Request.request.from in
    let brought = value_in c.in-Request.request.kind in
    record {
      requests = rw c.in-Request.is (requests-by from brought c.args.actions c.args.home.now);
      links = λ cache.
          rw (c.in-Request.is, c.in_ok-list_links-in-Request.ensures.ok, c.as_slice.ensures.actions)
          (listed-all cache from brought c.args.actions c.args.home.now);
      responses =
          rw c.in-Request.is
          (responses-by from brought c.args.actions c.args.home.now
          ∙ sym (c.replies.ensures ∙ ap replies_by c.as_slice-in-Request.ensures.actions));
      below = λ caches named sender.
          rw (c.in_ok-list_links-in-Request.ensures.ok, c.as_slice.ensures.actions)
          (listed-below caches from c.args.actions c.args.home.now named (rw c.in-Request.is at sender));
    }

pub returns-in_err-list_links-in-Request-clause-succeeds : goal.returns-in_err-list_links-in-Request-clause-succeeds
returns-in_err-list_links-in-Request-clause-succeeds c enough =
    let room : length (links_of c.in-Request.request.from c.as_slice.result.now c.args.home.now) ≤ vec_capacity c.args.links.now =
    rw c.as_slice.ensures.actions
    (omega (arith, listed-count c.in-Request.request.from (value_in c.in-Request.request.kind) c.args.actions c.args.home.now, rw c.in-Request.is at enough)) in
    let wrong : false ≡ true = c.in_err-list_links-in-Request.ensures.succeeds room in
    cc
