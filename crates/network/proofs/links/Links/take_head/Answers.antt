use Rattle.std.proofs.Common.{[], ◌≡◌, Some, ap, arith, get_or, length, map, not, remove, sym, ◌∙◌}
use Rattle.std.proofs.lemmas.List.{length-map}
use Rattle.std.proofs.lemmas.List.Sums.{sum_by-set}
use Rattle.network.specs.inner.Links.{marks_in, on_link}
use Rattle.network.specs.Marks.{is_stopped}
use Rattle.network.proofs.Counted.{taken-none, taken-some}
use Rattle.network.proofs.Linked.{linked-same, linked-taken, parts-at, parts-set, parts-set_same, room-kept, used-below}
use Rattle.network.proofs.links.Links.take_head.Goals as goal

pub invariant_of-self-in_err-forward : goal.invariant_of-self-in_err-forward
invariant_of-self-in_err-forward c =
    linked-same _ _ _ _ _
    (parts-set_same on_link c.self.inside.links.items c.args.cache.0 (Some c.in_ok-link.link.now) c.take.new.self c.in_ok-link.ensures.item
    (c.take.ensures.left ∙ taken-none c.in_ok-link.link.now.sent c.in_err-forward.ensures.taken)) c.self.invariant

pub returns-in_err-forward-clause-left : goal.returns-in_err-forward-clause-left
returns-in_err-forward-clause-left c =
    rw (← c.self.view_is)
    (parts-set on_link c.self.inside.links.items c.args.cache.0 (Some c.in_ok-link.link.now) c.take.new.self (λ xs. remove xs 0)
    c.in_ok-link.ensures.item c.take.ensures.left)

pub returns-in_err-forward-clause-room : goal.returns-in_err-forward-clause-room
returns-in_err-forward-clause-room c =
    rw (← c.self.view_is)
    (room-kept c.self.inside.links.items c.args.cache.0 (Some c.in_ok-link.link.now) c.take.new.self
    (used-below c.self.inside.links.items c.args.cache.0 c.in_ok-link.link.now c.in_ok-link.ensures.item)
    c.in_ok-link.ensures.item (omega (arith, c.take.ensures.room)))

pub overflow_sub-self : goal.overflow_sub-self
overflow_sub-self c =
    let items = c.self.inside.links.items in
    let i = c.args.cache.0 in
    let here = ap length (parts-at on_link items i ∙ ap on_link (sym c.in_ok-link.ensures.item)) in
    let some = taken-some c.in_ok-link.link.now.sent c.in_ok-forward.forward c.in_ok-forward.ensures.taken in
    let within = used-below items i c.in_ok-link.link.now c.in_ok-link.ensures.item in
    omega (arith, sum_by-set length (map on_link items) i [] [] (omega (arith, length-map items on_link)), c.self.invariant.count)

pub invariant_of-self-2 : goal.invariant_of-self-2
invariant_of-self-2 c =
    let items = c.self.inside.links.items in
    let i = c.args.cache.0 in
    let ls = map on_link items in
    let here : get_or ls i [] ≡ c.in_ok-link.link.now.sent = parts-at on_link items i ∙ ap on_link (sym c.in_ok-link.ensures.item) in
    let left : c.take.new.self.sent ≡ remove (get_or ls i []) 0 = c.take.ensures.left ∙ ap (λ xs. remove xs 0) (sym here) in
    let some = taken-some c.in_ok-link.link.now.sent c.in_ok-forward.forward c.in_ok-forward.ensures.taken in
    let within = used-below items i c.in_ok-link.link.now c.in_ok-link.ensures.item in
    rw (c.set.ensures, c.set-2.ensures)
    (linked-same _ _ _ _ _
    (parts-set on_link items i (Some c.in_ok-link.link.now) c.take.new.self (λ xs. remove xs 0) c.in_ok-link.ensures.item c.take.ensures.left)
    (linked-taken ls i c.len.result c.has_free_head.result c.self.inside.waiting c.self.inside.free c.self.inside.count
    (omega (arith, length-map items on_link)) (omega (arith, ap length here)) c.self.invariant (c.len.ensures ∙ ap length left)
    (c.has_free_head.ensures ∙ ap (λ xs. not (is_stopped (marks_in xs))) left)))

pub returns-clause-left : goal.returns-clause-left
returns-clause-left c =
    rw (← c.self.view_is)
    (parts-set on_link c.self.inside.links.items c.args.cache.0 (Some c.in_ok-link.link.now) c.take.new.self (λ xs. remove xs 0)
    c.in_ok-link.ensures.item c.take.ensures.left)

pub returns-clause-room : goal.returns-clause-room
returns-clause-room c =
    rw (← c.self.view_is)
    (room-kept c.self.inside.links.items c.args.cache.0 (Some c.in_ok-link.link.now) c.take.new.self
    (used-below c.self.inside.links.items c.args.cache.0 c.in_ok-link.link.now c.in_ok-link.ensures.item)
    c.in_ok-link.ensures.item (omega (arith, c.take.ensures.room)))
