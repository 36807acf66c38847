use Rattle.std.proofs.Common.{◌≡◌, ◌∙◌, None, ap, length, refl, replicate, sym}
use Rattle.std.proofs.lemmas.List.{length-map}
use Rattle.control.specs.Homes.{opened_home}
use Rattle.network.specs.Traffic.{quiet}
use Rattle.blocks.specs.inner.Lined.{lines_of}
use Rattle.blocks.proofs.Opening.{held-opened, lines-opened, none-kept}
use Rattle.blocks.proofs.block.Block.reset.Goals as goal
use Rattle.blocks.proofs.block.Block.reset.Goals.{After-clear-2}

count : (c : After-clear-2) → length c.self.inside.lines.items ≡ length (lines_of c.self.inside.lines.items)
count c = sym (length-map c.self.inside.lines.items _)

lines : (c : After-clear-2) → c.clear.new.self.items ≡ replicate (length (lines_of c.self.inside.lines.items)) None
lines c = c.clear.ensures.items ∙ ap (λ n. replicate n None) (count c)

home : (c : After-clear-2) → c.reset.new.self ≡ opened_home (length (lines_of c.self.inside.lines.items)) c.args.value
home c = c.reset.ensures ∙ ap (λ n. opened_home n c.args.value) c.self.invariant.among.home.sharers

traffic : (c : After-clear-2) → c.clear-2.new.self.traffic ≡ quiet (length (lines_of c.self.inside.lines.items))
traffic c = c.clear-2.ensures.traffic ∙ ap quiet c.self.invariant.among.links

pub invariant_of-self : goal.invariant_of-self
invariant_of-self c =
    rw (lines c, home c, traffic c, c.none-self-inside.ensures, lines-opened (length (lines_of c.self.inside.lines.items)))
    (held-opened (length (lines_of c.self.inside.lines.items)) c.args.value c.self.invariant.few)

pub returns-clause-state : goal.returns-clause-state
returns-clause-state c =
    rw (← c.self.view_is) (rw (lines c, home c, traffic c, lines-opened (length (lines_of c.self.inside.lines.items))) refl)

pub returns-clause-lines : goal.returns-clause-lines
returns-clause-lines c = rw (← c.self.view_is) (rw (lines c) (none-kept (length (lines_of c.self.inside.lines.items))))
