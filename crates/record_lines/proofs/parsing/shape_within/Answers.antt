use Rattle.std.proofs.Common.{◌≤◌, arith}
use Rattle.record_lines.proofs.Shapes.{no-shape}
use Rattle.record_lines.proofs.parsing.shape_within.Goals as goal

pub returns-in-Err-clause-none : goal.returns-in-Err-clause-none
returns-in-Err-clause-none c =
    let few-caches : c.in_ok-caches.caches ≤ 4096 = omega (arith, c.in_ok-caches.ensures.0, c.most_caches.ensures.most, c.most_caches.ensures.small) in
    let few-blocks : c.in_ok-blocks.blocks ≤ 65536 = omega (arith, c.in_ok-blocks.ensures.0, c.most_blocks.ensures.most, c.most_blocks.ensures.small) in
    λ shape within.
    no-shape c.in_ok-caches.caches c.in_ok-blocks.blocks c.in-Err.field-0 c.args.caches.now c.args.blocks.now c.in-Err.ensures.fault few-caches few-blocks
    c.in_ok-caches.ensures.1 c.in_ok-blocks.ensures.1 shape within.within
