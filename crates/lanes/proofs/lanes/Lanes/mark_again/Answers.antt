use Rattle.std.proofs.Common.{◌∙◌, sym}
use Rattle.base.specs.Steps.{block_of}
use Rattle.machine.specs.Made.{place_of}
use Rattle.lanes.proofs.Counting.{all-held, all-marked, all-right}
use Rattle.lanes.proofs.Touched.{agree-but, agree-line, at-home, held-told, home-only, none-acted, nowhere, same-asks}
use Rattle.lanes.proofs.lanes.Lanes.mark_again.Goals as goal

pub returns-in_default-clause-marked : goal.returns-in_default-clause-marked
returns-in_default-clause-marked g c now step before cb cn but listed done sb sn here follows were =
    let made = c.args.made.now in
    let tables = c.args.world.now.tables in
    all-right tables before now cb cn but (place_of made) (block_of step) c.args.self.now
    (nowhere made (none-acted made.acted c.in_default.not-Some)) sb sn were (agree-but tables step made before now cb cn sb follows)

pub returns-in_default-by-clause-marked : goal.returns-in_default-by-clause-marked
returns-in_default-by-clause-marked g c now step before cb cn but listed done sb sn here follows were =
    let made = c.args.made.now in
    let tables = c.args.world.now.tables in
    all-right tables before now cb cn but (place_of made) (block_of step) c.args.self.now
    (at-home made c.in-Some.acted c.in-Some.is (home-only c.in-Some.acted.by c.in_default-by.not-Line)) sb sn were
    (agree-but tables step made before now cb cn sb follows)

pub returns-then-eq-clause-marked : goal.returns-then-eq-clause-marked
returns-then-eq-clause-marked g c now step before cb cn but listed done sb sn here follows were =
    let made = c.args.made.now in
    let tables = c.args.world.now.tables in
    let told =
    held-told tables step made before now c.in-Some.acted c.in-Line.cache c.args.block c.in-Line.before c.in-Line.after sb sn here follows.told
    c.in-Some.is c.in-Line.is in
    all-held tables before now cb cn but c.in-Line.cache c.args.block c.held_asks-held.result c.args.self.now sb sn
    (told.were c.held_asks-held.result (λ a. same-asks c.held_asks-held.result c.held_asks.result (sym c.eq.ensures ∙ c.if-eq.true) a
    ∙ c.held_asks.ensures a)) (told.are c.held_asks-held.result (λ a. c.held_asks-held.ensures a)) were
    (agree-line tables step made before now c.in-Some.acted c.in-Line.cache c.args.block c.in-Line.before c.in-Line.after cb cn sb here follows
    c.in-Some.is c.in-Line.is)

pub returns-clause-marked : goal.returns-clause-marked
returns-clause-marked g c now step before cb cn but listed done sb sn here follows were =
    let made = c.args.made.now in
    let tables = c.args.world.now.tables in
    let told =
    held-told tables step made before now c.in-Some.acted c.in-Line.cache c.args.block c.in-Line.before c.in-Line.after sb sn here follows.told
    c.in-Some.is c.in-Line.is in
    all-marked tables before now cb cn but c.args.done c.in-Line.cache c.args.block c.held_asks-held.result c.args.self.now
    c.mark_core.new.self listed c.mark_core.ensures.same sb sn (told.are c.held_asks-held.result (λ a. c.held_asks-held.ensures a)) done were
    (agree-line tables step made before now c.in-Some.acted c.in-Line.cache c.args.block c.in-Line.before c.in-Line.after cb cn sb here follows
    c.in-Some.is c.in-Line.is) c.mark_core.ensures.each
