use Rattle.trials.proofs.Courses.{starts, ends-at-rest, ends-cut}
use Rattle.trials.proofs.CourseSteps.{goes-on}
use Rattle.trials.proofs.going.trials_go_on.Goals as goal

pub returns-clause-start : goal.returns-clause-start
returns-clause-start c = starts c.draws_follow_the_words.ensures.first

pub returns-clause-goes_on : goal.returns-clause-goes_on
returns-clause-goes_on c =
    goes-on c.one_step_more_may_have_the_first.ensures.none c.one_step_more_may_have_the_first.ensures.first
    c.draws_follow_the_words.ensures.next c.alike_trees_stay_alike.ensures.left c.alike_trees_give_the_same_choices.ensures

pub returns-clause-at_rest : goal.returns-clause-at_rest
returns-clause-at_rest c = ends-at-rest c.alike_trees_stay_alike.ensures.offers c.alike_trees_give_the_same_choices.ensures

pub returns-clause-cut : goal.returns-clause-cut
returns-clause-cut c = ends-cut c.alike_trees_give_the_same_choices.ensures
