use Rattle.desk.specs.Plans.{plan_of}
use Rattle.tests_of_desks.proofs.refusing.desks.a_desk_and_its_posts.Given as goal

abbrev pub ghosts-posts : goal.ghosts-posts
ghosts-posts g a = record { plan = plan_of a.job.now }
