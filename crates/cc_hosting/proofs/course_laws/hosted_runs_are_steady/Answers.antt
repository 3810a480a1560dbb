use Rattle.cc_hosting.proofs.SteadyCourses.{hosted_runs_are_steady}
use Rattle.cc_hosting.proofs.course_laws.hosted_runs_are_steady.Goals as goal

pub returns : goal.returns
returns c = hosted_runs_are_steady
