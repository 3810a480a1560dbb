use Rattle.cc_hosting.proofs.OneCourse.{hosted_runs_exist, hosted_runs_are_one}
use Rattle.cc_hosting.proofs.course_laws.hosted_runs_are_one.Goals as goal

pub returns : goal.returns
returns c = record { exist = hosted_runs_exist; one = hosted_runs_are_one }
