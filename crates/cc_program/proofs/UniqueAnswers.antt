-- What a call names by its existence is one.
use Rattle.cc_arguments.proofs.WordLaws.{one_thing}
use Rattle.cc_job.proofs.JobLaws.{one_job, one_bad_line}
use Rattle.cc_replies.proofs.OutputLaws.{outputs_are_unique}
use Rattle.cc_replies.proofs.StaleLaws.{stale_is_one}
use Rattle.cc_program.specs.UniqueAnswers.{AnswersAreUnique}

pub answers_are_unique : AnswersAreUnique
answers_are_unique = record {
  words = one_thing;
  jobs = one_job;
  bad_lines = one_bad_line;
  outputs = outputs_are_unique;
  stale = stale_is_one;
}
