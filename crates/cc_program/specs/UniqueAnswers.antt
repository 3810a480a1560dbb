-- What the contract of a call names by its existence is one thing alone: no other would do as well.
use Rattle.cc_arguments.specs.Words.{WordsAskForOneThing}
use Rattle.cc_job.specs.Jobs.{BytesHaveOneJob, BytesHaveOneBadLine}
use Rattle.cc_replies.specs.Outputs.{OutputsAreUnique}
use Rattle.cc_replies.specs.StaleModules.{StaleModulesAreCountedOnce}

-- The words ask for one thing; bytes are the text of one job, or have one bad line; the commands of a job have one output,
-- of which it is told in one way whether a reply is a refusal; and they find one number of modules stale.
pub record AnswersAreUnique : Type 0 where
  pub words : WordsAskForOneThing
  pub jobs : BytesHaveOneJob
  pub bad_lines : BytesHaveOneBadLine
  pub outputs : OutputsAreUnique
  pub stale : StaleModulesAreCountedOnce
