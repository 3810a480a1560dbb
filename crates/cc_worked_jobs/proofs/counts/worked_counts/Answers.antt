use Rattle.cc_worked_jobs.proofs.WorkedCounts as worked
use Rattle.cc_worked_jobs.proofs.counts.worked_counts.Goals as goal

pub returns : goal.returns
returns c =
    record {
      bounded = worked.counts_are_bounded;
      great = worked.great_counts;
      summaries = worked.summaries_are_bounded;
    }
