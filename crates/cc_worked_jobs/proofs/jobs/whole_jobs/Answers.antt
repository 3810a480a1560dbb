use Rattle.cc_worked_jobs.proofs.WorkedJobs as worked
use Rattle.cc_worked_jobs.proofs.jobs.whole_jobs.Goals as goal

pub returns : goal.returns
returns c =
    record {
      carried_out = worked.each_command_is_carried_out c.certificates_are_judged.ensures.valid;
      refused = worked.each_command_is_refused c.certificates_are_judged.ensures.nothing;
      rules = worked.no_rules_deny;
      last = worked.last_ones_count;
      nothing = worked.no_command_writes_nothing;
    }
