use Rattle.cc_runs.proofs.WorkedApart.{one_and_nine_are_entries, one_and_nine_run_as_alone}
use Rattle.cc_runs.proofs.interleavings.worked_entries_run_as_alone.Goals as goal

pub returns : goal.returns
returns c = record { entries = one_and_nine_are_entries; alone = one_and_nine_run_as_alone }
