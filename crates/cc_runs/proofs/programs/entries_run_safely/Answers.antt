use Rattle.cc_runs.proofs.EntryRuns.{entries_are_typed, declared_devices_have_their_shapes, entries_run_safely}
use Rattle.cc_runs.proofs.programs.entries_run_safely.Goals as goal

pub returns : goal.returns
returns c = record { typed = entries_are_typed; declared = declared_devices_have_their_shapes; safe = entries_run_safely }
