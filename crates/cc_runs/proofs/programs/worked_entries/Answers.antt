use Rattle.cc_runs.proofs.WorkedEntry.{main_is_an_entry}
use Rattle.cc_runs.proofs.WorkedTasks.{main_is_linked, main_runs, modules_stand_in_order}
use Rattle.cc_runs.proofs.programs.worked_entries.Goals as goal

pub returns : goal.returns
returns c =
    record { entry = main_is_an_entry; linked = main_is_linked; runs = main_runs; order = modules_stand_in_order }
