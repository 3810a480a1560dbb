use Rattle.cc_runs.proofs.WorkedLinks.{equal_names_are_apart, equal_names_run_apart, app_is_an_entry, cap_is_an_entry, boundary_is_an_entry}
use Rattle.cc_runs.proofs.programs.worked_links.Goals as goal

pub returns : goal.returns
returns c =
    record {
      linked = equal_names_are_apart;
      runs = equal_names_run_apart;
      entry = app_is_an_entry;
      every = cap_is_an_entry;
      boundary = boundary_is_an_entry;
    }
