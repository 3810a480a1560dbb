use Rattle.cc_runs.proofs.WorkedAuthorities.{authorities_of_sets, entries_start_soundly, idle_operates_nothing, others_operate_the_console}
use Rattle.cc_runs.proofs.run_examples.worked_authorities.Goals as goal

pub returns : goal.returns
returns c =
    record {
      sets = authorities_of_sets;
      sound = entries_start_soundly;
      nothing = idle_operates_nothing;
      console = others_operate_the_console;
    }
