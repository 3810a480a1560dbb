use Rattle.cc_runs.proofs.Finality.{final_exactly_where_answered, final_states_are_answered}
use Rattle.cc_runs.proofs.runs.answers_are_final.Goals as goal

pub returns : goal.returns
returns c =
    record {
      configurations = final_exactly_where_answered;
      states = final_states_are_answered;
    }
