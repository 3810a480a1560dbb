use Rattle.cc_runs.proofs.WorkedStops.{cells_are_needed, arguments_are_as_wanted, scopes_are_found, exits_need_their_scopes, answers_are_needed, shown_cells_are_needed}
use Rattle.cc_runs.proofs.run_examples.worked_stops.Goals as goal

pub returns : goal.returns
returns c =
    record {
      cells = cells_are_needed;
      arguments = arguments_are_as_wanted;
      scopes = scopes_are_found;
      exits = exits_need_their_scopes;
      answers = answers_are_needed;
      shown = shown_cells_are_needed;
    }
