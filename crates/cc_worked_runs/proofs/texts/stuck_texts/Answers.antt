use Rattle.cc_worked_runs.proofs.WorkedStuckTexts as worked
use Rattle.cc_worked_runs.proofs.texts.stuck_texts.Goals as goal

pub returns : goal.returns
returns c =
    record {
      applied = worked.only_functions_are_applied;
      instantiated = worked.only_type_functions_are_instantiated;
      opened = worked.only_boxes_are_opened;
      operators = worked.operators_take_numbers;
      choices = worked.choices_take_truths;
      repetitions = worked.repetitions_take_numbers;
      exits = worked.exits_are_of_boundaries;
      scopes = worked.exits_need_their_scopes;
      devices = worked.operations_are_of_their_devices;
      arguments = worked.operations_take_their_arguments;
      whole = worked.stops_on_its_way;
    }
