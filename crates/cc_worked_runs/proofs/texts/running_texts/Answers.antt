use Rattle.cc_worked_runs.proofs.WorkedRunningTexts as worked
use Rattle.cc_worked_runs.proofs.texts.running_texts.Goals as goal

pub returns : goal.returns
returns c =
    record {
      fuel = worked.fuel_is_exact;
      names = worked.names_need_no_cell;
      boxes = worked.boxes_run;
      choices = worked.choices_run;
      boundaries = worked.boundaries_run;
      boxes_pass = worked.boxes_pass;
      repetitions = worked.repetitions_run;
      repetition_left = worked.repetitions_are_left;
      calls = worked.calls_run;
      devices = worked.devices_keep_what_was_done;
      wrapping = worked.numbers_wrap_in_runs;
      file = worked.files_are_read;
      recursion = worked.recursion_runs;
      shown = worked.answers_are_shown;
    }
