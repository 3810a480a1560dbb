use Rattle.cc_device.proofs.ComputedAnswers.{consoles_take_lines, files_give_their_numbers, files_take_numbers, counters_count, other_kinds_do_not_answer, other_arguments_have_no_answer, devices_answer_by_their_numbers}
use Rattle.cc_device.proofs.device_laws.worked_answers.Goals as goal

pub returns : goal.returns
returns c =
    record {
      consoles = consoles_take_lines;
      files_give = files_give_their_numbers;
      files_take = files_take_numbers;
      counters = counters_count;
      other_kinds = other_kinds_do_not_answer;
      other_arguments = other_arguments_have_no_answer;
      by_number = devices_answer_by_their_numbers;
    }
