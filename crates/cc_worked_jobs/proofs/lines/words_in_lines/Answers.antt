use Rattle.cc_worked_jobs.proofs.WorkedLines as worked
use Rattle.cc_worked_jobs.proofs.lines.words_in_lines.Goals as goal

pub returns : goal.returns
returns c =
    record {
      modules = worked.module_commands_have_their_words;
      definitions = worked.definition_commands_have_their_words;
      tasks = worked.task_commands_have_their_words;
      policies = worked.policy_commands_have_their_words;
      others = worked.other_commands_have_their_words;
      devices = worked.devices_have_their_words;
      spaces = worked.lines_are_words;
      bytes = worked.texts_are_any_bytes;
      first = worked.jobs_have_their_first_line;
      first_bad = worked.first_bad_line_is_told;
    }
