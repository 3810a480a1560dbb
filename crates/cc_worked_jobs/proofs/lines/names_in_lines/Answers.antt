use Rattle.cc_worked_jobs.proofs.WorkedLines as worked
use Rattle.cc_worked_jobs.proofs.lines.names_in_lines.Goals as goal

pub returns : goal.returns
returns c =
    record {
      modules = worked.modules_have_names;
      derived = worked.derived_definitions_have_names;
      run = worked.run_definitions_have_names;
      tasks = worked.task_definitions_have_names;
      audited = worked.audited_definitions_have_names;
      guarded = worked.guarded_definitions_have_names;
      explained = worked.explained_definitions_have_names;
      replayed = worked.replayed_definitions_have_names;
      devices = worked.devices_have_names;
      rules = worked.rules_have_names;
      text = worked.names_are_text;
      encoded = worked.names_are_encoded;
      encoded_in_rules = worked.rules_are_encoded;
      alike = worked.names_may_be_alike;
    }
