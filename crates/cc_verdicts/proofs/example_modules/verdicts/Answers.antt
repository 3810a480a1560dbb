use Rattle.cc_verdicts.proofs.WorkedModules as worked
use Rattle.cc_verdicts.proofs.example_modules.verdicts.Goals as goal

pub returns : goal.returns
returns c =
    record {
      imports = worked.first_import_decides;
      names = worked.imports_come_before_names;
      second = worked.second_definition_is_refused;
      accepted = worked.second_names_the_first;
    }
