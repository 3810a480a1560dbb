use Rattle.cc_worked_replies.proofs.WorkedSignatures as worked
use Rattle.cc_worked_replies.proofs.signatures.signatures_are_shown.Goals as goal

pub returns : goal.returns
returns c =
    record {
      definitions = worked.definitions_are_shown;
      importing = worked.importing_module_is_shown;
      none = worked.no_definition_is_shown;
    }
