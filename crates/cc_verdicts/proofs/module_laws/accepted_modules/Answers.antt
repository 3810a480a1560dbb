use Rattle.cc_verdicts.proofs.ModuleVerdictLaws.{accepted_modules_are_sound}
use Rattle.cc_verdicts.proofs.module_laws.accepted_modules.Goals as goal

pub returns : goal.returns
returns c = record { sound = accepted_modules_are_sound }
