use Rattle.cc_verdicts.proofs.ModuleVerdictLaws.{verdicts_exist, verdicts_are_unique}
use Rattle.cc_verdicts.proofs.module_laws.verdicts_of_one_text.Goals as goal

pub returns : goal.returns
returns c = record { exist = verdicts_exist; unique = verdicts_are_unique }
