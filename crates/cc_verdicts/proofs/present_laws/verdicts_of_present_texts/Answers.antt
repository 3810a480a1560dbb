use Rattle.cc_verdicts.proofs.PresentLaws.{present_verdicts_exist, present_verdicts_are_unique, present_findings_fit}
use Rattle.cc_verdicts.proofs.present_laws.verdicts_of_present_texts.Goals as goal

pub returns-clause-exist : goal.returns-clause-exist
returns-clause-exist c = present_verdicts_exist

pub returns-clause-unique : goal.returns-clause-unique
returns-clause-unique c = present_verdicts_are_unique

pub returns-clause-fit : goal.returns-clause-fit
returns-clause-fit c = present_findings_fit
