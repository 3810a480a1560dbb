-- The laws of present texts, from those of one text.
use Rattle.cc_verdicts.specs.ModuleLaws.{VerdictsExist, VerdictsAreUnique, FindingsFit}
use Rattle.cc_verdicts.proofs.ModuleVerdictLaws as one_text
use Rattle.cc_verdicts.proofs.PresentVerdicts.{verdicts_exist, verdicts_are_unique, findings_fit_texts}

pub present_verdicts_exist : VerdictsExist
present_verdicts_exist = verdicts_exist one_text.verdicts_exist one_text.accepted_modules_are_sound

pub present_verdicts_are_unique : VerdictsAreUnique
present_verdicts_are_unique = verdicts_are_unique one_text.verdicts_are_unique

pub present_findings_fit : FindingsFit
present_findings_fit = findings_fit_texts one_text.accepted_modules_are_sound
