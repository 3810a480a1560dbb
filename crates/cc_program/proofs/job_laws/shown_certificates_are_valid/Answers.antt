use Rattle.cc_program.proofs.VerifiedTexts as law
use Rattle.cc_program.proofs.job_laws.shown_certificates_are_valid.Goals as goal

pub returns-clause-proved : goal.returns-clause-proved
returns-clause-proved c = law.verified_types_are_proved

pub returns-clause-shown : goal.returns-clause-shown
returns-clause-shown c = law.shown_certificates_are_valid
