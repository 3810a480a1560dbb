-- Worked certificates, policies and what asks for them, by computation.
use Rattle.std.proofs.Common.{refl}
use Rattle.std.specs.Fmt.{digits}
use Rattle.std.specs.Str.{is_utf8, chars}
use Rattle.unicode_ident.proofs.Computing.{unicode_ident}
use Rattle.cc_base.specs.Names.{is_reserved, reserved_words}
use Rattle.cc_words.specs.Words.{name_of, number_of, pair_of}
use Rattle.cc_job.specs.Reading.{check_of, verify_of, policy_of, audit_of, guard_of, permission_of, scope_of, rule_with, rule_of, command_with, head_with, head_of, admits, next_item}
use Rattle.cc_job.specs.JobExamples.{CertificateJob, PolicyJob}
use Rattle.cc_job.specs.LimitExamples as example
use Rattle.cc_job.proofs.ReadJobs.{job_found, bad_found, short_found}
use lib.Utf8.{encode}

unfoldable policy_reading : Unit {0}
unfolding next_item head_of head_with command_with check_of verify_of policy_of audit_of guard_of permission_of scope_of rule_with rule_of pair_of name_of number_of admits unicode_ident is_reserved reserved_words is_utf8 chars encode digits
policy_reading = tt

pub certificate_job : CertificateJob
unfolding policy_reading
certificate_job = job_found 9 _ _ refl

pub policy_job : PolicyJob
unfolding policy_reading
policy_job = job_found 9 _ _ refl

pub certificate_line_limit : example.CertificateLineLimit
unfolding policy_reading
certificate_line_limit = (short_found 9 _ refl, bad_found 9 _ _ refl, bad_found 9 _ _ refl, bad_found 9 _ _ refl, bad_found 9 _ _ refl)

pub certificate_line_counts : example.CertificateLineCounts
unfolding policy_reading
certificate_line_counts = (job_found 9 _ _ refl, short_found 9 _ refl, short_found 9 _ refl, bad_found 9 _ _ refl)

pub rule_limit : example.RuleLimit
unfolding policy_reading
rule_limit = (job_found 9 _ _ refl, bad_found 9 _ _ refl, bad_found 9 _ _ refl, bad_found 9 _ _ refl, bad_found 9 _ _ refl)

pub rule_counts : example.RuleCounts
unfolding policy_reading
rule_counts = (short_found 9 _ refl, short_found 9 _ refl, short_found 9 _ refl, bad_found 9 _ _ refl)

pub rule_places : example.RulePlaces
unfolding policy_reading
rule_places = (bad_found 9 _ _ refl, bad_found 9 _ _ refl, bad_found 9 _ _ refl, bad_found 9 _ _ refl)

pub rule_forms : example.RuleForms
unfolding policy_reading
rule_forms = (bad_found 9 _ _ refl, bad_found 9 _ _ refl, bad_found 9 _ _ refl, bad_found 9 _ _ refl, bad_found 9 _ _ refl, bad_found 9 _ _ refl, bad_found 9 _ _ refl, bad_found 9 _ _ refl, bad_found 9 _ _ refl, bad_found 9 _ _ refl)

pub guard_fuel_limit : example.GuardFuelLimit
unfolding policy_reading
guard_fuel_limit = (job_found 9 _ _ refl, job_found 9 _ _ refl, bad_found 9 _ _ refl)

pub audit_forms : example.AuditForms
unfolding policy_reading
audit_forms = (bad_found 9 _ _ refl, bad_found 9 _ _ refl, bad_found 9 _ _ refl, bad_found 9 _ _ refl, bad_found 9 _ _ refl)
