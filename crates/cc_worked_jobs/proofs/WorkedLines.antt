-- The lines of jobs, by computation.
use Rattle.std.proofs.Common.{refl}
use Rattle.std.specs.Fmt.{digits}
use Rattle.std.specs.Str.{is_utf8, chars}
use Rattle.unicode_ident.proofs.Computing.{unicode_ident}
use Rattle.cc_base.specs.Names.{is_reserved, reserved_words}
use Rattle.cc_words.specs.Words.{name_of, number_of, signed_of, pair_of}
use Rattle.cc_job.specs.Reading.{is_schedule, schedule_of, turns_of, file_of, kind_with, kind_of, device_of, put_of, drop_of, check_of, sig_of, derive_of, run_of, tasks_of, verify_of, policy_of, audit_of, guard_of, explain_of, replay_of, permission_of, scope_of, rule_with, rule_of, command_with, head_with, head_of, admits, next_item}
use Rattle.cc_job.proofs.ReadJobs.{job_found, bad_found}
use Rattle.cc_worked_jobs.specs.LineExamples as example
use lib.Utf8.{encode}

unfoldable pub job_reading : Unit {0}
unfolding next_item head_of head_with command_with device_of put_of drop_of check_of sig_of derive_of run_of tasks_of turns_of schedule_of is_schedule verify_of policy_of audit_of guard_of explain_of replay_of permission_of scope_of rule_with rule_of pair_of kind_of kind_with file_of name_of number_of signed_of admits unicode_ident is_reserved reserved_words is_utf8 chars encode digits
job_reading = tt

pub modules_have_names : example.ModulesHaveNames
unfolding job_reading
modules_have_names = (bad_found 9 _ _ refl, bad_found 9 _ _ refl, bad_found 9 _ _ refl, bad_found 9 _ _ refl, bad_found 9 _ _ refl, bad_found 9 _ _ refl, bad_found 9 _ _ refl, bad_found 9 _ _ refl, bad_found 9 _ _ refl, bad_found 9 _ _ refl, bad_found 9 _ _ refl, bad_found 9 _ _ refl)

pub derived_definitions_have_names : example.DerivedDefinitionsHaveNames
unfolding job_reading
derived_definitions_have_names = (bad_found 9 _ _ refl, bad_found 9 _ _ refl, bad_found 9 _ _ refl, bad_found 9 _ _ refl, bad_found 9 _ _ refl, bad_found 9 _ _ refl, bad_found 9 _ _ refl, bad_found 9 _ _ refl)

pub run_definitions_have_names : example.RunDefinitionsHaveNames
unfolding job_reading
run_definitions_have_names = (bad_found 9 _ _ refl, bad_found 9 _ _ refl, bad_found 9 _ _ refl, bad_found 9 _ _ refl, bad_found 9 _ _ refl, bad_found 9 _ _ refl, bad_found 9 _ _ refl, bad_found 9 _ _ refl)

pub task_definitions_have_names : example.TaskDefinitionsHaveNames
unfolding job_reading
task_definitions_have_names = (bad_found 9 _ _ refl, bad_found 9 _ _ refl, bad_found 9 _ _ refl, bad_found 9 _ _ refl, bad_found 9 _ _ refl, bad_found 9 _ _ refl)

pub audited_definitions_have_names : example.AuditedDefinitionsHaveNames
unfolding job_reading
audited_definitions_have_names = (bad_found 9 _ _ refl, bad_found 9 _ _ refl, bad_found 9 _ _ refl, bad_found 9 _ _ refl, bad_found 9 _ _ refl, bad_found 9 _ _ refl)

pub guarded_definitions_have_names : example.GuardedDefinitionsHaveNames
unfolding job_reading
guarded_definitions_have_names = (bad_found 9 _ _ refl, bad_found 9 _ _ refl, bad_found 9 _ _ refl, bad_found 9 _ _ refl, bad_found 9 _ _ refl, bad_found 9 _ _ refl)

pub explained_definitions_have_names : example.ExplainedDefinitionsHaveNames
unfolding job_reading
explained_definitions_have_names = (bad_found 9 _ _ refl, bad_found 9 _ _ refl, bad_found 9 _ _ refl, bad_found 9 _ _ refl, bad_found 9 _ _ refl, bad_found 9 _ _ refl)

pub replayed_definitions_have_names : example.ReplayedDefinitionsHaveNames
unfolding job_reading
replayed_definitions_have_names = (bad_found 9 _ _ refl, bad_found 9 _ _ refl, bad_found 9 _ _ refl, bad_found 9 _ _ refl, bad_found 9 _ _ refl, bad_found 9 _ _ refl)

pub devices_have_names : example.DevicesHaveNames
unfolding job_reading
devices_have_names = (bad_found 9 _ _ refl, bad_found 9 _ _ refl, bad_found 9 _ _ refl, bad_found 9 _ _ refl, bad_found 9 _ _ refl)

pub rules_have_names : example.RulesHaveNames
unfolding job_reading
rules_have_names = (bad_found 9 _ _ refl, bad_found 9 _ _ refl, bad_found 9 _ _ refl, bad_found 9 _ _ refl, bad_found 9 _ _ refl, bad_found 9 _ _ refl, bad_found 9 _ _ refl, bad_found 9 _ _ refl, bad_found 9 _ _ refl)

pub schedules_have_tasks_alone : example.SchedulesHaveTasksAlone
unfolding job_reading
schedules_have_tasks_alone = (bad_found 9 _ _ refl, bad_found 9 _ _ refl, bad_found 9 _ _ refl, bad_found 9 _ _ refl, bad_found 9 _ _ refl, bad_found 9 _ _ refl, job_found 9 _ _ refl)

pub schedules_are_words : example.SchedulesAreWords
unfolding job_reading
schedules_are_words = (bad_found 9 _ _ refl, bad_found 9 _ _ refl, bad_found 9 _ _ refl, bad_found 9 _ _ refl, bad_found 9 _ _ refl, bad_found 9 _ _ refl, bad_found 9 _ _ refl, bad_found 9 _ _ refl)

pub module_commands_have_their_words : example.ModuleCommandsHaveTheirWords
unfolding job_reading
module_commands_have_their_words = (bad_found 9 _ _ refl, bad_found 9 _ _ refl, bad_found 9 _ _ refl, bad_found 9 _ _ refl, bad_found 9 _ _ refl, bad_found 9 _ _ refl, bad_found 9 _ _ refl, bad_found 9 _ _ refl, bad_found 9 _ _ refl, bad_found 9 _ _ refl, bad_found 9 _ _ refl, bad_found 9 _ _ refl, bad_found 9 _ _ refl, bad_found 9 _ _ refl)

pub definition_commands_have_their_words : example.DefinitionCommandsHaveTheirWords
unfolding job_reading
definition_commands_have_their_words = (bad_found 9 _ _ refl, bad_found 9 _ _ refl, bad_found 9 _ _ refl, bad_found 9 _ _ refl, bad_found 9 _ _ refl, bad_found 9 _ _ refl, bad_found 9 _ _ refl, bad_found 9 _ _ refl, bad_found 9 _ _ refl, bad_found 9 _ _ refl, bad_found 9 _ _ refl, bad_found 9 _ _ refl)

pub task_commands_have_their_words : example.TaskCommandsHaveTheirWords
unfolding job_reading
task_commands_have_their_words = (bad_found 9 _ _ refl, bad_found 9 _ _ refl, bad_found 9 _ _ refl, bad_found 9 _ _ refl, bad_found 9 _ _ refl, bad_found 9 _ _ refl, bad_found 9 _ _ refl, bad_found 9 _ _ refl)

pub policy_commands_have_their_words : example.PolicyCommandsHaveTheirWords
unfolding job_reading
policy_commands_have_their_words = (bad_found 9 _ _ refl, bad_found 9 _ _ refl, bad_found 9 _ _ refl, bad_found 9 _ _ refl, bad_found 9 _ _ refl, bad_found 9 _ _ refl, bad_found 9 _ _ refl, bad_found 9 _ _ refl, bad_found 9 _ _ refl, bad_found 9 _ _ refl, bad_found 9 _ _ refl, bad_found 9 _ _ refl)

pub other_commands_have_their_words : example.OtherCommandsHaveTheirWords
unfolding job_reading
other_commands_have_their_words = (bad_found 9 _ _ refl, bad_found 9 _ _ refl, bad_found 9 _ _ refl, bad_found 9 _ _ refl, bad_found 9 _ _ refl, bad_found 9 _ _ refl)

pub devices_have_their_words : example.DevicesHaveTheirWords
unfolding job_reading
devices_have_their_words = (bad_found 9 _ _ refl, bad_found 9 _ _ refl, bad_found 9 _ _ refl, bad_found 9 _ _ refl, bad_found 9 _ _ refl, bad_found 9 _ _ refl, bad_found 9 _ _ refl, bad_found 9 _ _ refl, bad_found 9 _ _ refl, bad_found 9 _ _ refl, bad_found 9 _ _ refl, job_found 9 _ _ refl, job_found 9 _ _ refl, job_found 9 _ _ refl, job_found 9 _ _ refl)

pub lines_are_words : example.LinesAreWords
unfolding job_reading
lines_are_words = (bad_found 9 _ _ refl, bad_found 9 _ _ refl, bad_found 9 _ _ refl, bad_found 9 _ _ refl, bad_found 9 _ _ refl, bad_found 9 _ _ refl, bad_found 9 _ _ refl, bad_found 9 _ _ refl, bad_found 9 _ _ refl, bad_found 9 _ _ refl, bad_found 9 _ _ refl, bad_found 9 _ _ refl, bad_found 9 _ _ refl)

pub names_are_text : example.NamesAreText
unfolding job_reading
names_are_text = (bad_found 9 _ _ refl, bad_found 9 _ _ refl, bad_found 9 _ _ refl, bad_found 9 _ _ refl)

pub names_are_encoded : example.NamesAreEncoded
unfolding job_reading
names_are_encoded = (job_found 9 _ _ refl, job_found 9 _ _ refl, job_found 9 _ _ refl, job_found 9 _ _ refl, job_found 9 _ _ refl, job_found 9 _ _ refl, job_found 9 _ _ refl, job_found 9 _ _ refl, job_found 9 _ _ refl, job_found 9 _ _ refl, job_found 9 _ _ refl, job_found 9 _ _ refl, job_found 9 _ _ refl)

pub rules_are_encoded : example.RulesAreEncoded
unfolding job_reading
rules_are_encoded = job_found 9 _ _ refl

pub jobs_have_their_first_line : example.JobsHaveTheirFirstLine
unfolding job_reading
jobs_have_their_first_line = (bad_found 9 _ _ refl, bad_found 9 _ _ refl, bad_found 9 _ _ refl, bad_found 9 _ _ refl, bad_found 9 _ _ refl, bad_found 9 _ _ refl, bad_found 9 _ _ refl, bad_found 9 _ _ refl, bad_found 9 _ _ refl, bad_found 9 _ _ refl, bad_found 9 _ _ refl)

pub first_bad_line_is_told : example.FirstBadLineIsTold
unfolding job_reading
first_bad_line_is_told = (bad_found 9 _ _ refl, bad_found 9 _ _ refl)

pub texts_are_any_bytes : example.TextsAreAnyBytes
unfolding job_reading
texts_are_any_bytes = (job_found 9 _ _ refl, job_found 9 _ _ refl, job_found 9 _ _ refl)

pub names_may_be_alike : example.NamesMayBeAlike
unfolding job_reading
names_may_be_alike = job_found 9 _ _ refl
