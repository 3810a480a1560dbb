-- The limits of jobs, and a long one, by computation.
use Rattle.std.proofs.Common.{refl}
use Rattle.std.specs.Fmt.{digits}
use Rattle.std.specs.Str.{is_utf8, chars}
use Rattle.unicode_ident.proofs.Computing.{unicode_ident}
use Rattle.cc_base.specs.Names.{is_reserved, reserved_words}
use Rattle.cc_words.specs.Words.{name_of, number_of, signed_of, pair_of}
use Rattle.cc_job.specs.Reading.{is_schedule, schedule_of, turns_of, file_of, kind_with, kind_of, device_of, put_of, drop_of, check_of, sig_of, derive_of, run_of, tasks_of, command_with, head_with, head_of, admits, next_item}
use Rattle.cc_job.specs.JobExamples.{LongJob}
use Rattle.cc_job.specs.LimitExamples as example
use Rattle.cc_job.proofs.ReadJobs.{job_found, bad_found, short_found}
use lib.Utf8.{encode}

pub long_job : LongJob
unfolding next_item head_of head_with command_with device_of put_of drop_of check_of sig_of derive_of run_of tasks_of turns_of schedule_of is_schedule pair_of kind_of kind_with file_of name_of number_of signed_of admits unicode_ident is_reserved reserved_words is_utf8 chars encode digits
long_job = job_found 20 _ _ refl

pub schedule_limit : example.ScheduleLimit
unfolding next_item head_of head_with command_with device_of put_of drop_of check_of sig_of derive_of run_of tasks_of turns_of schedule_of is_schedule pair_of kind_of kind_with file_of name_of number_of signed_of admits unicode_ident is_reserved reserved_words is_utf8 chars encode digits
schedule_limit = (job_found 9 _ _ refl, bad_found 9 _ _ refl)

pub entry_limit : example.EntryLimit
unfolding next_item head_of head_with command_with device_of put_of drop_of check_of sig_of derive_of run_of tasks_of turns_of schedule_of is_schedule pair_of kind_of kind_with file_of name_of number_of signed_of admits unicode_ident is_reserved reserved_words is_utf8 chars encode digits
entry_limit = (job_found 9 _ _ refl, bad_found 9 _ _ refl)

pub no_entry : example.NoEntry
unfolding next_item head_of head_with command_with device_of put_of drop_of check_of sig_of derive_of run_of tasks_of turns_of schedule_of is_schedule pair_of kind_of kind_with file_of name_of number_of signed_of admits unicode_ident is_reserved reserved_words is_utf8 chars encode digits
no_entry = bad_found 9 _ _ refl

pub tasks_fuel_limit : example.TasksFuelLimit
unfolding next_item head_of head_with command_with device_of put_of drop_of check_of sig_of derive_of run_of tasks_of turns_of schedule_of is_schedule pair_of kind_of kind_with file_of name_of number_of signed_of admits unicode_ident is_reserved reserved_words is_utf8 chars encode digits
tasks_fuel_limit = (job_found 9 _ _ refl, job_found 9 _ _ refl, bad_found 9 _ _ refl)

pub run_fuel_limit : example.RunFuelLimit
unfolding next_item head_of head_with command_with device_of put_of drop_of check_of sig_of derive_of run_of tasks_of turns_of schedule_of is_schedule pair_of kind_of kind_with file_of name_of number_of signed_of admits unicode_ident is_reserved reserved_words is_utf8 chars encode digits
run_fuel_limit = (job_found 9 _ _ refl, job_found 9 _ _ refl, bad_found 9 _ _ refl)

pub fuel_forms : example.FuelForms
unfolding next_item head_of head_with command_with device_of put_of drop_of check_of sig_of derive_of run_of tasks_of turns_of schedule_of is_schedule pair_of kind_of kind_with file_of name_of number_of signed_of admits unicode_ident is_reserved reserved_words is_utf8 chars encode digits
fuel_forms = (bad_found 9 _ _ refl, bad_found 9 _ _ refl, bad_found 9 _ _ refl, bad_found 9 _ _ refl, bad_found 9 _ _ refl)

pub schedule_forms : example.ScheduleForms
unfolding next_item head_of head_with command_with device_of put_of drop_of check_of sig_of derive_of run_of tasks_of turns_of schedule_of is_schedule pair_of kind_of kind_with file_of name_of number_of signed_of admits unicode_ident is_reserved reserved_words is_utf8 chars encode digits
schedule_forms = (bad_found 9 _ _ refl, bad_found 9 _ _ refl, bad_found 9 _ _ refl)

pub file_number_limit : example.FileNumberLimit
unfolding next_item head_of head_with command_with device_of put_of drop_of check_of sig_of derive_of run_of tasks_of turns_of schedule_of is_schedule pair_of kind_of kind_with file_of name_of number_of signed_of admits unicode_ident is_reserved reserved_words is_utf8 chars encode digits
file_number_limit = (job_found 9 _ _ refl, bad_found 9 _ _ refl, job_found 9 _ _ refl, bad_found 9 _ _ refl)

pub file_number_forms : example.FileNumberForms
unfolding next_item head_of head_with command_with device_of put_of drop_of check_of sig_of derive_of run_of tasks_of turns_of schedule_of is_schedule pair_of kind_of kind_with file_of name_of number_of signed_of admits unicode_ident is_reserved reserved_words is_utf8 chars encode digits
file_number_forms = (bad_found 9 _ _ refl, bad_found 9 _ _ refl, bad_found 9 _ _ refl)

pub device_limit : example.DeviceLimit
unfolding next_item head_of head_with command_with device_of put_of drop_of check_of sig_of derive_of run_of tasks_of turns_of schedule_of is_schedule pair_of kind_of kind_with file_of name_of number_of signed_of admits unicode_ident is_reserved reserved_words is_utf8 chars encode digits
device_limit = (job_found 20 _ _ refl, bad_found 20 _ _ refl)

pub text_line_limit : example.TextLineLimit
unfolding next_item head_of head_with command_with device_of put_of drop_of check_of sig_of derive_of run_of tasks_of turns_of schedule_of is_schedule pair_of kind_of kind_with file_of name_of number_of signed_of admits unicode_ident is_reserved reserved_words is_utf8 chars encode digits
text_line_limit = (short_found 9 _ refl, bad_found 9 _ _ refl)

pub text_line_counts : example.TextLineCounts
unfolding next_item head_of head_with command_with device_of put_of drop_of check_of sig_of derive_of run_of tasks_of turns_of schedule_of is_schedule pair_of kind_of kind_with file_of name_of number_of signed_of admits unicode_ident is_reserved reserved_words is_utf8 chars encode digits
text_line_counts = (job_found 9 _ _ refl, short_found 9 _ refl, bad_found 9 _ _ refl)
