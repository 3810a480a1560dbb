-- Worked explanations and traces, by computation.
use Rattle.std.proofs.Common.{refl}
use Rattle.std.specs.Fmt.{digits}
use Rattle.std.specs.Str.{is_utf8, chars}
use Rattle.unicode_ident.proofs.Computing.{unicode_ident}
use Rattle.cc_base.specs.Names.{is_reserved, reserved_words}
use Rattle.cc_words.specs.Words.{name_of, number_of, pair_of}
use Rattle.cc_job.specs.Reading.{check_of, explain_of, replay_of, command_with, head_with, head_of, admits, next_item}
use Rattle.cc_job.specs.JobExamples.{TraceJob}
use Rattle.cc_job.specs.LimitExamples as example
use Rattle.cc_job.proofs.ReadJobs.{job_found, bad_found, short_found}
use lib.Utf8.{encode}

unfoldable trace_reading : Unit {0}
unfolding next_item head_of head_with command_with check_of explain_of replay_of pair_of name_of number_of admits unicode_ident is_reserved reserved_words is_utf8 chars encode digits
trace_reading = tt

pub trace_job : TraceJob
unfolding trace_reading
trace_job = job_found 9 _ _ refl

pub replay_fuel_limit : example.ReplayFuelLimit
unfolding trace_reading
replay_fuel_limit = (job_found 9 _ _ refl, job_found 9 _ _ refl, bad_found 9 _ _ refl)

pub trace_line_limit : example.TraceLineLimit
unfolding trace_reading
trace_line_limit = (short_found 9 _ refl, bad_found 9 _ _ refl)

pub trace_line_counts : example.TraceLineCounts
unfolding trace_reading
trace_line_counts = (job_found 9 _ _ refl, short_found 9 _ refl, short_found 9 _ refl, bad_found 9 _ _ refl)

pub replay_forms : example.ReplayForms
unfolding trace_reading
replay_forms = (bad_found 9 _ _ refl, bad_found 9 _ _ refl, bad_found 9 _ _ refl, bad_found 9 _ _ refl, bad_found 9 _ _ refl, bad_found 9 _ _ refl, bad_found 9 _ _ refl)

pub explain_forms : example.ExplainForms
unfolding trace_reading
explain_forms = (bad_found 9 _ _ refl, bad_found 9 _ _ refl, bad_found 9 _ _ refl, bad_found 9 _ _ refl)
