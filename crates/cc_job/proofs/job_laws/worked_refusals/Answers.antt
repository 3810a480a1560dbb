use Rattle.cc_job.proofs.WorkedJobs.{nothing_is_bad, two_spaces_are_bad, minus_zero_is_bad, missing_task_is_bad, late_device_is_bad, second_name_is_bad, short_text_is_bad, open_text_is_bad}
use Rattle.cc_job.proofs.job_laws.worked_refusals.Goals as goal

pub returns-clause-nothing : goal.returns-clause-nothing
returns-clause-nothing c = nothing_is_bad

pub returns-clause-spaces : goal.returns-clause-spaces
returns-clause-spaces c = two_spaces_are_bad

pub returns-clause-minus : goal.returns-clause-minus
returns-clause-minus c = minus_zero_is_bad

pub returns-clause-task : goal.returns-clause-task
returns-clause-task c = missing_task_is_bad

pub returns-clause-device : goal.returns-clause-device
returns-clause-device c = late_device_is_bad

pub returns-clause-name : goal.returns-clause-name
returns-clause-name c = second_name_is_bad

pub returns-clause-short : goal.returns-clause-short
returns-clause-short c = short_text_is_bad

pub returns-clause-open : goal.returns-clause-open
returns-clause-open c = open_text_is_bad
