use Rattle.cc_job.proofs.WorkedLimits as worked
use Rattle.cc_job.proofs.WorkedPolicies as policies
use Rattle.cc_job.proofs.WorkedTraces as traces
use Rattle.cc_job.proofs.job_laws.worked_limits.Goals as goal

pub returns-clause-schedule : goal.returns-clause-schedule
returns-clause-schedule c = worked.schedule_limit

pub returns-clause-entries : goal.returns-clause-entries
returns-clause-entries c = worked.entry_limit

pub returns-clause-no_entry : goal.returns-clause-no_entry
returns-clause-no_entry c = worked.no_entry

pub returns-clause-fuel_of_tasks : goal.returns-clause-fuel_of_tasks
returns-clause-fuel_of_tasks c = worked.tasks_fuel_limit

pub returns-clause-fuel_of_runs : goal.returns-clause-fuel_of_runs
returns-clause-fuel_of_runs c = worked.run_fuel_limit

pub returns-clause-forms_of_fuel : goal.returns-clause-forms_of_fuel
returns-clause-forms_of_fuel c = worked.fuel_forms

pub returns-clause-forms_of_schedules : goal.returns-clause-forms_of_schedules
returns-clause-forms_of_schedules c = worked.schedule_forms

pub returns-clause-numbers : goal.returns-clause-numbers
returns-clause-numbers c = worked.file_number_limit

pub returns-clause-forms_of_numbers : goal.returns-clause-forms_of_numbers
returns-clause-forms_of_numbers c = worked.file_number_forms

pub returns-clause-devices : goal.returns-clause-devices
returns-clause-devices c = worked.device_limit

pub returns-clause-lines : goal.returns-clause-lines
returns-clause-lines c = worked.text_line_limit

pub returns-clause-counts : goal.returns-clause-counts
returns-clause-counts c = worked.text_line_counts

pub returns-clause-certificate_lines : goal.returns-clause-certificate_lines
returns-clause-certificate_lines c = policies.certificate_line_limit

pub returns-clause-certificate_counts : goal.returns-clause-certificate_counts
returns-clause-certificate_counts c = policies.certificate_line_counts

pub returns-clause-rules : goal.returns-clause-rules
returns-clause-rules c = policies.rule_limit

pub returns-clause-rule_counts : goal.returns-clause-rule_counts
returns-clause-rule_counts c = policies.rule_counts

pub returns-clause-rule_places : goal.returns-clause-rule_places
returns-clause-rule_places c = policies.rule_places

pub returns-clause-rule_forms : goal.returns-clause-rule_forms
returns-clause-rule_forms c = policies.rule_forms

pub returns-clause-fuel_of_guards : goal.returns-clause-fuel_of_guards
returns-clause-fuel_of_guards c = policies.guard_fuel_limit

pub returns-clause-forms_of_audits : goal.returns-clause-forms_of_audits
returns-clause-forms_of_audits c = policies.audit_forms

pub returns-clause-fuel_of_replays : goal.returns-clause-fuel_of_replays
returns-clause-fuel_of_replays c = traces.replay_fuel_limit

pub returns-clause-trace_lines : goal.returns-clause-trace_lines
returns-clause-trace_lines c = traces.trace_line_limit

pub returns-clause-trace_counts : goal.returns-clause-trace_counts
returns-clause-trace_counts c = traces.trace_line_counts

pub returns-clause-forms_of_replays : goal.returns-clause-forms_of_replays
returns-clause-forms_of_replays c = traces.replay_forms

pub returns-clause-forms_of_explanations : goal.returns-clause-forms_of_explanations
returns-clause-forms_of_explanations c = traces.explain_forms
