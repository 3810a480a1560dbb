-- What the commands of a job ask for.
use Rattle.std.specs.Prelude.{List, map, Option, Some, None}
use Rattle.cc_job.specs.declared.job.Command.{Command}
use Rattle.cc_job.specs.declared.job.Command.TheVariants.{Put, Drop, Check, Sig, Derive, Run, Tasks}
use Rattle.cc_job.specs.declared.job.Command.TheVariants.{Verify, Policy, Audit, Guard, Explain, Replay}
use Rattle.cc_job.specs.declared.job.Job.{Job}
use Rattle.cc_replies.specs.Requests.{Question, CheckModules, ShowSignature, ShowDerivation, RunDefinition, RunTasks}
use Rattle.cc_replies.specs.Requests.{AuditDefinition, GuardDefinition, ExplainDefinition, ReplayDefinition}
use Rattle.cc_replies.specs.Requests.{Request, PutText, DropModule, SetPolicy, VerifyText, Ask}

-- what a command asks for
abbrev pub request_of : Command → Request
request_of (Put name text) = PutText name text
request_of (Drop name) = DropModule name
request_of Check = Ask CheckModules
request_of (Sig name) = Ask (ShowSignature name)
request_of (Derive module_name name) = Ask (ShowDerivation module_name name)
request_of (Run module_name name fuel) = Ask (RunDefinition module_name name fuel)
request_of (Tasks fuel schedule tasks) = Ask (RunTasks fuel schedule tasks)
request_of (Verify text) = VerifyText text
request_of (Policy rules) = SetPolicy rules
request_of (Audit module_name name) = Ask (AuditDefinition module_name name)
request_of (Guard module_name name fuel) = Ask (GuardDefinition module_name name fuel)
request_of (Explain module_name name) = Ask (ExplainDefinition module_name name)
request_of (Replay module_name name fuel text) = Ask (ReplayDefinition module_name name fuel text)

-- what the commands of a job ask for, in order
abbrev pub requests_of : Job → List Request
requests_of job = map request_of job.commands

-- the question, if it is one
abbrev pub question_in : Request → Option Question
question_in (PutText name text) = None
question_in (DropModule name) = None
question_in (SetPolicy rules) = None
question_in (VerifyText text) = None
question_in (Ask question) = Some question
