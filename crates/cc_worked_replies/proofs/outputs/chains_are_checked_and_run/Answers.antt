use Rattle.cc_worked_replies.proofs.WorkedOutputs as worked
use Rattle.cc_worked_replies.proofs.outputs.chains_are_checked_and_run.Goals as goal

pub returns-clause-one : goal.returns-clause-one
returns-clause-one c = worked.output_of_one_module

pub returns-clause-two : goal.returns-clause-two
returns-clause-two c = worked.output_of_two_modules
