use Rattle.cc_program.proofs.EndingsInWords as law
use Rattle.cc_program.proofs.call_laws.errors_touch_nothing.Goals as goal

pub returns-clause-errors : goal.returns-clause-errors
returns-clause-errors c = law.errors_touch_nothing

pub returns-clause-kinds : goal.returns-clause-kinds
returns-clause-kinds c = law.kinds_in_numbers
