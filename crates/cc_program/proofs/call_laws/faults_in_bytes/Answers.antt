use Rattle.cc_program.proofs.CallsInBytes as law
use Rattle.cc_program.proofs.call_laws.faults_in_bytes.Goals as goal

pub returns-clause-reads : goal.returns-clause-reads
returns-clause-reads c = law.read_faults_in_bytes

pub returns-clause-writes : goal.returns-clause-writes
returns-clause-writes c = law.write_faults_in_bytes

pub returns-clause-numbers : goal.returns-clause-numbers
returns-clause-numbers c = law.faults_in_numbers
