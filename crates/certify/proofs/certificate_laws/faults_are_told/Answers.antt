use Rattle.certify.proofs.Exact.{fault_is_told, failed_read_is_told}
use Rattle.certify.proofs.certificate_laws.faults_are_told.Goals as goal

pub returns : goal.returns
returns c = record { told = fault_is_told; silent = failed_read_is_told }
