use Rattle.cc_certificate_laws.proofs.CertifiedModules.{modules_certified, present_certified, literals_of_definitions_written, lines_of_definitions_whole}
use Rattle.cc_certificate_laws.proofs.JobDevices.{job_devices_named}
use Rattle.cc_certificate_laws.proofs.ProgramContexts.{contexts_of_programs}
use Rattle.cc_certificate_laws.proofs.limit_laws.modules_have_certificates.Goals as goal

pub returns : goal.returns
returns c = record {
  modules = modules_certified;
  present = present_certified;
  contexts = contexts_of_programs;
  devices = job_devices_named;
  literals = literals_of_definitions_written;
  one_line = lines_of_definitions_whole;
}
