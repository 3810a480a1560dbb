use Rattle.cc_certificate_laws.proofs.PresentableTypings.{valid_presentable}
use Rattle.cc_certificate_laws.proofs.ValidCertificates.{valid_have_certificates}
use Rattle.cc_certificate_laws.proofs.certificate_laws.valid_derivations_are_presentable.Goals as goal

pub returns : goal.returns
returns c = record { claims = valid_presentable; certificates = valid_have_certificates }
