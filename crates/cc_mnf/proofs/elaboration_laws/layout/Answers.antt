use Rattle.cc_mnf.proofs.BareTexts.{layout_does_not_matter}
use Rattle.cc_mnf.proofs.elaboration_laws.layout.Goals as goal

pub returns : goal.returns
returns c = record { alike = layout_does_not_matter }
