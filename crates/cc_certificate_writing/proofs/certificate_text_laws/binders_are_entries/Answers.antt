use Rattle.cc_certificate_writing.proofs.BinderCounts.{binders_are_entries}
use Rattle.cc_certificate_writing.proofs.certificate_text_laws.binders_are_entries.Goals as goal

pub returns : goal.returns
returns c = binders_are_entries
