use Rattle.cc_certificate_writing.proofs.NodeLines.{lines_tell}
use Rattle.cc_certificate_writing.proofs.certificate_text_laws.lines_tell_their_nodes.Goals as goal

pub returns : goal.returns
returns c = lines_tell
