use Rattle.cc_certificate_writing.proofs.OneLine.{lines_are_one}
use Rattle.cc_certificate_writing.proofs.certificate_text_laws.lines_have_no_line_feed.Goals as goal

pub returns : goal.returns
returns c = lines_are_one
