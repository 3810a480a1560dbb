use Rattle.cc_verdicts.proofs.ReadingLaws.{refused_is}
use Rattle.cc_text_reading.proofs.TextsRead.{text_read}
use Rattle.cc_text_reading.proofs.reading.read.Goals as goal

pub returns-in-Ok : goal.returns-in-Ok
returns-in-Ok c = text_read _ c.in-Ok.tokens c.read_tokens.result c.in-Ok.ensures c.read_tokens.ensures

pub returns-in-Err-Refused : goal.returns-in-Err-Refused
returns-in-Err-Refused c =
    rw c.in-Err-Refused.diag-is
    (refused_is _ c.in-Err-Refused.diag (rw c.in-Err-Refused.field-0-is at c.in-Err-Refused.ensures))
