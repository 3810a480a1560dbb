use Rattle.cc_submission_reading.proofs.FoundItems.{submission_or_bad, one_bad_line}
use Rattle.cc_submission_reading.proofs.submission_reading_laws.bytes_are_a_submission_or_bad.Goals as goal

pub returns : goal.returns
returns c = record {
  found = submission_or_bad;
  one = one_bad_line;
}
