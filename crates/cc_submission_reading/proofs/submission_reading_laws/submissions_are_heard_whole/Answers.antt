use Rattle.cc_submission_reading.proofs.SubmissionLines.{whole_heard, heard_whole}
use Rattle.cc_submission_reading.proofs.submission_reading_laws.submissions_are_heard_whole.Goals as goal

pub returns : goal.returns
returns c = record {
  whole = whole_heard;
  heard = heard_whole;
}
