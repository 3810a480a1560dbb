use Rattle.cc_submission_reading.proofs.SubmissionLines.{a_bad_line, an_end_within, a_missing_feed, another_first, no_line}
use Rattle.cc_submission_reading.proofs.submission_reading_laws.bad_lines_are_told.Goals as goal

pub returns : goal.returns
returns c = record {
  bad = a_bad_line;
  cut = an_end_within;
  feed = a_missing_feed;
  first = another_first;
  none = no_line;
}
