use Rattle.cc_submission_reading.proofs.WorkedSubmissions.{submissions_are_such, first_lines_are_one, other_lines_are_bad, claims_are_of_the_last_module, names_are_given_once, missing_lines_are_bad, missing_feeds_are_bad}
use Rattle.cc_submission_reading.proofs.submission_reading_laws.worked_submissions.Goals as goal

pub returns : goal.returns
returns c = record {
  such = submissions_are_such;
  first = first_lines_are_one;
  other = other_lines_are_bad;
  claims = claims_are_of_the_last_module;
  names = names_are_given_once;
  lines = missing_lines_are_bad;
  feeds = missing_feeds_are_bad;
}
