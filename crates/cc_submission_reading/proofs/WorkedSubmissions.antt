-- Texts of submissions, and texts that are none, by computation.
use Rattle.std.proofs.Common.{◌≡◌, ℕ, List, refl, subst}
use Rattle.std.specs.Fmt.{digits}
use Rattle.std.specs.Str.{is_utf8, chars}
use Rattle.unicode_ident.proofs.Computing.{unicode_ident}
use Rattle.cc_base.specs.Names.{is_reserved, reserved_words}
use Rattle.cc_job.specs.Reading as job
use Rattle.cc_words.specs.Words.{name_of, number_of, signed_of, pair_of}
use Rattle.cc_vouching.specs.Submissions.{Submission, Item, items_of, IsSubmission, IsBadAt}
use Rattle.cc_submission_reading.specs.HeadReading.{item_head_of, head_with, module_of, claim_of}
use Rattle.cc_submission_reading.specs.SubmissionExamples as example
use Rattle.cc_submission_reading.proofs.FoundItems.{Whole, Bad, Means, told_end, told_head, told_behind, told_lines, told_of, told_means}
use lib.Utf8.{encode}

unfoldable submission_reading : Unit {0}
unfolding told_end told_head told_behind told_lines told_of item_head_of head_with module_of claim_of job.head_of job.head_with job.command_with job.device_of job.kind_of job.kind_with job.file_of pair_of name_of number_of signed_of unicode_ident is_reserved reserved_words is_utf8 chars encode digits
submission_reading = tt

items_found : (bytes : List ℕ) (items : List Item) → told_of bytes ≡ Whole items
    → (submission : Submission) × IsSubmission bytes submission × (items_of submission ≡ items)
items_found bytes items is = subst (Means bytes) is (told_means bytes)

bad_found : (bytes : List ℕ) (number : ℕ) → told_of bytes ≡ Bad number → IsBadAt bytes number
bad_found bytes number is = subst (Means bytes) is (told_means bytes)

pub submissions_are_such : example.SubmissionsAreSuch
unfolding submission_reading
submissions_are_such = (items_found _ _ refl, items_found _ _ refl, items_found _ _ refl, items_found _ _ refl, items_found _ _ refl)

pub first_lines_are_one : example.FirstLinesAreOne
unfolding submission_reading
first_lines_are_one = (bad_found _ _ refl, bad_found _ _ refl, bad_found _ _ refl, bad_found _ _ refl, bad_found _ _ refl, bad_found _ _ refl)

pub other_lines_are_bad : example.OtherLinesAreBad
unfolding submission_reading
other_lines_are_bad = (bad_found _ _ refl, bad_found _ _ refl, bad_found _ _ refl, bad_found _ _ refl, bad_found _ _ refl, bad_found _ _ refl, bad_found _ _ refl, bad_found _ _ refl, bad_found _ _ refl, bad_found _ _ refl, bad_found _ _ refl, bad_found _ _ refl)

pub claims_are_of_the_last_module : example.ClaimsAreOfTheLastModule
unfolding submission_reading
claims_are_of_the_last_module = (bad_found _ _ refl, bad_found _ _ refl, bad_found _ _ refl, bad_found _ _ refl, bad_found _ _ refl, bad_found _ _ refl, bad_found _ _ refl)

pub names_are_given_once : example.NamesAreGivenOnce
unfolding submission_reading
names_are_given_once = (bad_found _ _ refl, bad_found _ _ refl, bad_found _ _ refl, bad_found _ _ refl)

pub missing_lines_are_bad : example.MissingLinesAreBad
unfolding submission_reading
missing_lines_are_bad = (bad_found _ _ refl, bad_found _ _ refl, bad_found _ _ refl)

pub missing_feeds_are_bad : example.MissingFeedsAreBad
unfolding submission_reading
missing_feeds_are_bad = (bad_found _ _ refl, bad_found _ _ refl, bad_found _ _ refl)
