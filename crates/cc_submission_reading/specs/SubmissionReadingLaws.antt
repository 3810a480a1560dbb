-- That what is heard item by item is a submission, and that a bad line is told where there is one.
use Rattle.std.specs.Prelude.{◌≡◌, ◌≢◌, ◌⊎◌, ℕ, ◌+◌, List, [], ◌∷◌, ◌++◌, length}
use Rattle.std.specs.List.{flat_map}
use Rattle.cc_words.specs.Lines.{Line, lines_of, AreWholeLines}
use Rattle.cc_vouching.specs.Submissions.{Item, Submission, item_lines, items_of, first_line, IsFit, IsSubmission, IsBadAt}
use Rattle.cc_submission_reading.specs.Submitting.{SoFar, nothing_yet, behind_item, behind_items, MaySubmit, MayAllBeSaid, GoesOn, IsOpen, IsInOrder}

-- the lines of these items behind the first line
abbrev pub lines_with : List Item → List Line
lines_with items = first_line ∷ flat_map item_lines items

-- Items that may be said one behind the other are those of a submission.
abbrev pub SaidItemsAreSubmitted : Type 0
SaidItemsAreSubmitted =
    (items : List Item) → MayAllBeSaid nothing_yet items
    → (submission : Submission) × IsFit submission × (items_of submission ≡ items)

-- And those of a submission may be said so.
abbrev pub SubmittedItemsAreSaid : Type 0
SubmittedItemsAreSaid = (submission : Submission) → IsFit submission → MayAllBeSaid nothing_yet (items_of submission)

-- Bytes of whole lines that are such items behind the first line are a submission, the one of these items.
abbrev pub WholeSubmissionsAreHeard : Type 0
WholeSubmissionsAreHeard =
    (bytes : List ℕ) (items : List Item) → MayAllBeSaid nothing_yet items → lines_of bytes ≡ lines_with items
    → AreWholeLines bytes → (submission : Submission) × IsSubmission bytes submission × (items_of submission ≡ items)

-- And so are the bytes of each submission.
abbrev pub SubmissionsAreHeardWhole : Type 0
SubmissionsAreHeardWhole =
    (bytes : List ℕ) (submission : Submission) → IsSubmission bytes submission
    → MayAllBeSaid nothing_yet (items_of submission) × (lines_of bytes ≡ lines_with (items_of submission))
    × AreWholeLines bytes

-- Where the last line of such bytes has no line feed, the bad line is the one behind it.
abbrev pub AMissingFeedIsTold : Type 0
AMissingFeedIsTold =
    (bytes : List ℕ) (items : List Item) → MayAllBeSaid nothing_yet items → lines_of bytes ≡ lines_with items
    → (AreWholeLines bytes → ⊥) → IsBadAt bytes (length (lines_of bytes) + 1)

-- A line behind such items with which no item goes on is the bad line.
abbrev pub ABadLineIsTold : Type 0
ABadLineIsTold =
    (bytes : List ℕ) (items : List Item) (bad : Line) (behind : List Line) → MayAllBeSaid nothing_yet items
    → lines_of bytes ≡ lines_with items ++ bad ∷ behind
    → (GoesOn (behind_items nothing_yet items) (bad ∷ []) → ⊥) → IsBadAt bytes (length (lines_with items) + 1)

-- Where the bytes end within an item, the bad line is the one behind the last.
abbrev pub AnEndWithinAnItemIsTold : Type 0
AnEndWithinAnItemIsTold =
    (bytes : List ℕ) (items : List Item) (front : List Line) → MayAllBeSaid nothing_yet items
    → lines_of bytes ≡ lines_with items ++ front → front ≢ [] → IsOpen (behind_items nothing_yet items) front
    → IsBadAt bytes (length (lines_of bytes) + 1)

-- Another first line is the bad line, and so is the first one where there is none.
abbrev pub AnotherFirstLineIsTold : Type 0
AnotherFirstLineIsTold =
    (bytes : List ℕ) (bad : Line) (behind : List Line) → lines_of bytes ≡ bad ∷ behind → bad ≢ first_line
    → IsBadAt bytes 1

abbrev pub NoLineIsTold : Type 0
NoLineIsTold = (bytes : List ℕ) → lines_of bytes ≡ [] → IsBadAt bytes 1

-- Bytes are a submission, or they have a bad line.
abbrev pub BytesAreASubmissionOrBad : Type 0
BytesAreASubmissionOrBad =
    (bytes : List ℕ)
    → ((submission : Submission) × IsSubmission bytes submission) ⊎ ((number : ℕ) × IsBadAt bytes number)

-- And one bad line at most.
abbrev pub BytesHaveOneBadLine : Type 0
BytesHaveOneBadLine = (bytes : List ℕ) (m n : ℕ) → IsBadAt bytes m → IsBadAt bytes n → m ≡ n

-- What was said so far is in order, from nothing on.
abbrev pub NothingIsInOrder : Type 0
NothingIsInOrder = IsInOrder nothing_yet

abbrev pub ItemsKeepTheOrder : Type 0
ItemsKeepTheOrder =
    (so_far : SoFar) (item : Item) → IsInOrder so_far → MaySubmit so_far item → IsInOrder (behind_item so_far item)
