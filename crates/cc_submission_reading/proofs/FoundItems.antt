-- Bytes are a submission or have a bad line, found by going through their lines.
use Rattle.std.proofs.Common.{◌≡◌, ◌⊎◌, inl, inr, ℕ, zero, suc, ◌+◌, ◌<◌, ◌≤◌, Bool, true, false, cond, List, [], ◌∷◌, ◌++◌, length, take, drop, Option, Some, None, refl, sym, ap, subst, ◌∙◌, arith, append_assoc, append-nil, length-append, length-drop}
use Rattle.std.specs.Prelude.{nat_lt}
use Rattle.std.specs.List.{IsDistinct, flat_map}
use Rattle.std.specs.Str.{bytes_eq}
use Rattle.std.proofs.lemmas.Bool.{cases_lt}
use Rattle.std.proofs.lemmas.Bool.Decides.{nat_tests}
use Rattle.std.proofs.lemmas.Grind.{flat_map-append}
use Rattle.std.proofs.lemmas.List.{take-append-drop, length-take-le}
use Rattle.std.proofs.lemmas.Slice.Eq.{bytes_eq-Decides}
use Rattle.cc_job.specs.Jobs.{text}
use Rattle.cc_words.specs.Lines.{Line, lines_of, is_whole_behind}
use Rattle.cc_words.proofs.Splits.{AllLack}
use Rattle.cc_words.proofs.LineLists.{lines-lack, AllLack-front, AllLack-back}
use Rattle.cc_vouching.specs.Submissions.{Submission, Item, Declares, Presents, Claims, item_lines, items_of, first_line, IsSubmission, BeginsSubmission, IsBadAt}
use Rattle.cc_submission_reading.specs.declared.heads.ItemHead.{ItemHead}
use Rattle.cc_submission_reading.specs.HeadReading.{item_head_of, line_count, item_with, may_stand}
use Rattle.cc_submission_reading.specs.Submitting.{SoFar, nothing_yet, behind_item, MaySubmit, IsInOrder, MayAllBeSaid, behind_items}
use Rattle.cc_submission_reading.specs.SubmissionReadingLaws.{lines_with, BytesAreASubmissionOrBad, BytesHaveOneBadLine}
use Rattle.cc_submission_reading.proofs.ItemFronts.{whole_item, open_front, none_says, none_stands}
use Rattle.cc_submission_reading.proofs.SaidItems.{said_more}
use Rattle.cc_submission_reading.proofs.SubmissionLines.{whole_heard, a_missing_feed, a_bad_line, an_end_within, another_first, no_line}

-- one item more keeps the order
pub in_order : (so_far : SoFar) (item : Item) → IsInOrder so_far → MaySubmit so_far item → IsInOrder (behind_item so_far item)
in_order so_far (Declares device) order may = record {
  few = omega (arith, may.1.few, length-append so_far.devices (device ∷ []));
  devices_differ = may.1.names;
  modules_differ = order.modules_differ;
}
in_order so_far (Presents name source) order may =
    record { few = order.few; devices_differ = order.devices_differ; modules_differ = may.1 }
in_order so_far (Claims owner definition certificate) order may = order

-- what was said so far is in order
pub all_in_order : (so_far : SoFar) (items : List Item) → IsInOrder so_far → MayAllBeSaid so_far items → IsInOrder (behind_items so_far items)
all_in_order so_far [] order said = order
all_in_order so_far (item ∷ items) order (may, said) = all_in_order (behind_item so_far item) items (in_order so_far item order may) said

pub nothing_in_order : IsInOrder nothing_yet
unfolding IsDistinct
nothing_in_order = record { few = omega arith; devices_differ = tt; modules_differ = tt }

behind_more : (so_far : SoFar) (items : List Item) (item : Item)
    → behind_items so_far (items ++ item ∷ []) ≡ behind_item (behind_items so_far items) item
behind_more so_far [] item = refl
behind_more so_far (first ∷ items) item = behind_more (behind_item so_far first) items item

lines_more : (items : List Item) (item : Item) → lines_with (items ++ item ∷ []) ≡ lines_with items ++ item_lines item
lines_more items item =
    ap (λ it. first_line ∷ it) (flat_map-append item_lines items (item ∷ []) ∙ ap (λ it. flat_map item_lines items ++ it) (append-nil (item_lines item)))

is_below : (n m : ℕ) → nat_lt n m ≡ true → n < m
is_below n m h = grind (arith, nat_tests)

is_above : (n m : ℕ) → nat_lt n m ≡ false → m ≤ n
is_above n m h = grind (arith, nat_tests)

-- What the lines of bytes are: those of items, or the number of the bad one.
pub data Told : Type 0 where
  Whole : (items : List Item) → Told
  Bad : (number : ℕ) → Told

-- that they are so
abbrev pub Means : List ℕ → Told → Type 0
Means bytes (Whole items) = (submission : Submission) × IsSubmission bytes submission × (items_of submission ≡ items)
Means bytes (Bad number) = IsBadAt bytes number

unfoldable pub told_end : Bool → ℕ → List Item → Told
told_end true total items = Whole items
told_end false total items = Bad (total + 1)

unfoldable pub told_head : SoFar → ℕ → ℕ → ℕ → (ItemHead → Told) → Option ItemHead → Told
told_head so_far many total taken next None = Bad (taken + 1)
told_head so_far many total taken next (Some head) =
    cond (may_stand so_far head) (cond (nat_lt many (line_count head)) (Bad (total + 1)) (next head)) (Bad (taken + 1))

-- what is told of lines behind those of items, which are so many, and all are so many
unfoldable pub told_behind : Bool → ℕ → ℕ → List Item → ℕ → List Line → Told
told_behind whole total n items taken [] = told_end whole total items
told_behind whole total zero items taken (line ∷ rest) = Bad 0
told_behind whole total (suc n) items taken (line ∷ rest) =
    told_head (behind_items nothing_yet items) (length rest) total taken
    (λ head. told_behind whole total n (items ++ item_with head (text (take (line_count head) rest)) ∷ []) (taken + (1 + line_count head))
    (drop (line_count head) rest))
    (item_head_of line)

unfoldable pub told_lines : Bool → ℕ → List Line → Told
told_lines whole total [] = Bad 1
told_lines whole total (line ∷ rest) = cond (bytes_eq line first_line) (told_behind whole total (length rest) [] 1 rest) (Bad 1)

-- what is told of bytes
unfoldable pub told_of : List ℕ → Told
told_of bytes = told_lines (is_whole_behind true bytes) (length (lines_of bytes)) (lines_of bytes)

module _ (bytes : List ℕ) where
  end_means : (items : List Item) (whole : Bool) → MayAllBeSaid nothing_yet items → lines_of bytes ≡ lines_with items
      → is_whole_behind true bytes ≡ whole → Means bytes (told_end whole (length (lines_of bytes)) items)
  unfolding told_end
  end_means items true said lines is = whole_heard bytes items said lines is
  end_means items false said lines is =
      a_missing_feed bytes items said lines (λ whole. let clash : true ≡ false = sym whole ∙ is in cc)

  behind_means : (n : ℕ) (items : List Item) (taken : ℕ) (rest : List Line) → length rest ≤ n → MayAllBeSaid nothing_yet items
      → lines_of bytes ≡ lines_with items ++ rest → taken ≡ length (lines_with items)
      → Means bytes (told_behind (is_whole_behind true bytes) (length (lines_of bytes)) n items taken rest)
  unfolding told_behind told_head
  behind_means n items taken [] low said lines many =
      end_means items (is_whole_behind true bytes) said (lines ∙ append-nil (lines_with items)) refl
  behind_means zero items taken (line ∷ rest) low said lines many = absurd (omega arith)
  behind_means (suc n) items taken (line ∷ rest) low said lines many =
      by_head (λ more behind left. behind_means n more behind left) (item_head_of line) refl
    where
      so_far : SoFar
      so_far = behind_items nothing_yet items

      lack : AllLack 10 rest
      lack = (AllLack-back 10 (lines_with items) (line ∷ rest) (subst (AllLack 10) lines (lines-lack bytes))).1

      order : IsInOrder so_far
      order = all_in_order nothing_yet items nothing_in_order said

      Later : Type 0
      Later =
          (more : List Item) (behind : ℕ) (left : List Line) → length left ≤ n → MayAllBeSaid nothing_yet more
          → lines_of bytes ≡ lines_with more ++ left → behind ≡ length (lines_with more)
          → Means bytes (told_behind (is_whole_behind true bytes) (length (lines_of bytes)) n more behind left)

      next : ItemHead → Told
      next head =
          told_behind (is_whole_behind true bytes) (length (lines_of bytes)) n
          (items ++ item_with head (text (take (line_count head) rest)) ∷ []) (taken + (1 + line_count head)) (drop (line_count head) rest)

      next_means : Later → (head : ItemHead) → item_head_of line ≡ Some head → may_stand so_far head ≡ true → line_count head ≤ length rest
          → Means bytes (next head)
      next_means later head says stands enough =
          let count = line_count head in
          let item = item_with head (text (take count rest)) in
          let parts : take count rest ++ drop count rest ≡ rest = take-append-drop count rest in
          let all = whole_item so_far line head (take count rest) order says stands
          (AllLack-front 10 (take count rest) (drop count rest) (subst (AllLack 10) (sym parts) lack)) (length-take-le count rest enough) in
          later (items ++ item ∷ []) (taken + (1 + count)) (drop count rest)
          (omega (arith, length-drop count rest, low))
          (said_more nothing_yet items item said all.may)
          (lines ∙ ap (λ it. lines_with items ++ line ∷ it) (sym parts)
          ∙ sym (append_assoc (lines_with items) (line ∷ take count rest) (drop count rest))
          ∙ ap (λ it. (lines_with items ++ it) ++ drop count rest) (sym all.lines_are)
          ∙ ap (λ it. it ++ drop count rest) (sym (lines_more items item)))
          (omega (
            arith,
            many,
            ap (λ (it : List Line). length it) (lines_more items item),
            length-append (lines_with items) (item_lines item),
            ap (λ (it : List Line). length it) all.lines_are,
            length-take-le count rest enough,
          ))

      bad : (IsBadAt bytes (length (lines_with items) + 1)) → IsBadAt bytes (taken + 1)
      bad is = subst (λ k. IsBadAt bytes (k + 1)) (sym many) is

      by_count : Later → (head : ItemHead) (less : Bool) → item_head_of line ≡ Some head → may_stand so_far head ≡ true
          → nat_lt (length rest) (line_count head) ≡ less
          → Means bytes (cond less (Bad (length (lines_of bytes) + 1)) (next head))
      by_count later head true says stands is =
          an_end_within bytes items (line ∷ rest) said lines (λ h. cc)
          (open_front so_far line head rest order says stands lack (is_below (length rest) (line_count head) is))
      by_count later head false says stands is = next_means later head says stands (is_above (length rest) (line_count head) is)

      by_test : Later → (head : ItemHead) (test : Bool) → item_head_of line ≡ Some head → may_stand so_far head ≡ test
          → Means bytes (cond test (cond (nat_lt (length rest) (line_count head)) (Bad (length (lines_of bytes) + 1)) (next head)) (Bad (taken + 1)))
      by_test later head true says stands = by_count later head (nat_lt (length rest) (line_count head)) says stands refl
      by_test later head false says late = bad (a_bad_line bytes items line rest said lines (none_stands so_far line head says late))

      by_head : Later → (told : Option ItemHead) → item_head_of line ≡ told
          → Means bytes (told_head so_far (length rest) (length (lines_of bytes)) taken next told)
      by_head later None none = bad (a_bad_line bytes items line rest said lines (none_says so_far line none))
      by_head later (Some head) says = by_test later head (may_stand so_far head) says refl

  lines_mean : (lines : List Line) → lines_of bytes ≡ lines → Means bytes (told_lines (is_whole_behind true bytes) (length (lines_of bytes)) lines)
  unfolding told_lines
  lines_mean [] none = no_line bytes none
  lines_mean (line ∷ rest) lines = at (bytes_eq line first_line) refl
    where
      at : (same : Bool) → bytes_eq line first_line ≡ same
          → Means bytes (cond same (told_behind (is_whole_behind true bytes) (length (lines_of bytes)) (length rest) [] 1 rest) (Bad 1))
      at true is =
          behind_means (length rest) [] 1 rest (omega arith) tt (lines ∙ ap (λ it. it ∷ rest) ((bytes_eq-Decides line first_line).0 is)) refl
      at false other =
          another_first bytes line rest lines (λ same. let is = sym other ∙ (bytes_eq-Decides line first_line).1 same in cc)

-- what is told is so
pub told_means : (bytes : List ℕ) → Means bytes (told_of bytes)
unfolding told_of
told_means bytes = lines_mean bytes (lines_of bytes) refl

pub submission_or_bad : BytesAreASubmissionOrBad
submission_or_bad bytes = at (told_of bytes) (told_means bytes)
  where
    at : (told : Told) → Means bytes told → ((submission : Submission) × IsSubmission bytes submission) ⊎ ((number : ℕ) × IsBadAt bytes number)
    at (Whole items) (submission, is, are) = inl (submission, is)
    at (Bad number) is = inr (number, is)

not_later : (bytes : List ℕ) (m n : ℕ) → IsBadAt bytes m → IsBadAt bytes n → m < n → ⊥
not_later bytes m n a b less = at a.ends b.ends
  where
    at : ((m ≤ length (lines_of bytes)) × (BeginsSubmission (take m (lines_of bytes)) → ⊥)) ⊎ (m ≡ length (lines_of bytes) + 1)
        → ((n ≤ length (lines_of bytes)) × (BeginsSubmission (take n (lines_of bytes)) → ⊥)) ⊎ (n ≡ length (lines_of bytes) + 1) → ⊥
    at (inl cut) ends = cut.1 (b.first m less)
    at (inr past) (inl cut) = absurd (omega (arith, past, cut.0, less))
    at (inr past) (inr other) = absurd (omega (arith, past, other, less))

pub one_bad_line : BytesHaveOneBadLine
one_bad_line bytes m n a b = at (cases_lt m n) (cases_lt n m)
  where
    at : (m < n) ⊎ (n ≤ m) → (n < m) ⊎ (m ≤ n) → m ≡ n
    at (inl less) other = absurd (not_later bytes m n a b less)
    at (inr low) (inl more) = absurd (not_later bytes n m b a more)
    at (inr low) (inr high) = omega (arith, low, high)
