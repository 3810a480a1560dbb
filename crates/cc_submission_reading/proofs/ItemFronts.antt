-- Lines with which items of a submission go on, and lines with which none begins.
use Rattle.std.proofs.Common.{◌≡◌, ℕ, zero, suc, ◌+◌, ◌<◌, ◌==◌, true, false, not, ◌&&◌, List, [], ◌∷◌, ◌++◌, length, map, replicate, Option, Some, None, refl, sym, ap, subst, ◌∙◌, arith, length-append}
use Rattle.std.specs.Prelude.{nat_lt}
use Rattle.std.specs.List.{list_any, AllByRecursion, IsDistinct}
use Rattle.std.specs.Str.{bytes_eq}
use Rattle.std.specs.Cmp.Lexicographic.{nat_list_eq_equiv}
use Rattle.std.proofs.lemmas.List.{length-replicate}
use Rattle.std.proofs.lemmas.Map.Keys.{IsDistinct-push}
use Rattle.std.proofs.lemmas.Bool.Decides.{nat_tests, Decides-eqb}
use Rattle.std.proofs.lemmas.Slice.Eq.{bytes_eq-Decides}
use Rattle.cc_job.specs.Jobs.{text}
use Rattle.cc_job.specs.Reading.{has_device}
use Rattle.cc_job.proofs.HeadLaws.{some_same, no_length}
use Rattle.cc_job.proofs.Standing.{map-append, names_any, not_false}
use Rattle.cc_job.proofs.JobLaws.{blank_line, blanks_lack, any_before}
use Rattle.cc_words.specs.Lines.{Line}
use Rattle.cc_words.proofs.Splits.{AllLack}
use Rattle.cc_words.proofs.Steps.{both}
use Rattle.cc_words.proofs.LineLists.{AllLack-append}
use Rattle.cc_vouching.specs.Submissions.{Item, Declares, Presents, Claims, IsItem, item_lines}
use Rattle.cc_submission_reading.specs.declared.heads.ItemHead.{ItemHead}
use Rattle.cc_submission_reading.specs.declared.heads.ItemHead.TheVariants as heads
use Rattle.cc_submission_reading.specs.HeadReading.{item_head_of, line_count, item_with, is_that, may_stand}
use Rattle.cc_submission_reading.specs.Submitting.{SoFar, last_of, MaySubmit, GoesOn, IsOpen, IsInOrder}
use Rattle.cc_submission_reading.proofs.SubmissionHeads.{item_head_of_gives, head_for, item_head_of-item}

is_that_name : (last : Option (List ℕ)) (name : List ℕ) → is_that last name ≡ true → last ≡ Some name
is_that_name None name h = cc
is_that_name (Some other) name h = ap Some ((bytes_eq-Decides other name).0 h)

that_is : (last : Option (List ℕ)) (name : List ℕ) → last ≡ Some name → is_that last name ≡ true
that_is None name h = cc
that_is (Some other) name h = (bytes_eq-Decides other name).1 (some_same other name h)

below_16 : (n : ℕ) → nat_lt n 16 ≡ true → n < 16
below_16 n h = grind (arith, nat_tests)

lt_16 : (n : ℕ) → n < 16 → nat_lt n 16 ≡ true
lt_16 n h = grind (arith, nat_tests)

-- what may stand here may be said
may_submit : (so_far : SoFar) (head : ItemHead) (told : List ℕ) → IsInOrder so_far → may_stand so_far head ≡ true
    → IsItem (item_with head told) → MaySubmit so_far (item_with head told)
may_submit so_far (heads.Device device) told order stands is =
    let all = both ((length so_far.modules == 0) && nat_lt (length so_far.devices) 16) (not (has_device so_far.devices device)) stands in
    let room = both (length so_far.modules == 0) (nat_lt (length so_far.devices) 16) all.0 in
    let fresh = names_any device so_far.devices ∙ not_false (has_device so_far.devices device) all.1 in (
      is,
      record {
        early = no_length so_far.modules ((Decides-eqb (length so_far.modules) 0).0 room.0);
        few = below_16 (length so_far.devices) room.1;
        names = subst (IsDistinct bytes_eq) (sym (map-append (λ it. it.name) so_far.devices (device ∷ [])))
            (IsDistinct-push nat_list_eq_equiv (map (λ it. it.name) so_far.devices) device.name order.devices_differ fresh);
      },
    )
may_submit so_far (heads.Module name count) told order stands is =
    (is, IsDistinct-push nat_list_eq_equiv so_far.modules name order.modules_differ (not_false (list_any (bytes_eq name) so_far.modules) stands))
may_submit so_far (heads.Claim owner definition count) told order stands is =
    (is, is_that_name (last_of so_far.modules) owner stands)

-- A line that may stand here, with so many lines behind it, is an item that may be said.
pub record IsWhole (so_far : SoFar) (line : Line) (head : ItemHead) (lines : List Line) : Type 0 where
  pub may : MaySubmit so_far (item_with head (text lines))
  pub lines_are : item_lines (item_with head (text lines)) ≡ line ∷ lines

pub whole_item : (so_far : SoFar) (line : Line) (head : ItemHead) (lines : List Line) → IsInOrder so_far
    → item_head_of line ≡ Some head → may_stand so_far head ≡ true → AllLack 10 lines → length lines ≡ line_count head
    → IsWhole so_far line head lines
whole_item so_far line head lines order says stands lack many =
    let of = item_head_of_gives line head says lines lack many in
    record { may = may_submit so_far head (text lines) order stands of.item; lines_are = of.are }

more_than : (n k : ℕ) → k < n → (m : ℕ) × (n ≡ k + suc m)
more_than zero k less = absurd (omega arith)
more_than (suc n) zero less = (n, omega arith)
more_than (suc n) (suc k) less =
    let deeper = more_than n k (omega arith) in (deeper.0, omega (arith, deeper.1))

-- an item goes on with fewer lines than it has
pub open_front : (so_far : SoFar) (line : Line) (head : ItemHead) (front : List Line) → IsInOrder so_far
    → item_head_of line ≡ Some head → may_stand so_far head ≡ true → AllLack 10 front → length front < line_count head
    → IsOpen so_far (line ∷ front)
open_front so_far line head front order says stands lack less =
    let more = more_than (line_count head) (length front) less in
    let pads = replicate (suc more.0) blank_line in
    let all = whole_item so_far line head (front ++ pads) order says stands
    (AllLack-append 10 front pads lack (blanks_lack (suc more.0)))
    (omega (arith, length-append front pads, length-replicate (suc more.0) blank_line, more.1)) in (
      item_with head (text (front ++ pads)),
      blank_line,
      replicate more.0 blank_line,
      all.may,
      all.lines_are,
    )

pub is_item : (so_far : SoFar) (item : Item) → MaySubmit so_far item → IsItem item
is_item so_far (Declares device) may = may.0
is_item so_far (Presents name source) may = may.0
is_item so_far (Claims owner definition certificate) may = may.0

-- no item goes on with a line that says nothing
pub none_says : (so_far : SoFar) (line : Line) → item_head_of line ≡ None → GoesOn so_far (line ∷ []) → ⊥
none_says so_far line none (item, missing, may, is) =
    let told : Some (head_for item) ≡ None = sym (item_head_of-item item line missing (is_item so_far item may) is) ∙ none in cc

-- a name that differs from all before it is none of them
pub absent_before : (names : List (List ℕ)) (name : List ℕ) → IsDistinct bytes_eq (names ++ name ∷ []) → list_any (bytes_eq name) names ≡ false
unfolding IsDistinct
absent_before [] name apart = refl
absent_before (other ∷ names) name apart = rw (differs names apart.0, absent_before names name apart.1) refl
  where
    turned : bytes_eq other name ≡ false → bytes_eq name other ≡ false
    turned h = elim (bytes_eq name other) as (λ t. bytes_eq name other ≡ t → t ≡ false) [
      | true ↦ λ e. let same = (bytes_eq-Decides other name).1 (sym ((bytes_eq-Decides name other).0 e)) in cc
      | false ↦ λ e. refl
    ] refl

    differs : (names : List (List ℕ)) → AllByRecursion (λ y. bytes_eq other y ≡ false) (names ++ name ∷ []) → bytes_eq name other ≡ false
    differs [] each = turned each.0
    differs (x ∷ names) each = differs names each.1

-- what may be said may stand here
stands_may : (so_far : SoFar) (item : Item) → MaySubmit so_far item → may_stand so_far (head_for item) ≡ true
stands_may so_far (Declares device) (is, may) =
    let none : (length so_far.modules == 0) ≡ true = (Decides-eqb (length so_far.modules) 0).1 (ap length may.early) in
    let less : nat_lt (length so_far.devices) 16 ≡ true = lt_16 (length so_far.devices) may.few in
    rw (none, less, any_before device so_far.devices [] may.names) refl
stands_may so_far (Presents name source) (is, may) = rw (absent_before so_far.modules name may) refl
stands_may so_far (Claims owner definition certificate) (is, may) = that_is (last_of so_far.modules) owner may

-- no item goes on with a line that may not stand here
pub none_stands : (so_far : SoFar) (line : Line) (head : ItemHead) → item_head_of line ≡ Some head
    → may_stand so_far head ≡ false → GoesOn so_far (line ∷ []) → ⊥
none_stands so_far line head says late (item, missing, may, is) =
    let same : head ≡ head_for item = some_same head (head_for item) (sym says ∙ item_head_of-item item line missing (is_item so_far item may) is) in
    let clash : false ≡ true = sym late ∙ ap (may_stand so_far) same ∙ stands_may so_far item may in cc
