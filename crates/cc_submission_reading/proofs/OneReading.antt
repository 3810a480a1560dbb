-- Lines are those of items in one way at most.
use Rattle.std.proofs.Common.{◌≡◌, ℕ, List, [], ◌∷◌, ◌++◌, length, refl, sym, ap, subst, ◌∙◌, append_assoc}
use Rattle.std.specs.List.{flat_map}
use Rattle.cc_job.specs.Jobs as job
use Rattle.cc_job.specs.Jobs.{text}
use Rattle.cc_job.proofs.HeadLaws.{some_same}
use Rattle.cc_job.proofs.ItemLists.{equal_fronts}
use Rattle.cc_words.specs.Lines.{Line, lines_of, AreWholeLines}
use Rattle.cc_words.specs.Words.{joined}
use Rattle.cc_words.proofs.LineLists.{terminated-lines_of, cons_parts}
use Rattle.cc_vouching.specs.Submissions.{Item, Declares, Presents, Claims, IsItem, item_lines}
use Rattle.cc_submission_reading.specs.HeadReading.{item_head_of, line_count, item_with}
use Rattle.cc_submission_reading.specs.Submitting.{SoFar, behind_item, MayAllBeSaid, behind_items}
use Rattle.cc_submission_reading.proofs.SubmissionHeads.{text_is, head_for, item_head_of-item}
use Rattle.cc_submission_reading.proofs.ItemFronts.{is_item}

-- a text of whole lines is its lines
pub text_of_lines : (bytes : List ℕ) → AreWholeLines bytes → text (lines_of bytes) ≡ bytes
text_of_lines bytes whole = text_is (lines_of bytes) ∙ terminated-lines_of bytes whole

-- an item as its first line and those behind it
pub record Parts (item : Item) : Type 0 where
  pub line : Line
  pub behind : List Line
  pub are : item_lines item ≡ line ∷ behind
  pub many : length behind ≡ line_count (head_for item)
  pub back : item_with (head_for item) (text behind) ≡ item

pub parts_of : (item : Item) → IsItem item → Parts item
parts_of (Declares device) is = record {
  line = joined 32 (job.item_words (job.Declares device));
  behind = [];
  are = refl;
  many = refl;
  back = refl;
}
parts_of (Presents name source) is = record {
  line = _;
  behind = lines_of source;
  are = refl;
  many = refl;
  back = ap (Presents name) (text_of_lines source is.1.0);
}
parts_of (Claims owner definition certificate) is = record {
  line = _;
  behind = lines_of certificate;
  are = refl;
  many = refl;
  back = ap (Claims owner definition) (text_of_lines certificate is.1.0);
}

-- two items whose lines begin alike are one, and so is what stands behind
pub one_item : (item other : Item) (rest more : List Line) → IsItem item → IsItem other
    → item_lines item ++ rest ≡ item_lines other ++ more → (item ≡ other) × (rest ≡ more)
one_item item other rest more is also same =
    let a = parts_of item is in
    let b = parts_of other also in
    let lines : a.line ∷ (a.behind ++ rest) ≡ b.line ∷ (b.behind ++ more) =
    sym (ap (λ it. it ++ rest) a.are) ∙ same ∙ ap (λ it. it ++ more) b.are in
    let cut = cons_parts a.line b.line (a.behind ++ rest) (b.behind ++ more) lines in
    let head : head_for item ≡ head_for other =
    some_same (head_for item) (head_for other)
    (sym (item_head_of-item item a.line a.behind is a.are) ∙ ap item_head_of cut.0 ∙ item_head_of-item other b.line b.behind also b.are) in
    let fronts = equal_fronts a.behind b.behind rest more (a.many ∙ ap line_count head ∙ sym b.many) cut.1 in
    (sym a.back ∙ ap (λ it. item_with it (text a.behind)) head ∙ ap (λ it. item_with (head_for other) (text it)) fronts.0 ∙ b.back, fronts.1)

-- an item has a line
pub some_line : (item : Item) (more : List Line) → IsItem item → item_lines item ++ more ≡ [] → ⊥
some_line item more is none =
    let a = parts_of item is in
    let clash : a.line ∷ (a.behind ++ more) ≡ [] = sym (ap (λ it. it ++ more) a.are) ∙ none in cc

-- What is left of items of which the first lines are those of other ones.
pub record Left (so_far : SoFar) (items others : List Item) (more : List Line) : Type 0 where
  pub left : List Item
  pub are : others ≡ items ++ left
  pub said : MayAllBeSaid (behind_items so_far items) left
  pub lines : flat_map item_lines left ≡ more

pub left_behind : (so_far : SoFar) (items others : List Item) (more : List Line) → MayAllBeSaid so_far items → MayAllBeSaid so_far others
    → flat_map item_lines others ≡ flat_map item_lines items ++ more → Left so_far items others more
left_behind so_far [] others more said also same = record { left = others; are = refl; said = also; lines = same }
left_behind so_far (item ∷ items) [] more (may, said) also same =
    absurd (some_line item (flat_map item_lines items ++ more) (is_item so_far item may)
    (sym (append_assoc (item_lines item) (flat_map item_lines items) more) ∙ sym same))
left_behind so_far (item ∷ items) (other ∷ others) more (may, said) (may_other, also) same =
    let one = one_item other item (flat_map item_lines others) (flat_map item_lines items ++ more) (is_item so_far other may_other) (is_item so_far item may)
    (same ∙ append_assoc (item_lines item) (flat_map item_lines items) more) in
    let deeper = left_behind (behind_item so_far item) items others more said (subst (λ it. MayAllBeSaid (behind_item so_far it) others) one.0 also) one.1 in
    record {
      left = deeper.left;
      are = ap (λ it. it ∷ others) one.0 ∙ ap (λ it. item ∷ it) deeper.are;
      said = deeper.said;
      lines = deeper.lines;
    }
