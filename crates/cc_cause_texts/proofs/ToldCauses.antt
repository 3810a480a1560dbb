-- The lines of causes, of single lines.
use Rattle.std.proofs.Common.{◌≡◌, ℕ, true, false, Some, List, [], ◌∷◌, ◌++◌, codes, refl, ap, ◌∙◌}
use Rattle.std.specs.Fmt.{decimal, digits}
use Rattle.cc_capture.specs.Sets.{empty}
use Rattle.cc_core.specs.Equality.{same_shape}
use Rattle.cc_reasons.specs.Mismatches.{Pair}
use Rattle.cc_core.specs.Shapes.{Shape, CapturingType, capturing}
use Rattle.cc_checking.specs.Inference.{greatest_size}
use Rattle.cc_print.specs.TypeTexts.{shape_text, type_text}
use Rattle.cc_labels.specs.declared.labels.Labels.{Labels}
use Rattle.cc_labels.specs.LabelTexts.{labels_in}
use Rattle.cc_reasons.specs.Causes.{Scene, Cause, WrongHead, WrongType, WrongShape, NothingThere, Unavoidable, TooLarge}
use Rattle.cc_reasons.specs.ReasonTexts.{with_locals, behind_names, shape_there, type_there, within_lines, IsCompared}
use Rattle.cc_cause_texts.specs.CauseLines.{CanBeTold, IsLabelling, parts_lines}

-- a type that captures nothing is told as its shape
pub pure_told : (names : List (List ℕ)) (n : ℕ) (s : Shape) (t : CapturingType) → t ≡ capturing s empty
    → type_text names n t ≡ shape_text names n s
unfolding empty
pure_told names n s t is = ap (type_text names n) is

-- the texts with the labels of a scene are those there
pub shape_labelled : (names : List (List ℕ)) (scene : Scene) (labels : Labels) → IsLabelling names scene labels → (words : List ℕ) (s : Shape)
    → words ++ shape_text (labels_in labels) labels.locals s ≡ words ++ shape_there (with_locals names scene.locals) scene.context s
shape_labelled names scene labels is words s =
    ap (λ n. words ++ shape_text (labels_in labels) n s) is.1
    ∙ ap (λ l. words ++ shape_text l (behind_names (with_locals names scene.locals) scene.context) s) is.0

pub type_labelled : (names : List (List ℕ)) (scene : Scene) (labels : Labels) → IsLabelling names scene labels → (words : List ℕ) (t : CapturingType)
    → words ++ type_text (labels_in labels) labels.locals t ≡ words ++ type_there (with_locals names scene.locals) scene.context t
type_labelled names scene labels is words t =
    ap (λ n. words ++ type_text (labels_in labels) n t) is.1
    ∙ ap (λ l. words ++ type_text l (behind_names (with_locals names scene.locals) scene.context) t) is.0

-- two lines that are others
pub both_lines : (lines : List (List ℕ)) (first second one other : List ℕ) → lines ≡ first ∷ (second ∷ []) → first ≡ one → second ≡ other
    → lines ≡ one ∷ (other ∷ [])
both_lines lines first second one other is p q = is ∙ ap (λ l. l ∷ (second ∷ [])) p ∙ ap (λ l. one ∷ (l ∷ [])) q

-- the limit of sizes
pub limit_told : codes "limit 4096" ≡ codes "limit " ++ decimal greatest_size
unfolding digits
limit_told = refl

-- the lines of parts that are not the whole shapes, and none where they are
module _ (names : List (List ℕ)) (found wanted : Shape) (parts : Pair) where
  pub within_other_found : same_shape parts.found found ≡ false → within_lines names found wanted (Some parts) ≡ parts_lines names parts
  within_other_found e = rw e refl

  pub within_other_wanted : same_shape parts.found found ≡ true → same_shape parts.wanted wanted ≡ false
      → within_lines names found wanted (Some parts) ≡ parts_lines names parts
  within_other_wanted e f = rw e (rw f refl)

  pub within_none : same_shape parts.found found ≡ true → same_shape parts.wanted wanted ≡ true
      → within_lines names found wanted (Some parts) ≡ []
  within_none e f = rw e (rw f refl)

-- what can be told is compared in some steps
pub compared : (cause : Cause) → CanBeTold cause → (steps : ℕ) × IsCompared steps cause
compared (WrongHead scene found wanted) can = (0, tt)
compared (WrongType scene found wanted) can = (can.3.0, can.3.1)
compared (WrongShape scene found wanted) can = (can.3.0, can.3.1)
compared NothingThere can = (0, tt)
compared (Unavoidable scene position type) can = (0, tt)
compared (TooLarge scene type) can = (0, tt)
