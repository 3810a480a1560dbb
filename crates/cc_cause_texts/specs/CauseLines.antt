-- The lines of causes, and the causes that can be told.
use Rattle.std.specs.Prelude.{◌≡◌, ℕ, List, [], ◌∷◌, ◌++◌, codes}
use Rattle.cc_core.specs.Contexts.{Context}
use Rattle.cc_core.specs.Shapes.{Shape}
use Rattle.cc_core.specs.WellFormed.{IsWellFormedContext, IsWellFormedShape}
use Rattle.cc_checking.specs.Comparison.{IsMismatch}
use Rattle.cc_reasons.specs.Causes.{Scene, Cause, WrongHead, WrongType, WrongShape, NothingThere, Unavoidable, TooLarge}
use Rattle.cc_reasons.specs.ReasonTexts.{IsCompared, cause_lines, with_locals, behind_names, shape_there}
use Rattle.cc_reasons.specs.Mismatches.{Pair}
use Rattle.cc_labels.specs.declared.labels.Labels.{Labels}
use Rattle.cc_labels.specs.LabelTexts.{labels_in}

-- two well-formed shapes of a well-formed context that do not match
abbrev pub DoNotMatch : Context → Shape → Shape → Type 0
DoNotMatch context found wanted =
    IsWellFormedContext context × IsWellFormedShape context found × IsWellFormedShape context wanted
    × IsMismatch context found wanted

-- What is compared in the cause is well formed and does not match.
abbrev pub CanBeTold : Cause → Type 0
CanBeTold (WrongHead scene found wanted) = Unit {0}
CanBeTold (WrongType scene found wanted) = DoNotMatch scene.context found.shape wanted.shape
CanBeTold (WrongShape scene found wanted) = DoNotMatch scene.context found wanted
CanBeTold NothingThere = Unit {0}
CanBeTold (Unavoidable scene position type) = Unit {0}
CanBeTold (TooLarge scene type) = Unit {0}

-- these are the lines of the cause, where the first positions have these names
abbrev pub AreCauseLines : List (List ℕ) → Cause → List (List ℕ) → Type 0
AreCauseLines names cause lines =
    (steps : ℕ) × IsCompared steps cause × (lines ≡ cause_lines steps names cause)

-- the lines of parts that do not match
abbrev pub parts_lines : List (List ℕ) → Pair → List (List ℕ)
parts_lines names parts =
    (codes "within found " ++ shape_there names parts.context parts.found)
    ∷ (codes "within wanted " ++ shape_there names parts.context parts.wanted) ∷ []

-- These are the labels of the positions of a scene, of which the first ones have these names.
abbrev pub IsLabelling : List (List ℕ) → Scene → Labels → Type 0
IsLabelling names scene labels =
    (labels_in labels ≡ with_locals names scene.locals)
    × (labels.locals ≡ behind_names (with_locals names scene.locals) scene.context)
