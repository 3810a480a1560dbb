-- The law of the texts of types.
use Rattle.std.specs.Prelude.{◌≡◌, ℕ, ◌<◌, ◌≤◌, ◌^◌, List, length}
use Rattle.std.specs.List.{AllByRecursion, IsDistinct}
use Rattle.std.specs.Str.{bytes_eq}
use Rattle.cc_base.specs.Names.{IsName}
use Rattle.cc_capture.specs.declared.var.Var.{Var}
use Rattle.cc_capture.specs.declared.var.Var.TheVariants.{Bound, Free}
use Rattle.cc_capture.specs.declared.var.Elem.{Elem}
use Rattle.cc_capture.specs.declared.var.Elem.TheVariants.{Var as Variable, Cap, Hole}
use Rattle.cc_core.specs.Occurrences.{Condition, MeetsInType}
use Rattle.cc_core.specs.Shapes.{CapturingType}
use Rattle.cc_print.specs.TypeTexts.{type_text}

-- The variable is one of so many positions, or has its binder among those outside, which are no more than are counted
-- in 64 bits.
abbrev pub IsBoundOrListed : ℕ → ℕ → Var → Type 0
IsBoundOrListed positions depth (Bound index) = (index < depth) × (depth ≤ 2 ^ 64)
IsBoundOrListed positions depth (Free position) = position < positions

-- the same of an element, which is no hole
abbrev pub IsFinished : ℕ → ℕ → Elem → Type 0
IsFinished positions depth (Variable variable) = IsBoundOrListed positions depth variable
IsFinished positions depth Cap = Unit {0}
IsFinished positions depth (Hole number) = ⊥

abbrev pub finished : ℕ → Condition
finished positions = record {
  element = IsFinished positions;
  shape = IsBoundOrListed positions;
  variable = IsBoundOrListed positions;
}

-- the type has no hole, and each variable in it is one of so many positions or has its binder there
abbrev pub IsClosedOver : ℕ → CapturingType → Type 0
IsClosedOver positions type = MeetsInType (finished positions) 0 type

-- Closed types over one list of different names are one where their texts are.
abbrev pub DifferentTypesHaveDifferentTexts : Type 0
DifferentTypesHaveDifferentTexts =
    (names : List (List ℕ)) (a b : CapturingType) → AllByRecursion IsName names → IsDistinct bytes_eq names
    → IsClosedOver (length names) a → IsClosedOver (length names) b
    → type_text names 0 a ≡ type_text names 0 b → a ≡ b
