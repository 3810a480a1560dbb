-- How near an element that is not below a set is to an end, along what the declared sets have that is not below it either.
use Rattle.std.specs.Prelude.{◌≡◌, ℕ, ◌<◌, ◌≤◌, List, [], length, Option, Some, None, IsTrue, Bool}
use Rattle.cc_capture.specs.declared.var.Elem.{Elem}
use Rattle.cc_capture.specs.declared.var.Elem.TheVariants.{Var as Variable}
use Rattle.cc_capture.specs.declared.var.Var.TheVariants.{Free}
use Rattle.cc_capture.specs.Sets.{Set}
use Rattle.cc_core.specs.Contexts.{TermEntry, Context, lookup}
use Rattle.cc_core.specs.Occurrences.{HasNoHoleInSet, IsNoHole}
use Rattle.cc_core.specs.Shapes.{Shape}
use Rattle.cc_core.specs.Subcapturing.{Subcaptures}
use Rattle.cc_core.specs.WellFormed.{kinds_of, is_well_formed_element}
use Rattle.cc_explain.specs.Chains.{LeadsAlong}
use Rattle.cc_reasons.specs.ReasonTexts.{is_end, LeadsOn}
use Rattle.cc_captured_reasons.specs.Tellings.{telling}

-- no declared set of the context has a hole
abbrev pub HasNoHoleInSets : Context → Type 0
HasNoHoleInSets context =
    (position : ℕ) (shape : Shape) (declared : Set) → lookup context position ≡ Some (TermEntry shape declared)
    → HasNoHoleInSet declared

-- the element is a variable of terms of the context, or the universal capability
abbrev pub StandsIn : Context → Elem → Type 0
StandsIn context e = IsTrue (is_well_formed_element (kinds_of context) [] e) × IsNoHole e

-- Links lead on from the element to an end by so many, and no fewer do.
pub record IsNear (entry : Elem → List Elem) (is_end : Elem → Bool) (from : Elem) (number : ℕ) : Type 0 where
  pub to : Elem
  pub others : List Elem
  pub ends : IsTrue (is_end to)
  pub leads : LeadsAlong entry from others to
  pub counted : length others ≡ number
  pub least : (other : List Elem) (end : Elem) → IsTrue (is_end end) → LeadsAlong entry from other end
      → number ≤ length other

-- What is told of an element: nothing where it is below the set, and else that it is not, and how near it is to an end.
abbrev pub TellsOf : ℕ → Context → Set → Elem → Option ℕ → Type 0
TellsOf devices context right e None = Subcaptures context e right
TellsOf devices context right e (Some number) =
    (Subcaptures context e right → ⊥)
    × ((entry : Elem → List Elem) → LeadsOn devices context right entry → IsNear entry (is_end devices) e number)

-- The list tells so of each variable of terms that stands at one of its positions.
abbrev pub AreTold : ℕ → Context → Set → List (Option ℕ) → Type 0
AreTold devices context right told =
    (position : ℕ) (shape : Shape) (declared : Set) → position < length told
    → lookup context position ≡ Some (TermEntry shape declared)
    → TellsOf devices context right (Variable (Free position)) (telling told right (Variable (Free position)))
