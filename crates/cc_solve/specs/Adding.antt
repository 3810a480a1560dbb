-- What is added to the sets of a list, and what a demand brings into a hole.
use Rattle.std.specs.Prelude.{◌≡◌, ◌⊎◌, ℕ, List, length}
use Rattle.cc_capture.specs.declared.var.Elem.{Elem}
use Rattle.cc_capture.specs.declared.var.Elem.TheVariants.{Hole}
use Rattle.cc_capture.specs.Sets.{Set, Member}
use Rattle.cc_core.specs.Occurrences.{IsNoHole}
use Rattle.cc_core.specs.Substitution.{single}
use Rattle.cc_checking.specs.Comparison.{Demand}
use Rattle.cc_checking.specs.Outcomes.{IsBelow, Placed}
use Rattle.cc_checking.specs.Fillings.{IsAskedIn}
use Rattle.cc_solve.specs.Ends.{LeadsFrom}
use Rattle.cc_solve.specs.Solutions.{filling_of}

-- The elements of which the fact holds at the index of a set were added to that set.
pub record AddsThose (Fact : ℕ → Elem → Type 0) (old new : List Set) : Type 0 where
  pub room : length new ≡ length old
  pub kept : (at : ℕ) (e : Elem) → Member e (filling_of old at) → Member e (filling_of new at)
  pub only : (at : ℕ) (e : Elem) → Member e (filling_of new at) → Member e (filling_of old at) ⊎ Fact at e
  pub all : (at : ℕ) (e : Elem) → Fact at e → Member e (filling_of new at)

-- A demand brings the element into the hole: the hole is its right side, and its left side leads to the element.
abbrev pub Brings : ℕ → List Placed → ℕ → Elem → Type 0
Brings root asked hole e =
    (demand : Demand) × IsAskedIn asked (IsBelow demand) × (demand.right ≡ single (Hole hole))
    × LeadsFrom root demand.context demand.left e

-- it is no hole, and is brought into the hole
abbrev pub IsSeed : ℕ → List Placed → ℕ → Elem → Type 0
IsSeed root asked hole e = IsNoHole e × Brings root asked hole e

-- what is in the hole flows into a second one: the element is that, and the hole is brought into it
abbrev pub IsFlow : ℕ → List Placed → ℕ → Elem → Type 0
IsFlow root asked hole e = (target : ℕ) × (e ≡ Hole target) × Brings root asked target (Hole hole)

-- the same where the elements of which the fact holds are brought into one hole
abbrev pub IsSeedOf : ℕ → (Elem → Type 0) → ℕ → Elem → Type 0
IsSeedOf hole Fact at e = (at ≡ hole) × IsNoHole e × Fact e

abbrev pub IsFlowOf : ℕ → (Elem → Type 0) → ℕ → Elem → Type 0
IsFlowOf hole Fact at e = (e ≡ Hole hole) × Fact (Hole at)
