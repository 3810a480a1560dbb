-- The list of sets as a filling, and when what is asked can be solved and judged.
use Rattle.std.specs.Prelude.{◌≡◌, ℕ, ◌<◌, List, length, slice_index_or, Option, Some, None}
use Rattle.cc_capture.specs.declared.var.Elem.TheVariants.{Hole}
use Rattle.cc_capture.specs.Sets.{Set, Member, empty}
use Rattle.cc_core.specs.Shapes.{Shape}
use Rattle.cc_core.specs.Contexts.{TermEntry, Context, lookup}
use Rattle.cc_core.specs.Subcapturing.{SubcapturesSet}
use Rattle.cc_checking.specs.Outcomes.{Asked, IsBelow, IsCapless, Placed}
use Rattle.cc_checking.specs.Fillings.{Filling, AllServed, IsAskedIn, IsOverGlobals}
use Rattle.cc_checking_laws.specs.FillingLaws.{AreFit}

-- the set of a hole by its number; a hole past the list has none
abbrev pub filling_of : List Set → Filling
filling_of sets hole = slice_index_or sets hole empty

-- the set, if there is one; else none has a member
abbrev pub set_or_none : Option Set → Set
set_or_none (Some set) = set
set_or_none None = empty

-- each hole of the set has a number below
abbrev pub HasHolesBelow : ℕ → Set → Type 0
HasHolesBelow holes set = (hole : ℕ) → Member (Hole hole) set → hole < holes

-- so has each hole of both sides of a demand, and of the declared sets in its context
abbrev pub AsksOfHolesBelow : ℕ → Asked → Type 0
AsksOfHolesBelow holes (IsBelow demand) =
    HasHolesBelow holes demand.left × HasHolesBelow holes demand.right
    × ((position : ℕ) (shape : Shape) (declared : Set)
    → lookup demand.context position ≡ Some (TermEntry shape declared) → HasHolesBelow holes declared)
AsksOfHolesBelow holes (IsCapless set) = Unit {0}

-- What is asked has a least filling that can be found: it is fit over so many globals, and speaks of so many holes.
pub record AreSolvable (globals holes : ℕ) (asked : List Placed) : Type 0 where
  pub base : Context
  pub so_many : length base ≡ globals
  pub fit : AreFit base asked
  pub numbered : (one : Asked) → IsAskedIn asked one → AsksOfHolesBelow holes one

-- it can be judged under the filling: it is fit over some globals, and the filling is over these
abbrev pub CanBeJudged : Filling → List Placed → Type 0
CanBeJudged filling asked = (base : Context) × AreFit base asked × IsOverGlobals (length base) filling

-- each filling over the globals that serves what is asked is above this one, hole by hole
abbrev pub IsBelowEachThatServes : ℕ → List Placed → Filling → Type 0
IsBelowEachThatServes globals asked filling =
    (base : Context) (other : Filling) → length base ≡ globals → AreFit base asked → IsOverGlobals globals other
    → AllServed other asked → (hole : ℕ) → SubcapturesSet base (filling hole) (other hole)

-- where one over the globals serves, this one does
abbrev pub ServesWhereOneDoes : ℕ → List Placed → Filling → Type 0
ServesWhereOneDoes globals asked filling =
    (base : Context) (other : Filling) → length base ≡ globals → AreFit base asked → IsOverGlobals globals other
    → AllServed other asked → AllServed filling asked
