-- The laws of subcapturing.
use Rattle.std.specs.Prelude.{◌≡◌, ◌↔◌, ◌⊎◌, ℕ, ◌∷◌, ◌++◌, Some}
use Rattle.cc_capture.specs.declared.var.Var.TheVariants.{Free}
use Rattle.cc_capture.specs.declared.var.Elem.{Elem}
use Rattle.cc_capture.specs.declared.var.Elem.TheVariants.{Var as Variable, Cap}
use Rattle.cc_capture.specs.Sets.{Set, Member}
use Rattle.cc_core.specs.Shapes.{Shape}
use Rattle.cc_core.specs.Contexts.{TermEntry, Context, lookup}
use Rattle.cc_core.specs.WellFormed.{IsWellFormedSet, IsWellFormedContext}
use Rattle.cc_core.specs.Subcapturing.{Subcaptures, SubcapturesSet}

-- a set is below itself
abbrev pub SubcapturingIsReflexive : Type 0
SubcapturingIsReflexive = (context : Context) (set : Set) → SubcapturesSet context set set

-- what is below a set is below each set above that one
abbrev pub SubcapturingIsTransitive : Type 0
SubcapturingIsTransitive =
    (context : Context) (left middle right : Set) → SubcapturesSet context left middle
    → SubcapturesSet context middle right → SubcapturesSet context left right

-- a set is below each set that has its members
abbrev pub SubsetsSubcapture : Type 0
SubsetsSubcapture =
    (context : Context) (left right : Set) → ((e : Elem) → Member e left → Member e right)
    → SubcapturesSet context left right

-- what is below stays below when entries are added
abbrev pub SubcapturingWeakens : Type 0
SubcapturingWeakens =
    (context added : Context) (left right : Set) → SubcapturesSet context left right
    → SubcapturesSet (added ++ context) left right

-- What is below stays below where the declared set of one variable becomes one below it.
abbrev pub SubcapturingNarrows : Type 0
SubcapturingNarrows =
    (context later : Context) (wide narrow : Shape) (c d left right : Set)
    → SubcapturesSet context d c
    → SubcapturesSet (later ++ (TermEntry wide c ∷ context)) left right
    → SubcapturesSet (later ++ (TermEntry narrow d ∷ context)) left right

-- What is below in a longer context, on the left with variables of the shorter one alone, is below in the shorter one.
abbrev pub SubcapturingStrengthens : Type 0
SubcapturingStrengthens =
    (context later : Context) (left right : Set) → IsWellFormedContext context → IsWellFormedSet context left
    → SubcapturesSet (later ++ context) left right → SubcapturesSet context left right

-- a set with the universal capability is below no set without it
abbrev pub CapIsBelowNoOther : Type 0
CapIsBelowNoOther =
    (context : Context) (left right : Set) → SubcapturesSet context left right → Member Cap left → Member Cap right

-- a variable is below exactly the sets that have it, and those that its declared set is below
abbrev pub SubcapturingOfVariables : Type 0
SubcapturingOfVariables =
    (context : Context) (position : ℕ) (shape : Shape) (declared set : Set)
    → lookup context position ≡ Some (TermEntry shape declared)
    → Subcaptures context (Variable (Free position)) set
    ↔ (Member (Variable (Free position)) set ⊎ SubcapturesSet context declared set)

-- what is no variable with a declared set is below the sets that have it alone
abbrev pub SubcapturingOfOthers : Type 0
SubcapturingOfOthers =
    (context : Context) (e : Elem) (set : Set)
    → ((position : ℕ) (shape : Shape) (declared : Set) → e ≡ Variable (Free position)
    → lookup context position ≡ Some (TermEntry shape declared) → ⊥)
    → Subcaptures context e set → Member e set
