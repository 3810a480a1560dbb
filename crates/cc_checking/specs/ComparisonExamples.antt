-- Worked examples of the comparison, of exposing, and of avoidance.
use Rattle.std.specs.Prelude.{◌≡◌, [], ◌∷◌, Some, None}
use Rattle.cc_base.specs.declared.literal.Base.TheVariants as bases
use Rattle.cc_capture.specs.declared.var.Var.TheVariants.{Bound, Free}
use Rattle.cc_capture.specs.declared.var.Elem.{Elem}
use Rattle.cc_capture.specs.declared.var.Elem.TheVariants.{Var as Variable, Cap}
use Rattle.cc_capture.specs.Sets.{Set, empty}
use Rattle.cc_core.specs.Shapes.{Shape, BaseShape, AnyShape, TypeVariable, FunctionShape, TypeFunctionShape, BoxShape}
use Rattle.cc_core.specs.Shapes.{ExitShape, capturing}
use Rattle.cc_core.specs.Contexts.{TermEntry, TypeEntry, Context}
use Rattle.cc_core.specs.Substitution.{single}
use Rattle.cc_checking.specs.Comparison.{demanded, HasDemands, IsMismatch, TypesHaveDemands}
use Rattle.cc_checking.specs.Exposing.{exposed}
use Rattle.cc_checking.specs.Avoidance.{Positive, avoided, avoided_type}

-- the shape of numbers
abbrev pub number : Shape
number = BaseShape bases.Int

-- the shape of the unit value
abbrev pub nothing : Shape
nothing = BaseShape bases.Unit

-- functions from numbers to the unit value
abbrev pub printing : Shape
printing = FunctionShape number empty nothing empty

-- the variable at the first position
abbrev pub first : Elem
first = Variable (Free 0)

-- at the second
abbrev pub second : Elem
second = Variable (Free 1)

-- at the third
abbrev pub third : Elem
third = Variable (Free 2)

-- the parameter of the innermost function
abbrev pub parameter : Elem
parameter = Variable (Bound 0)

-- a context with one console
abbrev pub with_console : Context
with_console = TermEntry (BaseShape bases.Console) (single Cap) ∷ []

-- with two
abbrev pub with_two : Context
with_two = TermEntry (BaseShape bases.Console) (single Cap) ∷ with_console

-- where a function that prints is compared with one of the empty set, there is one demand
abbrev pub PrintingDemands : Type 0
PrintingDemands =
    TypesHaveDemands with_console (capturing printing (single first)) (capturing printing empty)
    (demanded with_console (single first) empty ∷ [])

-- boxes are below the bound Any, and nothing is demanded of their sets
abbrev pub BoxesAreBelowAny : Type 0
BoxesAreBelowAny = HasDemands with_console (BoxShape printing (single first)) AnyShape []

-- the type of the identity on what is below the bound
abbrev pub identity_below : Shape → Shape
identity_below bound =
    TypeFunctionShape bound (FunctionShape (TypeVariable (Bound 0)) empty (TypeVariable (Bound 1)) empty) empty

-- Type functions with different bounds do not match, also where the left one takes more.
abbrev pub DifferentBoundsMismatch : Type 0
DifferentBoundsMismatch = IsMismatch [] (identity_below AnyShape) (identity_below number)

-- a type variable compares as its bound
abbrev pub VariablesCompareAsTheirBounds : Type 0
VariablesCompareAsTheirBounds = HasDemands (TypeEntry number ∷ []) (TypeVariable (Free 0)) number []

-- a variable below a variable is exposed to the bound of that one
abbrev pub ExposingGoesOn : Type 0
ExposingGoesOn = exposed (TypeEntry (TypeVariable (Free 0)) ∷ TypeEntry number ∷ []) (TypeVariable (Free 1)) ≡ number

-- a box that captures what it holds
abbrev pub boxed : Set → Shape
boxed set = BoxShape printing set

-- What functions take compares from the right one to the left one, and first. What they give compares where the
-- parameter has the type of the right one: its own set, and then that of the content.
abbrev pub ParametersGoRightToLeft : Type 0
ParametersGoRightToLeft =
    HasDemands with_two
    (FunctionShape printing (single first) (boxed (single parameter)) (single parameter))
    (FunctionShape printing (single second) (boxed (single first)) (single second))
    (demanded with_two (single second) (single first)
    ∷ demanded (TermEntry printing (single second) ∷ with_two) (single third) (single second)
    ∷ demanded (TermEntry printing (single second) ∷ with_two) (single third) (single first)
    ∷ [])

-- Let p print on c, and let q have the set {p} and take functions with the set {p}. Without p the set of q is that of
-- p, and what q takes has the empty set.
abbrev pub AvoidingWidensAndNarrows : Type 0
AvoidingWidensAndNarrows =
    avoided_type Positive 1 (single first)
    (capturing (FunctionShape printing (single second) nothing empty) (single second))
    ≡ Some (capturing (FunctionShape printing empty nothing empty) (single first))

-- what takes such functions in its own parameter has the sign turned twice, so there the set is widened again
abbrev pub AvoidingTurnsTwice : Type 0
AvoidingTurnsTwice =
    avoided Positive 1 (single first)
    (FunctionShape (FunctionShape printing (single second) nothing empty) empty nothing (single second))
    ≡ Some (FunctionShape (FunctionShape printing (single first) nothing empty) empty nothing (single first))

-- there is no answer where the position stands in the bound of a type function
abbrev pub BoundsAreNotAvoided : Type 0
BoundsAreNotAvoided =
    avoided Positive 1 (single first) (TypeFunctionShape (BoxShape number (single second)) nothing empty) ≡ None

-- and in the shape of an exit
abbrev pub ExitsAreNotAvoided : Type 0
ExitsAreNotAvoided = avoided Positive 1 (single first) (ExitShape (BoxShape number (single second))) ≡ None
