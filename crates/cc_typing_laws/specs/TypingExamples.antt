-- Worked examples: types that are below others, and types that are not; terms that have a type, and terms that have
-- none.
use Rattle.std.specs.Prelude.{◌≡◌, pos, [], ◌∷◌, Option, Some}
use Rattle.cc_base.specs.declared.literal.Base.TheVariants as bases
use Rattle.cc_base.specs.declared.literal.Op.TheVariants as operations
use Rattle.cc_base.specs.Literals.{NumberLiteral}
use Rattle.cc_capture.specs.declared.var.Var.TheVariants.{Bound, Free}
use Rattle.cc_capture.specs.declared.var.Elem.TheVariants.{Cap}
use Rattle.cc_capture.specs.Sets.{Set, empty}
use Rattle.cc_core.specs.Shapes.{Shape, BaseShape, AnyShape, TypeVariable, FunctionShape, BoxShape, ExitShape}
use Rattle.cc_core.specs.Shapes.{CapturingType, capturing}
use Rattle.cc_core.specs.Terms.{Absent, Written, Term, VariableTerm, LiteralTerm, FunctionTerm, BoxTerm, Application}
use Rattle.cc_core.specs.Terms.{Unboxing, Let, Operation, Boundary, Leave}
use Rattle.cc_core.specs.Contexts.{TermEntry, Context}
use Rattle.cc_core.specs.Substitution.{single, replaced_by_shape}
use Rattle.cc_core.specs.WellFormed.{IsWellFormedTerm}
use Rattle.cc_core.specs.Subtyping.{Subtypes, SubtypesType}
use Rattle.cc_core.specs.Typing.{HasType}
use Rattle.cc_checking.specs.ComparisonExamples.{number, nothing, printing, first, parameter, with_console, identity_below, boxed}

-- the body of a boundary, with its exit
abbrev pub inside_boundary : Context
inside_boundary = TermEntry (ExitShape printing) (single Cap) ∷ []

-- a function that prints is not one with the empty set
abbrev pub PrintingIsNotPure : Type 0
PrintingIsNotPure = SubtypesType with_console (capturing printing (single first)) (capturing printing empty) → ⊥

-- but one with its own
abbrev pub PrintingWithItsSet : Type 0
PrintingWithItsSet = SubtypesType with_console (capturing printing (single first)) (capturing printing (single first))

-- An exit does not leave its boundary: a function that uses it is not one with the empty set.
abbrev pub ExitsDoNotLeave : Type 0
ExitsDoNotLeave = SubtypesType inside_boundary (capturing printing (single first)) (capturing printing empty) → ⊥

-- and a box does not hide it
abbrev pub BoxesDoNotHideExits : Type 0
BoxesDoNotHideExits = Subtypes inside_boundary (BoxShape printing (single first)) (BoxShape printing empty) → ⊥

-- The identity of all shapes, at boxes of functions that print: the boxes take the place of the type variable, and the
-- set of the result is still that of the parameter.
abbrev pub IdentityAtBoxes : Type 0
IdentityAtBoxes =
    replaced_by_shape (BoxShape printing (single first))
    (FunctionShape (TypeVariable (Bound 0)) empty (TypeVariable (Bound 1)) (single parameter))
    ≡ FunctionShape (BoxShape printing (single first)) empty (BoxShape printing (single first)) (single parameter)

-- type functions with different bounds are not below each other, also where the left one takes more
abbrev pub DifferentBoundsAreNotBelow : Type 0
DifferentBoundsAreNotBelow = Subtypes [] (identity_below AnyShape) (identity_below number) → ⊥

-- A result that captures its parameter may be widened to the set of the right parameter, which is smaller than that of
-- the left one.
abbrev pub ResultsAreUnderTheRightParameter : Type 0
ResultsAreUnderTheRightParameter =
    Subtypes with_console
    (FunctionShape printing (single Cap) (boxed (single parameter)) (single parameter))
    (FunctionShape printing (single first) (boxed (single first)) (single first))

-- fun (x: Int) => out.print(x), where out is the first variable of the context
abbrev pub printer : Term
printer = FunctionTerm number empty (Operation operations.Print (Free 0) (Some (Bound 0)))

-- it has the type of functions with the set {out}
abbrev pub PrinterHasItsSet : Type 0
PrinterHasItsSet = HasType with_console printer (capturing printing (single first))

-- and no type with the empty set
abbrev pub PrinterIsNotPure : Type 0
PrinterIsNotPure = (shape : Shape) → HasType with_console printer (capturing shape empty) → ⊥

-- val b = (val c: ((x: Int) -> Unit)^D = fun (x: Int) => out.print(x); box c); (unbox C b)(5), for the sets D that is
-- declared and C that is written at the unboxing, if one is
abbrev pub box_and_call : Set → Option Set → Term
box_and_call declared under =
    Let Absent (Let (Written printing declared) printer (BoxTerm (Bound 0)))
    (Let Absent (Unboxing under (Bound 0))
    (Let Absent (LiteralTerm (NumberLiteral (pos 5))) (Application (Bound 1) (Bound 0))))

-- Where D is {out}, the box is opened under that set.
abbrev pub BoxOpensUnderItsSet : Type 0
BoxOpensUnderItsSet = HasType with_console (box_and_call (single first) (Some (single first))) (capturing nothing empty)

-- Where D is {cap}, no set serves: without c, which goes out of scope, the set of the content has become one with cap,
-- and no box is opened under such a set.
abbrev pub BoxOfCapIsNotOpened : Type 0
BoxOfCapIsNotOpened =
    (under : Option Set) (type : CapturingType) → HasType with_console (box_and_call (single Cap) under) type → ⊥

-- functions from the unit value to the unit value
abbrev pub acting : Shape
acting = FunctionShape nothing empty nothing empty

-- boundary [(v: Unit) -> Unit] z => val k = fun (v: Unit) => v; fun (v: Unit) => exit [Unit] (z, k)
abbrev pub exit_in_a_function : Term
exit_in_a_function =
    Boundary acting
    (Let Absent (FunctionTerm nothing empty (VariableTerm (Bound 0)))
    (FunctionTerm nothing empty (Leave nothing empty (Bound 2) (Bound 1))))

-- boundary [Box[(v: Unit) -> Unit]] z => box (fun (v: Unit) => val w = z; v)
abbrev pub exit_in_a_box : Term
exit_in_a_box =
    Boundary (BoxShape acting empty)
    (Let Absent (FunctionTerm nothing empty (Let Absent (VariableTerm (Bound 1)) (VariableTerm (Bound 1))))
    (BoxTerm (Bound 0)))

-- A boundary has no type, in any context, if what it gives is a function that uses its exit.
abbrev pub FunctionsDoNotTakeExitsOut : Type 0
FunctionsDoNotTakeExitsOut = (context : Context) (type : CapturingType) → HasType context exit_in_a_function type → ⊥

-- and none if it gives a box of one
abbrev pub BoxesDoNotTakeExitsOut : Type 0
BoxesDoNotTakeExitsOut = (context : Context) (type : CapturingType) → HasType context exit_in_a_box type → ⊥

-- boundary [Int] z => val n = 5; exit [Int] (z, n)
abbrev pub exit_inside : Term
exit_inside =
    Boundary number (Let Absent (LiteralTerm (NumberLiteral (pos 5))) (Leave number empty (Bound 1) (Bound 0)))

-- An exit that is used inside its boundary is typed.
abbrev pub ExitsInsideAreTyped : Type 0
ExitsInsideAreTyped = HasType [] exit_inside (capturing number empty)

-- A let of a number that is written as a truth value has no type, whatever its body, and with whatever set it is
-- written.
abbrev pub NotesAreHeeded : Type 0
NotesAreHeeded =
    (context : Context) (set : Set) (body : Term) (type : CapturingType)
    → HasType context (Let (Written (BaseShape bases.Bool) set) (LiteralTerm (NumberLiteral (pos 5))) body) type → ⊥

-- What is refused above is well formed, so that it is the rules of typing which refuse it.
abbrev pub RefusedTermsAreWellFormed : Type 0
RefusedTermsAreWellFormed =
    IsWellFormedTerm with_console printer
    × IsWellFormedTerm with_console (box_and_call (single Cap) (Some (single first)))
    × IsWellFormedTerm [] exit_in_a_function
    × IsWellFormedTerm [] exit_in_a_box
    × IsWellFormedTerm []
    (Let (Written (BaseShape bases.Bool) empty) (LiteralTerm (NumberLiteral (pos 5))) (VariableTerm (Bound 0)))
