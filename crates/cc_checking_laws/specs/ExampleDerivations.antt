-- Worked canonical derivations, as the rules of their nodes in the order in which they are printed: the premises in
-- order, and then the node. They hold where the type of a term is widened, and where it is not.
use Rattle.std.specs.Prelude.{◌≡◌, List, [], ◌∷◌, ◌++◌, Some}
use Rattle.cc_base.specs.Literals.{UnitLiteral}
use Rattle.cc_base.specs.declared.literal.Base.TheVariants as bases
use Rattle.cc_capture.specs.declared.var.Var.TheVariants.{Bound, Free}
use Rattle.cc_capture.specs.Sets.{empty, union}
use Rattle.cc_core.specs.Shapes.{BaseShape, TypeVariable, FunctionShape, TypeFunctionShape, BoxShape, CapturingType}
use Rattle.cc_core.specs.Shapes.{capturing}
use Rattle.cc_core.specs.Terms.{Absent, Written, Term, VariableTerm, LiteralTerm, FunctionTerm, TypeFunctionTerm}
use Rattle.cc_core.specs.Terms.{Application, Unboxing, Let, Conditional, Boundary, Leave}
use Rattle.cc_core.specs.Contexts.{TermEntry, Context}
use Rattle.cc_core.specs.Substitution.{single}
use Rattle.cc_core.specs.Derivations.{Rule, ByElement, ByVariable, BySet, ByReflexivity, ByTransitivity, ByTypeVariable}
use Rattle.cc_core.specs.Derivations.{ByBox, ByCapturing, t-var, t-lit, t-abs, t-tabs, t-app, t-unbox, t-let}
use Rattle.cc_core.specs.Derivations.{t-if, t-boundary, t-exit, t-sub, Derivation, Node, Premises, NoPremise, Premise}
use Rattle.cc_capture.specs.declared.var.Elem.{Elem}
use Rattle.cc_capture.specs.declared.var.Elem.TheVariants.{Var as Variable}
use Rattle.cc_checking.specs.ComparisonExamples.{number, nothing, printing, first, third, parameter}
use Rattle.cc_checking.specs.ExampleChecks.{from_nothing}
use Rattle.cc_checking.specs.CanonicalDerivations.{canonical_shapes, definition_derived}
use Rattle.cc_checking_laws.specs.ExampleDefinitions.{with_devices, both_devices, numeral, applied_to, after_two}

abbrev mutual
  -- the rules of a tree's nodes, each after those of its premises
  pub rules : Derivation → List Rule
  rules (Node rule premises claim) = rules_of premises ++ rule ∷ []

  -- those of several trees
  pub rules_of : Premises → List Rule
  rules_of NoPremise = []
  rules_of (Premise first rest) = rules first ++ rules_of rest

-- the canonical derivation of the right side, for which no type is written, up to the type that others see
abbrev pub DerivedBy : Context → Term → CapturingType → List Rule → Type 0
DerivedBy context right signature list =
    rules (definition_derived canonical_shapes context Absent right signature) ≡ list

-- def a = fun (u: Unit) => val y: Int = 1; y
-- What is written for y is compared, so the number's type is widened, to itself. Avoiding y changes the body's type.
abbrev pub WrittenNamesAreWidened : Type 0
WrittenNamesAreWidened =
    DerivedBy with_devices
    (FunctionTerm nothing empty (Let (Written number empty) (numeral 1) (VariableTerm (Bound 0))))
    (capturing (from_nothing number empty) empty)
    (t-lit ∷ BySet ∷ ByReflexivity ∷ ByCapturing ∷ t-sub
    ∷ t-var ∷ BySet ∷ ByVariable ∷ BySet ∷ ByReflexivity ∷ ByCapturing ∷ t-sub
    ∷ t-let ∷ t-abs ∷ [])

-- def a = fun (u: Unit) => val y = 1; u
-- Nothing is compared, and the body's type does not speak of y.
abbrev pub OtherNamesAreNot : Type 0
OtherNamesAreNot =
    DerivedBy with_devices (FunctionTerm nothing empty (Let Absent (numeral 1) (VariableTerm (Bound 1))))
    (capturing (FunctionShape nothing empty nothing (single parameter)) empty)
    (t-lit ∷ t-var ∷ t-let ∷ t-abs ∷ [])

-- def a = fun (b: Box[Int]) => unbox b
-- The head of an unboxing is always widened.
abbrev pub OpenedBoxesAreWidened : Type 0
OpenedBoxesAreWidened =
    DerivedBy with_devices (FunctionTerm (BoxShape number empty) empty (Unboxing (Some empty) (Bound 0)))
    (capturing (FunctionShape (BoxShape number empty) empty number empty) empty)
    (t-var ∷ ByElement ∷ BySet ∷ ByReflexivity ∷ ByCapturing ∷ t-sub ∷ t-unbox ∷ t-abs ∷ [])

-- def a = fun (b: Box[Int^{out}]) => unbox {out, hits} b
-- To a box with the set of the unboxing.
abbrev pub OpenedBoxesHaveTheSet : Type 0
OpenedBoxesHaveTheSet =
    DerivedBy with_devices
    (FunctionTerm (BoxShape number (single first)) empty (Unboxing (Some both_devices) (Bound 0)))
    (capturing (FunctionShape (BoxShape number (single first)) empty number both_devices) both_devices)
    (t-var ∷ ByElement ∷ BySet ∷ ByElement ∷ BySet ∷ ByReflexivity ∷ ByCapturing ∷ ByBox ∷ ByCapturing ∷ t-sub
    ∷ t-unbox ∷ t-abs ∷ [])

-- def a = fun [X <: (u: Unit) -> Unit] => fun (f: X) => f(unit)
-- Another head is widened where exposing changes its shape. An argument is widened to what is taken.
abbrev pub ExposedHeadsAreWidened : Type 0
ExposedHeadsAreWidened =
    DerivedBy with_devices
    (TypeFunctionTerm (from_nothing nothing empty)
    (FunctionTerm (TypeVariable (Bound 0)) empty
    (Let Absent (LiteralTerm UnitLiteral) (Application (Bound 1) (Bound 0)))))
    (capturing
    (TypeFunctionShape (from_nothing nothing empty)
    (FunctionShape (TypeVariable (Bound 0)) empty nothing empty) empty)
    empty)
    (t-lit ∷ t-var ∷ ByElement ∷ BySet ∷ ByTypeVariable ∷ ByReflexivity ∷ ByTransitivity ∷ ByCapturing ∷ t-sub
    ∷ t-var ∷ BySet ∷ ByVariable ∷ BySet ∷ ByReflexivity ∷ ByCapturing ∷ t-sub
    ∷ t-app ∷ t-let ∷ t-abs ∷ t-tabs ∷ [])

-- the variable at the fourth position
abbrev pub fourth : Elem
fourth = Variable (Free 3)

-- the context after f: ((x: Int) -> Unit)^{out}
abbrev pub after_printer : Context
after_printer = TermEntry printing (single first) ∷ with_devices

-- def a = fun (u: Unit) => f(5)
-- The head has the shape that is wanted. The whole is widened at the end, since others do not see f.
abbrev pub WholesAreWidened : Type 0
WholesAreWidened =
    DerivedBy after_printer (FunctionTerm nothing empty (applied_to 5 (Free 2)))
    (capturing (from_nothing nothing empty) (single first))
    (t-lit ∷ t-var ∷ t-var ∷ BySet ∷ ByVariable ∷ BySet ∷ ByReflexivity ∷ ByCapturing ∷ t-sub ∷ t-app ∷ t-let ∷ t-abs
    ∷ ByElement ∷ BySet ∷ ByVariable ∷ BySet ∷ ByReflexivity ∷ ByCapturing ∷ t-sub ∷ [])

-- def a = fun (t: Bool) => if [((x: Int) -> Unit)^{f, g}] t then f else g
-- The condition is an operand, and both branches are compared with what is written.
abbrev pub BranchesAreWidened : Type 0
BranchesAreWidened =
    DerivedBy after_two
    (FunctionTerm (BaseShape bases.Bool) empty
    (Conditional (Written printing (union (single third) (single fourth))) (Bound 0) (VariableTerm (Free 2))
    (VariableTerm (Free 3))))
    (capturing (FunctionShape (BaseShape bases.Bool) empty printing (union (single third) (single fourth)))
    (union (single third) (single fourth)))
    (t-var ∷ ByElement ∷ BySet ∷ ByReflexivity ∷ ByCapturing ∷ t-sub
    ∷ t-var ∷ ByElement ∷ BySet ∷ ByReflexivity ∷ ByCapturing ∷ t-sub
    ∷ t-var ∷ ByElement ∷ BySet ∷ ByReflexivity ∷ ByCapturing ∷ t-sub
    ∷ t-if ∷ t-abs ∷ [])

-- def a = fun (u: Unit) => boundary [Int] z => exit [Int] (z, 4)
-- What leaves is widened to what the exit takes, and the body to the shape of the boundary with the empty set.
abbrev pub BodiesOfBoundariesAreWidened : Type 0
BodiesOfBoundariesAreWidened =
    DerivedBy with_devices
    (FunctionTerm nothing empty
    (Boundary number (Let Absent (numeral 4) (Leave number empty (Bound 1) (Bound 0)))))
    (capturing (from_nothing number empty) empty)
    (t-lit ∷ t-var ∷ t-var ∷ BySet ∷ ByVariable ∷ BySet ∷ ByReflexivity ∷ ByCapturing ∷ t-sub ∷ t-exit ∷ t-let
    ∷ BySet ∷ ByReflexivity ∷ ByCapturing ∷ t-sub ∷ t-boundary ∷ t-abs ∷ [])
