-- Worked derivations with the numbers of their broken nodes.
use Rattle.std.specs.Prelude.{◌≡◌, [], ◌∷◌, Some, None}
use Rattle.cc_base.specs.Literals.{UnitLiteral}
use Rattle.cc_base.specs.declared.literal.Base.TheVariants as bases
use Rattle.cc_base.specs.declared.literal.Operator.TheVariants as operators
use Rattle.cc_capture.specs.declared.var.Var.TheVariants.{Bound, Free}
use Rattle.cc_capture.specs.declared.var.Elem.TheVariants.{Cap}
use Rattle.cc_capture.specs.Sets.{Set, empty}
use Rattle.cc_core.specs.Shapes.{Shape, BaseShape, AnyShape, FunctionShape, TypeFunctionShape, CapturingType, capturing}
use Rattle.cc_core.specs.Terms.{Term, Absent, VariableTerm, LiteralTerm, FunctionTerm, Let, Primitive, Unboxing}
use Rattle.cc_core.specs.Contexts.{TermEntry, Context}
use Rattle.cc_core.specs.Substitution.{single}
use Rattle.cc_core.specs.Captured.{variable_set}
use Rattle.cc_core.specs.Derivations.{ByElement, ByVariable, ByReflexivity, ByTypeFunction, ByCapturing, t-var, t-lit}
use Rattle.cc_core.specs.Derivations.{t-abs, t-unbox, t-let, t-prim, t-sub, SetBelow, ShapeBelow, TypeBelow, OfType}
use Rattle.cc_core.specs.Derivations.{Derivation, Node, NoPremise, one, two}
use Rattle.cc_derivation.specs.Rows.{TypeOf, SetsBelow, ShapesBelow, TypesBelow}
use Rattle.cc_derivation.specs.Broken.{broken}

-- the type of units that capture nothing
abbrev pub unit : CapturingType
unit = capturing (BaseShape bases.Unit) empty

-- fun (x: Unit) => x, and its type (x: Unit) -> Unit^{x}
abbrev pub identity : Term
identity = FunctionTerm (BaseShape bases.Unit) empty (VariableTerm (Bound 0))

abbrev pub identity_type : CapturingType
identity_type = capturing
    (FunctionShape (BaseShape bases.Unit) empty (BaseShape bases.Unit) (variable_set (Bound 0))) empty

-- its derivation, where the variable has some type
abbrev pub identity_with : CapturingType → Derivation
identity_with type = Node t-abs (one (Node t-var NoPremise (OfType type))) (OfType identity_type)

-- the derivation is valid as it stands
abbrev pub IdentityIsWhole : Type 0
IdentityIsWhole =
    broken 0 (TypeOf [] identity) (identity_with (capturing (BaseShape bases.Unit) (variable_set (Free 0)))) ≡ []

-- with Unit as the type of the variable, the first node is broken, and then the second one
abbrev pub ClaimWithoutTheVariable : Type 0
ClaimWithoutTheVariable = broken 0 (TypeOf [] identity) (identity_with unit) ≡ 1 ∷ 2 ∷ []

-- the root alone has not the one premise of its rule
abbrev pub RootAlone : Type 0
RootAlone = broken 0 (TypeOf [] identity) (Node t-abs NoPremise (OfType identity_type)) ≡ 1 ∷ []

-- a node that breaks its rule wherever it has a place
abbrev pub wrong : Derivation
wrong = Node t-lit NoPremise (SetBelow empty empty)

-- each of these roots does not fit its place, so that the wrong node in its premises has none: too many premises,
abbrev pub TooManyPremises : Type 0
TooManyPremises =
    broken 0 (TypeOf [] (LiteralTerm UnitLiteral)) (Node t-lit (one wrong) (OfType unit)) ≡ 2 ∷ []

-- too few,
abbrev pub TooFewPremises : Type 0
TooFewPremises =
    broken 0 (TypeOf [] (LiteralTerm UnitLiteral)) (Node t-sub (one wrong) (OfType unit)) ≡ 2 ∷ []

-- a claim of another kind,
abbrev pub ClaimOfAnotherKind : Type 0
ClaimOfAnotherKind = broken 0 (TypeOf [] identity) (Node t-abs (one wrong) (TypeBelow unit unit)) ≡ 2 ∷ []

-- a rule for terms of another form,
abbrev pub RuleOfAnotherForm : Type 0
RuleOfAnotherForm = broken 0 (TypeOf [] (LiteralTerm UnitLiteral)) (Node t-abs (one wrong) (OfType unit)) ≡ 2 ∷ []

-- a rule for a term whose set is omitted,
abbrev pub OmittedSet : Type 0
OmittedSet = broken 0 (TypeOf [] (Unboxing None (Free 0))) (Node t-unbox (one wrong) (OfType unit)) ≡ 2 ∷ []

-- a rule for a comparison of another kind,
abbrev pub RuleOfAnotherComparison : Type 0
RuleOfAnotherComparison =
    broken 0 (SetsBelow []) (Node ByCapturing (two wrong wrong) (SetBelow empty empty)) ≡ 3 ∷ []

-- no variable alone on the left,
abbrev pub NoVariableAlone : Type 0
NoVariableAlone = broken 0 (SetsBelow []) (Node ByVariable (one wrong) (SetBelow (single Cap) empty)) ≡ 2 ∷ []

-- and bounds that differ.
abbrev pub BoundsThatDiffer : Type 0
BoundsThatDiffer =
    broken 0 (ShapesBelow [])
    (Node ByTypeFunction (two wrong wrong) (ShapeBelow
    (TypeFunctionShape AnyShape (BaseShape bases.Unit) empty)
    (TypeFunctionShape (BaseShape bases.Unit) (BaseShape bases.Unit) empty)))
    ≡ 3 ∷ []

-- where a root fits its place, the nodes of its premises have theirs, also where the root is no instance of its rule
abbrev pub PremisesOfTheRuleCount : Type 0
PremisesOfTheRuleCount =
    broken 0 (SetsBelow []) (Node ByVariable (one wrong) (SetBelow (variable_set (Free 0)) empty)) ≡ 1 ∷ 2 ∷ []

-- val x = unit; x
abbrev pub let_unit : Term
let_unit = Let Absent (LiteralTerm UnitLiteral) (VariableTerm (Bound 0))

-- Where the first premise claims no type, it breaks its rule, and so does the let: nothing is said of the second premise.
abbrev pub LetWithoutAType : Type 0
LetWithoutAType = broken 0 (TypeOf [] let_unit) (Node t-let (two wrong wrong) (OfType unit)) ≡ 1 ∷ 3 ∷ []

-- where it claims a type, the second premise has its place
abbrev pub LetWithAType : Type 0
LetWithAType =
    broken 0 (TypeOf [] let_unit) (Node t-let (two (Node t-lit NoPremise (OfType unit)) wrong) (OfType unit))
    ≡ 2 ∷ 3 ∷ []

-- a part that stands at two places is numbered, and breaks its rule, at both
abbrev pub PartAtTwoPlaces : Type 0
PartAtTwoPlaces =
    broken 0 (TypeOf [] (Primitive operators.Add (Free 0) (Free 0))) (Node t-prim (two wrong wrong) (OfType unit))
    ≡ 1 ∷ 2 ∷ 3 ∷ []
