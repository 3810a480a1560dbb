-- Worked certificates with their trees and the numbers of their broken nodes.
use Rattle.std.specs.Prelude.{◌≡◌, ℕ, List, [], ◌∷◌, Option, Some, None}
use Rattle.cc_base.specs.Literals.{UnitLiteral}
use Rattle.cc_base.specs.declared.literal.Base.TheVariants as bases
use Rattle.cc_capture.specs.declared.var.Var.TheVariants.{Bound}
use Rattle.cc_capture.specs.Sets.{empty}
use Rattle.cc_core.specs.Shapes.{Shape, BaseShape, AnyShape, FunctionShape, BoxShape, CapturingType, capturing}
use Rattle.cc_core.specs.Terms.{Term, Absent, VariableTerm, LiteralTerm, FunctionTerm, Let}
use Rattle.cc_core.specs.Contexts.{TermEntry, TypeEntry}
use Rattle.cc_core.specs.Captured.{variable_set}
use Rattle.cc_core.specs.WellFormed.{kind_of}
use Rattle.cc_core.specs.Derivations.{Rule, ByElement, BySet, ByReflexivity, ByFunction, ByCapturing, t-var, t-lit}
use Rattle.cc_core.specs.Derivations.{t-abs, t-let, Claim, SetBelow, ShapeBelow, TypeBelow, OfType}
use Rattle.cc_derivation.specs.Rows.{TypeOf, ShapesBelow}
use Rattle.cc_derivation.specs.Broken.{broken}
use Rattle.cc_certificate_text.specs.Certificates.{CertificateNode}
use Rattle.cc_certificate_judging.specs.Judging.{NodeTree, Grown, NodeTrees, NoTree, Tree, listed, read_tree}

-- a node as it stands in a certificate
abbrev pub node_with : Rule → List ℕ → Option ℕ → Claim → CertificateNode
node_with rule premises first claim = record { rule = rule; premises = premises; first = first; claim = claim }

-- a tree of one node, and one with one or with two premises
abbrev pub leaf : Rule → Claim → NodeTree
leaf rule claim = Grown rule None claim NoTree

abbrev pub over : Rule → Option ℕ → Claim → NodeTree → NodeTree
over rule first claim premise = Grown rule first claim (Tree premise NoTree)

abbrev pub over_both : Rule → Option ℕ → Claim → NodeTree → NodeTree → NodeTree
over_both rule first claim left right = Grown rule first claim (Tree left (Tree right NoTree))

-- Unit, and Unit^{_0}
abbrev pub unit : CapturingType
unit = capturing (BaseShape bases.Unit) empty

abbrev pub unit_of_local : CapturingType
unit_of_local = capturing (BaseShape bases.Unit) (variable_set (Bound 0))

-- fun (_0: Unit) => _0
abbrev pub identity : Term
identity = FunctionTerm (BaseShape bases.Unit) empty (VariableTerm (Bound 0))

-- (_0: Unit) -> Unit^{_0}, where the number of the parameter is 0
abbrev pub identity_shape : Shape
identity_shape = FunctionShape (BaseShape bases.Unit) empty (BaseShape bases.Unit) (variable_set (Bound 0))

-- the nodes `1 t-var [] : TYPE` and `2 t-abs [1] : (_0: Unit) -> Unit^{_0}`, where the parameter may have another
-- number
abbrev pub identity_with : ℕ → CapturingType → NodeTree
identity_with first type = over t-abs (Some first) (OfType (capturing identity_shape empty)) (leaf t-var (OfType type))

-- they are the nodes of that tree
abbrev pub NodesOfTheIdentity : Type 0
NodesOfTheIdentity =
    listed 0 (identity_with 0 unit_of_local)
    ≡ node_with t-var [] None (OfType unit_of_local)
    ∷ node_with t-abs (1 ∷ []) (Some 0) (OfType (capturing identity_shape empty)) ∷ []

-- with the type Unit^{_0} at the first node each node goes by its rule
abbrev pub IdentityIsWhole : Type 0
IdentityIsWhole = broken 0 (TypeOf [] identity) (read_tree 0 [] (identity_with 0 unit_of_local)) ≡ []

-- with the type Unit there it breaks its rule, and so does the second one
abbrev pub TypeWithoutTheLocal : Type 0
TypeWithoutTheLocal = broken 0 (TypeOf [] identity) (read_tree 0 [] (identity_with 0 unit)) ≡ 1 ∷ 2 ∷ []

-- Where the parameter is written as `_1`, though no local binder stands at the place of the second node, that node does
-- not fit its place, and the first one has none.
abbrev pub AnotherNumberOfTheBinder : Type 0
AnotherNumberOfTheBinder =
    broken 0 (TypeOf [] identity) (read_tree 0 [] (identity_with 1 unit_of_local)) ≡ 2 ∷ []

-- Box[Unit^{_0}] is below itself,
abbrev pub box_of_local : Shape
box_of_local = BoxShape (BaseShape bases.Unit) (variable_set (Bound 0))

abbrev pub same_box : NodeTree
same_box = leaf ByReflexivity (ShapeBelow box_of_local box_of_local)

-- where `_0` is a variable of terms,
abbrev pub LocalOfItsKind : Type 0
LocalOfItsKind =
    broken 0 (ShapesBelow (TermEntry (BaseShape bases.Unit) empty ∷ []))
    (read_tree 0 (kind_of (TermEntry (BaseShape bases.Unit) empty) ∷ []) same_box)
    ≡ []

-- and not where it is a type variable,
abbrev pub LocalOfTheOtherKind : Type 0
LocalOfTheOtherKind =
    broken 0 (ShapesBelow (TypeEntry AnyShape ∷ [])) (read_tree 0 (kind_of (TypeEntry AnyShape) ∷ []) same_box)
    ≡ 1 ∷ []

-- or where no binder has the number
abbrev pub LocalWithoutABinder : Type 0
LocalWithoutABinder = broken 0 (ShapesBelow []) (read_tree 0 [] same_box) ≡ 1 ∷ []

-- a comparison of the type with itself, by comparisons of its shape and of its set, the elements of which are in it
abbrev pub same_type_by : CapturingType → NodeTrees → NodeTree
same_type_by type elements =
    over_both ByCapturing None (TypeBelow type type) (Grown BySet None (SetBelow type.set type.set) elements)
    (leaf ByReflexivity (ShapeBelow type.shape type.shape))

-- The results of functions are compared under the parameter, which is `_0` there.
abbrev pub ResultsUnderTheParameter : Type 0
ResultsUnderTheParameter =
    broken 0 (ShapesBelow [])
    (read_tree 0 [] (over_both ByFunction (Some 0) (ShapeBelow identity_shape identity_shape) (same_type_by unit NoTree)
    (same_type_by unit_of_local
    (Tree (leaf ByElement (SetBelow (variable_set (Bound 0)) (variable_set (Bound 0)))) NoTree))))
    ≡ []

-- let _0 = unit in _0
abbrev pub let_unit : Term
let_unit = Let Absent (LiteralTerm UnitLiteral) (VariableTerm (Bound 0))

-- A first premise of a let whose names do not fit its place claims no type: the let breaks its rule too, and the second
-- premise has no place.
abbrev pub LetWithoutAType : Type 0
LetWithoutAType =
    broken 0 (TypeOf [] let_unit)
    (read_tree 0 [] (over_both t-let None (OfType unit) (leaf t-lit (OfType unit_of_local)) (leaf t-lit (OfType unit))))
    ≡ 1 ∷ 3 ∷ []

-- Where it claims one, the body stands under the variable.
abbrev pub LetWithAType : Type 0
LetWithAType =
    broken 0 (TypeOf [] let_unit)
    (read_tree 0 [] (over_both t-let None (OfType unit) (leaf t-lit (OfType unit)) (leaf t-var (OfType unit_of_local))))
    ≡ 3 ∷ []
