-- Worked certificates of canonical derivations.
use Rattle.std.specs.Prelude.{◌≡◌, [], ◌∷◌, Some, codes, refl, pos}
use Rattle.std.specs.Fmt.{digits}
use Rattle.cc_base.specs.Literals.{NumberLiteral}
use Rattle.cc_base.specs.declared.literal.Op.TheVariants as operations
use Rattle.cc_capture.specs.declared.var.Var.TheVariants.{Bound, Free}
use Rattle.cc_capture.specs.Elements.{element_order, same_element}
use Rattle.cc_capture.specs.Rising.{placed}
use Rattle.cc_capture.specs.Sets.{contains, same_set, flat_image, from_list, union, retain, remove, insert, empty}
use Rattle.cc_core.specs.Contexts.{TypeEntry}
use Rattle.cc_core.specs.Derivations.{t-lit, t-prim, SetBelow, ShapeBelow, TypeBelow, Derivation, Node, NoPremise}
use Rattle.cc_core.specs.Derivations.{two}
use Rattle.cc_core.specs.Shapes.{AnyShape, FunctionShape, CapturingType, capturing}
use Rattle.cc_core.specs.Substitution.{single}
use Rattle.cc_core.specs.Terms.{Absent, Written, Term, VariableTerm, LiteralTerm, FunctionTerm, Let, Operation}
use Rattle.cc_checking.specs.CanonicalDerivations.{canonical_shapes, shape_derived, form_derived, definition_derived}
use Rattle.cc_checking.specs.ComparisonExamples.{number, nothing, printing, first, parameter, with_console}
use Rattle.cc_certificate_writing.specs.Certificates.{node_lines, bind_line, certificate_text, lines_text}
use Rattle.cc_certificate_text.specs.NodeTexts.{claim_text}
use lib.Utf8.{encode}

-- fun (x: Unit) => x, and its type
abbrev identity : Term
identity = FunctionTerm nothing empty (VariableTerm (Bound 0))

abbrev identity_type : CapturingType
identity_type = capturing (FunctionShape nothing empty nothing (single parameter)) empty

-- def id = fun (x: Unit) => x
pub identity_text :
    certificate_text [] [] identity (definition_derived canonical_shapes [] Absent identity identity_type)
    ≡ lines_text (
    codes "cert 1"
    ∷ codes "term fun (_0: Unit) => _0"
    ∷ codes "1 t-var [] : Unit^{_0}"
    ∷ codes "2 t-abs [1] : (_0: Unit) -> Unit^{_0}"
    ∷ [])
unfolding shape_derived form_derived same_set contains flat_image from_list union retain remove insert placed
    element_order same_element empty digits encode
identity_text = refl

-- fun (x: Int) => out.print(x)
abbrev prints : Term
prints = FunctionTerm number empty (Operation operations.Print (Free 0) (Some (Bound 0)))

-- def f: ((x: Int) -> Unit)^{out} = fun (x: Int) => out.print(x)
-- The parameter has a name below the body alone.
pub printing_text :
    certificate_text (codes "out" ∷ []) with_console prints
    (definition_derived canonical_shapes with_console (Written printing (single first)) prints
    (capturing printing (single first)))
    ≡ lines_text (
    codes "cert 1"
    ∷ codes "bind out: Console^{cap}"
    ∷ codes "term fun (_0: Int) => out.print(_0)"
    ∷ codes "1 t-var [] : Console^{out}"
    ∷ codes "2 t-var [] : Int^{_0}"
    ∷ codes "3 elem [] {_0} <: {_0}"
    ∷ codes "4 set [3] {_0} <: {_0}"
    ∷ codes "5 refl [] Int <: Int"
    ∷ codes "6 capt [4 5] Int^{_0} <: Int^{_0}"
    ∷ codes "7 t-sub [2 6] : Int^{_0}"
    ∷ codes "8 t-op [1 7] : Unit"
    ∷ codes "9 t-abs [8] : ((_0: Int) -> Unit)^{out}"
    ∷ codes "10 elem [] {out} <: {out}"
    ∷ codes "11 set [10] {out} <: {out}"
    ∷ codes "12 refl [] (_0: Int) -> Unit <: (_0: Int) -> Unit"
    ∷ codes "13 capt [11 12] ((_0: Int) -> Unit)^{out} <: ((_0: Int) -> Unit)^{out}"
    ∷ codes "14 t-sub [9 13] : ((_0: Int) -> Unit)^{out}"
    ∷ [])
unfolding shape_derived form_derived same_set contains flat_image from_list union retain remove insert placed
    element_order same_element empty digits encode
printing_text = refl

-- fun (u: Unit) => let y: Int = 1 in y
abbrev names_one : Term
names_one =
    FunctionTerm nothing empty
    (Let (Written number empty) (LiteralTerm (NumberLiteral (pos 1))) (VariableTerm (Bound 0)))

-- def a = fun (u: Unit) => val y: Int = 1; y
-- The second premise of the let stands under its binder, and the first one does not.
pub naming_text :
    certificate_text [] [] names_one
    (definition_derived canonical_shapes [] Absent names_one
    (capturing (FunctionShape nothing empty number empty) empty))
    ≡ lines_text (
    codes "cert 1"
    ∷ codes "term fun (_0: Unit) => let _1: Int = 1 in _1"
    ∷ codes "1 t-lit [] : Int"
    ∷ codes "2 set [] {} <: {}"
    ∷ codes "3 refl [] Int <: Int"
    ∷ codes "4 capt [2 3] Int <: Int"
    ∷ codes "5 t-sub [1 4] : Int"
    ∷ codes "6 t-var [] : Int^{_1}"
    ∷ codes "7 set [] {} <: {}"
    ∷ codes "8 var [7] {_1} <: {}"
    ∷ codes "9 set [8] {_1} <: {}"
    ∷ codes "10 refl [] Int <: Int"
    ∷ codes "11 capt [9 10] Int^{_1} <: Int"
    ∷ codes "12 t-sub [6 11] : Int"
    ∷ codes "13 t-let [5 12] : Int"
    ∷ codes "14 t-abs [13] : (_0: Unit) -> Int"
    ∷ [])
unfolding shape_derived form_derived same_set contains flat_image from_list union retain remove insert placed
    element_order same_element empty digits encode
naming_text = refl

-- What functions give compares under a binder, and what they take does not.
pub comparison_text :
    node_lines [] 0 0
    (canonical_shapes [] (FunctionShape printing empty printing empty) (FunctionShape printing empty AnyShape empty))
    ≡ codes "1 set [] {} <: {}"
    ∷ codes "2 refl [] (_0: Int) -> Unit <: (_0: Int) -> Unit"
    ∷ codes "3 capt [1 2] (_0: Int) -> Unit <: (_0: Int) -> Unit"
    ∷ codes "4 set [] {} <: {}"
    ∷ codes "5 top [] (_1: Int) -> Unit <: Any"
    ∷ codes "6 capt [4 5] (_1: Int) -> Unit <: Any"
    ∷ codes "7 fun [3 6] (_0: (_0: Int) -> Unit) -> (_1: Int) -> Unit <: (_0: (_0: Int) -> Unit) -> Any"
    ∷ []
unfolding shape_derived form_derived same_set contains flat_image from_list union retain remove insert placed
    element_order same_element empty digits encode
comparison_text = refl

-- A part that stands at two places has lines and numbers at both.
abbrev twice : Derivation
twice = Node t-lit NoPremise (SetBelow empty empty)

pub shared_text :
    node_lines [] 4 0 (Node t-prim (two twice twice) (SetBelow empty empty))
    ≡ codes "5 t-lit [] {} <: {}" ∷ codes "6 t-lit [] {} <: {}" ∷ codes "7 t-prim [5 6] {} <: {}" ∷ []
unfolding from_list empty digits encode
shared_text = refl

-- a type variable in a context has its bound
pub bound_line : bind_line [] 3 (TypeEntry number) ≡ codes "bind _T3 <: Int"
unfolding digits
bound_line = refl

-- That a shape is below another, and that the type of the shape and the empty set is, have one text.
pub two_kinds :
    claim_text [] 0 (ShapeBelow number AnyShape)
    ≡ claim_text [] 0 (TypeBelow (capturing number empty) (capturing AnyShape empty))
unfolding from_list empty
two_kinds = refl
