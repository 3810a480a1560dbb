-- The certificates of two definitions: what their lines say, and how they are written.
use Rattle.std.specs.Prelude.{◌≡◌, ℕ, List, [], ◌∷◌, ◌++◌, Option, Some, None, codes, refl}
use Rattle.std.specs.Fmt.{digits}
use Rattle.cc_capture.specs.declared.var.Var.TheVariants.{Bound, Free}
use Rattle.cc_capture.specs.declared.var.Elem.TheVariants.{Var as Variable, Cap}
use Rattle.cc_capture.specs.Elements.{element_order, same_element}
use Rattle.cc_capture.specs.Rising.{placed}
use Rattle.cc_capture.specs.Sets.{Set, contains, same_set, image, flat_image, from_list, union, retain, remove, insert}
use Rattle.cc_capture.specs.Sets.{empty}
use Rattle.cc_base.specs.declared.literal.Base.TheVariants as bases
use Rattle.cc_core.specs.Shapes.{Shape, BaseShape, FunctionShape, CapturingType, capturing}
use Rattle.cc_core.specs.Derivations.{t-var, t-abs, OfType, Rule, Derivation}
use Rattle.cc_core.specs.Substitution.{single}
use Rattle.cc_core.specs.Terms.{Absent, Term, VariableTerm, FunctionTerm}
use Rattle.cc_checking.specs.CanonicalDerivations.{canonical_shapes, shape_derived, form_derived, definition_derived}
use Rattle.cc_checking.specs.ComparisonExamples.{number, nothing, first, parameter, with_console}
use Rattle.cc_certificate_text.specs.Certificates.{Line, Opens, Binds, States, Concludes, Start, lines_text}
use Rattle.cc_certificate_laws.specs.CertificateLines.{lines_of}
use lib.Utf8.{encode}

-- a node that concludes a type
abbrev node : Rule → List ℕ → Option ℕ → CapturingType → Line
node rule premises first type =
    Concludes (record { rule = rule; premises = premises; first = first; claim = OfType type })

-- fun (u: Unit) => fun (x: Int) => x, and its type
abbrev nested : Term
nested = FunctionTerm nothing empty (FunctionTerm number empty (VariableTerm (Bound 0)))

abbrev nested_type : CapturingType
nested_type = capturing (FunctionShape nothing empty (FunctionShape number empty number (single parameter)) empty) empty

abbrev nested_derivation : Derivation
nested_derivation = definition_derived canonical_shapes [] Absent nested nested_type

-- the local variable of the number
abbrev local : ℕ → Set
local d = single (Variable (Bound d))

-- Below the outer function the inner one binds the second local variable, and so does its type.
abbrev nested_lines : List Line
nested_lines =
    Opens ∷ States nested
    ∷ node t-var [] None (capturing number (local 1))
    ∷ node t-abs (1 ∷ []) (Some 1) (capturing (FunctionShape number empty number (local 1)) empty)
    ∷ node t-abs (2 ∷ []) (Some 0)
    (capturing (FunctionShape nothing empty (FunctionShape number empty number (local 1)) empty) empty)
    ∷ []

pub lines_of_nested : lines_of [] [] nested nested_derivation ≡ nested_lines
unfolding shape_derived form_derived same_set contains image flat_image from_list union retain remove insert placed
    element_order same_element empty
lines_of_nested = refl

pub text_of_nested :
    lines_text Start nested_lines
    ≡ codes "cert 1\nterm fun (_0: Unit) => fun (_1: Int) => _1\n1 t-var [] : Int^{_1}\n"
    ++ codes "2 t-abs [1] : (_1: Int) -> Int^{_1}\n3 t-abs [2] : (_0: Unit) -> (_1: Int) -> Int^{_1}\n"
unfolding image from_list insert empty placed element_order digits encode
text_of_nested = refl

abbrev console : Shape
console = BaseShape bases.Console

-- fun (x: Int) => out
abbrev keeping : Term
keeping = FunctionTerm number empty (VariableTerm (Free 0))

abbrev keeping_type : CapturingType
keeping_type = capturing (FunctionShape number empty console (single first)) (single first)

abbrev keeping_derivation : Derivation
keeping_derivation = definition_derived canonical_shapes with_console Absent keeping keeping_type

-- a variable that has a name is written by it
abbrev keeping_lines : List Line
keeping_lines =
    Opens ∷ Binds (codes "out") (capturing console (single Cap)) ∷ States keeping
    ∷ node t-var [] None (capturing console (single first))
    ∷ node t-abs (1 ∷ []) (Some 0) keeping_type
    ∷ []

pub lines_of_keeping : lines_of (codes "out" ∷ []) with_console keeping keeping_derivation ≡ keeping_lines
unfolding shape_derived form_derived same_set contains image flat_image from_list union retain remove insert placed
    element_order same_element empty
lines_of_keeping = refl

pub text_of_keeping :
    lines_text Start keeping_lines
    ≡ codes "cert 1\nbind out: Console^{cap}\nterm fun (_0: Int) => out\n1 t-var [] : Console^{out}\n"
    ++ codes "2 t-abs [1] : ((_0: Int) -> Console^{out})^{out}\n"
unfolding image from_list insert empty placed element_order digits encode
text_of_keeping = refl
