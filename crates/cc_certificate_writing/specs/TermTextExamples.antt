-- Worked texts of terms, one for each form.
use Rattle.std.specs.Prelude.{◌≡◌, ℕ, true, false, List, [], ◌∷◌, ◌++◌, Some, None, codes, refl, pos, negsuc}
use Rattle.std.specs.Fmt.{digits}
use Rattle.cc_base.specs.Literals.{UnitLiteral, TruthLiteral, NumberLiteral, TextLiteral}
use Rattle.cc_base.specs.declared.literal.Base.TheVariants as bases
use Rattle.cc_base.specs.declared.literal.Op.TheVariants as operations
use Rattle.cc_base.specs.declared.literal.Operator.TheVariants as operators
use Rattle.cc_capture.specs.declared.var.Elem.TheVariants.{Var as Variable, Cap}
use Rattle.cc_capture.specs.declared.var.Var.{Var}
use Rattle.cc_capture.specs.declared.var.Var.TheVariants.{Bound, Free}
use Rattle.cc_capture.specs.Elements.{element_order}
use Rattle.cc_capture.specs.Rising.{placed}
use Rattle.cc_capture.specs.Sets.{Set, from_list, insert, empty}
use Rattle.cc_core.specs.Shapes.{Shape, BaseShape, AnyShape, TypeVariable, FunctionShape, BoxShape}
use Rattle.cc_core.specs.Terms.{Absent, Written, Term, VariableTerm, LiteralTerm, FunctionTerm, TypeFunctionTerm}
use Rattle.cc_core.specs.Terms.{BoxTerm, Application, TypeApplication, Unboxing, Let, Primitive, Conditional}
use Rattle.cc_core.specs.Terms.{Repetition, Operation, Boundary, Leave}
use Rattle.cc_print.specs.TermTexts.{term_text}
use lib.Utf8.{encode}

-- two names
abbrev names : List (List ℕ)
names = codes "out" ∷ codes "hits" ∷ []

abbrev none : Set
none = from_list []

abbrev out : Var
out = Free 0

abbrev hits : Var
hits = Free 1

abbrev number : Shape
number = BaseShape bases.Int

abbrev nothing : Shape
nothing = BaseShape bases.Unit

-- a function that prints
abbrev prints : Shape
prints = FunctionShape number none nothing none

abbrev one : Term
one = LiteralTerm (NumberLiteral (pos 1))

-- a variable is a name, or the number of its binder
pub variable : term_text names 0 (VariableTerm hits) ≡ codes "hits"
unfolding encode
variable = refl

-- a position behind the names is that of a local binder, and binders inside count on from those
pub local_variable : term_text names 2 (VariableTerm (Free 3)) ≡ codes "_1"
unfolding digits
local_variable = refl

pub unit_literal : term_text names 0 (LiteralTerm UnitLiteral) ≡ codes "unit"
unit_literal = refl

pub truth_literals :
    term_text names 0 (Let Absent (LiteralTerm (TruthLiteral true)) (LiteralTerm (TruthLiteral false)))
    ≡ codes "let _0 = true in false"
unfolding digits
truth_literals = refl

pub number_literals :
    term_text names 0 (Let Absent one (LiteralTerm (NumberLiteral (negsuc 6))))
    ≡ codes "let _0 = 1 in -7"
unfolding digits
number_literals = refl

-- a text in quotes; its one character beyond ASCII has two bytes
pub text_literal :
    term_text names 0 (LiteralTerm (TextLiteral (codes "a b" ++ 228 ∷ [])))
    ≡ 34 ∷ (codes "a b" ++ 195 ∷ 164 ∷ 34 ∷ [])
unfolding encode
text_literal = refl

-- the body of a function stands under its binder
pub function : term_text names 0 (FunctionTerm nothing none (VariableTerm (Bound 0))) ≡ codes "fun (_0: Unit) => _0"
unfolding from_list insert empty placed element_order digits encode
function = refl

-- the type of its parameter does not, and has the numbers of binders of its own
pub numbers_of_binders :
    term_text names 0
    (FunctionTerm prints (from_list (Variable out ∷ [])) (FunctionTerm number none (Application (Bound 1) (Bound 0))))
    ≡ codes "fun (_0: ((_0: Int) -> Unit)^{out}) => fun (_1: Int) => _0(_1)"
unfolding from_list insert empty placed element_order digits encode
numbers_of_binders = refl

-- a bound does not stand under its binder, and type variables are counted with the others
pub type_function :
    term_text names 0 (TypeFunctionTerm AnyShape (FunctionTerm (TypeVariable (Bound 0)) none (VariableTerm (Bound 0))))
    ≡ codes "fun [_T0 <: Any] => fun (_1: _T0) => _1"
unfolding from_list insert empty placed element_order digits encode
type_function = refl

pub boxed : term_text names 0 (BoxTerm out) ≡ codes "box out"
unfolding encode
boxed = refl

pub application : term_text names 0 (Application out hits) ≡ codes "out(hits)"
unfolding encode
application = refl

pub type_application : term_text names 0 (TypeApplication out (BoxShape number none)) ≡ codes "out[Box[Int]]"
unfolding from_list insert empty placed element_order encode
type_application = refl

pub unboxing :
    term_text names 0 (Unboxing (Some (from_list (Variable hits ∷ Variable out ∷ []))) hits)
    ≡ codes "unbox {out, hits} hits"
unfolding from_list insert empty placed element_order encode
unboxing = refl

-- also an empty set is written
pub pure_unboxing : term_text names 0 (Unboxing (Some none) hits) ≡ codes "unbox {} hits"
unfolding from_list insert empty placed element_order encode
pure_unboxing = refl

-- the right side of a let does not stand under its binder, so its own binders have the same number
pub lets :
    term_text names 0 (Let (Written number none) (Let Absent one (VariableTerm (Bound 0))) (VariableTerm (Bound 0)))
    ≡ codes "let _0: Int = let _0 = 1 in _0 in _0"
unfolding from_list insert empty placed element_order digits encode
lets = refl

pub operators_of_numbers :
    term_text names 5
    (Let Absent (Primitive operators.Add (Bound 0) (Bound 1)) (Let Absent (Primitive operators.Sub (Bound 0) (Bound 1))
    (Let Absent (Primitive operators.Mul (Bound 0) (Bound 1)) (Let Absent (Primitive operators.Less (Bound 0) (Bound 1))
    (Primitive operators.Equal (Bound 0) (Bound 1))))))
    ≡ codes "let _5 = _4 + _3 in let _6 = _5 - _4 in let _7 = _6 * _5 in let _8 = _7 < _6 in _8 == _7"
unfolding digits
operators_of_numbers = refl

pub choice :
    term_text names 0 (Conditional (Written prints (from_list (Cap ∷ []))) out (VariableTerm out) (VariableTerm hits))
    ≡ codes "if [((_0: Int) -> Unit)^{cap}] out then out else hits"
unfolding from_list insert empty placed element_order digits encode
choice = refl

pub repetition : term_text names 0 (Repetition out hits) ≡ codes "repeat(out, hits)"
unfolding encode
repetition = refl

pub operations_of_devices :
    term_text names 0
    (Let Absent (Operation operations.Print out (Some hits)) (Let Absent (Operation operations.Say out (Some hits))
    (Let Absent (Operation operations.Read out None) (Let Absent (Operation operations.Write out (Some hits))
    (Operation operations.Tick hits None)))))
    ≡ codes "let _0 = out.print(hits) in let _1 = out.say(hits) in let _2 = out.read() in "
    ++ codes "let _3 = out.write(hits) in hits.tick()"
unfolding digits encode
operations_of_devices = refl

-- the exit of a boundary is a binder of its body
pub boundary :
    term_text names 0 (Boundary number (Leave nothing none (Bound 0) out))
    ≡ codes "boundary [Int] _0 => exit [Unit] (_0, out)"
unfolding from_list insert empty placed element_order digits encode
boundary = refl
