-- The canonical derivation in each case of its choices, by the lines of its nodes: which rule compares two shapes or
-- sets, in which order premises stand, and where a type is widened.
use Rattle.std.specs.Prelude.{◌≡◌, ℕ, List, [], ◌∷◌, ◌++◌, length, Some, None, codes, pos}
use Rattle.cc_base.specs.Literals.{NumberLiteral}
use Rattle.cc_base.specs.declared.literal.Base.TheVariants as bases
use Rattle.cc_base.specs.declared.literal.Op.TheVariants as operations
use Rattle.cc_capture.specs.declared.var.Elem.TheVariants.{Var as Variable, Cap}
use Rattle.cc_capture.specs.declared.var.Var.TheVariants.{Bound, Free}
use Rattle.cc_capture.specs.Sets.{Set, empty, from_list}
use Rattle.cc_core.specs.Shapes.{Shape, BaseShape, AnyShape, TypeVariable, FunctionShape, TypeFunctionShape, BoxShape}
use Rattle.cc_core.specs.Shapes.{ExitShape, CapturingType, capturing}
use Rattle.cc_core.specs.Contexts.{TermEntry, TypeEntry, Context}
use Rattle.cc_core.specs.Substitution.{single}
use Rattle.cc_core.specs.Terms.{Note, Absent, Written, Term, VariableTerm, LiteralTerm, FunctionTerm}
use Rattle.cc_core.specs.Terms.{Let}
use Rattle.cc_core.specs.Terms.{Operation}
use Rattle.cc_checking.specs.CanonicalDerivations.{canonical_shapes, type_derived, definition_derived}
use Rattle.cc_certificate_writing.specs.Certificates.{node_lines}

abbrev pub number : Shape
number = BaseShape bases.Int

abbrev pub nothing : Shape
nothing = BaseShape bases.Unit

abbrev pub truth : Shape
truth = BaseShape bases.Bool

-- {out, hits}
abbrev pub both : Set
both = from_list (Variable (Free 0) ∷ Variable (Free 1) ∷ [])

-- a console `out`, a counter `hits` behind it, a number `x` that captures both, and a truth `b` that captures nothing
abbrev pub names : List (List ℕ)
names = codes "out" ∷ codes "hits" ∷ codes "x" ∷ codes "b" ∷ []

abbrev pub context : Context
context =
    TermEntry (BaseShape bases.Bool) empty ∷ TermEntry number both ∷ TermEntry (BaseShape bases.Counter) (single Cap)
    ∷ TermEntry (BaseShape bases.Console) (single Cap) ∷ []

-- the set of the variable at a position, and of the one under so many binders
abbrev pub position : ℕ → Set
position p = single (Variable (Free p))

abbrev pub bound : ℕ → Set
bound index = single (Variable (Bound index))

-- (_: Int) -> Int, and Int -> Unit
abbrev pub function : Shape
function = FunctionShape number empty number empty

abbrev pub one : Term
one = LiteralTerm (NumberLiteral (pos 1))

-- These are the nodes by which the left type is below the right one in the context with these entries more, which are
-- local.
abbrev pub Compares : Context → CapturingType → CapturingType → List (List ℕ) → Type 0
Compares locals left right nodes =
    node_lines names 0 (length locals) (type_derived canonical_shapes (locals ++ context) left right) ≡ nodes

-- the same of shapes, beside empty sets
abbrev pub ComparesShapes : Context → Shape → Shape → List (List ℕ) → Type 0
ComparesShapes locals left right nodes =
    node_lines names 0 (length locals) (canonical_shapes (locals ++ context) left right) ≡ nodes

-- these are the nodes of a definition with this right side, what is written for its type, and its signature
abbrev pub Derives : Note → Term → CapturingType → List (List ℕ) → Type 0
Derives note filled signature nodes =
    node_lines names 0 0 (definition_derived canonical_shapes context note filled signature) ≡ nodes

-- A set is below another by each of its elements, in their order. An element is a member where it is one, and else
-- goes by its declared set.
pub record CanonicalSets : Type 0 where
  pub two_elements :
      Compares [] (capturing number both) (capturing number both) (
      codes "1 elem [] {out} <: {out, hits}" ∷
      codes "2 elem [] {hits} <: {out, hits}" ∷
      codes "3 set [1 2] {out, hits} <: {out, hits}" ∷
      codes "4 refl [] Int <: Int" ∷
      codes "5 capt [3 4] Int^{out, hits} <: Int^{out, hits}" ∷ [])
  pub two_elements_below_the_universal_capability :
      Compares [] (capturing number both) (capturing number (single Cap)) (
      codes "1 elem [] {cap} <: {cap}" ∷
      codes "2 set [1] {cap} <: {cap}" ∷
      codes "3 var [2] {out} <: {cap}" ∷
      codes "4 elem [] {cap} <: {cap}" ∷
      codes "5 set [4] {cap} <: {cap}" ∷
      codes "6 var [5] {hits} <: {cap}" ∷
      codes "7 set [3 6] {out, hits} <: {cap}" ∷
      codes "8 refl [] Int <: Int" ∷
      codes "9 capt [7 8] Int^{out, hits} <: Int^{cap}" ∷ [])
  -- what a variable captures is below, element by element
  pub variable_of_two :
      Compares [] (capturing number (position 2)) (capturing number both) (
      codes "1 elem [] {out} <: {out, hits}" ∷
      codes "2 elem [] {hits} <: {out, hits}" ∷
      codes "3 set [1 2] {out, hits} <: {out, hits}" ∷
      codes "4 var [3] {x} <: {out, hits}" ∷
      codes "5 set [4] {x} <: {out, hits}" ∷
      codes "6 refl [] Int <: Int" ∷
      codes "7 capt [5 6] Int^{x} <: Int^{out, hits}" ∷ [])
  -- it does not go by its declared set
  pub variable_that_is_a_member :
      Compares [] (capturing number (position 2)) (capturing number
      (from_list (Variable (Free 0) ∷ Variable (Free 1) ∷ Variable (Free 2) ∷ []))) (
      codes "1 elem [] {x} <: {out, hits, x}" ∷
      codes "2 set [1] {x} <: {out, hits, x}" ∷
      codes "3 refl [] Int <: Int" ∷
      codes "4 capt [2 3] Int^{x} <: Int^{out, hits, x}" ∷ [])
  -- of which the last one is no member
  pub three_elements :
      Compares [] (capturing number (from_list (Variable (Free 0) ∷ Variable (Free 1) ∷ Variable (Free 2) ∷ [])))
      (capturing number both) (
      codes "1 elem [] {out} <: {out, hits}" ∷
      codes "2 elem [] {hits} <: {out, hits}" ∷
      codes "3 elem [] {out} <: {out, hits}" ∷
      codes "4 elem [] {hits} <: {out, hits}" ∷
      codes "5 set [3 4] {out, hits} <: {out, hits}" ∷
      codes "6 var [5] {x} <: {out, hits}" ∷
      codes "7 set [1 2 6] {out, hits, x} <: {out, hits}" ∷
      codes "8 refl [] Int <: Int" ∷
      codes "9 capt [7 8] Int^{out, hits, x} <: Int^{out, hits}" ∷ [])
  pub variable_of_nothing :
      Compares [] (capturing number (position 3)) (capturing number empty) (
      codes "1 set [] {} <: {}" ∷
      codes "2 var [1] {b} <: {}" ∷
      codes "3 set [2] {b} <: {}" ∷
      codes "4 refl [] Int <: Int" ∷
      codes "5 capt [3 4] Int^{b} <: Int" ∷ [])
  pub universal_capability :
      Compares [] (capturing number (single Cap)) (capturing number (single Cap)) (
      codes "1 elem [] {cap} <: {cap}" ∷
      codes "2 set [1] {cap} <: {cap}" ∷
      codes "3 refl [] Int <: Int" ∷
      codes "4 capt [2 3] Int^{cap} <: Int^{cap}" ∷ [])
  pub element_and_universal_capability :
      Compares [] (capturing number (from_list (Variable (Free 0) ∷ Cap ∷ [])))
      (capturing number (from_list (Variable (Free 0) ∷ Cap ∷ []))) (
      codes "1 elem [] {out} <: {out, cap}" ∷
      codes "2 elem [] {cap} <: {out, cap}" ∷
      codes "3 set [1 2] {out, cap} <: {out, cap}" ∷
      codes "4 refl [] Int <: Int" ∷
      codes "5 capt [3 4] Int^{out, cap} <: Int^{out, cap}" ∷ [])
  -- a local variable that captures a variable
  pub in_two_steps :
      Compares (TermEntry number (position 2) ∷ []) (capturing number (position 4)) (capturing number both) (
      codes "1 elem [] {out} <: {out, hits}" ∷
      codes "2 elem [] {hits} <: {out, hits}" ∷
      codes "3 set [1 2] {out, hits} <: {out, hits}" ∷
      codes "4 var [3] {x} <: {out, hits}" ∷
      codes "5 set [4] {x} <: {out, hits}" ∷
      codes "6 var [5] {_0} <: {out, hits}" ∷
      codes "7 set [6] {_0} <: {out, hits}" ∷
      codes "8 refl [] Int <: Int" ∷
      codes "9 capt [7 8] Int^{_0} <: Int^{out, hits}" ∷ [])
  -- it goes on to the universal capability, which is no member
  pub one_that_is_not_below :
      Compares [] (capturing number (position 0)) (capturing number empty) (
      codes "1 elem [] {cap} <: {}" ∷
      codes "2 set [1] {cap} <: {}" ∷
      codes "3 var [2] {out} <: {}" ∷
      codes "4 set [3] {out} <: {}" ∷
      codes "5 refl [] Int <: Int" ∷
      codes "6 capt [4 5] Int^{out} <: Int" ∷ [])
  pub no_element :
      Compares [] (capturing number empty) (capturing number both) (
      codes "1 set [] {} <: {out, hits}" ∷
      codes "2 refl [] Int <: Int" ∷
      codes "3 capt [1 2] Int <: Int^{out, hits}" ∷ [])

-- Shapes that are one are below each other by themselves, also the greatest one; any other shape is below the
-- greatest; and else the form of the left one decides.
pub record CanonicalShapes : Type 0 where
  pub one_shape :
      ComparesShapes [] number number (
      codes "1 refl [] Int <: Int" ∷ [])
  pub greatest :
      ComparesShapes [] AnyShape AnyShape (
      codes "1 refl [] Any <: Any" ∷ [])
  pub below_the_greatest :
      ComparesShapes [] number AnyShape (
      codes "1 top [] Int <: Any" ∷ [])
  pub function_below_the_greatest :
      ComparesShapes [] function AnyShape (
      codes "1 top [] (_0: Int) -> Int <: Any" ∷ [])
  pub functions_that_are_one :
      ComparesShapes [] function function (
      codes "1 refl [] (_0: Int) -> Int <: (_0: Int) -> Int" ∷ [])
  pub type_variable :
      ComparesShapes (TypeEntry AnyShape ∷ []) (TypeVariable (Free 4)) (TypeVariable (Free 4)) (
      codes "1 refl [] _T0 <: _T0" ∷ [])
  -- also where that is its bound
  pub type_variable_below_the_greatest :
      ComparesShapes (TypeEntry AnyShape ∷ []) (TypeVariable (Free 4)) AnyShape (
      codes "1 top [] _T0 <: Any" ∷ [])
  -- in two steps, also where the second one goes nowhere
  pub type_variable_below_its_bound :
      ComparesShapes (TypeEntry number ∷ []) (TypeVariable (Free 4)) number (
      codes "1 tvar [] _T0 <: Int" ∷
      codes "2 refl [] Int <: Int" ∷
      codes "3 tran [1 2] _T0 <: Int" ∷ [])
  pub type_variable_below_another :
      ComparesShapes (TypeEntry (TypeVariable (Free 4)) ∷ TypeEntry number ∷ []) (TypeVariable (Free 5))
      (TypeVariable (Free 4)) (
      codes "1 tvar [] _T1 <: _T0" ∷
      codes "2 refl [] _T0 <: _T0" ∷
      codes "3 tran [1 2] _T1 <: _T0" ∷ [])
  pub type_variable_in_three_steps :
      ComparesShapes (TypeEntry (TypeVariable (Free 4)) ∷ TypeEntry number ∷ []) (TypeVariable (Free 5)) number (
      codes "1 tvar [] _T1 <: _T0" ∷
      codes "2 tvar [] _T0 <: Int" ∷
      codes "3 refl [] Int <: Int" ∷
      codes "4 tran [2 3] _T0 <: Int" ∷
      codes "5 tran [1 4] _T1 <: Int" ∷ [])
  -- what is taken comes first, and what is given stands under the parameter of the right one
  pub functions :
      ComparesShapes [] (FunctionShape AnyShape both number (bound 0)) (FunctionShape number (position 2) AnyShape both)
      (
      codes "1 elem [] {out} <: {out, hits}" ∷
      codes "2 elem [] {hits} <: {out, hits}" ∷
      codes "3 set [1 2] {out, hits} <: {out, hits}" ∷
      codes "4 var [3] {x} <: {out, hits}" ∷
      codes "5 set [4] {x} <: {out, hits}" ∷
      codes "6 top [] Int <: Any" ∷
      codes "7 capt [5 6] Int^{x} <: Any^{out, hits}" ∷
      codes "8 elem [] {out} <: {out, hits}" ∷
      codes "9 elem [] {hits} <: {out, hits}" ∷
      codes "10 set [8 9] {out, hits} <: {out, hits}" ∷
      codes "11 var [10] {x} <: {out, hits}" ∷
      codes "12 set [11] {x} <: {out, hits}" ∷
      codes "13 var [12] {_0} <: {out, hits}" ∷
      codes "14 set [13] {_0} <: {out, hits}" ∷
      codes "15 top [] Int <: Any" ∷
      codes "16 capt [14 15] Int^{_0} <: Any^{out, hits}" ∷
      codes "17 fun [7 16] (_0: Any^{out, hits}) -> Int^{_0} <: (_0: Int^{x}) -> Any^{out, hits}" ∷ [])
  pub functions_in_a_function :
      ComparesShapes [] (FunctionShape number empty (FunctionShape number empty number empty) empty)
      (FunctionShape number empty (FunctionShape number empty AnyShape empty) empty) (
      codes "1 set [] {} <: {}" ∷
      codes "2 refl [] Int <: Int" ∷
      codes "3 capt [1 2] Int <: Int" ∷
      codes "4 set [] {} <: {}" ∷
      codes "5 set [] {} <: {}" ∷
      codes "6 refl [] Int <: Int" ∷
      codes "7 capt [5 6] Int <: Int" ∷
      codes "8 set [] {} <: {}" ∷
      codes "9 top [] Int <: Any" ∷
      codes "10 capt [8 9] Int <: Any" ∷
      codes "11 fun [7 10] (_1: Int) -> Int <: (_1: Int) -> Any" ∷
      codes "12 capt [4 11] (_1: Int) -> Int <: (_1: Int) -> Any" ∷
      codes "13 fun [3 12] (_0: Int) -> (_1: Int) -> Int <: (_0: Int) -> (_1: Int) -> Any" ∷ [])
  -- what is taken does not stand under the parameter
  pub functions_that_take_functions :
      ComparesShapes [] (FunctionShape function empty number empty) (FunctionShape function empty AnyShape empty) (
      codes "1 set [] {} <: {}" ∷
      codes "2 refl [] (_0: Int) -> Int <: (_0: Int) -> Int" ∷
      codes "3 capt [1 2] (_0: Int) -> Int <: (_0: Int) -> Int" ∷
      codes "4 set [] {} <: {}" ∷
      codes "5 top [] Int <: Any" ∷
      codes "6 capt [4 5] Int <: Any" ∷
      codes "7 fun [3 6] (_0: (_0: Int) -> Int) -> Int <: (_0: (_0: Int) -> Int) -> Any" ∷ [])
  pub type_functions_with_bounds_of_functions :
      ComparesShapes [] (TypeFunctionShape function number empty) (TypeFunctionShape function AnyShape empty) (
      codes "1 refl [] (_0: Int) -> Int <: (_0: Int) -> Int" ∷
      codes "2 set [] {} <: {}" ∷
      codes "3 top [] Int <: Any" ∷
      codes "4 capt [2 3] Int <: Any" ∷
      codes "5 tfun [1 4] [_T0 <: (_0: Int) -> Int] -> Int <: [_T0 <: (_0: Int) -> Int] -> Any" ∷ [])
  -- what is given stands under the type variable
  pub type_functions_that_give_functions :
      ComparesShapes [] (TypeFunctionShape number function empty) (TypeFunctionShape number AnyShape empty) (
      codes "1 refl [] Int <: Int" ∷
      codes "2 set [] {} <: {}" ∷
      codes "3 top [] (_1: Int) -> Int <: Any" ∷
      codes "4 capt [2 3] (_1: Int) -> Int <: Any" ∷
      codes "5 tfun [1 4] [_T0 <: Int] -> (_1: Int) -> Int <: [_T0 <: Int] -> Any" ∷ [])
  pub type_functions :
      ComparesShapes [] (TypeFunctionShape number (TypeVariable (Bound 0)) (position 0))
      (TypeFunctionShape number number (single Cap)) (
      codes "1 refl [] Int <: Int" ∷
      codes "2 elem [] {cap} <: {cap}" ∷
      codes "3 set [2] {cap} <: {cap}" ∷
      codes "4 var [3] {out} <: {cap}" ∷
      codes "5 set [4] {out} <: {cap}" ∷
      codes "6 tvar [] _T0 <: Int" ∷
      codes "7 refl [] Int <: Int" ∷
      codes "8 tran [6 7] _T0 <: Int" ∷
      codes "9 capt [5 8] _T0^{out} <: Int^{cap}" ∷
      codes "10 tfun [1 9] [_T0 <: Int] -> _T0^{out} <: [_T0 <: Int] -> Int^{cap}" ∷ [])
  pub type_functions_of_two_bounds :
      ComparesShapes [] (TypeFunctionShape number number empty) (TypeFunctionShape AnyShape AnyShape empty) (
      codes "1 refl [] Int <: Any" ∷
      codes "2 set [] {} <: {}" ∷
      codes "3 top [] Int <: Any" ∷
      codes "4 capt [2 3] Int <: Any" ∷
      codes "5 tfun [1 4] [_T0 <: Int] -> Int <: [_T0 <: Any] -> Any" ∷ [])
  pub boxes :
      ComparesShapes [] (BoxShape number both) (BoxShape AnyShape (single Cap)) (
      codes "1 elem [] {cap} <: {cap}" ∷
      codes "2 set [1] {cap} <: {cap}" ∷
      codes "3 var [2] {out} <: {cap}" ∷
      codes "4 elem [] {cap} <: {cap}" ∷
      codes "5 set [4] {cap} <: {cap}" ∷
      codes "6 var [5] {hits} <: {cap}" ∷
      codes "7 set [3 6] {out, hits} <: {cap}" ∷
      codes "8 top [] Int <: Any" ∷
      codes "9 capt [7 8] Int^{out, hits} <: Any^{cap}" ∷
      codes "10 boxed [9] Box[Int^{out, hits}] <: Box[Any^{cap}]" ∷ [])
  pub boxes_that_are_one :
      ComparesShapes [] (BoxShape number both) (BoxShape number both) (
      codes "1 refl [] Box[Int^{out, hits}] <: Box[Int^{out, hits}]" ∷ [])
  pub exits :
      ComparesShapes [] (ExitShape number) (ExitShape number) (
      codes "1 refl [] Exit[Int] <: Exit[Int]" ∷ [])
  pub of_two_forms :
      ComparesShapes [] number nothing (
      codes "1 refl [] Int <: Unit" ∷ [])
  pub function_and_number :
      ComparesShapes [] function number (
      codes "1 refl [] (_0: Int) -> Int <: Int" ∷ [])
  pub box_and_number :
      ComparesShapes [] (BoxShape number empty) number (
      codes "1 refl [] Box[Int] <: Int" ∷ [])
  pub type_function_and_number :
      ComparesShapes [] (TypeFunctionShape number number empty) number (
      codes "1 refl [] [_T0 <: Int] -> Int <: Int" ∷ [])

-- Types compare by their sets first.
pub record CanonicalTypes : Type 0 where
  pub sets_and_shapes :
      Compares [] (capturing number (position 0)) (capturing AnyShape (single Cap)) (
      codes "1 elem [] {cap} <: {cap}" ∷
      codes "2 set [1] {cap} <: {cap}" ∷
      codes "3 var [2] {out} <: {cap}" ∷
      codes "4 set [3] {out} <: {cap}" ∷
      codes "5 top [] Int <: Any" ∷
      codes "6 capt [4 5] Int^{out} <: Any^{cap}" ∷ [])

-- A right side is widened to what is written for it always, and to its signature where that differs.
pub record CanonicalDefinitions : Type 0 where
  pub with_nothing_written :
      Derives Absent one (capturing number empty) (
      codes "1 t-lit [] : Int" ∷ [])
  pub with_its_own_type_written :
      Derives (Written number empty) one (capturing number empty) (
      codes "1 t-lit [] : Int" ∷
      codes "2 set [] {} <: {}" ∷
      codes "3 refl [] Int <: Int" ∷
      codes "4 capt [2 3] Int <: Int" ∷
      codes "5 t-sub [1 4] : Int" ∷ [])
  pub with_a_greater_type_written :
      Derives (Written AnyShape empty) one (capturing AnyShape empty) (
      codes "1 t-lit [] : Int" ∷
      codes "2 set [] {} <: {}" ∷
      codes "3 top [] Int <: Any" ∷
      codes "4 capt [2 3] Int <: Any" ∷
      codes "5 t-sub [1 4] : Any" ∷ [])
  pub with_another_signature :
      Derives Absent one (capturing AnyShape empty) (
      codes "1 t-lit [] : Int" ∷
      codes "2 set [] {} <: {}" ∷
      codes "3 top [] Int <: Any" ∷
      codes "4 capt [2 3] Int <: Any" ∷
      codes "5 t-sub [1 4] : Any" ∷ [])
  pub with_a_type_written_and_another_signature :
      Derives (Written number (position 0)) one (capturing number (single Cap)) (
      codes "1 t-lit [] : Int" ∷
      codes "2 set [] {} <: {out}" ∷
      codes "3 refl [] Int <: Int" ∷
      codes "4 capt [2 3] Int <: Int^{out}" ∷
      codes "5 t-sub [1 4] : Int^{out}" ∷
      codes "6 elem [] {cap} <: {cap}" ∷
      codes "7 set [6] {cap} <: {cap}" ∷
      codes "8 var [7] {out} <: {cap}" ∷
      codes "9 set [8] {out} <: {cap}" ∷
      codes "10 refl [] Int <: Int" ∷
      codes "11 capt [9 10] Int^{out} <: Int^{cap}" ∷
      codes "12 t-sub [5 11] : Int^{cap}" ∷ [])
  pub function_of_two_devices :
      Derives (Written (FunctionShape nothing empty nothing empty) both)
      (FunctionTerm nothing empty (Let Absent (Operation operations.Tick (Free 1) None)
      (Operation operations.Print (Free 0) (Some (Bound 0)))))
      (capturing (FunctionShape nothing empty nothing empty) both) (
      codes "1 t-var [] : Counter^{hits}" ∷
      codes "2 t-op [1] : Int" ∷
      codes "3 t-var [] : Console^{out}" ∷
      codes "4 t-var [] : Int^{_1}" ∷
      codes "5 elem [] {_1} <: {_1}" ∷
      codes "6 set [5] {_1} <: {_1}" ∷
      codes "7 refl [] Int <: Int" ∷
      codes "8 capt [6 7] Int^{_1} <: Int^{_1}" ∷
      codes "9 t-sub [4 8] : Int^{_1}" ∷
      codes "10 t-op [3 9] : Unit" ∷
      codes "11 t-let [2 10] : Unit" ∷
      codes "12 t-abs [11] : ((_0: Unit) -> Unit)^{out, hits}" ∷
      codes "13 elem [] {out} <: {out, hits}" ∷
      codes "14 elem [] {hits} <: {out, hits}" ∷
      codes "15 set [13 14] {out, hits} <: {out, hits}" ∷
      codes "16 refl [] (_0: Unit) -> Unit <: (_0: Unit) -> Unit" ∷
      codes "17 capt [15 16] ((_0: Unit) -> Unit)^{out, hits} <: ((_0: Unit) -> Unit)^{out, hits}" ∷
      codes "18 t-sub [12 17] : ((_0: Unit) -> Unit)^{out, hits}" ∷ [])

-- The body of a let is widened where avoiding its variable changes the type, and its right side where a type is
-- written.
pub record CanonicalLets : Type 0 where
  pub that_keeps_its_type :
      Derives Absent (Let Absent one one) (capturing number empty) (
      codes "1 t-lit [] : Int" ∷
      codes "2 t-lit [] : Int" ∷
      codes "3 t-let [1 2] : Int" ∷ [])
  -- its right side does not stand under its variable
  pub of_a_function :
      Derives Absent (Let Absent (FunctionTerm number empty one) one) (capturing number empty) (
      codes "1 t-lit [] : Int" ∷
      codes "2 t-abs [1] : (_0: Int) -> Int" ∷
      codes "3 t-lit [] : Int" ∷
      codes "4 t-let [2 3] : Int" ∷ [])
  -- and its body does
  pub in_which_a_function_stands :
      Derives Absent (Let Absent one (FunctionTerm number empty one)) (capturing function empty) (
      codes "1 t-lit [] : Int" ∷
      codes "2 t-lit [] : Int" ∷
      codes "3 t-abs [2] : (_1: Int) -> Int" ∷
      codes "4 t-let [1 3] : (_0: Int) -> Int" ∷ [])
  pub that_avoids_its_variable :
      Derives Absent (Let Absent (VariableTerm (Free 2)) (VariableTerm (Bound 0))) (capturing number (position 2)) (
      codes "1 t-var [] : Int^{x}" ∷
      codes "2 t-var [] : Int^{_0}" ∷
      codes "3 elem [] {x} <: {x}" ∷
      codes "4 set [3] {x} <: {x}" ∷
      codes "5 var [4] {_0} <: {x}" ∷
      codes "6 set [5] {_0} <: {x}" ∷
      codes "7 refl [] Int <: Int" ∷
      codes "8 capt [6 7] Int^{_0} <: Int^{x}" ∷
      codes "9 t-sub [2 8] : Int^{x}" ∷
      codes "10 t-let [1 9] : Int^{x}" ∷ [])
  pub of_its_own_type :
      Derives Absent (Let (Written number empty) one one) (capturing number empty) (
      codes "1 t-lit [] : Int" ∷
      codes "2 set [] {} <: {}" ∷
      codes "3 refl [] Int <: Int" ∷
      codes "4 capt [2 3] Int <: Int" ∷
      codes "5 t-sub [1 4] : Int" ∷
      codes "6 t-lit [] : Int" ∷
      codes "7 t-let [5 6] : Int" ∷ [])
  -- the body stands under the type that is written
  pub of_a_greater_type :
      Derives Absent (Let (Written AnyShape (position 0)) one (VariableTerm (Bound 0)))
      (capturing AnyShape (position 0)) (
      codes "1 t-lit [] : Int" ∷
      codes "2 set [] {} <: {out}" ∷
      codes "3 top [] Int <: Any" ∷
      codes "4 capt [2 3] Int <: Any^{out}" ∷
      codes "5 t-sub [1 4] : Any^{out}" ∷
      codes "6 t-var [] : Any^{_0}" ∷
      codes "7 elem [] {out} <: {out}" ∷
      codes "8 set [7] {out} <: {out}" ∷
      codes "9 var [8] {_0} <: {out}" ∷
      codes "10 set [9] {_0} <: {out}" ∷
      codes "11 refl [] Any <: Any" ∷
      codes "12 capt [10 11] Any^{_0} <: Any^{out}" ∷
      codes "13 t-sub [6 12] : Any^{out}" ∷
      codes "14 t-let [5 13] : Any^{out}" ∷ [])
