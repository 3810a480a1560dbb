-- What a canonical derivation widens among the premises of a term: heads, operands, arguments, contents and bodies; and
-- the terms that have none.
use Rattle.std.specs.Prelude.{[], ◌∷◌, Some, None, codes, pos}
use Rattle.cc_base.specs.Literals.{NumberLiteral}
use Rattle.cc_base.specs.declared.literal.Base.TheVariants as bases
use Rattle.cc_base.specs.declared.literal.Op.TheVariants as operations
use Rattle.cc_base.specs.declared.literal.Operator.TheVariants as operators
use Rattle.cc_capture.specs.declared.var.Var.TheVariants.{Bound, Free}
use Rattle.cc_capture.specs.Sets.{empty}
use Rattle.cc_core.specs.Shapes.{BaseShape, AnyShape, TypeVariable, FunctionShape, TypeFunctionShape, BoxShape}
use Rattle.cc_core.specs.Shapes.{ExitShape, capturing}
use Rattle.cc_core.specs.Terms.{Absent, Written, Own, VariableTerm, LiteralTerm, FunctionTerm}
use Rattle.cc_core.specs.Terms.{TypeFunctionTerm}
use Rattle.cc_core.specs.Terms.{BoxTerm, Application, TypeApplication, Unboxing, Primitive, Conditional}
use Rattle.cc_core.specs.Terms.{Repetition, Operation, Boundary, Leave}
use Rattle.cc_certificate_examples.specs.CanonicalExamples.{number, nothing, truth, both, position, bound, function, one, Derives}

-- A head is widened where exposing changes its shape; an operand is widened to the shape that is wanted, and an
-- argument to the type, also where they are the same.
pub record CanonicalOperands : Type 0 where
  pub application :
      Derives Absent (FunctionTerm (FunctionShape number (position 2) number empty) empty
      (Application (Bound 0) (Free 2))) (capturing
      (FunctionShape (FunctionShape number (position 2) number empty) empty number empty) (position 2)) (
      codes "1 t-var [] : ((_1: Int^{x}) -> Int)^{_0}" ∷
      codes "2 t-var [] : Int^{x}" ∷
      codes "3 elem [] {x} <: {x}" ∷
      codes "4 set [3] {x} <: {x}" ∷
      codes "5 refl [] Int <: Int" ∷
      codes "6 capt [4 5] Int^{x} <: Int^{x}" ∷
      codes "7 t-sub [2 6] : Int^{x}" ∷
      codes "8 t-app [1 7] : Int" ∷
      codes "9 t-abs [8] : ((_0: (_0: Int^{x}) -> Int) -> Int)^{x}" ∷ [])
  pub application_of_a_type_variable :
      Derives Absent (TypeFunctionTerm (FunctionShape AnyShape (position 2) number empty)
      (FunctionTerm (TypeVariable (Bound 0)) empty (Application (Bound 0) (Free 2))))
      (capturing (TypeFunctionShape (FunctionShape AnyShape (position 2) number empty)
      (FunctionShape (TypeVariable (Bound 0)) empty number empty) (position 2)) (position 2)) (
      codes "1 t-var [] : _T0^{_1}" ∷
      codes "2 elem [] {_1} <: {_1}" ∷
      codes "3 set [2] {_1} <: {_1}" ∷
      codes "4 tvar [] _T0 <: (_2: Any^{x}) -> Int" ∷
      codes "5 refl [] (_2: Any^{x}) -> Int <: (_2: Any^{x}) -> Int" ∷
      codes "6 tran [4 5] _T0 <: (_2: Any^{x}) -> Int" ∷
      codes "7 capt [3 6] _T0^{_1} <: ((_2: Any^{x}) -> Int)^{_1}" ∷
      codes "8 t-sub [1 7] : ((_2: Any^{x}) -> Int)^{_1}" ∷
      codes "9 t-var [] : Int^{x}" ∷
      codes "10 elem [] {x} <: {x}" ∷
      codes "11 set [10] {x} <: {x}" ∷
      codes "12 top [] Int <: Any" ∷
      codes "13 capt [11 12] Int^{x} <: Any^{x}" ∷
      codes "14 t-sub [9 13] : Any^{x}" ∷
      codes "15 t-app [8 14] : Int" ∷
      codes "16 t-abs [15] : ((_1: _T0) -> Int)^{x}" ∷
      codes "17 t-tabs [16] : ([_T0 <: (_0: Any^{x}) -> Int] -> ((_1: _T0) -> Int)^{x})^{x}" ∷ [])
  -- it is below it by itself
  pub argument_of_the_greatest_shape :
      Derives Absent (FunctionTerm (FunctionShape AnyShape empty number empty) empty
      (FunctionTerm AnyShape empty (Application (Bound 1) (Bound 0))))
      (capturing (FunctionShape (FunctionShape AnyShape empty number empty) empty
      (FunctionShape AnyShape empty number empty) (bound 0)) empty) (
      codes "1 t-var [] : ((_2: Any) -> Int)^{_0}" ∷
      codes "2 t-var [] : Any^{_1}" ∷
      codes "3 set [] {} <: {}" ∷
      codes "4 var [3] {_1} <: {}" ∷
      codes "5 set [4] {_1} <: {}" ∷
      codes "6 refl [] Any <: Any" ∷
      codes "7 capt [5 6] Any^{_1} <: Any" ∷
      codes "8 t-sub [2 7] : Any" ∷
      codes "9 t-app [1 8] : Int" ∷
      codes "10 t-abs [9] : ((_1: Any) -> Int)^{_0}" ∷
      codes "11 t-abs [10] : (_0: (_0: Any) -> Int) -> ((_1: Any) -> Int)^{_0}" ∷ [])
  pub type_application :
      Derives Absent (FunctionTerm (TypeFunctionShape number (TypeVariable (Bound 0)) empty) empty
      (TypeApplication (Bound 0) number)) (capturing
      (FunctionShape (TypeFunctionShape number (TypeVariable (Bound 0)) empty) empty number empty) empty) (
      codes "1 t-var [] : ([_T1 <: Int] -> _T1)^{_0}" ∷
      codes "2 refl [] Int <: Int" ∷
      codes "3 t-tapp [1 2] : Int" ∷
      codes "4 t-abs [3] : (_0: [_T0 <: Int] -> _T0) -> Int" ∷ [])
  pub type_application_of_a_type_variable :
      Derives Absent (TypeFunctionTerm (TypeFunctionShape AnyShape number empty)
      (FunctionTerm (TypeVariable (Bound 0)) empty (TypeApplication (Bound 0) number)))
      (capturing (TypeFunctionShape (TypeFunctionShape AnyShape number empty)
      (FunctionShape (TypeVariable (Bound 0)) empty number empty) empty) empty) (
      codes "1 t-var [] : _T0^{_1}" ∷
      codes "2 elem [] {_1} <: {_1}" ∷
      codes "3 set [2] {_1} <: {_1}" ∷
      codes "4 tvar [] _T0 <: [_T2 <: Any] -> Int" ∷
      codes "5 refl [] [_T2 <: Any] -> Int <: [_T2 <: Any] -> Int" ∷
      codes "6 tran [4 5] _T0 <: [_T2 <: Any] -> Int" ∷
      codes "7 capt [3 6] _T0^{_1} <: ([_T2 <: Any] -> Int)^{_1}" ∷
      codes "8 t-sub [1 7] : ([_T2 <: Any] -> Int)^{_1}" ∷
      codes "9 top [] Int <: Any" ∷
      codes "10 t-tapp [8 9] : Int" ∷
      codes "11 t-abs [10] : (_1: _T0) -> Int" ∷
      codes "12 t-tabs [11] : [_T0 <: [_T0 <: Any] -> Int] -> (_1: _T0) -> Int" ∷ [])
  pub operator :
      Derives Absent (Primitive operators.Add (Free 2) (Free 2)) (capturing number empty) (
      codes "1 t-var [] : Int^{x}" ∷
      codes "2 elem [] {x} <: {x}" ∷
      codes "3 set [2] {x} <: {x}" ∷
      codes "4 refl [] Int <: Int" ∷
      codes "5 capt [3 4] Int^{x} <: Int^{x}" ∷
      codes "6 t-sub [1 5] : Int^{x}" ∷
      codes "7 t-var [] : Int^{x}" ∷
      codes "8 elem [] {x} <: {x}" ∷
      codes "9 set [8] {x} <: {x}" ∷
      codes "10 refl [] Int <: Int" ∷
      codes "11 capt [9 10] Int^{x} <: Int^{x}" ∷
      codes "12 t-sub [7 11] : Int^{x}" ∷
      codes "13 t-prim [6 12] : Int" ∷ [])
  pub operator_on_a_type_variable :
      Derives Absent (TypeFunctionTerm number (FunctionTerm (TypeVariable (Bound 0)) empty
      (Primitive operators.Less (Bound 0) (Free 2)))) (capturing
      (TypeFunctionShape number (FunctionShape (TypeVariable (Bound 0)) empty (BaseShape bases.Bool) empty)
      (position 2)) (position 2)) (
      codes "1 t-var [] : _T0^{_1}" ∷
      codes "2 elem [] {_1} <: {_1}" ∷
      codes "3 set [2] {_1} <: {_1}" ∷
      codes "4 tvar [] _T0 <: Int" ∷
      codes "5 refl [] Int <: Int" ∷
      codes "6 tran [4 5] _T0 <: Int" ∷
      codes "7 capt [3 6] _T0^{_1} <: Int^{_1}" ∷
      codes "8 t-sub [1 7] : Int^{_1}" ∷
      codes "9 t-var [] : Int^{x}" ∷
      codes "10 elem [] {x} <: {x}" ∷
      codes "11 set [10] {x} <: {x}" ∷
      codes "12 refl [] Int <: Int" ∷
      codes "13 capt [11 12] Int^{x} <: Int^{x}" ∷
      codes "14 t-sub [9 13] : Int^{x}" ∷
      codes "15 t-prim [8 14] : Bool" ∷
      codes "16 t-abs [15] : ((_1: _T0) -> Bool)^{x}" ∷
      codes "17 t-tabs [16] : ([_T0 <: Int] -> ((_1: _T0) -> Bool)^{x})^{x}" ∷ [])
  -- both branches are widened
  pub choice :
      Derives Absent (Conditional (Written number empty) (Free 3) one one) (capturing number empty) (
      codes "1 t-var [] : Bool^{b}" ∷
      codes "2 elem [] {b} <: {b}" ∷
      codes "3 set [2] {b} <: {b}" ∷
      codes "4 refl [] Bool <: Bool" ∷
      codes "5 capt [3 4] Bool^{b} <: Bool^{b}" ∷
      codes "6 t-sub [1 5] : Bool^{b}" ∷
      codes "7 t-lit [] : Int" ∷
      codes "8 set [] {} <: {}" ∷
      codes "9 refl [] Int <: Int" ∷
      codes "10 capt [8 9] Int <: Int" ∷
      codes "11 t-sub [7 10] : Int" ∷
      codes "12 t-lit [] : Int" ∷
      codes "13 set [] {} <: {}" ∷
      codes "14 refl [] Int <: Int" ∷
      codes "15 capt [13 14] Int <: Int" ∷
      codes "16 t-sub [12 15] : Int" ∷
      codes "17 t-if [6 11 16] : Int" ∷ [])
  pub choice_of_a_greater_type :
      Derives Absent (Conditional (Written AnyShape empty) (Free 3) one (LiteralTerm (NumberLiteral (pos 2))))
      (capturing AnyShape empty) (
      codes "1 t-var [] : Bool^{b}" ∷
      codes "2 elem [] {b} <: {b}" ∷
      codes "3 set [2] {b} <: {b}" ∷
      codes "4 refl [] Bool <: Bool" ∷
      codes "5 capt [3 4] Bool^{b} <: Bool^{b}" ∷
      codes "6 t-sub [1 5] : Bool^{b}" ∷
      codes "7 t-lit [] : Int" ∷
      codes "8 set [] {} <: {}" ∷
      codes "9 top [] Int <: Any" ∷
      codes "10 capt [8 9] Int <: Any" ∷
      codes "11 t-sub [7 10] : Any" ∷
      codes "12 t-lit [] : Int" ∷
      codes "13 set [] {} <: {}" ∷
      codes "14 top [] Int <: Any" ∷
      codes "15 capt [13 14] Int <: Any" ∷
      codes "16 t-sub [12 15] : Any" ∷
      codes "17 t-if [6 11 16] : Any" ∷ [])
  pub repetition :
      Derives Absent (FunctionTerm (FunctionShape AnyShape empty nothing empty) empty (Repetition (Free 2) (Bound 0)))
      (capturing (FunctionShape (FunctionShape AnyShape empty nothing empty) empty nothing empty) (position 2)) (
      codes "1 t-var [] : Int^{x}" ∷
      codes "2 elem [] {x} <: {x}" ∷
      codes "3 set [2] {x} <: {x}" ∷
      codes "4 refl [] Int <: Int" ∷
      codes "5 capt [3 4] Int^{x} <: Int^{x}" ∷
      codes "6 t-sub [1 5] : Int^{x}" ∷
      codes "7 t-var [] : ((_1: Any) -> Unit)^{_0}" ∷
      codes "8 elem [] {_0} <: {_0}" ∷
      codes "9 set [8] {_0} <: {_0}" ∷
      codes "10 set [] {} <: {}" ∷
      codes "11 top [] Int <: Any" ∷
      codes "12 capt [10 11] Int <: Any" ∷
      codes "13 set [] {} <: {}" ∷
      codes "14 refl [] Unit <: Unit" ∷
      codes "15 capt [13 14] Unit <: Unit" ∷
      codes "16 fun [12 15] (_1: Any) -> Unit <: (_1: Int) -> Unit" ∷
      codes "17 capt [9 16] ((_1: Any) -> Unit)^{_0} <: ((_1: Int) -> Unit)^{_0}" ∷
      codes "18 t-sub [7 17] : ((_1: Int) -> Unit)^{_0}" ∷
      codes "19 t-repeat [6 18] : Unit" ∷
      codes "20 t-abs [19] : ((_0: (_0: Any) -> Unit) -> Unit)^{x}" ∷ [])
  pub operation :
      Derives Absent (Operation operations.Print (Free 0) (Some (Free 2))) (capturing nothing empty) (
      codes "1 t-var [] : Console^{out}" ∷
      codes "2 t-var [] : Int^{x}" ∷
      codes "3 elem [] {x} <: {x}" ∷
      codes "4 set [3] {x} <: {x}" ∷
      codes "5 refl [] Int <: Int" ∷
      codes "6 capt [4 5] Int^{x} <: Int^{x}" ∷
      codes "7 t-sub [2 6] : Int^{x}" ∷
      codes "8 t-op [1 7] : Unit" ∷ [])
  pub printing_on_a_type_variable :
      Derives Absent (TypeFunctionTerm (BaseShape bases.Console)
      (FunctionTerm (TypeVariable (Bound 0)) empty (Operation operations.Print (Bound 0) (Some (Free 2)))))
      (capturing (TypeFunctionShape (BaseShape bases.Console)
      (FunctionShape (TypeVariable (Bound 0)) empty nothing empty) (position 2)) (position 2)) (
      codes "1 t-var [] : _T0^{_1}" ∷
      codes "2 elem [] {_1} <: {_1}" ∷
      codes "3 set [2] {_1} <: {_1}" ∷
      codes "4 tvar [] _T0 <: Console" ∷
      codes "5 refl [] Console <: Console" ∷
      codes "6 tran [4 5] _T0 <: Console" ∷
      codes "7 capt [3 6] _T0^{_1} <: Console^{_1}" ∷
      codes "8 t-sub [1 7] : Console^{_1}" ∷
      codes "9 t-var [] : Int^{x}" ∷
      codes "10 elem [] {x} <: {x}" ∷
      codes "11 set [10] {x} <: {x}" ∷
      codes "12 refl [] Int <: Int" ∷
      codes "13 capt [11 12] Int^{x} <: Int^{x}" ∷
      codes "14 t-sub [9 13] : Int^{x}" ∷
      codes "15 t-op [8 14] : Unit" ∷
      codes "16 t-abs [15] : ((_1: _T0) -> Unit)^{x}" ∷
      codes "17 t-tabs [16] : ([_T0 <: Console] -> ((_1: _T0) -> Unit)^{x})^{x}" ∷ [])
  pub operation_alone :
      Derives Absent (Operation operations.Tick (Free 1) None) (capturing number empty) (
      codes "1 t-var [] : Counter^{hits}" ∷
      codes "2 t-op [1] : Int" ∷ [])
  pub operation_of_a_type_variable :
      Derives Absent (TypeFunctionTerm (BaseShape bases.Counter)
      (FunctionTerm (TypeVariable (Bound 0)) empty (Operation operations.Tick (Bound 0) None)))
      (capturing (TypeFunctionShape (BaseShape bases.Counter)
      (FunctionShape (TypeVariable (Bound 0)) empty number empty) empty) empty) (
      codes "1 t-var [] : _T0^{_1}" ∷
      codes "2 elem [] {_1} <: {_1}" ∷
      codes "3 set [2] {_1} <: {_1}" ∷
      codes "4 tvar [] _T0 <: Counter" ∷
      codes "5 refl [] Counter <: Counter" ∷
      codes "6 tran [4 5] _T0 <: Counter" ∷
      codes "7 capt [3 6] _T0^{_1} <: Counter^{_1}" ∷
      codes "8 t-sub [1 7] : Counter^{_1}" ∷
      codes "9 t-op [8] : Int" ∷
      codes "10 t-abs [9] : (_1: _T0) -> Int" ∷
      codes "11 t-tabs [10] : [_T0 <: Counter] -> (_1: _T0) -> Int" ∷ [])

-- What is put into a box is not widened; what is opened is, and so are the body of a boundary and what it is left
-- with.
pub record CanonicalBoxesAndBoundaries : Type 0 where
  pub box :
      Derives Absent (BoxTerm (Free 2)) (capturing (BoxShape number (position 2)) empty) (
      codes "1 t-var [] : Int^{x}" ∷
      codes "2 t-box [1] : Box[Int^{x}]" ∷ [])
  pub unboxing :
      Derives Absent (FunctionTerm (BoxShape number (position 2)) empty (Unboxing (Some (position 2)) (Bound 0)))
      (capturing (FunctionShape (BoxShape number (position 2)) empty number (position 2)) (position 2)) (
      codes "1 t-var [] : Box[Int^{x}]^{_0}" ∷
      codes "2 elem [] {_0} <: {_0}" ∷
      codes "3 set [2] {_0} <: {_0}" ∷
      codes "4 refl [] Box[Int^{x}] <: Box[Int^{x}]" ∷
      codes "5 capt [3 4] Box[Int^{x}]^{_0} <: Box[Int^{x}]^{_0}" ∷
      codes "6 t-sub [1 5] : Box[Int^{x}]^{_0}" ∷
      codes "7 t-unbox [6] : Int^{x}" ∷
      codes "8 t-abs [7] : ((_0: Box[Int^{x}]) -> Int^{x})^{x}" ∷ [])
  pub unboxing_under_a_greater_set :
      Derives Absent (FunctionTerm (BoxShape number (position 2)) empty (Unboxing (Some both) (Bound 0)))
      (capturing (FunctionShape (BoxShape number (position 2)) empty number both) both) (
      codes "1 t-var [] : Box[Int^{x}]^{_0}" ∷
      codes "2 elem [] {_0} <: {_0}" ∷
      codes "3 set [2] {_0} <: {_0}" ∷
      codes "4 elem [] {out} <: {out, hits}" ∷
      codes "5 elem [] {hits} <: {out, hits}" ∷
      codes "6 set [4 5] {out, hits} <: {out, hits}" ∷
      codes "7 var [6] {x} <: {out, hits}" ∷
      codes "8 set [7] {x} <: {out, hits}" ∷
      codes "9 refl [] Int <: Int" ∷
      codes "10 capt [8 9] Int^{x} <: Int^{out, hits}" ∷
      codes "11 boxed [10] Box[Int^{x}] <: Box[Int^{out, hits}]" ∷
      codes "12 capt [3 11] Box[Int^{x}]^{_0} <: Box[Int^{out, hits}]^{_0}" ∷
      codes "13 t-sub [1 12] : Box[Int^{out, hits}]^{_0}" ∷
      codes "14 t-unbox [13] : Int^{out, hits}" ∷
      codes "15 t-abs [14] : ((_0: Box[Int^{x}]) -> Int^{out, hits})^{out, hits}" ∷ [])
  pub unboxing_of_a_type_variable :
      Derives Absent (TypeFunctionTerm (BoxShape number empty)
      (FunctionTerm (TypeVariable (Bound 0)) empty (Unboxing (Some empty) (Bound 0))))
      (capturing (TypeFunctionShape (BoxShape number empty) (FunctionShape (TypeVariable (Bound 0)) empty number empty)
      empty) empty) (
      codes "1 t-var [] : _T0^{_1}" ∷
      codes "2 elem [] {_1} <: {_1}" ∷
      codes "3 set [2] {_1} <: {_1}" ∷
      codes "4 tvar [] _T0 <: Box[Int]" ∷
      codes "5 refl [] Box[Int] <: Box[Int]" ∷
      codes "6 tran [4 5] _T0 <: Box[Int]" ∷
      codes "7 capt [3 6] _T0^{_1} <: Box[Int]^{_1}" ∷
      codes "8 t-sub [1 7] : Box[Int]^{_1}" ∷
      codes "9 t-unbox [8] : Int" ∷
      codes "10 t-abs [9] : (_1: _T0) -> Int" ∷
      codes "11 t-tabs [10] : [_T0 <: Box[Int]] -> (_1: _T0) -> Int" ∷ [])
  pub boundary :
      Derives Absent (Boundary number one) (capturing number empty) (
      codes "1 t-lit [] : Int" ∷
      codes "2 set [] {} <: {}" ∷
      codes "3 refl [] Int <: Int" ∷
      codes "4 capt [2 3] Int <: Int" ∷
      codes "5 t-sub [1 4] : Int" ∷
      codes "6 t-boundary [5] : Int" ∷ [])
  -- its body stands under the exit
  pub boundary_of_a_function :
      Derives Absent (Boundary function (FunctionTerm number empty one)) (capturing function empty) (
      codes "1 t-lit [] : Int" ∷
      codes "2 t-abs [1] : (_1: Int) -> Int" ∷
      codes "3 set [] {} <: {}" ∷
      codes "4 refl [] (_1: Int) -> Int <: (_1: Int) -> Int" ∷
      codes "5 capt [3 4] (_1: Int) -> Int <: (_1: Int) -> Int" ∷
      codes "6 t-sub [2 5] : (_1: Int) -> Int" ∷
      codes "7 t-boundary [6] : (_0: Int) -> Int" ∷ [])
  pub exit :
      Derives Absent (Boundary truth (Leave truth empty (Bound 0) (Free 3))) (capturing truth empty) (
      codes "1 t-var [] : Exit[Bool]^{_0}" ∷
      codes "2 t-var [] : Bool^{b}" ∷
      codes "3 set [] {} <: {}" ∷
      codes "4 var [3] {b} <: {}" ∷
      codes "5 set [4] {b} <: {}" ∷
      codes "6 refl [] Bool <: Bool" ∷
      codes "7 capt [5 6] Bool^{b} <: Bool" ∷
      codes "8 t-sub [2 7] : Bool" ∷
      codes "9 t-exit [1 8] : Bool" ∷
      codes "10 set [] {} <: {}" ∷
      codes "11 refl [] Bool <: Bool" ∷
      codes "12 capt [10 11] Bool <: Bool" ∷
      codes "13 t-sub [9 12] : Bool" ∷
      codes "14 t-boundary [13] : Bool" ∷ [])
  pub exit_of_a_type_variable :
      Derives Absent (TypeFunctionTerm (ExitShape truth)
      (FunctionTerm (TypeVariable (Bound 0)) empty (Leave number (position 2) (Bound 0) (Free 3))))
      (capturing (TypeFunctionShape (ExitShape truth) (FunctionShape (TypeVariable (Bound 0)) empty number (position 2))
      (position 3)) (position 3)) (
      codes "1 t-var [] : _T0^{_1}" ∷
      codes "2 elem [] {_1} <: {_1}" ∷
      codes "3 set [2] {_1} <: {_1}" ∷
      codes "4 tvar [] _T0 <: Exit[Bool]" ∷
      codes "5 refl [] Exit[Bool] <: Exit[Bool]" ∷
      codes "6 tran [4 5] _T0 <: Exit[Bool]" ∷
      codes "7 capt [3 6] _T0^{_1} <: Exit[Bool]^{_1}" ∷
      codes "8 t-sub [1 7] : Exit[Bool]^{_1}" ∷
      codes "9 t-var [] : Bool^{b}" ∷
      codes "10 set [] {} <: {}" ∷
      codes "11 var [10] {b} <: {}" ∷
      codes "12 set [11] {b} <: {}" ∷
      codes "13 refl [] Bool <: Bool" ∷
      codes "14 capt [12 13] Bool^{b} <: Bool" ∷
      codes "15 t-sub [9 14] : Bool" ∷
      codes "16 t-exit [8 15] : Int^{x}" ∷
      codes "17 t-abs [16] : ((_1: _T0) -> Int^{x})^{b}" ∷
      codes "18 t-tabs [17] : ([_T0 <: Exit[Bool]] -> ((_1: _T0) -> Int^{x})^{b})^{b}" ∷ [])

-- Where a head is not of the shape that its construct wants, or a choice has no type, the node is no instance of its
-- rule.
pub record TermsWithoutADerivation : Type 0 where
  pub application_of_a_number :
      Derives Absent (Application (Free 2) (Free 2)) (capturing nothing empty) (
      codes "1 t-sub [] : Unit" ∷ [])
  pub type_application_of_a_number :
      Derives Absent (TypeApplication (Free 2) number) (capturing nothing empty) (
      codes "1 t-sub [] : Unit" ∷ [])
  pub unboxing_of_a_number :
      Derives Absent (Unboxing (Some empty) (Free 2)) (capturing nothing empty) (
      codes "1 t-sub [] : Unit" ∷ [])
  pub exit_by_a_number :
      Derives Absent (Leave number empty (Free 2) (Free 2)) (capturing nothing empty) (
      codes "1 t-sub [] : Unit" ∷ [])
  pub printing_nothing :
      Derives Absent (Operation operations.Print (Free 0) None) (capturing nothing empty) (
      codes "1 t-sub [] : Unit" ∷ [])
  pub ticking_something :
      Derives Absent (Operation operations.Tick (Free 1) (Some (Free 2))) (capturing nothing empty) (
      codes "1 t-sub [] : Unit" ∷ [])
  pub choice_of_no_type :
      Derives Absent (Conditional Absent (Free 3) one one) (capturing nothing empty) (
      codes "1 t-sub [] : Unit" ∷ [])
  pub choice_of_an_omitted_set :
      Derives Absent (Conditional (Own number) (Free 3) one one) (capturing nothing empty) (
      codes "1 t-sub [] : Unit" ∷ [])
  -- it is of the greatest shape
  pub variable_that_is_a_type :
      Derives Absent (TypeFunctionTerm number (VariableTerm (Bound 0)))
      (capturing (TypeFunctionShape number AnyShape (bound 0)) empty) (
      codes "1 t-var [] : Any^{_0}" ∷
      codes "2 t-tabs [1] : [_T0 <: Int] -> Any^{_0}" ∷ [])
  -- nothing is widened to it
  pub of_a_type_without_its_set :
      Derives (Own AnyShape) one (capturing number empty) (
      codes "1 t-lit [] : Int" ∷ [])
