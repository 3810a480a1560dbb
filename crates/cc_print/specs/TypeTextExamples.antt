-- Worked texts.
use Rattle.std.specs.Prelude.{◌≡◌, ℕ, List, [], ◌∷◌, codes, refl}
use Rattle.std.specs.Fmt.{digits}
use Rattle.cc_base.specs.declared.literal.Base.TheVariants as bases
use Rattle.cc_capture.specs.declared.var.Var.TheVariants.{Bound, Free}
use Rattle.cc_capture.specs.declared.var.Elem.{Elem}
use Rattle.cc_capture.specs.declared.var.Elem.TheVariants.{Var as Variable, Cap}
use Rattle.cc_capture.specs.Elements.{element_order}
use Rattle.cc_capture.specs.Rising.{placed}
use Rattle.cc_capture.specs.Sets.{Set, from_list, insert, empty}
use Rattle.cc_core.specs.Shapes.{Shape, BaseShape, AnyShape, TypeVariable, FunctionShape, TypeFunctionShape, BoxShape}
use Rattle.cc_core.specs.Shapes.{ExitShape}
use Rattle.cc_print.specs.TypeTexts.{type_under, set_under}
use lib.Utf8.{encode}

-- two names
abbrev names : List (List ℕ)
names = codes "out" ∷ codes "hits" ∷ []

abbrev none : Set
none = from_list []

abbrev out : Elem
out = Variable (Free 0)

abbrev hits : Elem
hits = Variable (Free 1)

abbrev number : Shape
number = BaseShape bases.Int

abbrev nothing : Shape
nothing = BaseShape bases.Unit

-- a function that prints
abbrev prints : Shape
prints = FunctionShape number none nothing none

-- a pure function has no set, and the result's set has no parentheses
pub pure_function : type_under names 0 (FunctionShape number none nothing (from_list (Variable (Bound 0) ∷ []))) none ≡ codes "(_0: Int) -> Unit^{_0}"
unfolding from_list insert empty placed element_order digits encode
pure_function = refl

-- parentheses before the set of a function
pub capturing_function : type_under names 0 prints (from_list (out ∷ [])) ≡ codes "((_0: Int) -> Unit)^{out}"
unfolding from_list insert empty placed element_order digits encode
capturing_function = refl

-- none before that of another shape
pub capturing_console : type_under names 0 (BaseShape bases.Console) (from_list (Cap ∷ [])) ≡ codes "Console^{cap}"
unfolding from_list insert empty placed element_order digits encode
capturing_console = refl

-- names by position, then binders from the outermost, then the universal capability
pub order_of_elements : set_under names 2 (from_list (Cap ∷ Variable (Bound 0) ∷ hits ∷ Variable (Bound 1) ∷ out ∷ [])) ≡ codes "{out, hits, _0, _1, cap}"
unfolding from_list insert empty placed element_order digits encode
order_of_elements = refl

-- a function's parameter type does not stand under its binder, its result does
pub numbers_of_binders :
    type_under names 0 (FunctionShape prints none prints none) none
    ≡ codes "(_0: (_0: Int) -> Unit) -> (_1: Int) -> Unit"
unfolding from_list insert empty placed element_order digits encode
numbers_of_binders = refl

-- nor does a bound
pub bound_outside :
    type_under names 0 (TypeFunctionShape (BoxShape prints (from_list (hits ∷ []))) (TypeVariable (Bound 0)) none) none
    ≡ codes "[_T0 <: Box[((_0: Int) -> Unit)^{hits}]] -> _T0"
unfolding from_list insert empty placed element_order digits encode
bound_outside = refl

-- a type function before its set
pub capturing_type_function :
    type_under names 0 (TypeFunctionShape AnyShape (ExitShape (TypeVariable (Bound 0))) none) (from_list (hits ∷ out ∷ []))
    ≡ codes "([_T0 <: Any] -> Exit[_T0])^{out, hits}"
unfolding from_list insert empty placed element_order digits encode
capturing_type_function = refl

-- a position behind the names is that of a local binder, and binders inside count on from those
pub local_binders :
    type_under names 2 (FunctionShape (TypeVariable (Free 3)) (from_list (Variable (Free 2) ∷ [])) number none) none
    ≡ codes "(_2: _T1^{_0}) -> Int"
unfolding from_list insert empty placed element_order digits encode
local_binders = refl
