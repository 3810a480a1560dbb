-- What texts are elaborated to, by computation.
use Rattle.std.proofs.Common.{◌≡◌, ◌∙◌, refl, ap, codes, ◌++◌, ℕ, List, Some}
use Rattle.cc_mnf.specs.ElaboratedModules.{CoreDefinition}
use Rattle.cc_worked_texts.specs.ElaboratedTexts.{definitions_read, IsElaboratedTo}
use Rattle.cc_worked_texts.specs.ElaboratedTexts as example
use Rattle.cc_worked_texts.proofs.ComputedModules.{text_computing}
use Rattle.cc_worked_texts.proofs.QuickTokens.{quick_reading, same_reading}

-- a text is elaborated to what is found
elaborated_to : (text : List ℕ) (definitions : List CoreDefinition) → definitions_read (quick_reading text) ≡ Some definitions → IsElaboratedTo text definitions
elaborated_to text definitions e = ap definitions_read (same_reading text) ∙ e

pub argument_is_named : example.ArgumentIsNamed
unfolding text_computing
argument_is_named = elaborated_to (codes "def a = fun (f: Int) => fun (g: Int) => f((g(f)))") _ refl

pub operands_in_operands : example.OperandsInOperands
unfolding text_computing
operands_in_operands = elaborated_to (codes "def a = fun (u: Unit) => out.print((1 + (2 * 3)))") _ refl

pub parentheses_start_expressions : example.ParenthesesStartExpressions
unfolding text_computing
parentheses_start_expressions = elaborated_to (codes "def a = fun (u: Unit) => (val x = u; (out.read()))") _ refl

pub sets_stand_under_lets : example.SetsStandUnderLets
unfolding text_computing
sets_stand_under_lets = elaborated_to (codes "def a = fun (b: Box[Int]) => (unbox {b, cap} (unbox (b)))") _ refl

pub choices_stand_under_lets : example.ChoicesStandUnderLets
unfolding text_computing
choices_stand_under_lets = elaborated_to (codes "def a = fun (u: Int) => if [Int^{u}] 1 < u then u else 2") _ refl

pub exits_stand_under_lets : example.ExitsStandUnderLets
unfolding text_computing
exits_stand_under_lets = elaborated_to (codes "def a = fun (x: Box[Exit[Int]]) => exit [Any^{x}] (unbox x, 1)") _ refl

pub repetitions_have_operands : example.RepetitionsHaveOperands
unfolding text_computing
repetitions_have_operands = elaborated_to (codes "def a = fun (u: Unit) => repeat(2 + 3, fun (i: Int) => out.print(i))") _ refl

pub boundaries_bind_their_exits : example.BoundariesBindTheirExits
unfolding text_computing
boundaries_bind_their_exits = elaborated_to (codes "def a = fun (f: Unit) => boundary [Int] z => (f(z))[Int]") _ refl

pub names_of_types_are_apart : example.NamesOfTypesAreApart
unfolding text_computing
names_of_types_are_apart = elaborated_to (codes "def a = fun (x: Unit) => fun [x <: Any] => fun (y: x^{x}) => x") _ refl

pub local_names_hide : example.LocalNamesHide
unfolding text_computing
local_names_hide = elaborated_to (codes "def a = fun (out: Int) => out") _ refl

pub innermost_binder_counts : example.InnermostBinderCounts
unfolding text_computing
innermost_binder_counts = elaborated_to (codes "def a = fun (x: Int) => fun (x: (x: Int^{x}) -> Int^{x}) => x") _ refl

pub omitted_sets_are_their_own : example.OmittedSetsAreTheirOwn
unfolding text_computing
omitted_sets_are_their_own = elaborated_to (codes "def a: ((x: Int) -> Int)^? = (fun (x: Int) => val y: Int^? = x; if [Int^?] x then x else y)") _ refl

pub holes_are_counted : example.HolesAreCounted
unfolding text_computing
holes_are_counted = elaborated_to (codes "def a = fun (f: Int^?) => fun (g: Int^?) => f def b = fun (h: Int^?) => h") _ refl

pub positions_are_in_order : example.PositionsAreInOrder
unfolding text_computing
positions_are_in_order = elaborated_to (codes "import m.f def a = fun (x: Int) => f(out) def b = fun (x: Int) => a(x)") _ refl

pub own_name_is_visible : example.OwnNameIsVisible
unfolding text_computing
own_name_is_visible = elaborated_to (codes "def rec f: (u: Unit) -> Unit = fun (u: Unit) => val w = out.print(1); f(u)") _ refl

pub type_functions_may_be_recursive : example.TypeFunctionsMayBeRecursive
unfolding text_computing
type_functions_may_be_recursive = elaborated_to (codes "def rec f: Int = fun [X <: Any] => f") _ refl

pub box_of_a_name_is_a_value : example.BoxOfANameIsAValue
unfolding text_computing
box_of_a_name_is_a_value = elaborated_to (codes "def a = box (out)") _ refl

pub choices_start_at_their_parentheses : example.ChoicesStartAtTheirParentheses
unfolding text_computing
choices_start_at_their_parentheses = elaborated_to (codes "def a = fun (u: Int) => (if [Int] 1 < u then (fun [X <: Any] => 1) else (boundary [Int] z => 2))") _ refl

pub operations_start_at_their_parentheses : example.OperationsStartAtTheirParentheses
unfolding text_computing
operations_start_at_their_parentheses = elaborated_to (codes "def a = fun (u: Int) => (out.print((u + u)))") _ refl

pub repetitions_start_at_their_parentheses : example.RepetitionsStartAtTheirParentheses
unfolding text_computing
repetitions_start_at_their_parentheses = elaborated_to (codes "def a = fun (u: Int) => (repeat(u, (exit [Int] (u, u))))") _ refl

pub short_right_sides : example.ShortRightSides
unfolding text_computing
short_right_sides = elaborated_to (codes "def a = true def b = false def c = unit def d = \"xy\" def e = fun (x: Int) => x - x def " ++ codes "f = fun (x: Int) => x == x def g = fun (x: Int) => out.say(x) def h = fun (x: Int) => " ++ codes "x.write(x) def i = fun (x: Int) => hits.tick()") _ refl
