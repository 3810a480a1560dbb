-- Small worked examples of the definitions.
use Rattle.std.specs.Prelude.{◌≡◌, true, false, [], ◌∷◌, Some, None, refl}
use Rattle.cc_base.specs.declared.literal.Base.TheVariants as bases
use Rattle.cc_capture.specs.declared.var.Var.{Var}
use Rattle.cc_capture.specs.declared.var.Var.TheVariants.{Bound, Free}
use Rattle.cc_capture.specs.declared.var.Elem.{Elem}
use Rattle.cc_capture.specs.declared.var.Elem.TheVariants.{Var as Variable, Cap}
use Rattle.cc_capture.specs.Elements.{element_order, same_element}
use Rattle.cc_capture.specs.Rising.{placed}
use Rattle.cc_capture.specs.Sets.{contains, empty, insert, from_list, union, flat_image}
use Rattle.cc_core.specs.Shapes.{BaseShape, AnyShape, TypeVariable, FunctionShape, BoxShape, capturing}
use Rattle.cc_core.specs.Terms.{Absent, Term, VariableTerm, FunctionTerm, BoxTerm, Application, Unboxing, Let}
use Rattle.cc_core.specs.Substitution.{single, opened, opened_set}
use Rattle.cc_core.specs.Reading.{read_variable, written_variable}
use Rattle.cc_core.specs.Captured.{captured_variables}
use Rattle.cc_core.specs.WellFormed.{TermKind, TypeKind, is_well_formed_set, is_well_formed_shape}
use Rattle.cc_core.specs.Sizes.{type_size}

-- a variable as an element
abbrev at : Var → Elem
at variable = Variable variable

-- opening a box captures the box and the set that is written
unboxing_captures_its_set : (captured_variables (Unboxing (Some (single (at (Free 2)))) (Free 0))).list
    ≡ at (Free 0) ∷ at (Free 2) ∷ []
unfolding empty insert union from_list placed element_order
unboxing_captures_its_set = refl

-- an omitted set counts as empty
omitted_set_is_empty : (captured_variables (Unboxing None (Free 0))).list ≡ at (Free 0) ∷ []
unfolding empty insert union from_list placed element_order
omitted_set_is_empty = refl

-- a box captures nothing
box_captures_nothing : (captured_variables (BoxTerm (Free 0))).list ≡ []
unfolding empty
box_captures_nothing = refl

-- fun (x: Unit) => p0(x)
abbrev caller : Term
caller = FunctionTerm (BaseShape bases.Unit) empty (Application (Free 0) (Bound 0))

-- a function captures what its body captures outside of its binder
function_captures : (captured_variables caller).list ≡ at (Free 0) ∷ []
unfolding empty insert union from_list flat_image placed element_order
function_captures = refl

-- let f = fun (x: Unit) => p0(x) in p1: the function is never used
let_of_an_unused_value : (captured_variables (Let Absent caller (VariableTerm (Free 1)))).list ≡ at (Free 1) ∷ []
unfolding empty insert union from_list flat_image placed contains same_element element_order
let_of_an_unused_value = refl

-- let f = fun (x: Unit) => p0(x) in f(p1): it is used, so what it captures counts
let_of_a_used_value : (captured_variables (Let Absent caller (Application (Bound 0) (Free 1)))).list
    ≡ at (Free 0) ∷ at (Free 1) ∷ []
unfolding empty insert union from_list flat_image placed contains same_element element_order
let_of_a_used_value = refl

-- let x = p0 in p1: the right side is no value, so it counts
let_of_no_value : (captured_variables (Let Absent (VariableTerm (Free 0)) (VariableTerm (Free 1)))).list
    ≡ at (Free 0) ∷ at (Free 1) ∷ []
unfolding empty insert union from_list flat_image placed contains same_element element_order
let_of_no_value = refl

-- let b = box p0 in b(y), where y is the variable of a binder outside: it counts one binder less outside of the let
let_under_a_binder : (captured_variables (Let Absent (BoxTerm (Free 0)) (Application (Bound 0) (Bound 1)))).list
    ≡ at (Bound 0) ∷ []
unfolding empty insert union from_list flat_image placed contains same_element element_order
let_under_a_binder = refl

-- Where the functions take their arguments, the opened index is 0 and then 1, and in what the inner one gives it is 2.
opening_counts_binders :
    opened 5 (FunctionShape (TypeVariable (Bound 0)) empty
    (FunctionShape (TypeVariable (Bound 1)) empty (TypeVariable (Bound 2)) empty) empty)
    ≡ FunctionShape (TypeVariable (Free 5)) empty
    (FunctionShape (TypeVariable (Free 5)) empty (TypeVariable (Free 5)) empty) empty
unfolding empty from_list flat_image
opening_counts_binders = refl

-- the index 0 in what a function gives is the function's own argument
opening_leaves_inner_binders :
    opened 5 (FunctionShape AnyShape empty (TypeVariable (Bound 0)) empty)
    ≡ FunctionShape AnyShape empty (TypeVariable (Bound 0)) empty
unfolding empty from_list flat_image
opening_leaves_inner_binders = refl

-- the set of the outermost index, opened
opened_element : (opened_set 5 (single (at (Bound 0)))).list ≡ at (Free 5) ∷ []
unfolding empty insert from_list flat_image placed
opened_element = refl

-- a type variable is no element of a set, and a variable of terms is no type variable
element_of_the_wrong_kind : is_well_formed_set (TypeKind ∷ TermKind ∷ []) [] (single (at (Free 1))) ≡ false
unfolding empty insert placed
element_of_the_wrong_kind = refl

element_of_the_right_kind : is_well_formed_set (TypeKind ∷ TermKind ∷ []) [] (single (at (Free 0))) ≡ true
unfolding empty insert placed
element_of_the_right_kind = refl

type_variable_of_the_wrong_kind :
    is_well_formed_shape (TypeKind ∷ TermKind ∷ []) (TermKind ∷ []) (TypeVariable (Bound 0)) ≡ false
type_variable_of_the_wrong_kind = refl

-- (x: Int) -> Box[Unit^{cap}], with the set of one variable: four shapes, and two elements
size_of_a_type :
    type_size
    (capturing (FunctionShape (BaseShape bases.Int) empty (BoxShape (BaseShape bases.Unit) (single Cap)) empty)
    (single (at (Free 0))))
    ≡ 6
unfolding empty insert placed
size_of_a_type = refl

-- Under one binder, among three entries: the index 1 is the newest entry, the index 2 the one before it.
index_of_the_newest_entry : read_variable 3 1 (Bound 1) ≡ Free 2
index_of_the_newest_entry = refl

index_of_the_entry_before : read_variable 3 1 (Bound 2) ≡ Free 1
index_of_the_entry_before = refl

-- the index of a binder inside stays, and so does one that has no entry
index_inside_stays : read_variable 3 1 (Bound 0) ≡ Bound 0
index_inside_stays = refl

index_without_an_entry_stays : read_variable 3 1 (Bound 4) ≡ Bound 4
index_without_an_entry_stays = refl

-- written again, from the root 1 on; a position below the root stays
position_of_the_newest_entry : written_variable 1 3 1 (Free 2) ≡ Bound 1
position_of_the_newest_entry = refl

position_below_the_root_stays : written_variable 1 3 1 (Free 0) ≡ Free 0
position_below_the_root_stays = refl
