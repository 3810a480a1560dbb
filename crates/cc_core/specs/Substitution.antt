-- Opening, closing, substitution, renaming and filling. At a place under d binders the index d is the one that is
-- replaced. Every other index stays, and nothing is shifted, since what is put in has no index of its own where the
-- rules use these.
use Rattle.std.specs.Prelude.{ℕ, zero, nat_eq, if◌then◌else◌}
use Rattle.cc_capture.specs.declared.var.Var.{Var}
use Rattle.cc_capture.specs.declared.var.Var.TheVariants.{Bound, Free}
use Rattle.cc_capture.specs.declared.var.Elem.{Elem}
use Rattle.cc_capture.specs.declared.var.Elem.TheVariants.{Var as Variable, Cap, Hole}
use Rattle.cc_capture.specs.Sets.{Set, empty, insert}
use Rattle.cc_core.specs.Shapes.{Shape, TypeVariable, CapturingType}
use Rattle.cc_core.specs.Terms.{Term}
use Rattle.cc_core.specs.Traversal.{Action, act, act_set, act_type, act_term}

-- the set with one element
abbrev pub single : Elem → Set
single e = insert e empty

-- an element whose variable is moved
abbrev pub moved_element : (Var → Var) → Elem → Elem
moved_element move (Variable v) = Variable (move v)
moved_element move Cap = Cap
moved_element move (Hole number) = Hole number

-- the action that moves each variable, wherever it stands
abbrev pub moving : (ℕ → Var → Var) → Action
moving move = record {
  element = λ depth e. single (moved_element (move depth) e);
  shape = λ depth v. TypeVariable (move depth v);
  variable = move;
}

-- the index that counts the binders above becomes the variable
abbrev pub put_variable : Var → ℕ → Var → Var
put_variable by depth (Bound index) = if nat_eq index depth then by else Bound index
put_variable by depth (Free position) = Free position

-- the free position becomes the index that counts the binders above
abbrev pub closed_variable : ℕ → ℕ → Var → Var
closed_variable at depth (Bound index) = Bound index
closed_variable at depth (Free position) = if nat_eq position at then Bound depth else Free position

-- a free position becomes another
abbrev pub renamed_variable : (ℕ → ℕ) → Var → Var
renamed_variable to (Bound index) = Bound index
renamed_variable to (Free position) = Free (to position)

-- puts the variable for the outermost index
abbrev pub putting : Var → Action
putting by = moving (put_variable by)

-- puts the free position for the outermost index
abbrev pub opening : ℕ → Action
opening position = putting (Free position)

-- makes the free position the outermost index
abbrev pub closing : ℕ → Action
closing position = moving (closed_variable position)

-- renames the free positions
abbrev pub renaming : (ℕ → ℕ) → Action
renaming to = moving (λ depth v. renamed_variable to v)

-- the index that counts the binders above becomes the shape, as a type variable
abbrev pub put_shape : Shape → ℕ → Var → Shape
put_shape by depth (Bound index) = if nat_eq index depth then by else TypeVariable (Bound index)
put_shape by depth (Free position) = TypeVariable (Free position)

-- puts the shape for the outermost index, at type variables alone
abbrev pub putting_shape : Shape → Action
putting_shape by = record { element = λ depth e. single e; shape = put_shape by; variable = λ depth v. v }

-- a free position as a type variable becomes a shape
abbrev pub free_shape : (ℕ → Shape) → Var → Shape
free_shape shapes (Bound index) = TypeVariable (Bound index)
free_shape shapes (Free position) = shapes position

-- The action on free positions alone: a variable of terms becomes another, and a type variable becomes a shape.
abbrev pub freely : (ℕ → ℕ) → (ℕ → Shape) → Action
freely to shapes = record {
  element = λ depth e. single (moved_element (renamed_variable to) e);
  shape = λ depth v. free_shape shapes v;
  variable = λ depth v. renamed_variable to v;
}

-- a function with another outcome at one number
abbrev pub overridden : {A : Type 0} → (ℕ → A) → ℕ → A → ℕ → A
overridden outcome at other number = if nat_eq number at then other else outcome number

-- the set that an element becomes where each hole has a filling
abbrev pub filled_element : (ℕ → Set) → Elem → Set
filled_element filling (Variable v) = single (Variable v)
filled_element filling Cap = single Cap
filled_element filling (Hole number) = filling number

-- fills each hole
abbrev pub filling_in : (ℕ → Set) → Action
filling_in filling = record {
  element = λ depth e. filled_element filling e;
  shape = λ depth v. TypeVariable v;
  variable = λ depth v. v;
}

-- what stood under one binder, with the free position in the place of that binder
abbrev pub opened_set : ℕ → Set → Set
opened_set position = act_set (opening position) zero

-- the same of shapes
abbrev pub opened : ℕ → Shape → Shape
opened position = act (opening position) zero

-- the same of types
abbrev pub opened_type : ℕ → CapturingType → CapturingType
opened_type position = act_type (opening position) zero

-- the same of terms
abbrev pub opened_term : ℕ → Term → Term
opened_term position = act_term (opening position) zero

-- what stands under one binder where the free position was
abbrev pub closed_set : ℕ → Set → Set
closed_set position = act_set (closing position) zero

-- the same of shapes
abbrev pub closed : ℕ → Shape → Shape
closed position = act (closing position) zero

-- the same of types
abbrev pub closed_type : ℕ → CapturingType → CapturingType
closed_type position = act_type (closing position) zero

-- the same of terms
abbrev pub closed_term : ℕ → Term → Term
closed_term position = act_term (closing position) zero

-- a shape that stood under one binder, with the variable in the place of that binder
abbrev pub replaced : Var → Shape → Shape
replaced by = act (putting by) zero

-- the same of types
abbrev pub replaced_type : Var → CapturingType → CapturingType
replaced_type by = act_type (putting by) zero

-- the same of terms
abbrev pub replaced_term : Var → Term → Term
replaced_term by = act_term (putting by) zero

-- what stood under the binder of a type variable, with the shape in its place
abbrev pub replaced_by_shape : Shape → Shape → Shape
replaced_by_shape by = act (putting_shape by) zero

-- the same of types
abbrev pub replaced_type_by_shape : Shape → CapturingType → CapturingType
replaced_type_by_shape by = act_type (putting_shape by) zero

-- the same of terms
abbrev pub replaced_term_by_shape : Shape → Term → Term
replaced_term_by_shape by = act_term (putting_shape by) zero

-- with each free position renamed
abbrev pub renamed_set : (ℕ → ℕ) → Set → Set
renamed_set to = act_set (renaming to) zero

-- the same of shapes
abbrev pub renamed : (ℕ → ℕ) → Shape → Shape
renamed to = act (renaming to) zero

-- the same of types
abbrev pub renamed_type : (ℕ → ℕ) → CapturingType → CapturingType
renamed_type to = act_type (renaming to) zero

-- the same of terms
abbrev pub renamed_term : (ℕ → ℕ) → Term → Term
renamed_term to = act_term (renaming to) zero

-- with each hole filled
abbrev pub filled_set : (ℕ → Set) → Set → Set
filled_set filling = act_set (filling_in filling) zero

-- the same of shapes
abbrev pub filled : (ℕ → Set) → Shape → Shape
filled filling = act (filling_in filling) zero

-- the same of types
abbrev pub filled_type : (ℕ → Set) → CapturingType → CapturingType
filled_type filling = act_type (filling_in filling) zero

-- the same of terms
abbrev pub filled_term : (ℕ → Set) → Term → Term
filled_term filling = act_term (filling_in filling) zero
