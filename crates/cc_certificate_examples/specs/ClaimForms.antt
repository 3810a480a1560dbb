-- Which claims are one, and what the rules of sets and shapes ask of what their premises claim, by example.
use Rattle.std.specs.Prelude.{◌≡◌, Bool, true, false, [], ◌∷◌, Some, None}
use Rattle.cc_base.specs.declared.literal.Base.TheVariants as bases
use Rattle.cc_capture.specs.declared.var.Elem.TheVariants.{Var as Variable, Cap}
use Rattle.cc_capture.specs.declared.var.Var.TheVariants.{Bound, Free}
use Rattle.cc_capture.specs.Sets.{Set, empty, insert}
use Rattle.cc_core.specs.Contexts.{TermEntry, TypeEntry, Context}
use Rattle.cc_core.specs.Derivations.{Claim, SetBelow, ShapeBelow, TypeBelow, OfType}
use Rattle.cc_core.specs.Shapes.{Shape, BaseShape, AnyShape, TypeVariable, BoxShape, CapturingType, capturing}
use Rattle.cc_core.specs.Substitution.{single}
use Rattle.cc_derivation.specs.Rows.{same_claim, same_claims, is_element, is_declared, entry_at, is_chain, is_bound}
use Rattle.cc_derivation.specs.Rows.{is_bounded, is_greatest}

-- two sets, two shapes and two types that differ
abbrev pub one : Set
one = single (Variable (Free 0))

abbrev pub other : Set
other = single (Variable (Free 1))

abbrev pub number : Shape
number = BaseShape bases.Int

abbrev pub text : Shape
text = BaseShape bases.Str

abbrev pub numbers : CapturingType
numbers = capturing number one

abbrev pub texts : CapturingType
texts = capturing text one

-- whether the claims are one
abbrev pub Same : Claim → Claim → Bool → Type 0
Same claim wanted are = same_claim claim wanted ≡ are

-- Claims are one where both sides are, and they say the same of them.
pub record SameClaims : Type 0 where
  pub sets : Same (SetBelow one other) (SetBelow one other) true
  pub left_set : Same (SetBelow one other) (SetBelow other other) false
  pub right_set : Same (SetBelow one other) (SetBelow one one) false
  pub shapes : Same (ShapeBelow number text) (ShapeBelow number text) true
  pub left_shape : Same (ShapeBelow number text) (ShapeBelow text text) false
  pub right_shape : Same (ShapeBelow number text) (ShapeBelow number number) false
  pub types : Same (TypeBelow numbers texts) (TypeBelow numbers texts) true
  pub left_type : Same (TypeBelow numbers texts) (TypeBelow texts texts) false
  pub right_type : Same (TypeBelow numbers texts) (TypeBelow numbers numbers) false
  pub set_of_a_type : Same (TypeBelow numbers texts) (TypeBelow (capturing number other) texts) false
  pub of_a_type : Same (OfType numbers) (OfType numbers) true
  pub of_another_type : Same (OfType numbers) (OfType texts) false
  pub sets_and_shapes : Same (SetBelow one other) (ShapeBelow number text) false
  pub shapes_and_types : Same (ShapeBelow number text) (TypeBelow numbers texts) false
  pub types_and_a_type : Same (TypeBelow numbers numbers) (OfType numbers) false
  -- several claims are wanted in order, and no more of them
  pub no_claims : same_claims [] [] ≡ true
  pub two_claims : same_claims (OfType numbers ∷ OfType texts ∷ []) (OfType numbers ∷ OfType texts ∷ []) ≡ true
  pub in_another_order :
      same_claims (OfType numbers ∷ OfType texts ∷ []) (OfType texts ∷ OfType numbers ∷ []) ≡ false
  pub second_of_two :
      same_claims (OfType numbers ∷ OfType texts ∷ []) (OfType numbers ∷ OfType numbers ∷ []) ≡ false
  pub fewer : same_claims (OfType numbers ∷ []) (OfType numbers ∷ OfType numbers ∷ []) ≡ false
  pub more : same_claims (OfType numbers ∷ OfType numbers ∷ []) (OfType numbers ∷ []) ≡ false

-- a variable of terms, and behind it one of types
abbrev pub context : Context
context = TypeEntry number ∷ TermEntry number other ∷ []

-- The set of one element is below each set that has it, and the set of a variable is below what its declared set is below.
pub record SetRules : Type 0 where
  pub element : is_element (Variable (Free 0) ∷ []) (insert Cap one) ≡ true
  pub another_element : is_element (Variable (Free 1) ∷ []) (insert Cap one) ≡ false
  pub no_element : is_element [] one ≡ false
  pub two_elements : is_element (Variable (Free 0) ∷ Variable (Free 0) ∷ []) one ≡ false
  pub declared : is_declared (Some (TermEntry number one)) other (SetBelow one other ∷ []) ≡ true
  pub of_another_declared_set : is_declared (Some (TermEntry number one)) other (SetBelow other other ∷ []) ≡ false
  pub below_another_set : is_declared (Some (TermEntry number one)) other (SetBelow one one ∷ []) ≡ false
  pub without_a_premise : is_declared (Some (TermEntry number one)) other [] ≡ false
  pub with_two_premises :
      is_declared (Some (TermEntry number one)) other (SetBelow one other ∷ SetBelow one other ∷ []) ≡ false
  pub of_a_type_variable : is_declared (Some (TypeEntry number)) other (SetBelow one other ∷ []) ≡ false
  pub of_no_entry : is_declared None other (SetBelow one other ∷ []) ≡ false
  pub entry : entry_at context (Free 0) ≡ Some (TermEntry number other)
  pub second_entry : entry_at context (Free 1) ≡ Some (TypeEntry number)
  pub entry_of_no_position : entry_at context (Free 2) ≡ None
  pub entry_of_an_index : entry_at context (Bound 0) ≡ None

-- A shape is below another by way of a third, a type variable is below its bound, and `Any` alone is above all.
pub record ShapeRules : Type 0 where
  pub chain : is_chain number text (ShapeBelow number AnyShape ∷ ShapeBelow AnyShape text ∷ []) ≡ true
  pub chain_from_another : is_chain number text (ShapeBelow text AnyShape ∷ ShapeBelow AnyShape text ∷ []) ≡ false
  pub chain_to_another : is_chain number text (ShapeBelow number AnyShape ∷ ShapeBelow AnyShape number ∷ []) ≡ false
  pub chain_that_is_broken : is_chain number text (ShapeBelow number AnyShape ∷ ShapeBelow text text ∷ []) ≡ false
  pub chain_of_none : is_chain number number [] ≡ false
  pub chain_of_one : is_chain number text (ShapeBelow number text ∷ []) ≡ false
  pub chain_of_three :
      is_chain number text
      (ShapeBelow number AnyShape ∷ ShapeBelow AnyShape text ∷ ShapeBelow text text ∷ []) ≡ false
  pub chain_of_types :
      is_chain number text
      (TypeBelow (capturing number empty) (capturing AnyShape empty)
      ∷ TypeBelow (capturing AnyShape empty) (capturing text empty) ∷ []) ≡ false
  pub bound : is_bound (Some (TypeEntry number)) number ≡ true
  pub another_bound : is_bound (Some (TypeEntry number)) text ≡ false
  pub bound_of_a_term : is_bound (Some (TermEntry number empty)) number ≡ false
  pub bound_of_no_entry : is_bound None number ≡ false
  pub bounded : is_bounded context (TypeVariable (Free 1)) number ≡ true
  pub bounded_by_another : is_bounded context (TypeVariable (Free 1)) text ≡ false
  pub bounded_term : is_bounded context (TypeVariable (Free 0)) number ≡ false
  pub bounded_index : is_bounded context (TypeVariable (Bound 1)) number ≡ false
  pub bounded_base : is_bounded context number number ≡ false
  pub greatest : is_greatest AnyShape ≡ true
  pub not_greatest : is_greatest number ≡ false
  pub box_of_the_greatest : is_greatest (BoxShape AnyShape empty) ≡ false
