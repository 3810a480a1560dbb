-- Worked names in claims: where local variables have their positions, which names and numbers may stand, and which
-- claims have binders.
use Rattle.std.specs.Prelude.{◌≡◌, ◌<◌, ℕ, true, false, [], ◌∷◌}
use Rattle.cc_base.specs.declared.literal.Base.TheVariants as bases
use Rattle.cc_capture.specs.declared.var.Elem.TheVariants.{Var as Variable, Cap, Hole}
use Rattle.cc_capture.specs.declared.var.Var.TheVariants.{Bound, Free}
use Rattle.cc_capture.specs.Sets.{Set, empty, from_list}
use Rattle.cc_core.specs.Shapes.{Shape, BaseShape, AnyShape, TypeVariable, FunctionShape, TypeFunctionShape, BoxShape}
use Rattle.cc_core.specs.Shapes.{ExitShape, capturing}
use Rattle.cc_core.specs.Substitution.{single}
use Rattle.cc_core.specs.Derivations.{SetBelow, ShapeBelow, TypeBelow, OfType}
use Rattle.cc_certificate_text.specs.LocalNames.{placed_shape, placed_claim, IsLocalNumber, IsNamedSet, IsNamedShape}
use Rattle.cc_certificate_text.specs.LocalNames.{IsNamedClaim, has_binder, claim_has_binder}

abbrev pub number : Shape
number = BaseShape bases.Int

-- Int -> Int, and [_ <: Int] -> Int
abbrev pub function : Shape
function = FunctionShape number empty number empty

abbrev pub type_function : Shape
type_function = TypeFunctionShape number number empty

-- the local variable of a number
abbrev pub local : ℕ → Set
local d = single (Variable (Bound d))

-- the variable of a position
abbrev pub position : ℕ → Set
position p = single (Variable (Free p))

-- Behind two names the first local variable has the position 2, wherever it stands in a shape; names keep theirs.
pub record PlacedShapes : Type 0 where
  pub base : placed_shape 2 number ≡ number
  pub greatest : placed_shape 2 AnyShape ≡ AnyShape
  pub local_variable : placed_shape 2 (TypeVariable (Bound 3)) ≡ TypeVariable (Free 5)
  pub position_of_a_variable : placed_shape 2 (TypeVariable (Free 1)) ≡ TypeVariable (Free 1)
  pub function_over_local_variables :
      placed_shape 2 (FunctionShape (TypeVariable (Bound 0)) (local 1) (TypeVariable (Bound 2)) (local 3))
      ≡ FunctionShape (TypeVariable (Free 2)) (position 3) (TypeVariable (Free 4)) (position 5)
  pub type_function_over_local_variables :
      placed_shape 2 (TypeFunctionShape (TypeVariable (Bound 0)) (TypeVariable (Bound 1)) (local 2))
      ≡ TypeFunctionShape (TypeVariable (Free 2)) (TypeVariable (Free 3)) (position 4)
  pub box : placed_shape 2 (BoxShape (TypeVariable (Bound 0)) (local 1)) ≡ BoxShape (TypeVariable (Free 2)) (position 3)
  pub exit : placed_shape 2 (ExitShape (TypeVariable (Bound 0))) ≡ ExitShape (TypeVariable (Free 2))
  pub universal_capability : placed_shape 2 (BoxShape number (single Cap)) ≡ BoxShape number (single Cap)
  pub name_in_a_set : placed_shape 2 (BoxShape number (position 1)) ≡ BoxShape number (position 1)
  pub hole_in_a_set : placed_shape 2 (BoxShape number (single (Hole 1))) ≡ BoxShape number (single (Hole 1))

-- So it is on both sides of each form of claim.
pub record PlacedClaims : Type 0 where
  pub sets : placed_claim 2 (SetBelow (local 0) (local 1)) ≡ SetBelow (position 2) (position 3)
  pub shapes :
      placed_claim 2 (ShapeBelow (TypeVariable (Bound 0)) (TypeVariable (Bound 1)))
      ≡ ShapeBelow (TypeVariable (Free 2)) (TypeVariable (Free 3))
  pub types :
      placed_claim 2
      (TypeBelow (capturing (TypeVariable (Bound 0)) (local 1)) (capturing (TypeVariable (Bound 2)) (local 3)))
      ≡ TypeBelow (capturing (TypeVariable (Free 2)) (position 3)) (capturing (TypeVariable (Free 4)) (position 5))
  pub type_of_a_term :
      placed_claim 2 (OfType (capturing (TypeVariable (Bound 0)) (local 1)))
      ≡ OfType (capturing (TypeVariable (Free 2)) (position 3))

-- In sets of claims stand those of two names, local variables whose numbers are below 2^32, and the universal
-- capability.
pub record NamesInSets : Type 0 where
  pub nothing : IsNamedSet (IsLocalNumber 0) 2 empty
  pub name : IsNamedSet (IsLocalNumber 0) 2 (position 1)
  pub no_name : IsNamedSet (IsLocalNumber 0) 2 (position 2) → ⊥
  pub greatest : IsNamedSet (IsLocalNumber 0) 2 (local 4294967295)
  pub greater : IsNamedSet (IsLocalNumber 0) 2 (local 4294967296) → ⊥
  pub universal_capability : IsNamedSet (IsLocalNumber 0) 2 (single Cap)
  pub hole : IsNamedSet (IsLocalNumber 0) 2 (single (Hole 0)) → ⊥
  pub second : IsNamedSet (IsLocalNumber 0) 2 (from_list (Variable (Free 0) ∷ Variable (Free 2) ∷ [])) → ⊥

-- the shape may stand in a claim behind two names, with this as the number of its outermost binders
abbrev pub MayStand : ℕ → Shape → Type 0
MayStand depth shape = IsNamedShape IsLocalNumber 2 depth shape

-- Each part of a shape is asked for its names.
pub record NamesInShapes : Type 0 where
  pub base : MayStand 0 number
  pub greatest_shape : MayStand 0 AnyShape
  pub local_variable : MayStand 0 (TypeVariable (Bound 4294967295))
  pub greater_variable : MayStand 0 (TypeVariable (Bound 4294967296)) → ⊥
  -- names are those of variables of terms
  pub name_of_a_term : MayStand 0 (TypeVariable (Free 1)) → ⊥
  pub parts_of_a_function :
      MayStand 0 (FunctionShape (TypeVariable (Bound 9)) (local 9) (TypeVariable (Bound 9)) (local 9))
  pub parameter : MayStand 0 (FunctionShape (TypeVariable (Bound 4294967296)) empty number empty) → ⊥
  pub set_of_a_parameter : MayStand 0 (FunctionShape number (position 2) number empty) → ⊥
  pub result : MayStand 0 (FunctionShape number empty (TypeVariable (Bound 4294967296)) empty) → ⊥
  pub set_of_a_result : MayStand 0 (FunctionShape number empty number (position 2)) → ⊥
  pub parts_of_a_type_function :
      MayStand 0 (TypeFunctionShape (TypeVariable (Bound 9)) (TypeVariable (Bound 9)) (local 9))
  pub bound : MayStand 0 (TypeFunctionShape (TypeVariable (Bound 4294967296)) number empty) → ⊥
  pub result_of_a_type_function : MayStand 0 (TypeFunctionShape number (TypeVariable (Bound 4294967296)) empty) → ⊥
  pub set_of_a_result_of_a_type_function : MayStand 0 (TypeFunctionShape number number (position 2)) → ⊥
  pub parts_of_a_box : MayStand 0 (BoxShape (TypeVariable (Bound 9)) (local 9))
  pub content : MayStand 0 (BoxShape (TypeVariable (Bound 4294967296)) empty) → ⊥
  pub set_of_a_content : MayStand 0 (BoxShape number (position 2)) → ⊥
  pub part_of_an_exit : MayStand 0 (ExitShape (TypeVariable (Bound 9)))
  pub exit : MayStand 0 (ExitShape (TypeVariable (Bound 4294967296))) → ⊥

-- The number of each binder is below 2^32; it is one more where the binder stands in what another one gives, and
-- nowhere else.
pub record NumbersOfBinders : Type 0 where
  pub greatest : MayStand 4294967295 function
  pub greater : MayStand 4294967296 function → ⊥
  pub greatest_of_a_type_function : MayStand 4294967295 type_function
  pub greater_of_a_type_function : MayStand 4294967296 type_function → ⊥
  pub in_a_parameter : MayStand 4294967295 (FunctionShape function empty number empty)
  pub in_a_result : MayStand 4294967294 (FunctionShape number empty function empty)
  pub greater_in_a_result : MayStand 4294967295 (FunctionShape number empty function empty) → ⊥
  pub in_a_bound : MayStand 4294967295 (TypeFunctionShape function number empty)
  pub in_a_result_of_a_type_function : MayStand 4294967294 (TypeFunctionShape number function empty)
  pub greater_in_a_result_of_a_type_function : MayStand 4294967295 (TypeFunctionShape number function empty) → ⊥
  pub in_a_box : MayStand 4294967295 (BoxShape function empty)
  pub greater_in_a_box : MayStand 4294967296 (BoxShape function empty) → ⊥
  pub in_an_exit : MayStand 4294967295 (ExitShape function)
  pub greater_in_an_exit : MayStand 4294967296 (ExitShape function) → ⊥
  -- without a binder there is no number
  pub of_none : MayStand 4294967296 number

-- the shape may stand behind two names where a local variable has fewer binders of the shape around it than this
abbrev pub MayStandUnder : Shape → Type 0
MayStandUnder shape = IsNamedShape (λ depth number. number < depth) 2 0 shape

-- What a function and a type function give stands under one binder more, in its shape and in its set.
pub record BindersAround : Type 0 where
  pub result : MayStandUnder (FunctionShape number empty (TypeVariable (Bound 0)) empty)
  pub set_of_a_result : MayStandUnder (FunctionShape number empty number (local 0))
  pub parameter : MayStandUnder (FunctionShape (TypeVariable (Bound 0)) empty number empty) → ⊥
  pub set_of_a_parameter : MayStandUnder (FunctionShape number (local 0) number empty) → ⊥
  pub second_in_a_result : MayStandUnder (FunctionShape number empty number (local 1)) → ⊥
  pub result_of_a_type_function : MayStandUnder (TypeFunctionShape number (TypeVariable (Bound 0)) empty)
  pub set_of_that_result : MayStandUnder (TypeFunctionShape number number (local 0))
  pub bound : MayStandUnder (TypeFunctionShape (TypeVariable (Bound 0)) number empty) → ⊥
  pub second_in_a_result_of_a_type_function : MayStandUnder (TypeFunctionShape number number (local 1)) → ⊥
  pub content : MayStandUnder (BoxShape number (local 0)) → ⊥
  pub exit : MayStandUnder (ExitShape (TypeVariable (Bound 0))) → ⊥
  pub second_under_two : MayStandUnder
      (FunctionShape number empty (FunctionShape number empty number (local 1)) empty)

-- Both sides of each form of claim are asked.
pub record NamesInClaims : Type 0 where
  pub sets : IsNamedClaim 2 0 (SetBelow (position 1) (local 7))
  pub left_set : IsNamedClaim 2 0 (SetBelow (position 2) (local 7)) → ⊥
  pub right_set : IsNamedClaim 2 0 (SetBelow (position 1) (position 2)) → ⊥
  pub shapes : IsNamedClaim 2 4294967295 (ShapeBelow function function)
  pub left_shape : IsNamedClaim 2 4294967296 (ShapeBelow function number) → ⊥
  pub right_shape : IsNamedClaim 2 4294967296 (ShapeBelow number function) → ⊥
  pub types : IsNamedClaim 2 4294967295 (TypeBelow (capturing function (local 7)) (capturing function (position 1)))
  pub shape_of_a_left_type :
      IsNamedClaim 2 4294967296 (TypeBelow (capturing function empty) (capturing number empty)) → ⊥
  pub set_of_a_left_type : IsNamedClaim 2 0 (TypeBelow (capturing number (position 2)) (capturing number empty)) → ⊥
  pub shape_of_a_right_type :
      IsNamedClaim 2 4294967296 (TypeBelow (capturing number empty) (capturing function empty)) → ⊥
  pub set_of_a_right_type : IsNamedClaim 2 0 (TypeBelow (capturing number empty) (capturing number (position 2))) → ⊥
  pub type_of_a_term : IsNamedClaim 2 4294967295 (OfType (capturing function (local 7)))
  pub shape_of_a_term : IsNamedClaim 2 4294967296 (OfType (capturing function empty)) → ⊥
  pub set_of_a_term : IsNamedClaim 2 0 (OfType (capturing number (position 2))) → ⊥

-- A function and a type function have a binder; a box and an exit have those of what is inside; on both sides of a
-- claim.
pub record BindersInClaims : Type 0 where
  pub base : has_binder number ≡ false
  pub greatest : has_binder AnyShape ≡ false
  pub variable : has_binder (TypeVariable (Bound 0)) ≡ false
  pub of_a_function : has_binder function ≡ true
  pub of_a_type_function : has_binder type_function ≡ true
  pub box : has_binder (BoxShape number empty) ≡ false
  pub box_of_a_function : has_binder (BoxShape function empty) ≡ true
  pub exit : has_binder (ExitShape number) ≡ false
  pub exit_of_a_function : has_binder (ExitShape function) ≡ true
  pub sets : claim_has_binder (SetBelow empty empty) ≡ false
  pub shapes : claim_has_binder (ShapeBelow number number) ≡ false
  pub left_shape : claim_has_binder (ShapeBelow function number) ≡ true
  pub right_shape : claim_has_binder (ShapeBelow number function) ≡ true
  pub types : claim_has_binder (TypeBelow (capturing number empty) (capturing number empty)) ≡ false
  pub left_type : claim_has_binder (TypeBelow (capturing function empty) (capturing number empty)) ≡ true
  pub right_type : claim_has_binder (TypeBelow (capturing number empty) (capturing function empty)) ≡ true
  pub type_of_a_term : claim_has_binder (OfType (capturing function empty)) ≡ true
  pub plain_type_of_a_term : claim_has_binder (OfType (capturing number empty)) ≡ false
