-- Where shapes match, no parts are found that do not.
use Rattle.std.proofs.Common.{◌≡◌, ℕ, zero, suc, Bool, true, false, cond, List, [], ◌∷◌, length, Option, Some, None, refl}
use Rattle.cc_capture.specs.Sets.{Set}
use Rattle.cc_core.specs.Shapes.{Shape, BaseShape, AnyShape, TypeVariable, FunctionShape, TypeFunctionShape, BoxShape, ExitShape, CapturingType, capturing}
use Rattle.cc_core.specs.Contexts.{TermEntry, TypeEntry, Context}
use Rattle.cc_core.specs.Equality.{same_shape}
use Rattle.cc_core.specs.Substitution.{opened_type}
use Rattle.cc_checking.specs.Comparison.{Demand, demanded, Comparison, Unfinished, Mismatch, Matches, and_then, bound_of, bound_compared, function_compared, type_function_compared, box_compared, is_any, by_form, comparison}
use Rattle.cc_reasons.specs.Mismatches.{Pair, pair, first_of, in_bound, in_functions, in_type_functions, in_boxes, by_parts, mismatch}
use Rattle.cc_mismatch.specs.MismatchLaws.{MatchesHaveNoParts}

-- what matches behind a demand matches
pub match_behind : (first : List Demand) (one : Comparison) (ds : List Demand) → and_then (Matches first) one ≡ Matches ds
    → (more : List Demand) × (one ≡ Matches more)
match_behind first Unfinished ds e = cc
match_behind first Mismatch ds e = cc
match_behind first (Matches more) ds e = (more, refl)

-- and of two that match one behind the other, both do
pub both_match : (first second : List Demand) (one other : Comparison) (ds : List Demand)
    → and_then (and_then (Matches first) one) (and_then (Matches second) other) ≡ Matches ds
    → ((a : List Demand) × (one ≡ Matches a)) × ((b : List Demand) × (other ≡ Matches b))
both_match first second Unfinished other ds e = cc
both_match first second Mismatch other ds e = cc
both_match first second (Matches a) Unfinished ds e = cc
both_match first second (Matches a) Mismatch ds e = cc
both_match first second (Matches a) (Matches b) ds e = ((a, refl), (b, refl))

-- the first of none and none
pub none_first : (one other : Option Pair) → one ≡ None → other ≡ None → first_of one other ≡ None
none_first None other e f = f
none_first (Some p) other e f = cc

module _ (n : ℕ) (matched : (g : Context) (l r : Shape) (ds : List Demand) → comparison n g l r ≡ Matches ds → mismatch n g l r ≡ None) where
  bound_matched : (g : Context) (l : Shape) (o : Option Shape) (r : Shape) (ds : List Demand)
      → bound_compared (comparison n) g o r ≡ Matches ds → in_bound (mismatch n) g l o r ≡ None
  bound_matched g l (Some bound) r ds e = matched g bound r ds e
  bound_matched g l None r ds e = cc

  functions_matched : (g : Context) (l takes : Shape) (c : Set) (gives : CapturingType) (r : Shape) (ds : List Demand)
      → function_compared (comparison n) g (capturing takes c) gives r ≡ Matches ds
      → in_functions (mismatch n) g l takes gives r ≡ None
  functions_matched g l takes c gives (FunctionShape takes' c' gives' e') ds e =
      let under = TermEntry takes' c' ∷ g in
      let one = opened_type (length g) gives in
      let other = opened_type (length g) (capturing gives' e') in
      let both = both_match (demanded g c' c ∷ []) (demanded under one.set other.set ∷ []) (comparison n g takes' takes)
      (comparison n under one.shape other.shape) ds e in
      none_first (mismatch n g takes' takes) (mismatch n under one.shape other.shape)
      (matched g takes' takes both.0.0 both.0.1) (matched under one.shape other.shape both.1.0 both.1.1)
  functions_matched g l takes c gives (BaseShape base) ds e = cc
  functions_matched g l takes c gives AnyShape ds e = cc
  functions_matched g l takes c gives (TypeVariable v) ds e = cc
  functions_matched g l takes c gives (TypeFunctionShape bound' gives' e') ds e = cc
  functions_matched g l takes c gives (BoxShape content' c') ds e = cc
  functions_matched g l takes c gives (ExitShape gives') ds e = cc

  type_functions_matched : (g : Context) (l bound : Shape) (gives : CapturingType) (r : Shape) (ds : List Demand)
      → type_function_compared (comparison n) g bound gives r ≡ Matches ds
      → in_type_functions (mismatch n) g l bound gives r ≡ None
  type_functions_matched g l bound gives (TypeFunctionShape bound' gives' e') ds e = by (same_shape bound bound') e
    where
      under : Context
      under = TypeEntry bound ∷ g

      one : CapturingType
      one = opened_type (length g) gives

      other : CapturingType
      other = opened_type (length g) (capturing gives' e')

      by : (b : Bool) → cond b (and_then (Matches (demanded under one.set other.set ∷ [])) (comparison n under one.shape other.shape)) Mismatch ≡ Matches ds
          → cond b (mismatch n under one.shape other.shape) (Some (pair g l (TypeFunctionShape bound' gives' e'))) ≡ None
      by true is =
          let behind = match_behind (demanded under one.set other.set ∷ []) (comparison n under one.shape other.shape) ds is in
          matched under one.shape other.shape behind.0 behind.1
      by false is = cc
  type_functions_matched g l bound gives (BaseShape base) ds e = cc
  type_functions_matched g l bound gives AnyShape ds e = cc
  type_functions_matched g l bound gives (TypeVariable v) ds e = cc
  type_functions_matched g l bound gives (FunctionShape takes' c' gives' e') ds e = cc
  type_functions_matched g l bound gives (BoxShape content' c') ds e = cc
  type_functions_matched g l bound gives (ExitShape gives') ds e = cc

  boxes_matched : (g : Context) (l content : Shape) (c : Set) (r : Shape) (ds : List Demand)
      → box_compared (comparison n) g (capturing content c) r ≡ Matches ds → in_boxes (mismatch n) g l content r ≡ None
  boxes_matched g l content c (BoxShape content' c') ds e =
      let behind = match_behind (demanded g c c' ∷ []) (comparison n g content content') ds e in
      matched g content content' behind.0 behind.1
  boxes_matched g l content c (BaseShape base) ds e = cc
  boxes_matched g l content c AnyShape ds e = cc
  boxes_matched g l content c (TypeVariable v) ds e = cc
  boxes_matched g l content c (FunctionShape takes' c' gives' e') ds e = cc
  boxes_matched g l content c (TypeFunctionShape bound' gives' e') ds e = cc
  boxes_matched g l content c (ExitShape gives') ds e = cc

  parts_matched : (g : Context) (l r : Shape) (ds : List Demand) → by_form (comparison n) g l r ≡ Matches ds
      → by_parts (mismatch n) g l r ≡ None
  unfolding by_form
  parts_matched g (BaseShape base) r ds e = cc
  parts_matched g AnyShape r ds e = cc
  parts_matched g (TypeVariable v) r ds e = bound_matched g (TypeVariable v) (bound_of g v) r ds e
  parts_matched g (FunctionShape takes c gives d) r ds e = functions_matched g (FunctionShape takes c gives d) takes c (capturing gives d) r ds e
  parts_matched g (TypeFunctionShape bound gives d) r ds e = type_functions_matched g (TypeFunctionShape bound gives d) bound (capturing gives d) r ds e
  parts_matched g (BoxShape content c) r ds e = boxes_matched g (BoxShape content c) content c r ds e
  parts_matched g (ExitShape gives) r ds e = cc

  step_matched : (g : Context) (l r : Shape) (same any : Bool) (ds : List Demand)
      → cond same (Matches []) (cond any (Matches []) (by_form (comparison n) g l r)) ≡ Matches ds
      → cond same None (cond any None (by_parts (mismatch n) g l r)) ≡ None
  step_matched g l r true any ds e = refl
  step_matched g l r false true ds e = refl
  step_matched g l r false false ds e = parts_matched g l r ds e

pub matches_have_no_parts : MatchesHaveNoParts
unfolding comparison mismatch
matches_have_no_parts zero g l r ds e = refl
matches_have_no_parts (suc n) g l r ds e = step_matched n (matches_have_no_parts n) g l r (same_shape l r) (is_any r) ds e
