-- Parts that do not match stay the first ones with more steps, where the comparison is at its end.
use Rattle.std.proofs.Common.{◌≡◌, ◌⊎◌, inl, inr, ℕ, zero, suc, ◌+◌, ◌≤◌, Bool, true, false, cond, List, [], ◌∷◌, length, Option, Some, None, IsTrue, refl, sym, ap, ◌∙◌, arith}
use Rattle.std.specs.Option.{is_some}
use Rattle.cc_capture.specs.Sets.{Set}
use Rattle.cc_core.specs.Shapes.{Shape, BaseShape, AnyShape, TypeVariable, FunctionShape, TypeFunctionShape, BoxShape, ExitShape, CapturingType, capturing}
use Rattle.cc_core.specs.Contexts.{TermEntry, TypeEntry, Context}
use Rattle.cc_core.specs.Equality.{same_shape}
use Rattle.cc_core.specs.Substitution.{opened_type}
use Rattle.cc_checking.specs.Comparison.{Demand, demanded, Comparison, Unfinished, Mismatch, Matches, and_then, bound_of, bound_compared, function_compared, type_function_compared, box_compared, is_any, by_form, comparison}
use Rattle.cc_reasons.specs.Mismatches.{Pair, pair, first_of, in_bound, in_functions, in_type_functions, in_boxes, by_parts, mismatch}
use Rattle.cc_reasons.proofs.FoundMismatches.{mismatches_are_found}

-- the one is the other, unless the comparison is not at its end
abbrev pub Settled : Comparison → Option Pair → Option Pair → Type 0
Settled compared one other = (compared ≡ Unfinished) ⊎ (one ≡ other)

-- behind a demand
settled_behind : (demands : List Demand) (compared : Comparison) (one other : Option Pair) → Settled compared one other
    → Settled (and_then (Matches demands) compared) one other
settled_behind demands compared one other (inl e) = inl (ap (and_then (Matches demands)) e)
settled_behind demands compared one other (inr e) = inr e

same_first : (one other other' : Option Pair) → IsTrue (is_some one) → first_of one other ≡ first_of one other'
same_first (Some found) other other' is = refl
same_first None other other' is = cc

-- of two comparisons, the second counts where the first does not come to a mismatch
settled_both : (demands more : List Demand) (first second : Comparison) (one one' other other' : Option Pair) → (first ≡ Mismatch → IsTrue (is_some one))
    → Settled first one one' → Settled second other other'
    → Settled (and_then (and_then (Matches demands) first) (and_then (Matches more) second)) (first_of one other) (first_of one' other')
settled_both demands more Unfinished second one one' other other' found s t = inl refl
settled_both demands more Mismatch second one one' other other' found (inl e) t = cc
settled_both demands more Mismatch second one one' other other' found (inr e) t =
    inr (same_first one other other' (found refl) ∙ ap (λ o. first_of o other') e)
settled_both demands more (Matches list) Unfinished one one' other other' found s t = inl refl
settled_both demands more (Matches list) Mismatch one one' other other' found (inl e) t = cc
settled_both demands more (Matches list) Mismatch one one' other other' found (inr e) (inl e') = cc
settled_both demands more (Matches list) Mismatch one one' other other' found (inr e) (inr e') = inr (λ i. first_of (e i) (e' i))
settled_both demands more (Matches list) (Matches others) one one' other other' found (inl e) t = cc
settled_both demands more (Matches list) (Matches others) one one' other other' found (inr e) (inl e') = cc
settled_both demands more (Matches list) (Matches others) one one' other other' found (inr e) (inr e') = inr (λ i. first_of (e i) (e' i))

settled_step : (same any : Bool) (compared : Comparison) (one other : Option Pair) → Settled compared one other
    → Settled (cond same (Matches []) (cond any (Matches []) compared)) (cond same None (cond any None one)) (cond same None (cond any None other))
settled_step true any compared one other s = inr refl
settled_step false true compared one other s = inr refl
settled_step false false compared one other s = s

module _ (n m : ℕ)
    (settled : (context : Context) (left right : Shape) → Settled (comparison n context left right) (mismatch n context left right) (mismatch m context left right)) where
  settled_bound : (context : Context) (left : Shape) (o : Option Shape) (right : Shape)
      → Settled (bound_compared (comparison n) context o right) (in_bound (mismatch n) context left o right) (in_bound (mismatch m) context left o right)
  settled_bound context left (Some bound) right = settled context bound right
  settled_bound context left None right = inr refl

  settled_functions : (context : Context) (left takes : Shape) (c : Set) (gives : CapturingType) (right : Shape)
      → Settled (function_compared (comparison n) context (capturing takes c) gives right) (in_functions (mismatch n) context left takes gives right)
      (in_functions (mismatch m) context left takes gives right)
  settled_functions context left takes c gives (BaseShape base) = inr refl
  settled_functions context left takes c gives AnyShape = inr refl
  settled_functions context left takes c gives (TypeVariable v) = inr refl
  settled_functions context left takes c gives (FunctionShape takes' c' gives' e') =
      settled_both (demanded context c' c ∷ [])
      (demanded (TermEntry takes' c' ∷ context) (opened_type (length context) gives).set (opened_type (length context) (capturing gives' e')).set ∷ [])
      (comparison n context takes' takes)
      (comparison n (TermEntry takes' c' ∷ context) (opened_type (length context) gives).shape (opened_type (length context) (capturing gives' e')).shape)
      (mismatch n context takes' takes) (mismatch m context takes' takes)
      (mismatch n (TermEntry takes' c' ∷ context) (opened_type (length context) gives).shape (opened_type (length context) (capturing gives' e')).shape)
      (mismatch m (TermEntry takes' c' ∷ context) (opened_type (length context) gives).shape (opened_type (length context) (capturing gives' e')).shape)
      (mismatches_are_found n context takes' takes)
      (settled context takes' takes)
      (settled (TermEntry takes' c' ∷ context) (opened_type (length context) gives).shape (opened_type (length context) (capturing gives' e')).shape)
  settled_functions context left takes c gives (TypeFunctionShape bound' gives' e') = inr refl
  settled_functions context left takes c gives (BoxShape content' c') = inr refl
  settled_functions context left takes c gives (ExitShape gives') = inr refl

  settled_type_functions : (context : Context) (left bound : Shape) (gives : CapturingType) (right : Shape)
      → Settled (type_function_compared (comparison n) context bound gives right) (in_type_functions (mismatch n) context left bound gives right)
      (in_type_functions (mismatch m) context left bound gives right)
  settled_type_functions context left bound gives (BaseShape base) = inr refl
  settled_type_functions context left bound gives AnyShape = inr refl
  settled_type_functions context left bound gives (TypeVariable v) = inr refl
  settled_type_functions context left bound gives (FunctionShape takes' c' gives' e') = inr refl
  settled_type_functions context left bound gives (TypeFunctionShape bound' gives' e') = by (same_shape bound bound')
    where
      by : (b : Bool)
          → Settled
          (cond b (and_then (Matches (demanded (TypeEntry bound ∷ context) (opened_type (length context) gives).set (opened_type (length context) (capturing gives' e')).set ∷ []))
          (comparison n (TypeEntry bound ∷ context) (opened_type (length context) gives).shape (opened_type (length context) (capturing gives' e')).shape)) Mismatch)
          (cond b (mismatch n (TypeEntry bound ∷ context) (opened_type (length context) gives).shape (opened_type (length context) (capturing gives' e')).shape)
          (Some (pair context left (TypeFunctionShape bound' gives' e'))))
          (cond b (mismatch m (TypeEntry bound ∷ context) (opened_type (length context) gives).shape (opened_type (length context) (capturing gives' e')).shape)
          (Some (pair context left (TypeFunctionShape bound' gives' e'))))
      by true =
          settled_behind (demanded (TypeEntry bound ∷ context) (opened_type (length context) gives).set (opened_type (length context) (capturing gives' e')).set ∷ [])
          (comparison n (TypeEntry bound ∷ context) (opened_type (length context) gives).shape (opened_type (length context) (capturing gives' e')).shape)
          (mismatch n (TypeEntry bound ∷ context) (opened_type (length context) gives).shape (opened_type (length context) (capturing gives' e')).shape)
          (mismatch m (TypeEntry bound ∷ context) (opened_type (length context) gives).shape (opened_type (length context) (capturing gives' e')).shape)
          (settled (TypeEntry bound ∷ context) (opened_type (length context) gives).shape (opened_type (length context) (capturing gives' e')).shape)
      by false = inr refl
  settled_type_functions context left bound gives (BoxShape content' c') = inr refl
  settled_type_functions context left bound gives (ExitShape gives') = inr refl

  settled_boxes : (context : Context) (left content : Shape) (c : Set) (right : Shape)
      → Settled (box_compared (comparison n) context (capturing content c) right) (in_boxes (mismatch n) context left content right)
      (in_boxes (mismatch m) context left content right)
  settled_boxes context left content c (BaseShape base) = inr refl
  settled_boxes context left content c AnyShape = inr refl
  settled_boxes context left content c (TypeVariable v) = inr refl
  settled_boxes context left content c (FunctionShape takes' c' gives' e') = inr refl
  settled_boxes context left content c (TypeFunctionShape bound' gives' e') = inr refl
  settled_boxes context left content c (BoxShape content' c') =
      settled_behind (demanded context c c' ∷ []) (comparison n context content content') (mismatch n context content content') (mismatch m context content content')
      (settled context content content')
  settled_boxes context left content c (ExitShape gives') = inr refl

  settled_parts : (context : Context) (left right : Shape)
      → Settled (by_form (comparison n) context left right) (by_parts (mismatch n) context left right) (by_parts (mismatch m) context left right)
  unfolding by_form
  settled_parts context (BaseShape base) right = inr refl
  settled_parts context AnyShape right = inr refl
  settled_parts context (TypeVariable v) right = settled_bound context (TypeVariable v) (bound_of context v) right
  settled_parts context (FunctionShape takes c gives e') right = settled_functions context (FunctionShape takes c gives e') takes c (capturing gives e') right
  settled_parts context (TypeFunctionShape bound gives e') right = settled_type_functions context (TypeFunctionShape bound gives e') bound (capturing gives e') right
  settled_parts context (BoxShape content c) right = settled_boxes context (BoxShape content c) content c right
  settled_parts context (ExitShape gives) right = inr refl

mismatch_settled : (n m : ℕ) → n ≤ m → (context : Context) (left right : Shape)
    → Settled (comparison n context left right) (mismatch n context left right) (mismatch m context left right)
unfolding comparison mismatch
mismatch_settled zero m below context left right = inl refl
mismatch_settled (suc n) zero below context left right = absurd (omega arith)
mismatch_settled (suc n) (suc m) below context left right =
    settled_step (same_shape left right) (is_any right) (by_form (comparison n) context left right) (by_parts (mismatch n) context left right)
    (by_parts (mismatch m) context left right)
    (settled_parts n m (mismatch_settled n m (omega arith)) context left right)

-- whatever the steps, the first two parts are the same
pub one_mismatch : (n m : ℕ) (context : Context) (left right : Shape) → comparison n context left right ≡ Mismatch → comparison m context left right ≡ Mismatch
    → mismatch n context left right ≡ mismatch m context left right
one_mismatch n m context left right one other =
    at_end n one (mismatch_settled n (n + m) (omega arith) context left right) ∙ sym (at_end m other (mismatch_settled m (n + m) (omega arith) context left right))
  where
    at_end : (k : ℕ) → comparison k context left right ≡ Mismatch
        → Settled (comparison k context left right) (mismatch k context left right) (mismatch (n + m) context left right)
        → mismatch k context left right ≡ mismatch (n + m) context left right
    at_end k is (inl e) = let clash : Mismatch ≡ Unfinished = sym is ∙ e in cc
    at_end k is (inr e) = e
