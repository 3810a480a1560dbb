-- Where a comparison comes to no match, parts are found that do not match.
use Rattle.std.proofs.Common.{◌≡◌, ◌⊎◌, inl, inr, ℕ, zero, suc, Bool, true, false, cond, List, [], ◌∷◌, length, Option, Some, None, IsTrue, refl, ap, subst, ◌∙◌}
use Rattle.std.specs.Option.{is_some}
use Rattle.cc_capture.specs.Sets.{Set}
use Rattle.cc_core.specs.Shapes.{Shape, BaseShape, AnyShape, TypeVariable, FunctionShape, TypeFunctionShape, BoxShape, ExitShape, CapturingType, capturing}
use Rattle.cc_core.specs.Contexts.{TermEntry, TypeEntry, Context}
use Rattle.cc_core.specs.Equality.{same_shape}
use Rattle.cc_core.specs.Substitution.{opened_type}
use Rattle.cc_checking.specs.Comparison.{Demand, demanded, Comparison, Unfinished, Mismatch, Matches, and_then, bound_of, bound_compared, function_compared, type_function_compared, box_compared, is_any, by_form, comparison}
use Rattle.cc_reasons.specs.Mismatches.{Pair, pair, first_of, in_bound, in_functions, in_type_functions, in_boxes, by_parts, mismatch, MismatchesAreFound, FoundPartsDoNotMatch}

behind_demand : (demands : List Demand) (one : Comparison) → and_then (Matches demands) one ≡ Mismatch → one ≡ Mismatch
behind_demand demands Unfinished e = cc
behind_demand demands Mismatch e = refl
behind_demand demands (Matches more) e = cc

either : (demands more : List Demand) (one other : Comparison) → and_then (and_then (Matches demands) one) (and_then (Matches more) other) ≡ Mismatch
    → (one ≡ Mismatch) ⊎ (other ≡ Mismatch)
either demands more Unfinished other e = cc
either demands more Mismatch other e = inl refl
either demands more (Matches some) Unfinished e = cc
either demands more (Matches some) Mismatch e = inr refl
either demands more (Matches some) (Matches others) e = cc

some_first : (one other : Option Pair) → IsTrue (is_some one) → IsTrue (is_some (first_of one other))
some_first (Some found) other is = refl
some_first None other is = cc

some_later : (one other : Option Pair) → IsTrue (is_some other) → IsTrue (is_some (first_of one other))
some_later (Some found) other is = refl
some_later None other is = is

module _ (n : ℕ) (found : (context : Context) (left right : Shape) → comparison n context left right ≡ Mismatch → IsTrue (is_some (mismatch n context left right))) where
  bound_found : (context : Context) (left : Shape) (o : Option Shape) (right : Shape) → bound_compared (comparison n) context o right ≡ Mismatch
      → IsTrue (is_some (in_bound (mismatch n) context left o right))
  bound_found context left (Some bound) right e = found context bound right e
  bound_found context left None right e = refl

  functions_found : (context : Context) (left takes : Shape) (c : Set) (gives : CapturingType) (right : Shape)
      → function_compared (comparison n) context (capturing takes c) gives right ≡ Mismatch
      → IsTrue (is_some (in_functions (mismatch n) context left takes gives right))
  functions_found context left takes c gives (BaseShape base) e = refl
  functions_found context left takes c gives AnyShape e = refl
  functions_found context left takes c gives (TypeVariable v) e = refl
  functions_found context left takes c gives (FunctionShape takes' c' gives' e') e =
      by (either (demanded context c' c ∷ [])
      (demanded (TermEntry takes' c' ∷ context) (opened_type (length context) gives).set (opened_type (length context) (capturing gives' e')).set ∷ [])
      (comparison n context takes' takes)
      (comparison n (TermEntry takes' c' ∷ context) (opened_type (length context) gives).shape (opened_type (length context) (capturing gives' e')).shape) e)
    where
      by : (comparison n context takes' takes ≡ Mismatch)
          ⊎ (comparison n (TermEntry takes' c' ∷ context) (opened_type (length context) gives).shape (opened_type (length context) (capturing gives' e')).shape ≡ Mismatch)
          → IsTrue (is_some (in_functions (mismatch n) context left takes gives (FunctionShape takes' c' gives' e')))
      by (inl is) =
          some_first (mismatch n context takes' takes)
          (mismatch n (TermEntry takes' c' ∷ context) (opened_type (length context) gives).shape (opened_type (length context) (capturing gives' e')).shape)
          (found context takes' takes is)
      by (inr is) =
          some_later (mismatch n context takes' takes)
          (mismatch n (TermEntry takes' c' ∷ context) (opened_type (length context) gives).shape (opened_type (length context) (capturing gives' e')).shape)
          (found (TermEntry takes' c' ∷ context) (opened_type (length context) gives).shape (opened_type (length context) (capturing gives' e')).shape is)
  functions_found context left takes c gives (TypeFunctionShape bound' gives' e') e = refl
  functions_found context left takes c gives (BoxShape content' c') e = refl
  functions_found context left takes c gives (ExitShape gives') e = refl

  type_functions_found : (context : Context) (left bound : Shape) (gives : CapturingType) (right : Shape)
      → type_function_compared (comparison n) context bound gives right ≡ Mismatch
      → IsTrue (is_some (in_type_functions (mismatch n) context left bound gives right))
  type_functions_found context left bound gives (BaseShape base) e = refl
  type_functions_found context left bound gives AnyShape e = refl
  type_functions_found context left bound gives (TypeVariable v) e = refl
  type_functions_found context left bound gives (FunctionShape takes' c' gives' e') e = refl
  type_functions_found context left bound gives (TypeFunctionShape bound' gives' e') e = by (same_shape bound bound') e
    where
      by : (b : Bool)
          → cond b (and_then (Matches (demanded (TypeEntry bound ∷ context) (opened_type (length context) gives).set (opened_type (length context) (capturing gives' e')).set ∷ []))
          (comparison n (TypeEntry bound ∷ context) (opened_type (length context) gives).shape (opened_type (length context) (capturing gives' e')).shape)) Mismatch ≡ Mismatch
          → IsTrue (is_some (cond b (mismatch n (TypeEntry bound ∷ context) (opened_type (length context) gives).shape (opened_type (length context) (capturing gives' e')).shape)
          (Some (pair context left (TypeFunctionShape bound' gives' e')))))
      by true is =
          found (TypeEntry bound ∷ context) (opened_type (length context) gives).shape (opened_type (length context) (capturing gives' e')).shape
          (behind_demand (demanded (TypeEntry bound ∷ context) (opened_type (length context) gives).set (opened_type (length context) (capturing gives' e')).set ∷ [])
          (comparison n (TypeEntry bound ∷ context) (opened_type (length context) gives).shape (opened_type (length context) (capturing gives' e')).shape) is)
      by false is = refl
  type_functions_found context left bound gives (BoxShape content' c') e = refl
  type_functions_found context left bound gives (ExitShape gives') e = refl

  boxes_found : (context : Context) (left content : Shape) (c : Set) (right : Shape) → box_compared (comparison n) context (capturing content c) right ≡ Mismatch
      → IsTrue (is_some (in_boxes (mismatch n) context left content right))
  boxes_found context left content c (BaseShape base) e = refl
  boxes_found context left content c AnyShape e = refl
  boxes_found context left content c (TypeVariable v) e = refl
  boxes_found context left content c (FunctionShape takes' c' gives' e') e = refl
  boxes_found context left content c (TypeFunctionShape bound' gives' e') e = refl
  boxes_found context left content c (BoxShape content' c') e = found context content content' (behind_demand (demanded context c c' ∷ []) (comparison n context content content') e)
  boxes_found context left content c (ExitShape gives') e = refl

  parts_found : (context : Context) (left right : Shape) → by_form (comparison n) context left right ≡ Mismatch
      → IsTrue (is_some (by_parts (mismatch n) context left right))
  unfolding by_form
  parts_found context (BaseShape base) right e = refl
  parts_found context AnyShape right e = refl
  parts_found context (TypeVariable v) right e = bound_found context (TypeVariable v) (bound_of context v) right e
  parts_found context (FunctionShape takes c gives e') right e = functions_found context (FunctionShape takes c gives e') takes c (capturing gives e') right e
  parts_found context (TypeFunctionShape bound gives e') right e = type_functions_found context (TypeFunctionShape bound gives e') bound (capturing gives e') right e
  parts_found context (BoxShape content c) right e = boxes_found context (BoxShape content c) content c right e
  parts_found context (ExitShape gives) right e = refl

  step_found : (context : Context) (left right : Shape) (same any : Bool)
      → cond same (Matches []) (cond any (Matches []) (by_form (comparison n) context left right)) ≡ Mismatch
      → IsTrue (is_some (cond same None (cond any None (by_parts (mismatch n) context left right))))
  step_found context left right true any e = cc
  step_found context left right false true e = cc
  step_found context left right false false e = parts_found context left right e

pub mismatches_are_found : MismatchesAreFound
unfolding comparison mismatch
mismatches_are_found zero context left right e = cc
mismatches_are_found (suc n) context left right e =
    step_found n (mismatches_are_found n) context left right (same_shape left right) (is_any right) e

-- parts that do not match as they stand
abbrev IsLeaf : Pair → Type 0
IsLeaf it = comparison 1 it.context it.found it.wanted ≡ Mismatch

pair_is : {one other : Pair} → Some one ≡ Some other → one ≡ other
pair_is e = cc

module _ (n : ℕ) (leaves : (context : Context) (left right : Shape) (it : Pair) → mismatch n context left right ≡ Some it → IsLeaf it) where
  -- where both shapes are the parts
  here : (context : Context) (left right : Shape) (it : Pair) → IsLeaf (pair context left right) → Some (pair context left right) ≡ Some it → IsLeaf it
  here context left right it leaf e = subst IsLeaf (pair_is e) leaf

  first_leaf : (one other : Option Pair) (it : Pair) → ((p : Pair) → one ≡ Some p → IsLeaf p) → ((p : Pair) → other ≡ Some p → IsLeaf p)
      → first_of one other ≡ Some it → IsLeaf it
  first_leaf (Some found) other it a b e = a it e
  first_leaf None other it a b e = b it e

  bound_leaf : (context : Context) (left : Shape) (o : Option Shape) (right : Shape) (it : Pair) → (o ≡ None → IsLeaf (pair context left right))
      → in_bound (mismatch n) context left o right ≡ Some it → IsLeaf it
  bound_leaf context left (Some bound) right it leaf e = leaves context bound right it e
  bound_leaf context left None right it leaf e = here context left right it (leaf refl) e

  functions_leaf : (context : Context) (takes : Shape) (c : Set) (gives : Shape) (e' : Set) (right : Shape) (it : Pair)
      → (cond (is_any right) (Matches []) (by_form (comparison 0) context (FunctionShape takes c gives e') right) ≡ Mismatch
      → IsLeaf (pair context (FunctionShape takes c gives e') right)) → is_any right ≡ false
      → in_functions (mismatch n) context (FunctionShape takes c gives e') takes (capturing gives e') right ≡ Some it → IsLeaf it
  unfolding by_form
  functions_leaf context takes c gives e' (BaseShape base) it leaf any e = here context _ _ it (leaf refl) e
  functions_leaf context takes c gives e' AnyShape it leaf any e = cc
  functions_leaf context takes c gives e' (TypeVariable v) it leaf any e = here context _ _ it (leaf refl) e
  functions_leaf context takes c gives e' (FunctionShape takes' c' gives' f') it leaf any e =
      first_leaf (mismatch n context takes' takes)
      (mismatch n (TermEntry takes' c' ∷ context) (opened_type (length context) (capturing gives e')).shape (opened_type (length context) (capturing gives' f')).shape) it
      (λ p is. leaves context takes' takes p is)
      (λ p is. leaves (TermEntry takes' c' ∷ context) (opened_type (length context) (capturing gives e')).shape (opened_type (length context) (capturing gives' f')).shape p is) e
  functions_leaf context takes c gives e' (TypeFunctionShape bound' gives' f') it leaf any e = here context _ _ it (leaf refl) e
  functions_leaf context takes c gives e' (BoxShape content' c') it leaf any e = here context _ _ it (leaf refl) e
  functions_leaf context takes c gives e' (ExitShape gives') it leaf any e = here context _ _ it (leaf refl) e

  type_functions_leaf : (context : Context) (bound gives : Shape) (e' : Set) (right : Shape) (it : Pair)
      → (cond (is_any right) (Matches []) (by_form (comparison 0) context (TypeFunctionShape bound gives e') right) ≡ Mismatch
      → IsLeaf (pair context (TypeFunctionShape bound gives e') right)) → is_any right ≡ false
      → in_type_functions (mismatch n) context (TypeFunctionShape bound gives e') bound (capturing gives e') right ≡ Some it → IsLeaf it
  unfolding by_form
  type_functions_leaf context bound gives e' (BaseShape base) it leaf any e = here context _ _ it (leaf refl) e
  type_functions_leaf context bound gives e' AnyShape it leaf any e = cc
  type_functions_leaf context bound gives e' (TypeVariable v) it leaf any e = here context _ _ it (leaf refl) e
  type_functions_leaf context bound gives e' (FunctionShape takes' c' gives' f') it leaf any e = here context _ _ it (leaf refl) e
  type_functions_leaf context bound gives e' (TypeFunctionShape bound' gives' f') it leaf any e = by (same_shape bound bound') leaf e
    where
      by : (b : Bool)
          → (cond b (and_then (Matches (demanded (TypeEntry bound ∷ context) (opened_type (length context) (capturing gives e')).set (opened_type (length context) (capturing gives' f')).set ∷ []))
          (comparison 0 (TypeEntry bound ∷ context) (opened_type (length context) (capturing gives e')).shape (opened_type (length context) (capturing gives' f')).shape)) Mismatch ≡ Mismatch
          → IsLeaf (pair context (TypeFunctionShape bound gives e') (TypeFunctionShape bound' gives' f')))
          → cond b (mismatch n (TypeEntry bound ∷ context) (opened_type (length context) (capturing gives e')).shape (opened_type (length context) (capturing gives' f')).shape)
          (Some (pair context (TypeFunctionShape bound gives e') (TypeFunctionShape bound' gives' f'))) ≡ Some it → IsLeaf it
      by true leaf is = leaves (TypeEntry bound ∷ context) (opened_type (length context) (capturing gives e')).shape (opened_type (length context) (capturing gives' f')).shape it is
      by false leaf is = here context (TypeFunctionShape bound gives e') (TypeFunctionShape bound' gives' f') it (leaf refl) is
  type_functions_leaf context bound gives e' (BoxShape content' c') it leaf any e = here context _ _ it (leaf refl) e
  type_functions_leaf context bound gives e' (ExitShape gives') it leaf any e = here context _ _ it (leaf refl) e

  boxes_leaf : (context : Context) (content : Shape) (c : Set) (right : Shape) (it : Pair)
      → (cond (is_any right) (Matches []) (by_form (comparison 0) context (BoxShape content c) right) ≡ Mismatch → IsLeaf (pair context (BoxShape content c) right))
      → is_any right ≡ false → in_boxes (mismatch n) context (BoxShape content c) content right ≡ Some it → IsLeaf it
  unfolding by_form
  boxes_leaf context content c (BaseShape base) it leaf any e = here context _ _ it (leaf refl) e
  boxes_leaf context content c AnyShape it leaf any e = cc
  boxes_leaf context content c (TypeVariable v) it leaf any e = here context _ _ it (leaf refl) e
  boxes_leaf context content c (FunctionShape takes' c' gives' f') it leaf any e = here context _ _ it (leaf refl) e
  boxes_leaf context content c (TypeFunctionShape bound' gives' f') it leaf any e = here context _ _ it (leaf refl) e
  boxes_leaf context content c (BoxShape content' c') it leaf any e = leaves context content content' it e
  boxes_leaf context content c (ExitShape gives') it leaf any e = here context _ _ it (leaf refl) e

  parts_leaf : (context : Context) (left right : Shape) (it : Pair)
      → (cond (is_any right) (Matches []) (by_form (comparison 0) context left right) ≡ Mismatch → IsLeaf (pair context left right))
      → is_any right ≡ false → by_parts (mismatch n) context left right ≡ Some it → IsLeaf it
  unfolding by_form
  parts_leaf context (BaseShape base) right it leaf any e = here context _ right it (leaf (ap (λ b. cond b (Matches []) Mismatch) any)) e
  parts_leaf context AnyShape right it leaf any e = here context _ right it (leaf (ap (λ b. cond b (Matches []) Mismatch) any)) e
  parts_leaf context (TypeVariable v) right it leaf any e =
      bound_leaf context (TypeVariable v) (bound_of context v) right it
      (λ none. leaf (ap (λ b. cond b (Matches []) (bound_compared (comparison 0) context (bound_of context v) right)) any ∙ ap (λ o. bound_compared (comparison 0) context o right) none)) e
  parts_leaf context (FunctionShape takes c gives e') right it leaf any e = functions_leaf context takes c gives e' right it leaf any e
  parts_leaf context (TypeFunctionShape bound gives e') right it leaf any e = type_functions_leaf context bound gives e' right it leaf any e
  parts_leaf context (BoxShape content c) right it leaf any e = boxes_leaf context content c right it leaf any e
  parts_leaf context (ExitShape gives) right it leaf any e = here context _ right it (leaf (ap (λ b. cond b (Matches []) Mismatch) any)) e

  step_leaf : (context : Context) (left right : Shape) (it : Pair) (same any : Bool) → same_shape left right ≡ same → is_any right ≡ any
      → cond same None (cond any None (by_parts (mismatch n) context left right)) ≡ Some it → IsLeaf it
  unfolding comparison
  step_leaf context left right it true any is is_it e = cc
  step_leaf context left right it false true is is_it e = cc
  step_leaf context left right it false false is is_it e =
      parts_leaf context left right it
      (λ not. ap (λ b. cond b (Matches []) (cond (is_any right) (Matches []) (by_form (comparison 0) context left right))) is ∙ not) is_it e

is_leaf : (steps : ℕ) (context : Context) (left right : Shape) (it : Pair) → mismatch steps context left right ≡ Some it → IsLeaf it
unfolding mismatch
is_leaf zero context left right it e = cc
is_leaf (suc n) context left right it e = step_leaf n (is_leaf n) context left right it (same_shape left right) (is_any right) refl refl e

pub found_parts_do_not_match : FoundPartsDoNotMatch
found_parts_do_not_match steps context left right it e = (1, is_leaf steps context left right it e)
