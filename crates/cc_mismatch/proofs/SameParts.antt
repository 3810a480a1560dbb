-- With more steps the same parts are found.
use Rattle.std.proofs.Common.{◌≡◌, ◌⊎◌, inl, inr, ℕ, zero, suc, ◌+◌, ◌≤◌, Bool, true, false, cond, List, [], ◌∷◌, length, Option, Some, None, IsTrue, refl, sym, ap, ◌∙◌, subst, arith}
use Rattle.std.specs.Option.{is_some}
use Rattle.cc_capture.specs.Sets.{Set}
use Rattle.cc_core.specs.Shapes.{Shape, BaseShape, AnyShape, TypeVariable, FunctionShape, TypeFunctionShape, BoxShape, ExitShape, CapturingType, capturing}
use Rattle.cc_core.specs.Contexts.{TermEntry, TypeEntry, Context}
use Rattle.cc_core.specs.Equality.{same_shape}
use Rattle.cc_core.specs.Substitution.{opened_type}
use Rattle.cc_checking.specs.Comparison.{Demand, demanded, Comparison, Unfinished, Mismatch, Matches, and_then, bound_of, bound_compared, function_compared, type_function_compared, box_compared, is_any, by_form, comparison}
use Rattle.cc_reasons.specs.Mismatches.{Pair, pair, first_of, in_bound, in_functions, in_type_functions, in_boxes, by_parts, mismatch}
use Rattle.cc_reasons.proofs.FoundMismatches.{mismatches_are_found}
use Rattle.cc_mismatch.specs.MismatchLaws.{FoundPartsAreTheSame}

-- a comparison at its end
abbrev Ends : Comparison → Type 0
Ends it = it ≡ Unfinished → ⊥

-- of two, one behind the other, the first one ends, and the second one does where the first one matches
both_end : (first second : List Demand) (one other : Comparison) → Ends (and_then (and_then (Matches first) one) (and_then (Matches second) other))
    → (one ≡ Mismatch) ⊎ (((ds : List Demand) × (one ≡ Matches ds)) × Ends other)
both_end first second Unfinished other ends = absurd (ends refl)
both_end first second Mismatch other ends = inl refl
both_end first second (Matches ds) Unfinished ends = absurd (ends refl)
both_end first second (Matches ds) Mismatch ends = inr ((ds, refl), λ e. cc)
both_end first second (Matches ds) (Matches es) ends = inr ((ds, refl), λ e. cc)

end_behind : (first : List Demand) (one : Comparison) → Ends (and_then (Matches first) one) → Ends one
end_behind first one ends e = ends (ap (and_then (Matches first)) e)

-- where the first is there, the second does not count
same_first : (one one' other other' : Option Pair) → IsTrue (is_some one) → one ≡ one' → first_of one other ≡ first_of one' other'
same_first (Some p) one' other other' is e = subst (λ o. first_of (Some p) other ≡ first_of o other') e refl
same_first None one' other other' is e = cc

module _ (n m : ℕ) (same : (g : Context) (l r : Shape) → Ends (comparison n g l r) → mismatch n g l r ≡ mismatch m g l r) where
  same_bound : (g : Context) (l : Shape) (o : Option Shape) (r : Shape) → Ends (bound_compared (comparison n) g o r)
      → in_bound (mismatch n) g l o r ≡ in_bound (mismatch m) g l o r
  same_bound g l (Some bound) r ends = same g bound r ends
  same_bound g l None r ends = refl

  same_functions : (g : Context) (l takes : Shape) (c : Set) (gives : CapturingType) (r : Shape)
      → Ends (function_compared (comparison n) g (capturing takes c) gives r)
      → in_functions (mismatch n) g l takes gives r ≡ in_functions (mismatch m) g l takes gives r
  same_functions g l takes c gives (FunctionShape takes' c' gives' e') ends =
      by (both_end (demanded g c' c ∷ []) (demanded under one.set other.set ∷ []) (comparison n g takes' takes)
      (comparison n under one.shape other.shape) ends)
    where
      under : Context
      under = TermEntry takes' c' ∷ g

      one : CapturingType
      one = opened_type (length g) gives

      other : CapturingType
      other = opened_type (length g) (capturing gives' e')

      by : (comparison n g takes' takes ≡ Mismatch)
          ⊎ (((ds : List Demand) × (comparison n g takes' takes ≡ Matches ds)) × Ends (comparison n under one.shape other.shape))
          → first_of (mismatch n g takes' takes) (mismatch n under one.shape other.shape)
          ≡ first_of (mismatch m g takes' takes) (mismatch m under one.shape other.shape)
      by (inl is) =
          same_first (mismatch n g takes' takes) (mismatch m g takes' takes) (mismatch n under one.shape other.shape)
          (mismatch m under one.shape other.shape) (mismatches_are_found n g takes' takes is)
          (same g takes' takes (λ e. let x : Mismatch ≡ Unfinished = sym is ∙ e in cc))
      by (inr (match, ends')) =
          let a = same g takes' takes (λ e. let x : Matches match.0 ≡ Unfinished = sym match.1 ∙ e in cc) in
          let b = same under one.shape other.shape ends' in
          λ i. first_of (a i) (b i)
  same_functions g l takes c gives (BaseShape base) ends = refl
  same_functions g l takes c gives AnyShape ends = refl
  same_functions g l takes c gives (TypeVariable v) ends = refl
  same_functions g l takes c gives (TypeFunctionShape bound' gives' e') ends = refl
  same_functions g l takes c gives (BoxShape content' c') ends = refl
  same_functions g l takes c gives (ExitShape gives') ends = refl

  same_type_functions : (g : Context) (l bound : Shape) (gives : CapturingType) (r : Shape)
      → Ends (type_function_compared (comparison n) g bound gives r)
      → in_type_functions (mismatch n) g l bound gives r ≡ in_type_functions (mismatch m) g l bound gives r
  same_type_functions g l bound gives (TypeFunctionShape bound' gives' e') ends = by (same_shape bound bound') ends
    where
      under : Context
      under = TypeEntry bound ∷ g

      one : CapturingType
      one = opened_type (length g) gives

      other : CapturingType
      other = opened_type (length g) (capturing gives' e')

      by : (b : Bool) → Ends (cond b (and_then (Matches (demanded under one.set other.set ∷ [])) (comparison n under one.shape other.shape)) Mismatch)
          → cond b (mismatch n under one.shape other.shape) (Some (pair g l (TypeFunctionShape bound' gives' e')))
          ≡ cond b (mismatch m under one.shape other.shape) (Some (pair g l (TypeFunctionShape bound' gives' e')))
      by true is = same under one.shape other.shape (end_behind (demanded under one.set other.set ∷ []) (comparison n under one.shape other.shape) is)
      by false is = refl
  same_type_functions g l bound gives (BaseShape base) ends = refl
  same_type_functions g l bound gives AnyShape ends = refl
  same_type_functions g l bound gives (TypeVariable v) ends = refl
  same_type_functions g l bound gives (FunctionShape takes' c' gives' e') ends = refl
  same_type_functions g l bound gives (BoxShape content' c') ends = refl
  same_type_functions g l bound gives (ExitShape gives') ends = refl

  same_boxes : (g : Context) (l content : Shape) (c : Set) (r : Shape) → Ends (box_compared (comparison n) g (capturing content c) r)
      → in_boxes (mismatch n) g l content r ≡ in_boxes (mismatch m) g l content r
  same_boxes g l content c (BoxShape content' c') ends =
      same g content content' (end_behind (demanded g c c' ∷ []) (comparison n g content content') ends)
  same_boxes g l content c (BaseShape base) ends = refl
  same_boxes g l content c AnyShape ends = refl
  same_boxes g l content c (TypeVariable v) ends = refl
  same_boxes g l content c (FunctionShape takes' c' gives' e') ends = refl
  same_boxes g l content c (TypeFunctionShape bound' gives' e') ends = refl
  same_boxes g l content c (ExitShape gives') ends = refl

  same_parts : (g : Context) (l r : Shape) → Ends (by_form (comparison n) g l r)
      → by_parts (mismatch n) g l r ≡ by_parts (mismatch m) g l r
  unfolding by_form
  same_parts g (BaseShape base) r ends = refl
  same_parts g AnyShape r ends = refl
  same_parts g (TypeVariable v) r ends = same_bound g (TypeVariable v) (bound_of g v) r ends
  same_parts g (FunctionShape takes c gives d) r ends = same_functions g (FunctionShape takes c gives d) takes c (capturing gives d) r ends
  same_parts g (TypeFunctionShape bound gives d) r ends = same_type_functions g (TypeFunctionShape bound gives d) bound (capturing gives d) r ends
  same_parts g (BoxShape content c) r ends = same_boxes g (BoxShape content c) content c r ends
  same_parts g (ExitShape gives) r ends = refl

  same_step : (g : Context) (l r : Shape) (one any : Bool)
      → Ends (cond one (Matches []) (cond any (Matches []) (by_form (comparison n) g l r)))
      → cond one None (cond any None (by_parts (mismatch n) g l r)) ≡ cond one None (cond any None (by_parts (mismatch m) g l r))
  same_step g l r true any ends = refl
  same_step g l r false true ends = refl
  same_step g l r false false ends = same_parts g l r ends

more_steps : (few many : ℕ) → few ≤ many → (g : Context) (l r : Shape) → Ends (comparison few g l r)
    → mismatch few g l r ≡ mismatch many g l r
unfolding comparison mismatch
more_steps zero many h g l r ends = absurd (ends refl)
more_steps (suc few) zero h g l r ends = absurd (omega arith)
more_steps (suc few) (suc many) h g l r ends =
    same_step few many (more_steps few many (omega arith)) g l r (same_shape l r) (is_any r) ends

pub found_parts_are_the_same : FoundPartsAreTheSame
found_parts_are_the_same few many g l r e f =
    more_steps few (few + many) (omega arith) g l r (λ u. let x : Mismatch ≡ Unfinished = sym e ∙ u in cc)
    ∙ sym (more_steps many (few + many) (omega arith) g l r (λ u. let x : Mismatch ≡ Unfinished = sym f ∙ u in cc))
