-- Each comparison of well-formed shapes ends, since weights fall.
use Rattle.cc_typing_laws.proofs.FormedContexts.{opened_kinded}
use Rattle.cc_core.proofs.Sorts.{ShapeSort}
use Rattle.std.proofs.Common.{◌≡◌, ℕ, zero, suc, ◌+◌, ◌<◌, true, false, cond, List, [], ◌∷◌, ◌++◌, length, Option, Some, None, refl, sym, ap, ◌∙◌, subst, inl, inr, ◌⊎◌, arith}
use Rattle.std.specs.Prelude.{nat_eq}
use Rattle.std.proofs.lemmas.Bool.{cond-true, cond-false, ne_eqb, and_parts, eqb-true, eq-eqb}
use Rattle.cc_capture.specs.declared.var.Var.TheVariants.{Bound, Free}
use Rattle.cc_capture.specs.Sets.{Set}
use Rattle.cc_core.specs.Shapes.{Shape, BaseShape, AnyShape, TypeVariable, FunctionShape, TypeFunctionShape, BoxShape, ExitShape, CapturingType, capturing}
use Rattle.cc_core.specs.Contexts.{Bind, TermEntry, TypeEntry, Context, lookup}
use Rattle.cc_core.specs.Traversal.{act}
use Rattle.cc_core.specs.Substitution.{opening, opened, opened_type}
use Rattle.cc_core.specs.WellFormed.{Kind, TermKind, TypeKind, kinds_of, kind_of, is_well_formed_set, is_well_formed_shape, is_well_formed_type, is_well_formed_context}
use Rattle.cc_core.proofs.Lookups.{lookup-below}
use Rattle.cc_core.proofs.KindFacts.{IsKinded, IsKinded-from}
use Rattle.cc_core.proofs.SubcapturingContexts.{entry_of_type, IsKindedEntry, IsKindedContext, IsKindedContext-from, IsKinded-added}
use Rattle.cc_core.specs.Equality.{same_shape}
use Rattle.cc_checking.specs.Comparison.{Demand, Comparison, Unfinished, Mismatch, Matches, and_then, types_compared, bound_in, bound_compared, function_compared, type_function_compared, box_compared, is_any, by_form, comparison, HasDemands, IsMismatch, TypesHaveDemands, IsTypeMismatch}
use Rattle.cc_checking.specs.Weights.{weight_of_index, weight, entry_weight, weight_at, weight_in, IsEnough, enough_steps}
use Rattle.cc_checking.proofs.ShapeEquality.{same_shape-true}

-- weights of free variables that agree on those that may occur
abbrev AgreeOn : List Kind → (ℕ → ℕ) → (ℕ → ℕ) → Type 0
AgreeOn kinds one other = (position : ℕ) → lookup kinds position ≡ Some TypeKind → one position ≡ other position

same_weight : (kinds : List Kind) (one other : ℕ → ℕ) → AgreeOn kinds one other → (passed : List Kind) (ws : List ℕ) (shape : Shape)
    → IsKinded kinds passed shape → weight one ws shape ≡ weight other ws shape
same_weight kinds one other agree passed ws (BaseShape base) h = refl
same_weight kinds one other agree passed ws AnyShape h = refl
same_weight kinds one other agree passed ws (TypeVariable (Free position)) h = ap suc (agree position h)
same_weight kinds one other agree passed ws (TypeVariable (Bound index)) h = refl
same_weight kinds one other agree passed ws (FunctionShape t c g e) h =
    let a = same_weight kinds one other agree passed ws t h.0 in
    let b = same_weight kinds one other agree (TermKind ∷ passed) (0 ∷ ws) g h.2 in
    λ i. suc (a i + b i)
same_weight kinds one other agree passed ws (TypeFunctionShape s g e) h =
    let a = same_weight kinds one other agree passed ws s h.0 in
    let b = same_weight kinds one other agree (TypeKind ∷ passed) (weight one ws s ∷ ws) g h.1 in
    let d : weight other (weight one ws s ∷ ws) g ≡ weight other (weight other ws s ∷ ws) g = ap (λ w. weight other (w ∷ ws) g) a in
    let both = b ∙ d in
    λ i. suc (a i + both i)
same_weight kinds one other agree passed ws (BoxShape t c) h =
    ap suc (same_weight kinds one other agree passed ws t h.0)
same_weight kinds one other agree passed ws (ExitShape g) h = ap suc (same_weight kinds one other agree passed ws g h)

index_last : (inner : List ℕ) (w : ℕ) → weight_of_index (inner ++ (w ∷ [])) (length inner) ≡ w
index_last [] w = refl
index_last (x ∷ inner) w = index_last inner w

index_other : (inner : List ℕ) (w index : ℕ) → (index ≡ length inner → ⊥) → weight_of_index inner index ≡ weight_of_index (inner ++ (w ∷ [])) index
index_other [] w zero apart = absurd (apart refl)
index_other [] w (suc index) apart = refl
index_other (x ∷ inner) w zero apart = refl
index_other (x ∷ inner) w (suc index) apart = index_other inner w index (λ e. apart (ap suc e))

-- opening puts a free variable of some weight in the place of a bound one
opened_weight : (kinds : List Kind) (one other : ℕ → ℕ) (at w : ℕ) → AgreeOn kinds one other → one at ≡ w
    → (passed : List Kind) (inner : List ℕ) (shape : Shape) → IsKinded kinds passed shape
    → weight one inner (act (opening at) (length inner) shape) ≡ weight other (inner ++ (w ∷ [])) shape
opened_weight kinds one other at w agree here passed inner (BaseShape base) h = refl
opened_weight kinds one other at w agree here passed inner AnyShape h = refl
opened_weight kinds one other at w agree here passed inner (TypeVariable (Free position)) h = ap suc (agree position h)
opened_weight kinds one other at w agree here passed inner (TypeVariable (Bound index)) h =
    elim (nat_eq index (length inner)) as (λ t. nat_eq index (length inner) ≡ t → weight one inner (TypeVariable (cond t (Free at) (Bound index))) ≡ suc (weight_of_index (inner ++ (w ∷ [])) index)) [
      | true ↦ λ e. ap suc (here ∙ sym (index_last inner w) ∙ ap (weight_of_index (inner ++ (w ∷ []))) (sym (eqb-true index (length inner) e)))
      | false ↦ λ e. ap suc (index_other inner w index (λ x. let y = eq-eqb index (length inner) x in cc))
    ] refl
opened_weight kinds one other at w agree here passed inner (FunctionShape t c g e) h =
    let a = opened_weight kinds one other at w agree here passed inner t h.0 in
    let b = opened_weight kinds one other at w agree here (TermKind ∷ passed) (0 ∷ inner) g h.2 in
    λ i. suc (a i + b i)
opened_weight kinds one other at w agree here passed inner (TypeFunctionShape s g e) h =
    let a = opened_weight kinds one other at w agree here passed inner s h.0 in
    let bound : ℕ = weight one inner (act (opening at) (length inner) s) in
    let b = opened_weight kinds one other at w agree here (TypeKind ∷ passed) (bound ∷ inner) g h.1 in
    let both = b ∙ ap (λ x. weight other (x ∷ (inner ++ (w ∷ []))) g) a in
    λ i. suc (a i + both i)
opened_weight kinds one other at w agree here passed inner (BoxShape t c) h =
    ap suc (opened_weight kinds one other at w agree here passed inner t h.0)
opened_weight kinds one other at w agree here passed inner (ExitShape g) h = ap suc (opened_weight kinds one other at w agree here passed inner g h)

-- one entry more changes no weight
agree_below : (context : Context) (entry : Bind) → AgreeOn (kinds_of context) (weight_at (entry ∷ context)) (weight_at context)
agree_below context entry position known =
    let found = entry_of_type context position known in
    let below = lookup-below context position (TypeEntry found.0) found.1 in
    cond-false (nat_eq position (length context)) (entry_weight (weight_at context) entry) (weight_at context position)
    (ne_eqb position (length context) (λ e. omega arith))

weight_of_newest : (context : Context) (entry : Bind) → weight_at (entry ∷ context) (length context) ≡ entry_weight (weight_at context) entry
weight_of_newest context entry = cond-true (nat_eq (length context) (length context)) (entry_weight (weight_at context) entry) (weight_at context (length context)) (eq-eqb (length context) (length context) refl)

weight_of_opened : (context : Context) (entry : Bind) (shape : Shape) (passed : List Kind) → IsKinded (kinds_of context) passed shape
    → weight_in (entry ∷ context) (opened (length context) shape) ≡ weight (weight_at context) (entry_weight (weight_at context) entry ∷ []) shape
weight_of_opened context entry shape passed h =
    opened_weight (kinds_of context) (weight_at (entry ∷ context)) (weight_at context) (length context) (entry_weight (weight_at context) entry)
    (agree_below context entry) (weight_of_newest context entry) passed [] shape h

-- the bound at a position of a well-formed context
pub record BoundAt (context : Context) (position : ℕ) (bound : Shape) : Type 0 where
  pub weighs : weight_at context position ≡ weight_in context bound
  pub formed : IsKinded (kinds_of context) [] bound

pub bound_at : (context : Context) (position : ℕ) (bound : Shape) → IsKindedContext context → lookup context position ≡ Some (TypeEntry bound) → BoundAt context position bound
bound_at [] position bound formed there = cc
bound_at (b ∷ context) position bound formed there =
    let raised : IsKinded (kinds_of context) [] bound → weight_in (b ∷ context) bound ≡ weight_in context bound =
    λ h. same_weight (kinds_of context) (weight_at (b ∷ context)) (weight_at context) (agree_below context b) [] [] bound h in
    elim (nat_eq position (length context)) as (λ t. nat_eq position (length context) ≡ t → cond t (Some b) (lookup context position) ≡ Some (TypeEntry bound) → BoundAt (b ∷ context) position bound) [
      | true ↦ λ e found.
          let is : b ≡ TypeEntry bound = cc in
          let own : IsKinded (kinds_of context) [] bound = subst (IsKindedEntry (kinds_of context)) is formed.0 in
          record {
            weighs = cond-true (nat_eq position (length context)) (entry_weight (weight_at context) b) (weight_at context position) e
                ∙ ap (entry_weight (weight_at context)) is ∙ sym (raised own);
            formed = IsKinded-added (kind_of b) (kinds_of context) [] bound own;
          }
      | false ↦ λ e found.
          let old = bound_at context position bound formed.1 found in
          record {
            weighs = cond-false (nat_eq position (length context)) (entry_weight (weight_at context) b) (weight_at context position) e ∙ old.weighs ∙ sym (raised old.formed);
            formed = IsKinded-added (kind_of b) (kinds_of context) [] bound old.formed;
          }
    ] refl there

ended_then : (a b : Comparison) → (a ≡ Unfinished → ⊥) → (b ≡ Unfinished → ⊥) → and_then a b ≡ Unfinished → ⊥
ended_then Unfinished b p q e = p refl
ended_then Mismatch b p q e = cc
ended_then (Matches ds) Unfinished p q e = q refl
ended_then (Matches ds) Mismatch p q e = cc
ended_then (Matches ds) (Matches es) p q e = cc

ended_types : (n : ℕ) (context : Context) (left right : CapturingType) → IsEnough n context left.shape right.shape → types_compared (comparison n) context left right ≡ Unfinished → ⊥
ended_types n context left right enough e =
    let first : List Demand = record { context = context; left = left.set; right = right.set } ∷ [] in
    ended_then (Matches first) (comparison n context left.shape right.shape) (λ x. cc) enough e

ended_step : (n : ℕ) (context : Context) (left right : Shape) → (by_form (comparison n) context left right ≡ Unfinished → ⊥) → IsEnough (suc n) context left right
unfolding comparison
ended_step n context left right ended =
    let later : Comparison = by_form (comparison n) context left right in
    elim (same_shape left right) as (λ t. cond t (Matches []) (cond (is_any right) (Matches []) later) ≡ Unfinished → ⊥) [
      | true ↦ λ e. cc
      | false ↦ elim (is_any right) as (λ t. cond t (Matches []) later ≡ Unfinished → ⊥) [ true ↦ λ e. cc | false ↦ ended ]
    ]

-- all comparisons of less weight end
abbrev EndsBelow : ℕ → Type 0
EndsBelow k = (context : Context) (left right : Shape) → IsKindedContext context
    → IsKinded (kinds_of context) [] left → IsKinded (kinds_of context) [] right
    → weight_in context left + weight_in context right < k → IsEnough k context left right

ends_variable : (k : ℕ) → EndsBelow k → (context : Context) (position : ℕ) (right : Shape) (found : Option Bind) → lookup context position ≡ found
    → IsKindedContext context → IsKinded (kinds_of context) [] right
    → suc (weight_at context position) + weight_in context right < suc k
    → bound_compared (comparison k) context (bound_in found) right ≡ Unfinished → ⊥
ends_variable k ends context position right (Some (TypeEntry bound)) there formed r small =
    let at = bound_at context position bound formed there in
    let weighs = at.weighs in
    ends context bound right formed at.formed r (omega arith)
ends_variable k ends context position right (Some (TermEntry shape set)) there formed r small = λ e. cc
ends_variable k ends context position right None there formed r small = λ e. cc

ends_function : (k : ℕ) → EndsBelow k → (context : Context) (takes : Shape) (c : Set) (gives : Shape) (d : Set) (right : Shape)
    → IsKindedContext context → IsKinded (kinds_of context) [] (FunctionShape takes c gives d) → IsKinded (kinds_of context) [] right
    → weight_in context (FunctionShape takes c gives d) + weight_in context right < suc k
    → function_compared (comparison k) context (capturing takes c) (capturing gives d) right ≡ Unfinished → ⊥
ends_function k ends context takes c gives d (FunctionShape takes' c' gives' d') formed l r small =
    let kinds : List Kind = kinds_of context in
    let entry : Bind = TermEntry takes' c' in
    let under : Context = entry ∷ context in
    let one : Shape = opened (length context) gives in
    let two : Shape = opened (length context) gives' in
    let formed' : IsKindedContext under = ((r.0, r.1), formed) in
    let w = weight_of_opened context entry gives (TermKind ∷ []) l.2 in
    let w' = weight_of_opened context entry gives' (TermKind ∷ []) r.2 in
    ended_then _ _
    (ended_types k context (capturing takes' c') (capturing takes c) (ends context takes' takes formed r.0 l.0 (omega arith)))
    (ended_types k under (opened_type (length context) (capturing gives d)) (opened_type (length context) (capturing gives' d'))
    (ends under one two formed' (opened_kinded ShapeSort context entry gives l.2) (opened_kinded ShapeSort context entry gives' r.2) (omega arith)))
ends_function k ends context takes c gives d _ formed l r small = λ e. cc

ends_type_function : (k : ℕ) → EndsBelow k → (context : Context) (bound gives : Shape) (d : Set) (right : Shape)
    → IsKindedContext context → IsKinded (kinds_of context) [] (TypeFunctionShape bound gives d) → IsKinded (kinds_of context) [] right
    → weight_in context (TypeFunctionShape bound gives d) + weight_in context right < suc k
    → type_function_compared (comparison k) context bound (capturing gives d) right ≡ Unfinished → ⊥
ends_type_function k ends context bound gives d (TypeFunctionShape bound' gives' d') formed l r small =
    let kinds : List Kind = kinds_of context in
    let entry : Bind = TypeEntry bound in
    let under : Context = entry ∷ context in
    let one : Shape = opened (length context) gives in
    let two : Shape = opened (length context) gives' in
    let compared : Comparison = types_compared (comparison k) under (opened_type (length context) (capturing gives d)) (opened_type (length context) (capturing gives' d')) in
    elim (same_shape bound bound') as (λ t. same_shape bound bound' ≡ t → cond t compared Mismatch ≡ Unfinished → ⊥) [
      | true ↦ λ same.
          let is = same_shape-true bound bound' same in
          let formed' : IsKindedContext under = (l.0, formed) in
          let w = weight_of_opened context entry gives (TypeKind ∷ []) l.1 in
          let w' = weight_of_opened context entry gives' (TypeKind ∷ []) r.1 in
          let b : weight (weight_at context) (weight_in context bound' ∷ []) gives' ≡ weight (weight_at context) (weight_in context bound ∷ []) gives' =
          ap (λ s. weight (weight_at context) (weight_in context s ∷ []) gives') (sym is) in
          ended_types k under (opened_type (length context) (capturing gives d)) (opened_type (length context) (capturing gives' d'))
          (ends under one two formed' (opened_kinded ShapeSort context entry gives l.1) (opened_kinded ShapeSort context entry gives' r.1) (omega arith))
      | false ↦ λ _ e. cc
    ] refl
ends_type_function k ends context bound gives d _ formed l r small = λ e. cc

ends_box : (k : ℕ) → EndsBelow k → (context : Context) (content : Shape) (c : Set) (right : Shape)
    → IsKindedContext context → IsKinded (kinds_of context) [] (BoxShape content c) → IsKinded (kinds_of context) [] right
    → weight_in context (BoxShape content c) + weight_in context right < suc k
    → box_compared (comparison k) context (capturing content c) right ≡ Unfinished → ⊥
ends_box k ends context content c (BoxShape content' c') formed l r small =
    ended_types k context (capturing content c) (capturing content' c') (ends context content content' formed l.0 r.0 (omega arith))
ends_box k ends context content c _ formed l r small = λ e. cc

ends_form : (k : ℕ) → EndsBelow k → (context : Context) (left right : Shape) → IsKindedContext context
    → IsKinded (kinds_of context) [] left → IsKinded (kinds_of context) [] right
    → weight_in context left + weight_in context right < suc k → by_form (comparison k) context left right ≡ Unfinished → ⊥
unfolding by_form
ends_form k ends context (BaseShape base) right formed l r small = λ e. cc
ends_form k ends context AnyShape right formed l r small = λ e. cc
ends_form k ends context (TypeVariable (Free position)) right formed l r small = ends_variable k ends context position right (lookup context position) refl formed r small
ends_form k ends context (TypeVariable (Bound index)) right formed l r small = λ e. cc
ends_form k ends context (FunctionShape takes c gives d) right formed l r small = ends_function k ends context takes c gives d right formed l r small
ends_form k ends context (TypeFunctionShape bound gives d) right formed l r small = ends_type_function k ends context bound gives d right formed l r small
ends_form k ends context (BoxShape content c) right formed l r small = ends_box k ends context content c right formed l r small
ends_form k ends context (ExitShape gives) right formed l r small = λ e. cc

ends_below : (k : ℕ) → EndsBelow k
ends_below zero context left right formed l r small = absurd (omega arith)
ends_below (suc k) context left right formed l r small =
    ended_step k context left right (ends_form k (ends_below k) context left right formed l r small)

-- As many steps are enough as the weights count.
pub comparison_enough : (context : Context) (left right : Shape) → is_well_formed_context context ≡ true
    → is_well_formed_shape (kinds_of context) [] left ≡ true → is_well_formed_shape (kinds_of context) [] right ≡ true
    → IsEnough (enough_steps context left right) context left right
comparison_enough context left right formed l r =
    ends_below (enough_steps context left right) context left right
    (IsKindedContext-from context formed) (IsKinded-from (kinds_of context) [] left l) (IsKinded-from (kinds_of context) [] right r) (omega arith)

answer_of : (context : Context) (left right : Shape) (n : ℕ) (a : Comparison) → comparison n context left right ≡ a → (a ≡ Unfinished → ⊥)
    → ((ds : List Demand) × HasDemands context left right ds) ⊎ IsMismatch context left right
answer_of context left right n Unfinished e ended = absurd (ended refl)
answer_of context left right n Mismatch e ended = inr (n, e)
answer_of context left right n (Matches ds) e ended = inl (ds, (n, e))

pub comparison_ends : (context : Context) (left right : Shape) → is_well_formed_context context ≡ true
    → is_well_formed_shape (kinds_of context) [] left ≡ true → is_well_formed_shape (kinds_of context) [] right ≡ true
    → ((ds : List Demand) × HasDemands context left right ds) ⊎ IsMismatch context left right
comparison_ends context left right formed l r =
    answer_of context left right (enough_steps context left right) (comparison (enough_steps context left right) context left right) refl
    (comparison_enough context left right formed l r)

pub type_comparison_ends : (context : Context) (left right : CapturingType) → is_well_formed_context context ≡ true
    → is_well_formed_type (kinds_of context) [] left ≡ true → is_well_formed_type (kinds_of context) [] right ≡ true
    → ((ds : List Demand) × TypesHaveDemands context left right ds) ⊎ IsTypeMismatch context left right
type_comparison_ends context left right formed l r =
    let kinds : List Kind = kinds_of context in
    let p = and_parts (is_well_formed_shape kinds [] left.shape) (is_well_formed_set kinds [] left.set) l in
    let q = and_parts (is_well_formed_shape kinds [] right.shape) (is_well_formed_set kinds [] right.set) r in
    let first : List Demand = record { context = context; left = left.set; right = right.set } ∷ [] in
    elim (comparison_ends context left.shape right.shape formed p.0 q.0) as (λ _. ((ds : List Demand) × TypesHaveDemands context left right ds) ⊎ IsTypeMismatch context left right) [
      | inl (ds, (n, e)) ↦ inl (first ++ ds, (n, ap (and_then (Matches first)) e))
      | inr (n, e) ↦ inr (n, ap (and_then (Matches first)) e)
    ]
