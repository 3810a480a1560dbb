-- Where parts that do not match lead to, form by form.
use Rattle.std.proofs.Common.{◌≡◌, ◌⊎◌, inl, inr, ℕ, zero, suc, ◌-◌, ◌≤◌, Bool, true, false, cond, List, [], ◌∷◌, length, Option, Some, None, IsTrue, Global, refl, sym, ap, ◌∙◌, subst, arith}
use Rattle.std.proofs.lemmas.Bool.{cond-true, cond-false}
use Rattle.std.specs.Option.{is_some}
use Rattle.std.specs.declared.rc.Rc.{Rc}
use Rattle.cc_base.specs.declared.code.Code.{Code}
use Rattle.cc_base.specs.declared.place.Place.{Place}
use Rattle.cc_capture.specs.declared.var.Var.{Var}
use Rattle.cc_capture.specs.Sets.{empty}
use Rattle.cc_core.specs.declared.types.Shape.{Shape as DeclaredShape}
use Rattle.cc_core.specs.declared.types.Shape.TheVariants as shapes
use Rattle.cc_core.specs.declared.types.Ty.{Ty}
use Rattle.cc_core.specs.TermViews.{shape_of}
use Rattle.cc_core.specs.Shapes.{Shape, BaseShape, AnyShape, TypeVariable, FunctionShape, TypeFunctionShape, BoxShape, ExitShape, CapturingType, capturing}
use Rattle.cc_core.specs.Contexts.{TypeEntry, Context, entry_of}
use Rattle.cc_core.specs.Equality.{same_shape}
use Rattle.cc_core.specs.Substitution.{opened_type}
use Rattle.cc_core.specs.WellFormed.{kinds_of, IsWellFormedContext, IsWellFormedShape, IsWellFormedType}
use Rattle.cc_core.proofs.CapturedKinds.{empty_kinded}
use Rattle.cc_core.proofs.KindFacts.{IsKinded, IsKinded-from, IsKinded-test, IsKindedType-test}
use Rattle.cc_core.proofs.Sorts.{ShapeSort}
use Rattle.cc_core.proofs.SubcapturingContexts.{IsKindedContext-from}
use Rattle.cc_checking.specs.Comparison.{Demand, demanded, Comparison, Unfinished, Mismatch, Matches, and_then, types_compared, bound_of, bound_compared, is_any, by_form, comparison}
use Rattle.cc_checking.specs.Inference as plain
use Rattle.cc_checking.specs.Outcomes.{Placed}
use Rattle.cc_typing_laws.proofs.ComparisonLemmas.{comparison_same}
use Rattle.cc_typing_laws.proofs.FormedContexts.{opened_kinded}
use Rattle.cc_subty.proofs.BoundsFollowed.{entry_at}
use Rattle.cc_known.specs.Logs.{Got, Stopped, after}
use Rattle.cc_known.proofs.FormedParts.{with_term, with_type}
use Rattle.cc_type.specs.Comparing.{most_steps}
use Rattle.cc_reasons.specs.Mismatches.{Pair, pair, first_of, in_bound, by_parts, mismatch}
use Rattle.cc_reasons.proofs.FoundMismatches.{mismatches_are_found}
use Rattle.cc_mismatch.specs.Descents.{IsWellFormedPair, pair_compared, first_parts, LeadsTo, IsMatched, AreFirstParts, IsOnTheWay}
use Rattle.cc_mismatch.proofs.MatchedParts.{matches_have_no_parts}

-- What is answered of a comparison of types with one set tells whether the shapes match.
pub matched : (at : Place) (g : Context) (l r : CapturingType) (log new : List Placed) (c : Comparison) → (u : Unit {0})
    → after log (plain.compared_at at (and_then (Matches (demanded g l.set r.set ∷ [])) c)) ≡ Got u new → IsMatched c true
matched at g l r log new Unfinished u e = cc
matched at g l r log new Mismatch u e = cc
matched at g l r log new (Matches ds) u e = (ds, refl)

pub apart : (at : Place) (g : Context) (l r : CapturingType) (log : List Placed) (c : Comparison) (code : Code) (place : Place)
    → after log (plain.compared_at at (and_then (Matches (demanded g l.set r.set ∷ [])) c)) ≡ Stopped code place → IsMatched c false
apart at g l r log Unfinished code place e = cc
apart at g l r log Mismatch code place e = refl
apart at g l r log (Matches ds) code place e = cc

-- a type that captures nothing is well formed where its shape is
pub pure_formed : (g : Context) (s : Shape) (t : CapturingType) → t ≡ capturing s empty → IsWellFormedShape g s → IsWellFormedType g t
pure_formed g s t is h =
    subst (IsWellFormedType g) (sym is)
    (IsKindedType-test (kinds_of g) [] (capturing s empty) (IsKinded-from (kinds_of g) [] s h, empty_kinded (kinds_of g) []))

open_step : (n : ℕ) (g : Context) (l r : Shape) (same any : Bool)
    → cond same (Matches []) (cond any (Matches []) (by_form (comparison n) g l r)) ≡ Mismatch
    → (by_form (comparison n) g l r ≡ Mismatch)
    × (cond same None (cond any None (by_parts (mismatch n) g l r)) ≡ by_parts (mismatch n) g l r)
open_step n g l r true any e = cc
open_step n g l r false true e = cc
open_step n g l r false false e = (e, refl)

-- One step of a comparison that comes to no match goes by the forms, and so does one of the search.
stepped : (n : ℕ) (g : Context) (l r : Shape) → comparison (suc n) g l r ≡ Mismatch
    → (by_form (comparison n) g l r ≡ Mismatch) × (mismatch (suc n) g l r ≡ by_parts (mismatch n) g l r)
unfolding comparison mismatch
stepped n g l r e = open_step n g l r (same_shape l r) (is_any r) e

-- no comparison ends in no step
unfinished : (g : Context) (l r : Shape) → comparison 0 g l r ≡ Mismatch → ⊥
unfolding comparison
unfinished g l r e = cc

-- The two themselves are the first parts, where the search by parts says so.
stays : (g : Context) (l r : Shape)
    → ((n : ℕ) → by_form (comparison n) g l r ≡ Mismatch → by_parts (mismatch n) g l r ≡ Some (pair g l r))
    → (steps : ℕ) → comparison steps g l r ≡ Mismatch → mismatch steps g l r ≡ Some (pair g l r)
stays g l r by zero e = absurd (unfinished g l r e)
stays g l r by (suc n) e = let step = stepped n g l r e in step.1 ∙ by n step.0

pub base_stays : (g : Context) (l r : Shape) → ((n : ℕ) → by_parts (mismatch n) g l r ≡ Some (pair g l r)) → LeadsTo (pair g l r) None
base_stays g l r by = stays g l r (λ n e. by n)

-- type variables
variable_compared : (n : ℕ) (g : Context) (v : Var) (r : Shape)
    → by_form (comparison n) g (TypeVariable v) r ≡ bound_compared (comparison n) g (bound_of g v) r
unfolding by_form
variable_compared n g v r = refl

pub variable_stays : (g : Context) (v : Var) (r : Shape) → bound_of g v ≡ None → LeadsTo (pair g (TypeVariable v) r) None
variable_stays g v r there =
    stays g (TypeVariable v) r (λ n e. ap (λ o. in_bound (mismatch n) g (TypeVariable v) o r) there)

pub variable_leads : (g : Context) (v : Var) (bound r : Shape) → IsWellFormedContext g → IsWellFormedShape g r → bound_of g v ≡ Some bound
    → LeadsTo (pair g (TypeVariable v) r) (Some (pair g bound r))
variable_leads g v bound r formed right there = (
  (formed, IsKinded-test (kinds_of g) [] bound (entry_at g v bound (IsKindedContext-from g formed) there), right),
  λ n e.
      let step = stepped n g (TypeVariable v) r e in
      let compared = sym (variable_compared n g v r ∙ ap (λ o. bound_compared (comparison n) g o r) there) ∙ step.0 in
      (compared, step.1 ∙ ap (λ o. in_bound (mismatch n) g (TypeVariable v) o r) there),
)

-- shapes of other forms
abbrev pub IsNoFunction : Shape → Type 0
IsNoFunction (FunctionShape takes c gives e) = ⊥
IsNoFunction _ = Unit {0}

abbrev pub IsNoTypeFunction : Shape → Type 0
IsNoTypeFunction (TypeFunctionShape bound gives e) = ⊥
IsNoTypeFunction _ = Unit {0}

abbrev pub IsNoBox : Shape → Type 0
IsNoBox (BoxShape content c) = ⊥
IsNoBox _ = Unit {0}

pub no_function : (r : DeclaredShape) → ((x y : Rc Ty Global) → r ≡ shapes.Fun x y → ⊥) → IsNoFunction (shape_of r)
no_function (shapes.Base base) not = tt
no_function shapes.Any not = tt
no_function (shapes.TVar variable) not = tt
no_function (shapes.Fun' p q takes c p' q' gives e) not =
    not (record { ptr = p.ptr; value = record { shape = record { ptr = q.ptr; value = takes }; set = c } })
    (record { ptr = p'.ptr; value = record { shape = record { ptr = q'.ptr; value = gives }; set = e } }) refl
no_function (shapes.TFun' _ _ _ _ _ _) not = tt
no_function (shapes.Boxed' _ _ _ _) not = tt
no_function (shapes.Exit' _ _) not = tt

pub no_type_function : (r : DeclaredShape) → ((x : Rc DeclaredShape Global) (y : Rc Ty Global) → r ≡ shapes.TFun x y → ⊥)
    → IsNoTypeFunction (shape_of r)
no_type_function (shapes.Base base) not = tt
no_type_function shapes.Any not = tt
no_type_function (shapes.TVar variable) not = tt
no_type_function (shapes.Fun' _ _ _ _ _ _ _ _) not = tt
no_type_function (shapes.TFun' p bound q p' gives e) not =
    not (record { ptr = p.ptr; value = bound }) (record { ptr = q.ptr; value = record { shape = record { ptr = p'.ptr; value = gives }; set = e } }) refl
no_type_function (shapes.Boxed' _ _ _ _) not = tt
no_type_function (shapes.Exit' _ _) not = tt

pub no_box : (r : DeclaredShape) → ((x : Rc Ty Global) → r ≡ shapes.Boxed x → ⊥) → IsNoBox (shape_of r)
no_box (shapes.Base base) not = tt
no_box shapes.Any not = tt
no_box (shapes.TVar variable) not = tt
no_box (shapes.Fun' _ _ _ _ _ _ _ _) not = tt
no_box (shapes.TFun' _ _ _ _ _ _) not = tt
no_box (shapes.Boxed' p q content c) not =
    not (record { ptr = p.ptr; value = record { shape = record { ptr = q.ptr; value = content }; set = c } }) refl
no_box (shapes.Exit' _ _) not = tt

pub function_stays : (g : Context) (t u : CapturingType) (r : Shape) → IsNoFunction r
    → LeadsTo (pair g (FunctionShape t.shape t.set u.shape u.set) r) None
function_stays g t u (BaseShape base) not = stays g (FunctionShape t.shape t.set u.shape u.set) (BaseShape base) (λ n e. refl)
function_stays g t u AnyShape not = stays g (FunctionShape t.shape t.set u.shape u.set) AnyShape (λ n e. refl)
function_stays g t u (TypeVariable v) not = stays g (FunctionShape t.shape t.set u.shape u.set) (TypeVariable v) (λ n e. refl)
function_stays g t u (FunctionShape a b c d) not = absurd not
function_stays g t u (TypeFunctionShape a b c) not = stays g (FunctionShape t.shape t.set u.shape u.set) (TypeFunctionShape a b c) (λ n e. refl)
function_stays g t u (BoxShape a b) not = stays g (FunctionShape t.shape t.set u.shape u.set) (BoxShape a b) (λ n e. refl)
function_stays g t u (ExitShape a) not = stays g (FunctionShape t.shape t.set u.shape u.set) (ExitShape a) (λ n e. refl)

pub type_function_stays : (g : Context) (b : Shape) (u : CapturingType) (r : Shape) → IsNoTypeFunction r
    → LeadsTo (pair g (TypeFunctionShape b u.shape u.set) r) None
type_function_stays g b u (BaseShape base) not = stays g (TypeFunctionShape b u.shape u.set) (BaseShape base) (λ n e. refl)
type_function_stays g b u AnyShape not = stays g (TypeFunctionShape b u.shape u.set) AnyShape (λ n e. refl)
type_function_stays g b u (TypeVariable v) not = stays g (TypeFunctionShape b u.shape u.set) (TypeVariable v) (λ n e. refl)
type_function_stays g b u (FunctionShape a c d e') not = stays g (TypeFunctionShape b u.shape u.set) (FunctionShape a c d e') (λ n e. refl)
type_function_stays g b u (TypeFunctionShape a c d) not = absurd not
type_function_stays g b u (BoxShape a c) not = stays g (TypeFunctionShape b u.shape u.set) (BoxShape a c) (λ n e. refl)
type_function_stays g b u (ExitShape a) not = stays g (TypeFunctionShape b u.shape u.set) (ExitShape a) (λ n e. refl)

pub box_stays : (g : Context) (t : CapturingType) (r : Shape) → IsNoBox r → LeadsTo (pair g (BoxShape t.shape t.set) r) None
box_stays g t (BaseShape base) not = stays g (BoxShape t.shape t.set) (BaseShape base) (λ n e. refl)
box_stays g t AnyShape not = stays g (BoxShape t.shape t.set) AnyShape (λ n e. refl)
box_stays g t (TypeVariable v) not = stays g (BoxShape t.shape t.set) (TypeVariable v) (λ n e. refl)
box_stays g t (FunctionShape a b c d) not = stays g (BoxShape t.shape t.set) (FunctionShape a b c d) (λ n e. refl)
box_stays g t (TypeFunctionShape a b c) not = stays g (BoxShape t.shape t.set) (TypeFunctionShape a b c) (λ n e. refl)
box_stays g t (BoxShape a b) not = absurd not
box_stays g t (ExitShape a) not = stays g (BoxShape t.shape t.set) (ExitShape a) (λ n e. refl)

-- what does not match behind a demand does not match
behind : (first : List Demand) (one : Comparison) → and_then (Matches first) one ≡ Mismatch → one ≡ Mismatch
behind first Unfinished e = cc
behind first Mismatch e = refl
behind first (Matches ds) e = cc

-- of two, one behind the other, the first one does not match, or it does and the second one does not
first_apart : (first second : List Demand) (one other : Comparison)
    → and_then (and_then (Matches first) one) (and_then (Matches second) other) ≡ Mismatch
    → (one ≡ Mismatch) ⊎ (((ds : List Demand) × (one ≡ Matches ds)) × (other ≡ Mismatch))
first_apart first second Unfinished other e = cc
first_apart first second Mismatch other e = inl refl
first_apart first second (Matches ds) Unfinished e = cc
first_apart first second (Matches ds) Mismatch e = inr ((ds, refl), refl)
first_apart first second (Matches ds) (Matches es) e = cc

-- where the first is there it is the first of both, and else it is the second
there_first : (one other : Option Pair) → IsTrue (is_some one) → first_of one other ≡ one
there_first (Some p) other is = refl
there_first None other is = cc

later_first : (one other : Option Pair) → one ≡ None → first_of one other ≡ other
later_first (Some p) other e = cc
later_first None other e = refl

clash : (ds : List Demand) → Matches ds ≡ Mismatch → ⊥
clash ds e = cc

-- no two shapes match and do not
pub not_both : (g : Context) (l r : Shape) (n m : ℕ) (ds : List Demand) → comparison n g l r ≡ Matches ds → comparison m g l r ≡ Mismatch → ⊥
not_both g l r n m ds e f = clash ds (comparison_same g l r n m (Matches ds) Mismatch e f (λ u. cc) (λ u. cc))

-- functions
function_by_form : (n : ℕ) (g : Context) (t u t' u' : CapturingType)
    → by_form (comparison n) g (FunctionShape t.shape t.set u.shape u.set) (FunctionShape t'.shape t'.set u'.shape u'.set)
    ≡ and_then (types_compared (comparison n) g t' t)
    (types_compared (comparison n) (entry_of t' ∷ g) (opened_type (length g) u) (opened_type (length g) u'))
unfolding by_form
function_by_form n g t u t' u' = refl

function_in_parts : (n : ℕ) (g : Context) (t u t' u' : CapturingType)
    → by_parts (mismatch n) g (FunctionShape t.shape t.set u.shape u.set) (FunctionShape t'.shape t'.set u'.shape u'.set)
    ≡ first_of (mismatch n g t'.shape t.shape)
    (mismatch n (entry_of t' ∷ g) (opened_type (length g) u).shape (opened_type (length g) u').shape)
function_in_parts n g t u t' u' = refl

module _ (g : Context) (t u t' u' : CapturingType) (formed : IsWellFormedContext g)
    (left : IsWellFormedShape g (FunctionShape t.shape t.set u.shape u.set))
    (right : IsWellFormedShape g (FunctionShape t'.shape t'.set u'.shape u'.set)) where
  kinds_left : IsKinded (kinds_of g) [] (FunctionShape t.shape t.set u.shape u.set)
  kinds_left = IsKinded-from (kinds_of g) [] (FunctionShape t.shape t.set u.shape u.set) left

  kinds_right : IsKinded (kinds_of g) [] (FunctionShape t'.shape t'.set u'.shape u'.set)
  kinds_right = IsKinded-from (kinds_of g) [] (FunctionShape t'.shape t'.set u'.shape u'.set) right

  pub takes_formed : IsWellFormedType g t'
  takes_formed = IsKindedType-test (kinds_of g) [] t' (kinds_right.0, kinds_right.1)

  pub takes_leads : comparison most_steps g t'.shape t.shape ≡ Mismatch
      → LeadsTo (pair g (FunctionShape t.shape t.set u.shape u.set) (FunctionShape t'.shape t'.set u'.shape u'.set))
      (Some (pair g t'.shape t.shape))
  takes_leads not = (
    (formed, IsKinded-test (kinds_of g) [] t'.shape kinds_right.0, IsKinded-test (kinds_of g) [] t.shape kinds_left.0),
    λ n e.
        let step = stepped n g (FunctionShape t.shape t.set u.shape u.set) (FunctionShape t'.shape t'.set u'.shape u'.set) e in
        let under = entry_of t' ∷ g in
        let one = opened_type (length g) u in
        let other = opened_type (length g) u' in
        let either = first_apart (demanded g t'.set t.set ∷ []) (demanded under one.set other.set ∷ [])
        (comparison n g t'.shape t.shape) (comparison n under one.shape other.shape)
        (sym (function_by_form n g t u t' u') ∙ step.0) in
        let is : comparison n g t'.shape t.shape ≡ Mismatch =
        elim either [ inl is ↦ is | inr both ↦ absurd (not_both g t'.shape t.shape n most_steps both.0.0 both.0.1 not) ] in (
          is,
          step.1 ∙ function_in_parts n g t u t' u' ∙ there_first (mismatch n g t'.shape t.shape) (mismatch n under one.shape other.shape)
              (mismatches_are_found n g t'.shape t.shape is),
        ),
  )

  pub gives_leads : IsMatched (comparison most_steps g t'.shape t.shape) true
      → LeadsTo (pair g (FunctionShape t.shape t.set u.shape u.set) (FunctionShape t'.shape t'.set u'.shape u'.set))
      (Some (pair (entry_of t' ∷ g) (opened_type (length g) u).shape (opened_type (length g) u').shape))
  gives_leads match = (
    (
      with_term g t' formed takes_formed,
      IsKinded-test (kinds_of (entry_of t' ∷ g)) [] (opened_type (length g) u).shape (opened_kinded ShapeSort g (entry_of t') u.shape kinds_left.2),
      IsKinded-test (kinds_of (entry_of t' ∷ g)) [] (opened_type (length g) u').shape (opened_kinded ShapeSort g (entry_of t') u'.shape kinds_right.2),
    ),
    λ n e.
        let step = stepped n g (FunctionShape t.shape t.set u.shape u.set) (FunctionShape t'.shape t'.set u'.shape u'.set) e in
        let under = entry_of t' ∷ g in
        let one = opened_type (length g) u in
        let other = opened_type (length g) u' in
        let either = first_apart (demanded g t'.set t.set ∷ []) (demanded under one.set other.set ∷ [])
        (comparison n g t'.shape t.shape) (comparison n under one.shape other.shape)
        (sym (function_by_form n g t u t' u') ∙ step.0) in
        let both : ((ds : List Demand) × (comparison n g t'.shape t.shape ≡ Matches ds)) × (comparison n under one.shape other.shape ≡ Mismatch) =
        elim either [ inl is ↦ absurd (not_both g t'.shape t.shape most_steps n match.0 match.1 is) | inr both ↦ both ] in (
          both.1,
          step.1 ∙ function_in_parts n g t u t' u' ∙ later_first (mismatch n g t'.shape t.shape) (mismatch n under one.shape other.shape)
              (matches_have_no_parts n g t'.shape t.shape both.0.0 both.0.1),
        ),
  )

-- type functions
type_function_by_form : (n : ℕ) (g : Context) (b b' : Shape) (u u' : CapturingType)
    → by_form (comparison n) g (TypeFunctionShape b u.shape u.set) (TypeFunctionShape b' u'.shape u'.set)
    ≡ cond (same_shape b b') (types_compared (comparison n) (TypeEntry b ∷ g) (opened_type (length g) u) (opened_type (length g) u')) Mismatch
unfolding by_form
type_function_by_form n g b b' u u' = refl

type_function_in_parts : (n : ℕ) (g : Context) (b b' : Shape) (u u' : CapturingType)
    → by_parts (mismatch n) g (TypeFunctionShape b u.shape u.set) (TypeFunctionShape b' u'.shape u'.set)
    ≡ cond (same_shape b b') (mismatch n (TypeEntry b ∷ g) (opened_type (length g) u).shape (opened_type (length g) u').shape)
    (Some (pair g (TypeFunctionShape b u.shape u.set) (TypeFunctionShape b' u'.shape u'.set)))
type_function_in_parts n g b b' u u' = refl

module _ (g : Context) (b b' : Shape) (u u' : CapturingType) (formed : IsWellFormedContext g)
    (left : IsWellFormedShape g (TypeFunctionShape b u.shape u.set))
    (right : IsWellFormedShape g (TypeFunctionShape b' u'.shape u'.set)) where
  bound_left : IsKinded (kinds_of g) [] (TypeFunctionShape b u.shape u.set)
  bound_left = IsKinded-from (kinds_of g) [] (TypeFunctionShape b u.shape u.set) left

  bound_right : IsKinded (kinds_of g) [] (TypeFunctionShape b' u'.shape u'.set)
  bound_right = IsKinded-from (kinds_of g) [] (TypeFunctionShape b' u'.shape u'.set) right

  pub bound_formed : IsWellFormedShape g b
  bound_formed = IsKinded-test (kinds_of g) [] b bound_left.0

  pub results_lead : same_shape b b' ≡ true
      → LeadsTo (pair g (TypeFunctionShape b u.shape u.set) (TypeFunctionShape b' u'.shape u'.set))
      (Some (pair (TypeEntry b ∷ g) (opened_type (length g) u).shape (opened_type (length g) u').shape))
  results_lead same = (
    (
      with_type g b formed bound_formed,
      IsKinded-test (kinds_of (TypeEntry b ∷ g)) [] (opened_type (length g) u).shape (opened_kinded ShapeSort g (TypeEntry b) u.shape bound_left.1),
      IsKinded-test (kinds_of (TypeEntry b ∷ g)) [] (opened_type (length g) u').shape (opened_kinded ShapeSort g (TypeEntry b) u'.shape bound_right.1),
    ),
    λ n e.
        let step = stepped n g (TypeFunctionShape b u.shape u.set) (TypeFunctionShape b' u'.shape u'.set) e in
        let under = TypeEntry b ∷ g in
        let one = opened_type (length g) u in
        let other = opened_type (length g) u' in
        let compared = types_compared (comparison n) under one other in
        let is = sym (cond-true (same_shape b b') compared Mismatch same) ∙ sym (type_function_by_form n g b b' u u') ∙ step.0 in (
          behind (demanded under one.set other.set ∷ []) (comparison n under one.shape other.shape) is,
          step.1 ∙ type_function_in_parts n g b b' u u'
              ∙ cond-true (same_shape b b') (mismatch n under one.shape other.shape)
              (Some (pair g (TypeFunctionShape b u.shape u.set) (TypeFunctionShape b' u'.shape u'.set))) same,
        ),
  )

pub results_stay : (g : Context) (b b' : Shape) (u u' : CapturingType) → same_shape b b' ≡ false
    → LeadsTo (pair g (TypeFunctionShape b u.shape u.set) (TypeFunctionShape b' u'.shape u'.set)) None
results_stay g b b' u u' same =
    stays g (TypeFunctionShape b u.shape u.set) (TypeFunctionShape b' u'.shape u'.set)
    (λ n e. type_function_in_parts n g b b' u u'
    ∙ cond-false (same_shape b b') (mismatch n (TypeEntry b ∷ g) (opened_type (length g) u).shape (opened_type (length g) u').shape)
    (Some (pair g (TypeFunctionShape b u.shape u.set) (TypeFunctionShape b' u'.shape u'.set))) same)

-- boxes
box_by_form : (n : ℕ) (g : Context) (t t' : CapturingType)
    → by_form (comparison n) g (BoxShape t.shape t.set) (BoxShape t'.shape t'.set) ≡ types_compared (comparison n) g t t'
unfolding by_form
box_by_form n g t t' = refl

pub contents_lead : (g : Context) (t t' : CapturingType) → IsWellFormedContext g → IsWellFormedShape g (BoxShape t.shape t.set)
    → IsWellFormedShape g (BoxShape t'.shape t'.set)
    → LeadsTo (pair g (BoxShape t.shape t.set) (BoxShape t'.shape t'.set)) (Some (pair g t.shape t'.shape))
contents_lead g t t' formed left right =
    let one = IsKinded-from (kinds_of g) [] (BoxShape t.shape t.set) left in
    let other = IsKinded-from (kinds_of g) [] (BoxShape t'.shape t'.set) right in (
      (formed, IsKinded-test (kinds_of g) [] t.shape one.0, IsKinded-test (kinds_of g) [] t'.shape other.0),
      λ n e.
          let step = stepped n g (BoxShape t.shape t.set) (BoxShape t'.shape t'.set) e in
          (behind (demanded g t.set t'.set ∷ []) (comparison n g t.shape t'.shape) (sym (box_by_form n g t t') ∙ step.0), step.1),
    )

-- The way down: what it leads to, and that it is left in the end.
pub steps_left : (root parts : Pair) (steps : ℕ) → IsOnTheWay root parts steps → 1 ≤ steps
steps_left root parts zero way = absurd (unfinished parts.context parts.found parts.wanted way.1)
steps_left root parts (suc n) way = omega arith

pub way_begins : (root : Pair) (steps : ℕ) → IsWellFormedPair root → pair_compared steps root ≡ Mismatch → IsOnTheWay root root steps
way_begins root steps formed not = (formed, not, λ k e. (k, e, refl))

one_less : (n : ℕ) → n ≡ suc n - 1
one_less n = omega arith

further : (parts inner : Pair) (j : ℕ) (found : Option Pair) → LeadsTo parts (Some inner) → pair_compared j parts ≡ Mismatch
    → found ≡ first_parts j parts → (i : ℕ) × (pair_compared i inner ≡ Mismatch) × (found ≡ first_parts i inner)
further parts inner zero found leads e is = absurd (unfinished parts.context parts.found parts.wanted e)
further parts inner (suc i) found leads e is = let next = leads.1 i e in (i, next.0, is ∙ next.1)

pub way_goes_on : (root parts inner : Pair) (steps : ℕ) → LeadsTo parts (Some inner) → IsOnTheWay root parts steps
    → IsOnTheWay root inner (steps - 1)
way_goes_on root parts inner zero leads way = absurd (unfinished parts.context parts.found parts.wanted way.1)
way_goes_on root parts inner (suc n) leads way = (
  leads.0,
  subst (λ i. pair_compared i inner ≡ Mismatch) (one_less n) (leads.1 n way.1).0,
  λ k e. let here = way.2 k e in further parts inner here.0 (first_parts k root) leads here.1 here.2,
)

pub way_ends : (root parts : Pair) (steps : ℕ) → LeadsTo parts None → IsOnTheWay root parts steps → AreFirstParts root parts
way_ends root parts steps leads way = λ k e. let here = way.2 k e in here.2 ∙ leads here.0 here.1
