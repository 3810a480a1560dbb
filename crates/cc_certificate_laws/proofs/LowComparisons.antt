-- The canonical comparisons of what is low are low.
use Rattle.std.proofs.Common.{◌≡◌, ℕ, zero, suc, ◌≤◌, Bool, true, false, cond, List, [], ◌∷◌, length, Option, Some, None, inl, inr, refl, subst, arith}
use Rattle.std.specs.Prelude.{max, nat_eq}
use Rattle.std.specs.List.{AllByRecursion}
use Rattle.cc_capture.specs.declared.var.Var.{Var}
use Rattle.cc_capture.specs.declared.var.Var.TheVariants.{Bound, Free}
use Rattle.cc_capture.specs.declared.var.Elem.{Elem}
use Rattle.cc_capture.specs.declared.var.Elem.TheVariants.{Var as Variable, Cap, Hole}
use Rattle.cc_capture.specs.Sets.{Set, contains}
use Rattle.cc_core.specs.Shapes.{Shape, BaseShape, AnyShape, TypeVariable, FunctionShape, TypeFunctionShape, BoxShape, ExitShape, CapturingType, capturing}
use Rattle.cc_core.specs.Contexts.{Bind, TermEntry, TypeEntry, Context, lookup}
use Rattle.cc_core.specs.Equality.{same_shape}
use Rattle.cc_core.specs.Substitution.{put_variable, opened_type}
use Rattle.cc_core.specs.Derivations.{Derivation}
use Rattle.cc_core.proofs.Lookups.{lookup-cases}
use Rattle.cc_checking.specs.Comparison.{bound_in, bound_of, is_any}
use Rattle.cc_checking.specs.Weights.{enough_steps}
use Rattle.cc_checking.specs.CanonicalDerivations.{Deriving, premises_for, elements_derived, derived_at, element_derived, set_derived, type_derived, alike_derived, bound_derived, functions_derived, type_functions_derived, boxes_derived, form_derived, shape_derived, canonical_shapes}
use Rattle.cc_certificate_text.specs.Heights.{shape_height}
use Rattle.cc_certificate_laws.specs.DefinitionLaws.{IsLow, AreLow, IsLowEntry}
use Rattle.cc_certificate_laws.proofs.BareShapes.{height-moving}

-- the shape has a height that may be written
abbrev pub Low : Shape → Type 0
Low s = shape_height s ≤ 5000

abbrev pub LowContext : Context → Type 0
LowContext g = AllByRecursion IsLowEntry g

pub low_entry : (g : Context) (p : ℕ) (b : Bind) → LowContext g → lookup g p ≡ Some b → IsLowEntry b
low_entry [] p b low e = cc
low_entry (x ∷ g) p b low e =
    elim (lookup-cases x g p b e) as (λ _. IsLowEntry b) [
      | inl here ↦ subst IsLowEntry here.1 low.0
      | inr older ↦ low_entry g p b low.1 older
    ]

pub either : (b : Bool) (x y : Derivation) → IsLow x → IsLow y → IsLow (cond b x y)
either true x y h k = h
either false x y h k = k

nothing : 0 ≤ 5000
nothing = omega arith

pub higher : (m n : ℕ) → m ≤ 5000 → n ≤ 5000 → max m n ≤ 5000
higher m n h k = omega arith

-- sets have no height
premises_low : (derive : Elem → Derivation) → ((e : Elem) → IsLow (derive e)) → (es : List Elem)
    → AreLow (premises_for derive es)
premises_low derive each [] = tt
premises_low derive each (e ∷ es) = (each e, premises_low derive each es)

elements_low : (derive : Elem → Derivation) → ((e : Elem) → IsLow (derive e)) → (left right : Set)
    → IsLow (elements_derived derive left right)
elements_low derive each left right = (nothing, premises_low derive each left.list)

derived_at_low : (deeper : Elem → Derivation) (entry : Bind) (n : ℕ) (right : Set) (e : Elem)
    → ((x : Elem) → IsLow (deeper x))
    → IsLow (derived_at deeper entry n right e)
derived_at_low deeper (TermEntry shape declared) n right (Variable (Free other)) each =
    either (nat_eq other n) _ _ (nothing, (elements_low deeper each declared right, tt)) (each (Variable (Free other)))
derived_at_low deeper (TermEntry shape declared) n right (Variable (Bound i)) each = each (Variable (Bound i))
derived_at_low deeper (TermEntry shape declared) n right Cap each = each Cap
derived_at_low deeper (TermEntry shape declared) n right (Hole h) each = each (Hole h)
derived_at_low deeper (TypeEntry bound) n right e each = each e

element_low : (g : Context) (right : Set) (e : Elem) → IsLow (element_derived g right e)
element_low [] right e = (nothing, tt)
element_low (entry ∷ older) right e =
    either (contains e right) _ _ (nothing, tt)
    (derived_at_low (element_derived older right) entry (length older) right e (λ x. element_low older right x))

set_low : (g : Context) (left right : Set) → IsLow (set_derived g left right)
set_low g left right = elements_low (element_derived g right) (λ e. element_low g right e) left right

-- how shapes are derived to be below each other keeps claims low
abbrev pub DerivesLow : Deriving → Type 0
DerivesLow derive = (g : Context) (l r : Shape) → LowContext g → Low l → Low r → IsLow (derive g l r)

pub type_low : (derive : Deriving) → DerivesLow derive → (g : Context) (l r : CapturingType) → LowContext g
    → Low l.shape → Low r.shape
    → IsLow (type_derived derive g l r)
type_low derive lows g l r low hl hr = (
  higher (shape_height l.shape) (shape_height r.shape) hl hr,
  (set_low g l.set r.set, (lows g l.shape r.shape low hl hr, tt)),
)

alike_low : (l r : Shape) → Low l → Low r → IsLow (alike_derived l r)
alike_low l r hl hr = (higher (shape_height l) (shape_height r) hl hr, tt)

opened_low : (n : ℕ) (t : CapturingType) → Low t.shape → Low (opened_type n t).shape
opened_low n t h = let same = height-moving (put_variable (Free n)) 0 t.shape in omega arith

-- the parts of shapes
pub takes_low : (t u : Shape) (c e : Set) → Low (FunctionShape t c u e) → Low t
takes_low t u c e h = omega arith

pub gives_low : (t u : Shape) (c e : Set) → Low (FunctionShape t c u e) → Low u
gives_low t u c e h = omega arith

pub bound_low : (b u : Shape) (e : Set) → Low (TypeFunctionShape b u e) → Low b
bound_low b u e h = omega arith

pub results_low : (b u : Shape) (e : Set) → Low (TypeFunctionShape b u e) → Low u
results_low b u e h = omega arith

pub content_low : (t : Shape) (c : Set) → Low (BoxShape t c) → Low t
content_low t c h = omega arith

pub exit_low : (t : Shape) → Low (ExitShape t) → Low t
exit_low t h = omega arith

pub low_bound : (g : Context) (v : Var) (b : Shape) → LowContext g → bound_of g v ≡ Some b → Low b
low_bound g (Bound i) b low is = cc
low_bound g (Free p) b low is = from (lookup g p) refl is
  where
    from : (o : Option Bind) → lookup g p ≡ o → bound_in o ≡ Some b → Low b
    from (Some (TypeEntry x)) found same = subst Low (let e : x ≡ b = cc in e) (low_entry g p (TypeEntry x) low found)
    from (Some (TermEntry s c)) found same = cc
    from None found same = cc

variable_low : (v : Var) → Low (TypeVariable v)
variable_low v = omega arith

bounds_low : (derive : Deriving) → DerivesLow derive → (g : Context) (v : Var) (o : Option Shape) (right : Shape)
    → LowContext g
    → ((b : Shape) → o ≡ Some b → Low b) → Low right → IsLow (bound_derived derive g v o right)
bounds_low derive lows g v (Some b) right low bounds h =
    let k = bounds b refl in (
      higher 1 (shape_height right) (variable_low v) h,
      ((higher 1 (shape_height b) (variable_low v) k, tt), (lows g b right low k h, tt)),
    )
bounds_low derive lows g v None right low bounds h = alike_low (TypeVariable v) right (variable_low v) h

functions_low : (derive : Deriving) → DerivesLow derive → (g : Context) (t : Shape) (c : Set) (u : Shape) (e : Set)
    (right : Shape)
    → LowContext g → Low (FunctionShape t c u e) → Low right
    → IsLow (functions_derived derive g (capturing t c) (capturing u e) right)
functions_low derive lows g t c u e (FunctionShape t' c' u' e') low hl hr = (
  higher (shape_height (FunctionShape t c u e)) (shape_height (FunctionShape t' c' u' e')) hl hr,
  (
    type_low derive lows g (capturing t' c') (capturing t c) low (takes_low t' u' c' e' hr) (takes_low t u c e hl),
    (
      type_low derive lows (TermEntry t' c' ∷ g) (opened_type (length g) (capturing u e))
          (opened_type (length g) (capturing u' e'))
          (takes_low t' u' c' e' hr, low) (opened_low (length g) (capturing u e) (gives_low t u c e hl))
          (opened_low (length g) (capturing u' e') (gives_low t' u' c' e' hr)),
      tt,
    ),
  ),
)
functions_low derive lows g t c u e (BaseShape b) low hl hr = alike_low (FunctionShape t c u e) (BaseShape b) hl hr
functions_low derive lows g t c u e AnyShape low hl hr = alike_low (FunctionShape t c u e) AnyShape hl hr
functions_low derive lows g t c u e (TypeVariable v) low hl hr =
    alike_low (FunctionShape t c u e) (TypeVariable v) hl hr
functions_low derive lows g t c u e (TypeFunctionShape b' u' e') low hl hr =
    alike_low (FunctionShape t c u e) (TypeFunctionShape b' u' e') hl hr
functions_low derive lows g t c u e (BoxShape t' c') low hl hr =
    alike_low (FunctionShape t c u e) (BoxShape t' c') hl hr
functions_low derive lows g t c u e (ExitShape t') low hl hr = alike_low (FunctionShape t c u e) (ExitShape t') hl hr

type_functions_low : (derive : Deriving) → DerivesLow derive → (g : Context) (b u : Shape) (e : Set) (right : Shape)
    → LowContext g → Low (TypeFunctionShape b u e) → Low right
    → IsLow (type_functions_derived derive g b (capturing u e) right)
type_functions_low derive lows g b u e (TypeFunctionShape b' u' e') low hl hr = (
  higher (shape_height (TypeFunctionShape b u e)) (shape_height (TypeFunctionShape b' u' e')) hl hr,
  (
    alike_low b b' (bound_low b u e hl) (bound_low b' u' e' hr),
    (
      type_low derive lows (TypeEntry b ∷ g) (opened_type (length g) (capturing u e))
          (opened_type (length g) (capturing u' e'))
          (bound_low b u e hl, low) (opened_low (length g) (capturing u e) (results_low b u e hl))
          (opened_low (length g) (capturing u' e') (results_low b' u' e' hr)),
      tt,
    ),
  ),
)
type_functions_low derive lows g b u e (FunctionShape t' c' u' e') low hl hr =
    alike_low (TypeFunctionShape b u e) (FunctionShape t' c' u' e') hl hr
type_functions_low derive lows g b u e (BaseShape b') low hl hr =
    alike_low (TypeFunctionShape b u e) (BaseShape b') hl hr
type_functions_low derive lows g b u e AnyShape low hl hr = alike_low (TypeFunctionShape b u e) AnyShape hl hr
type_functions_low derive lows g b u e (TypeVariable v) low hl hr =
    alike_low (TypeFunctionShape b u e) (TypeVariable v) hl hr
type_functions_low derive lows g b u e (BoxShape t' c') low hl hr =
    alike_low (TypeFunctionShape b u e) (BoxShape t' c') hl hr
type_functions_low derive lows g b u e (ExitShape t') low hl hr =
    alike_low (TypeFunctionShape b u e) (ExitShape t') hl hr

boxes_low : (derive : Deriving) → DerivesLow derive → (g : Context) (t : Shape) (c : Set) (right : Shape) → LowContext g
    → Low (BoxShape t c) → Low right → IsLow (boxes_derived derive g (capturing t c) right)
boxes_low derive lows g t c (BoxShape t' c') low hl hr = (
  higher (shape_height (BoxShape t c)) (shape_height (BoxShape t' c')) hl hr,
  (type_low derive lows g (capturing t c) (capturing t' c') low (content_low t c hl) (content_low t' c' hr), tt),
)
boxes_low derive lows g t c (FunctionShape t' c' u' e') low hl hr =
    alike_low (BoxShape t c) (FunctionShape t' c' u' e') hl hr
boxes_low derive lows g t c (TypeFunctionShape b' u' e') low hl hr =
    alike_low (BoxShape t c) (TypeFunctionShape b' u' e') hl hr
boxes_low derive lows g t c (BaseShape b') low hl hr = alike_low (BoxShape t c) (BaseShape b') hl hr
boxes_low derive lows g t c AnyShape low hl hr = alike_low (BoxShape t c) AnyShape hl hr
boxes_low derive lows g t c (TypeVariable v) low hl hr = alike_low (BoxShape t c) (TypeVariable v) hl hr
boxes_low derive lows g t c (ExitShape t') low hl hr = alike_low (BoxShape t c) (ExitShape t') hl hr

form_low : (derive : Deriving) → DerivesLow derive → DerivesLow (form_derived derive)
unfolding form_derived
form_low derive lows g (BaseShape b) r low hl hr = alike_low (BaseShape b) r hl hr
form_low derive lows g AnyShape r low hl hr = alike_low AnyShape r hl hr
form_low derive lows g (TypeVariable v) r low hl hr =
    bounds_low derive lows g v (bound_of g v) r low (λ b is. low_bound g v b low is) hr
form_low derive lows g (FunctionShape t c u e) r low hl hr = functions_low derive lows g t c u e r low hl hr
form_low derive lows g (TypeFunctionShape b u e) r low hl hr = type_functions_low derive lows g b u e r low hl hr
form_low derive lows g (BoxShape t c) r low hl hr = boxes_low derive lows g t c r low hl hr
form_low derive lows g (ExitShape u) r low hl hr = alike_low (ExitShape u) r hl hr

any_low : (l r : Shape) → Low l → Low r → max (shape_height l) (shape_height r) ≤ 5000
any_low l r hl hr = higher (shape_height l) (shape_height r) hl hr

shapes_low : (steps : ℕ) → DerivesLow (shape_derived steps)
unfolding shape_derived
shapes_low zero g l r low hl hr = alike_low l r hl hr
shapes_low (suc steps) g l r low hl hr =
    either (same_shape l r) _ _ (alike_low l r hl hr)
    (either (is_any r) _ _ (any_low l r hl hr, tt) (form_low (shape_derived steps) (shapes_low steps) g l r low hl hr))

pub canonical_low : DerivesLow canonical_shapes
canonical_low g l r low hl hr = shapes_low (enough_steps g l r) g l r low hl hr
