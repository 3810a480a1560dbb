-- The canonical comparisons of what has no hole have none, and go by bounds.
use Rattle.std.proofs.Common.{◌≡◌, ℕ, zero, suc, Bool, true, false, cond, List, [], ◌∷◌, length, Option, Some, None, inl, inr, refl, sym, subst}
use Rattle.std.specs.Prelude.{nat_eq}
use Rattle.std.specs.List.{AllByRecursion}
use Rattle.cc_capture.specs.declared.var.Var.{Var}
use Rattle.cc_capture.specs.declared.var.Var.TheVariants.{Bound, Free}
use Rattle.cc_capture.specs.declared.var.Elem.{Elem}
use Rattle.cc_capture.specs.declared.var.Elem.TheVariants.{Var as Variable, Cap, Hole}
use Rattle.cc_capture.specs.Sets.{Set, contains}
use Rattle.cc_core.specs.Shapes.{Shape, BaseShape, AnyShape, TypeVariable, FunctionShape, TypeFunctionShape, BoxShape, ExitShape, CapturingType, capturing}
use Rattle.cc_core.specs.Contexts.{Bind, TermEntry, TypeEntry, Context, lookup}
use Rattle.cc_core.specs.Equality.{same_shape}
use Rattle.cc_core.specs.Occurrences.{IsNoHole, HasNoHoleInSet}
use Rattle.cc_core.specs.Substitution.{moving, put_variable, opened_type}
use Rattle.cc_core.specs.Derivations.{Claim, SetBelow, ShapeBelow, TypeBelow, OfType, Derivation, Premises, Node, NoPremise, Premise}
use Rattle.cc_core.proofs.Lookups.{lookup-cases}
use Rattle.cc_checking.specs.Comparison.{bound_in, bound_of, is_any}
use Rattle.cc_checking.specs.Weights.{enough_steps}
use Rattle.cc_checking.specs.CanonicalDerivations.{Deriving, premises_for, elements_derived, derived_at, element_derived, set_derived, type_derived, bound_derived, functions_derived, type_functions_derived, boxes_derived, form_derived, shape_derived, canonical_shapes}
use Rattle.cc_checking_laws.proofs.Tameness.{Closed, LeavesHoles-moving, act_closed, act_set_closed, no_hole_single}
use Rattle.cc_certificate_text.proofs.SetOrders.{listed_all}
use Rattle.cc_certificate_laws.specs.CertificateLaws.{GoesByBound}

abbrev pub ClosedType : CapturingType → Type 0
ClosedType type = Closed type.shape × HasNoHoleInSet type.set

-- no set in the claim has a hole
abbrev pub ClosedClaim : Claim → Type 0
ClosedClaim (SetBelow left right) = HasNoHoleInSet left × HasNoHoleInSet right
ClosedClaim (ShapeBelow left right) = Closed left × Closed right
ClosedClaim (TypeBelow left right) = ClosedType left × ClosedType right
ClosedClaim (OfType type) = ClosedType type

abbrev mutual
  -- no claim has a hole, and shapes are compared by bounds
  pub IsHoleless : Derivation → Type 0
  IsHoleless (Node rule premises claim) = ClosedClaim claim × GoesByBound rule premises × AreHoleless premises

  pub AreHoleless : Premises → Type 0
  AreHoleless NoPremise = Unit {0}
  AreHoleless (Premise first rest) = IsHoleless first × AreHoleless rest

abbrev pub ClosedEntry : Bind → Type 0
ClosedEntry (TermEntry shape set) = Closed shape × HasNoHoleInSet set
ClosedEntry (TypeEntry bound) = Closed bound

abbrev pub ClosedContext : Context → Type 0
ClosedContext [] = Unit {0}
ClosedContext (entry ∷ older) = ClosedEntry entry × ClosedContext older

pub closed_entry : (g : Context) (p : ℕ) (b : Bind) → ClosedContext g → lookup g p ≡ Some b → ClosedEntry b
closed_entry [] p b t e = cc
closed_entry (x ∷ g) p b t e =
    elim (lookup-cases x g p b e) as (λ _. ClosedEntry b) [
      | inl here ↦ subst ClosedEntry here.1 t.0
      | inr older ↦ closed_entry g p b t.1 older
    ]

pub either : (b : Bool) (x y : Derivation) → IsHoleless x → IsHoleless y → IsHoleless (cond b x y)
either true x y h k = h
either false x y h k = k

closed_elements : (set : Set) → HasNoHoleInSet set → AllByRecursion IsNoHole set.list
unfolding contains
closed_elements set closed = listed_all IsNoHole set.list closed

abbrev Elementwise : (Elem → Derivation) → Type 0
Elementwise derive = (e : Elem) → IsNoHole e → IsHoleless (derive e)

premises_holeless : (derive : Elem → Derivation) → Elementwise derive → (es : List Elem) → AllByRecursion IsNoHole es
    → AreHoleless (premises_for derive es)
premises_holeless derive each [] all = tt
premises_holeless derive each (e ∷ es) all = (each e all.0, premises_holeless derive each es all.1)

elements_holeless : (derive : Elem → Derivation) → Elementwise derive → (left right : Set) → HasNoHoleInSet left → HasNoHoleInSet right
    → IsHoleless (elements_derived derive left right)
elements_holeless derive each left right l r = ((l, r), tt, premises_holeless derive each left.list (closed_elements left l))

derived_at_holeless : (deeper : Elem → Derivation) (entry : Bind) (n : ℕ) (right : Set) (e : Elem) → Elementwise deeper
    → ClosedEntry entry → HasNoHoleInSet right → IsNoHole e → IsHoleless (derived_at deeper entry n right e)
derived_at_holeless deeper (TermEntry shape declared) n right (Variable (Free other)) each entry r none =
    either (nat_eq other n) _ _
    ((no_hole_single (Variable (Free other)) tt, r), tt, (elements_holeless deeper each declared right entry.1 r, tt))
    (each (Variable (Free other)) tt)
derived_at_holeless deeper (TermEntry shape declared) n right (Variable (Bound i)) each entry r none = each (Variable (Bound i)) none
derived_at_holeless deeper (TermEntry shape declared) n right Cap each entry r none = each Cap none
derived_at_holeless deeper (TermEntry shape declared) n right (Hole h) each entry r none = each (Hole h) none
derived_at_holeless deeper (TypeEntry bound) n right e each entry r none = each e none

element_holeless : (g : Context) (right : Set) (e : Elem) → ClosedContext g → HasNoHoleInSet right → IsNoHole e
    → IsHoleless (element_derived g right e)
element_holeless [] right e closed r none = ((no_hole_single e none, r), tt, tt)
element_holeless (entry ∷ older) right e closed r none =
    either (contains e right) _ _ ((no_hole_single e none, r), tt, tt)
    (derived_at_holeless (element_derived older right) entry (length older) right e
    (λ x k. element_holeless older right x closed.1 r k) closed.0 r none)

set_holeless : (g : Context) (left right : Set) → ClosedContext g → HasNoHoleInSet left → HasNoHoleInSet right
    → IsHoleless (set_derived g left right)
set_holeless g left right closed l r =
    elements_holeless (element_derived g right) (λ e k. element_holeless g right e closed r k) left right l r

-- how shapes are derived to be below each other keeps holes out
abbrev pub Holeless : Deriving → Type 0
Holeless derive = (g : Context) (l r : Shape) → ClosedContext g → Closed l → Closed r → IsHoleless (derive g l r)

pub type_holeless : (derive : Deriving) → Holeless derive → (g : Context) (l r : CapturingType) → ClosedContext g → ClosedType l
    → ClosedType r → IsHoleless (type_derived derive g l r)
type_holeless derive holeless g l r closed cl cr =
    ((cl, cr), tt, (set_holeless g l.set r.set closed cl.1 cr.1, (holeless g l.shape r.shape closed cl.0 cr.0, tt)))

opened_closed : (n : ℕ) (t : CapturingType) → ClosedType t → ClosedType (opened_type n t)
opened_closed n t k = (
  act_closed (moving (put_variable (Free n))) (LeavesHoles-moving (put_variable (Free n))) 0 t.shape k.0,
  act_set_closed (moving (put_variable (Free n))) (LeavesHoles-moving (put_variable (Free n))) 0 t.set k.1,
)

bound_closed : (g : Context) (v : Var) (b : Shape) → ClosedContext g → bound_of g v ≡ Some b → Closed b
bound_closed g (Bound i) b closed is = cc
bound_closed g (Free p) b closed is = from (lookup g p) refl is
  where
    from : (o : Option Bind) → lookup g p ≡ o → bound_in o ≡ Some b → Closed b
    from (Some (TypeEntry x)) found same = subst Closed (let e : x ≡ b = cc in e) (closed_entry g p (TypeEntry x) closed found)
    from (Some (TermEntry s c)) found same = cc
    from None found same = cc

bound_holeless : (derive : Deriving) → Holeless derive → (g : Context) (v : Var) (o : Option Shape) (right : Shape) → ClosedContext g
    → ((b : Shape) → o ≡ Some b → Closed b) → Closed right → IsHoleless (bound_derived derive g v o right)
bound_holeless derive holeless g v (Some b) right closed bounds r =
    let k = bounds b refl in
    ((tt, r), tt, (((tt, k), tt, tt), (holeless g b right closed k r, tt)))
bound_holeless derive holeless g v None right closed bounds r = ((tt, r), tt, tt)

functions_holeless : (derive : Deriving) → Holeless derive → (g : Context) (takes gives : CapturingType) (right : Shape)
    → ClosedContext g → ClosedType takes → ClosedType gives → Closed right
    → IsHoleless (functions_derived derive g takes gives right)
functions_holeless derive holeless g takes gives (FunctionShape t' c' u' e') closed kt kg r = (
  ((kt.0, kt.1, kg.0, kg.1), r),
  tt,
  (
    type_holeless derive holeless g (capturing t' c') takes closed (r.0, r.1) kt,
    (
      type_holeless derive holeless (TermEntry t' c' ∷ g) (opened_type (length g) gives) (opened_type (length g) (capturing u' e'))
          ((r.0, r.1), closed) (opened_closed (length g) gives kg) (opened_closed (length g) (capturing u' e') (r.2, r.3)),
      tt,
    ),
  ),
)
functions_holeless derive holeless g takes gives (BaseShape b) closed kt kg r = (((kt.0, kt.1, kg.0, kg.1), r), tt, tt)
functions_holeless derive holeless g takes gives AnyShape closed kt kg r = (((kt.0, kt.1, kg.0, kg.1), r), tt, tt)
functions_holeless derive holeless g takes gives (TypeVariable v) closed kt kg r = (((kt.0, kt.1, kg.0, kg.1), r), tt, tt)
functions_holeless derive holeless g takes gives (TypeFunctionShape b u e) closed kt kg r = (((kt.0, kt.1, kg.0, kg.1), r), tt, tt)
functions_holeless derive holeless g takes gives (BoxShape t c) closed kt kg r = (((kt.0, kt.1, kg.0, kg.1), r), tt, tt)
functions_holeless derive holeless g takes gives (ExitShape t) closed kt kg r = (((kt.0, kt.1, kg.0, kg.1), r), tt, tt)

type_functions_holeless : (derive : Deriving) → Holeless derive → (g : Context) (bound : Shape) (gives : CapturingType) (right : Shape)
    → ClosedContext g → Closed bound → ClosedType gives → Closed right
    → IsHoleless (type_functions_derived derive g bound gives right)
type_functions_holeless derive holeless g bound gives (TypeFunctionShape b' u' e') closed kb kg r = (
  ((kb, kg.0, kg.1), r),
  tt,
  (
    ((kb, r.0), tt, tt),
    (
      type_holeless derive holeless (TypeEntry bound ∷ g) (opened_type (length g) gives) (opened_type (length g) (capturing u' e'))
          (kb, closed) (opened_closed (length g) gives kg) (opened_closed (length g) (capturing u' e') (r.1, r.2)),
      tt,
    ),
  ),
)
type_functions_holeless derive holeless g bound gives (FunctionShape t c u e) closed kb kg r = (((kb, kg.0, kg.1), r), tt, tt)
type_functions_holeless derive holeless g bound gives (BaseShape b) closed kb kg r = (((kb, kg.0, kg.1), r), tt, tt)
type_functions_holeless derive holeless g bound gives AnyShape closed kb kg r = (((kb, kg.0, kg.1), r), tt, tt)
type_functions_holeless derive holeless g bound gives (TypeVariable v) closed kb kg r = (((kb, kg.0, kg.1), r), tt, tt)
type_functions_holeless derive holeless g bound gives (BoxShape t c) closed kb kg r = (((kb, kg.0, kg.1), r), tt, tt)
type_functions_holeless derive holeless g bound gives (ExitShape t) closed kb kg r = (((kb, kg.0, kg.1), r), tt, tt)

boxes_holeless : (derive : Deriving) → Holeless derive → (g : Context) (content : CapturingType) (right : Shape) → ClosedContext g
    → ClosedType content → Closed right → IsHoleless (boxes_derived derive g content right)
boxes_holeless derive holeless g content (BoxShape t' c') closed k r =
    ((k, r), tt, (type_holeless derive holeless g content (capturing t' c') closed k (r.0, r.1), tt))
boxes_holeless derive holeless g content (FunctionShape t c u e) closed k r = ((k, r), tt, tt)
boxes_holeless derive holeless g content (TypeFunctionShape b u e) closed k r = ((k, r), tt, tt)
boxes_holeless derive holeless g content (BaseShape b) closed k r = ((k, r), tt, tt)
boxes_holeless derive holeless g content AnyShape closed k r = ((k, r), tt, tt)
boxes_holeless derive holeless g content (TypeVariable v) closed k r = ((k, r), tt, tt)
boxes_holeless derive holeless g content (ExitShape t) closed k r = ((k, r), tt, tt)

form_holeless : (derive : Deriving) → Holeless derive → (g : Context) (l r : Shape) → ClosedContext g → Closed l → Closed r
    → IsHoleless (form_derived derive g l r)
unfolding form_derived
form_holeless derive holeless g (BaseShape b) r closed kl kr = ((tt, kr), tt, tt)
form_holeless derive holeless g AnyShape r closed kl kr = ((tt, kr), tt, tt)
form_holeless derive holeless g (TypeVariable v) r closed kl kr =
    bound_holeless derive holeless g v (bound_of g v) r closed (λ b is. bound_closed g v b closed is) kr
form_holeless derive holeless g (FunctionShape t c u e) r closed kl kr =
    functions_holeless derive holeless g (capturing t c) (capturing u e) r closed (kl.0, kl.1) (kl.2, kl.3) kr
form_holeless derive holeless g (TypeFunctionShape b u e) r closed kl kr =
    type_functions_holeless derive holeless g b (capturing u e) r closed kl.0 (kl.1, kl.2) kr
form_holeless derive holeless g (BoxShape t c) r closed kl kr =
    boxes_holeless derive holeless g (capturing t c) r closed (kl.0, kl.1) kr
form_holeless derive holeless g (ExitShape t) r closed kl kr = ((kl, kr), tt, tt)

shapes_holeless : (steps : ℕ) → Holeless (shape_derived steps)
unfolding shape_derived
shapes_holeless zero g l r closed kl kr = ((kl, kr), tt, tt)
shapes_holeless (suc steps) g l r closed kl kr =
    either (same_shape l r) _ _ ((kl, kr), tt, tt)
    (either (is_any r) _ _ ((kl, kr), tt, tt) (form_holeless (shape_derived steps) (shapes_holeless steps) g l r closed kl kr))

pub canonical_holeless : Holeless canonical_shapes
canonical_holeless g l r closed kl kr = shapes_holeless (enough_steps g l r) g l r closed kl kr
