-- A type variable's bound stands in its place when a shape is exposed, and names earlier positions alone.
use Rattle.std.proofs.Common.{◌≡◌, ℕ, suc, ◌<◌, [], length, Option, Some, None, sym, ap, ◌∙◌, arith}
use Rattle.cc_capture.specs.declared.var.Var.{Var}
use Rattle.cc_capture.specs.declared.var.Var.TheVariants.{Bound, Free}
use Rattle.cc_core.specs.Shapes.{Shape, BaseShape, AnyShape, TypeVariable, FunctionShape, TypeFunctionShape, BoxShape}
use Rattle.cc_core.specs.Shapes.{ExitShape}
use Rattle.cc_core.specs.Contexts.{Bind, TermEntry, TypeEntry, Context, lookup}
use Rattle.cc_core.specs.WellFormed.{kinds_of, IsWellFormedShape, IsWellFormedContext}
use Rattle.cc_core.specs.Occurrences.{Meets, positions_below, bound_within}
use Rattle.cc_core.specs.Reading.{read_shape}
use Rattle.cc_core.proofs.ContextEntries.{bound-well_formed, bound-positions_below}
use Rattle.cc_core.proofs.KindFacts.{IsKinded, IsKinded-from}
use Rattle.cc_core.proofs.KindRespecting.{kinds-bound_within}
use Rattle.cc_core.proofs.ReadingAndWriting.{read-still}
use Rattle.cc_core.proofs.Sorts.{ShapeSort, HasKinds-meets}
use Rattle.cc_core.proofs.SubcapturingContexts.{IsKindedContext, entry_kinded, entry_of_type}
use Rattle.cc_checking.specs.Comparison.{bound_in, bound_of}
use Rattle.cc_checking.specs.Exposing.{exposed}
use Rattle.cc_subty.specs.Exposing.{shape_bound}
use Rattle.cc_typing_laws.proofs.ExposingShapes.{exposing_follows, others_stay}

-- one more than the position of a shape that is a type variable
abbrev pub spot : Shape → ℕ
spot (TypeVariable (Free position)) = suc position
spot _ = 0

-- the shape is well formed and is exposed to the same as another
abbrev pub LeadsAlike : Context → Shape → Shape → Type 0
LeadsAlike context shape other = (exposed context other ≡ exposed context shape) × IsWellFormedShape context other

pub bound_entry : (found : Option Bind) (bound : Shape) → bound_in found ≡ Some bound → found ≡ Some (TypeEntry bound)
bound_entry (Some (TypeEntry b)) bound e = ap (λ o. Some (TypeEntry (inside bound o))) e
  where
    inside : Shape → Option Shape → Shape
    inside other (Some s) = s
    inside other None = other
bound_entry (Some (TermEntry s c)) bound e = cc
bound_entry None bound e = cc

spot_below : (position : ℕ) (shape : Shape) → Meets (positions_below position) 0 shape → spot shape < suc position
spot_below position (TypeVariable (Free other)) h = omega arith
spot_below position (TypeVariable (Bound index)) h = omega arith
spot_below position (BaseShape base) h = omega arith
spot_below position AnyShape h = omega arith
spot_below position (FunctionShape t c g e) h = omega arith
spot_below position (TypeFunctionShape b g e) h = omega arith
spot_below position (BoxShape t c) h = omega arith
spot_below position (ExitShape g) h = omega arith

pub bound_leads : (context : Context) (shape reached bound : Shape) → IsWellFormedContext context
    → LeadsAlike context shape reached
    → shape_bound context reached ≡ Some bound → LeadsAlike context shape bound
bound_leads context shape (TypeVariable (Free position)) bound formed leads found =
    let there = bound_entry (lookup context position) bound found in (
      sym (exposing_follows context position bound formed there) ∙ leads.0,
      bound-well_formed context position bound
          formed there,
    )
bound_leads context shape (TypeVariable (Bound index)) bound formed leads found = cc
bound_leads context shape (BaseShape base) bound formed leads found = cc
bound_leads context shape AnyShape bound formed leads found = cc
bound_leads context shape (FunctionShape t c g e) bound formed leads found = cc
bound_leads context shape (TypeFunctionShape b g e) bound formed leads found = cc
bound_leads context shape (BoxShape t c) bound formed leads found = cc
bound_leads context shape (ExitShape g) bound formed leads found = cc

pub bound_spot : (context : Context) (reached bound : Shape) → IsWellFormedContext context
    → shape_bound context reached ≡ Some bound → spot bound < spot reached
bound_spot context (TypeVariable (Free position)) bound formed found =
    let there = bound_entry (lookup context position) bound found in
    spot_below position bound (bound-positions_below context position bound formed there)
bound_spot context (TypeVariable (Bound index)) bound formed found = cc
bound_spot context (BaseShape base) bound formed found = cc
bound_spot context AnyShape bound formed found = cc
bound_spot context (FunctionShape t c g e) bound formed found = cc
bound_spot context (TypeFunctionShape b g e) bound formed found = cc
bound_spot context (BoxShape t c) bound formed found = cc
bound_spot context (ExitShape g) bound formed found = cc

no_bound : (context : Context) (position : ℕ) → IsWellFormedShape context (TypeVariable (Free position))
    → bound_of context (Free position) ≡ None → ⊥
no_bound context position known none =
    let found = entry_of_type context position
    (IsKinded-from (kinds_of context) [] (TypeVariable (Free position)) known) in
    let some = sym none ∙ ap bound_in found.1 in
    cc

pub nothing_leads : (context : Context) (shape reached : Shape) → LeadsAlike context shape reached
    → shape_bound context reached ≡ None → reached ≡ exposed context shape
nothing_leads context shape (TypeVariable (Free position)) leads none = absurd (no_bound context position leads.1 none)
nothing_leads context shape (TypeVariable (Bound index)) leads none = absurd (no_index leads.1)
  where
    no_index : IsWellFormedShape context (TypeVariable (Bound index)) → ⊥
    no_index h = let is = IsKinded-from (kinds_of context) [] (TypeVariable (Bound index)) h in cc
nothing_leads context shape (BaseShape base) leads none = sym (others_stay context (BaseShape base) (λ v e. cc))
    ∙ leads.0
nothing_leads context shape AnyShape leads none = sym (others_stay context AnyShape (λ v e. cc)) ∙ leads.0
nothing_leads context shape (FunctionShape t c g e) leads none = sym
    (others_stay context (FunctionShape t c g e) (λ v x. cc)) ∙ leads.0
nothing_leads context shape (TypeFunctionShape b g e) leads none = sym
    (others_stay context (TypeFunctionShape b g e) (λ v x. cc)) ∙ leads.0
nothing_leads context shape (BoxShape t c) leads none = sym (others_stay context (BoxShape t c) (λ v x. cc)) ∙ leads.0
nothing_leads context shape (ExitShape g) leads none = sym (others_stay context (ExitShape g) (λ v x. cc)) ∙ leads.0

-- a bound is well formed, so it stands as it is read
pub entry_at : (context : Context) (v : Var) (bound : Shape) → IsKindedContext context → bound_of context v ≡ Some bound
    → IsKinded (kinds_of context) [] bound
entry_at context (Free position) bound formed there =
    entry_kinded context position (TypeEntry bound) formed (bound_entry (lookup context position) bound there)
entry_at context (Bound index) bound formed there = cc

pub read_bound : (context : Context) (bound : Shape) → IsKinded (kinds_of context) [] bound
    → read_shape (length context) bound ≡ bound
read_bound context bound h =
    read-still (length context) 0 bound (HasKinds-meets ShapeSort (kinds_of context) [] (bound_within 0)
    (kinds-bound_within (kinds_of context) []) [] bound h)
