-- What is well formed and without holes is closed at its place.
use Rattle.std.proofs.Common.{◌≡◌, ℕ, zero, suc, ◌+◌, ◌≤◌, List, [], ◌∷◌, length, Some, refl, arith}
use Rattle.cc_capture.specs.declared.var.Var.{Var}
use Rattle.cc_capture.specs.declared.var.Var.TheVariants.{Bound, Free}
use Rattle.cc_capture.specs.declared.var.Elem.{Elem}
use Rattle.cc_capture.specs.declared.var.Elem.TheVariants.{Var as Variable, Cap, Hole}
use Rattle.cc_capture.specs.Sets.{Set}
use Rattle.cc_core.specs.Shapes.{Shape, BaseShape, AnyShape, TypeVariable, FunctionShape, TypeFunctionShape, BoxShape, ExitShape, CapturingType}
use Rattle.cc_core.specs.Contexts.{lookup}
use Rattle.cc_core.specs.WellFormed.{Kind, TermKind, TypeKind}
use Rattle.cc_core.specs.Occurrences.{Meets, MeetsInSet, MeetsInType, without_holes, IsNoHole}
use Rattle.cc_core.proofs.KindFacts.{IsOfKind, IsKindedElement, IsKindedSet, IsKinded, IsKindedType}
use Rattle.cc_core.proofs.Lookups.{lookup-below, slice_get-within}
use Rattle.cc_certificate_laws.specs.CertificateLaws.{IsClosed, IsClosedElement, IsClosedType, closed_at}

-- the oldest positions, so many, have no kind of types
abbrev pub AreNames : ℕ → List Kind → Type 0
AreNames names kinds = (p : ℕ) → lookup kinds p ≡ Some TypeKind → names ≤ p

module _ (names locals : ℕ) (kinds : List Kind) (size : length kinds ≡ names + locals) (old : AreNames names kinds) where
  variable_closed : (passed : List Kind) (d : ℕ) (kind : Kind) (v : Var) → d ≡ length passed
      → IsOfKind kinds passed v kind → IsClosed names locals d v
  variable_closed passed d kind (Bound i) at is = let low = slice_get-within passed i kind is in omega (arith, at, low)
  variable_closed passed d kind (Free p) at is = let low = lookup-below kinds p kind is in omega (arith, size, low)

  type_variable_closed : (passed : List Kind) (d : ℕ) (v : Var) → d ≡ length passed
      → IsOfKind kinds passed v TypeKind → IsClosedType names locals d v
  type_variable_closed passed d (Bound i) at is = let low = slice_get-within passed i TypeKind is in omega (arith, at, low)
  type_variable_closed passed d (Free p) at is =
      let low = lookup-below kinds p TypeKind is in (old p is, omega (arith, size, low))

  element_closed : (passed : List Kind) (d : ℕ) (e : Elem) → d ≡ length passed → IsKindedElement kinds passed e
      → IsNoHole e → IsClosedElement names locals d e
  element_closed passed d (Variable v) at is hole = variable_closed passed d TermKind v at is
  element_closed passed d Cap at is hole = tt
  element_closed passed d (Hole number) at is hole = absurd hole

  pub set_closed : (passed : List Kind) (d h : ℕ) (set : Set) → d ≡ length passed → IsKindedSet kinds passed set
      → MeetsInSet without_holes h set → MeetsInSet (closed_at names locals) d set
  set_closed passed d h set at is holes = λ e m. element_closed passed d e at (is e m) (holes e m)

  pub shape_closed : (passed : List Kind) (d h : ℕ) (s : Shape) → d ≡ length passed → IsKinded kinds passed s
      → Meets without_holes h s → Meets (closed_at names locals) d s
  shape_closed passed d h (BaseShape base) at is holes = tt
  shape_closed passed d h AnyShape at is holes = tt
  shape_closed passed d h (TypeVariable v) at is holes = type_variable_closed passed d v at is
  shape_closed passed d h (FunctionShape takes c gives e) at is holes =
      let deeper : suc d ≡ length (TermKind ∷ passed) = omega (arith, at) in (
        shape_closed passed d h takes at is.0 holes.0,
        set_closed passed d h c at is.1 holes.1,
        shape_closed (TermKind ∷ passed) (suc d) (suc h) gives deeper is.2 holes.2,
        set_closed (TermKind ∷ passed) (suc d) (suc h) e deeper is.3 holes.3,
      )
  shape_closed passed d h (TypeFunctionShape bound gives e) at is holes =
      let deeper : suc d ≡ length (TypeKind ∷ passed) = omega (arith, at) in (
        shape_closed passed d h bound at is.0 holes.0,
        shape_closed (TypeKind ∷ passed) (suc d) (suc h) gives deeper is.1 holes.1,
        set_closed (TypeKind ∷ passed) (suc d) (suc h) e deeper is.2 holes.2,
      )
  shape_closed passed d h (BoxShape content c) at is holes =
      (shape_closed passed d h content at is.0 holes.0, set_closed passed d h c at is.1 holes.1)
  shape_closed passed d h (ExitShape gives) at is holes = shape_closed passed d h gives at is holes

  pub type_closed : (type : CapturingType) → IsKindedType kinds [] type → MeetsInType without_holes zero type
      → MeetsInType (closed_at names locals) 0 type
  type_closed type is holes =
      (shape_closed [] 0 zero type.shape refl is.0 holes.0, set_closed [] 0 zero type.set refl is.1 holes.1)
