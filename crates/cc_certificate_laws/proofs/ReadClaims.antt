-- A claim is read from what is written for it at its place.
use Rattle.std.proofs.Common.{◌≡◌, ℕ, suc, ◌+◌, ◌-◌, ◌<◌, ◌≤◌, true, false, nat_lt, refl, ap, ◌∙◌, arith, ⊎_elim}
use Rattle.std.proofs.lemmas.Bool.{cases_lt}
use Rattle.std.proofs.lemmas.Bool.Decides.{Decides-ltb}
use Rattle.cc_capture.specs.declared.var.Var.{Var}
use Rattle.cc_capture.specs.declared.var.Var.TheVariants.{Bound, Free}
use Rattle.cc_capture.specs.declared.var.Elem.{Elem}
use Rattle.cc_capture.specs.declared.var.Elem.TheVariants.{Var as Variable, Cap, Hole}
use Rattle.cc_capture.specs.Sets.{Set}
use Rattle.cc_capture.proofs.Images.{flat_image-single, image-image, image-congruent, image-identity}
use Rattle.cc_core.specs.Shapes.{Shape, BaseShape, AnyShape, TypeVariable, FunctionShape, TypeFunctionShape, BoxShape, ExitShape, CapturingType, capturing}
use Rattle.cc_core.specs.Traversal.{act, act_set, act_type}
use Rattle.cc_core.specs.Substitution.{moved_element}
use Rattle.cc_core.specs.Occurrences.{Meets, MeetsInSet, MeetsInType}
use Rattle.cc_core.specs.Derivations.{Claim, SetBelow, ShapeBelow, TypeBelow, OfType}
use Rattle.cc_certificate_judging.specs.Judging.{read_variable, reading, read_claim}
use Rattle.cc_certificate_laws.specs.CertificateLines.{numbered_variable, numbered_element, numbered_set, numbered_shape, numbered_type, numbered_claim}
use Rattle.cc_certificate_laws.specs.CertificateLaws.{IsClosed, IsClosedElement, IsClosedType, IsClosedClaim, closed_at}
use Rattle.cc_certificate_laws.proofs.NumberedTexts.{not_below}

together : (names p : ℕ) → names ≤ p → names + (p - names) ≡ p
together names p above = omega (arith, above)

module _ (names locals : ℕ) where
  bound_back : (d depth i : ℕ) → depth ≡ locals + d → i < d
      → read_variable names locals d (numbered_variable names depth (Bound i)) ≡ Bound i
  bound_back d depth i at low =
      let above : nat_lt (depth - 1 - i) locals ≡ false = not_below (depth - 1 - i) locals (omega (arith, at, low)) in
      let within : nat_lt (depth - 1 - i - locals) d ≡ true =
      (Decides-ltb (depth - 1 - i - locals) d).1 (omega (arith, at, low)) in
      rw (above, within) (ap Bound (let e : d - suc (depth - 1 - i - locals) ≡ i = omega (arith, at, low) in e))

  free_back : (d depth p : ℕ) → p < names + locals
      → read_variable names locals d (numbered_variable names depth (Free p)) ≡ Free p
  free_back d depth p low =
      ⊎_elim (λ below. rw ((Decides-ltb p names).1 below) refl)
      (λ above. (let local : nat_lt (p - names) locals ≡ true = (Decides-ltb (p - names) locals).1 (omega (arith, low, above)) in
      rw (not_below p names above, local) (ap Free (together names p above))))
      (cases_lt p names)

  variable_back : (d depth : ℕ) (v : Var) → depth ≡ locals + d → IsClosed names locals d v
      → read_variable names locals d (numbered_variable names depth v) ≡ v
  variable_back d depth (Bound i) at closed = bound_back d depth i at closed
  variable_back d depth (Free p) at closed = free_back d depth p closed

  type_variable_back : (d depth : ℕ) (v : Var) → depth ≡ locals + d → IsClosedType names locals d v
      → read_variable names locals d (numbered_variable names depth v) ≡ v
  type_variable_back d depth (Bound i) at closed = bound_back d depth i at closed
  type_variable_back d depth (Free p) at closed = free_back d depth p closed.1

  element_back : (d depth : ℕ) (e : Elem) → depth ≡ locals + d → IsClosedElement names locals d e
      → moved_element (read_variable names locals d) (numbered_element names depth e) ≡ e
  element_back d depth (Variable v) at closed = ap Variable (variable_back d depth v at closed)
  element_back d depth Cap at closed = refl
  element_back d depth (Hole hole) at closed = refl

  set_back : (d depth : ℕ) (set : Set) → depth ≡ locals + d → MeetsInSet (closed_at names locals) d set
      → act_set (reading names locals) d (numbered_set names depth set) ≡ set
  set_back d depth set at closed =
      flat_image-single (λ e. moved_element (read_variable names locals d) e) (numbered_set names depth set)
      ∙ (image-image (λ e. moved_element (read_variable names locals d) e) (numbered_element names depth) set
      ∙ (image-congruent (λ e. moved_element (read_variable names locals d) (numbered_element names depth e)) (λ e. e) set
      (λ e m. element_back d depth e at (closed e m)) ∙ image-identity set))

  shape_back : (d depth : ℕ) (s : Shape) → depth ≡ locals + d → Meets (closed_at names locals) d s
      → act (reading names locals) d (numbered_shape names depth s) ≡ s
  shape_back d depth (BaseShape base) at closed = refl
  shape_back d depth AnyShape at closed = refl
  shape_back d depth (TypeVariable v) at closed = ap TypeVariable (type_variable_back d depth v at closed)
  shape_back d depth (FunctionShape takes c gives e) at closed =
      let deeper : suc depth ≡ locals + suc d = omega (arith, at) in
      let one = shape_back d depth takes at closed.0 in
      let two = set_back d depth c at closed.1 in
      let three = shape_back (suc d) (suc depth) gives deeper closed.2 in
      let four = set_back (suc d) (suc depth) e deeper closed.3 in
      λ i. FunctionShape (one i) (two i) (three i) (four i)
  shape_back d depth (TypeFunctionShape bound gives e) at closed =
      let deeper : suc depth ≡ locals + suc d = omega (arith, at) in
      let one = shape_back d depth bound at closed.0 in
      let three = shape_back (suc d) (suc depth) gives deeper closed.1 in
      let four = set_back (suc d) (suc depth) e deeper closed.2 in
      λ i. TypeFunctionShape (one i) (three i) (four i)
  shape_back d depth (BoxShape content c) at closed =
      let one = shape_back d depth content at closed.0 in
      let two = set_back d depth c at closed.1 in
      λ i. BoxShape (one i) (two i)
  shape_back d depth (ExitShape gives) at closed = ap ExitShape (shape_back d depth gives at closed)

  type_back : (type : CapturingType) → MeetsInType (closed_at names locals) 0 type
      → act_type (reading names locals) 0 (numbered_type names locals type) ≡ type
  type_back type closed =
      let at : locals ≡ locals + 0 = omega arith in
      let one = shape_back 0 locals type.shape at closed.0 in
      let two = set_back 0 locals type.set at closed.1 in
      λ i. capturing (one i) (two i)

  pub claim_back : (claim : Claim) → IsClosedClaim names locals claim
      → read_claim names locals (numbered_claim names locals claim) ≡ claim
  claim_back (SetBelow left right) closed =
      let at : locals ≡ locals + 0 = omega arith in
      let one = set_back 0 locals left at closed.0 in
      let two = set_back 0 locals right at closed.1 in
      λ i. SetBelow (one i) (two i)
  claim_back (ShapeBelow left right) closed =
      let at : locals ≡ locals + 0 = omega arith in
      let one = shape_back 0 locals left at closed.0 in
      let two = shape_back 0 locals right at closed.1 in
      λ i. ShapeBelow (one i) (two i)
  claim_back (TypeBelow left right) closed =
      let one = type_back left closed.0 in
      let two = type_back right closed.1 in
      λ i. TypeBelow (one i) (two i)
  claim_back (OfType type) closed = ap OfType (type_back type closed)
