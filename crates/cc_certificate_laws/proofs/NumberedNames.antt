-- What is written has names that are known, keeps its heights and its binders, and is of the same kind.
use Rattle.std.proofs.Common.{◌≡◌, ℕ, suc, ◌+◌, ◌-◌, ◌<◌, ◌≤◌, Bool, true, false, ◌||◌, List, [], ◌∷◌, map, Some, None, max, refl, sym, ap, subst, ◌∙◌, arith, ⊎_elim, is_some}
use Rattle.std.specs.Prelude.{if◌then◌else◌}
use Rattle.std.specs.List.{AllByRecursion}
use Rattle.std.proofs.lemmas.Bool.{cases_lt, or_left, or_right}
use Rattle.std.proofs.lemmas.Bool.Decides.{Decides-ltb}
use Rattle.cc_capture.specs.declared.var.Var.{Var}
use Rattle.cc_capture.specs.declared.var.Var.TheVariants.{Bound, Free}
use Rattle.cc_capture.specs.declared.var.Elem.{Elem}
use Rattle.cc_capture.specs.declared.var.Elem.TheVariants.{Var as Variable, Cap, Hole}
use Rattle.cc_capture.specs.Sets.{Set, image}
use Rattle.cc_core.specs.Shapes.{Shape, BaseShape, AnyShape, TypeVariable, FunctionShape, TypeFunctionShape, BoxShape, ExitShape, CapturingType}
use Rattle.cc_core.specs.Derivations.{Claim, SetBelow, ShapeBelow, TypeBelow, OfType}
use Rattle.cc_core.specs.Occurrences.{Meets, MeetsInSet, MeetsInType}
use Rattle.cc_certificate_text.specs.Certificates.{claim_kind, claim_height, binder_number}
use Rattle.cc_certificate_text.specs.Heights.{shape_height}
use Rattle.cc_certificate_text.specs.LocalNames.{IsNamedElement, IsNamedSet, IsNamedShape, IsNamedType, IsNamedClaim, IsLocalNumber, IsLocal, has_binder, claim_has_binder}
use Rattle.cc_certificate_text.proofs.SetOrders.{all_from_list}
use Rattle.cc_certificate_laws.specs.CertificateLines.{numbered_variable, numbered_element, numbered_set, numbered_shape, numbered_type, numbered_claim, outermost_number}
use Rattle.cc_certificate_laws.specs.CertificateLaws.{IsClosedElement, IsClosedType, IsClosedClaim, closed_at}
use Rattle.cc_certificate_laws.proofs.NumberedTexts.{not_below, closed_elements}

same_binders : (names depth : ℕ) (s : Shape) → has_binder (numbered_shape names depth s) ≡ has_binder s
same_binders names depth (BaseShape base) = refl
same_binders names depth AnyShape = refl
same_binders names depth (TypeVariable v) = refl
same_binders names depth (FunctionShape takes c gives e) = refl
same_binders names depth (TypeFunctionShape bound gives e) = refl
same_binders names depth (BoxShape content c) = same_binders names depth content
same_binders names depth (ExitShape gives) = same_binders names depth gives

same_claim_binders : (names locals : ℕ) (claim : Claim)
    → claim_has_binder (numbered_claim names locals claim) ≡ claim_has_binder claim
same_claim_binders names locals (SetBelow left right) = refl
same_claim_binders names locals (ShapeBelow left right) =
    λ i. same_binders names locals left i || same_binders names locals right i
same_claim_binders names locals (TypeBelow left right) =
    λ i. same_binders names locals left.shape i || same_binders names locals right.shape i
same_claim_binders names locals (OfType type) = same_binders names locals type.shape

some_where : (b : Bool) (n : ℕ) → is_some (if b then Some n else None) ≡ b
some_where true n = refl
some_where false n = refl

number_where : (b : Bool) (n : ℕ) → b ≡ true → binder_number (if b then Some n else None) ≡ n
number_where true n h = refl
number_where false n h = cc

-- a claim has a number of binders where it has binders
pub binders_numbered : (names locals : ℕ) (claim : Claim)
    → claim_has_binder (numbered_claim names locals claim) ≡ is_some (outermost_number locals claim)
binders_numbered names locals claim =
    same_claim_binders names locals claim ∙ sym (some_where (claim_has_binder claim) locals)

-- which is that of the place
pub number_of_place : (locals : ℕ) (claim : Claim) → claim_has_binder claim ≡ true
    → binder_number (outermost_number locals claim) ≡ locals
number_of_place locals claim h = number_where (claim_has_binder claim) locals h

pub same_kind : (names locals : ℕ) (claim : Claim) → claim_kind (numbered_claim names locals claim) ≡ claim_kind claim
same_kind names locals (SetBelow left right) = refl
same_kind names locals (ShapeBelow left right) = refl
same_kind names locals (TypeBelow left right) = refl
same_kind names locals (OfType type) = refl

same_height : (names depth : ℕ) (s : Shape) → shape_height (numbered_shape names depth s) ≡ shape_height s
same_height names depth (BaseShape base) = refl
same_height names depth AnyShape = refl
same_height names depth (TypeVariable v) = refl
same_height names depth (FunctionShape takes c gives e) =
    λ i. suc (max (same_height names depth takes i) (same_height names (suc depth) gives i))
same_height names depth (TypeFunctionShape bound gives e) =
    λ i. suc (max (same_height names depth bound i) (same_height names (suc depth) gives i))
same_height names depth (BoxShape content c) = ap suc (same_height names depth content)
same_height names depth (ExitShape gives) = ap suc (same_height names depth gives)

pub same_claim_height : (names locals : ℕ) (claim : Claim)
    → claim_height (numbered_claim names locals claim) ≡ claim_height claim
same_claim_height names locals (SetBelow left right) = refl
same_claim_height names locals (ShapeBelow left right) =
    λ i. max (same_height names locals left i) (same_height names locals right i)
same_claim_height names locals (TypeBelow left right) =
    λ i. max (same_height names locals left.shape i) (same_height names locals right.shape i)
same_claim_height names locals (OfType type) = same_height names locals type.shape

module _ (names locals : ℕ) where
  element_named : (d depth other : ℕ) (e : Elem) → depth ≡ locals + d → depth ≤ 4294967296
      → IsClosedElement names locals d e
      → IsNamedElement (IsLocalNumber other) names (numbered_element names depth e)
  element_named d depth other (Variable (Bound i)) at low closed = omega (arith, at, low, closed)
  element_named d depth other (Variable (Free p)) at low closed =
      ⊎_elim (λ below. subst (λ v. IsNamedElement (IsLocalNumber other) names (Variable v)) (sym (as_name below)) below)
      (λ above. subst (λ v. IsNamedElement (IsLocalNumber other) names (Variable v)) (sym (as_local above))
      (let small : p - names < 4294967296 = omega (arith, at, low, closed, above) in small))
      (cases_lt p names)
    where
      as_name : p < names → numbered_variable names depth (Free p) ≡ Free p
      as_name below = rw ((Decides-ltb p names).1 below) refl

      as_local : names ≤ p → numbered_variable names depth (Free p) ≡ Bound (p - names)
      as_local above = rw (not_below p names above) refl
  element_named d depth other Cap at low closed = tt
  element_named d depth other (Hole hole) at low closed = absurd closed

  elements_named : (d depth other : ℕ) (es : List Elem) → depth ≡ locals + d → depth ≤ 4294967296
      → AllByRecursion (IsClosedElement names locals d) es
      → AllByRecursion (IsNamedElement (IsLocalNumber other) names) (map (numbered_element names depth) es)
  elements_named d depth other [] at low closed = tt
  elements_named d depth other (e ∷ es) at low closed =
      (element_named d depth other e at low closed.0, elements_named d depth other es at low closed.1)

  set_named : (d depth other : ℕ) (set : Set) → depth ≡ locals + d → depth ≤ 4294967296
      → MeetsInSet (closed_at names locals) d set → IsNamedSet (IsLocalNumber other) names (numbered_set names depth set)
  unfolding image
  set_named d depth other set at low closed =
      all_from_list (IsNamedElement (IsLocalNumber other) names) (map (numbered_element names depth) set.list)
      (elements_named d depth other set.list at low (closed_elements names locals d depth at set closed))

  variable_named : (d depth other : ℕ) (v : Var) → depth ≡ locals + d → depth ≤ 4294967296
      → IsClosedType names locals d v → IsLocal (IsLocalNumber other) (numbered_variable names depth v)
  variable_named d depth other (Bound i) at low closed = omega (arith, at, low, closed)
  variable_named d depth other (Free p) at low closed =
      subst (IsLocal (IsLocalNumber other)) (sym as_local)
      (let small : p - names < 4294967296 = omega (arith, at, low, closed.0, closed.1) in small)
    where
      as_local : numbered_variable names depth (Free p) ≡ Bound (p - names)
      as_local = rw (not_below p names closed.0) refl

  shape_named : (d depth other : ℕ) (s : Shape) → depth ≡ locals + d → depth + shape_height s ≤ 4294967296
      → Meets (closed_at names locals) d s → (has_binder s ≡ true → other ≡ depth)
      → IsNamedShape IsLocalNumber names other (numbered_shape names depth s)
  shape_named d depth other (BaseShape base) at low closed same = tt
  shape_named d depth other AnyShape at low closed same = tt
  shape_named d depth other (TypeVariable v) at low closed same = variable_named d depth other v at (omega (arith, low)) closed
  shape_named d depth other (FunctionShape takes c gives e) at low closed same =
      let deeper : suc depth ≡ locals + suc d = omega (arith, at) in
      subst (λ o. IsNamedShape IsLocalNumber names o (numbered_shape names depth (FunctionShape takes c gives e))) (sym (same refl)) (
        let small : depth < 4294967296 = omega (arith, low) in small,
        shape_named d depth depth takes at (omega (arith, low)) closed.0 (λ _. refl),
        set_named d depth depth c at (omega (arith, low)) closed.1,
        shape_named (suc d) (suc depth) (suc depth) gives deeper (omega (arith, low)) closed.2 (λ _. refl),
        set_named (suc d) (suc depth) (suc depth) e deeper (omega (arith, low)) closed.3,
      )
  shape_named d depth other (TypeFunctionShape bound gives e) at low closed same =
      let deeper : suc depth ≡ locals + suc d = omega (arith, at) in
      subst (λ o. IsNamedShape IsLocalNumber names o (numbered_shape names depth (TypeFunctionShape bound gives e))) (sym (same refl)) (
        let small : depth < 4294967296 = omega (arith, low) in small,
        shape_named d depth depth bound at (omega (arith, low)) closed.0 (λ _. refl),
        shape_named (suc d) (suc depth) (suc depth) gives deeper (omega (arith, low)) closed.1 (λ _. refl),
        set_named (suc d) (suc depth) (suc depth) e deeper (omega (arith, low)) closed.2,
      )
  shape_named d depth other (BoxShape content c) at low closed same = (
    shape_named d depth other content at (omega (arith, low)) closed.0 same,
    set_named d depth other c at (omega (arith, low)) closed.1,
  )
  shape_named d depth other (ExitShape gives) at low closed same =
      shape_named d depth other gives at (omega (arith, low)) closed same

  type_named : (other : ℕ) (type : CapturingType) → locals + shape_height type.shape ≤ 4294967296
      → MeetsInType (closed_at names locals) 0 type → (has_binder type.shape ≡ true → other ≡ locals)
      → IsNamedType names other (numbered_type names locals type)
  type_named other type low closed same =
      let at : locals ≡ locals + 0 = omega arith in (
        shape_named 0 locals other type.shape at low closed.0 same,
        set_named 0 locals other type.set at (omega (arith, low)) closed.1,
      )

  -- a claim that is closed has names that are known as it is written
  claim_named : (other : ℕ) (claim : Claim) → locals + claim_height claim ≤ 4294967296
      → IsClosedClaim names locals claim → (claim_has_binder claim ≡ true → other ≡ locals)
      → IsNamedClaim names other (numbered_claim names locals claim)
  claim_named other (SetBelow left right) low closed same =
      let at : locals ≡ locals + 0 = omega arith in (
        set_named 0 locals other left at (omega (arith, low)) closed.0,
        set_named 0 locals other right at (omega (arith, low)) closed.1,
      )
  claim_named other (ShapeBelow left right) low closed same =
      let at : locals ≡ locals + 0 = omega arith in (
        shape_named 0 locals other left at (omega (arith, low)) closed.0
            (λ h. same (or_left (has_binder left) (has_binder right) h)),
        shape_named 0 locals other right at (omega (arith, low)) closed.1
            (λ h. same (or_right (has_binder left) (has_binder right) h)),
      )
  claim_named other (TypeBelow left right) low closed same = (
    type_named other left (omega (arith, low)) closed.0
        (λ h. same (or_left (has_binder left.shape) (has_binder right.shape) h)),
    type_named other right (omega (arith, low)) closed.1
        (λ h. same (or_right (has_binder left.shape) (has_binder right.shape) h)),
  )
  claim_named other (OfType type) low closed same = type_named other type low closed same

  pub claim_has_names : (claim : Claim) → locals ≤ 100000 → claim_height claim ≤ 5000 → IsClosedClaim names locals claim
      → IsNamedClaim names (binder_number (outermost_number locals claim)) (numbered_claim names locals claim)
  claim_has_names claim few low closed =
      claim_named (binder_number (outermost_number locals claim)) claim (omega (arith, few, low)) closed
      (number_of_place locals claim)
