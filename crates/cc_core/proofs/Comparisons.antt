-- The tests of equality of shapes and types decide it.
use Rattle.std.proofs.Common.{◌≡◌, ◌↔◌, ℕ, zero, suc, Bool, true, false, ◌&&◌, refl, ap, sym, ◌∙◌}
use Rattle.std.proofs.lemmas.Bool.{eqb-true, eq-eqb}
use Rattle.cc_base.specs.declared.literal.Base.{Base}
use Rattle.cc_base.specs.declared.literal.Base.TheVariants as bases
use Rattle.cc_capture.specs.Sets.{same_set}
use Rattle.cc_capture.proofs.Equality.{same_variable-decides, same_set-decides}
use Rattle.cc_core.specs.Shapes.{Shape, BaseShape, AnyShape, TypeVariable, FunctionShape, TypeFunctionShape, BoxShape, ExitShape, CapturingType}
use Rattle.cc_core.specs.Equality.{base_number, same_shape, same_type}

both : (a b : Bool) → (a && b) ≡ true → (a ≡ true) × (b ≡ true)
both true true h = (refl, refl)
both true false h = cc
both false b h = cc

joined_tests : (a b : Bool) → a ≡ true → b ≡ true → (a && b) ≡ true
joined_tests a b p q = rw (p, q)

base_of : ℕ → Base
base_of zero = bases.Unit
base_of (suc zero) = bases.Bool
base_of (suc (suc zero)) = bases.Int
base_of (suc (suc (suc zero))) = bases.Str
base_of (suc (suc (suc (suc zero)))) = bases.Console
base_of (suc (suc (suc (suc (suc zero))))) = bases.File
base_of (suc (suc (suc (suc (suc (suc n)))))) = bases.Counter

base_of-number : (base : Base) → base_of (base_number base) ≡ base
unfolding base_of
base_of-number bases.Unit = refl
base_of-number bases.Bool = refl
base_of-number bases.Int = refl
base_of-number bases.Str = refl
base_of-number bases.Console = refl
base_of-number bases.File = refl
base_of-number bases.Counter = refl

same_base : (a b : Base) → base_number a ≡ base_number b → a ≡ b
same_base a b e = sym (base_of-number a) ∙ ap base_of e ∙ base_of-number b

same_shape-true : (a b : Shape) → same_shape a b ≡ true → a ≡ b
same_shape-true (BaseShape base) (BaseShape other) h = ap BaseShape (same_base base other (eqb-true _ _ h))
same_shape-true AnyShape AnyShape h = refl
same_shape-true (TypeVariable variable) (TypeVariable other) h = ap TypeVariable ((same_variable-decides variable other).0 h)
same_shape-true (FunctionShape takes c gives e) (FunctionShape takes' c' gives' e') h =
    let tests = both (same_shape takes takes' && same_set c c') (same_shape gives gives' && same_set e e') h in
    let first = both (same_shape takes takes') (same_set c c') tests.0 in
    let second = both (same_shape gives gives') (same_set e e') tests.1 in
    let p = same_shape-true takes takes' first.0 in
    let q = (same_set-decides c c').0 first.1 in
    let r = same_shape-true gives gives' second.0 in
    let s = (same_set-decides e e').0 second.1 in
    λ i. FunctionShape (p i) (q i) (r i) (s i)
same_shape-true (TypeFunctionShape bound gives e) (TypeFunctionShape bound' gives' e') h =
    let tests = both (same_shape bound bound') (same_shape gives gives' && same_set e e') h in
    let second = both (same_shape gives gives') (same_set e e') tests.1 in
    let p = same_shape-true bound bound' tests.0 in
    let r = same_shape-true gives gives' second.0 in
    let s = (same_set-decides e e').0 second.1 in
    λ i. TypeFunctionShape (p i) (r i) (s i)
same_shape-true (BoxShape content c) (BoxShape content' c') h =
    let tests = both (same_shape content content') (same_set c c') h in
    let p = same_shape-true content content' tests.0 in
    let q = (same_set-decides c c').0 tests.1 in
    λ i. BoxShape (p i) (q i)
same_shape-true (ExitShape gives) (ExitShape gives') h = ap ExitShape (same_shape-true gives gives' h)
same_shape-true _ _ h = cc

same_shape-itself : (a : Shape) → same_shape a a ≡ true
same_shape-itself (BaseShape base) = eq-eqb _ _ refl
same_shape-itself AnyShape = refl
same_shape-itself (TypeVariable variable) = (same_variable-decides variable variable).1 refl
same_shape-itself (FunctionShape takes c gives e) =
    joined_tests _ _ (joined_tests _ _ (same_shape-itself takes) ((same_set-decides c c).1 refl)) (joined_tests _ _ (same_shape-itself gives) ((same_set-decides e e).1 refl))
same_shape-itself (TypeFunctionShape bound gives e) =
    joined_tests _ _ (same_shape-itself bound) (joined_tests _ _ (same_shape-itself gives) ((same_set-decides e e).1 refl))
same_shape-itself (BoxShape content c) = joined_tests _ _ (same_shape-itself content) ((same_set-decides c c).1 refl)
same_shape-itself (ExitShape gives) = same_shape-itself gives

pub same_shape-decides : (a b : Shape) → (same_shape a b ≡ true) ↔ (a ≡ b)
same_shape-decides a b = (same_shape-true a b, λ e. ap (same_shape a) (sym e) ∙ same_shape-itself a)

pub same_type-decides : (a b : CapturingType) → (same_type a b ≡ true) ↔ (a ≡ b)
same_type-decides a b = (
  λ t.
      let tests = both _ _ t in
      let shape = same_shape-true a.shape b.shape tests.0 in
      let set = (same_set-decides a.set b.set).0 tests.1 in
      λ i. record { shape = shape i; set = set i },
  λ e. ap (same_type a) (sym e) ∙ joined_tests _ _ (same_shape-itself a.shape) ((same_set-decides a.set a.set).1 refl),
)
