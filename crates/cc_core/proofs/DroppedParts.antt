-- How many parts a shape has, as a measure: functions and what they take and give, boxes and what they hold.
use Rattle.std.proofs.Common.{◌≡◌, ◌⊎◌, ℕ, Bool, true, false, ◌+◌, ◌*◌, ◌<◌, ◌≤◌, inl, inr, refl, sym, subst, arith}
use Rattle.cc_base.specs.declared.literal.Base.{Base}
use Rattle.cc_capture.specs.declared.var.Var.{Var}
use Rattle.cc_core.specs.Leaves.{is_leaf}
use Rattle.std.proofs.Math.Nat.{mul-le-mul_right}
use Rattle.cc_core.specs.declared.types.Shape.{Shape}
use Rattle.cc_core.specs.declared.types.Shape.TheVariants as shapes

abbrev pub parts : Shape → ℕ
parts (shapes.Base _) = 1
parts shapes.Any = 1
parts (shapes.TVar _) = 1
parts (shapes.Fun' p q takes c p' q' gives e) = 3 + parts takes + parts gives
parts (shapes.TFun' p bound q p' gives e) = 2 + parts bound + parts gives
parts (shapes.Boxed' p q content c) = 2 + parts content
parts (shapes.Exit' p gives) = 2 + parts gives

pub at_least : (shape : Shape) → 1 ≤ parts shape
at_least (shapes.Base _) = omega arith
at_least shapes.Any = omega arith
at_least (shapes.TVar _) = omega arith
at_least (shapes.Fun' _ _ _ _ _ _ _ _) = omega arith
at_least (shapes.TFun' _ _ _ _ _ _) = omega arith
at_least (shapes.Boxed' _ _ _ _) = omega arith
at_least (shapes.Exit' _ _) = omega arith

pub at_most : (given shape : Shape) → (given ≡ shape) ⊎ (given ≡ shapes.Any) → parts given ≤ parts shape
at_most given shape (inl is) = subst (λ it. parts it ≤ parts shape) (sym is) (omega arith)
at_most given shape (inr is) = subst (λ it. parts it ≤ parts shape) (sym is) (at_least shape)

-- 1 where the shape has parts
abbrev pub parted : Bool → ℕ
parted true = 0
parted false = 1

pub parted-most : (leaf : Bool) → parted leaf ≤ 1
parted-most true = omega arith
parted-most false = omega arith

-- What the loop that drops has before it: of what is dropped and what waits, then of whether something waits, then of what
-- is dropped.
abbrev pub ahead : ℕ → ℕ → ℕ → Bool → ℕ
ahead most self waiting leaf = (2 * (self + waiting) + parted leaf) * (most + 1) + self

pub ahead-falls : (most self waiting self' waiting' : ℕ) (leaf leaf' : Bool) → self' ≤ most
    → 2 * (self' + waiting') + parted leaf' < 2 * (self + waiting) + parted leaf
    → ahead most self' waiting' leaf' < ahead most self waiting leaf
ahead-falls most self waiting self' waiting' leaf leaf' within falls =
    grind (arith, within, mul-le-mul_right (most + 1) falls)

pub ahead-narrows : (most self waiting self' waiting' : ℕ) (leaf leaf' : Bool) → self' < self
    → 2 * (self' + waiting') + parted leaf' ≤ 2 * (self + waiting) + parted leaf
    → ahead most self' waiting' leaf' < ahead most self waiting leaf
ahead-narrows most self waiting self' waiting' leaf leaf' narrows stays =
    grind (arith, narrows, mul-le-mul_right (most + 1) stays)

-- Only three forms are shapes with no parts.
pub leaf-cases : (shape : Shape) → is_leaf shape ≡ true → ((base : Base) → shape ≡ shapes.Base base → ⊥) → (shape ≡ shapes.Any → ⊥)
    → ((variable : Var) → shape ≡ shapes.TVar variable → ⊥) → ⊥
leaf-cases (shapes.Base base) leaf no-base no-any no-variable = no-base base refl
leaf-cases shapes.Any leaf no-base no-any no-variable = no-any refl
leaf-cases (shapes.TVar variable) leaf no-base no-any no-variable = no-variable variable refl
leaf-cases (shapes.Fun' _ _ _ _ _ _ _ _) leaf no-base no-any no-variable = cc
leaf-cases (shapes.TFun' _ _ _ _ _ _) leaf no-base no-any no-variable = cc
leaf-cases (shapes.Boxed' _ _ _ _) leaf no-base no-any no-variable = cc
leaf-cases (shapes.Exit' _ _) leaf no-base no-any no-variable = cc
