-- Actions on shapes: they agree where they agree on what occurs, two in a row are one, and one leaves all as it is.
use Rattle.std.proofs.Common.{◌≡◌, ℕ, suc, refl, ◌∙◌}
use Rattle.cc_capture.specs.declared.var.Var.{Var}
use Rattle.cc_capture.specs.declared.var.Elem.{Elem}
use Rattle.cc_capture.specs.Sets.{Set}
use Rattle.cc_capture.proofs.Images.{flat_image-flat_image, flat_image-congruent, flat_image-single, image-identity}
use Rattle.cc_core.specs.Shapes.{Shape, BaseShape, AnyShape, TypeVariable, FunctionShape, TypeFunctionShape, BoxShape, ExitShape, CapturingType, capturing}
use Rattle.cc_core.specs.Traversal.{Action, act, act_set, act_type, keeping, composed}
use Rattle.cc_core.specs.Occurrences.{Meets, MeetsInSet, MeetsInType, agreement}

-- actions that do the same are one
pub same_actions : (f g : Action) → ((d : ℕ) (e : Elem) → f.element d e ≡ g.element d e)
    → ((d : ℕ) (v : Var) → f.shape d v ≡ g.shape d v) → ((d : ℕ) (v : Var) → f.variable d v ≡ g.variable d v) → f ≡ g
same_actions f g p q r i = record { element = λ d e. p d e i; shape = λ d v. q d v i; variable = λ d v. r d v i }

pub act_set-congruent : (f g : Action) (d : ℕ) (c : Set) → MeetsInSet (agreement f g) d c
    → act_set f d c ≡ act_set g d c
act_set-congruent f g d c m = flat_image-congruent (f.element d) (g.element d) c m

pub act-congruent : (f g : Action) (d : ℕ) (s : Shape) → Meets (agreement f g) d s → act f d s ≡ act g d s
act-congruent f g d (BaseShape b) m = refl
act-congruent f g d AnyShape m = refl
act-congruent f g d (TypeVariable v) m = m
act-congruent f g d (FunctionShape t c u e) m =
    λ i. FunctionShape (act-congruent f g d t m.0 i) (act_set-congruent f g d c m.1 i)
    (act-congruent f g (suc d) u m.2 i) (act_set-congruent f g (suc d) e m.3 i)
act-congruent f g d (TypeFunctionShape b u e) m =
    λ i. TypeFunctionShape (act-congruent f g d b m.0 i) (act-congruent f g (suc d) u m.1 i)
    (act_set-congruent f g (suc d) e m.2 i)
act-congruent f g d (BoxShape t c) m = λ i. BoxShape (act-congruent f g d t m.0 i) (act_set-congruent f g d c m.1 i)
act-congruent f g d (ExitShape t) m = λ i. ExitShape (act-congruent f g d t m i)

pub act_type-congruent : (f g : Action) (d : ℕ) (t : CapturingType) → MeetsInType (agreement f g) d t
    → act_type f d t ≡ act_type g d t
act_type-congruent f g d t m i = capturing (act-congruent f g d t.shape m.0 i) (act_set-congruent f g d t.set m.1 i)

pub act_set-act_set : (f g : Action) (d : ℕ) (c : Set) → act_set f d (act_set g d c) ≡ act_set (composed f g) d c
act_set-act_set f g d c = flat_image-flat_image (f.element d) (g.element d) c

pub act-act : (f g : Action) (d : ℕ) (s : Shape) → act f d (act g d s) ≡ act (composed f g) d s
act-act f g d (BaseShape b) = refl
act-act f g d AnyShape = refl
act-act f g d (TypeVariable v) = refl
act-act f g d (FunctionShape t c u e) =
    λ i. FunctionShape (act-act f g d t i) (act_set-act_set f g d c i) (act-act f g (suc d) u i)
    (act_set-act_set f g (suc d) e i)
act-act f g d (TypeFunctionShape b u e) =
    λ i. TypeFunctionShape (act-act f g d b i) (act-act f g (suc d) u i) (act_set-act_set f g (suc d) e i)
act-act f g d (BoxShape t c) = λ i. BoxShape (act-act f g d t i) (act_set-act_set f g d c i)
act-act f g d (ExitShape t) = λ i. ExitShape (act-act f g d t i)

pub act_type-act_type : (f g : Action) (d : ℕ) (t : CapturingType)
    → act_type f d (act_type g d t) ≡ act_type (composed f g) d t
act_type-act_type f g d t i = capturing (act-act f g d t.shape i) (act_set-act_set f g d t.set i)

pub act_set-keeping : (d : ℕ) (c : Set) → act_set keeping d c ≡ c
act_set-keeping d c = flat_image-single (λ e. e) c ∙ image-identity c

pub act-keeping : (d : ℕ) (s : Shape) → act keeping d s ≡ s
act-keeping d (BaseShape b) = refl
act-keeping d AnyShape = refl
act-keeping d (TypeVariable v) = refl
act-keeping d (FunctionShape t c u e) =
    λ i. FunctionShape (act-keeping d t i) (act_set-keeping d c i) (act-keeping (suc d) u i)
    (act_set-keeping (suc d) e i)
act-keeping d (TypeFunctionShape b u e) =
    λ i. TypeFunctionShape (act-keeping d b i) (act-keeping (suc d) u i) (act_set-keeping (suc d) e i)
act-keeping d (BoxShape t c) = λ i. BoxShape (act-keeping d t i) (act_set-keeping d c i)
act-keeping d (ExitShape t) = λ i. ExitShape (act-keeping d t i)

pub act_type-keeping : (d : ℕ) (t : CapturingType) → act_type keeping d t ≡ t
act_type-keeping d t i = capturing (act-keeping d t.shape i) (act_set-keeping d t.set i)
