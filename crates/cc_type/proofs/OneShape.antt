-- The comparison of two shapes that are one demands nothing.
use Rattle.std.proofs.Common.{◌≡◌, ◌-◌, ℕ, zero, suc, Bool, true, false, cond, List, [], Some, refl, sym, ap, ◌∙◌, subst, arith}
use Rattle.std.proofs.lemmas.Bool.{and_parts}
use Rattle.cc_base.specs.declared.place.Place.{Place}
use Rattle.cc_core.specs.Equality.{same_shape}
use Rattle.cc_core.specs.Contexts.{Context}
use Rattle.cc_core.specs.Shapes.{Shape, TypeVariable, CapturingType}
use Rattle.cc_core.specs.WellFormed.{kinds_of, is_well_formed_shape, is_well_formed_set, IsWellFormedSet, IsWellFormedType}
use Rattle.cc_core.proofs.Comparisons.{same_shape-decides}
use Rattle.cc_capture.specs.declared.var.Var.{Var}
use Rattle.cc_checking.specs.Comparison.{Comparison, Matches, is_any, bound_of, bound_compared, by_form, comparison}
use Rattle.cc_checking.specs.Outcomes.{Placed}
use Rattle.cc_known.specs.ComparedPairs.{IsKept}
use Rattle.cc_known.proofs.RememberedPairs.{untrue}

one_matches : (steps : ℕ) (g : Context) (s : Shape) → (steps ≡ 0 → ⊥) → comparison steps g s s ≡ Matches []
unfolding comparison
one_matches zero g s positive = absurd (positive refl)
one_matches (suc steps) g s positive =
    ap (λ b. cond b (Matches []) (cond (is_any s) (Matches []) (by_form (comparison steps) g s s)))
    ((same_shape-decides s s).1 refl)

pub matches : (steps : ℕ) (g : Context) (left right : Shape) → (steps ≡ 0 → ⊥) → same_shape left right ≡ true
    → comparison steps g left right ≡ Matches []
matches steps g left right positive same =
    subst (λ s. comparison steps g left s ≡ Matches []) ((same_shape-decides left right).0 same) (one_matches steps g left positive)

-- a type variable matches where its bound does so with no demands
pub led_matches : (steps : ℕ) (g : Context) (v : Var) (bound right : Shape) → (steps ≡ 0 → ⊥) → bound_of g v ≡ Some bound
    → comparison (steps - 1) g bound right ≡ Matches [] → comparison steps g (TypeVariable v) right ≡ Matches []
unfolding comparison by_form
led_matches zero g v bound right positive there found = absurd (positive refl)
led_matches (suc steps) g v bound right positive there found =
    let less : suc steps - 1 ≡ steps = omega arith in
    let last = ap (λ b. bound_compared (comparison steps) g b right) there
    ∙ subst (λ n. comparison n g bound right ≡ Matches []) less found in
    either (same_shape (TypeVariable v) right) (is_any right) (by_form (comparison steps) g (TypeVariable v) right) last
  where
    either : (s a : Bool) (c : Comparison) → c ≡ Matches [] → cond s (Matches []) (cond a (Matches []) c) ≡ Matches []
    either true a c h = refl
    either false true c h = refl
    either false false c h = h

-- a comparison that matches with no demands keeps nothing
pub none_asked : (at : Place) (c : Comparison) (log : List Placed) → c ≡ Matches [] → IsKept at c true log log
none_asked at c log found = subst (λ c. IsKept at c true log log) (sym found) (refl, refl, λ e. absurd (untrue e))

pub formed_set : (g : Context) (t : CapturingType) → IsWellFormedType g t → IsWellFormedSet g t.set
formed_set g t h = (and_parts (is_well_formed_shape (kinds_of g) [] t.shape) (is_well_formed_set (kinds_of g) [] t.set) h).1
