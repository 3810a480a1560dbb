-- Well-formedness is kept by opening, closing, substitution, renaming, filling, and added entries; and what it gives.
use Rattle.std.proofs.Common.{◌≡◌, ℕ, zero, List, [], ◌∷◌, ◌++◌, length, Some, refl, ap, subst}
use Rattle.cc_capture.specs.declared.var.Var.{Var}
use Rattle.cc_capture.specs.declared.var.Var.TheVariants.{Free}
use Rattle.cc_capture.specs.Sets.{Set}
use Rattle.cc_core.specs.Shapes.{Shape}
use Rattle.cc_core.specs.Terms.{Term}
use Rattle.cc_core.specs.Contexts.{Bind, Context, lookup}
use Rattle.cc_core.specs.Substitution.{putting, opening, closing, putting_shape, renaming, renamed_variable, freely, filling_in, put_variable, closed_variable}
use Rattle.cc_core.specs.WellFormed.{Kind, TermKind, TypeKind, kind_of, kinds_of, kind_at, IsWellFormedSet, IsWellFormedShape, IsWellFormedTerm}
use Rattle.cc_core.specs.Captured.{captured_variables}
use Rattle.cc_core.specs.Occurrences.{Condition, without, bound_within, positions_below, under_type_binder, no_outermost_type, under_term_binder}
use Rattle.cc_core.proofs.Opening.{closed-opened}
use Rattle.cc_core.proofs.Lookups.{length_map}
use Rattle.cc_core.proofs.KindFacts.{IsKindedSet-from, IsKindedTerm-from, IsKindedSet-test, IsKinded-from}
use Rattle.cc_core.proofs.KindRespecting.{KeepsKinds-moving, MovesKinds-opening, MovesKinds-closing, MovesKinds-putting, MovesKinds-renaming, MovesKinds-more, moved_kinds, KeepsKinds-putting_shape, KeepsKinds-freely, KeepsKinds-filling_in, kinds-positions_below, kinds-bound_within, kinds-under_type_binder, kinds-under_term_binder, kinds-no_outermost_type}
use Rattle.cc_core.proofs.Sorts.{HasKinds, HasKinds-act, HasKinds-from, HasKinds-meets, HasKinds-test, IsFormed, MeetsIn, Sort, Syntax, acted}
use Rattle.cc_core.proofs.KindedActions.{KindsGive}
use Rattle.cc_core.proofs.CapturedKinds.{captured_variables_kinded}

pub kinds_append : (more g : Context) → kinds_of more ++ kinds_of g ≡ kinds_of (more ++ g)
kinds_append [] g = refl
kinds_append (b ∷ more) g = ap (λ ks. kind_of b ∷ ks) (kinds_append more g)

-- opening, closing, and putting a variable or a shape
pub opened-well_formed : (sort : Sort) (g : Context) (b : Bind) (x : Syntax sort)
    → IsFormed sort (kinds_of g) (kind_of b ∷ []) x
    → IsFormed sort (kinds_of (b ∷ g)) [] (acted sort (opening (length g)) zero x)
opened-well_formed sort g b x h =
    let kinded : HasKinds sort (kind_of b ∷ kinds_of g) [] (acted sort (opening (length (kinds_of g))) zero x) =
    HasKinds-act sort (opening (length (kinds_of g))) (kinds_of g) (kind_of b ∷ []) (kind_of b ∷ kinds_of g) []
    (KeepsKinds-moving (put_variable (Free (length (kinds_of g)))) (kinds_of g) (kind_of b ∷ []) (kind_of b ∷ kinds_of g) [] (MovesKinds-opening (kinds_of g) (kind_of b)))
    [] x (HasKinds-from sort (kinds_of g) (kind_of b ∷ []) x h) in
    HasKinds-test sort (kind_of b ∷ kinds_of g) [] (acted sort (opening (length g)) zero x)
    (subst (λ n. HasKinds sort (kind_of b ∷ kinds_of g) [] (acted sort (opening n) zero x)) (length_map kind_of g) kinded)

pub closed-well_formed : (sort : Sort) (g : Context) (b : Bind) (x : Syntax sort)
    → IsFormed sort (kinds_of (b ∷ g)) [] x
    → IsFormed sort (kinds_of g) (kind_of b ∷ []) (acted sort (closing (length g)) zero x)
closed-well_formed sort g b x h =
    let kinded : HasKinds sort (kinds_of g) (kind_of b ∷ []) (acted sort (closing (length (kinds_of g))) zero x) =
    HasKinds-act sort (closing (length (kinds_of g))) (kind_of b ∷ kinds_of g) [] (kinds_of g) (kind_of b ∷ [])
    (KeepsKinds-moving (closed_variable (length (kinds_of g))) (kind_of b ∷ kinds_of g) [] (kinds_of g) (kind_of b ∷ []) (MovesKinds-closing (kinds_of g) (kind_of b)))
    [] x (HasKinds-from sort (kind_of b ∷ kinds_of g) [] x h) in
    HasKinds-test sort (kinds_of g) (kind_of b ∷ []) (acted sort (closing (length g)) zero x)
    (subst (λ n. HasKinds sort (kinds_of g) (kind_of b ∷ []) (acted sort (closing n) zero x)) (length_map kind_of g) kinded)

pub unopened-well_formed : (sort : Sort) (g : Context) (b : Bind) (x : Syntax sort) → MeetsIn sort (without (length g)) zero x
    → IsFormed sort (kinds_of (b ∷ g)) [] (acted sort (opening (length g)) zero x)
    → IsFormed sort (kinds_of g) (kind_of b ∷ []) x
unopened-well_formed sort g b x fresh h =
    subst (IsFormed sort (kinds_of g) (kind_of b ∷ [])) (closed-opened sort (length g) zero x fresh)
    (closed-well_formed sort g b (acted sort (opening (length g)) zero x) h)

pub put-well_formed : (sort : Sort) (g : Context) (kind : Kind) (by : Var) (x : Syntax sort)
    → kind_at (kinds_of g) [] by ≡ Some kind → IsFormed sort (kinds_of g) (kind ∷ []) x
    → IsFormed sort (kinds_of g) [] (acted sort (putting by) zero x)
put-well_formed sort g kind by x of h =
    HasKinds-test sort (kinds_of g) [] (acted sort (putting by) zero x)
    (HasKinds-act sort (putting by) (kinds_of g) (kind ∷ []) (kinds_of g) []
    (KeepsKinds-moving (put_variable by) (kinds_of g) (kind ∷ []) (kinds_of g) [] (MovesKinds-putting (kinds_of g) kind by of))
    [] x (HasKinds-from sort (kinds_of g) (kind ∷ []) x h))

pub put_shape-well_formed : (sort : Sort) (g : Context) (by : Shape) (x : Syntax sort) → IsWellFormedShape g by
    → IsFormed sort (kinds_of g) (TypeKind ∷ []) x → IsFormed sort (kinds_of g) [] (acted sort (putting_shape by) zero x)
put_shape-well_formed sort g by x formed h =
    HasKinds-test sort (kinds_of g) [] (acted sort (putting_shape by) zero x)
    (HasKinds-act sort (putting_shape by) (kinds_of g) (TypeKind ∷ []) (kinds_of g) [] (KeepsKinds-putting_shape (kinds_of g) by (IsKinded-from (kinds_of g) [] by formed))
    [] x (HasKinds-from sort (kinds_of g) (TypeKind ∷ []) x h))

-- renaming, actions on free positions, and filling
pub renamed-well_formed : (sort : Sort) (g h : Context) (to : ℕ → ℕ) (x : Syntax sort)
    → ((p : ℕ) (k : Kind) → lookup (kinds_of g) p ≡ Some k → lookup (kinds_of h) (to p) ≡ Some k)
    → IsFormed sort (kinds_of g) [] x → IsFormed sort (kinds_of h) [] (acted sort (renaming to) zero x)
renamed-well_formed sort g h to x same formed =
    HasKinds-test sort (kinds_of h) [] (acted sort (renaming to) zero x)
    (HasKinds-act sort (renaming to) (kinds_of g) [] (kinds_of h) []
    (KeepsKinds-moving (λ d v. renamed_variable to v) (kinds_of g) [] (kinds_of h) [] (MovesKinds-renaming to (kinds_of g) (kinds_of h) [] same))
    [] x (HasKinds-from sort (kinds_of g) [] x formed))

pub acted-well_formed : (sort : Sort) (g h : Context) (to : ℕ → ℕ) (shapes : ℕ → Shape) (x : Syntax sort)
    → ((p : ℕ) → lookup (kinds_of g) p ≡ Some TermKind → lookup (kinds_of h) (to p) ≡ Some TermKind)
    → ((p : ℕ) → lookup (kinds_of g) p ≡ Some TypeKind → IsWellFormedShape h (shapes p))
    → IsFormed sort (kinds_of g) [] x → IsFormed sort (kinds_of h) [] (acted sort (freely to shapes) zero x)
acted-well_formed sort g h to shapes x terms types formed =
    HasKinds-test sort (kinds_of h) [] (acted sort (freely to shapes) zero x)
    (HasKinds-act sort (freely to shapes) (kinds_of g) [] (kinds_of h) []
    (KeepsKinds-freely to shapes (kinds_of g) (kinds_of h) [] terms (λ p k. IsKinded-from (kinds_of h) [] (shapes p) (types p k)))
    [] x (HasKinds-from sort (kinds_of g) [] x formed))

pub filled-well_formed : (sort : Sort) (g : Context) (filling : ℕ → Set) (x : Syntax sort)
    → ((h : ℕ) → IsWellFormedSet g (filling h)) → IsFormed sort (kinds_of g) [] x
    → IsFormed sort (kinds_of g) [] (acted sort (filling_in filling) zero x)
filled-well_formed sort g filling x fillings formed =
    HasKinds-test sort (kinds_of g) [] (acted sort (filling_in filling) zero x)
    (HasKinds-act sort (filling_in filling) (kinds_of g) [] (kinds_of g) [] (KeepsKinds-filling_in filling (kinds_of g) [] (λ h. IsKindedSet-from (kinds_of g) [] (filling h) (fillings h)))
    [] x (HasKinds-from sort (kinds_of g) [] x formed))

-- added entries, and a binder that is not used
pub more-well_formed : (sort : Sort) (more g : Context) (x : Syntax sort) → IsFormed sort (kinds_of g) [] x
    → IsFormed sort (kinds_of (more ++ g)) [] x
more-well_formed sort more g x formed =
    HasKinds-test sort (kinds_of (more ++ g)) [] x
    (subst (λ ks. HasKinds sort ks [] x) (kinds_append more g)
    (moved_kinds sort (kinds_of g) [] (kinds_of more ++ kinds_of g) [] (MovesKinds-more (kinds_of more) (kinds_of g) []) [] x (HasKinds-from sort (kinds_of g) [] x formed)))

-- what is well formed meets what each variable of its kind meets
meets : (sort : Sort) (g : Context) (passed : List Kind) (condition : Condition) → KindsGive (kinds_of g) passed condition
    → (x : Syntax sort) → IsFormed sort (kinds_of g) passed x → MeetsIn sort condition zero x
meets sort g passed condition give x formed =
    HasKinds-meets sort (kinds_of g) passed condition give [] x (HasKinds-from sort (kinds_of g) passed x formed)

-- where the condition names the length of the context
meets_at_length : (sort : Sort) (g : Context) (passed : List Kind) (condition : ℕ → Condition)
    → KindsGive (kinds_of g) passed (condition (length (kinds_of g))) → (x : Syntax sort)
    → IsFormed sort (kinds_of g) passed x → MeetsIn sort (condition (length g)) zero x
meets_at_length sort g passed condition give x formed =
    subst (λ n. MeetsIn sort (condition n) zero x) (length_map kind_of g)
    (meets sort g passed (condition (length (kinds_of g))) give x formed)

pub well_formed-positions_below : (sort : Sort) (g : Context) (x : Syntax sort) → IsFormed sort (kinds_of g) [] x
    → MeetsIn sort (positions_below (length g)) zero x
well_formed-positions_below sort g = meets_at_length sort g [] positions_below (kinds-positions_below (kinds_of g) [])

pub well_formed-bound_within : (sort : Sort) (g : Context) (x : Syntax sort) → IsFormed sort (kinds_of g) [] x
    → MeetsIn sort (bound_within 0) zero x
well_formed-bound_within sort g = meets sort g [] (bound_within 0) (kinds-bound_within (kinds_of g) [])

pub body-positions_below : (sort : Sort) (g : Context) (kind : Kind) (x : Syntax sort)
    → IsFormed sort (kinds_of g) (kind ∷ []) x → MeetsIn sort (positions_below (length g)) zero x
body-positions_below sort g kind =
    meets_at_length sort g (kind ∷ []) positions_below (kinds-positions_below (kinds_of g) (kind ∷ []))

pub body-bound_within : (sort : Sort) (g : Context) (kind : Kind) (x : Syntax sort)
    → IsFormed sort (kinds_of g) (kind ∷ []) x → MeetsIn sort (bound_within 1) zero x
body-bound_within sort g kind =
    meets sort g (kind ∷ []) (bound_within 1) (kinds-bound_within (kinds_of g) (kind ∷ []))

pub body-under_term_binder : (sort : Sort) (g : Context) (x : Syntax sort)
    → IsFormed sort (kinds_of g) (TermKind ∷ []) x → MeetsIn sort (under_term_binder (length g)) zero x
body-under_term_binder sort g =
    meets_at_length sort g (TermKind ∷ []) under_term_binder (kinds-under_term_binder (kinds_of g))

pub body-no_outermost_type : (sort : Sort) (g : Context) (x : Syntax sort)
    → IsFormed sort (kinds_of g) (TermKind ∷ []) x → MeetsIn sort no_outermost_type zero x
body-no_outermost_type sort g = meets sort g (TermKind ∷ []) no_outermost_type (kinds-no_outermost_type (kinds_of g))

pub body-under_type_binder : (sort : Sort) (g : Context) (x : Syntax sort)
    → IsFormed sort (kinds_of g) (TypeKind ∷ []) x → MeetsIn sort (under_type_binder (length g)) zero x
body-under_type_binder sort g =
    meets_at_length sort g (TypeKind ∷ []) under_type_binder (kinds-under_type_binder (kinds_of g))

-- captured variables
pub captured_variables-well_formed : (g : Context) (t : Term) → IsWellFormedTerm g t
    → IsWellFormedSet g (captured_variables t)
captured_variables-well_formed g t formed =
    IsKindedSet-test (kinds_of g) [] (captured_variables t)
    (captured_variables_kinded (kinds_of g) [] t (IsKindedTerm-from (kinds_of g) [] t formed))
