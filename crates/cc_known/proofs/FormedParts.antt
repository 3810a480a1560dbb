-- What the steps of inference find in a well-formed context is well formed.
use Rattle.std.proofs.Common.{◌≡◌, [], ◌∷◌, refl, sym, subst}
use Rattle.cc_base.specs.declared.place.Place.{Place}
use Rattle.cc_capture.specs.declared.var.Var.{Var}
use Rattle.cc_base.specs.declared.literal.Base.TheVariants as bases
use Rattle.cc_capture.specs.declared.var.Elem.TheVariants.{Cap}
use Rattle.cc_capture.specs.Sets.{empty}
use Rattle.cc_core.specs.Shapes.{Shape, BaseShape, FunctionShape, ExitShape, CapturingType, capturing}
use Rattle.cc_core.specs.Contexts.{Bind, TypeEntry, Context, entry_of}
use Rattle.cc_core.specs.Substitution.{single}
use Rattle.cc_core.specs.WellFormed.{TermKind, kind_of, kinds_of, IsWellFormedContext, IsWellFormedShape}
use Rattle.cc_core.specs.WellFormed.{IsWellFormedType, IsWellFormedSet}
use Rattle.cc_core.proofs.KindFacts.{IsKinded, IsKindedType, IsKinded-test, IsKindedType-test, IsKindedSet-test}
use Rattle.cc_core.proofs.KindFacts.{IsKinded-from, IsKindedType-from}
use Rattle.cc_core.proofs.CapturedKinds.{empty_kinded}
use Rattle.cc_core.proofs.KindRespecting.{single_kinded}
use Rattle.cc_core.proofs.SubcapturingContexts.{IsKindedContext-from, IsKinded-added}
use Rattle.cc_typing_laws.proofs.FormedContexts.{IsKindedContext-test}
use Rattle.cc_checking.specs.Exposing.{exposed}
use Rattle.cc_checking.specs.Outcomes.{finds}
use Rattle.cc_checking.specs.Inference.{variable_type, Function, TypeFunction, function_head, type_function_head, box_head}
use Rattle.cc_checking.specs.Inference.{exit_head}
use Rattle.cc_checking_laws.proofs.FoundFindings.{variable_came, function_head_came, type_function_head_came}
use Rattle.cc_checking_laws.proofs.FoundFindings.{box_head_came, exit_head_came}
use Rattle.cc_checking_laws.proofs.FoundTypes.{exposed_kinded, has_kinded, variable_set_kinded}

type_kinded : (g : Context) (v : Var) (t : CapturingType) → IsWellFormedContext g → variable_type g v ≡ finds t
    → IsKindedType (kinds_of g) [] t
type_kinded g v t f e =
    let k = variable_came g v ([], e, refl) in
    let x = has_kinded (IsKindedContext-from g f) k.has in
    subst (IsKindedType (kinds_of g) []) (sym k.type) (x.0, variable_set_kinded k.has)

pub variable_well_formed : (g : Context) (v : Var) (t : CapturingType) → IsWellFormedContext g
    → variable_type g v ≡ finds t → IsWellFormedType g t
variable_well_formed g v t f e = IsKindedType-test (kinds_of g) [] t (type_kinded g v t f e)

-- the shape of a well-formed type, and what it exposes to
pub shape_well_formed : (g : Context) (t : CapturingType) → IsWellFormedType g t → IsWellFormedShape g t.shape
shape_well_formed g t w = IsKinded-test (kinds_of g) [] t.shape (IsKindedType-from (kinds_of g) [] t w).0

-- what a well-formed shape exposes to
pub exposed_to : (g : Context) (s x : Shape) → IsWellFormedContext g → IsWellFormedShape g s → x ≡ exposed g s
    → IsWellFormedShape g x
exposed_to g s x f w e =
    subst (IsWellFormedShape g) (sym e)
    (IsKinded-test (kinds_of g) [] (exposed g s)
    (exposed_kinded g s (IsKindedContext-from g f) (IsKinded-from (kinds_of g) [] s w)))

-- the parts of a well-formed head
pub function_takes : (g : Context) (at : Place) (s : Shape) (h : Function) → IsWellFormedShape g s
    → function_head at s ≡ finds h → IsWellFormedType g h.takes
function_takes g at s h w e =
    let c = function_head_came at s ([], e, refl) in
    let k = subst (IsKinded (kinds_of g) []) c.4 (IsKinded-from (kinds_of g) [] s w) in
    IsKindedType-test (kinds_of g) [] h.takes
    (subst (λ (x : Function). IsKindedType (kinds_of g) [] x.takes) (sym c.5) (k.0, k.1))

pub type_function_bound : (g : Context) (at : Place) (s : Shape) (h : TypeFunction) → IsWellFormedShape g s
    → type_function_head at s ≡ finds h → IsWellFormedShape g h.bound
type_function_bound g at s h w e =
    let c = type_function_head_came at s ([], e, refl) in
    let k = subst (IsKinded (kinds_of g) []) c.3 (IsKinded-from (kinds_of g) [] s w) in
    IsKinded-test (kinds_of g) [] h.bound (subst (λ (x : TypeFunction). IsKinded (kinds_of g) [] x.bound) (sym c.4) k.0)

pub box_content : (g : Context) (at : Place) (s : Shape) (h : CapturingType) → IsWellFormedShape g s
    → box_head at s ≡ finds h → IsWellFormedSet g h.set
box_content g at s h w e =
    let c = box_head_came at s ([], e, refl) in
    let k = subst (IsKinded (kinds_of g) []) c.2 (IsKinded-from (kinds_of g) [] s w) in
    subst (λ (x : CapturingType). IsWellFormedSet g x.set) (sym c.3) (IsKindedSet-test (kinds_of g) [] c.1 k.1)

pub exit_takes : (g : Context) (at : Place) (s : Shape) (h : Shape) → IsWellFormedShape g s → exit_head at s ≡ finds h
    → IsWellFormedShape g h
exit_takes g at s h w e =
    let c = exit_head_came at s ([], e, refl) in
    let k = subst (IsKinded (kinds_of g) []) c.1 (IsKinded-from (kinds_of g) [] s w) in
    IsKinded-test (kinds_of g) [] h (subst (IsKinded (kinds_of g) []) (sym c.2) k)

-- the shape of a well-formed type with no captures, and one with the set of another
pub pure_well_formed : (g : Context) (s : Shape) → IsWellFormedShape g s → IsWellFormedType g (capturing s empty)
pure_well_formed g s w = IsKindedType-test (kinds_of g) [] (capturing s empty)
    (IsKinded-from (kinds_of g) [] s w, empty_kinded (kinds_of g) [])

pub with_set_well_formed : (g : Context) (s : Shape) (t : CapturingType) → IsWellFormedShape g s → IsWellFormedType g t
    → IsWellFormedType g (capturing s t.set)
with_set_well_formed g s t w u = IsKindedType-test (kinds_of g) [] (capturing s t.set)
    (IsKinded-from (kinds_of g) [] s w, (IsKindedType-from (kinds_of g) [] t u).1)

pub exit_well_formed : (g : Context) (s : Shape) → IsWellFormedShape g s
    → IsWellFormedType g (capturing (ExitShape s) (single Cap))
exit_well_formed g s w = IsKindedType-test (kinds_of g) [] (capturing (ExitShape s) (single Cap))
    (IsKinded-from (kinds_of g) [] s w, single_kinded (kinds_of g) [] Cap tt)

-- functions of numbers
pub numbers_well_formed : (g : Context)
    → IsWellFormedShape g (FunctionShape (BaseShape bases.Int) empty (BaseShape bases.Unit) empty)
numbers_well_formed g =
    IsKinded-test (kinds_of g) [] (FunctionShape (BaseShape bases.Int) empty (BaseShape bases.Unit) empty)
    (tt, empty_kinded (kinds_of g) [], tt, empty_kinded (kinds_of g) (TermKind ∷ []))

-- one entry more
pub with_term : (g : Context) (t : CapturingType) → IsWellFormedContext g → IsWellFormedType g t
    → IsWellFormedContext (entry_of t ∷ g)
with_term g t f w = IsKindedContext-test (entry_of t ∷ g)
    (IsKindedType-from (kinds_of g) [] t w, IsKindedContext-from g f)

pub with_type : (g : Context) (s : Shape) → IsWellFormedContext g → IsWellFormedShape g s
    → IsWellFormedContext (TypeEntry s ∷ g)
with_type g s f w = IsKindedContext-test (TypeEntry s ∷ g) (IsKinded-from (kinds_of g) [] s w, IsKindedContext-from g f)

-- and what was well formed before
pub shape_with_entry : (g : Context) (b : Bind) (s : Shape) → IsWellFormedShape g s → IsWellFormedShape (b ∷ g) s
shape_with_entry g b s w = IsKinded-test (kinds_of (b ∷ g)) [] s
    (IsKinded-added (kind_of b) (kinds_of g) [] s (IsKinded-from (kinds_of g) [] s w))
