-- The parts of what is well formed once it is read are so too, each in the context where it stands.
use Rattle.std.proofs.Common.{◌≡◌, ℕ, [], ◌∷◌, length, Some, sym, subst}
use Rattle.cc_capture.specs.declared.var.Var.{Var}
use Rattle.cc_core.specs.Shapes.{Shape, FunctionShape, TypeFunctionShape, BoxShape, CapturingType}
use Rattle.cc_core.specs.Contexts.{Bind, TypeEntry, Context, entry_of}
use Rattle.cc_core.specs.Reading.{reading, read_set}
use Rattle.cc_core.specs.Traversal.{act_type}
use Rattle.cc_core.specs.WellFormed.{kind_of, kinds_of, IsWellFormedContext, IsWellFormedShape, IsWellFormedType}
use Rattle.cc_core.specs.WellFormed.{IsWellFormedSet}
use Rattle.cc_core.proofs.KindFacts.{IsKinded, IsKindedType, IsKinded-from, IsKindedType-from, IsKinded-test}
use Rattle.cc_core.proofs.KindFacts.{IsKindedType-test, IsKindedSet-test}
use Rattle.cc_core.proofs.ReadingAndWriting.{opened_type-read, read-still, read_type-still}
use Rattle.cc_core.proofs.Sorts.{ShapeSort, TypeSort}
use Rattle.cc_core.proofs.SubcapturingContexts.{IsKindedContext-from}
use Rattle.cc_core.proofs.WellFormedness.{well_formed-bound_within}
use Rattle.cc_typing_laws.proofs.FormedContexts.{opened_kinded}
use Rattle.cc_checking.specs.Comparison.{bound_of}
use Rattle.cc_checking.specs.Inference.{shape_in, type_in}
use Rattle.cc_subty.proofs.BoundsFollowed.{entry_at, read_bound}
use Rattle.cc_known.proofs.FormedParts.{with_term, with_type}

-- at the root nothing is read otherwise than it stands
pub shape_standing : (g : Context) (s : Shape) → IsWellFormedShape g s → IsWellFormedShape g (shape_in g s)
shape_standing g s h =
    subst (IsWellFormedShape g) (sym (read-still (length g) 0 s (well_formed-bound_within ShapeSort g s h))) h

pub type_standing : (g : Context) (t : CapturingType) → IsWellFormedType g t → IsWellFormedType g (type_in g t)
type_standing g t h =
    subst (IsWellFormedType g) (sym (read_type-still (length g) 0 t (well_formed-bound_within TypeSort g t h))) h

-- a type's shape and set
pub shape_part : (g : Context) (t : CapturingType) → IsWellFormedType g (type_in g t)
    → IsWellFormedShape g (shape_in g t.shape)
shape_part g t h =
    IsKinded-test (kinds_of g) [] (shape_in g t.shape) (IsKindedType-from (kinds_of g) [] (type_in g t) h).0

pub set_part : (g : Context) (t : CapturingType) (n : ℕ) → n ≡ length g → IsWellFormedType g (type_in g t)
    → IsWellFormedSet g (read_set n t.set)
set_part g t n is h =
    subst (λ m. IsWellFormedSet g (read_set m t.set)) (sym is)
    (IsKindedSet-test (kinds_of g) [] (read_set (length g) t.set) (IsKindedType-from (kinds_of g) [] (type_in g t) h).1)

-- what is under a binder
body_part : (g : Context) (b : Bind) (t : CapturingType)
    → IsKindedType (kinds_of g) (kind_of b ∷ []) (act_type (reading (length g)) 1 t)
    → IsWellFormedType (b ∷ g) (type_in (b ∷ g) t)
body_part g b t h =
    IsKindedType-test (kinds_of (b ∷ g)) [] (type_in (b ∷ g) t)
    (subst (IsKindedType (kinds_of (b ∷ g)) []) (opened_type-read (length g) t)
    (opened_kinded TypeSort g b (act_type (reading (length g)) 1 t) h))

-- functions
pub takes_part : (g : Context) (t u : CapturingType)
    → IsWellFormedShape g (shape_in g (FunctionShape t.shape t.set u.shape u.set)) → IsWellFormedType g (type_in g t)
takes_part g t u h =
    let k = IsKinded-from (kinds_of g) [] (shape_in g (FunctionShape t.shape t.set u.shape u.set)) h in
    IsKindedType-test (kinds_of g) [] (type_in g t) (k.0, k.1)

pub under_takes : (g under : Context) (t u : CapturingType)
    → IsWellFormedContext g → IsWellFormedShape g (shape_in g (FunctionShape t.shape t.set u.shape u.set))
    → under ≡ entry_of (type_in g t) ∷ g → IsWellFormedContext under
under_takes g under t u formed h is =
    subst IsWellFormedContext (sym is) (with_term g (type_in g t) formed (takes_part g t u h))

pub gives_part : (g under : Context) (other t u : CapturingType)
    → IsWellFormedShape g (shape_in g (FunctionShape t.shape t.set u.shape u.set))
    → under ≡ entry_of (type_in g other) ∷ g → IsWellFormedType under (type_in under u)
gives_part g under other t u h is =
    let k = IsKinded-from (kinds_of g) [] (shape_in g (FunctionShape t.shape t.set u.shape u.set)) h in
    subst (λ x. IsWellFormedType x (type_in x u)) (sym is)
    (body_part g (entry_of (type_in g other)) u (k.2, k.3))

-- type functions
pub under_bound : (g under : Context) (b : Shape) (u : CapturingType)
    → IsWellFormedContext g → IsWellFormedShape g (shape_in g (TypeFunctionShape b u.shape u.set))
    → under ≡ TypeEntry (shape_in g b) ∷ g → IsWellFormedContext under
under_bound g under b u formed h is =
    let k = IsKinded-from (kinds_of g) [] (shape_in g (TypeFunctionShape b u.shape u.set)) h in
    subst IsWellFormedContext (sym is) (with_type g (shape_in g b) formed (IsKinded-test (kinds_of g) [] (shape_in g b) k.0))

pub result_part : (g under : Context) (other b : Shape) (u : CapturingType)
    → IsWellFormedShape g (shape_in g (TypeFunctionShape b u.shape u.set))
    → under ≡ TypeEntry (shape_in g other) ∷ g → IsWellFormedType under (type_in under u)
result_part g under other b u h is =
    let k = IsKinded-from (kinds_of g) [] (shape_in g (TypeFunctionShape b u.shape u.set)) h in
    subst (λ x. IsWellFormedType x (type_in x u)) (sym is)
    (body_part g (TypeEntry (shape_in g other)) u (k.1, k.2))

-- boxes
pub content_part : (g : Context) (t : CapturingType) → IsWellFormedShape g (shape_in g (BoxShape t.shape t.set))
    → IsWellFormedType g (type_in g t)
content_part g t h =
    let k = IsKinded-from (kinds_of g) [] (shape_in g (BoxShape t.shape t.set)) h in
    IsKindedType-test (kinds_of g) [] (type_in g t) (k.0, k.1)

-- the bound of a type variable
pub bound_part : (g : Context) (v : Var) (bound : Shape) → IsWellFormedContext g → bound_of g v ≡ Some bound
    → IsWellFormedShape g (shape_in g bound)
bound_part g v bound formed there =
    let own = entry_at g v bound (IsKindedContext-from g formed) there in
    IsKinded-test (kinds_of g) [] (shape_in g bound)
    (subst (IsKinded (kinds_of g) []) (sym (read_bound g bound own)) own)

pub bound_read : (g : Context) (v : Var) (bound : Shape) → IsWellFormedContext g → bound_of g v ≡ Some bound
    → shape_in g bound ≡ bound
bound_read g v bound formed there = read_bound g bound (entry_at g v bound (IsKindedContext-from g formed) there)
