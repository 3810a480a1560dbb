-- Well-formedness as facts about kinds, one for each variable, and the tests as these facts.
use Rattle.std.proofs.Common.{◌≡◌, Bool, true, ◌&&◌, List, ◌∷◌, Option, Some, None, refl, ap}
use Rattle.std.proofs.lemmas.Bool.{and_parts, and_from}
use Rattle.cc_capture.specs.declared.var.Var.{Var}
use Rattle.cc_capture.specs.declared.var.Elem.{Elem}
use Rattle.cc_capture.specs.declared.var.Elem.TheVariants.{Var as Variable, Cap, Hole}
use Rattle.cc_capture.specs.Sets.{Set, Member, contains}
use Rattle.cc_capture.proofs.Membership.{list_all-is_listed, list_all-from_is_listed}
use Rattle.cc_core.specs.Shapes.{Shape, BaseShape, AnyShape, TypeVariable, FunctionShape, TypeFunctionShape, BoxShape, ExitShape, CapturingType}
use Rattle.cc_core.specs.Terms.{Note, Absent, Written, Own, Term, VariableTerm, LiteralTerm, FunctionTerm, TypeFunctionTerm, BoxTerm, Application, TypeApplication, Unboxing, Let, Primitive, Conditional, Repetition, Operation, Boundary, Leave}
use Rattle.cc_core.specs.WellFormed.{Kind, TermKind, TypeKind, is_term_kind, is_type_kind, kind_at, is_term_variable, is_well_formed_element, is_well_formed_set, is_well_formed_shape, is_well_formed_type, is_well_formed_note, is_well_formed_optional_set, is_optional_term_variable, is_well_formed_term}

abbrev pub IsOfKind : List Kind → List Kind → Var → Kind → Type 0
IsOfKind kinds passed v kind = kind_at kinds passed v ≡ Some kind

abbrev pub IsKindedElement : List Kind → List Kind → Elem → Type 0
IsKindedElement kinds passed (Variable v) = IsOfKind kinds passed v TermKind
IsKindedElement kinds passed Cap = Unit {0}
IsKindedElement kinds passed (Hole n) = Unit {0}

abbrev pub IsKindedSet : List Kind → List Kind → Set → Type 0
IsKindedSet kinds passed c = (x : Elem) → Member x c → IsKindedElement kinds passed x

abbrev pub IsKinded : List Kind → List Kind → Shape → Type 0
IsKinded kinds passed (BaseShape b) = Unit {0}
IsKinded kinds passed AnyShape = Unit {0}
IsKinded kinds passed (TypeVariable v) = IsOfKind kinds passed v TypeKind
IsKinded kinds passed (FunctionShape t c u e) =
    IsKinded kinds passed t × IsKindedSet kinds passed c × IsKinded kinds (TermKind ∷ passed) u
    × IsKindedSet kinds (TermKind ∷ passed) e
IsKinded kinds passed (TypeFunctionShape b u e) =
    IsKinded kinds passed b × IsKinded kinds (TypeKind ∷ passed) u × IsKindedSet kinds (TypeKind ∷ passed) e
IsKinded kinds passed (BoxShape t c) = IsKinded kinds passed t × IsKindedSet kinds passed c
IsKinded kinds passed (ExitShape t) = IsKinded kinds passed t

abbrev pub IsKindedType : List Kind → List Kind → CapturingType → Type 0
IsKindedType kinds passed t = IsKinded kinds passed t.shape × IsKindedSet kinds passed t.set

abbrev pub IsKindedNote : List Kind → List Kind → Note → Type 0
IsKindedNote kinds passed Absent = Unit {0}
IsKindedNote kinds passed (Written s c) = IsKinded kinds passed s × IsKindedSet kinds passed c
IsKindedNote kinds passed (Own s) = IsKinded kinds passed s

abbrev pub IsKindedOptionalSet : List Kind → List Kind → Option Set → Type 0
IsKindedOptionalSet kinds passed None = Unit {0}
IsKindedOptionalSet kinds passed (Some c) = IsKindedSet kinds passed c

abbrev pub IsKindedOptional : List Kind → List Kind → Option Var → Type 0
IsKindedOptional kinds passed None = Unit {0}
IsKindedOptional kinds passed (Some v) = IsOfKind kinds passed v TermKind

abbrev pub IsKindedTerm : List Kind → List Kind → Term → Type 0
IsKindedTerm kinds passed (VariableTerm v) = IsOfKind kinds passed v TermKind
IsKindedTerm kinds passed (LiteralTerm l) = Unit {0}
IsKindedTerm kinds passed (FunctionTerm s c t) =
    IsKinded kinds passed s × IsKindedSet kinds passed c × IsKindedTerm kinds (TermKind ∷ passed) t
IsKindedTerm kinds passed (TypeFunctionTerm s t) = IsKinded kinds passed s × IsKindedTerm kinds (TypeKind ∷ passed) t
IsKindedTerm kinds passed (BoxTerm v) = IsOfKind kinds passed v TermKind
IsKindedTerm kinds passed (Application v w) = IsOfKind kinds passed v TermKind × IsOfKind kinds passed w TermKind
IsKindedTerm kinds passed (TypeApplication v s) = IsOfKind kinds passed v TermKind × IsKinded kinds passed s
IsKindedTerm kinds passed (Unboxing o v) = IsKindedOptionalSet kinds passed o × IsOfKind kinds passed v TermKind
IsKindedTerm kinds passed (Let n s t) =
    IsKindedNote kinds passed n × IsKindedTerm kinds passed s × IsKindedTerm kinds (TermKind ∷ passed) t
IsKindedTerm kinds passed (Primitive p v w) = IsOfKind kinds passed v TermKind × IsOfKind kinds passed w TermKind
IsKindedTerm kinds passed (Conditional n v s t) =
    IsKindedNote kinds passed n × IsOfKind kinds passed v TermKind × IsKindedTerm kinds passed s
    × IsKindedTerm kinds passed t
IsKindedTerm kinds passed (Repetition v w) = IsOfKind kinds passed v TermKind × IsOfKind kinds passed w TermKind
IsKindedTerm kinds passed (Operation p v o) = IsOfKind kinds passed v TermKind × IsKindedOptional kinds passed o
IsKindedTerm kinds passed (Boundary s t) = IsKinded kinds passed s × IsKindedTerm kinds (TermKind ∷ passed) t
IsKindedTerm kinds passed (Leave s c v w) =
    IsKinded kinds passed s × IsKindedSet kinds passed c × IsOfKind kinds passed v TermKind
    × IsOfKind kinds passed w TermKind

-- the tests of kinds
pub term_kind-from : (o : Option Kind) → is_term_kind o ≡ true → o ≡ Some TermKind
term_kind-from (Some TermKind) h = refl
term_kind-from (Some TypeKind) h = cc
term_kind-from None h = cc

pub type_kind-from : (o : Option Kind) → is_type_kind o ≡ true → o ≡ Some TypeKind
type_kind-from (Some TypeKind) h = refl
type_kind-from (Some TermKind) h = cc
type_kind-from None h = cc

pub term_kind-test : (o : Option Kind) → o ≡ Some TermKind → is_term_kind o ≡ true
term_kind-test o h = ap is_term_kind h

pub type_kind-test : (o : Option Kind) → o ≡ Some TypeKind → is_type_kind o ≡ true
type_kind-test o h = ap is_type_kind h

three_parts : (x y z : Bool) → (x && y && z) ≡ true → (x ≡ true) × (y ≡ true) × (z ≡ true)
three_parts x y z h = let p = and_parts (x && y) z h in let q = and_parts x y p.0 in (q.0, q.1, p.1)

four_parts : (x y z w : Bool) → (x && y && z && w) ≡ true → (x ≡ true) × (y ≡ true) × (z ≡ true) × (w ≡ true)
four_parts x y z w h = let p = and_parts (x && y && z) w h in let q = three_parts x y z p.0 in (q.0, q.1, q.2, p.1)

three_from : (x y z : Bool) → x ≡ true → y ≡ true → z ≡ true → (x && y && z) ≡ true
three_from x y z p q r = and_from (x && y) z (and_from x y p q) r

four_from : (x y z w : Bool) → x ≡ true → y ≡ true → z ≡ true → w ≡ true → (x && y && z && w) ≡ true
four_from x y z w p q r s = and_from (x && y && z) w (three_from x y z p q r) s

-- the tests of elements and sets
IsKindedElement-from : (kinds passed : List Kind) (x : Elem) → is_well_formed_element kinds passed x ≡ true
    → IsKindedElement kinds passed x
IsKindedElement-from kinds passed (Variable v) h = term_kind-from (kind_at kinds passed v) h
IsKindedElement-from kinds passed Cap h = tt
IsKindedElement-from kinds passed (Hole n) h = tt

IsKindedElement-test : (kinds passed : List Kind) (x : Elem) → IsKindedElement kinds passed x
    → is_well_formed_element kinds passed x ≡ true
IsKindedElement-test kinds passed (Variable v) h = term_kind-test (kind_at kinds passed v) h
IsKindedElement-test kinds passed Cap h = refl
IsKindedElement-test kinds passed (Hole n) h = refl

pub IsKindedSet-from : (kinds passed : List Kind) (c : Set) → is_well_formed_set kinds passed c ≡ true
    → IsKindedSet kinds passed c
unfolding contains
IsKindedSet-from kinds passed c h x m =
    IsKindedElement-from kinds passed x (list_all-is_listed (is_well_formed_element kinds passed) c.list h x m)

pub IsKindedSet-test : (kinds passed : List Kind) (c : Set) → IsKindedSet kinds passed c
    → is_well_formed_set kinds passed c ≡ true
unfolding contains
IsKindedSet-test kinds passed c h =
    list_all-from_is_listed (is_well_formed_element kinds passed) c.list (λ x m. IsKindedElement-test kinds passed x (h x m))

IsKindedOptionalSet-from : (kinds passed : List Kind) (o : Option Set)
    → is_well_formed_optional_set kinds passed o ≡ true → IsKindedOptionalSet kinds passed o
IsKindedOptionalSet-from kinds passed None h = tt
IsKindedOptionalSet-from kinds passed (Some c) h = IsKindedSet-from kinds passed c h

IsKindedOptionalSet-test : (kinds passed : List Kind) (o : Option Set) → IsKindedOptionalSet kinds passed o
    → is_well_formed_optional_set kinds passed o ≡ true
IsKindedOptionalSet-test kinds passed None h = refl
IsKindedOptionalSet-test kinds passed (Some c) h = IsKindedSet-test kinds passed c h

IsKindedOptional-from : (kinds passed : List Kind) (o : Option Var) → is_optional_term_variable kinds passed o ≡ true
    → IsKindedOptional kinds passed o
IsKindedOptional-from kinds passed None h = tt
IsKindedOptional-from kinds passed (Some v) h = term_kind-from (kind_at kinds passed v) h

IsKindedOptional-test : (kinds passed : List Kind) (o : Option Var) → IsKindedOptional kinds passed o
    → is_optional_term_variable kinds passed o ≡ true
IsKindedOptional-test kinds passed None h = refl
IsKindedOptional-test kinds passed (Some v) h = term_kind-test (kind_at kinds passed v) h

pub IsKinded-from : (kinds passed : List Kind) (x : Shape) → is_well_formed_shape kinds passed x ≡ true
    → IsKinded kinds passed x
IsKinded-from kinds passed (BaseShape b) h = tt
IsKinded-from kinds passed AnyShape h = tt
IsKinded-from kinds passed (TypeVariable v) h = type_kind-from (kind_at kinds passed v) h
IsKinded-from kinds passed (FunctionShape t c u e) h = let p = four_parts (is_well_formed_shape kinds passed t) (is_well_formed_set kinds passed c) (is_well_formed_shape kinds (TermKind ∷ passed) u) (is_well_formed_set kinds (TermKind ∷ passed) e) h in (IsKinded-from kinds passed t p.0, IsKindedSet-from kinds passed c p.1, IsKinded-from kinds (TermKind ∷ passed) u p.2, IsKindedSet-from kinds (TermKind ∷ passed) e p.3)
IsKinded-from kinds passed (TypeFunctionShape b u e) h = let p = three_parts (is_well_formed_shape kinds passed b) (is_well_formed_shape kinds (TypeKind ∷ passed) u) (is_well_formed_set kinds (TypeKind ∷ passed) e) h in (IsKinded-from kinds passed b p.0, IsKinded-from kinds (TypeKind ∷ passed) u p.1, IsKindedSet-from kinds (TypeKind ∷ passed) e p.2)
IsKinded-from kinds passed (BoxShape t c) h = let p = and_parts (is_well_formed_shape kinds passed t) (is_well_formed_set kinds passed c) h in (IsKinded-from kinds passed t p.0, IsKindedSet-from kinds passed c p.1)
IsKinded-from kinds passed (ExitShape t) h = IsKinded-from kinds passed t h

pub IsKinded-test : (kinds passed : List Kind) (x : Shape) → IsKinded kinds passed x
    → is_well_formed_shape kinds passed x ≡ true
IsKinded-test kinds passed (BaseShape b) h = refl
IsKinded-test kinds passed AnyShape h = refl
IsKinded-test kinds passed (TypeVariable v) h = type_kind-test (kind_at kinds passed v) h
IsKinded-test kinds passed (FunctionShape t c u e) h =
    four_from (is_well_formed_shape kinds passed t) (is_well_formed_set kinds passed c)
    (is_well_formed_shape kinds (TermKind ∷ passed) u) (is_well_formed_set kinds (TermKind ∷ passed) e)
    (IsKinded-test kinds passed t h.0) (IsKindedSet-test kinds passed c h.1)
    (IsKinded-test kinds (TermKind ∷ passed) u h.2) (IsKindedSet-test kinds (TermKind ∷ passed) e h.3)
IsKinded-test kinds passed (TypeFunctionShape b u e) h =
    three_from (is_well_formed_shape kinds passed b) (is_well_formed_shape kinds (TypeKind ∷ passed) u)
    (is_well_formed_set kinds (TypeKind ∷ passed) e) (IsKinded-test kinds passed b h.0)
    (IsKinded-test kinds (TypeKind ∷ passed) u h.1) (IsKindedSet-test kinds (TypeKind ∷ passed) e h.2)
IsKinded-test kinds passed (BoxShape t c) h =
    and_from (is_well_formed_shape kinds passed t) (is_well_formed_set kinds passed c)
    (IsKinded-test kinds passed t h.0) (IsKindedSet-test kinds passed c h.1)
IsKinded-test kinds passed (ExitShape t) h = IsKinded-test kinds passed t h

pub IsKindedType-from : (kinds passed : List Kind) (t : CapturingType) → is_well_formed_type kinds passed t ≡ true
    → IsKindedType kinds passed t
IsKindedType-from kinds passed t h =
    let p = and_parts (is_well_formed_shape kinds passed t.shape) (is_well_formed_set kinds passed t.set) h in
    (IsKinded-from kinds passed t.shape p.0, IsKindedSet-from kinds passed t.set p.1)

pub IsKindedType-test : (kinds passed : List Kind) (t : CapturingType) → IsKindedType kinds passed t
    → is_well_formed_type kinds passed t ≡ true
IsKindedType-test kinds passed t h =
    and_from (is_well_formed_shape kinds passed t.shape) (is_well_formed_set kinds passed t.set) (IsKinded-test kinds passed t.shape h.0) (IsKindedSet-test kinds passed t.set h.1)

pub IsKindedNote-from : (kinds passed : List Kind) (x : Note) → is_well_formed_note kinds passed x ≡ true
    → IsKindedNote kinds passed x
IsKindedNote-from kinds passed Absent h = tt
IsKindedNote-from kinds passed (Written s c) h = let p = and_parts (is_well_formed_shape kinds passed s) (is_well_formed_set kinds passed c) h in (IsKinded-from kinds passed s p.0, IsKindedSet-from kinds passed c p.1)
IsKindedNote-from kinds passed (Own s) h = IsKinded-from kinds passed s h

pub IsKindedNote-test : (kinds passed : List Kind) (x : Note) → IsKindedNote kinds passed x
    → is_well_formed_note kinds passed x ≡ true
IsKindedNote-test kinds passed Absent h = refl
IsKindedNote-test kinds passed (Written s c) h =
    and_from (is_well_formed_shape kinds passed s) (is_well_formed_set kinds passed c)
    (IsKinded-test kinds passed s h.0) (IsKindedSet-test kinds passed c h.1)
IsKindedNote-test kinds passed (Own s) h = IsKinded-test kinds passed s h

pub IsKindedTerm-from : (kinds passed : List Kind) (x : Term) → is_well_formed_term kinds passed x ≡ true
    → IsKindedTerm kinds passed x
IsKindedTerm-from kinds passed (VariableTerm v) h = term_kind-from (kind_at kinds passed v) h
IsKindedTerm-from kinds passed (LiteralTerm l) h = tt
IsKindedTerm-from kinds passed (FunctionTerm s c t) h = let p = three_parts (is_well_formed_shape kinds passed s) (is_well_formed_set kinds passed c) (is_well_formed_term kinds (TermKind ∷ passed) t) h in (IsKinded-from kinds passed s p.0, IsKindedSet-from kinds passed c p.1, IsKindedTerm-from kinds (TermKind ∷ passed) t p.2)
IsKindedTerm-from kinds passed (TypeFunctionTerm s t) h = let p = and_parts (is_well_formed_shape kinds passed s) (is_well_formed_term kinds (TypeKind ∷ passed) t) h in (IsKinded-from kinds passed s p.0, IsKindedTerm-from kinds (TypeKind ∷ passed) t p.1)
IsKindedTerm-from kinds passed (BoxTerm v) h = term_kind-from (kind_at kinds passed v) h
IsKindedTerm-from kinds passed (Application v w) h = let p = and_parts (is_term_variable kinds passed v) (is_term_variable kinds passed w) h in (term_kind-from (kind_at kinds passed v) p.0, term_kind-from (kind_at kinds passed w) p.1)
IsKindedTerm-from kinds passed (TypeApplication v s) h = let p = and_parts (is_term_variable kinds passed v) (is_well_formed_shape kinds passed s) h in (term_kind-from (kind_at kinds passed v) p.0, IsKinded-from kinds passed s p.1)
IsKindedTerm-from kinds passed (Unboxing o v) h = let p = and_parts (is_well_formed_optional_set kinds passed o) (is_term_variable kinds passed v) h in (IsKindedOptionalSet-from kinds passed o p.0, term_kind-from (kind_at kinds passed v) p.1)
IsKindedTerm-from kinds passed (Let n s t) h = let p = three_parts (is_well_formed_note kinds passed n) (is_well_formed_term kinds passed s) (is_well_formed_term kinds (TermKind ∷ passed) t) h in (IsKindedNote-from kinds passed n p.0, IsKindedTerm-from kinds passed s p.1, IsKindedTerm-from kinds (TermKind ∷ passed) t p.2)
IsKindedTerm-from kinds passed (Primitive p v w) h = let p = and_parts (is_term_variable kinds passed v) (is_term_variable kinds passed w) h in (term_kind-from (kind_at kinds passed v) p.0, term_kind-from (kind_at kinds passed w) p.1)
IsKindedTerm-from kinds passed (Conditional n v s t) h = let p = four_parts (is_well_formed_note kinds passed n) (is_term_variable kinds passed v) (is_well_formed_term kinds passed s) (is_well_formed_term kinds passed t) h in (IsKindedNote-from kinds passed n p.0, term_kind-from (kind_at kinds passed v) p.1, IsKindedTerm-from kinds passed s p.2, IsKindedTerm-from kinds passed t p.3)
IsKindedTerm-from kinds passed (Repetition v w) h = let p = and_parts (is_term_variable kinds passed v) (is_term_variable kinds passed w) h in (term_kind-from (kind_at kinds passed v) p.0, term_kind-from (kind_at kinds passed w) p.1)
IsKindedTerm-from kinds passed (Operation p v o) h = let p = and_parts (is_term_variable kinds passed v) (is_optional_term_variable kinds passed o) h in (term_kind-from (kind_at kinds passed v) p.0, IsKindedOptional-from kinds passed o p.1)
IsKindedTerm-from kinds passed (Boundary s t) h = let p = and_parts (is_well_formed_shape kinds passed s) (is_well_formed_term kinds (TermKind ∷ passed) t) h in (IsKinded-from kinds passed s p.0, IsKindedTerm-from kinds (TermKind ∷ passed) t p.1)
IsKindedTerm-from kinds passed (Leave s c v w) h = let p = four_parts (is_well_formed_shape kinds passed s) (is_well_formed_set kinds passed c) (is_term_variable kinds passed v) (is_term_variable kinds passed w) h in (IsKinded-from kinds passed s p.0, IsKindedSet-from kinds passed c p.1, term_kind-from (kind_at kinds passed v) p.2, term_kind-from (kind_at kinds passed w) p.3)

pub IsKindedTerm-test : (kinds passed : List Kind) (x : Term) → IsKindedTerm kinds passed x
    → is_well_formed_term kinds passed x ≡ true
IsKindedTerm-test kinds passed (VariableTerm v) h = term_kind-test (kind_at kinds passed v) h
IsKindedTerm-test kinds passed (LiteralTerm l) h = refl
IsKindedTerm-test kinds passed (FunctionTerm s c t) h =
    three_from (is_well_formed_shape kinds passed s) (is_well_formed_set kinds passed c)
    (is_well_formed_term kinds (TermKind ∷ passed) t) (IsKinded-test kinds passed s h.0)
    (IsKindedSet-test kinds passed c h.1) (IsKindedTerm-test kinds (TermKind ∷ passed) t h.2)
IsKindedTerm-test kinds passed (TypeFunctionTerm s t) h =
    and_from (is_well_formed_shape kinds passed s) (is_well_formed_term kinds (TypeKind ∷ passed) t)
    (IsKinded-test kinds passed s h.0) (IsKindedTerm-test kinds (TypeKind ∷ passed) t h.1)
IsKindedTerm-test kinds passed (BoxTerm v) h = term_kind-test (kind_at kinds passed v) h
IsKindedTerm-test kinds passed (Application v w) h =
    and_from (is_term_variable kinds passed v) (is_term_variable kinds passed w)
    (term_kind-test (kind_at kinds passed v) h.0) (term_kind-test (kind_at kinds passed w) h.1)
IsKindedTerm-test kinds passed (TypeApplication v s) h =
    and_from (is_term_variable kinds passed v) (is_well_formed_shape kinds passed s)
    (term_kind-test (kind_at kinds passed v) h.0) (IsKinded-test kinds passed s h.1)
IsKindedTerm-test kinds passed (Unboxing o v) h =
    and_from (is_well_formed_optional_set kinds passed o) (is_term_variable kinds passed v)
    (IsKindedOptionalSet-test kinds passed o h.0) (term_kind-test (kind_at kinds passed v) h.1)
IsKindedTerm-test kinds passed (Let n s t) h =
    three_from (is_well_formed_note kinds passed n) (is_well_formed_term kinds passed s)
    (is_well_formed_term kinds (TermKind ∷ passed) t) (IsKindedNote-test kinds passed n h.0)
    (IsKindedTerm-test kinds passed s h.1) (IsKindedTerm-test kinds (TermKind ∷ passed) t h.2)
IsKindedTerm-test kinds passed (Primitive p v w) h =
    and_from (is_term_variable kinds passed v) (is_term_variable kinds passed w)
    (term_kind-test (kind_at kinds passed v) h.0) (term_kind-test (kind_at kinds passed w) h.1)
IsKindedTerm-test kinds passed (Conditional n v s t) h =
    four_from (is_well_formed_note kinds passed n) (is_term_variable kinds passed v)
    (is_well_formed_term kinds passed s) (is_well_formed_term kinds passed t) (IsKindedNote-test kinds passed n h.0)
    (term_kind-test (kind_at kinds passed v) h.1) (IsKindedTerm-test kinds passed s h.2)
    (IsKindedTerm-test kinds passed t h.3)
IsKindedTerm-test kinds passed (Repetition v w) h =
    and_from (is_term_variable kinds passed v) (is_term_variable kinds passed w)
    (term_kind-test (kind_at kinds passed v) h.0) (term_kind-test (kind_at kinds passed w) h.1)
IsKindedTerm-test kinds passed (Operation p v o) h =
    and_from (is_term_variable kinds passed v) (is_optional_term_variable kinds passed o)
    (term_kind-test (kind_at kinds passed v) h.0) (IsKindedOptional-test kinds passed o h.1)
IsKindedTerm-test kinds passed (Boundary s t) h =
    and_from (is_well_formed_shape kinds passed s) (is_well_formed_term kinds (TermKind ∷ passed) t)
    (IsKinded-test kinds passed s h.0) (IsKindedTerm-test kinds (TermKind ∷ passed) t h.1)
IsKindedTerm-test kinds passed (Leave s c v w) h =
    four_from (is_well_formed_shape kinds passed s) (is_well_formed_set kinds passed c)
    (is_term_variable kinds passed v) (is_term_variable kinds passed w) (IsKinded-test kinds passed s h.0)
    (IsKindedSet-test kinds passed c h.1) (term_kind-test (kind_at kinds passed v) h.2)
    (term_kind-test (kind_at kinds passed w) h.3)
