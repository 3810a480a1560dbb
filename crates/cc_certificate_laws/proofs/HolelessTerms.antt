-- The canonical derivation of a term without holes has none, and compares shapes by bounds.
use Rattle.std.proofs.Common.{◌≡◌, ℕ, zero, suc, Bool, true, false, cond, [], ◌∷◌, length, Option, Some, None, inl, inr, refl, sym, subst}
use Rattle.cc_base.specs.declared.literal.Base.{Base}
use Rattle.cc_base.specs.declared.literal.Base.TheVariants as bases
use Rattle.cc_base.specs.declared.literal.Op.{Op}
use Rattle.cc_capture.specs.declared.var.Var.{Var}
use Rattle.cc_capture.specs.declared.var.Var.TheVariants.{Bound, Free}
use Rattle.cc_capture.specs.declared.var.Elem.TheVariants.{Cap}
use Rattle.cc_capture.specs.Sets.{Set, empty, union}
use Rattle.cc_capture.proofs.Membership.{Member-empty}
use Rattle.cc_core.specs.Shapes.{Shape, BaseShape, AnyShape, TypeVariable, FunctionShape, TypeFunctionShape, BoxShape, ExitShape, CapturingType, capturing}
use Rattle.cc_core.specs.Terms.{Note, Absent, Written, Own, Term, VariableTerm, LiteralTerm, FunctionTerm, TypeFunctionTerm, BoxTerm, Application, TypeApplication, Unboxing, Let, Primitive, Conditional, Repetition, Operation, Boundary, Leave}
use Rattle.cc_core.specs.Contexts.{Bind, TermEntry, TypeEntry, Context, lookup, entry_of}
use Rattle.cc_core.specs.Equality.{same_type}
use Rattle.cc_core.specs.Captured.{captured_variables, variable_set, optional_set, without_binder, is_unused_value}
use Rattle.cc_core.specs.Occurrences.{HasNoHoleInSet, Meets, MeetsInTerm, MeetsInNote, MeetsInOptionalSet, without_holes}
use Rattle.cc_core.specs.Reading.{read_variable}
use Rattle.cc_core.specs.Substitution.{moving, put_variable, closed_variable, putting_shape, closed_type, replaced_type, replaced_type_by_shape}
use Rattle.cc_core.specs.Typing.{base_taken}
use Rattle.cc_core.specs.Derivations.{SetBelow, ShapeBelow, TypeBelow, OfType, Derivation, Node}
use Rattle.cc_checking.specs.Avoidance.{Positive, avoided_type}
use Rattle.cc_checking.specs.CanonicalDerivations.{canonical_shapes, typed, raised, raised_if, shape_of_entry, shape_at, variable_derived, head_derived, operand_derived, given_derived, application_derived, type_application_derived, unboxing_derived, operation_derived, exit_derived, argument_in, noted_derived, avoided_or, left_derived, choice_derived, term_derived, definition_derived}
use Rattle.cc_checking.specs.Exposing.{followed, exposed}
use Rattle.cc_checking.specs.Inference.{in_context, set_in, shape_in, type_in, exit_entry}
use Rattle.cc_typing_laws.proofs.Avoiding.{avoided_type_parts}
use Rattle.cc_checking_laws.proofs.Signatures.{avoided_set_closed, avoided_closed}
use Rattle.cc_checking_laws.proofs.Tameness.{Closed, closed_from, no_hole_single, LeavesHoles-moving, LeavesHoles-putting_shape, act_closed, act_set_closed}
use Rattle.cc_checking_laws.proofs.TameFindings.{closed_to, no_hole_outside, no_hole_union, no_hole_variable, read_set_closed}
use Rattle.std.specs.Prelude.{nat_eq}
use Rattle.cc_certificate_laws.proofs.HolelessComparisons.{ClosedType, IsHoleless, ClosedEntry, ClosedContext, closed_entry, either, canonical_holeless, type_holeless}

closed_empty : HasNoHoleInSet empty
closed_empty x m = absurd (Member-empty x m)

-- no hole is captured
captured_closed : (t : Term) (d : ℕ) → MeetsInTerm without_holes d t → HasNoHoleInSet (captured_variables t)
captured_closed (VariableTerm v) d k = no_hole_variable v
captured_closed (LiteralTerm l) d k = closed_empty
captured_closed (FunctionTerm s c t) d k = no_hole_outside (captured_variables t) (captured_closed t (suc d) k.2)
captured_closed (TypeFunctionTerm s t) d k = no_hole_outside (captured_variables t) (captured_closed t (suc d) k.1)
captured_closed (BoxTerm v) d k = closed_empty
captured_closed (Application v w) d k = no_hole_union (variable_set v) (variable_set w) (no_hole_variable v) (no_hole_variable w)
captured_closed (TypeApplication v s) d k = no_hole_variable v
captured_closed (Unboxing (Some c) v) d k = no_hole_union c (variable_set v) k.0 (no_hole_variable v)
captured_closed (Unboxing None v) d k = no_hole_union empty (variable_set v) closed_empty (no_hole_variable v)
captured_closed (Let n s t) d k =
    by_test (is_unused_value s (captured_variables t)) (no_hole_outside (captured_variables t) (captured_closed t (suc d) k.2)) (captured_closed s d k.1)
  where
    by_test : (b : Bool) → HasNoHoleInSet (without_binder (captured_variables t)) → HasNoHoleInSet (captured_variables s)
        → HasNoHoleInSet (cond b (without_binder (captured_variables t)) (union (captured_variables s) (without_binder (captured_variables t))))
    by_test true p q = p
    by_test false p q = no_hole_union (captured_variables s) (without_binder (captured_variables t)) q p
captured_closed (Primitive o v w) d k = no_hole_union (variable_set v) (variable_set w) (no_hole_variable v) (no_hole_variable w)
captured_closed (Conditional n v s t) d k =
    no_hole_union (variable_set v) (union (captured_variables s) (captured_variables t)) (no_hole_variable v)
    (no_hole_union (captured_variables s) (captured_variables t) (captured_closed s d k.2) (captured_closed t d k.3))
captured_closed (Repetition v w) d k = no_hole_union (variable_set v) (variable_set w) (no_hole_variable v) (no_hole_variable w)
captured_closed (Operation o v (Some w)) d k = no_hole_union (variable_set v) (variable_set w) (no_hole_variable v) (no_hole_variable w)
captured_closed (Operation o v None) d k = no_hole_union (variable_set v) empty (no_hole_variable v) closed_empty
captured_closed (Boundary s t) d k = no_hole_outside (captured_variables t) (captured_closed t (suc d) k.1)
captured_closed (Leave s c v w) d k = no_hole_union (variable_set v) (variable_set w) (no_hole_variable v) (no_hole_variable w)

-- what is read, closed and put
read_shape_closed : (g : Context) (d : ℕ) (s : Shape) → Meets without_holes d s → Closed (shape_in g s)
read_shape_closed g d s k =
    act_closed (moving (read_variable (length g))) (LeavesHoles-moving (read_variable (length g))) 0 s (closed_from d s k)

read_type_closed : (g : Context) (d : ℕ) (s : Shape) (c : Set) → Meets without_holes d s → HasNoHoleInSet c
    → ClosedType (type_in g (capturing s c))
read_type_closed g d s c k l = (read_shape_closed g d s k, read_set_closed g c l)

-- what is claimed of a term
typed_closed : (d : Derivation) → IsHoleless d → ClosedType (typed d)
typed_closed (Node rule premises (OfType type)) h = h.0
typed_closed (Node rule premises (SetBelow left right)) h = (tt, closed_empty)
typed_closed (Node rule premises (ShapeBelow left right)) h = (tt, closed_empty)
typed_closed (Node rule premises (TypeBelow left right)) h = (tt, closed_empty)

raised_holeless : (g : Context) (part : Derivation) (type : CapturingType) → ClosedContext g → IsHoleless part → ClosedType type
    → IsHoleless (raised canonical_shapes g part type)
raised_holeless g part type closed h k =
    (k, tt, (h, (type_holeless canonical_shapes canonical_holeless g (typed part) type closed (typed_closed part h) k, tt)))

raised_if_holeless : (g : Context) (part : Derivation) (type : CapturingType) → ClosedContext g → IsHoleless part → ClosedType type
    → IsHoleless (raised_if canonical_shapes g part type)
raised_if_holeless g part type closed h k =
    either (same_type (typed part) type) part (raised canonical_shapes g part type) h (raised_holeless g part type closed h k)

shape_at_closed : (g : Context) (v : Var) → ClosedContext g → Closed (shape_at g v)
shape_at_closed g (Bound i) closed = tt
shape_at_closed g (Free p) closed = from (lookup g p) refl
  where
    from : (o : Option Bind) → lookup g p ≡ o → Closed (shape_of_entry o)
    from (Some (TermEntry s c)) found = (closed_entry g p (TermEntry s c) closed found).0
    from (Some (TypeEntry b)) found = tt
    from None found = tt

followed_closed : (b : Bind) (n : ℕ) (s : Shape) → ClosedEntry b → Closed s → Closed (followed b n s)
followed_closed (TermEntry x c) n s t k = k
followed_closed (TypeEntry b) n (TypeVariable (Free q)) t k = by_test (nat_eq q n)
  where
    by_test : (x : Bool) → Closed (cond x b (TypeVariable (Free q)))
    by_test true = t
    by_test false = tt
followed_closed (TypeEntry b) n (TypeVariable (Bound i)) t k = k
followed_closed (TypeEntry b) n (BaseShape x) t k = k
followed_closed (TypeEntry b) n AnyShape t k = k
followed_closed (TypeEntry b) n (FunctionShape x c u e) t k = k
followed_closed (TypeEntry b) n (TypeFunctionShape x u e) t k = k
followed_closed (TypeEntry b) n (BoxShape x c) t k = k
followed_closed (TypeEntry b) n (ExitShape x) t k = k

exposed_closed : (g : Context) (s : Shape) → ClosedContext g → Closed s → Closed (exposed g s)
exposed_closed [] s t k = k
exposed_closed (b ∷ g) s t k = exposed_closed g (followed b (length g) s) t.1 (followed_closed b (length g) s t.0 k)

variable_holeless : (g : Context) (v : Var) → ClosedContext g → IsHoleless (variable_derived g v)
variable_holeless g v closed = ((shape_at_closed g v closed, no_hole_variable v), tt, tt)

exposed_at : (g : Context) (v : Var) → ClosedContext g → Closed (exposed g (shape_at g v))
exposed_at g v closed = exposed_closed g (shape_at g v) closed (shape_at_closed g v closed)

head_holeless : (g : Context) (v : Var) → ClosedContext g → IsHoleless (head_derived canonical_shapes g v)
head_holeless g v closed =
    raised_if_holeless g (variable_derived g v) (capturing (exposed g (shape_at g v)) (variable_set v)) closed
    (variable_holeless g v closed) (exposed_at g v closed, no_hole_variable v)

operand_holeless : (g : Context) (v : Var) (s : Shape) → ClosedContext g → Closed s
    → IsHoleless (operand_derived canonical_shapes g v s)
operand_holeless g v s closed k =
    raised_holeless g (variable_derived g v) (capturing s (variable_set v)) closed (variable_holeless g v closed)
    (k, no_hole_variable v)

given_holeless : (g : Context) (v : Var) (t : CapturingType) → ClosedContext g → ClosedType t
    → IsHoleless (given_derived canonical_shapes g v t)
given_holeless g v t closed k = raised_holeless g (variable_derived g v) t closed (variable_holeless g v closed) k

put_closed : (v : Var) (t : CapturingType) → ClosedType t → ClosedType (replaced_type v t)
put_closed v t k = (
  act_closed (moving (put_variable v)) (LeavesHoles-moving (put_variable v)) 0 t.shape k.0,
  act_set_closed (moving (put_variable v)) (LeavesHoles-moving (put_variable v)) 0 t.set k.1,
)

put_shape_closed : (s : Shape) (t : CapturingType) → Closed s → ClosedType t → ClosedType (replaced_type_by_shape s t)
put_shape_closed s t h k = (
  act_closed (putting_shape s) (LeavesHoles-putting_shape s h) 0 t.shape k.0,
  act_set_closed (putting_shape s) (LeavesHoles-putting_shape s h) 0 t.set k.1,
)

application_holeless : (g : Context) (f a : Var) (s : Shape) → ClosedContext g → Closed s
    → IsHoleless (application_derived canonical_shapes g f a s)
application_holeless g f a (FunctionShape t c u e) closed k = (
  put_closed a (capturing u e) (k.2, k.3),
  tt,
  (head_holeless g f closed, (given_holeless g a (capturing t c) closed (k.0, k.1), tt)),
)
application_holeless g f a (BaseShape b) closed k = ((tt, closed_empty), tt, tt)
application_holeless g f a AnyShape closed k = ((tt, closed_empty), tt, tt)
application_holeless g f a (TypeVariable v) closed k = ((tt, closed_empty), tt, tt)
application_holeless g f a (TypeFunctionShape b u e) closed k = ((tt, closed_empty), tt, tt)
application_holeless g f a (BoxShape t c) closed k = ((tt, closed_empty), tt, tt)
application_holeless g f a (ExitShape t) closed k = ((tt, closed_empty), tt, tt)

type_application_holeless : (g : Context) (f : Var) (a s : Shape) → ClosedContext g → Closed a → Closed s
    → IsHoleless (type_application_derived canonical_shapes g f a s)
type_application_holeless g f a (TypeFunctionShape b u e) closed h k = (
  put_shape_closed a (capturing u e) h (k.1, k.2),
  tt,
  (head_holeless g f closed, (canonical_holeless g a b closed h k.0, tt)),
)
type_application_holeless g f a (FunctionShape t c u e) closed h k = ((tt, closed_empty), tt, tt)
type_application_holeless g f a (BaseShape b) closed h k = ((tt, closed_empty), tt, tt)
type_application_holeless g f a AnyShape closed h k = ((tt, closed_empty), tt, tt)
type_application_holeless g f a (TypeVariable v) closed h k = ((tt, closed_empty), tt, tt)
type_application_holeless g f a (BoxShape t c) closed h k = ((tt, closed_empty), tt, tt)
type_application_holeless g f a (ExitShape t) closed h k = ((tt, closed_empty), tt, tt)

unboxing_holeless : (g : Context) (set : Set) (box : Var) (s : Shape) → ClosedContext g → HasNoHoleInSet set → Closed s
    → IsHoleless (unboxing_derived canonical_shapes g set box s)
unboxing_holeless g set box (BoxShape t c) closed h k =
    ((k.0, h), tt, (given_holeless g box (capturing (BoxShape t set) (variable_set box)) closed ((k.0, h), no_hole_variable box), tt))
unboxing_holeless g set box (FunctionShape t c u e) closed h k = ((tt, closed_empty), tt, tt)
unboxing_holeless g set box (TypeFunctionShape b u e) closed h k = ((tt, closed_empty), tt, tt)
unboxing_holeless g set box (BaseShape b) closed h k = ((tt, closed_empty), tt, tt)
unboxing_holeless g set box AnyShape closed h k = ((tt, closed_empty), tt, tt)
unboxing_holeless g set box (TypeVariable v) closed h k = ((tt, closed_empty), tt, tt)
unboxing_holeless g set box (ExitShape t) closed h k = ((tt, closed_empty), tt, tt)

operation_holeless : (g : Context) (o : Op) (v : Var) (a : Option Var) (b : Option Base) → ClosedContext g
    → IsHoleless (operation_derived canonical_shapes g o v a b)
operation_holeless g o v (Some a) (Some b) closed =
    ((tt, closed_empty), tt, (head_holeless g v closed, (operand_holeless g a (BaseShape b) closed tt, tt)))
operation_holeless g o v (Some a) None closed = ((tt, closed_empty), tt, tt)
operation_holeless g o v None (Some b) closed = ((tt, closed_empty), tt, tt)
operation_holeless g o v None None closed = ((tt, closed_empty), tt, (head_holeless g v closed, tt))

exit_holeless : (g : Context) (gives : CapturingType) (exit value : Var) (s : Shape) → ClosedContext g → ClosedType gives → Closed s
    → IsHoleless (exit_derived canonical_shapes g gives exit value s)
exit_holeless g gives exit value (ExitShape t) closed h k =
    (h, tt, (head_holeless g exit closed, (given_holeless g value (capturing t empty) closed (k, closed_empty), tt)))
exit_holeless g gives exit value (FunctionShape t c u e) closed h k = ((tt, closed_empty), tt, tt)
exit_holeless g gives exit value (TypeFunctionShape b u e) closed h k = ((tt, closed_empty), tt, tt)
exit_holeless g gives exit value (BaseShape b) closed h k = ((tt, closed_empty), tt, tt)
exit_holeless g gives exit value AnyShape closed h k = ((tt, closed_empty), tt, tt)
exit_holeless g gives exit value (TypeVariable v) closed h k = ((tt, closed_empty), tt, tt)
exit_holeless g gives exit value (BoxShape t c) closed h k = ((tt, closed_empty), tt, tt)

noted_holeless : (g : Context) (d : ℕ) (n : Note) (part : Derivation) → ClosedContext g → MeetsInNote without_holes d n
    → IsHoleless part → IsHoleless (noted_derived canonical_shapes g n part)
noted_holeless g d Absent part closed k h = h
noted_holeless g d (Written s c) part closed k h =
    raised_holeless g part (type_in g (capturing s c)) closed h (read_type_closed g d s c k.0 k.1)
noted_holeless g d (Own s) part closed k h = h

avoided_or_closed : (n : ℕ) (c : Set) (t : CapturingType) → HasNoHoleInSet c → ClosedType t
    → ClosedType (avoided_or t (avoided_type Positive n c t))
avoided_or_closed n c t k h = from (avoided_type Positive n c t) refl
  where
    from : (o : Option CapturingType) → avoided_type Positive n c t ≡ o → ClosedType (avoided_or t o)
    from (Some r) is =
        let parts = avoided_type_parts Positive n c t r is in (
          closed_from 0 r.shape (avoided_closed Positive n c k 0 t.shape r.shape (closed_to 0 t.shape h.0) parts.0),
          subst HasNoHoleInSet parts.1 (avoided_set_closed Positive n c t.set k h.1),
        )
    from None is = h

left_holeless : (g : Context) (named : CapturingType) (part : Derivation) → ClosedContext g → ClosedType named → IsHoleless part
    → IsHoleless (left_derived canonical_shapes g named part)
left_holeless g named part closed k h =
    raised_if_holeless (entry_of named ∷ g) part
    (avoided_or (typed part) (avoided_type Positive (length g) named.set (typed part))) ((k.0, k.1), closed) h
    (avoided_or_closed (length g) named.set (typed part) k.1 (typed_closed part h))

choice_holeless : (g : Context) (d : ℕ) (n : Note) (v : Var) (one two : Derivation) → ClosedContext g → MeetsInNote without_holes d n
    → IsHoleless one → IsHoleless two → IsHoleless (choice_derived canonical_shapes g n v one two)
choice_holeless g d (Written s c) v one two closed k h h' =
    let type = read_type_closed g d s c k.0 k.1 in (
      type,
      tt,
      (
        operand_holeless g v (BaseShape bases.Bool) closed tt,
        (
          raised_holeless g one (type_in g (capturing s c)) closed h type,
          (raised_holeless g two (type_in g (capturing s c)) closed h' type, tt),
        ),
      ),
    )
choice_holeless g d Absent v one two closed k h h' = ((tt, closed_empty), tt, tt)
choice_holeless g d (Own s) v one two closed k h h' = ((tt, closed_empty), tt, tt)

closed_again : (n : ℕ) (t : CapturingType) → ClosedType t → ClosedType (closed_type n t)
closed_again n t k = (
  act_closed (moving (closed_variable n)) (LeavesHoles-moving (closed_variable n)) 0 t.shape k.0,
  act_set_closed (moving (closed_variable n)) (LeavesHoles-moving (closed_variable n)) 0 t.set k.1,
)

optional_closed : (d : ℕ) (o : Option Set) → MeetsInOptionalSet without_holes d o → HasNoHoleInSet (optional_set o)
optional_closed d (Some c) k = k
optional_closed d None k = closed_empty

pub term_holeless : (t : Term) (g : Context) (d : ℕ) → ClosedContext g → MeetsInTerm without_holes d t
    → IsHoleless (term_derived canonical_shapes g t)
term_holeless (VariableTerm v) g d closed k = variable_holeless g (in_context g v) closed
term_holeless (LiteralTerm l) g d closed k = ((tt, closed_empty), tt, tt)
term_holeless (FunctionTerm s c t) g d closed k =
    let entry = read_type_closed g d s c k.0 k.1 in
    let part = term_holeless t (entry_of (type_in g (capturing s c)) ∷ g) (suc d) ((entry.0, entry.1), closed) k.2 in
    let body = closed_again (length g) (typed (term_derived canonical_shapes (entry_of (type_in g (capturing s c)) ∷ g) t))
    (typed_closed (term_derived canonical_shapes (entry_of (type_in g (capturing s c)) ∷ g) t) part) in (
      (
        (
          entry.0,
          entry.1,
          body.0,
          body.1,
        ),
        read_set_closed g (captured_variables (FunctionTerm s c t)) (captured_closed (FunctionTerm s c t) d k),
      ),
      tt,
      (part, tt),
    )
term_holeless (TypeFunctionTerm s t) g d closed k =
    let entry = read_shape_closed g d s k.0 in
    let part = term_holeless t (TypeEntry (shape_in g s) ∷ g) (suc d) (entry, closed) k.1 in
    let body = closed_again (length g) (typed (term_derived canonical_shapes (TypeEntry (shape_in g s) ∷ g) t))
    (typed_closed (term_derived canonical_shapes (TypeEntry (shape_in g s) ∷ g) t) part) in (
      (
        (
          entry,
          body.0,
          body.1,
        ),
        read_set_closed g (captured_variables (TypeFunctionTerm s t)) (captured_closed (TypeFunctionTerm s t) d k),
      ),
      tt,
      (part, tt),
    )
term_holeless (BoxTerm v) g d closed k = (
  ((shape_at_closed g (in_context g v) closed, no_hole_variable (in_context g v)), closed_empty),
  tt,
  (variable_holeless g (in_context g v) closed, tt),
)
term_holeless (Application f a) g d closed k =
    application_holeless g (in_context g f) (in_context g a) (exposed g (shape_at g (in_context g f))) closed
    (exposed_at g (in_context g f) closed)
term_holeless (TypeApplication f s) g d closed k =
    type_application_holeless g (in_context g f) (shape_in g s) (exposed g (shape_at g (in_context g f))) closed
    (read_shape_closed g d s k.1) (exposed_at g (in_context g f) closed)
term_holeless (Unboxing o v) g d closed k =
    unboxing_holeless g (set_in g (optional_set o)) (in_context g v) (exposed g (shape_at g (in_context g v))) closed
    (read_set_closed g (optional_set o) (optional_closed d o k.0)) (exposed_at g (in_context g v) closed)
term_holeless (Let n s t) g d closed k =
    let right = noted_holeless g d n (term_derived canonical_shapes g s) closed k.0 (term_holeless s g d closed k.1) in
    let named = typed_closed (noted_derived canonical_shapes g n (term_derived canonical_shapes g s)) right in
    let body = term_holeless t (entry_of (typed (noted_derived canonical_shapes g n (term_derived canonical_shapes g s))) ∷ g) (suc d)
    ((named.0, named.1), closed) k.2 in
    let left = left_holeless g (typed (noted_derived canonical_shapes g n (term_derived canonical_shapes g s))) _ closed named body in
    (typed_closed _ left, tt, (right, (left, tt)))
term_holeless (Primitive o v w) g d closed k = (
  (tt, closed_empty),
  tt,
  (
    operand_holeless g (in_context g v) (BaseShape bases.Int) closed tt,
    (operand_holeless g (in_context g w) (BaseShape bases.Int) closed tt, tt),
  ),
)
term_holeless (Conditional n v s t) g d closed k =
    choice_holeless g d n (in_context g v) (term_derived canonical_shapes g s) (term_derived canonical_shapes g t) closed k.0
    (term_holeless s g d closed k.2) (term_holeless t g d closed k.3)
term_holeless (Repetition v w) g d closed k = (
  (tt, closed_empty),
  tt,
  (
    operand_holeless g (in_context g v) (BaseShape bases.Int) closed tt,
    (
      operand_holeless g (in_context g w) (FunctionShape (BaseShape bases.Int) empty (BaseShape bases.Unit) empty) closed
          (tt, closed_empty, tt, closed_empty),
      tt,
    ),
  ),
)
term_holeless (Operation o v a) g d closed k =
    operation_holeless g o (in_context g v) (argument_in g a) (base_taken o) closed
term_holeless (Boundary s t) g d closed k =
    let gives = read_shape_closed g d s k.0 in
    let inner : ClosedContext (exit_entry (shape_in g s) ∷ g) = ((gives, no_hole_single Cap tt), closed) in
    let part = term_holeless t (exit_entry (shape_in g s) ∷ g) (suc d) inner k.1 in (
      (gives, closed_empty),
      tt,
      (
        raised_holeless (exit_entry (shape_in g s) ∷ g) (term_derived canonical_shapes (exit_entry (shape_in g s) ∷ g) t)
            (capturing (shape_in g s) empty) inner part (gives, closed_empty),
        tt,
      ),
    )
term_holeless (Leave s c v w) g d closed k =
    exit_holeless g (type_in g (capturing s c)) (in_context g v) (in_context g w) (exposed g (shape_at g (in_context g v))) closed
    (read_type_closed g d s c k.0 k.1) (exposed_at g (in_context g v) closed)

-- so has that of a definition
pub definition_holeless : (g : Context) (n : Note) (t : Term) (signature : CapturingType) → ClosedContext g
    → MeetsInNote without_holes 0 n → MeetsInTerm without_holes 0 t → ClosedType signature
    → IsHoleless (definition_derived canonical_shapes g n t signature)
definition_holeless g n t signature closed kn kt ks =
    raised_if_holeless g (noted_derived canonical_shapes g n (term_derived canonical_shapes g t)) signature closed
    (noted_holeless g 0 n (term_derived canonical_shapes g t) closed kn (term_holeless t g 0 closed kt)) ks
