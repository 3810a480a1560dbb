-- When the rules of typing give a type, from what the premises claim: each test in both directions.
use Rattle.std.proofs.Common.{◌≡◌, ◌↔◌, ℕ, Bool, true, false, not, ◌&&◌, List, [], ◌∷◌, length, Option, Some, None, refl, ap, sym, ◌∙◌}
use Rattle.std.proofs.lemmas.Bool.{not-true, not_from_false}
use Rattle.cc_base.specs.declared.literal.Base.{Base}
use Rattle.cc_base.specs.declared.literal.Base.TheVariants as bases
use Rattle.cc_base.specs.declared.literal.Op.{Op}
use Rattle.cc_base.specs.declared.literal.Operator.{Operator}
use Rattle.cc_capture.specs.declared.var.Var.{Var}
use Rattle.cc_capture.specs.declared.var.Var.TheVariants.{Bound, Free}
use Rattle.cc_capture.specs.Sets.{Set, empty, same_set}
use Rattle.cc_core.specs.Shapes.{Shape, BaseShape, AnyShape, TypeVariable, FunctionShape, TypeFunctionShape, BoxShape, ExitShape, CapturingType, capturing}
use Rattle.cc_core.specs.Terms.{Note, Term, FunctionTerm, TypeFunctionTerm}
use Rattle.cc_core.specs.Contexts.{Bind, TermEntry, TypeEntry, Context, lookup}
use Rattle.cc_core.specs.Substitution.{closed, closed_set, replaced_type, replaced_type_by_shape}
use Rattle.cc_core.specs.Equality.{same_shape, same_type}
use Rattle.cc_core.specs.WellFormed.{kinds_of, is_well_formed_set, is_well_formed_shape, is_well_formed_type, IsWellFormedType, IsWellFormedShape, IsWellFormedSet}
use Rattle.cc_core.specs.Occurrences.{Meets, MeetsInSet, without}
use Rattle.cc_core.specs.Questions.{occurs_in_type}
use Rattle.cc_core.specs.Captured.{captured_variables, variable_set}
use Rattle.cc_core.specs.Typing.{base_operated, base_taken, base_answered, IsNoteOf, HasNoCap}
use Rattle.cc_core.specs.Derivations.{Claim, SetBelow, ShapeBelow, TypeBelow, OfType}
use Rattle.cc_core.proofs.OccurrenceTests.{decided_type, position-decides}
use Rattle.cc_derivation.specs.Rows.{position_asked, provided, is_base, has_no_cap, is_note_of, base_type, variable_given, entry_at, function_given, type_function_given, of_one, of_two, of_three, of_type_and_shapes, of_type_and_types, application_given, type_application_given, box_given, unboxing_given, let_given, primitive_given, choice_given, repetition_given, is_taken, is_alone, operation_given, lone_operation_given, boundary_given, exit_given, widened, is_given}
use Rattle.cc_derivation.proofs.Tests.{both, joined, shapes_same, same_shapes, types_same, same_types, sets_same, same_sets, provided_true, provided_gives, some_true, some_gives, no_cap, cap_tested, note_true, note_tested}

-- an equation of shapes as one of claims
of_shape : (type : CapturingType) (shape : Shape) → type.shape ≡ shape → OfType type ≡ OfType (capturing shape type.set)
of_shape type shape e = ap (λ s. OfType (capturing s type.set)) e

-- variables

pub variable_true : (g : Context) (v : Var) (type : CapturingType) → is_given type (variable_given v (entry_at g v)) ≡ true
    → (position : ℕ) × (shape : Shape) × (declared : Set) × (v ≡ Free position) × (lookup g position ≡ Some (TermEntry shape declared)) × (type ≡ capturing shape (variable_set (Free position)))
variable_true g (Bound i) type h = cc
variable_true g (Free position) type h = there (lookup g position) refl h
  where
    there : (entry : Option Bind) → lookup g position ≡ entry → is_given type (variable_given (Free position) entry) ≡ true
        → (at : ℕ) × (shape : Shape) × (declared : Set) × (Free position ≡ Free at) × (lookup g at ≡ Some (TermEntry shape declared)) × (type ≡ capturing shape (variable_set (Free at)))
    there (Some (TermEntry shape declared)) e h = (position, shape, declared, refl, e, some_true (capturing shape (variable_set (Free position))) type h)
    there (Some (TypeEntry bound)) e h = cc
    there None e h = cc

pub variable_gives : (g : Context) (position : ℕ) (shape : Shape) (declared : Set) → lookup g position ≡ Some (TermEntry shape declared)
    → is_given (capturing shape (variable_set (Free position))) (variable_given (Free position) (lookup g position)) ≡ true
variable_gives g position shape declared e = rw e (some_gives (capturing shape (variable_set (Free position))))

-- functions

pub function_true : (g : Context) (takes : Shape) (c : Set) (body : Term) (p : Claim) (type : CapturingType)
    → is_given type (of_one (function_given g takes c body) (p ∷ [])) ≡ true
    → (gives : Shape) × (e : Set) × IsWellFormedType g (capturing takes c) × (p ≡ OfType (capturing gives e))
    × (type ≡ capturing (FunctionShape takes c (closed (length g) gives) (closed_set (length g) e)) (captured_variables (FunctionTerm takes c body)))
function_true g takes c body (OfType result) type h =
    let t = provided_true (is_well_formed_type (kinds_of g) [] (capturing takes c)) _ type h in
    (result.shape, result.set, t.0, refl, t.1)
function_true g takes c body _ type h = cc

pub function_gives : (g : Context) (takes : Shape) (c : Set) (body : Term) (p : Claim) (gives : Shape) (e : Set)
    → IsWellFormedType g (capturing takes c) → p ≡ OfType (capturing gives e)
    → is_given (capturing (FunctionShape takes c (closed (length g) gives) (closed_set (length g) e)) (captured_variables (FunctionTerm takes c body))) (of_one (function_given g takes c body) (p ∷ [])) ≡ true
function_gives g takes c body p gives e formed same =
    rw same (provided_gives (is_well_formed_type (kinds_of g) [] (capturing takes c)) _ formed)

pub type_function_true : (g : Context) (bound : Shape) (body : Term) (p : Claim) (type : CapturingType)
    → is_given type (of_one (type_function_given g bound body) (p ∷ [])) ≡ true
    → (gives : Shape) × (e : Set) × IsWellFormedShape g bound × (p ≡ OfType (capturing gives e))
    × (type ≡ capturing (TypeFunctionShape bound (closed (length g) gives) (closed_set (length g) e)) (captured_variables (TypeFunctionTerm bound body)))
type_function_true g bound body (OfType result) type h =
    let t = provided_true (is_well_formed_shape (kinds_of g) [] bound) _ type h in
    (result.shape, result.set, t.0, refl, t.1)
type_function_true g bound body _ type h = cc

pub type_function_gives : (g : Context) (bound : Shape) (body : Term) (p : Claim) (gives : Shape) (e : Set)
    → IsWellFormedShape g bound → p ≡ OfType (capturing gives e)
    → is_given (capturing (TypeFunctionShape bound (closed (length g) gives) (closed_set (length g) e)) (captured_variables (TypeFunctionTerm bound body))) (of_one (type_function_given g bound body) (p ∷ [])) ≡ true
type_function_gives g bound body p gives e formed same =
    rw same (provided_gives (is_well_formed_shape (kinds_of g) [] bound) _ formed)

-- applications

applied_true : (s : Shape) (x : Var) (given type : CapturingType) → is_given type (application_given x s given) ≡ true
    → (takes : Shape) × (c : Set) × (gives : Shape) × (e : Set) × (s ≡ FunctionShape takes c gives e) × (given ≡ capturing takes c) × (type ≡ replaced_type x (capturing gives e))
applied_true (FunctionShape takes c gives e) x given type h =
    let t = provided_true (same_type given (capturing takes c)) _ type h in
    (takes, c, gives, e, refl, types_same given (capturing takes c) t.0, t.1)
applied_true _ x given type h = cc

pub application_true : (x : Var) (p q : Claim) (type : CapturingType) → is_given type (of_two (λ head given. application_given x head.shape given) (p ∷ q ∷ [])) ≡ true
    → (takes : Shape) × (c : Set) × (gives : Shape) × (e : Set) × (d : Set)
    × (p ≡ OfType (capturing (FunctionShape takes c gives e) d)) × (q ≡ OfType (capturing takes c)) × (type ≡ replaced_type x (capturing gives e))
application_true x (OfType head) (OfType given) type h =
    let t = applied_true head.shape x given type h in
    (t.0, t.1, t.2, t.3, head.set, of_shape head _ t.4, ap OfType t.5, t.6)
application_true x _ _ type h = cc

pub application_gives : (x : Var) (p q : Claim) (takes : Shape) (c : Set) (gives : Shape) (e d : Set)
    → p ≡ OfType (capturing (FunctionShape takes c gives e) d) → q ≡ OfType (capturing takes c)
    → is_given (replaced_type x (capturing gives e)) (of_two (λ head given. application_given x head.shape given) (p ∷ q ∷ [])) ≡ true
application_gives x p q takes c gives e d same same' =
    rw (same, same') (provided_gives (same_type (capturing takes c) (capturing takes c)) _ (same_types (capturing takes c) (capturing takes c) refl))

type_applied_true : (g : Context) (s argument left right : Shape) (type : CapturingType) → is_given type (type_application_given g argument s left right) ≡ true
    → (bound : Shape) × (gives : Shape) × (e : Set) × (s ≡ TypeFunctionShape bound gives e) × (left ≡ argument) × (right ≡ bound) × IsWellFormedShape g argument × (type ≡ replaced_type_by_shape argument (capturing gives e))
type_applied_true g (TypeFunctionShape bound gives e) argument left right type h =
    let t = provided_true (same_shape left argument && (same_shape right bound && is_well_formed_shape (kinds_of g) [] argument)) _ type h in
    let u = both (same_shape left argument) (same_shape right bound && is_well_formed_shape (kinds_of g) [] argument) t.0 in
    let w = both (same_shape right bound) (is_well_formed_shape (kinds_of g) [] argument) u.1 in
    (bound, gives, e, refl, shapes_same left argument u.0, shapes_same right bound w.0, w.1, t.1)
type_applied_true g _ argument left right type h = cc

pub type_application_true : (g : Context) (argument : Shape) (p q : Claim) (type : CapturingType) → is_given type (of_type_and_shapes (λ head left right. type_application_given g argument head.shape left right) (p ∷ q ∷ [])) ≡ true
    → (bound : Shape) × (gives : Shape) × (e : Set) × (d : Set)
    × (p ≡ OfType (capturing (TypeFunctionShape bound gives e) d)) × (q ≡ ShapeBelow argument bound) × IsWellFormedShape g argument × (type ≡ replaced_type_by_shape argument (capturing gives e))
type_application_true g argument (OfType head) (ShapeBelow left right) type h =
    let t = type_applied_true g head.shape argument left right type h in
    let first : left ≡ argument = t.4 in
    let second : right ≡ t.0 = t.5 in
    (t.0, t.1, t.2, head.set, of_shape head _ t.3, λ i. ShapeBelow (first i) (second i), t.6, t.7)
type_application_true g argument _ _ type h = cc

pub type_application_gives : (g : Context) (argument : Shape) (p q : Claim) (bound gives : Shape) (e d : Set)
    → p ≡ OfType (capturing (TypeFunctionShape bound gives e) d) → q ≡ ShapeBelow argument bound → IsWellFormedShape g argument
    → is_given (replaced_type_by_shape argument (capturing gives e)) (of_type_and_shapes (λ head left right. type_application_given g argument head.shape left right) (p ∷ q ∷ [])) ≡ true
type_application_gives g argument p q bound gives e d same same' formed =
    rw (same, same') (provided_gives (same_shape argument argument && (same_shape bound bound && is_well_formed_shape (kinds_of g) [] argument)) _
    (joined _ _ (same_shapes argument argument refl) (joined _ _ (same_shapes bound bound refl) formed)))

-- boxes

pub box_true : (p : Claim) (type : CapturingType) → is_given type (of_one box_given (p ∷ [])) ≡ true
    → (shape : Shape) × (c : Set) × (p ≡ OfType (capturing shape c)) × HasNoCap c × (type ≡ capturing (BoxShape shape c) empty)
box_true (OfType content) type h =
    let t = provided_true (has_no_cap content.set) _ type h in
    (content.shape, content.set, refl, no_cap content.set t.0, t.1)
box_true _ type h = cc

pub box_gives : (p : Claim) (shape : Shape) (c : Set) → p ≡ OfType (capturing shape c) → HasNoCap c
    → is_given (capturing (BoxShape shape c) empty) (of_one box_given (p ∷ [])) ≡ true
box_gives p shape c same none = rw same (provided_gives (has_no_cap c) _ (cap_tested c none))

unboxed_true : (g : Context) (c : Set) (s : Shape) (type : CapturingType) → is_given type (unboxing_given g c s) ≡ true
    → (shape : Shape) × (s ≡ BoxShape shape c) × IsWellFormedSet g c × HasNoCap c × (type ≡ capturing shape c)
unboxed_true g c (BoxShape shape c') type h =
    let t = provided_true (same_set c' c && (is_well_formed_set (kinds_of g) [] c && has_no_cap c)) _ type h in
    let u = both (same_set c' c) (is_well_formed_set (kinds_of g) [] c && has_no_cap c) t.0 in
    let w = both (is_well_formed_set (kinds_of g) [] c) (has_no_cap c) u.1 in
    (shape, ap (BoxShape shape) (sets_same c' c u.0), w.0, no_cap c w.1, t.1)
unboxed_true g c _ type h = cc

pub unboxing_true : (g : Context) (c : Set) (p : Claim) (type : CapturingType) → is_given type (of_one (λ head. unboxing_given g c head.shape) (p ∷ [])) ≡ true
    → (shape : Shape) × (d : Set) × (p ≡ OfType (capturing (BoxShape shape c) d)) × IsWellFormedSet g c × HasNoCap c × (type ≡ capturing shape c)
unboxing_true g c (OfType head) type h =
    let t = unboxed_true g c head.shape type h in
    (t.0, head.set, of_shape head _ t.1, t.2, t.3, t.4)
unboxing_true g c _ type h = cc

pub unboxing_gives : (g : Context) (c : Set) (p : Claim) (shape : Shape) (d : Set) → p ≡ OfType (capturing (BoxShape shape c) d) → IsWellFormedSet g c → HasNoCap c
    → is_given (capturing shape c) (of_one (λ head. unboxing_given g c head.shape) (p ∷ [])) ≡ true
unboxing_gives g c p shape d same formed none =
    rw same (provided_gives (same_set c c && (is_well_formed_set (kinds_of g) [] c && has_no_cap c)) _
    (joined _ _ (same_sets c c refl) (joined _ _ formed (cap_tested c none))))

-- lets

pub let_true : (g : Context) (note : Note) (p q : Claim) (type : CapturingType) → is_given type (of_two (let_given g note) (p ∷ q ∷ [])) ≡ true
    → (bound : Shape) × (c : Set) × (shape : Shape) × (e : Set)
    × (p ≡ OfType (capturing bound c)) × IsNoteOf note bound c × (q ≡ OfType (capturing shape e))
    × Meets (without (length g)) 0 shape × MeetsInSet (without (length g)) 0 e × (type ≡ capturing shape e)
let_true g note (OfType bound) (OfType result) type h =
    let t = provided_true (is_note_of note bound && not (occurs_in_type (position_asked (length g)) result)) _ type h in
    let u = both (is_note_of note bound) (not (occurs_in_type (position_asked (length g)) result)) t.0 in
    let w = (decided_type _ _ (position-decides (length g)) 0 result).0 (not-true _ u.1) in
    (bound.shape, bound.set, result.shape, result.set, refl, note_true note bound u.0, refl, w.0, w.1, t.1)
let_true g note _ _ type h = cc

pub let_gives : (g : Context) (note : Note) (p q : Claim) (bound : Shape) (c : Set) (shape : Shape) (e : Set)
    → p ≡ OfType (capturing bound c) → IsNoteOf note bound c → q ≡ OfType (capturing shape e)
    → Meets (without (length g)) 0 shape → MeetsInSet (without (length g)) 0 e
    → is_given (capturing shape e) (of_two (let_given g note) (p ∷ q ∷ [])) ≡ true
let_gives g note p q bound c shape e same noted same' in_shape in_set =
    rw (same, same') (provided_gives (is_note_of note (capturing bound c) && not (occurs_in_type (position_asked (length g)) (capturing shape e))) _
    (joined _ _ (note_tested note (capturing bound c) noted) (not_from_false _ ((decided_type _ _ (position-decides (length g)) 0 (capturing shape e)).1 (in_shape, in_set)))))

-- operators, choices and repetitions

pub primitive_true : (given : Base) (p q : Claim) (type : CapturingType) → is_given type (of_two (λ first second. primitive_given given first.shape second.shape) (p ∷ q ∷ [])) ≡ true
    → (d : Set) × (d' : Set) × (p ≡ OfType (capturing (BaseShape bases.Int) d)) × (q ≡ OfType (capturing (BaseShape bases.Int) d')) × (type ≡ base_type given)
primitive_true given (OfType left) (OfType right) type h =
    let t = provided_true (is_base left.shape bases.Int && is_base right.shape bases.Int) _ type h in
    let u = both (is_base left.shape bases.Int) (is_base right.shape bases.Int) t.0 in
    (left.set, right.set, of_shape left _ (shapes_same _ _ u.0), of_shape right _ (shapes_same _ _ u.1), t.1)
primitive_true given _ _ type h = cc

pub primitive_gives : (given : Base) (p q : Claim) (d d' : Set) → p ≡ OfType (capturing (BaseShape bases.Int) d) → q ≡ OfType (capturing (BaseShape bases.Int) d')
    → is_given (base_type given) (of_two (λ first second. primitive_given given first.shape second.shape) (p ∷ q ∷ [])) ≡ true
primitive_gives given p q d d' same same' = rw (same, same') (some_gives (base_type given))

pub choice_true : (written : CapturingType) (p q r : Claim) (type : CapturingType) → is_given type (of_three (λ head first second. choice_given written head.shape first second) (p ∷ q ∷ r ∷ [])) ≡ true
    → (d : Set) × (p ≡ OfType (capturing (BaseShape bases.Bool) d)) × (q ≡ OfType written) × (r ≡ OfType written) × (type ≡ written)
choice_true written (OfType test) (OfType positive) (OfType negative) type h =
    let t = provided_true (is_base test.shape bases.Bool && (same_type positive written && same_type negative written)) _ type h in
    let u = both (is_base test.shape bases.Bool) (same_type positive written && same_type negative written) t.0 in
    let w = both (same_type positive written) (same_type negative written) u.1 in
    (test.set, of_shape test _ (shapes_same _ _ u.0), ap OfType (types_same _ _ w.0), ap OfType (types_same _ _ w.1), t.1)
choice_true written _ _ _ type h = cc

pub choice_gives : (written : CapturingType) (p q r : Claim) (d : Set) → p ≡ OfType (capturing (BaseShape bases.Bool) d) → q ≡ OfType written → r ≡ OfType written
    → is_given written (of_three (λ head first second. choice_given written head.shape first second) (p ∷ q ∷ r ∷ [])) ≡ true
choice_gives written p q r d same same' same'' =
    rw (same, same', same'') (provided_gives (same_type written written && same_type written written) _
    (joined _ _ (same_types written written refl) (same_types written written refl)))

pub repetition_true : (p q : Claim) (type : CapturingType) → is_given type (of_two (λ first second. repetition_given first.shape second.shape) (p ∷ q ∷ [])) ≡ true
    → (d : Set) × (d' : Set) × (p ≡ OfType (capturing (BaseShape bases.Int) d)) × (q ≡ OfType (capturing (FunctionShape (BaseShape bases.Int) empty (BaseShape bases.Unit) empty) d')) × (type ≡ base_type bases.Unit)
repetition_true (OfType count) (OfType function) type h =
    let t = provided_true (is_base count.shape bases.Int && same_shape function.shape (FunctionShape (BaseShape bases.Int) empty (BaseShape bases.Unit) empty)) _ type h in
    let u = both (is_base count.shape bases.Int) (same_shape function.shape (FunctionShape (BaseShape bases.Int) empty (BaseShape bases.Unit) empty)) t.0 in
    (count.set, function.set, of_shape count _ (shapes_same _ _ u.0), of_shape function _ (shapes_same _ _ u.1), t.1)
repetition_true _ _ type h = cc

pub repetition_gives : (p q : Claim) (d d' : Set) → p ≡ OfType (capturing (BaseShape bases.Int) d) → q ≡ OfType (capturing (FunctionShape (BaseShape bases.Int) empty (BaseShape bases.Unit) empty) d')
    → is_given (base_type bases.Unit) (of_two (λ first second. repetition_given first.shape second.shape) (p ∷ q ∷ [])) ≡ true
repetition_gives p q d d' same same' =
    rw (same, same') (provided_gives (same_shape (FunctionShape (BaseShape bases.Int) empty (BaseShape bases.Unit) empty) (FunctionShape (BaseShape bases.Int) empty (BaseShape bases.Unit) empty)) _
    (same_shapes (FunctionShape (BaseShape bases.Int) empty (BaseShape bases.Unit) empty) _ refl))

-- operations

taken_true : (o : Option Base) (shape : Shape) → is_taken o shape ≡ true → (taken : Base) × (o ≡ Some taken) × (shape ≡ BaseShape taken)
taken_true (Some taken) shape h = (taken, refl, shapes_same _ _ h)
taken_true None shape h = cc

alone_true : (o : Option Base) → is_alone o ≡ true → o ≡ None
alone_true (Some taken) h = cc
alone_true None h = refl

pub operation_true : (operation : Op) (p q : Claim) (type : CapturingType) → is_given type (of_two (λ head given. operation_given operation head.shape given.shape) (p ∷ q ∷ [])) ≡ true
    → (taken : Base) × (d : Set) × (d' : Set) × (p ≡ OfType (capturing (BaseShape (base_operated operation)) d)) × (base_taken operation ≡ Some taken)
    × (q ≡ OfType (capturing (BaseShape taken) d')) × (type ≡ base_type (base_answered operation))
operation_true operation (OfType receiver) (OfType argument) type h =
    let t = provided_true (is_base receiver.shape (base_operated operation) && is_taken (base_taken operation) argument.shape) _ type h in
    let u = both (is_base receiver.shape (base_operated operation)) (is_taken (base_taken operation) argument.shape) t.0 in
    let w = taken_true (base_taken operation) argument.shape u.1 in
    (w.0, receiver.set, argument.set, of_shape receiver _ (shapes_same _ _ u.0), w.1, of_shape argument _ w.2, t.1)
operation_true operation _ _ type h = cc

pub operation_gives : (operation : Op) (p q : Claim) (taken : Base) (d d' : Set) → p ≡ OfType (capturing (BaseShape (base_operated operation)) d) → base_taken operation ≡ Some taken → q ≡ OfType (capturing (BaseShape taken) d')
    → is_given (base_type (base_answered operation)) (of_two (λ head given. operation_given operation head.shape given.shape) (p ∷ q ∷ [])) ≡ true
operation_gives operation p q taken d d' same takes same' =
    rw (same, same', takes) (provided_gives (is_base (BaseShape (base_operated operation)) (base_operated operation) && is_base (BaseShape taken) taken) _
    (joined _ _ (same_shapes (BaseShape (base_operated operation)) _ refl) (same_shapes (BaseShape taken) _ refl)))

pub lone_operation_true : (operation : Op) (p : Claim) (type : CapturingType) → is_given type (of_one (λ head. lone_operation_given operation head.shape) (p ∷ [])) ≡ true
    → (d : Set) × (p ≡ OfType (capturing (BaseShape (base_operated operation)) d)) × (base_taken operation ≡ None) × (type ≡ base_type (base_answered operation))
lone_operation_true operation (OfType receiver) type h =
    let t = provided_true (is_base receiver.shape (base_operated operation) && is_alone (base_taken operation)) _ type h in
    let u = both (is_base receiver.shape (base_operated operation)) (is_alone (base_taken operation)) t.0 in
    (receiver.set, of_shape receiver _ (shapes_same _ _ u.0), alone_true _ u.1, t.1)
lone_operation_true operation _ type h = cc

pub lone_operation_gives : (operation : Op) (p : Claim) (d : Set) → p ≡ OfType (capturing (BaseShape (base_operated operation)) d) → base_taken operation ≡ None
    → is_given (base_type (base_answered operation)) (of_one (λ head. lone_operation_given operation head.shape) (p ∷ [])) ≡ true
lone_operation_gives operation p d same none =
    rw (same, none) (provided_gives (is_base (BaseShape (base_operated operation)) (base_operated operation) && true) _
    (joined _ _ (same_shapes (BaseShape (base_operated operation)) _ refl) refl))

-- boundaries and exits

pub boundary_true : (g : Context) (gives : Shape) (p : Claim) (type : CapturingType) → is_given type (of_one (boundary_given g gives) (p ∷ [])) ≡ true
    → IsWellFormedShape g gives × (p ≡ OfType (capturing gives empty)) × (type ≡ capturing gives empty)
boundary_true g gives (OfType inner) type h =
    let t = provided_true (same_type inner (capturing gives empty) && is_well_formed_shape (kinds_of g) [] gives) _ type h in
    let u = both (same_type inner (capturing gives empty)) (is_well_formed_shape (kinds_of g) [] gives) t.0 in
    (u.1, ap OfType (types_same _ _ u.0), t.1)
boundary_true g gives _ type h = cc

pub boundary_gives : (g : Context) (gives : Shape) (p : Claim) → IsWellFormedShape g gives → p ≡ OfType (capturing gives empty)
    → is_given (capturing gives empty) (of_one (boundary_given g gives) (p ∷ [])) ≡ true
boundary_gives g gives p formed same =
    rw same (provided_gives (same_type (capturing gives empty) (capturing gives empty) && is_well_formed_shape (kinds_of g) [] gives) _
    (joined _ _ (same_types (capturing gives empty) _ refl) formed))

left_true : (g : Context) (gives : CapturingType) (s : Shape) (value type : CapturingType) → is_given type (exit_given g gives s value) ≡ true
    → (shape : Shape) × (s ≡ ExitShape shape) × (value ≡ capturing shape empty) × IsWellFormedType g gives × (type ≡ gives)
left_true g gives (ExitShape shape) value type h =
    let t = provided_true (same_type value (capturing shape empty) && is_well_formed_type (kinds_of g) [] gives) _ type h in
    let u = both (same_type value (capturing shape empty)) (is_well_formed_type (kinds_of g) [] gives) t.0 in
    (shape, refl, types_same _ _ u.0, u.1, t.1)
left_true g gives _ value type h = cc

pub exit_true : (g : Context) (gives : CapturingType) (p q : Claim) (type : CapturingType) → is_given type (of_two (λ head given. exit_given g gives head.shape given) (p ∷ q ∷ [])) ≡ true
    → (shape : Shape) × (d : Set) × (p ≡ OfType (capturing (ExitShape shape) d)) × (q ≡ OfType (capturing shape empty)) × IsWellFormedType g gives × (type ≡ gives)
exit_true g gives (OfType exit) (OfType value) type h =
    let t = left_true g gives exit.shape value type h in
    (t.0, exit.set, of_shape exit _ t.1, ap OfType t.2, t.3, t.4)
exit_true g gives _ _ type h = cc

pub exit_gives : (g : Context) (gives : CapturingType) (p q : Claim) (shape : Shape) (d : Set) → p ≡ OfType (capturing (ExitShape shape) d) → q ≡ OfType (capturing shape empty) → IsWellFormedType g gives
    → is_given gives (of_two (λ head given. exit_given g gives head.shape given) (p ∷ q ∷ [])) ≡ true
exit_gives g gives p q shape d same same' formed =
    rw (same, same') (provided_gives (same_type (capturing shape empty) (capturing shape empty) && is_well_formed_type (kinds_of g) [] gives) _
    (joined _ _ (same_types (capturing shape empty) _ refl) formed))

-- subsumption

pub widened_true : (g : Context) (p q : Claim) (type : CapturingType) → is_given type (of_type_and_types (widened g) (p ∷ q ∷ [])) ≡ true
    → (lower : CapturingType) × (upper : CapturingType) × (p ≡ OfType lower) × (q ≡ TypeBelow lower upper) × IsWellFormedType g upper × (type ≡ upper)
widened_true g (OfType found) (TypeBelow lower upper) type h =
    let t = provided_true (same_type lower found && is_well_formed_type (kinds_of g) [] upper) _ type h in
    let u = both (same_type lower found) (is_well_formed_type (kinds_of g) [] upper) t.0 in
    (lower, upper, ap OfType (sym (types_same lower found u.0)), refl, u.1, t.1)
widened_true g _ _ type h = cc

pub widened_gives : (g : Context) (p q : Claim) (lower upper : CapturingType) → p ≡ OfType lower → q ≡ TypeBelow lower upper → IsWellFormedType g upper
    → is_given upper (of_type_and_types (widened g) (p ∷ q ∷ [])) ≡ true
widened_gives g p q lower upper same same' formed =
    rw (same, same') (provided_gives (same_type lower lower && is_well_formed_type (kinds_of g) [] upper) _
    (joined _ _ (same_types lower lower refl) formed))
