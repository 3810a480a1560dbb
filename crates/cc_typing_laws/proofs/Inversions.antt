-- The inversion of each form, from typing by form.
use Rattle.cc_core.proofs.SubcapturingContexts.{IsKindedContext, IsKindedContext-from}
use Rattle.std.proofs.Common.{◌≡◌, ℕ, zero, [], ◌∷◌, length, Option, Some, None, refl}
use Rattle.std.proofs.lemmas.Bool.{and_from}
use Rattle.cc_base.specs.declared.literal.Base.TheVariants as bases
use Rattle.cc_base.specs.declared.literal.Base.{Base}
use Rattle.cc_base.specs.declared.literal.Operator.{Operator}
use Rattle.cc_base.specs.declared.literal.Op.{Op}
use Rattle.cc_capture.specs.declared.var.Var.{Var}
use Rattle.cc_capture.specs.declared.var.Var.TheVariants.{Free}
use Rattle.cc_capture.specs.declared.var.Elem.TheVariants.{Cap}
use Rattle.cc_capture.specs.Sets.{Set, empty}
use Rattle.cc_core.specs.Shapes.{Shape, BaseShape, FunctionShape, TypeFunctionShape, BoxShape, ExitShape, CapturingType, capturing}
use Rattle.cc_base.specs.Literals.{Literal}
use Rattle.cc_core.specs.Terms.{Note, Written, Term, VariableTerm, LiteralTerm, FunctionTerm, TypeFunctionTerm, BoxTerm, Application, TypeApplication, Unboxing, Let, Primitive, Conditional, Repetition, Operation, Boundary, Leave}
use Rattle.cc_core.specs.Contexts.{TermEntry, TypeEntry, Context, lookup}
use Rattle.cc_core.specs.Traversal.{act, act_set}
use Rattle.cc_core.specs.Substitution.{single, putting, putting_shape, opened_type, opened_term}
use Rattle.cc_core.specs.Occurrences.{Meets, MeetsInSet, without}
use Rattle.cc_core.specs.WellFormed.{Kind, TermKind, TypeKind, kinds_of, is_well_formed_shape, is_well_formed_set, IsWellFormedShape, IsWellFormedType, IsWellFormedSet, IsWellFormedTypeUnder}
use Rattle.cc_core.specs.Captured.{captured_variables, variable_set}
use Rattle.cc_core.specs.Subtyping.{Subtypes, SubtypesType}
use Rattle.cc_core.specs.Typing.{base_of, base_given, base_operated, base_taken, base_answered, IsNoteOf, HasNoCap, HasType}
use Rattle.cc_core.proofs.KindFacts.{IsKindedSet, IsKinded, IsKinded-test, IsKindedSet-test}
use Rattle.cc_typing_laws.specs.Inversion as law
use Rattle.cc_typing_laws.proofs.DirectSubtyping.{direct_to}
use Rattle.cc_typing_laws.proofs.FormedContexts.{kinded_single}
use Rattle.cc_typing_laws.proofs.InternalTyping.{HasVariable, exact_variable, exact_literal, exact_function, exact_type_function, exact_application, exact_type_application, exact_box, exact_unboxing, exact_let, exact_primitive, exact_conditional, exact_repetition, exact_operation, exact_operation_alone, exact_boundary, exact_leave, Typed, widened}
use Rattle.cc_typing_laws.proofs.TypingMaps.{typed_kinded, typed_kinded_set, typed_kinded_term}
use Rattle.cc_typing_laws.proofs.TypingLemmas.{has_variable_typed}
use Rattle.cc_typing_laws.proofs.InternalConversions.{formed_type_from, fresh_in, fresh_in_set, typed_from, type_from}

-- a part of a term that is typed by its form has its type
pub has_type_from_form : {g : Context} {t : Term} {s : Shape} {c : Set} → IsKindedContext g → Typed g t s c → HasType g t (capturing s c)
has_type_from_form formed typed = type_from formed (typed_kinded_term typed) typed

pub variable_has_type : {g : Context} {v : Var} {s : Shape} {c : Set} → IsKindedContext g → HasVariable g v s c → HasType g (VariableTerm v) (capturing s c)
variable_has_type formed has = has_type_from_form formed (has_variable_typed has)

-- what stands under one binder is well formed
pub formed_under : (g : Context) (k : Kind) (s : Shape) (c : Set) → IsKinded (kinds_of g) (k ∷ []) s → IsKindedSet (kinds_of g) (k ∷ []) c → IsWellFormedTypeUnder g k (capturing s c)
formed_under g k s c ks kc =
    and_from (is_well_formed_shape (kinds_of g) (k ∷ []) s) (is_well_formed_set (kinds_of g) (k ∷ []) c) (IsKinded-test (kinds_of g) (k ∷ []) s ks) (IsKindedSet-test (kinds_of g) (k ∷ []) c kc)

pub context_kinded : {g : Context} {t : Term} {type : CapturingType} → HasType g t type → IsKindedContext g
context_kinded {g = g} h = IsKindedContext-from g h.context_formed

-- One by one.
invert_variable : (context : Context) (variable : Var) (shape_above : Shape) (set_above : Set)
    → IsKindedContext context → Typed context (VariableTerm variable) shape_above set_above
    → (position : ℕ) × (shape : Shape) × (declared : Set)
    × (variable ≡ Free position) × (lookup context position ≡ Some (TermEntry shape declared))
    × SubtypesType context (capturing shape (variable_set variable)) (capturing shape_above set_above)
invert_variable g v above set_above formed (widened kt (exact_variable {p = p} {s = s} {c = c} there) captures below ks kc) = (p, s, c, refl, there, (captures, direct_to below))

pub variables_invert : law.VariablesInvert
variables_invert g v type h = invert_variable g v type.shape type.set (context_kinded h) (typed_from h)

invert_literal : (context : Context) (literal : Literal) (shape_above : Shape) (set_above : Set)
    → IsKindedContext context → Typed context (LiteralTerm literal) shape_above set_above → SubtypesType context (capturing (BaseShape (base_of literal)) empty) (capturing shape_above set_above)
invert_literal g l above set_above formed (widened kt exact_literal captures below ks kc) = (captures, direct_to below)

pub literals_invert : law.LiteralsInvert
literals_invert g l type h = invert_literal g l type.shape type.set (context_kinded h) (typed_from h)

invert_function : (context : Context) (takes : Shape) (c : Set) (body : Term) (shape_above : Shape) (set_above : Set)
    → IsKindedContext context → Typed context (FunctionTerm takes c body) shape_above set_above
    → (gives : CapturingType)
    × IsWellFormedType context (capturing takes c) × IsWellFormedTypeUnder context TermKind gives
    × HasType (TermEntry takes c ∷ context) (opened_term (length context) body) (opened_type (length context) gives)
    × SubtypesType context (capturing (FunctionShape takes c gives.shape gives.set) (captured_variables (FunctionTerm takes c body))) (capturing shape_above set_above)
invert_function g takes c body above set_above formed (widened kt (exact_function {gives = gives} {e = e} kg ke typed) captures below ks kc) = (capturing gives e, formed_type_from g takes c kt.0 kt.1, formed_under g TermKind gives e kg ke, has_type_from_form ((kt.0, kt.1), formed) typed, (captures, direct_to below))

pub function_bodies_invert : law.FunctionBodiesInvert
function_bodies_invert g takes c body type h = invert_function g takes c body type.shape type.set (context_kinded h) (typed_from h)

invert_type_function : (context : Context) (bound : Shape) (body : Term) (shape_above : Shape) (set_above : Set)
    → IsKindedContext context → Typed context (TypeFunctionTerm bound body) shape_above set_above
    → (gives : CapturingType)
    × IsWellFormedShape context bound × IsWellFormedTypeUnder context TypeKind gives
    × HasType (TypeEntry bound ∷ context) (opened_term (length context) body) (opened_type (length context) gives)
    × SubtypesType context (capturing (TypeFunctionShape bound gives.shape gives.set) (captured_variables (TypeFunctionTerm bound body))) (capturing shape_above set_above)
invert_type_function g bound body above set_above formed (widened kt (exact_type_function {gives = gives} {e = e} kg ke typed) captures below ks kc) = (capturing gives e, IsKinded-test (kinds_of g) [] bound kt.0, formed_under g TypeKind gives e kg ke, has_type_from_form (kt.0, formed) typed, (captures, direct_to below))

pub type_functions_invert : law.TypeFunctionsInvert
type_functions_invert g bound body type h = invert_type_function g bound body type.shape type.set (context_kinded h) (typed_from h)

invert_application : (context : Context) (function argument : Var) (shape_above : Shape) (set_above : Set)
    → IsKindedContext context → Typed context (Application function argument) shape_above set_above
    → (takes : Shape) × (c : Set) × (gives : Shape) × (e : Set) × (d : Set)
    × HasType context (VariableTerm function) (capturing (FunctionShape takes c gives e) d)
    × HasType context (VariableTerm argument) (capturing takes c)
    × SubtypesType context (capturing (act (putting argument) zero gives) (act_set (putting argument) zero e)) (capturing shape_above set_above)
invert_application g v w above set_above formed (widened kt (exact_application {takes = takes} {gives = gives} {c = c} {d = d} {e = e} function argument) captures below ks kc) = (takes, c, gives, e, d, variable_has_type formed function, variable_has_type formed argument, (captures, direct_to below))

pub applications_invert : law.ApplicationsInvert
applications_invert g v w type h = invert_application g v w type.shape type.set (context_kinded h) (typed_from h)

invert_type_application : (context : Context) (function : Var) (argument : Shape) (shape_above : Shape) (set_above : Set)
    → IsKindedContext context → Typed context (TypeApplication function argument) shape_above set_above
    → (bound : Shape) × (gives : Shape) × (e : Set) × (d : Set)
    × HasType context (VariableTerm function) (capturing (TypeFunctionShape bound gives e) d)
    × Subtypes context argument bound × IsWellFormedShape context argument
    × SubtypesType context (capturing (act (putting_shape argument) zero gives) (act_set (putting_shape argument) zero e)) (capturing shape_above set_above)
invert_type_application g v r above set_above formed (widened kt (exact_type_application {bound = bound} {gives = gives} {d = d} {e = e} function less) captures below ks kc) = (bound, gives, e, d, variable_has_type formed function, direct_to less, IsKinded-test (kinds_of g) [] r kt.1, (captures, direct_to below))

pub type_applications_invert : law.TypeApplicationsInvert
type_applications_invert g v r type h = invert_type_application g v r type.shape type.set (context_kinded h) (typed_from h)

invert_box : (context : Context) (content : Var) (shape_above : Shape) (set_above : Set)
    → IsKindedContext context → Typed context (BoxTerm content) shape_above set_above
    → (held : CapturingType) × HasType context (VariableTerm content) held × HasNoCap held.set
    × SubtypesType context (capturing (BoxShape held.shape held.set) empty) (capturing shape_above set_above)
invert_box g v above set_above formed (widened kt (exact_box {s = s} {c = c} has none) captures below ks kc) = (capturing s c, variable_has_type formed has, none, (captures, direct_to below))

pub box_contents_invert : law.BoxContentsInvert
box_contents_invert g v type h = invert_box g v type.shape type.set (context_kinded h) (typed_from h)

invert_unboxing : (context : Context) (under : Option Set) (box : Var) (shape_above : Shape) (set_above : Set)
    → IsKindedContext context → Typed context (Unboxing under box) shape_above set_above
    → (shape : Shape) × (c : Set) × (d : Set)
    × (under ≡ Some c) × HasType context (VariableTerm box) (capturing (BoxShape shape c) d)
    × IsWellFormedSet context c × HasNoCap c × SubtypesType context (capturing shape c) (capturing shape_above set_above)
invert_unboxing g o v above set_above formed (widened kt (exact_unboxing {s = s} {c = c} {d = d} has none) captures below ks kc) = (s, c, d, refl, variable_has_type formed has, IsKindedSet-test (kinds_of g) [] c has.kinded.1, none, (captures, direct_to below))

pub unboxings_invert : law.UnboxingsInvert
unboxings_invert g o v type h = invert_unboxing g o v type.shape type.set (context_kinded h) (typed_from h)

invert_let : (context : Context) (note : Note) (right body : Term) (shape_above : Shape) (set_above : Set)
    → IsKindedContext context → Typed context (Let note right body) shape_above set_above
    → (bound : CapturingType) × (gives : CapturingType)
    × HasType context right bound × IsNoteOf note bound.shape bound.set
    × HasType (TermEntry bound.shape bound.set ∷ context) (opened_term (length context) body) gives
    × Meets (without (length context)) zero gives.shape × MeetsInSet (without (length context)) zero gives.set
    × IsWellFormedType context gives × SubtypesType context gives (capturing shape_above set_above)
invert_let g n t u above set_above formed (widened kt (exact_let {bound = bound} {s = s} {c = c} {e = e} typed is typed_body ks0 kc0) captures below ks kc) = (capturing bound c, capturing s e, has_type_from_form formed typed, is, has_type_from_form ((typed_kinded typed, typed_kinded_set typed), formed) typed_body, fresh_in g [] s ks0, fresh_in_set g [] e kc0, formed_type_from g s e ks0 kc0, (captures, direct_to below))

pub lets_invert : law.LetsInvert
lets_invert g n t u type h = invert_let g n t u type.shape type.set (context_kinded h) (typed_from h)

invert_primitive : (context : Context) (operator : Operator) (left right : Var) (shape_above : Shape) (set_above : Set)
    → IsKindedContext context → Typed context (Primitive operator left right) shape_above set_above
    → (d : Set) × (d' : Set)
    × HasType context (VariableTerm left) (capturing (BaseShape bases.Int) d)
    × HasType context (VariableTerm right) (capturing (BaseShape bases.Int) d')
    × SubtypesType context (capturing (BaseShape (base_given operator)) empty) (capturing shape_above set_above)
invert_primitive g o v w above set_above formed (widened kt (exact_primitive {d = d} {d' = d'} left right) captures below ks kc) = (d, d', variable_has_type formed left, variable_has_type formed right, (captures, direct_to below))

pub primitives_invert : law.PrimitivesInvert
primitives_invert g o v w type h = invert_primitive g o v w type.shape type.set (context_kinded h) (typed_from h)

invert_conditional : (context : Context) (note : Note) (test : Var) (positive negative : Term) (shape_above : Shape) (set_above : Set)
    → IsKindedContext context → Typed context (Conditional note test positive negative) shape_above set_above
    → (gives : CapturingType) × (d : Set)
    × (note ≡ Written gives.shape gives.set) × HasType context (VariableTerm test) (capturing (BaseShape bases.Bool) d)
    × HasType context positive gives × HasType context negative gives × SubtypesType context gives (capturing shape_above set_above)
invert_conditional g n v t u above set_above formed (widened kt (exact_conditional {s = s} {c = c} {d = d} test positive negative) captures below ks kc) = (capturing s c, d, refl, variable_has_type formed test, has_type_from_form formed positive, has_type_from_form formed negative, (captures, direct_to below))

pub conditionals_invert : law.ConditionalsInvert
conditionals_invert g n v t u type h = invert_conditional g n v t u type.shape type.set (context_kinded h) (typed_from h)

invert_repetition : (context : Context) (count function : Var) (shape_above : Shape) (set_above : Set)
    → IsKindedContext context → Typed context (Repetition count function) shape_above set_above
    → (d : Set) × (d' : Set)
    × HasType context (VariableTerm count) (capturing (BaseShape bases.Int) d)
    × HasType context (VariableTerm function) (capturing (FunctionShape (BaseShape bases.Int) empty (BaseShape bases.Unit) empty) d')
    × SubtypesType context (capturing (BaseShape bases.Unit) empty) (capturing shape_above set_above)
invert_repetition g v w above set_above formed (widened kt (exact_repetition {d = d} {d' = d'} count function) captures below ks kc) = (d, d', variable_has_type formed count, variable_has_type formed function, (captures, direct_to below))

pub repetitions_invert : law.RepetitionsInvert
repetitions_invert g v w type h = invert_repetition g v w type.shape type.set (context_kinded h) (typed_from h)

invert_operation : (context : Context) (operation : Op) (receiver argument : Var) (shape_above : Shape) (set_above : Set)
    → IsKindedContext context → Typed context (Operation operation receiver (Some argument)) shape_above set_above
    → (taken : Base) × (d : Set) × (d' : Set)
    × HasType context (VariableTerm receiver) (capturing (BaseShape (base_operated operation)) d)
    × (base_taken operation ≡ Some taken) × HasType context (VariableTerm argument) (capturing (BaseShape taken) d')
    × SubtypesType context (capturing (BaseShape (base_answered operation)) empty) (capturing shape_above set_above)
invert_operation g o v w above set_above formed (widened kt (exact_operation {taken = taken} {d = d} {d' = d'} receiver is argument) captures below ks kc) = (taken, d, d', variable_has_type formed receiver, is, variable_has_type formed argument, (captures, direct_to below))

pub operations_invert : law.OperationsInvert
operations_invert g o v w type h = invert_operation g o v w type.shape type.set (context_kinded h) (typed_from h)

invert_operation_alone : (context : Context) (operation : Op) (receiver : Var) (shape_above : Shape) (set_above : Set)
    → IsKindedContext context → Typed context (Operation operation receiver None) shape_above set_above
    → (d : Set)
    × HasType context (VariableTerm receiver) (capturing (BaseShape (base_operated operation)) d)
    × (base_taken operation ≡ None)
    × SubtypesType context (capturing (BaseShape (base_answered operation)) empty) (capturing shape_above set_above)
invert_operation_alone g o v above set_above formed (widened kt (exact_operation_alone {d = d} receiver is) captures below ks kc) = (d, variable_has_type formed receiver, is, (captures, direct_to below))

pub operations_alone_invert : law.OperationsAloneInvert
operations_alone_invert g o v type h = invert_operation_alone g o v type.shape type.set (context_kinded h) (typed_from h)

invert_boundary : (context : Context) (gives : Shape) (body : Term) (shape_above : Shape) (set_above : Set)
    → IsKindedContext context → Typed context (Boundary gives body) shape_above set_above
    → IsWellFormedShape context gives
    × HasType (TermEntry (ExitShape gives) (single Cap) ∷ context) (opened_term (length context) body) (capturing gives empty)
    × SubtypesType context (capturing gives empty) (capturing shape_above set_above)
invert_boundary g gives body above set_above formed (widened kt (exact_boundary typed) captures below ks kc) = (IsKinded-test (kinds_of g) [] gives kt.0, has_type_from_form ((kt.0, kinded_single (kinds_of g) [] Cap tt), formed) typed, (captures, direct_to below))

pub boundaries_invert : law.BoundariesInvert
boundaries_invert g gives body type h = invert_boundary g gives body type.shape type.set (context_kinded h) (typed_from h)

invert_exit : (context : Context) (gives : Shape) (c : Set) (exit value : Var) (shape_above : Shape) (set_above : Set)
    → IsKindedContext context → Typed context (Leave gives c exit value) shape_above set_above
    → (shape : Shape) × (d : Set)
    × HasType context (VariableTerm exit) (capturing (ExitShape shape) d)
    × HasType context (VariableTerm value) (capturing shape empty)
    × IsWellFormedType context (capturing gives c) × SubtypesType context (capturing gives c) (capturing shape_above set_above)
invert_exit g gives c v w above set_above formed (widened kt (exact_leave {s = s} {d = d} exit value) captures below ks kc) = (s, d, variable_has_type formed exit, variable_has_type formed value, formed_type_from g gives c kt.0 kt.1, (captures, direct_to below))

pub exits_invert : law.ExitsInvert
exits_invert g gives c v w type h = invert_exit g gives c v w type.shape type.set (context_kinded h) (typed_from h)
