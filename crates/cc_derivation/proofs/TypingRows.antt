-- A node of a typing is an instance of its rule, with valid premises, exactly where its derivation is valid.
use Rattle.std.proofs.Common.{◌≡◌, ℕ, zero, true, List, [], ◌∷◌, length, Option, Some, None, refl, ap, sym, subst}
use Rattle.cc_base.specs.declared.literal.Base.TheVariants as bases
use Rattle.cc_capture.specs.declared.var.Var.{Var}
use Rattle.cc_capture.specs.declared.var.Var.TheVariants.{Bound, Free}
use Rattle.cc_capture.specs.declared.var.Elem.TheVariants.{Cap}
use Rattle.cc_capture.specs.Sets.{Set, empty}
use Rattle.cc_core.specs.Shapes.{Shape, BaseShape, FunctionShape, TypeFunctionShape, BoxShape, ExitShape, CapturingType, capturing}
use Rattle.cc_core.specs.Terms.{Note, Absent, Written, Own, Term, VariableTerm, LiteralTerm, FunctionTerm, TypeFunctionTerm, BoxTerm, Application, TypeApplication, Unboxing, Let, Primitive, Conditional, Repetition, Operation, Boundary, Leave}
use Rattle.cc_core.specs.Contexts.{Bind, TermEntry, TypeEntry, Context, entry_of}
use Rattle.cc_core.specs.Substitution.{single, opened_term}
use Rattle.cc_core.specs.Typing.{base_of, base_given}
use Rattle.cc_core.specs.Derivations.{Rule, t-var, t-lit, t-abs, t-tabs, t-app, t-tapp, t-box, t-unbox, t-let, t-prim, t-if, t-repeat, t-op, t-boundary, t-exit, t-sub, Claim, ShapeBelow, TypeBelow, OfType, Derivation, Node, Premises, NoPremise, Premise, one, two, three, conclusion, IsValidTyping, IsValidComparison}
use Rattle.cc_derivation.specs.Rows.{Place, TypeOf, row_at, typing_row, base_type, body_place, under}
use Rattle.cc_derivation.specs.ValidityLaws.{IsOfShapes, IsOfTypes}
use Rattle.cc_derivation.proofs.RowHolds.{IsValidAt, RowHolds}
use Rattle.cc_derivation.proofs.Tests.{some_true, some_gives}
use Rattle.cc_derivation.proofs.GivenTypes.{variable_true, variable_gives, function_true, function_gives, type_function_true, type_function_gives, application_true, application_gives, type_application_true, type_application_gives, box_true, box_gives, unboxing_true, unboxing_gives, let_true, let_gives, primitive_true, primitive_gives, choice_true, choice_gives, repetition_true, repetition_gives, operation_true, operation_gives, lone_operation_true, lone_operation_gives, boundary_true, boundary_gives, exit_true, exit_gives, widened_true, widened_gives}

-- the body of a let is valid where the type of its variable is known
body_valid : (g : Context) (body : Term) (claim other : Claim) (bound : CapturingType) (q : Derivation) → claim ≡ OfType bound
    → IsValidAt (body_place g body (claim ∷ other ∷ [])) q → IsValidTyping (entry_of bound ∷ g) (opened_term (length g) body) q
body_valid g body claim other bound q same valid = subst (λ c. IsValidAt (body_place g body (c ∷ other ∷ [])) q) same valid

valid_body : (g : Context) (body : Term) (claim other : Claim) (bound : CapturingType) (q : Derivation) → claim ≡ OfType bound
    → IsValidTyping (entry_of bound ∷ g) (opened_term (length g) body) q → IsValidAt (body_place g body (claim ∷ other ∷ [])) q
valid_body g body claim other bound q same valid = subst (λ c. IsValidAt (body_place g body (c ∷ other ∷ [])) q) (sym same) valid

typed_node : (g : Context) (rule : Rule) (term : Term) (premises : Premises) (type : CapturingType) → RowHolds (typing_row g rule term type) premises
    → IsValidTyping g term (Node rule premises (OfType type))
typed_node g t-var (VariableTerm v) NoPremise type h =
    let t = variable_true g v type h.1 in
    (t.0, t.1, t.2, ap VariableTerm t.3, t.4, ap OfType t.5)
typed_node g t-lit (LiteralTerm literal) NoPremise type h =
    (literal, refl, ap OfType (some_true (base_type (base_of literal)) type h.1))
typed_node g t-abs (FunctionTerm takes c body) (one p) type h =
    let t = function_true g takes c body (conclusion p) type h.1 in
    (takes, c, t.0, t.1, body, refl, t.2, h.0.0, t.3, ap OfType t.4)
typed_node g t-tabs (TypeFunctionTerm bound body) (one p) type h =
    let t = type_function_true g bound body (conclusion p) type h.1 in
    (bound, t.0, t.1, body, refl, t.2, h.0.0, t.3, ap OfType t.4)
typed_node g t-app (Application function argument) (two p q) type h =
    let t = application_true argument (conclusion p) (conclusion q) type h.1 in
    (function, argument, t.0, t.1, t.2, t.3, t.4, refl, h.0.0, t.5, h.0.1.0, t.6, ap OfType t.7)
typed_node g t-tapp (TypeApplication function argument) (two p q) type h =
    let t = type_application_true g argument (conclusion p) (conclusion q) type h.1 in
    (function, argument, t.0, t.1, t.2, t.3, refl, h.0.0, t.4, h.0.1.0.0, t.5, t.6, ap OfType t.7)
typed_node g t-box (BoxTerm content) (one p) type h =
    let t = box_true (conclusion p) type h.1 in
    (content, t.0, t.1, refl, h.0.0, t.2, t.3, ap OfType t.4)
typed_node g t-unbox (Unboxing (Some c) box) (one p) type h =
    let t = unboxing_true g c (conclusion p) type h.1 in
    (box, t.0, c, t.1, refl, h.0.0, t.2, t.3, t.4, ap OfType t.5)
typed_node g t-let (Let note right body) (two p q) type h =
    let t = let_true g note (conclusion p) (conclusion q) type h.1 in
    let inner = body_valid g body (conclusion p) (conclusion q) (capturing t.0 t.1) q t.4 h.0.1.0 in
    (note, right, body, t.0, t.1, t.2, t.3, refl, h.0.0, t.4, t.5, inner, t.6, t.7, t.8, ap OfType t.9)
typed_node g t-prim (Primitive operator left right) (two p q) type h =
    let t = primitive_true (base_given operator) (conclusion p) (conclusion q) type h.1 in
    (operator, left, right, t.0, t.1, refl, h.0.0, t.2, h.0.1.0, t.3, ap OfType t.4)
typed_node g t-if (Conditional (Written shape c) test positive negative) (three p q r) type h =
    let t = choice_true (capturing shape c) (conclusion p) (conclusion q) (conclusion r) type h.1 in
    (test, positive, negative, shape, c, t.0, refl, h.0.0, t.1, h.0.1.0, t.2, h.0.1.1.0, t.3, ap OfType t.4)
typed_node g t-repeat (Repetition count function) (two p q) type h =
    let t = repetition_true (conclusion p) (conclusion q) type h.1 in
    (count, function, t.0, t.1, refl, h.0.0, t.2, h.0.1.0, t.3, ap OfType t.4)
typed_node g t-op (Operation operation receiver (Some argument)) (two p q) type h =
    let t = operation_true operation (conclusion p) (conclusion q) type h.1 in
    (operation, receiver, argument, t.0, t.1, t.2, refl, h.0.0, t.3, t.4, h.0.1.0, t.5, ap OfType t.6)
typed_node g t-op (Operation operation receiver None) (one p) type h =
    let t = lone_operation_true operation (conclusion p) type h.1 in
    (operation, receiver, t.0, refl, h.0.0, t.1, t.2, ap OfType t.3)
typed_node g t-boundary (Boundary gives body) (one p) type h =
    let t = boundary_true g gives (conclusion p) type h.1 in
    (gives, body, refl, t.0, h.0.0, t.1, ap OfType t.2)
typed_node g t-exit (Leave gives c exit value) (two p q) type h =
    let t = exit_true g (capturing gives c) (conclusion p) (conclusion q) type h.1 in
    (gives, c, exit, value, t.0, t.1, refl, h.0.0, t.2, h.0.1.0, t.3, t.4, ap OfType t.5)
typed_node g t-sub term (two p q) type h =
    let t = widened_true g (conclusion p) (conclusion q) type h.1 in
    (t.0.shape, t.0.set, t.1.shape, t.1.set, h.0.0, t.2, h.0.1.0.0, t.3, t.4, ap OfType t.5)
typed_node g _ term premises type h = absurd h

-- the same of each claim
pub typing_valid : (g : Context) (term : Term) (rule : Rule) (premises : Premises) (claim : Claim) → RowHolds (row_at (TypeOf g term) rule claim) premises
    → IsValidTyping g term (Node rule premises claim)
typing_valid g term rule premises (OfType type) h = typed_node g rule term premises type h
typing_valid g term rule premises _ h = absurd h

-- the row of a node whose term and claim are known
known : (g : Context) (rule : Rule) (premises : Premises) {term term' : Term} {claim claim' : Claim} → term ≡ term' → claim ≡ claim'
    → RowHolds (row_at (TypeOf g term') rule claim') premises → RowHolds (row_at (TypeOf g term) rule claim) premises
known g rule premises {term = term} {term' = term'} {claim = claim} {claim' = claim'} same same' holds =
    subst (λ t. RowHolds (row_at (TypeOf g t) rule claim) premises) (sym same) (subst (λ c. RowHolds (row_at (TypeOf g term') rule c) premises) (sym same') holds)

-- a conclusion that is a comparison of shapes, or of types
of_shapes : {claim : Claim} (left right : Shape) → claim ≡ ShapeBelow left right → IsOfShapes claim
of_shapes left right e = subst IsOfShapes (sym e) tt

of_types : {claim : Claim} (left right : CapturingType) → claim ≡ TypeBelow left right → IsOfTypes claim
of_types left right e = subst IsOfTypes (sym e) tt

pub valid_typing : (g : Context) (term : Term) (rule : Rule) (premises : Premises) (claim : Claim) → IsValidTyping g term (Node rule premises claim)
    → RowHolds (row_at (TypeOf g term) rule claim) premises
valid_typing g term t-var NoPremise claim h =
    known g t-var NoPremise h.3 h.5 (tt, variable_gives g h.0 h.1 h.2 h.4)
valid_typing g term t-lit NoPremise claim h =
    known g t-lit NoPremise h.1 h.2 (tt, some_gives (base_type (base_of h.0)))
valid_typing g term t-abs (one p) claim h =
    known g t-abs (one p) h.5 h.9 ((h.7, tt), function_gives g h.0 h.1 h.4 (conclusion p) h.2 h.3 h.6 h.8)
valid_typing g term t-tabs (one p) claim h =
    known g t-tabs (one p) h.4 h.8 ((h.6, tt), type_function_gives g h.0 h.3 (conclusion p) h.1 h.2 h.5 h.7)
valid_typing g term t-app (two p q) claim h =
    known g t-app (two p q) h.7 h.12 ((h.8, (h.10, tt)), application_gives h.1 (conclusion p) (conclusion q) h.2 h.3 h.4 h.5 h.6 h.9 h.11)
valid_typing g term t-tapp (two p q) claim h =
    known g t-tapp (two p q) h.6 h.12
    ((h.7, ((h.9, of_shapes h.1 h.2 h.10), tt)), type_application_gives g h.1 (conclusion p) (conclusion q) h.2 h.3 h.4 h.5 h.8 h.10 h.11)
valid_typing g term t-box (one p) claim h =
    known g t-box (one p) h.3 h.7 ((h.4, tt), box_gives (conclusion p) h.1 h.2 h.5 h.6)
valid_typing g term t-unbox (one p) claim h =
    known g t-unbox (one p) h.4 h.9 ((h.5, tt), unboxing_gives g h.2 (conclusion p) h.1 h.3 h.6 h.7 h.8)
valid_typing g term t-let (two p q) claim h =
    known g t-let (two p q) h.7 h.15 (
      (h.8, (valid_body g h.2 (conclusion p) (conclusion q) (capturing h.3 h.4) q h.9 h.11, tt)),
      let_gives g h.0 (conclusion p) (conclusion q) h.3 h.4 h.5 h.6 h.9 h.10 h.12 h.13 h.14,
    )
valid_typing g term t-prim (two p q) claim h =
    known g t-prim (two p q) h.5 h.10 ((h.6, (h.8, tt)), primitive_gives (base_given h.0) (conclusion p) (conclusion q) h.3 h.4 h.7 h.9)
valid_typing g term t-if (three p q r) claim h =
    known g t-if (three p q r) h.6 h.13
    ((h.7, (h.9, (h.11, tt))), choice_gives (capturing h.3 h.4) (conclusion p) (conclusion q) (conclusion r) h.5 h.8 h.10 h.12)
valid_typing g term t-repeat (two p q) claim h =
    known g t-repeat (two p q) h.4 h.9 ((h.5, (h.7, tt)), repetition_gives (conclusion p) (conclusion q) h.2 h.3 h.6 h.8)
valid_typing g term t-op (two p q) claim h =
    known g t-op (two p q) h.6 h.12 ((h.7, (h.10, tt)), operation_gives h.0 (conclusion p) (conclusion q) h.3 h.4 h.5 h.8 h.9 h.11)
valid_typing g term t-op (one p) claim h =
    known g t-op (one p) h.3 h.7 ((h.4, tt), lone_operation_gives h.0 (conclusion p) h.2 h.5 h.6)
valid_typing g term t-boundary (one p) claim h =
    known g t-boundary (one p) h.2 h.6 ((h.4, tt), boundary_gives g h.0 (conclusion p) h.3 h.5)
valid_typing g term t-exit (two p q) claim h =
    known g t-exit (two p q) h.6 h.12 ((h.7, (h.9, tt)), exit_gives g (capturing h.0 h.1) (conclusion p) (conclusion q) h.4 h.5 h.8 h.10 h.11)
valid_typing g term t-sub (two p q) claim h =
    known g t-sub (two p q) {term = term} refl h.9
    ((h.4, ((h.6, of_types (capturing h.0 h.1) (capturing h.2 h.3) h.7), tt)), widened_gives g (conclusion p) (conclusion q) (capturing h.0 h.1) (capturing h.2 h.3) h.5 h.7 h.8)
valid_typing g term _ premises claim h = absurd h
