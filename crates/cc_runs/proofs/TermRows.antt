-- Steps of lets, applications, unboxings, operators, choices and repetitions.
use Rattle.cc_core.proofs.SubcapturingContexts.{IsKinded-added, IsKindedContext, IsKindedSet-added}
use Rattle.std.proofs.Common.{◌≡◌, ℕ, zero, suc, ◌≤◌, Bool, true, false, cond, [], ◌∷◌, length, Option, Some, None, inl, inr, refl, sym, ap, subst, arith}
use Rattle.std.specs.Prelude.{ℤ, pos, negsuc}
use Rattle.cc_base.specs.declared.literal.Operator.{Operator}
use Rattle.cc_base.specs.declared.literal.Operator.TheVariants as operators
use Rattle.cc_capture.specs.declared.var.Var.{Var}
use Rattle.cc_capture.specs.declared.var.Var.TheVariants.{Free}
use Rattle.cc_capture.specs.declared.var.Elem.TheVariants.{Var as Variable}
use Rattle.cc_capture.specs.Sets.{Set, Member, union}
use Rattle.cc_core.specs.Shapes.{Shape, BaseShape}
use Rattle.cc_base.specs.Literals.{UnitLiteral, NumberLiteral}
use Rattle.cc_core.specs.Terms.{Note, Written, Term, VariableTerm, LiteralTerm, FunctionTerm, TypeFunctionTerm, BoxTerm, Application, TypeApplication, Unboxing, Let, Primitive, Conditional, Repetition, Operation, Boundary, Leave}
use Rattle.cc_core.specs.Contexts.{TermEntry, Context, lookup}
use Rattle.cc_core.specs.Traversal.{act_term}
use Rattle.cc_core.specs.Substitution.{putting_shape, opened_term}
use Rattle.cc_core.specs.WellFormed.{TermKind, kinds_of}
use Rattle.cc_core.specs.Captured.{is_value, captured_variables, without_binder, variable_set}
use Rattle.cc_core.specs.Subcapturing.{SubcapturesSet}
use Rattle.cc_core.specs.Typing.{base_of, base_given}
use Rattle.cc_core.specs.Stores.{Cell, ValueCell, DeviceCell, LabelCell, Store, cell_at}
use Rattle.cc_core.proofs.KindFacts.{IsKindedSet, IsKinded}
use Rattle.cc_runs.specs.Machine.{LetFrame, Stack, Configuration, configured, put_in, let_step, apply_step, type_apply_step, unbox_step, literal_in, result_of, primitive_step, conditional_step, repetition_step}
use Rattle.cc_runs.specs.Reach.{through, SetReaches, captured_by_stack}
use Rattle.cc_typing_laws.proofs.DirectSubtyping.{SubtypesDirectly}
use Rattle.cc_runs.proofs.PutCaptures.{free_outside, captured_when_shape_put}
use Rattle.cc_typing_laws.proofs.FreeMaps.{as_is, more, subcaptures-kept, subtypes-kept}
use Rattle.cc_typing_laws.proofs.InternalTyping.{HasVariable, exact_application, exact_type_application, exact_unboxing, exact_let, exact_primitive, exact_conditional, exact_repetition, Typed, widened, captured_kinded, put_kinded, put_kinded_set, shape_put_kinded, shape_put_kinded_set}
use Rattle.cc_typing_laws.proofs.TypingMaps.{typed_is, typed_kinded, typed_kinded_set, typed_wider}
use Rattle.cc_typing_laws.proofs.TypingLemmas.{variable_typed, has_variable_typed, has_variable_wider, body_typed, let_body_typed, put_subtypes, put_subcaptures, type_body_typed, shape_put_subtypes, shape_put_subcaptures, variable_captures}
use Rattle.cc_runs.proofs.StoreTyping.{value_cell, store_formed, function_at, type_function_at, box_at}
use Rattle.cc_runs.proofs.CanonicalForms.{number_at, truth_at}
use Rattle.cc_runs.proofs.ReachLemmas.{set_reaches-left, set_reaches-right, set_reaches-either, set_reaches-none, set_reaches-below, position_reaches}
use Rattle.cc_runs.proofs.Invariant.{let_on, stack_longer, stack_kinded, frames_added, Around, Went, OkOutcome}
use Rattle.cc_runs.proofs.StepHelpers.{literal_typed, stays, put_reaches, binds, let_body_reaches, let_right_reaches, functions_compare}
use Rattle.cc_runs.proofs.AnswerRows.{calls}

-- a variable reaches what the value in its cell captures
pub cell_reaches : {st : Store} {g : Context} {f : Var} {s : Shape} {d : Set} → (has : HasVariable g f s d) → (v : Term) (x : Cell) → cell_at st f ≡ Some (ValueCell v) → SetReaches st (captured_variables v) x → SetReaches st (variable_set f) x
cell_reaches {st = st} has v x at r =
    let there : lookup st has.position ≡ Some (ValueCell v) = subst (λ w. cell_at st w ≡ Some (ValueCell v)) has.is at in
    subst (λ w. SetReaches st (variable_set w) x) (sym has.is) (position_reaches (through there r.1 r.2))

-- Lets.
-- the body of a let, with the type of the let
wider_body : (g : Context) (bound : Shape) (d : Set) (t : Term) (s0 s : Shape) (e0 c : Set) → IsKindedContext g → Typed (TermEntry bound d ∷ g) t s0 e0 → IsKinded (kinds_of g) [] s0 → SubcapturesSet g e0 c → SubtypesDirectly g s0 s
    → IsKinded (kinds_of g) [] s → IsKindedSet (kinds_of g) [] c → Typed (TermEntry bound d ∷ g) t s c
wider_body g bound d t s0 s e0 c formed typed ks0 captures below ks kc =
    typed_wider typed (subcaptures-kept (more (TermEntry bound d) as_is) e0 c captures) (subtypes-kept (more (TermEntry bound d) as_is) formed s0 s ks0 ks below)
    (IsKinded-added TermKind (kinds_of g) [] s ks) (IsKindedSet-added TermKind (kinds_of g) [] c kc)

let_variable : (st : Store) (stack : Stack) (made : ℕ) (note : Note) (y : Var) (body : Term) (g : Context) (s : Shape) (c : Set) → Around st stack made (Let note (VariableTerm y) body) g s c → Typed g (Let note (VariableTerm y) body) s c
    → Went (configured st stack made (Let note (VariableTerm y) body)) None (configured st stack made (put_in y body))
let_variable st stack made note y body g s c around (widened kt (exact_let {bound = bound} {s = s0} {c = d} {e = e0} right is typed_body ks0 ke0) captures below ks kc) =
    let has = variable_typed right in
    stays st stack made (Let note (VariableTerm y) body) (put_in y body) g s c around
    (typed_wider (let_body_typed g (store_formed around.stored) bound d y has body s0 e0 kt.2 ks0 ke0 typed_body) captures below ks kc)
    (λ x r. elim (put_reaches has body x r) as (λ _. SetReaches st (captured_variables (Let note (VariableTerm y) body)) x) [
      | inl q ↦ let_right_reaches note (VariableTerm y) body x (inl refl) q
      | inr q ↦ let_body_reaches note (VariableTerm y) body x q
    ])

let_value : (st : Store) (stack : Stack) (made : ℕ) (note : Note) (v body : Term) (g : Context) (s : Shape) (c : Set) → is_value v ≡ true → Around st stack made (Let note v body) g s c → Typed g (Let note v body) s c
    → Went (configured st stack made (Let note v body)) None (configured (ValueCell v ∷ st) stack made (opened_term (length st) body))
let_value st stack made note v body g s c isv around (widened kt (exact_let {bound = bound} {s = s0} {c = d} {e = e0} right is typed_body ks0 ke0) captures below ks kc) =
    let formed = store_formed around.stored in
    let t : Term = Let note v body in
    binds st stack stack made t v body g s bound s c d c around (value_cell around.stored isv right) (captured_kinded (kinds_of g) [] v kt.1) kt.2
    (wider_body g bound d (opened_term (length g) body) s0 s e0 c formed typed_body ks0 captures below ks kc) (stack_longer around.stacked formed (ValueCell v) bound d)
    (stack_kinded around.stacked) around.rise (frames_added around.stacked around.stored (ValueCell v) around.frames_reach) refl
    (λ n b r. set_reaches-right (captured_variables t) (captured_by_stack stack) r)
    (λ k r. around.term_reach k (let_body_reaches note v body (LabelCell k) r))
    (λ k used r. around.term_reach k (let_right_reaches note v body (LabelCell k) (inr used) r))
    (λ n b r. set_reaches-left (captured_variables t) (captured_by_stack stack) (let_body_reaches note v body (DeviceCell n b) r))
    (λ n b used r. set_reaches-left (captured_variables t) (captured_by_stack stack) (let_right_reaches note v body (DeviceCell n b) (inr used) r))

let_other : (st : Store) (stack : Stack) (made : ℕ) (note : Note) (r body : Term) (g : Context) (s : Shape) (c : Set) → is_value r ≡ false → Around st stack made (Let note r body) g s c → Typed g (Let note r body) s c
    → Went (configured st stack made (Let note r body)) None (configured st (LetFrame body ∷ stack) made r)
let_other st stack made note r body g s c isv around (widened kt (exact_let {bound = bound} {s = s0} {c = d} {e = e0} right is typed_body ks0 ke0) captures below ks kc) =
    let t : Term = Let note r body in
    record {
      ok = record {
        context = g;
        shape = bound;
        set = d;
        typed = right;
        around = record {
          stored = around.stored;
          stacked = let_on kt.2 (typed_kinded right) (typed_kinded_set right) (wider_body g bound d (opened_term (length g) body) s0 s e0 c (store_formed around.stored) typed_body ks0 captures below ks kc) around.stacked;
          counted = around.counted;
          rise = around.rise;
          term_reach = λ k q. around.term_reach k (let_right_reaches note r body (LabelCell k) (inl isv) q);
          frames_reach = (λ k q. around.term_reach k (let_body_reaches note r body (LabelCell k) q), around.frames_reach);
        };
      };
      devices = λ n b q.
          elim (set_reaches-either (captured_variables r) (union (without_binder (captured_variables body)) (captured_by_stack stack)) q) as (λ _. SetReaches st (union (captured_variables t) (captured_by_stack stack)) (DeviceCell n b)) [
            | inl z ↦ set_reaches-left (captured_variables t) (captured_by_stack stack) (let_right_reaches note r body (DeviceCell n b) (inl isv) z)
            | inr z ↦
                elim (set_reaches-either (without_binder (captured_variables body)) (captured_by_stack stack) z) as (λ _. SetReaches st (union (captured_variables t) (captured_by_stack stack)) (DeviceCell n b)) [
                  | inl w ↦ set_reaches-left (captured_variables t) (captured_by_stack stack) (let_body_reaches note r body (DeviceCell n b) w)
                  | inr w ↦ set_reaches-right (captured_variables t) (captured_by_stack stack) w
                ]
          ];
      device_cells = λ p n b there. there;
      scopes = refl;
      operates_none = tt;
    }

pub let_row : (st : Store) (stack : Stack) (made : ℕ) (note : Note) (r body : Term) (g : Context) (s : Shape) (c : Set) → Around st stack made (Let note r body) g s c → Typed g (Let note r body) s c
    → OkOutcome (configured st stack made (Let note r body)) (let_step st stack made r body)
let_row st stack made note (VariableTerm y) body g s c around typed = let_variable st stack made note y body g s c around typed
let_row st stack made note (LiteralTerm l) body g s c around typed = let_value st stack made note (LiteralTerm l) body g s c refl around typed
let_row st stack made note (FunctionTerm t0 c0 t) body g s c around typed = let_value st stack made note (FunctionTerm t0 c0 t) body g s c refl around typed
let_row st stack made note (TypeFunctionTerm b t) body g s c around typed = let_value st stack made note (TypeFunctionTerm b t) body g s c refl around typed
let_row st stack made note (BoxTerm v) body g s c around typed = let_value st stack made note (BoxTerm v) body g s c refl around typed
let_row st stack made note (Application v w) body g s c around typed = let_other st stack made note (Application v w) body g s c refl around typed
let_row st stack made note (TypeApplication v w) body g s c around typed = let_other st stack made note (TypeApplication v w) body g s c refl around typed
let_row st stack made note (Unboxing o v) body g s c around typed = let_other st stack made note (Unboxing o v) body g s c refl around typed
let_row st stack made note (Let n t u) body g s c around typed = let_other st stack made note (Let n t u) body g s c refl around typed
let_row st stack made note (Primitive p v w) body g s c around typed = let_other st stack made note (Primitive p v w) body g s c refl around typed
let_row st stack made note (Conditional n v t u) body g s c around typed = let_other st stack made note (Conditional n v t u) body g s c refl around typed
let_row st stack made note (Repetition v w) body g s c around typed = let_other st stack made note (Repetition v w) body g s c refl around typed
let_row st stack made note (Operation p v o) body g s c around typed = let_other st stack made note (Operation p v o) body g s c refl around typed
let_row st stack made note (Boundary b t) body g s c around typed = let_other st stack made note (Boundary b t) body g s c refl around typed
let_row st stack made note (Leave t0 c0 v w) body g s c around typed = let_other st stack made note (Leave t0 c0 v w) body g s c refl around typed

-- Applications of functions.
pub apply_row : (st : Store) (stack : Stack) (made : ℕ) (f a : Var) (g : Context) (s : Shape) (c : Set) → Around st stack made (Application f a) g s c → Typed g (Application f a) s c
    → OkOutcome (configured st stack made (Application f a)) (apply_step st stack made a (cell_at st f))
apply_row st stack made f a g s c around (widened kt (exact_application {takes = takes} {gives = gives} {c = c0} {e = e} function argument) captures below ks kc) =
    let formed = store_formed around.stored in
    let found = function_at around.stored function in
    let compared = functions_compare found.below found.own_takes takes found.own_gives gives found.own_c c0 found.own_e e refl refl in
    let own = has_variable_wider argument compared.captures compared.takes_below found.kinded_takes found.kinded_c in
    let body = body_typed g formed found.own_takes found.own_c a own found.body found.own_gives found.own_e found.kinded_body found.kinded_gives found.kinded_e found.typed in
    let kgives = function.kinded.2 in
    let ke = function.kinded.3 in
    let typed = typed_wider body (put_subcaptures g formed takes c0 a argument found.own_e e found.kinded_e ke compared.results)
    (put_subtypes g formed takes c0 a argument found.own_gives gives found.kinded_gives kgives compared.below)
    (put_kinded g formed a takes c0 argument gives kgives) (put_kinded_set g formed a takes c0 argument e ke) in
    subst (λ o. OkOutcome (configured st stack made (Application f a)) (apply_step st stack made a o)) (sym found.at)
    (stays st stack made (Application f a) (put_in a found.body) g s c around (typed_wider typed captures below ks kc)
    (λ x r. elim (put_reaches argument found.body x r) as (λ _. SetReaches st (union (variable_set f) (variable_set a)) x) [
      | inl q ↦ set_reaches-right (variable_set f) (variable_set a) q
      | inr q ↦ set_reaches-left (variable_set f) (variable_set a) (cell_reaches function (FunctionTerm found.own_takes found.own_c found.body) x found.at q)
    ]))

-- Applications of type functions.
pub type_apply_row : (st : Store) (stack : Stack) (made : ℕ) (f : Var) (r : Shape) (g : Context) (s : Shape) (c : Set) → Around st stack made (TypeApplication f r) g s c → Typed g (TypeApplication f r) s c
    → OkOutcome (configured st stack made (TypeApplication f r)) (type_apply_step st stack made r (cell_at st f))
type_apply_row st stack made f r g s c around (widened kt (exact_type_application {bound = bound} {gives = gives} {e = e} function less) captures below ks kc) =
    let formed = store_formed around.stored in
    let found = type_function_at around.stored function in
    let body = type_body_typed g formed bound r found.kinded_bound kt.1 less found.body found.own_gives found.own_e found.kinded_body found.kinded_gives found.kinded_e found.typed in
    let kgives = function.kinded.1 in
    let ke = function.kinded.2 in
    let typed = typed_wider body (shape_put_subcaptures g formed bound r found.kinded_bound kt.1 less found.own_e e found.kinded_e ke found.results)
    (shape_put_subtypes g formed bound r found.kinded_bound kt.1 less found.own_gives gives found.kinded_gives kgives found.below)
    (shape_put_kinded g formed bound r found.kinded_bound kt.1 less gives kgives) (shape_put_kinded_set g formed bound r found.kinded_bound kt.1 less e ke) in
    subst (λ o. OkOutcome (configured st stack made (TypeApplication f r)) (type_apply_step st stack made r o)) (sym found.at)
    (stays st stack made (TypeApplication f r) (act_term (putting_shape r) zero found.body) g s c around (typed_wider typed captures below ks kc)
    (λ x q. cell_reaches function (TypeFunctionTerm bound found.body) x found.at
    (q.0, free_outside q.0 (captured_variables found.body) (subst (Member (Variable (Free q.0))) (captured_when_shape_put r found.body) q.1), q.2)))

-- Unboxings: what is taken out reaches only what the set of the unboxing reaches, since that has no universal capability.
pub unbox_row : (st : Store) (stack : Stack) (made : ℕ) (o : Option Set) (b : Var) (g : Context) (s : Shape) (c : Set) → Around st stack made (Unboxing o b) g s c → Typed g (Unboxing o b) s c
    → OkOutcome (configured st stack made (Unboxing o b)) (unbox_step st stack made (cell_at st b))
unbox_row st stack made o b g s c around (widened kt (exact_unboxing {s = s0} {c = c0} has none) captures below ks kc) =
    let found = box_at around.stored has in
    subst (λ x. OkOutcome (configured st stack made (Unboxing (Some c0) b)) (unbox_step st stack made x)) (sym found.at)
    (stays st stack made (Unboxing (Some c0) b) (VariableTerm found.content) g s c around (typed_wider (has_variable_typed found.has) captures below ks kc)
    (λ x r. set_reaches-left c0 (variable_set b) (set_reaches-below around.stored (variable_set found.content) c0 (variable_captures found.has) none x r)))

-- Operators.
result_base : (p : Operator) (x y : ℤ) → base_of (result_of p x y) ≡ base_given p
result_base operators.Add x y = refl
result_base operators.Sub x y = refl
result_base operators.Mul x y = refl
result_base operators.Less x y = refl
result_base operators.Equal x y = refl

pub primitive_row : (st : Store) (stack : Stack) (made : ℕ) (p : Operator) (v w : Var) (g : Context) (s : Shape) (c : Set) → Around st stack made (Primitive p v w) g s c → Typed g (Primitive p v w) s c
    → OkOutcome (configured st stack made (Primitive p v w)) (primitive_step st stack made p (literal_in (cell_at st v)) (literal_in (cell_at st w)))
primitive_row st stack made p v w g s c around (widened kt (exact_primitive left right) captures below ks kc) =
    let x = number_at around.stored left in
    let y = number_at around.stored right in
    let before : Configuration = configured st stack made (Primitive p v w) in
    subst (λ a. OkOutcome before (primitive_step st stack made p a (literal_in (cell_at st w)))) (sym x.1)
    (subst (λ b. OkOutcome before (primitive_step st stack made p (Some (NumberLiteral x.0)) b)) (sym y.1)
    (stays st stack made (Primitive p v w) (LiteralTerm (result_of p x.0 y.0)) g s c around
    (typed_wider (typed_is refl (ap BaseShape (result_base p x.0 y.0)) refl (literal_typed g (result_of p x.0 y.0))) captures below ks kc)
    (λ z r. absurd (set_reaches-none r))))

-- Choices.
conditional_at : (st : Store) (stack : Stack) (made : ℕ) (note : Note) (v : Var) (t u : Term) (g : Context) (s : Shape) (c : Set) (truth : Bool) → Around st stack made (Conditional note v t u) g s c → Typed g t s c → Typed g u s c
    → Went (configured st stack made (Conditional note v t u)) None (configured st stack made (cond truth t u))
conditional_at st stack made note v t u g s c true around typed typed' =
    stays st stack made (Conditional note v t u) t g s c around typed
    (λ x r. set_reaches-right (variable_set v) (union (captured_variables t) (captured_variables u)) (set_reaches-left (captured_variables t) (captured_variables u) r))
conditional_at st stack made note v t u g s c false around typed typed' =
    stays st stack made (Conditional note v t u) u g s c around typed'
    (λ x r. set_reaches-right (variable_set v) (union (captured_variables t) (captured_variables u)) (set_reaches-right (captured_variables t) (captured_variables u) r))

pub conditional_row : (st : Store) (stack : Stack) (made : ℕ) (note : Note) (v : Var) (t u : Term) (g : Context) (s : Shape) (c : Set) → Around st stack made (Conditional note v t u) g s c → Typed g (Conditional note v t u) s c
    → OkOutcome (configured st stack made (Conditional note v t u)) (conditional_step st stack made t u (literal_in (cell_at st v)))
conditional_row st stack made note v t u g s c around (widened kt (exact_conditional {s = s0} {c = c0} test positive negative) captures below ks kc) =
    let truth = truth_at around.stored test in
    subst (λ o. OkOutcome (configured st stack made (Conditional (Written s0 c0) v t u)) (conditional_step st stack made t u o)) (sym truth.1)
    (conditional_at st stack made (Written s0 c0) v t u g s c truth.0 around (typed_wider positive captures below ks kc) (typed_wider negative captures below ks kc))

-- Repetitions.
pub repetition_row : (st : Store) (stack : Stack) (made : ℕ) (n f : Var) (g : Context) (s : Shape) (c : Set) → Around st stack made (Repetition n f) g s c → Typed g (Repetition n f) s c
    → OkOutcome (configured st stack made (Repetition n f)) (repetition_step st stack made f (literal_in (cell_at st n)))
repetition_row st stack made n f g s c around (widened kt (exact_repetition {d' = d} count function) captures below ks kc) =
    let found = number_at around.stored count in
    subst (λ o. OkOutcome (configured st stack made (Repetition n f)) (repetition_step st stack made f o)) (sym found.1) (by_number found.0)
  where
    ends : Went (configured st stack made (Repetition n f)) None (configured st stack made (LiteralTerm UnitLiteral))
    ends = stays st stack made (Repetition n f) (LiteralTerm UnitLiteral) g s c around (typed_wider (literal_typed g UnitLiteral) captures below ks kc) (λ z r. absurd (set_reaches-none r))

    by_number : (z : ℤ) → OkOutcome (configured st stack made (Repetition n f)) (repetition_step st stack made f (Some (NumberLiteral z)))
    by_number (pos zero) = ends
    by_number (negsuc k) = ends
    by_number (pos (suc k)) =
        calls st stack stack made (Repetition n f) g s s c d c around 1 (suc k) 0 (let l : 1 ≤ 1 = omega arith in l) (let l : 1 ≤ suc k = omega arith in l) below around.stacked around.rise around.frames_reach refl
        (λ m b r. set_reaches-right (union (variable_set n) (variable_set f)) (captured_by_stack stack) r)
        f function (λ k r. around.term_reach k (set_reaches-right (variable_set n) (variable_set f) r))
        (λ m b r. set_reaches-left (union (variable_set n) (variable_set f)) (captured_by_stack stack) (set_reaches-right (variable_set n) (variable_set f) r))
