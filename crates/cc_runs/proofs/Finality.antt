-- Exactly the answered configurations are final, and whatever asks a device has an argument that its operation takes.
use Rattle.std.proofs.Common.{◌≡◌, ℕ, zero, suc, Bool, true, false, cond, [], ◌∷◌, Option, Some, None, refl, ap, ◌∙◌, subst}
use Rattle.std.specs.Prelude.{pos, negsuc, nat_eq, ◌&&◌}
use Rattle.cc_base.specs.declared.literal.Op.{Op}
use Rattle.cc_base.specs.declared.literal.Operator.{Operator}
use Rattle.cc_base.specs.Literals.{Literal, UnitLiteral, TruthLiteral, NumberLiteral}
use Rattle.cc_capture.specs.declared.var.Var.{Var}
use Rattle.cc_core.specs.Shapes.{Shape}
use Rattle.cc_core.specs.Terms.{Term, VariableTerm, LiteralTerm, FunctionTerm, TypeFunctionTerm, BoxTerm, Application, TypeApplication, Unboxing, Let, Primitive, Conditional, Repetition, Operation, Boundary, Leave}
use Rattle.cc_core.specs.Typing.{base_operated, base_taken}
use Rattle.cc_core.specs.Stores.{Cell, ValueCell, DeviceCell, LabelCell, Store, cell_at}
use Rattle.cc_device.specs.Devices.{Reply, operate}
use Rattle.cc_runs.specs.Machine.{Frame, LetFrame, ScopeFrame, RepetitionFrame, Stack, Configuration, configured, StepOutcome, Stuck, Final, Next, Ask, going, call_with_number, let_step, apply_step, type_apply_step, unbox_step, literal_in, primitive_step, conditional_step, repetition_step, repeat_step, same_base, is_taken, argument_at, operation_step, below_scope, exit_to, exit_step, variable_step, value_step, term_step, step}
use Rattle.cc_runs.specs.Answers.{is_answer}
use Rattle.cc_runs.specs.Runs.{State, IsFinal, answered, closed}
use Rattle.cc_runs.specs.RunLaws.{IsAnswered, FinalExactlyWhereAnswered, FinalStatesAreAnswered}

-- it is not final, and what it asks is asked with an argument that the operation takes
abbrev GoesOn : StepOutcome → Type 0
GoesOn Stuck = Unit {0}
GoesOn Final = ⊥
GoesOn (Next event next) = Unit {0}
GoesOn (Ask device operation argument resume) = is_taken (base_taken operation) argument ≡ true

either_goes_on : (t : Bool) (x y : StepOutcome) → GoesOn x → GoesOn y → GoesOn (cond t x y)
either_goes_on true x y hx hy = hx
either_goes_on false x y hx hy = hy

if_taken : (s t : Bool) (n : ℕ) (op : Op) (a : Option Literal) (resume : Literal → Configuration) → (t ≡ true → is_taken (base_taken op) a ≡ true)
    → GoesOn (cond (s && t) (Ask n op a resume) Stuck)
if_taken true true n op a resume h = h refl
if_taken true false n op a resume h = tt
if_taken false t n op a resume h = tt

-- no line of the step but those of answers without a frame is final
module _ (st : Store) (k : Stack) (made : ℕ) where
  let_goes_on : (r body : Term) → GoesOn (let_step st k made r body)
  let_goes_on (VariableTerm v) body = tt
  let_goes_on (LiteralTerm l) body = tt
  let_goes_on (FunctionTerm s c t) body = tt
  let_goes_on (TypeFunctionTerm s t) body = tt
  let_goes_on (BoxTerm v) body = tt
  let_goes_on (Application v w) body = tt
  let_goes_on (TypeApplication v s) body = tt
  let_goes_on (Unboxing o v) body = tt
  let_goes_on (Let n s t) body = tt
  let_goes_on (Primitive p v w) body = tt
  let_goes_on (Conditional n v s t) body = tt
  let_goes_on (Repetition v w) body = tt
  let_goes_on (Operation p v o) body = tt
  let_goes_on (Boundary s t) body = tt
  let_goes_on (Leave s c v w) body = tt

  apply_goes_on : (a : Var) (o : Option Cell) → GoesOn (apply_step st k made a o)
  apply_goes_on a (Some (ValueCell (FunctionTerm s c t))) = tt
  apply_goes_on a (Some (ValueCell v)) = tt
  apply_goes_on a (Some (DeviceCell n b)) = tt
  apply_goes_on a (Some (LabelCell n)) = tt
  apply_goes_on a None = tt

  type_apply_goes_on : (r : Shape) (o : Option Cell) → GoesOn (type_apply_step st k made r o)
  type_apply_goes_on r (Some (ValueCell (TypeFunctionTerm s t))) = tt
  type_apply_goes_on r (Some (ValueCell v)) = tt
  type_apply_goes_on r (Some (DeviceCell n b)) = tt
  type_apply_goes_on r (Some (LabelCell n)) = tt
  type_apply_goes_on r None = tt

  unbox_goes_on : (o : Option Cell) → GoesOn (unbox_step st k made o)
  unbox_goes_on (Some (ValueCell (BoxTerm v))) = tt
  unbox_goes_on (Some (ValueCell v)) = tt
  unbox_goes_on (Some (DeviceCell n b)) = tt
  unbox_goes_on (Some (LabelCell n)) = tt
  unbox_goes_on None = tt

  primitive_goes_on : (p : Operator) (x y : Option Literal) → GoesOn (primitive_step st k made p x y)
  primitive_goes_on p (Some (NumberLiteral a)) (Some (NumberLiteral b)) = tt
  primitive_goes_on p x y = tt

  conditional_goes_on : (t u : Term) (x : Option Literal) → GoesOn (conditional_step st k made t u x)
  conditional_goes_on t u (Some (TruthLiteral b)) = tt
  conditional_goes_on t u x = tt

  repetition_goes_on : (f : Var) (x : Option Literal) → GoesOn (repetition_step st k made f x)
  repetition_goes_on f (Some (NumberLiteral (pos zero))) = tt
  repetition_goes_on f (Some (NumberLiteral (pos (suc n)))) = tt
  repetition_goes_on f (Some (NumberLiteral (negsuc n))) = tt
  repetition_goes_on f x = tt

  repeat_goes_on : (f : Var) (b w : ℕ) → GoesOn (repeat_step st k made f b w)
  repeat_goes_on f b w =
      either_goes_on (nat_eq b w) (going st k made (LiteralTerm UnitLiteral)) (call_with_number st k made f (suc b) w b) tt tt

  operation_goes_on : (op : Op) (o : Option Cell) (x : Option (Option Literal)) → GoesOn (operation_step st k made op o x)
  operation_goes_on op (Some (DeviceCell n b)) (Some a) =
      if_taken (same_base b (base_operated op)) (is_taken (base_taken op) a) n op a (λ answer. configured st k made (LiteralTerm answer)) (λ h. h)
  operation_goes_on op o x = tt

  exit_to_goes_on : (v : Var) (n : ℕ) (o : Option Stack) → GoesOn (exit_to st made v n o)
  exit_to_goes_on v n (Some j) = tt
  exit_to_goes_on v n None = tt

  exit_goes_on : (v : Var) (o : Option Cell) → GoesOn (exit_step st k made v o)
  exit_goes_on v (Some (LabelCell n)) = exit_to_goes_on v n (below_scope n k)
  exit_goes_on v o = tt

variable_goes_on : (st : Store) (f : Frame) (k : Stack) (made : ℕ) (v : Var) → GoesOn (variable_step st (f ∷ k) made v)
variable_goes_on st (LetFrame body) k made v = tt
variable_goes_on st (ScopeFrame n) k made v = tt
variable_goes_on st (RepetitionFrame g b w) k made v = repeat_goes_on st k made g b w

value_goes_on : (st : Store) (f : Frame) (k : Stack) (made : ℕ) (v : Term) → GoesOn (value_step st (f ∷ k) made v)
value_goes_on st (LetFrame body) k made v = tt
value_goes_on st (ScopeFrame n) k made v = tt
value_goes_on st (RepetitionFrame g b w) k made v = repeat_goes_on st k made g b w

-- a final outcome comes of an answer without a frame
final_at : {x : StepOutcome} → GoesOn x → x ≡ Final → ⊥
final_at goes_on is = subst GoesOn is goes_on

of_variable : (st : Store) (k : Stack) (made : ℕ) (v : Var) → variable_step st k made v ≡ Final → k ≡ []
of_variable st [] made v is = refl
of_variable st (f ∷ k) made v is = absurd (final_at (variable_goes_on st f k made v) is)

of_value : (st : Store) (k : Stack) (made : ℕ) (v : Term) → value_step st k made v ≡ Final → k ≡ []
of_value st [] made v is = refl
of_value st (f ∷ k) made v is = absurd (final_at (value_goes_on st f k made v) is)

from_final : (st : Store) (k : Stack) (made : ℕ) (t : Term) → term_step st k made t ≡ Final → IsAnswered (configured st k made t)
from_final st k made (VariableTerm v) is = (refl, of_variable st k made v is)
from_final st k made (LiteralTerm l) is = (refl, of_value st k made (LiteralTerm l) is)
from_final st k made (FunctionTerm s c t) is = (refl, of_value st k made (FunctionTerm s c t) is)
from_final st k made (TypeFunctionTerm s t) is = (refl, of_value st k made (TypeFunctionTerm s t) is)
from_final st k made (BoxTerm v) is = (refl, of_value st k made (BoxTerm v) is)
from_final st k made (Application f a) is = absurd (final_at (apply_goes_on st k made a (cell_at st f)) is)
from_final st k made (TypeApplication f r) is = absurd (final_at (type_apply_goes_on st k made r (cell_at st f)) is)
from_final st k made (Unboxing o v) is = absurd (final_at (unbox_goes_on st k made (cell_at st v)) is)
from_final st k made (Let n r body) is = absurd (final_at (let_goes_on st k made r body) is)
from_final st k made (Primitive p v w) is =
    absurd (final_at (primitive_goes_on st k made p (literal_in (cell_at st v)) (literal_in (cell_at st w))) is)
from_final st k made (Conditional n v t u) is = absurd (final_at (conditional_goes_on st k made t u (literal_in (cell_at st v))) is)
from_final st k made (Repetition v f) is = absurd (final_at (repetition_goes_on st k made f (literal_in (cell_at st v))) is)
from_final st k made (Operation op v o) is = absurd (final_at (operation_goes_on st k made op (cell_at st v) (argument_at st o)) is)
from_final st k made (Boundary s body) is = cc
from_final st k made (Leave s c x v) is = absurd (final_at (exit_goes_on st k made v (cell_at st x)) is)

no_frame_final : (st : Store) (made : ℕ) (t : Term) → is_answer t ≡ true → term_step st [] made t ≡ Final
no_frame_final st made (VariableTerm v) is = refl
no_frame_final st made (LiteralTerm l) is = refl
no_frame_final st made (FunctionTerm s c t) is = refl
no_frame_final st made (TypeFunctionTerm s t) is = refl
no_frame_final st made (BoxTerm v) is = refl
no_frame_final st made (Application f a) is = cc
no_frame_final st made (TypeApplication f r) is = cc
no_frame_final st made (Unboxing o v) is = cc
no_frame_final st made (Let n r body) is = cc
no_frame_final st made (Primitive p v w) is = cc
no_frame_final st made (Conditional n v t u) is = cc
no_frame_final st made (Repetition v f) is = cc
no_frame_final st made (Operation op v o) is = cc
no_frame_final st made (Boundary s body) is = cc
no_frame_final st made (Leave s c x v) is = cc

pub final_exactly_where_answered : FinalExactlyWhereAnswered
final_exactly_where_answered c = (
  from_final c.store c.stack c.labels_made c.term,
  λ is. ap (λ k. term_step c.store k c.labels_made c.term) is.1 ∙ no_frame_final c.store c.labels_made c.term is.0,
)

-- what is asked is asked with an argument that the operation takes
module _ {n : ℕ} {op : Op} {a : Option Literal} {resume : Literal → Configuration} where
  asked_at : {x : StepOutcome} → GoesOn x → x ≡ Ask n op a resume → is_taken (base_taken op) a ≡ true
  asked_at goes_on is = subst GoesOn is goes_on

  variable_asks : (st : Store) (k : Stack) (made : ℕ) (v : Var) → variable_step st k made v ≡ Ask n op a resume → is_taken (base_taken op) a ≡ true
  variable_asks st [] made v is = cc
  variable_asks st (f ∷ k) made v is = asked_at (variable_goes_on st f k made v) is

  value_asks : (st : Store) (k : Stack) (made : ℕ) (v : Term) → value_step st k made v ≡ Ask n op a resume → is_taken (base_taken op) a ≡ true
  value_asks st [] made v is = cc
  value_asks st (f ∷ k) made v is = asked_at (value_goes_on st f k made v) is

  term_asks : (st : Store) (k : Stack) (made : ℕ) (t : Term) → term_step st k made t ≡ Ask n op a resume → is_taken (base_taken op) a ≡ true
  term_asks st k made (VariableTerm v) is = variable_asks st k made v is
  term_asks st k made (LiteralTerm l) is = value_asks st k made (LiteralTerm l) is
  term_asks st k made (FunctionTerm s c t) is = value_asks st k made (FunctionTerm s c t) is
  term_asks st k made (TypeFunctionTerm s t) is = value_asks st k made (TypeFunctionTerm s t) is
  term_asks st k made (BoxTerm v) is = value_asks st k made (BoxTerm v) is
  term_asks st k made (Application f x) is = asked_at (apply_goes_on st k made x (cell_at st f)) is
  term_asks st k made (TypeApplication f r) is = asked_at (type_apply_goes_on st k made r (cell_at st f)) is
  term_asks st k made (Unboxing o v) is = asked_at (unbox_goes_on st k made (cell_at st v)) is
  term_asks st k made (Let m r body) is = asked_at (let_goes_on st k made r body) is
  term_asks st k made (Primitive p v w) is =
      asked_at (primitive_goes_on st k made p (literal_in (cell_at st v)) (literal_in (cell_at st w))) is
  term_asks st k made (Conditional m v t u) is = asked_at (conditional_goes_on st k made t u (literal_in (cell_at st v))) is
  term_asks st k made (Repetition v f) is = asked_at (repetition_goes_on st k made f (literal_in (cell_at st v))) is
  term_asks st k made (Operation p v o) is = asked_at (operation_goes_on st k made p (cell_at st v) (argument_at st o)) is
  term_asks st k made (Boundary s body) is = cc
  term_asks st k made (Leave s c x v) is = asked_at (exit_goes_on st k made v (cell_at st x)) is

pub asks_rightly : (c : Configuration) (n : ℕ) (op : Op) (a : Option Literal) (resume : Literal → Configuration) → step c ≡ Ask n op a resume
    → is_taken (base_taken op) a ≡ true
asks_rightly c n op a resume is = term_asks c.store c.stack c.labels_made c.term is

-- the devices decide nothing of this
answered_goes_on : (n : ℕ) (op : Op) (a : Option Literal) (resume : Literal → Configuration) (o : Option Reply) → answered n op a resume o ≡ IsFinal → ⊥
answered_goes_on n op a resume (Some r) is = cc
answered_goes_on n op a resume None is = cc

outcome_final : (state : State) (x : StepOutcome) → closed state.devices x ≡ IsFinal → x ≡ Final
outcome_final state Stuck is = cc
outcome_final state Final is = refl
outcome_final state (Next e n) is = cc
outcome_final state (Ask n op a resume) is = absurd (answered_goes_on n op a resume (operate state.devices n op a) is)

pub final_states_are_answered : FinalStatesAreAnswered
final_states_are_answered state = (
  λ is. (final_exactly_where_answered state.configuration).0 (outcome_final state (step state.configuration) is),
  λ is. ap (closed state.devices) ((final_exactly_where_answered state.configuration).1 is),
)
