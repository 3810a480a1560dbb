-- Steps that ask, and steps that ask nothing.
use denote.Bor.{Bor}
use Rattle.std.proofs.Common.{◌≡◌, ℕ, zero, suc, pos, negsuc, Bool, true, false, cond, ◌&&◌, [], ◌∷◌, Option, Some, None, option_map, refl, sym, ap, ◌∙◌, subst}
use Rattle.std.specs.Prelude.{nat_eq}
use Rattle.cc_base.specs.declared.literal.Op.{Op}
use Rattle.cc_base.specs.declared.literal.Op.TheVariants as operations
use Rattle.cc_base.specs.declared.literal.Operator.{Operator}
use Rattle.cc_base.specs.Literals.{Literal, TruthLiteral, NumberLiteral}
use Rattle.cc_capture.specs.declared.var.Var.{Var}
use Rattle.cc_core.specs.declared.terms.Form.{Form}
use Rattle.cc_core.specs.declared.terms.Form.TheVariants as forms
use Rattle.cc_core.specs.declared.terms.Node.{Node}
use Rattle.cc_core.specs.Shapes.{Shape}
use Rattle.cc_core.specs.Stores.{Cell, ValueCell, DeviceCell, LabelCell, Store, cell_at}
use Rattle.cc_core.specs.Terms.{Term, VariableTerm, FunctionTerm, TypeFunctionTerm, BoxTerm}
use Rattle.cc_core.specs.TermViews.{form_of}
use Rattle.cc_core.specs.Typing.{base_operated, base_taken}
use Rattle.cc_device.specs.Calls.{TakesNoMemory}
use Rattle.cc_device.specs.Devices.{Devices}
use Rattle.cc_device.specs.Events.{Event}
use Rattle.cc_runs.specs.Machine.{Configuration, LetFrame, ScopeFrame, RepetitionFrame, Stack, StepOutcome, Stuck, Final, Next, Ask, apply_step, argument_at, below_scope, conditional_step, exit_step, exit_to, is_taken, let_step, operation_step, primitive_step, repeat_step, repetition_step, same_base, step, term_step, type_apply_step, unbox_step, value_step, variable_step}
use Rattle.cc_runs.specs.Runs.{closed, move}
use Rattle.cc_machine.specs.declared.parts.Focus.TheVariants as focuses
use Rattle.cc_machine.specs.declared.parts.Parts.{Parts}
use Rattle.cc_machine.specs.Asking.{Question, question_in}
use Rattle.cc_machine.specs.Environments.{Environment, follow}
use Rattle.cc_machine.specs.Lines.{Goes, GoesAs, GoesWith, IsWriting, MovesAs, on, state_in}
use Rattle.cc_machine.specs.Parts.{configuration_of, focus_in, IsLinked}
use Rattle.cc_machine.specs.Placing.{term_in, variable_in}
use Rattle.cc_machine.specs.Putting.{put_all}
use Rattle.cc_machine.proofs.Following.{goes_same, stays}

-- only an operation asks
asks_in_neither : (b : Bool) (x y : StepOutcome) → question_in x ≡ None → question_in y ≡ None → question_in (cond b x y) ≡ None
asks_in_neither true x y one other = one
asks_in_neither false x y one other = other

module _ (st : Store) (k : Stack) (made : ℕ) where
  repeat_asks : (g : Var) (begun many : ℕ) → question_in (repeat_step st k made g begun many) ≡ None
  repeat_asks g begun many = asks_in_neither (nat_eq begun many) _ _ refl refl

  exit_asks : (v : Var) (n : ℕ) (o : Option Stack) → question_in (exit_to st made v n o) ≡ None
  exit_asks v n None = refl
  exit_asks v n (Some rest) = refl

  apply_asks : (v : Var) (o : Option Cell) → question_in (apply_step st k made v o) ≡ None
  apply_asks v (Some (ValueCell (FunctionTerm s c t))) = refl
  apply_asks v o = refl

  type_apply_asks : (s : Shape) (o : Option Cell) → question_in (type_apply_step st k made s o) ≡ None
  type_apply_asks s (Some (ValueCell (TypeFunctionTerm b t))) = refl
  type_apply_asks s o = refl

  unbox_asks : (o : Option Cell) → question_in (unbox_step st k made o) ≡ None
  unbox_asks (Some (ValueCell (BoxTerm v))) = refl
  unbox_asks o = refl

  let_asks : (t body : Term) → question_in (let_step st k made t body) ≡ None
  let_asks (VariableTerm v) body = refl
  let_asks t body = refl

  primitive_asks : (op : Operator) (x y : Option Literal) → question_in (primitive_step st k made op x y) ≡ None
  primitive_asks op (Some (NumberLiteral a)) (Some (NumberLiteral b)) = refl
  primitive_asks op x y = refl

  conditional_asks : (p n : Term) (x : Option Literal) → question_in (conditional_step st k made p n x) ≡ None
  conditional_asks p n (Some (TruthLiteral t)) = refl
  conditional_asks p n x = refl

  repetition_asks : (g : Var) (x : Option Literal) → question_in (repetition_step st k made g x) ≡ None
  repetition_asks g (Some (NumberLiteral (pos zero))) = refl
  repetition_asks g (Some (NumberLiteral (pos (suc n)))) = refl
  repetition_asks g (Some (NumberLiteral (negsuc n))) = refl
  repetition_asks g x = refl

  leave_asks : (v : Var) (o : Option Cell) → question_in (exit_step st k made v o) ≡ None
  leave_asks v (Some (LabelCell n)) = exit_asks v n (below_scope n k)
  leave_asks v o = refl

module _ (st : Store) (made : ℕ) where
  variable_asks : (k : Stack) (v : Var) → question_in (variable_step st k made v) ≡ None
  variable_asks [] v = refl
  variable_asks (LetFrame body ∷ k) v = refl
  variable_asks (ScopeFrame label ∷ k) v = refl
  variable_asks (RepetitionFrame g begun many ∷ k) v = repeat_asks st k made g begun many

  value_asks : (k : Stack) (t : Term) → question_in (value_step st k made t) ≡ None
  value_asks [] t = refl
  value_asks (LetFrame body ∷ k) t = refl
  value_asks (ScopeFrame label ∷ k) t = refl
  value_asks (RepetitionFrame g begun many ∷ k) t = repeat_asks st k made g begun many

form_asks : (st : Store) (k : Stack) (made : ℕ) (e : Environment) (form : Form)
    → ((op : Op) (v : Var) (o : Option Var) → form ≡ forms.Operate op v o → ⊥) → question_in (term_step st k made (put_all e (form_of form))) ≡ None
form_asks st k made e (forms.Var variable) other = variable_asks st made k _
form_asks st k made e (forms.Lit literal) other = value_asks st made k _
form_asks st k made e (forms.Fun' takes p body at first second) other = value_asks st made k _
form_asks st k made e (forms.TFun' bound p body at first second) other = value_asks st made k _
form_asks st k made e (forms.Boxed content) other = value_asks st made k _
form_asks st k made e (forms.App function argument) other = apply_asks st k made _ _
form_asks st k made e (forms.TApp function argument) other = type_apply_asks st k made _ _
form_asks st k made e (forms.Unbox set held) other = unbox_asks st k made _
form_asks st k made e (forms.Let' note p right at first second q body at' first' second') other = let_asks st k made _ _
form_asks st k made e (forms.Prim operator l r) other = primitive_asks st k made operator _ _
form_asks st k made e (forms.If' note test p positive at first second q negative at' first' second') other = conditional_asks st k made _ _ _
form_asks st k made e (forms.Repeat count function) other = repetition_asks st k made _ _
form_asks st k made e (forms.Operate operation receiver argument) other = absurd (other operation receiver argument refl)
form_asks st k made e (forms.Boundary' gives p body at first second) other = refl
form_asks st k made e (forms.Leave gives exit value) other = leave_asks st k made _ _

-- an operation that asks is the one that is asked, and one that asks nothing is stuck
module _ (st : Store) (k : Stack) (made : ℕ) (op : Op) where
  asked_or_stuck : (b : Bool) (n : ℕ) (a : Option Literal) (resume : Literal → Configuration) (q : Question)
      → Some q ≡ question_in (cond b (Ask n op a resume) Stuck) → q.operation ≡ op
  asked_or_stuck true n a resume q is = cc
  asked_or_stuck false n a resume q is = cc

  pub asked_operation : (q : Question) (cell : Option Cell) (a : Option (Option Literal)) → Some q ≡ question_in (operation_step st k made op cell a) → q.operation ≡ op
  asked_operation q (Some (DeviceCell n base)) (Some a) is = asked_or_stuck (same_base base (base_operated op) && is_taken (base_taken op) a) n a _ q is
  asked_operation q cell a is = cc

  stuck_or_asked : (b : Bool) (n : ℕ) (a : Option Literal) (resume : Literal → Configuration)
      → None ≡ question_in (cond b (Ask n op a resume) Stuck) → cond b (Ask n op a resume) Stuck ≡ Stuck
  stuck_or_asked true n a resume is = cc
  stuck_or_asked false n a resume is = refl

  unasked_stuck : (cell : Option Cell) (a : Option (Option Literal)) → None ≡ question_in (operation_step st k made op cell a) → operation_step st k made op cell a ≡ Stuck
  unasked_stuck (Some (DeviceCell n base)) (Some a) is = stuck_or_asked (same_base base (base_operated op) && is_taken (base_taken op) a) n a _ is
  unasked_stuck cell a is = refl

-- an outcome without a question is one on the devices
moves_unasked : (devices : Devices) (x : StepOutcome) (event : Option Event) (after : Parts) → GoesAs x event (configuration_of after) → MovesAs (closed devices x) event (state_in after devices)
moves_unasked devices Stuck event after goes = tt
moves_unasked devices Final event after goes = tt
moves_unasked devices (Next e next) event after goes = (goes.0, ap (λ c. record { configuration = c; devices = devices }) goes.1)
moves_unasked devices (Ask n op a resume) event after goes = absurd goes

goes_with : {before after : Parts} {event : Option Event} (devices : Devices) → Goes (step (configuration_of before)) before event after
    → GoesWith (move (state_in before devices)) before event after devices
goes_with {before} {after} {event} devices goes = record {
  linked = goes.linked;
  uses = goes.uses;
  moves = moves_unasked devices (step (configuration_of before)) event after goes.follows;
}

-- the operations that write no text
pub writes_nothing : (op : Op) → ((TakesNoMemory op → ⊥) → ⊥) → TakesNoMemory op
writes_nothing operations.Print none = absurd (none (λ h. h))
writes_nothing operations.Say none = absurd (none (λ h. h))
writes_nothing operations.Read none = tt
writes_nothing operations.Write none = absurd (none (λ h. h))
writes_nothing operations.Tick none = tt

-- a term of the program that runs
module _ (parts : Parts) (node : Bor Node) (environment : ℕ) (focus : parts.focus ≡ focuses.Code node environment) where
  pub runs_code : step (configuration_of parts) ≡ on parts (λ store stack made. term_step store stack made (term_in parts environment node.now))
  runs_code =
      ap (λ f. term_step (configuration_of parts).store (configuration_of parts).stack (configuration_of parts).labels_made (focus_in parts.links.items f)) focus

  pub code_asks_nothing : ((op : Op) (v : Var) (o : Option Var) → node.now.form ≡ forms.Operate op v o → ⊥)
      → question_in (on parts (λ store stack made. term_step store stack made (term_in parts environment node.now))) ≡ None
  code_asks_nothing other =
      form_asks (configuration_of parts).store (configuration_of parts).stack (configuration_of parts).labels_made (follow parts.links.items environment) node.now.form other

  pub code_goes : {event : Option Event} {after : Parts} (devices : Devices)
      → Goes (on parts (λ store stack made. term_step store stack made (term_in parts environment node.now))) parts event after
      → GoesWith (move (state_in parts devices)) parts event after devices
  code_goes {event} {after} devices goes = goes_with devices (goes_same _ _ parts after event runs_code goes)

  module _ (op : Op) (receiver : Var) (argument : Option Var) (is : node.now.form ≡ forms.Operate op receiver argument) where
    runs_operation : step (configuration_of parts)
        ≡ on parts (λ store stack made. operation_step store stack made op (cell_at store (variable_in parts environment receiver)) (argument_at store (option_map (variable_in parts environment) argument)))
    runs_operation = runs_code ∙ ap (λ f. on parts (λ store stack made. term_step store stack made (put_all (follow parts.links.items environment) (form_of f)))) is

    pub asked_here : (q : Question)
        → Some q ≡ question_in (on parts (λ store stack made. operation_step store stack made op (cell_at store (variable_in parts environment receiver)) (argument_at store (option_map (variable_in parts environment) argument))))
        → Some q ≡ question_in (step (configuration_of parts))
    asked_here q asked = asked ∙ ap question_in (sym runs_operation)

    pub takes_no_memory : (q : Question)
        → Some q ≡ question_in (on parts (λ store stack made. operation_step store stack made op (cell_at store (variable_in parts environment receiver)) (argument_at store (option_map (variable_in parts environment) argument))))
        → (IsWriting (term_in parts environment node.now) → ⊥) → TakesNoMemory q.operation
    takes_no_memory q asked none =
        let one = asked_operation (configuration_of parts).store (configuration_of parts).stack (configuration_of parts).labels_made op q _ _ asked in
        subst TakesNoMemory (sym one)
        (writes_nothing op (subst (λ f. IsWriting (put_all (follow parts.links.items environment) (form_of f)) → ⊥) is none))

    pub stuck_here : (devices : Devices) → IsLinked parts
        → None ≡ question_in (on parts (λ store stack made. operation_step store stack made op (cell_at store (variable_in parts environment receiver)) (argument_at store (option_map (variable_in parts environment) argument))))
        → GoesWith (move (state_in parts devices)) parts None parts devices
    stuck_here devices linked asked =
        let stuck = unasked_stuck (configuration_of parts).store (configuration_of parts).stack (configuration_of parts).labels_made op _ _ asked in
        goes_with devices (goes_same _ _ parts parts None (runs_operation ∙ stuck) (stays Stuck parts None linked tt))
