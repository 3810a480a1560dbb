-- A step that asks no device has no event of an operation.
use Rattle.std.proofs.Common.{◌≡◌, ℕ, zero, suc, Bool, true, false, cond, [], ◌∷◌, Option, Some, None, subst}
use Rattle.std.specs.Prelude.{pos, negsuc, nat_eq, ◌&&◌}
use Rattle.cc_base.specs.Literals.{Literal, UnitLiteral, TruthLiteral, NumberLiteral}
use Rattle.cc_base.specs.declared.literal.Op.{Op}
use Rattle.cc_base.specs.declared.literal.Operator.{Operator}
use Rattle.cc_capture.specs.declared.var.Var.{Var}
use Rattle.cc_core.specs.Shapes.{Shape}
use Rattle.cc_core.specs.Stores.{Cell, ValueCell, DeviceCell, LabelCell, Store, cell_at}
use Rattle.cc_core.specs.Terms.{Term, VariableTerm, LiteralTerm, FunctionTerm, TypeFunctionTerm, BoxTerm, Application, TypeApplication, Unboxing, Let, Primitive, Conditional, Repetition, Operation, Boundary, Leave}
use Rattle.cc_core.specs.Typing.{base_operated, base_taken}
use Rattle.cc_device.specs.Events.{Event}
use Rattle.cc_runs.specs.Machine.{LetFrame, ScopeFrame, RepetitionFrame, Stack, Configuration, configured, StepOutcome, Stuck, Final, Next, Ask, going, call_with_number, let_step, apply_step, type_apply_step, unbox_step, literal_in, primitive_step, conditional_step, repetition_step, repeat_step, same_base, is_taken, argument_at, operation_step, below_scope, exit_to, exit_step, variable_step, value_step, term_step, step}
use Rattle.cc_runs.specs.Soundness.{OperatesNoDevice}

-- it has no such event
abbrev IsQuiet : StepOutcome → Type 0
IsQuiet Stuck = Unit {0}
IsQuiet Final = Unit {0}
IsQuiet (Next event next) = OperatesNoDevice event
IsQuiet (Ask device operation argument resume) = Unit {0}

either_quiet : (t : Bool) (x y : StepOutcome) → IsQuiet x → IsQuiet y → IsQuiet (cond t x y)
either_quiet true x y hx hy = hx
either_quiet false x y hx hy = hy

asking_quiet : (t : Bool) (n : ℕ) (op : Op) (a : Option Literal) (resume : Literal → Configuration) → IsQuiet (cond t (Ask n op a resume) Stuck)
asking_quiet true n op a resume = tt
asking_quiet false n op a resume = tt

module _ (st : Store) (k : Stack) (made : ℕ) where
  let_quiet : (r body : Term) → IsQuiet (let_step st k made r body)
  let_quiet (VariableTerm v) body = tt
  let_quiet (LiteralTerm l) body = tt
  let_quiet (FunctionTerm s c t) body = tt
  let_quiet (TypeFunctionTerm s t) body = tt
  let_quiet (BoxTerm v) body = tt
  let_quiet (Application v w) body = tt
  let_quiet (TypeApplication v s) body = tt
  let_quiet (Unboxing o v) body = tt
  let_quiet (Let n s t) body = tt
  let_quiet (Primitive p v w) body = tt
  let_quiet (Conditional n v s t) body = tt
  let_quiet (Repetition v w) body = tt
  let_quiet (Operation p v o) body = tt
  let_quiet (Boundary s t) body = tt
  let_quiet (Leave s c v w) body = tt

  apply_quiet : (a : Var) (o : Option Cell) → IsQuiet (apply_step st k made a o)
  apply_quiet a (Some (ValueCell (FunctionTerm s c t))) = tt
  apply_quiet a (Some (ValueCell v)) = tt
  apply_quiet a (Some (DeviceCell n b)) = tt
  apply_quiet a (Some (LabelCell n)) = tt
  apply_quiet a None = tt

  type_apply_quiet : (r : Shape) (o : Option Cell) → IsQuiet (type_apply_step st k made r o)
  type_apply_quiet r (Some (ValueCell (TypeFunctionTerm s t))) = tt
  type_apply_quiet r (Some (ValueCell v)) = tt
  type_apply_quiet r (Some (DeviceCell n b)) = tt
  type_apply_quiet r (Some (LabelCell n)) = tt
  type_apply_quiet r None = tt

  unbox_quiet : (o : Option Cell) → IsQuiet (unbox_step st k made o)
  unbox_quiet (Some (ValueCell (BoxTerm v))) = tt
  unbox_quiet (Some (ValueCell v)) = tt
  unbox_quiet (Some (DeviceCell n b)) = tt
  unbox_quiet (Some (LabelCell n)) = tt
  unbox_quiet None = tt

  primitive_quiet : (p : Operator) (x y : Option Literal) → IsQuiet (primitive_step st k made p x y)
  primitive_quiet p (Some (NumberLiteral a)) (Some (NumberLiteral b)) = tt
  primitive_quiet p x y = tt

  conditional_quiet : (t u : Term) (x : Option Literal) → IsQuiet (conditional_step st k made t u x)
  conditional_quiet t u (Some (TruthLiteral b)) = tt
  conditional_quiet t u x = tt

  repetition_quiet : (f : Var) (x : Option Literal) → IsQuiet (repetition_step st k made f x)
  repetition_quiet f (Some (NumberLiteral (pos zero))) = tt
  repetition_quiet f (Some (NumberLiteral (pos (suc n)))) = tt
  repetition_quiet f (Some (NumberLiteral (negsuc n))) = tt
  repetition_quiet f x = tt

  repeat_quiet : (f : Var) (b w : ℕ) → IsQuiet (repeat_step st k made f b w)
  repeat_quiet f b w =
      either_quiet (nat_eq b w) (going st k made (LiteralTerm UnitLiteral)) (call_with_number st k made f (suc b) w b) tt tt

  operation_quiet : (op : Op) (o : Option Cell) (x : Option (Option Literal)) → IsQuiet (operation_step st k made op o x)
  operation_quiet op (Some (DeviceCell n b)) (Some a) =
      asking_quiet (same_base b (base_operated op) && is_taken (base_taken op) a) n op a (λ answer. configured st k made (LiteralTerm answer))
  operation_quiet op o x = tt

  exit_to_quiet : (v : Var) (n : ℕ) (o : Option Stack) → IsQuiet (exit_to st made v n o)
  exit_to_quiet v n (Some j) = tt
  exit_to_quiet v n None = tt

  exit_quiet : (v : Var) (o : Option Cell) → IsQuiet (exit_step st k made v o)
  exit_quiet v (Some (LabelCell n)) = exit_to_quiet v n (below_scope n k)
  exit_quiet v o = tt

variable_quiet : (st : Store) (k : Stack) (made : ℕ) (v : Var) → IsQuiet (variable_step st k made v)
variable_quiet st [] made v = tt
variable_quiet st (LetFrame body ∷ k) made v = tt
variable_quiet st (ScopeFrame n ∷ k) made v = tt
variable_quiet st (RepetitionFrame g b w ∷ k) made v = repeat_quiet st k made g b w

value_quiet : (st : Store) (k : Stack) (made : ℕ) (v : Term) → IsQuiet (value_step st k made v)
value_quiet st [] made v = tt
value_quiet st (LetFrame body ∷ k) made v = tt
value_quiet st (ScopeFrame n ∷ k) made v = tt
value_quiet st (RepetitionFrame g b w ∷ k) made v = repeat_quiet st k made g b w

term_quiet : (st : Store) (k : Stack) (made : ℕ) (t : Term) → IsQuiet (term_step st k made t)
term_quiet st k made (VariableTerm v) = variable_quiet st k made v
term_quiet st k made (LiteralTerm l) = value_quiet st k made (LiteralTerm l)
term_quiet st k made (FunctionTerm s c t) = value_quiet st k made (FunctionTerm s c t)
term_quiet st k made (TypeFunctionTerm s t) = value_quiet st k made (TypeFunctionTerm s t)
term_quiet st k made (BoxTerm v) = value_quiet st k made (BoxTerm v)
term_quiet st k made (Application f a) = apply_quiet st k made a (cell_at st f)
term_quiet st k made (TypeApplication f r) = type_apply_quiet st k made r (cell_at st f)
term_quiet st k made (Unboxing o v) = unbox_quiet st k made (cell_at st v)
term_quiet st k made (Let n r body) = let_quiet st k made r body
term_quiet st k made (Primitive p v w) = primitive_quiet st k made p (literal_in (cell_at st v)) (literal_in (cell_at st w))
term_quiet st k made (Conditional n v t u) = conditional_quiet st k made t u (literal_in (cell_at st v))
term_quiet st k made (Repetition v f) = repetition_quiet st k made f (literal_in (cell_at st v))
term_quiet st k made (Operation op v o) = operation_quiet st k made op (cell_at st v) (argument_at st o)
term_quiet st k made (Boundary s body) = tt
term_quiet st k made (Leave s c x v) = exit_quiet st k made v (cell_at st x)

pub quiet_step : (c : Configuration) (event : Option Event) (next : Configuration) → step c ≡ Next event next → OperatesNoDevice event
quiet_step c event next is = subst IsQuiet is (term_quiet c.store c.stack c.labels_made c.term)
