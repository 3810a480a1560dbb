-- Steps of alike configurations are alike: each step goes the same way on what is erased.
use Rattle.std.proofs.Common.{◌≡◌, ℕ, zero, suc, Bool, true, false, cond, not, ◌&&◌, [], ◌∷◌, map, length, Option, Some, None, refl, sym, ap, ◌∙◌}
use Rattle.std.specs.Prelude.{pos, negsuc, nat_eq}
use Rattle.std.specs.Option.{option_map}
use Rattle.cc_base.specs.declared.literal.Op.{Op}
use Rattle.cc_base.specs.declared.literal.Operator.{Operator}
use Rattle.cc_capture.specs.declared.var.Var.{Var}
use Rattle.cc_capture.specs.declared.var.Var.TheVariants.{Bound, Free}
use Rattle.cc_capture.specs.declared.var.Elem.TheVariants.{Var as Variable}
use Rattle.cc_capture.specs.Sets.{Set, contains, empty, union}
use Rattle.cc_capture.proofs.Images.{flat_image-empty}
use Rattle.cc_core.specs.Shapes.{Shape, AnyShape}
use Rattle.cc_base.specs.Literals.{Literal, UnitLiteral, TruthLiteral, NumberLiteral, TextLiteral}
use Rattle.cc_core.specs.Terms.{Absent, Term, VariableTerm, LiteralTerm, FunctionTerm, TypeFunctionTerm, BoxTerm, Application, TypeApplication, Unboxing, Let, Primitive, Conditional, Repetition, Operation, Boundary, Leave}
use Rattle.cc_core.specs.Traversal.{Action, act_set, act_term}
use Rattle.cc_core.specs.Substitution.{putting, putting_shape, opened_term}
use Rattle.cc_core.specs.Captured.{is_value, captured_variables, without_binder, variable_set}
use Rattle.cc_core.specs.Typing.{base_operated, base_taken}
use Rattle.cc_core.specs.Stores.{Cell, ValueCell, DeviceCell, LabelCell, Store, cell_at}
use Rattle.cc_core.proofs.Lookups.{lookup-map, length_map}
use Rattle.cc_core.proofs.FreeActions.{putting_shape_set}
use Rattle.cc_device.specs.Devices.{Devices, Reply, operate}
use Rattle.cc_device.specs.Events.{Event, Entered}
use Rattle.cc_runs.specs.Answers.{shown_value, shown_cell, shown_answer, shown}
use Rattle.cc_runs.specs.Runs.{State, Move, IsStuck, IsFinal, Moves, answered, closed, move, Run, ended, after_move, end_with, ending_of, run_on, run}
use Rattle.cc_runs.specs.Machine.{Frame, LetFrame, ScopeFrame, RepetitionFrame, Stack, Configuration, configured, StepOutcome, Stuck, Final, Next, Ask, going, put_in, bound_to_new, let_step, apply_step, type_apply_step, unbox_step, literal_in, primitive_step, conditional_step, call_with_number, repetition_step, repeat_step, same_base, is_taken, argument_at, operation_step, below_scope, exit_to, exit_step, boundary_step, variable_step, value_step, term_step, step}
use Rattle.cc_runs.specs.Reach.{captured_by_frame, captured_by_stack, captured_set}
use Rattle.cc_runs.specs.Alike.{erased, erased_cell, erased_frame, erased_configuration, AreAlike, AlikeCaptureTheSame, AlikeStepAlike, AlikeShowTheSame, AlikeRunAlike}

-- actions on what is erased
no_set : (a : Action) (d : ℕ) → act_set a d empty ≡ empty
no_set a d = flat_image-empty (a.element d)

pub erased-act : (a : Action) (d : ℕ) (t : Term) → act_term a d (erased t) ≡ erased (act_term a d t)
erased-act a d (VariableTerm v) = refl
erased-act a d (LiteralTerm l) = refl
erased-act a d (FunctionTerm s c t) = λ i. FunctionTerm AnyShape (no_set a d i) (erased-act a (suc d) t i)
erased-act a d (TypeFunctionTerm s t) = λ i. TypeFunctionTerm AnyShape (erased-act a (suc d) t i)
erased-act a d (BoxTerm v) = refl
erased-act a d (Application v w) = refl
erased-act a d (TypeApplication v s) = refl
erased-act a d (Unboxing o v) = refl
erased-act a d (Let n s t) = λ i. Let Absent (erased-act a d s i) (erased-act a (suc d) t i)
erased-act a d (Primitive p v w) = refl
erased-act a d (Conditional n v s t) = λ i. Conditional Absent v' (erased-act a d s i) (erased-act a d t i)
  where
    v' : Var
    v' = a.variable d v
erased-act a d (Repetition v w) = refl
erased-act a d (Operation p v o) = refl
erased-act a d (Boundary s t) = λ i. Boundary AnyShape (erased-act a (suc d) t i)
erased-act a d (Leave s c v w) = λ i. Leave AnyShape (no_set a d i) (a.variable d v) (a.variable d w)

same_optional_set : (r : Shape) (d : ℕ) (o : Option Set) → option_map (act_set (putting_shape r) d) o ≡ o
same_optional_set r d None = refl
same_optional_set r d (Some c) = ap (λ x. Some x) (putting_shape_set r d c)

same_optional : (o : Option Var) → option_map (λ v. v) o ≡ o
same_optional None = refl
same_optional (Some v) = refl

-- no type variable is left in what is erased
pub erased-putting_shape : (r : Shape) (d : ℕ) (t : Term) → act_term (putting_shape r) d (erased t) ≡ erased t
erased-putting_shape r d (VariableTerm v) = refl
erased-putting_shape r d (LiteralTerm l) = refl
erased-putting_shape r d (FunctionTerm s c t) = λ i. FunctionTerm AnyShape (no_set (putting_shape r) d i) (erased-putting_shape r (suc d) t i)
erased-putting_shape r d (TypeFunctionTerm s t) = λ i. TypeFunctionTerm AnyShape (erased-putting_shape r (suc d) t i)
erased-putting_shape r d (BoxTerm v) = refl
erased-putting_shape r d (Application v w) = refl
erased-putting_shape r d (TypeApplication v s) = refl
erased-putting_shape r d (Unboxing o v) = λ i. Unboxing (same_optional_set r d o i) v
erased-putting_shape r d (Let n s t) = λ i. Let Absent (erased-putting_shape r d s i) (erased-putting_shape r (suc d) t i)
erased-putting_shape r d (Primitive p v w) = refl
erased-putting_shape r d (Conditional n v s t) = λ i. Conditional Absent v (erased-putting_shape r d s i) (erased-putting_shape r d t i)
erased-putting_shape r d (Repetition v w) = refl
erased-putting_shape r d (Operation p v o) = λ i. Operation p v (same_optional o i)
erased-putting_shape r d (Boundary s t) = λ i. Boundary AnyShape (erased-putting_shape r (suc d) t i)
erased-putting_shape r d (Leave s c v w) = λ i. Leave AnyShape (no_set (putting_shape r) d i) v w

-- what is erased captures the same
is_value-erased : (t : Term) → is_value (erased t) ≡ is_value t
is_value-erased (VariableTerm v) = refl
is_value-erased (LiteralTerm l) = refl
is_value-erased (FunctionTerm s c t) = refl
is_value-erased (TypeFunctionTerm s t) = refl
is_value-erased (BoxTerm v) = refl
is_value-erased (Application v w) = refl
is_value-erased (TypeApplication v s) = refl
is_value-erased (Unboxing o v) = refl
is_value-erased (Let n s t) = refl
is_value-erased (Primitive p v w) = refl
is_value-erased (Conditional n v s t) = refl
is_value-erased (Repetition v w) = refl
is_value-erased (Operation p v o) = refl
is_value-erased (Boundary s t) = refl
is_value-erased (Leave s c v w) = refl

captured-erased : (t : Term) → captured_variables (erased t) ≡ captured_variables t
captured-erased (VariableTerm v) = refl
captured-erased (LiteralTerm l) = refl
captured-erased (FunctionTerm s c t) = ap without_binder (captured-erased t)
captured-erased (TypeFunctionTerm s t) = ap without_binder (captured-erased t)
captured-erased (BoxTerm v) = refl
captured-erased (Application v w) = refl
captured-erased (TypeApplication v s) = refl
captured-erased (Unboxing o v) = refl
captured-erased (Let n s t) = λ i.
    cond (is_value-erased s i && not (contains (Variable (Bound zero)) (captured-erased t i)))
    (without_binder (captured-erased t i)) (union (captured-erased s i) (without_binder (captured-erased t i)))
captured-erased (Primitive p v w) = refl
captured-erased (Conditional n v s t) = λ i. union (variable_set v) (union (captured-erased s i) (captured-erased t i))
captured-erased (Repetition v w) = refl
captured-erased (Operation p v o) = refl
captured-erased (Boundary s t) = ap without_binder (captured-erased t)
captured-erased (Leave s c v w) = refl

captured-erased_frame : (f : Frame) → captured_by_frame (erased_frame f) ≡ captured_by_frame f
captured-erased_frame (LetFrame body) = ap without_binder (captured-erased body)
captured-erased_frame (ScopeFrame k) = refl
captured-erased_frame (RepetitionFrame f b w) = refl

captured-erased_stack : (k : Stack) → captured_by_stack (map erased_frame k) ≡ captured_by_stack k
captured-erased_stack [] = refl
captured-erased_stack (f ∷ k) = λ i. union (captured-erased_frame f i) (captured-erased_stack k i)

pub alike_capture_the_same : AlikeCaptureTheSame
alike_capture_the_same left right same =
    sym (λ i. union (captured-erased left.term i) (captured-erased_stack left.stack i))
    ∙ ap captured_set same
    ∙ (λ i. union (captured-erased right.term i) (captured-erased_stack right.stack i))

-- what comes of a configuration, erased
abbrev pub erased_outcome : StepOutcome → StepOutcome
erased_outcome Stuck = Stuck
erased_outcome Final = Final
erased_outcome (Next event next) = Next event (erased_configuration next)
erased_outcome (Ask device operation argument resume) = Ask device operation argument (λ answer. erased_configuration (resume answer))

-- the parts of a step on the erased store and stack
module _ (st : Store) (k : Stack) (made : ℕ) where
  going-erased : (t u : Term) → t ≡ erased u → going (map erased_cell st) (map erased_frame k) made t ≡ erased_outcome (going st k made u)
  going-erased t u e = ap (λ x. going (map erased_cell st) (map erased_frame k) made x) e

  bound-erased : (v body : Term) → bound_to_new (map erased_cell st) (map erased_frame k) made (erased v) (erased body) ≡ erased_outcome (bound_to_new st k made v body)
  bound-erased v body = λ i.
      going (ValueCell (erased v) ∷ map erased_cell st) (map erased_frame k) made
      (((ap (λ n. opened_term n (erased body)) (length_map erased_cell st)) ∙ erased-act (putting (Free (length st))) zero body) i)

  call-erased : (f : Var) (b w n : ℕ) → call_with_number (map erased_cell st) (map erased_frame k) made f b w n ≡ erased_outcome (call_with_number st k made f b w n)
  call-erased f b w n = ap (λ m. going (ValueCell (LiteralTerm (NumberLiteral (pos n))) ∷ map erased_cell st) (RepetitionFrame f b w ∷ map erased_frame k) made (Application f (Free m))) (length_map erased_cell st)

  repeat-erased : (f : Var) (b w : ℕ) → repeat_step (map erased_cell st) (map erased_frame k) made f b w ≡ erased_outcome (repeat_step st k made f b w)
  repeat-erased f b w = at (nat_eq b w)
    where
      at : (t : Bool) → cond t (going (map erased_cell st) (map erased_frame k) made (LiteralTerm UnitLiteral)) (call_with_number (map erased_cell st) (map erased_frame k) made f (suc b) w b)
          ≡ erased_outcome (cond t (going st k made (LiteralTerm UnitLiteral)) (call_with_number st k made f (suc b) w b))
      at true = refl
      at false = call-erased f (suc b) w b

  let-erased : (r body : Term) → let_step (map erased_cell st) (map erased_frame k) made (erased r) (erased body) ≡ erased_outcome (let_step st k made r body)
  let-erased (VariableTerm v) body = going-erased (put_in v (erased body)) (put_in v body) (erased-act (putting v) zero body)
  let-erased (LiteralTerm l) body = bound-erased (LiteralTerm l) body
  let-erased (FunctionTerm s c t) body = bound-erased (FunctionTerm s c t) body
  let-erased (TypeFunctionTerm s t) body = bound-erased (TypeFunctionTerm s t) body
  let-erased (BoxTerm v) body = bound-erased (BoxTerm v) body
  let-erased (Application v w) body = refl
  let-erased (TypeApplication v s) body = refl
  let-erased (Unboxing o v) body = refl
  let-erased (Let n s t) body = refl
  let-erased (Primitive p v w) body = refl
  let-erased (Conditional n v s t) body = refl
  let-erased (Repetition v w) body = refl
  let-erased (Operation p v o) body = refl
  let-erased (Boundary s t) body = refl
  let-erased (Leave s c v w) body = refl

  apply-erased : (a : Var) (o : Option Cell) → apply_step (map erased_cell st) (map erased_frame k) made a (option_map erased_cell o) ≡ erased_outcome (apply_step st k made a o)
  apply-erased a None = refl
  apply-erased a (Some (DeviceCell n b)) = refl
  apply-erased a (Some (LabelCell n)) = refl
  apply-erased a (Some (ValueCell v)) = at v
    where
      at : (v : Term) → apply_step (map erased_cell st) (map erased_frame k) made a (Some (ValueCell (erased v))) ≡ erased_outcome (apply_step st k made a (Some (ValueCell v)))
      at (FunctionTerm s c t) = going-erased (put_in a (erased t)) (put_in a t) (erased-act (putting a) zero t)
      at (VariableTerm v) = refl
      at (LiteralTerm l) = refl
      at (TypeFunctionTerm s t) = refl
      at (BoxTerm v) = refl
      at (Application v w) = refl
      at (TypeApplication v s) = refl
      at (Unboxing o v) = refl
      at (Let n s t) = refl
      at (Primitive p v w) = refl
      at (Conditional n v s t) = refl
      at (Repetition v w) = refl
      at (Operation p v o) = refl
      at (Boundary s t) = refl
      at (Leave s c v w) = refl

  type_apply-erased : (r : Shape) (o : Option Cell) → type_apply_step (map erased_cell st) (map erased_frame k) made AnyShape (option_map erased_cell o) ≡ erased_outcome (type_apply_step st k made r o)
  type_apply-erased r None = refl
  type_apply-erased r (Some (DeviceCell n b)) = refl
  type_apply-erased r (Some (LabelCell n)) = refl
  type_apply-erased r (Some (ValueCell v)) = at v
    where
      at : (v : Term) → type_apply_step (map erased_cell st) (map erased_frame k) made AnyShape (Some (ValueCell (erased v))) ≡ erased_outcome (type_apply_step st k made r (Some (ValueCell v)))
      at (TypeFunctionTerm s t) =
          going-erased (act_term (putting_shape AnyShape) zero (erased t)) (act_term (putting_shape r) zero t)
          (erased-putting_shape AnyShape zero t ∙ sym (erased-putting_shape r zero t) ∙ erased-act (putting_shape r) zero t)
      at (FunctionTerm s c t) = refl
      at (VariableTerm v) = refl
      at (LiteralTerm l) = refl
      at (BoxTerm v) = refl
      at (Application v w) = refl
      at (TypeApplication v s) = refl
      at (Unboxing o v) = refl
      at (Let n s t) = refl
      at (Primitive p v w) = refl
      at (Conditional n v s t) = refl
      at (Repetition v w) = refl
      at (Operation p v o) = refl
      at (Boundary s t) = refl
      at (Leave s c v w) = refl

  unbox-erased : (o : Option Cell) → unbox_step (map erased_cell st) (map erased_frame k) made (option_map erased_cell o) ≡ erased_outcome (unbox_step st k made o)
  unbox-erased None = refl
  unbox-erased (Some (DeviceCell n b)) = refl
  unbox-erased (Some (LabelCell n)) = refl
  unbox-erased (Some (ValueCell v)) = at v
    where
      at : (v : Term) → unbox_step (map erased_cell st) (map erased_frame k) made (Some (ValueCell (erased v))) ≡ erased_outcome (unbox_step st k made (Some (ValueCell v)))
      at (BoxTerm v) = refl
      at (FunctionTerm s c t) = refl
      at (VariableTerm v) = refl
      at (LiteralTerm l) = refl
      at (TypeFunctionTerm s t) = refl
      at (Application v w) = refl
      at (TypeApplication v s) = refl
      at (Unboxing o v) = refl
      at (Let n s t) = refl
      at (Primitive p v w) = refl
      at (Conditional n v s t) = refl
      at (Repetition v w) = refl
      at (Operation p v o) = refl
      at (Boundary s t) = refl
      at (Leave s c v w) = refl

  primitive-erased : (p : Operator) (x y : Option Literal) → primitive_step (map erased_cell st) (map erased_frame k) made p x y ≡ erased_outcome (primitive_step st k made p x y)
  primitive-erased p (Some (NumberLiteral a)) (Some (NumberLiteral b)) = refl
  primitive-erased p (Some (NumberLiteral a)) (Some UnitLiteral) = refl
  primitive-erased p (Some (NumberLiteral a)) (Some (TruthLiteral b)) = refl
  primitive-erased p (Some (NumberLiteral a)) (Some (TextLiteral b)) = refl
  primitive-erased p (Some (NumberLiteral a)) None = refl
  primitive-erased p (Some UnitLiteral) y = refl
  primitive-erased p (Some (TruthLiteral b)) y = refl
  primitive-erased p (Some (TextLiteral b)) y = refl
  primitive-erased p None y = refl

  conditional-erased : (t u : Term) (x : Option Literal) → conditional_step (map erased_cell st) (map erased_frame k) made (erased t) (erased u) x ≡ erased_outcome (conditional_step st k made t u x)
  conditional-erased t u (Some (TruthLiteral true)) = refl
  conditional-erased t u (Some (TruthLiteral false)) = refl
  conditional-erased t u (Some UnitLiteral) = refl
  conditional-erased t u (Some (NumberLiteral z)) = refl
  conditional-erased t u (Some (TextLiteral z)) = refl
  conditional-erased t u None = refl

  repetition-erased : (f : Var) (x : Option Literal) → repetition_step (map erased_cell st) (map erased_frame k) made f x ≡ erased_outcome (repetition_step st k made f x)
  repetition-erased f (Some (NumberLiteral (pos zero))) = refl
  repetition-erased f (Some (NumberLiteral (pos (suc n)))) = call-erased f 1 (suc n) 0
  repetition-erased f (Some (NumberLiteral (negsuc n))) = refl
  repetition-erased f (Some (TruthLiteral t)) = refl
  repetition-erased f (Some UnitLiteral) = refl
  repetition-erased f (Some (TextLiteral z)) = refl
  repetition-erased f None = refl

  operation-erased : (op : Op) (o : Option Cell) (x : Option (Option Literal)) → operation_step (map erased_cell st) (map erased_frame k) made op (option_map erased_cell o) x ≡ erased_outcome (operation_step st k made op o x)
  operation-erased op None x = refl
  operation-erased op (Some (ValueCell v)) x = refl
  operation-erased op (Some (LabelCell n)) x = refl
  operation-erased op (Some (DeviceCell n b)) None = refl
  operation-erased op (Some (DeviceCell n b)) (Some a) = at (same_base b (base_operated op) && is_taken (base_taken op) a)
    where
      at : (t : Bool) → cond t (Ask n op a (λ answer. configured (map erased_cell st) (map erased_frame k) made (LiteralTerm answer))) Stuck
          ≡ erased_outcome (cond t (Ask n op a (λ answer. configured st k made (LiteralTerm answer))) Stuck)
      at true = refl
      at false = refl

  boundary-erased : (body : Term) → boundary_step (map erased_cell st) (map erased_frame k) made (erased body) ≡ erased_outcome (boundary_step st k made body)
  boundary-erased body = λ i.
      Next (Some (Entered made)) (configured (LabelCell made ∷ map erased_cell st) (ScopeFrame made ∷ map erased_frame k) (suc made)
      ((ap (λ n. opened_term n (erased body)) (length_map erased_cell st) ∙ erased-act (putting (Free (length st))) zero body) i))

-- the stack below a scope, erased
below-erased : (n : ℕ) (k : Stack) → below_scope n (map erased_frame k) ≡ option_map (map erased_frame) (below_scope n k)
below-erased n [] = refl
below-erased n (LetFrame body ∷ k) = below-erased n k
below-erased n (RepetitionFrame f b w ∷ k) = below-erased n k
below-erased n (ScopeFrame j ∷ k) = at (nat_eq j n) (below-erased n k)
  where
    at : (t : Bool) → below_scope n (map erased_frame k) ≡ option_map (map erased_frame) (below_scope n k)
        → cond t (Some (map erased_frame k)) (below_scope n (map erased_frame k)) ≡ option_map (map erased_frame) (cond t (Some k) (below_scope n k))
    at true e = refl
    at false e = e

exit_to-erased : (st : Store) (made : ℕ) (v : Var) (n : ℕ) (o : Option Stack) → exit_to (map erased_cell st) made v n (option_map (map erased_frame) o) ≡ erased_outcome (exit_to st made v n o)
exit_to-erased st made v n None = refl
exit_to-erased st made v n (Some k) = refl

exit-erased : (st : Store) (k : Stack) (made : ℕ) (v : Var) (o : Option Cell) → exit_step (map erased_cell st) (map erased_frame k) made v (option_map erased_cell o) ≡ erased_outcome (exit_step st k made v o)
exit-erased st k made v None = refl
exit-erased st k made v (Some (ValueCell w)) = refl
exit-erased st k made v (Some (DeviceCell n b)) = refl
exit-erased st k made v (Some (LabelCell n)) = ap (exit_to (map erased_cell st) made v n) (below-erased n k) ∙ exit_to-erased st made v n (below_scope n k)

-- what stands in erased cells
cell_at-erased : (st : Store) (v : Var) → cell_at (map erased_cell st) v ≡ option_map erased_cell (cell_at st v)
cell_at-erased st (Bound i) = refl
cell_at-erased st (Free p) = lookup-map erased_cell st p

literal-erased : (o : Option Cell) → literal_in (option_map erased_cell o) ≡ literal_in o
literal-erased None = refl
literal-erased (Some (DeviceCell n b)) = refl
literal-erased (Some (LabelCell n)) = refl
literal-erased (Some (ValueCell v)) = at v
  where
    at : (v : Term) → literal_in (Some (ValueCell (erased v))) ≡ literal_in (Some (ValueCell v))
    at (LiteralTerm l) = refl
    at (BoxTerm v) = refl
    at (FunctionTerm s c t) = refl
    at (VariableTerm v) = refl
    at (TypeFunctionTerm s t) = refl
    at (Application v w) = refl
    at (TypeApplication v s) = refl
    at (Unboxing o v) = refl
    at (Let n s t) = refl
    at (Primitive p v w) = refl
    at (Conditional n v s t) = refl
    at (Repetition v w) = refl
    at (Operation p v o) = refl
    at (Boundary s t) = refl
    at (Leave s c v w) = refl

literal_at-erased : (st : Store) (v : Var) → literal_in (cell_at (map erased_cell st) v) ≡ literal_in (cell_at st v)
literal_at-erased st v = ap literal_in (cell_at-erased st v) ∙ literal-erased (cell_at st v)

argument-erased : (st : Store) (o : Option Var) → argument_at (map erased_cell st) o ≡ argument_at st o
argument-erased st None = refl
argument-erased st (Some v) = ap (option_map (λ l. Some l)) (literal_at-erased st v)

variable-erased : (st : Store) (k : Stack) (made : ℕ) (v : Var) → variable_step (map erased_cell st) (map erased_frame k) made v ≡ erased_outcome (variable_step st k made v)
variable-erased st [] made v = refl
variable-erased st (LetFrame body ∷ k) made v = going-erased st k made (put_in v (erased body)) (put_in v body) (erased-act (putting v) zero body)
variable-erased st (ScopeFrame j ∷ k) made v = refl
variable-erased st (RepetitionFrame f b w ∷ k) made v = repeat-erased st k made f b w

value-erased : (st : Store) (k : Stack) (made : ℕ) (v : Term) → value_step (map erased_cell st) (map erased_frame k) made (erased v) ≡ erased_outcome (value_step st k made v)
value-erased st [] made v = refl
value-erased st (LetFrame body ∷ k) made v = bound-erased st k made v body
value-erased st (ScopeFrame j ∷ k) made v = refl
value-erased st (RepetitionFrame f b w ∷ k) made v = repeat-erased st k made f b w

pub term-erased : (st : Store) (k : Stack) (made : ℕ) (t : Term) → term_step (map erased_cell st) (map erased_frame k) made (erased t) ≡ erased_outcome (term_step st k made t)
term-erased st k made (VariableTerm v) = variable-erased st k made v
term-erased st k made (LiteralTerm l) = value-erased st k made (LiteralTerm l)
term-erased st k made (FunctionTerm s c t) = value-erased st k made (FunctionTerm s c t)
term-erased st k made (TypeFunctionTerm s t) = value-erased st k made (TypeFunctionTerm s t)
term-erased st k made (BoxTerm v) = value-erased st k made (BoxTerm v)
term-erased st k made (Application f a) = ap (apply_step (map erased_cell st) (map erased_frame k) made a) (cell_at-erased st f) ∙ apply-erased st k made a (cell_at st f)
term-erased st k made (TypeApplication f r) = ap (type_apply_step (map erased_cell st) (map erased_frame k) made AnyShape) (cell_at-erased st f) ∙ type_apply-erased st k made r (cell_at st f)
term-erased st k made (Unboxing o v) = ap (unbox_step (map erased_cell st) (map erased_frame k) made) (cell_at-erased st v) ∙ unbox-erased st k made (cell_at st v)
term-erased st k made (Let n s t) = let-erased st k made s t
term-erased st k made (Primitive p v w) =
    (λ i. primitive_step (map erased_cell st) (map erased_frame k) made p (literal_at-erased st v i) (literal_at-erased st w i)) ∙ primitive-erased st k made p (literal_in (cell_at st v)) (literal_in (cell_at st w))
term-erased st k made (Conditional n v t u) =
    ap (conditional_step (map erased_cell st) (map erased_frame k) made (erased t) (erased u)) (literal_at-erased st v) ∙ conditional-erased st k made t u (literal_in (cell_at st v))
term-erased st k made (Repetition v f) = ap (repetition_step (map erased_cell st) (map erased_frame k) made f) (literal_at-erased st v) ∙ repetition-erased st k made f (literal_in (cell_at st v))
term-erased st k made (Operation op v o) =
    (λ i. operation_step (map erased_cell st) (map erased_frame k) made op (cell_at-erased st v i) (argument-erased st o i)) ∙ operation-erased st k made op (cell_at st v) (argument_at st o)
term-erased st k made (Boundary s body) = boundary-erased st k made body
term-erased st k made (Leave s c x v) = ap (exit_step (map erased_cell st) (map erased_frame k) made v) (cell_at-erased st x) ∙ exit-erased st k made v (cell_at st x)

-- outcomes that are one when erased are alike
same_next : (event event' : Option Event) (next next' : Configuration) → Next event next ≡ Next event' next' → (event ≡ event') × (next ≡ next')
same_next event event' next next' e = (cc, cc)

same_question : (n n' : ℕ) (op op' : Op) (a a' : Option Literal) (r r' : Literal → Configuration) → Ask n op a r ≡ Ask n' op' a' r' → (n ≡ n') × (op ≡ op') × (a ≡ a') × (r ≡ r')
same_question n n' op op' a a' r r' e = (cc, cc, cc, cc)

alike_outcomes : (x y : StepOutcome) → erased_outcome x ≡ erased_outcome y → AreAlike x y
alike_outcomes Stuck Stuck e = tt
alike_outcomes Stuck Final e = cc
alike_outcomes Stuck (Next v n) e = cc
alike_outcomes Stuck (Ask d o a r) e = cc
alike_outcomes Final Stuck e = cc
alike_outcomes Final Final e = tt
alike_outcomes Final (Next v n) e = cc
alike_outcomes Final (Ask d o a r) e = cc
alike_outcomes (Next v n) Stuck e = cc
alike_outcomes (Next v n) Final e = cc
alike_outcomes (Next v n) (Next v' n') e = same_next v v' (erased_configuration n) (erased_configuration n') e
alike_outcomes (Next v n) (Ask d o a r) e = cc
alike_outcomes (Ask d o a r) Stuck e = cc
alike_outcomes (Ask d o a r) Final e = cc
alike_outcomes (Ask d o a r) (Next v n) e = cc
alike_outcomes (Ask d o a r) (Ask d' o' a' r') e =
    let parts = same_question d d' o o' a a' (λ l. erased_configuration (r l)) (λ l. erased_configuration (r' l)) e in
    (parts.0, parts.1, parts.2, λ l. ap (λ f. f l) parts.3)

pub alike_step_alike : AlikeStepAlike
alike_step_alike left right same =
    alike_outcomes (step left) (step right)
    (sym (term-erased left.store left.stack left.labels_made left.term) ∙ ap step same ∙ term-erased right.store right.stack right.labels_made right.term)

-- what is shown
value_shown-erased : (v : Term) → shown_value (erased v) ≡ shown_value v
value_shown-erased (LiteralTerm l) = refl
value_shown-erased (BoxTerm v) = refl
value_shown-erased (FunctionTerm s c t) = refl
value_shown-erased (VariableTerm v) = refl
value_shown-erased (TypeFunctionTerm s t) = refl
value_shown-erased (Application v w) = refl
value_shown-erased (TypeApplication v s) = refl
value_shown-erased (Unboxing o v) = refl
value_shown-erased (Let n s t) = refl
value_shown-erased (Primitive p v w) = refl
value_shown-erased (Conditional n v s t) = refl
value_shown-erased (Repetition v w) = refl
value_shown-erased (Operation p v o) = refl
value_shown-erased (Boundary s t) = refl
value_shown-erased (Leave s c v w) = refl

cell_shown-erased : (o : Option Cell) → shown_cell (option_map erased_cell o) ≡ shown_cell o
cell_shown-erased (Some (ValueCell v)) = value_shown-erased v
cell_shown-erased (Some (DeviceCell n b)) = refl
cell_shown-erased (Some (LabelCell n)) = refl
cell_shown-erased None = refl

answer_shown-erased : (st : Store) (t : Term) → shown_answer (map erased_cell st) (erased t) ≡ shown_answer st t
answer_shown-erased st (VariableTerm v) = ap shown_cell (cell_at-erased st v) ∙ cell_shown-erased (cell_at st v)
answer_shown-erased st (LiteralTerm l) = refl
answer_shown-erased st (BoxTerm v) = refl
answer_shown-erased st (FunctionTerm s c t) = refl
answer_shown-erased st (TypeFunctionTerm s t) = refl
answer_shown-erased st (Application v w) = refl
answer_shown-erased st (TypeApplication v s) = refl
answer_shown-erased st (Unboxing o v) = refl
answer_shown-erased st (Let n s t) = refl
answer_shown-erased st (Primitive p v w) = refl
answer_shown-erased st (Conditional n v s t) = refl
answer_shown-erased st (Repetition v w) = refl
answer_shown-erased st (Operation p v o) = refl
answer_shown-erased st (Boundary s t) = refl
answer_shown-erased st (Leave s c v w) = refl

pub shown-erased : (c : Configuration) → shown (erased_configuration c) ≡ shown c
shown-erased c = answer_shown-erased c.store c.term

pub alike_show_the_same : AlikeShowTheSame
alike_show_the_same left right same = sym (shown-erased left) ∙ ap shown same ∙ shown-erased right

-- moves and runs of what is erased
abbrev pub erased_state : State → State
erased_state state = record { configuration = erased_configuration state.configuration; devices = state.devices }

abbrev pub erased_move : Move → Move
erased_move IsStuck = IsStuck
erased_move IsFinal = IsFinal
erased_move (Moves event next) = Moves event (erased_state next)

abbrev pub erased_run : Run → Run
erased_run run = record { events = run.events; ending = run.ending; steps = run.steps; last = erased_state run.last }

answered-erased : (n : ℕ) (op : Op) (a : Option Literal) (resume : Literal → Configuration) (o : Option Reply)
    → answered n op a (λ answer. erased_configuration (resume answer)) o ≡ erased_move (answered n op a resume o)
answered-erased n op a resume (Some reply) = refl
answered-erased n op a resume None = refl

closed-erased : (devices : Devices) (x : StepOutcome) → closed devices (erased_outcome x) ≡ erased_move (closed devices x)
closed-erased devices Stuck = refl
closed-erased devices Final = refl
closed-erased devices (Next event next) = refl
closed-erased devices (Ask n op a resume) = answered-erased n op a resume (operate devices n op a)

pub move-erased : (state : State) → move (erased_state state) ≡ erased_move (move state)
move-erased state =
    let c = state.configuration in
    ap (closed state.devices) (term-erased c.store c.stack c.labels_made c.term) ∙ closed-erased state.devices (step c)

ending-erased : (state : State) (m : Move) → ending_of (erased_state state) (erased_move m) ≡ ending_of state m
ending-erased state IsStuck = refl
ending-erased state IsFinal = ap end_with (shown-erased state.configuration)
ending-erased state (Moves event next) = refl

ended-erased : (state : State) (m : Move) → ended (ending_of (erased_state state) (erased_move m)) (erased_state state) ≡ erased_run (ended (ending_of state m) state)
ended-erased state m = ap (λ e. ended e (erased_state state)) (ending-erased state m)

run_on-erased : (fuel : ℕ) (state : State) (m : Move) → ((next : State) → run fuel (erased_state next) ≡ erased_run (run fuel next))
    → run_on (run fuel) (erased_state state) (erased_move m) ≡ erased_run (run_on (run fuel) state m)
run_on-erased fuel state IsStuck rest = refl
run_on-erased fuel state IsFinal rest = ended-erased state IsFinal
run_on-erased fuel state (Moves event next) rest = ap (after_move event) (rest next)

pub run-erased : (fuel : ℕ) (state : State) → run fuel (erased_state state) ≡ erased_run (run fuel state)
run-erased zero state =
    ap (λ m. ended (ending_of (erased_state state) m) (erased_state state)) (move-erased state) ∙ ended-erased state (move state)
run-erased (suc fuel) state =
    ap (run_on (run fuel) (erased_state state)) (move-erased state) ∙ run_on-erased fuel state (move state) (run-erased fuel)

pub alike_run_alike : AlikeRunAlike
alike_run_alike fuel left right same =
    let states : erased_state left ≡ erased_state right = λ i. record { configuration = same.0 i; devices = same.1 i } in
    let is : erased_run (run fuel left) ≡ erased_run (run fuel right) = sym (run-erased fuel left) ∙ ap (run fuel) states ∙ run-erased fuel right in
    record {
      events = ap (λ r. r.events) is;
      ending = ap (λ r. r.ending) is;
      steps = ap (λ r. r.steps) is;
      last = (ap (λ r. r.last.configuration) is, ap (λ r. r.last.devices) is);
    }
