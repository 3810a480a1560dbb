-- The lines of the step table, for terms in their environments.
use Rattle.std.proofs.Common.{◌≡◌, ℕ, ℤ, Bool, true, false, cond, ◌∷◌, Option, Some, None, refl, sym, ap, ◌∙◌, subst}
use Rattle.cc_base.specs.declared.literal.Operator.{Operator}
use Rattle.cc_base.specs.Literals.{Literal, TruthLiteral, NumberLiteral}
use Rattle.cc_capture.specs.declared.var.Var.{Var}
use Rattle.cc_capture.specs.declared.var.Var.TheVariants.{Free}
use Rattle.cc_core.specs.Shapes.{Shape, AnyShape}
use Rattle.cc_core.specs.Terms.{Term, VariableTerm, LiteralTerm, FunctionTerm, TypeFunctionTerm, BoxTerm, Application, TypeApplication, Unboxing, Let, Primitive, Conditional, Repetition, Operation, Boundary, Leave}
use Rattle.cc_core.specs.declared.terms.Form.{Form}
use Rattle.cc_core.specs.declared.terms.Form.TheVariants as forms
use Rattle.cc_core.specs.Captured.{is_value}
use Rattle.cc_core.specs.Stores.{ValueCell, LabelCell, Store}
use Rattle.cc_core.specs.TermViews.{form_of}
use Rattle.cc_capture.specs.Sets.{Set}
use Rattle.cc_device.specs.Events.{Ended, Exited}
use Rattle.cc_runs.specs.Answers.{is_answer}
use Rattle.cc_runs.specs.Machine.{LetFrame, ScopeFrame, RepetitionFrame, Stack, Configuration, configured, Stuck, Next, going, bound_to_new, let_step, apply_step, type_apply_step, result_of, primitive_step, conditional_step, repeat_step, below_scope, exit_to, exit_step, term_step}
use Rattle.cc_machine.specs.Environments.{Environment, extended}
use Rattle.cc_machine.specs.Lines.{GoesAs, number_in, truth_in}
use Rattle.cc_machine.specs.Putting.{put_all}
use Rattle.cc_machine.proofs.PutBodies.{put_in-body, type_body}

-- what a term is stays in its environment
pub is_answer-put : (e : Environment) (t : Term) → is_answer (put_all e t) ≡ is_answer t
is_answer-put e (VariableTerm v) = refl
is_answer-put e (LiteralTerm l) = refl
is_answer-put e (FunctionTerm s c t) = refl
is_answer-put e (TypeFunctionTerm s t) = refl
is_answer-put e (BoxTerm v) = refl
is_answer-put e (Application v w) = refl
is_answer-put e (TypeApplication v s) = refl
is_answer-put e (Unboxing o v) = refl
is_answer-put e (Let n s t) = refl
is_answer-put e (Primitive p v w) = refl
is_answer-put e (Conditional n v s t) = refl
is_answer-put e (Repetition v w) = refl
is_answer-put e (Operation p v o) = refl
is_answer-put e (Boundary s t) = refl
is_answer-put e (Leave s c v w) = refl

module _ (st : Store) (k : Stack) (made : ℕ) where
  -- the body of a function, and of a type function
  pub function_applied : (q : ℕ) (e : Environment) (t : Term) {s : Shape} {c : Set} {b : Term} (body : Term) → t ≡ FunctionTerm s c b → body ≡ b
      → GoesAs (apply_step st k made (Free q) (Some (ValueCell (put_all e t)))) None (configured st k made (put_all (extended (Some q) e) body))
  function_applied q e t {s} {c} {b} body is same =
      subst (λ u. GoesAs (apply_step st k made (Free q) (Some (ValueCell (put_all e u)))) None (configured st k made (put_all (extended (Some q) e) body)))
      (sym is) (refl, ap (configured st k made) (put_in-body q e b ∙ ap (put_all (extended (Some q) e)) (sym same)))

  pub type_function_applied : (e : Environment) (t : Term) {s : Shape} {b : Term} (body : Term) → t ≡ TypeFunctionTerm s b → body ≡ b
      → GoesAs (type_apply_step st k made AnyShape (Some (ValueCell (put_all e t)))) None (configured st k made (put_all (extended None e) body))
  type_function_applied e t {s} {b} body is same =
      subst (λ u. GoesAs (type_apply_step st k made AnyShape (Some (ValueCell (put_all e u)))) None (configured st k made (put_all (extended None e) body)))
      (sym is) (refl, ap (configured st k made) (type_body AnyShape e b ∙ ap (put_all (extended None e)) (sym same)))

  -- a let of an answer, and of any other term
  pub let-answer : (t body : Term) → is_answer t ≡ true → let_step st k made t body ≡ term_step st (LetFrame body ∷ k) made t
  let-answer (VariableTerm v) body is = refl
  let-answer (LiteralTerm l) body is = refl
  let-answer (FunctionTerm s c t) body is = refl
  let-answer (TypeFunctionTerm s t) body is = refl
  let-answer (BoxTerm v) body is = refl
  let-answer (Application v w) body is = cc
  let-answer (TypeApplication v s) body is = cc
  let-answer (Unboxing o v) body is = cc
  let-answer (Let n s t) body is = cc
  let-answer (Primitive p v w) body is = cc
  let-answer (Conditional n v s t) body is = cc
  let-answer (Repetition v w) body is = cc
  let-answer (Operation p v o) body is = cc
  let-answer (Boundary s t) body is = cc
  let-answer (Leave s c v w) body is = cc

  pub let-other : (t body : Term) → is_answer t ≡ false → let_step st k made t body ≡ going st (LetFrame body ∷ k) made t
  let-other (VariableTerm v) body is = cc
  let-other (LiteralTerm l) body is = cc
  let-other (FunctionTerm s c t) body is = cc
  let-other (TypeFunctionTerm s t) body is = cc
  let-other (BoxTerm v) body is = cc
  let-other (Application v w) body is = refl
  let-other (TypeApplication v s) body is = refl
  let-other (Unboxing o v) body is = refl
  let-other (Let n s t) body is = refl
  let-other (Primitive p v w) body is = refl
  let-other (Conditional n v s t) body is = refl
  let-other (Repetition v w) body is = refl
  let-other (Operation p v o) body is = refl
  let-other (Boundary s t) body is = refl
  let-other (Leave s c v w) body is = refl

  pub answer_ends : (label : ℕ) (t : Term) → is_answer t ≡ true → term_step st (ScopeFrame label ∷ k) made t ≡ Next (Some (Ended label)) (configured st k made t)
  answer_ends label (VariableTerm v) is = refl
  answer_ends label (LiteralTerm l) is = refl
  answer_ends label (FunctionTerm s c t) is = refl
  answer_ends label (TypeFunctionTerm s t) is = refl
  answer_ends label (BoxTerm v) is = refl
  answer_ends label (Application v w) is = cc
  answer_ends label (TypeApplication v s) is = cc
  answer_ends label (Unboxing o v) is = cc
  answer_ends label (Let n s t) is = cc
  answer_ends label (Primitive p v w) is = cc
  answer_ends label (Conditional n v s t) is = cc
  answer_ends label (Repetition v w) is = cc
  answer_ends label (Operation p v o) is = cc
  answer_ends label (Boundary s t) is = cc
  answer_ends label (Leave s c v w) is = cc

  pub answer_repeats : (g : Var) (begun many : ℕ) (t : Term) → is_answer t ≡ true → term_step st (RepetitionFrame g begun many ∷ k) made t ≡ repeat_step st k made g begun many
  answer_repeats g begun many (VariableTerm v) is = refl
  answer_repeats g begun many (LiteralTerm l) is = refl
  answer_repeats g begun many (FunctionTerm s c t) is = refl
  answer_repeats g begun many (TypeFunctionTerm s t) is = refl
  answer_repeats g begun many (BoxTerm v) is = refl
  answer_repeats g begun many (Application v w) is = cc
  answer_repeats g begun many (TypeApplication v s) is = cc
  answer_repeats g begun many (Unboxing o v) is = cc
  answer_repeats g begun many (Let n s t) is = cc
  answer_repeats g begun many (Primitive p v w) is = cc
  answer_repeats g begun many (Conditional n v s t) is = cc
  answer_repeats g begun many (Repetition v w) is = cc
  answer_repeats g begun many (Operation p v o) is = cc
  answer_repeats g begun many (Boundary s t) is = cc
  answer_repeats g begun many (Leave s c v w) is = cc

  pub value_named : (t body : Term) → is_value t ≡ true → term_step st (LetFrame body ∷ k) made t ≡ bound_to_new st k made t body
  value_named (VariableTerm v) body is = cc
  value_named (LiteralTerm l) body is = refl
  value_named (FunctionTerm s c t) body is = refl
  value_named (TypeFunctionTerm s t) body is = refl
  value_named (BoxTerm v) body is = refl
  value_named (Application v w) body is = cc
  value_named (TypeApplication v s) body is = cc
  value_named (Unboxing o v) body is = cc
  value_named (Let n s t) body is = cc
  value_named (Primitive p v w) body is = cc
  value_named (Conditional n v s t) body is = cc
  value_named (Repetition v w) body is = cc
  value_named (Operation p v o) body is = cc
  value_named (Boundary s t) body is = cc
  value_named (Leave s c v w) body is = cc

  -- an operator on two numbers, and a choice
  pub computed : (op : Operator) (x y : Option Literal) (after : Configuration)
      → ((a b : ℤ) → number_in x ≡ Some a → number_in y ≡ Some b → configured st k made (LiteralTerm (result_of op a b)) ≡ after)
      → GoesAs (primitive_step st k made op x y) None after
  computed op (Some (NumberLiteral a)) (Some (NumberLiteral b)) after h = (refl, h a b refl refl)
  computed op x y after h = tt

  pub chosen : (p n : Term) (x : Option Literal) (after : Configuration)
      → ((t : Bool) → truth_in x ≡ Some t → configured st k made (cond t p n) ≡ after)
      → GoesAs (conditional_step st k made p n x) None after
  chosen p n (Some (TruthLiteral t)) after h = (refl, h t refl)
  chosen p n x after h = tt

  -- an exit whose scope stands, or does not
  pub left : (v : Var) (n : ℕ) (rest : Stack) → below_scope n k ≡ Some rest
      → exit_step st k made v (Some (LabelCell n)) ≡ Next (Some (Exited n)) (configured st rest made (VariableTerm v))
  left v n rest is = ap (exit_to st made v n) is

  pub not_left : (v : Var) (n : ℕ) → below_scope n k ≡ None → exit_step st k made v (Some (LabelCell n)) ≡ Stuck
  not_left v n is = ap (exit_to st made v n) is

-- an answer that is no variable is a value
pub value_of_answer : (e : Environment) (form : Form) → is_answer (form_of form) ≡ true → ((v : Var) → form ≡ forms.Var v → ⊥)
    → is_value (put_all e (form_of form)) ≡ true
value_of_answer e (forms.Var variable) is other = absurd (other variable refl)
value_of_answer e (forms.Lit literal) is other = refl
value_of_answer e (forms.Fun' takes p body at first second) is other = refl
value_of_answer e (forms.TFun' bound p body at first second) is other = refl
value_of_answer e (forms.Boxed content) is other = refl
value_of_answer e (forms.App function argument) is other = cc
value_of_answer e (forms.TApp function argument) is other = cc
value_of_answer e (forms.Unbox set held) is other = cc
value_of_answer e (forms.Let' note p right at first second q body at' first' second') is other = cc
value_of_answer e (forms.Prim operator l r) is other = cc
value_of_answer e (forms.If' note test p positive at first second q negative at' first' second') is other = cc
value_of_answer e (forms.Repeat count function) is other = cc
value_of_answer e (forms.Operate operation receiver argument) is other = cc
value_of_answer e (forms.Boundary' gives p body at first second) is other = cc
value_of_answer e (forms.Leave gives exit value) is other = cc
