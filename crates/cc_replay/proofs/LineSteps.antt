-- Steps keep literals that can stand in lines.
use Rattle.std.proofs.Common.{◌≡◌, ℕ, zero, suc, ◌+◌, ◌<◌, ◌≤◌, Bool, true, false, cond, List, [], ◌∷◌, ◌++◌, length, Option, Some, None, option_map, refl, sym, ap, ◌∙◌, subst, arith}
use Rattle.std.specs.Prelude.{ℤ, pos, negsuc, ◌+ℤ◌, ◌-ℤ◌, ◌*ℤ◌, nat_eq, nat_lt, ◌&&◌, IsTrue, slice_get, slice_set, FitsSigned}
use Rattle.std.specs.List.{AllByRecursion}
use Rattle.std.specs.Int.{w64, int_wrap}
use Rattle.std.proofs.lemmas.Bool.Decides.{nat_tests, Decides-eqb}
use Rattle.std.proofs.lemmas.Int.{SFits-int_wrap}
use Rattle.cc_base.specs.Literals.{Literal, UnitLiteral, TruthLiteral, NumberLiteral, TextLiteral}
use Rattle.cc_base.specs.declared.literal.Op.{Op}
use Rattle.cc_base.specs.declared.literal.Op.TheVariants as operations
use Rattle.cc_base.specs.declared.literal.Operator.{Operator}
use Rattle.cc_base.specs.declared.literal.Operator.TheVariants as operators
use Rattle.cc_capture.specs.declared.var.Var.{Var}
use Rattle.cc_capture.specs.declared.var.Var.TheVariants.{Bound, Free}
use Rattle.cc_core.specs.Contexts.{lookup}
use Rattle.cc_core.specs.Shapes.{Shape}
use Rattle.cc_core.specs.Stores.{Cell, ValueCell, DeviceCell, LabelCell, Store, cell_at}
use Rattle.cc_core.specs.Substitution.{putting, putting_shape, opened_term}
use Rattle.cc_core.specs.Terms.{Term, VariableTerm, LiteralTerm, FunctionTerm, TypeFunctionTerm, BoxTerm, Application, TypeApplication, Unboxing, Let, Primitive, Conditional, Repetition, Operation, Boundary, Leave}
use Rattle.cc_core.specs.Traversal.{Action, act_term}
use Rattle.cc_core.specs.Typing.{base_operated, base_taken}
use Rattle.cc_device.specs.Devices.{DeviceState, Console, File, Counter, Devices, Answer, answer_of, read_at, Reply, replying, reply_of, operate}
use Rattle.cc_device.specs.Endings.{Shown, ShownLiteral, ShownFunction, ShownTypeFunction, ShownBox, ShownDevice, ShownLabel}
use Rattle.cc_device.specs.Events.{Event, Operated, Entered, Ended, Exited, literal_shown}
use Rattle.cc_runs.specs.Answers.{shown_value, shown_cell, shown_answer, shown}
use Rattle.cc_runs.specs.Machine.{Frame, LetFrame, ScopeFrame, RepetitionFrame, Stack, Configuration, configured, StepOutcome, Stuck, Final, Next, Ask, going, put_in, bound_to_new, call_with_number, let_step, apply_step, type_apply_step, unbox_step, literal_in, result_of, primitive_step, conditional_step, repetition_step, repeat_step, same_base, is_taken, argument_at, operation_step, below_scope, exit_to, exit_step, boundary_step, variable_step, value_step, term_step, step}
use Rattle.cc_runs.specs.Runs as runs
use Rattle.cc_runs.specs.Runs.{State, Move, IsStuck, IsFinal, Moves, answered, closed, move, with_event, LeadsIn}
use Rattle.cc_replay.specs.LineLiterals.{StandsInLine, HasLineLiterals, IsLineCell, IsLineFrame, IsLineDevice, IsLineConfiguration, IsLineState}
use Rattle.cc_words.specs.Words.{has_64_bits}

-- actions change no literal
pub acted_literals : (a : Action) (d : ℕ) (t : Term) → HasLineLiterals t → HasLineLiterals (act_term a d t)
acted_literals a d (VariableTerm v) h = tt
acted_literals a d (LiteralTerm l) h = h
acted_literals a d (FunctionTerm s c t) h = acted_literals a (suc d) t h
acted_literals a d (TypeFunctionTerm s t) h = acted_literals a (suc d) t h
acted_literals a d (BoxTerm v) h = tt
acted_literals a d (Application v w) h = tt
acted_literals a d (TypeApplication v s) h = tt
acted_literals a d (Unboxing o v) h = tt
acted_literals a d (Let n s t) h = (acted_literals a d s h.0, acted_literals a (suc d) t h.1)
acted_literals a d (Primitive p v w) h = tt
acted_literals a d (Conditional n v s t) h = (acted_literals a d s h.0, acted_literals a d t h.1)
acted_literals a d (Repetition v w) h = tt
acted_literals a d (Operation p v o) h = tt
acted_literals a d (Boundary s t) h = acted_literals a (suc d) t h
acted_literals a d (Leave s c v w) h = tt

-- numbers
fits_from : (z : ℤ) → FitsSigned w64 z → has_64_bits z ≡ true
fits_from (pos n) h = grind (arith, nat_tests)
fits_from (negsuc n) h = grind (arith, nat_tests)

wrapped_fits : (z : ℤ) → has_64_bits (int_wrap w64 z) ≡ true
wrapped_fits z = fits_from (int_wrap w64 z) (SFits-int_wrap w64 z)

fits_below : (n wanted : ℕ) → n ≤ wanted → has_64_bits (pos wanted) ≡ true → has_64_bits (pos n) ≡ true
fits_below n wanted less h = grind (arith, nat_tests)

-- cells and their literals
abbrev IsLineOption : Option Cell → Type 0
IsLineOption None = Unit {0}
IsLineOption (Some cell) = IsLineCell cell

abbrev IsLineLiteral : Option Literal → Type 0
IsLineLiteral None = Unit {0}
IsLineLiteral (Some literal) = StandsInLine literal

abbrev IsLineArgument : Option (Option Literal) → Type 0
IsLineArgument None = Unit {0}
IsLineArgument (Some argument) = IsLineLiteral argument

chosen : (t : Bool) (x : Cell) (o : Option Cell) → IsLineCell x → IsLineOption o → IsLineOption (cond t (Some x) o)
chosen true x o h k = h
chosen false x o h k = k

looked_up : (st : Store) (p : ℕ) → AllByRecursion IsLineCell st → IsLineOption (lookup st p)
looked_up [] p h = tt
looked_up (x ∷ st) p h = chosen (nat_eq p (length st)) x (lookup st p) h.0 (looked_up st p h.1)

at_variable : (st : Store) (v : Var) → AllByRecursion IsLineCell st → IsLineOption (cell_at st v)
at_variable st (Bound i) h = tt
at_variable st (Free p) h = looked_up st p h

literal_there : (o : Option Cell) → IsLineOption o → IsLineLiteral (literal_in o)
literal_there (Some (ValueCell (LiteralTerm l))) h = h
literal_there (Some (ValueCell v)) h = tt
literal_there (Some (DeviceCell n b)) h = tt
literal_there (Some (LabelCell n)) h = tt
literal_there None h = tt

some_argument : (o : Option Literal) → IsLineLiteral o → IsLineArgument (option_map (λ l. Some l) o)
some_argument None h = tt
some_argument (Some l) h = h

argument_there : (st : Store) (o : Option Var) → AllByRecursion IsLineCell st → IsLineArgument (argument_at st o)
argument_there st None h = tt
argument_there st (Some v) h = some_argument (literal_in (cell_at st v)) (literal_there (cell_at st v) (at_variable st v h))

-- events
abbrev pub IsLineEvent : Option Event → Type 0
IsLineEvent None = Unit {0}
IsLineEvent (Some (Operated device operation literal)) = StandsInLine literal
IsLineEvent (Some (Entered label)) = Unit {0}
IsLineEvent (Some (Ended label)) = Unit {0}
IsLineEvent (Some (Exited label)) = Unit {0}

-- what an outcome keeps
abbrev KeepsLiterals : StepOutcome → Type 0
KeepsLiterals Stuck = Unit {0}
KeepsLiterals Final = Unit {0}
KeepsLiterals (Next event next) = IsLineEvent event × IsLineConfiguration next
KeepsLiterals (Ask device operation argument resume) =
    IsLineLiteral argument × ((answer : Literal) → StandsInLine answer → IsLineConfiguration (resume answer))

either_keeps : (t : Bool) (x y : StepOutcome) → KeepsLiterals x → KeepsLiterals y → KeepsLiterals (cond t x y)
either_keeps true x y h k = h
either_keeps false x y h k = k

scope_below : (n : ℕ) (k : Stack) → AllByRecursion IsLineFrame k → (found : Stack) → below_scope n k ≡ Some found → AllByRecursion IsLineFrame found
scope_below n [] h found e = cc
scope_below n (ScopeFrame m ∷ k) h found e = by_label (nat_eq m n) e (λ is. scope_below n k h.1 found is)
  where
    by_label : (t : Bool) → cond t (Some k) (below_scope n k) ≡ Some found → (below_scope n k ≡ Some found → AllByRecursion IsLineFrame found) → AllByRecursion IsLineFrame found
    by_label true is deeper = let same : k ≡ found = cc in subst (AllByRecursion IsLineFrame) same h.1
    by_label false is deeper = deeper is
scope_below n (LetFrame body ∷ k) h found e = scope_below n k h.1 found e
scope_below n (RepetitionFrame f b w ∷ k) h found e = scope_below n k h.1 found e

-- line by line
module _ (st : Store) (k : Stack) (made : ℕ) (cells : AllByRecursion IsLineCell st) (frames : AllByRecursion IsLineFrame k) where
  goes : (t : Term) → HasLineLiterals t → KeepsLiterals (going st k made t)
  goes t h = (tt, record { store = cells; stack = frames; term = h })

  bound_keeps : (v body : Term) → HasLineLiterals v → HasLineLiterals body → KeepsLiterals (bound_to_new st k made v body)
  bound_keeps v body h g = (tt, record { store = (h, cells); stack = frames; term = acted_literals (putting (Free (length st))) zero body g })

  let_keeps : (r body : Term) → HasLineLiterals r → HasLineLiterals body → KeepsLiterals (let_step st k made r body)
  let_keeps (VariableTerm v) body h g = goes (put_in v body) (acted_literals (putting v) zero body g)
  let_keeps (LiteralTerm l) body h g = bound_keeps (LiteralTerm l) body h g
  let_keeps (FunctionTerm s c t) body h g = bound_keeps (FunctionTerm s c t) body h g
  let_keeps (TypeFunctionTerm s t) body h g = bound_keeps (TypeFunctionTerm s t) body h g
  let_keeps (BoxTerm v) body h g = bound_keeps (BoxTerm v) body h g
  let_keeps (Application v w) body h g = (tt, record { store = cells; stack = (g, frames); term = h })
  let_keeps (TypeApplication v s) body h g = (tt, record { store = cells; stack = (g, frames); term = h })
  let_keeps (Unboxing o v) body h g = (tt, record { store = cells; stack = (g, frames); term = h })
  let_keeps (Let n s t) body h g = (tt, record { store = cells; stack = (g, frames); term = h })
  let_keeps (Primitive p v w) body h g = (tt, record { store = cells; stack = (g, frames); term = h })
  let_keeps (Conditional n v s t) body h g = (tt, record { store = cells; stack = (g, frames); term = h })
  let_keeps (Repetition v w) body h g = (tt, record { store = cells; stack = (g, frames); term = h })
  let_keeps (Operation p v o) body h g = (tt, record { store = cells; stack = (g, frames); term = h })
  let_keeps (Boundary s t) body h g = (tt, record { store = cells; stack = (g, frames); term = h })
  let_keeps (Leave s c v w) body h g = (tt, record { store = cells; stack = (g, frames); term = h })

  apply_keeps : (a : Var) (o : Option Cell) → IsLineOption o → KeepsLiterals (apply_step st k made a o)
  apply_keeps a (Some (ValueCell (FunctionTerm s c t))) h = goes (put_in a t) (acted_literals (putting a) zero t h)
  apply_keeps a (Some (ValueCell v)) h = tt
  apply_keeps a (Some (DeviceCell n b)) h = tt
  apply_keeps a (Some (LabelCell n)) h = tt
  apply_keeps a None h = tt

  type_apply_keeps : (r : Shape) (o : Option Cell) → IsLineOption o → KeepsLiterals (type_apply_step st k made r o)
  type_apply_keeps r (Some (ValueCell (TypeFunctionTerm s t))) h = goes (act_term (putting_shape r) zero t) (acted_literals (putting_shape r) zero t h)
  type_apply_keeps r (Some (ValueCell v)) h = tt
  type_apply_keeps r (Some (DeviceCell n b)) h = tt
  type_apply_keeps r (Some (LabelCell n)) h = tt
  type_apply_keeps r None h = tt

  unbox_keeps : (o : Option Cell) → KeepsLiterals (unbox_step st k made o)
  unbox_keeps (Some (ValueCell (BoxTerm v))) = goes (VariableTerm v) tt
  unbox_keeps (Some (ValueCell v)) = tt
  unbox_keeps (Some (DeviceCell n b)) = tt
  unbox_keeps (Some (LabelCell n)) = tt
  unbox_keeps None = tt

  result_keeps : (p : Operator) (x y : ℤ) → StandsInLine (result_of p x y)
  result_keeps operators.Add x y = wrapped_fits (x +ℤ y)
  result_keeps operators.Sub x y = wrapped_fits (x -ℤ y)
  result_keeps operators.Mul x y = wrapped_fits (x *ℤ y)
  result_keeps operators.Less x y = tt
  result_keeps operators.Equal x y = tt

  primitive_keeps : (p : Operator) (x y : Option Literal) → KeepsLiterals (primitive_step st k made p x y)
  primitive_keeps p (Some (NumberLiteral x)) (Some (NumberLiteral y)) = goes (LiteralTerm (result_of p x y)) (result_keeps p x y)
  primitive_keeps p x y = tt

  chosen_term : (b : Bool) (t u : Term) → HasLineLiterals t → HasLineLiterals u → HasLineLiterals (cond b t u)
  chosen_term true t u h g = h
  chosen_term false t u h g = g

  conditional_keeps : (t u : Term) (x : Option Literal) → HasLineLiterals t → HasLineLiterals u → KeepsLiterals (conditional_step st k made t u x)
  conditional_keeps t u (Some (TruthLiteral b)) h g = goes (cond b t u) (chosen_term b t u h g)
  conditional_keeps t u x h g = tt

  call_keeps : (f : Var) (b w n : ℕ) → b ≤ w → n ≤ w → has_64_bits (pos w) ≡ true → KeepsLiterals (call_with_number st k made f b w n)
  call_keeps f b w n less low fits = (tt, record { store = (fits_below n w low fits, cells); stack = ((less, fits), frames); term = tt })

  repetition_keeps : (f : Var) (x : Option Literal) → IsLineLiteral x → KeepsLiterals (repetition_step st k made f x)
  repetition_keeps f (Some (NumberLiteral (pos zero))) h = goes (LiteralTerm UnitLiteral) tt
  repetition_keeps f (Some (NumberLiteral (pos (suc n)))) h = call_keeps f 1 (suc n) 0 (omega arith) (omega arith) h
  repetition_keeps f (Some (NumberLiteral (negsuc n))) h = goes (LiteralTerm UnitLiteral) tt
  repetition_keeps f x h = tt

  repeat_keeps : (f : Var) (b w : ℕ) → b ≤ w → has_64_bits (pos w) ≡ true → KeepsLiterals (repeat_step st k made f b w)
  repeat_keeps f b w less fits = by_count (nat_eq b w) refl
    where
      by_count : (t : Bool) → nat_eq b w ≡ t → KeepsLiterals (cond t (going st k made (LiteralTerm UnitLiteral)) (call_with_number st k made f (suc b) w b))
      by_count true e = goes (LiteralTerm UnitLiteral) tt
      by_count false e = let below : suc b ≤ w = grind (arith, nat_tests) in call_keeps f (suc b) w b below less fits

  asked_keeps : (n : ℕ) (op : Op) (a : Option Literal) → IsLineLiteral a → KeepsLiterals (Ask n op a (λ answer. configured st k made (LiteralTerm answer)))
  asked_keeps n op a h = (h, λ answer g. record { store = cells; stack = frames; term = g })

  operation_keeps : (op : Op) (o : Option Cell) (x : Option (Option Literal)) → IsLineArgument x → KeepsLiterals (operation_step st k made op o x)
  operation_keeps op (Some (DeviceCell n b)) (Some a) h =
      either_keeps (same_base b (base_operated op) && is_taken (base_taken op) a)
      (Ask n op a (λ answer. configured st k made (LiteralTerm answer))) Stuck (asked_keeps n op a h) tt
  operation_keeps op o x h = tt

  exit_to_keeps : (v : Var) (n : ℕ) (o : Option Stack) → ((found : Stack) → o ≡ Some found → AllByRecursion IsLineFrame found) → KeepsLiterals (exit_to st made v n o)
  exit_to_keeps v n (Some j) h = (tt, record { store = cells; stack = h j refl; term = tt })
  exit_to_keeps v n None h = tt

  exit_keeps : (v : Var) (o : Option Cell) → KeepsLiterals (exit_step st k made v o)
  exit_keeps v (Some (LabelCell n)) = exit_to_keeps v n (below_scope n k) (scope_below n k frames)
  exit_keeps v o = tt

variable_keeps : (st : Store) (k : Stack) (made : ℕ) (v : Var) → AllByRecursion IsLineCell st → AllByRecursion IsLineFrame k → KeepsLiterals (variable_step st k made v)
variable_keeps st [] made v h g = tt
variable_keeps st (LetFrame body ∷ k) made v h g = goes st k made h g.1 (put_in v body) (acted_literals (putting v) zero body g.0)
variable_keeps st (ScopeFrame n ∷ k) made v h g = (tt, record { store = h; stack = g.1; term = tt })
variable_keeps st (RepetitionFrame f b w ∷ k) made v h g = repeat_keeps st k made h g.1 f b w g.0.0 g.0.1

value_keeps : (st : Store) (k : Stack) (made : ℕ) (v : Term) → AllByRecursion IsLineCell st → AllByRecursion IsLineFrame k → HasLineLiterals v → KeepsLiterals (value_step st k made v)
value_keeps st [] made v h g l = tt
value_keeps st (LetFrame body ∷ k) made v h g l = bound_keeps st k made h g.1 v body l g.0
value_keeps st (ScopeFrame n ∷ k) made v h g l = (tt, record { store = h; stack = g.1; term = l })
value_keeps st (RepetitionFrame f b w ∷ k) made v h g l = repeat_keeps st k made h g.1 f b w g.0.0 g.0.1

term_keeps : (st : Store) (k : Stack) (made : ℕ) (t : Term) → AllByRecursion IsLineCell st → AllByRecursion IsLineFrame k → HasLineLiterals t → KeepsLiterals (term_step st k made t)
term_keeps st k made (VariableTerm v) h g l = variable_keeps st k made v h g
term_keeps st k made (LiteralTerm x) h g l = value_keeps st k made (LiteralTerm x) h g l
term_keeps st k made (FunctionTerm s c t) h g l = value_keeps st k made (FunctionTerm s c t) h g l
term_keeps st k made (TypeFunctionTerm s t) h g l = value_keeps st k made (TypeFunctionTerm s t) h g l
term_keeps st k made (BoxTerm v) h g l = value_keeps st k made (BoxTerm v) h g l
term_keeps st k made (Application f a) h g l = apply_keeps st k made h g a (cell_at st f) (at_variable st f h)
term_keeps st k made (TypeApplication f r) h g l = type_apply_keeps st k made h g r (cell_at st f) (at_variable st f h)
term_keeps st k made (Unboxing o v) h g l = unbox_keeps st k made h g (cell_at st v)
term_keeps st k made (Let n r body) h g l = let_keeps st k made h g r body l.0 l.1
term_keeps st k made (Primitive p v w) h g l = primitive_keeps st k made h g p (literal_in (cell_at st v)) (literal_in (cell_at st w))
term_keeps st k made (Conditional n v t u) h g l = conditional_keeps st k made h g t u (literal_in (cell_at st v)) l.0 l.1
term_keeps st k made (Repetition v f) h g l = repetition_keeps st k made h g f (literal_in (cell_at st v)) (literal_there (cell_at st v) (at_variable st v h))
term_keeps st k made (Operation op v o) h g l = operation_keeps st k made h g op (cell_at st v) (argument_at st o) (argument_there st o h)
term_keeps st k made (Boundary s body) h g l = (tt, record { store = (tt, h); stack = (tt, g); term = acted_literals (putting (Free (length st))) zero body l })
term_keeps st k made (Leave s c x v) h g l = exit_keeps st k made h g v (cell_at st x)

step_keeps : (c : Configuration) → IsLineConfiguration c → KeepsLiterals (step c)
step_keeps c line = term_keeps c.store c.stack c.labels_made c.term line.store line.stack line.term

-- devices
abbrev IsLineAnswer : Option Answer → Type 0
IsLineAnswer None = Unit {0}
IsLineAnswer (Some answer) = StandsInLine answer.literal × IsLineDevice answer.device

number_at : (numbers : List ℤ) (place : ℕ) → AllByRecursion (λ z. IsTrue (has_64_bits z)) numbers → (z : ℤ) → slice_get numbers place ≡ Some z → IsTrue (has_64_bits z)
number_at [] place h z e = cc
number_at (x ∷ numbers) zero h z e = let same : x ≡ z = cc in subst (λ y. IsTrue (has_64_bits y)) same h.0
number_at (x ∷ numbers) (suc place) h z e = number_at numbers place h.1 z e

read_keeps : (numbers : List ℤ) (place : ℕ) (o : Option ℤ) → AllByRecursion (λ z. IsTrue (has_64_bits z)) numbers → ((z : ℤ) → o ≡ Some z → IsTrue (has_64_bits z)) → IsLineAnswer (read_at numbers place o)
read_keeps numbers place None h found = (refl, h)
read_keeps numbers place (Some z) h found = (found z refl, h)

one_more : (numbers : List ℤ) (z : ℤ) → AllByRecursion (λ y. IsTrue (has_64_bits y)) numbers → IsTrue (has_64_bits z) → AllByRecursion (λ y. IsTrue (has_64_bits y)) (numbers ++ z ∷ [])
one_more [] z h k = (k, tt)
one_more (x ∷ numbers) z h k = (h.0, one_more numbers z h.1 k)

answer_keeps : (device : DeviceState) (op : Op) (a : Option Literal) → IsLineDevice device → IsLineLiteral a → IsLineAnswer (answer_of device op a)
answer_keeps (Console lines) operations.Print (Some (NumberLiteral z)) h g = (tt, tt)
answer_keeps (Console lines) operations.Print (Some UnitLiteral) h g = tt
answer_keeps (Console lines) operations.Print (Some (TruthLiteral b)) h g = tt
answer_keeps (Console lines) operations.Print (Some (TextLiteral t)) h g = tt
answer_keeps (Console lines) operations.Print None h g = tt
answer_keeps (Console lines) operations.Say (Some (NumberLiteral z)) h g = tt
answer_keeps (Console lines) operations.Say (Some UnitLiteral) h g = tt
answer_keeps (Console lines) operations.Say (Some (TruthLiteral b)) h g = tt
answer_keeps (Console lines) operations.Say (Some (TextLiteral t)) h g = (tt, tt)
answer_keeps (Console lines) operations.Say None h g = tt
answer_keeps (Console lines) operations.Read a h g = tt
answer_keeps (Console lines) operations.Write a h g = tt
answer_keeps (Console lines) operations.Tick a h g = tt
answer_keeps (File numbers place) operations.Print None h g = tt
answer_keeps (File numbers place) operations.Print (Some (NumberLiteral z)) h g = tt
answer_keeps (File numbers place) operations.Print (Some UnitLiteral) h g = tt
answer_keeps (File numbers place) operations.Print (Some (TruthLiteral b)) h g = tt
answer_keeps (File numbers place) operations.Print (Some (TextLiteral t)) h g = tt
answer_keeps (File numbers place) operations.Say None h g = tt
answer_keeps (File numbers place) operations.Say (Some (NumberLiteral z)) h g = tt
answer_keeps (File numbers place) operations.Say (Some UnitLiteral) h g = tt
answer_keeps (File numbers place) operations.Say (Some (TruthLiteral b)) h g = tt
answer_keeps (File numbers place) operations.Say (Some (TextLiteral t)) h g = tt
answer_keeps (File numbers place) operations.Read None h g = read_keeps numbers place (slice_get numbers place) h (number_at numbers place h)
answer_keeps (File numbers place) operations.Read (Some l) h g = tt
answer_keeps (File numbers place) operations.Write (Some (NumberLiteral z)) h g = (tt, one_more numbers z h g)
answer_keeps (File numbers place) operations.Write (Some UnitLiteral) h g = tt
answer_keeps (File numbers place) operations.Write (Some (TruthLiteral b)) h g = tt
answer_keeps (File numbers place) operations.Write (Some (TextLiteral t)) h g = tt
answer_keeps (File numbers place) operations.Write None h g = tt
answer_keeps (File numbers place) operations.Tick a h g = tt
answer_keeps (Counter count) operations.Print None h g = tt
answer_keeps (Counter count) operations.Print (Some (NumberLiteral z)) h g = tt
answer_keeps (Counter count) operations.Print (Some UnitLiteral) h g = tt
answer_keeps (Counter count) operations.Print (Some (TruthLiteral b)) h g = tt
answer_keeps (Counter count) operations.Print (Some (TextLiteral t)) h g = tt
answer_keeps (Counter count) operations.Say None h g = tt
answer_keeps (Counter count) operations.Say (Some (NumberLiteral z)) h g = tt
answer_keeps (Counter count) operations.Say (Some UnitLiteral) h g = tt
answer_keeps (Counter count) operations.Say (Some (TruthLiteral b)) h g = tt
answer_keeps (Counter count) operations.Say (Some (TextLiteral t)) h g = tt
answer_keeps (Counter count) operations.Read a h g = tt
answer_keeps (Counter count) operations.Write a h g = tt
answer_keeps (Counter count) operations.Tick None h g = (wrapped_fits (count +ℤ pos 1), tt)
answer_keeps (Counter count) operations.Tick (Some l) h g = tt

abbrev IsLineReply : Option Reply → Type 0
IsLineReply None = Unit {0}
IsLineReply (Some reply) = StandsInLine reply.literal × AllByRecursion IsLineDevice reply.devices

set_keeps : (devices : Devices) (n : ℕ) (device : DeviceState) → AllByRecursion IsLineDevice devices → IsLineDevice device → AllByRecursion IsLineDevice (slice_set devices n device)
set_keeps [] n device h g = tt
set_keeps (x ∷ devices) zero device h g = (g, h.1)
set_keeps (x ∷ devices) (suc n) device h g = (h.0, set_keeps devices n device h.1 g)

device_at : (devices : Devices) (n : ℕ) → AllByRecursion IsLineDevice devices → (device : DeviceState) → slice_get devices n ≡ Some device → IsLineDevice device
device_at [] n h device e = cc
device_at (x ∷ devices) zero h device e = let same : x ≡ device = cc in subst IsLineDevice same h.0
device_at (x ∷ devices) (suc n) h device e = device_at devices n h.1 device e

replied : (devices : Devices) (n : ℕ) (o : Option Answer) → AllByRecursion IsLineDevice devices → IsLineAnswer o → IsLineReply (option_map (replying devices n) o)
replied devices n None h g = tt
replied devices n (Some answer) h g = (g.0, set_keeps devices n answer.device h g.1)

reply_keeps : (devices : Devices) (n : ℕ) (op : Op) (a : Option Literal) (o : Option DeviceState) → AllByRecursion IsLineDevice devices → IsLineLiteral a
    → ((device : DeviceState) → o ≡ Some device → IsLineDevice device) → IsLineReply (reply_of devices n op a o)
reply_keeps devices n op a None h g found = tt
reply_keeps devices n op a (Some device) h g found = replied devices n (answer_of device op a) h (answer_keeps device op a (found device refl) g)

operate_keeps : (devices : Devices) (n : ℕ) (op : Op) (a : Option Literal) → AllByRecursion IsLineDevice devices → IsLineLiteral a → IsLineReply (operate devices n op a)
operate_keeps devices n op a h g = reply_keeps devices n op a (slice_get devices n) h g (device_at devices n h)

-- moves
abbrev KeptByMove : Move → Type 0
KeptByMove IsStuck = Unit {0}
KeptByMove IsFinal = Unit {0}
KeptByMove (Moves event next) = IsLineEvent event × IsLineState next

shown_fits : (a : Option Literal) (answer : Literal) → IsLineLiteral a → StandsInLine answer → StandsInLine (literal_shown a answer)
shown_fits None answer h g = g
shown_fits (Some l) answer h g = h

answered_keeps : (n : ℕ) (op : Op) (a : Option Literal) (resume : Literal → Configuration) (o : Option Reply) → IsLineLiteral a
    → ((answer : Literal) → StandsInLine answer → IsLineConfiguration (resume answer)) → IsLineReply o → KeptByMove (answered n op a resume o)
answered_keeps n op a resume None h g r = tt
answered_keeps n op a resume (Some reply) h g r =
    (shown_fits a reply.literal h r.0, record { configuration = g reply.literal r.0; devices = r.1 })

closed_keeps : (devices : Devices) (x : StepOutcome) → AllByRecursion IsLineDevice devices → KeepsLiterals x → KeptByMove (closed devices x)
closed_keeps devices Stuck h k = tt
closed_keeps devices Final h k = tt
closed_keeps devices (Next event next) h k = (k.0, record { configuration = k.1; devices = h })
closed_keeps devices (Ask n op a resume) h k =
    answered_keeps n op a resume (operate devices n op a) k.0 k.1 (operate_keeps devices n op a h k.0)

move_keeps : (state : State) (event : Option Event) (next : State) → move state ≡ Moves event next → IsLineState state → IsLineEvent event × IsLineState next
move_keeps state event next is line =
    subst KeptByMove is (closed_keeps state.devices (step state.configuration) line.devices (step_keeps state.configuration line.configuration))

-- many moves
pub events_fit : (event : Option Event) (events : List Event) → IsLineEvent event → AllByRecursion (λ e. IsLineEvent (Some e)) events → AllByRecursion (λ e. IsLineEvent (Some e)) (with_event event events)
events_fit None events h k = k
events_fit (Some event) events h k = (h, k)

pub events_stand_in_lines : {n : ℕ} {a b : State} {es : List Event} → LeadsIn n a es b → IsLineState a → AllByRecursion (λ e. IsLineEvent (Some e)) es × IsLineState b
events_stand_in_lines runs.none line = (tt, line)
events_stand_in_lines (runs.more {state = a} {next = m} {event = e} {events = es} is later) line =
    let first = move_keeps a e m is line in
    let rest = events_stand_in_lines later first.1 in
    (events_fit e es first.0 rest.0, rest.1)

-- what is shown at the end
abbrev pub IsLineShown : Option Shown → Type 0
IsLineShown None = Unit {0}
IsLineShown (Some (ShownLiteral literal)) = StandsInLine literal
IsLineShown (Some ShownFunction) = Unit {0}
IsLineShown (Some ShownTypeFunction) = Unit {0}
IsLineShown (Some ShownBox) = Unit {0}
IsLineShown (Some (ShownDevice device)) = Unit {0}
IsLineShown (Some (ShownLabel label)) = Unit {0}

value_shown : (v : Term) → HasLineLiterals v → IsLineShown (shown_value v)
value_shown (LiteralTerm l) h = h
value_shown (FunctionTerm s c t) h = tt
value_shown (TypeFunctionTerm s t) h = tt
value_shown (BoxTerm v) h = tt
value_shown (VariableTerm v) h = tt
value_shown (Application v w) h = tt
value_shown (TypeApplication v s) h = tt
value_shown (Unboxing o v) h = tt
value_shown (Let n s t) h = tt
value_shown (Primitive p v w) h = tt
value_shown (Conditional n v s t) h = tt
value_shown (Repetition v w) h = tt
value_shown (Operation p v o) h = tt
value_shown (Boundary s t) h = tt
value_shown (Leave s c v w) h = tt

cell_shown : (o : Option Cell) → IsLineOption o → IsLineShown (shown_cell o)
cell_shown None h = tt
cell_shown (Some (ValueCell v)) h = value_shown v h
cell_shown (Some (DeviceCell n b)) h = tt
cell_shown (Some (LabelCell n)) h = tt

answer_shown : (st : Store) (t : Term) → AllByRecursion IsLineCell st → HasLineLiterals t → IsLineShown (shown_answer st t)
answer_shown st (VariableTerm v) h l = cell_shown (cell_at st v) (at_variable st v h)
answer_shown st (LiteralTerm x) h l = value_shown (LiteralTerm x) l
answer_shown st (FunctionTerm s c t) h l = tt
answer_shown st (TypeFunctionTerm s t) h l = tt
answer_shown st (BoxTerm v) h l = tt
answer_shown st (Application v w) h l = tt
answer_shown st (TypeApplication v s) h l = tt
answer_shown st (Unboxing o v) h l = tt
answer_shown st (Let n s t) h l = tt
answer_shown st (Primitive p v w) h l = tt
answer_shown st (Conditional n v s t) h l = tt
answer_shown st (Repetition v w) h l = tt
answer_shown st (Operation p v o) h l = tt
answer_shown st (Boundary s t) h l = tt
answer_shown st (Leave s c v w) h l = tt

pub shown_stands_in_line : (c : Configuration) → IsLineConfiguration c → IsLineShown (shown c)
shown_stands_in_line c line = answer_shown c.store c.term line.store line.term
