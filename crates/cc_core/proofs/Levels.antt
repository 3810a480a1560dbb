-- An action on free positions does the same to terms at each depth, and one that leaves each position leaves all.
use Rattle.std.proofs.Common.{◌≡◌, ℕ, suc, Option, Some, None, refl, ap, ◌∙◌}
use Rattle.std.specs.Option.{option_map}
use Rattle.cc_capture.specs.declared.var.Var.{Var}
use Rattle.cc_capture.specs.declared.var.Var.TheVariants.{Bound, Free}
use Rattle.cc_capture.specs.declared.var.Elem.{Elem}
use Rattle.cc_capture.specs.declared.var.Elem.TheVariants.{Var as Variable, Cap, Hole}
use Rattle.cc_capture.specs.Sets.{Set}
use Rattle.cc_core.specs.Shapes.{TypeVariable, CapturingType, capturing}
use Rattle.cc_core.specs.Terms.{Note, Absent, Written, Own, Term, VariableTerm, LiteralTerm, FunctionTerm, TypeFunctionTerm, BoxTerm, Application, TypeApplication, Unboxing, Let, Primitive, Conditional, Repetition, Operation, Boundary, Leave}
use Rattle.cc_core.specs.Traversal.{Action, act_set, act_type, act_note, act_term, keeping}
use Rattle.cc_core.specs.Substitution.{single, moved_element, renamed_variable, free_shape, freely}
use Rattle.cc_core.proofs.Actions.{same_actions}
use Rattle.cc_core.proofs.FreeActions.{IsFree, free_set-level, free-level}
use Rattle.cc_core.proofs.Sorts.{SetSort, ShapeSort, TypeSort, NoteSort, TermSort, Sort, Syntax, acted, acted-keeping}

module _ (f : Action) (free : IsFree f) where
  pub free_type-level : (d e : ℕ) (t : CapturingType) → act_type f d t ≡ act_type f e t
  free_type-level d e t i = capturing (free-level f free d e t.shape i) (free_set-level f free d e t.set i)

  free_optional_set-level : (d e : ℕ) (o : Option Set) → option_map (act_set f d) o ≡ option_map (act_set f e) o
  free_optional_set-level d e None = refl
  free_optional_set-level d e (Some c) = λ i. Some (free_set-level f free d e c i)

  free_optional-level : (d e : ℕ) (o : Option Var) → option_map (f.variable d) o ≡ option_map (f.variable e) o
  free_optional-level d e None = refl
  free_optional-level d e (Some v) = λ i. Some (free.variable_level d e v i)

  pub free_note-level : (d e : ℕ) (n : Note) → act_note f d n ≡ act_note f e n
  free_note-level d e Absent = refl
  free_note-level d e (Written s c) = λ i. Written (free-level f free d e s i) (free_set-level f free d e c i)
  free_note-level d e (Own s) = λ i. Own (free-level f free d e s i)

  pub free_term-level : (d e : ℕ) (t : Term) → act_term f d t ≡ act_term f e t
  free_term-level d e (VariableTerm v) = λ i. VariableTerm (free.variable_level d e v i)
  free_term-level d e (LiteralTerm l) = refl
  free_term-level d e (FunctionTerm s c t) =
      λ i. FunctionTerm (free-level f free d e s i) (free_set-level f free d e c i)
      (free_term-level (suc d) (suc e) t i)
  free_term-level d e (TypeFunctionTerm s t) =
      λ i. TypeFunctionTerm (free-level f free d e s i) (free_term-level (suc d) (suc e) t i)
  free_term-level d e (BoxTerm v) = λ i. BoxTerm (free.variable_level d e v i)
  free_term-level d e (Application v w) = λ i. Application (free.variable_level d e v i) (free.variable_level d e w i)
  free_term-level d e (TypeApplication v s) =
      λ i. TypeApplication (free.variable_level d e v i) (free-level f free d e s i)
  free_term-level d e (Unboxing o v) = λ i. Unboxing (free_optional_set-level d e o i) (free.variable_level d e v i)
  free_term-level d e (Let n s t) =
      λ i. Let (free_note-level d e n i) (free_term-level d e s i) (free_term-level (suc d) (suc e) t i)
  free_term-level d e (Primitive p v w) = λ i. Primitive p (free.variable_level d e v i) (free.variable_level d e w i)
  free_term-level d e (Conditional n v s t) =
      λ i. Conditional (free_note-level d e n i) (free.variable_level d e v i) (free_term-level d e s i)
      (free_term-level d e t i)
  free_term-level d e (Repetition v w) = λ i. Repetition (free.variable_level d e v i) (free.variable_level d e w i)
  free_term-level d e (Operation p v o) = λ i. Operation p (free.variable_level d e v i) (free_optional-level d e o i)
  free_term-level d e (Boundary s t) = λ i. Boundary (free-level f free d e s i) (free_term-level (suc d) (suc e) t i)
  free_term-level d e (Leave s c v w) =
      λ i. Leave (free-level f free d e s i) (free_set-level f free d e c i) (free.variable_level d e v i)
      (free.variable_level d e w i)

-- the same of any sort
pub acted-level : (sort : Sort) (f : Action) → IsFree f → (d e : ℕ) (x : Syntax sort)
    → acted sort f d x ≡ acted sort f e x
acted-level SetSort = free_set-level
acted-level ShapeSort = free-level
acted-level TypeSort = free_type-level
acted-level NoteSort = free_note-level
acted-level TermSort = free_term-level

-- the action that leaves each position
renamed_variable-still : (v : Var) → renamed_variable (λ p. p) v ≡ v
renamed_variable-still (Bound i) = refl
renamed_variable-still (Free p) = refl

element_still : (x : Elem) → moved_element (renamed_variable (λ p. p)) x ≡ x
element_still (Variable v) = ap (λ w. Variable w) (renamed_variable-still v)
element_still Cap = refl
element_still (Hole n) = refl

shape_still : (v : Var) → free_shape (λ p. TypeVariable (Free p)) v ≡ TypeVariable v
shape_still (Bound i) = refl
shape_still (Free p) = refl

pub freely-identity : freely (λ p. p) (λ p. TypeVariable (Free p)) ≡ keeping
freely-identity =
    same_actions (freely (λ p. p) (λ p. TypeVariable (Free p))) keeping (λ d x. ap single (element_still x)) (λ d v. shape_still v) (λ d v. renamed_variable-still v)

pub freely-still : (sort : Sort) (d : ℕ) (x : Syntax sort)
    → acted sort (freely (λ p. p) (λ p. TypeVariable (Free p))) d x ≡ x
freely-still sort d x = ap (λ r. acted sort r d x) freely-identity ∙ acted-keeping sort d x
