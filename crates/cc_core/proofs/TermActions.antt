-- Actions on terms and on what is written for types: the laws of actions on shapes hold of these.
use Rattle.std.proofs.Common.{◌≡◌, ℕ, suc, Option, Some, None, refl}
use Rattle.std.specs.Option.{option_map}
use Rattle.cc_capture.specs.declared.var.Var.{Var}
use Rattle.cc_capture.specs.Sets.{Set}
use Rattle.cc_core.specs.Terms.{Note, Absent, Written, Own, Term, VariableTerm, LiteralTerm, FunctionTerm, TypeFunctionTerm, BoxTerm, Application, TypeApplication, Unboxing, Let, Primitive, Conditional, Repetition, Operation, Boundary, Leave}
use Rattle.cc_core.specs.Traversal.{Action, act_set, act_note, act_term, keeping, composed}
use Rattle.cc_core.specs.Occurrences.{agreement, MeetsInOptionalSet, MeetsAtOptional, MeetsInNote, MeetsInTerm}
use Rattle.cc_core.proofs.Actions.{act_set-congruent, act-congruent, act_set-act_set, act-act, act_set-keeping, act-keeping}

pub act_note-congruent : (f g : Action) (d : ℕ) (n : Note) → MeetsInNote (agreement f g) d n
    → act_note f d n ≡ act_note g d n
act_note-congruent f g d Absent m = refl
act_note-congruent f g d (Written s c) m =
    λ i. Written (act-congruent f g d s m.0 i) (act_set-congruent f g d c m.1 i)
act_note-congruent f g d (Own s) m = λ i. Own (act-congruent f g d s m i)

optional_set-congruent : (f g : Action) (d : ℕ) (o : Option Set) → MeetsInOptionalSet (agreement f g) d o
    → option_map (act_set f d) o ≡ option_map (act_set g d) o
optional_set-congruent f g d None m = refl
optional_set-congruent f g d (Some c) m = λ i. Some (act_set-congruent f g d c m i)

optional-congruent : (f g : Action) (d : ℕ) (o : Option Var) → MeetsAtOptional (agreement f g) d o
    → option_map (f.variable d) o ≡ option_map (g.variable d) o
optional-congruent f g d None m = refl
optional-congruent f g d (Some v) m = λ i. Some (m i)

pub act_term-congruent : (f g : Action) (d : ℕ) (t : Term) → MeetsInTerm (agreement f g) d t
    → act_term f d t ≡ act_term g d t
act_term-congruent f g d (VariableTerm v) m = λ i. VariableTerm (m i)
act_term-congruent f g d (LiteralTerm l) m = refl
act_term-congruent f g d (FunctionTerm s c t) m =
    λ i. FunctionTerm (act-congruent f g d s m.0 i) (act_set-congruent f g d c m.1 i)
    (act_term-congruent f g (suc d) t m.2 i)
act_term-congruent f g d (TypeFunctionTerm s t) m =
    λ i. TypeFunctionTerm (act-congruent f g d s m.0 i) (act_term-congruent f g (suc d) t m.1 i)
act_term-congruent f g d (BoxTerm v) m = λ i. BoxTerm (m i)
act_term-congruent f g d (Application v w) m = λ i. Application (m.0 i) (m.1 i)
act_term-congruent f g d (TypeApplication v s) m = λ i. TypeApplication (m.0 i) (act-congruent f g d s m.1 i)
act_term-congruent f g d (Unboxing o v) m = λ i. Unboxing (optional_set-congruent f g d o m.0 i) (m.1 i)
act_term-congruent f g d (Let n s t) m =
    λ i. Let (act_note-congruent f g d n m.0 i) (act_term-congruent f g d s m.1 i)
    (act_term-congruent f g (suc d) t m.2 i)
act_term-congruent f g d (Primitive p v w) m = λ i. Primitive p (m.0 i) (m.1 i)
act_term-congruent f g d (Conditional n v s t) m =
    λ i. Conditional (act_note-congruent f g d n m.0 i) (m.1 i) (act_term-congruent f g d s m.2 i)
    (act_term-congruent f g d t m.3 i)
act_term-congruent f g d (Repetition v w) m = λ i. Repetition (m.0 i) (m.1 i)
act_term-congruent f g d (Operation p v o) m = λ i. Operation p (m.0 i) (optional-congruent f g d o m.1 i)
act_term-congruent f g d (Boundary s t) m =
    λ i. Boundary (act-congruent f g d s m.0 i) (act_term-congruent f g (suc d) t m.1 i)
act_term-congruent f g d (Leave s c v w) m =
    λ i. Leave (act-congruent f g d s m.0 i) (act_set-congruent f g d c m.1 i) (m.2 i) (m.3 i)

pub act_note-act_note : (f g : Action) (d : ℕ) (n : Note)
    → act_note f d (act_note g d n) ≡ act_note (composed f g) d n
act_note-act_note f g d Absent = refl
act_note-act_note f g d (Written s c) = λ i. Written (act-act f g d s i) (act_set-act_set f g d c i)
act_note-act_note f g d (Own s) = λ i. Own (act-act f g d s i)

optional_set-composed : (f g : Action) (d : ℕ) (o : Option Set)
    → option_map (act_set f d) (option_map (act_set g d) o) ≡ option_map (act_set (composed f g) d) o
optional_set-composed f g d None = refl
optional_set-composed f g d (Some c) = λ i. Some (act_set-act_set f g d c i)

optional-composed : (f g : Action) (d : ℕ) (o : Option Var)
    → option_map (f.variable d) (option_map (g.variable d) o) ≡ option_map (λ v. f.variable d (g.variable d v)) o
optional-composed f g d None = refl
optional-composed f g d (Some v) = refl

pub act_term-act_term : (f g : Action) (d : ℕ) (t : Term)
    → act_term f d (act_term g d t) ≡ act_term (composed f g) d t
act_term-act_term f g d (VariableTerm v) = refl
act_term-act_term f g d (LiteralTerm l) = refl
act_term-act_term f g d (FunctionTerm s c t) =
    λ i. FunctionTerm (act-act f g d s i) (act_set-act_set f g d c i) (act_term-act_term f g (suc d) t i)
act_term-act_term f g d (TypeFunctionTerm s t) =
    λ i. TypeFunctionTerm (act-act f g d s i) (act_term-act_term f g (suc d) t i)
act_term-act_term f g d (BoxTerm v) = refl
act_term-act_term f g d (Application v w) = refl
act_term-act_term f g d (TypeApplication v s) =
    λ i. TypeApplication (f.variable d (g.variable d v)) (act-act f g d s i)
act_term-act_term f g d (Unboxing o v) =
    λ i. Unboxing (optional_set-composed f g d o i) (f.variable d (g.variable d v))
act_term-act_term f g d (Let n s t) =
    λ i. Let (act_note-act_note f g d n i) (act_term-act_term f g d s i) (act_term-act_term f g (suc d) t i)
act_term-act_term f g d (Primitive p v w) = refl
act_term-act_term f g d (Conditional n v s t) =
    λ i. Conditional (act_note-act_note f g d n i) (f.variable d (g.variable d v)) (act_term-act_term f g d s i)
    (act_term-act_term f g d t i)
act_term-act_term f g d (Repetition v w) = refl
act_term-act_term f g d (Operation p v o) =
    λ i. Operation p (f.variable d (g.variable d v)) (optional-composed f g d o i)
act_term-act_term f g d (Boundary s t) = λ i. Boundary (act-act f g d s i) (act_term-act_term f g (suc d) t i)
act_term-act_term f g d (Leave s c v w) =
    λ i. Leave (act-act f g d s i) (act_set-act_set f g d c i) (f.variable d (g.variable d v))
    (f.variable d (g.variable d w))

pub act_note-keeping : (d : ℕ) (n : Note) → act_note keeping d n ≡ n
act_note-keeping d Absent = refl
act_note-keeping d (Written s c) = λ i. Written (act-keeping d s i) (act_set-keeping d c i)
act_note-keeping d (Own s) = λ i. Own (act-keeping d s i)

optional_set-keeping : (d : ℕ) (o : Option Set) → option_map (act_set keeping d) o ≡ o
optional_set-keeping d None = refl
optional_set-keeping d (Some c) = λ i. Some (act_set-keeping d c i)

optional-keeping : (o : Option Var) → option_map (λ v. v) o ≡ o
optional-keeping None = refl
optional-keeping (Some v) = refl

pub act_term-keeping : (d : ℕ) (t : Term) → act_term keeping d t ≡ t
act_term-keeping d (VariableTerm v) = refl
act_term-keeping d (LiteralTerm l) = refl
act_term-keeping d (FunctionTerm s c t) =
    λ i. FunctionTerm (act-keeping d s i) (act_set-keeping d c i) (act_term-keeping (suc d) t i)
act_term-keeping d (TypeFunctionTerm s t) = λ i. TypeFunctionTerm (act-keeping d s i) (act_term-keeping (suc d) t i)
act_term-keeping d (BoxTerm v) = refl
act_term-keeping d (Application v w) = refl
act_term-keeping d (TypeApplication v s) = λ i. TypeApplication v (act-keeping d s i)
act_term-keeping d (Unboxing o v) = λ i. Unboxing (optional_set-keeping d o i) v
act_term-keeping d (Let n s t) =
    λ i. Let (act_note-keeping d n i) (act_term-keeping d s i) (act_term-keeping (suc d) t i)
act_term-keeping d (Primitive p v w) = refl
act_term-keeping d (Conditional n v s t) =
    λ i. Conditional (act_note-keeping d n i) v (act_term-keeping d s i) (act_term-keeping d t i)
act_term-keeping d (Repetition v w) = refl
act_term-keeping d (Operation p v o) = λ i. Operation p v (optional-keeping o i)
act_term-keeping d (Boundary s t) = λ i. Boundary (act-keeping d s i) (act_term-keeping (suc d) t i)
act_term-keeping d (Leave s c v w) = λ i. Leave (act-keeping d s i) (act_set-keeping d c i) v w
