-- Acting under one binder more is acting with the shifted action.
use Rattle.std.proofs.Common.{◌≡◌, ℕ, suc, refl}
use Rattle.cc_core.specs.Shapes.{Shape, BaseShape, AnyShape, TypeVariable, FunctionShape, TypeFunctionShape, BoxShape, ExitShape, CapturingType, capturing}
use Rattle.cc_core.specs.Terms.{Note, Absent, Written, Own, Term, VariableTerm, LiteralTerm, FunctionTerm, TypeFunctionTerm, BoxTerm, Application, TypeApplication, Unboxing, Let, Primitive, Conditional, Repetition, Operation, Boundary, Leave}
use Rattle.cc_core.specs.Traversal.{Action, act, act_set, act_type, act_note, act_term, shifted}

pub shift : (f : Action) (k : ℕ) (s : Shape) → act f (suc k) s ≡ act (shifted f) k s
shift f k (BaseShape b) = refl
shift f k AnyShape = refl
shift f k (TypeVariable v) = refl
shift f k (FunctionShape t c u e) =
    λ i. FunctionShape (shift f k t i) (act_set f (suc k) c) (shift f (suc k) u i) (act_set f (suc (suc k)) e)
shift f k (TypeFunctionShape b u e) =
    λ i. TypeFunctionShape (shift f k b i) (shift f (suc k) u i) (act_set f (suc (suc k)) e)
shift f k (BoxShape t c) = λ i. BoxShape (shift f k t i) (act_set f (suc k) c)
shift f k (ExitShape t) = λ i. ExitShape (shift f k t i)

pub shift_type : (f : Action) (k : ℕ) (t : CapturingType) → act_type f (suc k) t ≡ act_type (shifted f) k t
shift_type f k t = λ i. capturing (shift f k t.shape i) (act_set f (suc k) t.set)

pub shift_note : (f : Action) (k : ℕ) (n : Note) → act_note f (suc k) n ≡ act_note (shifted f) k n
shift_note f k Absent = refl
shift_note f k (Written s c) = λ i. Written (shift f k s i) (act_set f (suc k) c)
shift_note f k (Own s) = λ i. Own (shift f k s i)

pub shift_term : (f : Action) (k : ℕ) (t : Term) → act_term f (suc k) t ≡ act_term (shifted f) k t
shift_term f k (VariableTerm v) = refl
shift_term f k (LiteralTerm l) = refl
shift_term f k (FunctionTerm s c t) =
    λ i. FunctionTerm (shift f k s i) (act_set f (suc k) c) (shift_term f (suc k) t i)
shift_term f k (TypeFunctionTerm s t) = λ i. TypeFunctionTerm (shift f k s i) (shift_term f (suc k) t i)
shift_term f k (BoxTerm v) = refl
shift_term f k (Application v w) = refl
shift_term f k (TypeApplication v s) = λ i. TypeApplication (f.variable (suc k) v) (shift f k s i)
shift_term f k (Unboxing o v) = refl
shift_term f k (Let n s t) = λ i. Let (shift_note f k n i) (shift_term f k s i) (shift_term f (suc k) t i)
shift_term f k (Primitive p v w) = refl
shift_term f k (Conditional n v s t) =
    λ i. Conditional (shift_note f k n i) (f.variable (suc k) v) (shift_term f k s i) (shift_term f k t i)
shift_term f k (Repetition v w) = refl
shift_term f k (Operation p v o) = refl
shift_term f k (Boundary s t) = λ i. Boundary (shift f k s i) (shift_term f (suc k) t i)
shift_term f k (Leave s c v w) =
    λ i. Leave (shift f k s i) (act_set f (suc k) c) (f.variable (suc k) v) (f.variable (suc k) w)
