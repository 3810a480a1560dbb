-- Inference that finds a type, as a relation with one rule for each form, without places and sizes.
use Rattle.std.proofs.Common.{◌≡◌, ℕ, List, [], ◌∷◌, ◌++◌, length, Some, None}
use Rattle.std.specs.Prelude.{map}
use Rattle.cc_base.specs.declared.literal.Base.TheVariants as bases
use Rattle.cc_base.specs.declared.literal.Base.{Base}
use Rattle.cc_base.specs.declared.literal.Operator.{Operator}
use Rattle.cc_base.specs.declared.literal.Op.{Op}
use Rattle.cc_base.specs.Literals.{Literal}
use Rattle.cc_capture.specs.declared.var.Var.{Var}
use Rattle.cc_capture.specs.declared.var.Var.TheVariants.{Free}
use Rattle.cc_capture.specs.Sets.{Set, empty}
use Rattle.cc_core.specs.Shapes.{Shape, BaseShape, FunctionShape, TypeFunctionShape, BoxShape, ExitShape, CapturingType, capturing}
use Rattle.cc_core.specs.Terms.{Note, Absent, Written, Own, Term, VariableTerm, LiteralTerm, FunctionTerm, TypeFunctionTerm, BoxTerm, Application, TypeApplication, Unboxing, Let, Primitive, Conditional, Repetition, Operation, Boundary, Leave}
use Rattle.cc_core.specs.Contexts.{TermEntry, TypeEntry, Context, lookup, entry_of}
use Rattle.cc_core.specs.Substitution.{replaced_type, replaced_type_by_shape}
use Rattle.cc_core.specs.Captured.{variable_set}
use Rattle.cc_core.specs.Typing.{base_of, base_given, base_operated, base_taken, base_answered}
use Rattle.cc_checking.specs.Comparison.{Demand, demanded, HasDemands, TypesHaveDemands}
use Rattle.cc_checking.specs.Exposing.{exposed}
use Rattle.cc_checking.specs.Avoidance.{Positive, avoided_type}
use Rattle.cc_checking.specs.Outcomes.{Asked, IsBelow, IsCapless}
use Rattle.cc_checking.specs.Inference.{Result, result, in_context, set_in, shape_in, type_in, written_in, base_type, Named, named_by, function_found, type_function_found, choice_found, exit_entry}

-- the variable stands for a value, and is declared with the shape and the set
pub record Has (g : Context) (v : Var) (s : Shape) (d : Set) : Type 0 where
  pub position : ℕ
  pub is : v ≡ Free position
  pub there : lookup g position ≡ Some (TermEntry s d)

-- the type of a variable of the shape
abbrev pub its_type : Context → Var → Shape → CapturingType
its_type g v s = capturing s (variable_set (in_context g v))

-- each demand, as it is asked
abbrev pub below_all : List Demand → List Asked
below_all ds = map IsBelow ds

-- an operand of a shape, with what its comparison demands
pub record Operand (g : Context) (v : Var) (s : Shape) (ds : List Demand) : Type 0 where
  pub shape : Shape
  pub declared : Set
  pub has : Has g (in_context g v) shape declared
  pub demands : HasDemands g shape s ds

-- what is written for a type, and what then is
pub data Notes (root : ℕ) (g : Context) : Note → CapturingType → Named → List Asked → Type 0 where
  notes-absent : {t : CapturingType} → Notes root g Absent t (named_by t Absent) []
  notes-written : {t : CapturingType} {s : Shape} {c : Set} {ds : List Demand}
      → TypesHaveDemands g t (type_in g (capturing s c)) ds
      → Notes root g (Written s c) t (named_by (type_in g (capturing s c)) (Written s c)) (below_all ds ++ [])
  notes-own : {t : CapturingType} {s : Shape} {ds : List Demand} → HasDemands g t.shape (shape_in g s) ds
      → Notes root g (Own s) t (named_by (capturing (shape_in g s) t.set) (Written s (written_in root g t.set))) (below_all ds ++ [])

pub data Finds (root : ℕ) : Context → Term → Result → List Asked → Type 0 where
  finds-variable : {g : Context} {v : Var} {s : Shape} {d : Set} → Has g (in_context g v) s d
      → Finds root g (VariableTerm v) (result (its_type g v s) (VariableTerm v)) []
  finds-literal : {g : Context} {l : Literal} → Finds root g (LiteralTerm l) (result (base_type (base_of l)) (LiteralTerm l)) []
  finds-function : {g : Context} {takes : Shape} {c : Set} {body : Term} {r : Result} {qs : List Asked}
      → Finds root (entry_of (type_in g (capturing takes c)) ∷ g) body r qs
      → Finds root g (FunctionTerm takes c body) (function_found g takes c r) (qs ++ [])
  finds-type_function : {g : Context} {bound : Shape} {body : Term} {r : Result} {qs : List Asked}
      → Finds root (TypeEntry (shape_in g bound) ∷ g) body r qs
      → Finds root g (TypeFunctionTerm bound body) (type_function_found g bound r) (qs ++ [])
  finds-box : {g : Context} {v : Var} {s : Shape} {d : Set} → Has g (in_context g v) s d
      → Finds root g (BoxTerm v) (result (capturing (BoxShape s (variable_set (in_context g v))) empty) (BoxTerm v)) []
  finds-application : {g : Context} {v w : Var} {s s' takes gives : Shape} {d d' c e : Set} {ds : List Demand}
      → Has g (in_context g v) s d → exposed g s ≡ FunctionShape takes c gives e → Has g (in_context g w) s' d'
      → TypesHaveDemands g (its_type g w s') (capturing takes c) ds
      → Finds root g (Application v w) (result (replaced_type (in_context g w) (capturing gives e)) (Application v w)) (below_all ds ++ [])
  finds-type_application : {g : Context} {v : Var} {x s bound gives : Shape} {d e : Set} {ds : List Demand}
      → Has g (in_context g v) s d → exposed g s ≡ TypeFunctionShape bound gives e → HasDemands g (shape_in g x) bound ds
      → Finds root g (TypeApplication v x) (result (replaced_type_by_shape (shape_in g x) (capturing gives e)) (TypeApplication v x)) (below_all ds ++ [])
  finds-unboxing : {g : Context} {v : Var} {s content : Shape} {d c set : Set}
      → Has g (in_context g v) s d → exposed g s ≡ BoxShape content c
      → Finds root g (Unboxing (Some set) v) (result (capturing content (set_in g set)) (Unboxing (Some set) v)) (IsBelow (demanded g c (set_in g set)) ∷ IsCapless (set_in g set) ∷ [])
  finds-unboxing_own : {g : Context} {v : Var} {s content : Shape} {d c : Set}
      → Has g (in_context g v) s d → exposed g s ≡ BoxShape content c
      → Finds root g (Unboxing None v) (result (capturing content c) (Unboxing (Some (written_in root g c)) v)) (IsCapless c ∷ [])
  finds-let : {g : Context} {note : Note} {right body : Term} {r r' : Result} {named : Named} {type : CapturingType} {qs ps qs' : List Asked}
      → Finds root g right r qs → Notes root g note r.type named ps → Finds root (entry_of named.type ∷ g) body r' qs'
      → avoided_type Positive (length g) named.type.set r'.type ≡ Some type
      → Finds root g (Let note right body) (result type (Let named.note r.completed r'.completed)) (qs ++ (ps ++ (qs' ++ [])))
  finds-primitive : {g : Context} {o : Operator} {v w : Var} {ds es : List Demand}
      → Operand g v (BaseShape bases.Int) ds → Operand g w (BaseShape bases.Int) es
      → Finds root g (Primitive o v w) (result (base_type (base_given o)) (Primitive o v w)) (below_all ds ++ (below_all es ++ []))
  finds-choice : {g : Context} {x : Shape} {c : Set} {v : Var} {t u : Term} {r r' : Result} {ds es es' : List Demand} {qs qs' : List Asked}
      → Operand g v (BaseShape bases.Bool) ds
      → Finds root g t r qs → TypesHaveDemands g r.type (type_in g (capturing x c)) es
      → Finds root g u r' qs' → TypesHaveDemands g r'.type (type_in g (capturing x c)) es'
      → Finds root g (Conditional (Written x c) v t u) (result (type_in g (capturing x c)) (Conditional (Written x c) v r.completed r'.completed))
      (below_all ds ++ ((qs ++ (below_all es ++ [])) ++ ((qs' ++ (below_all es' ++ [])) ++ [])))
  finds-choice_own : {g : Context} {x : Shape} {v : Var} {t u : Term} {r r' : Result} {ds es es' : List Demand} {qs qs' : List Asked}
      → Operand g v (BaseShape bases.Bool) ds
      → Finds root g t r qs → HasDemands g r.type.shape (shape_in g x) es
      → Finds root g u r' qs' → HasDemands g r'.type.shape (shape_in g x) es'
      → Finds root g (Conditional (Own x) v t u) (choice_found root g x v r r')
      (below_all ds ++ ((qs ++ (below_all es ++ [])) ++ ((qs' ++ (below_all es' ++ [])) ++ [])))
  finds-repetition : {g : Context} {v w : Var} {ds es : List Demand}
      → Operand g v (BaseShape bases.Int) ds → Operand g w (FunctionShape (BaseShape bases.Int) empty (BaseShape bases.Unit) empty) es
      → Finds root g (Repetition v w) (result (base_type bases.Unit) (Repetition v w)) (below_all ds ++ (below_all es ++ []))
  finds-operation : {g : Context} {o : Op} {v w : Var} {s : Shape} {d : Set} {base : Base} {ds : List Demand}
      → Has g (in_context g v) s d → exposed g s ≡ BaseShape (base_operated o) → base_taken o ≡ Some base
      → Operand g w (BaseShape base) ds
      → Finds root g (Operation o v (Some w)) (result (base_type (base_answered o)) (Operation o v (Some w))) (below_all ds ++ [])
  finds-operation_alone : {g : Context} {o : Op} {v : Var} {s : Shape} {d : Set}
      → Has g (in_context g v) s d → exposed g s ≡ BaseShape (base_operated o) → base_taken o ≡ None
      → Finds root g (Operation o v None) (result (base_type (base_answered o)) (Operation o v None)) []
  finds-boundary : {g : Context} {x : Shape} {body : Term} {r : Result} {qs : List Asked} {ds : List Demand}
      → Finds root (exit_entry (shape_in g x) ∷ g) body r qs
      → TypesHaveDemands (exit_entry (shape_in g x) ∷ g) r.type (capturing (shape_in g x) empty) ds
      → Finds root g (Boundary x body) (result (capturing (shape_in g x) empty) (Boundary x r.completed)) ((qs ++ (below_all ds ++ [])) ++ [])
  finds-exit : {g : Context} {x : Shape} {c : Set} {v w : Var} {s s' takes : Shape} {d d' : Set} {ds : List Demand}
      → Has g (in_context g v) s d → exposed g s ≡ ExitShape takes → Has g (in_context g w) s' d'
      → TypesHaveDemands g (its_type g w s') (capturing takes empty) ds
      → Finds root g (Leave x c v w) (result (type_in g (capturing x c)) (Leave x c v w)) (below_all ds ++ [])
