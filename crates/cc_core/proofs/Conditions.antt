-- What follows for shapes and terms from what follows for their elements and variables.
use Rattle.std.proofs.Common.{◌≡◌, ℕ, suc, Option, Some, None, refl, subst, ap}
use Rattle.std.specs.Option.{option_map}
use Rattle.cc_capture.specs.declared.var.Var.{Var}
use Rattle.cc_capture.specs.declared.var.Elem.{Elem}
use Rattle.cc_capture.specs.declared.var.Elem.TheVariants.{Var as Variable, Cap, Hole}
use Rattle.cc_capture.specs.Sets.{Set}
use Rattle.cc_capture.proofs.Membership.{Member-flat_image}
use Rattle.cc_core.specs.Shapes.{Shape, BaseShape, AnyShape, TypeVariable, FunctionShape, TypeFunctionShape, BoxShape, ExitShape, CapturingType}
use Rattle.cc_core.specs.Terms.{Note, Absent, Written, Own, Term, VariableTerm, LiteralTerm, FunctionTerm, TypeFunctionTerm, BoxTerm, Application, TypeApplication, Unboxing, Let, Primitive, Conditional, Repetition, Operation, Boundary, Leave}
use Rattle.cc_core.specs.Traversal.{Action, act, act_set, act_type, act_note, act_term}
use Rattle.cc_core.specs.Occurrences.{Condition, Meets, MeetsInSet, MeetsInType, MeetsInNote, MeetsInTerm, MeetsInOptionalSet, MeetsAtOptional, IsAskedOf, on_variables}

-- one condition gives another, where the depths may differ
pub record Gives (related : ℕ → ℕ → Type 0) (one : Condition) (other : Condition) : Type 0 where
  pub deeper : (d e : ℕ) → related d e → related (suc d) (suc e)
  pub element : (d e : ℕ) → related d e → (x : Elem) → one.element d x → other.element e x
  pub shape : (d e : ℕ) → related d e → (v : Var) → one.shape d v → other.shape e v
  pub variable : (d e : ℕ) → related d e → (v : Var) → one.variable d v → other.variable e v

module _ (related : ℕ → ℕ → Type 0) (one other : Condition) (gives : Gives related one other) where
  pub MeetsInSet-along : (d e : ℕ) (c : Set) → related d e → MeetsInSet one d c → MeetsInSet other e c
  MeetsInSet-along d e c r m x h = gives.element d e r x (m x h)

  pub Meets-along : (d e : ℕ) (s : Shape) → related d e → Meets one d s → Meets other e s
  Meets-along d e (BaseShape b) r m = tt
  Meets-along d e AnyShape r m = tt
  Meets-along d e (TypeVariable v) r m = gives.shape d e r v m
  Meets-along d e (FunctionShape t c u c') r m =
      (Meets-along d e t r m.0, MeetsInSet-along d e c r m.1, Meets-along (suc d) (suc e) u (gives.deeper d e r) m.2, MeetsInSet-along (suc d) (suc e) c' (gives.deeper d e r) m.3)
  Meets-along d e (TypeFunctionShape b u c') r m =
      (Meets-along d e b r m.0, Meets-along (suc d) (suc e) u (gives.deeper d e r) m.1, MeetsInSet-along (suc d) (suc e) c' (gives.deeper d e r) m.2)
  Meets-along d e (BoxShape t c) r m = (Meets-along d e t r m.0, MeetsInSet-along d e c r m.1)
  Meets-along d e (ExitShape t) r m = Meets-along d e t r m

  pub MeetsInType-along : (d e : ℕ) (t : CapturingType) → related d e → MeetsInType one d t → MeetsInType other e t
  MeetsInType-along d e t r m = (Meets-along d e t.shape r m.0, MeetsInSet-along d e t.set r m.1)

  pub MeetsInNote-along : (d e : ℕ) (n : Note) → related d e → MeetsInNote one d n → MeetsInNote other e n
  MeetsInNote-along d e Absent r m = tt
  MeetsInNote-along d e (Written s c) r m = (Meets-along d e s r m.0, MeetsInSet-along d e c r m.1)
  MeetsInNote-along d e (Own s) r m = Meets-along d e s r m

  MeetsInOptionalSet-along : (d e : ℕ) (o : Option Set) → related d e → MeetsInOptionalSet one d o
      → MeetsInOptionalSet other e o
  MeetsInOptionalSet-along d e None r m = tt
  MeetsInOptionalSet-along d e (Some c) r m = MeetsInSet-along d e c r m

  MeetsAtOptional-along : (d e : ℕ) (o : Option Var) → related d e → MeetsAtOptional one d o
      → MeetsAtOptional other e o
  MeetsAtOptional-along d e None r m = tt
  MeetsAtOptional-along d e (Some v) r m = gives.variable d e r v m

  pub MeetsInTerm-along : (d e : ℕ) (t : Term) → related d e → MeetsInTerm one d t → MeetsInTerm other e t
  MeetsInTerm-along d e (VariableTerm v) r m = gives.variable d e r v m
  MeetsInTerm-along d e (LiteralTerm l) r m = tt
  MeetsInTerm-along d e (FunctionTerm s c t) r m =
      (Meets-along d e s r m.0, MeetsInSet-along d e c r m.1, MeetsInTerm-along (suc d) (suc e) t (gives.deeper d e r) m.2)
  MeetsInTerm-along d e (TypeFunctionTerm s t) r m =
      (Meets-along d e s r m.0, MeetsInTerm-along (suc d) (suc e) t (gives.deeper d e r) m.1)
  MeetsInTerm-along d e (BoxTerm v) r m = gives.variable d e r v m
  MeetsInTerm-along d e (Application v w) r m = (gives.variable d e r v m.0, gives.variable d e r w m.1)
  MeetsInTerm-along d e (TypeApplication v s) r m = (gives.variable d e r v m.0, Meets-along d e s r m.1)
  MeetsInTerm-along d e (Unboxing o v) r m = (MeetsInOptionalSet-along d e o r m.0, gives.variable d e r v m.1)
  MeetsInTerm-along d e (Let n s t) r m =
      (MeetsInNote-along d e n r m.0, MeetsInTerm-along d e s r m.1, MeetsInTerm-along (suc d) (suc e) t (gives.deeper d e r) m.2)
  MeetsInTerm-along d e (Primitive p v w) r m = (gives.variable d e r v m.0, gives.variable d e r w m.1)
  MeetsInTerm-along d e (Conditional n v s t) r m =
      (MeetsInNote-along d e n r m.0, gives.variable d e r v m.1, MeetsInTerm-along d e s r m.2, MeetsInTerm-along d e t r m.3)
  MeetsInTerm-along d e (Repetition v w) r m = (gives.variable d e r v m.0, gives.variable d e r w m.1)
  MeetsInTerm-along d e (Operation p v o) r m = (gives.variable d e r v m.0, MeetsAtOptional-along d e o r m.1)
  MeetsInTerm-along d e (Boundary s t) r m =
      (Meets-along d e s r m.0, MeetsInTerm-along (suc d) (suc e) t (gives.deeper d e r) m.1)
  MeetsInTerm-along d e (Leave s c v w) r m =
      (Meets-along d e s r m.0, MeetsInSet-along d e c r m.1, gives.variable d e r v m.2, gives.variable d e r w m.3)

-- at one depth, of variables
IsAskedOf-along : (one other : Var → Type 0) → ((v : Var) → one v → other v) → (e : Elem) → IsAskedOf one e
    → IsAskedOf other e
IsAskedOf-along one other gives (Variable v) m = gives v m
IsAskedOf-along one other gives Cap m = tt
IsAskedOf-along one other gives (Hole n) m = tt

pub gives_on_variables : (related : ℕ → ℕ → Type 0) (one other : ℕ → Var → Type 0)
    → ((d e : ℕ) → related d e → related (suc d) (suc e))
    → ((d e : ℕ) → related d e → (v : Var) → one d v → other e v)
    → Gives related (on_variables one) (on_variables other)
gives_on_variables related one other deeper gives = record {
  deeper = deeper;
  element = λ d e r x. IsAskedOf-along (one d) (other e) (gives d e r) x;
  shape = gives;
  variable = gives;
}

-- one condition gives another at each depth
pub record GivesHere (one : Condition) (other : Condition) : Type 0 where
  pub element : (d : ℕ) (x : Elem) → one.element d x → other.element d x
  pub shape : (d : ℕ) (v : Var) → one.shape d v → other.shape d v
  pub variable : (d : ℕ) (v : Var) → one.variable d v → other.variable d v

pub gives_from_here : (one other : Condition) → GivesHere one other → Gives (λ d e. d ≡ e) one other
gives_from_here one other gives = record {
  deeper = λ d e r. ap suc r;
  element = λ d e r x m. subst (λ k. other.element k x) r (gives.element d x m);
  shape = λ d e r v m. subst (λ k. other.shape k v) r (gives.shape d v m);
  variable = λ d e r v m. subst (λ k. other.variable k v) r (gives.variable d v m);
}

pub gives_here : (one other : ℕ → Var → Type 0) → ((d : ℕ) (v : Var) → one d v → other d v)
    → GivesHere (on_variables one) (on_variables other)
gives_here one other gives =
    record { element = λ d x. IsAskedOf-along (one d) (other d) (gives d) x; shape = gives; variable = gives }

module _ (one other : Condition) (gives : GivesHere one other) where
  pub MeetsInSet-here : (d : ℕ) (c : Set) → MeetsInSet one d c → MeetsInSet other d c
  MeetsInSet-here d c m x h = gives.element d x (m x h)

  pub Meets-here : (d : ℕ) (s : Shape) → Meets one d s → Meets other d s
  Meets-here d s m = Meets-along (λ d e. d ≡ e) one other (gives_from_here one other gives) d d s refl m

  pub MeetsInType-here : (d : ℕ) (t : CapturingType) → MeetsInType one d t → MeetsInType other d t
  MeetsInType-here d t m = MeetsInType-along (λ d e. d ≡ e) one other (gives_from_here one other gives) d d t refl m

  pub MeetsInNote-here : (d : ℕ) (n : Note) → MeetsInNote one d n → MeetsInNote other d n
  MeetsInNote-here d n m = MeetsInNote-along (λ d e. d ≡ e) one other (gives_from_here one other gives) d d n refl m

  pub MeetsInTerm-here : (d : ℕ) (t : Term) → MeetsInTerm one d t → MeetsInTerm other d t
  MeetsInTerm-here d t m = MeetsInTerm-along (λ d e. d ≡ e) one other (gives_from_here one other gives) d d t refl m

-- An action whose outcomes meet a condition wherever what it was taken of met another.
pub record Brings (action : Action) (one : Condition) (other : Condition) : Type 0 where
  pub element : (d : ℕ) (x : Elem) → one.element d x → MeetsInSet other d (action.element d x)
  pub shape : (d : ℕ) (v : Var) → one.shape d v → Meets other d (action.shape d v)
  pub variable : (d : ℕ) (v : Var) → one.variable d v → other.variable d (action.variable d v)

module _ (action : Action) (one other : Condition) (brings : Brings action one other) where
  pub MeetsInSet-act : (d : ℕ) (c : Set) → MeetsInSet one d c → MeetsInSet other d (act_set action d c)
  MeetsInSet-act d c m x h =
      let from = (Member-flat_image (action.element d) x c).0 h in
      brings.element d from.0 (m from.0 from.1) x from.2

  pub Meets-act : (d : ℕ) (s : Shape) → Meets one d s → Meets other d (act action d s)
  Meets-act d (BaseShape b) m = tt
  Meets-act d AnyShape m = tt
  Meets-act d (TypeVariable v) m = brings.shape d v m
  Meets-act d (FunctionShape t c u c') m =
      (Meets-act d t m.0, MeetsInSet-act d c m.1, Meets-act (suc d) u m.2, MeetsInSet-act (suc d) c' m.3)
  Meets-act d (TypeFunctionShape b u c') m =
      (Meets-act d b m.0, Meets-act (suc d) u m.1, MeetsInSet-act (suc d) c' m.2)
  Meets-act d (BoxShape t c) m = (Meets-act d t m.0, MeetsInSet-act d c m.1)
  Meets-act d (ExitShape t) m = Meets-act d t m

  pub MeetsInType-act : (d : ℕ) (t : CapturingType) → MeetsInType one d t → MeetsInType other d (act_type action d t)
  MeetsInType-act d t m = (Meets-act d t.shape m.0, MeetsInSet-act d t.set m.1)

  pub MeetsInNote-act : (d : ℕ) (n : Note) → MeetsInNote one d n → MeetsInNote other d (act_note action d n)
  MeetsInNote-act d Absent m = tt
  MeetsInNote-act d (Written s c) m = (Meets-act d s m.0, MeetsInSet-act d c m.1)
  MeetsInNote-act d (Own s) m = Meets-act d s m

  MeetsInOptionalSet-act : (d : ℕ) (o : Option Set) → MeetsInOptionalSet one d o
      → MeetsInOptionalSet other d (option_map (act_set action d) o)
  MeetsInOptionalSet-act d None m = tt
  MeetsInOptionalSet-act d (Some c) m = MeetsInSet-act d c m

  MeetsAtOptional-act : (d : ℕ) (o : Option Var) → MeetsAtOptional one d o
      → MeetsAtOptional other d (option_map (action.variable d) o)
  MeetsAtOptional-act d None m = tt
  MeetsAtOptional-act d (Some v) m = brings.variable d v m

  pub MeetsInTerm-act : (d : ℕ) (t : Term) → MeetsInTerm one d t → MeetsInTerm other d (act_term action d t)
  MeetsInTerm-act d (VariableTerm v) m = brings.variable d v m
  MeetsInTerm-act d (LiteralTerm l) m = tt
  MeetsInTerm-act d (FunctionTerm s c t) m =
      (Meets-act d s m.0, MeetsInSet-act d c m.1, MeetsInTerm-act (suc d) t m.2)
  MeetsInTerm-act d (TypeFunctionTerm s t) m = (Meets-act d s m.0, MeetsInTerm-act (suc d) t m.1)
  MeetsInTerm-act d (BoxTerm v) m = brings.variable d v m
  MeetsInTerm-act d (Application v w) m = (brings.variable d v m.0, brings.variable d w m.1)
  MeetsInTerm-act d (TypeApplication v s) m = (brings.variable d v m.0, Meets-act d s m.1)
  MeetsInTerm-act d (Unboxing o v) m = (MeetsInOptionalSet-act d o m.0, brings.variable d v m.1)
  MeetsInTerm-act d (Let n s t) m = (MeetsInNote-act d n m.0, MeetsInTerm-act d s m.1, MeetsInTerm-act (suc d) t m.2)
  MeetsInTerm-act d (Primitive p v w) m = (brings.variable d v m.0, brings.variable d w m.1)
  MeetsInTerm-act d (Conditional n v s t) m =
      (MeetsInNote-act d n m.0, brings.variable d v m.1, MeetsInTerm-act d s m.2, MeetsInTerm-act d t m.3)
  MeetsInTerm-act d (Repetition v w) m = (brings.variable d v m.0, brings.variable d w m.1)
  MeetsInTerm-act d (Operation p v o) m = (brings.variable d v m.0, MeetsAtOptional-act d o m.1)
  MeetsInTerm-act d (Boundary s t) m = (Meets-act d s m.0, MeetsInTerm-act (suc d) t m.1)
  MeetsInTerm-act d (Leave s c v w) m =
      (Meets-act d s m.0, MeetsInSet-act d c m.1, brings.variable d v m.2, brings.variable d w m.3)

-- a condition that holds of everything is met
pub record Always (condition : Condition) : Type 0 where
  pub element : (d : ℕ) (x : Elem) → condition.element d x
  pub shape : (d : ℕ) (v : Var) → condition.shape d v
  pub variable : (d : ℕ) (v : Var) → condition.variable d v

pub always_on_variables : (asked : ℕ → Var → Type 0) → ((d : ℕ) (v : Var) → asked d v) → Always (on_variables asked)
always_on_variables asked always = record { element = λ d x. each d x; shape = always; variable = always }
  where
    each : (d : ℕ) (x : Elem) → IsAskedOf (asked d) x
    each d (Variable v) = always d v
    each d Cap = tt
    each d (Hole n) = tt

module _ (condition : Condition) (always : Always condition) where
  pub MeetsInSet-always : (d : ℕ) (c : Set) → MeetsInSet condition d c
  MeetsInSet-always d c x h = always.element d x

  pub Meets-always : (d : ℕ) (s : Shape) → Meets condition d s
  Meets-always d (BaseShape b) = tt
  Meets-always d AnyShape = tt
  Meets-always d (TypeVariable v) = always.shape d v
  Meets-always d (FunctionShape t c u e) =
      (Meets-always d t, MeetsInSet-always d c, Meets-always (suc d) u, MeetsInSet-always (suc d) e)
  Meets-always d (TypeFunctionShape b u e) = (Meets-always d b, Meets-always (suc d) u, MeetsInSet-always (suc d) e)
  Meets-always d (BoxShape t c) = (Meets-always d t, MeetsInSet-always d c)
  Meets-always d (ExitShape t) = Meets-always d t

  pub MeetsInType-always : (d : ℕ) (t : CapturingType) → MeetsInType condition d t
  MeetsInType-always d t = (Meets-always d t.shape, MeetsInSet-always d t.set)

  pub MeetsInNote-always : (d : ℕ) (n : Note) → MeetsInNote condition d n
  MeetsInNote-always d Absent = tt
  MeetsInNote-always d (Written s c) = (Meets-always d s, MeetsInSet-always d c)
  MeetsInNote-always d (Own s) = Meets-always d s

  MeetsInOptionalSet-always : (d : ℕ) (o : Option Set) → MeetsInOptionalSet condition d o
  MeetsInOptionalSet-always d None = tt
  MeetsInOptionalSet-always d (Some c) = MeetsInSet-always d c

  MeetsAtOptional-always : (d : ℕ) (o : Option Var) → MeetsAtOptional condition d o
  MeetsAtOptional-always d None = tt
  MeetsAtOptional-always d (Some v) = always.variable d v

  pub MeetsInTerm-always : (d : ℕ) (t : Term) → MeetsInTerm condition d t
  MeetsInTerm-always d (VariableTerm v) = always.variable d v
  MeetsInTerm-always d (LiteralTerm l) = tt
  MeetsInTerm-always d (FunctionTerm s c t) = (Meets-always d s, MeetsInSet-always d c, MeetsInTerm-always (suc d) t)
  MeetsInTerm-always d (TypeFunctionTerm s t) = (Meets-always d s, MeetsInTerm-always (suc d) t)
  MeetsInTerm-always d (BoxTerm v) = always.variable d v
  MeetsInTerm-always d (Application v w) = (always.variable d v, always.variable d w)
  MeetsInTerm-always d (TypeApplication v s) = (always.variable d v, Meets-always d s)
  MeetsInTerm-always d (Unboxing o v) = (MeetsInOptionalSet-always d o, always.variable d v)
  MeetsInTerm-always d (Let n s t) = (MeetsInNote-always d n, MeetsInTerm-always d s, MeetsInTerm-always (suc d) t)
  MeetsInTerm-always d (Primitive p v w) = (always.variable d v, always.variable d w)
  MeetsInTerm-always d (Conditional n v s t) =
      (MeetsInNote-always d n, always.variable d v, MeetsInTerm-always d s, MeetsInTerm-always d t)
  MeetsInTerm-always d (Repetition v w) = (always.variable d v, always.variable d w)
  MeetsInTerm-always d (Operation p v o) = (always.variable d v, MeetsAtOptional-always d o)
  MeetsInTerm-always d (Boundary s t) = (Meets-always d s, MeetsInTerm-always (suc d) t)
  MeetsInTerm-always d (Leave s c v w) =
      (Meets-always d s, MeetsInSet-always d c, always.variable d v, always.variable d w)
