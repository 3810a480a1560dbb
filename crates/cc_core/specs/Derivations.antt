-- Derivations as trees: which rule each node goes by, from which premises, and what it concludes.
use Rattle.std.specs.Prelude.{◌≡◌, ℕ, zero, List, [], ◌∷◌, length, Some, None}
use Rattle.cc_base.specs.declared.literal.Base.{Base}
use Rattle.cc_base.specs.declared.literal.Base.TheVariants as bases
use Rattle.cc_base.specs.declared.literal.Operator.{Operator}
use Rattle.cc_base.specs.declared.literal.Op.{Op}
use Rattle.cc_capture.specs.declared.var.Var.{Var}
use Rattle.cc_capture.specs.declared.var.Var.TheVariants.{Free}
use Rattle.cc_capture.specs.declared.var.Elem.{Elem}
use Rattle.cc_capture.specs.declared.var.Elem.TheVariants.{Cap}
use Rattle.cc_capture.specs.Sets.{Set, Member, empty}
use Rattle.cc_core.specs.Shapes.{Shape, BaseShape, AnyShape, TypeVariable, FunctionShape, TypeFunctionShape, BoxShape}
use Rattle.cc_core.specs.Shapes.{ExitShape, CapturingType, capturing}
use Rattle.cc_base.specs.Literals.{Literal}
use Rattle.cc_core.specs.Terms.{Note, Written, Term, VariableTerm, LiteralTerm, FunctionTerm, TypeFunctionTerm, BoxTerm}
use Rattle.cc_core.specs.Terms.{Application, TypeApplication, Unboxing, Let, Primitive, Conditional, Repetition}
use Rattle.cc_core.specs.Terms.{Operation, Boundary, Leave}
use Rattle.cc_core.specs.Contexts.{TermEntry, TypeEntry, Context, lookup}
use Rattle.cc_core.specs.Traversal.{act, act_set}
use Rattle.cc_core.specs.Substitution.{single, putting, putting_shape, opened, opened_set, opened_term, closed}
use Rattle.cc_core.specs.Substitution.{closed_set}
use Rattle.cc_core.specs.Occurrences.{Meets, MeetsInSet, without}
use Rattle.cc_core.specs.WellFormed.{IsWellFormedType, IsWellFormedShape, IsWellFormedSet}
use Rattle.cc_core.specs.Captured.{captured_variables, variable_set}
use Rattle.cc_core.specs.Typing.{base_of, base_given, base_operated, base_taken, base_answered, IsNoteOf, HasNoCap}

-- the rules by which a set, a shape and a type is below another, and those of typing
pub data Rule : Type 0 where
  ByElement ByVariable BySet : Rule
  ByReflexivity ByTransitivity ByTypeVariable ByTop ByFunction ByTypeFunction ByBox : Rule
  ByCapturing : Rule
  t-var t-lit t-abs t-tabs t-app t-tapp t-box t-unbox t-let t-prim t-if t-repeat t-op t-boundary t-exit t-sub : Rule

-- what a node concludes: the left side is below the right one, or the term has the type
pub data Claim : Type 0 where
  SetBelow : (left right : Set) → Claim
  ShapeBelow : (left right : Shape) → Claim
  TypeBelow : (left right : CapturingType) → Claim
  OfType : (type : CapturingType) → Claim

mutual
  -- a tree of nodes, each with its rule, its premises in order, and its claim
  pub data Derivation : Type 0 where
    Node : (rule : Rule) (premises : Premises) (claim : Claim) → Derivation

  -- a list of derivations
  pub data Premises : Type 0 where
    NoPremise : Premises
    Premise : (first : Derivation) (rest : Premises) → Premises

-- one premise
pattern abbrev pub one : Derivation → Premises
one p = Premise p NoPremise

-- two premises
pattern abbrev pub two : Derivation → Derivation → Premises
two p q = Premise p (Premise q NoPremise)

-- three premises
pattern abbrev pub three : Derivation → Derivation → Derivation → Premises
three p q r = Premise p (Premise q (Premise r NoPremise))

-- what the derivation concludes
abbrev pub conclusion : Derivation → Claim
conclusion (Node rule premises claim) = claim

-- the derivation concludes the claim
abbrev pub Concludes : Derivation → Claim → Type 0
Concludes derivation claim = conclusion derivation ≡ claim

-- that the left set is below the right one
abbrev pub ConcludesSets : Derivation → Set → Set → Type 0
ConcludesSets derivation left right = Concludes derivation (SetBelow left right)

-- that the left shape is below the right one
abbrev pub ConcludesShapes : Derivation → Shape → Shape → Type 0
ConcludesShapes derivation left right = Concludes derivation (ShapeBelow left right)

-- that the type of the one shape and set is below that of the other
abbrev pub ConcludesTypes : Derivation → Shape → Set → Shape → Set → Type 0
ConcludesTypes derivation shape c shape' c' = Concludes derivation (TypeBelow (capturing shape c) (capturing shape' c'))

-- that its term has the type of the shape and the set
abbrev pub ConcludesType : Derivation → Shape → Set → Type 0
ConcludesType derivation shape c = Concludes derivation (OfType (capturing shape c))

-- Each node is an instance of a rule by which a set, a shape or a type is below another in the context of the node. The
-- context of the root is given, and those of the others follow from it.
abbrev mutual
  pub IsValidComparison : Context → Derivation → Type 0
  -- the set of one element is below a set that has it
  IsValidComparison context (Node ByElement NoPremise claim) =
      (e : Elem) × (set : Set) × Member e set × (claim ≡ SetBelow (single e) set)
  -- the set of one variable is below a set where its declared set is
  IsValidComparison context (Node ByVariable (one p) claim) =
      (position : ℕ) × (shape : Shape) × (declared : Set) × (set : Set)
      × (lookup context position ≡ Some (TermEntry shape declared))
      × IsValidComparison context p × ConcludesSets p declared set
      × (claim ≡ SetBelow (variable_set (Free position)) set)
  -- a set is below another where the set of each of its elements is, with one premise for each in order
  IsValidComparison context (Node BySet premises claim) =
      (left : Set) × (right : Set) × AreBelow context left.list right premises × (claim ≡ SetBelow left right)
  IsValidComparison context (Node ByReflexivity NoPremise claim) = (shape : Shape) × (claim ≡ ShapeBelow shape shape)
  IsValidComparison context (Node ByTransitivity (two p q) claim) =
      (left : Shape) × (middle : Shape) × (right : Shape)
      × IsValidComparison context p × ConcludesShapes p left middle
      × IsValidComparison context q × ConcludesShapes q middle right
      × (claim ≡ ShapeBelow left right)
  IsValidComparison context (Node ByTypeVariable NoPremise claim) =
      (position : ℕ) × (bound : Shape) × (lookup context position ≡ Some (TypeEntry bound))
      × (claim ≡ ShapeBelow (TypeVariable (Free position)) bound)
  IsValidComparison context (Node ByTop NoPremise claim) = (shape : Shape) × (claim ≡ ShapeBelow shape AnyShape)
  -- the results compare under the parameter of the right function
  IsValidComparison context (Node ByFunction (two p q) claim) =
      (takes : Shape) × (c : Set) × (gives : Shape) × (e : Set)
      × (takes' : Shape) × (c' : Set) × (gives' : Shape) × (e' : Set)
      × IsValidComparison context p × ConcludesTypes p takes' c' takes c
      × IsValidComparison (TermEntry takes' c' ∷ context) q
      × ConcludesTypes q (opened (length context) gives) (opened_set (length context) e)
      (opened (length context) gives') (opened_set (length context) e')
      × (claim ≡ ShapeBelow (FunctionShape takes c gives e) (FunctionShape takes' c' gives' e'))
  IsValidComparison context (Node ByTypeFunction (two p q) claim) =
      (bound : Shape) × (gives : Shape) × (e : Set) × (gives' : Shape) × (e' : Set)
      × IsValidComparison context p × ConcludesShapes p bound bound
      × IsValidComparison (TypeEntry bound ∷ context) q
      × ConcludesTypes q (opened (length context) gives) (opened_set (length context) e)
      (opened (length context) gives') (opened_set (length context) e')
      × (claim ≡ ShapeBelow (TypeFunctionShape bound gives e) (TypeFunctionShape bound gives' e'))
  IsValidComparison context (Node ByBox (one p) claim) =
      (content : Shape) × (c : Set) × (content' : Shape) × (c' : Set)
      × IsValidComparison context p × ConcludesTypes p content c content' c'
      × (claim ≡ ShapeBelow (BoxShape content c) (BoxShape content' c'))
  -- a type is below another where its set is and its shape is
  IsValidComparison context (Node ByCapturing (two p q) claim) =
      (left : CapturingType) × (right : CapturingType)
      × IsValidComparison context p × ConcludesSets p left.set right.set
      × IsValidComparison context q × ConcludesShapes q left.shape right.shape
      × (claim ≡ TypeBelow left right)
  IsValidComparison context _ = ⊥

  -- the premises conclude, one for each element in order, that the set of the element is below the right set
  pub AreBelow : Context → List Elem → Set → Premises → Type 0
  AreBelow context [] right NoPremise = Unit {0}
  AreBelow context (e ∷ elements) right (Premise p rest) =
      IsValidComparison context p × ConcludesSets p (single e) right × AreBelow context elements right rest
  AreBelow context _ right _ = ⊥

-- Each node is an instance of a rule of typing, for the term and in the context of the node, or stands in a valid
-- comparison. The context and the term of the root are given, and those of the others follow from them.
abbrev pub IsValidTyping : Context → Term → Derivation → Type 0
IsValidTyping context term (Node t-var NoPremise claim) =
    (position : ℕ) × (shape : Shape) × (declared : Set)
    × (term ≡ VariableTerm (Free position)) × (lookup context position ≡ Some (TermEntry shape declared))
    × (claim ≡ OfType (capturing shape (variable_set (Free position))))
IsValidTyping context term (Node t-lit NoPremise claim) =
    (literal : Literal) × (term ≡ LiteralTerm literal)
    × (claim ≡ OfType (capturing (BaseShape (base_of literal)) empty))
-- the result is the type of the body with the position closed again
IsValidTyping context term (Node t-abs (one p) claim) =
    (takes : Shape) × (c : Set) × (gives : Shape) × (e : Set) × (body : Term)
    × (term ≡ FunctionTerm takes c body) × IsWellFormedType context (capturing takes c)
    × IsValidTyping (TermEntry takes c ∷ context) (opened_term (length context) body) p × ConcludesType p gives e
    × (claim ≡ OfType (capturing
    (FunctionShape takes c (closed (length context) gives) (closed_set (length context) e))
    (captured_variables (FunctionTerm takes c body))))
IsValidTyping context term (Node t-tabs (one p) claim) =
    (bound : Shape) × (gives : Shape) × (e : Set) × (body : Term)
    × (term ≡ TypeFunctionTerm bound body) × IsWellFormedShape context bound
    × IsValidTyping (TypeEntry bound ∷ context) (opened_term (length context) body) p × ConcludesType p gives e
    × (claim ≡ OfType (capturing
    (TypeFunctionShape bound (closed (length context) gives) (closed_set (length context) e))
    (captured_variables (TypeFunctionTerm bound body))))
IsValidTyping context term (Node t-app (two p q) claim) =
    (function : Var) × (argument : Var) × (takes : Shape) × (c : Set) × (gives : Shape) × (e : Set) × (d : Set)
    × (term ≡ Application function argument)
    × IsValidTyping context (VariableTerm function) p × ConcludesType p (FunctionShape takes c gives e) d
    × IsValidTyping context (VariableTerm argument) q × ConcludesType q takes c
    × (claim ≡ OfType (capturing (act (putting argument) zero gives) (act_set (putting argument) zero e)))
IsValidTyping context term (Node t-tapp (two p q) claim) =
    (function : Var) × (argument : Shape) × (bound : Shape) × (gives : Shape) × (e : Set) × (d : Set)
    × (term ≡ TypeApplication function argument)
    × IsValidTyping context (VariableTerm function) p × ConcludesType p (TypeFunctionShape bound gives e) d
    × IsValidComparison context q × ConcludesShapes q argument bound
    × IsWellFormedShape context argument
    × (claim ≡ OfType (capturing (act (putting_shape argument) zero gives) (act_set (putting_shape argument) zero e)))
IsValidTyping context term (Node t-box (one p) claim) =
    (content : Var) × (shape : Shape) × (c : Set)
    × (term ≡ BoxTerm content)
    × IsValidTyping context (VariableTerm content) p × ConcludesType p shape c
    × HasNoCap c
    × (claim ≡ OfType (capturing (BoxShape shape c) empty))
IsValidTyping context term (Node t-unbox (one p) claim) =
    (box : Var) × (shape : Shape) × (c : Set) × (d : Set)
    × (term ≡ Unboxing (Some c) box)
    × IsValidTyping context (VariableTerm box) p × ConcludesType p (BoxShape shape c) d
    × IsWellFormedSet context c × HasNoCap c
    × (claim ≡ OfType (capturing shape c))
-- the type of the body does not name the variable
IsValidTyping context term (Node t-let (two p q) claim) =
    (note : Note) × (right : Term) × (body : Term) × (bound : Shape) × (c : Set) × (shape : Shape) × (e : Set)
    × (term ≡ Let note right body)
    × IsValidTyping context right p × ConcludesType p bound c
    × IsNoteOf note bound c
    × IsValidTyping (TermEntry bound c ∷ context) (opened_term (length context) body) q × ConcludesType q shape e
    × Meets (without (length context)) zero shape × MeetsInSet (without (length context)) zero e
    × (claim ≡ OfType (capturing shape e))
IsValidTyping context term (Node t-prim (two p q) claim) =
    (operator : Operator) × (left : Var) × (right : Var) × (d : Set) × (d' : Set)
    × (term ≡ Primitive operator left right)
    × IsValidTyping context (VariableTerm left) p × ConcludesType p (BaseShape bases.Int) d
    × IsValidTyping context (VariableTerm right) q × ConcludesType q (BaseShape bases.Int) d'
    × (claim ≡ OfType (capturing (BaseShape (base_given operator)) empty))
IsValidTyping context term (Node t-if (three p q r) claim) =
    (test : Var) × (positive : Term) × (negative : Term) × (shape : Shape) × (c : Set) × (d : Set)
    × (term ≡ Conditional (Written shape c) test positive negative)
    × IsValidTyping context (VariableTerm test) p × ConcludesType p (BaseShape bases.Bool) d
    × IsValidTyping context positive q × ConcludesType q shape c
    × IsValidTyping context negative r × ConcludesType r shape c
    × (claim ≡ OfType (capturing shape c))
IsValidTyping context term (Node t-repeat (two p q) claim) =
    (count : Var) × (function : Var) × (d : Set) × (d' : Set)
    × (term ≡ Repetition count function)
    × IsValidTyping context (VariableTerm count) p × ConcludesType p (BaseShape bases.Int) d
    × IsValidTyping context (VariableTerm function) q
    × ConcludesType q (FunctionShape (BaseShape bases.Int) empty (BaseShape bases.Unit) empty) d'
    × (claim ≡ OfType (capturing (BaseShape bases.Unit) empty))
-- an operation with an argument, and one without
IsValidTyping context term (Node t-op (two p q) claim) =
    (operation : Op) × (receiver : Var) × (argument : Var) × (taken : Base) × (d : Set) × (d' : Set)
    × (term ≡ Operation operation receiver (Some argument))
    × IsValidTyping context (VariableTerm receiver) p × ConcludesType p (BaseShape (base_operated operation)) d
    × (base_taken operation ≡ Some taken)
    × IsValidTyping context (VariableTerm argument) q × ConcludesType q (BaseShape taken) d'
    × (claim ≡ OfType (capturing (BaseShape (base_answered operation)) empty))
IsValidTyping context term (Node t-op (one p) claim) =
    (operation : Op) × (receiver : Var) × (d : Set)
    × (term ≡ Operation operation receiver None)
    × IsValidTyping context (VariableTerm receiver) p × ConcludesType p (BaseShape (base_operated operation)) d
    × (base_taken operation ≡ None)
    × (claim ≡ OfType (capturing (BaseShape (base_answered operation)) empty))
IsValidTyping context term (Node t-boundary (one p) claim) =
    (gives : Shape) × (body : Term)
    × (term ≡ Boundary gives body) × IsWellFormedShape context gives
    × IsValidTyping (TermEntry (ExitShape gives) (single Cap) ∷ context) (opened_term (length context) body) p
    × ConcludesType p gives empty
    × (claim ≡ OfType (capturing gives empty))
IsValidTyping context term (Node t-exit (two p q) claim) =
    (gives : Shape) × (c : Set) × (exit : Var) × (value : Var) × (shape : Shape) × (d : Set)
    × (term ≡ Leave gives c exit value)
    × IsValidTyping context (VariableTerm exit) p × ConcludesType p (ExitShape shape) d
    × IsValidTyping context (VariableTerm value) q × ConcludesType q shape empty
    × IsWellFormedType context (capturing gives c)
    × (claim ≡ OfType (capturing gives c))
IsValidTyping context term (Node t-sub (two p q) claim) =
    (shape : Shape) × (c : Set) × (shape' : Shape) × (c' : Set)
    × IsValidTyping context term p × ConcludesType p shape c
    × IsValidComparison context q × ConcludesTypes q shape c shape' c'
    × IsWellFormedType context (capturing shape' c')
    × (claim ≡ OfType (capturing shape' c'))
IsValidTyping context term _ = ⊥
