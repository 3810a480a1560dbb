-- Actions that respect kinds keep what is well formed, and what is well formed meets what follows from kinds.
use Rattle.std.proofs.Common.{List, ◌∷◌, ◌++◌, length, Option, Some, None}
use Rattle.std.specs.Option.{option_map}
use Rattle.cc_capture.specs.declared.var.Var.{Var}
use Rattle.cc_capture.specs.declared.var.Elem.{Elem}
use Rattle.cc_capture.specs.Sets.{Set}
use Rattle.cc_capture.proofs.Membership.{Member-flat_image}
use Rattle.cc_core.specs.Shapes.{Shape, BaseShape, AnyShape, TypeVariable, FunctionShape, TypeFunctionShape, BoxShape, ExitShape, CapturingType}
use Rattle.cc_core.specs.Terms.{Note, Absent, Written, Own, Term, VariableTerm, LiteralTerm, FunctionTerm, TypeFunctionTerm, BoxTerm, Application, TypeApplication, Unboxing, Let, Primitive, Conditional, Repetition, Operation, Boundary, Leave}
use Rattle.cc_core.specs.Traversal.{Action, act, act_set, act_type, act_note, act_term}
use Rattle.cc_core.specs.WellFormed.{Kind, TermKind, TypeKind}
use Rattle.cc_core.specs.Occurrences.{Condition, Meets, MeetsInSet, MeetsInType, MeetsInNote, MeetsInTerm, MeetsInOptionalSet, MeetsAtOptional}
use Rattle.cc_core.proofs.KindFacts.{IsOfKind, IsKindedElement, IsKindedSet, IsKinded, IsKindedType, IsKindedNote, IsKindedOptionalSet, IsKindedOptional, IsKindedTerm}

-- An action that takes what is of a kind, among binders passed and others beyond, to what is of that kind among the same
-- binders and others.
pub record KeepsKinds (action : Action) (kinds : List Kind) (beyond : List Kind) (new_kinds : List Kind) (new_beyond : List Kind) : Type 0 where
  pub element : (passed : List Kind) (x : Elem) → IsKindedElement kinds (passed ++ beyond) x
      → IsKindedSet new_kinds (passed ++ new_beyond) (action.element (length passed) x)
  pub shape : (passed : List Kind) (v : Var) → IsOfKind kinds (passed ++ beyond) v TypeKind
      → IsKinded new_kinds (passed ++ new_beyond) (action.shape (length passed) v)
  pub variable : (passed : List Kind) (v : Var) → IsOfKind kinds (passed ++ beyond) v TermKind
      → IsOfKind new_kinds (passed ++ new_beyond) (action.variable (length passed) v) TermKind

module _ (action : Action) (kinds beyond new_kinds new_beyond : List Kind) (keeps : KeepsKinds action kinds beyond new_kinds new_beyond) where
  pub IsKindedSet-act : (passed : List Kind) (c : Set) → IsKindedSet kinds (passed ++ beyond) c
      → IsKindedSet new_kinds (passed ++ new_beyond) (act_set action (length passed) c)
  IsKindedSet-act passed c k x h =
      let from = (Member-flat_image (action.element (length passed)) x c).0 h in
      keeps.element passed from.0 (k from.0 from.1) x from.2

  pub IsKinded-act : (passed : List Kind) (s : Shape) → IsKinded kinds (passed ++ beyond) s
      → IsKinded new_kinds (passed ++ new_beyond) (act action (length passed) s)
  IsKinded-act passed (BaseShape b) k = tt
  IsKinded-act passed AnyShape k = tt
  IsKinded-act passed (TypeVariable v) k = keeps.shape passed v k
  IsKinded-act passed (FunctionShape t c u e) k =
      (IsKinded-act passed t k.0, IsKindedSet-act passed c k.1, IsKinded-act (TermKind ∷ passed) u k.2, IsKindedSet-act (TermKind ∷ passed) e k.3)
  IsKinded-act passed (TypeFunctionShape b u e) k =
      (IsKinded-act passed b k.0, IsKinded-act (TypeKind ∷ passed) u k.1, IsKindedSet-act (TypeKind ∷ passed) e k.2)
  IsKinded-act passed (BoxShape t c) k = (IsKinded-act passed t k.0, IsKindedSet-act passed c k.1)
  IsKinded-act passed (ExitShape t) k = IsKinded-act passed t k

  pub IsKindedType-act : (passed : List Kind) (t : CapturingType) → IsKindedType kinds (passed ++ beyond) t
      → IsKindedType new_kinds (passed ++ new_beyond) (act_type action (length passed) t)
  IsKindedType-act passed t k = (IsKinded-act passed t.shape k.0, IsKindedSet-act passed t.set k.1)

  pub IsKindedNote-act : (passed : List Kind) (n : Note) → IsKindedNote kinds (passed ++ beyond) n
      → IsKindedNote new_kinds (passed ++ new_beyond) (act_note action (length passed) n)
  IsKindedNote-act passed Absent k = tt
  IsKindedNote-act passed (Written s c) k = (IsKinded-act passed s k.0, IsKindedSet-act passed c k.1)
  IsKindedNote-act passed (Own s) k = IsKinded-act passed s k

  IsKindedOptionalSet-act : (passed : List Kind) (o : Option Set) → IsKindedOptionalSet kinds (passed ++ beyond) o
      → IsKindedOptionalSet new_kinds (passed ++ new_beyond) (option_map (act_set action (length passed)) o)
  IsKindedOptionalSet-act passed None k = tt
  IsKindedOptionalSet-act passed (Some c) k = IsKindedSet-act passed c k

  IsKindedOptional-act : (passed : List Kind) (o : Option Var) → IsKindedOptional kinds (passed ++ beyond) o
      → IsKindedOptional new_kinds (passed ++ new_beyond) (option_map (action.variable (length passed)) o)
  IsKindedOptional-act passed None k = tt
  IsKindedOptional-act passed (Some v) k = keeps.variable passed v k

  pub IsKindedTerm-act : (passed : List Kind) (t : Term) → IsKindedTerm kinds (passed ++ beyond) t
      → IsKindedTerm new_kinds (passed ++ new_beyond) (act_term action (length passed) t)
  IsKindedTerm-act passed (VariableTerm v) k = keeps.variable passed v k
  IsKindedTerm-act passed (LiteralTerm l) k = tt
  IsKindedTerm-act passed (FunctionTerm s c t) k =
      (IsKinded-act passed s k.0, IsKindedSet-act passed c k.1, IsKindedTerm-act (TermKind ∷ passed) t k.2)
  IsKindedTerm-act passed (TypeFunctionTerm s t) k =
      (IsKinded-act passed s k.0, IsKindedTerm-act (TypeKind ∷ passed) t k.1)
  IsKindedTerm-act passed (BoxTerm v) k = keeps.variable passed v k
  IsKindedTerm-act passed (Application v w) k = (keeps.variable passed v k.0, keeps.variable passed w k.1)
  IsKindedTerm-act passed (TypeApplication v s) k = (keeps.variable passed v k.0, IsKinded-act passed s k.1)
  IsKindedTerm-act passed (Unboxing o v) k = (IsKindedOptionalSet-act passed o k.0, keeps.variable passed v k.1)
  IsKindedTerm-act passed (Let n s t) k =
      (IsKindedNote-act passed n k.0, IsKindedTerm-act passed s k.1, IsKindedTerm-act (TermKind ∷ passed) t k.2)
  IsKindedTerm-act passed (Primitive p v w) k = (keeps.variable passed v k.0, keeps.variable passed w k.1)
  IsKindedTerm-act passed (Conditional n v s t) k =
      (IsKindedNote-act passed n k.0, keeps.variable passed v k.1, IsKindedTerm-act passed s k.2, IsKindedTerm-act passed t k.3)
  IsKindedTerm-act passed (Repetition v w) k = (keeps.variable passed v k.0, keeps.variable passed w k.1)
  IsKindedTerm-act passed (Operation p v o) k = (keeps.variable passed v k.0, IsKindedOptional-act passed o k.1)
  IsKindedTerm-act passed (Boundary s t) k = (IsKinded-act passed s k.0, IsKindedTerm-act (TermKind ∷ passed) t k.1)
  IsKindedTerm-act passed (Leave s c v w) k =
      (IsKinded-act passed s k.0, IsKindedSet-act passed c k.1, keeps.variable passed v k.2, keeps.variable passed w k.3)

-- A condition that each variable of the right kind meets.
pub record KindsGive (kinds : List Kind) (beyond : List Kind) (condition : Condition) : Type 0 where
  pub element : (passed : List Kind) (x : Elem) → IsKindedElement kinds (passed ++ beyond) x
      → condition.element (length passed) x
  pub shape : (passed : List Kind) (v : Var) → IsOfKind kinds (passed ++ beyond) v TypeKind
      → condition.shape (length passed) v
  pub variable : (passed : List Kind) (v : Var) → IsOfKind kinds (passed ++ beyond) v TermKind
      → condition.variable (length passed) v

module _ (kinds beyond : List Kind) (condition : Condition) (give : KindsGive kinds beyond condition) where
  pub IsKindedSet-meets : (passed : List Kind) (c : Set) → IsKindedSet kinds (passed ++ beyond) c
      → MeetsInSet condition (length passed) c
  IsKindedSet-meets passed c k x h = give.element passed x (k x h)

  pub IsKinded-meets : (passed : List Kind) (s : Shape) → IsKinded kinds (passed ++ beyond) s
      → Meets condition (length passed) s
  IsKinded-meets passed (BaseShape b) k = tt
  IsKinded-meets passed AnyShape k = tt
  IsKinded-meets passed (TypeVariable v) k = give.shape passed v k
  IsKinded-meets passed (FunctionShape t c u e) k =
      (IsKinded-meets passed t k.0, IsKindedSet-meets passed c k.1, IsKinded-meets (TermKind ∷ passed) u k.2, IsKindedSet-meets (TermKind ∷ passed) e k.3)
  IsKinded-meets passed (TypeFunctionShape b u e) k =
      (IsKinded-meets passed b k.0, IsKinded-meets (TypeKind ∷ passed) u k.1, IsKindedSet-meets (TypeKind ∷ passed) e k.2)
  IsKinded-meets passed (BoxShape t c) k = (IsKinded-meets passed t k.0, IsKindedSet-meets passed c k.1)
  IsKinded-meets passed (ExitShape t) k = IsKinded-meets passed t k

  pub IsKindedType-meets : (passed : List Kind) (t : CapturingType) → IsKindedType kinds (passed ++ beyond) t
      → MeetsInType condition (length passed) t
  IsKindedType-meets passed t k = (IsKinded-meets passed t.shape k.0, IsKindedSet-meets passed t.set k.1)

  pub IsKindedNote-meets : (passed : List Kind) (n : Note) → IsKindedNote kinds (passed ++ beyond) n
      → MeetsInNote condition (length passed) n
  IsKindedNote-meets passed Absent k = tt
  IsKindedNote-meets passed (Written s c) k = (IsKinded-meets passed s k.0, IsKindedSet-meets passed c k.1)
  IsKindedNote-meets passed (Own s) k = IsKinded-meets passed s k

  IsKindedOptionalSet-meets : (passed : List Kind) (o : Option Set) → IsKindedOptionalSet kinds (passed ++ beyond) o
      → MeetsInOptionalSet condition (length passed) o
  IsKindedOptionalSet-meets passed None k = tt
  IsKindedOptionalSet-meets passed (Some c) k = IsKindedSet-meets passed c k

  IsKindedOptional-meets : (passed : List Kind) (o : Option Var) → IsKindedOptional kinds (passed ++ beyond) o
      → MeetsAtOptional condition (length passed) o
  IsKindedOptional-meets passed None k = tt
  IsKindedOptional-meets passed (Some v) k = give.variable passed v k

  pub IsKindedTerm-meets : (passed : List Kind) (t : Term) → IsKindedTerm kinds (passed ++ beyond) t
      → MeetsInTerm condition (length passed) t
  IsKindedTerm-meets passed (VariableTerm v) k = give.variable passed v k
  IsKindedTerm-meets passed (LiteralTerm l) k = tt
  IsKindedTerm-meets passed (FunctionTerm s c t) k =
      (IsKinded-meets passed s k.0, IsKindedSet-meets passed c k.1, IsKindedTerm-meets (TermKind ∷ passed) t k.2)
  IsKindedTerm-meets passed (TypeFunctionTerm s t) k =
      (IsKinded-meets passed s k.0, IsKindedTerm-meets (TypeKind ∷ passed) t k.1)
  IsKindedTerm-meets passed (BoxTerm v) k = give.variable passed v k
  IsKindedTerm-meets passed (Application v w) k = (give.variable passed v k.0, give.variable passed w k.1)
  IsKindedTerm-meets passed (TypeApplication v s) k = (give.variable passed v k.0, IsKinded-meets passed s k.1)
  IsKindedTerm-meets passed (Unboxing o v) k = (IsKindedOptionalSet-meets passed o k.0, give.variable passed v k.1)
  IsKindedTerm-meets passed (Let n s t) k =
      (IsKindedNote-meets passed n k.0, IsKindedTerm-meets passed s k.1, IsKindedTerm-meets (TermKind ∷ passed) t k.2)
  IsKindedTerm-meets passed (Primitive p v w) k = (give.variable passed v k.0, give.variable passed w k.1)
  IsKindedTerm-meets passed (Conditional n v s t) k =
      (IsKindedNote-meets passed n k.0, give.variable passed v k.1, IsKindedTerm-meets passed s k.2, IsKindedTerm-meets passed t k.3)
  IsKindedTerm-meets passed (Repetition v w) k = (give.variable passed v k.0, give.variable passed w k.1)
  IsKindedTerm-meets passed (Operation p v o) k = (give.variable passed v k.0, IsKindedOptional-meets passed o k.1)
  IsKindedTerm-meets passed (Boundary s t) k =
      (IsKinded-meets passed s k.0, IsKindedTerm-meets (TermKind ∷ passed) t k.1)
  IsKindedTerm-meets passed (Leave s c v w) k =
      (IsKinded-meets passed s k.0, IsKindedSet-meets passed c k.1, give.variable passed v k.2, give.variable passed w k.3)
