-- What is elaborated is well formed in its scope.
use Rattle.std.proofs.Common.{List, [], ◌∷◌, Option, Some, None, refl, ⊎_elim, sym, subst}
use Rattle.cc_base.specs.declared.code.Code.TheVariants.{E10, E11, E19}
use Rattle.cc_base.specs.declared.place.Place.{Place}
use Rattle.cc_capture.specs.declared.var.Var.{Var}
use Rattle.cc_capture.specs.declared.var.Var.TheVariants.{Bound, Free}
use Rattle.cc_capture.specs.declared.var.Elem.{Elem}
use Rattle.cc_capture.specs.declared.var.Elem.TheVariants.{Var as Variable, Cap, Hole}
use Rattle.cc_capture.specs.Sets.{Set, contains, empty, insert}
use Rattle.cc_capture.proofs.Membership.{Member-insert}
use Rattle.cc_core.specs.Shapes as core
use Rattle.cc_core.specs.Shapes.{Shape, CapturingType, capturing}
use Rattle.cc_core.specs.Places.{Spots, spots_at}
use Rattle.cc_core.specs.Substitution.{single}
use Rattle.cc_core.specs.Terms.{Absent, Written, Own, Term, BoxTerm, Unboxing, TypeApplication, Application, Primitive, Repetition, Leave, Operation}
use Rattle.cc_core.specs.WellFormed.{Kind, TermKind}
use Rattle.cc_core.proofs.KindFacts.{IsOfKind, IsKindedElement, IsKindedSet, IsKinded, IsKindedType, IsKindedNote, IsKindedOptionalSet, IsKindedTerm}
use Rattle.cc_grammar.specs.Syntax.{ElementSyntax, SetSyntax, AbsentSet, OmittedSet, WrittenSet, TypeSyntax, CapturingType as CapturingTypeSyntax}
use Rattle.cc_grammar.specs.Syntax.{ShapeSyntax, BaseShape, AnyShape, NamedShape, ExitShape, BoxShape, ParenthesizedShape, FunctionShape, TypeFunctionShape}
use Rattle.cc_grammar.specs.Syntax.{ExprSyntax, NameExpr, LiteralExpr, ParenthesizedExpr, ValExpr, FunExpr, TypeFunExpr, IfExpr, BoundaryExpr, OperatorExpr, BoxExpr, UnboxExpr, CallExpr, TypeCallExpr, AskExpr, TellExpr, ExitExpr, RepeatExpr}
use Rattle.cc_mnf.specs.Steps.{Step, gives}
use Rattle.cc_mnf.specs.Scopes.{Name, Scope, TermBinder, TypeBinder, Unnamed, under, term_variable, type_variable}
use Rattle.cc_mnf.specs.ElaboratedTypes.{named_element, with_elements, elaborated_elements, elaborated_set, parameter_set, noted_set, elaborated_shape, elaborated_type, parameter_type, elaborated_note, optional_note, optional_type, optional_elements}
use Rattle.cc_mnf.specs.Operands.{PlacedTerm, NameAt, name_of, start, Operand, IsVariable, IsNamed, behind, operand_of, under_binder, variable_of, past, named, with_operand, with_operands}
use Rattle.cc_mnf.specs.Elaboration.{elaborated, shape_start}
use Rattle.cc_mnf.proofs.StepFacts.{Always, then_always, gives_always, refuses_always, or_refused_always, new_hole_always}
use Rattle.cc_mnf.proofs.ScopeFacts.{passed, HasNames, term_variable_kind, type_variable_kind}

empty_kinded : (kinds inside : List Kind) → IsKindedSet kinds inside empty
unfolding contains empty
empty_kinded kinds inside x m = cc

insert_kinded : (kinds inside : List Kind) (e : Elem) (c : Set) → IsKindedElement kinds inside e
    → IsKindedSet kinds inside c → IsKindedSet kinds inside (insert e c)
insert_kinded kinds inside e c one others x m =
    ⊎_elim (λ same. subst (IsKindedElement kinds inside) (sym same) one) (λ before. others x before)
    ((Member-insert x e c).0 m)

module _ (kinds : List Kind) where
  element_kinded : (scope : Scope) → HasNames kinds scope.names → (at : Place) (name : Option Name)
      → Always (IsKindedElement kinds (passed scope)) (named_element scope at name)
  element_kinded scope has at None = gives_always Cap tt
  element_kinded scope has at (Some name) =
      then_always (or_refused_always E10 at (term_variable scope name) tt)
      (λ v e. gives_always (Variable v) (term_variable_kind kinds scope has name v e))

  elements_kinded : (scope : Scope) → HasNames kinds scope.names → (set : Set) → IsKindedSet kinds (passed scope) set
      → (elements : List ElementSyntax) → Always (IsKindedSet kinds (passed scope)) (with_elements scope set elements)
  unfolding with_elements
  elements_kinded scope has set so [] = gives_always set so
  elements_kinded scope has set so (first ∷ rest) =
      then_always (element_kinded scope has first.at first.name)
      (λ e one. elements_kinded scope has (insert e set) (insert_kinded kinds (passed scope) e set one so) rest)

  written_kinded : (scope : Scope) → HasNames kinds scope.names → (elements : List ElementSyntax)
      → Always (IsKindedSet kinds (passed scope)) (elaborated_elements scope elements)
  written_kinded scope has elements = elements_kinded scope has empty (empty_kinded kinds (passed scope)) elements

  set_kinded : (scope : Scope) → HasNames kinds scope.names → (set : SetSyntax)
      → Always (IsKindedSet kinds (passed scope)) (elaborated_set scope set)
  set_kinded scope has AbsentSet = gives_always empty (empty_kinded kinds (passed scope))
  set_kinded scope has (OmittedSet at) = refuses_always E19 at tt
  set_kinded scope has (WrittenSet elements) = written_kinded scope has elements

  parameter_set_kinded : (scope : Scope) → HasNames kinds scope.names → (set : SetSyntax)
      → Always (IsKindedSet kinds (passed scope)) (parameter_set scope set)
  parameter_set_kinded scope has AbsentSet = gives_always empty (empty_kinded kinds (passed scope))
  parameter_set_kinded scope has (OmittedSet at) =
      then_always new_hole_always
      (λ hole u. gives_always (single (Hole hole))
      (insert_kinded kinds (passed scope) (Hole hole) empty tt (empty_kinded kinds (passed scope))))
  parameter_set_kinded scope has (WrittenSet elements) = written_kinded scope has elements

  noted_set_kinded : (scope : Scope) → HasNames kinds scope.names → (shape : Shape)
      → IsKinded kinds (passed scope) shape → (set : SetSyntax)
      → Always (IsKindedNote kinds (passed scope)) (noted_set scope shape set)
  noted_set_kinded scope has shape so AbsentSet =
      gives_always (Written shape empty) (so, empty_kinded kinds (passed scope))
  noted_set_kinded scope has shape so (OmittedSet at) = gives_always (Own shape) so
  noted_set_kinded scope has shape so (WrittenSet elements) =
      then_always (written_kinded scope has elements) (λ c h. gives_always (Written shape c) (so, h))

  mutual
    unfolding elaborated_shape elaborated_type

    pub shape_kinded : (scope : Scope) → HasNames kinds scope.names → (shape : ShapeSyntax)
        → Always (IsKinded kinds (passed scope)) (elaborated_shape scope shape)
    shape_kinded scope has (BaseShape at base) = gives_always (core.BaseShape base) tt
    shape_kinded scope has (AnyShape at) = gives_always core.AnyShape tt
    shape_kinded scope has (NamedShape at name) =
        then_always (or_refused_always E11 at (type_variable scope name) tt)
        (λ v e. gives_always (core.TypeVariable v) (type_variable_kind kinds scope name v e))
    shape_kinded scope has (ExitShape at inner) =
        then_always (shape_kinded scope has inner) (λ s h. gives_always (core.ExitShape s) h)
    shape_kinded scope has (BoxShape at inner) =
        then_always (type_kinded scope has inner) (λ t h. gives_always (core.BoxShape t.shape t.set) (h.0, h.1))
    shape_kinded scope has (ParenthesizedShape at inner) = shape_kinded scope has inner
    shape_kinded scope has (FunctionShape at parameter from to) =
        then_always (type_kinded scope has from)
        (λ t h. then_always (type_kinded (under (TermBinder parameter) scope) has to)
        (λ u k. gives_always (core.FunctionShape t.shape t.set u.shape u.set) (h.0, h.1, k.0, k.1)))
    shape_kinded scope has (TypeFunctionShape at parameter below to) =
        then_always (shape_kinded scope has below)
        (λ b h. then_always (type_kinded (under (TypeBinder parameter) scope) has to)
        (λ u k. gives_always (core.TypeFunctionShape b u.shape u.set) (h, k.0, k.1)))

    pub type_kinded : (scope : Scope) → HasNames kinds scope.names → (type : TypeSyntax)
        → Always (IsKindedType kinds (passed scope)) (elaborated_type scope type)
    type_kinded scope has (CapturingTypeSyntax at inner captures) =
        then_always (shape_kinded scope has inner)
        (λ s h. then_always (set_kinded scope has captures) (λ c k. gives_always (capturing s c) (h, k)))

  pub parameter_kinded : (scope : Scope) → HasNames kinds scope.names → (type : TypeSyntax)
      → Always (IsKindedType kinds (passed scope)) (parameter_type scope type)
  parameter_kinded scope has (CapturingTypeSyntax at inner captures) =
      then_always (shape_kinded scope has inner)
      (λ s h. then_always (parameter_set_kinded scope has captures) (λ c k. gives_always (capturing s c) (h, k)))

  pub note_kinded : (scope : Scope) → HasNames kinds scope.names → (type : TypeSyntax)
      → Always (IsKindedNote kinds (passed scope)) (elaborated_note scope type)
  note_kinded scope has (CapturingTypeSyntax at inner captures) =
      then_always (shape_kinded scope has inner) (λ s h. noted_set_kinded scope has s h captures)

  pub optional_note_kinded : (scope : Scope) → HasNames kinds scope.names → (written : Option TypeSyntax)
      → Always (IsKindedNote kinds (passed scope)) (optional_note scope written)
  optional_note_kinded scope has None = gives_always Absent tt
  optional_note_kinded scope has (Some written) = note_kinded scope has written

  pub optional_type_kinded : (scope : Scope) → HasNames kinds scope.names → (written : Option TypeSyntax)
      → Always (IsKindedNote kinds (passed scope)) (optional_type scope written)
  optional_type_kinded scope has None = gives_always Absent tt
  optional_type_kinded scope has (Some written) =
      then_always (type_kinded scope has written) (λ t h. gives_always (Written t.shape t.set) (h.0, h.1))

  optional_elements_kinded : (scope : Scope) → HasNames kinds scope.names → (elements : Option (List ElementSyntax))
      → Always (IsKindedOptionalSet kinds (passed scope)) (optional_elements scope elements)
  optional_elements_kinded scope has None = gives_always None tt
  optional_elements_kinded scope has (Some elements) =
      then_always (written_kinded scope has elements) (λ c h. gives_always (Some c) h)

  -- operands: a variable where there is a name, and a term where there is none
  abbrev pub IsOperand : Scope → Option NameAt → Operand → Type 0
  IsOperand scope (Some name) (IsVariable v) = IsOfKind kinds (passed scope) v TermKind
  IsOperand scope (Some name) (IsNamed t at) = ⊥
  IsOperand scope None (IsVariable v) = ⊥
  IsOperand scope None (IsNamed t at) = IsKindedTerm kinds (passed scope) t.term

  behind_names : (scope : Scope) (name : Option NameAt) → HasNames kinds scope.names
      → HasNames kinds (behind name scope).names
  behind_names scope (Some name) has = has
  behind_names scope None has = has

  operand_kinded : (scope : Scope) → HasNames kinds scope.names → (operand : ExprSyntax) (name : Option NameAt)
      (step : Step PlacedTerm) → Always (λ t. IsKindedTerm kinds (passed scope) t.term) step
      → Always (IsOperand scope name) (operand_of scope operand name step)
  operand_kinded scope has operand (Some name) step so =
      then_always (or_refused_always E10 name.at (term_variable scope name.name) tt)
      (λ v e. gives_always (IsVariable v) (term_variable_kind kinds scope has name.name v e))
  operand_kinded scope has operand None step so =
      then_always so (λ t h. gives_always (IsNamed t (start operand)) h)

  variable_kinded : (scope : Scope) (name : Option NameAt) (o : Operand) → IsOperand scope name o
      → IsOfKind kinds (passed (behind name scope)) (variable_of o) TermKind
  variable_kinded scope (Some name) (IsVariable v) h = h
  variable_kinded scope (Some name) (IsNamed t at) h = absurd h
  variable_kinded scope None (IsVariable v) h = absurd h
  variable_kinded scope None (IsNamed t at) h = refl

  under_kinded : (scope : Scope) (v : Var) → IsOfKind kinds (passed scope) v TermKind
      → IsOfKind kinds (passed (under Unnamed scope)) (under_binder v) TermKind
  under_kinded scope (Bound index) h = h
  under_kinded scope (Free position) h = h

  past_kinded : (scope : Scope) (name : Option NameAt) (o : Operand) (v : Var) → IsOperand scope name o
      → IsOfKind kinds (passed scope) v TermKind → IsOfKind kinds (passed (behind name scope)) (past o v) TermKind
  past_kinded scope (Some name) (IsVariable w) v h k = k
  past_kinded scope (Some name) (IsNamed t at) v h k = absurd h
  past_kinded scope None (IsVariable w) v h k = absurd h
  past_kinded scope None (IsNamed t at) v h k = under_kinded scope v k

  named_kinded : (scope : Scope) (name : Option NameAt) (o : Operand) (at : Place) (construct : PlacedTerm)
      → IsOperand scope name o → IsKindedTerm kinds (passed (behind name scope)) construct.term
      → IsKindedTerm kinds (passed scope) (named at o construct).term
  named_kinded scope (Some name) (IsVariable v) at construct h k = k
  named_kinded scope (Some name) (IsNamed t from) at construct h k = absurd h
  named_kinded scope None (IsVariable v) at construct h k = absurd h
  named_kinded scope None (IsNamed t from) at construct h k = (tt, h, k)

  -- a construct of one operand, and of two
  one_kinded : (scope : Scope) (name : Option NameAt) (o : Operand) (construct : Var → Term) (spots : Spots)
      → IsOperand scope name o
      → ((v : Var) → IsOfKind kinds (passed (behind name scope)) v TermKind
      → IsKindedTerm kinds (passed (behind name scope)) (construct v))
      → Always (λ t. IsKindedTerm kinds (passed scope) t.term) (gives (with_operand o construct spots))
  one_kinded scope name o construct spots h k =
      gives_always (with_operand o construct spots)
      (named_kinded scope name o spots.at _ h (k (variable_of o) (variable_kinded scope name o h)))

  two_kinded : (scope : Scope) (one other : Option NameAt) (x y : Operand) (construct : Var → Var → Term)
      (spots : Spots) → IsOperand scope one x → IsOperand (behind one scope) other y
      → ((v w : Var) → IsOfKind kinds (passed (behind other (behind one scope))) v TermKind
      → IsOfKind kinds (passed (behind other (behind one scope))) w TermKind
      → IsKindedTerm kinds (passed (behind other (behind one scope))) (construct v w))
      → Always (λ t. IsKindedTerm kinds (passed scope) t.term) (gives (with_operands x y construct spots))
  two_kinded scope one other x y construct spots h k so =
      let inner : Scope = behind one scope in
      let first = past_kinded inner other y (variable_of x) k (variable_kinded scope one x h) in
      let second = variable_kinded inner other y k in
      gives_always (with_operands x y construct spots)
      (named_kinded scope one x spots.at _ h
      (named_kinded inner other y spots.at _ k (so (past y (variable_of x)) (variable_of y) first second)))

  pub kinded : (scope : Scope) → HasNames kinds scope.names → (at : Place) (e : ExprSyntax)
      → Always (λ t. IsKindedTerm kinds (passed scope) t.term) (elaborated scope at e)
  unfolding elaborated
  kinded scope has at (NameExpr own name) =
      then_always (or_refused_always E10 own (term_variable scope name) tt)
      (λ v e. gives_always _ (term_variable_kind kinds scope has name v e))
  kinded scope has at (LiteralExpr own literal) = gives_always _ tt
  kinded scope has at (ParenthesizedExpr own inner) = kinded scope has at inner
  kinded scope has at (ValExpr own name written right body) =
      then_always (optional_note_kinded scope has written)
      (λ n h. then_always (kinded scope has (start right) right)
      (λ r k. then_always (kinded (under (TermBinder name) scope) has (start body) body)
      (λ b l. gives_always _ (h, k, l))))
  kinded scope has at (FunExpr own parameter from body) =
      then_always (parameter_kinded scope has from)
      (λ t h. then_always (kinded (under (TermBinder parameter) scope) has (start body) body)
      (λ b k. gives_always _ (h.0, h.1, k)))
  kinded scope has at (TypeFunExpr own parameter below body) =
      then_always (shape_kinded scope has below)
      (λ t h. then_always (kinded (under (TypeBinder parameter) scope) has (start body) body)
      (λ b k. gives_always _ (h, k)))
  kinded scope has at (IfExpr own type test positive negative) =
      then_always (note_kinded (behind (name_of test) scope) (behind_names scope (name_of test) has) type)
      (λ n h. then_always (operand_kinded scope has test (name_of test) _ (kinded scope has (start test) test))
      (λ c k. then_always (kinded (behind (name_of test) scope) (behind_names scope (name_of test) has)
      (start positive) positive)
      (λ p l. then_always (kinded (behind (name_of test) scope) (behind_names scope (name_of test) has)
      (start negative) negative)
      (λ q m. gives_always _
      (named_kinded scope (name_of test) c at _ k
      (h, variable_kinded scope (name_of test) c k, l, m))))))
  kinded scope has at (BoundaryExpr own type exit body) =
      then_always (shape_kinded scope has type)
      (λ t h. then_always (kinded (under (TermBinder exit) scope) has (start body) body)
      (λ b k. gives_always _ (h, k)))
  kinded scope has at (OperatorExpr own operator x y) =
      let inner : HasNames kinds (behind (name_of x) scope).names = behind_names scope (name_of x) has in
      then_always (operand_kinded scope has x (name_of x) _ (kinded scope has (start x) x))
      (λ f h. then_always
      (operand_kinded (behind (name_of x) scope) inner y (name_of y) _
      (kinded (behind (name_of x) scope) inner (start y) y))
      (λ a k. two_kinded scope (name_of x) (name_of y) f a (Primitive operator) (spots_at at (start x) (start y)) h k
      (λ v w p q. (p, q))))
  kinded scope has at (BoxExpr own x) =
      then_always (operand_kinded scope has x (name_of x) _ (kinded scope has (start x) x))
      (λ f h. one_kinded scope (name_of x) f BoxTerm (spots_at at at at) h (λ v p. p))
  kinded scope has at (UnboxExpr own captures x) =
      let inner : HasNames kinds (behind (name_of x) scope).names = behind_names scope (name_of x) has in
      then_always (optional_elements_kinded (behind (name_of x) scope) inner captures)
      (λ c k. then_always (operand_kinded scope has x (name_of x) _ (kinded scope has (start x) x))
      (λ f h. one_kinded scope (name_of x) f (Unboxing c) (spots_at at (start x) own) h (λ v p. (k, p))))
  kinded scope has at (CallExpr own x y) =
      let inner : HasNames kinds (behind (name_of x) scope).names = behind_names scope (name_of x) has in
      then_always (operand_kinded scope has x (name_of x) _ (kinded scope has (start x) x))
      (λ f h. then_always
      (operand_kinded (behind (name_of x) scope) inner y (name_of y) _
      (kinded (behind (name_of x) scope) inner (start y) y))
      (λ a k. two_kinded scope (name_of x) (name_of y) f a Application (spots_at at (start x) (start y)) h k
      (λ v w p q. (p, q))))
  kinded scope has at (TypeCallExpr own x argument) =
      let inner : HasNames kinds (behind (name_of x) scope).names = behind_names scope (name_of x) has in
      then_always (operand_kinded scope has x (name_of x) _ (kinded scope has (start x) x))
      (λ f h. then_always (shape_kinded (behind (name_of x) scope) inner argument)
      (λ s k. one_kinded scope (name_of x) f (λ r. TypeApplication r s) (spots_at at (start x) (shape_start argument)) h
      (λ v p. (p, k))))
  kinded scope has at (AskExpr own operation x) =
      then_always (operand_kinded scope has x (name_of x) _ (kinded scope has (start x) x))
      (λ f h. one_kinded scope (name_of x) f (λ r. Operation operation r None) (spots_at at (start x) at) h
      (λ v p. (p, tt)))
  kinded scope has at (TellExpr own operation x y) =
      let inner : HasNames kinds (behind (name_of x) scope).names = behind_names scope (name_of x) has in
      then_always (operand_kinded scope has x (name_of x) _ (kinded scope has (start x) x))
      (λ f h. then_always
      (operand_kinded (behind (name_of x) scope) inner y (name_of y) _
      (kinded (behind (name_of x) scope) inner (start y) y))
      (λ a k. two_kinded scope (name_of x) (name_of y) f a (λ r s. Operation operation r (Some s))
      (spots_at at (start x) (start y)) h k
      (λ v w p q. (p, q))))
  kinded scope has at (ExitExpr own type x y) =
      let inner : HasNames kinds (behind (name_of x) scope).names = behind_names scope (name_of x) has in
      let innermost : HasNames kinds (behind (name_of y) (behind (name_of x) scope)).names =
      behind_names (behind (name_of x) scope) (name_of y) inner in
      then_always (type_kinded (behind (name_of y) (behind (name_of x) scope)) innermost type)
      (λ t l. then_always (operand_kinded scope has x (name_of x) _ (kinded scope has (start x) x))
      (λ f h. then_always
      (operand_kinded (behind (name_of x) scope) inner y (name_of y) _
      (kinded (behind (name_of x) scope) inner (start y) y))
      (λ a k. two_kinded scope (name_of x) (name_of y) f a (Leave t.shape t.set) (spots_at at (start x) (start y)) h k
      (λ v w p q. (l.0, l.1, p, q)))))
  kinded scope has at (RepeatExpr own x y) =
      let inner : HasNames kinds (behind (name_of x) scope).names = behind_names scope (name_of x) has in
      then_always (operand_kinded scope has x (name_of x) _ (kinded scope has (start x) x))
      (λ f h. then_always
      (operand_kinded (behind (name_of x) scope) inner y (name_of y) _
      (kinded (behind (name_of x) scope) inner (start y) y))
      (λ a k. two_kinded scope (name_of x) (name_of y) f a Repetition (spots_at at (start x) (start y)) h k
      (λ v w p q. (p, q))))
