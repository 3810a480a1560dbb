-- A text without its layout is elaborated alike.
use Rattle.std.proofs.Common.{◌≡◌, zero, Bool, true, false, List, [], ◌∷◌, ◌++◌, map, Option, Some, None, refl, sym, ap, ◌∙◌, if◌then◌else◌}
use Rattle.std.specs.List.{list_any}
use Rattle.std.specs.Option.{option_map}
use Rattle.std.specs.Str.{bytes_eq}
use Rattle.cc_base.specs.declared.code.Code.TheVariants.{E09, E10, E11, E12, E19}
use Rattle.cc_base.specs.declared.place.Place.{Place}
use Rattle.cc_capture.specs.declared.var.Var.{Var}
use Rattle.cc_capture.specs.declared.var.Elem.TheVariants.{Var as Variable, Cap, Hole}
use Rattle.cc_capture.specs.Sets.{Set, empty, insert}
use Rattle.cc_core.specs.Shapes as core
use Rattle.cc_core.specs.Shapes.{Shape, CapturingType, capturing}
use Rattle.cc_core.specs.Places.{Spots, spots_at}
use Rattle.cc_core.specs.Substitution.{single}
use Rattle.cc_core.specs.Terms.{Absent, Written, Own, Term, VariableTerm, LiteralTerm, FunctionTerm, TypeFunctionTerm, BoxTerm, Application, TypeApplication, Unboxing, Let, Primitive, Conditional, Repetition, Operation, Boundary, Leave}
use Rattle.cc_grammar.specs.Syntax.{ElementSyntax, SetSyntax, AbsentSet, OmittedSet, WrittenSet, TypeSyntax, CapturingType as CapturingTypeSyntax}
use Rattle.cc_grammar.specs.Syntax.{ShapeSyntax, BaseShape, AnyShape, NamedShape, ExitShape, BoxShape, ParenthesizedShape, FunctionShape, TypeFunctionShape}
use Rattle.cc_grammar.specs.Syntax.{ExprSyntax, NameExpr, LiteralExpr, ParenthesizedExpr, ValExpr, FunExpr, TypeFunExpr, IfExpr, BoundaryExpr, OperatorExpr, BoxExpr, UnboxExpr, CallExpr, TypeCallExpr, AskExpr, TellExpr, ExitExpr, RepeatExpr}
use Rattle.cc_grammar.specs.Syntax.{ImportSyntax, DefSyntax, ModuleSyntax}
use Rattle.cc_mnf.specs.Steps.{ElaborationOutcome, Refused, Found, Step, gives, refuses}
use Rattle.cc_mnf.specs.Scopes.{Name, Scope, TermBinder, TypeBinder, outermost, under, term_variable, type_variable}
use Rattle.cc_mnf.specs.ElaboratedTypes.{named_element, with_elements, elaborated_elements, elaborated_set, parameter_set, noted_set, elaborated_shape, elaborated_type, parameter_type, elaborated_note, optional_note, optional_type, optional_elements}
use Rattle.cc_mnf.specs.Operands.{PlacedTerm, leaf, NameAt, name_of, start, Operand, IsVariable, IsNamed, behind, operand_of, under_binder, variable_of, past, named, with_operand, with_operands}
use Rattle.cc_mnf.specs.Elaboration.{elaborated, shape_start}
use Rattle.cc_mnf.specs.ElaboratedModules.{CoreDefinition, CoreModule, IsElaborated, IsRefused, with_name, with_imports, is_right_side, or_no_value, elaborated_definition, elaborated_definitions, elaborated_module, elaboration_of, elaboration}
use Rattle.cc_mnf.specs.Layout as law
use Rattle.cc_mnf.specs.Layout.{here, bare_element, bare_set, bare_type, bare_shape, bare_expression, bare_import, bare_definition, bare_text, unplaced_definition, unplaced}
use Rattle.cc_mnf.proofs.AlikeFacts.{AreAlike, Alike, then_alike, give_alike, refuse_alike, or_refused_alike, new_holes_alike, own_holes_alike}

-- they find the same
abbrev Same : {A : Type 0} → A → A → Type 0
Same v w = v ≡ w

element_alike : (s t : Scope) → s ≡ t → (at : Place) (name : Option Name)
    → Alike Same (named_element s at name) (named_element t here name)
element_alike s t e at None = give_alike Cap Cap refl
element_alike s t e at (Some name) =
    then_alike (or_refused_alike E10 at here (term_variable s name) (term_variable t name)
    (ap (λ u. term_variable u name) e))
    (λ v w h. give_alike (Variable v) (Variable w) (ap Variable h))

elements_alike : (s t : Scope) → s ≡ t → (c d : Set) → c ≡ d → (elements : List ElementSyntax)
    → Alike Same (with_elements s c elements) (with_elements t d (map bare_element elements))
unfolding with_elements
elements_alike s t e c d h [] = give_alike c d h
elements_alike s t e c d h (first ∷ rest) =
    then_alike (element_alike s t e first.at first.name)
    (λ v w k. elements_alike s t e (insert v c) (insert w d) (λ i. insert (k i) (h i)) rest)

written_alike : (s t : Scope) → s ≡ t → (elements : List ElementSyntax)
    → Alike Same (elaborated_elements s elements) (elaborated_elements t (map bare_element elements))
written_alike s t e elements = elements_alike s t e empty empty refl elements

set_alike : (s t : Scope) → s ≡ t → (set : SetSyntax)
    → Alike Same (elaborated_set s set) (elaborated_set t (bare_set set))
set_alike s t e AbsentSet = give_alike empty empty refl
set_alike s t e (OmittedSet at) = refuse_alike E19 at here
set_alike s t e (WrittenSet elements) = written_alike s t e elements

parameter_set_alike : (s t : Scope) → s ≡ t → (set : SetSyntax)
    → Alike Same (parameter_set s set) (parameter_set t (bare_set set))
parameter_set_alike s t e AbsentSet = give_alike empty empty refl
parameter_set_alike s t e (OmittedSet at) =
    then_alike new_holes_alike
    (λ v w h. give_alike (single (Hole v)) (single (Hole w)) (ap (λ n. single (Hole n)) h))
parameter_set_alike s t e (WrittenSet elements) = written_alike s t e elements

noted_set_alike : (s t : Scope) → s ≡ t → (one other : Shape) → one ≡ other → (set : SetSyntax)
    → Alike Same (noted_set s one set) (noted_set t other (bare_set set))
noted_set_alike s t e one other h AbsentSet =
    give_alike (Written one empty) (Written other empty) (λ i. Written (h i) empty)
noted_set_alike s t e one other h (OmittedSet at) = give_alike (Own one) (Own other) (ap Own h)
noted_set_alike s t e one other h (WrittenSet elements) =
    then_alike (written_alike s t e elements)
    (λ v w k. give_alike (Written one v) (Written other w) (λ i. Written (h i) (k i)))

mutual
  unfolding elaborated_shape elaborated_type

  shape_alike : (s t : Scope) → s ≡ t → (shape : ShapeSyntax)
      → Alike Same (elaborated_shape s shape) (elaborated_shape t (bare_shape shape))
  shape_alike s t e (BaseShape at base) = give_alike (core.BaseShape base) (core.BaseShape base) refl
  shape_alike s t e (AnyShape at) = give_alike core.AnyShape core.AnyShape refl
  shape_alike s t e (NamedShape at name) =
      then_alike (or_refused_alike E11 at here (type_variable s name) (type_variable t name)
      (ap (λ u. type_variable u name) e))
      (λ v w h. give_alike (core.TypeVariable v) (core.TypeVariable w) (ap core.TypeVariable h))
  shape_alike s t e (ExitShape at inner) =
      then_alike (shape_alike s t e inner)
      (λ v w h. give_alike (core.ExitShape v) (core.ExitShape w) (ap core.ExitShape h))
  shape_alike s t e (BoxShape at inner) =
      then_alike (type_alike s t e inner)
      (λ v w h. give_alike (core.BoxShape v.shape v.set) (core.BoxShape w.shape w.set)
      (ap (λ type. core.BoxShape type.shape type.set) h))
  shape_alike s t e (ParenthesizedShape at inner) = shape_alike s t e inner
  shape_alike s t e (FunctionShape at parameter from to) =
      then_alike (type_alike s t e from)
      (λ v w h. then_alike
      (type_alike (under (TermBinder parameter) s) (under (TermBinder parameter) t)
      (ap (under (TermBinder parameter)) e) to)
      (λ x y k. give_alike (core.FunctionShape v.shape v.set x.shape x.set)
      (core.FunctionShape w.shape w.set y.shape y.set)
      (λ i. core.FunctionShape (h i).shape (h i).set (k i).shape (k i).set)))
  shape_alike s t e (TypeFunctionShape at parameter below to) =
      then_alike (shape_alike s t e below)
      (λ v w h. then_alike
      (type_alike (under (TypeBinder parameter) s) (under (TypeBinder parameter) t)
      (ap (under (TypeBinder parameter)) e) to)
      (λ x y k. give_alike (core.TypeFunctionShape v x.shape x.set) (core.TypeFunctionShape w y.shape y.set)
      (λ i. core.TypeFunctionShape (h i) (k i).shape (k i).set)))

  type_alike : (s t : Scope) → s ≡ t → (type : TypeSyntax)
      → Alike Same (elaborated_type s type) (elaborated_type t (bare_type type))
  type_alike s t e (CapturingTypeSyntax at inner captures) =
      then_alike (shape_alike s t e inner)
      (λ v w h. then_alike (set_alike s t e captures)
      (λ c d k. give_alike (capturing v c) (capturing w d) (λ i. capturing (h i) (k i))))

parameter_alike : (s t : Scope) → s ≡ t → (type : TypeSyntax)
    → Alike Same (parameter_type s type) (parameter_type t (bare_type type))
parameter_alike s t e (CapturingTypeSyntax at inner captures) =
    then_alike (shape_alike s t e inner)
    (λ v w h. then_alike (parameter_set_alike s t e captures)
    (λ c d k. give_alike (capturing v c) (capturing w d) (λ i. capturing (h i) (k i))))

note_alike : (s t : Scope) → s ≡ t → (type : TypeSyntax)
    → Alike Same (elaborated_note s type) (elaborated_note t (bare_type type))
note_alike s t e (CapturingTypeSyntax at inner captures) =
    then_alike (shape_alike s t e inner) (λ v w h. noted_set_alike s t e v w h captures)

optional_note_alike : (s t : Scope) → s ≡ t → (written : Option TypeSyntax)
    → Alike Same (optional_note s written) (optional_note t (option_map bare_type written))
optional_note_alike s t e None = give_alike Absent Absent refl
optional_note_alike s t e (Some written) = note_alike s t e written

optional_type_alike : (s t : Scope) → s ≡ t → (written : Option TypeSyntax)
    → Alike Same (optional_type s written) (optional_type t (option_map bare_type written))
optional_type_alike s t e None = give_alike Absent Absent refl
optional_type_alike s t e (Some written) =
    then_alike (type_alike s t e written)
    (λ v w h. give_alike (Written v.shape v.set) (Written w.shape w.set) (ap (λ type. Written type.shape type.set) h))

optional_elements_alike : (s t : Scope) → s ≡ t → (elements : Option (List ElementSyntax))
    → Alike Same (optional_elements s elements) (optional_elements t (option_map (map bare_element) elements))
optional_elements_alike s t e None = give_alike None None refl
optional_elements_alike s t e (Some elements) =
    then_alike (written_alike s t e elements) (λ c d h. give_alike (Some c) (Some d) (ap Some h))

-- names of operands
abbrev SameName : Option NameAt → Option NameAt → Type 0
SameName (Some name) (Some other) = name.name ≡ other.name
SameName (Some name) None = ⊥
SameName None (Some other) = ⊥
SameName None None = Unit {0}

same_name : (e : ExprSyntax) → SameName (name_of e) (name_of (bare_expression e))
same_name (NameExpr at name) = refl
same_name (LiteralExpr at literal) = tt
same_name (ParenthesizedExpr at inner) = same_name inner
same_name (ValExpr at name written right body) = tt
same_name (FunExpr at parameter takes body) = tt
same_name (TypeFunExpr at parameter bound body) = tt
same_name (IfExpr at gives test positive negative) = tt
same_name (BoundaryExpr at gives exit body) = tt
same_name (OperatorExpr at operator left right) = tt
same_name (BoxExpr at content) = tt
same_name (UnboxExpr at captures content) = tt
same_name (CallExpr at function argument) = tt
same_name (TypeCallExpr at function argument) = tt
same_name (AskExpr at operation receiver) = tt
same_name (TellExpr at operation receiver argument) = tt
same_name (ExitExpr at gives exit value) = tt
same_name (RepeatExpr at count function) = tt

behind_same : (s t : Scope) → s ≡ t → (m n : Option NameAt) → SameName m n → behind m s ≡ behind n t
behind_same s t e (Some name) (Some other) h = e
behind_same s t e (Some name) None h = absurd h
behind_same s t e None (Some other) h = absurd h
behind_same s t e None None h = ap (behind None) e

-- terms, but for places
abbrev SameTerm : PlacedTerm → PlacedTerm → Type 0
SameTerm one other = one.term ≡ other.term

abbrev SameOperand : Operand → Operand → Type 0
SameOperand (IsVariable v) (IsVariable w) = v ≡ w
SameOperand (IsVariable v) (IsNamed u at) = ⊥
SameOperand (IsNamed t at) (IsVariable w) = ⊥
SameOperand (IsNamed t at) (IsNamed u there) = t.term ≡ u.term

operand_alike : (s t : Scope) → s ≡ t → (x y : ExprSyntax) (m n : Option NameAt) → SameName m n
    → (one other : Step PlacedTerm) → Alike SameTerm one other
    → Alike SameOperand (operand_of s x m one) (operand_of t y n other)
operand_alike s t e x y (Some name) (Some other) h one another k =
    then_alike
    (or_refused_alike E10 name.at other.at (term_variable s name.name) (term_variable t other.name)
    (λ i. term_variable (e i) (h i)))
    (λ v w l. give_alike (IsVariable v) (IsVariable w) l)
operand_alike s t e x y (Some name) None h one another k = absurd h
operand_alike s t e x y None (Some other) h one another k = absurd h
operand_alike s t e x y None None h one another k =
    then_alike k (λ v w l. give_alike (IsNamed v (start x)) (IsNamed w (start y)) l)

variable_same : (o p : Operand) → SameOperand o p → variable_of o ≡ variable_of p
variable_same (IsVariable v) (IsVariable w) h = h
variable_same (IsVariable v) (IsNamed u at) h = absurd h
variable_same (IsNamed t at) (IsVariable w) h = absurd h
variable_same (IsNamed t at) (IsNamed u there) h = refl

past_same : (o p : Operand) → SameOperand o p → (v w : Var) → v ≡ w → past o v ≡ past p w
past_same (IsVariable x) (IsVariable y) h v w e = e
past_same (IsVariable x) (IsNamed u at) h v w e = absurd h
past_same (IsNamed t at) (IsVariable y) h v w e = absurd h
past_same (IsNamed t at) (IsNamed u there) h v w e = ap under_binder e

named_same : (o p : Operand) → SameOperand o p → (at there : Place) (x y : PlacedTerm) → SameTerm x y
    → SameTerm (named at o x) (named there p y)
named_same (IsVariable v) (IsVariable w) h at there x y k = k
named_same (IsVariable v) (IsNamed u from) h at there x y k = absurd h
named_same (IsNamed t from) (IsVariable w) h at there x y k = absurd h
named_same (IsNamed t from) (IsNamed u other) h at there x y k = λ i. Let Absent (h i) (k i)

one_alike : (o p : Operand) → SameOperand o p → (f g : Var → Term) → ((v : Var) → f v ≡ g v) → (spots others : Spots)
    → Alike SameTerm (gives (with_operand o f spots)) (gives (with_operand p g others))
one_alike o p h f g k spots others =
    give_alike (with_operand o f spots) (with_operand p g others)
    (named_same o p h spots.at others.at _ _ (k (variable_of o) ∙ ap g (variable_same o p h)))

two_alike : (o p : Operand) → SameOperand o p → (q r : Operand) → SameOperand q r → (f g : Var → Var → Term)
    → ((v w : Var) → f v w ≡ g v w) → (spots others : Spots)
    → Alike SameTerm (gives (with_operands o q f spots)) (gives (with_operands p r g others))
two_alike o p h q r k f g l spots others =
    let first : past q (variable_of o) ≡ past r (variable_of p) =
    past_same q r k (variable_of o) (variable_of p) (variable_same o p h) in
    let second : variable_of q ≡ variable_of r = variable_same q r k in
    give_alike (with_operands o q f spots) (with_operands p r g others)
    (named_same o p h spots.at others.at _ _
    (named_same q r k spots.at others.at _ _
    (l (past q (variable_of o)) (variable_of q) ∙ (λ i. g (first i) (second i)))))

behind_alike : (s t : Scope) → s ≡ t → (x : ExprSyntax)
    → behind (name_of x) s ≡ behind (name_of (bare_expression x)) t
behind_alike s t e x = behind_same s t e (name_of x) (name_of (bare_expression x)) (same_name x)

operand_of_alike : (s t : Scope) → s ≡ t → (x : ExprSyntax)
    → Alike SameTerm (elaborated s (start x) x) (elaborated t (start (bare_expression x)) (bare_expression x))
    → Alike SameOperand (operand_of s x (name_of x) (elaborated s (start x) x))
    (operand_of t (bare_expression x) (name_of (bare_expression x))
    (elaborated t (start (bare_expression x)) (bare_expression x)))
operand_of_alike s t e x h =
    operand_alike s t e x (bare_expression x) (name_of x) (name_of (bare_expression x)) (same_name x) _ _ h

bare_alike : (s t : Scope) → s ≡ t → (at there : Place) (e : ExprSyntax)
    → Alike SameTerm (elaborated s at e) (elaborated t there (bare_expression e))
unfolding elaborated
bare_alike s t e at there (NameExpr own name) =
    then_alike (or_refused_alike E10 own here (term_variable s name) (term_variable t name)
    (ap (λ u. term_variable u name) e))
    (λ v w h. give_alike (leaf at (VariableTerm v)) (leaf there (VariableTerm w)) (ap VariableTerm h))
bare_alike s t e at there (LiteralExpr own literal) =
    give_alike (leaf at (LiteralTerm literal)) (leaf there (LiteralTerm literal)) refl
bare_alike s t e at there (ParenthesizedExpr own inner) = bare_alike s t e at there inner
bare_alike s t e at there (ValExpr own name written right body) =
    then_alike (optional_note_alike s t e written)
    (λ m n h. then_alike (bare_alike s t e (start right) (start (bare_expression right)) right)
    (λ q r k. then_alike
    (bare_alike (under (TermBinder name) s) (under (TermBinder name) t) (ap (under (TermBinder name)) e)
    (start body) (start (bare_expression body)) body)
    (λ a b l. give_alike _ _ (λ i. Let (h i) (k i) (l i)))))
bare_alike s t e at there (FunExpr own parameter from body) =
    then_alike (parameter_alike s t e from)
    (λ m n h. then_alike
    (bare_alike (under (TermBinder parameter) s) (under (TermBinder parameter) t) (ap (under (TermBinder parameter)) e)
    (start body) (start (bare_expression body)) body)
    (λ a b l. give_alike _ _ (λ i. FunctionTerm (h i).shape (h i).set (l i))))
bare_alike s t e at there (TypeFunExpr own parameter below body) =
    then_alike (shape_alike s t e below)
    (λ m n h. then_alike
    (bare_alike (under (TypeBinder parameter) s) (under (TypeBinder parameter) t) (ap (under (TypeBinder parameter)) e)
    (start body) (start (bare_expression body)) body)
    (λ a b l. give_alike _ _ (λ i. TypeFunctionTerm (h i) (l i))))
bare_alike s t e at there (IfExpr own type x positive negative) =
    then_alike (note_alike (behind (name_of x) s) (behind (name_of (bare_expression x)) t) (behind_alike s t e x) type)
    (λ m n h. then_alike (operand_of_alike s t e x (bare_alike s t e (start x) (start (bare_expression x)) x))
    (λ f g k. then_alike
    (bare_alike (behind (name_of x) s) (behind (name_of (bare_expression x)) t) (behind_alike s t e x)
    (start positive) (start (bare_expression positive)) positive)
    (λ p q l. then_alike
    (bare_alike (behind (name_of x) s) (behind (name_of (bare_expression x)) t) (behind_alike s t e x)
    (start negative) (start (bare_expression negative)) negative)
    (λ u v o. give_alike _ _
    (named_same f g k at there _ _
    (λ i. Conditional (h i) (variable_same f g k i) (l i) (o i)))))))
bare_alike s t e at there (BoundaryExpr own type exit body) =
    then_alike (shape_alike s t e type)
    (λ m n h. then_alike
    (bare_alike (under (TermBinder exit) s) (under (TermBinder exit) t) (ap (under (TermBinder exit)) e) (start body)
    (start (bare_expression body)) body)
    (λ a b l. give_alike _ _ (λ i. Boundary (h i) (l i))))
bare_alike s t e at there (OperatorExpr own operator x y) =
    then_alike (operand_of_alike s t e x (bare_alike s t e (start x) (start (bare_expression x)) x))
    (λ f g h. then_alike
    (operand_of_alike (behind (name_of x) s) (behind (name_of (bare_expression x)) t) (behind_alike s t e x) y
    (bare_alike (behind (name_of x) s) (behind (name_of (bare_expression x)) t) (behind_alike s t e x)
    (start y) (start (bare_expression y)) y))
    (λ a b k. two_alike f g h a b k (Primitive operator) (Primitive operator) (λ v w. refl)
    (spots_at at (start x) (start y)) (spots_at there (start (bare_expression x)) (start (bare_expression y)))))
bare_alike s t e at there (BoxExpr own x) =
    then_alike (operand_of_alike s t e x (bare_alike s t e (start x) (start (bare_expression x)) x))
    (λ f g h. one_alike f g h BoxTerm BoxTerm (λ v. refl) (spots_at at at at) (spots_at there there there))
bare_alike s t e at there (UnboxExpr own captures x) =
    then_alike (optional_elements_alike (behind (name_of x) s) (behind (name_of (bare_expression x)) t)
    (behind_alike s t e x) captures)
    (λ c d k. then_alike (operand_of_alike s t e x (bare_alike s t e (start x) (start (bare_expression x)) x))
    (λ f g h. one_alike f g h (Unboxing c) (Unboxing d) (λ v i. Unboxing (k i) v) (spots_at at (start x) own)
    (spots_at there (start (bare_expression x)) here)))
bare_alike s t e at there (CallExpr own x y) =
    then_alike (operand_of_alike s t e x (bare_alike s t e (start x) (start (bare_expression x)) x))
    (λ f g h. then_alike
    (operand_of_alike (behind (name_of x) s) (behind (name_of (bare_expression x)) t) (behind_alike s t e x) y
    (bare_alike (behind (name_of x) s) (behind (name_of (bare_expression x)) t) (behind_alike s t e x)
    (start y) (start (bare_expression y)) y))
    (λ a b k. two_alike f g h a b k Application Application (λ v w. refl) (spots_at at (start x) (start y))
    (spots_at there (start (bare_expression x)) (start (bare_expression y)))))
bare_alike s t e at there (TypeCallExpr own x argument) =
    then_alike (operand_of_alike s t e x (bare_alike s t e (start x) (start (bare_expression x)) x))
    (λ f g h. then_alike (shape_alike (behind (name_of x) s) (behind (name_of (bare_expression x)) t)
    (behind_alike s t e x) argument)
    (λ c d k. one_alike f g h (λ r. TypeApplication r c) (λ r. TypeApplication r d) (λ v i. TypeApplication v (k i))
    (spots_at at (start x) (shape_start argument))
    (spots_at there (start (bare_expression x)) (shape_start (bare_shape argument)))))
bare_alike s t e at there (AskExpr own operation x) =
    then_alike (operand_of_alike s t e x (bare_alike s t e (start x) (start (bare_expression x)) x))
    (λ f g h. one_alike f g h (λ r. Operation operation r None) (λ r. Operation operation r None) (λ v. refl)
    (spots_at at (start x) at) (spots_at there (start (bare_expression x)) there))
bare_alike s t e at there (TellExpr own operation x y) =
    then_alike (operand_of_alike s t e x (bare_alike s t e (start x) (start (bare_expression x)) x))
    (λ f g h. then_alike
    (operand_of_alike (behind (name_of x) s) (behind (name_of (bare_expression x)) t) (behind_alike s t e x) y
    (bare_alike (behind (name_of x) s) (behind (name_of (bare_expression x)) t) (behind_alike s t e x)
    (start y) (start (bare_expression y)) y))
    (λ a b k. two_alike f g h a b k (λ r z. Operation operation r (Some z)) (λ r z. Operation operation r (Some z))
    (λ v w. refl) (spots_at at (start x) (start y))
    (spots_at there (start (bare_expression x)) (start (bare_expression y)))))
bare_alike s t e at there (ExitExpr own type x y) =
    then_alike
    (type_alike (behind (name_of y) (behind (name_of x) s))
    (behind (name_of (bare_expression y)) (behind (name_of (bare_expression x)) t))
    (behind_alike (behind (name_of x) s) (behind (name_of (bare_expression x)) t) (behind_alike s t e x) y) type)
    (λ m n l. then_alike (operand_of_alike s t e x (bare_alike s t e (start x) (start (bare_expression x)) x))
    (λ f g h. then_alike
    (operand_of_alike (behind (name_of x) s) (behind (name_of (bare_expression x)) t) (behind_alike s t e x) y
    (bare_alike (behind (name_of x) s) (behind (name_of (bare_expression x)) t) (behind_alike s t e x)
    (start y) (start (bare_expression y)) y))
    (λ a b k. two_alike f g h a b k (Leave m.shape m.set) (Leave n.shape n.set)
    (λ v w i. Leave (l i).shape (l i).set v w) (spots_at at (start x) (start y))
    (spots_at there (start (bare_expression x)) (start (bare_expression y))))))
bare_alike s t e at there (RepeatExpr own x y) =
    then_alike (operand_of_alike s t e x (bare_alike s t e (start x) (start (bare_expression x)) x))
    (λ f g h. then_alike
    (operand_of_alike (behind (name_of x) s) (behind (name_of (bare_expression x)) t) (behind_alike s t e x) y
    (bare_alike (behind (name_of x) s) (behind (name_of (bare_expression x)) t) (behind_alike s t e x)
    (start y) (start (bare_expression y)) y))
    (λ a b k. two_alike f g h a b k Repetition Repetition (λ v w. refl) (spots_at at (start x) (start y))
    (spots_at there (start (bare_expression x)) (start (bare_expression y)))))

-- modules
name_chosen_alike : (m n : List Name) → m ≡ n → (name : Name) (at : Place) (b c : Bool) → b ≡ c
    → Alike Same (if b then refuses E09 at else gives (m ++ name ∷ []))
    (if c then refuses E09 here else gives (n ++ name ∷ []))
name_chosen_alike m n e name at true true h = refuse_alike E09 at here
name_chosen_alike m n e name at false false h =
    give_alike (m ++ name ∷ []) (n ++ name ∷ []) (ap (λ names. names ++ name ∷ []) e)
name_chosen_alike m n e name at true false h = cc
name_chosen_alike m n e name at false true h = cc

with_name_alike : (m n : List Name) → m ≡ n → (name : Name) (at : Place)
    → Alike Same (with_name m name at) (with_name n name here)
with_name_alike m n e name at =
    name_chosen_alike m n e name at (list_any (bytes_eq name) m) (list_any (bytes_eq name) n)
    (ap (list_any (bytes_eq name)) e)

with_imports_alike : (m n : List Name) → m ≡ n → (imports : List ImportSyntax)
    → Alike Same (with_imports m imports) (with_imports n (map bare_import imports))
with_imports_alike m n e [] = give_alike m n e
with_imports_alike m n e (first ∷ rest) =
    then_alike (with_name_alike m n e first.name first.name_at) (λ v w h. with_imports_alike v w h rest)

right_chosen_alike : (at there : Place) (x y : PlacedTerm) → SameTerm x y → (b c : Bool) → b ≡ c
    → Alike SameTerm (if b then gives x else refuses E12 at) (if c then gives y else refuses E12 there)
right_chosen_alike at there x y h true true e = give_alike x y h
right_chosen_alike at there x y h false false e = refuse_alike E12 at there
right_chosen_alike at there x y h true false e = cc
right_chosen_alike at there x y h false true e = cc

right_alike : (recursive : Bool) (at there : Place) (x y : PlacedTerm) → SameTerm x y
    → Alike SameTerm (or_no_value recursive at x) (or_no_value recursive there y)
right_alike recursive at there x y h =
    right_chosen_alike at there x y h (is_right_side recursive x.term) (is_right_side recursive y.term)
    (ap (is_right_side recursive) h)

written_for_alike : (m n : List Name) → m ≡ n → (recursive : Bool) (written : Option TypeSyntax)
    → Alike Same (if recursive then optional_type (outermost m) written else optional_note (outermost m) written)
    (if recursive then optional_type (outermost n) (option_map bare_type written) else optional_note (outermost n)
    (option_map bare_type written))
written_for_alike m n e true written = optional_type_alike (outermost m) (outermost n) (ap outermost e) written
written_for_alike m n e false written = optional_note_alike (outermost m) (outermost n) (ap outermost e) written

abbrev SameDefinition : CoreDefinition → CoreDefinition → Type 0
SameDefinition one other = unplaced_definition one ≡ unplaced_definition other

definition_alike : (m n more less : List Name) → m ≡ n → more ≡ less → (definition : DefSyntax)
    → Alike SameDefinition (elaborated_definition m more definition)
    (elaborated_definition n less (bare_definition definition))
definition_alike m n more less e h definition =
    then_alike (written_for_alike m n e definition.own definition.written)
    (λ a b k. then_alike
    (bare_alike (outermost (if definition.own then more else m)) (outermost (if definition.own then less else n))
    (λ i. outermost (if definition.own then h i else e i)) (start definition.right)
    (start (bare_expression definition.right)) definition.right)
    (λ x y l. then_alike
    (right_alike definition.own (start definition.right) (start (bare_expression definition.right)) x y l)
    (λ u v o. give_alike _ _
    (λ i. unplaced_definition (record {
      name = definition.name;
      name_at = here;
      note = k i;
      recursive = definition.own;
      right = o i;
      places = u.places;
    })))))

abbrev SameDefinitions : List CoreDefinition → List CoreDefinition → Type 0
SameDefinitions one other = map unplaced_definition one ≡ map unplaced_definition other

definitions_alike : (m n : List Name) → m ≡ n → (definitions : List DefSyntax)
    → Alike SameDefinitions (elaborated_definitions m definitions)
    (elaborated_definitions n (map bare_definition definitions))
definitions_alike m n e [] = give_alike [] [] refl
definitions_alike m n e (first ∷ rest) =
    then_alike (with_name_alike m n e first.name first.name_at)
    (λ v w h. then_alike (own_holes_alike (definition_alike m n v w e h first))
    (λ a b k. then_alike (definitions_alike v w h rest)
    (λ c d l. give_alike (a ∷ c) (b ∷ d) (λ i. k i ∷ l i))))

abbrev unplaced_module : CoreModule → CoreModule
unplaced_module elaborated = record {
  imports = map bare_import elaborated.imports;
  definitions = map unplaced_definition elaborated.definitions;
}

imports_once : (imports : List ImportSyntax) → map bare_import imports ≡ map bare_import (map bare_import imports)
imports_once [] = refl
imports_once (first ∷ rest) = ap (λ list. bare_import first ∷ list) (imports_once rest)

module_alike : (devices : List Name) (text : ModuleSyntax)
    → Alike (λ v w. unplaced_module v ≡ unplaced_module w) (elaborated_module devices text)
    (elaborated_module devices (bare_text text))
module_alike devices text =
    then_alike (with_imports_alike devices devices refl text.imports)
    (λ m n h. then_alike (definitions_alike m n h text.defs)
    (λ c d l. give_alike _ _ (λ i. record { imports = imports_once text.imports i; definitions = l i })))

unplaced_same : (o p : ElaborationOutcome CoreModule) → AreAlike (λ v w. unplaced_module v ≡ unplaced_module w) o p
    → unplaced (elaboration_of o) ≡ unplaced (elaboration_of p)
unplaced_same (Refused code at) (Refused other there) h = ap (λ c. IsRefused c here) h
unplaced_same (Refused code at) (Found w holes) h = absurd h
unplaced_same (Found v holes) (Refused other there) h = absurd h
unplaced_same (Found v holes) (Found w others) h = ap IsElaborated h.0

-- a text is elaborated as it is without its layout
bare_same : (devices : List Name) (text : ModuleSyntax)
    → unplaced (elaboration devices text) ≡ unplaced (elaboration devices (bare_text text))
unfolding elaboration
bare_same devices text =
    unplaced_same (elaborated_module devices text zero) (elaborated_module devices (bare_text text) zero)
    ((module_alike devices text).alike zero)

pub layout_does_not_matter : law.LayoutDoesNotMatter
layout_does_not_matter devices one other e =
    bare_same devices one ∙ ap (λ text. unplaced (elaboration devices text)) e ∙ sym (bare_same devices other)
