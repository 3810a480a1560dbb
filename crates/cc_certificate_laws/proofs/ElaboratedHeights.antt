-- What is elaborated is at most twice as high as its tree, and its types no higher than they are written.
use Rattle.std.proofs.Common.{◌≡◌, ℕ, zero, suc, ◌+◌, ◌≤◌, Bool, true, false, List, [], ◌∷◌, Option, Some, None, arith, if◌then◌else◌}
use Rattle.std.specs.Prelude.{max}
use Rattle.std.specs.List.{AllByRecursion}
use Rattle.cc_base.specs.declared.code.Code.TheVariants.{E10, E11, E12, E19}
use Rattle.cc_base.specs.declared.place.Place.{Place}
use Rattle.cc_capture.specs.declared.var.Var.{Var}
use Rattle.cc_capture.specs.declared.var.Elem.TheVariants.{Var as Variable, Cap, Hole}
use Rattle.cc_capture.specs.Sets.{Set, empty, insert}
use Rattle.cc_core.specs.Places.{Spots, Between, spots_at}
use Rattle.cc_core.specs.Shapes as core
use Rattle.cc_core.specs.Shapes.{Shape, CapturingType, capturing}
use Rattle.cc_core.specs.Substitution.{single}
use Rattle.cc_core.specs.Terms.{Absent, Written, Own, Term, BoxTerm, Unboxing, TypeApplication, Application, Primitive, Conditional, Repetition, Leave, Operation}
use Rattle.cc_grammar.specs.Syntax.{ElementSyntax, SetSyntax, AbsentSet, OmittedSet, WrittenSet, TypeSyntax, CapturingType as CapturingTypeSyntax}
use Rattle.cc_grammar.specs.Syntax.{ShapeSyntax, BaseShape, AnyShape, NamedShape, ExitShape, BoxShape, ParenthesizedShape, FunctionShape, TypeFunctionShape}
use Rattle.cc_grammar.specs.Syntax.{ExprSyntax, NameExpr, LiteralExpr, ParenthesizedExpr, ValExpr, FunExpr, TypeFunExpr, IfExpr, BoundaryExpr, OperatorExpr, BoxExpr, UnboxExpr, CallExpr, TypeCallExpr, AskExpr, TellExpr, ExitExpr, RepeatExpr, DefSyntax}
use Rattle.cc_grammar.specs.Syntax.{type_height, written_height, expr_height}
use Rattle.cc_grammar.specs.Syntax as syntax
use Rattle.cc_mnf.specs.Steps.{Step, gives, refuses}
use Rattle.cc_mnf.specs.Scopes.{Name, Scope, TermBinder, TypeBinder, outermost, under, term_variable, type_variable}
use Rattle.cc_mnf.specs.ElaboratedTypes.{named_element, with_elements, elaborated_set, parameter_set, noted_set, elaborated_shape, elaborated_type, parameter_type, elaborated_note, optional_note, optional_type, optional_elements}
use Rattle.cc_mnf.specs.Operands.{PlacedTerm, placed, NameAt, name_of, start, Operand, IsVariable, IsNamed, behind, operand_of, variable_of, past, named, with_operand, with_operands}
use Rattle.cc_mnf.specs.Elaboration.{elaborated}
use Rattle.cc_mnf.specs.ElaboratedModules.{CoreModule, IsElaborated, is_right_side, elaborated_definition, elaborated_definitions, elaborated_module, elaboration}
use Rattle.cc_mnf.proofs.StepFacts.{Always, then_always, gives_always, refuses_always, or_refused_always, new_hole_always, always_weaker}
use Rattle.cc_mnf.proofs.BroughtFacts.{Brings, then_brings, gives_brings, always_brings, own_holes_bring}
use Rattle.cc_mnf.proofs.ElaboratedDefinitions.{with_name_brings, with_imports_bring, module_has}
use Rattle.cc_certificate_text.specs.Heights.{shape_height, note_height, term_height}
use Rattle.cc_certificate_laws.specs.DefinitionLaws.{HasWrittenLiterals}
use Rattle.cc_certificate_laws.specs.TextLimits.{IsOfText}
use Rattle.cc_certificate_laws.proofs.SpelledTexts.{HasSpelledLiterals, IsGoodDef}

-- whatever is found
abbrev Anything : {A : Type 0} → A → Type 0
Anything v = Unit {0}

element_found : (scope : Scope) (at : Place) (name : Option Name) → Always Anything (named_element scope at name)
element_found scope at None = gives_always Cap tt
element_found scope at (Some name) =
    then_always (or_refused_always E10 at (term_variable scope name) tt) (λ v e. gives_always (Variable v) tt)

elements_found : (scope : Scope) (set : Set) (elements : List ElementSyntax)
    → Always Anything (with_elements scope set elements)
unfolding with_elements
elements_found scope set [] = gives_always set tt
elements_found scope set (first ∷ rest) =
    then_always (element_found scope first.at first.name) (λ e h. elements_found scope (insert e set) rest)

set_found : (scope : Scope) (set : SetSyntax) → Always Anything (elaborated_set scope set)
set_found scope AbsentSet = gives_always empty tt
set_found scope (OmittedSet at) = refuses_always E19 at tt
set_found scope (WrittenSet elements) = elements_found scope empty elements

parameter_found : (scope : Scope) (set : SetSyntax) → Always Anything (parameter_set scope set)
parameter_found scope AbsentSet = gives_always empty tt
parameter_found scope (OmittedSet at) = then_always new_hole_always (λ hole h. gives_always (single (Hole hole)) tt)
parameter_found scope (WrittenSet elements) = elements_found scope empty elements

optional_found : (scope : Scope) (elements : Option (List ElementSyntax))
    → Always Anything (optional_elements scope elements)
optional_found scope None = gives_always None tt
optional_found scope (Some elements) =
    then_always (elements_found scope empty elements) (λ c h. gives_always (Some c) tt)

-- heights of parts
one_higher : (m n : ℕ) → m ≤ n → suc m ≤ 1 + n
one_higher m n h = omega arith

suc_higher : (m n : ℕ) → m ≤ n → suc m ≤ suc n
suc_higher m n h = omega arith

two_higher : (a b m n : ℕ) → a ≤ m → b ≤ n → suc (max a b) ≤ 1 + max m n
two_higher a b m n h k = omega arith

higher_still : (m n : ℕ) → m ≤ n → m ≤ 1 + n
higher_still m n h = omega arith

below_most : (m n most : ℕ) → m ≤ n → n ≤ most → m ≤ most
below_most m n most h k = omega arith

twice_more : (m n : ℕ) → m ≤ n + n → m ≤ (1 + n) + (1 + n)
twice_more m n h = omega arith

within_note : (m n : ℕ) → m ≤ n → n ≤ 100 → m ≤ 100
within_note m n h k = omega arith

within_right : (m n : ℕ) → m ≤ n + n → n ≤ 100 → m ≤ 200
within_right m n h k = omega arith

-- shapes
mutual
  unfolding elaborated_shape elaborated_type

  shape_low : (scope : Scope) (s : ShapeSyntax) → Always (λ x. shape_height x ≤ syntax.shape_height s)
      (elaborated_shape scope s)
  shape_low scope (BaseShape at base) = gives_always (core.BaseShape base) (omega arith)
  shape_low scope (AnyShape at) = gives_always core.AnyShape (omega arith)
  shape_low scope (NamedShape at name) =
      then_always (or_refused_always E11 at (type_variable scope name) tt)
      (λ v e. gives_always (core.TypeVariable v) (omega arith))
  shape_low scope (ExitShape at inner) =
      then_always (shape_low scope inner) (λ x h. gives_always (core.ExitShape x)
      (one_higher (shape_height x) (syntax.shape_height inner) h))
  shape_low scope (BoxShape at inner) =
      then_always (type_low scope inner)
      (λ t h. gives_always (core.BoxShape t.shape t.set) (one_higher (shape_height t.shape) (type_height inner) h))
  shape_low scope (ParenthesizedShape at inner) =
      always_weaker (λ x h. higher_still (shape_height x) (syntax.shape_height inner) h) (shape_low scope inner)
  shape_low scope (FunctionShape at parameter from to) =
      then_always (type_low scope from)
      (λ t h. then_always (type_low (under (TermBinder parameter) scope) to)
      (λ u k. gives_always (core.FunctionShape t.shape t.set u.shape u.set)
      (two_higher (shape_height t.shape) (shape_height u.shape) (type_height from) (type_height to) h k)))
  shape_low scope (TypeFunctionShape at parameter below to) =
      then_always (shape_low scope below)
      (λ b h. then_always (type_low (under (TypeBinder parameter) scope) to)
      (λ u k. gives_always (core.TypeFunctionShape b u.shape u.set)
      (two_higher (shape_height b) (shape_height u.shape) (syntax.shape_height below) (type_height to) h k)))

  type_low : (scope : Scope) (type : TypeSyntax) → Always (λ t. shape_height t.shape ≤ type_height type)
      (elaborated_type scope type)
  type_low scope (CapturingTypeSyntax at inner captures) =
      then_always (shape_low scope inner) (λ x h. then_always (set_found scope captures)
      (λ c k. gives_always (capturing x c) h))

parameter_low : (scope : Scope) (type : TypeSyntax) → Always (λ t. shape_height t.shape ≤ type_height type)
    (parameter_type scope type)
parameter_low scope (CapturingTypeSyntax at inner captures) =
    then_always (shape_low scope inner) (λ x h. then_always (parameter_found scope captures)
    (λ c k. gives_always (capturing x c) h))

noted_low : (scope : Scope) (shape : Shape) (set : SetSyntax) (n : ℕ) → shape_height shape ≤ n
    → Always (λ m. note_height m ≤ n) (noted_set scope shape set)
noted_low scope shape AbsentSet n h = gives_always (Written shape empty) h
noted_low scope shape (OmittedSet at) n h = gives_always (Own shape) h
noted_low scope shape (WrittenSet elements) n h =
    then_always (elements_found scope empty elements) (λ c k. gives_always (Written shape c) h)

note_low : (scope : Scope) (type : TypeSyntax) → Always (λ m. note_height m ≤ type_height type)
    (elaborated_note scope type)
note_low scope (CapturingTypeSyntax at inner captures) =
    then_always (shape_low scope inner) (λ x h. noted_low scope x captures (syntax.shape_height inner) h)

optional_note_low : (scope : Scope) (written : Option TypeSyntax)
    → Always (λ m. note_height m ≤ written_height written) (optional_note scope written)
optional_note_low scope None = gives_always Absent (omega arith)
optional_note_low scope (Some written) = note_low scope written

optional_type_low : (scope : Scope) (written : Option TypeSyntax)
    → Always (λ m. note_height m ≤ written_height written) (optional_type scope written)
optional_type_low scope None = gives_always Absent (omega arith)
optional_type_low scope (Some written) =
    then_always (type_low scope written) (λ t h. gives_always (Written t.shape t.set) h)

-- terms
abbrev TermLow : ℕ → PlacedTerm → Type 0
TermLow n t = (term_height t.term ≤ n) × HasWrittenLiterals t.term

abbrev OperandLow : ℕ → Operand → Type 0
OperandLow n (IsVariable v) = Unit {0}
OperandLow n (IsNamed t at) = TermLow n t

operand_low : (scope : Scope) (operand : ExprSyntax) (name : Option NameAt) (step : Step PlacedTerm) (n : ℕ)
    → Always (TermLow n) step
    → Always (OperandLow n) (operand_of scope operand name step)
operand_low scope operand (Some name) step n h =
    then_always (or_refused_always E10 name.at (term_variable scope name.name) tt)
    (λ v e. gives_always (IsVariable v) tt)
operand_low scope operand None step n h = then_always h (λ t k. gives_always (IsNamed t (start operand)) k)

let_height : (h n c m : ℕ) → h ≤ n → c ≤ m → suc (max 0 (max h c)) ≤ suc (max n m)
let_height h n c m below above = omega arith

no_let_height : (n c m : ℕ) → c ≤ m → c ≤ suc (max n m)
no_let_height n c m above = omega arith

named_low : (n m : ℕ) (o : Operand) (at : Place) (construct : PlacedTerm) → OperandLow n o → TermLow m construct
    → TermLow (suc (max n m)) (named at o construct)
named_low n m (IsVariable v) at construct h k = (no_let_height n (term_height construct.term) m k.0, k.1)
named_low n m (IsNamed t from) at construct h k =
    (let_height (term_height t.term) n (term_height construct.term) m h.0 k.0, (h.1, k.1))

-- a construct of variables
abbrev ConstructLow : ℕ → Term → Type 0
ConstructLow m t = (term_height t ≤ m) × HasWrittenLiterals t

one_low : (n m most : ℕ) (o : Operand) (construct : Var → Term) (spots : Spots) → OperandLow n o
    → ((v : Var) → ConstructLow m (construct v))
    → suc (max n m) ≤ most → Always (TermLow most) (gives (with_operand o construct spots))
one_low n m most o construct spots h k within =
    let low = named_low n m o spots.at _ h (k (variable_of o)) in gives_always (with_operand o construct spots)
    (below_most _ (suc (max n m)) most low.0 within, low.1)

two_low : (n l m most : ℕ) (x y : Operand) (construct : Var → Var → Term) (spots : Spots) → OperandLow n x
    → OperandLow l y
    → ((v w : Var) → ConstructLow m (construct v w)) → suc (max n (suc (max l m))) ≤ most
    → Always (TermLow most) (gives (with_operands x y construct spots))
two_low n l m most x y construct spots h i k within =
    let inner = named_low l m y spots.at _ i (k (past y (variable_of x)) (variable_of y)) in
    let low = named_low n (suc (max l m)) x spots.at _ h inner in
    gives_always (with_operands x y construct spots) (
      below_most _
          (suc (max n (suc (max l m)))) most low.0 within,
      low.1,
    )

-- no tree is without height
shape_at_least : (s : ShapeSyntax) → 1 ≤ syntax.shape_height s
shape_at_least (BaseShape at base) = omega arith
shape_at_least (AnyShape at) = omega arith
shape_at_least (NamedShape at name) = omega arith
shape_at_least (ExitShape at inner) = omega arith
shape_at_least (BoxShape at inner) = omega arith
shape_at_least (ParenthesizedShape at inner) = omega arith
shape_at_least (FunctionShape at parameter from to) = omega arith
shape_at_least (TypeFunctionShape at parameter below to) = omega arith

type_at_least : (t : TypeSyntax) → 1 ≤ type_height t
type_at_least (CapturingTypeSyntax at inner captures) = shape_at_least inner

expr_at_least : (e : ExprSyntax) → 1 ≤ expr_height e
expr_at_least (NameExpr at name) = omega arith
expr_at_least (LiteralExpr at literal) = omega arith
expr_at_least (ParenthesizedExpr at inner) = omega arith
expr_at_least (ValExpr at name written right body) = omega arith
expr_at_least (FunExpr at parameter takes body) = omega arith
expr_at_least (TypeFunExpr at parameter bound body) = omega arith
expr_at_least (IfExpr at gives' test positive negative) = omega arith
expr_at_least (BoundaryExpr at gives' exit body) = omega arith
expr_at_least (OperatorExpr at operator left right) = omega arith
expr_at_least (BoxExpr at content) = omega arith
expr_at_least (UnboxExpr at captures content) = omega arith
expr_at_least (CallExpr at function argument) = omega arith
expr_at_least (TypeCallExpr at function argument) = omega arith
expr_at_least (AskExpr at operation receiver) = omega arith
expr_at_least (TellExpr at operation receiver argument) = omega arith
expr_at_least (ExitExpr at gives' exit value) = omega arith
expr_at_least (RepeatExpr at count function) = omega arith

-- the heights of each form
abbrev twice : ℕ → ℕ
twice n = n + n

val_height : (m r b w x y : ℕ) → m ≤ w → r ≤ twice x → b ≤ twice y → suc (max m (max r b)) ≤ twice (1 + max w (max x y))
val_height m r b w x y h k l = omega arith

fun_height : (t b w y : ℕ) → t ≤ w → b ≤ twice y → suc (max t b) ≤ twice (1 + max w y)
fun_height t b w y h k = omega arith

branch_height : (m r b w x y : ℕ) → m ≤ w → r ≤ twice x → b ≤ twice y
    → suc (max m (max r b)) ≤ suc (max w (max (twice x) (twice y)))
branch_height m r b w x y h k l = omega arith

if_height : (w t x y : ℕ) → suc (max (twice t) (suc (max w (max (twice x) (twice y))))) ≤ twice
    (1 + max w (max t (max x y)))
if_height w t x y = omega arith

pair_height : (x y : ℕ) → 1 ≤ x → suc (max (twice x) (suc (max (twice y) 2))) ≤ twice (1 + max x y)
pair_height x y h = omega arith

single_height : (x : ℕ) → 1 ≤ x → suc (max (twice x) 2) ≤ twice (1 + x)
single_height x h = omega arith

type_call_height : (x w : ℕ) → suc (max (twice x) (suc w)) ≤ twice (1 + max x w)
type_call_height x w = omega arith

exit_height : (w x y : ℕ) → 1 ≤ w → suc (max (twice x) (suc (max (twice y) (suc w)))) ≤ twice (1 + max w (max x y))
exit_height w x y h = omega arith

expr_low : (e : ExprSyntax) → HasSpelledLiterals e → (scope : Scope) (at : Place)
    → Always (TermLow (twice (expr_height e))) (elaborated scope at e)
unfolding elaborated
expr_low (NameExpr own name) s scope at =
    then_always (or_refused_always E10 own (term_variable scope name) tt) (λ v e. gives_always _ (omega arith, tt))
expr_low (LiteralExpr own literal) s scope at = gives_always _ (omega arith, s)
expr_low (ParenthesizedExpr own inner) s scope at =
    always_weaker (λ t h. (twice_more (term_height t.term) (expr_height inner) h.0, h.1)) (expr_low inner s scope at)
expr_low (ValExpr own name written right body) s scope at =
    then_always (optional_note_low scope written)
    (λ n h. then_always (expr_low right s.0 scope (start right))
    (λ r k. then_always (expr_low body s.1 (under (TermBinder name) scope) (start body))
    (λ b l. gives_always _ (
      val_height (note_height n) (term_height r.term) (term_height b.term) (written_height written) (expr_height right)
          (expr_height body) h k.0 l.0,
      (k.1, l.1),
    ))))
expr_low (FunExpr own parameter from body) s scope at =
    then_always (parameter_low scope from)
    (λ t h. then_always (expr_low body s (under (TermBinder parameter) scope) (start body))
    (λ b k. gives_always _ (
      fun_height (shape_height t.shape) (term_height b.term) (type_height from)
          (expr_height body) h k.0,
      k.1,
    )))
expr_low (TypeFunExpr own parameter below body) s scope at =
    then_always (shape_low scope below)
    (λ t h. then_always (expr_low body s (under (TypeBinder parameter) scope) (start body))
    (λ b k. gives_always _ (
      fun_height (shape_height t) (term_height b.term) (syntax.shape_height below)
          (expr_height body) h k.0,
      k.1,
    )))
expr_low (IfExpr own type test positive negative) s scope at =
    then_always (note_low (behind (name_of test) scope) type)
    (λ n h. then_always (operand_low scope test (name_of test) _ (twice (expr_height test))
    (expr_low test s.0 scope (start test)))
    (λ c i. then_always (expr_low positive s.1 (behind (name_of test) scope) (start positive))
    (λ p k. then_always (expr_low negative s.2 (behind (name_of test) scope) (start negative))
    (λ q l.
    let inner = branch_height (note_height n) (term_height p.term) (term_height q.term) (type_height type)
    (expr_height positive) (expr_height negative) h k.0 l.0 in
    let low = named_low (twice (expr_height test)) (suc (max (type_height type)
    (max (twice (expr_height positive)) (twice (expr_height negative))))) c at
    (placed (Conditional n (variable_of c) p.term q.term) (Between (spots_at at (start test) at) p.places q.places)) i
    (inner, (k.1, l.1)) in
    gives_always _ (
      below_most _ _ _ low.0 (if_height (type_height type) (expr_height test) (expr_height positive)
          (expr_height negative)),
      low.1,
    )))))
expr_low (BoundaryExpr own type exit body) s scope at =
    then_always (shape_low scope type)
    (λ t h. then_always (expr_low body s (under (TermBinder exit) scope) (start body))
    (λ b k. gives_always _ (
      fun_height (shape_height t) (term_height b.term) (syntax.shape_height type)
          (expr_height body) h k.0,
      k.1,
    )))
expr_low (OperatorExpr own operator x y) s scope at =
    then_always (operand_low scope x (name_of x) _ (twice (expr_height x)) (expr_low x s.0 scope (start x)))
    (λ a h. then_always (operand_low (behind (name_of x) scope) y (name_of y) _ (twice (expr_height y))
    (expr_low y s.1 (behind (name_of x) scope) (start y)))
    (λ b k. two_low (twice (expr_height x)) (twice (expr_height y)) 2 _ a b (Primitive operator) _ h k
    (λ v w. (omega arith, tt))
    (pair_height (expr_height x) (expr_height y) (expr_at_least x))))
expr_low (BoxExpr own x) s scope at =
    then_always (operand_low scope x (name_of x) _ (twice (expr_height x)) (expr_low x s scope (start x)))
    (λ a h. one_low (twice (expr_height x)) 2 _ a BoxTerm _ h (λ v. (omega arith, tt))
    (single_height (expr_height x) (expr_at_least x)))
expr_low (UnboxExpr own captures x) s scope at =
    then_always (optional_found (behind (name_of x) scope) captures)
    (λ c i. then_always (operand_low scope x (name_of x) _ (twice (expr_height x)) (expr_low x s scope (start x)))
    (λ a h. one_low (twice (expr_height x)) 2 _ a (Unboxing c) _ h (λ v. (omega arith, tt))
    (single_height (expr_height x) (expr_at_least x))))
expr_low (CallExpr own x y) s scope at =
    then_always (operand_low scope x (name_of x) _ (twice (expr_height x)) (expr_low x s.0 scope (start x)))
    (λ a h. then_always (operand_low (behind (name_of x) scope) y (name_of y) _ (twice (expr_height y))
    (expr_low y s.1 (behind (name_of x) scope) (start y)))
    (λ b k. two_low (twice (expr_height x)) (twice (expr_height y)) 2 _ a b Application _ h k (λ v w. (omega arith, tt))
    (pair_height (expr_height x) (expr_height y) (expr_at_least x))))
expr_low (TypeCallExpr own x argument) s scope at =
    then_always (operand_low scope x (name_of x) _ (twice (expr_height x)) (expr_low x s scope (start x)))
    (λ a h. then_always (shape_low (behind (name_of x) scope) argument)
    (λ t k. one_low (twice (expr_height x)) (suc (syntax.shape_height argument)) _ a (λ f. TypeApplication f t) _ h
    (λ v. (suc_higher (shape_height t) (syntax.shape_height argument) k, tt))
    (type_call_height (expr_height x) (syntax.shape_height argument))))
expr_low (AskExpr own operation x) s scope at =
    then_always (operand_low scope x (name_of x) _ (twice (expr_height x)) (expr_low x s scope (start x)))
    (λ a h. one_low (twice (expr_height x)) 2 _ a (λ r. Operation operation r None) _ h (λ v. (omega arith, tt))
    (single_height (expr_height x) (expr_at_least x)))
expr_low (TellExpr own operation x y) s scope at =
    then_always (operand_low scope x (name_of x) _ (twice (expr_height x)) (expr_low x s.0 scope (start x)))
    (λ a h. then_always (operand_low (behind (name_of x) scope) y (name_of y) _ (twice (expr_height y))
    (expr_low y s.1 (behind (name_of x) scope) (start y)))
    (λ b k. two_low (twice (expr_height x)) (twice (expr_height y)) 2 _ a b
    (λ r z. Operation operation r (Some z)) _ h k (λ v w. (omega arith, tt))
    (pair_height (expr_height x) (expr_height y) (expr_at_least x))))
expr_low (ExitExpr own type x y) s scope at =
    then_always (type_low (behind (name_of y) (behind (name_of x) scope)) type)
    (λ t i. then_always (operand_low scope x (name_of x) _ (twice (expr_height x)) (expr_low x s.0 scope (start x)))
    (λ a h. then_always (operand_low (behind (name_of x) scope) y (name_of y) _ (twice (expr_height y))
    (expr_low y s.1 (behind (name_of x) scope) (start y)))
    (λ b k. two_low (twice (expr_height x)) (twice (expr_height y)) (suc (type_height type)) _ a b
    (Leave t.shape t.set) _ h k
    (λ v w. (suc_higher (shape_height t.shape) (type_height type) i, tt))
    (exit_height (type_height type) (expr_height x) (expr_height y) (type_at_least type)))))
expr_low (RepeatExpr own x y) s scope at =
    then_always (operand_low scope x (name_of x) _ (twice (expr_height x)) (expr_low x s.0 scope (start x)))
    (λ a h. then_always (operand_low (behind (name_of x) scope) y (name_of y) _ (twice (expr_height y))
    (expr_low y s.1 (behind (name_of x) scope) (start y)))
    (λ b k. two_low (twice (expr_height x)) (twice (expr_height y)) 2 _ a b Repetition _ h k (λ v w. (omega arith, tt))
    (pair_height (expr_height x) (expr_height y) (expr_at_least x))))

-- definitions
chosen_right : {P : PlacedTerm → Type 0} (recursive : Bool) (at : Place) (right : PlacedTerm) → P right → (b : Bool)
    → Always P (if b then gives right else refuses E12 at)
chosen_right recursive at right h true = gives_always right h
chosen_right recursive at right h false = refuses_always E12 at tt

written_low : (recursive : Bool) (names : List Name) (written : Option TypeSyntax)
    → Always (λ m. note_height m ≤ written_height written)
    (if recursive then optional_type (outermost names) written else optional_note (outermost names) written)
written_low true names written = optional_type_low (outermost names) written
written_low false names written = optional_note_low (outermost names) written

definition_low : (names with_own : List Name) (definition : DefSyntax) → IsGoodDef definition
    → Always IsOfText (elaborated_definition names with_own definition)
definition_low names with_own definition good =
    then_always (written_low definition.own names definition.written)
    (λ n h. then_always (expr_low definition.right good.literals
    (outermost (if definition.own then with_own else names)) (start definition.right))
    (λ t k. then_always (chosen_right {P = TermLow (twice (expr_height definition.right))} definition.own
    (start definition.right) t k (is_right_side definition.own t.term))
    (λ r l. gives_always _
    (record {
      named = good.named;
      note = within_note (note_height n) (written_height definition.written) h good.low.0;
      right = within_right (term_height r.term) (expr_height definition.right) l.0 good.low.1;
      literals = l.1;
    }))))

definitions_low : (names : List Name) (definitions : List DefSyntax) (before : ℕ) → AllByRecursion IsGoodDef definitions
    → Brings (λ list after. AllByRecursion IsOfText list) (elaborated_definitions names definitions) before
definitions_low names [] before good = gives_brings [] tt
definitions_low names (first ∷ rest) before good =
    then_brings (with_name_brings names first.name first.name_at before)
    (λ more middle e. then_brings {P = λ d after. IsOfText d}
    (own_holes_bring (always_brings (definition_low names more first good.0)))
    (λ one next h. then_brings (definitions_low more rest next good.1)
    (λ others last k. gives_brings (one ∷ others) (h, k))))

module_low : (devices : List Name) (text : syntax.ModuleSyntax) → AllByRecursion IsGoodDef text.defs
    → Brings (λ found after. AllByRecursion IsOfText found.definitions) (elaborated_module devices text) zero
module_low devices text good =
    then_brings (with_imports_bring devices text.imports zero)
    (λ names middle e. then_brings (definitions_low names text.defs middle good)
    (λ list last h. gives_brings (record { imports = text.imports; definitions = list }) h))

pub elaborated_low : (devices : List Name) (text : syntax.ModuleSyntax) (found : CoreModule)
    → AllByRecursion IsGoodDef text.defs
    → elaboration devices text ≡ IsElaborated found → AllByRecursion IsOfText found.definitions
elaborated_low devices text found good e =
    module_has (λ m. AllByRecursion IsOfText m.definitions) devices text found (module_low devices text good) e
