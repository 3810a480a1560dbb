-- The holes of what is elaborated: they are whole sets of parameters, and numbered in order.
use Rattle.std.proofs.Common.{◌≡◌, ℕ, zero, suc, ◌+◌, Bool, true, false, List, [], ◌∷◌, ◌++◌, length, Option, Some, None, refl, sym, ap, ◌∙◌, subst, inl, inr, ⊎_elim, if◌then◌else◌}
use Rattle.std.specs.List.{flat_map, range_with_len}
use Rattle.std.proofs.lemmas.Bool.{or_left, or_right}
use Rattle.cc_base.specs.declared.code.Code.TheVariants.{E10, E11, E12, E19}
use Rattle.cc_base.specs.declared.place.Place.{Place}
use Rattle.cc_capture.specs.declared.var.Var.{Var}
use Rattle.cc_capture.specs.declared.var.Elem.{Elem}
use Rattle.cc_capture.specs.declared.var.Elem.TheVariants.{Var as Variable, Cap, Hole}
use Rattle.cc_capture.specs.Elements.{same_element}
use Rattle.cc_capture.specs.ElementOrder.{same_element-itself}
use Rattle.cc_capture.specs.Rising.{is_listed, placed as placed_among}
use Rattle.cc_capture.specs.Sets.{Set, contains, empty, insert}
use Rattle.cc_capture.proofs.Membership.{Member-insert}
use Rattle.cc_core.specs.Shapes as core
use Rattle.cc_core.specs.Shapes.{Shape, CapturingType, capturing}
use Rattle.cc_core.specs.Occurrences.{IsNoHole, Meets, without_holes, HasNoHole, HasNoHoleInSet, MeetsInNote}
use Rattle.cc_core.specs.Places.{Spots, spots_at}
use Rattle.cc_core.specs.Substitution.{single}
use Rattle.cc_core.specs.Terms.{Note, Absent, Written, Own, Term, BoxTerm, Unboxing, TypeApplication, Application, Primitive, Repetition, Leave, Operation}
use Rattle.cc_grammar.specs.Syntax.{ElementSyntax, SetSyntax, AbsentSet, OmittedSet, WrittenSet, TypeSyntax, CapturingType as CapturingTypeSyntax}
use Rattle.cc_grammar.specs.Syntax.{ShapeSyntax, BaseShape, AnyShape, NamedShape, ExitShape, BoxShape, ParenthesizedShape, FunctionShape, TypeFunctionShape}
use Rattle.cc_grammar.specs.Syntax.{ExprSyntax, NameExpr, LiteralExpr, ParenthesizedExpr, ValExpr, FunExpr, TypeFunExpr, IfExpr, BoundaryExpr, OperatorExpr, BoxExpr, UnboxExpr, CallExpr, TypeCallExpr, AskExpr, TellExpr, ExitExpr, RepeatExpr, DefSyntax}
use Rattle.cc_mnf.specs.Steps.{Step, gives, refuses}
use Rattle.cc_mnf.specs.Scopes.{Name, Scope, TermBinder, TypeBinder, outermost, under, term_variable, type_variable}
use Rattle.cc_mnf.specs.ElaboratedTypes.{named_element, with_elements, elaborated_elements, elaborated_set, parameter_set, noted_set, elaborated_shape, elaborated_type, parameter_type, elaborated_note, optional_note, optional_type, optional_elements}
use Rattle.cc_mnf.specs.Operands.{PlacedTerm, NameAt, name_of, start, Operand, IsVariable, IsNamed, behind, operand_of, variable_of, past, named, with_operand, with_operands}
use Rattle.cc_mnf.specs.Elaboration.{elaborated, shape_start}
use Rattle.cc_mnf.specs.ElaboratedModules.{is_right_side, elaborated_definition}
use Rattle.cc_mnf.specs.ElaborationLaws as law
use Rattle.cc_mnf.specs.ElaborationLaws.{HasHolesInOrder}
use Rattle.cc_core.specs.Holes.{HasHoleAloneOrNone, NoteHasNoHole, OptionalSetHasNoHole, HolesAreOfParameters}
use Rattle.cc_mnf.specs.Holes.{hole_number, hole_numbers, parameter_holes}
use Rattle.cc_mnf.proofs.BroughtFacts.{Brings, then_brings, gives_brings, new_hole_brings}
use Rattle.cc_mnf.proofs.KeptFacts.{Keeps, then_keeps, kept_then_brings, kept_brings, gives_keeps, refuses_keeps, or_refused_keeps}
use Rattle.cc_mnf.proofs.ElaboratedDefinitions.{holds_of_each}

-- the numbers count from one to another
abbrev pub Counts : ℕ → List ℕ → ℕ → Type 0
Counts before [] after = before ≡ after
Counts before (x ∷ xs) after = (x ≡ before) × Counts (before + 1) xs after

counts_join : (before middle after : ℕ) (xs ys : List ℕ) → Counts before xs middle → Counts middle ys after
    → Counts before (xs ++ ys) after
counts_join before middle after [] ys h k = subst (λ n. Counts n ys after) (sym h) k
counts_join before middle after (x ∷ xs) ys h k = (h.0, counts_join (before + 1) middle after xs ys h.1 k)

counts_range : (before after : ℕ) (xs : List ℕ) → Counts before xs after → xs ≡ range_with_len before (length xs)
counts_range before after [] h = refl
counts_range before after (x ∷ xs) h =
    let rest : xs ≡ range_with_len (before + 1) (length xs) = counts_range (before + 1) after xs h.1 in
    λ i. h.0 i ∷ rest i

-- a term's holes are of parameters, and count so
abbrev pub InOrder : ℕ → Term → ℕ → Type 0
InOrder before t after = HolesAreOfParameters t × Counts before (parameter_holes t) after

-- sets
empty_no_hole : HasNoHoleInSet empty
unfolding contains empty
empty_no_hole x m = cc

insert_no_hole : (e : Elem) (c : Set) → IsNoHole e → HasNoHoleInSet c → HasNoHoleInSet (insert e c)
insert_no_hole e c one others x m =
    ⊎_elim (λ same. subst IsNoHole (sym same) one) (λ before. others x before) ((Member-insert x e c).0 m)

no_number : (e : Elem) → IsNoHole e → hole_number e ≡ []
no_number (Variable v) h = refl
no_number Cap h = refl
no_number (Hole n) h = absurd h

no_numbers_listed : (xs : List Elem) → ((e : Elem) → is_listed e xs ≡ true → IsNoHole e) → flat_map hole_number xs ≡ []
no_numbers_listed [] h = refl
no_numbers_listed (x ∷ xs) h =
    ap (λ list. list ++ flat_map hole_number xs)
    (no_number x (h x (or_left (same_element x x) (is_listed x xs) (same_element-itself x))))
    ∙ no_numbers_listed xs (λ e m. h e (or_right (same_element e x) (is_listed e xs) m))

no_numbers : (c : Set) → HasNoHoleInSet c → hole_numbers c ≡ []
unfolding contains
no_numbers c h = no_numbers_listed c.list h

one_number : (n : ℕ) → hole_numbers (single (Hole n)) ≡ n ∷ []
unfolding insert empty placed_among
one_number n = refl

element_keeps : (scope : Scope) (at : Place) (name : Option Name) → Keeps IsNoHole (named_element scope at name)
element_keeps scope at None = gives_keeps Cap tt
element_keeps scope at (Some name) =
    then_keeps (or_refused_keeps E10 at (term_variable scope name)) (λ v e. gives_keeps (Variable v) tt)

elements_keep : (scope : Scope) (set : Set) → HasNoHoleInSet set → (elements : List ElementSyntax)
    → Keeps HasNoHoleInSet (with_elements scope set elements)
unfolding with_elements
elements_keep scope set so [] = gives_keeps set so
elements_keep scope set so (first ∷ rest) =
    then_keeps (element_keeps scope first.at first.name)
    (λ e one. elements_keep scope (insert e set) (insert_no_hole e set one so) rest)

written_keeps : (scope : Scope) (elements : List ElementSyntax) → Keeps HasNoHoleInSet
    (elaborated_elements scope elements)
written_keeps scope elements = elements_keep scope empty empty_no_hole elements

set_keeps : (scope : Scope) (set : SetSyntax) → Keeps HasNoHoleInSet (elaborated_set scope set)
set_keeps scope AbsentSet = gives_keeps empty empty_no_hole
set_keeps scope (OmittedSet at) = refuses_keeps E19 at
set_keeps scope (WrittenSet elements) = written_keeps scope elements

-- shapes, under any number of binders
abbrev NoHoles : Shape → Type 0
NoHoles shape = (depth : ℕ) → Meets without_holes depth shape

abbrev NoHolesInType : CapturingType → Type 0
NoHolesInType type = NoHoles type.shape × HasNoHoleInSet type.set

mutual
  unfolding elaborated_shape elaborated_type

  shape_keeps : (scope : Scope) (shape : ShapeSyntax) → Keeps NoHoles (elaborated_shape scope shape)
  shape_keeps scope (BaseShape at base) = gives_keeps (core.BaseShape base) (λ depth. tt)
  shape_keeps scope (AnyShape at) = gives_keeps core.AnyShape (λ depth. tt)
  shape_keeps scope (NamedShape at name) =
      then_keeps (or_refused_keeps E11 at (type_variable scope name))
      (λ v e. gives_keeps (core.TypeVariable v) (λ depth. tt))
  shape_keeps scope (ExitShape at inner) =
      then_keeps (shape_keeps scope inner) (λ s h. gives_keeps (core.ExitShape s) h)
  shape_keeps scope (BoxShape at inner) =
      then_keeps (type_keeps scope inner)
      (λ t h. gives_keeps (core.BoxShape t.shape t.set) (λ depth. (h.0 depth, h.1)))
  shape_keeps scope (ParenthesizedShape at inner) = shape_keeps scope inner
  shape_keeps scope (FunctionShape at parameter from to) =
      then_keeps (type_keeps scope from)
      (λ t h. then_keeps (type_keeps (under (TermBinder parameter) scope) to)
      (λ u k. gives_keeps (core.FunctionShape t.shape t.set u.shape u.set)
      (λ depth. (h.0 depth, h.1, k.0 (suc depth), k.1))))
  shape_keeps scope (TypeFunctionShape at parameter below to) =
      then_keeps (shape_keeps scope below)
      (λ b h. then_keeps (type_keeps (under (TypeBinder parameter) scope) to)
      (λ u k. gives_keeps (core.TypeFunctionShape b u.shape u.set) (λ depth. (h depth, k.0 (suc depth), k.1))))

  type_keeps : (scope : Scope) (type : TypeSyntax) → Keeps NoHolesInType (elaborated_type scope type)
  type_keeps scope (CapturingTypeSyntax at inner captures) =
      then_keeps (shape_keeps scope inner)
      (λ s h. then_keeps (set_keeps scope captures) (λ c k. gives_keeps (capturing s c) (h, k)))

noted_set_keeps : (scope : Scope) (shape : Shape) → NoHoles shape → (set : SetSyntax)
    → Keeps NoteHasNoHole (noted_set scope shape set)
noted_set_keeps scope shape so AbsentSet = gives_keeps (Written shape empty) (so 0, empty_no_hole)
noted_set_keeps scope shape so (OmittedSet at) = gives_keeps (Own shape) (so 0)
noted_set_keeps scope shape so (WrittenSet elements) =
    then_keeps (written_keeps scope elements) (λ c h. gives_keeps (Written shape c) (so 0, h))

note_keeps : (scope : Scope) (type : TypeSyntax) → Keeps NoteHasNoHole (elaborated_note scope type)
note_keeps scope (CapturingTypeSyntax at inner captures) =
    then_keeps (shape_keeps scope inner) (λ s h. noted_set_keeps scope s h captures)

optional_note_keeps : (scope : Scope) (written : Option TypeSyntax) → Keeps NoteHasNoHole (optional_note scope written)
optional_note_keeps scope None = gives_keeps Absent tt
optional_note_keeps scope (Some written) = note_keeps scope written

optional_type_keeps : (scope : Scope) (written : Option TypeSyntax) → Keeps NoteHasNoHole (optional_type scope written)
optional_type_keeps scope None = gives_keeps Absent tt
optional_type_keeps scope (Some written) =
    then_keeps (type_keeps scope written) (λ t h. gives_keeps (Written t.shape t.set) (h.0 0, h.1))

optional_elements_keep : (scope : Scope) (elements : Option (List ElementSyntax))
    → Keeps OptionalSetHasNoHole (optional_elements scope elements)
optional_elements_keep scope None = gives_keeps None tt
optional_elements_keep scope (Some elements) =
    then_keeps (written_keeps scope elements) (λ c h. gives_keeps (Some c) h)

-- the set of a parameter
abbrev ParameterSet : ℕ → Set → ℕ → Type 0
ParameterSet before c after = HasHoleAloneOrNone c × Counts before (hole_numbers c) after

no_hole_counts : (before : ℕ) (c : Set) → HasNoHoleInSet c → ParameterSet before c before
no_hole_counts before c h = (inl h, subst (λ list. Counts before list before) (sym (no_numbers c h)) refl)

parameter_set_brings : (scope : Scope) (set : SetSyntax) (before : ℕ)
    → Brings (λ c after. ParameterSet before c after) (parameter_set scope set) before
parameter_set_brings scope AbsentSet before = gives_brings empty (no_hole_counts before empty empty_no_hole)
parameter_set_brings scope (OmittedSet at) before =
    then_brings new_hole_brings
    (λ hole after h. gives_brings (single (Hole hole))
    (inr (hole, refl), subst (λ list. Counts before list after) (sym (one_number hole)) (h.0, h.1)))
parameter_set_brings scope (WrittenSet elements) before =
    kept_brings (λ c h. no_hole_counts before c h) (written_keeps scope elements)

parameter_brings : (scope : Scope) (type : TypeSyntax) (before : ℕ)
    → Brings (λ t after. HasNoHole t.shape × ParameterSet before t.set after) (parameter_type scope type) before
parameter_brings scope (CapturingTypeSyntax at inner captures) before =
    kept_then_brings (shape_keeps scope inner)
    (λ s h. then_brings (parameter_set_brings scope captures before)
    (λ c after k. gives_brings (capturing s c) (h 0, k)))

-- operands
abbrev IsInOrder : ℕ → Operand → ℕ → Type 0
IsInOrder before (IsVariable v) after = before ≡ after
IsInOrder before (IsNamed t at) after = InOrder before t.term after

operand_brings : (scope : Scope) (operand : ExprSyntax) (name : Option NameAt) (step : Step PlacedTerm) (before : ℕ)
    → Brings (λ t after. InOrder before t.term after) step before
    → Brings (λ o after. IsInOrder before o after) (operand_of scope operand name step) before
operand_brings scope operand (Some name) step before so =
    kept_then_brings (or_refused_keeps E10 name.at (term_variable scope name.name))
    (λ v h. gives_brings (IsVariable v) refl)
operand_brings scope operand None step before so =
    then_brings so (λ t after h. gives_brings (IsNamed t (start operand)) h)

named_in_order : (before middle after : ℕ) (o : Operand) (at : Place) (construct : PlacedTerm)
    → IsInOrder before o middle → InOrder middle construct.term after → InOrder before (named at o construct).term after
named_in_order before middle after (IsVariable v) at construct h k =
    subst (λ n. InOrder n construct.term after) (sym h) k
named_in_order before middle after (IsNamed t from) at construct h k =
    ((tt, h.0, k.0), counts_join before middle after (parameter_holes t.term) (parameter_holes construct.term) h.1 k.1)

one_in_order : (before after : ℕ) (o : Operand) (construct : Var → Term) (spots : Spots) → IsInOrder before o after
    → ((v : Var) → InOrder after (construct v) after)
    → Brings (λ t last. InOrder before t.term last) (gives (with_operand o construct spots)) after
one_in_order before after o construct spots h k =
    gives_brings (with_operand o construct spots)
    (named_in_order before after after o spots.at _ h (k (variable_of o)))

two_in_order : (before middle after : ℕ) (x y : Operand) (construct : Var → Var → Term) (spots : Spots)
    → IsInOrder before x middle → IsInOrder middle y after → ((v w : Var) → InOrder after (construct v w) after)
    → Brings (λ t last. InOrder before t.term last) (gives (with_operands x y construct spots)) after
two_in_order before middle after x y construct spots h k so =
    gives_brings (with_operands x y construct spots)
    (named_in_order before middle after x spots.at _ h
    (named_in_order middle after after y spots.at _ k (so (past y (variable_of x)) (variable_of y))))

pub in_order : (scope : Scope) (at : Place) (e : ExprSyntax) (before : ℕ)
    → Brings (λ t after. InOrder before t.term after) (elaborated scope at e) before
unfolding elaborated
in_order scope at (NameExpr own name) before =
    kept_then_brings (or_refused_keeps E10 own (term_variable scope name)) (λ v e. gives_brings _ (tt, refl))
in_order scope at (LiteralExpr own literal) before = gives_brings _ (tt, refl)
in_order scope at (ParenthesizedExpr own inner) before = in_order scope at inner before
in_order scope at (ValExpr own name written right body) before =
    kept_then_brings (optional_note_keeps scope written)
    (λ n h. then_brings (in_order scope (start right) right before)
    (λ r middle k. then_brings (in_order (under (TermBinder name) scope) (start body) body middle)
    (λ b after l. gives_brings _
    ((h, k.0, l.0), counts_join before middle after (parameter_holes r.term) (parameter_holes b.term) k.1 l.1))))
in_order scope at (FunExpr own parameter from body) before =
    then_brings (parameter_brings scope from before)
    (λ t middle h. then_brings (in_order (under (TermBinder parameter) scope) (start body) body middle)
    (λ b after k. gives_brings _
    ((h.0, h.1.0, k.0), counts_join before middle after (hole_numbers t.set) (parameter_holes b.term) h.1.1 k.1)))
in_order scope at (TypeFunExpr own parameter below body) before =
    kept_then_brings (shape_keeps scope below)
    (λ t h. then_brings (in_order (under (TypeBinder parameter) scope) (start body) body before)
    (λ b after k. gives_brings _ ((h 0, k.0), k.1)))
in_order scope at (IfExpr own type test positive negative) before =
    kept_then_brings (note_keeps (behind (name_of test) scope) type)
    (λ n h. then_brings
    (operand_brings scope test (name_of test) _ before (in_order scope (start test) test before))
    (λ c first k. then_brings (in_order (behind (name_of test) scope) (start positive) positive first)
    (λ p second l. then_brings (in_order (behind (name_of test) scope) (start negative) negative second)
    (λ q after m. gives_brings _
    (named_in_order before first after c at _ k
    ((h, l.0, m.0), counts_join first second after (parameter_holes p.term) (parameter_holes q.term) l.1 m.1))))))
in_order scope at (BoundaryExpr own type exit body) before =
    kept_then_brings (shape_keeps scope type)
    (λ t h. then_brings (in_order (under (TermBinder exit) scope) (start body) body before)
    (λ b after k. gives_brings _ ((h 0, k.0), k.1)))
in_order scope at (OperatorExpr own operator x y) before =
    then_brings (operand_brings scope x (name_of x) _ before (in_order scope (start x) x before))
    (λ f middle h. then_brings
    (operand_brings (behind (name_of x) scope) y (name_of y) _ middle
    (in_order (behind (name_of x) scope) (start y) y middle))
    (λ a after k. two_in_order before middle after f a (Primitive operator) (spots_at at (start x) (start y)) h k
    (λ v w. (tt, refl))))
in_order scope at (BoxExpr own x) before =
    then_brings (operand_brings scope x (name_of x) _ before (in_order scope (start x) x before))
    (λ f after h. one_in_order before after f BoxTerm (spots_at at at at) h (λ v. (tt, refl)))
in_order scope at (UnboxExpr own captures x) before =
    kept_then_brings (optional_elements_keep (behind (name_of x) scope) captures)
    (λ c k. then_brings (operand_brings scope x (name_of x) _ before (in_order scope (start x) x before))
    (λ f after h. one_in_order before after f (Unboxing c) (spots_at at (start x) own) h (λ v. (k, refl))))
in_order scope at (CallExpr own x y) before =
    then_brings (operand_brings scope x (name_of x) _ before (in_order scope (start x) x before))
    (λ f middle h. then_brings
    (operand_brings (behind (name_of x) scope) y (name_of y) _ middle
    (in_order (behind (name_of x) scope) (start y) y middle))
    (λ a after k. two_in_order before middle after f a Application (spots_at at (start x) (start y)) h k
    (λ v w. (tt, refl))))
in_order scope at (TypeCallExpr own x argument) before =
    then_brings (operand_brings scope x (name_of x) _ before (in_order scope (start x) x before))
    (λ f after h. kept_then_brings (shape_keeps (behind (name_of x) scope) argument)
    (λ s k. one_in_order before after f (λ r. TypeApplication r s) (spots_at at (start x) (shape_start argument)) h
    (λ v. (k 0, refl))))
in_order scope at (AskExpr own operation x) before =
    then_brings (operand_brings scope x (name_of x) _ before (in_order scope (start x) x before))
    (λ f after h. one_in_order before after f (λ r. Operation operation r None) (spots_at at (start x) at) h
    (λ v. (tt, refl)))
in_order scope at (TellExpr own operation x y) before =
    then_brings (operand_brings scope x (name_of x) _ before (in_order scope (start x) x before))
    (λ f middle h. then_brings
    (operand_brings (behind (name_of x) scope) y (name_of y) _ middle
    (in_order (behind (name_of x) scope) (start y) y middle))
    (λ a after k. two_in_order before middle after f a (λ r s. Operation operation r (Some s))
    (spots_at at (start x) (start y)) h k (λ v w. (tt, refl))))
in_order scope at (ExitExpr own type x y) before =
    kept_then_brings (type_keeps (behind (name_of y) (behind (name_of x) scope)) type)
    (λ t l. then_brings (operand_brings scope x (name_of x) _ before (in_order scope (start x) x before))
    (λ f middle h. then_brings
    (operand_brings (behind (name_of x) scope) y (name_of y) _ middle
    (in_order (behind (name_of x) scope) (start y) y middle))
    (λ a after k. two_in_order before middle after f a (Leave t.shape t.set) (spots_at at (start x) (start y)) h k
    (λ v w. ((l.0 0, l.1), refl)))))
in_order scope at (RepeatExpr own x y) before =
    then_brings (operand_brings scope x (name_of x) _ before (in_order scope (start x) x before))
    (λ f middle h. then_brings
    (operand_brings (behind (name_of x) scope) y (name_of y) _ middle
    (in_order (behind (name_of x) scope) (start y) y middle))
    (λ a after k. two_in_order before middle after f a Repetition (spots_at at (start x) (start y)) h k
    (λ v w. (tt, refl))))

-- definitions
note_met : (n : Note) → NoteHasNoHole n → MeetsInNote without_holes 0 n
note_met Absent h = h
note_met (Written shape set) h = h
note_met (Own shape) h = h

definition_note_keeps : (names : List Name) (recursive : Bool) (written : Option TypeSyntax)
    → Keeps NoteHasNoHole (if recursive then optional_type (outermost names) written else optional_note
    (outermost names) written)
definition_note_keeps names true written = optional_type_keeps (outermost names) written
definition_note_keeps names false written = optional_note_keeps (outermost names) written

chosen_keeps : {P : PlacedTerm → Type 0} (b : Bool) (at : Place) (right : PlacedTerm) → P right
    → Keeps P (if b then gives right else refuses E12 at)
chosen_keeps true at right h = gives_keeps right h
chosen_keeps false at right h = refuses_keeps E12 at

definition_in_order : (names with_own : List Name) (definition : DefSyntax)
    → Brings (λ d after. HasHolesInOrder d) (elaborated_definition names with_own definition) zero
definition_in_order names with_own definition =
    kept_then_brings (definition_note_keeps names definition.own definition.written)
    (λ n h. then_brings (in_order _ (start definition.right) definition.right zero)
    (λ t after k. kept_then_brings
    (chosen_keeps {P = λ r. InOrder zero r.term after} (is_right_side definition.own t.term)
    (start definition.right) t k)
    (λ r l. gives_brings _
    (record {
      none_written = note_met n h;
      of_parameters = l.0;
      in_order = counts_range zero after (parameter_holes r.term) l.1;
    }))))

pub holes_are_of_parameters : law.HolesOfDefinitionsAreOfParameters
holes_are_of_parameters devices text found before d e stands =
    holds_of_each (λ names one. HasHolesInOrder one)
    (λ names definition. definition_in_order names
    (names ++ definition.name ∷ []) definition) devices text found before d
    e stands
