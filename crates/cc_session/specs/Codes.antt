-- How the judgements of a session are stored: each tree has a code of its own. It serves proofs alone.
use Rattle.std.specs.Prelude.{◌≡◌, ℕ, Bool, List, Option, refl}
use Rattle.std.specs.Coded.{Coded, code_by, coded×, coded_ℕ, coded_bool, coded_list, coded_option}
use Rattle.std.proofs.Common.{ap}
use base.Stored.{Gv, gnil, gnum, gcons}
use Rattle.cc_base.specs.declared.code.Code.{Code}
use Rattle.cc_base.specs.declared.literal.Base.{Base}
use Rattle.cc_base.specs.declared.literal.Op.{Op}
use Rattle.cc_base.specs.declared.literal.Operator.{Operator}
use Rattle.cc_base.specs.declared.place.Place.{Place}
use Rattle.cc_capture.specs.Sets.{Set}
use Rattle.cc_capture.specs.declared.var.Var.{Var}
use Rattle.cc_core.specs.Shapes.{Shape, BaseShape, AnyShape, TypeVariable, FunctionShape, TypeFunctionShape, BoxShape}
use Rattle.cc_core.specs.Shapes.{ExitShape, CapturingType}
use Rattle.cc_core.specs.Terms.{Note, Absent, Written, Own, Term, VariableTerm, LiteralTerm, FunctionTerm}
use Rattle.cc_core.specs.Terms.{TypeFunctionTerm, BoxTerm, Application, TypeApplication, Unboxing, Let, Primitive}
use Rattle.cc_core.specs.Terms.{Conditional, Repetition, Operation, Boundary, Leave}
use Rattle.cc_checking.specs.Verdicts.{Accepted}
use Rattle.cc_judge.specs.Judgements.{Judgement}
use Rattle.cc_judge.specs.StoredTrees.{front, back, tag, apart, literal_tree, one_literal}
use Rattle.cc_verdicts.specs.ModuleVerdicts.{Finding, FoundDefinition, NoModule, InCycle, RefusedModule}
use Rattle.cc_verdicts.specs.ModuleVerdicts.{NoDefinition, CheckedDefinition, ModuleVerdict, IsAccepted, IsRefused}

-- the codes of what is not made of other trees
pub record LeafCodes : Type 0 where
  pub base : Coded Base
  pub operator : Coded Operator
  pub operation : Coded Op
  pub variable : Coded Var
  pub set : Coded Set
  pub code : Coded Code
  pub place : Coded Place

module _ (leaf : LeafCodes) where
  abbrev shape_tree : Shape → Gv
  shape_tree (BaseShape base) = gcons (gnum 0) (leaf.base.code base)
  shape_tree AnyShape = gcons (gnum 1) gnil
  shape_tree (TypeVariable variable) = gcons (gnum 2) (leaf.variable.code variable)
  shape_tree (FunctionShape takes c gives d) =
      gcons (gnum 3) (gcons (gcons (shape_tree takes) (leaf.set.code c)) (gcons (shape_tree gives) (leaf.set.code d)))
  shape_tree (TypeFunctionShape bound gives c) =
      gcons (gnum 4) (gcons (shape_tree bound) (gcons (shape_tree gives) (leaf.set.code c)))
  shape_tree (BoxShape content c) = gcons (gnum 5) (gcons (shape_tree content) (leaf.set.code c))
  shape_tree (ExitShape gives) = gcons (gnum 6) (shape_tree gives)

  pub one_shape : (x y : Shape) → shape_tree x ≡ shape_tree y → x ≡ y
  one_shape (BaseShape a) (BaseShape b) e = ap BaseShape (leaf.base.inj a b (ap back e))
  one_shape AnyShape AnyShape e = refl
  one_shape (TypeVariable a) (TypeVariable b) e = ap TypeVariable (leaf.variable.inj a b (ap back e))
  one_shape (FunctionShape a c b d) (FunctionShape a' c' b' d') e =
      let takes = one_shape a a' (ap (λ g. front (front (back g))) e) in
      let takes_set = leaf.set.inj c c' (ap (λ g. back (front (back g))) e) in
      let gives = one_shape b b' (ap (λ g. front (back (back g))) e) in
      let gives_set = leaf.set.inj d d' (ap (λ g. back (back (back g))) e) in
      λ i. FunctionShape (takes i) (takes_set i) (gives i) (gives_set i)
  one_shape (TypeFunctionShape a b c) (TypeFunctionShape a' b' c') e =
      let bound = one_shape a a' (ap (λ g. front (back g)) e) in
      let gives = one_shape b b' (ap (λ g. front (back (back g))) e) in
      let gives_set = leaf.set.inj c c' (ap (λ g. back (back (back g))) e) in
      λ i. TypeFunctionShape (bound i) (gives i) (gives_set i)
  one_shape (BoxShape a c) (BoxShape a' c') e =
      let content = one_shape a a' (ap (λ g. front (back g)) e) in
      let content_set = leaf.set.inj c c' (ap (λ g. back (back g)) e) in
      λ i. BoxShape (content i) (content_set i)
  one_shape (ExitShape a) (ExitShape b) e = ap ExitShape (one_shape a b (ap back e))
  one_shape x y e = absurd (apart (tag (shape_tree x)) (tag (shape_tree y)) refl (ap tag e))

  abbrev shape_code : Coded Shape
  shape_code = record { code = shape_tree; inj = one_shape }

  abbrev type_code : Coded CapturingType
  type_code =
      code_by (Shape × Set) (coded× shape_code leaf.set) (λ it. (it.shape, it.set))
      (λ parts. record { shape = parts.0; set = parts.1 }) (λ _. refl)

  abbrev note_tree : Note → Gv
  note_tree Absent = gcons (gnum 0) gnil
  note_tree (Written shape set) = gcons (gnum 1) (gcons (shape_tree shape) (leaf.set.code set))
  note_tree (Own shape) = gcons (gnum 2) (shape_tree shape)

  pub one_note : (x y : Note) → note_tree x ≡ note_tree y → x ≡ y
  one_note Absent Absent e = refl
  one_note (Written a c) (Written a' c') e =
      let shape = one_shape a a' (ap (λ g. front (back g)) e) in
      let set = leaf.set.inj c c' (ap (λ g. back (back g)) e) in
      λ i. Written (shape i) (set i)
  one_note (Own a) (Own b) e = ap Own (one_shape a b (ap back e))
  one_note x y e = absurd (apart (tag (note_tree x)) (tag (note_tree y)) refl (ap tag e))

  abbrev some_set : Coded (Option Set)
  some_set = coded_option leaf.set

  abbrev some_variable : Coded (Option Var)
  some_variable = coded_option leaf.variable

  abbrev term_tree : Term → Gv
  term_tree (VariableTerm x) = gcons (gnum 0) (leaf.variable.code x)
  term_tree (LiteralTerm literal) = gcons (gnum 1) (literal_tree literal)
  term_tree (FunctionTerm takes c body) =
      gcons (gnum 2) (gcons (gcons (shape_tree takes) (leaf.set.code c)) (term_tree body))
  term_tree (TypeFunctionTerm bound body) = gcons (gnum 3) (gcons (shape_tree bound) (term_tree body))
  term_tree (BoxTerm x) = gcons (gnum 4) (leaf.variable.code x)
  term_tree (Application x y) = gcons (gnum 5) (gcons (leaf.variable.code x) (leaf.variable.code y))
  term_tree (TypeApplication x shape) = gcons (gnum 6) (gcons (leaf.variable.code x) (shape_tree shape))
  term_tree (Unboxing set x) = gcons (gnum 7) (gcons (some_set.code set) (leaf.variable.code x))
  term_tree (Let note right body) = gcons (gnum 8) (gcons (note_tree note) (gcons (term_tree right) (term_tree body)))
  term_tree (Primitive operator x y) =
      gcons (gnum 9) (gcons (leaf.operator.code operator) (gcons (leaf.variable.code x) (leaf.variable.code y)))
  term_tree (Conditional note x positive negative) =
      gcons (gnum 10)
      (gcons (gcons (note_tree note) (leaf.variable.code x)) (gcons (term_tree positive) (term_tree negative)))
  term_tree (Repetition x y) = gcons (gnum 11) (gcons (leaf.variable.code x) (leaf.variable.code y))
  term_tree (Operation operation x argument) =
      gcons (gnum 12)
      (gcons (leaf.operation.code operation) (gcons (leaf.variable.code x) (some_variable.code argument)))
  term_tree (Boundary gives body) = gcons (gnum 13) (gcons (shape_tree gives) (term_tree body))
  term_tree (Leave gives c x y) =
      gcons (gnum 14)
      (gcons (gcons (shape_tree gives) (leaf.set.code c)) (gcons (leaf.variable.code x) (leaf.variable.code y)))

  pub one_term : (x y : Term) → term_tree x ≡ term_tree y → x ≡ y
  one_term (VariableTerm x) (VariableTerm y) e = ap VariableTerm (leaf.variable.inj x y (ap back e))
  one_term (LiteralTerm a) (LiteralTerm b) e = ap LiteralTerm (one_literal a b (ap back e))
  one_term (FunctionTerm a c t) (FunctionTerm a' c' t') e =
      let takes = one_shape a a' (ap (λ g. front (front (back g))) e) in
      let takes_set = leaf.set.inj c c' (ap (λ g. back (front (back g))) e) in
      let body = one_term t t' (ap (λ g. back (back g)) e) in
      λ i. FunctionTerm (takes i) (takes_set i) (body i)
  one_term (TypeFunctionTerm a t) (TypeFunctionTerm a' t') e =
      let bound = one_shape a a' (ap (λ g. front (back g)) e) in
      let body = one_term t t' (ap (λ g. back (back g)) e) in
      λ i. TypeFunctionTerm (bound i) (body i)
  one_term (BoxTerm x) (BoxTerm y) e = ap BoxTerm (leaf.variable.inj x y (ap back e))
  one_term (Application x y) (Application x' y') e =
      let function = leaf.variable.inj x x' (ap (λ g. front (back g)) e) in
      let argument = leaf.variable.inj y y' (ap (λ g. back (back g)) e) in
      λ i. Application (function i) (argument i)
  one_term (TypeApplication x a) (TypeApplication x' a') e =
      let function = leaf.variable.inj x x' (ap (λ g. front (back g)) e) in
      let argument = one_shape a a' (ap (λ g. back (back g)) e) in
      λ i. TypeApplication (function i) (argument i)
  one_term (Unboxing c x) (Unboxing c' x') e =
      let set = some_set.inj c c' (ap (λ g. front (back g)) e) in
      let content = leaf.variable.inj x x' (ap (λ g. back (back g)) e) in
      λ i. Unboxing (set i) (content i)
  one_term (Let n t u) (Let n' t' u') e =
      let note = one_note n n' (ap (λ g. front (back g)) e) in
      let right = one_term t t' (ap (λ g. front (back (back g))) e) in
      let body = one_term u u' (ap (λ g. back (back (back g))) e) in
      λ i. Let (note i) (right i) (body i)
  one_term (Primitive o x y) (Primitive o' x' y') e =
      let operator = leaf.operator.inj o o' (ap (λ g. front (back g)) e) in
      let left = leaf.variable.inj x x' (ap (λ g. front (back (back g))) e) in
      let right = leaf.variable.inj y y' (ap (λ g. back (back (back g))) e) in
      λ i. Primitive (operator i) (left i) (right i)
  one_term (Conditional n x t u) (Conditional n' x' t' u') e =
      let note = one_note n n' (ap (λ g. front (front (back g))) e) in
      let test = leaf.variable.inj x x' (ap (λ g. back (front (back g))) e) in
      let positive = one_term t t' (ap (λ g. front (back (back g))) e) in
      let negative = one_term u u' (ap (λ g. back (back (back g))) e) in
      λ i. Conditional (note i) (test i) (positive i) (negative i)
  one_term (Repetition x y) (Repetition x' y') e =
      let count = leaf.variable.inj x x' (ap (λ g. front (back g)) e) in
      let function = leaf.variable.inj y y' (ap (λ g. back (back g)) e) in
      λ i. Repetition (count i) (function i)
  one_term (Operation o x y) (Operation o' x' y') e =
      let operation = leaf.operation.inj o o' (ap (λ g. front (back g)) e) in
      let receiver = leaf.variable.inj x x' (ap (λ g. front (back (back g))) e) in
      let argument = some_variable.inj y y' (ap (λ g. back (back (back g))) e) in
      λ i. Operation (operation i) (receiver i) (argument i)
  one_term (Boundary a t) (Boundary a' t') e =
      let gives = one_shape a a' (ap (λ g. front (back g)) e) in
      let body = one_term t t' (ap (λ g. back (back g)) e) in
      λ i. Boundary (gives i) (body i)
  one_term (Leave a c x y) (Leave a' c' x' y') e =
      let gives = one_shape a a' (ap (λ g. front (front (back g))) e) in
      let gives_set = leaf.set.inj c c' (ap (λ g. back (front (back g))) e) in
      let exit = leaf.variable.inj x x' (ap (λ g. front (back (back g))) e) in
      let value = leaf.variable.inj y y' (ap (λ g. back (back (back g))) e) in
      λ i. Leave (gives i) (gives_set i) (exit i) (value i)
  one_term x y e = absurd (apart (tag (term_tree x)) (tag (term_tree y)) refl (ap tag e))

  abbrev note_code : Coded Note
  note_code = record { code = note_tree; inj = one_note }

  abbrev term_code : Coded Term
  term_code = record { code = term_tree; inj = one_term }

  abbrev accepted_code : Coded Accepted
  accepted_code =
      code_by ((Note × Term) × (CapturingType × CapturingType))
      (coded× (coded× note_code term_code) (coded× type_code type_code))
      (λ it. ((it.note, it.filled), (it.type, it.signature)))
      (λ parts. record { note = parts.0.0; filled = parts.0.1; type = parts.1.0; signature = parts.1.1 })
      (λ _. refl)

  abbrev name_code : Coded (List ℕ)
  name_code = coded_list coded_ℕ

  abbrev definition_code : Coded CheckedDefinition
  definition_code =
      code_by (List ℕ × (Bool × Accepted)) (coded× name_code (coded× coded_bool accepted_code))
      (λ it. (it.name, (it.recursive, it.accepted)))
      (λ parts. record { name = parts.0; recursive = parts.1.0; accepted = parts.1.1 }) (λ _. refl)

  abbrev definitions_code : Coded (List CheckedDefinition)
  definitions_code = coded_list definition_code

  abbrev verdict_tree : ModuleVerdict → Gv
  verdict_tree (IsAccepted definitions) = gcons (gnum 0) (definitions_code.code definitions)
  verdict_tree (IsRefused code at) = gcons (gnum 1) (gcons (leaf.code.code code) (leaf.place.code at))

  pub one_verdict : (x y : ModuleVerdict) → verdict_tree x ≡ verdict_tree y → x ≡ y
  one_verdict (IsAccepted a) (IsAccepted b) e = ap IsAccepted (definitions_code.inj a b (ap back e))
  one_verdict (IsRefused code at) (IsRefused other there) e =
      let same = leaf.code.inj code other (ap (λ g. front (back g)) e) in
      let place = leaf.place.inj at there (ap (λ g. back (back g)) e) in
      λ i. IsRefused (same i) (place i)
  one_verdict x y e = absurd (apart (tag (verdict_tree x)) (tag (verdict_tree y)) refl (ap tag e))

  abbrev finding_tree : Finding → Gv
  finding_tree (FoundDefinition signature) = gcons (gnum 0) (type_code.code signature)
  finding_tree NoModule = gcons (gnum 1) gnil
  finding_tree InCycle = gcons (gnum 2) gnil
  finding_tree RefusedModule = gcons (gnum 3) gnil
  finding_tree NoDefinition = gcons (gnum 4) gnil

  pub one_finding : (x y : Finding) → finding_tree x ≡ finding_tree y → x ≡ y
  one_finding (FoundDefinition a) (FoundDefinition b) e = ap FoundDefinition (type_code.inj a b (ap back e))
  one_finding NoModule NoModule e = refl
  one_finding InCycle InCycle e = refl
  one_finding RefusedModule RefusedModule e = refl
  one_finding NoDefinition NoDefinition e = refl
  one_finding x y e = absurd (apart (tag (finding_tree x)) (tag (finding_tree y)) refl (ap tag e))

  abbrev verdict_code : Coded ModuleVerdict
  verdict_code = record { code = verdict_tree; inj = one_verdict }

  abbrev finding_code : Coded Finding
  finding_code = record { code = finding_tree; inj = one_finding }

  -- how a judgement is stored
  abbrev pub judgement_code : Coded Judgement
  judgement_code =
      code_by ((List ℕ × List ℕ) × (List Finding × ModuleVerdict))
      (coded× (coded× name_code name_code) (coded× (coded_list finding_code) verdict_code))
      (λ it. ((it.name, it.text), (it.findings, it.verdict)))
      (λ parts. record { name = parts.0.0; text = parts.0.1; findings = parts.1.0; verdict = parts.1.1 })
      (λ _. refl)
