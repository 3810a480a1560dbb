-- The terms that begin with a word of their own, or with a variable: their texts are those of their pieces.
use Rattle.std.proofs.Common.{◌≡◌, ℕ, zero, suc, ◌^◌, ◌<◌, ◌≤◌, Bool, true, false, ◌==◌, ◌⊎◌, inl, inr, ⊎_elim, List, [], ◌∷◌, ◌++◌, Option, Some, None, length, decimal, codes, bytes_eq, refl, sym, ap, subst, ◌∙◌, arith, append_assoc}
use Rattle.std.specs.Prelude.{max, nat_lt, is_some}
use Rattle.std.specs.List.{AllByRecursion, IsDistinct}
use Rattle.std.proofs.lemmas.Bool.Decides.{Decides-ltb}
use Rattle.cc_base.specs.Names.{IsName}
use Rattle.cc_base.specs.declared.literal.Op.{Op}
use Rattle.cc_base.specs.declared.literal.Op.TheVariants as operations
use Rattle.cc_base.specs.declared.literal.Operator.{Operator}
use Rattle.cc_base.specs.declared.literal.Operator.TheVariants as operators
use Rattle.cc_capture.specs.declared.var.Var.{Var}
use Rattle.cc_core.specs.Shapes.{capturing}
use Rattle.cc_core.specs.Terms.{Note, Absent, Written, Own, Term, VariableTerm, LiteralTerm, FunctionTerm, TypeFunctionTerm, BoxTerm, Application, TypeApplication, Unboxing, Let, Primitive, Conditional, Repetition, Operation, Boundary, Leave}
use Rattle.cc_print.specs.TypeTexts.{numbered, elements_text, shape_under, type_under}
use Rattle.cc_certificate_text.specs.Heights.{shape_height, note_height, term_height}
use Rattle.cc_print.specs.TermTexts.{operator_text, operation_text, named, behind_name, term_under}
use Rattle.cc_certificate_text.specs.Certificates.{takes_argument}
use Rattle.cc_certificate_text.specs.Reading.{Found, Got, Wrong, ◌>>=◌, where_true, Readers, Parts, pieces_at, TermRule, FunRule, TypeFunRule, LetRule, IfRule, BoundaryRule, BoxingRule, UnboxRule, RepeatRule, LeaveRule, term_pieces, term_tree, term_rule_at, HeadRule, Calls, TypeCalls, Computes, Tells, Asks, head_pieces, head_tree, head_rule_at}
use Rattle.cc_certificate_text.proofs.Readers.{got_from_bind, got_from_test, got_parts}
use Rattle.cc_certificate_text.proofs.Pieces.{AllGood, AllEnd, pieces_text, pieces_give, pieces_at-text, Sound, Complete}
use Rattle.cc_certificate_text.proofs.ReadShapes.{three_texts, five_texts}
use Rattle.cc_certificate_text.proofs.ReadTerms.{NamedVariable, NamedNote, NamedTerm, GoodNote, GoodTerm, Good, Text, Ends, set_behind}

six_texts : (n c t a g h r : List ℕ) → (((((n ++ c) ++ t) ++ a) ++ g) ++ h) ++ r ≡ n ++ (c ++ (t ++ (a ++ (g ++ (h ++ r)))))
six_texts n c t a g h r = append_assoc ((((n ++ c) ++ t) ++ a) ++ g) h r ∙ five_texts n c t a g (h ++ r)

pub seven_texts : (n c t a g h k r : List ℕ)
    → ((((((n ++ c) ++ t) ++ a) ++ g) ++ h) ++ k) ++ r ≡ n ++ (c ++ (t ++ (a ++ (g ++ (h ++ (k ++ r))))))
seven_texts n c t a g h k r = append_assoc (((((n ++ c) ++ t) ++ a) ++ g) ++ h) k r ∙ six_texts n c t a g h (k ++ r)

eight_texts : (n c t a g h k l r : List ℕ)
    → (((((((n ++ c) ++ t) ++ a) ++ g) ++ h) ++ k) ++ l) ++ r ≡ n ++ (c ++ (t ++ (a ++ (g ++ (h ++ (k ++ (l ++ r)))))))
eight_texts n c t a g h k l r = append_assoc ((((((n ++ c) ++ t) ++ a) ++ g) ++ h) ++ k) l r ∙ seven_texts n c t a g h k (l ++ r)

pub four_texts : (n t c g r : List ℕ) → (((n ++ t) ++ c) ++ g) ++ r ≡ n ++ (t ++ (c ++ (g ++ r)))
four_texts n t c g r = append_assoc ((n ++ t) ++ c) g r ∙ three_texts n t c (g ++ r)

-- the text before the parts
abbrev pub term_front : TermRule → List ℕ
term_front FunRule = codes "fun (_"
term_front TypeFunRule = codes "fun [_T"
term_front LetRule = codes "let _"
term_front IfRule = codes "if ["
term_front BoundaryRule = codes "boundary ["
term_front BoxingRule = codes "box "
term_front UnboxRule = codes "unbox {"
term_front RepeatRule = codes "repeat("
term_front LeaveRule = codes "exit ["

-- the text between the variable and the parts
abbrev pub head_front : HeadRule → List ℕ
head_front Calls = codes "("
head_front TypeCalls = codes "["
head_front (Computes operator) = operator_text operator
head_front (Tells operation) = operation_text operation
head_front (Asks operation) = operation_text operation

-- the operation takes what the rule gives
abbrev pub HeadFits : HeadRule → Type 0
HeadFits Calls = Unit {0}
HeadFits TypeCalls = Unit {0}
HeadFits (Computes operator) = Unit {0}
HeadFits (Tells operation) = takes_argument operation ≡ true
HeadFits (Asks operation) = takes_argument operation ≡ false

note_low : (names : List (List ℕ)) (all : AllByRecursion IsName names) (apart : IsDistinct bytes_eq names) (room depth : ℕ) (note : Note)
    → GoodNote names all apart room depth note → note_height note ≤ room
note_low names all apart room depth Absent good = omega arith
note_low names all apart room depth (Written shape set) good = good.0.1
note_low names all apart room depth (Own shape) good = absurd good

module _ (names : List (List ℕ)) (all : AllByRecursion IsName names) (apart : IsDistinct bytes_eq names) (room : ℕ) where
  abbrev pub texts_of : ℕ → (rule : TermRule) → Parts (term_pieces rule) → List ℕ → List ℕ
  texts_of depth rule values rest =
      pieces_text (Good names all apart room) (Text names all apart room) (Ends names all apart room) depth (term_pieces rule) values rest

  abbrev pub AllTermGood : ℕ → (rule : TermRule) → Parts (term_pieces rule) → Type 0
  AllTermGood depth rule values =
      AllGood (Good names all apart room) (Text names all apart room) (Ends names all apart room) depth (term_pieces rule) values

  abbrev pub AllTermEnd : ℕ → (rule : TermRule) → Parts (term_pieces rule) → List ℕ → Type 0
  AllTermEnd depth rule values rest =
      AllEnd (Good names all apart room) (Text names all apart room) (Ends names all apart room) depth (term_pieces rule) values rest

  pub term_rule_text : (rule : TermRule) (depth : ℕ) (values : Parts (term_pieces rule)) (rest : List ℕ)
      → term_front rule ++ texts_of depth rule values rest ≡ term_under names depth (term_tree rule values) ++ rest
  term_rule_text FunRule depth (number, (colon, (takes, (arrow, (body, end))))) rest =
      sym (five_texts (numbered (codes "fun (_") depth) (codes ": ") (type_under names depth takes.shape takes.set) (codes ") => ")
      (term_under names (suc depth) body) rest)
  term_rule_text TypeFunRule depth (number, (below, (bound, (arrow, (body, end))))) rest =
      sym (five_texts (numbered (codes "fun [_T") depth) (codes " <: ") (shape_under names depth bound) (codes "] => ")
      (term_under names (suc depth) body) rest)
  term_rule_text LetRule depth (number, (note, (equals, (right, (inside, (body, end)))))) rest =
      sym (six_texts (numbered (codes "let _") depth) (behind_name names depth note) (codes " = ") (term_under names depth right)
      (codes " in ") (term_under names (suc depth) body) rest)
  term_rule_text IfRule depth (type, (close, (test, (first, (positive, (other, (negative, end))))))) rest =
      sym (eight_texts (codes "if [") (type_under names depth type.shape type.set) (codes "] ") (named names depth test) (codes " then ")
      (term_under names depth positive) (codes " else ") (term_under names depth negative) rest)
  term_rule_text BoundaryRule depth (gives, (close, (number, (arrow, (body, end))))) rest =
      sym (five_texts (codes "boundary [") (shape_under names depth gives) (numbered (codes "] _") depth) (codes " => ")
      (term_under names (suc depth) body) rest)
  term_rule_text BoxingRule depth (content, end) rest = refl
  term_rule_text UnboxRule depth (set, (space, (content, end))) rest =
      ap (λ z. codes "unbox {" ++ z) (sym (three_texts (elements_text names depth set.list ++ codes "}") (codes " ") (named names depth content) rest))
  term_rule_text RepeatRule depth (count, (comma, (body, (close, end)))) rest =
      sym (five_texts (codes "repeat(") (named names depth count) (codes ", ") (named names depth body) (codes ")") rest)
  term_rule_text LeaveRule depth (type, (bracket, (left, (comma, (given, (close, end)))))) rest =
      sym (seven_texts (codes "exit [") (type_under names depth type.shape type.set) (codes "] (") (named names depth left) (codes ", ")
      (named names depth given) (codes ")") rest)

  note_named : (depth : ℕ) (note : Note) → GoodNote names all apart room depth note → NamedNote names all apart depth note
  note_named depth Absent good = tt
  note_named depth (Written shape set) good = (good.0.0, good.1)
  note_named depth (Own shape) good = absurd good

  abbrev pub AboveTerm : ℕ → Term → Type 0
  AboveTerm depth term = NamedTerm names all apart depth term × (term_height term ≤ suc room)

  term_rule_good : (rule : TermRule) (depth : ℕ) (values : Parts (term_pieces rule)) → AllTermGood depth rule values
      → AboveTerm depth (term_tree rule values)
  term_rule_good FunRule depth (number, (colon, (takes, (arrow, (body, end))))) (low, (c, (t, (a, (b, e))))) =
      ((low, t.0.0, t.1, b.0), omega (arith, t.0.1, b.1))
  term_rule_good TypeFunRule depth (number, (below, (bound, (arrow, (body, end))))) (low, (c, (t, (a, (b, e))))) =
      ((low, t.0, b.0), omega (arith, t.1, b.1))
  term_rule_good LetRule depth (number, (note, (equals, (right, (inside, (body, end)))))) (low, (n, (c, (r, (a, (b, e)))))) =
      ((low, note_named depth note n, r.0, b.0), omega (arith, note_low names all apart room depth note n, r.1, b.1))
  term_rule_good IfRule depth (type, (close, (test, (first, (positive, (other, (negative, end))))))) (t, (c, (v, (f, (p, (o, (n, e))))))) =
      (((t.0.0, t.1), v.0, p.0, n.0), omega (arith, t.0.1, p.1, n.1))
  term_rule_good BoundaryRule depth (gives, (close, (number, (arrow, (body, end))))) (g, (c, (low, (a, (b, e))))) =
      ((low, g.0, b.0), omega (arith, g.1, b.1))
  term_rule_good BoxingRule depth (content, end) (v, e) = (v.0, omega (arith, v.1))
  term_rule_good UnboxRule depth (set, (space, (content, end))) (s, (c, (v, e))) = ((s, v.0), omega (arith, v.1))
  term_rule_good RepeatRule depth (count, (comma, (body, (close, end)))) (v, (c, (w, (d, e)))) = ((v.0, w.0), omega (arith, v.1))
  term_rule_good LeaveRule depth (type, (bracket, (left, (comma, (given, (close, end)))))) (t, (b, (v, (c, (w, (d, e)))))) =
      ((t.0.0, t.1, v.0, w.0), omega (arith, t.0.1))

  abbrev pub head_texts : ℕ → (rule : HeadRule) → Parts (head_pieces rule) → List ℕ → List ℕ
  head_texts depth rule values rest =
      pieces_text (Good names all apart room) (Text names all apart room) (Ends names all apart room) depth (head_pieces rule) values rest

  abbrev pub AllHeadGood : ℕ → (rule : HeadRule) → Parts (head_pieces rule) → Type 0
  AllHeadGood depth rule values =
      AllGood (Good names all apart room) (Text names all apart room) (Ends names all apart room) depth (head_pieces rule) values

  abbrev pub AllHeadEnd : ℕ → (rule : HeadRule) → Parts (head_pieces rule) → List ℕ → Type 0
  AllHeadEnd depth rule values rest =
      AllEnd (Good names all apart room) (Text names all apart room) (Ends names all apart room) depth (head_pieces rule) values rest

  pub head_rule_text : (head : Var) (rule : HeadRule) (depth : ℕ) (values : Parts (head_pieces rule)) (rest : List ℕ)
      → named names depth head ++ (head_front rule ++ head_texts depth rule values rest)
      ≡ term_under names depth (head_tree head rule values) ++ rest
  head_rule_text head Calls depth (argument, (close, end)) rest =
      sym (four_texts (named names depth head) (codes "(") (named names depth argument) (codes ")") rest)
  head_rule_text head TypeCalls depth (argument, (close, end)) rest =
      sym (four_texts (named names depth head) (codes "[") (shape_under names depth argument) (codes "]") rest)
  head_rule_text head (Computes operator) depth (right, end) rest =
      sym (three_texts (named names depth head) (operator_text operator) (named names depth right) rest)
  head_rule_text head (Tells operation) depth (argument, (close, end)) rest =
      sym (four_texts (named names depth head) (operation_text operation) (named names depth argument) (codes ")") rest)
  head_rule_text head (Asks operation) depth (close, end) rest =
      sym (four_texts (named names depth head) (operation_text operation) [] (codes ")") rest)

  head_rule_good : (head : Var) (rule : HeadRule) (depth : ℕ) (values : Parts (head_pieces rule))
      → NamedVariable names all apart depth head → 0 < room → HeadFits rule → AllHeadGood depth rule values
      → AboveTerm depth (head_tree head rule values)
  head_rule_good head Calls depth (argument, (close, end)) v some fits (w, (c, e)) = ((v, w.0), omega (arith, some))
  head_rule_good head TypeCalls depth (argument, (close, end)) v some fits (s, (c, e)) = ((v, s.0), omega (arith, s.1))
  head_rule_good head (Computes operator) depth (right, end) v some fits (w, e) = ((v, w.0), omega (arith, some))
  head_rule_good head (Tells operation) depth (argument, (close, end)) v some fits (w, (c, e)) = ((v, fits, w.0), omega (arith, some))
  head_rule_good head (Asks operation) depth (close, end) v some fits (c, e) = ((v, fits, tt), omega (arith, some))

  module _ (parts : Readers) where
    abbrev pub SoundParts : Type 0
    SoundParts = Sound (Good names all apart room) (Text names all apart room) (Ends names all apart room) parts

    abbrev pub CompleteParts : Type 0
    CompleteParts = Complete (Good names all apart room) (Text names all apart room) (Ends names all apart room) parts

    pub term_rule_gives : SoundParts → (rule : TermRule) (depth : ℕ) (bytes : List ℕ) (term : Term) (rest : List ℕ)
        → term_rule_at parts rule depth bytes ≡ Got term rest
        → AboveTerm depth term × (term_front rule ++ bytes ≡ term_under names depth term ++ rest)
    unfolding term_rule_at
    term_rule_gives sound rule depth bytes term rest h =
        let step = got_from_bind (pieces_at parts depth (term_pieces rule) bytes) (λ values r. Got (term_tree rule values) r) term rest h in
        let same = got_parts (term_tree rule step.0) term step.1 rest step.3 in
        let given = pieces_give (Good names all apart room) (Text names all apart room) (Ends names all apart room) parts sound depth (term_pieces rule) bytes step.0 step.1 step.2 in
        subst (λ s. AboveTerm depth s × (term_front rule ++ bytes ≡ term_under names depth s ++ rest)) same.0 (
          term_rule_good rule depth step.0 given.0,
          ap (λ z. term_front rule ++ z) given.1 ∙ (term_rule_text rule depth step.0 step.1
              ∙ ap (λ z. term_under names depth (term_tree rule step.0) ++ z) same.1),
        )

    pub term_rule_at-text : CompleteParts → (rule : TermRule) (depth : ℕ) (values : Parts (term_pieces rule)) (rest : List ℕ)
        → AllTermGood depth rule values → AllTermEnd depth rule values rest
        → term_rule_at parts rule depth (texts_of depth rule values rest) ≡ Got (term_tree rule values) rest
    unfolding term_rule_at
    term_rule_at-text complete rule depth values rest good ends =
        rw (pieces_at-text (Good names all apart room) (Text names all apart room) (Ends names all apart room) parts complete depth (term_pieces rule) values rest good ends) refl

    pub head_rule_gives : SoundParts → (head : Var) (rule : HeadRule) (depth : ℕ) (bytes : List ℕ) (term : Term) (rest : List ℕ)
        → NamedVariable names all apart depth head → HeadFits rule
        → head_rule_at parts room head rule depth bytes ≡ Got term rest
        → AboveTerm depth term × (named names depth head ++ (head_front rule ++ bytes) ≡ term_under names depth term ++ rest)
    unfolding head_rule_at
    head_rule_gives sound head rule depth bytes term rest v fits h =
        let step = got_from_bind (where_true (nat_lt 0 room) (pieces_at parts depth (head_pieces rule) bytes)) (λ values r. Got (head_tree head rule values) r) term rest h in
        let test = got_from_test (nat_lt 0 room) (pieces_at parts depth (head_pieces rule) bytes) step.0 step.1 step.2 in
        let same = got_parts (head_tree head rule step.0) term step.1 rest step.3 in
        let given = pieces_give (Good names all apart room) (Text names all apart room) (Ends names all apart room) parts sound depth (head_pieces rule) bytes step.0 step.1 test.1 in
        subst (λ s. AboveTerm depth s × (named names depth head ++ (head_front rule ++ bytes) ≡ term_under names depth s ++ rest)) same.0 (
          head_rule_good head rule depth step.0 v ((Decides-ltb 0 room).0 test.0) fits given.0,
          ap (λ z. named names depth head ++ (head_front rule ++ z)) given.1 ∙ (head_rule_text head rule depth step.0 step.1
              ∙ ap (λ z. term_under names depth (head_tree head rule step.0) ++ z) same.1),
        )

    pub head_rule_at-text : CompleteParts → (head : Var) (rule : HeadRule) (depth : ℕ) (values : Parts (head_pieces rule)) (rest : List ℕ)
        → 0 < room → AllHeadGood depth rule values → AllHeadEnd depth rule values rest
        → head_rule_at parts room head rule depth (head_texts depth rule values rest) ≡ Got (head_tree head rule values) rest
    unfolding head_rule_at
    head_rule_at-text complete head rule depth values rest some good ends =
        rw ((Decides-ltb 0 room).1 some, pieces_at-text (Good names all apart room) (Text names all apart room) (Ends names all apart room) parts complete depth (head_pieces rule) values rest good ends) refl
