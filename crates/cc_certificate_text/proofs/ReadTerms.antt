-- What is read as a term, from what is read as its parts.
use Rattle.std.proofs.Common.{◌≡◌, ℕ, zero, suc, ◌^◌, ◌<◌, ◌≤◌, Bool, true, false, ◌==◌, ◌⊎◌, inl, inr, ⊎_elim, List, [], ◌∷◌, ◌++◌, map, Option, Some, None, length, decimal, codes, bytes_eq, refl, sym, ap, subst, ◌∙◌, arith, append_assoc}
use Rattle.std.specs.Prelude.{max, nat_lt, is_some, encode_utf8_all, pos, negsuc}
use Rattle.std.specs.Option.{option_map}
use Rattle.std.specs.List.{AllByRecursion, IsDistinct}
use Rattle.std.proofs.lemmas.Bool.{true≢false}
use Rattle.std.proofs.lemmas.Bool.Decides.{Decides-ltb, Decides-eqb}
use Rattle.cc_base.specs.Names.{IsName, is_reserved, reserved_words}
use Rattle.cc_base.specs.Literals.{Literal, UnitLiteral, TruthLiteral, NumberLiteral, TextLiteral}
use Rattle.cc_base.specs.declared.literal.Op.TheVariants as operations
use Rattle.cc_base.specs.declared.literal.Operator.TheVariants as operators
use Rattle.cc_capture.specs.declared.var.Var.{Var}
use Rattle.cc_capture.specs.declared.var.Var.TheVariants.{Bound, Free}
use Rattle.cc_capture.specs.declared.var.Elem.{Elem}
use Rattle.cc_capture.specs.declared.var.Elem.TheVariants.{Var as Variable, Cap, Hole}
use Rattle.cc_capture.specs.Sets.{Set, image, empty}
use Rattle.cc_capture.proofs.Images.{image-identity, image-congruent}
use Rattle.cc_core.specs.Shapes.{Shape, BaseShape, AnyShape, TypeVariable, FunctionShape, TypeFunctionShape, BoxShape, ExitShape, CapturingType, capturing}
use Rattle.cc_core.specs.Terms.{Note, Absent, Written, Own, Term, VariableTerm, LiteralTerm, FunctionTerm, TypeFunctionTerm, BoxTerm, Application, TypeApplication, Unboxing, Let, Primitive, Conditional, Repetition, Operation, Boundary, Leave}
use Rattle.cc_words.specs.Words.{after_prefix, cut_at}
use Rattle.cc_words.proofs.Steps.{cut_at_gives, cut_at-append, Lacks}
use Rattle.cc_print.specs.TypeTexts.{numbered, variable_text, element_text, others_text, elements_text, set_under, shape_under, type_under}
use Rattle.cc_print.proofs.Words.{IsWord, EndsWord, clash, first_same, same_words, name_not_reserved, low_line_not_reserved, is_word_byte}
use Rattle.cc_certificate_text.specs.Heights.{shape_height, term_height}
use Rattle.cc_certificate_text.specs.LocalNames.{renamed, IsNamed, IsNamedSet, IsNamedShape}
use Rattle.cc_print.specs.TermTexts.{literal_text, named, behind_name, term_under}
use Rattle.cc_certificate_text.specs.Certificates.{IsWrittenLiteral, takes_argument}
use Rattle.cc_certificate_text.specs.Reading.{Found, Got, Wrong, Reader, ◌>>=◌, found_of, where_true, begun, Counted, word_at, variable_of, some_set_at, set_at, Kind, ShapePart, TypePart, SetPart, VariablePart, NotePart, TermPart, Value, Readers, Parts, pieces_at, shape_at, type_at, type_over, variable_at, note_at, term_parts}
use Rattle.cc_certificate_text.proofs.Readers.{got_from_bind, got_from_option, got_from_test, got_parts, begun_gives, begun-none, word_at-word, word_at_gives}
use Rattle.cc_certificate_text.proofs.Seen.{seen, seen_element, MayStand}
use Rattle.cc_certificate_text.proofs.ReadSets.{variable_of_gives, variable_of-text, variable_word, NamedElement, element_some, element_word, no_prefix}
use Rattle.cc_certificate_text.proofs.Pieces.{AllGood, AllEnd, pieces_text, pieces_give, pieces_at-text, Sound, Complete}
use Rattle.cc_certificate_text.proofs.SetOrders.{InOrder, elements_in_order}
use Rattle.cc_certificate_text.proofs.ReadTypes.{NamedSet, NamedShape, HasElements, written_set, elements_written, stext, ttext, viewed, EndsType, EndsShape, some_set_at_gives, some_set_at-text, some_or_empty, elements_lack, written_empty, ends_word}
use Rattle.cc_certificate_text.proofs.ReadShapes.{GoodShape, GoodType, shape_at_gives, shape_at-text, type_at_gives, type_at-text, three_texts, five_texts}

-- IN TYPES OF TERMS THE NUMBERS ARE THOSE OF THE TEXT

counted_element : (names : ℕ) (e : Elem) → seen_element Counted names e ≡ e
counted_element names (Variable v) = refl
counted_element names Cap = refl
counted_element names (Hole hole) = refl

counted_set : (names : ℕ) (set : Set) → image (seen_element Counted names) set ≡ set
counted_set names set =
    image-congruent (seen_element Counted names) (λ e. e) set (λ e m. counted_element names e) ∙ image-identity set

counted_shape : (names : ℕ) (shape : Shape) → renamed (seen Counted names) (seen_element Counted names) shape ≡ shape
counted_shape names (BaseShape base) = refl
counted_shape names AnyShape = refl
counted_shape names (TypeVariable variable) = refl
counted_shape names (FunctionShape takes c gives d) =
    λ i. FunctionShape (counted_shape names takes i) (counted_set names c i) (counted_shape names gives i) (counted_set names d i)
counted_shape names (TypeFunctionShape bound gives d) =
    λ i. TypeFunctionShape (counted_shape names bound i) (counted_shape names gives i) (counted_set names d i)
counted_shape names (BoxShape content c) = λ i. BoxShape (counted_shape names content i) (counted_set names c i)
counted_shape names (ExitShape gives) = λ i. ExitShape (counted_shape names gives i)

module _ (names : List (List ℕ)) (all : AllByRecursion IsName names) (apart : IsDistinct bytes_eq names) where
  pub counted_stext : (depth : ℕ) (shape : Shape) → stext names all apart Counted depth shape ≡ shape_under names depth shape
  counted_stext depth shape = ap (shape_under names depth) (counted_shape (length names) shape)

  pub counted_ttext : (depth : ℕ) (type : CapturingType)
      → ttext names all apart Counted depth type ≡ type_under names depth type.shape type.set
  counted_ttext depth type =
      λ i. type_under names depth (counted_shape (length names) type.shape i) (counted_set (length names) type.set i)

  counted_set_text : (depth : ℕ) (set : Set) → set_under names depth (written_set names all apart Counted set) ≡ set_under names depth set
  counted_set_text depth set = ap (set_under names depth) (counted_set (length names) set)

  -- a set behind its first brace
  abbrev pub set_behind : ℕ → Set → List ℕ
  set_behind depth set = elements_text names depth set.list ++ codes "}"

  -- WHAT A TERM MAY HAVE

  abbrev pub NamedVariable : ℕ → Var → Type 0
  NamedVariable depth v = IsNamed (MayStand Counted depth) (length names) v

  abbrev pub SetOf : ℕ → Set → Type 0
  SetOf depth set = NamedSet names all apart Counted depth set

  abbrev pub ShapeOf : ℕ → Shape → Type 0
  ShapeOf depth shape = NamedShape names all apart Counted depth shape

  abbrev pub NamedNote : ℕ → Note → Type 0
  NamedNote depth Absent = Unit {0}
  NamedNote depth (Written shape set) = ShapeOf depth shape × SetOf depth set
  NamedNote depth (Own shape) = ⊥

  abbrev pub WrittenNote : ℕ → Note → Type 0
  WrittenNote depth Absent = ⊥
  WrittenNote depth (Written shape set) = ShapeOf depth shape × SetOf depth set
  WrittenNote depth (Own shape) = ⊥

  abbrev pub NamedArgument : ℕ → Option Var → Type 0
  NamedArgument depth (Some v) = NamedVariable depth v
  NamedArgument depth None = Unit {0}

  abbrev pub NamedOpening : ℕ → Option Set → Type 0
  NamedOpening depth (Some set) = SetOf depth set
  NamedOpening depth None = ⊥

  -- each variable is a name or has its binder, the numbers are below 2^32, and nothing is omitted
  abbrev pub NamedTerm : ℕ → Term → Type 0
  NamedTerm depth (VariableTerm v) = NamedVariable depth v
  NamedTerm depth (LiteralTerm literal) = IsWrittenLiteral literal
  NamedTerm depth (FunctionTerm takes c body) =
      (depth < 2 ^ 32) × ShapeOf depth takes × SetOf depth c × NamedTerm (suc depth) body
  NamedTerm depth (TypeFunctionTerm bound body) = (depth < 2 ^ 32) × ShapeOf depth bound × NamedTerm (suc depth) body
  NamedTerm depth (BoxTerm content) = NamedVariable depth content
  NamedTerm depth (Application head argument) = NamedVariable depth head × NamedVariable depth argument
  NamedTerm depth (TypeApplication head argument) = NamedVariable depth head × ShapeOf depth argument
  NamedTerm depth (Unboxing set content) = NamedOpening depth set × NamedVariable depth content
  NamedTerm depth (Let note right body) =
      (depth < 2 ^ 32) × NamedNote depth note × NamedTerm depth right × NamedTerm (suc depth) body
  NamedTerm depth (Primitive operator left right) = NamedVariable depth left × NamedVariable depth right
  NamedTerm depth (Conditional note test positive negative) =
      WrittenNote depth note × NamedVariable depth test × NamedTerm depth positive × NamedTerm depth negative
  NamedTerm depth (Repetition count body) = NamedVariable depth count × NamedVariable depth body
  NamedTerm depth (Operation operation receiver argument) =
      NamedVariable depth receiver × (takes_argument operation ≡ is_some argument) × NamedArgument depth argument
  NamedTerm depth (Boundary gives body) = (depth < 2 ^ 32) × ShapeOf depth gives × NamedTerm (suc depth) body
  NamedTerm depth (Leave gives c left given) =
      ShapeOf depth gives × SetOf depth c × NamedVariable depth left × NamedVariable depth given

  -- no term goes on at the front of the text
  abbrev pub EndsTerm : List ℕ → Type 0
  EndsTerm rest =
      ((r : List ℕ) × (rest ≡ 10 ∷ r)) ⊎ (((r : List ℕ) × (rest ≡ codes " in " ++ r)) ⊎ ((r : List ℕ) × (rest ≡ codes " else " ++ r)))

  pub term_ends_word : (rest : List ℕ) → EndsTerm rest → EndsWord rest
  term_ends_word rest ends =
      ⊎_elim (λ line. subst EndsWord (sym line.1) refl)
      (λ more. ⊎_elim (λ inside. subst EndsWord (sym inside.1) refl) (λ other. subst EndsWord (sym other.1) refl) more) ends

  module _ (room : ℕ) where
    abbrev pub GoodNote : ℕ → Note → Type 0
    GoodNote depth Absent = Unit {0}
    GoodNote depth (Written shape set) = GoodType names all apart Counted room depth (capturing shape set)
    GoodNote depth (Own shape) = ⊥

    abbrev pub GoodTerm : ℕ → Term → Type 0
    GoodTerm depth term = NamedTerm depth term × (term_height term ≤ room)

    abbrev pub Good : (kind : Kind) → ℕ → Value kind → Type 0
    Good ShapePart depth shape = GoodShape names all apart Counted room depth shape
    Good TypePart depth type = GoodType names all apart Counted room depth type
    Good SetPart depth set = SetOf depth set
    Good VariablePart depth v = NamedVariable depth v × (0 < room)
    Good NotePart depth note = GoodNote depth note
    Good TermPart depth term = GoodTerm depth term

    abbrev pub Text : (kind : Kind) → ℕ → Value kind → List ℕ
    Text ShapePart depth shape = shape_under names depth shape
    Text TypePart depth type = type_under names depth type.shape type.set
    Text SetPart depth set = set_behind depth set
    Text VariablePart depth v = named names depth v
    Text NotePart depth note = behind_name names depth note
    Text TermPart depth term = term_under names depth term

    abbrev pub Ends : (kind : Kind) → Value kind → List ℕ → Type 0
    Ends ShapePart shape rest = EndsShape names all apart Counted shape rest
    Ends TypePart type rest = EndsType names all apart Counted rest
    Ends SetPart set rest = Unit {0}
    Ends VariablePart v rest = EndsWord rest
    Ends NotePart note rest = (r : List ℕ) × (rest ≡ codes " = " ++ r)
    Ends TermPart term rest = EndsTerm rest

    -- SETS AND VARIABLES

    append_none : (xs ys : List ℕ) → xs ++ ys ≡ [] → xs ≡ []
    append_none [] ys e = refl
    append_none (x ∷ xs) ys e = cc

    empty_named : (depth : ℕ) → SetOf depth empty
    unfolding empty
    empty_named depth = tt

    empty_text : (depth : ℕ) → set_behind depth empty ≡ codes "}"
    unfolding empty
    empty_text depth = refl

    set_at_gives : (depth : ℕ) (bytes : List ℕ) (set : Set) (rest : List ℕ) → set_at Counted names depth bytes ≡ Got set rest
        → SetOf depth set × (bytes ≡ set_behind depth set ++ rest)
    unfolding set_at
    set_at_gives depth bytes set rest h =
        begun_gives bytes (codes "}") (λ r. Got empty r) (some_set_at Counted names depth bytes) set rest
        (SetOf depth set × (bytes ≡ set_behind depth set ++ rest))
        (λ r e k. (let same = got_parts empty set r rest k in
        subst (λ s. SetOf depth s × (bytes ≡ set_behind depth s ++ rest)) same.0
        (empty_named depth, e ∙ (ap (λ z. 125 ∷ z) same.1 ∙ sym (ap (λ t. t ++ rest) (empty_text depth))))))
        (λ k. (let given = some_set_at_gives names all apart Counted depth bytes set rest k in (
          given.0,
          given.2 ∙ (ap (λ s. elements_text names depth s.list ++ 125 ∷ rest) (counted_set (length names) set)
              ∙ sym (append_assoc (elements_text names depth set.list) (codes "}") rest)),
        ))) h

    first_some : (depth : ℕ) (set : Set) (elements : List Elem)
        → AllByRecursion (NamedElement names all apart Counted depth) elements
        → map (seen_element Counted (length names)) elements ≡ (written_set names all apart Counted set).list
        → HasElements names all apart Counted set → elements_written names all apart Counted depth set ≡ [] → ⊥
    first_some depth set [] ok written some e = nothing_listed some.0 some.1 (written ∙ some.2)
      where
        nothing_listed : (x : Elem) (xs : List Elem) → [] ≡ x ∷ xs → ⊥
        nothing_listed x xs e = cc
    first_some depth set (x ∷ xs) ok written some e =
        element_some names all apart Counted depth x ok.0
        (append_none (element_text names depth (seen_element Counted (length names) x))
        (others_text names depth (map (seen_element Counted (length names)) xs))
        (ap (elements_text names depth) written ∙ e))

    no_close : (elements rest r : List ℕ) → Lacks 125 elements → (elements ≡ [] → ⊥) → elements ++ 125 ∷ rest ≡ 125 ∷ r → ⊥
    no_close [] rest r lacks some e = some refl
    no_close (b ∷ bs) rest r lacks some e = clash (b == 125) ((Decides-eqb b 125).1 (first_same b 125 _ _ e)) lacks.0

    set_some : (depth : ℕ) (set : Set) (rest : List ℕ) → SetOf depth set → HasElements names all apart Counted set
        → begun (after_prefix (elements_text names depth set.list ++ 125 ∷ rest) (codes "}")) (λ r. Got empty r)
        (some_set_at Counted names depth (elements_text names depth set.list ++ 125 ∷ rest)) ≡ Got set rest
    set_some depth set rest ok some =
        let o = elements_in_order Counted (MayStand Counted depth) (length names) set ok in
        let text = elements_text names depth set.list in
        let written : elements_written names all apart Counted depth set ≡ text =
        ap (λ s. elements_text names depth s.list) (counted_set (length names) set) in
        let lacks = elements_lack names all apart Counted depth set o.elements o.named o.written some in
        let there = subst (λ t. t ≡ [] → ⊥) written (first_some depth set o.elements o.named o.written some) in
        begun-none (after_prefix (text ++ 125 ∷ rest) (codes "}")) (λ r. Got empty r) (some_set_at Counted names depth (text ++ 125 ∷ rest))
        (no_prefix (text ++ 125 ∷ rest) (codes "}") (λ r e. no_close text rest r (subst (Lacks 125) written lacks) there e))
        ∙ subst (λ t. some_set_at Counted names depth (t ++ 125 ∷ rest) ≡ Got set rest) written
        (some_set_at-text names all apart Counted depth set rest ok some)

    set_none : (depth : ℕ) (rest : List ℕ)
        → begun (after_prefix (elements_text names depth empty.list ++ 125 ∷ rest) (codes "}")) (λ r. Got empty r)
        (some_set_at Counted names depth (elements_text names depth empty.list ++ 125 ∷ rest)) ≡ Got empty rest
    unfolding empty begun
    set_none depth rest = refl

    set_at-text : (depth : ℕ) (set : Set) (rest : List ℕ) → SetOf depth set
        → set_at Counted names depth (set_behind depth set ++ rest) ≡ Got set rest
    unfolding set_at
    set_at-text depth set rest ok =
        subst (λ b. begun (after_prefix b (codes "}")) (λ r. Got empty r) (some_set_at Counted names depth b) ≡ Got set rest)
        (sym (append_assoc (elements_text names depth set.list) (codes "}") rest))
        (⊎_elim (λ some. set_some depth set rest ok some)
        (λ none. subst (λ s. begun (after_prefix (elements_text names depth s.list ++ 125 ∷ rest) (codes "}")) (λ r. Got empty r) (some_set_at Counted names depth (elements_text names depth s.list ++ 125 ∷ rest)) ≡ Got s rest)
        none (set_none depth rest))
        (some_or_empty names all apart Counted depth set ok))

    variable_part_gives : (depth : ℕ) (bytes : List ℕ) (v : Var) (rest : List ℕ)
        → where_true (nat_lt 0 room) (variable_at names depth bytes) ≡ Got v rest
        → (NamedVariable depth v × (0 < room)) × (bytes ≡ named names depth v ++ rest)
    unfolding variable_at
    variable_part_gives depth bytes v rest h =
        let test = got_from_test (nat_lt 0 room) (variable_at names depth bytes) v rest h in
        let found = got_from_option (variable_of Counted names depth (word_at bytes).0) (word_at bytes).1 v rest test.1 in
        let given = variable_of_gives names all apart Counted depth (word_at bytes).0 v found.0 in
        ((given.0, (Decides-ltb 0 room).0 test.0), word_at_gives bytes ∙ (λ i. given.1 i ++ found.1 i))

    variable_part-text : (depth : ℕ) (v : Var) (rest : List ℕ) → NamedVariable depth v × (0 < room) → EndsWord rest
        → where_true (nat_lt 0 room) (variable_at names depth (named names depth v ++ rest)) ≡ Got v rest
    unfolding variable_at
    variable_part-text depth v rest good ends =
        let word = word_at-word (named names depth v) rest (variable_word names all apart Counted depth v good.0) ends in
        rw ((Decides-ltb 0 room).1 good.1, word, variable_of-text names all apart Counted depth v good.0) refl

    -- NOTES

    type_gives : (depth : ℕ) (bytes : List ℕ) (type : CapturingType) (rest : List ℕ)
        → type_over Counted names (shape_at Counted names room depth) depth bytes ≡ Got type rest
        → GoodType names all apart Counted room depth type × (bytes ≡ type_under names depth type.shape type.set ++ rest)
    unfolding type_at
    type_gives depth bytes type rest h =
        let given = type_at_gives names all apart Counted room depth bytes type rest h in
        (given.0, given.1 ∙ ap (λ t. t ++ rest) (counted_ttext depth type))

    type-text : (depth : ℕ) (type : CapturingType) (rest : List ℕ) → GoodType names all apart Counted room depth type
        → EndsType names all apart Counted rest
        → type_over Counted names (shape_at Counted names room depth) depth (type_under names depth type.shape type.set ++ rest) ≡ Got type rest
    unfolding type_at
    type-text depth type rest good ends =
        subst (λ t. type_over Counted names (shape_at Counted names room depth) depth (t ++ rest) ≡ Got type rest) (counted_ttext depth type)
        (type_at-text names all apart Counted room depth type rest good ends)

    note_at_gives : (depth : ℕ) (bytes : List ℕ) (note : Note) (rest : List ℕ)
        → note_at names (shape_at Counted names room) depth bytes ≡ Got note rest
        → GoodNote depth note × (bytes ≡ behind_name names depth note ++ rest)
    unfolding note_at
    note_at_gives depth bytes note rest h =
        begun_gives bytes (codes ": ")
        (λ r. type_over Counted names (shape_at Counted names room depth) depth r >>= λ type behind. Got (Written type.shape type.set) behind)
        (Got Absent bytes) note rest (GoodNote depth note × (bytes ≡ behind_name names depth note ++ rest))
        (λ r e k.
        (let step = got_from_bind (type_over Counted names (shape_at Counted names room depth) depth r)
        (λ type behind. Got (Written type.shape type.set) behind) note rest k in
        let same = got_parts (Written step.0.shape step.0.set) note step.1 rest step.3 in
        let given = type_gives depth r step.0 step.1 step.2 in
        subst (λ n. GoodNote depth n × (bytes ≡ behind_name names depth n ++ rest)) same.0
        (given.0, e ∙ ap (λ z. 58 ∷ 32 ∷ z) (given.1 ∙ ap (λ z. type_under names depth step.0.shape step.0.set ++ z) same.1))))
        (λ k. (let same = got_parts Absent note bytes rest k in
        subst (λ n. GoodNote depth n × (bytes ≡ behind_name names depth n ++ rest)) same.0 (tt, same.1))) h

    note_at-text : (depth : ℕ) (note : Note) (r : List ℕ) → GoodNote depth note
        → note_at names (shape_at Counted names room) depth (behind_name names depth note ++ (codes " = " ++ r)) ≡ Got note (codes " = " ++ r)
    unfolding note_at begun
    note_at-text depth Absent r good = refl
    note_at-text depth (Written shape set) r good =
        rw (type-text depth (capturing shape set) (codes " = " ++ r) good (refl, refl)) refl
    note_at-text depth (Own shape) r good = absurd good

    -- PARTS

    pub parts_give : (terms : ℕ → Reader Term)
        → ((d : ℕ) (b : List ℕ) (t : Term) (r : List ℕ) → terms d b ≡ Got t r → GoodTerm d t × (b ≡ term_under names d t ++ r))
        → Sound Good Text Ends (term_parts names room (shape_at Counted names room) terms)
    parts_give terms sound ShapePart depth bytes value rest h =
        let given = shape_at_gives names all apart Counted room depth bytes value rest h in
        (given.0, given.1 ∙ ap (λ t. t ++ rest) (counted_stext depth value))
    parts_give terms sound TypePart depth bytes value rest h = type_gives depth bytes value rest h
    parts_give terms sound SetPart depth bytes value rest h = set_at_gives depth bytes value rest h
    parts_give terms sound VariablePart depth bytes value rest h = variable_part_gives depth bytes value rest h
    parts_give terms sound NotePart depth bytes value rest h = note_at_gives depth bytes value rest h
    parts_give terms sound TermPart depth bytes value rest h = sound depth bytes value rest h

    pub parts_text : (terms : ℕ → Reader Term)
        → ((d : ℕ) (t : Term) (r : List ℕ) → GoodTerm d t → EndsTerm r → terms d (term_under names d t ++ r) ≡ Got t r)
        → Complete Good Text Ends (term_parts names room (shape_at Counted names room) terms)
    parts_text terms complete ShapePart depth value rest good ends =
        subst (λ t. shape_at Counted names room depth (t ++ rest) ≡ Got value rest) (counted_stext depth value)
        (shape_at-text names all apart Counted room depth value rest good ends)
    parts_text terms complete TypePart depth value rest good ends = type-text depth value rest good ends
    parts_text terms complete SetPart depth value rest good ends = set_at-text depth value rest good
    parts_text terms complete VariablePart depth value rest good ends = variable_part-text depth value rest good ends
    parts_text terms complete NotePart depth value rest good ends =
        subst (λ b. note_at names (shape_at Counted names room) depth (behind_name names depth value ++ b) ≡ Got value b) (sym ends.1)
        (note_at-text depth value ends.0 good)
    parts_text terms complete TermPart depth value rest good ends = complete depth value rest good ends
