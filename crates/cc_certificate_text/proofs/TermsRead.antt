-- What is read as a term within so much room, and that the texts of terms are read.
use Rattle.std.proofs.Common.{◌≡◌, ℕ, zero, suc, ◌-◌, ◌^◌, ◌<◌, ◌≤◌, Bool, true, false, ◌==◌, ◌⊎◌, inl, inr, ⊎_elim, List, [], ◌∷◌, ◌++◌, Option, Some, None, length, decimal, codes, bytes_eq, slice_index_or, refl, sym, ap, subst, ◌∙◌, arith, append_assoc}
use Rattle.std.specs.Prelude.{max, nat_lt, is_some, pos, negsuc, encode_utf8_all}
use Rattle.std.specs.Option.{option_map}
use Rattle.std.specs.List.{AllByRecursion, IsDistinct}
use Rattle.std.proofs.lemmas.Slice.Eq.{bytes_eq-Decides}
use Rattle.cc_capture.specs.declared.var.Elem.TheVariants.{Var as Variable}
use Rattle.cc_base.specs.Names.{IsName, is_reserved, reserved_words}
use Rattle.cc_base.specs.Literals.{Literal, UnitLiteral, TruthLiteral, NumberLiteral, TextLiteral}
use Rattle.cc_base.specs.declared.literal.Op.TheVariants as operations
use Rattle.cc_base.specs.declared.literal.Operator.TheVariants as operators
use Rattle.cc_capture.specs.declared.var.Var.{Var}
use Rattle.cc_capture.specs.declared.var.Var.TheVariants.{Bound, Free}
use Rattle.cc_core.specs.Shapes.{Shape, capturing}
use Rattle.cc_core.specs.Terms.{Note, Absent, Written, Own, Term, VariableTerm, LiteralTerm, FunctionTerm, TypeFunctionTerm, BoxTerm, Application, TypeApplication, Unboxing, Let, Primitive, Conditional, Repetition, Operation, Boundary, Leave}
use Rattle.cc_words.specs.Words.{after_prefix, cut_at}
use Rattle.cc_words.proofs.Steps.{cut_at_gives, cut_at-append}
use Rattle.cc_print.proofs.ElementTexts.{ends_differ}
use Rattle.cc_print.proofs.Words.{IsWord, EndsWord, clash, same_words, word_decimal, word_from_test, rest_same, name_not_reserved, low_line_not_reserved}
use Rattle.cc_certificate_text.specs.Heights.{shape_height, term_height}
use Rattle.cc_print.specs.TermTexts.{literal_text, named, term_under}
use Rattle.cc_certificate_text.specs.Certificates.{IsWrittenLiteral, takes_argument}
use Rattle.cc_certificate_text.specs.Reading.{Found, Got, Wrong, Reader, ◌>>=◌, found_of, begun, Counted, word_at, spelled_position, variable_by, variable_of, Readers, Parts, shape_at, term_parts, TermRule, FunRule, TypeFunRule, LetRule, IfRule, BoundaryRule, BoxingRule, UnboxRule, RepeatRule, LeaveRule, term_pieces, term_tree, term_rule_at, HeadRule, Calls, TypeCalls, Computes, Tells, Asks, head_pieces, head_tree, head_rule_at, operated_at, computed_at, headed_at, text_of, text_of_cut, text_at, literal_of, term_of_word, word_term_at, plain_term_at, term_over, term_at}
use Rattle.cc_certificate_text.proofs.Readers.{got_from_option, got_parts, begun_gives, word_at-word, word_at_gives}
use Rattle.cc_certificate_text.proofs.ReadSets.{element_some, map_gives, seen_name, named_at, position_of_gives, variable_of_gives, variable_of-text, variable_word, no_prefix}
use Rattle.cc_certificate_text.proofs.ReadShapes.{height_some}
use Rattle.cc_certificate_text.proofs.TextLiterals.{IsLetters, number_no_letters, name_no_number, number_no_low_line, literal_of_gives, literal_of-number, literal_of-unit, literal_of-true, literal_of-false, text_of_gives, text_of-text, lacks_quote}
use Rattle.cc_certificate_text.proofs.ReadTerms.{NamedVariable, NamedTerm, GoodTerm, EndsTerm, term_ends_word, parts_give, parts_text}
use Rattle.cc_certificate_text.proofs.TermRules.{term_front, head_front, HeadFits, texts_of, AllTermGood, AllTermEnd, term_rule_text, AboveTerm, head_texts, AllHeadGood, AllHeadEnd, head_rule_text, SoundParts, CompleteParts, term_rule_gives, term_rule_at-text, head_rule_gives, head_rule_at-text}

-- a text that begins with another word than the prefix does not begin with the prefix
keyword : (w tail word : List ℕ) (b : ℕ) (bs : List ℕ) → IsWord w → EndsWord tail → IsWord word → EndsWord (b ∷ bs)
    → (w ≡ word → ⊥) → after_prefix (w ++ tail) (word ++ b ∷ bs) ≡ None
keyword w tail word b bs isword ends isother out other =
    no_prefix (w ++ tail) (word ++ b ∷ bs)
    (λ r e. other (same_words w word tail ((b ∷ bs) ++ r) isword isother ends out (e ∙ append_assoc word (b ∷ bs) r)).0)

no_let : (w tail : List ℕ) → IsWord w → EndsWord tail → ((r : List ℕ) → tail ≡ 32 ∷ 95 ∷ r → ⊥)
    → after_prefix (w ++ tail) (codes "let _") ≡ None
no_let w tail isword ends other =
    no_prefix (w ++ tail) (codes "let _")
    (λ r e. other r (same_words w (codes "let") tail (32 ∷ 95 ∷ r) isword (word_from_test (codes "let") refl) ends refl e).1)

no_quote : (w tail : List ℕ) → IsWord w → EndsWord tail → (w ≡ [] → ⊥) → after_prefix (w ++ tail) (34 ∷ []) ≡ None
no_quote w tail isword ends some =
    no_prefix (w ++ tail) (34 ∷ []) (λ r e. some (same_words w [] tail (34 ∷ r) isword tt ends refl e).0)

none_unless : {A : Type 0} (o : Option A) → ((x : A) → o ≡ Some x → ⊥) → o ≡ None
none_unless None h = refl
none_unless (Some x) h = absurd (h x refl)

room_some : (shape : Shape) (room : ℕ) → (shape_height shape ≤ 0 → ⊥) → shape_height shape ≤ room → 0 < room
room_some shape zero some h = absurd (some h)
room_some shape (suc room) some h = omega arith

module _ (names : List (List ℕ)) (all : AllByRecursion IsName names) (apart : IsDistinct bytes_eq names) where
  not_reserved : (depth : ℕ) (v : Var) → NamedVariable names all apart depth v → is_reserved (named names depth v) ≡ false
  not_reserved depth (Bound i) h = low_line_not_reserved (decimal (depth - 1 - i))
  not_reserved depth (Free p) h =
      ap is_reserved (seen_name names depth Counted p h) ∙ name_not_reserved (slice_index_or names p []) (named_at names all p h)

  reserved_no_name : (word : List ℕ) → is_reserved word ≡ true → (p : ℕ) → spelled_position names word ≡ Some p → ⊥
  reserved_no_name word reserved p h =
      let found = position_of_gives names word p h in
      clash (is_reserved word) reserved
      (ap is_reserved found.1 ∙ name_not_reserved (slice_index_or names p []) (named_at names all p found.0))

  no_variable : (depth : ℕ) (word : List ℕ) → after_prefix word (codes "_") ≡ None → ((p : ℕ) → spelled_position names word ≡ Some p → ⊥)
      → variable_of Counted names depth word ≡ None
  unfolding variable_of
  no_variable depth word low none = rw (low, none_unless (spelled_position names word) none) refl

  unlike_keyword : (depth : ℕ) (v : Var) (word : List ℕ) → NamedVariable names all apart depth v → is_reserved word ≡ true
      → named names depth v ≡ word → ⊥
  unlike_keyword depth v word h reserved e =
      clash (is_reserved word) reserved (sym (ap is_reserved e) ∙ not_reserved depth v h)

  module _ (room : ℕ) (parts : Readers) where
    -- WHAT IS READ IS A TERM

    abbrev Given : ℕ → List ℕ → Term → List ℕ → Type 0
    Given depth bytes term rest = AboveTerm names all apart room depth term × (bytes ≡ term_under names depth term ++ rest)

    module _ (sound : SoundParts names all apart room parts) (depth : ℕ) where
      headed_at_gives : (head : Var) (bytes : List ℕ) (term : Term) (rest : List ℕ) → NamedVariable names all apart depth head
          → headed_at parts room head depth bytes ≡ Got term rest → Given depth (named names depth head ++ bytes) term rest
      unfolding headed_at operated_at computed_at
      headed_at_gives head bytes term rest v h =
          let P : Type 0 = Given depth (named names depth head ++ bytes) term rest in
          let rule = λ (rule : HeadRule) (fits : HeadFits rule) (r : List ℕ) (e : bytes ≡ head_front rule ++ r) (k : head_rule_at parts room head rule depth r ≡ Got term rest).
          (let given = head_rule_gives names all apart room parts sound head rule depth r term rest v fits k in
          subst (λ b. Given depth (named names depth head ++ b) term rest) (sym e) given) in
          begun_gives bytes (codes "(") (head_rule_at parts room head Calls depth) _ term rest P (rule Calls tt)
          (λ k. begun_gives bytes (codes "[") (head_rule_at parts room head TypeCalls depth) _ term rest P (rule TypeCalls tt)
          (λ k. begun_gives bytes (codes ".print(") (head_rule_at parts room head (Tells operations.Print) depth) _ term rest P (rule (Tells operations.Print) refl)
          (λ k. begun_gives bytes (codes ".say(") (head_rule_at parts room head (Tells operations.Say) depth) _ term rest P (rule (Tells operations.Say) refl)
          (λ k. begun_gives bytes (codes ".read(") (head_rule_at parts room head (Asks operations.Read) depth) _ term rest P (rule (Asks operations.Read) refl)
          (λ k. begun_gives bytes (codes ".write(") (head_rule_at parts room head (Tells operations.Write) depth) _ term rest P (rule (Tells operations.Write) refl)
          (λ k. begun_gives bytes (codes ".tick(") (head_rule_at parts room head (Asks operations.Tick) depth) _ term rest P (rule (Asks operations.Tick) refl)
          (λ k. begun_gives bytes (codes " + ") (head_rule_at parts room head (Computes operators.Add) depth) _ term rest P (rule (Computes operators.Add) tt)
          (λ k. begun_gives bytes (codes " - ") (head_rule_at parts room head (Computes operators.Sub) depth) _ term rest P (rule (Computes operators.Sub) tt)
          (λ k. begun_gives bytes (codes " * ") (head_rule_at parts room head (Computes operators.Mul) depth) _ term rest P (rule (Computes operators.Mul) tt)
          (λ k. begun_gives bytes (codes " < ") (head_rule_at parts room head (Computes operators.Less) depth) _ term rest P (rule (Computes operators.Less) tt)
          (λ k. begun_gives bytes (codes " == ") (head_rule_at parts room head (Computes operators.Equal) depth) _ term rest P (rule (Computes operators.Equal) tt)
          (λ k. (let same = got_parts (VariableTerm head) term bytes rest k in
          subst (λ t. Given depth (named names depth head ++ bytes) t rest) same.0 ((v, omega arith), ap (λ z. named names depth head ++ z) same.1)))
          k) k) k) k) k) k) k) k) k) k) k) h

      term_of_word_gives : (word behind : List ℕ) (o : Option Var) (l : Option Literal) (term : Term) (rest : List ℕ)
          → variable_of Counted names depth word ≡ o → literal_of word ≡ l
          → term_of_word parts room o l depth behind ≡ Got term rest → Given depth (word ++ behind) term rest
      term_of_word_gives word behind (Some head) l term rest is lit h =
          let variable = variable_of_gives names all apart Counted depth word head is in
          subst (λ w. Given depth (w ++ behind) term rest) (sym variable.1) (headed_at_gives head behind term rest variable.0 h)
      term_of_word_gives word behind None None term rest is lit h = cc
      term_of_word_gives word behind None (Some literal) term rest is lit h =
          let same = got_parts (LiteralTerm literal) term behind rest h in
          let given = literal_of_gives word literal lit in
          subst (λ t. Given depth (word ++ behind) t rest) same.0 ((given.0, omega arith), (λ i. given.1 i ++ same.1 i))

      text_cut_gives : (bytes : List ℕ) (o : Option (List ℕ × List ℕ)) (term : Term) (rest : List ℕ) → cut_at 34 bytes ≡ o
          → text_of_cut o ≡ Got term rest → Given depth (34 ∷ bytes) term rest
      text_cut_gives bytes None term rest e h = cc
      text_cut_gives bytes (Some cut) term rest e h =
          let found = got_from_option (option_map LiteralTerm (text_of cut.0)) cut.1 term rest h in
          let literal = map_gives LiteralTerm (text_of cut.0) term found.0 in
          let given = text_of_gives cut.0 literal.0 literal.1 in
          let whole = cut_at_gives 34 bytes cut.0 cut.1 e in
          subst (λ t. Given depth (34 ∷ bytes) t rest) (sym literal.2) (
            (given.0, omega arith),
            ap (λ z. 34 ∷ z) (whole ∙ (ap (λ z. cut.0 ++ 34 ∷ z) found.1 ∙ sym (append_assoc cut.0 (34 ∷ []) rest)))
                ∙ ap (λ t. t ++ rest) (sym given.1),
          )

      pub term_over_gives : (bytes : List ℕ) (term : Term) (rest : List ℕ) → term_over names parts room depth bytes ≡ Got term rest
          → Given depth bytes term rest
      unfolding term_over plain_term_at text_at word_term_at
      term_over_gives bytes term rest h =
          let P : Type 0 = Given depth bytes term rest in
          let rule = λ (rule : TermRule) (r : List ℕ) (e : bytes ≡ term_front rule ++ r) (k : term_rule_at parts rule depth r ≡ Got term rest).
          (let given = term_rule_gives names all apart room parts sound rule depth r term rest k in
          subst (λ b. Given depth b term rest) (sym e) given) in
          begun_gives bytes (codes "fun (_") (term_rule_at parts FunRule depth) _ term rest P (rule FunRule)
          (λ k. begun_gives bytes (codes "fun [_T") (term_rule_at parts TypeFunRule depth) _ term rest P (rule TypeFunRule)
          (λ k. begun_gives bytes (codes "let _") (term_rule_at parts LetRule depth) _ term rest P (rule LetRule)
          (λ k. begun_gives bytes (codes "if [") (term_rule_at parts IfRule depth) _ term rest P (rule IfRule)
          (λ k. begun_gives bytes (codes "boundary [") (term_rule_at parts BoundaryRule depth) _ term rest P (rule BoundaryRule)
          (λ k. begun_gives bytes (codes "box ") (term_rule_at parts BoxingRule depth) _ term rest P (rule BoxingRule)
          (λ k. begun_gives bytes (codes "unbox {") (term_rule_at parts UnboxRule depth) _ term rest P (rule UnboxRule)
          (λ k. begun_gives bytes (codes "repeat(") (term_rule_at parts RepeatRule depth) _ term rest P (rule RepeatRule)
          (λ k. begun_gives bytes (codes "exit [") (term_rule_at parts LeaveRule depth) _ term rest P (rule LeaveRule)
          (λ k. begun_gives bytes (34 ∷ []) (λ r. text_of_cut (cut_at 34 r)) _ term rest P
          (λ r e k. subst (λ b. Given depth b term rest) (sym e) (text_cut_gives r (cut_at 34 r) term rest refl k))
          (λ k. subst (λ b. Given depth b term rest) (sym (word_at_gives bytes))
          (term_of_word_gives (word_at bytes).0 (word_at bytes).1 (variable_of Counted names depth (word_at bytes).0)
          (literal_of (word_at bytes).0) term rest refl refl k))
          k) k) k) k) k) k) k) k) k) h

    -- THE TEXT OF A TERM IS READ

    abbrev ReadsAs : ℕ → List ℕ → Term → List ℕ → Type 0
    ReadsAs depth bytes term rest = term_over names parts room depth bytes ≡ Got term rest

    dispatch : (rule : TermRule) (depth : ℕ) (bytes : List ℕ)
        → term_over names parts room depth (term_front rule ++ bytes) ≡ term_rule_at parts rule depth bytes
    unfolding term_over plain_term_at begun
    dispatch FunRule depth bytes = refl
    dispatch TypeFunRule depth bytes = refl
    dispatch LetRule depth bytes = refl
    dispatch IfRule depth bytes = refl
    dispatch BoundaryRule depth bytes = refl
    dispatch BoxingRule depth bytes = refl
    dispatch UnboxRule depth bytes = refl
    dispatch RepeatRule depth bytes = refl
    dispatch LeaveRule depth bytes = refl

    head_dispatch : (head : Var) (rule : HeadRule) (depth : ℕ) (bytes : List ℕ) → HeadFits rule
        → headed_at parts room head depth (head_front rule ++ bytes) ≡ head_rule_at parts room head rule depth bytes
    unfolding headed_at operated_at computed_at begun
    head_dispatch head Calls depth bytes fits = refl
    head_dispatch head TypeCalls depth bytes fits = refl
    head_dispatch head (Computes operators.Add) depth bytes fits = refl
    head_dispatch head (Computes operators.Sub) depth bytes fits = refl
    head_dispatch head (Computes operators.Mul) depth bytes fits = refl
    head_dispatch head (Computes operators.Less) depth bytes fits = refl
    head_dispatch head (Computes operators.Equal) depth bytes fits = refl
    head_dispatch head (Tells operations.Print) depth bytes fits = refl
    head_dispatch head (Tells operations.Say) depth bytes fits = refl
    head_dispatch head (Tells operations.Read) depth bytes fits = cc
    head_dispatch head (Tells operations.Write) depth bytes fits = refl
    head_dispatch head (Tells operations.Tick) depth bytes fits = cc
    head_dispatch head (Asks operations.Print) depth bytes fits = cc
    head_dispatch head (Asks operations.Say) depth bytes fits = cc
    head_dispatch head (Asks operations.Read) depth bytes fits = refl
    head_dispatch head (Asks operations.Write) depth bytes fits = cc
    head_dispatch head (Asks operations.Tick) depth bytes fits = refl

    alone_in_line : (head : Var) (depth : ℕ) (r : List ℕ) → headed_at parts room head depth (10 ∷ r) ≡ Got (VariableTerm head) (10 ∷ r)
    unfolding headed_at operated_at computed_at begun
    alone_in_line head depth r = refl

    alone_in : (head : Var) (depth : ℕ) (r : List ℕ) → headed_at parts room head depth (codes " in " ++ r) ≡ Got (VariableTerm head) (codes " in " ++ r)
    unfolding headed_at operated_at computed_at begun
    alone_in head depth r = refl

    alone_else : (head : Var) (depth : ℕ) (r : List ℕ) → headed_at parts room head depth (codes " else " ++ r) ≡ Got (VariableTerm head) (codes " else " ++ r)
    unfolding headed_at operated_at computed_at begun
    alone_else head depth r = refl

    headed_alone : (head : Var) (depth : ℕ) (rest : List ℕ) → EndsTerm names all apart rest
        → headed_at parts room head depth rest ≡ Got (VariableTerm head) rest
    headed_alone head depth rest ends =
        ⊎_elim (λ line. subst (λ r. headed_at parts room head depth r ≡ Got (VariableTerm head) r) (sym line.1) (alone_in_line head depth line.0))
        (λ more. ⊎_elim
        (λ inside. subst (λ r. headed_at parts room head depth r ≡ Got (VariableTerm head) r) (sym inside.1) (alone_in head depth inside.0))
        (λ other. subst (λ r. headed_at parts room head depth r ≡ Got (VariableTerm head) r) (sym other.1) (alone_else head depth other.0)) more) ends

    -- the words with which terms begin
    abbrev Keyless : List ℕ → Type 0
    Keyless w =
        (w ≡ codes "fun" → ⊥) × (w ≡ codes "if" → ⊥) × (w ≡ codes "boundary" → ⊥) × (w ≡ codes "box" → ⊥)
        × (w ≡ codes "unbox" → ⊥) × (w ≡ codes "repeat" → ⊥) × (w ≡ codes "exit" → ⊥)

    -- a text that begins with another word is read by it
    by_word : (depth : ℕ) (w tail : List ℕ) → IsWord w → EndsWord tail → (w ≡ [] → ⊥) → Keyless w
        → after_prefix (w ++ tail) (codes "let _") ≡ None
        → term_over names parts room depth (w ++ tail)
        ≡ term_of_word parts room (variable_of Counted names depth w) (literal_of w) depth tail
    unfolding term_over plain_term_at word_term_at begun
    by_word depth w tail isword ends some keyless nolet =
        rw (
          keyword w tail (codes "fun") 32 (codes "(_") isword ends (word_from_test (codes "fun") refl) refl keyless.0,
          keyword w tail (codes "fun") 32 (codes "[_T") isword ends (word_from_test (codes "fun") refl) refl keyless.0,
          nolet,
          keyword w tail (codes "if") 32 (codes "[") isword ends (word_from_test (codes "if") refl) refl keyless.1,
          keyword w tail (codes "boundary") 32 (codes "[") isword ends (word_from_test (codes "boundary") refl) refl keyless.2,
          keyword w tail (codes "box") 32 [] isword ends (word_from_test (codes "box") refl) refl keyless.3,
          keyword w tail (codes "unbox") 32 (codes "{") isword ends (word_from_test (codes "unbox") refl) refl keyless.4,
          keyword w tail (codes "repeat") 40 [] isword ends (word_from_test (codes "repeat") refl) refl keyless.5,
          keyword w tail (codes "exit") 32 (codes "[") isword ends (word_from_test (codes "exit") refl) refl keyless.6,
          no_quote w tail isword ends some,
          word_at-word w tail isword ends,
        ) refl

    variable_nonempty : (depth : ℕ) (v : Var) → NamedVariable names all apart depth v → named names depth v ≡ [] → ⊥
    variable_nonempty depth v h e = element_some names all apart Counted depth (Variable v) h e

    front_ends : (rule : HeadRule) (after : List ℕ) → EndsWord (head_front rule ++ after)
    front_ends Calls after = refl
    front_ends TypeCalls after = refl
    front_ends (Computes operators.Add) after = refl
    front_ends (Computes operators.Sub) after = refl
    front_ends (Computes operators.Mul) after = refl
    front_ends (Computes operators.Less) after = refl
    front_ends (Computes operators.Equal) after = refl
    front_ends (Tells operations.Print) after = refl
    front_ends (Tells operations.Say) after = refl
    front_ends (Tells operations.Read) after = refl
    front_ends (Tells operations.Write) after = refl
    front_ends (Tells operations.Tick) after = refl
    front_ends (Asks operations.Print) after = refl
    front_ends (Asks operations.Say) after = refl
    front_ends (Asks operations.Read) after = refl
    front_ends (Asks operations.Write) after = refl
    front_ends (Asks operations.Tick) after = refl

    other_second : (b : ℕ) (bs r : List ℕ) → (b == 95) ≡ false → 32 ∷ b ∷ bs ≡ 32 ∷ 95 ∷ r → ⊥
    other_second b bs r other e = ends_differ b 95 bs r other (rest_same 32 32 (b ∷ bs) (95 ∷ r) e)

    front_no_let : (rule : HeadRule) (after r : List ℕ) → head_front rule ++ after ≡ 32 ∷ 95 ∷ r → ⊥
    front_no_let Calls after r e = ends_differ 40 32 _ _ refl e
    front_no_let TypeCalls after r e = ends_differ 91 32 _ _ refl e
    front_no_let (Computes operators.Add) after r e = other_second 43 _ r refl e
    front_no_let (Computes operators.Sub) after r e = other_second 45 _ r refl e
    front_no_let (Computes operators.Mul) after r e = other_second 42 _ r refl e
    front_no_let (Computes operators.Less) after r e = other_second 60 _ r refl e
    front_no_let (Computes operators.Equal) after r e = other_second 61 _ r refl e
    front_no_let (Tells operations.Print) after r e = ends_differ 46 32 _ _ refl e
    front_no_let (Tells operations.Say) after r e = ends_differ 46 32 _ _ refl e
    front_no_let (Tells operations.Read) after r e = ends_differ 46 32 _ _ refl e
    front_no_let (Tells operations.Write) after r e = ends_differ 46 32 _ _ refl e
    front_no_let (Tells operations.Tick) after r e = ends_differ 46 32 _ _ refl e
    front_no_let (Asks operations.Print) after r e = ends_differ 46 32 _ _ refl e
    front_no_let (Asks operations.Say) after r e = ends_differ 46 32 _ _ refl e
    front_no_let (Asks operations.Read) after r e = ends_differ 46 32 _ _ refl e
    front_no_let (Asks operations.Write) after r e = ends_differ 46 32 _ _ refl e
    front_no_let (Asks operations.Tick) after r e = ends_differ 46 32 _ _ refl e

    ends_no_let : (rest : List ℕ) → EndsTerm names all apart rest → (r : List ℕ) → rest ≡ 32 ∷ 95 ∷ r → ⊥
    ends_no_let rest ends r e =
        ⊎_elim (λ line. ends_differ 10 32 _ _ refl (sym line.1 ∙ e))
        (λ more. ⊎_elim (λ inside. other_second 105 _ r refl (sym inside.1 ∙ e)) (λ other. other_second 101 _ r refl (sym other.1 ∙ e)) more) ends

    number_unlike : (n : ℕ) → n < 2 ^ 64 → (word : List ℕ) → IsLetters word → decimal n ≡ word → ⊥
    number_unlike n small word letters e = number_no_letters n word small letters e

    unlike : (v w : List ℕ) → bytes_eq v w ≡ false → v ≡ w → ⊥
    unlike v w other e = clash (bytes_eq v w) ((bytes_eq-Decides v w).1 e) other

    variable_keyless : (depth : ℕ) (v : Var) → NamedVariable names all apart depth v → Keyless (named names depth v)
    unfolding is_reserved reserved_words
    variable_keyless depth v h = (
      unlike_keyword depth v (codes "fun") h refl,
      unlike_keyword depth v (codes "if") h refl,
      unlike_keyword depth v (codes "boundary") h refl,
      unlike_keyword depth v (codes "box") h refl,
      unlike_keyword depth v (codes "unbox") h refl,
      unlike_keyword depth v (codes "repeat") h refl,
      unlike_keyword depth v (codes "exit") h refl,
    )

    -- a variable and what stands behind it
    headed_over : (depth : ℕ) (v : Var) (tail : List ℕ) → NamedVariable names all apart depth v → EndsWord tail
        → ((r : List ℕ) → tail ≡ 32 ∷ 95 ∷ r → ⊥)
        → term_over names parts room depth (named names depth v ++ tail) ≡ headed_at parts room v depth tail
    headed_over depth v tail h ends nolet =
        let isword = variable_word names all apart Counted depth v h in
        by_word depth (named names depth v) tail isword ends (variable_nonempty depth v h) (variable_keyless depth v h)
        (no_let (named names depth v) tail isword ends nolet)
        ∙ ap (λ o. term_of_word parts room o (literal_of (named names depth v)) depth tail) (variable_of-text names all apart Counted depth v h)

    by_head : CompleteParts names all apart room parts → (depth : ℕ) (head : Var) (rule : HeadRule) (values : Parts (head_pieces rule)) (rest : List ℕ)
        → NamedVariable names all apart depth head → 0 < room → HeadFits rule
        → AllHeadGood names all apart room depth rule values → AllHeadEnd names all apart room depth rule values rest
        → ReadsAs depth (term_under names depth (head_tree head rule values) ++ rest) (head_tree head rule values) rest
    by_head complete depth head rule values rest v some fits good ends =
        let after = head_texts names all apart room depth rule values rest in
        subst (λ b. ReadsAs depth b (head_tree head rule values) rest) (head_rule_text names all apart room head rule depth values rest)
        (headed_over depth head (head_front rule ++ after) v (front_ends rule after) (front_no_let rule after)
        ∙ (head_dispatch head rule depth after fits
        ∙ head_rule_at-text names all apart room parts complete head rule depth values rest some good ends))

    by_rule : CompleteParts names all apart room parts → (depth : ℕ) (rule : TermRule) (values : Parts (term_pieces rule)) (rest : List ℕ)
        → AllTermGood names all apart room depth rule values → AllTermEnd names all apart room depth rule values rest
        → ReadsAs depth (term_under names depth (term_tree rule values) ++ rest) (term_tree rule values) rest
    by_rule complete depth rule values rest good ends =
        subst (λ b. ReadsAs depth b (term_tree rule values) rest) (term_rule_text names all apart room rule depth values rest)
        (dispatch rule depth (texts_of names all apart room depth rule values rest)
        ∙ term_rule_at-text names all apart room parts complete rule depth values rest good ends)

    reserved_literal : (depth : ℕ) (word rest : List ℕ) (literal : Literal) → IsWord word → EndsWord rest → (word ≡ [] → ⊥)
        → Keyless word → after_prefix (word ++ rest) (codes "let _") ≡ None
        → variable_of Counted names depth word ≡ None → literal_of word ≡ Some literal
        → ReadsAs depth (word ++ rest) (LiteralTerm literal) rest
    reserved_literal depth word rest literal isword ends some keyless nolet novariable is =
        by_word depth word rest isword ends some keyless nolet
        ∙ (λ i. term_of_word parts room (novariable i) (is i) depth rest)

    number_read : (depth n : ℕ) (rest : List ℕ) → n < 2 ^ 63 → EndsWord rest
        → ReadsAs depth (decimal n ++ rest) (LiteralTerm (NumberLiteral (pos n))) rest
    number_read depth n rest low ends =
        let small : n < 2 ^ 64 = omega (arith, low) in
        let isword = word_decimal n small in
        reserved_literal depth (decimal n) rest (NumberLiteral (pos n)) isword ends (number_unlike n small [] tt) (
          number_unlike n small (codes "fun") refl,
          number_unlike n small (codes "if") refl,
          number_unlike n small (codes "boundary") refl,
          number_unlike n small (codes "box") refl,
          number_unlike n small (codes "unbox") refl,
          number_unlike n small (codes "repeat") refl,
          number_unlike n small (codes "exit") refl,
        )
        (keyword (decimal n) rest (codes "let") 32 (codes "_") isword ends (word_from_test (codes "let") refl) refl (number_unlike n small (codes "let") refl))
        (no_variable depth (decimal n) (no_prefix (decimal n) (codes "_") (λ r e. number_no_low_line n r small e))
        (λ p h. (let found = position_of_gives names (decimal n) p h in
        name_no_number (slice_index_or names p []) n small (named_at names all p found.0) (sym found.1))))
        (literal_of-number n low)

    unit_read : (depth : ℕ) (rest : List ℕ) → EndsWord rest → ReadsAs depth (codes "unit" ++ rest) (LiteralTerm UnitLiteral) rest
    unfolding is_reserved reserved_words
    unit_read depth rest ends =
        reserved_literal depth (codes "unit") rest UnitLiteral (word_from_test (codes "unit") refl) ends (λ e. cc) (
          unlike (codes "unit") (codes "fun") refl,
          unlike (codes "unit") (codes "if") refl,
          unlike (codes "unit") (codes "boundary") refl,
          unlike (codes "unit") (codes "box") refl,
          unlike (codes "unit") (codes "unbox") refl,
          unlike (codes "unit") (codes "repeat") refl,
          unlike (codes "unit") (codes "exit") refl,
        )
        refl
        (no_variable depth (codes "unit") refl (reserved_no_name (codes "unit") refl)) literal_of-unit

    true_read : (depth : ℕ) (rest : List ℕ) → EndsWord rest → ReadsAs depth (codes "true" ++ rest) (LiteralTerm (TruthLiteral true)) rest
    unfolding is_reserved reserved_words
    true_read depth rest ends =
        reserved_literal depth (codes "true") rest (TruthLiteral true) (word_from_test (codes "true") refl) ends (λ e. cc) (
          unlike (codes "true") (codes "fun") refl,
          unlike (codes "true") (codes "if") refl,
          unlike (codes "true") (codes "boundary") refl,
          unlike (codes "true") (codes "box") refl,
          unlike (codes "true") (codes "unbox") refl,
          unlike (codes "true") (codes "repeat") refl,
          unlike (codes "true") (codes "exit") refl,
        )
        refl
        (no_variable depth (codes "true") refl (reserved_no_name (codes "true") refl)) literal_of-true

    false_read : (depth : ℕ) (rest : List ℕ) → EndsWord rest → ReadsAs depth (codes "false" ++ rest) (LiteralTerm (TruthLiteral false)) rest
    unfolding is_reserved reserved_words
    false_read depth rest ends =
        reserved_literal depth (codes "false") rest (TruthLiteral false) (word_from_test (codes "false") refl) ends (λ e. cc) (
          unlike (codes "false") (codes "fun") refl,
          unlike (codes "false") (codes "if") refl,
          unlike (codes "false") (codes "boundary") refl,
          unlike (codes "false") (codes "box") refl,
          unlike (codes "false") (codes "unbox") refl,
          unlike (codes "false") (codes "repeat") refl,
          unlike (codes "false") (codes "exit") refl,
        )
        refl
        (no_variable depth (codes "false") refl (reserved_no_name (codes "false") refl)) literal_of-false

    quoted_over : (depth : ℕ) (bytes : List ℕ) → term_over names parts room depth (34 ∷ bytes) ≡ text_of_cut (cut_at 34 bytes)
    unfolding term_over plain_term_at text_at begun
    quoted_over depth bytes = refl

    text_read : (depth : ℕ) (text rest : List ℕ) → IsWrittenLiteral (TextLiteral text)
        → ReadsAs depth ((34 ∷ (encode_utf8_all text ++ 34 ∷ [])) ++ rest) (LiteralTerm (TextLiteral text)) rest
    text_read depth text rest ok =
        subst (λ z. ReadsAs depth (34 ∷ z) (LiteralTerm (TextLiteral text)) rest) (sym (append_assoc (encode_utf8_all text) (34 ∷ []) rest))
        (quoted_over depth (encode_utf8_all text ++ 34 ∷ rest)
        ∙ rw (cut_at-append 34 (encode_utf8_all text) rest (lacks_quote text ok.1), text_of-text text ok) refl)

    literal_read : (depth : ℕ) (literal : Literal) (rest : List ℕ) → IsWrittenLiteral literal → EndsWord rest
        → ReadsAs depth (literal_text literal ++ rest) (LiteralTerm literal) rest
    literal_read depth UnitLiteral rest ok ends = unit_read depth rest ends
    literal_read depth (TruthLiteral true) rest ok ends = true_read depth rest ends
    literal_read depth (TruthLiteral false) rest ok ends = false_read depth rest ends
    literal_read depth (NumberLiteral (pos n)) rest ok ends = number_read depth n rest ok ends
    literal_read depth (NumberLiteral (negsuc n)) rest ok ends = absurd ok
    literal_read depth (TextLiteral text) rest ok ends = text_read depth text rest ok

    -- the text of a term is read as that term, where those of its parts are
    pub term_over-text : CompleteParts names all apart room parts → (depth : ℕ) (term : Term) (rest : List ℕ)
        → AboveTerm names all apart room depth term → EndsTerm names all apart rest
        → ReadsAs depth (term_under names depth term ++ rest) term rest
    term_over-text complete depth (VariableTerm v) rest above ends =
        headed_over depth v rest above.0 (term_ends_word names all apart rest ends) (ends_no_let rest ends) ∙ headed_alone v depth rest ends
    term_over-text complete depth (LiteralTerm literal) rest above ends =
        literal_read depth literal rest above.0 (term_ends_word names all apart rest ends)
    term_over-text complete depth (FunctionTerm takes c body) rest above ends =
        let n = above.0 in
        by_rule complete depth FunRule (tt, (tt, (capturing takes c, (tt, (body, tt))))) rest
        (n.0, (tt, (((n.1, omega (arith, above.1)), n.2), (tt, ((n.3, omega (arith, above.1)), tt)))))
        (refl, (tt, ((refl, refl), (tt, (ends, tt)))))
    term_over-text complete depth (TypeFunctionTerm bound body) rest above ends =
        let n = above.0 in
        by_rule complete depth TypeFunRule (tt, (tt, (bound, (tt, (body, tt))))) rest
        (n.0, (tt, ((n.1, omega (arith, above.1)), (tt, ((n.2, omega (arith, above.1)), tt)))))
        (refl, (tt, ((refl, λ _. (refl, refl)), (tt, (ends, tt)))))
    term_over-text complete depth (BoxTerm content) rest above ends =
        by_rule complete depth BoxingRule (content, tt) rest ((above.0, omega (arith, above.1)), tt) (term_ends_word names all apart rest ends, tt)
    term_over-text complete depth (Application head argument) rest above ends =
        let some : 0 < room = omega (arith, above.1) in
        by_head complete depth head Calls (argument, (tt, tt)) rest above.0.0 some tt ((above.0.1, some), (tt, tt)) (refl, (tt, tt))
    term_over-text complete depth (TypeApplication head argument) rest above ends =
        let low : shape_height argument ≤ room = omega (arith, above.1) in
        by_head complete depth head TypeCalls (argument, (tt, tt)) rest above.0.0
        (room_some argument room (height_some names all apart Counted argument) low) tt
        ((above.0.1, low), (tt, tt)) ((refl, λ _. (refl, refl)), (tt, tt))
    term_over-text complete depth (Unboxing (Some set) content) rest above ends =
        by_rule complete depth UnboxRule (set, (tt, (content, tt))) rest
        (above.0.0, (tt, ((above.0.1, omega (arith, above.1)), tt))) (tt, (tt, (term_ends_word names all apart rest ends, tt)))
    term_over-text complete depth (Unboxing None content) rest above ends = absurd above.0.0
    term_over-text complete depth (Let Absent right body) rest above ends =
        let n = above.0 in
        let after = term_under names (suc depth) body ++ rest in
        by_rule complete depth LetRule (tt, (Absent, (tt, (right, (tt, (body, tt)))))) rest
        (n.0, (tt, (tt, ((n.2, omega (arith, above.1)), (tt, ((n.3, omega (arith, above.1)), tt))))))
        (refl, ((term_under names depth right ++ (codes " in " ++ after), refl), (tt, (inr (inl (after, refl)), (tt, (ends, tt))))))
    term_over-text complete depth (Let (Written shape set) right body) rest above ends =
        let n = above.0 in
        let after = term_under names (suc depth) body ++ rest in
        by_rule complete depth LetRule (tt, (Written shape set, (tt, (right, (tt, (body, tt)))))) rest
        (n.0, (((n.1.0, omega (arith, above.1)), n.1.1), (tt, ((n.2, omega (arith, above.1)), (tt, ((n.3, omega (arith, above.1)), tt))))))
        (refl, ((term_under names depth right ++ (codes " in " ++ after), refl), (tt, (inr (inl (after, refl)), (tt, (ends, tt))))))
    term_over-text complete depth (Let (Own shape) right body) rest above ends = absurd above.0.1
    term_over-text complete depth (Primitive operator left right) rest above ends =
        let some : 0 < room = omega (arith, above.1) in
        by_head complete depth left (Computes operator) (right, tt) rest above.0.0 some tt ((above.0.1, some), tt)
        (term_ends_word names all apart rest ends, tt)
    term_over-text complete depth (Conditional Absent test positive negative) rest above ends = absurd above.0.0
    term_over-text complete depth (Conditional (Written shape set) test positive negative) rest above ends =
        let n = above.0 in
        let low : shape_height shape ≤ room = omega (arith, above.1) in
        by_rule complete depth IfRule (capturing shape set, (tt, (test, (tt, (positive, (tt, (negative, tt))))))) rest (
          ((n.0.0, low), n.0.1),
          (
            tt,
            (
              (n.1, room_some shape room (height_some names all apart Counted shape) low),
              (tt, ((n.2, omega (arith, above.1)), (tt, ((n.3, omega (arith, above.1)), tt)))),
            ),
          ),
        )
        ((refl, refl), (tt, (refl, (tt, (inr (inr (term_under names depth negative ++ rest, refl)), (tt, (ends, tt)))))))
    term_over-text complete depth (Conditional (Own shape) test positive negative) rest above ends = absurd above.0.0
    term_over-text complete depth (Repetition count body) rest above ends =
        let some : 0 < room = omega (arith, above.1) in
        by_rule complete depth RepeatRule (count, (tt, (body, (tt, tt)))) rest
        ((above.0.0, some), (tt, ((above.0.1, some), (tt, tt)))) (refl, (tt, (refl, (tt, tt))))
    term_over-text complete depth (Operation operation receiver (Some argument)) rest above ends =
        let some : 0 < room = omega (arith, above.1) in
        by_head complete depth receiver (Tells operation) (argument, (tt, tt)) rest above.0.0 some above.0.1
        ((above.0.2, some), (tt, tt)) (refl, (tt, tt))
    term_over-text complete depth (Operation operation receiver None) rest above ends =
        by_head complete depth receiver (Asks operation) (tt, tt) rest above.0.0 (omega (arith, above.1)) above.0.1 (tt, tt) (tt, tt)
    term_over-text complete depth (Boundary gives body) rest above ends =
        let n = above.0 in
        by_rule complete depth BoundaryRule (gives, (tt, (tt, (tt, (body, tt))))) rest
        ((n.1, omega (arith, above.1)), (tt, (n.0, (tt, ((n.2, omega (arith, above.1)), tt)))))
        ((refl, λ _. (refl, refl)), (tt, (refl, (tt, (ends, tt)))))
    term_over-text complete depth (Leave gives c left given) rest above ends =
        let n = above.0 in
        let low : shape_height gives ≤ room = omega (arith, above.1) in
        let some = room_some gives room (height_some names all apart Counted gives) low in
        by_rule complete depth LeaveRule (capturing gives c, (tt, (left, (tt, (given, (tt, tt)))))) rest
        (((n.0, low), n.1), (tt, ((n.2, some), (tt, ((n.3, some), (tt, tt))))))
        ((refl, refl), (tt, (refl, (tt, (refl, (tt, tt))))))

  -- what is read within the room is a term that is no higher
  pub term_at_gives : (room depth : ℕ) (bytes : List ℕ) (term : Term) (rest : List ℕ) → term_at names room depth bytes ≡ Got term rest
      → GoodTerm names all apart room depth term × (bytes ≡ term_under names depth term ++ rest)
  unfolding term_at
  term_at_gives zero depth bytes term rest h = cc
  term_at_gives (suc room) depth bytes term rest h =
      term_over_gives room (term_parts names room (shape_at Counted names room) (term_at names room))
      (parts_give names all apart room (term_at names room) (λ d b t r k. term_at_gives room d b t r k)) depth bytes term rest h

  term_some : (term : Term) → term_height term ≤ 0 → ⊥
  term_some (VariableTerm v) h = omega arith
  term_some (LiteralTerm literal) h = omega arith
  term_some (FunctionTerm takes c body) h = omega arith
  term_some (TypeFunctionTerm bound body) h = omega arith
  term_some (BoxTerm content) h = omega arith
  term_some (Application head argument) h = omega arith
  term_some (TypeApplication head argument) h = omega arith
  term_some (Unboxing set content) h = omega arith
  term_some (Let note right body) h = omega arith
  term_some (Primitive operator left right) h = omega arith
  term_some (Conditional note test positive negative) h = omega arith
  term_some (Repetition count body) h = omega arith
  term_some (Operation operation receiver argument) h = omega arith
  term_some (Boundary gives body) h = omega arith
  term_some (Leave gives c left given) h = omega arith

  -- the text of a term that is no higher than the room is read as it
  pub term_at-text : (room depth : ℕ) (term : Term) (rest : List ℕ) → GoodTerm names all apart room depth term
      → EndsTerm names all apart rest → term_at names room depth (term_under names depth term ++ rest) ≡ Got term rest
  unfolding term_at
  term_at-text zero depth term rest good ends = absurd (term_some term good.1)
  term_at-text (suc room) depth term rest good ends =
      term_over-text room (term_parts names room (shape_at Counted names room) (term_at names room))
      (parts_text names all apart room (term_at names room) (λ d t r g e. term_at-text room d t r g e)) depth term rest good ends
