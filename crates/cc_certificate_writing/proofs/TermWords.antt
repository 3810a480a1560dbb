-- The word at the front of a term's text and what stands behind it, which tell what form the term has.
use Rattle.std.proofs.Common.{◌≡◌, ℕ, suc, ◌+◌, ◌%◌, ◌/◌, ◌<◌, ◌≤◌, ◌^◌, true, false, ◌==◌, ltb, List, [], ◌∷◌, ◌++◌, length, get_or, drop, decimal, refl, sym, subst, ◌∙◌, arith, append_assoc, length-append, ⊎_elim, codes, bytes_eq, if◌then◌else◌, pos, negsuc}
use Rattle.std.proofs.Math.ListN.{get_or-append}
use Rattle.std.specs.Prelude.{encode_utf8_all, slice_index_or}
use Rattle.std.specs.Char.{is_ascii_alphabetic}
use Rattle.std.specs.List.{AllByRecursion, IsDistinct}
use Rattle.std.proofs.lemmas.Bool.{cases_lt}
use Rattle.std.proofs.lemmas.Bool.Decides.{nat_tests}
use Rattle.std.proofs.lemmas.Fmt.{decimal_by_steps}
use Rattle.std.proofs.lemmas.Str.{encode_ascii}
use Rattle.unicode_ident.specs.Ident.{is_xid_start}
use Rattle.unicode_ident.proofs.IdentLemmas.{is_xid_start-ascii}
use Rattle.cc_base.specs.Literals.{Literal, UnitLiteral, TruthLiteral, NumberLiteral, TextLiteral}
use Rattle.cc_base.specs.Names.{IsName, is_reserved, reserved_words}
use Rattle.cc_base.specs.declared.literal.Op.{Op}
use Rattle.cc_base.specs.declared.literal.Op.TheVariants as operations
use Rattle.cc_base.specs.declared.literal.Operator.{Operator}
use Rattle.cc_base.specs.declared.literal.Operator.TheVariants as operators
use Rattle.cc_capture.specs.declared.var.Var.{Var}
use Rattle.cc_capture.specs.declared.var.Var.TheVariants.{Bound, Free}
use Rattle.cc_core.specs.Occurrences.{MeetsInTerm}
use Rattle.cc_core.specs.Terms.{Term, VariableTerm, LiteralTerm, FunctionTerm, TypeFunctionTerm, BoxTerm, Application, TypeApplication, Unboxing, Let, Primitive, Conditional, Repetition, Operation, Boundary, Leave}
use Rattle.cc_print.specs.TypeTexts.{shape_under}
use Rattle.cc_print.proofs.Words.{IsWord, EndsWord, Begins, begins_append, is_word_byte, same_words, word_from_test, word_decimal, starts_of, begins_cond}
use Rattle.cc_print.proofs.ElementTexts.{variable_word, variable_not_reserved, listed_text, local_text, named_at}
use Rattle.cc_print.specs.TermTexts.{truth_text, literal_text, quoted, operator_text, operation_text, argument_under, named, term_under}
use Rattle.cc_certificate_writing.specs.CertificateTextLaws.{IsPlaced, placed, IsLegibleLiteral, IsLegible}
use lib.Utf8.{encode}

-- a number for each form
abbrev pub term_kind : Term → ℕ
term_kind (VariableTerm v) = 0
term_kind (Application f x) = 1
term_kind (TypeApplication f x) = 2
term_kind (Primitive o x y) = 3
term_kind (Operation o x y) = 4
term_kind (FunctionTerm t c u) = 5
term_kind (TypeFunctionTerm t u) = 6
term_kind (BoxTerm x) = 7
term_kind (Unboxing c x) = 8
term_kind (Let n t u) = 9
term_kind (Conditional n x t u) = 10
term_kind (Repetition x y) = 11
term_kind (Boundary t u) = 12
term_kind (Leave t c x y) = 13
term_kind (LiteralTerm l) = 14

-- the number by what stands behind a variable
abbrev pub kind_behind : List ℕ → ℕ
kind_behind rest =
    if get_or rest 0 0 == 40 then 1
    else (if get_or rest 0 0 == 91 then 2
    else (if get_or rest 0 0 == 46 then 4
    else (if get_or rest 0 0 == 32
    then (if get_or rest 1 0 == 95 then 9 else (if is_word_byte (get_or rest 1 0) then 0 else 3))
    else 0)))

-- by a reserved word, and what stands behind it
abbrev reserved_kind : List ℕ → List ℕ → ℕ
reserved_kind word rest =
    if bytes_eq word (codes "fun") then (if get_or rest 1 0 == 40 then 5 else 6)
    else (if bytes_eq word (codes "box") then 7
    else (if bytes_eq word (codes "unbox") then 8
    else (if bytes_eq word (codes "if") then 10
    else (if bytes_eq word (codes "repeat") then 11
    else (if bytes_eq word (codes "boundary") then 12
    else (if bytes_eq word (codes "exit") then 13 else 14))))))

-- A word that begins with a digit, or is none, is that of a literal.
abbrev kind_of : List ℕ → List ℕ → ℕ
kind_of word rest =
    if ltb (get_or word 0 0) 58 then 14
    else (if is_reserved word then reserved_kind word rest else kind_behind rest)

-- nothing stands behind that makes a variable another term
abbrev pub EndsTerm : List ℕ → Type 0
EndsTerm rest = EndsWord rest × (kind_behind rest ≡ 0)

abbrev pub literal_word : Literal → List ℕ
literal_word UnitLiteral = codes "unit"
literal_word (TruthLiteral truth) = truth_text truth
literal_word (NumberLiteral (pos n)) = decimal n
literal_word (NumberLiteral (negsuc n)) = []
literal_word (TextLiteral text) = []

abbrev pub literal_rest : Literal → List ℕ → List ℕ
literal_rest UnitLiteral r = r
literal_rest (TruthLiteral truth) r = r
literal_rest (NumberLiteral (pos n)) r = r
literal_rest (NumberLiteral (negsuc n)) r = 45 ∷ (decimal (suc n) ++ r)
literal_rest (TextLiteral text) r = quoted text ++ r

literal_parts : (l : Literal) (r : List ℕ) → literal_text l ++ r ≡ literal_word l ++ literal_rest l r
literal_parts UnitLiteral r = refl
literal_parts (TruthLiteral truth) r = refl
literal_parts (NumberLiteral (pos n)) r = refl
literal_parts (NumberLiteral (negsuc n)) r = refl
literal_parts (TextLiteral text) r = refl

pub number_small : (n : ℕ) → n < 2 ^ 63 → n < 2 ^ 64
number_small n small = omega arith

literal_is_word : (l : Literal) → IsLegibleLiteral l → IsWord (literal_word l)
literal_is_word UnitLiteral h = word_from_test (codes "unit") refl
literal_is_word (TruthLiteral true) h = word_from_test (codes "true") refl
literal_is_word (TruthLiteral false) h = word_from_test (codes "false") refl
literal_is_word (NumberLiteral (pos n)) h = word_decimal n (number_small n h)
literal_is_word (NumberLiteral (negsuc n)) h = tt
literal_is_word (TextLiteral text) h = tt

literal_ends : (l : Literal) (r : List ℕ) → EndsWord r → EndsWord (literal_rest l r)
literal_ends UnitLiteral r er = er
literal_ends (TruthLiteral truth) r er = er
literal_ends (NumberLiteral (pos n)) r er = er
literal_ends (NumberLiteral (negsuc n)) r er = refl
literal_ends (TextLiteral text) r er = refl

-- a number begins with a digit
abbrev BeginsDigit : ℕ → List ℕ → Type 0
BeginsDigit n ds = (0 < length ds) × (47 < get_or ds 0 0) × (get_or ds 0 0 < 58)

one_digit : (n : ℕ) → n < 10 → BeginsDigit n ((48 + n) ∷ [])
one_digit n low = (omega arith, omega arith, omega arith)

digit_more : (n : ℕ) (ds : List ℕ) → 10 ≤ n → BeginsDigit (n / 10) ds → BeginsDigit n (ds ++ ((48 + n % 10) ∷ []))
digit_more n ds high h =
    let same : get_or (ds ++ ((48 + n % 10) ∷ [])) 0 0 ≡ get_or ds 0 0 = get_or-append ds ((48 + n % 10) ∷ []) 0 0 h.0 in
    (omega (arith, length-append ds ((48 + n % 10) ∷ []), h.0), omega (arith, same, h.1), omega (arith, same, h.2))

pub begins_digit : (n : ℕ) → n < 2 ^ 64 → BeginsDigit n (decimal n)
begins_digit n small = decimal_by_steps BeginsDigit one_digit digit_more n small

pub below : (m n : ℕ) → m < n → ltb m n ≡ true
below m n low = grind (arith, nat_tests)

pub not_below : (m n : ℕ) → n ≤ m → ltb m n ≡ false
not_below m n high = grind (arith, nat_tests)

kind_of_digit : (word rest : List ℕ) → get_or word 0 0 < 58 → kind_of word rest ≡ 14
kind_of_digit word rest low = rw (below (get_or word 0 0) 58 low) refl

literal_kind_is : (l : Literal) (r : List ℕ) → IsLegibleLiteral l → kind_of (literal_word l) (literal_rest l r) ≡ 14
unfolding is_reserved reserved_words
literal_kind_is UnitLiteral r h = refl
literal_kind_is (TruthLiteral true) r h = refl
literal_kind_is (TruthLiteral false) r h = refl
literal_kind_is (NumberLiteral (pos n)) r h = kind_of_digit (decimal n) r (begins_digit n (number_small n h)).2
literal_kind_is (NumberLiteral (negsuc n)) r h = refl
literal_kind_is (TextLiteral text) r h = refl

-- what a name begins with is no digit
abbrev IsLetter : ℕ → Type 0
IsLetter b = 58 ≤ b

letter_low : (c : ℕ) → is_ascii_alphabetic c ≡ true → 58 ≤ c
letter_low c h = grind (arith, nat_tests)

letter_high : (c : ℕ) → 128 ≤ c → Begins IsLetter (encode c)
unfolding encode
letter_high c high =
    begins_cond IsLetter (ltb c 128) _ _ (omega arith)
    (begins_cond IsLetter (ltb c 2048) _ _ (omega arith)
    (begins_cond IsLetter (ltb c 65536) _ _ (omega arith) (omega arith)))

letter_begins : (c : ℕ) → is_xid_start c ≡ true → Begins IsLetter (encode c)
letter_begins c starts =
    ⊎_elim
    (λ low. subst (Begins IsLetter) (sym (encode_ascii c low)) (letter_low c (sym (is_xid_start-ascii c low) ∙ starts)))
    (letter_high c) (cases_lt c 128)

name_letter : (name : List ℕ) → IsName name → Begins IsLetter (encode_utf8_all name)
name_letter [] named = absurd (not_empty named)
  where
    not_empty : IsName [] → ⊥
    not_empty h = cc
name_letter (c ∷ cs) named =
    begins_append IsLetter (encode c) (encode_utf8_all cs) (letter_begins c (starts_of (c ∷ cs) named))

first_letter : (bs : List ℕ) → Begins IsLetter bs → 58 ≤ get_or bs 0 0
first_letter [] h = absurd h
first_letter (b ∷ bs) h = h

kind_of_variable : (word rest : List ℕ) → 58 ≤ get_or word 0 0 → is_reserved word ≡ false
    → kind_of word rest ≡ kind_behind rest
kind_of_variable word rest letter free = rw (not_below (get_or word 0 0) 58 letter, free) refl

operator_kind : (o : Operator) (r : List ℕ) → kind_behind (operator_text o ++ r) ≡ 3
operator_kind operators.Add r = refl
operator_kind operators.Sub r = refl
operator_kind operators.Mul r = refl
operator_kind operators.Less r = refl
operator_kind operators.Equal r = refl

operator_ends : (o : Operator) (r : List ℕ) → EndsWord (operator_text o ++ r)
operator_ends operators.Add r = refl
operator_ends operators.Sub r = refl
operator_ends operators.Mul r = refl
operator_ends operators.Less r = refl
operator_ends operators.Equal r = refl

operation_kind : (o : Op) (r : List ℕ) → kind_behind (operation_text o ++ r) ≡ 4
operation_kind operations.Print r = refl
operation_kind operations.Say r = refl
operation_kind operations.Read r = refl
operation_kind operations.Write r = refl
operation_kind operations.Tick r = refl

operation_ends : (o : Op) (r : List ℕ) → EndsWord (operation_text o ++ r)
operation_ends operations.Print r = refl
operation_ends operations.Say r = refl
operation_ends operations.Read r = refl
operation_ends operations.Write r = refl
operation_ends operations.Tick r = refl

two_behind : (a b c r : List ℕ) → ((a ++ b) ++ c) ++ r ≡ a ++ (b ++ (c ++ r))
two_behind a b c r = simp append_assoc

three_behind : (a b c d r : List ℕ) → (((a ++ b) ++ c) ++ d) ++ r ≡ a ++ (b ++ (c ++ (d ++ r)))
three_behind a b c d r = simp append_assoc

-- the word at the front
abbrev pub word_of : List (List ℕ) → ℕ → Term → List ℕ
word_of names depth (VariableTerm v) = named names depth v
word_of names depth (Application f x) = named names depth f
word_of names depth (TypeApplication f x) = named names depth f
word_of names depth (Primitive o x y) = named names depth x
word_of names depth (Operation o x y) = named names depth x
word_of names depth (FunctionTerm t c u) = codes "fun"
word_of names depth (TypeFunctionTerm t u) = codes "fun"
word_of names depth (BoxTerm x) = codes "box"
word_of names depth (Unboxing c x) = codes "unbox"
word_of names depth (Let n t u) = codes "let"
word_of names depth (Conditional n x t u) = codes "if"
word_of names depth (Repetition x y) = codes "repeat"
word_of names depth (Boundary t u) = codes "boundary"
word_of names depth (Leave t c x y) = codes "exit"
word_of names depth (LiteralTerm l) = literal_word l

-- what stands behind it
abbrev pub rest_of : List (List ℕ) → ℕ → Term → List ℕ → List ℕ
rest_of names depth (VariableTerm v) r = r
rest_of names depth (Application f x) r = codes "(" ++ (named names depth x ++ (codes ")" ++ r))
rest_of names depth (TypeApplication f x) r = codes "[" ++ (shape_under names depth x ++ (codes "]" ++ r))
rest_of names depth (Primitive o x y) r = operator_text o ++ (named names depth y ++ r)
rest_of names depth (Operation o x y) r = operation_text o ++ (argument_under names depth y ++ (codes ")" ++ r))
rest_of names depth (FunctionTerm t c u) r = drop 3 (term_under names depth (FunctionTerm t c u) ++ r)
rest_of names depth (TypeFunctionTerm t u) r = drop 3 (term_under names depth (TypeFunctionTerm t u) ++ r)
rest_of names depth (BoxTerm x) r = drop 3 (term_under names depth (BoxTerm x) ++ r)
rest_of names depth (Unboxing c x) r = drop 5 (term_under names depth (Unboxing c x) ++ r)
rest_of names depth (Let n t u) r = drop 3 (term_under names depth (Let n t u) ++ r)
rest_of names depth (Conditional n x t u) r = drop 2 (term_under names depth (Conditional n x t u) ++ r)
rest_of names depth (Repetition x y) r = drop 6 (term_under names depth (Repetition x y) ++ r)
rest_of names depth (Boundary t u) r = drop 8 (term_under names depth (Boundary t u) ++ r)
rest_of names depth (Leave t c x y) r = drop 4 (term_under names depth (Leave t c x y) ++ r)
rest_of names depth (LiteralTerm l) r = literal_rest l r

in_parts : (names : List (List ℕ)) (depth : ℕ) (a : Term) (r : List ℕ)
    → term_under names depth a ++ r ≡ word_of names depth a ++ rest_of names depth a r
in_parts names depth (VariableTerm v) r = refl
in_parts names depth (Application f x) r =
    three_behind (named names depth f) (codes "(") (named names depth x) (codes ")") r
in_parts names depth (TypeApplication f x) r =
    three_behind (named names depth f) (codes "[") (shape_under names depth x) (codes "]") r
in_parts names depth (Primitive o x y) r =
    two_behind (named names depth x) (operator_text o) (named names depth y) r
in_parts names depth (Operation o x y) r =
    three_behind (named names depth x) (operation_text o) (argument_under names depth y) (codes ")") r
in_parts names depth (FunctionTerm t c u) r = refl
in_parts names depth (TypeFunctionTerm t u) r = refl
in_parts names depth (BoxTerm x) r = refl
in_parts names depth (Unboxing c x) r = refl
in_parts names depth (Let n t u) r = refl
in_parts names depth (Conditional n x t u) r = refl
in_parts names depth (Repetition x y) r = refl
in_parts names depth (Boundary t u) r = refl
in_parts names depth (Leave t c x y) r = refl
in_parts names depth (LiteralTerm l) r = literal_parts l r

rest_ends : (names : List (List ℕ)) (depth : ℕ) (a : Term) (r : List ℕ) → EndsWord r
    → EndsWord (rest_of names depth a r)
rest_ends names depth (VariableTerm v) r er = er
rest_ends names depth (Application f x) r er = refl
rest_ends names depth (TypeApplication f x) r er = refl
rest_ends names depth (Primitive o x y) r er = operator_ends o (named names depth y ++ r)
rest_ends names depth (Operation o x y) r er = operation_ends o (argument_under names depth y ++ (codes ")" ++ r))
rest_ends names depth (FunctionTerm t c u) r er = refl
rest_ends names depth (TypeFunctionTerm t u) r er = refl
rest_ends names depth (BoxTerm x) r er = refl
rest_ends names depth (Unboxing c x) r er = refl
rest_ends names depth (Let n t u) r er = refl
rest_ends names depth (Conditional n x t u) r er = refl
rest_ends names depth (Repetition x y) r er = refl
rest_ends names depth (Boundary t u) r er = refl
rest_ends names depth (Leave t c x y) r er = refl
rest_ends names depth (LiteralTerm l) r er = literal_ends l r er

module _ (names : List (List ℕ)) (locals : ℕ) (all : AllByRecursion IsName names) (apart : IsDistinct bytes_eq names) where
  named_letter : (depth : ℕ) (v : Var) → IsPlaced (length names) locals depth v → 58 ≤ get_or (named names depth v) 0 0
  named_letter depth (Bound index) h = omega arith
  named_letter depth (Free p) h =
      ⊎_elim
      (λ low. subst (λ text. 58 ≤ get_or text 0 0) (sym (listed_text names locals all apart (codes "_") p low)) (first_letter (encode_utf8_all (slice_index_or names p [])) (name_letter (slice_index_or names p []) (named_at names all p low))))
      (λ high. subst (λ text. 58 ≤ get_or text 0 0) (sym (local_text names locals all apart (codes "_") p high)) (omega arith))
      (cases_lt p (length names))

  variable_kind : (depth : ℕ) (v : Var) (rest : List ℕ) → IsPlaced (length names) locals depth v
      → kind_of (named names depth v) rest ≡ kind_behind rest
  variable_kind depth v rest h =
      kind_of_variable (named names depth v) rest (named_letter depth v h)
      (variable_not_reserved names locals all apart depth [] v h)

  word_is : (depth : ℕ) (a : Term) → MeetsInTerm (placed (length names) locals) depth a → IsLegible a
      → IsWord (word_of names depth a)
  word_is depth (VariableTerm v) h l = variable_word names locals all apart depth (codes "_") v (refl, tt) h
  word_is depth (Application f x) h l = variable_word names locals all apart depth (codes "_") f (refl, tt) h.0
  word_is depth (TypeApplication f x) h l = variable_word names locals all apart depth (codes "_") f (refl, tt) h.0
  word_is depth (Primitive o x y) h l = variable_word names locals all apart depth (codes "_") x (refl, tt) h.0
  word_is depth (Operation o x y) h l = variable_word names locals all apart depth (codes "_") x (refl, tt) h.0
  word_is depth (FunctionTerm t c u) h l = word_from_test (codes "fun") refl
  word_is depth (TypeFunctionTerm t u) h l = word_from_test (codes "fun") refl
  word_is depth (BoxTerm x) h l = word_from_test (codes "box") refl
  word_is depth (Unboxing c x) h l = word_from_test (codes "unbox") refl
  word_is depth (Let n t u) h l = word_from_test (codes "let") refl
  word_is depth (Conditional n x t u) h l = word_from_test (codes "if") refl
  word_is depth (Repetition x y) h l = word_from_test (codes "repeat") refl
  word_is depth (Boundary t u) h l = word_from_test (codes "boundary") refl
  word_is depth (Leave t c x y) h l = word_from_test (codes "exit") refl
  word_is depth (LiteralTerm literal) h l = literal_is_word literal l

  kind_is : (depth : ℕ) (a : Term) (r : List ℕ) → MeetsInTerm (placed (length names) locals) depth a → IsLegible a
      → EndsTerm r → kind_of (word_of names depth a) (rest_of names depth a r) ≡ term_kind a
  unfolding is_reserved reserved_words
  kind_is depth (VariableTerm v) r h l er = variable_kind depth v r h ∙ er.1
  kind_is depth (Application f x) r h l er =
      variable_kind depth f (rest_of names depth (Application f x) r) h.0
  kind_is depth (TypeApplication f x) r h l er =
      variable_kind depth f (rest_of names depth (TypeApplication f x) r) h.0
  kind_is depth (Primitive o x y) r h l er =
      variable_kind depth x (rest_of names depth (Primitive o x y) r) h.0
      ∙ operator_kind o (named names depth y ++ r)
  kind_is depth (Operation o x y) r h l er =
      variable_kind depth x (rest_of names depth (Operation o x y) r) h.0
      ∙ operation_kind o (argument_under names depth y ++ (codes ")" ++ r))
  kind_is depth (FunctionTerm t c u) r h l er = refl
  kind_is depth (TypeFunctionTerm t u) r h l er = refl
  kind_is depth (BoxTerm x) r h l er = refl
  kind_is depth (Unboxing c x) r h l er = refl
  kind_is depth (Let n t u) r h l er = refl
  kind_is depth (Conditional n x t u) r h l er = refl
  kind_is depth (Repetition x y) r h l er = refl
  kind_is depth (Boundary t u) r h l er = refl
  kind_is depth (Leave t c x y) r h l er = refl
  kind_is depth (LiteralTerm literal) r h l er = literal_kind_is literal r l

  -- where the texts are the same, so are the words at their fronts, and what stands behind
  pub words_same : (depth : ℕ) (a b : Term) (r s : List ℕ) → MeetsInTerm (placed (length names) locals) depth a
      → MeetsInTerm (placed (length names) locals) depth b → IsLegible a → IsLegible b → EndsTerm r → EndsTerm s
      → term_under names depth a ++ r ≡ term_under names depth b ++ s
      → (word_of names depth a ≡ word_of names depth b) × (rest_of names depth a r ≡ rest_of names depth b s)
  words_same depth a b r s h k l m er es eq =
      same_words (word_of names depth a) (word_of names depth b) (rest_of names depth a r) (rest_of names depth b s)
      (word_is depth a h l) (word_is depth b k m) (rest_ends names depth a r er.0) (rest_ends names depth b s es.0)
      (sym (in_parts names depth a r) ∙ eq ∙ in_parts names depth b s)

  -- and the forms of the terms
  pub kinds_same : (depth : ℕ) (a b : Term) (r s : List ℕ) → MeetsInTerm (placed (length names) locals) depth a
      → MeetsInTerm (placed (length names) locals) depth b → IsLegible a → IsLegible b → EndsTerm r → EndsTerm s
      → term_under names depth a ++ r ≡ term_under names depth b ++ s → term_kind a ≡ term_kind b
  kinds_same depth a b r s h k l m er es eq =
      let words = words_same depth a b r s h k l m er es eq in
      sym (kind_is depth a r h l er) ∙ (λ i. kind_of (words.0 i) (words.1 i)) ∙ kind_is depth b s k m es
