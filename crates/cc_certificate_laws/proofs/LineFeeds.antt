-- Names and literals of the grammar have no line feed within.
use Rattle.std.proofs.Common.{◌≡◌, ◌≢◌, ℕ, ◌≤◌, ◌/◌, Bool, true, false, ltb, cond, List, [], ◌∷◌, ◌++◌, refl, sym, subst, arith, ⊎_elim}
use Rattle.std.specs.Prelude.{encode_utf8_all}
use Rattle.std.specs.List.{AllByRecursion, list_all}
use Rattle.std.proofs.lemmas.Bool.{cases_lt}
use Rattle.std.proofs.lemmas.Str.{encode_ascii}
use Rattle.cc_base.specs.Literals.{Literal, UnitLiteral, TruthLiteral, NumberLiteral, TextLiteral}
use Rattle.cc_base.specs.Names.{IsName}
use Rattle.cc_core.specs.Terms.{Term, VariableTerm, LiteralTerm, FunctionTerm, TypeFunctionTerm, BoxTerm, Application, TypeApplication, Unboxing, Let, Primitive, Conditional, Repetition, Operation, Boundary, Leave}
use Rattle.cc_lex.specs.Forms.{stands_in_string}
use Rattle.cc_print.proofs.Words.{IsWord, is_word_byte, both, clash, word_name}
use Rattle.cc_certificate_writing.specs.CertificateTextLaws.{IsOneLine, IsLiteralOfOneLine, HasLiteralsOfOneLine}
use Rattle.cc_certificate_writing.proofs.OneLine.{joined}
use Rattle.cc_certificate_text.specs.Certificates.{IsWrittenLiteral}
use Rattle.cc_certificate_laws.specs.DefinitionLaws.{HasWrittenLiterals}
use lib.Utf8.{encode, next}

word_byte_apart : (b : ℕ) → is_word_byte b ≡ true → b ≢ 10
word_byte_apart b h e = clash (is_word_byte 10) (subst (λ x. is_word_byte x ≡ true) e h) refl

word_of_one_line : (word : List ℕ) → IsWord word → IsOneLine word
word_of_one_line [] h = tt
word_of_one_line (b ∷ word) h = (word_byte_apart b h.0, word_of_one_line word h.1)

pub names_of_one_line : (names : List (List ℕ)) → AllByRecursion IsName names
    → AllByRecursion (λ name. IsOneLine (encode_utf8_all name)) names
names_of_one_line [] all = tt
names_of_one_line (name ∷ names) all =
    (word_of_one_line (encode_utf8_all name) (word_name name all.0), names_of_one_line names all.1)

-- ---- texts of literals
one_cond : (test : Bool) (xs ys : List ℕ) → IsOneLine xs → IsOneLine ys → IsOneLine (cond test xs ys)
one_cond true xs ys p q = p
one_cond false xs ys p q = q

high_apart : (b : ℕ) → 128 ≤ b → b ≢ 10
high_apart b high e = omega (arith, e)

high_one : (c : ℕ) → 128 ≤ c → IsOneLine (encode c)
unfolding encode
high_one c high =
    let next_byte : (b : ℕ) → next b ≢ 10 = λ b. high_apart (next b) (omega arith) in
    one_cond (ltb c 128) _ _ (high_apart c high, tt)
    (one_cond (ltb c 2048) _ _ (high_apart _ (omega arith), (next_byte c, tt))
    (one_cond (ltb c 65536) _ _ (high_apart _ (omega arith), (next_byte (c / 64), (next_byte c, tt)))
    (high_apart _ (omega arith), (next_byte (c / 4096), (next_byte (c / 64), (next_byte c, tt))))))

in_string_apart : (c : ℕ) → stands_in_string c ≡ true → c ≢ 10
in_string_apart c h e = clash (stands_in_string 10) (subst (λ x. stands_in_string x ≡ true) e h) refl

text_of_one_line : (text : List ℕ) → list_all stands_in_string text ≡ true → IsOneLine (encode_utf8_all text)
text_of_one_line [] h = tt
text_of_one_line (c ∷ cs) h =
    let each = both (stands_in_string c) (list_all stands_in_string cs) h in
    joined (encode c) (encode_utf8_all cs)
    (⊎_elim (λ low. subst IsOneLine (sym (encode_ascii c low)) (in_string_apart c each.0, tt)) (high_one c)
    (cases_lt c 128))
    (text_of_one_line cs each.1)

literal_of_one_line : (literal : Literal) → IsWrittenLiteral literal → IsLiteralOfOneLine literal
literal_of_one_line UnitLiteral h = tt
literal_of_one_line (TruthLiteral truth) h = tt
literal_of_one_line (NumberLiteral number) h = tt
literal_of_one_line (TextLiteral text) h = text_of_one_line text h.1

pub literals_of_one_line : (term : Term) → HasWrittenLiterals term → HasLiteralsOfOneLine term
literals_of_one_line (VariableTerm variable) h = tt
literals_of_one_line (LiteralTerm literal) h = literal_of_one_line literal h
literals_of_one_line (FunctionTerm takes c body) h = literals_of_one_line body h
literals_of_one_line (TypeFunctionTerm bound body) h = literals_of_one_line body h
literals_of_one_line (BoxTerm content) h = tt
literals_of_one_line (Application function argument) h = tt
literals_of_one_line (TypeApplication function argument) h = tt
literals_of_one_line (Unboxing set box) h = tt
literals_of_one_line (Let note right body) h = (literals_of_one_line right h.0, literals_of_one_line body h.1)
literals_of_one_line (Primitive operator left right) h = tt
literals_of_one_line (Conditional note test positive negative) h =
    (literals_of_one_line positive h.0, literals_of_one_line negative h.1)
literals_of_one_line (Repetition count function) h = tt
literals_of_one_line (Operation operation receiver argument) h = tt
literals_of_one_line (Boundary gives body) h = literals_of_one_line body h
literals_of_one_line (Leave gives c exit value) h = tt
