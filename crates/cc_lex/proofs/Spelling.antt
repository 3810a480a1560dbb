-- What characters of a form spell, and of which form what is spelled is.
use Rattle.std.proofs.Common.{◌≡◌, ℕ, suc, ◌-◌, ◌<◌, ◌≤◌, Bool, true, false, cond, ◌&&◌, not, nat_le, List, [], ◌∷◌, ◌++◌, length, refl, sym, ap, ◌∙◌, arith, Option, Some, None, option_map, ℤ, pos, length-append}
use Rattle.std.specs.List.{list_all}
use Rattle.std.specs.Str.Parse.{digits_value}
use Rattle.std.proofs.lemmas.Bool.Decides.{nat_tests}
use Rattle.std.proofs.lemmas.List.{take_at}
use Rattle.unicode_ident.specs.Ident.{is_xid_start, is_xid_continue}
use Rattle.unicode_ident.proofs.Computing.{unicode_ident}
use Rattle.cc_base.specs.Names.{first_passes, is_reserved, reserved_words, IsName}
use Rattle.cc_lex.specs.declared.token.Word.{Word}
use Rattle.cc_lex.specs.declared.token.Word.TheVariants as words
use Rattle.cc_lex.specs.declared.form.Form.{Form}
use Rattle.cc_lex.specs.declared.form.Form.TheVariants as forms
use Rattle.cc_lex.specs.Lexemes.{Lexeme, NameLexeme, NumberLexeme, TextLexeme, WordLexeme, SymbolLexeme}
use Rattle.cc_lex.specs.Forms.{word_text, IsDigits, IsWord, IsString, IsOfForm, greatest_number, IsTooGreat, Spells}
use Rattle.cc_lex.specs.Cutting.{word_of, number_of, inside, word_or_name, spelled_by}
use Rattle.cc_lex.proofs.Booleans.{both, opposite, if_true, if_false, not_true}
use Rattle.cc_lex.proofs.Constructors.{some_is}
use Rattle.cc_lex.proofs.WordsOrNames.{word_of-some, name_of-none}

-- numbers

number-within : (v : ℕ) (cs : List ℕ) (number : ℤ) (b : Bool) → nat_le v greatest_number ≡ b → cond b (Some (pos v)) None ≡ Some number → (v ≤ greatest_number) × (number ≡ pos v)
number-within v cs number true e h = ((let k = e in grind (arith, nat_tests)), sym (some_is (pos v) number h))
number-within v cs number false e h = cc

number-beyond : (v : ℕ) (b : Bool) → nat_le v greatest_number ≡ b → cond b (Some (pos v)) None ≡ None → greatest_number < v
number-beyond v true e h = cc
number-beyond v false e h = (let k = e in grind (arith, nat_tests))

number_of-some : (cs : List ℕ) (number : ℤ) → number_of cs ≡ Some number → (digits_value 10 cs ≤ greatest_number) × (number ≡ pos (digits_value 10 cs))
unfolding number_of
number_of-some cs number h = number-within (digits_value 10 cs) cs number (nat_le (digits_value 10 cs) greatest_number) refl h

number_of-none : (cs : List ℕ) → number_of cs ≡ None → greatest_number < digits_value 10 cs
unfolding number_of
number_of-none cs h = number-beyond (digits_value 10 cs) (nat_le (digits_value 10 cs) greatest_number) refl h

number_of-within : (cs : List ℕ) → digits_value 10 cs ≤ greatest_number → number_of cs ≡ Some (pos (digits_value 10 cs))
unfolding number_of
number_of-within cs h =
    let v = digits_value 10 cs in
    let test : nat_le v greatest_number ≡ true = grind (arith, nat_tests) in
    if_true (Some (pos v)) None test

pub number_of-beyond : (cs : List ℕ) → greatest_number < digits_value 10 cs → number_of cs ≡ None
unfolding number_of
number_of-beyond cs h =
    let v = digits_value 10 cs in
    let test : nat_le v greatest_number ≡ false = grind (arith, nat_tests) in
    if_false (Some (pos v)) None test

digits-spell : (cs : List ℕ) (o : Option ℤ) (lexeme : Lexeme) → IsDigits cs → number_of cs ≡ o → option_map NumberLexeme o ≡ Some lexeme → Spells lexeme cs
digits-spell cs None lexeme h e k = cc
digits-spell cs (Some number) lexeme h e k =
    let value = number_of-some cs number e in
    let spelled : Spells (NumberLexeme number) cs = (h, value.0, value.1) in
    rw (← some_is (NumberLexeme number) lexeme k) spelled

digits-too_great : (cs : List ℕ) (o : Option ℤ) → IsDigits cs → number_of cs ≡ o → option_map NumberLexeme o ≡ None → IsTooGreat cs
digits-too_great cs None h e k = (h, number_of-none cs e)
digits-too_great cs (Some number) h e k = cc

-- words and names

word-spells : (cs : List ℕ) (o : Option Word) → IsWord cs → word_of cs ≡ o → Spells (word_or_name cs o) cs
word-spells cs None h e = (name_of-none cs h e, refl)
word-spells cs (Some word) h e = word_of-some cs word e

pub word_of-text : (word : Word) → word_of (word_text word) ≡ Some word
unfolding word_of
word_of-text words.Import = refl
word_of-text words.Def = refl
word_of-text words.Rec = refl
word_of-text words.Fun = refl
word_of-text words.Val = refl
word_of-text words.If = refl
word_of-text words.Then = refl
word_of-text words.Else = refl
word_of-text words.Box = refl
word_of-text words.Unbox = refl
word_of-text words.Boundary = refl
word_of-text words.Exit = refl
word_of-text words.Repeat = refl
word_of-text words.True = refl
word_of-text words.False = refl
word_of-text words.Unit = refl
word_of-text words.Cap = refl
word_of-text words.UnitType = refl
word_of-text words.BoolType = refl
word_of-text words.IntType = refl
word_of-text words.StrType = refl
word_of-text words.AnyType = refl
word_of-text words.ConsoleType = refl
word_of-text words.FileType = refl
word_of-text words.CounterType = refl
word_of-text words.ExitType = refl
word_of-text words.BoxType = refl

is_word-text : (word : Word) → IsWord (word_text word)
unfolding unicode_ident
is_word-text words.Import = (refl, refl)
is_word-text words.Def = (refl, refl)
is_word-text words.Rec = (refl, refl)
is_word-text words.Fun = (refl, refl)
is_word-text words.Val = (refl, refl)
is_word-text words.If = (refl, refl)
is_word-text words.Then = (refl, refl)
is_word-text words.Else = (refl, refl)
is_word-text words.Box = (refl, refl)
is_word-text words.Unbox = (refl, refl)
is_word-text words.Boundary = (refl, refl)
is_word-text words.Exit = (refl, refl)
is_word-text words.Repeat = (refl, refl)
is_word-text words.True = (refl, refl)
is_word-text words.False = (refl, refl)
is_word-text words.Unit = (refl, refl)
is_word-text words.Cap = (refl, refl)
is_word-text words.UnitType = (refl, refl)
is_word-text words.BoolType = (refl, refl)
is_word-text words.IntType = (refl, refl)
is_word-text words.StrType = (refl, refl)
is_word-text words.AnyType = (refl, refl)
is_word-text words.ConsoleType = (refl, refl)
is_word-text words.FileType = (refl, refl)
is_word-text words.CounterType = (refl, refl)
is_word-text words.ExitType = (refl, refl)
is_word-text words.BoxType = (refl, refl)

is_reserved-text : (word : Word) → is_reserved (word_text word) ≡ true
unfolding is_reserved reserved_words
is_reserved-text words.Import = refl
is_reserved-text words.Def = refl
is_reserved-text words.Rec = refl
is_reserved-text words.Fun = refl
is_reserved-text words.Val = refl
is_reserved-text words.If = refl
is_reserved-text words.Then = refl
is_reserved-text words.Else = refl
is_reserved-text words.Box = refl
is_reserved-text words.Unbox = refl
is_reserved-text words.Boundary = refl
is_reserved-text words.Exit = refl
is_reserved-text words.Repeat = refl
is_reserved-text words.True = refl
is_reserved-text words.False = refl
is_reserved-text words.Unit = refl
is_reserved-text words.Cap = refl
is_reserved-text words.UnitType = refl
is_reserved-text words.BoolType = refl
is_reserved-text words.IntType = refl
is_reserved-text words.StrType = refl
is_reserved-text words.AnyType = refl
is_reserved-text words.ConsoleType = refl
is_reserved-text words.FileType = refl
is_reserved-text words.CounterType = refl
is_reserved-text words.ExitType = refl
is_reserved-text words.BoxType = refl

name-no_word : (cs : List ℕ) (o : Option Word) → IsName cs → word_of cs ≡ o → o ≡ None
name-no_word cs None h e = refl
name-no_word cs (Some word) h e =
    let free = not_true (is_reserved cs) (both (first_passes is_xid_start cs && list_all is_xid_continue cs) (not (is_reserved cs)) h).1 in
    absurd (opposite (is_reserved cs) (ap is_reserved (word_of-some cs word e) ∙ is_reserved-text word) free)

-- strings

inside-string : (text cs : List ℕ) → cs ≡ 34 ∷ text ++ 34 ∷ [] → inside cs ≡ text
inside-string text cs e =
    let count = length-append text (34 ∷ []) in
    let exact : length text ≡ suc (length (text ++ 34 ∷ [])) - 2 = omega arith in
    ap inside e ∙ take_at text (34 ∷ []) (suc (length (text ++ 34 ∷ [])) - 2) exact

string-spells : (cs text : List ℕ) → IsString text cs → Spells (TextLexeme (inside cs)) cs
string-spells cs text h = rw (inside-string text cs h.0) h

-- all forms

-- what characters of a form spell is spelled by them
pub spelled-spells : (form : Form) (cs : List ℕ) (lexeme : Lexeme) → IsOfForm form cs → spelled_by form cs ≡ Some lexeme → Spells lexeme cs
spelled-spells forms.Digits cs lexeme h e = digits-spell cs (number_of cs) lexeme h refl e
spelled-spells forms.Word cs lexeme h e = rw (← some_is (word_or_name cs (word_of cs)) lexeme e) (word-spells cs (word_of cs) h refl)
spelled-spells forms.Text cs lexeme h e = rw (← some_is (TextLexeme (inside cs)) lexeme e) (string-spells cs h.0 h.1)
spelled-spells (forms.Symbol symbol) cs lexeme h e = rw (← some_is (SymbolLexeme symbol) lexeme e) h

-- characters of a form that spell nothing are a number that is too great
pub spelled-none : (form : Form) (cs : List ℕ) → IsOfForm form cs → spelled_by form cs ≡ None → IsTooGreat cs
spelled-none forms.Digits cs h e = digits-too_great cs (number_of cs) h refl e
spelled-none forms.Word cs h e = cc
spelled-none forms.Text cs h e = cc
spelled-none (forms.Symbol symbol) cs h e = cc

-- the form of the characters that spell a token
abbrev pub IsSpelled : Lexeme → List ℕ → Type 0
IsSpelled lexeme cs = (form : Form) × IsOfForm form cs × (spelled_by form cs ≡ Some lexeme)

name-spelled : (name cs : List ℕ) → IsName cs → name ≡ cs → IsSpelled (NameLexeme name) cs
name-spelled name cs h e =
    let parts = both (first_passes is_xid_start cs && list_all is_xid_continue cs) (not (is_reserved cs)) h in
    let none = name-no_word cs (word_of cs) h refl in
    (forms.Word, both (first_passes is_xid_start cs) (list_all is_xid_continue cs) parts.0, ap (λ o. Some (word_or_name cs o)) none ∙ ap (λ x. Some (NameLexeme x)) (sym e))

pub spells-spelled : (lexeme : Lexeme) (cs : List ℕ) → Spells lexeme cs → IsSpelled lexeme cs
spells-spelled (NameLexeme name) cs s = name-spelled name cs s.0 s.1
spells-spelled (NumberLexeme number) cs s =
    (forms.Digits, s.0, ap (option_map NumberLexeme) (number_of-within cs s.1) ∙ ap (λ x. Some (NumberLexeme x)) (sym s.2))
spells-spelled (TextLexeme text) cs s = (forms.Text, (text, s), ap (λ x. Some (TextLexeme x)) (inside-string text cs s.0))
spells-spelled (WordLexeme word) cs s =
    (forms.Word, rw s (is_word-text word), rw s (ap (λ o. Some (word_or_name (word_text word) o)) (word_of-text word)))
spells-spelled (SymbolLexeme symbol) cs s = (forms.Symbol symbol, s, refl)
