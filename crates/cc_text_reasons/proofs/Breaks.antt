-- What a token breaks at is one thing, and is something.
use Rattle.std.proofs.Common.{◌≡◌, ◌⊎◌, inl, inr, ℕ, zero, suc, ◌<◌, ◌≤◌, ◌==◌, ◌&&◌, Bool, true, false, List, [], ◌∷◌, ◌++◌, length, IsTrue, refl, sym, ap, subst, ◌∙◌, arith}
use Rattle.std.specs.Prelude.{not}
use Rattle.std.specs.List.{list_all}
use Rattle.std.specs.Char.{is_ascii_digit}
use Rattle.std.proofs.lemmas.Bool.{eqb-true}
use Rattle.std.proofs.lemmas.List.{append-nil}
use Rattle.unicode_ident.specs.Ident.{is_xid_continue}
use Rattle.cc_base.specs.Names.{first_passes}
use Rattle.cc_lex.specs.declared.form.Form.TheVariants as forms
use Rattle.cc_lex.specs.declared.token.Symbol.{Symbol}
use Rattle.cc_lex.specs.declared.token.Symbol.TheVariants as symbols
use Rattle.cc_lex.specs.Forms.{IsForm, IsString, symbol_text, stands_in_string}
use Rattle.cc_lex.specs.Lexical.{is_white, EndsTheLine, IsBlank, white_space, a_comment, BeginsNothing}
use Rattle.cc_text_reasons.specs.TextReasons.{IsLongestStart, Break, AtCharacter, AtEnd, BreaksAt, at_character, at_end}

-- what stands at the front, or the end
abbrev pub after : List ℕ → Break
after [] = AtEnd
after (c ∷ cs) = AtCharacter c

pub breaks_behind : (text front behind : List ℕ) → BeginsNothing text → text ≡ front ++ behind → IsLongestStart front behind
    → BreaksAt text (after behind)
breaks_behind text front [] nothing is start =
    at_end nothing (subst (λ t. IsLongestStart t []) (sym (is ∙ append-nil front)) start)
breaks_behind text front (c ∷ behind) nothing is start = at_character front c behind nothing is start

and_true : (b : Bool) → b ≡ true → IsTrue b
and_true b e = e

-- the first character of a symbol is a symbol
symbol_first : (s : Symbol) (c : ℕ) (cs : List ℕ) → c ∷ cs ≡ symbol_text s → IsForm (c ∷ [])
symbol_first symbols.Open c cs e = (forms.Symbol symbols.Open, cc)
symbol_first symbols.Close c cs e = (forms.Symbol symbols.Close, cc)
symbol_first symbols.OpenBracket c cs e = (forms.Symbol symbols.OpenBracket, cc)
symbol_first symbols.CloseBracket c cs e = (forms.Symbol symbols.CloseBracket, cc)
symbol_first symbols.OpenBrace c cs e = (forms.Symbol symbols.OpenBrace, cc)
symbol_first symbols.CloseBrace c cs e = (forms.Symbol symbols.CloseBrace, cc)
symbol_first symbols.Comma c cs e = (forms.Symbol symbols.Comma, cc)
symbol_first symbols.Colon c cs e = (forms.Symbol symbols.Colon, cc)
symbol_first symbols.Semicolon c cs e = (forms.Symbol symbols.Semicolon, cc)
symbol_first symbols.Dot c cs e = (forms.Symbol symbols.Dot, cc)
symbol_first symbols.Caret c cs e = (forms.Symbol symbols.Caret, cc)
symbol_first symbols.Question c cs e = (forms.Symbol symbols.Question, cc)
symbol_first symbols.Equals c cs e = (forms.Symbol symbols.Equals, cc)
symbol_first symbols.DoubleEquals c cs e = (forms.Symbol symbols.Equals, cc)
symbol_first symbols.DoubleArrow c cs e = (forms.Symbol symbols.Equals, cc)
symbol_first symbols.Arrow c cs e = (forms.Symbol symbols.Minus, cc)
symbol_first symbols.Below c cs e = (forms.Symbol symbols.Less, cc)
symbol_first symbols.Less c cs e = (forms.Symbol symbols.Less, cc)
symbol_first symbols.Plus c cs e = (forms.Symbol symbols.Plus, cc)
symbol_first symbols.Minus c cs e = (forms.Symbol symbols.Minus, cc)
symbol_first symbols.Star c cs e = (forms.Symbol symbols.Star, cc)

alone : (p : ℕ → Bool) (c : ℕ) (cs : List ℕ) → IsTrue (list_all p (c ∷ cs)) → IsTrue (list_all p (c ∷ []))
alone p c cs h = by (p c) h
  where
    by : (b : Bool) → IsTrue (b && list_all p cs) → IsTrue (b && true)
    by true is = refl
    by false is = cc

-- the first character of a form is one, unless the form is a string
pub form_first : (c : ℕ) (cs : List ℕ) → IsForm (c ∷ cs) → IsForm (c ∷ []) ⊎ ((c ≡ 34) × ((text : List ℕ) × IsString text (c ∷ cs)))
form_first c cs (forms.Digits, (first, all)) = inl (forms.Digits, (first, alone is_ascii_digit c cs all))
form_first c cs (forms.Word, (first, all)) = inl (forms.Word, (first, alone is_xid_continue c cs all))
form_first c cs (forms.Text, (text, (is, all, short))) = inr (cc, (text, (is, all, short)))
form_first c cs (forms.Symbol s, is) = inl (symbol_first s c cs is)

-- what white space or a comment begins with
pub blank_first : (c : ℕ) (cs behind : List ℕ) → IsBlank (c ∷ cs) behind
    → IsTrue (is_white c) ⊎ ((c ≡ 47) × ((rest : List ℕ) × (cs ≡ 47 ∷ rest)))
blank_first c cs behind (white_space d white is) = inl (subst (λ k. IsTrue (is_white k)) (sym (first_is is)) white)
  where
    first_is : {d : ℕ} → c ∷ cs ≡ d ∷ [] → c ≡ d
    first_is e = cc
blank_first c cs behind (a_comment it) = inr (parts it.body it.begins)
  where
    parts : (body : List ℕ) → c ∷ cs ≡ 47 ∷ 47 ∷ body → (c ≡ 47) × ((rest : List ℕ) × (cs ≡ 47 ∷ rest))
    parts body e = (cc, (body, cc))

-- the line up to its end
pub line_end : (cs : List ℕ) → (body : List ℕ) × (behind : List ℕ) × (cs ≡ body ++ behind) × IsTrue (list_all (λ c. not (c == 10)) body) × EndsTheLine behind
line_end [] = ([], [], refl, refl, tt)
line_end (c ∷ cs) = by (line_end cs) (c == 10) refl
  where
    by : (body : List ℕ) × (behind : List ℕ) × (cs ≡ body ++ behind) × IsTrue (list_all (λ c. not (c == 10)) body) × EndsTheLine behind
        → (b : Bool) → (c == 10) ≡ b
        → (body : List ℕ) × (behind : List ℕ) × (c ∷ cs ≡ body ++ behind) × IsTrue (list_all (λ c. not (c == 10)) body) × EndsTheLine behind
    by rest true is = ([], c ∷ cs, refl, refl, eqb-true c 10 is)
    by (body, behind, same, all, ends) false is =
        (c ∷ body, behind, ap (λ t. c ∷ t) same, subst (λ b. IsTrue (not b && list_all (λ c. not (c == 10)) body)) (sym is) all, ends)

-- characters of a string, at most so many, up to one that is none
unfoldable pub text_front : (n : ℕ) (cs : List ℕ) → (text : List ℕ) × (behind : List ℕ) × (cs ≡ text ++ behind) × IsTrue (list_all stands_in_string text)
    × (length text ≤ n) × ((length text ≡ n) ⊎ (first_passes stands_in_string behind ≡ false))
text_front zero cs = ([], cs, refl, refl, omega arith, inl refl)
text_front (suc n) [] = ([], [], refl, refl, omega arith, inr refl)
text_front (suc n) (c ∷ cs) = by (text_front n cs) (stands_in_string c) refl
  where
    longer : (text behind : List ℕ) → (length text ≡ n) ⊎ (first_passes stands_in_string behind ≡ false)
        → (suc (length text) ≡ suc n) ⊎ (first_passes stands_in_string behind ≡ false)
    longer text behind (inl same) = inl (ap suc same)
    longer text behind (inr none) = inr none

    by : (text : List ℕ) × (behind : List ℕ) × (cs ≡ text ++ behind) × IsTrue (list_all stands_in_string text)
        × (length text ≤ n) × ((length text ≡ n) ⊎ (first_passes stands_in_string behind ≡ false))
        → (b : Bool) → stands_in_string c ≡ b
        → (text : List ℕ) × (behind : List ℕ) × (c ∷ cs ≡ text ++ behind) × IsTrue (list_all stands_in_string text)
        × (length text ≤ suc n) × ((length text ≡ suc n) ⊎ (first_passes stands_in_string behind ≡ false))
    by (text, behind, same, all, short, ends) true is =
        (c ∷ text, behind, ap (λ t. c ∷ t) same, subst (λ b. IsTrue (b && list_all stands_in_string text)) (sym is) all, omega arith, longer text behind ends)
    by rest false is = ([], c ∷ cs, refl, refl, omega arith, inr is)

-- a string goes on behind a front of its characters, or is closed there
pub string_goes_on : (s t : List ℕ) (d : ℕ) (ms : List ℕ) → IsTrue (list_all stands_in_string s) → IsTrue (list_all stands_in_string t)
    → s ++ d ∷ ms ≡ t ++ 34 ∷ [] → ((length s < length t) × IsTrue (stands_in_string d)) ⊎ ((s ≡ t) × (d ≡ 34))
string_goes_on [] [] d ms all others e = inr (refl, cc)
string_goes_on [] (x ∷ t) d ms all others e = inl (omega arith, subst (λ k. IsTrue (stands_in_string k)) (sym (first_is e)) (of_first (stands_in_string x) others))
  where
    first_is : d ∷ ms ≡ x ∷ (t ++ 34 ∷ []) → d ≡ x
    first_is e = cc

    of_first : (b : Bool) → IsTrue (b && list_all stands_in_string t) → IsTrue b
    of_first true h = refl
    of_first false h = h
string_goes_on (a ∷ s) [] d ms all others e = absurd (none (first_is e) all)
  where
    first_is : a ∷ (s ++ d ∷ ms) ≡ 34 ∷ [] → a ≡ 34
    first_is e = cc

    none : a ≡ 34 → IsTrue (list_all stands_in_string (a ∷ s)) → ⊥
    none same h = not_true (subst (λ k. IsTrue (list_all stands_in_string (k ∷ s))) same h)
      where
        not_true : IsTrue (list_all stands_in_string (34 ∷ s)) → ⊥
        not_true e = cc
string_goes_on (a ∷ s) (x ∷ t) d ms all others e =
    lift (string_goes_on s t d ms (of_rest (stands_in_string a) all) (of_others (stands_in_string x) others) (rest_is e))
  where
    rest_is : a ∷ (s ++ d ∷ ms) ≡ x ∷ (t ++ 34 ∷ []) → s ++ d ∷ ms ≡ t ++ 34 ∷ []
    rest_is e = cc

    first_is : a ∷ (s ++ d ∷ ms) ≡ x ∷ (t ++ 34 ∷ []) → a ≡ x
    first_is e = cc

    of_rest : (b : Bool) → IsTrue (b && list_all stands_in_string s) → IsTrue (list_all stands_in_string s)
    of_rest true h = h
    of_rest false h = cc

    of_others : (b : Bool) → IsTrue (b && list_all stands_in_string t) → IsTrue (list_all stands_in_string t)
    of_others true h = h
    of_others false h = cc

    lift : ((length s < length t) × IsTrue (stands_in_string d)) ⊎ ((s ≡ t) × (d ≡ 34))
        → ((suc (length s) < suc (length t)) × IsTrue (stands_in_string d)) ⊎ ((a ∷ s ≡ x ∷ t) × (d ≡ 34))
    lift (inl (low, stands)) = inl (omega arith, stands)
    lift (inr (same, is)) = inr ((λ i. first_is e i ∷ same i), is)
