-- No line ends within what belongs to one comment or one token.
use Rattle.std.proofs.Common.{◌≡◌, ℕ, ◌+◌, Bool, true, false, ◌==◌, not, List, [], ◌∷◌, ◌++◌, length, take, drop, refl, sym, ap, ◌∙◌, arith, Option, Some, None, option_map, lit<, add-zero}
use Rattle.std.specs.List.{list_all}
use Rattle.std.specs.Char.{is_ascii_digit}
use Rattle.std.proofs.lemmas.List.Folds.{list_all-append}
use Rattle.std.proofs.lemmas.Bool.Decides.{nat_tests, Decides-eqb}
use Rattle.unicode_ident.specs.Ident.{is_xid_continue}
use Rattle.unicode_ident.proofs.IdentLemmas.{is_xid_continue-ascii}
use Rattle.cc_base.specs.declared.place.Place.{Place}
use Rattle.cc_lex.specs.declared.token.Symbol.{Symbol}
use Rattle.cc_lex.specs.declared.token.Symbol.TheVariants as symbols
use Rattle.cc_lex.specs.declared.form.Form.{Form}
use Rattle.cc_lex.specs.declared.form.Form.TheVariants as forms
use Rattle.cc_lex.specs.Forms.{symbol_text, stands_in_string, IsOfForm}
use Rattle.cc_lex.specs.Lexemes.{Lexeme}
use Rattle.cc_lex.specs.Lexical.{place_after, place_past, SpannedLexeme, spelled_at, IsBlank, white_space, a_comment}
use Rattle.cc_lex.specs.Cutting.{Front, front_of, blank_of, spelled_by, spelled_front, token_of, stays_in_line, columns_past}
use Rattle.cc_lex.proofs.Booleans.{both, both_true, opposite}
use Rattle.cc_lex.proofs.Constructors.{none_is_some, some_is, cons_is}
use Rattle.cc_lex.proofs.LongestForms.{front-good}
use Rattle.cc_lex.proofs.Blanks.{IsBlankFound, blank_of-found}

-- the characters end no line
abbrev pub InLine : List ℕ → Type 0
InLine cs = list_all stays_in_line cs ≡ true

-- forms

pub all-weaker : (p q : ℕ → Bool) → ((c : ℕ) → p c ≡ true → q c ≡ true) → (cs : List ℕ) → list_all p cs ≡ true → list_all q cs ≡ true
all-weaker p q each [] h = refl
all-weaker p q each (c ∷ cs) h =
    let parts = both (p c) (list_all p cs) h in
    both_true (q c) (list_all q cs) (each c parts.0) (all-weaker p q each cs parts.1)

digit-stays : (c : ℕ) → is_ascii_digit c ≡ true → stays_in_line c ≡ true
digit-stays c h = grind (arith, nat_tests)

line_feed-ends : (c : ℕ) (b : Bool) → c == 10 ≡ b → is_xid_continue c ≡ true → not b ≡ true
line_feed-ends c false e h = refl
line_feed-ends c true e h =
    let at : is_xid_continue 10 ≡ true = ap is_xid_continue (sym ((Decides-eqb c 10).0 e)) ∙ h in
    let none : is_xid_continue 10 ≡ false = is_xid_continue-ascii 10 (lit< tt) in
    absurd (opposite (is_xid_continue 10) at none)

word-stays : (c : ℕ) → is_xid_continue c ≡ true → stays_in_line c ≡ true
word-stays c h = line_feed-ends c (c == 10) refl h

string-stays : (c : ℕ) → stands_in_string c ≡ true → stays_in_line c ≡ true
string-stays c h = grind (arith, nat_tests)

symbols-in_line : (s : Symbol) → InLine (drop 1 (symbol_text s))
symbols-in_line symbols.Open = refl
symbols-in_line symbols.Close = refl
symbols-in_line symbols.OpenBracket = refl
symbols-in_line symbols.CloseBracket = refl
symbols-in_line symbols.OpenBrace = refl
symbols-in_line symbols.CloseBrace = refl
symbols-in_line symbols.Comma = refl
symbols-in_line symbols.Colon = refl
symbols-in_line symbols.Semicolon = refl
symbols-in_line symbols.Dot = refl
symbols-in_line symbols.Caret = refl
symbols-in_line symbols.Question = refl
symbols-in_line symbols.Equals = refl
symbols-in_line symbols.DoubleEquals = refl
symbols-in_line symbols.DoubleArrow = refl
symbols-in_line symbols.Arrow = refl
symbols-in_line symbols.Below = refl
symbols-in_line symbols.Less = refl
symbols-in_line symbols.Plus = refl
symbols-in_line symbols.Minus = refl
symbols-in_line symbols.Star = refl

form-in_line : (form : Form) (c : ℕ) (cs : List ℕ) → IsOfForm form (c ∷ cs) → InLine cs
form-in_line forms.Digits c cs h = all-weaker is_ascii_digit stays_in_line digit-stays cs (both (is_ascii_digit c) (list_all is_ascii_digit cs) h.1).1
form-in_line forms.Word c cs h = all-weaker is_xid_continue stays_in_line word-stays cs (both (is_xid_continue c) (list_all is_xid_continue cs) h.1).1
form-in_line forms.Text c cs h =
    let text = h.0 in
    let rest : cs ≡ text ++ 34 ∷ [] = (cons_is c 34 cs (text ++ 34 ∷ []) h.1.0).1 in
    let inside = all-weaker stands_in_string stays_in_line string-stays text h.1.1 in
    ap (list_all stays_in_line) rest ∙ (list_all-append stays_in_line text (34 ∷ []) ∙ both_true (list_all stays_in_line text) true inside refl)
form-in_line (forms.Symbol s) c cs h = ap (λ ds. list_all stays_in_line (drop 1 ds)) h ∙ symbols-in_line s

-- tokens

spelled-count : (o : Option Lexeme) (f : Lexeme → SpannedLexeme) (m : ℕ) (t : SpannedLexeme) (n : ℕ) → option_map {U = SpannedLexeme × ℕ} (λ x. (f x, m)) o ≡ Some (t, n) → m ≡ n
spelled-count None f m t n h = absurd (none_is_some (t, n) h)
spelled-count (Some x) f m t n h = ap (λ y. y.1) (some_is (f x, m) (t, n) h)

spelled-in_line : (p : Place) (o c : ℕ) (cs : List ℕ) (front : Option Front) (t : SpannedLexeme) (n : ℕ) → front_of c cs ≡ front → spelled_front p o c cs front ≡ Some (t, n) → InLine (take n cs)
spelled-in_line p o c cs None t n e h = absurd (none_is_some (t, n) h)
spelled-in_line p o c cs (Some front) t n e h =
    let good = front-good c cs front e in
    let same : front.1 ≡ n = spelled-count (spelled_by front.0 (c ∷ take front.1 cs)) (spelled_at p o (c ∷ take front.1 cs)) front.1 t n h in
    ap (λ m. list_all stays_in_line (take m cs)) (sym same) ∙ form-in_line front.0 c (take front.1 cs) good.1

pub token-in_line : (p : Place) (o c : ℕ) (cs : List ℕ) (t : SpannedLexeme) (n : ℕ) → token_of p o c cs ≡ Some (t, n) → InLine (take n cs)
unfolding token_of
token-in_line p o c cs t n h = spelled-in_line p o c cs (front_of c cs) t n refl h

-- blanks

behind-blank : (c : ℕ) (ds after : List ℕ) → IsBlank (c ∷ ds) after → InLine ds
behind-blank c ds after (white_space d h e) = ap (list_all stays_in_line) (cons_is c d ds [] e).1
behind-blank c ds after (a_comment m) = ap (list_all stays_in_line) (cons_is c 47 ds (47 ∷ m.body) m.begins).1 ∙ m.in_line

pub blank-in_line : (c : ℕ) (cs : List ℕ) (n : ℕ) → blank_of c cs ≡ Some n → InLine (take n cs)
blank-in_line c cs n e =
    let found : IsBlankFound c cs (Some n) = (let all = blank_of-found c cs in rw e at all) in
    behind-blank c (take n cs) (drop n cs) found.1

-- places

past-in_line : (p : Place) (c : ℕ) → stays_in_line c ≡ true → place_after p c ≡ columns_past p 1
past-in_line p c h = past-stays p c (c == 10) refl h
  where
    past-stays : (p : Place) (c : ℕ) (b : Bool) → c == 10 ≡ b → not b ≡ true → place_after p c ≡ columns_past p 1
    past-stays p c true e h = absurd (opposite false h refl)
    past-stays p c false e h = rw e refl

columns-more : (p : Place) (n m : ℕ) → m ≡ 1 + n → columns_past (columns_past p 1) n ≡ columns_past p m
columns-more p n m e =
    let col : (p.col + 1) + n ≡ p.col + m = omega arith in
    ap (λ k. record { line = p.line; col = k }) col

pub place-in_line : (p : Place) (cs : List ℕ) → InLine cs → place_past p cs ≡ columns_past p (length cs)
place-in_line p [] h = rw add-zero refl
place-in_line p (c ∷ cs) h =
    let parts = both (stays_in_line c) (list_all stays_in_line cs) h in
    ap (λ q. place_past q cs) (past-in_line p c parts.0) ∙ (place-in_line (columns_past p 1) cs parts.1 ∙ columns-more p (length cs) (length (c ∷ cs)) (omega arith))

pub place-append : (p : Place) (xs ys : List ℕ) → place_past (place_past p xs) ys ≡ place_past p (xs ++ ys)
place-append p [] ys = refl
place-append p (x ∷ xs) ys = place-append (place_after p x) xs ys
