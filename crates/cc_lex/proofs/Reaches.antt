-- No form at the front of a text is longer than what is found, and one that is as long is of the form that is found.
use Rattle.std.proofs.Common.{◌≡◌, ℕ, ◌+◌, ◌<◌, ◌≤◌, Bool, true, false, cond, ◌&&◌, ◌==◌, nat_le, List, [], ◌∷◌, ◌++◌, length, drop, refl, ap, ◌∙◌, arith, Option, Some, None, length-append, append_assoc, lit<}
use Rattle.std.proofs.lemmas.List.{drop_at}
use Rattle.std.specs.List.{list_all, prefix_len}
use Rattle.std.specs.Char.{is_ascii_digit, is_ascii_alphabetic}
use Rattle.std.proofs.lemmas.Bool.Decides.{nat_tests}
use Rattle.unicode_ident.specs.Ident.{is_xid_start, is_xid_continue}
use Rattle.unicode_ident.proofs.IdentLemmas.{is_xid_start-ascii}
use Rattle.cc_base.specs.Names.{first_passes}
use Rattle.cc_lex.specs.declared.token.Symbol.{Symbol}
use Rattle.cc_lex.specs.declared.token.Symbol.TheVariants as symbols
use Rattle.cc_lex.specs.declared.form.Form.{Form}
use Rattle.cc_lex.specs.declared.form.Form.TheVariants as forms
use Rattle.cc_lex.specs.Forms.{symbol_text, stands_in_string, IsDigits, IsWord, IsOfForm}
use Rattle.cc_lex.specs.Cutting.{Front, short_symbol, pair_symbol, long_symbol, symbol_front, string_front, front_of}
use Rattle.cc_lex.proofs.Booleans.{both, both_true, opposite, if_true, if_false}
use Rattle.cc_lex.proofs.Constructors.{cons_is}
use Rattle.cc_lex.proofs.Prefixes.{prefix-at_least, prefix-exact}

-- what is found has k characters or more behind its first, and with k of them it is of this form
abbrev pub Reaches : Form → ℕ → Option Front → Type 0
Reaches form k None = ⊥
Reaches form k (Some front) = (k ≤ front.1) × (front.1 ≡ k → front.0 ≡ form)

-- no ASCII character starts a word but letters
pub no_start : (c : ℕ) → c < 128 → is_ascii_alphabetic c ≡ false → is_xid_start c ≡ false
no_start c l h = is_xid_start-ascii c l ∙ h

digit-no_start : (c : ℕ) → is_ascii_digit c ≡ true → is_xid_start c ≡ false
digit-no_start c h =
    let low : c < 128 = grind (arith, nat_tests) in
    let other : is_ascii_alphabetic c ≡ false = grind (arith, nat_tests) in
    no_start c low other

start-no_digit : (c : ℕ) (b : Bool) → is_ascii_digit c ≡ b → is_xid_start c ≡ true → is_ascii_digit c ≡ false
start-no_digit c true h k = absurd (opposite (is_xid_start c) k (digit-no_start c h))
start-no_digit c false h k = h

-- what is found at a digit, at a character that starts a word, at a quote and at another character

at_digit : (c : ℕ) (cs : List ℕ) → is_ascii_digit c ≡ true → front_of c cs ≡ Some (forms.Digits, prefix_len is_ascii_digit cs)
unfolding front_of
at_digit c cs h = ap (λ b. cond b (Some (forms.Digits, prefix_len is_ascii_digit cs)) (cond (is_xid_start c) (Some (forms.Word, prefix_len is_xid_continue cs)) (cond (c == 34) (string_front cs) (symbol_front (long_symbol c cs) (short_symbol c))))) h

at_start : (c : ℕ) (cs : List ℕ) → is_ascii_digit c ≡ false → is_xid_start c ≡ true → front_of c cs ≡ Some (forms.Word, prefix_len is_xid_continue cs)
unfolding front_of
at_start c cs h k = rw (h, k) refl

pub at_other : (c : ℕ) (cs : List ℕ) → is_ascii_digit c ≡ false → is_xid_start c ≡ false → front_of c cs ≡ cond (c == 34) (string_front cs) (symbol_front (long_symbol c cs) (short_symbol c))
unfolding front_of
at_other c cs h k = rw (h, k) refl

digits-reach : (c : ℕ) (cs after : List ℕ) → IsDigits (c ∷ cs) → Reaches forms.Digits (length cs) (front_of c (cs ++ after))
digits-reach c cs after h =
    let each = both (is_ascii_digit c) (list_all is_ascii_digit cs) h.1 in
    rw (at_digit c (cs ++ after) h.0) (prefix-at_least is_ascii_digit cs after each.1, λ e. refl)

word-reach : (c : ℕ) (cs after : List ℕ) → IsWord (c ∷ cs) → Reaches forms.Word (length cs) (front_of c (cs ++ after))
word-reach c cs after h =
    let each = both (is_xid_continue c) (list_all is_xid_continue cs) h.1 in
    let other = start-no_digit c (is_ascii_digit c) refl h.0 in
    rw (at_start c (cs ++ after) other h.0) (prefix-at_least is_xid_continue cs after each.1, λ e. refl)

closed : (text after : List ℕ) (n : ℕ) → n ≡ length text → first_passes (λ c. c == 34) (drop n ((text ++ 34 ∷ []) ++ after)) ≡ true
closed text after n e = rw (e, append_assoc text (34 ∷ []) after, drop_at text (34 ∷ after) (length text) refl) refl

string-with : (cs : List ℕ) (n k : ℕ) → n ≡ k → k ≤ 200 → first_passes (λ c. c == 34) (drop n cs) ≡ true → cond {A = Option Front} (nat_le n 200 && first_passes (λ c. c == 34) (drop n cs)) (Some (forms.Text, n + 1)) None ≡ Some (forms.Text, k + 1)
string-with cs n k e l h =
    let short : nat_le n 200 ≡ true = (let within : n ≤ 200 = omega arith in grind (arith, nat_tests)) in
    let passes = both_true (nat_le n 200) (first_passes (λ c. c == 34) (drop n cs)) short h in
    ◌∙◌ {b = Some (forms.Text, n + 1)} (if_true (Some (forms.Text, n + 1)) None passes) (ap (λ i. Some (forms.Text, i + 1)) e)

string-found : (text after : List ℕ) → list_all stands_in_string text ≡ true → length text ≤ 200 → string_front ((text ++ 34 ∷ []) ++ after) ≡ Some (forms.Text, length text + 1)
string-found text after h l =
    let cs = (text ++ 34 ∷ []) ++ after in
    let n = prefix_len stands_in_string cs in
    let exact : n ≡ length text = rw (append_assoc text (34 ∷ []) after) (prefix-exact stands_in_string text (34 ∷ after) h refl) in
    string-with cs n (length text) exact l (closed text after n exact)

string-reach : (cs after text : List ℕ) → cs ≡ text ++ 34 ∷ [] → list_all stands_in_string text ≡ true → length text ≤ 200 → Reaches forms.Text (length cs) (front_of 34 (cs ++ after))
string-reach cs after text e h l =
    let found : front_of 34 (cs ++ after) ≡ Some (forms.Text, length text + 1) = at_other 34 (cs ++ after) refl (no_start 34 (lit< tt) refl) ∙ (ap (λ xs. string_front (xs ++ after)) e ∙ string-found text after h l) in
    let count = ap length e in
    let parts = length-append text (34 ∷ []) in
    rw found (omega arith, λ e. refl)

-- symbols

shorter : (long : Option Symbol) (s : Symbol) → Reaches (forms.Symbol s) 0 (symbol_front long (Some s))
shorter (Some t) s = (omega arith, λ e. absurd (omega arith))
shorter None s = (omega arith, λ e. refl)

single : (c : ℕ) (s : Symbol) (after : List ℕ) → is_ascii_digit c ≡ false → is_xid_start c ≡ false → c == 34 ≡ false → short_symbol c ≡ Some s → Reaches (forms.Symbol s) 0 (front_of c after)
single c s after d w q h =
    let found : front_of c after ≡ symbol_front (long_symbol c after) (Some s) = at_other c after d w ∙ (if_false (string_front after) (symbol_front (long_symbol c after) (short_symbol c)) q ∙ ap (symbol_front (long_symbol c after)) h) in
    rw found (shorter (long_symbol c after) s)

pair : (c d : ℕ) (s : Symbol) (after : List ℕ) → is_ascii_digit c ≡ false → is_xid_start c ≡ false → c == 34 ≡ false → pair_symbol c d ≡ Some s → Reaches (forms.Symbol s) 1 (front_of c (d ∷ after))
pair c d s after e w q h =
    let found : front_of c (d ∷ after) ≡ Some (forms.Symbol s, 1) = at_other c (d ∷ after) e w ∙ (if_false (string_front (d ∷ after)) (symbol_front (pair_symbol c d) (short_symbol c)) q ∙ ap (λ x. symbol_front x (short_symbol c)) h) in
    rw found (omega arith, λ e. refl)

-- the same of a form, with its first character
abbrev pub ReachesFrom : Form → List ℕ → List ℕ → Type 0
ReachesFrom form [] after = ⊥
ReachesFrom form (c ∷ cs) after = Reaches form (length cs) (front_of c (cs ++ after))

symbol-reach : (s : Symbol) (after : List ℕ) → ReachesFrom (forms.Symbol s) (symbol_text s) after
unfolding short_symbol pair_symbol
symbol-reach symbols.Open after = single 40 symbols.Open after refl (no_start 40 (lit< tt) refl) refl refl
symbol-reach symbols.Close after = single 41 symbols.Close after refl (no_start 41 (lit< tt) refl) refl refl
symbol-reach symbols.OpenBracket after = single 91 symbols.OpenBracket after refl (no_start 91 (lit< tt) refl) refl refl
symbol-reach symbols.CloseBracket after = single 93 symbols.CloseBracket after refl (no_start 93 (lit< tt) refl) refl refl
symbol-reach symbols.OpenBrace after = single 123 symbols.OpenBrace after refl (no_start 123 (lit< tt) refl) refl refl
symbol-reach symbols.CloseBrace after = single 125 symbols.CloseBrace after refl (no_start 125 (lit< tt) refl) refl refl
symbol-reach symbols.Comma after = single 44 symbols.Comma after refl (no_start 44 (lit< tt) refl) refl refl
symbol-reach symbols.Colon after = single 58 symbols.Colon after refl (no_start 58 (lit< tt) refl) refl refl
symbol-reach symbols.Semicolon after = single 59 symbols.Semicolon after refl (no_start 59 (lit< tt) refl) refl refl
symbol-reach symbols.Dot after = single 46 symbols.Dot after refl (no_start 46 (lit< tt) refl) refl refl
symbol-reach symbols.Caret after = single 94 symbols.Caret after refl (no_start 94 (lit< tt) refl) refl refl
symbol-reach symbols.Question after = single 63 symbols.Question after refl (no_start 63 (lit< tt) refl) refl refl
symbol-reach symbols.Equals after = single 61 symbols.Equals after refl (no_start 61 (lit< tt) refl) refl refl
symbol-reach symbols.DoubleEquals after = pair 61 61 symbols.DoubleEquals after refl (no_start 61 (lit< tt) refl) refl refl
symbol-reach symbols.DoubleArrow after = pair 61 62 symbols.DoubleArrow after refl (no_start 61 (lit< tt) refl) refl refl
symbol-reach symbols.Arrow after = pair 45 62 symbols.Arrow after refl (no_start 45 (lit< tt) refl) refl refl
symbol-reach symbols.Below after = pair 60 58 symbols.Below after refl (no_start 60 (lit< tt) refl) refl refl
symbol-reach symbols.Less after = single 60 symbols.Less after refl (no_start 60 (lit< tt) refl) refl refl
symbol-reach symbols.Plus after = single 43 symbols.Plus after refl (no_start 43 (lit< tt) refl) refl refl
symbol-reach symbols.Minus after = single 45 symbols.Minus after refl (no_start 45 (lit< tt) refl) refl refl
symbol-reach symbols.Star after = single 42 symbols.Star after refl (no_start 42 (lit< tt) refl) refl refl

-- all forms

text-reach : (c : ℕ) (cs after text : List ℕ) → c ∷ cs ≡ 34 ∷ (text ++ 34 ∷ []) → list_all stands_in_string text ≡ true → length text ≤ 200 → Reaches forms.Text (length cs) (front_of c (cs ++ after))
text-reach c cs after text e h l =
    let parts = cons_is c 34 cs (text ++ 34 ∷ []) e in
    rw parts.0 (string-reach cs after text parts.1 h l)

pub form-reaches : (form : Form) (cs after : List ℕ) → IsOfForm form cs → ReachesFrom form cs after
form-reaches forms.Digits [] after h = opposite false h.0 refl
form-reaches forms.Digits (c ∷ cs) after h = digits-reach c cs after h
form-reaches forms.Word [] after h = opposite false h.0 refl
form-reaches forms.Word (c ∷ cs) after h = word-reach c cs after h
form-reaches forms.Text [] after h = (let e : [] ≡ 34 ∷ (h.0 ++ 34 ∷ []) = h.1.0 in cc)
form-reaches forms.Text (c ∷ cs) after h = text-reach c cs after h.0 h.1.0 h.1.1 h.1.2
form-reaches (forms.Symbol s) cs after h = rw h (symbol-reach s after)
