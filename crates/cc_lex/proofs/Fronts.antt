-- What is found at the front of a text is of its form, and no form at the front is longer.
use Rattle.std.proofs.Common.{◌≡◌, ℕ, zero, suc, ◌+◌, ◌≤◌, Bool, true, false, cond, ◌&&◌, ◌==◌, nat_le, List, [], ◌∷◌, ◌++◌, length, take, drop, refl, ap, ◌∙◌, arith, Option, Some, None, length-take}
use Rattle.std.specs.List.{list_all, prefix_len}
use Rattle.std.specs.Char.{is_ascii_digit}
use Rattle.std.proofs.lemmas.Bool.Decides.{nat_tests, Decides-eqb}
use Rattle.unicode_ident.specs.Ident.{is_xid_start, is_xid_continue}
use Rattle.unicode_ident.proofs.IdentLemmas.{is_xid_start-is_xid_continue}
use Rattle.cc_base.specs.Names.{first_passes}
use Rattle.cc_lex.specs.declared.token.Symbol.{Symbol}
use Rattle.cc_lex.specs.declared.token.Symbol.TheVariants as symbols
use Rattle.cc_lex.specs.declared.form.Form.TheVariants as forms
use Rattle.cc_lex.specs.Forms.{symbol_text, stands_in_string, IsOfForm}
use Rattle.cc_lex.specs.Cutting.{Front, short_symbol, pair_symbol, long_symbol, symbol_front, string_front, front_of}
use Rattle.cc_lex.proofs.Booleans.{both, both_true}
use Rattle.cc_lex.proofs.Prefixes.{prefix_within, prefix-passes}

-- the front lies in the text, and is of its form
abbrev pub IsGood : ℕ → List ℕ → Option Front → Type 0
IsGood c cs None = Unit {0}
IsGood c cs (Some front) = (front.1 ≤ length cs) × IsOfForm front.0 (c ∷ take front.1 cs)

-- digits and words

run-good : (p : ℕ → Bool) (c : ℕ) (cs : List ℕ) → p c ≡ true → list_all p (c ∷ take (prefix_len p cs) cs) ≡ true
run-good p c cs h = both_true (p c) (list_all p (take (prefix_len p cs) cs)) h (prefix-passes p cs)

-- strings

pub cut-at : (cs : List ℕ) (n : ℕ) → first_passes (λ c. c == 34) (drop n cs) ≡ true → (n + 1 ≤ length cs) × (take (n + 1) cs ≡ take n cs ++ 34 ∷ [])
cut-at [] zero h = cc
cut-at [] (suc n) h = cc
cut-at (c ∷ cs) zero h = (omega arith, ap (λ x. x ∷ []) ((Decides-eqb c 34).0 h))
cut-at (c ∷ cs) (suc n) h =
    let rest = cut-at cs n h in
    let e : suc n + 1 ≡ suc (n + 1) = omega arith in
    (omega arith, rw e (ap (λ xs. c ∷ xs) rest.1))

is-text : (cs : List ℕ) (n : ℕ) → n ≡ prefix_len stands_in_string cs → n ≤ 200 → first_passes (λ c. c == 34) (drop n cs) ≡ true → IsGood 34 cs (Some (forms.Text, n + 1))
is-text cs n e short closed =
    let at = cut-at cs n closed in
    let passes : list_all stands_in_string (take n cs) ≡ true = rw e (prefix-passes stands_in_string cs) in
    let fits : length (take n cs) ≤ 200 = omega (arith, length-take n cs) in
    (at.0, (take n cs, (ap (λ xs. 34 ∷ xs) at.1, passes, fits)))

string-good : (cs : List ℕ) (n : ℕ) (b : Bool) → n ≡ prefix_len stands_in_string cs → (nat_le n 200 && first_passes (λ c. c == 34) (drop n cs)) ≡ b → IsGood 34 cs (cond b (Some (forms.Text, n + 1)) None)
string-good cs n true e h =
    let parts = both (nat_le n 200) (first_passes (λ c. c == 34) (drop n cs)) h in
    let short : n ≤ 200 = (let k = parts.0 in grind (arith, nat_tests)) in
    is-text cs n e short parts.1
string-good cs n false e h = tt

-- symbols

choice : (c k : ℕ) (t s : Symbol) (other : Option Symbol) (b : Bool) → c == k ≡ b → k ∷ [] ≡ symbol_text t → (other ≡ Some s → c ∷ [] ≡ symbol_text s) → cond b (Some t) other ≡ Some s → c ∷ [] ≡ symbol_text s
choice c k t s other true e text rest h =
    let same : t ≡ s = cc in
    ap (λ x. x ∷ []) ((Decides-eqb c k).0 e) ∙ (text ∙ ap symbol_text same)
choice c k t s other false e text rest h = rest h

short-text : (c : ℕ) (s : Symbol) → short_symbol c ≡ Some s → c ∷ [] ≡ symbol_text s
unfolding short_symbol
short-text c s =
    (choice c 40 symbols.Open s _ (c == 40) refl refl
    (choice c 41 symbols.Close s _ (c == 41) refl refl
    (choice c 91 symbols.OpenBracket s _ (c == 91) refl refl
    (choice c 93 symbols.CloseBracket s _ (c == 93) refl refl
    (choice c 123 symbols.OpenBrace s _ (c == 123) refl refl
    (choice c 125 symbols.CloseBrace s _ (c == 125) refl refl
    (choice c 44 symbols.Comma s _ (c == 44) refl refl
    (choice c 58 symbols.Colon s _ (c == 58) refl refl
    (choice c 59 symbols.Semicolon s _ (c == 59) refl refl
    (choice c 46 symbols.Dot s _ (c == 46) refl refl
    (choice c 94 symbols.Caret s _ (c == 94) refl refl
    (choice c 63 symbols.Question s _ (c == 63) refl refl
    (choice c 61 symbols.Equals s _ (c == 61) refl refl
    (choice c 60 symbols.Less s _ (c == 60) refl refl
    (choice c 43 symbols.Plus s _ (c == 43) refl refl
    (choice c 45 symbols.Minus s _ (c == 45) refl refl
    (choice c 42 symbols.Star s _ (c == 42) refl refl (λ h. cc))))))))))))))))))

pair-choice : (c d j k : ℕ) (t s : Symbol) (other : Option Symbol) (b : Bool) → c ≡ j → d == k ≡ b → j ∷ k ∷ [] ≡ symbol_text t → (other ≡ Some s → c ∷ d ∷ [] ≡ symbol_text s) → cond b (Some t) other ≡ Some s → c ∷ d ∷ [] ≡ symbol_text s
pair-choice c d j k t s other true first e text rest h =
    let same : t ≡ s = cc in
    let second = (Decides-eqb d k).0 e in
    let texts = ap symbol_text same in
    cc
pair-choice c d j k t s other false first e text rest h = rest h

first-choice : (c d j : ℕ) (s : Symbol) (here other : Option Symbol) (b : Bool) → c == j ≡ b → (c ≡ j → here ≡ Some s → c ∷ d ∷ [] ≡ symbol_text s) → (other ≡ Some s → c ∷ d ∷ [] ≡ symbol_text s) → cond b here other ≡ Some s → c ∷ d ∷ [] ≡ symbol_text s
first-choice c d j s here other true e now rest h = now ((Decides-eqb c j).0 e) h
first-choice c d j s here other false e now rest h = rest h

pub pair-text : (c d : ℕ) (s : Symbol) → pair_symbol c d ≡ Some s → c ∷ d ∷ [] ≡ symbol_text s
unfolding pair_symbol
pair-text c d s =
    first-choice c d 61 s _ _ (c == 61) refl (λ e. pair-choice c d 61 61 symbols.DoubleEquals s _ (d == 61) e refl refl (pair-choice c d 61 62 symbols.DoubleArrow s _ (d == 62) e refl refl (λ h. cc)))
    (first-choice c d 45 s _ _ (c == 45) refl (λ e. pair-choice c d 45 62 symbols.Arrow s _ (d == 62) e refl refl (λ h. cc))
    (first-choice c d 60 s _ _ (c == 60) refl (λ e. pair-choice c d 60 58 symbols.Below s _ (d == 58) e refl refl (λ h. cc))
    (λ h. cc)))

short-good : (c : ℕ) (cs : List ℕ) (short : Option Symbol) → short_symbol c ≡ short → IsGood c cs (symbol_front None short)
short-good c cs (Some s) h = (omega arith, short-text c s h)
short-good c cs None h = tt

pair-good : (c d : ℕ) (cs : List ℕ) (pair short : Option Symbol) → pair_symbol c d ≡ pair → short_symbol c ≡ short → IsGood c (d ∷ cs) (symbol_front pair short)
pair-good c d cs (Some s) short h k = (omega arith, pair-text c d s h)
pair-good c d cs None short h k = short-good c (d ∷ cs) short k

symbol-good : (c : ℕ) (cs : List ℕ) → IsGood c cs (symbol_front (long_symbol c cs) (short_symbol c))
symbol-good c [] = short-good c [] (short_symbol c) refl
symbol-good c (d ∷ cs) = pair-good c d cs (pair_symbol c d) (short_symbol c) refl refl

-- all forms

quote-good : (c : ℕ) (cs : List ℕ) → c ≡ 34 → IsGood c cs (string_front cs)
quote-good c cs e =
    let n = prefix_len stands_in_string cs in
    rw e (string-good cs n (nat_le n 200 && first_passes (λ d. d == 34) (drop n cs)) refl refl)

chosen-good : (c : ℕ) (cs : List ℕ) (digit start quote : Bool) → is_ascii_digit c ≡ digit → is_xid_start c ≡ start → c == 34 ≡ quote → IsGood c cs (cond digit (Some (forms.Digits, prefix_len is_ascii_digit cs)) (cond start (Some (forms.Word, prefix_len is_xid_continue cs)) (cond quote (string_front cs) (symbol_front (long_symbol c cs) (short_symbol c)))))
chosen-good c cs true start quote d w q = (prefix_within is_ascii_digit cs _ refl, (d, run-good is_ascii_digit c cs d))
chosen-good c cs false true quote d w q =
    (prefix_within is_xid_continue cs _ refl, (w, run-good is_xid_continue c cs (is_xid_start-is_xid_continue c w)))
chosen-good c cs false false true d w q = quote-good c cs ((Decides-eqb c 34).0 q)
chosen-good c cs false false false d w q = symbol-good c cs

pub front_of-good : (c : ℕ) (cs : List ℕ) → IsGood c cs (front_of c cs)
unfolding front_of
front_of-good c cs = chosen-good c cs (is_ascii_digit c) (is_xid_start c) (c == 34) refl refl refl
