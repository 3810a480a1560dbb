-- What is found between tokens is white space or a comment, and where none is found none stands there.
use Rattle.std.proofs.Common.{◌≡◌, ℕ, suc, ◌+◌, ◌≤◌, Bool, true, false, cond, ◌&&◌, ◌||◌, ◌==◌, not, List, [], ◌∷◌, ◌++◌, length, take, drop, refl, sym, ap, ◌∙◌, arith, Option, Some, None, ◌⊎◌, inl, inr, lit<, one-add, take-append-drop}
use Rattle.std.specs.List.{list_all, prefix_len}
use Rattle.std.proofs.lemmas.Bool.Decides.{Decides-eqb}
use Rattle.cc_base.specs.Names.{first_passes}
use Rattle.cc_lex.specs.Lexical.{is_white, EndsTheLine, IsComment, IsBlank, white_space, a_comment}
use Rattle.cc_lex.specs.Cutting.{Front, short_symbol, pair_symbol, long_symbol, symbol_front, front_of, blank_of}
use Rattle.cc_lex.proofs.Booleans.{both, if_true}
use Rattle.cc_lex.proofs.Constructors.{none_is_some, cons_is}
use Rattle.cc_lex.proofs.Prefixes.{prefix_within, prefix-passes, prefix-ends, prefix-exact}
use Rattle.cc_lex.proofs.Reaches.{no_start, at_other}

-- the test of a character that does not end a line
abbrev in_line : ℕ → Bool
in_line c = not (c == 10)

abbrev pub IsBlankFound : ℕ → List ℕ → Option ℕ → Type 0
IsBlankFound c cs None = Unit {0}
IsBlankFound c cs (Some n) = (n ≤ length cs) × IsBlank (c ∷ take n cs) (drop n cs)

not_false : (b : Bool) → not b ≡ false → b ≡ true
not_false true h = refl
not_false false h = cc

ends_line : (cs : List ℕ) → first_passes in_line cs ≡ false → EndsTheLine cs
ends_line [] h = tt
ends_line (c ∷ cs) h = (Decides-eqb c 10).0 (not_false (c == 10) h)

comment-at : (cs : List ℕ) → IsBlankFound 47 (47 ∷ cs) (Some (suc (prefix_len in_line cs)))
comment-at cs =
    let within = prefix_within in_line cs (prefix_len in_line cs) refl in
    let comment : IsComment (47 ∷ 47 ∷ take (prefix_len in_line cs) cs) (drop (prefix_len in_line cs) cs) = record {
      body = take (prefix_len in_line cs) cs;
      begins = refl;
      in_line = prefix-passes in_line cs;
      whole = ends_line (drop (prefix_len in_line cs) cs) (prefix-ends in_line cs);
    } in
    (omega arith, a_comment comment)

comment-found : (cs : List ℕ) → first_passes (λ d. d == 47) cs ≡ true → IsBlankFound 47 cs (Some (prefix_len in_line cs))
comment-found [] h = cc
comment-found (d ∷ cs) h = rw ((Decides-eqb d 47).0 h, one-add) (comment-at cs)

chosen-blank : (c : ℕ) (cs : List ℕ) (white slash : Bool) → is_white c ≡ white → (c == 47 && first_passes (λ d. d == 47) cs) ≡ slash → IsBlankFound c cs (cond white (Some 0) (cond slash (Some (prefix_len in_line cs)) None))
chosen-blank c cs true slash h k = (omega arith, white_space c h refl)
chosen-blank c cs false true h k =
    let parts = both (c == 47) (first_passes (λ d. d == 47) cs) k in
    rw ((Decides-eqb c 47).0 parts.0) (comment-found cs parts.1)
chosen-blank c cs false false h k = tt

pub blank_of-found : (c : ℕ) (cs : List ℕ) → IsBlankFound c cs (blank_of c cs)
unfolding blank_of
blank_of-found c cs = chosen-blank c cs (is_white c) (c == 47 && first_passes (λ d. d == 47) cs) refl refl

-- a blank at the front is found

pub white-first : (c : ℕ) (cs : List ℕ) → is_white c ≡ true → blank_of c cs ≡ Some 0
unfolding blank_of
white-first c cs h = if_true (Some 0) (cond (c == 47 && first_passes (λ d. d == 47) cs) (Some (prefix_len in_line cs)) None) h

ends-line : (after : List ℕ) → EndsTheLine after → first_passes in_line after ≡ false
ends-line [] h = refl
ends-line (c ∷ cs) h = rw h refl

slash-first : (body after : List ℕ) → list_all in_line body ≡ true → EndsTheLine after → blank_of 47 (47 ∷ (body ++ after)) ≡ Some (suc (length body))
unfolding blank_of
slash-first body after h e =
    let exact = prefix-exact in_line body after h (ends-line after e) in
    let count : 1 + prefix_len in_line (body ++ after) ≡ suc (length body) = omega arith in
    ap Some count

pub blank-found : (c : ℕ) (es after : List ℕ) → IsBlank (c ∷ es) after → blank_of c (es ++ after) ≡ Some (length es)
blank-found c es after (white_space d h e) =
    let parts = cons_is c d es [] e in
    let white : is_white c ≡ true = ap is_white parts.0 ∙ h in
    white-first c (es ++ after) white ∙ ap (λ xs. Some (length xs)) (sym parts.1)
blank-found c es after (a_comment m) =
    let parts = cons_is c 47 es (47 ∷ m.body) m.begins in
    rw (parts.0, parts.1) (slash-first m.body after m.in_line m.whole)

pub blank-some : (ds after : List ℕ) → IsBlank ds after → ds ≡ [] → ⊥
blank-some ds after (white_space d h e) k = cc
blank-some ds after (a_comment m) k = (let e : ds ≡ 47 ∷ 47 ∷ m.body = m.begins in cc)

-- no form begins with a blank

white-cases : (c : ℕ) (a b d e : Bool) → c == 32 ≡ a → c == 9 ≡ b → c == 13 ≡ d → c == 10 ≡ e → (a || b || d || e) ≡ true → (c ≡ 32) ⊎ ((c ≡ 9) ⊎ ((c ≡ 13) ⊎ (c ≡ 10)))
white-cases c true b d e p q r s h = inl ((Decides-eqb c 32).0 p)
white-cases c false true d e p q r s h = inr (inl ((Decides-eqb c 9).0 q))
white-cases c false false true e p q r s h = inr (inr (inl ((Decides-eqb c 13).0 r)))
white-cases c false false false true p q r s h = inr (inr (inr ((Decides-eqb c 10).0 s)))
white-cases c false false false false p q r s h = cc

no_symbol : (c : ℕ) (cs : List ℕ) → short_symbol c ≡ None → ((d : ℕ) → pair_symbol c d ≡ None) → symbol_front (long_symbol c cs) (short_symbol c) ≡ None
no_symbol c [] h k = ap (symbol_front None) h
no_symbol c (d ∷ cs) h k = rw (k d, h) refl

no_front-32 : (cs : List ℕ) → front_of 32 cs ≡ None
unfolding short_symbol pair_symbol
no_front-32 cs = at_other 32 cs refl (no_start 32 (lit< tt) refl) ∙ no_symbol 32 cs refl (λ d. refl)

no_front-9 : (cs : List ℕ) → front_of 9 cs ≡ None
unfolding short_symbol pair_symbol
no_front-9 cs = at_other 9 cs refl (no_start 9 (lit< tt) refl) ∙ no_symbol 9 cs refl (λ d. refl)

no_front-13 : (cs : List ℕ) → front_of 13 cs ≡ None
unfolding short_symbol pair_symbol
no_front-13 cs = at_other 13 cs refl (no_start 13 (lit< tt) refl) ∙ no_symbol 13 cs refl (λ d. refl)

no_front-10 : (cs : List ℕ) → front_of 10 cs ≡ None
unfolding short_symbol pair_symbol
no_front-10 cs = at_other 10 cs refl (no_start 10 (lit< tt) refl) ∙ no_symbol 10 cs refl (λ d. refl)

no_front-47 : (cs : List ℕ) → front_of 47 cs ≡ None
unfolding short_symbol pair_symbol
no_front-47 cs = at_other 47 cs refl (no_start 47 (lit< tt) refl) ∙ no_symbol 47 cs refl (λ d. refl)

no_front-white : (c : ℕ) (cs : List ℕ) → (c ≡ 32) ⊎ ((c ≡ 9) ⊎ ((c ≡ 13) ⊎ (c ≡ 10))) → front_of c cs ≡ None
no_front-white c cs (inl e) = rw e (no_front-32 cs)
no_front-white c cs (inr (inl e)) = rw e (no_front-9 cs)
no_front-white c cs (inr (inr (inl e))) = rw e (no_front-13 cs)
no_front-white c cs (inr (inr (inr e))) = rw e (no_front-10 cs)

no_front-blank : (c : ℕ) (cs ds after : List ℕ) → IsBlank ds after → c ∷ cs ≡ ds ++ after → front_of c cs ≡ None
no_front-blank c cs ds after (white_space d h e) s =
    let same : c ≡ d = (cons_is c d cs after (s ∙ ap (λ xs. xs ++ after) e)).0 in
    let cases = white-cases d (d == 32) (d == 9) (d == 13) (d == 10) refl refl refl refl h in
    rw same (no_front-white d cs cases)
no_front-blank c cs ds after (a_comment m) s =
    let same : c ≡ 47 = (cons_is c 47 cs (47 ∷ (m.body ++ after)) (s ∙ ap (λ xs. xs ++ after) m.begins)).0 in
    rw same (no_front-47 cs)

-- where a form begins, no blank does
pub front-no_blank : (c : ℕ) (cs : List ℕ) (front : Front) (o : Option ℕ) → front_of c cs ≡ Some front → blank_of c cs ≡ o → o ≡ None
front-no_blank c cs front None h e = refl
front-no_blank c cs front (Some n) h e =
    let found : IsBlankFound c cs (Some n) = (let all = blank_of-found c cs in rw e at all) in
    let none = no_front-blank c cs (c ∷ take n cs) (drop n cs) found.1 (ap (λ xs. c ∷ xs) (sym (take-append-drop n cs))) in
    absurd (none_is_some front (sym none ∙ h))
