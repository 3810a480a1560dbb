-- Places rise along a text, so that each is found where it is.
use Rattle.std.proofs.Common.{◌≡◌, ◌⊎◌, inl, inr, ◌<◌, ◌≤◌, ◌+◌, ◌==◌, ◌&&◌, ℕ, Bool, true, false, List, [], ◌∷◌, ◌++◌, length, refl, sym, ap, subst, ◌∙◌, arith}
use Rattle.std.specs.Prelude.{not, if◌then◌else◌}
use Rattle.std.specs.List.{prefix_len}
use Rattle.std.proofs.lemmas.Bool.{eq-eqb}
use Rattle.cc_base.specs.declared.place.Place.{Place}
use Rattle.cc_grammar.specs.Reads.{place_of}
use Rattle.cc_lex.specs.declared.form.Form.TheVariants as forms
use Rattle.cc_lex.specs.declared.token.Symbol.{Symbol}
use Rattle.cc_lex.specs.declared.token.Symbol.TheVariants as symbols
use Rattle.cc_lex.specs.Forms.{IsForm, symbol_text}
use Rattle.cc_lex.specs.declared.token.Token.{Token}
use Rattle.cc_lex.specs.Lexemes.{PlacedLexeme, placed_all}
use Rattle.cc_lex.specs.Lexical as lexical
use Rattle.cc_lex.specs.Lexical.{SpannedLexeme, Extent, ToTheEnd, UpTo, IsCut, IsText, at_nothing, at_too_great, past_blank, past_token, place_after, place_past, start, spanned_of, without_spans}
use Rattle.cc_text_reasoning.specs.Places.{is_same_place, from_place, IsBefore, DoPlacesRise, stands_elsewhere}

-- the place does not stand behind the other
abbrev IsNotAfter : Place → Place → Type 0
IsNotAfter one other = (one.line < other.line) ⊎ ((one.line ≡ other.line) × (one.col ≤ other.col))

before_that : (p q r : Place) → IsBefore p q → IsNotAfter q r → IsBefore p r
before_that p q r (inl low) (inl lower) = inl (omega (arith, low, lower))
before_that p q r (inl low) (inr (same, cols)) = inl (omega (arith, low, same))
before_that p q r (inr (same, cols)) (inl low) = inl (omega (arith, low, same))
before_that p q r (inr (same, cols)) (inr (too, more)) = inr (same ∙ too, omega (arith, cols, more))

weaker : (p q : Place) → IsBefore p q → IsNotAfter p q
weaker p q (inl low) = inl low
weaker p q (inr (same, cols)) = inr (same, omega (arith, cols))

not_itself : (p q : Place) → IsBefore p q → p ≡ q → ⊥
not_itself p q (inl low) e = let same = ap (λ it. it.line) e in absurd (omega (arith, low, same))
not_itself p q (inr (line, low)) e = let same = ap (λ it. it.col) e in absurd (omega (arith, low, same))

abbrev next_place : Place → Bool → Place
next_place p b = if b then record { line = p.line + 1; col = 1 } else record { line = p.line; col = p.col + 1 }

after_one : (p : Place) (c : ℕ) → IsBefore p (place_after p c)
after_one p c = by (c == 10)
  where
    by : (b : Bool) → IsBefore p (next_place p b)
    by true = inl (omega arith)
    by false = inr (refl, omega arith)

past_all : (cs : List ℕ) (p : Place) → IsNotAfter p (place_past p cs)
past_all [] p = inr (refl, omega arith)
past_all (c ∷ cs) p = weaker p _ (before_that p (place_after p c) _ (after_one p c) (past_all cs (place_after p c)))

past_some : (c : ℕ) (cs : List ℕ) (p : Place) → IsBefore p (place_past p (c ∷ cs))
past_some c cs p = before_that p (place_after p c) _ (after_one p c) (past_all cs (place_after p c))

past_both : (a b : List ℕ) (p : Place) → place_past p (a ++ b) ≡ place_past (place_past p a) b
past_both [] b p = refl
past_both (c ∷ a) b p = past_both a b (place_after p c)

-- places as tests

same_line : (a b c d : ℕ) → (a == b && c == d) ≡ true → (a ≡ b) × (c ≡ d)
same_line a b c d h = grind arith

same_is : (p q : Place) → is_same_place p q ≡ true → p ≡ q
same_is p q h = let (line, col) = same_line p.line q.line p.col q.col h in λ i. record { line = line i; col = col i }

is_same : (p : Place) → is_same_place p p ≡ true
is_same p = let line = eq-eqb p.line p.line refl in let col = eq-eqb p.col p.col refl in rw (line, col) refl

differs : (p q : Place) → (p ≡ q → ⊥) → is_same_place p q ≡ false
differs p q not = by (is_same_place p q) refl
  where
    by : (b : Bool) → is_same_place p q ≡ b → b ≡ false
    by true e = absurd (not (same_is p q e))
    by false e = refl

-- the text from a place on

pub found_from : (before rest : List ℕ) (p at : Place) → at ≡ place_past p before → from_place at p (before ++ rest) ≡ rest
found_from [] [] p at e = refl
found_from [] (c ∷ cs) p at e = let h = is_same p in rw (e, h) refl
found_from (c ∷ before) rest p at e =
    let apart : is_same_place p at ≡ false = differs p at (λ same. not_itself p at (subst (IsBefore p) (sym e) (past_some c before p)) same) in
    rw apart (found_from before rest (place_after p c) at e)

-- tokens

no_symbol : (s : Symbol) → [] ≡ symbol_text s → ⊥
no_symbol symbols.Open e = cc
no_symbol symbols.Close e = cc
no_symbol symbols.OpenBracket e = cc
no_symbol symbols.CloseBracket e = cc
no_symbol symbols.OpenBrace e = cc
no_symbol symbols.CloseBrace e = cc
no_symbol symbols.Comma e = cc
no_symbol symbols.Colon e = cc
no_symbol symbols.Semicolon e = cc
no_symbol symbols.Dot e = cc
no_symbol symbols.Caret e = cc
no_symbol symbols.Question e = cc
no_symbol symbols.Equals e = cc
no_symbol symbols.DoubleEquals e = cc
no_symbol symbols.DoubleArrow e = cc
no_symbol symbols.Arrow e = cc
no_symbol symbols.Below e = cc
no_symbol symbols.Less e = cc
no_symbol symbols.Plus e = cc
no_symbol symbols.Minus e = cc
no_symbol symbols.Star e = cc

no_form : IsForm [] → ⊥
no_form (forms.Digits, (first, all)) = cc
no_form (forms.Word, (first, all)) = cc
no_form (forms.Text, (text, (is, all, short))) = cc
no_form (forms.Symbol s, is) = no_symbol s is

form_before : (cs : List ℕ) (p : Place) → IsForm cs → IsBefore p (place_past p cs)
form_before [] p form = absurd (no_form form)
form_before (c ∷ cs) p form = past_some c cs p

-- the tokens of a text that begins at the place rise, and do not begin before it
record Rise (p : Place) (text : List ℕ) (tokens : List SpannedLexeme) : Type 0 where
  rise : DoPlacesRise (without_spans tokens) (place_past p text)
  behind : IsNotAfter p (place_of (without_spans tokens) (place_past p text))

at_end_of : (p : Place) (cs after text : List ℕ) → text ≡ cs ++ after → place_past (place_past p cs) after ≡ place_past p text
at_end_of p cs after text is = sym (past_both cs after p) ∙ ap (place_past p) (sym is)

cut_rises : (p : Place) (o : ℕ) (text : List ℕ) (tokens : List SpannedLexeme) (extent : Extent) → extent ≡ ToTheEnd
    → IsCut p o text tokens extent → Rise p text tokens
cut_rises p o text tokens extent e lexical.at_end = record { rise = tt; behind = inr (refl, omega arith) }
cut_rises p o text tokens extent e (at_nothing nothing) = absurd (none e)
  where
    none : UpTo p ≡ ToTheEnd → ⊥
    none e = cc
cut_rises p o text tokens extent e (at_too_great great) = absurd (none e)
  where
    none : UpTo p ≡ ToTheEnd → ⊥
    none e = cc
cut_rises p o text tokens extent e (past_blank cs after is blank more) =
    let it = cut_rises _ _ after tokens extent e more in
    let ends = at_end_of p cs after text is in
    record {
      rise = subst (DoPlacesRise (without_spans tokens)) ends it.rise;
      behind = past_that (subst (λ end. IsNotAfter (place_past p cs) (place_of (without_spans tokens) end)) ends it.behind);
    }
  where
    past_that : {q : Place} → IsNotAfter (place_past p cs) q → IsNotAfter p q
    past_that {q} h = both (past_all cs p) h
      where
        both : IsNotAfter p (place_past p cs) → IsNotAfter (place_past p cs) q → IsNotAfter p q
        both (inl low) (inl lower) = inl (omega (arith, low, lower))
        both (inl low) (inr (same, cols)) = inl (omega (arith, low, same))
        both (inr (same, cols)) (inl low) = inl (omega (arith, low, same))
        both (inr (same, cols)) (inr (too, more)) = inr (same ∙ too, omega (arith, cols, more))
cut_rises p o text tokens extent e (past_token {ts = ts} cs after is longest spells more) =
    let it = cut_rises _ _ after ts extent e more in
    let ends = at_end_of p cs after text is in
    record {
      rise = (
        before_that p (place_past p cs) _ (form_before cs p longest.form)
            (subst (λ end. IsNotAfter (place_past p cs) (place_of (without_spans ts) end)) ends it.behind),
        subst (DoPlacesRise (without_spans ts)) ends it.rise,
      );
      behind = inr (refl, omega arith);
    }

pub tokens_rise : (text : List ℕ) (tokens : List SpannedLexeme) → IsText text tokens
    → DoPlacesRise (without_spans tokens) (place_past start text)
tokens_rise text tokens it = (cut_rises start 0 text tokens ToTheEnd refl it).rise

-- what a front of tokens stands before

before_rest : (token : PlacedLexeme) (front rest : List PlacedLexeme) (end : Place) → DoPlacesRise (token ∷ (front ++ rest)) end
    → IsBefore token.at (place_of rest end)
before_rest token [] rest end rise = rise.0
before_rest token (next ∷ front) rest end rise =
    before_that token.at next.at _ rise.0 (weaker next.at _ (before_rest next front rest end rise.1))

-- how many tokens stand before the first at the place
abbrev pub count_before : Place → List PlacedLexeme → ℕ
count_before at tokens = prefix_len (λ token. not (is_same_place token.at at)) tokens

pub front_found : (front rest : List PlacedLexeme) (end at : Place) → DoPlacesRise (front ++ rest) end → at ≡ place_of rest end
    → count_before at (front ++ rest) ≡ length front
front_found [] [] end at rise e = refl
front_found [] (token ∷ rest) end at rise e = let h : is_same_place token.at at ≡ true = ap (is_same_place token.at) e ∙ is_same token.at in rw h refl
front_found (token ∷ front) rest end at rise e =
    let apart : is_same_place token.at at ≡ false = differs token.at at (λ same. not_itself token.at at (subst (IsBefore token.at) (sym e) (before_rest token front rest end rise)) same) in
    let more = front_found front rest end at rise.1 e in
    rw apart (omega (arith, more))

pub count_placed : (at : Place) (tokens : List Token) → prefix_len (stands_elsewhere at) tokens ≡ count_before at (placed_all tokens)
count_placed at [] = refl
count_placed at (token ∷ tokens) = let more = count_placed at tokens in rw more refl
