-- What is found of a text that is no module is its reason.
use Rattle.std.proofs.Common.{◌≡◌, ◌⊎◌, inl, inr, ℕ, List, [], ◌∷◌, map, Ok, IsUtf8, Option, Some, None, MatchOption, refl, sym, ap, subst, ◌∙◌}
use Rattle.std.specs.Str.{chars}
use Rattle.std.specs.Str.Lossy.{utf8_valid_len}
use Rattle.cc_base.specs.declared.code.Code.{Code}
use Rattle.cc_base.specs.declared.code.Code.TheVariants.{E01, E02, E03, E04, E05, E06, E07, E08, E09, E10, E11, E12, E13, E14, E15, E16, E17, E18, E19, E30, E31, E32, E33, E34, E35, E36, E37}
use Rattle.cc_base.specs.declared.code.Diag.{Diag}
use Rattle.cc_base.specs.declared.place.Place.{Place}
use Rattle.cc_grammar.specs.Grammar as grammar
use Rattle.cc_grammar.specs.Reads.{TreeOf, place_of}
use Rattle.cc_lex.specs.declared.token.Token.{Token}
use Rattle.cc_lex.specs.declared.token.Tokens.{Tokens}
use Rattle.cc_lex.specs.Lexemes.{placed_of, placed_all}
use Rattle.cc_lex.specs.Lexical.{BeginsNothing, BeginsTooGreat, StopsAt, IsRefusedAs, IsRefused, Lexes, place_past, spanned_of, spanned_all, start, without_spans}
use Rattle.cc_text_reasons.proofs.RefusedTexts.{refused_texts_have_a_reason}
use Rattle.cc_text_reasons.specs.TextReasons.{Break, BreaksAt, at_character, at_end, too_great, TextReason, NotUtf8, Broken, Unwanted, TooHigh, text_code, first_of, HasTextReason, is_not_utf8, is_broken, is_unwanted, is_too_high}
use Rattle.cc_text_reasoning.specs.declared.reason.TextReason as declared
use Rattle.cc_text_reasoning.specs.Answers.{HasATree}
use Rattle.cc_text_reasoning.specs.Breaking.{breaking}
use Rattle.cc_text_reasoning.specs.Places.{from_place, DoPlacesRise}
use Rattle.cc_text_reasoning.specs.Views.{reason_of}
use Rattle.cc_text_reasoning.specs.TokenReasons.{HaveATree, HaveReason, are_unwanted, are_too_high}
use Rattle.cc_text_reasoning.proofs.BreakLaws.{breaking_is}
use Rattle.cc_text_reasoning.proofs.PlaceLaws.{found_from, tokens_rise}
use Rattle.cc_verdicts.specs.Readings.{has_no_tokens, has_tokens}

-- of texts with tokens

without_placed : (tokens : List Token) → without_spans (map spanned_of tokens) ≡ placed_all tokens
without_placed [] = refl
without_placed (token ∷ tokens) = ap (λ ts. placed_of token ∷ ts) (without_placed tokens)

pub lexed_rise : (text : List ℕ) (tokens : Tokens) → Lexes text (Ok tokens) → DoPlacesRise (placed_all tokens.tokens.items) tokens.end
lexed_rise text tokens (has, end) =
    subst (DoPlacesRise (placed_all tokens.tokens.items)) (sym end)
    (subst (λ ts. DoPlacesRise ts (place_past start (chars text))) (without_placed tokens.tokens.items) (tokens_rise (chars text) (spanned_all tokens) has.1))

lexed_tree : (text : List ℕ) (tokens : Tokens) → Lexes text (Ok tokens) → HaveATree (placed_all tokens.tokens.items) tokens.end → HasATree text
lexed_tree text tokens (has, end) (tree, (is, low)) =
    (tree, has_tokens (spanned_all tokens) (TreeOf tree) has (subst (λ ts. grammar.IsModule ts tree) (sym (without_placed tokens.tokens.items)) is, low))

lexed_reason : (text : List ℕ) (tokens : Tokens) (reason : TextReason) (at : Place) → Lexes text (Ok tokens)
    → HaveReason (placed_all tokens.tokens.items) tokens.end reason at → HasTextReason text reason at
lexed_reason text tokens reason at (has, end) (are_unwanted front rest wanted is low none wants) =
    subst (λ end. HasTextReason text (Unwanted (first_of rest) wanted) (place_of rest end)) (sym end)
    (is_unwanted (spanned_all tokens) front rest wanted has (without_placed tokens.tokens.items ∙ is) low none wants)
lexed_reason text tokens reason at (has, end) (are_too_high front rest is low high) =
    subst (λ end. HasTextReason text TooHigh (place_of rest end)) (sym end)
    (is_too_high (spanned_all tokens) front rest has (without_placed tokens.tokens.items ∙ is) low high)

pub lexed : (text : List ℕ) (tokens : Tokens) (answer : Option (declared.TextReason × Place)) → Lexes text (Ok tokens)
    → MatchOption answer (HaveATree (placed_all tokens.tokens.items) tokens.end) (λ found. HaveReason (placed_all tokens.tokens.items) tokens.end (reason_of found.0) found.1)
    → MatchOption answer (HasATree text) (λ found. HasTextReason text (reason_of found.0) found.1)
lexed text tokens None lexes it = lexed_tree text tokens lexes it
lexed text tokens (Some found) lexes it = lexed_reason text tokens (reason_of found.0) found.1 lexes it

-- of texts with none

by_code : (text : List ℕ) (code : Code) (at : Place) → IsRefusedAs text code at
    → (HasTextReason text (NotUtf8 (utf8_valid_len text)) at × (IsUtf8 text → ⊥)) ⊎ (IsUtf8 text × StopsAt (chars text) at)
by_code text E01 at (not, is) = inl (subst (HasTextReason text (NotUtf8 (utf8_valid_len text))) (sym is) (is_not_utf8 not), not)
by_code text E02 at is = inr is
by_code text E03 at is = absurd is
by_code text E04 at is = absurd is
by_code text E05 at is = absurd is
by_code text E06 at is = absurd is
by_code text E07 at is = absurd is
by_code text E08 at is = absurd is
by_code text E09 at is = absurd is
by_code text E10 at is = absurd is
by_code text E11 at is = absurd is
by_code text E12 at is = absurd is
by_code text E13 at is = absurd is
by_code text E14 at is = absurd is
by_code text E15 at is = absurd is
by_code text E16 at is = absurd is
by_code text E17 at is = absurd is
by_code text E18 at is = absurd is
by_code text E19 at is = absurd is
by_code text E30 at is = absurd is
by_code text E31 at is = absurd is
by_code text E32 at is = absurd is
by_code text E33 at is = absurd is
by_code text E34 at is = absurd is
by_code text E35 at is = absurd is
by_code text E36 at is = absurd is
by_code text E37 at is = absurd is

pub not_utf8 : (text : List ℕ) (refusal : Diag) (n : ℕ) → IsRefused text refusal → (IsUtf8 text → ⊥) → n ≡ utf8_valid_len text
    → HasTextReason text (NotUtf8 n) refusal.place
not_utf8 text refusal n refused not e =
    elim (by_code text refusal.code refusal.place refused) [
      | inl (it, nor) ↦ subst (λ n. HasTextReason text (NotUtf8 n) refusal.place) (sym e) it
      | inr (utf8, stops) ↦ absurd (not utf8)
    ]

begins : (rest : List ℕ) (break : Break) → BreaksAt rest break → BeginsNothing rest ⊎ BeginsTooGreat rest
begins rest break (at_character front character behind nothing is it) = inl nothing
begins rest break (at_end nothing it) = inl nothing
begins rest break (too_great great) = inr great

of_stop : (text : List ℕ) (reason : TextReason) (at : Place) → E02 ≡ text_code reason → HasTextReason text reason at
    → HasTextReason text (Broken (breaking (from_place at start (chars text)))) at
of_stop text reason at e (is_not_utf8 not) = cc
of_stop text reason at e (is_broken before rest break utf8 is stops it) =
    let there : from_place (place_past start before) start (chars text) ≡ rest =
    ap (from_place (place_past start before) start) is ∙ found_from before rest start (place_past start before) refl in
    is_broken before rest _ utf8 is stops
    (subst (λ r. BreaksAt rest (breaking r)) (sym there) (breaking_is rest (begins rest break it)))
of_stop text reason at e (is_unwanted tokens front rest wanted has is low none wants) = cc
of_stop text reason at e (is_too_high tokens front rest has is low high) = cc

pub broken : (text : List ℕ) (refusal : Diag) (rest : List ℕ) (break : Break) → IsRefused text refusal → IsUtf8 text
    → rest ≡ from_place refusal.place start (chars text) → break ≡ breaking rest → HasTextReason text (Broken break) refusal.place
broken text refusal rest break refused utf8 from e =
    elim (by_code text refusal.code refusal.place refused) [
      | inl (it, not) ↦ absurd (not utf8)
      | inr stops ↦
          let (reason, code, it) = refused_texts_have_a_reason text E02 refusal.place (has_no_tokens (record { code = E02; place = refusal.place }) stops) in
          subst (λ b. HasTextReason text (Broken b) refusal.place) (sym (e ∙ ap breaking from)) (of_stop text reason refusal.place code it)
    ]
