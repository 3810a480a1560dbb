-- What a text is, from what its tokens read as.
use Rattle.std.proofs.Common.{◌≡◌, ℕ, List, [], ◌∷◌, map, refl, sym, ap, ◌∙◌, Some, Result, Ok, IfOk}
use Rattle.std.proofs.lemmas.Result.{IfOk-weaker}
use Rattle.std.specs.Str.{chars}
use Rattle.std.specs.declared.alloc.AllocError.{AllocError}
use Rattle.cc_base.specs.declared.code.Diag.{Diag}
use Rattle.cc_grammar.specs.Reads.{ModuleReading, TreeOf, SyntaxError, TooHigh}
use Rattle.cc_grammar.specs.Reading.{reading_of}
use Rattle.cc_grammar.proofs.Readings.{tokens_read_as_they_are}
use Rattle.cc_lex.specs.declared.token.Token.{Token}
use Rattle.cc_lex.specs.declared.token.Tokens.{Tokens}
use Rattle.cc_lex.specs.Lexemes.{placed_of, placed_all}
use Rattle.cc_lex.specs.Lexical.{start, place_past, spanned_of, spanned_all, without_spans, Lexes}
use Rattle.cc_verdicts.specs.Readings.{TextReading, IsNoModule, has_tokens, of_tokens, reading_of_text}
use Rattle.cc_verdicts.proofs.ReadingLaws.{text_has_one_reading}
use Rattle.cc_text_reading.specs.declared.reading.TextReading.{TextReading as DeclaredReading}
use Rattle.cc_text_reading.specs.TextReadings.{text_reading_of}
use Rattle.cc_parse.specs.Answers.{refusal_of}

-- refused tokens are no module
pub refused_tokens : (reading : ModuleReading) (diag : Diag) → refusal_of reading ≡ Some diag
    → IsNoModule diag.code diag.place ≡ of_tokens reading
refused_tokens (TreeOf it) diag h = cc
refused_tokens (SyntaxError at) diag h = cc
refused_tokens (TooHigh at) diag h = cc

placed-all : (tokens : List Token) → map (λ t. t.placed) (map spanned_of tokens) ≡ map placed_of tokens
placed-all [] = refl
placed-all (token ∷ tokens) = ap (λ ts. placed_of token ∷ ts) (placed-all tokens)

read_of_tokens : (text : List ℕ) (tokens : Tokens) (reading : TextReading) → Lexes text (Ok tokens)
    → reading ≡ of_tokens (reading_of (placed_all tokens.tokens.items) tokens.end) → reading ≡ reading_of_text text
read_of_tokens text tokens reading lexed is =
    let placed = without_spans (spanned_all tokens) in
    let end = place_past start (chars text) in
    is ∙ (ap (λ ts. of_tokens (reading_of ts tokens.end)) (sym (placed-all tokens.tokens.items))
    ∙ (ap (λ p. of_tokens (reading_of placed p)) lexed.1
    ∙ (text_has_one_reading text (of_tokens (reading_of placed end))).0
    (has_tokens (spanned_all tokens) (reading_of placed end) lexed.0 (tokens_read_as_they_are placed end))))

pub text_read : (text : List ℕ) (tokens : Tokens) (answer : Result DeclaredReading AllocError) → Lexes text (Ok tokens)
    → IfOk answer (λ r. text_reading_of r ≡ of_tokens (reading_of (placed_all tokens.tokens.items) tokens.end))
    → IfOk answer (λ r. text_reading_of r ≡ reading_of_text text)
text_read text tokens answer lexed is =
    IfOk-weaker answer _ _ (λ r same. read_of_tokens text tokens (text_reading_of r) lexed same) is
