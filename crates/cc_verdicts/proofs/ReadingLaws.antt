-- A text is what the function gives, and nothing else.
use Rattle.std.proofs.Common.{◌≡◌, ℕ, Bool, true, false, List, refl, sym, ap, ◌∙◌, subst}
use Rattle.std.specs.Prelude.{take}
use Rattle.std.specs.Str.{chars, is_utf8, IsUtf8}
use Rattle.std.specs.Str.Lossy.{utf8_valid_len}
use Rattle.std.proofs.lemmas.Str.{IsUtf8-from_is_utf8, is_utf8-from_IsUtf8}
use Rattle.cc_base.specs.declared.place.Place.{Place}
use Rattle.cc_base.specs.declared.code.Code.{Code}
use Rattle.cc_base.specs.declared.code.Code.TheVariants.{E01, E02}
use Rattle.cc_base.specs.declared.code.Diag.{Diag}
use Rattle.cc_lex.specs.Lexical.{SpannedLexeme, Extent, ToTheEnd, UpTo, start, place_past, without_spans, IsCut, IsRefused, IsRefusedAs}
use Rattle.cc_lex.specs.Cutting.{cut}
use Rattle.cc_lex.proofs.CuttingLaws.{cut-is, IsCut-cut}
use Rattle.cc_grammar.specs.Reading.{reading_of}
use Rattle.cc_grammar.proofs.Readings.{tokens_read_as_they_are, tokens_have_one_reading}
use Rattle.cc_verdicts.specs.Readings.{TextReading, IsNoModule, HasReading, has_no_tokens, has_tokens, of_tokens, of_extent, of_cutting, reading_of_text, ATextHasOneReading}

not_utf8 : (text : List ℕ) → (IsUtf8 text → ⊥) → is_utf8 text ≡ false
not_utf8 text none = by_test (is_utf8 text) refl
  where
    by_test : (b : Bool) → is_utf8 text ≡ b → is_utf8 text ≡ false
    by_test true h = absurd (none (IsUtf8-from_is_utf8 text h))
    by_test false h = h

no_text : (text : List ℕ) → is_utf8 text ≡ false → IsUtf8 text → ⊥
no_text text h utf8 = let is = is_utf8-from_IsUtf8 text utf8 in cc

-- the place just past the longest front of the bytes that is UTF-8
abbrev past_front : List ℕ → Place
past_front text = place_past start (chars (take (utf8_valid_len text) text))

reading-no_utf8 : (text : List ℕ) → is_utf8 text ≡ false → reading_of_text text ≡ IsNoModule E01 (past_front text)
unfolding reading_of_text
reading-no_utf8 text none = rw none refl

reading-utf8 : (text : List ℕ) → IsUtf8 text → reading_of_text text ≡ of_cutting (place_past start (chars text)) (cut 0 start 0 (chars text))
unfolding reading_of_text
reading-utf8 text utf8 = rw (is_utf8-from_IsUtf8 text utf8) refl

-- what a text is by how it is cut
reading-cut :
    (text : List ℕ) (tokens : List SpannedLexeme) (extent : Extent) → IsUtf8 text → IsCut start 0 (chars text) tokens extent
    → reading_of_text text ≡ of_extent (place_past start (chars text)) tokens extent
reading-cut text tokens extent utf8 is_cut =
    reading-utf8 text utf8 ∙ ap (of_cutting (place_past start (chars text))) (IsCut-cut is_cut)

refused_as :
    (text : List ℕ) (code : Code) (place : Place) → IsRefusedAs text code place
    → IsNoModule code place ≡ reading_of_text text
refused_as text E01 place h = ap (IsNoModule E01) h.1 ∙ sym (reading-no_utf8 text (not_utf8 text h.0))
refused_as text E02 place h = sym (reading-cut text h.1.0 (UpTo place) h.0 h.1.1)
refused_as text _ place h = absurd h

-- what has no tokens is no module
pub refused_is : (text : List ℕ) (diag : Diag) → IsRefused text diag → IsNoModule diag.code diag.place ≡ reading_of_text text
refused_is text diag refused = refused_as text diag.code diag.place refused

reading_is : (text : List ℕ) (reading : TextReading) → HasReading text reading → reading ≡ reading_of_text text
reading_is text reading (has_no_tokens diag refused) = refused_is text diag refused
reading_is text reading (has_tokens tokens of has read) =
    let end = place_past start (chars text) in
    let same = tokens_have_one_reading (without_spans tokens) end of (reading_of (without_spans tokens) end) read (tokens_read_as_they_are (without_spans tokens) end) in
    ap of_tokens same ∙ sym (reading-cut text tokens ToTheEnd has.0 has.1)

has_by_extent :
    (text : List ℕ) (tokens : List SpannedLexeme) (extent : Extent) → IsUtf8 text → IsCut start 0 (chars text) tokens extent
    → HasReading text (of_extent (place_past start (chars text)) tokens extent)
has_by_extent text tokens ToTheEnd utf8 is_cut =
    has_tokens tokens (reading_of (without_spans tokens) (place_past start (chars text))) (utf8, is_cut)
    (tokens_read_as_they_are (without_spans tokens) (place_past start (chars text)))
has_by_extent text tokens (UpTo place) utf8 is_cut =
    has_no_tokens (record { code = E02; place = place }) (utf8, (tokens, is_cut))

pub text_has_reading : (text : List ℕ) → HasReading text (reading_of_text text)
text_has_reading text = by_test (is_utf8 text) refl
  where
    by_test : (b : Bool) → is_utf8 text ≡ b → HasReading text (reading_of_text text)
    by_test true h =
        let utf8 = IsUtf8-from_is_utf8 text h in
        let cutting = cut 0 start 0 (chars text) in
        subst (HasReading text) (sym (reading-utf8 text utf8))
        (has_by_extent text cutting.tokens cutting.extent utf8 (cut-is start 0 (chars text)))
    by_test false h =
        subst (HasReading text) (sym (reading-no_utf8 text h))
        (has_no_tokens (record { code = E01; place = past_front text }) (no_text text h, refl))

pub text_has_one_reading : ATextHasOneReading
text_has_one_reading text reading =
    (reading_is text reading, λ e. subst (HasReading text) (sym e) (text_has_reading text))
