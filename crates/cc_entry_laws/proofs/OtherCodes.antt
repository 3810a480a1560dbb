-- What is refused before definitions are judged has other codes.
use Rattle.std.proofs.Common.{◌≡◌, ℕ, Bool, true, false, List, [], ◌∷◌, take, Option, Some, None, cond, refl, sym, ap, subst}
use Rattle.std.specs.Str.{chars, is_utf8}
use Rattle.std.specs.Str.Lossy.{utf8_valid_len}
use Rattle.cc_base.specs.declared.code.Code.{Code}
use Rattle.cc_base.specs.declared.code.Code.TheVariants.{E01, E02, E03, E04, E05, E06, E07, E08, E09, E10, E11, E12, E19}
use Rattle.cc_base.specs.declared.place.Place.{Place}
use Rattle.cc_grammar.specs.Reading.{reading_of}
use Rattle.cc_grammar.specs.Reads.{ModuleReading, TreeOf, SyntaxError, TooHigh}
use Rattle.cc_grammar.specs.Syntax.{ImportSyntax}
use Rattle.cc_lex.specs.Cutting.{Cutting, cut}
use Rattle.cc_lex.specs.Lexical.{SpannedLexeme, Extent, ToTheEnd, UpTo, start, place_past, without_spans}
use Rattle.cc_mnf.specs.ElaborationLaws.{IsCodeOfElaboration}
use Rattle.cc_verdicts.specs.ModuleVerdicts.{Finding, FoundDefinition, NoModule, InCycle, RefusedModule, NoDefinition}
use Rattle.cc_verdicts.specs.ModuleVerdicts.{Refusal, code_of, missing_or, first_missing}
use Rattle.cc_verdicts.specs.Readings.{IsNoModule, HasReading, of_tokens, of_extent, of_cutting}
use Rattle.cc_verdicts.specs.Readings.{reading_of_text}
use Rattle.cc_verdicts.proofs.ReadingLaws.{text_has_one_reading}
use Rattle.cc_entry_laws.specs.PresentFiles.{IsCodeOfDefinition}

-- the code is none of a definition's
abbrev IsOther : Code → Type 0
IsOther code = IsCodeOfDefinition code → ⊥

-- ---- texts that are no modules
same_code : (code other : Code) (at there : Place) → IsNoModule code at ≡ IsNoModule other there → code ≡ other
same_code code other at there same = cc

other_code : (code other : Code) (at there : Place) → IsNoModule other there ≡ IsNoModule code at → IsOther other
    → IsOther code
other_code code other at there same is = subst IsOther (same_code other code there at same) is

tokens_other : (reading : ModuleReading) (code : Code) (at : Place) → of_tokens reading ≡ IsNoModule code at
    → IsOther code
tokens_other (TreeOf tree) code at same = cc
tokens_other (SyntaxError there) code at same = other_code code E03 at there same (λ none. none)
tokens_other (TooHigh there) code at same = other_code code E04 at there same (λ none. none)

extent_other : (end : Place) (tokens : List SpannedLexeme) (extent : Extent) (code : Code) (at : Place)
    → of_extent end tokens extent ≡ IsNoModule code at → IsOther code
extent_other end tokens (UpTo place) code at same = other_code code E02 at place same (λ none. none)
extent_other end tokens ToTheEnd code at same = tokens_other (reading_of (without_spans tokens) end) code at same

text_other : (b : Bool) (end there : Place) (cutting : Cutting) (code : Code) (at : Place)
    → cond b (of_cutting end cutting) (IsNoModule E01 there) ≡ IsNoModule code at → IsOther code
text_other true end there cutting code at same = extent_other end cutting.tokens cutting.extent code at same
text_other false end there cutting code at same = other_code code E01 at there same (λ none. none)

pub no_module_other : (text : List ℕ) (code : Code) (at : Place) → HasReading text (IsNoModule code at) → IsOther code
unfolding reading_of_text
no_module_other text code at reading =
    text_other (is_utf8 text) (place_past start (chars text))
    (place_past start (chars (take (utf8_valid_len text) text))) (cut 0 start 0 (chars text)) code at
    (sym ((text_has_one_reading text (IsNoModule code at)).0 reading))

-- ---- imports
some_other : (code other : Code) → Some other ≡ Some code → IsOther other → IsOther code
some_other code other same is =
    let codes : other ≡ code = cc in subst IsOther codes is

finding_other : (finding : Finding) (code : Code) → code_of finding ≡ Some code → IsOther code
finding_other (FoundDefinition signature) code same = cc
finding_other NoModule code same = some_other code E05 same (λ none. none)
finding_other InCycle code same = some_other code E08 same (λ none. none)
finding_other RefusedModule code same = some_other code E07 same (λ none. none)
finding_other NoDefinition code same = some_other code E06 same (λ none. none)

same_missing : (code : Code) (at : Place) (missing : Refusal)
    → ◌≡◌ {A = Option Refusal} (Some (record { code = code; at = at })) (Some missing) → code ≡ missing.code
same_missing code at missing same =
    let whole : record { code = code; at = at } ≡ missing = cc in ap (λ (r : Refusal). r.code) whole

missing_by : (at : Place) (finding : Finding) (found : Option Code) (others : Option Refusal) (missing : Refusal)
    → code_of finding ≡ found → missing_or at found others ≡ Some missing
    → (others ≡ Some missing → IsOther missing.code) → IsOther missing.code
missing_by at finding (Some code) others missing is same rest =
    subst IsOther (same_missing code at missing same) (finding_other finding code is)
missing_by at finding None others missing is same rest = rest same

pub missing_other : (imports : List ImportSyntax) (findings : List Finding) (missing : Refusal)
    → first_missing imports findings ≡ Some missing → IsOther missing.code
missing_other [] findings missing same = cc
missing_other (first ∷ rest) [] missing same = cc
missing_other (first ∷ rest) (finding ∷ findings) missing same =
    missing_by first.at finding (code_of finding) (first_missing rest findings) missing refl same
    (missing_other rest findings missing)

-- ---- names and normal form
pub elaboration_other : (code : Code) → IsCodeOfElaboration code → IsOther code
elaboration_other E09 h = λ none. none
elaboration_other E10 h = λ none. none
elaboration_other E11 h = λ none. none
elaboration_other E12 h = λ none. none
elaboration_other E19 h = λ none. none
elaboration_other _ h = absurd h
