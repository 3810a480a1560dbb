-- Worked reasons of texts of which a token is not wanted, by computation.
use Rattle.std.proofs.Common.{◌≡◌, ◌∙◌, ℕ, Bool, true, false, pos, filter, List, [], ◌∷◌, ◌++◌, codes, refl, sym, subst, append_assoc}
use Rattle.std.specs.Str.{chars, is_utf8}
use Rattle.std.proofs.lemmas.List.{append-nil}
use Rattle.std.proofs.lemmas.Str.{IsUtf8-from_is_utf8}
use lib.Utf8.{encode}
use Rattle.cc_base.specs.declared.place.Place.{Place}
use Rattle.cc_lex.specs.declared.token.Word.TheVariants as words
use Rattle.cc_lex.specs.declared.token.Symbol.TheVariants as symbols
use Rattle.cc_lex.specs.Lexemes.{Lexeme, NameLexeme, NumberLexeme, WordLexeme, SymbolLexeme, PlacedLexeme}
use Rattle.cc_lex.specs.Lexical.{ToTheEnd, start, place_past, without_spans, IsCut, HasTokens}
use Rattle.cc_lex.specs.Cutting.{cut, front_of, blank_of, token_of}
use Rattle.cc_lex.proofs.CuttingLaws.{cut-is}
use Rattle.cc_grammar.specs.Grammar.{IsModule}
use Rattle.cc_grammar.specs.Reads.{BeginsLow, NoneGoesOn, place_of, ModuleReading, TreeOf, SyntaxError, TooHigh, Reads}
use Rattle.cc_grammar.specs.Reading.{reading_of}
use Rattle.cc_grammar.specs.Syntax.{ModuleSyntax}
use Rattle.cc_grammar.proofs.Readings.{tokens_read_as_they_are}
use Rattle.cc_text_reasons.specs.TextReasons.{Unwanted, first_of, HasTextReason, is_unwanted}
use Rattle.cc_wanted.specs.declared.kind.Kind.{Kind}
use Rattle.cc_wanted.specs.declared.kind.Kind.TheVariants as kinds
use Rattle.cc_wanted.specs.Trying.{end_tried, goes_on, goes_on_with}
use Rattle.cc_wanted.specs.WantedTokens.{IsOfKind, every_kind}
use Rattle.cc_wanted.proofs.WantedKinds.{goes_on_with-is, are-wanted}
use Rattle.cc_worked_texts.specs.TextVerdicts.{place}
use Rattle.cc_worked_texts.proofs.ComputedModules.{letters_computing}
use Rattle.cc_worked_module_reasons.specs.TextReasonRows as example

abbrev is_tree : ModuleReading → Bool
is_tree (TreeOf it) = true
is_tree (SyntaxError at) = false
is_tree (TooHigh at) = false

abbrev is_error : ModuleReading → Bool
is_error (TreeOf it) = false
is_error (SyntaxError at) = true
is_error (TooHigh at) = false

-- a front with which a module begins
begins_low : (front more : List PlacedLexeme) (r : ModuleReading) → Reads (front ++ more) end_tried r → is_tree r ≡ true → BeginsLow front
begins_low front more (TreeOf it) (is, low) e = (more, it, is, low)
begins_low front more (SyntaxError at) reads e = cc
begins_low front more (TooHigh at) reads e = cc

-- no token of the kind goes on
none_next : (front : List PlacedLexeme) (next : PlacedLexeme) (rest : List PlacedLexeme) (kind : Kind) → BeginsLow front → IsOfKind kind next.lexeme
    → goes_on_with front kind ≡ false → NoneGoesOn front (next ∷ rest)
none_next front next rest kind low of none begins =
    let yes : goes_on_with front kind ≡ true = (goes_on_with-is front kind low).1 (next, of, begins) in
    cc

no_module : (front part rest : List PlacedLexeme) → front ≡ part ++ rest → NoneGoesOn part rest → (it : ModuleSyntax) → IsModule front it → ⊥
no_module front part [] is none it holds = none it (subst (λ tokens. IsModule tokens it) (is ∙ append-nil part) holds)
no_module front part (next ∷ rest) is none it holds =
    none (rest, it, subst (λ tokens. IsModule tokens it) (is ∙ sym (append_assoc part (next ∷ []) rest)) holds)

-- the front is no module
none_behind : (front : List PlacedLexeme) (r : ModuleReading) → Reads front end_tried r → is_error r ≡ true → NoneGoesOn front []
none_behind front (TreeOf it) reads e = cc
none_behind front (SyntaxError at) (part, rest, is, there, low, none) e = no_module front part rest is none
none_behind front (TooHigh at) reads e = cc

-- The text has these tokens, of which the front begins modules, and these kinds go on behind it.
unwanted : (text : List ℕ) (front more rest : List PlacedLexeme) (wanted : List Kind) (at : Place) → is_utf8 text ≡ true
    → (cut 0 start 0 (chars text)).extent ≡ ToTheEnd → without_spans (cut 0 start 0 (chars text)).tokens ≡ front ++ rest
    → is_tree (reading_of (front ++ more) end_tried) ≡ true → wanted ≡ filter (goes_on_with front) every_kind
    → (BeginsLow front → NoneGoesOn front rest) → place_of rest (place_past start (chars text)) ≡ at
    → HasTextReason text (Unwanted (first_of rest) wanted) at
unwanted text front more rest wanted at utf8 all is tree wants none there =
    let low : BeginsLow front = begins_low front more (reading_of (front ++ more) end_tried) (tokens_read_as_they_are (front ++ more) end_tried) tree in
    let has : HasTokens text (cut 0 start 0 (chars text)).tokens =
    (IsUtf8-from_is_utf8 text utf8, subst (λ extent. IsCut start 0 (chars text) (cut 0 start 0 (chars text)).tokens extent) all (cut-is start 0 (chars text))) in
    subst (λ p. HasTextReason text (Unwanted (first_of rest) wanted) p) there
    (is_unwanted (cut 0 start 0 (chars text)).tokens front rest wanted has is low (none low) (are-wanted front wanted low wants))

-- a token in the first line
abbrev token : Lexeme → ℕ → PlacedLexeme
token lexeme column = record { lexeme = lexeme; at = place 1 column }

-- the front of a definition, and one that goes on behind it
abbrev word_def : List PlacedLexeme
word_def = token (WordLexeme words.Def) 1 ∷ []

abbrev name_and_number : List PlacedLexeme
name_and_number = token (NameLexeme (codes "x")) 5 ∷ token (SymbolLexeme symbols.Equals) 7 ∷ token (NumberLexeme (pos 1)) 9 ∷ []

-- the front of an import
abbrev import_m : List PlacedLexeme
import_m = token (WordLexeme words.Import) 1 ∷ token (NameLexeme (codes "m")) 8 ∷ []

-- a definition
abbrev whole_a : List PlacedLexeme
whole_a =
    token (WordLexeme words.Def) 1 ∷ token (NameLexeme (codes "a")) 5 ∷ token (SymbolLexeme symbols.Equals) 7
    ∷ token (NumberLexeme (pos 1)) 9 ∷ []

pub unwanted_tokens : example.UnwantedTokens
unfolding letters_computing front_of blank_of token_of goes_on encode
unwanted_tokens = record {
  end_for_a_name =
      unwanted (codes "def") word_def name_and_number [] _ (place 1 4) refl refl refl refl refl
      (λ low. none_behind word_def (reading_of word_def end_tried) (tokens_read_as_they_are word_def end_tried) refl) refl;
  end_for_a_dot =
      unwanted (codes "import m") import_m (token (SymbolLexeme symbols.Dot) 9 ∷ token (NameLexeme (codes "d")) 10 ∷ []) [] _ (place 1 9) refl refl refl refl refl
      (λ low. none_behind import_m (reading_of import_m end_tried) (tokens_read_as_they_are import_m end_tried) refl) refl;
  number_for_a_name =
      unwanted (codes "def 1 = 2") word_def name_and_number
      (token (NumberLexeme (pos 1)) 5 ∷ token (SymbolLexeme symbols.Equals) 7 ∷ token (NumberLexeme (pos 2)) 9 ∷ []) _ (place 1 5)
      refl refl refl refl refl
      (λ low. none_next word_def (token (NumberLexeme (pos 1)) 5)
      (token (SymbolLexeme symbols.Equals) 7 ∷ token (NumberLexeme (pos 2)) 9 ∷ []) kinds.Number low tt refl) refl;
  no_beginning =
      unwanted (codes "= 1") [] [] (token (SymbolLexeme symbols.Equals) 1 ∷ token (NumberLexeme (pos 1)) 3 ∷ []) _ (place 1 1)
      refl refl refl refl refl
      (λ low. none_next [] (token (SymbolLexeme symbols.Equals) 1) (token (NumberLexeme (pos 1)) 3 ∷ []) (kinds.Symbol symbols.Equals) low refl refl) refl;
  import_behind_a_definition =
      unwanted (codes "def a = 1 import") whole_a [] (token (WordLexeme words.Import) 11 ∷ []) _ (place 1 11)
      refl refl refl refl refl
      (λ low. none_next whole_a (token (WordLexeme words.Import) 11) [] (kinds.Word words.Import) low refl refl) refl;
}
