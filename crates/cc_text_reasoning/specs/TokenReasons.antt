-- Why tokens are those of no module.
use Rattle.std.specs.Prelude.{◌≡◌, List, ◌++◌, Some}
use Rattle.cc_base.specs.declared.code.Diag.{Diag}
use Rattle.cc_base.specs.declared.place.Place.{Place}
use Rattle.cc_lex.specs.Lexemes.{PlacedLexeme}
use Rattle.cc_grammar.specs.Syntax.{ModuleSyntax}
use Rattle.cc_grammar.specs.Reads.{ModuleReading, TreeOf, Reads, BeginsLow, NoneGoesOn, OnlyHighGoOn, place_of}
use Rattle.cc_parse.specs.Answers.{refusal_of}
use Rattle.cc_text_reasons.specs.TextReasons.{TextReason, Unwanted, TooHigh, first_of}
use Rattle.cc_wanted.specs.declared.kind.Kind.{Kind}
use Rattle.cc_wanted.specs.WantedTokens.{AreWanted}

-- the tokens, behind which the text ends there, are those of a tree
abbrev pub HaveATree : List PlacedLexeme → Place → Type 0
HaveATree tokens end = (tree : ModuleSyntax) × Reads tokens end (TreeOf tree)

-- or they are refused so
abbrev pub AreRefused : List PlacedLexeme → Place → Diag → Type 0
AreRefused tokens end refusal = (reading : ModuleReading) × Reads tokens end reading × (refusal_of reading ≡ Some refusal)

-- They are those of no module for this reason, at this place.
pub data HaveReason (tokens : List PlacedLexeme) (end : Place) : TextReason → Place → Type 0 where
  are_unwanted : (front rest : List PlacedLexeme) (wanted : List Kind) → tokens ≡ front ++ rest → BeginsLow front
      → NoneGoesOn front rest → AreWanted front wanted
      → HaveReason tokens end (Unwanted (first_of rest) wanted) (place_of rest end)
  are_too_high : (front rest : List PlacedLexeme) → tokens ≡ front ++ rest → BeginsLow front → OnlyHighGoOn front rest
      → HaveReason tokens end TooHigh (place_of rest end)
