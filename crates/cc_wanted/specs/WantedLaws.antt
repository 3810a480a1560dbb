-- What is found by trying is what is wanted.
use Rattle.std.specs.Prelude.{List, filter}
use Rattle.cc_lex.specs.Lexemes.{PlacedLexeme}
use Rattle.cc_grammar.specs.Reads.{BeginsLow}
use Rattle.cc_wanted.specs.WantedTokens.{every_kind, AreWanted}
use Rattle.cc_wanted.specs.Trying.{goes_on_with}

-- Behind each front with which modules without a tree that is too high begin, as that of each refusal, the kinds that are
-- found by trying are wanted.
abbrev pub KindsFoundByTryingAreWanted : Type 0
KindsFoundByTryingAreWanted =
    (front : List PlacedLexeme) → BeginsLow front → AreWanted front (filter (goes_on_with front) every_kind)
