-- The worked fronts, by computation.
use Rattle.std.proofs.Common.{◌≡◌, Bool, true, false, filter, List, [], ◌∷◌, ◌++◌, codes, replicate, refl}
use Rattle.cc_lex.specs.declared.token.Word.TheVariants as words
use Rattle.cc_lex.specs.declared.token.Symbol.TheVariants as symbols
use Rattle.cc_lex.specs.Lexemes.{Lexeme, PlacedLexeme}
use Rattle.cc_grammar.specs.Reads.{BeginsLow, ModuleReading, TreeOf, SyntaxError, TooHigh, Reads}
use Rattle.cc_grammar.specs.Tests.{operation_named}
use Rattle.cc_grammar.specs.Reading.{word_at, symbol_at, name_at, placed_name_at, elements_at, caret_at, set_at, captures_at, written_at, one_part_at, shape_rule_at, named_at, paren_at, shape_start_at, shape_over, type_over, expr_rule_at, fun_at, expr_start_at, link_rule_at, operation_at, dot_at, link_at, next_link, links_at, expr_over, part_at, import_at, imports_at, def_rule_at, def_at, defs_at, module_at, reading_of}
use Rattle.cc_grammar.proofs.Readings.{tokens_read_as_they_are}
use Rattle.cc_wanted.specs.declared.kind.Kind.{Kind}
use Rattle.cc_wanted.specs.WantedTokens.{every_kind}
use Rattle.cc_wanted.specs.Trying.{end_tried, goes_on, goes_on_with}
use Rattle.cc_wanted.specs.WantedExamples.{word, symbol, name, x, y, m, d, one, in_line, Want, WorkedFronts}
use Rattle.cc_wanted.proofs.WantedKinds.{are-wanted}

-- `unfolding tokens_computing` lets `refl` compute what tokens are
unfoldable tokens_computing : Unit {0}
unfolding goes_on operation_named word_at symbol_at name_at placed_name_at elements_at caret_at set_at captures_at written_at one_part_at shape_rule_at named_at paren_at shape_start_at shape_over type_over expr_rule_at fun_at expr_start_at link_rule_at operation_at dot_at link_at next_link links_at expr_over part_at import_at imports_at def_rule_at def_at defs_at module_at reading_of
tokens_computing = tt

abbrev is_tree : ModuleReading → Bool
is_tree (TreeOf it) = true
is_tree (SyntaxError at) = false
is_tree (TooHigh at) = false

begins_low : (front more : List PlacedLexeme) (r : ModuleReading) → Reads (front ++ more) end_tried r → is_tree r ≡ true → BeginsLow front
begins_low front more (TreeOf it) (is, low) e = (more, it, is, low)
begins_low front more (SyntaxError at) reads e = cc
begins_low front more (TooHigh at) reads e = cc

-- a front with which this module begins, and the kinds that go on behind it
front_wants : (lexemes more : List Lexeme) (told : List Kind) → is_tree (reading_of (in_line 1 lexemes ++ in_line 200 more) end_tried) ≡ true → told ≡ filter (goes_on_with (in_line 1 lexemes)) every_kind → Want lexemes told
front_wants lexemes more told e f =
    are-wanted (in_line 1 lexemes) told (begins_low (in_line 1 lexemes) (in_line 200 more) (reading_of (in_line 1 lexemes ++ in_line 200 more) end_tried) (tokens_read_as_they_are (in_line 1 lexemes ++ in_line 200 more) end_tried) e) f

pub worked_fronts : WorkedFronts
unfolding tokens_computing
worked_fronts = record {
  nothing = front_wants [] [] _ refl refl;
  imported = front_wants (word words.Import ∷ m ∷ []) (symbol symbols.Dot ∷ d ∷ []) _ refl refl;
  imported_dot = front_wants (word words.Import ∷ m ∷ symbol symbols.Dot ∷ []) (d ∷ []) _ refl refl;
  imported_whole = front_wants (word words.Import ∷ m ∷ symbol symbols.Dot ∷ d ∷ []) [] _ refl refl;
  defined = front_wants (word words.Def ∷ []) (x ∷ symbol symbols.Equals ∷ one ∷ []) _ refl refl;
  named = front_wants (word words.Def ∷ x ∷ []) (symbol symbols.Equals ∷ one ∷ []) _ refl refl;
  own = front_wants (word words.Def ∷ word words.Rec ∷ name (codes "f") ∷ []) (symbol symbols.Colon ∷ word words.IntType ∷ symbol symbols.Equals ∷ one ∷ []) _ refl refl;
  equals = front_wants (word words.Def ∷ x ∷ symbol symbols.Equals ∷ []) (one ∷ []) _ refl refl;
  whole = front_wants (word words.Def ∷ x ∷ symbol symbols.Equals ∷ y ∷ []) [] _ refl refl;
  dot = front_wants (word words.Def ∷ x ∷ symbol symbols.Equals ∷ y ∷ symbol symbols.Dot ∷ []) (name (codes "read") ∷ symbol symbols.Open ∷ symbol symbols.Close ∷ []) _ refl refl;
  operation = front_wants (word words.Def ∷ x ∷ symbol symbols.Equals ∷ y ∷ symbol symbols.Dot ∷ name (codes "print") ∷ symbol symbols.Open ∷ []) (one ∷ symbol symbols.Close ∷ []) _ refl refl;
  reading = front_wants (word words.Def ∷ x ∷ symbol symbols.Equals ∷ y ∷ symbol symbols.Dot ∷ name (codes "read") ∷ symbol symbols.Open ∷ []) (symbol symbols.Close ∷ []) _ refl refl;
  compared = front_wants (word words.Def ∷ x ∷ symbol symbols.Equals ∷ one ∷ symbol symbols.Less ∷ one ∷ []) [] _ refl refl;
  function = front_wants (word words.Def ∷ x ∷ symbol symbols.Equals ∷ word words.Fun ∷ []) (symbol symbols.Open ∷ y ∷ symbol symbols.Colon ∷ word words.IntType ∷ symbol symbols.Close ∷ symbol symbols.DoubleArrow ∷ one ∷ []) _ refl refl;
  unboxed = front_wants (word words.Def ∷ x ∷ symbol symbols.Equals ∷ word words.Unbox ∷ []) (one ∷ []) _ refl refl;
  typed = front_wants (word words.Def ∷ x ∷ symbol symbols.Colon ∷ word words.IntType ∷ []) (symbol symbols.Equals ∷ one ∷ []) _ refl refl;
  caret = front_wants (word words.Def ∷ x ∷ symbol symbols.Colon ∷ word words.IntType ∷ symbol symbols.Caret ∷ []) (symbol symbols.Question ∷ symbol symbols.Equals ∷ one ∷ []) _ refl refl;
  set = front_wants (word words.Def ∷ x ∷ symbol symbols.Colon ∷ word words.IntType ∷ symbol symbols.Caret ∷ symbol symbols.OpenBrace ∷ []) (symbol symbols.CloseBrace ∷ symbol symbols.Equals ∷ one ∷ []) _ refl refl;
  parameter = front_wants (word words.Def ∷ x ∷ symbol symbols.Colon ∷ symbol symbols.Open ∷ y ∷ []) (symbol symbols.Close ∷ symbol symbols.Equals ∷ one ∷ []) _ refl refl;
  shape = front_wants (word words.Def ∷ x ∷ symbol symbols.Colon ∷ symbol symbols.Open ∷ []) (word words.IntType ∷ symbol symbols.Close ∷ symbol symbols.Equals ∷ one ∷ []) _ refl refl;
  deepest = front_wants (word words.Def ∷ x ∷ symbol symbols.Equals ∷ replicate 99 (symbol symbols.Open)) (one ∷ replicate 99 (symbol symbols.Close)) _ refl refl;
}
