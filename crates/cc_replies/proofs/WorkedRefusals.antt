-- The worked refusals, by computation.
use Rattle.std.proofs.Common.{◌≡◌, ℕ, true, false, List, [], ◌∷◌, ◌++◌, refl, codes, if◌then◌else◌}
use Rattle.std.specs.Fmt.{digits}
use Rattle.std.specs.List.{flat_map}
use Rattle.std.specs.Str.{bytes_eq, chars, is_utf8}
use Rattle.std.specs.Str.Lossy.{utf8_valid_len}
use Rattle.unicode_ident.proofs.Computing.{unicode_ident}
use lib.Utf8.{encode}
use Rattle.cc_base.specs.declared.code.Code.TheVariants.{E03, E07, E08, E30, E31, E32, E34}
use Rattle.cc_base.specs.declared.place.Place.{Place}
use Rattle.cc_graph.specs.Graph.{does_import, reaches}
use Rattle.cc_grammar.specs.Syntax.{ModuleSyntax}
use Rattle.cc_grammar.specs.Tests.{operation_named}
use Rattle.cc_grammar.specs.Reading.{reading_of, module_at, imports_at, import_at, defs_at, def_at, def_rule_at, part_at, expr_over, links_at, next_link, link_at, dot_at, operation_at, link_rule_at, expr_start_at, fun_at, expr_rule_at, type_over, shape_over, shape_start_at, paren_at, named_at, shape_rule_at, one_part_at, written_at, captures_at, set_at, caret_at, elements_at, name_at, placed_name_at, symbol_at, word_at}
use Rattle.cc_lex.specs.Cutting.{word_of, short_symbol, pair_symbol, front_of, blank_of, token_of, number_of}
use Rattle.cc_verdicts.specs.ModuleVerdicts.{ModuleVerdict, IsAccepted, IsRefused, import_is_missing}
use Rattle.cc_verdicts.specs.PresentTexts.{Texts, graph_of, finding_for, AreVerdicts}
use Rattle.cc_verdicts.specs.Readings.{IsTree, IsNoModule, reading_of_text}
use Rattle.cc_replies.specs.ReplyTexts.{PutDone, PutRefused, DropRefused, SignaturesRefused, line}
use Rattle.cc_replies.specs.Replies.{check_reply}
use Rattle.cc_replies.specs.RefusalExamples as example
use Rattle.cc_replies.proofs.WorkedTexts.{HasItsVerdict, are_verdicts, none_present, tree_of, no_module}

pub long_text_is_refused : example.LongTextIsRefused
unfolding encode
long_text_is_refused = (PutRefused example.m E30, [], false, refl, (refl, refl), refl, refl)

pub longest_text_is_put : example.LongestTextIsPut
unfolding encode
longest_text_is_put = (PutDone example.m, [], false, refl, (refl, refl), refl, refl)

pub module_too_many_is_refused : example.ModuleTooManyIsRefused
unfolding encode
module_too_many_is_refused = (PutRefused example.m E31, [], false, refl, (refl, refl), refl, refl)

pub last_module_is_put : example.LastModuleIsPut
unfolding encode
last_module_is_put = (PutDone example.m, [], false, refl, (refl, refl), refl, refl)

pub absent_is_not_dropped : example.AbsentIsNotDropped
unfolding encode
absent_is_not_dropped = (DropRefused example.m E32, [], false, refl, (refl, refl), refl, refl)

abbrev all_accepted : List ℕ → ModuleVerdict
all_accepted name = IsAccepted []

pub absent_has_no_signature : example.AbsentHasNoSignature
unfolding encode
absent_has_no_signature =
    (SignaturesRefused example.m E32, [], false, (all_accepted, none_present [] all_accepted, refl), (refl, refl), refl, refl)

pub nothing_is_refused : example.NothingIsRefused
nothing_is_refused =
    (check_reply [] all_accepted, [], false, (all_accepted, none_present [] all_accepted, refl), (refl, refl), refl, refl)

-- a place by its line and its column
abbrev place : ℕ → ℕ → Place
place row column = record { line = row; col = column }

abbrev no_verdict : List ℕ → ModuleVerdict
no_verdict name = IsRefused E03 (place 1 11)

reads_no_module : IsNoModule E03 (place 1 11) ≡ reading_of_text (codes "def f = 1 2")
unfolding reading_of_text word_of short_symbol pair_symbol front_of blank_of token_of number_of unicode_ident encode is_utf8 utf8_valid_len chars reading_of module_at imports_at import_at defs_at def_at def_rule_at part_at expr_over links_at next_link link_at dot_at operation_at link_rule_at expr_start_at fun_at expr_rule_at type_over shape_over shape_start_at paren_at named_at shape_rule_at one_part_at written_at captures_at set_at caret_at elements_at name_at placed_name_at symbol_at word_at operation_named
reads_no_module = refl

no_module_refused : AreVerdicts [] example.no_module no_verdict
no_module_refused =
    are_verdicts [] example.no_module no_verdict
    (no_module [] (codes "def f = 1 2") _ E03 (place 1 11) reads_no_module, tt)

pub no_module_is_refused : example.NoModuleIsRefused
unfolding encode digits
no_module_is_refused =
    (check_reply example.no_module no_verdict, [], false, (no_verdict, no_module_refused, refl), (refl, refl), refl, refl)

pub refused_has_no_signature : example.RefusedHasNoSignature
unfolding encode
refused_has_no_signature =
    (SignaturesRefused example.m E34, [], false, (no_verdict, no_module_refused, refl), (refl, refl), refl, refl)

-- a text with this import alone
abbrev importing : List ℕ → List ℕ → ModuleSyntax
importing source name = record {
  imports = record { source = source; at = place 1 8; name = name; name_at = place 1 10 } ∷ [];
  defs = [];
}

imports_b : IsTree (importing (codes "b") (codes "g")) ≡ reading_of_text (codes "import b.g")
unfolding reading_of_text word_of short_symbol pair_symbol front_of blank_of token_of number_of unicode_ident encode is_utf8 utf8_valid_len chars reading_of module_at imports_at import_at defs_at def_at def_rule_at one_part_at name_at placed_name_at symbol_at word_at
imports_b = refl

imports_a : IsTree (importing (codes "a") (codes "f")) ≡ reading_of_text (codes "import a.f")
unfolding reading_of_text word_of short_symbol pair_symbol front_of blank_of token_of number_of unicode_ident encode is_utf8 utf8_valid_len chars reading_of module_at imports_at import_at defs_at def_at def_rule_at one_part_at name_at placed_name_at symbol_at word_at
imports_a = refl

imports_c : IsTree (importing (codes "c") (codes "f")) ≡ reading_of_text (codes "import c.f")
unfolding reading_of_text word_of short_symbol pair_symbol front_of blank_of token_of number_of unicode_ident encode is_utf8 utf8_valid_len chars reading_of module_at imports_at import_at defs_at def_at def_rule_at one_part_at name_at placed_name_at symbol_at word_at
imports_c = refl

abbrev cycle_verdicts : List ℕ → ModuleVerdict
cycle_verdicts name = if bytes_eq name (codes "d") then IsRefused E07 (place 1 8) else IsRefused E08 (place 1 8)

cycle_refused : AreVerdicts [] example.cycle cycle_verdicts
unfolding reading_of_text word_of short_symbol pair_symbol front_of blank_of token_of number_of unicode_ident encode is_utf8 utf8_valid_len chars reading_of module_at imports_at import_at defs_at def_at def_rule_at one_part_at name_at placed_name_at symbol_at word_at graph_of finding_for reaches does_import
cycle_refused =
    are_verdicts [] example.cycle cycle_verdicts (
      import_is_missing (tree_of (codes "import b.g") (importing (codes "b") (codes "g")) imports_b) refl,
      (
        import_is_missing (tree_of (codes "import a.f") (importing (codes "a") (codes "f")) imports_a) refl,
        (
          import_is_missing (tree_of (codes "import c.f") (importing (codes "c") (codes "f")) imports_c) refl,
          (import_is_missing (tree_of (codes "import a.f") (importing (codes "a") (codes "f")) imports_a) refl, tt),
        ),
      ),
    )

pub cycles_are_refused : example.CyclesAreRefused
unfolding encode digits
cycles_are_refused =
    (check_reply example.cycle cycle_verdicts, [], false, (cycle_verdicts, cycle_refused, refl), (refl, refl), refl, refl)

-- import a.f
-- import x.f
abbrev two_imports : ModuleSyntax
two_imports = record {
  imports =
      record { source = codes "a"; at = place 1 8; name = codes "f"; name_at = place 1 10 }
      ∷ record { source = codes "x"; at = place 2 8; name = codes "f"; name_at = place 2 10 }
      ∷ [];
  defs = [];
}

abbrev two_lines : List ℕ
two_lines = codes "import a.f" ++ 10 ∷ codes "import x.f"

reads_two_imports : IsTree two_imports ≡ reading_of_text two_lines
unfolding reading_of_text word_of short_symbol pair_symbol front_of blank_of token_of number_of unicode_ident encode is_utf8 utf8_valid_len chars reading_of module_at imports_at import_at defs_at def_at def_rule_at one_part_at name_at placed_name_at symbol_at word_at
reads_two_imports = refl

abbrev two_verdicts : List ℕ → ModuleVerdict
two_verdicts name = if bytes_eq name (codes "a") then IsRefused E03 (place 1 11) else IsRefused E07 (place 1 8)

two_refused : AreVerdicts [] example.two_imports two_verdicts
unfolding reading_of_text word_of short_symbol pair_symbol front_of blank_of token_of number_of unicode_ident encode is_utf8 utf8_valid_len chars reading_of module_at imports_at import_at defs_at def_at def_rule_at part_at expr_over links_at next_link link_at dot_at operation_at link_rule_at expr_start_at fun_at expr_rule_at type_over shape_over shape_start_at paren_at named_at shape_rule_at one_part_at written_at captures_at set_at caret_at elements_at name_at placed_name_at symbol_at word_at operation_named graph_of finding_for reaches does_import
two_refused =
    are_verdicts [] example.two_imports two_verdicts (
      no_module [] (codes "def f = 1 2") _ E03 (place 1 11) reads_no_module,
      (import_is_missing (tree_of two_lines two_imports reads_two_imports) refl, tt),
    )

pub refused_before_absent : example.RefusedBeforeAbsent
unfolding encode digits
refused_before_absent =
    (check_reply example.two_imports two_verdicts, [], false, (two_verdicts, two_refused, refl), (refl, refl), refl, refl)
