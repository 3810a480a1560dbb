-- How many modules are stale in the worked jobs, by computation.
use Rattle.std.proofs.Common.{◌≡◌, ℕ, List, [], ◌∷◌, refl, codes}
use Rattle.std.specs.Str.{chars, is_utf8}
use lib.Utf8.{encode}
use Rattle.cc_grammar.specs.Syntax.{ModuleSyntax}
use Rattle.cc_grammar.specs.Reading.{reading_of, module_at, imports_at, import_at, defs_at, def_at, def_rule_at, one_part_at, name_at, placed_name_at, symbol_at, word_at}
use Rattle.cc_judge.specs.Judgements.{Judgement, judgements}
use Rattle.cc_lex.specs.Cutting.{word_of, short_symbol, pair_symbol, front_of, blank_of, token_of, number_of}
use Rattle.cc_verdicts.specs.ModuleVerdicts.{ModuleVerdict, IsAccepted, HasModuleVerdict, is_judged, no_more}
use Rattle.cc_verdicts.specs.PresentTexts.{Texts, AreVerdicts}
use Rattle.cc_verdicts.specs.Readings.{IsTree, reading_of_text}
use Rattle.cc_mnf.specs.Elaboration.{elaborated}
use Rattle.cc_mnf.specs.ElaboratedModules.{IsElaborated, elaboration, device_names}
use Rattle.cc_mnf.specs.Steps.{followed, gives, refuses, new_hole, with_own_holes}
use Rattle.cc_replies.specs.StaleExamples as example
use Rattle.cc_replies.proofs.WorkedTexts.{are_verdicts, none_present, tree_of}

pub puts_find_none_stale : example.PutsFindNoneStale
puts_find_none_stale devices texts last name text = (refl, refl)

pub drops_find_none_stale : example.DropsFindNoneStale
drops_find_none_stale devices texts last name = (refl, refl)

pub policies_find_none_stale : example.PoliciesFindNoneStale
policies_find_none_stale devices texts last rules = (refl, refl)

pub certificates_find_none_stale : example.CertificatesFindNoneStale
certificates_find_none_stale devices texts last text = (refl, refl)

-- a module with nothing in it
abbrev nothing : ModuleSyntax
nothing = record { imports = []; defs = [] }

reads_empty : IsTree nothing ≡ reading_of_text []
unfolding reading_of_text word_of short_symbol pair_symbol front_of blank_of token_of number_of is_utf8 chars reading_of module_at imports_at import_at defs_at def_at def_rule_at one_part_at name_at placed_name_at symbol_at word_at
reads_empty = refl

reads_blank : IsTree nothing ≡ reading_of_text (codes " ")
unfolding reading_of_text word_of short_symbol pair_symbol front_of blank_of token_of number_of encode is_utf8 chars reading_of module_at imports_at import_at defs_at def_at def_rule_at one_part_at name_at placed_name_at symbol_at word_at
reads_blank = refl

elaborates : elaboration (device_names []) nothing ≡ IsElaborated (record { imports = []; definitions = [] })
unfolding followed gives refuses new_hole with_own_holes elaborated elaboration
elaborates = refl

nothing_accepted : (text : List ℕ) → IsTree nothing ≡ reading_of_text text → HasModuleVerdict [] text [] (IsAccepted [])
nothing_accepted text reads = is_judged (tree_of text nothing reads) refl elaborates no_more

abbrev all_accepted : List ℕ → ModuleVerdict
all_accepted name = IsAccepted []

abbrev only : List ℕ → Texts
only text = (example.m, text) ∷ []

abbrev judged : List ℕ → List Judgement
judged text = judgements (only text) all_accepted

empty_accepted : AreVerdicts [] (only []) all_accepted
unfolding reading_of_text word_of short_symbol pair_symbol front_of blank_of token_of number_of is_utf8 chars reading_of module_at imports_at import_at defs_at def_at def_rule_at one_part_at name_at placed_name_at symbol_at word_at
empty_accepted = are_verdicts [] (only []) all_accepted (nothing_accepted [] reads_empty, tt)

blank_accepted : AreVerdicts [] (only (codes " ")) all_accepted
unfolding reading_of_text word_of short_symbol pair_symbol front_of blank_of token_of number_of encode is_utf8 chars reading_of module_at imports_at import_at defs_at def_at def_rule_at one_part_at name_at placed_name_at symbol_at word_at
blank_accepted = are_verdicts [] (only (codes " ")) all_accepted (nothing_accepted (codes " ") reads_blank, tt)

pub two_of_four_checks : example.TwoOfFourChecks
unfolding reading_of_text word_of short_symbol pair_symbol front_of blank_of token_of number_of encode is_utf8 chars reading_of module_at imports_at import_at defs_at def_at def_rule_at one_part_at name_at placed_name_at symbol_at word_at
two_of_four_checks =
    let empty = judged [] in (
      0,
      [],
      2,
      (refl, refl),
      (
        1,
        empty,
        1,
        (all_accepted, empty_accepted, refl, refl),
        (
          0,
          empty,
          1,
          (all_accepted, empty_accepted, refl, refl),
          (
            0,
            empty,
            1,
            (refl, refl),
            (
              0,
              empty,
              1,
              (all_accepted, empty_accepted, refl, refl),
              (
                0,
                empty,
                1,
                (refl, refl),
                (1, judged (codes " "), 0, (all_accepted, blank_accepted, refl, refl), refl, refl),
                refl,
              ),
              refl,
            ),
            refl,
          ),
          refl,
        ),
        refl,
      ),
      refl,
    )

pub put_again_before_a_check : example.PutAgainBeforeACheck
unfolding reading_of_text word_of short_symbol pair_symbol front_of blank_of token_of number_of encode is_utf8 chars reading_of module_at imports_at import_at defs_at def_at def_rule_at one_part_at name_at placed_name_at symbol_at word_at
put_again_before_a_check =
    let empty = judged [] in (
      0,
      [],
      1,
      (refl, refl),
      (
        1,
        empty,
        0,
        (all_accepted, empty_accepted, refl, refl),
        (
          0,
          empty,
          0,
          (refl, refl),
          (0, empty, 0, (refl, refl), (0, empty, 0, (all_accepted, empty_accepted, refl, refl), refl, refl), refl),
          refl,
        ),
        refl,
      ),
      refl,
    )

pub put_again_behind_a_check : example.PutAgainBehindACheck
unfolding reading_of_text word_of short_symbol pair_symbol front_of blank_of token_of number_of encode is_utf8 chars reading_of module_at imports_at import_at defs_at def_at def_rule_at one_part_at name_at placed_name_at symbol_at word_at
put_again_behind_a_check =
    let empty = judged [] in (
      0,
      [],
      2,
      (refl, refl),
      (
        1,
        empty,
        1,
        (all_accepted, empty_accepted, refl, refl),
        (
          0,
          empty,
          1,
          (refl, refl),
          (
            0,
            [],
            1,
            (all_accepted, none_present [] all_accepted, refl, refl),
            (0, [], 1, (refl, refl), (1, empty, 0, (all_accepted, empty_accepted, refl, refl), refl, refl), refl),
            refl,
          ),
          refl,
        ),
        refl,
      ),
      refl,
    )

pub audits_and_guards_check : example.AuditsAndGuardsCheck
unfolding reading_of_text word_of short_symbol pair_symbol front_of blank_of token_of number_of encode is_utf8 chars reading_of module_at imports_at import_at defs_at def_at def_rule_at one_part_at name_at placed_name_at symbol_at word_at
audits_and_guards_check =
    let empty = judged [] in
    let blank = judged (codes " ") in (
      0,
      [],
      2,
      (refl, refl),
      (
        0,
        [],
        2,
        (refl, refl),
        (
          1,
          empty,
          1,
          (all_accepted, empty_accepted, refl, refl),
          (
            0,
            empty,
            1,
            (refl, refl),
            (
              1,
              blank,
              0,
              (all_accepted, blank_accepted, refl, refl),
              (0, blank, 0, (all_accepted, blank_accepted, refl, refl), refl, refl),
              refl,
            ),
            refl,
          ),
          refl,
        ),
        refl,
      ),
      refl,
    )
