-- Whole runs of texts, by computation.
use Rattle.std.proofs.Common.{refl}
use Rattle.std.specs.Int.{int_wrap}
use Rattle.std.specs.Str.{chars, is_utf8}
use Rattle.std.specs.Str.Lossy.{utf8_valid_len}
use Rattle.unicode_ident.proofs.Computing.{unicode_ident}
use lib.Utf8.{encode}
use Rattle.cc_capture.specs.Elements.{element_order, same_element}
use Rattle.cc_capture.specs.Rising.{placed}
use Rattle.cc_capture.specs.Sets.{empty, insert, from_list, union, flat_image}
use Rattle.cc_grammar.specs.Tests.{operation_named}
use Rattle.cc_grammar.specs.Reading.{reading_of, module_at, imports_at, import_at, defs_at, def_at, def_rule_at, part_at, expr_over, links_at, next_link, link_at, dot_at, operation_at, link_rule_at, expr_start_at, fun_at, expr_rule_at, type_over, shape_over, shape_start_at, paren_at, named_at, shape_rule_at, one_part_at, written_at, captures_at, set_at, caret_at, elements_at, name_at, placed_name_at, symbol_at, word_at}
use Rattle.cc_lex.specs.Cutting.{word_of, short_symbol, pair_symbol, front_of, blank_of, token_of, number_of}
use Rattle.cc_mnf.specs.Steps.{followed, gives, refuses, new_hole, with_own_holes}
use Rattle.cc_mnf.specs.ElaboratedTypes.{elaborated_shape, elaborated_type, with_elements}
use Rattle.cc_mnf.specs.Elaboration.{elaborated}
use Rattle.cc_mnf.specs.ElaboratedModules.{elaboration}
use Rattle.cc_verdicts.specs.Readings.{reading_of_text}
use Rattle.cc_worked_runs.specs.RunningTexts as example

pub fuel_is_exact : example.FuelIsExact
unfolding reading_of_text word_of short_symbol pair_symbol front_of blank_of token_of number_of unicode_ident encode is_utf8 utf8_valid_len chars reading_of module_at imports_at import_at defs_at def_at def_rule_at part_at expr_over links_at next_link link_at dot_at operation_at link_rule_at expr_start_at fun_at expr_rule_at type_over shape_over shape_start_at paren_at named_at shape_rule_at one_part_at written_at captures_at set_at caret_at elements_at name_at placed_name_at symbol_at word_at operation_named followed gives refuses new_hole with_own_holes elaborated_shape elaborated_type with_elements elaborated elaboration int_wrap flat_image from_list insert placed element_order same_element empty union
fuel_is_exact = (refl, refl, refl, refl)

pub names_need_no_cell : example.NamesNeedNoCell
unfolding reading_of_text word_of short_symbol pair_symbol front_of blank_of token_of number_of unicode_ident encode is_utf8 utf8_valid_len chars reading_of module_at imports_at import_at defs_at def_at def_rule_at part_at expr_over links_at next_link link_at dot_at operation_at link_rule_at expr_start_at fun_at expr_rule_at type_over shape_over shape_start_at paren_at named_at shape_rule_at one_part_at written_at captures_at set_at caret_at elements_at name_at placed_name_at symbol_at word_at operation_named followed gives refuses new_hole with_own_holes elaborated_shape elaborated_type with_elements elaborated elaboration int_wrap flat_image from_list insert placed element_order same_element empty union
names_need_no_cell = (refl, refl)

pub boxes_run : example.BoxesRun
unfolding reading_of_text word_of short_symbol pair_symbol front_of blank_of token_of number_of unicode_ident encode is_utf8 utf8_valid_len chars reading_of module_at imports_at import_at defs_at def_at def_rule_at part_at expr_over links_at next_link link_at dot_at operation_at link_rule_at expr_start_at fun_at expr_rule_at type_over shape_over shape_start_at paren_at named_at shape_rule_at one_part_at written_at captures_at set_at caret_at elements_at name_at placed_name_at symbol_at word_at operation_named followed gives refuses new_hole with_own_holes elaborated_shape elaborated_type with_elements elaborated elaboration int_wrap flat_image from_list insert placed element_order same_element empty union
boxes_run = (refl, refl)

pub choices_run : example.ChoicesRun
unfolding reading_of_text word_of short_symbol pair_symbol front_of blank_of token_of number_of unicode_ident encode is_utf8 utf8_valid_len chars reading_of module_at imports_at import_at defs_at def_at def_rule_at part_at expr_over links_at next_link link_at dot_at operation_at link_rule_at expr_start_at fun_at expr_rule_at type_over shape_over shape_start_at paren_at named_at shape_rule_at one_part_at written_at captures_at set_at caret_at elements_at name_at placed_name_at symbol_at word_at operation_named followed gives refuses new_hole with_own_holes elaborated_shape elaborated_type with_elements elaborated elaboration int_wrap flat_image from_list insert placed element_order same_element empty union
choices_run = (refl, refl)

pub boundaries_run : example.BoundariesRun
unfolding reading_of_text word_of short_symbol pair_symbol front_of blank_of token_of number_of unicode_ident encode is_utf8 utf8_valid_len chars reading_of module_at imports_at import_at defs_at def_at def_rule_at part_at expr_over links_at next_link link_at dot_at operation_at link_rule_at expr_start_at fun_at expr_rule_at type_over shape_over shape_start_at paren_at named_at shape_rule_at one_part_at written_at captures_at set_at caret_at elements_at name_at placed_name_at symbol_at word_at operation_named followed gives refuses new_hole with_own_holes elaborated_shape elaborated_type with_elements elaborated elaboration int_wrap flat_image from_list insert placed element_order same_element empty union
boundaries_run = (refl, refl, refl)

pub boxes_pass : example.BoxesPass
unfolding reading_of_text word_of short_symbol pair_symbol front_of blank_of token_of number_of unicode_ident encode is_utf8 utf8_valid_len chars reading_of module_at imports_at import_at defs_at def_at def_rule_at part_at expr_over links_at next_link link_at dot_at operation_at link_rule_at expr_start_at fun_at expr_rule_at type_over shape_over shape_start_at paren_at named_at shape_rule_at one_part_at written_at captures_at set_at caret_at elements_at name_at placed_name_at symbol_at word_at operation_named followed gives refuses new_hole with_own_holes elaborated_shape elaborated_type with_elements elaborated elaboration int_wrap flat_image from_list insert placed element_order same_element empty union
boxes_pass = refl

pub repetitions_run : example.RepetitionsRun
unfolding reading_of_text word_of short_symbol pair_symbol front_of blank_of token_of number_of unicode_ident encode is_utf8 utf8_valid_len chars reading_of module_at imports_at import_at defs_at def_at def_rule_at part_at expr_over links_at next_link link_at dot_at operation_at link_rule_at expr_start_at fun_at expr_rule_at type_over shape_over shape_start_at paren_at named_at shape_rule_at one_part_at written_at captures_at set_at caret_at elements_at name_at placed_name_at symbol_at word_at operation_named followed gives refuses new_hole with_own_holes elaborated_shape elaborated_type with_elements elaborated elaboration int_wrap flat_image from_list insert placed element_order same_element empty union
repetitions_run = (refl, refl, refl, refl, refl, refl, refl)

pub repetitions_are_left : example.RepetitionsAreLeft
unfolding reading_of_text word_of short_symbol pair_symbol front_of blank_of token_of number_of unicode_ident encode is_utf8 utf8_valid_len chars reading_of module_at imports_at import_at defs_at def_at def_rule_at part_at expr_over links_at next_link link_at dot_at operation_at link_rule_at expr_start_at fun_at expr_rule_at type_over shape_over shape_start_at paren_at named_at shape_rule_at one_part_at written_at captures_at set_at caret_at elements_at name_at placed_name_at symbol_at word_at operation_named followed gives refuses new_hole with_own_holes elaborated_shape elaborated_type with_elements elaborated elaboration int_wrap flat_image from_list insert placed element_order same_element empty union
repetitions_are_left = refl

pub calls_run : example.CallsRun
unfolding reading_of_text word_of short_symbol pair_symbol front_of blank_of token_of number_of unicode_ident encode is_utf8 utf8_valid_len chars reading_of module_at imports_at import_at defs_at def_at def_rule_at part_at expr_over links_at next_link link_at dot_at operation_at link_rule_at expr_start_at fun_at expr_rule_at type_over shape_over shape_start_at paren_at named_at shape_rule_at one_part_at written_at captures_at set_at caret_at elements_at name_at placed_name_at symbol_at word_at operation_named followed gives refuses new_hole with_own_holes elaborated_shape elaborated_type with_elements elaborated elaboration int_wrap flat_image from_list insert placed element_order same_element empty union
calls_run = (refl, refl)

pub devices_keep_what_was_done : example.DevicesKeepWhatWasDone
unfolding reading_of_text word_of short_symbol pair_symbol front_of blank_of token_of number_of unicode_ident encode is_utf8 utf8_valid_len chars reading_of module_at imports_at import_at defs_at def_at def_rule_at part_at expr_over links_at next_link link_at dot_at operation_at link_rule_at expr_start_at fun_at expr_rule_at type_over shape_over shape_start_at paren_at named_at shape_rule_at one_part_at written_at captures_at set_at caret_at elements_at name_at placed_name_at symbol_at word_at operation_named followed gives refuses new_hole with_own_holes elaborated_shape elaborated_type with_elements elaborated elaboration int_wrap flat_image from_list insert placed element_order same_element empty union
devices_keep_what_was_done = refl

pub numbers_wrap_in_runs : example.NumbersWrapInRuns
unfolding reading_of_text word_of short_symbol pair_symbol front_of blank_of token_of number_of unicode_ident encode is_utf8 utf8_valid_len chars reading_of module_at imports_at import_at defs_at def_at def_rule_at part_at expr_over links_at next_link link_at dot_at operation_at link_rule_at expr_start_at fun_at expr_rule_at type_over shape_over shape_start_at paren_at named_at shape_rule_at one_part_at written_at captures_at set_at caret_at elements_at name_at placed_name_at symbol_at word_at operation_named followed gives refuses new_hole with_own_holes elaborated_shape elaborated_type with_elements elaborated elaboration int_wrap flat_image from_list insert placed element_order same_element empty union
numbers_wrap_in_runs = refl

pub files_are_read : example.FilesAreRead
unfolding reading_of_text word_of short_symbol pair_symbol front_of blank_of token_of number_of unicode_ident encode is_utf8 utf8_valid_len chars reading_of module_at imports_at import_at defs_at def_at def_rule_at part_at expr_over links_at next_link link_at dot_at operation_at link_rule_at expr_start_at fun_at expr_rule_at type_over shape_over shape_start_at paren_at named_at shape_rule_at one_part_at written_at captures_at set_at caret_at elements_at name_at placed_name_at symbol_at word_at operation_named followed gives refuses new_hole with_own_holes elaborated_shape elaborated_type with_elements elaborated elaboration int_wrap flat_image from_list insert placed element_order same_element empty union
files_are_read = refl

pub recursion_runs : example.RecursionRuns
unfolding reading_of_text word_of short_symbol pair_symbol front_of blank_of token_of number_of unicode_ident encode is_utf8 utf8_valid_len chars reading_of module_at imports_at import_at defs_at def_at def_rule_at part_at expr_over links_at next_link link_at dot_at operation_at link_rule_at expr_start_at fun_at expr_rule_at type_over shape_over shape_start_at paren_at named_at shape_rule_at one_part_at written_at captures_at set_at caret_at elements_at name_at placed_name_at symbol_at word_at operation_named followed gives refuses new_hole with_own_holes elaborated_shape elaborated_type with_elements elaborated elaboration int_wrap flat_image from_list insert placed element_order same_element empty union
recursion_runs = (refl, refl)

pub answers_are_shown : example.AnswersAreShown
unfolding reading_of_text word_of short_symbol pair_symbol front_of blank_of token_of number_of unicode_ident encode is_utf8 utf8_valid_len chars reading_of module_at imports_at import_at defs_at def_at def_rule_at part_at expr_over links_at next_link link_at dot_at operation_at link_rule_at expr_start_at fun_at expr_rule_at type_over shape_over shape_start_at paren_at named_at shape_rule_at one_part_at written_at captures_at set_at caret_at elements_at name_at placed_name_at symbol_at word_at operation_named followed gives refuses new_hole with_own_holes elaborated_shape elaborated_type with_elements elaborated elaboration int_wrap flat_image from_list insert placed element_order same_element empty union
answers_are_shown = (refl, refl, refl, refl, refl, refl, refl, refl)
