-- What is a name, by example: each word of the language is none, and what a name begins with and goes on with, by computation.
use Rattle.std.proofs.Common.{refl}
use Rattle.unicode_ident.proofs.Computing.{unicode_ident}
use Rattle.cc_base.specs.Names.{is_reserved, reserved_words}
use Rattle.cc_worked_texts.specs.NameForms as example

pub words_are_no_names : example.WordsAreNoNames
unfolding unicode_ident is_reserved reserved_words
words_are_no_names = record {
  word_import = refl;
  word_def = refl;
  word_rec = refl;
  word_fun = refl;
  word_val = refl;
  word_if = refl;
  word_then = refl;
  word_else = refl;
  word_box = refl;
  word_unbox = refl;
  boundary = refl;
  word_exit = refl;
  word_repeat = refl;
  true_value = refl;
  false_value = refl;
  word_unit = refl;
  word_cap = refl;
  unit_shape = refl;
  truth_shape = refl;
  integer_shape = refl;
  text_shape = refl;
  any_shape = refl;
  console_shape = refl;
  file_shape = refl;
  counter_shape = refl;
  exit_shape = refl;
  box_shape = refl;
}

pub name_characters : example.NameCharacters
unfolding unicode_ident is_reserved reserved_words
name_characters = record {
  letter = refl;
  word_with_more = refl;
  front_of_a_word = refl;
  word_in_other_letters = refl;
  nothing = refl;
  digit_behind = refl;
  digit_in_front = refl;
  low_line_behind = refl;
  low_line_in_front = refl;
  blank = refl;
  full_stop = refl;
  letter_beyond_ascii = refl;
  mark_behind = refl;
  mark_in_front = refl;
}
