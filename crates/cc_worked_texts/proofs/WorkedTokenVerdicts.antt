-- Texts whose tokens decide.
use Rattle.std.proofs.Common.{refl, codes, [], ◌∷◌, ◌++◌}
use Rattle.std.specs.Prelude.{encode_utf8_all}
use Rattle.cc_base.specs.declared.code.Code.TheVariants.{E01, E02, E03, E10}
use Rattle.cc_worked_texts.specs.TextVerdicts.{place, repeated}
use Rattle.cc_worked_texts.specs.TokenVerdicts as example
use Rattle.cc_worked_texts.proofs.ComputedModules.{text_computing, letters_computing, refused, accepted}

pub strings : example.StringTexts
unfolding text_computing
strings = record {
  delete = refused 9 (codes "def a = \"\u{7f}\"") E02 (place 1 9) refl;
  backslash = refused 9 (codes "def a = \"\\\"") E02 (place 1 9) refl;
  tabulator = refused 9 (codes "def a = \"\t\"") E02 (place 1 9) refl;
  longest = accepted 9 (codes "def a = \"" ++ repeated 200 (codes "x") ++ codes "\"") (codes "a: Str" ∷ []) refl;
  too_long = refused 9 (codes "def a = \"" ++ repeated 201 (codes "x") ++ codes "\"") E02 (place 1 9) refl;
}

pub others : example.OtherTokens
unfolding text_computing
others = record {
  form_feed = refused 9 (codes "def\u{c}a = 1") E02 (place 1 4) refl;
  greatest = accepted 9 (codes "def a = 9223372036854775807") (codes "a: Int" ∷ []) refl;
  leading_zeros = accepted 9 (codes "def a = 007") (codes "a: Int" ∷ []) refl;
  truth = accepted 9 (codes "def a = false") (codes "a: Bool" ∷ []) refl;
}

pub white_space : example.WhiteSpace
unfolding letters_computing
white_space = record {
  blank_stands_between = accepted 9 (codes "def  a  =  1") (codes "a: Int" ∷ []) refl;
  tabulator = accepted 9 (codes "def\ta\t=\t1") (codes "a: Int" ∷ []) refl;
  carriage_return = accepted 9 (codes "def\ra\r=\r1") (codes "a: Int" ∷ []) refl;
  line_feed = accepted 9 (codes "def\na\n=\n1") (codes "a: Int" ∷ []) refl;
  around = accepted 9 (codes "\t\r\n def a = 1 \t\r\n") (codes "a: Int" ∷ []) refl;
  nothing_is_needed = accepted 9 (codes "def a=1def b=2") (codes "a: Int" ∷ codes "b: Int" ∷ []) refl;
  null = refused 9 (codes "def\0 a = 1") E02 (place 1 4) refl;
  backspace = refused 9 (codes "def\u{8} a = 1") E02 (place 1 4) refl;
  vertical_tabulator = refused 9 (codes "def\u{b} a = 1") E02 (place 1 4) refl;
  shift_out = refused 9 (codes "def\u{e} a = 1") E02 (place 1 4) refl;
  escape = refused 9 (codes "def\u{1b} a = 1") E02 (place 1 4) refl;
  file_separator = refused 9 (codes "def\u{1c} a = 1") E02 (place 1 4) refl;
  unit_separator = refused 9 (codes "def\u{1f} a = 1") E02 (place 1 4) refl;
  delete = refused 9 (codes "def\u{7f} a = 1") E02 (place 1 4) refl;
  next_line = refused 9 (encode_utf8_all (codes "def\u{85} a = 1")) E02 (place 1 4) refl;
  no_break_space = refused 9 (encode_utf8_all (codes "def\u{a0} a = 1")) E02 (place 1 4) refl;
  ogham_space = refused 9 (encode_utf8_all (codes "def\u{1680} a = 1")) E02 (place 1 4) refl;
  em_space = refused 9 (encode_utf8_all (codes "def\u{2003} a = 1")) E02 (place 1 4) refl;
  zero_width_space = refused 9 (encode_utf8_all (codes "def\u{200b} a = 1")) E02 (place 1 4) refl;
  left_to_right_mark = refused 9 (encode_utf8_all (codes "def\u{200e} a = 1")) E02 (place 1 4) refl;
  line_separator = refused 9 (encode_utf8_all (codes "def\u{2028} a = 1")) E02 (place 1 4) refl;
  paragraph_separator = refused 9 (encode_utf8_all (codes "def\u{2029} a = 1")) E02 (place 1 4) refl;
  ideographic_space = refused 9 (encode_utf8_all (codes "def\u{3000} a = 1")) E02 (place 1 4) refl;
  byte_order_mark = refused 9 (encode_utf8_all (codes "def\u{feff} a = 1")) E02 (place 1 4) refl;
  byte_order_mark_in_front = refused 9 (encode_utf8_all (codes "\u{feff}def a = 1")) E02 (place 1 1) refl;
}

pub lines_and_columns : example.LinesAndColumns
unfolding letters_computing
lines_and_columns = record {
  carriage_return_takes_a_column = refused 9 (codes "def a\r= y") E10 (place 1 9) refl;
  carriage_return_and_line_feed = refused 9 (codes "def a =\r\ny") E10 (place 2 1) refl;
  line_feed_and_carriage_return = refused 9 (codes "def a =\n\ry") E10 (place 2 2) refl;
  line_feeds = refused 9 (codes "\n\n\ndef a =\n y") E10 (place 5 2) refl;
  tabulator_takes_one_column = refused 9 (codes "\tdef a = y") E10 (place 1 10) refl;
  two_bytes = refused 9 (encode_utf8_all (codes "def é = y")) E10 (place 1 9) refl;
  three_bytes = refused 9 (encode_utf8_all (codes "def 語 = y")) E10 (place 1 9) refl;
  four_bytes = refused 9 (encode_utf8_all (codes "def 𝐱 = y")) E10 (place 1 9) refl;
  combining = refused 9 (encode_utf8_all (codes "def é = y")) E10 (place 1 10) refl;
  on_a_later_line = refused 9 (encode_utf8_all (codes "def a = 1\ndef é語𝐱 = y")) E10 (place 2 11) refl;
  in_a_string = refused 9 (encode_utf8_all (codes "def a = \"é語𝐱\" y")) E03 (place 1 15) refl;
  in_a_string_of_a_later_line = refused 9 (encode_utf8_all (codes "def a =\n  \"é\" + y")) E10 (place 2 9) refl;
  a_mark_in_a_string = refused 9 (encode_utf8_all (codes "def a = \"\u{feff}\" y")) E03 (place 1 13) refl;
  separators_in_a_string = refused 9 (encode_utf8_all (codes "def a = \"\u{85}\u{2028}\u{2029}\" y")) E03 (place 1 15) refl;
  far_to_the_right = refused 9 (codes "def a = " ++ repeated 400 (codes " ") ++ codes "y") E10 (place 1 409) refl;
}

pub comments : example.Comments
unfolding letters_computing
comments = record {
  one_slash = refused 9 (codes "def a = 1 / 2") E02 (place 1 11) refl;
  one_slash_at_the_end = refused 9 (codes "def a = 1 /") E02 (place 1 11) refl;
  slashes_apart = refused 9 (codes "def a = 1 / / 2") E02 (place 1 11) refl;
  a_star = refused 9 (codes "def a = 1 /* 2") E02 (place 1 11) refl;
  number_sign = refused 9 (codes "# a") E02 (place 1 1) refl;
  two_minus_signs = refused 9 (codes "def a = 1 -- 2") E03 (place 1 12) refl;
  next_line = accepted 9 (codes "// x\ndef a = 1") (codes "a: Int" ∷ []) refl;
  between_tokens = accepted 9 (codes "def a = // x\n1 // y\n// z\n") (codes "a: Int" ∷ []) refl;
  separates = accepted 9 (codes "def//\na = 1") (codes "a: Int" ∷ []) refl;
  separates_words = refused 9 (codes "de//\nf a = 1") E03 (place 1 1) refl;
  at_the_end = accepted 9 (codes "def a = 1//") (codes "a: Int" ∷ []) refl;
  at_the_end_with_more = accepted 9 (codes "def a = 1 // x") (codes "a: Int" ∷ []) refl;
  alone = accepted 9 (codes "//") [] refl;
  three_slashes = accepted 9 (codes "/// x\ndef a = 1") (codes "a: Int" ∷ []) refl;
  goes_on = accepted 9 (codes "// x def a = 1") [] refl;
  carriage_return = accepted 9 (codes "//\r~") [] refl;
  next_line_character = accepted 9 (encode_utf8_all (codes "// \u{85}~")) [] refl;
  line_separator = accepted 9 (encode_utf8_all (codes "// \u{2028}~ \u{2029}~")) [] refl;
  vertical_tabulator_and_form_feed = accepted 9 (codes "// \u{b}~ \u{c}~") [] refl;
  null = accepted 9 (codes "//\0\u{7f}~") [] refl;
  quote = accepted 9 (codes "// \"\ndef a = 1") (codes "a: Int" ∷ []) refl;
  backslash = refused 9 (codes "// \\\ndef a = y") E10 (place 2 9) refl;
  star_and_slash = refused 9 (codes "/// */ ~\n~") E02 (place 2 1) refl;
  lines_behind_carriage_returns = refused 9 (encode_utf8_all (codes "//\r\n// \u{85}\n// \u{2028}\u{2029}\n// \u{b}\u{c}\0\u{1c}\u{1e}\n~")) E02 (place 5 1) refl;
  letters = refused 9 (encode_utf8_all (codes "// é語𝐱\n~")) E02 (place 2 1) refl;
  in_a_string = accepted 9 (codes "def a = \"// x\"") (codes "a: Str" ∷ []) refl;
  before_a_string = accepted 9 (codes "def a = // \"\n\"x\"") (codes "a: Str" ∷ []) refl;
}

pub text_ends : example.TextEnds
unfolding letters_computing
text_ends = record {
  empty = accepted 9 (codes "") [] refl;
  line_feed_alone = accepted 9 (codes "\n") [] refl;
  blanks_alone = accepted 9 (codes " \t\r ") [] refl;
  comment_alone = accepted 9 (codes "// x") [] refl;
  behind_a_blank = refused 9 (codes "def a = ") E03 (place 1 9) refl;
  behind_a_token = refused 9 (codes "def a =") E03 (place 1 8) refl;
  behind_a_line_feed = refused 9 (codes "def a =\n") E03 (place 2 1) refl;
  behind_line_feeds = refused 9 (codes "def a =\n\n  ") E03 (place 3 3) refl;
  behind_a_carriage_return = refused 9 (codes "def a =\r") E03 (place 1 9) refl;
  behind_a_comment = refused 9 (codes "def a = // x") E03 (place 1 13) refl;
  behind_the_line_of_a_comment = refused 9 (codes "def a = // x\n") E03 (place 2 1) refl;
  behind_letters = refused 9 (encode_utf8_all (codes "def é =")) E03 (place 1 8) refl;
  behind_letters_of_a_comment = refused 9 (encode_utf8_all (codes "def a = // é語𝐱")) E03 (place 1 15) refl;
  first_word = refused 9 (codes "def") E03 (place 1 4) refl;
  import_word = refused 9 (codes "import") E03 (place 1 7) refl;
  import_of_a_module = refused 9 (codes "import m") E03 (place 1 9) refl;
  import_dot = refused 9 (codes "import m.") E03 (place 1 10) refl;
  behind_a_string = refused 9 (encode_utf8_all (codes "def a = fun (x: Str) => if [Int] \"é語𝐱\"")) E03 (place 1 39) refl;
}

pub numbers : example.Numbers
unfolding letters_computing
numbers = record {
  too_great = refused 9 (codes "def a = 9223372036854775808") E02 (place 1 9) refl;
  greatest_behind_zeros = accepted 9 (codes "def a = 00000009223372036854775807") (codes "a: Int" ∷ []) refl;
  too_great_behind_zeros = refused 9 (codes "def a = 00000009223372036854775808") E02 (place 1 9) refl;
  digit_more = refused 9 (codes "def a = 10000000000000000000") E02 (place 1 9) refl;
  power_of_two = refused 9 (codes "def a = 18446744073709551616") E02 (place 1 9) refl;
  one_more = refused 9 (codes "def a = 18446744073709551617") E02 (place 1 9) refl;
  greater_power = refused 9 (codes "def a = 340282366920938463463374607431768211457") E02 (place 1 9) refl;
  zero = accepted 9 (codes "def a = 0") (codes "a: Int" ∷ []) refl;
  zeros = accepted 9 (codes "def a = 00") (codes "a: Int" ∷ []) refl;
  all_digits = accepted 9 (codes "def a = 1234567890") (codes "a: Int" ∷ []) refl;
  nine = accepted 9 (codes "def a = 9") (codes "a: Int" ∷ []) refl;
  letter = refused 9 (codes "def a = 1a") E03 (place 1 10) refl;
  hexadecimal = refused 9 (codes "def a = 0x10") E03 (place 1 10) refl;
  exponent = refused 9 (codes "def a = 1e5") E03 (place 1 10) refl;
  underscore = refused 9 (codes "def a = 1_000") E02 (place 1 10) refl;
  point = refused 9 (codes "def a = 1.5") E03 (place 1 11) refl;
  word = accepted 9 (codes "def a = 1def b = 2") (codes "a: Int" ∷ codes "b: Int" ∷ []) refl;
  minus = refused 9 (codes "def a = -1") E03 (place 1 9) refl;
  plus = refused 9 (codes "def a = +1") E03 (place 1 9) refl;
  other_digits = refused 9 (encode_utf8_all (codes "def a = \u{661}")) E02 (place 1 9) refl;
  other_digits_behind = refused 9 (encode_utf8_all (codes "def a = 1\u{661}")) E02 (place 1 10) refl;
}

pub no_utf8 : example.NoUtf8
unfolding letters_computing
no_utf8 = record {
  first_byte = refused 9 (255 ∷ []) E01 (place 1 1) refl;
  behind_letters = refused 9 (encode_utf8_all (codes "def é = ") ++ 128 ∷ []) E01 (place 1 9) refl;
  on_a_later_line = refused 9 (encode_utf8_all (codes "def a = 1\né") ++ 192 ∷ 128 ∷ []) E01 (place 2 2) refl;
  cut_off = refused 9 (codes "def a = \"" ++ 226 ∷ 130 ∷ []) E01 (place 1 10) refl;
  cut_off_by_a_letter = refused 9 (codes "// " ++ 226 ∷ 130 ∷ [] ++ codes "x") E01 (place 1 4) refl;
  surrogate = refused 9 (codes "// " ++ 237 ∷ 160 ∷ 128 ∷ []) E01 (place 1 4) refl;
  too_great = refused 9 (codes "// " ++ 244 ∷ 144 ∷ 128 ∷ 128 ∷ []) E01 (place 1 4) refl;
  before_other_refusals = refused 9 (codes "~ y " ++ 255 ∷ []) E01 (place 1 5) refl;
  before_the_end = refused 9 (codes "def a = " ++ 255 ∷ []) E01 (place 1 9) refl;
}
