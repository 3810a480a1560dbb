-- Texts with strings: what stands in them, and how long they are.
use Rattle.std.proofs.Common.{refl, codes, [], ◌∷◌, ◌++◌}
use Rattle.std.specs.Prelude.{encode_utf8_all}
use Rattle.cc_base.specs.declared.code.Code.TheVariants.{E02, E03}
use Rattle.cc_worked_texts.specs.TextVerdicts.{place, repeated}
use Rattle.cc_worked_texts.specs.StringVerdicts as example
use Rattle.cc_worked_texts.proofs.ComputedModules.{text_computing, letters_computing, refused, accepted}

pub characters : example.StringCharacters
unfolding letters_computing
characters = record {
  empty = accepted 9 (codes "def a = \"\"") (codes "a: Str" ∷ []) refl;
  all_others_of_ascii = accepted 9 (codes "def a = \" !#$%&'()*+,-./0123456789:;<=>?@ABCDEFGHIJKLMNOPQRSTUVWXYZ[]^_`abcdefghijklmnopqrstuvwx" ++ codes "yz{|}~\"") (codes "a: Str" ∷ []) refl;
  after_delete = accepted 9 (encode_utf8_all (codes "def a = \"\u{80}\"")) (codes "a: Str" ∷ []) refl;
  next_line = accepted 9 (encode_utf8_all (codes "def a = \"\u{85}\"")) (codes "a: Str" ∷ []) refl;
  last_control = accepted 9 (encode_utf8_all (codes "def a = \"\u{9f}\"")) (codes "a: Str" ∷ []) refl;
  no_break_space = accepted 9 (encode_utf8_all (codes "def a = \"\u{a0}\"")) (codes "a: Str" ∷ []) refl;
  letter_of_two_bytes = accepted 9 (encode_utf8_all (codes "def a = \"é\"")) (codes "a: Str" ∷ []) refl;
  last_of_two_bytes = accepted 9 (encode_utf8_all (codes "def a = \"\u{7ff}\"")) (codes "a: Str" ∷ []) refl;
  first_of_three_bytes = accepted 9 (encode_utf8_all (codes "def a = \"\u{800}\"")) (codes "a: Str" ∷ []) refl;
  line_separator = accepted 9 (encode_utf8_all (codes "def a = \"\u{2028}\"")) (codes "a: Str" ∷ []) refl;
  paragraph_separator = accepted 9 (encode_utf8_all (codes "def a = \"\u{2029}\"")) (codes "a: Str" ∷ []) refl;
  before_surrogates = accepted 9 (encode_utf8_all (codes "def a = \"\u{d7ff}\"")) (codes "a: Str" ∷ []) refl;
  after_surrogates = accepted 9 (encode_utf8_all (codes "def a = \"\u{e000}\"")) (codes "a: Str" ∷ []) refl;
  byte_order_mark = accepted 9 (encode_utf8_all (codes "def a = \"\u{feff}\"")) (codes "a: Str" ∷ []) refl;
  replacement = accepted 9 (encode_utf8_all (codes "def a = \"�\"")) (codes "a: Str" ∷ []) refl;
  no_character = accepted 9 (encode_utf8_all (codes "def a = \"\u{fffe}\"")) (codes "a: Str" ∷ []) refl;
  last_of_three_bytes = accepted 9 (encode_utf8_all (codes "def a = \"\u{ffff}\"")) (codes "a: Str" ∷ []) refl;
  first_of_four_bytes = accepted 9 (encode_utf8_all (codes "def a = \"𐀀\"")) (codes "a: Str" ∷ []) refl;
  last_of_all = accepted 9 (encode_utf8_all (codes "def a = \"\u{10ffff}\"")) (codes "a: Str" ∷ []) refl;
}

pub no_strings : example.NoStrings
unfolding text_computing
no_strings = record {
  null = refused 9 (codes "def a = \"x\0y\"") E02 (place 1 9) refl;
  line_feed = refused 9 (codes "def a = \"x\ny\"") E02 (place 1 9) refl;
  carriage_return = refused 9 (codes "def a = \"x\ry\"") E02 (place 1 9) refl;
  shift_out = refused 9 (codes "def a = \"x\u{e}y\"") E02 (place 1 9) refl;
  escape = refused 9 (codes "def a = \"x\u{1b}y\"") E02 (place 1 9) refl;
  before_blank = refused 9 (codes "def a = \"x\u{1f}y\"") E02 (place 1 9) refl;
  escaped_quote = refused 9 (codes "def a = \"x\\\"y\"") E02 (place 1 9) refl;
  escaped_line_feed = refused 9 (codes "def a = \"x\\ny\"") E02 (place 1 9) refl;
  unclosed = refused 9 (codes "def a = \"x") E02 (place 1 9) refl;
  quote_alone = refused 9 (codes "def a = \"") E02 (place 1 9) refl;
  closed_in_the_next_line = refused 9 (codes "def a = \"x\n\"") E02 (place 1 9) refl;
  single_quotes = refused 9 (codes "def a = 'x'") E02 (place 1 9) refl;
  closed_by_a_single_quote = refused 9 (codes "def a = \"x'") E02 (place 1 9) refl;
  opened_by_a_single_quote = refused 9 (codes "def a = 'x\"") E02 (place 1 9) refl;
  two_quotes = refused 9 (codes "def a = \"x\"\"y\"") E03 (place 1 12) refl;
  delete_behind = refused 9 (codes "def a = \"x\u{7f}\" + \"y\"") E02 (place 1 9) refl;
}

pub lengths : example.StringLengths
unfolding letters_computing
lengths = record {
  two_bytes = accepted 9 (codes "def a = \"" ++ repeated 200 (encode_utf8_all (codes "é")) ++ codes "\"") (codes "a: Str" ∷ []) refl;
  three_bytes = accepted 9 (codes "def a = \"" ++ repeated 200 (encode_utf8_all (codes "語")) ++ codes "\"") (codes "a: Str" ∷ []) refl;
  four_bytes = accepted 9 (codes "def a = \"" ++ repeated 200 (encode_utf8_all (codes "𝐱")) ++ codes "\"") (codes "a: Str" ∷ []) refl;
  one_more_of_two_bytes = refused 9 (codes "def a = \"" ++ repeated 201 (encode_utf8_all (codes "é")) ++ codes "\"") E02 (place 1 9) refl;
  last_of_four_bytes = accepted 9 (codes "def a = \"" ++ repeated 199 (codes "x") ++ encode_utf8_all (codes "𝐱\"")) (codes "a: Str" ∷ []) refl;
  one_more_behind_letters = refused 9 (encode_utf8_all (codes "def a = \"é") ++ repeated 200 (codes "x") ++ codes "\"") E02 (place 1 9) refl;
}
