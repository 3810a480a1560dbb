-- Texts whose tokens decide.
use Rattle.std.specs.Prelude.{codes, [], ◌∷◌, ◌++◌, encode_utf8_all}
use Rattle.cc_base.specs.declared.code.Code.TheVariants.{E01, E02, E03, E10}
use Rattle.cc_worked_texts.specs.TextVerdicts.{place, repeated, Refuses, Accepts}

-- Which characters stand in a string, and how many.
pub record StringTexts : Type 0 where
  -- U+007F stands in no string
  pub delete : Refuses (codes "def a = \"\u{7f}\"") E02 (place 1 9)
  pub backslash : Refuses (codes "def a = \"\\\"") E02 (place 1 9)
  pub tabulator : Refuses (codes "def a = \"\t\"") E02 (place 1 9)
  -- 200 characters are a string, and 201 are none
  pub longest : Accepts (codes "def a = \"" ++ repeated 200 (codes "x") ++ codes "\"") (codes "a: Str" ∷ [])
  pub too_long : Refuses (codes "def a = \"" ++ repeated 201 (codes "x") ++ codes "\"") E02 (place 1 9)

-- White space, numbers and words.
pub record OtherTokens : Type 0 where
  -- a form feed is no white space
  pub form_feed : Refuses (codes "def\u{c}a = 1") E02 (place 1 4)
  pub greatest : Accepts (codes "def a = 9223372036854775807") (codes "a: Int" ∷ [])
  pub leading_zeros : Accepts (codes "def a = 007") (codes "a: Int" ∷ [])
  pub truth : Accepts (codes "def a = false") (codes "a: Bool" ∷ [])

-- Tabulator, line feed, carriage return and blank are white space, and nothing else is.
pub record WhiteSpace : Type 0 where
  pub blank_stands_between : Accepts (codes "def  a  =  1") (codes "a: Int" ∷ [])
  pub tabulator : Accepts (codes "def\ta\t=\t1") (codes "a: Int" ∷ [])
  pub carriage_return : Accepts (codes "def\ra\r=\r1") (codes "a: Int" ∷ [])
  pub line_feed : Accepts (codes "def\na\n=\n1") (codes "a: Int" ∷ [])
  -- in front of the first token and behind the last
  pub around : Accepts (codes "\t\r\n def a = 1 \t\r\n") (codes "a: Int" ∷ [])
  -- tokens that cannot be one need nothing between them
  pub nothing_is_needed : Accepts (codes "def a=1def b=2") (codes "a: Int" ∷ codes "b: Int" ∷ [])
  -- no other character is white space, whatever it is elsewhere
  pub null : Refuses (codes "def\0 a = 1") E02 (place 1 4)
  pub backspace : Refuses (codes "def\u{8} a = 1") E02 (place 1 4)
  pub vertical_tabulator : Refuses (codes "def\u{b} a = 1") E02 (place 1 4)
  pub shift_out : Refuses (codes "def\u{e} a = 1") E02 (place 1 4)
  pub escape : Refuses (codes "def\u{1b} a = 1") E02 (place 1 4)
  pub file_separator : Refuses (codes "def\u{1c} a = 1") E02 (place 1 4)
  pub unit_separator : Refuses (codes "def\u{1f} a = 1") E02 (place 1 4)
  pub delete : Refuses (codes "def\u{7f} a = 1") E02 (place 1 4)
  pub next_line : Refuses (encode_utf8_all (codes "def\u{85} a = 1")) E02 (place 1 4)
  pub no_break_space : Refuses (encode_utf8_all (codes "def\u{a0} a = 1")) E02 (place 1 4)
  pub ogham_space : Refuses (encode_utf8_all (codes "def\u{1680} a = 1")) E02 (place 1 4)
  pub em_space : Refuses (encode_utf8_all (codes "def\u{2003} a = 1")) E02 (place 1 4)
  pub zero_width_space : Refuses (encode_utf8_all (codes "def\u{200b} a = 1")) E02 (place 1 4)
  pub left_to_right_mark : Refuses (encode_utf8_all (codes "def\u{200e} a = 1")) E02 (place 1 4)
  pub line_separator : Refuses (encode_utf8_all (codes "def\u{2028} a = 1")) E02 (place 1 4)
  pub paragraph_separator : Refuses (encode_utf8_all (codes "def\u{2029} a = 1")) E02 (place 1 4)
  pub ideographic_space : Refuses (encode_utf8_all (codes "def\u{3000} a = 1")) E02 (place 1 4)
  pub byte_order_mark : Refuses (encode_utf8_all (codes "def\u{feff} a = 1")) E02 (place 1 4)
  pub byte_order_mark_in_front : Refuses (encode_utf8_all (codes "\u{feff}def a = 1")) E02 (place 1 1)

-- Places count lines, which a line feed ends, and characters.
pub record LinesAndColumns : Type 0 where
  -- a line ends behind a line feed alone
  pub carriage_return_takes_a_column : Refuses (codes "def a\r= y") E10 (place 1 9)
  pub carriage_return_and_line_feed : Refuses (codes "def a =\r\ny") E10 (place 2 1)
  pub line_feed_and_carriage_return : Refuses (codes "def a =\n\ry") E10 (place 2 2)
  pub line_feeds : Refuses (codes "\n\n\ndef a =\n y") E10 (place 5 2)
  pub tabulator_takes_one_column : Refuses (codes "\tdef a = y") E10 (place 1 10)
  -- letters count once, whatever bytes they take
  pub two_bytes : Refuses (encode_utf8_all (codes "def é = y")) E10 (place 1 9)
  pub three_bytes : Refuses (encode_utf8_all (codes "def 語 = y")) E10 (place 1 9)
  pub four_bytes : Refuses (encode_utf8_all (codes "def 𝐱 = y")) E10 (place 1 9)
  pub combining : Refuses (encode_utf8_all (codes "def é = y")) E10 (place 1 10)
  pub on_a_later_line : Refuses (encode_utf8_all (codes "def a = 1\ndef é語𝐱 = y")) E10 (place 2 11)
  pub in_a_string : Refuses (encode_utf8_all (codes "def a = \"é語𝐱\" y")) E03 (place 1 15)
  pub in_a_string_of_a_later_line : Refuses (encode_utf8_all (codes "def a =\n  \"é\" + y")) E10 (place 2 9)
  pub a_mark_in_a_string : Refuses (encode_utf8_all (codes "def a = \"\u{feff}\" y")) E03 (place 1 13)
  -- no line ends in a string
  pub separators_in_a_string : Refuses
      (encode_utf8_all (codes "def a = \"\u{85}\u{2028}\u{2029}\" y")) E03 (place 1 15)
  -- columns go on
  pub far_to_the_right : Refuses (codes "def a = " ++ repeated 400 (codes " ") ++ codes "y") E10 (place 1 409)

-- A comment begins with two slashes, and ends before the next line feed or with the text.
pub record Comments : Type 0 where
  -- one slash begins nothing
  pub one_slash : Refuses (codes "def a = 1 / 2") E02 (place 1 11)
  pub one_slash_at_the_end : Refuses (codes "def a = 1 /") E02 (place 1 11)
  pub slashes_apart : Refuses (codes "def a = 1 / / 2") E02 (place 1 11)
  pub a_star : Refuses (codes "def a = 1 /* 2") E02 (place 1 11)
  pub number_sign : Refuses (codes "# a") E02 (place 1 1)
  pub two_minus_signs : Refuses (codes "def a = 1 -- 2") E03 (place 1 12)
  pub next_line : Accepts (codes "// x\ndef a = 1") (codes "a: Int" ∷ [])
  pub between_tokens : Accepts (codes "def a = // x\n1 // y\n// z\n") (codes "a: Int" ∷ [])
  pub separates : Accepts (codes "def//\na = 1") (codes "a: Int" ∷ [])
  pub separates_words : Refuses (codes "de//\nf a = 1") E03 (place 1 1)
  pub at_the_end : Accepts (codes "def a = 1//") (codes "a: Int" ∷ [])
  pub at_the_end_with_more : Accepts (codes "def a = 1 // x") (codes "a: Int" ∷ [])
  pub alone : Accepts (codes "//") []
  pub three_slashes : Accepts (codes "/// x\ndef a = 1") (codes "a: Int" ∷ [])
  -- a comment goes on to the line feed
  pub goes_on : Accepts (codes "// x def a = 1") []
  -- whatever stands in it
  pub carriage_return : Accepts (codes "//\r~") []
  pub next_line_character : Accepts (encode_utf8_all (codes "// \u{85}~")) []
  pub line_separator : Accepts (encode_utf8_all (codes "// \u{2028}~ \u{2029}~")) []
  pub vertical_tabulator_and_form_feed : Accepts (codes "// \u{b}~ \u{c}~") []
  pub null : Accepts (codes "//\0\u{7f}~") []
  pub quote : Accepts (codes "// \"\ndef a = 1") (codes "a: Int" ∷ [])
  pub backslash : Refuses (codes "// \\\ndef a = y") E10 (place 2 9)
  pub star_and_slash : Refuses (codes "/// */ ~\n~") E02 (place 2 1)
  -- no line ends within it
  pub lines_behind_carriage_returns : Refuses
      (encode_utf8_all (codes "//\r\n// \u{85}\n// \u{2028}\u{2029}\n// \u{b}\u{c}\0\u{1c}\u{1e}\n~"))
      E02 (place 5 1)
  pub letters : Refuses (encode_utf8_all (codes "// é語𝐱\n~")) E02 (place 2 1)
  -- two slashes in a string begin none
  pub in_a_string : Accepts (codes "def a = \"// x\"") (codes "a: Str" ∷ [])
  pub before_a_string : Accepts (codes "def a = // \"\n\"x\"") (codes "a: Str" ∷ [])

-- Where a text ends. One that is no module, but begins one, is refused at its end.
pub record TextEnds : Type 0 where
  pub empty : Accepts (codes "") []
  pub line_feed_alone : Accepts (codes "\n") []
  pub blanks_alone : Accepts (codes " \t\r ") []
  pub comment_alone : Accepts (codes "// x") []
  -- a text that goes on is refused just behind its last character
  pub behind_a_blank : Refuses (codes "def a = ") E03 (place 1 9)
  pub behind_a_token : Refuses (codes "def a =") E03 (place 1 8)
  pub behind_a_line_feed : Refuses (codes "def a =\n") E03 (place 2 1)
  pub behind_line_feeds : Refuses (codes "def a =\n\n  ") E03 (place 3 3)
  pub behind_a_carriage_return : Refuses (codes "def a =\r") E03 (place 1 9)
  pub behind_a_comment : Refuses (codes "def a = // x") E03 (place 1 13)
  pub behind_the_line_of_a_comment : Refuses (codes "def a = // x\n") E03 (place 2 1)
  pub behind_letters : Refuses (encode_utf8_all (codes "def é =")) E03 (place 1 8)
  pub behind_letters_of_a_comment : Refuses (encode_utf8_all (codes "def a = // é語𝐱")) E03 (place 1 15)
  pub first_word : Refuses (codes "def") E03 (place 1 4)
  pub import_word : Refuses (codes "import") E03 (place 1 7)
  pub import_of_a_module : Refuses (codes "import m") E03 (place 1 9)
  pub import_dot : Refuses (codes "import m.") E03 (place 1 10)
  pub behind_a_string : Refuses (encode_utf8_all (codes "def a = fun (x: Str) => if [Int] \"é語𝐱\"")) E03 (place 1 39)

-- Numbers are digits, up to 9223372036854775807.
pub record Numbers : Type 0 where
  pub too_great : Refuses (codes "def a = 9223372036854775808") E02 (place 1 9)
  pub greatest_behind_zeros : Accepts (codes "def a = 00000009223372036854775807") (codes "a: Int" ∷ [])
  pub too_great_behind_zeros : Refuses (codes "def a = 00000009223372036854775808") E02 (place 1 9)
  pub digit_more : Refuses (codes "def a = 10000000000000000000") E02 (place 1 9)
  -- no number wraps around
  pub power_of_two : Refuses (codes "def a = 18446744073709551616") E02 (place 1 9)
  pub one_more : Refuses (codes "def a = 18446744073709551617") E02 (place 1 9)
  pub greater_power : Refuses (codes "def a = 340282366920938463463374607431768211457") E02 (place 1 9)
  pub zero : Accepts (codes "def a = 0") (codes "a: Int" ∷ [])
  pub zeros : Accepts (codes "def a = 00") (codes "a: Int" ∷ [])
  pub all_digits : Accepts (codes "def a = 1234567890") (codes "a: Int" ∷ [])
  pub nine : Accepts (codes "def a = 9") (codes "a: Int" ∷ [])
  -- a letter or a dot ends a number
  pub letter : Refuses (codes "def a = 1a") E03 (place 1 10)
  pub hexadecimal : Refuses (codes "def a = 0x10") E03 (place 1 10)
  pub exponent : Refuses (codes "def a = 1e5") E03 (place 1 10)
  pub underscore : Refuses (codes "def a = 1_000") E02 (place 1 10)
  pub point : Refuses (codes "def a = 1.5") E03 (place 1 11)
  pub word : Accepts (codes "def a = 1def b = 2") (codes "a: Int" ∷ codes "b: Int" ∷ [])
  -- no number has a sign
  pub minus : Refuses (codes "def a = -1") E03 (place 1 9)
  pub plus : Refuses (codes "def a = +1") E03 (place 1 9)
  -- digits are those of ASCII
  pub other_digits : Refuses (encode_utf8_all (codes "def a = \u{661}")) E02 (place 1 9)
  pub other_digits_behind : Refuses (encode_utf8_all (codes "def a = 1\u{661}")) E02 (place 1 10)

-- A text that is no UTF-8 is refused at the first byte that is not part of it.
pub record NoUtf8 : Type 0 where
  pub first_byte : Refuses (255 ∷ []) E01 (place 1 1)
  pub behind_letters : Refuses (encode_utf8_all (codes "def é = ") ++ 128 ∷ []) E01 (place 1 9)
  -- a form that is too long
  pub on_a_later_line : Refuses (encode_utf8_all (codes "def a = 1\né") ++ 192 ∷ 128 ∷ []) E01 (place 2 2)
  -- letters that are cut off
  pub cut_off : Refuses (codes "def a = \"" ++ 226 ∷ 130 ∷ []) E01 (place 1 10)
  pub cut_off_by_a_letter : Refuses (codes "// " ++ 226 ∷ 130 ∷ [] ++ codes "x") E01 (place 1 4)
  pub surrogate : Refuses (codes "// " ++ 237 ∷ 160 ∷ 128 ∷ []) E01 (place 1 4)
  pub too_great : Refuses (codes "// " ++ 244 ∷ 144 ∷ 128 ∷ 128 ∷ []) E01 (place 1 4)
  -- the whole text is to be UTF-8
  pub before_other_refusals : Refuses (codes "~ y " ++ 255 ∷ []) E01 (place 1 5)
  pub before_the_end : Refuses (codes "def a = " ++ 255 ∷ []) E01 (place 1 9)
