-- Texts with strings: what stands in them, and how long they are.
use Rattle.std.specs.Prelude.{codes, [], ◌∷◌, ◌++◌, encode_utf8_all}
use Rattle.cc_base.specs.declared.code.Code.TheVariants.{E02, E03}
use Rattle.cc_worked_texts.specs.TextVerdicts.{place, repeated, Refuses, Accepts}

-- What stands in strings.
pub record StringCharacters : Type 0 where
  pub empty : Accepts (codes "def a = \"\"") (codes "a: Str" ∷ [])
  -- each character of ASCII from the blank to the tilde, but for the quote and the backslash
  pub all_others_of_ascii : Accepts
      (codes "def a = \" !#$%&'()*+,-./0123456789:;<=>?@ABCDEFGHIJKLMNOPQRSTUVWXYZ[]^_`abcdefghijklmnopqrstuvwx"
      ++ codes "yz{|}~\"")
      (codes "a: Str" ∷ [])
  -- and each outside ASCII
  pub after_delete : Accepts (encode_utf8_all (codes "def a = \"\u{80}\"")) (codes "a: Str" ∷ [])
  pub next_line : Accepts (encode_utf8_all (codes "def a = \"\u{85}\"")) (codes "a: Str" ∷ [])
  pub last_control : Accepts (encode_utf8_all (codes "def a = \"\u{9f}\"")) (codes "a: Str" ∷ [])
  pub no_break_space : Accepts (encode_utf8_all (codes "def a = \"\u{a0}\"")) (codes "a: Str" ∷ [])
  pub letter_of_two_bytes : Accepts (encode_utf8_all (codes "def a = \"é\"")) (codes "a: Str" ∷ [])
  pub last_of_two_bytes : Accepts (encode_utf8_all (codes "def a = \"\u{7ff}\"")) (codes "a: Str" ∷ [])
  pub first_of_three_bytes : Accepts (encode_utf8_all (codes "def a = \"\u{800}\"")) (codes "a: Str" ∷ [])
  pub line_separator : Accepts (encode_utf8_all (codes "def a = \"\u{2028}\"")) (codes "a: Str" ∷ [])
  pub paragraph_separator : Accepts (encode_utf8_all (codes "def a = \"\u{2029}\"")) (codes "a: Str" ∷ [])
  pub before_surrogates : Accepts (encode_utf8_all (codes "def a = \"\u{d7ff}\"")) (codes "a: Str" ∷ [])
  pub after_surrogates : Accepts (encode_utf8_all (codes "def a = \"\u{e000}\"")) (codes "a: Str" ∷ [])
  pub byte_order_mark : Accepts (encode_utf8_all (codes "def a = \"\u{feff}\"")) (codes "a: Str" ∷ [])
  pub replacement : Accepts (encode_utf8_all (codes "def a = \"�\"")) (codes "a: Str" ∷ [])
  pub no_character : Accepts (encode_utf8_all (codes "def a = \"\u{fffe}\"")) (codes "a: Str" ∷ [])
  pub last_of_three_bytes : Accepts (encode_utf8_all (codes "def a = \"\u{ffff}\"")) (codes "a: Str" ∷ [])
  pub first_of_four_bytes : Accepts (encode_utf8_all (codes "def a = \"𐀀\"")) (codes "a: Str" ∷ [])
  pub last_of_all : Accepts (encode_utf8_all (codes "def a = \"\u{10ffff}\"")) (codes "a: Str" ∷ [])

-- What stands in no string, which is refused at its opening quote.
pub record NoStrings : Type 0 where
  pub null : Refuses (codes "def a = \"x\0y\"") E02 (place 1 9)
  pub line_feed : Refuses (codes "def a = \"x\ny\"") E02 (place 1 9)
  pub carriage_return : Refuses (codes "def a = \"x\ry\"") E02 (place 1 9)
  pub shift_out : Refuses (codes "def a = \"x\u{e}y\"") E02 (place 1 9)
  pub escape : Refuses (codes "def a = \"x\u{1b}y\"") E02 (place 1 9)
  pub before_blank : Refuses (codes "def a = \"x\u{1f}y\"") E02 (place 1 9)
  -- a backslash, and so an escape
  pub escaped_quote : Refuses (codes "def a = \"x\\\"y\"") E02 (place 1 9)
  pub escaped_line_feed : Refuses (codes "def a = \"x\\ny\"") E02 (place 1 9)
  -- a string that is not closed
  pub unclosed : Refuses (codes "def a = \"x") E02 (place 1 9)
  pub quote_alone : Refuses (codes "def a = \"") E02 (place 1 9)
  pub closed_in_the_next_line : Refuses (codes "def a = \"x\n\"") E02 (place 1 9)
  pub single_quotes : Refuses (codes "def a = 'x'") E02 (place 1 9)
  pub closed_by_a_single_quote : Refuses (codes "def a = \"x'") E02 (place 1 9)
  pub opened_by_a_single_quote : Refuses (codes "def a = 'x\"") E02 (place 1 9)
  -- two strings, and no quote in one
  pub two_quotes : Refuses (codes "def a = \"x\"\"y\"") E03 (place 1 12)
  -- a string is refused at its quote, wherever the character stands
  pub delete_behind : Refuses (codes "def a = \"x\u{7f}\" + \"y\"") E02 (place 1 9)

-- How long strings are: they have at most 200 characters.
pub record StringLengths : Type 0 where
  -- 200 characters, whatever bytes they take
  pub two_bytes : Accepts
      (codes "def a = \"" ++ repeated 200 (encode_utf8_all (codes "é")) ++ codes "\"") (codes "a: Str" ∷ [])
  pub three_bytes : Accepts
      (codes "def a = \"" ++ repeated 200 (encode_utf8_all (codes "語")) ++ codes "\"") (codes "a: Str" ∷ [])
  pub four_bytes : Accepts
      (codes "def a = \"" ++ repeated 200 (encode_utf8_all (codes "𝐱")) ++ codes "\"") (codes "a: Str" ∷ [])
  pub one_more_of_two_bytes : Refuses
      (codes "def a = \"" ++ repeated 201 (encode_utf8_all (codes "é")) ++ codes "\"") E02 (place 1 9)
  pub last_of_four_bytes : Accepts
      (codes "def a = \"" ++ repeated 199 (codes "x") ++ encode_utf8_all (codes "𝐱\"")) (codes "a: Str" ∷ [])
  pub one_more_behind_letters : Refuses
      (encode_utf8_all (codes "def a = \"é") ++ repeated 200 (codes "x") ++ codes "\"") E02 (place 1 9)
