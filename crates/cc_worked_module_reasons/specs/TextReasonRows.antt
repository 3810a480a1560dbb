-- Why texts are no modules, by example.
use Rattle.std.specs.Prelude.{ℕ, pos, List, [], ◌∷◌, ◌++◌, codes, encode_utf8_all, replicate, Some, None}
use Rattle.cc_lex.specs.declared.token.Word.TheVariants as words
use Rattle.cc_lex.specs.declared.token.Symbol.TheVariants as symbols
use Rattle.cc_lex.specs.Lexemes.{NumberLexeme, WordLexeme, SymbolLexeme}
use Rattle.cc_text_reasons.specs.TextReasons.{Break, AtCharacter, AtEnd, NotUtf8, Broken, Unwanted, TooHigh, HasTextReason}
use Rattle.cc_wanted.specs.declared.kind.Kind.TheVariants as kinds
use Rattle.cc_wanted.specs.WantedExamples.{kinds_of}
use Rattle.cc_worked_texts.specs.TextVerdicts.{place, repeated}

-- the text with these characters behind the front of a definition breaks so, where they begin
abbrev pub Breaks : List ℕ → Break → Type 0
Breaks rest break = HasTextReason (codes "def a = " ++ rest) (Broken break) (place 1 9)

-- what a token breaks at
pub record BrokenTokens : Type 0 where
  -- a character that begins nothing
  pub alone : Breaks (codes "@") (AtCharacter 64)
  pub before_a_name : Breaks (codes "@a") (AtCharacter 64)
  pub mark : Breaks (codes "!") (AtCharacter 33)
  -- a slash begins a comment, with another one alone
  pub one_slash : Breaks (codes "/") AtEnd
  pub slash_and_space : Breaks (codes "/ 1") (AtCharacter 32)
  pub slash_and_star : Breaks (codes "/* 1 */") (AtCharacter 42)
  -- a string that is not closed, in the text or in its line
  pub open_string : Breaks (34 ∷ codes "ab") AtEnd
  pub open_in_its_line : Breaks (34 ∷ codes "ab" ++ 10 ∷ 34 ∷ []) (AtCharacter 10)
  pub lone_quote : Breaks (34 ∷ []) AtEnd
  -- a character that may not stand in one
  pub backslash : Breaks (34 ∷ codes "a" ++ 92 ∷ 34 ∷ []) (AtCharacter 92)
  pub tab : Breaks (34 ∷ 9 ∷ 34 ∷ []) (AtCharacter 9)
  -- one that is too long breaks at its character 201
  pub too_long : Breaks (34 ∷ replicate 200 97 ++ 98 ∷ 34 ∷ []) (AtCharacter 98)

-- The first that breaks is told, and what stands before it is no part of it.
pub record BrokenPlaces : Type 0 where
  pub in_the_second_line : HasTextReason (codes "def a = 1" ++ 10 ∷ codes "@ " ++ 34 ∷ []) (Broken (AtCharacter 64)) (place 2 1)
  pub behind_a_comment : HasTextReason (codes "// " ++ 34 ∷ 10 ∷ codes "def a = /") (Broken AtEnd) (place 2 9)

-- The first byte that is not UTF-8 is told, as the number of bytes before it; places count characters.
pub record BadBytes : Type 0 where
  pub first : HasTextReason (255 ∷ codes "def a = 1") (NotUtf8 0) (place 1 1)
  pub within : HasTextReason (codes "def a = " ++ 255 ∷ codes "1") (NotUtf8 8) (place 1 9)
  pub last : HasTextReason (codes "def a = 1" ++ 254 ∷ []) (NotUtf8 9) (place 1 10)
  -- of two the first
  pub first_of_two : HasTextReason (codes "a" ++ 255 ∷ codes "b" ++ 255 ∷ []) (NotUtf8 1) (place 1 2)
  -- a byte that goes on where nothing has begun
  pub lone : HasTextReason (codes "ab" ++ 128 ∷ []) (NotUtf8 2) (place 1 3)
  -- a sequence that is cut off, at its first byte
  pub cut_at_the_end : HasTextReason (codes "ab" ++ 195 ∷ []) (NotUtf8 2) (place 1 3)
  pub cut_within : HasTextReason (codes "ab" ++ 226 ∷ 130 ∷ codes "c") (NotUtf8 2) (place 1 3)
  -- one that is longer than it may be, a surrogate, and one above all characters
  pub too_long : HasTextReason (codes "a" ++ 192 ∷ 175 ∷ []) (NotUtf8 1) (place 1 2)
  pub surrogate : HasTextReason (codes "a" ++ 237 ∷ 160 ∷ 128 ∷ []) (NotUtf8 1) (place 1 2)
  pub too_great : HasTextReason (codes "a" ++ 244 ∷ 144 ∷ 128 ∷ 128 ∷ []) (NotUtf8 1) (place 1 2)
  -- a character of two bytes is one column
  pub behind_two_bytes : HasTextReason (encode_utf8_all (codes "é") ++ 255 ∷ []) (NotUtf8 2) (place 1 2)
  pub in_the_second_line : HasTextReason (codes "ab" ++ 10 ∷ codes "c" ++ 255 ∷ []) (NotUtf8 4) (place 2 2)
  -- what stands before it, a token that breaks, is not told
  pub behind_a_broken_token : HasTextReason (codes "@" ++ 255 ∷ []) (NotUtf8 1) (place 1 2)

-- A token is found where others are wanted, or the end is.
pub record UnwantedTokens : Type 0 where
  pub end_for_a_name : HasTextReason (codes "def") (Unwanted None (kinds.Name ∷ kinds_of (words.Rec ∷ []) [])) (place 1 4)
  pub end_for_a_dot : HasTextReason (codes "import m") (Unwanted None (kinds_of [] (symbols.Dot ∷ []))) (place 1 9)
  pub number_for_a_name : HasTextReason
      (codes "def 1 = 2")
      (Unwanted (Some (NumberLexeme (pos 1))) (kinds.Name ∷ kinds_of (words.Rec ∷ []) [])) (place 1 5)
  pub no_beginning : HasTextReason
      (codes "= 1")
      (Unwanted (Some (SymbolLexeme symbols.Equals)) (kinds_of (words.Import ∷ words.Def ∷ []) [])) (place 1 1)
  -- behind a definition no import stands, but another definition, or the expression goes on
  pub import_behind_a_definition : HasTextReason
      (codes "def a = 1 import")
      (Unwanted (Some (WordLexeme words.Import)) (kinds_of (words.Def ∷ []) (symbols.Open ∷ symbols.OpenBracket
      ∷ symbols.Dot ∷ symbols.DoubleEquals ∷ symbols.Less ∷ symbols.Plus ∷ symbols.Minus ∷ symbols.Star ∷ [])))
      (place 1 11)

-- A tree is too high.
pub record HighTrees : Type 0 where
  pub right_side_of_a_val : HasTextReason
      (codes "def a = val x = " ++ repeated 99 (codes "(") ++ codes "1" ++ repeated 99 (codes ")") ++ codes "; x")
      TooHigh (place 1 115)
  pub body_of_a_function : HasTextReason
      (codes "def a = fun (x: Int) => " ++ repeated 99 (codes "(") ++ codes "1" ++ repeated 99 (codes ")"))
      TooHigh (place 1 123)
