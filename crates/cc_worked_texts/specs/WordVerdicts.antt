-- Texts with names, reserved words and symbols.
use Rattle.std.specs.Prelude.{codes, [], ◌∷◌, ◌++◌, encode_utf8_all}
use Rattle.cc_base.specs.declared.code.Code.TheVariants.{E02, E03}
use Rattle.cc_worked_texts.specs.TextVerdicts.{place, repeated, lines, Refuses, Accepts}

-- Which characters names are of.
pub record NameTexts : Type 0 where
  pub capitals_and_digits : Accepts (codes "def aZz_09 = 1") (codes "aZz_09: Int" ∷ [])
  pub capital : Accepts (codes "def Z = 1") (codes "Z: Int" ∷ [])
  pub one_letter : Accepts (codes "def z = 1") (codes "z: Int" ∷ [])
  pub underscores : Accepts (codes "def a__ = 1") (codes "a__: Int" ∷ [])
  -- names may be long
  pub long_name : Accepts
      (codes "def " ++ repeated 300 (codes "a") ++ codes " = 1") ((repeated 300 (codes "a") ++ codes ": Int") ∷ [])
  -- no name begins with one of these
  pub underscore_in_front : Refuses (codes "def _a = 1") E02 (place 1 5)
  pub underscore_alone : Refuses (codes "def _ = 1") E02 (place 1 5)
  pub dollar_in_front : Refuses (codes "def $a = 1") E02 (place 1 5)
  pub digit_in_front : Refuses (codes "def 1a = 1") E03 (place 1 5)
  pub combining_in_front : Refuses (encode_utf8_all (codes "def ́a = 1")) E02 (place 1 5)
  pub middle_dot_in_front : Refuses (encode_utf8_all (codes "def ·a = 1")) E02 (place 1 5)
  pub other_digit_in_front : Refuses (encode_utf8_all (codes "def \u{661}a = 1")) E02 (place 1 5)
  pub emoji : Refuses (encode_utf8_all (codes "def 😀 = 1")) E02 (place 1 5)
  -- each that may continue an identifier goes on
  pub letter_behind : Accepts (encode_utf8_all (codes "def aé = 1")) (encode_utf8_all (codes "aé: Int") ∷ [])
  pub letters_alone : Accepts (encode_utf8_all (codes "def é語𝐱 = 1")) (encode_utf8_all (codes "é語𝐱: Int") ∷ [])
  pub combining_behind : Accepts
      (encode_utf8_all (codes "def é = 1")) (encode_utf8_all (codes "é: Int") ∷ [])
  pub middle_dot_behind : Accepts
      (encode_utf8_all (codes "def a·b = 1")) (encode_utf8_all (codes "a·b: Int") ∷ [])
  pub other_digit_behind : Accepts
      (encode_utf8_all (codes "def a\u{661} = 1")) (encode_utf8_all (codes "a\u{661}: Int") ∷ [])
  pub letter_of_four_bytes_behind : Accepts
      (encode_utf8_all (codes "def a𝐱 = 1")) (encode_utf8_all (codes "a𝐱: Int") ∷ [])
  -- and no other does
  pub quote_behind : Refuses (codes "def a' = 1") E02 (place 1 6)
  pub dollar_behind : Refuses (codes "def a$ = 1") E02 (place 1 6)
  pub question_behind : Refuses (codes "def a? = 1") E03 (place 1 6)
  pub exclamation_behind : Refuses (codes "def a! = 1") E02 (place 1 6)
  pub minus_behind : Refuses (codes "def a-b = 1") E03 (place 1 6)
  pub emoji_behind : Refuses (encode_utf8_all (codes "def a😀 = 1")) E02 (place 1 6)
  pub soft_hyphen : Refuses (encode_utf8_all (codes "def a\u{ad}b = 1")) E02 (place 1 6)
  -- names that differ in case are two
  pub capitals : Accepts (codes "def a = 1 def A = 2") (codes "a: Int" ∷ codes "A: Int" ∷ [])
  -- and so are those that look the same
  pub composed : Accepts
      (encode_utf8_all (codes "def é = 1 def é = 2"))
      (encode_utf8_all (codes "é: Int") ∷ encode_utf8_all (codes "é: Int") ∷ [])

-- No reserved word is a name.
pub record ReservedWords : Type 0 where
  pub word_import : Refuses (codes "def import = 1") E03 (place 1 5)
  pub word_def : Refuses (codes "def def = 1") E03 (place 1 5)
  pub word_fun : Refuses (codes "def fun = 1") E03 (place 1 5)
  pub word_val : Refuses (codes "def val = 1") E03 (place 1 5)
  pub word_if : Refuses (codes "def if = 1") E03 (place 1 5)
  pub word_then : Refuses (codes "def then = 1") E03 (place 1 5)
  pub word_else : Refuses (codes "def else = 1") E03 (place 1 5)
  pub word_box : Refuses (codes "def box = 1") E03 (place 1 5)
  pub word_unbox : Refuses (codes "def unbox = 1") E03 (place 1 5)
  pub word_boundary : Refuses (codes "def boundary = 1") E03 (place 1 5)
  pub word_exit : Refuses (codes "def exit = 1") E03 (place 1 5)
  pub word_repeat : Refuses (codes "def repeat = 1") E03 (place 1 5)
  pub word_true : Refuses (codes "def true = 1") E03 (place 1 5)
  pub word_false : Refuses (codes "def false = 1") E03 (place 1 5)
  pub word_unit : Refuses (codes "def unit = 1") E03 (place 1 5)
  pub word_cap : Refuses (codes "def cap = 1") E03 (place 1 5)
  pub shape_unit : Refuses (codes "def Unit = 1") E03 (place 1 5)
  pub shape_bool : Refuses (codes "def Bool = 1") E03 (place 1 5)
  pub shape_int : Refuses (codes "def Int = 1") E03 (place 1 5)
  pub shape_str : Refuses (codes "def Str = 1") E03 (place 1 5)
  pub shape_any : Refuses (codes "def Any = 1") E03 (place 1 5)
  pub shape_console : Refuses (codes "def Console = 1") E03 (place 1 5)
  pub shape_file : Refuses (codes "def File = 1") E03 (place 1 5)
  pub shape_counter : Refuses (codes "def Counter = 1") E03 (place 1 5)
  pub shape_exit : Refuses (codes "def Exit = 1") E03 (place 1 5)
  pub shape_box : Refuses (codes "def Box = 1") E03 (place 1 5)
  pub word_rec : Refuses (codes "def rec = 1") E03 (place 1 9)

-- What is close to a word, or a word of other languages, is a name.
pub record OtherWords : Type 0 where
  pub longer : Accepts
      (lines (codes "def imports = 1"
      ∷ codes "def defs = 1"
      ∷ codes "def recs = 1"
      ∷ codes "def funs = 1"
      ∷ codes "def vals = 1"
      ∷ codes "def ifs = 1"
      ∷ codes "def thens = 1"
      ∷ codes "def elses = 1"
      ∷ codes "def boxes = 1"
      ∷ codes "def unboxes = 1"
      ∷ codes "def boundary1 = 1"
      ∷ codes "def exits = 1"
      ∷ codes "def repeats = 1"
      ∷ codes "def trues = 1"
      ∷ codes "def falses = 1"
      ∷ codes "def units = 1"
      ∷ codes "def caps = 1"
      ∷ codes "def Units = 1"
      ∷ codes "def Bools = 1"
      ∷ codes "def Ints = 1"
      ∷ codes "def Strs = 1"
      ∷ codes "def Anys = 1"
      ∷ codes "def Consoles = 1"
      ∷ codes "def Files = 1"
      ∷ codes "def Counters = 1"
      ∷ codes "def Exits = 1"
      ∷ codes "def Boxes = 1" ∷ []))
      (codes "imports: Int" ∷ codes "defs: Int" ∷ codes "recs: Int" ∷ codes "funs: Int" ∷ codes "vals: Int"
      ∷ codes "ifs: Int" ∷ codes "thens: Int" ∷ codes "elses: Int" ∷ codes "boxes: Int" ∷ codes "unboxes: Int"
      ∷ codes "boundary1: Int" ∷ codes "exits: Int" ∷ codes "repeats: Int" ∷ codes "trues: Int"
      ∷ codes "falses: Int" ∷ codes "units: Int" ∷ codes "caps: Int" ∷ codes "Units: Int" ∷ codes "Bools: Int"
      ∷ codes "Ints: Int" ∷ codes "Strs: Int" ∷ codes "Anys: Int" ∷ codes "Consoles: Int" ∷ codes "Files: Int"
      ∷ codes "Counters: Int" ∷ codes "Exits: Int" ∷ codes "Boxes: Int" ∷ [])
  pub shorter : Accepts
      (lines (codes "def impor = 1"
      ∷ codes "def de = 1"
      ∷ codes "def re = 1"
      ∷ codes "def fu = 1"
      ∷ codes "def va = 1"
      ∷ codes "def i = 1"
      ∷ codes "def the = 1"
      ∷ codes "def els = 1"
      ∷ codes "def bo = 1"
      ∷ codes "def unbo = 1"
      ∷ codes "def boundar = 1"
      ∷ codes "def exi = 1"
      ∷ codes "def repea = 1"
      ∷ codes "def tru = 1"
      ∷ codes "def fals = 1"
      ∷ codes "def uni = 1"
      ∷ codes "def ca = 1"
      ∷ codes "def Uni = 1"
      ∷ codes "def Boo = 1"
      ∷ codes "def In = 1"
      ∷ codes "def St = 1"
      ∷ codes "def An = 1"
      ∷ codes "def Consol = 1"
      ∷ codes "def Fil = 1"
      ∷ codes "def Counte = 1"
      ∷ codes "def Exi = 1"
      ∷ codes "def Bo = 1" ∷ []))
      (codes "impor: Int" ∷ codes "de: Int" ∷ codes "re: Int" ∷ codes "fu: Int" ∷ codes "va: Int"
      ∷ codes "i: Int" ∷ codes "the: Int" ∷ codes "els: Int" ∷ codes "bo: Int" ∷ codes "unbo: Int"
      ∷ codes "boundar: Int" ∷ codes "exi: Int" ∷ codes "repea: Int" ∷ codes "tru: Int" ∷ codes "fals: Int"
      ∷ codes "uni: Int" ∷ codes "ca: Int" ∷ codes "Uni: Int" ∷ codes "Boo: Int" ∷ codes "In: Int"
      ∷ codes "St: Int" ∷ codes "An: Int" ∷ codes "Consol: Int" ∷ codes "Fil: Int" ∷ codes "Counte: Int"
      ∷ codes "Exi: Int" ∷ codes "Bo: Int" ∷ [])
  pub other_case : Accepts
      (lines (codes "def Import = 1"
      ∷ codes "def Def = 1"
      ∷ codes "def Rec = 1"
      ∷ codes "def Fun = 1"
      ∷ codes "def Val = 1"
      ∷ codes "def If = 1"
      ∷ codes "def Then = 1"
      ∷ codes "def Else = 1"
      ∷ codes "def Unbox = 1"
      ∷ codes "def Boundary = 1"
      ∷ codes "def Repeat = 1"
      ∷ codes "def True = 1"
      ∷ codes "def False = 1"
      ∷ codes "def UNIT = 1"
      ∷ codes "def Cap = 1"
      ∷ codes "def CAP = 1"
      ∷ codes "def bool = 1"
      ∷ codes "def int = 1"
      ∷ codes "def str = 1"
      ∷ codes "def any = 1"
      ∷ codes "def console = 1"
      ∷ codes "def file = 1"
      ∷ codes "def counter = 1"
      ∷ codes "def EXIT = 1"
      ∷ codes "def BOX = 1"
      ∷ codes "def INT = 1"
      ∷ codes "def IF = 1"
      ∷ codes "def VAL = 1"
      ∷ codes "def DEF = 1"
      ∷ codes "def REC = 1"
      ∷ codes "def ELSE = 1"
      ∷ codes "def THEN = 1"
      ∷ codes "def STR = 1"
      ∷ codes "def ANY = 1"
      ∷ codes "def Exit1 = 1"
      ∷ codes "def String = 1"
      ∷ codes "def Number = 1" ∷ []))
      (codes "Import: Int" ∷ codes "Def: Int" ∷ codes "Rec: Int" ∷ codes "Fun: Int" ∷ codes "Val: Int"
      ∷ codes "If: Int" ∷ codes "Then: Int" ∷ codes "Else: Int" ∷ codes "Unbox: Int" ∷ codes "Boundary: Int"
      ∷ codes "Repeat: Int" ∷ codes "True: Int" ∷ codes "False: Int" ∷ codes "UNIT: Int" ∷ codes "Cap: Int"
      ∷ codes "CAP: Int" ∷ codes "bool: Int" ∷ codes "int: Int" ∷ codes "str: Int" ∷ codes "any: Int"
      ∷ codes "console: Int" ∷ codes "file: Int" ∷ codes "counter: Int" ∷ codes "EXIT: Int" ∷ codes "BOX: Int"
      ∷ codes "INT: Int" ∷ codes "IF: Int" ∷ codes "VAL: Int" ∷ codes "DEF: Int" ∷ codes "REC: Int"
      ∷ codes "ELSE: Int" ∷ codes "THEN: Int" ∷ codes "STR: Int" ∷ codes "ANY: Int" ∷ codes "Exit1: Int"
      ∷ codes "String: Int" ∷ codes "Number: Int" ∷ [])
  pub with_underscores : Accepts
      (lines (codes "def else_ = 1"
      ∷ codes "def then_ = 1"
      ∷ codes "def exit_ = 1"
      ∷ codes "def Str_ = 1"
      ∷ codes "def Any_ = 1"
      ∷ codes "def File_ = 1"
      ∷ codes "def import_ = 1"
      ∷ codes "def def_ = 1"
      ∷ codes "def rec_ = 1"
      ∷ codes "def fun_ = 1"
      ∷ codes "def val_ = 1"
      ∷ codes "def if_ = 1"
      ∷ codes "def box_ = 1"
      ∷ codes "def unit_ = 1"
      ∷ codes "def cap_ = 1"
      ∷ codes "def Int_ = 1"
      ∷ codes "def Box_ = 1" ∷ []))
      (codes "else_: Int" ∷ codes "then_: Int" ∷ codes "exit_: Int" ∷ codes "Str_: Int" ∷ codes "Any_: Int"
      ∷ codes "File_: Int" ∷ codes "import_: Int" ∷ codes "def_: Int" ∷ codes "rec_: Int" ∷ codes "fun_: Int"
      ∷ codes "val_: Int" ∷ codes "if_: Int" ∷ codes "box_: Int" ∷ codes "unit_: Int" ∷ codes "cap_: Int"
      ∷ codes "Int_: Int" ∷ codes "Box_: Int" ∷ [])
  pub other_words : Accepts
      (lines (codes "def let = 1"
      ∷ codes "def in = 1"
      ∷ codes "def type = 1"
      ∷ codes "def set = 1"
      ∷ codes "def while = 1"
      ∷ codes "def for = 1"
      ∷ codes "def match = 1"
      ∷ codes "def return = 1"
      ∷ codes "def print = 1"
      ∷ codes "def say = 1"
      ∷ codes "def read = 1"
      ∷ codes "def write = 1"
      ∷ codes "def tick = 1"
      ∷ codes "def main = 1"
      ∷ codes "def exitbox = 1"
      ∷ codes "def boxInt = 1"
      ∷ codes "def Str1 = 1"
      ∷ codes "def of = 1"
      ∷ codes "def string = 1"
      ∷ codes "def Void = 1"
      ∷ codes "def Nothing = 1"
      ∷ codes "def pub = 1"
      ∷ codes "def do = 1"
      ∷ codes "def case = 1"
      ∷ codes "def end = 1"
      ∷ codes "def where = 1"
      ∷ codes "def with = 1"
      ∷ codes "def var = 1"
      ∷ codes "def const = 1"
      ∷ codes "def function = 1"
      ∷ codes "def and = 1"
      ∷ codes "def or = 1"
      ∷ codes "def not = 1"
      ∷ codes "def module = 1"
      ∷ codes "def export = 1"
      ∷ codes "def from = 1"
      ∷ codes "def use = 1"
      ∷ codes "def self = 1"
      ∷ codes "def null = 1"
      ∷ codes "def nil = 1"
      ∷ codes "def None = 1"
      ∷ codes "def Some = 1"
      ∷ codes "def List = 1"
      ∷ codes "def Char = 1"
      ∷ codes "def Nat = 1"
      ∷ codes "def Top = 1"
      ∷ codes "def Never = 1"
      ∷ codes "def Object = 1"
      ∷ codes "def a = 1"
      ∷ codes "def b = 1"
      ∷ codes "def x = 1"
      ∷ codes "def X = 1"
      ∷ codes "def T = 1" ∷ []))
      (codes "let: Int" ∷ codes "in: Int" ∷ codes "type: Int" ∷ codes "set: Int" ∷ codes "while: Int"
      ∷ codes "for: Int" ∷ codes "match: Int" ∷ codes "return: Int" ∷ codes "print: Int" ∷ codes "say: Int"
      ∷ codes "read: Int" ∷ codes "write: Int" ∷ codes "tick: Int" ∷ codes "main: Int" ∷ codes "exitbox: Int"
      ∷ codes "boxInt: Int" ∷ codes "Str1: Int" ∷ codes "of: Int" ∷ codes "string: Int" ∷ codes "Void: Int"
      ∷ codes "Nothing: Int" ∷ codes "pub: Int" ∷ codes "do: Int" ∷ codes "case: Int" ∷ codes "end: Int"
      ∷ codes "where: Int" ∷ codes "with: Int" ∷ codes "var: Int" ∷ codes "const: Int" ∷ codes "function: Int"
      ∷ codes "and: Int" ∷ codes "or: Int" ∷ codes "not: Int" ∷ codes "module: Int" ∷ codes "export: Int"
      ∷ codes "from: Int" ∷ codes "use: Int" ∷ codes "self: Int" ∷ codes "null: Int" ∷ codes "nil: Int"
      ∷ codes "None: Int" ∷ codes "Some: Int" ∷ codes "List: Int" ∷ codes "Char: Int" ∷ codes "Nat: Int"
      ∷ codes "Top: Int" ∷ codes "Never: Int" ∷ codes "Object: Int" ∷ codes "a: Int" ∷ codes "b: Int"
      ∷ codes "x: Int" ∷ codes "X: Int" ∷ codes "T: Int" ∷ [])

-- Which symbols there are, and where they end.
pub record Symbols : Type 0 where
  pub times : Refuses (encode_utf8_all (codes "def a = 1 × 2")) E02 (place 1 11)
  pub minus : Refuses (encode_utf8_all (codes "def a = 1 − 2")) E02 (place 1 11)
  pub arrow : Refuses (encode_utf8_all (codes "def a = fun (x: Int) → x")) E02 (place 1 22)
  pub full_width_parenthesis : Refuses (encode_utf8_all (codes "def a = （1)")) E02 (place 1 9)
  pub bullet : Refuses (encode_utf8_all (codes "def a = 1 • 2")) E02 (place 1 11)
  pub at_most_sign : Refuses (encode_utf8_all (codes "def a = 1 ≤ 2")) E02 (place 1 11)
  pub curly_quotes : Refuses (encode_utf8_all (codes "def a = “x”")) E02 (place 1 9)
  pub ellipsis : Refuses (encode_utf8_all (codes "def a = …")) E02 (place 1 9)
  pub euro : Refuses (encode_utf8_all (codes "def a = €")) E02 (place 1 9)
  pub logical_and : Refuses (encode_utf8_all (codes "def a = true ∧ true")) E02 (place 1 14)
  pub exclamation : Refuses (codes "def a = 1 ! 2") E02 (place 1 11)
  pub number_sign : Refuses (codes "def a = 1 # 2") E02 (place 1 11)
  pub dollar : Refuses (codes "def a = 1 $ 2") E02 (place 1 11)
  pub percent : Refuses (codes "def a = 1 % 2") E02 (place 1 11)
  pub ampersand : Refuses (codes "def a = 1 & 2") E02 (place 1 11)
  pub single_quote : Refuses (codes "def a = 1 ' 2") E02 (place 1 11)
  pub greater : Refuses (codes "def a = 1 > 2") E02 (place 1 11)
  pub at_sign : Refuses (codes "def a = 1 @ 2") E02 (place 1 11)
  pub backslash : Refuses (codes "def a = 1 \\ 2") E02 (place 1 11)
  pub backquote : Refuses (codes "def a = 1 ` 2") E02 (place 1 11)
  pub bar : Refuses (codes "def a = 1 | 2") E02 (place 1 11)
  pub tilde : Refuses (codes "def a = 1 ~ 2") E02 (place 1 11)
  pub underscore : Refuses (codes "def a = 1 _ 2") E02 (place 1 11)
  pub not_equal : Refuses (codes "def a = 1 != 2") E02 (place 1 11)
  -- `<` and `=`
  pub at_most : Refuses (codes "def a = 1 <= 2") E03 (place 1 12)
  pub at_least : Refuses (codes "def a = 1 >= 2") E02 (place 1 11)
  -- `<` and `<`
  pub double_less : Refuses (codes "def a = 1 << 2") E03 (place 1 12)
  pub two_plus_signs : Refuses (codes "def a = 1 ++ 2") E03 (place 1 12)
  pub two_stars : Refuses (codes "def a = 1 ** 2") E03 (place 1 12)
  pub colon_and_equals : Refuses (codes "def a := 1") E03 (place 1 8)
  pub two_colons : Refuses (codes "def a :: Int = 1") E03 (place 1 8)
  pub two_ampersands : Refuses (codes "def a = true && true") E02 (place 1 14)
  -- a symbol of two characters is not two symbols
  pub equals_apart : Refuses (codes "def a = 1 = = 1") E03 (place 1 11)
  pub arrow_apart : Refuses (codes "def a = fun (x: Int) = > x") E02 (place 1 24)
  pub result_apart : Refuses (codes "def a: (x: Int) - > Int = 1") E02 (place 1 19)
  pub bound_apart : Refuses (codes "def a = fun [X < : Int] => 1") E03 (place 1 16)
  -- the longest symbol counts
  pub three_equals : Refuses (codes "def a = 1 === 1") E03 (place 1 13)
  pub minus_and_arrow : Refuses (codes "def a = 1 --> 1") E03 (place 1 12)
  pub equals_and_arrow : Refuses (codes "def a ==> 1") E02 (place 1 9)
  pub without_blanks : Accepts
      (codes "def a=fun[X<:Any]=>fun(x:Int)=>x*x-1==x+2") (codes "a: [_T0 <: Any] -> (_1: Int) -> Bool" ∷ [])
