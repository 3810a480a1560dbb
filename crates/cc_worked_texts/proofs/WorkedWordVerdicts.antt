-- Texts with names, reserved words and symbols.
use Rattle.std.proofs.Common.{refl, codes, [], ◌∷◌, ◌++◌}
use Rattle.std.specs.Prelude.{encode_utf8_all}
use Rattle.cc_base.specs.declared.code.Code.TheVariants.{E02, E03}
use Rattle.cc_worked_texts.specs.TextVerdicts.{place, repeated, lines}
use Rattle.cc_worked_texts.specs.WordVerdicts as example
use Rattle.cc_worked_texts.proofs.ComputedModules.{text_computing, letters_computing, refused, accepted}

pub names : example.NameTexts
unfolding letters_computing
names = record {
  capitals_and_digits = accepted 9 (codes "def aZz_09 = 1") (codes "aZz_09: Int" ∷ []) refl;
  capital = accepted 9 (codes "def Z = 1") (codes "Z: Int" ∷ []) refl;
  one_letter = accepted 9 (codes "def z = 1") (codes "z: Int" ∷ []) refl;
  underscores = accepted 9 (codes "def a__ = 1") (codes "a__: Int" ∷ []) refl;
  long_name = accepted 9 (codes "def " ++ repeated 300 (codes "a") ++ codes " = 1") ((repeated 300 (codes "a") ++ codes ": Int") ∷ []) refl;
  underscore_in_front = refused 9 (codes "def _a = 1") E02 (place 1 5) refl;
  underscore_alone = refused 9 (codes "def _ = 1") E02 (place 1 5) refl;
  dollar_in_front = refused 9 (codes "def $a = 1") E02 (place 1 5) refl;
  digit_in_front = refused 9 (codes "def 1a = 1") E03 (place 1 5) refl;
  combining_in_front = refused 9 (encode_utf8_all (codes "def ́a = 1")) E02 (place 1 5) refl;
  middle_dot_in_front = refused 9 (encode_utf8_all (codes "def ·a = 1")) E02 (place 1 5) refl;
  other_digit_in_front = refused 9 (encode_utf8_all (codes "def \u{661}a = 1")) E02 (place 1 5) refl;
  emoji = refused 9 (encode_utf8_all (codes "def 😀 = 1")) E02 (place 1 5) refl;
  letter_behind = accepted 9 (encode_utf8_all (codes "def aé = 1")) (encode_utf8_all (codes "aé: Int") ∷ []) refl;
  letters_alone = accepted 9 (encode_utf8_all (codes "def é語𝐱 = 1")) (encode_utf8_all (codes "é語𝐱: Int") ∷ []) refl;
  combining_behind = accepted 9 (encode_utf8_all (codes "def é = 1")) (encode_utf8_all (codes "é: Int") ∷ []) refl;
  middle_dot_behind = accepted 9 (encode_utf8_all (codes "def a·b = 1")) (encode_utf8_all (codes "a·b: Int") ∷ []) refl;
  other_digit_behind = accepted 9 (encode_utf8_all (codes "def a\u{661} = 1")) (encode_utf8_all (codes "a\u{661}: Int") ∷ []) refl;
  letter_of_four_bytes_behind = accepted 9 (encode_utf8_all (codes "def a𝐱 = 1")) (encode_utf8_all (codes "a𝐱: Int") ∷ []) refl;
  quote_behind = refused 9 (codes "def a' = 1") E02 (place 1 6) refl;
  dollar_behind = refused 9 (codes "def a$ = 1") E02 (place 1 6) refl;
  question_behind = refused 9 (codes "def a? = 1") E03 (place 1 6) refl;
  exclamation_behind = refused 9 (codes "def a! = 1") E02 (place 1 6) refl;
  minus_behind = refused 9 (codes "def a-b = 1") E03 (place 1 6) refl;
  emoji_behind = refused 9 (encode_utf8_all (codes "def a😀 = 1")) E02 (place 1 6) refl;
  soft_hyphen = refused 9 (encode_utf8_all (codes "def a\u{ad}b = 1")) E02 (place 1 6) refl;
  capitals = accepted 9 (codes "def a = 1 def A = 2") (codes "a: Int" ∷ codes "A: Int" ∷ []) refl;
  composed = accepted 9 (encode_utf8_all (codes "def é = 1 def é = 2")) (encode_utf8_all (codes "é: Int") ∷ encode_utf8_all (codes "é: Int") ∷ []) refl;
}

pub reserved : example.ReservedWords
unfolding text_computing
reserved = record {
  word_import = refused 9 (codes "def import = 1") E03 (place 1 5) refl;
  word_def = refused 9 (codes "def def = 1") E03 (place 1 5) refl;
  word_fun = refused 9 (codes "def fun = 1") E03 (place 1 5) refl;
  word_val = refused 9 (codes "def val = 1") E03 (place 1 5) refl;
  word_if = refused 9 (codes "def if = 1") E03 (place 1 5) refl;
  word_then = refused 9 (codes "def then = 1") E03 (place 1 5) refl;
  word_else = refused 9 (codes "def else = 1") E03 (place 1 5) refl;
  word_box = refused 9 (codes "def box = 1") E03 (place 1 5) refl;
  word_unbox = refused 9 (codes "def unbox = 1") E03 (place 1 5) refl;
  word_boundary = refused 9 (codes "def boundary = 1") E03 (place 1 5) refl;
  word_exit = refused 9 (codes "def exit = 1") E03 (place 1 5) refl;
  word_repeat = refused 9 (codes "def repeat = 1") E03 (place 1 5) refl;
  word_true = refused 9 (codes "def true = 1") E03 (place 1 5) refl;
  word_false = refused 9 (codes "def false = 1") E03 (place 1 5) refl;
  word_unit = refused 9 (codes "def unit = 1") E03 (place 1 5) refl;
  word_cap = refused 9 (codes "def cap = 1") E03 (place 1 5) refl;
  shape_unit = refused 9 (codes "def Unit = 1") E03 (place 1 5) refl;
  shape_bool = refused 9 (codes "def Bool = 1") E03 (place 1 5) refl;
  shape_int = refused 9 (codes "def Int = 1") E03 (place 1 5) refl;
  shape_str = refused 9 (codes "def Str = 1") E03 (place 1 5) refl;
  shape_any = refused 9 (codes "def Any = 1") E03 (place 1 5) refl;
  shape_console = refused 9 (codes "def Console = 1") E03 (place 1 5) refl;
  shape_file = refused 9 (codes "def File = 1") E03 (place 1 5) refl;
  shape_counter = refused 9 (codes "def Counter = 1") E03 (place 1 5) refl;
  shape_exit = refused 9 (codes "def Exit = 1") E03 (place 1 5) refl;
  shape_box = refused 9 (codes "def Box = 1") E03 (place 1 5) refl;
  word_rec = refused 9 (codes "def rec = 1") E03 (place 1 9) refl;
}

pub others : example.OtherWords
unfolding text_computing
others = record {
  longer = accepted 9 (lines (codes "def imports = 1" ∷ codes "def defs = 1" ∷ codes "def recs = 1" ∷ codes "def funs = 1" ∷ codes "def vals = 1" ∷ codes "def ifs = 1" ∷ codes "def thens = 1" ∷ codes "def elses = 1" ∷ codes "def boxes = 1" ∷ codes "def unboxes = 1" ∷ codes "def boundary1 = 1" ∷ codes "def exits = 1" ∷ codes "def repeats = 1" ∷ codes "def trues = 1" ∷ codes "def falses = 1" ∷ codes "def units = 1" ∷ codes "def caps = 1" ∷ codes "def Units = 1" ∷ codes "def Bools = 1" ∷ codes "def Ints = 1" ∷ codes "def Strs = 1" ∷ codes "def Anys = 1" ∷ codes "def Consoles = 1" ∷ codes "def Files = 1" ∷ codes "def Counters = 1" ∷ codes "def Exits = 1" ∷ codes "def Boxes = 1" ∷ [])) (codes "imports: Int" ∷ codes "defs: Int" ∷ codes "recs: Int" ∷ codes "funs: Int" ∷ codes "vals: Int" ∷ codes "ifs: Int" ∷ codes "thens: Int" ∷ codes "elses: Int" ∷ codes "boxes: Int" ∷ codes "unboxes: Int" ∷ codes "boundary1: Int" ∷ codes "exits: Int" ∷ codes "repeats: Int" ∷ codes "trues: Int" ∷ codes "falses: Int" ∷ codes "units: Int" ∷ codes "caps: Int" ∷ codes "Units: Int" ∷ codes "Bools: Int" ∷ codes "Ints: Int" ∷ codes "Strs: Int" ∷ codes "Anys: Int" ∷ codes "Consoles: Int" ∷ codes "Files: Int" ∷ codes "Counters: Int" ∷ codes "Exits: Int" ∷ codes "Boxes: Int" ∷ []) refl;
  shorter = accepted 9 (lines (codes "def impor = 1" ∷ codes "def de = 1" ∷ codes "def re = 1" ∷ codes "def fu = 1" ∷ codes "def va = 1" ∷ codes "def i = 1" ∷ codes "def the = 1" ∷ codes "def els = 1" ∷ codes "def bo = 1" ∷ codes "def unbo = 1" ∷ codes "def boundar = 1" ∷ codes "def exi = 1" ∷ codes "def repea = 1" ∷ codes "def tru = 1" ∷ codes "def fals = 1" ∷ codes "def uni = 1" ∷ codes "def ca = 1" ∷ codes "def Uni = 1" ∷ codes "def Boo = 1" ∷ codes "def In = 1" ∷ codes "def St = 1" ∷ codes "def An = 1" ∷ codes "def Consol = 1" ∷ codes "def Fil = 1" ∷ codes "def Counte = 1" ∷ codes "def Exi = 1" ∷ codes "def Bo = 1" ∷ [])) (codes "impor: Int" ∷ codes "de: Int" ∷ codes "re: Int" ∷ codes "fu: Int" ∷ codes "va: Int" ∷ codes "i: Int" ∷ codes "the: Int" ∷ codes "els: Int" ∷ codes "bo: Int" ∷ codes "unbo: Int" ∷ codes "boundar: Int" ∷ codes "exi: Int" ∷ codes "repea: Int" ∷ codes "tru: Int" ∷ codes "fals: Int" ∷ codes "uni: Int" ∷ codes "ca: Int" ∷ codes "Uni: Int" ∷ codes "Boo: Int" ∷ codes "In: Int" ∷ codes "St: Int" ∷ codes "An: Int" ∷ codes "Consol: Int" ∷ codes "Fil: Int" ∷ codes "Counte: Int" ∷ codes "Exi: Int" ∷ codes "Bo: Int" ∷ []) refl;
  other_case = accepted 9 (lines (codes "def Import = 1" ∷ codes "def Def = 1" ∷ codes "def Rec = 1" ∷ codes "def Fun = 1" ∷ codes "def Val = 1" ∷ codes "def If = 1" ∷ codes "def Then = 1" ∷ codes "def Else = 1" ∷ codes "def Unbox = 1" ∷ codes "def Boundary = 1" ∷ codes "def Repeat = 1" ∷ codes "def True = 1" ∷ codes "def False = 1" ∷ codes "def UNIT = 1" ∷ codes "def Cap = 1" ∷ codes "def CAP = 1" ∷ codes "def bool = 1" ∷ codes "def int = 1" ∷ codes "def str = 1" ∷ codes "def any = 1" ∷ codes "def console = 1" ∷ codes "def file = 1" ∷ codes "def counter = 1" ∷ codes "def EXIT = 1" ∷ codes "def BOX = 1" ∷ codes "def INT = 1" ∷ codes "def IF = 1" ∷ codes "def VAL = 1" ∷ codes "def DEF = 1" ∷ codes "def REC = 1" ∷ codes "def ELSE = 1" ∷ codes "def THEN = 1" ∷ codes "def STR = 1" ∷ codes "def ANY = 1" ∷ codes "def Exit1 = 1" ∷ codes "def String = 1" ∷ codes "def Number = 1" ∷ [])) (codes "Import: Int" ∷ codes "Def: Int" ∷ codes "Rec: Int" ∷ codes "Fun: Int" ∷ codes "Val: Int" ∷ codes "If: Int" ∷ codes "Then: Int" ∷ codes "Else: Int" ∷ codes "Unbox: Int" ∷ codes "Boundary: Int" ∷ codes "Repeat: Int" ∷ codes "True: Int" ∷ codes "False: Int" ∷ codes "UNIT: Int" ∷ codes "Cap: Int" ∷ codes "CAP: Int" ∷ codes "bool: Int" ∷ codes "int: Int" ∷ codes "str: Int" ∷ codes "any: Int" ∷ codes "console: Int" ∷ codes "file: Int" ∷ codes "counter: Int" ∷ codes "EXIT: Int" ∷ codes "BOX: Int" ∷ codes "INT: Int" ∷ codes "IF: Int" ∷ codes "VAL: Int" ∷ codes "DEF: Int" ∷ codes "REC: Int" ∷ codes "ELSE: Int" ∷ codes "THEN: Int" ∷ codes "STR: Int" ∷ codes "ANY: Int" ∷ codes "Exit1: Int" ∷ codes "String: Int" ∷ codes "Number: Int" ∷ []) refl;
  with_underscores = accepted 9 (lines (codes "def else_ = 1" ∷ codes "def then_ = 1" ∷ codes "def exit_ = 1" ∷ codes "def Str_ = 1" ∷ codes "def Any_ = 1" ∷ codes "def File_ = 1" ∷ codes "def import_ = 1" ∷ codes "def def_ = 1" ∷ codes "def rec_ = 1" ∷ codes "def fun_ = 1" ∷ codes "def val_ = 1" ∷ codes "def if_ = 1" ∷ codes "def box_ = 1" ∷ codes "def unit_ = 1" ∷ codes "def cap_ = 1" ∷ codes "def Int_ = 1" ∷ codes "def Box_ = 1" ∷ [])) (codes "else_: Int" ∷ codes "then_: Int" ∷ codes "exit_: Int" ∷ codes "Str_: Int" ∷ codes "Any_: Int" ∷ codes "File_: Int" ∷ codes "import_: Int" ∷ codes "def_: Int" ∷ codes "rec_: Int" ∷ codes "fun_: Int" ∷ codes "val_: Int" ∷ codes "if_: Int" ∷ codes "box_: Int" ∷ codes "unit_: Int" ∷ codes "cap_: Int" ∷ codes "Int_: Int" ∷ codes "Box_: Int" ∷ []) refl;
  other_words = accepted 9 (lines (codes "def let = 1" ∷ codes "def in = 1" ∷ codes "def type = 1" ∷ codes "def set = 1" ∷ codes "def while = 1" ∷ codes "def for = 1" ∷ codes "def match = 1" ∷ codes "def return = 1" ∷ codes "def print = 1" ∷ codes "def say = 1" ∷ codes "def read = 1" ∷ codes "def write = 1" ∷ codes "def tick = 1" ∷ codes "def main = 1" ∷ codes "def exitbox = 1" ∷ codes "def boxInt = 1" ∷ codes "def Str1 = 1" ∷ codes "def of = 1" ∷ codes "def string = 1" ∷ codes "def Void = 1" ∷ codes "def Nothing = 1" ∷ codes "def pub = 1" ∷ codes "def do = 1" ∷ codes "def case = 1" ∷ codes "def end = 1" ∷ codes "def where = 1" ∷ codes "def with = 1" ∷ codes "def var = 1" ∷ codes "def const = 1" ∷ codes "def function = 1" ∷ codes "def and = 1" ∷ codes "def or = 1" ∷ codes "def not = 1" ∷ codes "def module = 1" ∷ codes "def export = 1" ∷ codes "def from = 1" ∷ codes "def use = 1" ∷ codes "def self = 1" ∷ codes "def null = 1" ∷ codes "def nil = 1" ∷ codes "def None = 1" ∷ codes "def Some = 1" ∷ codes "def List = 1" ∷ codes "def Char = 1" ∷ codes "def Nat = 1" ∷ codes "def Top = 1" ∷ codes "def Never = 1" ∷ codes "def Object = 1" ∷ codes "def a = 1" ∷ codes "def b = 1" ∷ codes "def x = 1" ∷ codes "def X = 1" ∷ codes "def T = 1" ∷ [])) (codes "let: Int" ∷ codes "in: Int" ∷ codes "type: Int" ∷ codes "set: Int" ∷ codes "while: Int" ∷ codes "for: Int" ∷ codes "match: Int" ∷ codes "return: Int" ∷ codes "print: Int" ∷ codes "say: Int" ∷ codes "read: Int" ∷ codes "write: Int" ∷ codes "tick: Int" ∷ codes "main: Int" ∷ codes "exitbox: Int" ∷ codes "boxInt: Int" ∷ codes "Str1: Int" ∷ codes "of: Int" ∷ codes "string: Int" ∷ codes "Void: Int" ∷ codes "Nothing: Int" ∷ codes "pub: Int" ∷ codes "do: Int" ∷ codes "case: Int" ∷ codes "end: Int" ∷ codes "where: Int" ∷ codes "with: Int" ∷ codes "var: Int" ∷ codes "const: Int" ∷ codes "function: Int" ∷ codes "and: Int" ∷ codes "or: Int" ∷ codes "not: Int" ∷ codes "module: Int" ∷ codes "export: Int" ∷ codes "from: Int" ∷ codes "use: Int" ∷ codes "self: Int" ∷ codes "null: Int" ∷ codes "nil: Int" ∷ codes "None: Int" ∷ codes "Some: Int" ∷ codes "List: Int" ∷ codes "Char: Int" ∷ codes "Nat: Int" ∷ codes "Top: Int" ∷ codes "Never: Int" ∷ codes "Object: Int" ∷ codes "a: Int" ∷ codes "b: Int" ∷ codes "x: Int" ∷ codes "X: Int" ∷ codes "T: Int" ∷ []) refl;
}

pub symbols : example.Symbols
unfolding letters_computing
symbols = record {
  times = refused 9 (encode_utf8_all (codes "def a = 1 × 2")) E02 (place 1 11) refl;
  minus = refused 9 (encode_utf8_all (codes "def a = 1 − 2")) E02 (place 1 11) refl;
  arrow = refused 9 (encode_utf8_all (codes "def a = fun (x: Int) → x")) E02 (place 1 22) refl;
  full_width_parenthesis = refused 9 (encode_utf8_all (codes "def a = （1)")) E02 (place 1 9) refl;
  bullet = refused 9 (encode_utf8_all (codes "def a = 1 • 2")) E02 (place 1 11) refl;
  at_most_sign = refused 9 (encode_utf8_all (codes "def a = 1 ≤ 2")) E02 (place 1 11) refl;
  curly_quotes = refused 9 (encode_utf8_all (codes "def a = “x”")) E02 (place 1 9) refl;
  ellipsis = refused 9 (encode_utf8_all (codes "def a = …")) E02 (place 1 9) refl;
  euro = refused 9 (encode_utf8_all (codes "def a = €")) E02 (place 1 9) refl;
  logical_and = refused 9 (encode_utf8_all (codes "def a = true ∧ true")) E02 (place 1 14) refl;
  exclamation = refused 9 (codes "def a = 1 ! 2") E02 (place 1 11) refl;
  number_sign = refused 9 (codes "def a = 1 # 2") E02 (place 1 11) refl;
  dollar = refused 9 (codes "def a = 1 $ 2") E02 (place 1 11) refl;
  percent = refused 9 (codes "def a = 1 % 2") E02 (place 1 11) refl;
  ampersand = refused 9 (codes "def a = 1 & 2") E02 (place 1 11) refl;
  single_quote = refused 9 (codes "def a = 1 ' 2") E02 (place 1 11) refl;
  greater = refused 9 (codes "def a = 1 > 2") E02 (place 1 11) refl;
  at_sign = refused 9 (codes "def a = 1 @ 2") E02 (place 1 11) refl;
  backslash = refused 9 (codes "def a = 1 \\ 2") E02 (place 1 11) refl;
  backquote = refused 9 (codes "def a = 1 ` 2") E02 (place 1 11) refl;
  bar = refused 9 (codes "def a = 1 | 2") E02 (place 1 11) refl;
  tilde = refused 9 (codes "def a = 1 ~ 2") E02 (place 1 11) refl;
  underscore = refused 9 (codes "def a = 1 _ 2") E02 (place 1 11) refl;
  not_equal = refused 9 (codes "def a = 1 != 2") E02 (place 1 11) refl;
  at_most = refused 9 (codes "def a = 1 <= 2") E03 (place 1 12) refl;
  at_least = refused 9 (codes "def a = 1 >= 2") E02 (place 1 11) refl;
  double_less = refused 9 (codes "def a = 1 << 2") E03 (place 1 12) refl;
  two_plus_signs = refused 9 (codes "def a = 1 ++ 2") E03 (place 1 12) refl;
  two_stars = refused 9 (codes "def a = 1 ** 2") E03 (place 1 12) refl;
  colon_and_equals = refused 9 (codes "def a := 1") E03 (place 1 8) refl;
  two_colons = refused 9 (codes "def a :: Int = 1") E03 (place 1 8) refl;
  two_ampersands = refused 9 (codes "def a = true && true") E02 (place 1 14) refl;
  equals_apart = refused 9 (codes "def a = 1 = = 1") E03 (place 1 11) refl;
  arrow_apart = refused 9 (codes "def a = fun (x: Int) = > x") E02 (place 1 24) refl;
  result_apart = refused 9 (codes "def a: (x: Int) - > Int = 1") E02 (place 1 19) refl;
  bound_apart = refused 9 (codes "def a = fun [X < : Int] => 1") E03 (place 1 16) refl;
  three_equals = refused 9 (codes "def a = 1 === 1") E03 (place 1 13) refl;
  minus_and_arrow = refused 9 (codes "def a = 1 --> 1") E03 (place 1 12) refl;
  equals_and_arrow = refused 9 (codes "def a ==> 1") E02 (place 1 9) refl;
  without_blanks = accepted 9 (codes "def a=fun[X<:Any]=>fun(x:Int)=>x*x-1==x+2") (codes "a: [_T0 <: Any] -> (_1: Int) -> Bool" ∷ []) refl;
}
