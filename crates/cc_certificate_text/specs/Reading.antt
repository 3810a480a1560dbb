-- Reading the lines of a certificate, step by step from the front. It goes the way of the code, and serves proofs.
use Rattle.std.specs.Prelude.{◌≡◌, ℕ, zero, suc, ◌-◌, pos, Bool, true, false, ◌&&◌, nat_lt, nat_le, ◌==◌, not, ◌||◌}
use Rattle.std.specs.Prelude.{List, [], ◌∷◌, ◌++◌, length, drop, codes, encode_utf8_all, Option, Some, None}
use Rattle.std.specs.Prelude.{if◌then◌else◌}
use Rattle.std.specs.Option.{option_map}
use Rattle.std.specs.List.{list_all}
use Rattle.std.specs.Char.{is_ascii_alphanumeric}
use Rattle.std.specs.Str.{bytes_eq, chars, is_utf8}
use Rattle.std.specs.declared.cmp.Ordering.{Ordering}
use Rattle.std.specs.Ordering.{match_ordering}
use Rattle.cc_base.specs.declared.literal.Base.{Base}
use Rattle.cc_base.specs.declared.literal.Base.TheVariants as bases
use Rattle.cc_base.specs.declared.literal.Op.{Op}
use Rattle.cc_base.specs.declared.literal.Op.TheVariants as operations
use Rattle.cc_base.specs.declared.literal.Operator.{Operator}
use Rattle.cc_base.specs.declared.literal.Operator.TheVariants as operators
use Rattle.cc_base.specs.Literals.{Literal, UnitLiteral, TruthLiteral, NumberLiteral, TextLiteral}
use Rattle.cc_capture.specs.declared.var.Var.{Var}
use Rattle.cc_capture.specs.declared.var.Var.TheVariants.{Bound, Free}
use Rattle.cc_capture.specs.declared.var.Elem.{Elem}
use Rattle.cc_capture.specs.declared.var.Elem.TheVariants.{Var as Variable, Cap}
use Rattle.cc_capture.specs.Elements.{element_order}
use Rattle.cc_capture.specs.Sets.{Set, from_list, empty}
use Rattle.cc_core.specs.Shapes.{Shape, BaseShape, AnyShape, TypeVariable, FunctionShape, TypeFunctionShape, BoxShape}
use Rattle.cc_core.specs.Shapes.{ExitShape, CapturingType, capturing}
use Rattle.cc_core.specs.Terms.{Note, Absent, Written, Term, VariableTerm, LiteralTerm, FunctionTerm}
use Rattle.cc_core.specs.Terms.{TypeFunctionTerm, BoxTerm, Application, TypeApplication, Unboxing, Let, Primitive}
use Rattle.cc_core.specs.Terms.{Conditional, Repetition, Operation, Boundary, Leave}
use Rattle.cc_words.specs.Words.{after_prefix, cut_at, split_at, first_and_rest, all_of, number_of, ◌>>=◌ as ◌>>>◌}
use Rattle.cc_lex.specs.Forms.{stands_in_string}
use Rattle.cc_print.specs.TypeTexts.{is_arrow}
use Rattle.cc_certificate_text.specs.Certificates.{takes_argument}

-- What a reader finds: what stands at the front of the bytes, and the bytes behind it; or nothing that it reads.
pub data Found (A : Type 0) : Type 0 where
  Got : (value : A) (rest : List ℕ) → Found A
  Wrong : Found A

abbrev pub Reader : Type 0 → Type 0
Reader A = List ℕ → Found A

infixl 10 ◌>>=◌
-- what is read next, behind what was found
abbrev pub ◌>>=◌ : {A B : Type 0} → Found A → (A → List ℕ → Found B) → Found B
Got value rest >>= next = next value rest
Wrong >>= next = Wrong

-- what is there, with the rest behind it
abbrev pub found_of : {A : Type 0} → Option A → List ℕ → Found A
found_of (Some value) rest = Got value rest
found_of None rest = Wrong

-- what is found, where the test holds
abbrev pub where_true : {A : Type 0} → Bool → Found A → Found A
where_true true found = found
where_true false found = Wrong

-- what is read behind a prefix where the bytes begin with it, or else what is read otherwise
unfoldable pub begun : {A : Type 0} → Option (List ℕ) → Reader A → Found A → Found A
begun (Some rest) inside otherwise = inside rest
begun None inside otherwise = otherwise

-- WORDS

-- a byte that stands in words: a letter, a digit, a low line, or of a character beyond ASCII
abbrev pub is_word_byte : ℕ → Bool
is_word_byte b = not (nat_lt b 128) || (is_ascii_alphanumeric b || (b == 95))

-- the word at the front, and what stands behind it
unfoldable pub word_at : List ℕ → List ℕ × List ℕ
word_at [] = ([], [])
word_at (b ∷ bs) = if is_word_byte b then (b ∷ (word_at bs).0, (word_at bs).1) else ([], b ∷ bs)

-- this text
unfoldable pub exact_at : List ℕ → Reader (Unit {0})
exact_at text bytes = begun (after_prefix bytes text) (λ rest. Got tt rest) Wrong

-- a number below 2^32
unfoldable pub number_at : Reader ℕ
number_at bytes = found_of (number_of 4294967295 (word_at bytes).0) (word_at bytes).1

-- this number
unfoldable pub same_number_at : ℕ → Reader (Unit {0})
same_number_at number bytes = number_at bytes >>= λ read rest. where_true (read == number) (Got tt rest)

-- VARIABLES AND SETS

-- How the local variables are numbered: by what is written, or by an index that counts binders from the innermost.
pub data Locals : Type 0 where
  Printed : Locals
  Counted : Locals

-- the variable of the index, where the test holds
abbrev pub bound_where : Bool → ℕ → Option Var
bound_where true index = Some (Bound index)
bound_where false index = None

-- the local variable of the number under so many binders
abbrev pub local_at : Locals → ℕ → ℕ → Option Var
local_at Printed depth number = Some (Bound number)
local_at Counted depth number = bound_where (nat_lt number depth) (depth - 1 - number)

-- the position of the first name that the word spells
abbrev pub spelled_position : List (List ℕ) → List ℕ → Option ℕ
spelled_position [] word = None
spelled_position (name ∷ names) word =
    if bytes_eq (encode_utf8_all name) word then Some zero else option_map suc (spelled_position names word)

-- the local variable of the digits
unfoldable pub local_of : Locals → ℕ → List ℕ → Option Var
local_of locals depth digits = number_of 4294967295 digits >>> local_at locals depth

-- the local variable of the digits behind a low line, or the variable of the position
abbrev pub variable_by : Locals → ℕ → Option (List ℕ) → Option ℕ → Option Var
variable_by locals depth (Some digits) position = local_of locals depth digits
variable_by locals depth None position = option_map Free position

-- the variable of terms that the word is
unfoldable pub variable_of : Locals → List (List ℕ) → ℕ → List ℕ → Option Var
variable_of locals names depth word =
    variable_by locals depth (after_prefix word (codes "_")) (spelled_position names word)

-- the element that the word is
unfoldable pub element_of : Locals → List (List ℕ) → ℕ → List ℕ → Option Elem
element_of locals names depth word =
    if bytes_eq word (codes "cap") then Some Cap else option_map Variable (variable_of locals names depth word)

-- an element behind a space
unfoldable pub other_of : Locals → List (List ℕ) → ℕ → List ℕ → Option Elem
other_of locals names depth word = after_prefix word (codes " ") >>> element_of locals names depth

abbrev pub is_less : Ordering → Bool
is_less ordering = match_ordering ordering true false false

-- whether the bound variables a and b stand in this order
abbrev pub bound_before : Locals → ℕ → ℕ → Bool
bound_before Printed a b = nat_lt a b
bound_before Counted a b = nat_lt b a

-- whether the element a, or the bound variable a, stands before the element in the text of a set
abbrev pub bound_before_element : Locals → ℕ → Elem → Bool
bound_before_element locals a (Variable (Bound b)) = bound_before locals a b
bound_before_element locals a e = is_less (element_order (Variable (Bound a)) e)

abbrev pub stands_before : Locals → Elem → Elem → Bool
stands_before locals (Variable (Bound a)) e = bound_before_element locals a e
stands_before locals a e = is_less (element_order a e)

-- whether each of the elements stands before the next one, and the last before them
abbrev pub stand_behind : Locals → Elem → List Elem → Bool
stand_behind locals last [] = true
stand_behind locals last (e ∷ es) = stands_before locals last e && stand_behind locals e es

abbrev pub stand_in_order : Locals → List Elem → Bool
stand_in_order locals [] = true
stand_in_order locals (e ∷ es) = stand_behind locals e es

-- the elements that the words are
unfoldable pub elements_of : Locals → List (List ℕ) → ℕ → List (List ℕ) → Option (List Elem)
elements_of locals names depth words =
    first_and_rest words >>> λ cut. element_of locals names depth cut.0 >>> λ first.
    option_map (λ others. first ∷ others) (all_of (other_of locals names depth) cut.1)

-- the set of the elements, where they stand in order
abbrev pub set_where : Bool → List Elem → Option Set
set_where true es = Some (from_list es)
set_where false es = None

-- the set of what stands between the braces
unfoldable pub set_of : Locals → List (List ℕ) → ℕ → List ℕ → Option Set
set_of locals names depth content =
    elements_of locals names depth (split_at 44 content) >>> λ es. set_where (stand_in_order locals es) es

-- the set of what was cut off
abbrev pub set_of_cut : Locals → List (List ℕ) → ℕ → Option (List ℕ × List ℕ) → Found Set
set_of_cut locals names depth (Some cut) = found_of (set_of locals names depth cut.0) cut.1
set_of_cut locals names depth None = Wrong

-- a set with elements, behind its first brace
unfoldable pub some_set_at : Locals → List (List ℕ) → ℕ → Reader Set
some_set_at locals names depth bytes = set_of_cut locals names depth (cut_at 125 bytes)

-- a set, behind its first brace
unfoldable pub set_at : Locals → List (List ℕ) → ℕ → Reader Set
set_at locals names depth bytes =
    begun (after_prefix bytes (codes "}")) (λ rest. Got empty rest) (some_set_at locals names depth bytes)

-- PARTS

-- the parts of a line that have a value
pub data Kind : Type 0 where
  ShapePart : Kind
  TypePart : Kind
  SetPart : Kind
  VariablePart : Kind
  NotePart : Kind
  TermPart : Kind

abbrev pub Value : Kind → Type 0
Value ShapePart = Shape
Value TypePart = CapturingType
Value SetPart = Set
Value VariablePart = Var
Value NotePart = Note
Value TermPart = Term

-- readers of the parts under so many binders
abbrev pub Readers : Type 0
Readers = (kind : Kind) → ℕ → Reader (Value kind)

-- What is read in turn: a text, the number of a binder, and parts, which may stand under the binder.
pub data Piece : Type 0 where
  Exact : (text : List ℕ) → Piece
  Binder : Piece
  Part : (kind : Kind) → Piece
  Under : (kind : Kind) → Piece

abbrev pub PieceValue : Piece → Type 0
PieceValue (Exact text) = Unit {0}
PieceValue Binder = Unit {0}
PieceValue (Part kind) = Value kind
PieceValue (Under kind) = Value kind

-- the values of the pieces, in order
abbrev pub Parts : List Piece → Type 0
Parts [] = Unit {0}
Parts (piece ∷ pieces) = PieceValue piece × Parts pieces

abbrev pub piece_at : Readers → ℕ → (piece : Piece) → Reader (PieceValue piece)
piece_at parts depth (Exact text) bytes = exact_at text bytes
piece_at parts depth Binder bytes = same_number_at depth bytes
piece_at parts depth (Part kind) bytes = parts kind depth bytes
piece_at parts depth (Under kind) bytes = parts kind (suc depth) bytes

-- the pieces, one behind the other
abbrev pub pieces_at : Readers → ℕ → (pieces : List Piece) → Reader (Parts pieces)
pieces_at parts depth [] bytes = Got tt bytes
pieces_at parts depth (piece ∷ pieces) bytes =
    piece_at parts depth piece bytes >>= λ value rest. pieces_at parts depth pieces rest >>= λ values behind.
    Got (value, values) behind

-- SHAPES AND TYPES

-- the base shape whose name stands at the front
unfoldable pub base_at : Reader Shape
base_at bytes =
    begun (after_prefix bytes (codes "Unit")) (λ rest. Got (BaseShape bases.Unit) rest)
    (begun (after_prefix bytes (codes "Bool")) (λ rest. Got (BaseShape bases.Bool) rest)
    (begun (after_prefix bytes (codes "Int")) (λ rest. Got (BaseShape bases.Int) rest)
    (begun (after_prefix bytes (codes "Str")) (λ rest. Got (BaseShape bases.Str) rest)
    (begun (after_prefix bytes (codes "Console")) (λ rest. Got (BaseShape bases.Console) rest)
    (begun (after_prefix bytes (codes "File")) (λ rest. Got (BaseShape bases.File) rest)
    (begun (after_prefix bytes (codes "Counter")) (λ rest. Got (BaseShape bases.Counter) rest) Wrong))))))

-- a type variable, behind `_T`
unfoldable pub type_variable_at : Locals → ℕ → Reader Shape
type_variable_at locals depth bytes =
    found_of (option_map TypeVariable (local_of locals depth (word_at bytes).0)) (word_at bytes).1

-- a shape with no parts
unfoldable pub leaf_at : Locals → ℕ → Reader Shape
leaf_at locals depth bytes =
    begun (after_prefix bytes (codes "_T")) (type_variable_at locals depth)
    (begun (after_prefix bytes (codes "Any")) (λ rest. Got AnyShape rest) (base_at bytes))

-- the shapes of more than a word
pub data ShapeRule : Type 0 where
  FunctionRule : ShapeRule
  TypeFunctionRule : ShapeRule
  BoxRule : ShapeRule
  ExitRule : ShapeRule

-- the pieces behind the first text
abbrev pub shape_pieces : ShapeRule → List Piece
shape_pieces FunctionRule =
    Binder ∷ Exact (codes ": ") ∷ Part TypePart ∷ Exact (codes ") -> ") ∷ Under TypePart ∷ []
shape_pieces TypeFunctionRule =
    Binder ∷ Exact (codes " <: ") ∷ Part ShapePart ∷ Exact (codes "] -> ") ∷ Under TypePart ∷ []
shape_pieces BoxRule = Part TypePart ∷ Exact (codes "]") ∷ []
shape_pieces ExitRule = Part ShapePart ∷ Exact (codes "]") ∷ []

-- the shape of these parts
abbrev pub shape_tree : (rule : ShapeRule) → Parts (shape_pieces rule) → Shape
shape_tree FunctionRule (number, (colon, (takes, (arrow, (gives, end))))) =
    FunctionShape takes.shape takes.set gives.shape gives.set
shape_tree TypeFunctionRule (number, (below, (bound, (arrow, (gives, end))))) =
    TypeFunctionShape bound gives.shape gives.set
shape_tree BoxRule (content, (close, end)) = BoxShape content.shape content.set
shape_tree ExitRule (gives, (close, end)) = ExitShape gives

unfoldable pub shape_rule_at : Readers → ShapeRule → ℕ → Reader Shape
shape_rule_at parts rule depth bytes =
    pieces_at parts depth (shape_pieces rule) bytes >>= λ values rest. Got (shape_tree rule values) rest

-- a shape, from readers of its parts
unfoldable pub shape_over : Locals → Readers → ℕ → Reader Shape
shape_over locals parts depth bytes =
    begun (after_prefix bytes (codes "(_")) (shape_rule_at parts FunctionRule depth)
    (begun (after_prefix bytes (codes "[_T")) (shape_rule_at parts TypeFunctionRule depth)
    (begun (after_prefix bytes (codes "Box[")) (shape_rule_at parts BoxRule depth)
    (begun (after_prefix bytes (codes "Exit[")) (shape_rule_at parts ExitRule depth)
    (leaf_at locals depth bytes))))

-- the type of the shape, with the set behind `^` if one is there
unfoldable pub captured_at : Locals → List (List ℕ) → ℕ → Shape → Reader CapturingType
captured_at locals names depth shape bytes =
    begun (after_prefix bytes (codes "^{"))
    (λ rest. some_set_at locals names depth rest >>= λ set behind. Got (capturing shape set) behind)
    (Got (capturing shape empty) bytes)

-- a type that begins with an arrow in parentheses, behind the first of them
unfoldable pub arrow_type_at : Locals → List (List ℕ) → Reader Shape → ℕ → Reader CapturingType
arrow_type_at locals names shape_here depth bytes =
    shape_here bytes >>= λ shape rest. where_true (is_arrow shape) (exact_at (codes ")^{") rest) >>= λ close rest.
    some_set_at locals names depth rest >>= λ set behind. Got (capturing shape set) behind

-- any other type
unfoldable pub plain_type_at : Locals → List (List ℕ) → Reader Shape → ℕ → Reader CapturingType
plain_type_at locals names shape_here depth bytes =
    shape_here bytes >>= λ shape rest.
    if is_arrow shape then Got (capturing shape empty) rest else captured_at locals names depth shape rest

-- a type, from a reader of shapes
unfoldable pub type_over : Locals → List (List ℕ) → Reader Shape → ℕ → Reader CapturingType
type_over locals names shape_here depth bytes =
    begun (after_prefix bytes (codes "((")) (λ rest. arrow_type_at locals names shape_here depth (drop 1 bytes))
    (begun (after_prefix bytes (codes "([")) (λ rest. arrow_type_at locals names shape_here depth (drop 1 bytes))
    (plain_type_at locals names shape_here depth bytes))

-- the readers of shapes and types, from those of shapes; the others read nothing
abbrev pub shape_parts : Locals → List (List ℕ) → (ℕ → Reader Shape) → Readers
shape_parts locals names shapes ShapePart depth bytes = shapes depth bytes
shape_parts locals names shapes TypePart depth bytes = type_over locals names (shapes depth) depth bytes
shape_parts locals names shapes SetPart depth bytes = Wrong
shape_parts locals names shapes VariablePart depth bytes = Wrong
shape_parts locals names shapes NotePart depth bytes = Wrong
shape_parts locals names shapes TermPart depth bytes = Wrong

-- a shape that is no higher than the room
unfoldable pub shape_at : Locals → List (List ℕ) → ℕ → ℕ → Reader Shape
shape_at locals names zero depth bytes = Wrong
shape_at locals names (suc room) depth bytes =
    shape_over locals (shape_parts locals names (shape_at locals names room)) depth bytes

-- a type that is no higher
unfoldable pub type_at : Locals → List (List ℕ) → ℕ → ℕ → Reader CapturingType
type_at locals names room depth bytes = type_over locals names (shape_at locals names room depth) depth bytes

-- TERMS

-- a variable of terms
unfoldable pub variable_at : List (List ℕ) → ℕ → Reader Var
variable_at names depth bytes = found_of (variable_of Counted names depth (word_at bytes).0) (word_at bytes).1

-- the type that is written behind a colon, if one is
unfoldable pub note_at : List (List ℕ) → (ℕ → Reader Shape) → ℕ → Reader Note
note_at names shapes depth bytes =
    begun (after_prefix bytes (codes ": "))
    (λ rest. type_over Counted names (shapes depth) depth rest >>= λ type behind.
    Got (Written type.shape type.set) behind)
    (Got Absent bytes)

-- the readers of the parts of terms, from those of shapes and terms in the room; a variable has height 1
abbrev pub term_parts : List (List ℕ) → ℕ → (ℕ → Reader Shape) → (ℕ → Reader Term) → Readers
term_parts names room shapes terms ShapePart depth bytes = shapes depth bytes
term_parts names room shapes terms TypePart depth bytes = type_over Counted names (shapes depth) depth bytes
term_parts names room shapes terms SetPart depth bytes = set_at Counted names depth bytes
term_parts names room shapes terms VariablePart depth bytes = where_true (nat_lt 0 room) (variable_at names depth bytes)
term_parts names room shapes terms NotePart depth bytes = note_at names shapes depth bytes
term_parts names room shapes terms TermPart depth bytes = terms depth bytes

-- the terms that begin with a word of their own
pub data TermRule : Type 0 where
  FunRule TypeFunRule LetRule IfRule BoundaryRule BoxingRule UnboxRule RepeatRule LeaveRule : TermRule

-- the pieces behind the first text
abbrev pub term_pieces : TermRule → List Piece
term_pieces FunRule = Binder ∷ Exact (codes ": ") ∷ Part TypePart ∷ Exact (codes ") => ") ∷ Under TermPart ∷ []
term_pieces TypeFunRule = Binder ∷ Exact (codes " <: ") ∷ Part ShapePart ∷ Exact (codes "] => ") ∷ Under TermPart ∷ []
term_pieces LetRule =
    Binder ∷ Part NotePart ∷ Exact (codes " = ") ∷ Part TermPart ∷ Exact (codes " in ") ∷ Under TermPart ∷ []
term_pieces IfRule =
    Part TypePart ∷ Exact (codes "] ") ∷ Part VariablePart ∷ Exact (codes " then ") ∷ Part TermPart ∷
    Exact (codes " else ") ∷ Part TermPart ∷ []
term_pieces BoundaryRule = Part ShapePart ∷ Exact (codes "] _") ∷ Binder ∷ Exact (codes " => ") ∷ Under TermPart ∷ []
term_pieces BoxingRule = Part VariablePart ∷ []
term_pieces UnboxRule = Part SetPart ∷ Exact (codes " ") ∷ Part VariablePart ∷ []
term_pieces RepeatRule = Part VariablePart ∷ Exact (codes ", ") ∷ Part VariablePart ∷ Exact (codes ")") ∷ []
term_pieces LeaveRule =
    Part TypePart ∷ Exact (codes "] (") ∷ Part VariablePart ∷ Exact (codes ", ") ∷ Part VariablePart ∷
    Exact (codes ")") ∷ []

-- the term of these parts
abbrev pub term_tree : (rule : TermRule) → Parts (term_pieces rule) → Term
term_tree FunRule (number, (colon, (takes, (arrow, (body, end))))) = FunctionTerm takes.shape takes.set body
term_tree TypeFunRule (number, (below, (bound, (arrow, (body, end))))) = TypeFunctionTerm bound body
term_tree LetRule (number, (note, (equals, (right, (inside, (body, end)))))) = Let note right body
term_tree IfRule (type, (close, (test, (first, (positive, (other, (negative, end))))))) =
    Conditional (Written type.shape type.set) test positive negative
term_tree BoundaryRule (gives, (close, (number, (arrow, (body, end))))) = Boundary gives body
term_tree BoxingRule (content, end) = BoxTerm content
term_tree UnboxRule (set, (space, (content, end))) = Unboxing (Some set) content
term_tree RepeatRule (count, (comma, (body, (close, end)))) = Repetition count body
term_tree LeaveRule (type, (bracket, (left, (comma, (given, (close, end)))))) = Leave type.shape type.set left given

unfoldable pub term_rule_at : Readers → TermRule → ℕ → Reader Term
term_rule_at parts rule depth bytes =
    pieces_at parts depth (term_pieces rule) bytes >>= λ values rest. Got (term_tree rule values) rest

-- the terms that begin with a variable and go on
pub data HeadRule : Type 0 where
  Calls TypeCalls : HeadRule
  Computes : (operator : Operator) → HeadRule
  Tells Asks : (operation : Op) → HeadRule

-- the pieces behind the text that tells the rule
abbrev pub head_pieces : HeadRule → List Piece
head_pieces Calls = Part VariablePart ∷ Exact (codes ")") ∷ []
head_pieces TypeCalls = Part ShapePart ∷ Exact (codes "]") ∷ []
head_pieces (Computes operator) = Part VariablePart ∷ []
head_pieces (Tells operation) = Part VariablePart ∷ Exact (codes ")") ∷ []
head_pieces (Asks operation) = Exact (codes ")") ∷ []

abbrev pub head_tree : Var → (rule : HeadRule) → Parts (head_pieces rule) → Term
head_tree head Calls (argument, (close, end)) = Application head argument
head_tree head TypeCalls (argument, (close, end)) = TypeApplication head argument
head_tree head (Computes operator) (right, end) = Primitive operator head right
head_tree head (Tells operation) (argument, (close, end)) = Operation operation head (Some argument)
head_tree head (Asks operation) (close, end) = Operation operation head None

-- the variable has room as a part
unfoldable pub head_rule_at : Readers → ℕ → Var → HeadRule → ℕ → Reader Term
head_rule_at parts room head rule depth bytes =
    where_true (nat_lt 0 room) (pieces_at parts depth (head_pieces rule) bytes) >>= λ values rest.
    Got (head_tree head rule values) rest

-- an operation with its point and its parenthesis, or what is read otherwise
unfoldable pub operated_at : Readers → ℕ → Var → ℕ → List ℕ → Found Term → Found Term
operated_at parts room head depth bytes otherwise =
    begun (after_prefix bytes (codes ".print(")) (head_rule_at parts room head (Tells operations.Print) depth)
    (begun (after_prefix bytes (codes ".say(")) (head_rule_at parts room head (Tells operations.Say) depth)
    (begun (after_prefix bytes (codes ".read(")) (head_rule_at parts room head (Asks operations.Read) depth)
    (begun (after_prefix bytes (codes ".write(")) (head_rule_at parts room head (Tells operations.Write) depth)
    (begun (after_prefix bytes (codes ".tick(")) (head_rule_at parts room head (Asks operations.Tick) depth)
    otherwise))))

-- an operator with its spaces, or the variable alone
unfoldable pub computed_at : Readers → ℕ → Var → ℕ → Reader Term
computed_at parts room head depth bytes =
    begun (after_prefix bytes (codes " + ")) (head_rule_at parts room head (Computes operators.Add) depth)
    (begun (after_prefix bytes (codes " - ")) (head_rule_at parts room head (Computes operators.Sub) depth)
    (begun (after_prefix bytes (codes " * ")) (head_rule_at parts room head (Computes operators.Mul) depth)
    (begun (after_prefix bytes (codes " < ")) (head_rule_at parts room head (Computes operators.Less) depth)
    (begun (after_prefix bytes (codes " == ")) (head_rule_at parts room head (Computes operators.Equal) depth)
    (Got (VariableTerm head) bytes)))))

-- a term that begins with a variable, behind it
unfoldable pub headed_at : Readers → ℕ → Var → ℕ → Reader Term
headed_at parts room head depth bytes =
    begun (after_prefix bytes (codes "(")) (head_rule_at parts room head Calls depth)
    (begun (after_prefix bytes (codes "[")) (head_rule_at parts room head TypeCalls depth)
    (operated_at parts room head depth bytes (computed_at parts room head depth bytes)))

-- the literal, where the test holds
abbrev pub literal_where : Bool → Literal → Option Literal
literal_where true literal = Some literal
literal_where false literal = None

-- the text between quotes
unfoldable pub text_of : List ℕ → Option Literal
text_of word =
    literal_where (is_utf8 word && (list_all stands_in_string (chars word) && nat_le (length (chars word)) 200))
    (TextLiteral (chars word))

-- what was cut off
abbrev pub text_of_cut : Option (List ℕ × List ℕ) → Found Term
text_of_cut (Some cut) = found_of (option_map LiteralTerm (text_of cut.0)) cut.1
text_of_cut None = Wrong

-- a text, behind its first quote
unfoldable pub text_at : Reader Term
text_at bytes = text_of_cut (cut_at 34 bytes)

-- the number that a word is
unfoldable pub number_literal : List ℕ → Option Literal
number_literal word = option_map (λ number. NumberLiteral (pos number)) (number_of 9223372036854775807 word)

-- the literal that a word is
unfoldable pub literal_of : List ℕ → Option Literal
literal_of word =
    if bytes_eq word (codes "unit") then Some UnitLiteral
    else (if bytes_eq word (codes "true") then Some (TruthLiteral true)
    else (if bytes_eq word (codes "false") then Some (TruthLiteral false) else number_literal word))

-- the term of the variable that a word is, or of the literal, where it is none
abbrev pub term_of_word : Readers → ℕ → Option Var → Option Literal → ℕ → Reader Term
term_of_word parts room (Some head) literal depth rest = headed_at parts room head depth rest
term_of_word parts room None literal depth rest = found_of (option_map LiteralTerm literal) rest

-- a term that begins with a word which is a variable or a literal
unfoldable pub word_term_at : List (List ℕ) → Readers → ℕ → ℕ → Reader Term
word_term_at names parts room depth bytes =
    term_of_word parts room (variable_of Counted names depth (word_at bytes).0) (literal_of (word_at bytes).0) depth
    (word_at bytes).1

-- a term without parts that are terms
unfoldable pub plain_term_at : List (List ℕ) → Readers → ℕ → ℕ → Reader Term
plain_term_at names parts room depth bytes =
    begun (after_prefix bytes (codes "box ")) (term_rule_at parts BoxingRule depth)
    (begun (after_prefix bytes (codes "unbox {")) (term_rule_at parts UnboxRule depth)
    (begun (after_prefix bytes (codes "repeat(")) (term_rule_at parts RepeatRule depth)
    (begun (after_prefix bytes (codes "exit [")) (term_rule_at parts LeaveRule depth)
    (begun (after_prefix bytes (34 ∷ [])) text_at (word_term_at names parts room depth bytes)))))

-- a term, from readers of its parts in the room
unfoldable pub term_over : List (List ℕ) → Readers → ℕ → ℕ → Reader Term
term_over names parts room depth bytes =
    begun (after_prefix bytes (codes "fun (_")) (term_rule_at parts FunRule depth)
    (begun (after_prefix bytes (codes "fun [_T")) (term_rule_at parts TypeFunRule depth)
    (begun (after_prefix bytes (codes "let _")) (term_rule_at parts LetRule depth)
    (begun (after_prefix bytes (codes "if [")) (term_rule_at parts IfRule depth)
    (begun (after_prefix bytes (codes "boundary [")) (term_rule_at parts BoundaryRule depth)
    (plain_term_at names parts room depth bytes)))))

-- a term that is no higher than the room
unfoldable pub term_at : List (List ℕ) → ℕ → ℕ → Reader Term
term_at names zero depth bytes = Wrong
term_at names (suc room) depth bytes =
    term_over names (term_parts names room (shape_at Counted names room) (term_at names room)) room depth bytes
