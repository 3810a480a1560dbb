-- No line of a certificate has a line feed within.
use Rattle.std.proofs.Common.{◌≡◌, ◌≢◌, ℕ, zero, suc, ◌+◌, ◌-◌, ◌/◌, ◌%◌, Bool, true, false, not, ◌&&◌, ◌==◌, List, [], ◌∷◌, ◌++◌, length, decimal, codes, refl, sym, subst, arith, if◌then◌else◌, nat_lt, slice_index_or, Option, Some, None}
use Rattle.std.specs.Prelude.{encode_utf8_all, flat_map, pos, negsuc, ℤ}
use Rattle.std.specs.Fmt.{digit_glyph, digits, digits_onto, signed_decimal}
use Rattle.std.specs.List.{AllByRecursion, list_all}
use Rattle.std.proofs.lemmas.Bool.{true≢false}
use Rattle.cc_base.specs.Literals.{Literal, UnitLiteral, TruthLiteral, NumberLiteral, TextLiteral}
use Rattle.cc_base.specs.declared.literal.Base.{Base}
use Rattle.cc_base.specs.declared.literal.Base.TheVariants as bases
use Rattle.cc_base.specs.declared.literal.Op.{Op}
use Rattle.cc_base.specs.declared.literal.Op.TheVariants as operations
use Rattle.cc_base.specs.declared.literal.Operator.{Operator}
use Rattle.cc_base.specs.declared.literal.Operator.TheVariants as operators
use Rattle.cc_capture.specs.declared.var.Elem.{Elem}
use Rattle.cc_capture.specs.declared.var.Elem.TheVariants.{Var as Variable, Cap, Hole}
use Rattle.cc_capture.specs.declared.var.Var.{Var}
use Rattle.cc_capture.specs.declared.var.Var.TheVariants.{Bound, Free}
use Rattle.cc_capture.specs.Sets.{Set}
use Rattle.cc_core.specs.Contexts.{Bind, TermEntry, TypeEntry, Context}
use Rattle.cc_core.specs.Derivations.{Rule, ByElement, ByVariable, BySet, ByReflexivity, ByTransitivity, ByTypeVariable, ByTop, ByFunction, ByTypeFunction, ByBox, ByCapturing, t-var, t-lit, t-abs, t-tabs, t-app, t-tapp, t-box, t-unbox, t-let, t-prim, t-if, t-repeat, t-op, t-boundary, t-exit, t-sub, Claim, SetBelow, ShapeBelow, TypeBelow, OfType, Derivation, Premises, Node, NoPremise, Premise}
use Rattle.cc_core.specs.Shapes.{Shape, BaseShape, AnyShape, TypeVariable, FunctionShape, TypeFunctionShape, BoxShape, ExitShape, CapturingType}
use Rattle.cc_core.specs.Terms.{Note, Absent, Written, Own, Term, VariableTerm, LiteralTerm, FunctionTerm, TypeFunctionTerm, BoxTerm, Application, TypeApplication, Unboxing, Let, Primitive, Conditional, Repetition, Operation, Boundary, Leave}
use Rattle.cc_derivation.specs.Numbers.{own_number, premise_numbers}
use Rattle.cc_print.specs.TypeTexts.{numbered, position_text, variable_text, element_text, others_text, elements_text, set_under, base_text, is_arrow, before_set, with_elements, shape_under, type_under}
use Rattle.cc_print.proofs.Words.{both}
use Rattle.cc_certificate_writing.specs.Certificates.{binds_first, binds_others, with_binder, node_lines, premise_lines, bind_line, bind_lines, certificate_lines}
use Rattle.cc_certificate_text.specs.NodeTexts.{rule_text, claim_text, other_numbers, numbers_text, node_line}
use Rattle.cc_certificate_writing.specs.CertificateTextLaws.{IsOneLine, HasLiteralsOfOneLine, LinesHaveNoLineFeed}
use Rattle.cc_print.specs.TermTexts.{truth_text, quoted, literal_text, operator_text, operation_text, named, argument_under, opening_under, note_under, behind_name, term_under}

-- ---- texts
pub joined : (a b : List ℕ) → IsOneLine a → IsOneLine b → IsOneLine (a ++ b)
joined [] b h k = k
joined (x ∷ a) b h k = (h.0, joined a b h.1 k)

three : (a b c : List ℕ) → IsOneLine a → IsOneLine b → IsOneLine c → IsOneLine (a ++ b ++ c)
three a b c h k l = joined (a ++ b) c (joined a b h k) l

four : (a b c d : List ℕ) → IsOneLine a → IsOneLine b → IsOneLine c → IsOneLine d → IsOneLine (a ++ b ++ c ++ d)
four a b c d h k l m = joined (a ++ b ++ c) d (three a b c h k l) m

five : (a b c d e : List ℕ) → IsOneLine a → IsOneLine b → IsOneLine c → IsOneLine d → IsOneLine e
    → IsOneLine (a ++ b ++ c ++ d ++ e)
five a b c d e h k l m n = joined (a ++ b ++ c ++ d) e (four a b c d h k l m) n

six : (a b c d e f : List ℕ) → IsOneLine a → IsOneLine b → IsOneLine c → IsOneLine d → IsOneLine e → IsOneLine f
    → IsOneLine (a ++ b ++ c ++ d ++ e ++ f)
six a b c d e f h k l m n o = joined (a ++ b ++ c ++ d ++ e) f (five a b c d e h k l m n) o

apart : (b : ℕ) → not (b == 10) ≡ true → b ≢ 10
apart b h e = true≢false (sym (subst (λ x. not (x == 10) ≡ true) e h))

pub by_test : (text : List ℕ) → list_all (λ b. not (b == 10)) text ≡ true → IsOneLine text
by_test [] h = tt
by_test (b ∷ text) h =
    let each = both (not (b == 10)) (list_all (λ c. not (c == 10)) text) h in
    (apart b each.0, by_test text each.1)

pub one_if : (b : Bool) (x y : List ℕ) → IsOneLine x → IsOneLine y → IsOneLine (if b then x else y)
one_if true x y h k = h
one_if false x y h k = k

apart_if : (b : Bool) (x y : ℕ) → x ≢ 10 → y ≢ 10 → (if b then x else y) ≢ 10
apart_if true x y h k = h
apart_if false x y h k = k

-- ---- numbers
glyph_apart : (upper : Bool) (d : ℕ) → digit_glyph upper d ≢ 10
glyph_apart upper d =
    apart_if (nat_lt d 10) (48 + d) (if upper then 55 + d else 87 + d) (λ e. omega (arith, e))
    (apart_if upper (55 + d) (87 + d) (λ e. omega (arith, e)) (λ e. omega (arith, e)))

digits_one : (k base : ℕ) (upper : Bool) (n : ℕ) (rest : List ℕ) → IsOneLine rest
    → IsOneLine (digits_onto k base upper n rest)
digits_one zero base upper n rest h = h
digits_one (suc k) base upper n rest h =
    one_if (n / base == 0) (digit_glyph upper (n % base) ∷ rest)
    (digits_onto k base upper (n / base) (digit_glyph upper (n % base) ∷ rest))
    (glyph_apart upper (n % base), h)
    (digits_one k base upper (n / base) (digit_glyph upper (n % base) ∷ rest) (glyph_apart upper (n % base), h))

pub decimal_one : (n : ℕ) → IsOneLine (decimal n)
unfolding digits
decimal_one n = digits_one 64 10 false n [] tt

pub signed_one : (n : ℤ) → IsOneLine (signed_decimal n)
signed_one (pos n) = decimal_one n
signed_one (negsuc n) = joined (45 ∷ []) (decimal (suc n)) (by_test (45 ∷ []) refl) (decimal_one (suc n))

numbered_one : (prefix : List ℕ) (number : ℕ) → IsOneLine prefix → IsOneLine (numbered prefix number)
numbered_one prefix number h = joined prefix (decimal number) h (decimal_one number)

numbers_one : (numbers : List ℕ) → IsOneLine (other_numbers numbers)
numbers_one [] = tt
numbers_one (n ∷ numbers) =
    joined (codes " " ++ decimal n) (other_numbers numbers)
    (joined (codes " ") (decimal n) (by_test (codes " ") refl) (decimal_one n)) (numbers_one numbers)

numbers_text_one : (numbers : List ℕ) → IsOneLine (numbers_text numbers)
numbers_text_one [] = tt
numbers_text_one (n ∷ numbers) = joined (decimal n) (other_numbers numbers) (decimal_one n) (numbers_one numbers)

-- ---- literals and operators
pub truth_one : (b : Bool) → IsOneLine (truth_text b)
truth_one true = by_test (codes "true") refl
truth_one false = by_test (codes "false") refl

pub quoted_one : (text : List ℕ) → IsOneLine (encode_utf8_all text) → IsOneLine (quoted text)
quoted_one text h =
    joined (34 ∷ []) (encode_utf8_all text ++ 34 ∷ []) (by_test (34 ∷ []) refl)
    (joined (encode_utf8_all text) (34 ∷ []) h (by_test (34 ∷ []) refl))

operator_one : (operator : Operator) → IsOneLine (operator_text operator)
operator_one operators.Add = by_test (codes " + ") refl
operator_one operators.Sub = by_test (codes " - ") refl
operator_one operators.Mul = by_test (codes " * ") refl
operator_one operators.Less = by_test (codes " < ") refl
operator_one operators.Equal = by_test (codes " == ") refl

operation_one : (operation : Op) → IsOneLine (operation_text operation)
operation_one operations.Print = by_test (codes ".print(") refl
operation_one operations.Say = by_test (codes ".say(") refl
operation_one operations.Read = by_test (codes ".read(") refl
operation_one operations.Write = by_test (codes ".write(") refl
operation_one operations.Tick = by_test (codes ".tick(") refl

base_one : (base : Base) → IsOneLine (base_text base)
base_one bases.Unit = by_test (codes "Unit") refl
base_one bases.Bool = by_test (codes "Bool") refl
base_one bases.Int = by_test (codes "Int") refl
base_one bases.Str = by_test (codes "Str") refl
base_one bases.Console = by_test (codes "Console") refl
base_one bases.File = by_test (codes "File") refl
base_one bases.Counter = by_test (codes "Counter") refl

rule_one : (rule : Rule) → IsOneLine (rule_text rule)
rule_one ByElement = by_test (codes "elem") refl
rule_one ByVariable = by_test (codes "var") refl
rule_one BySet = by_test (codes "set") refl
rule_one ByReflexivity = by_test (codes "refl") refl
rule_one ByTransitivity = by_test (codes "tran") refl
rule_one ByTypeVariable = by_test (codes "tvar") refl
rule_one ByTop = by_test (codes "top") refl
rule_one ByFunction = by_test (codes "fun") refl
rule_one ByTypeFunction = by_test (codes "tfun") refl
rule_one ByBox = by_test (codes "boxed") refl
rule_one ByCapturing = by_test (codes "capt") refl
rule_one t-var = by_test (codes "t-var") refl
rule_one t-lit = by_test (codes "t-lit") refl
rule_one t-abs = by_test (codes "t-abs") refl
rule_one t-tabs = by_test (codes "t-tabs") refl
rule_one t-app = by_test (codes "t-app") refl
rule_one t-tapp = by_test (codes "t-tapp") refl
rule_one t-box = by_test (codes "t-box") refl
rule_one t-unbox = by_test (codes "t-unbox") refl
rule_one t-let = by_test (codes "t-let") refl
rule_one t-prim = by_test (codes "t-prim") refl
rule_one t-if = by_test (codes "t-if") refl
rule_one t-repeat = by_test (codes "t-repeat") refl
rule_one t-op = by_test (codes "t-op") refl
rule_one t-boundary = by_test (codes "t-boundary") refl
rule_one t-exit = by_test (codes "t-exit") refl
rule_one t-sub = by_test (codes "t-sub") refl

-- ---- where the names have none
module _ (names : List (List ℕ)) (good : AllByRecursion (λ name. IsOneLine (encode_utf8_all name)) names) where
  position_one : (prefix : List ℕ) (position : ℕ) → IsOneLine prefix → IsOneLine (position_text names prefix position)
  position_one prefix position h =
      one_if (nat_lt position (length names)) (encode_utf8_all (slice_index_or names position []))
      (numbered prefix (position - length names)) (name_at names good position)
      (numbered_one prefix (position - length names) h)
    where
      name_at : (names : List (List ℕ)) → AllByRecursion (λ name. IsOneLine (encode_utf8_all name)) names
          → (p : ℕ) → IsOneLine (encode_utf8_all (slice_index_or names p []))
      name_at [] all p = tt
      name_at (name ∷ names) all zero = all.0
      name_at (name ∷ names) all (suc p) = name_at names all.1 p

  variable_one : (depth : ℕ) (prefix : List ℕ) (variable : Var) → IsOneLine prefix
      → IsOneLine (variable_text names depth prefix variable)
  variable_one depth prefix (Bound index) h = numbered_one prefix (depth - 1 - index) h
  variable_one depth prefix (Free position) h = position_one prefix position h

  named_one : (depth : ℕ) (variable : Var) → IsOneLine (named names depth variable)
  named_one depth variable = variable_one depth (codes "_") variable (by_test (codes "_") refl)

  element_one : (depth : ℕ) (element : Elem) → IsOneLine (element_text names depth element)
  element_one depth (Variable variable) = named_one depth variable
  element_one depth Cap = by_test (codes "cap") refl
  element_one depth (Hole number) = tt

  others_one : (depth : ℕ) (others : List Elem) → IsOneLine (others_text names depth others)
  others_one depth [] = tt
  others_one depth (other ∷ others) =
      joined (codes ", " ++ element_text names depth other) (others_text names depth others)
      (joined (codes ", ") (element_text names depth other) (by_test (codes ", ") refl) (element_one depth other))
      (others_one depth others)

  elements_one : (depth : ℕ) (elements : List Elem) → IsOneLine (elements_text names depth elements)
  elements_one depth [] = tt
  elements_one depth (first ∷ others) =
      joined (element_text names depth first) (others_text names depth others) (element_one depth first)
      (others_one depth others)

  set_one : (depth : ℕ) (set : Set) → IsOneLine (set_under names depth set)
  set_one depth set =
      three (codes "{") (elements_text names depth set.list) (codes "}") (by_test (codes "{") refl)
      (elements_one depth set.list) (by_test (codes "}") refl)

  before_one : (arrow : Bool) (text : List ℕ) → IsOneLine text → IsOneLine (before_set arrow text)
  before_one true text h = three (codes "(") text (codes ")^") (by_test (codes "(") refl) h (by_test (codes ")^") refl)
  before_one false text h = joined text (codes "^") h (by_test (codes "^") refl)

  with_one : (arrow : Bool) (text : List ℕ) (elements : List Elem) (braces : List ℕ) → IsOneLine text
      → IsOneLine braces → IsOneLine (with_elements arrow text elements braces)
  with_one arrow text [] braces h k = h
  with_one arrow text (first ∷ others) braces h k = joined (before_set arrow text) braces (before_one arrow text h) k

  shape_one : (depth : ℕ) (shape : Shape) → IsOneLine (shape_under names depth shape)
  shape_one depth (BaseShape base) = base_one base
  shape_one depth AnyShape = by_test (codes "Any") refl
  shape_one depth (TypeVariable variable) = variable_one depth (codes "_T") variable (by_test (codes "_T") refl)
  shape_one depth (FunctionShape takes c gives e) =
      five (numbered (codes "(_") depth) (codes ": ") _ (codes ") -> ") _
      (numbered_one (codes "(_") depth (by_test (codes "(_") refl)) (by_test (codes ": ") refl)
      (with_one (is_arrow takes) (shape_under names depth takes) c.list (set_under names depth c)
      (shape_one depth takes) (set_one depth c))
      (by_test (codes ") -> ") refl)
      (with_one (is_arrow gives) (shape_under names (suc depth) gives) e.list (set_under names (suc depth) e)
      (shape_one (suc depth) gives) (set_one (suc depth) e))
  shape_one depth (TypeFunctionShape bound gives e) =
      five (numbered (codes "[_T") depth) (codes " <: ") _ (codes "] -> ") _
      (numbered_one (codes "[_T") depth (by_test (codes "[_T") refl)) (by_test (codes " <: ") refl)
      (shape_one depth bound)
      (by_test (codes "] -> ") refl)
      (with_one (is_arrow gives) (shape_under names (suc depth) gives) e.list (set_under names (suc depth) e)
      (shape_one (suc depth) gives) (set_one (suc depth) e))
  shape_one depth (BoxShape content c) =
      three (codes "Box[") _ (codes "]") (by_test (codes "Box[") refl)
      (with_one (is_arrow content) (shape_under names depth content) c.list (set_under names depth c)
      (shape_one depth content) (set_one depth c))
      (by_test (codes "]") refl)
  shape_one depth (ExitShape gives) =
      three (codes "Exit[") (shape_under names depth gives) (codes "]") (by_test (codes "Exit[") refl)
      (shape_one depth gives) (by_test (codes "]") refl)

  type_one : (depth : ℕ) (shape : Shape) (set : Set) → IsOneLine (type_under names depth shape set)
  type_one depth shape set =
      with_one (is_arrow shape) (shape_under names depth shape) set.list (set_under names depth set)
      (shape_one depth shape) (set_one depth set)

  -- ---- terms
  argument_one : (depth : ℕ) (argument : Option Var) → IsOneLine (argument_under names depth argument)
  argument_one depth (Some argument) = named_one depth argument
  argument_one depth None = tt

  opening_one : (depth : ℕ) (set : Option Set) → IsOneLine (opening_under names depth set)
  opening_one depth (Some set) =
      joined (set_under names depth set) (codes " ") (set_one depth set) (by_test (codes " ") refl)
  opening_one depth None = tt

  note_one : (depth : ℕ) (note : Note) → IsOneLine (note_under names depth note)
  note_one depth Absent = tt
  note_one depth (Written shape set) = type_one depth shape set
  note_one depth (Own shape) = shape_one depth shape

  behind_one : (depth : ℕ) (note : Note) → IsOneLine (behind_name names depth note)
  behind_one depth Absent = tt
  behind_one depth (Written shape set) =
      joined (codes ": ") (type_under names depth shape set) (by_test (codes ": ") refl) (type_one depth shape set)
  behind_one depth (Own shape) =
      joined (codes ": ") (shape_under names depth shape) (by_test (codes ": ") refl) (shape_one depth shape)

  literal_is_one : (literal : Literal) → HasLiteralsOfOneLine (LiteralTerm literal) → IsOneLine (literal_text literal)
  literal_is_one UnitLiteral h = by_test (codes "unit") refl
  literal_is_one (TruthLiteral truth) h = truth_one truth
  literal_is_one (NumberLiteral number) h = signed_one number
  literal_is_one (TextLiteral text) h = quoted_one text h

  term_one : (depth : ℕ) (term : Term) → HasLiteralsOfOneLine term → IsOneLine (term_under names depth term)
  term_one depth (VariableTerm variable) h = named_one depth variable
  term_one depth (LiteralTerm literal) h = literal_is_one literal h
  term_one depth (FunctionTerm takes c body) h =
      five (numbered (codes "fun (_") depth) (codes ": ") (type_under names depth takes c) (codes ") => ")
      (term_under names (suc depth) body)
      (numbered_one (codes "fun (_") depth (by_test (codes "fun (_") refl)) (by_test (codes ": ") refl)
      (type_one depth takes c) (by_test (codes ") => ") refl) (term_one (suc depth) body h)
  term_one depth (TypeFunctionTerm bound body) h =
      five (numbered (codes "fun [_T") depth) (codes " <: ") (shape_under names depth bound) (codes "] => ")
      (term_under names (suc depth) body)
      (numbered_one (codes "fun [_T") depth (by_test (codes "fun [_T") refl)) (by_test (codes " <: ") refl)
      (shape_one depth bound) (by_test (codes "] => ") refl) (term_one (suc depth) body h)
  term_one depth (BoxTerm content) h =
      joined (codes "box ") (named names depth content) (by_test (codes "box ") refl) (named_one depth content)
  term_one depth (Application function argument) h =
      four (named names depth function) (codes "(") (named names depth argument) (codes ")")
      (named_one depth function) (by_test (codes "(") refl) (named_one depth argument) (by_test (codes ")") refl)
  term_one depth (TypeApplication function argument) h =
      four (named names depth function) (codes "[") (shape_under names depth argument) (codes "]")
      (named_one depth function) (by_test (codes "[") refl) (shape_one depth argument) (by_test (codes "]") refl)
  term_one depth (Unboxing set box) h =
      three (codes "unbox ") (opening_under names depth set) (named names depth box) (by_test (codes "unbox ") refl)
      (opening_one depth set) (named_one depth box)
  term_one depth (Let note right body) h =
      six (numbered (codes "let _") depth) (behind_name names depth note) (codes " = ") (term_under names depth right)
      (codes " in ") (term_under names (suc depth) body)
      (numbered_one (codes "let _") depth (by_test (codes "let _") refl)) (behind_one depth note)
      (by_test (codes " = ") refl) (term_one depth right h.0) (by_test (codes " in ") refl)
      (term_one (suc depth) body h.1)
  term_one depth (Primitive operator left right) h =
      three (named names depth left) (operator_text operator) (named names depth right) (named_one depth left)
      (operator_one operator) (named_one depth right)
  term_one depth (Conditional note test positive negative) h =
      three
      (codes "if [" ++ note_under names depth note ++ codes "] " ++ named names depth test ++ codes " then "
      ++ term_under names depth positive)
      (codes " else ") (term_under names depth negative)
      (six (codes "if [") (note_under names depth note) (codes "] ") (named names depth test) (codes " then ")
      (term_under names depth positive) (by_test (codes "if [") refl) (note_one depth note) (by_test (codes "] ") refl)
      (named_one depth test) (by_test (codes " then ") refl) (term_one depth positive h.0))
      (by_test (codes " else ") refl) (term_one depth negative h.1)
  term_one depth (Repetition count function) h =
      five (codes "repeat(") (named names depth count) (codes ", ") (named names depth function) (codes ")")
      (by_test (codes "repeat(") refl) (named_one depth count) (by_test (codes ", ") refl) (named_one depth function)
      (by_test (codes ")") refl)
  term_one depth (Operation operation receiver argument) h =
      four (named names depth receiver) (operation_text operation) (argument_under names depth argument) (codes ")")
      (named_one depth receiver) (operation_one operation) (argument_one depth argument) (by_test (codes ")") refl)
  term_one depth (Boundary gives body) h =
      five (codes "boundary [") (shape_under names depth gives) (numbered (codes "] _") depth) (codes " => ")
      (term_under names (suc depth) body)
      (by_test (codes "boundary [") refl) (shape_one depth gives)
      (numbered_one (codes "] _") depth (by_test (codes "] _") refl)) (by_test (codes " => ") refl)
      (term_one (suc depth) body h)
  term_one depth (Leave gives c exit value) h =
      joined (codes "exit [" ++ type_under names depth gives c ++ codes "] (" ++ named names depth exit ++ codes ", "
      ++ named names depth value) (codes ")")
      (six (codes "exit [") (type_under names depth gives c) (codes "] (") (named names depth exit) (codes ", ")
      (named names depth value) (by_test (codes "exit [") refl) (type_one depth gives c) (by_test (codes "] (") refl)
      (named_one depth exit) (by_test (codes ", ") refl) (named_one depth value))
      (by_test (codes ")") refl)

  -- ---- nodes
  claim_one : (locals : ℕ) (claim : Claim) → IsOneLine (claim_text names locals claim)
  claim_one locals (OfType type) =
      joined (codes ": ") (type_under names locals type.shape type.set) (by_test (codes ": ") refl)
      (type_one locals type.shape type.set)
  claim_one locals (TypeBelow left right) =
      three (type_under names locals left.shape left.set) (codes " <: ")
      (type_under names locals right.shape right.set) (type_one locals left.shape left.set)
      (by_test (codes " <: ") refl) (type_one locals right.shape right.set)
  claim_one locals (ShapeBelow left right) =
      three (shape_under names locals left) (codes " <: ") (shape_under names locals right) (shape_one locals left)
      (by_test (codes " <: ") refl) (shape_one locals right)
  claim_one locals (SetBelow left right) =
      three (set_under names locals left) (codes " <: ") (set_under names locals right) (set_one locals left)
      (by_test (codes " <: ") refl) (set_one locals right)

  node_one : (locals number : ℕ) (rule : Rule) (premises : List ℕ) (claim : Claim)
      → IsOneLine (node_line names locals number rule premises claim)
  node_one locals number rule premises claim =
      joined
      (decimal number ++ codes " " ++ rule_text rule ++ codes " [" ++ numbers_text premises ++ codes "] ")
      (claim_text names locals claim)
      (six (decimal number) (codes " ") (rule_text rule) (codes " [") (numbers_text premises) (codes "] ")
      (decimal_one number) (by_test (codes " ") refl) (rule_one rule) (by_test (codes " [") refl)
      (numbers_text_one premises) (by_test (codes "] ") refl))
      (claim_one locals claim)

  all_joined : (a b : List (List ℕ)) → AllByRecursion IsOneLine a → AllByRecursion IsOneLine b
      → AllByRecursion IsOneLine (a ++ b)
  all_joined [] b h k = k
  all_joined (x ∷ a) b h k = (h.0, all_joined a b h.1 k)

  mutual
    nodes_one : (before locals : ℕ) (d : Derivation) → AllByRecursion IsOneLine (node_lines names before locals d)
    nodes_one before locals (Node rule premises claim) =
        all_joined
        (premise_lines names before (with_binder (binds_first rule) locals) (with_binder (binds_others rule) locals)
        premises) _
        (premises_one before (with_binder (binds_first rule) locals) (with_binder (binds_others rule) locals) premises)
        (node_one locals (own_number before (Node rule premises claim)) rule (premise_numbers before premises) claim, tt)

    premises_one : (before first others : ℕ) (premises : Premises)
        → AllByRecursion IsOneLine (premise_lines names before first others premises)
    premises_one before first others NoPremise = tt
    premises_one before first others (Premise next rest) =
        all_joined (node_lines names before first next) (premise_lines names (own_number before next) others others rest)
        (nodes_one before first next) (premises_one (own_number before next) others others rest)

  -- ---- the context
  bind_one : (position : ℕ) (bind : Bind) → IsOneLine (bind_line names position bind)
  bind_one position (TermEntry shape set) =
      four (codes "bind ") (position_text names (codes "_") position) (codes ": ") (type_under names 0 shape set)
      (by_test (codes "bind ") refl) (position_one (codes "_") position (by_test (codes "_") refl))
      (by_test (codes ": ") refl) (type_one 0 shape set)
  bind_one position (TypeEntry bound) =
      four (codes "bind ") (position_text names (codes "_T") position) (codes " <: ") (shape_under names 0 bound)
      (by_test (codes "bind ") refl) (position_one (codes "_T") position (by_test (codes "_T") refl))
      (by_test (codes " <: ") refl) (shape_one 0 bound)

  binds_one : (context : Context) → AllByRecursion IsOneLine (bind_lines names context)
  binds_one [] = tt
  binds_one (newest ∷ older) =
      all_joined (bind_lines names older) (bind_line names (length older) newest ∷ []) (binds_one older)
      (bind_one (length older) newest, tt)

  all_one : (context : Context) (term : Term) (d : Derivation) → HasLiteralsOfOneLine term
      → AllByRecursion IsOneLine (certificate_lines names context term d)
  all_one context term d h = (
    by_test (codes "cert 1") refl,
    all_joined (bind_lines names context) ((codes "term " ++ term_under names 0 term) ∷ node_lines names 0 0 d)
        (binds_one context) (
          joined (codes "term ") (term_under names 0 term) (by_test (codes "term ") refl) (term_one 0 term h),
          nodes_one 0 0 d,
        ),
  )

pub lines_are_one : LinesHaveNoLineFeed
lines_are_one names context term derivation good literals = all_one names good context term derivation literals
