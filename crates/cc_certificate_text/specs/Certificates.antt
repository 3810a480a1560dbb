-- Certificates: what each line says, when a line fits behind those before it, and which bytes are a certificate.
use Rattle.std.specs.Prelude.{◌≡◌, ℕ, suc, pos, negsuc, ℤ, ◌-◌, ◌<◌, ◌≤◌, ◌^◌, Bool, true, false, max, IsTrue, is_some}
use Rattle.std.specs.Prelude.{List, [], ◌∷◌, ◌++◌, length, take, codes, encode_utf8_all, Option, Some, None}
use Rattle.std.specs.List.{list_all, list_any}
use Rattle.std.specs.Str.{bytes_eq}
use Rattle.cc_base.specs.Names.{IsName}
use Rattle.cc_base.specs.Literals.{Literal, UnitLiteral, TruthLiteral, NumberLiteral, TextLiteral}
use Rattle.cc_base.specs.declared.literal.Op.{Op}
use Rattle.cc_base.specs.declared.literal.Op.TheVariants as operations
use Rattle.cc_capture.specs.declared.var.Var.{Var}
use Rattle.cc_capture.specs.Sets.{Set}
use Rattle.cc_core.specs.Shapes.{CapturingType}
use Rattle.cc_core.specs.Terms.{Note, Absent, Written, Own, Term, VariableTerm, LiteralTerm, FunctionTerm}
use Rattle.cc_core.specs.Terms.{TypeFunctionTerm, BoxTerm, Application, TypeApplication, Unboxing, Let, Primitive}
use Rattle.cc_core.specs.Terms.{Conditional, Repetition, Operation, Boundary, Leave}
use Rattle.cc_core.specs.Contexts.{Context, entry_of}
use Rattle.cc_core.specs.Occurrences.{HasNoHole, HasNoHoleInSet, HasNoHoleInType}
use Rattle.cc_core.specs.WellFormed.{IsWellFormedType, IsWellFormedTerm}
use Rattle.cc_core.specs.Derivations.{Rule, ByElement, ByVariable, BySet, ByReflexivity, ByTransitivity, ByTypeVariable}
use Rattle.cc_core.specs.Derivations.{ByTop, ByFunction, ByTypeFunction, ByBox, ByCapturing, Claim, SetBelow}
use Rattle.cc_core.specs.Derivations.{ShapeBelow}
use Rattle.cc_core.specs.Derivations.{TypeBelow, OfType}
use Rattle.cc_lex.specs.Forms.{stands_in_string}
use lib.Utf8.{scalars}
use Rattle.cc_print.specs.TypeTexts.{type_text}
use Rattle.cc_print.specs.TermTexts.{term_text}
use Rattle.cc_certificate_text.specs.NodeTexts.{node_line}
use Rattle.cc_certificate_text.specs.Heights.{shape_height, term_height}
use Rattle.cc_certificate_text.specs.LocalNames.{placed_claim, IsNamedClaim, claim_has_binder}

-- A node: its rule, the numbers of its premises, the number of those binders of its claim that stand under no other
-- binder of it, where it has a binder, and the claim, in which each local variable has the number that is written.
pub record CertificateNode : Type 0 where
  pub rule : Rule
  pub premises : List ℕ
  pub first : Option ℕ
  pub claim : Claim

-- What a line says: that a certificate begins, what stands at the next position, the term, or the next node.
pub data Line : Type 0 where
  Opens : Line
  Binds : (name : List ℕ) (type : CapturingType) → Line
  States : (term : Term) → Line
  Concludes : (node : CertificateNode) → Line

-- How far the lines have come: to the first line; behind it and behind those of these binds, in order and as a context;
-- or behind the term and the nodes, so many, of which those with these numbers are a premise of no other yet.
pub data Stage : Type 0 where
  Start : Stage
  Binding : (names : List (List ℕ)) (context : Context) → Stage
  Proving : (names : List (List ℕ)) (count : ℕ) (unused : List ℕ) → Stage

-- the names of the binds
abbrev pub names_at : Stage → List (List ℕ)
names_at Start = []
names_at (Binding names context) = names
names_at (Proving names count unused) = names

-- the number of the next node
abbrev pub next_number : Stage → ℕ
next_number Start = 1
next_number (Binding names context) = 1
next_number (Proving names count unused) = suc count

-- the nodes that are unused behind a node, which uses the last ones
abbrev pub used_up : List ℕ → CertificateNode → ℕ → List ℕ
used_up unused node number = take (length unused - length node.premises) unused ++ number ∷ []

-- how far they come with a line
abbrev pub behind_line : Stage → Line → Stage
behind_line stage Opens = Binding [] []
behind_line Start (Binds name type) = Start
behind_line (Binding names context) (Binds name type) = Binding (names ++ name ∷ []) (entry_of type ∷ context)
behind_line (Proving names count unused) (Binds name type) = Proving names count unused
behind_line stage (States term) = Proving (names_at stage) 0 []
behind_line Start (Concludes node) = Start
behind_line (Binding names context) (Concludes node) = Binding names context
behind_line (Proving names count unused) (Concludes node) = Proving names (suc count) (used_up unused node (suc count))

-- the number of a claim's outermost binders; without binders it does not matter
abbrev pub binder_number : Option ℕ → ℕ
binder_number (Some number) = number
binder_number None = 0

-- the text of a line
abbrev pub line_text : Stage → Line → List ℕ
line_text stage Opens = codes "cert 1"
line_text stage (Binds name type) =
    codes "bind " ++ encode_utf8_all name ++ codes ": " ++ type_text (names_at stage) 0 type
line_text stage (States term) = codes "term " ++ term_text (names_at stage) 0 term
line_text stage (Concludes node) =
    node_line (names_at stage) (binder_number node.first) (next_number stage) node.rule node.premises
    (placed_claim (length (names_at stage)) node.claim)

-- what may be written as a literal: no negative number, and of texts those of at most 200 characters, which Unicode has
-- and which may stand in a string
abbrev pub IsWrittenLiteral : Literal → Type 0
IsWrittenLiteral UnitLiteral = Unit {0}
IsWrittenLiteral (TruthLiteral truth) = Unit {0}
IsWrittenLiteral (NumberLiteral (pos number)) = number < 2 ^ 63
IsWrittenLiteral (NumberLiteral (negsuc number)) = ⊥
IsWrittenLiteral (TextLiteral text) =
    IsTrue (scalars text) × IsTrue (list_all stands_in_string text) × (length text ≤ 200)

-- a type is written, and has no hole
abbrev pub IsWrittenNote : Note → Type 0
IsWrittenNote Absent = ⊥
IsWrittenNote (Written shape set) = HasNoHole shape × HasNoHoleInSet set
IsWrittenNote (Own shape) = ⊥

-- the same, where a type is written
abbrev pub IsOptionalNote : Note → Type 0
IsOptionalNote Absent = Unit {0}
IsOptionalNote (Written shape set) = HasNoHole shape × HasNoHoleInSet set
IsOptionalNote (Own shape) = ⊥

-- a set is written, and has no hole
abbrev pub IsWrittenSet : Option Set → Type 0
IsWrittenSet (Some set) = HasNoHoleInSet set
IsWrittenSet None = ⊥

-- whether the operation takes an argument
abbrev pub takes_argument : Op → Bool
takes_argument operations.Print = true
takes_argument operations.Say = true
takes_argument operations.Read = false
takes_argument operations.Write = true
takes_argument operations.Tick = false

-- The term can be written: nothing is omitted in it, its literals are those of the grammar, and each operation has an
-- argument exactly where it takes one.
abbrev pub IsWritten : Term → Type 0
IsWritten (VariableTerm variable) = Unit {0}
IsWritten (LiteralTerm literal) = IsWrittenLiteral literal
IsWritten (FunctionTerm takes c body) = HasNoHole takes × HasNoHoleInSet c × IsWritten body
IsWritten (TypeFunctionTerm bound body) = HasNoHole bound × IsWritten body
IsWritten (BoxTerm content) = Unit {0}
IsWritten (Application function argument) = Unit {0}
IsWritten (TypeApplication function argument) = HasNoHole argument
IsWritten (Unboxing set box) = IsWrittenSet set
IsWritten (Let note right body) = IsOptionalNote note × IsWritten right × IsWritten body
IsWritten (Primitive operator left right) = Unit {0}
IsWritten (Conditional note test positive negative) = IsWrittenNote note × IsWritten positive × IsWritten negative
IsWritten (Repetition count function) = Unit {0}
IsWritten (Operation operation receiver argument) = takes_argument operation ≡ is_some argument
IsWritten (Boundary gives body) = HasNoHole gives × IsWritten body
IsWritten (Leave gives c exit value) = HasNoHole gives × HasNoHoleInSet c

-- which of its four kinds a claim is of
pub data ClaimKind : Type 0 where
  OfSets OfShapes OfTypes OfTerms : ClaimKind

abbrev pub claim_kind : Claim → ClaimKind
claim_kind (SetBelow left right) = OfSets
claim_kind (ShapeBelow left right) = OfShapes
claim_kind (TypeBelow left right) = OfTypes
claim_kind (OfType type) = OfTerms

-- the kind of what a rule concludes
abbrev pub rule_kind : Rule → ClaimKind
rule_kind ByElement = OfSets
rule_kind ByVariable = OfSets
rule_kind BySet = OfSets
rule_kind ByReflexivity = OfShapes
rule_kind ByTransitivity = OfShapes
rule_kind ByTypeVariable = OfShapes
rule_kind ByTop = OfShapes
rule_kind ByFunction = OfShapes
rule_kind ByTypeFunction = OfShapes
rule_kind ByBox = OfShapes
rule_kind ByCapturing = OfTypes
rule_kind _ = OfTerms

-- the height of the highest type or shape in a claim
abbrev pub claim_height : Claim → ℕ
claim_height (SetBelow left right) = 0
claim_height (ShapeBelow left right) = max (shape_height left) (shape_height right)
claim_height (TypeBelow left right) = max (shape_height left.shape) (shape_height right.shape)
claim_height (OfType type) = shape_height type.shape

-- The node fits behind so many nodes of which these are unused: it has a claim of its rule's kind with names that are
-- known, a number for its binders exactly where it has some, and its premises are the last unused nodes in their order.
pub record IsNextNode (names : ℕ) (count : ℕ) (unused : List ℕ) (node : CertificateNode) : Type 0 where
  pub few : count < 100000
  pub kind : rule_kind node.rule ≡ claim_kind node.claim
  pub named : IsNamedClaim names (binder_number node.first) node.claim
  pub binders : claim_has_binder node.claim ≡ is_some node.first
  pub low : claim_height node.claim ≤ 5000
  pub kept : List ℕ
  pub premises : unused ≡ kept ++ node.premises

-- The line fits at the stage.
abbrev pub Fits : Stage → Line → Type 0
Fits Start Opens = Unit {0}
Fits (Binding names context) (Binds name type) =
    IsName name × (list_any (bytes_eq name) names ≡ false)
    × IsWellFormedType context type × HasNoHoleInType type × (shape_height type.shape ≤ 5000)
Fits (Binding names context) (States term) =
    IsWellFormedTerm context term × IsWritten term × (term_height term ≤ 5000)
Fits (Proving names count unused) (Concludes node) = IsNextNode (length names) count unused node
Fits _ _ = ⊥

-- each of the lines fits where those before it have come
abbrev pub AllFit : Stage → List Line → Type 0
AllFit stage [] = Unit {0}
AllFit stage (line ∷ lines) = Fits stage line × AllFit (behind_line stage line) lines

-- how far lines come
abbrev pub behind_lines : Stage → List Line → Stage
behind_lines stage [] = stage
behind_lines stage (line ∷ lines) = behind_lines (behind_line stage line) lines

-- the texts of lines, each with a line feed
abbrev pub lines_text : Stage → List Line → List ℕ
lines_text stage [] = []
lines_text stage (line ∷ lines) = line_text stage line ++ 10 ∷ lines_text (behind_line stage line) lines

-- nothing is missing: there are nodes, and the last alone is a premise of no other
abbrev pub IsWhole : Stage → Type 0
IsWhole Start = ⊥
IsWhole (Binding names context) = ⊥
IsWhole (Proving names count unused) = length unused ≡ 1

-- The bytes are the certificate of these lines.
pub record IsCertificate (bytes : List ℕ) (lines : List Line) : Type 0 where
  pub fit : AllFit Start lines
  pub whole : IsWhole (behind_lines Start lines)
  pub written : bytes ≡ lines_text Start lines

-- At the stage no line that fits begins the rest, or nothing is left and something is missing.
abbrev pub Stops : Stage → List ℕ → Type 0
Stops stage [] = IsWhole stage → ⊥
Stops stage (byte ∷ bytes) =
    (line : Line) (behind : List ℕ) → Fits stage line → byte ∷ bytes ≡ line_text stage line ++ 10 ∷ behind → ⊥

-- The bytes are no certificate, and this is the number of the first line that does not fit, or the number of the lines
-- plus one where all fit. What stands behind the last line feed is no line that fits.
pub record IsBadLine (bytes : List ℕ) (number : ℕ) : Type 0 where
  pub lines : List Line
  pub fit : AllFit Start lines
  pub rest : List ℕ
  pub written : bytes ≡ lines_text Start lines ++ rest
  pub stops : Stops (behind_lines Start lines) rest
  pub place : number ≡ suc (length lines)
