-- The laws of certificates: of the binders that are counted, and that texts tell terms and claims apart.
use Rattle.std.specs.Prelude.{◌≡◌, ◌≢◌, ℕ, ◌+◌, ◌<◌, ◌≤◌, ◌^◌, List, [], ◌∷◌, length, Option, Some, None}
use Rattle.std.specs.Prelude.{encode_utf8_all}
use Rattle.std.specs.List.{AllByRecursion, IsDistinct}
use Rattle.std.specs.Str.{bytes_eq}
use Rattle.cc_base.specs.Literals.{Literal, UnitLiteral, TruthLiteral, NumberLiteral, TextLiteral}
use Rattle.cc_base.specs.Names.{IsName}
use Rattle.cc_capture.specs.declared.var.Elem.{Elem}
use Rattle.cc_capture.specs.declared.var.Elem.TheVariants.{Var as Variable, Cap, Hole}
use Rattle.cc_capture.specs.declared.var.Var.{Var}
use Rattle.cc_capture.specs.declared.var.Var.TheVariants.{Bound, Free}
use Rattle.cc_capture.specs.Sets.{Set}
use Rattle.cc_core.specs.Contexts.{Context}
use Rattle.cc_core.specs.Derivations.{Derivation}
use Rattle.cc_core.specs.Derivations.{Rule, ByElement, ByVariable, BySet, ByReflexivity, ByTransitivity, ByTypeVariable}
use Rattle.cc_core.specs.Derivations.{ByTop, ByFunction, ByTypeFunction, ByBox, ByCapturing, t-var, t-lit, t-abs}
use Rattle.cc_core.specs.Derivations.{t-tabs, t-app, t-tapp, t-box, t-unbox, t-let, t-prim, t-if, t-repeat, t-op}
use Rattle.cc_core.specs.Derivations.{t-boundary, t-exit, t-sub, Claim, SetBelow, ShapeBelow, TypeBelow, OfType}
use Rattle.cc_core.specs.Occurrences.{Condition, Meets, MeetsInSet, MeetsInType, MeetsInTerm}
use Rattle.cc_core.specs.Terms.{Note, Absent, Written, Own, Term, VariableTerm, LiteralTerm, FunctionTerm}
use Rattle.cc_core.specs.Terms.{TypeFunctionTerm, BoxTerm, Application, TypeApplication, Unboxing, Let, Primitive}
use Rattle.cc_core.specs.Terms.{Conditional, Repetition, Operation, Boundary, Leave}
use Rattle.cc_derivation.specs.Rows.{Place, Nowhere, TypeOf, SetsBelow, ShapesBelow, TypesBelow, Row, row_at}
use Rattle.cc_certificate_writing.specs.Certificates.{binds_first, binds_others, with_binder}
use Rattle.cc_certificate_text.specs.NodeTexts.{claim_text, node_line}
use Rattle.cc_certificate_writing.specs.Certificates.{certificate_lines}
use Rattle.cc_print.specs.TermTexts.{term_text}
use lib.Signed.{mag}

-- the context of the place, where there is one, has so many entries
abbrev pub HasEntries : ℕ → Place → Type 0
HasEntries count Nowhere = Unit {0}
HasEntries count (TypeOf context term) = length context ≡ count
HasEntries count (SetsBelow context) = length context ≡ count
HasEntries count (ShapesBelow context) = length context ≡ count
HasEntries count (TypesBelow context) = length context ≡ count

-- that of the first place has so many, and those of the places behind it so many
abbrev pub HaveEntries : ℕ → ℕ → List Place → Type 0
HaveEntries first others [] = Unit {0}
HaveEntries first others (place ∷ places) = HasEntries first place × HaveEntries others others places

-- Where a rule is one for the place and the claim of a node, the contexts at the places of its premises have as many
-- entries more as binders are counted.
abbrev pub BindersAreEntries : Type 0
BindersAreEntries =
    (count : ℕ) (place : Place) (rule : Rule) (claim : Claim) (row : Row) (claims : List Claim)
    → HasEntries count place → row_at place rule claim ≡ Some row
    → HaveEntries (with_binder (binds_first rule) count) (with_binder (binds_others rule) count) (row.places claims)

-- The variable is one of so many positions with names or of so many local ones behind them, or has its binder among
-- those that are written inside. Binders are counted in 64 bits.
abbrev pub IsPlaced : ℕ → ℕ → ℕ → Var → Type 0
IsPlaced positions locals depth (Bound index) = (index + locals < depth) × (depth ≤ 2 ^ 64)
IsPlaced positions locals depth (Free position) = (position < positions + locals) × (locals ≤ 2 ^ 64)

-- the same of an element, which is no hole
abbrev pub IsPlacedElement : ℕ → ℕ → ℕ → Elem → Type 0
IsPlacedElement positions locals depth (Variable variable) = IsPlaced positions locals depth variable
IsPlacedElement positions locals depth Cap = Unit {0}
IsPlacedElement positions locals depth (Hole number) = ⊥

-- binders inside are counted on from the local ones
abbrev pub placed : ℕ → ℕ → Condition
placed positions locals = record {
  element = IsPlacedElement positions locals;
  shape = IsPlaced positions locals;
  variable = IsPlaced positions locals;
}

-- a number of 64 bits, or a text without a quote
abbrev pub IsLegibleLiteral : Literal → Type 0
IsLegibleLiteral UnitLiteral = Unit {0}
IsLegibleLiteral (TruthLiteral truth) = Unit {0}
IsLegibleLiteral (NumberLiteral number) = mag number < 2 ^ 63
IsLegibleLiteral (TextLiteral text) = AllByRecursion (λ c. c ≢ 34) text

-- a type is written, or nothing is
abbrev pub IsLegibleNote : Note → Type 0
IsLegibleNote Absent = Unit {0}
IsLegibleNote (Written shape set) = Unit {0}
IsLegibleNote (Own shape) = ⊥

-- a type is written
abbrev pub IsWritten : Note → Type 0
IsWritten (Written shape set) = Unit {0}
IsWritten _ = ⊥

-- a set is
abbrev pub IsWrittenSet : Option Set → Type 0
IsWrittenSet (Some set) = Unit {0}
IsWrittenSet None = ⊥

-- The term is filled: each unboxing has its set and each choice its type, and no type is written without its set. Its
-- literals are those of a text.
abbrev pub IsLegible : Term → Type 0
IsLegible (VariableTerm variable) = Unit {0}
IsLegible (LiteralTerm literal) = IsLegibleLiteral literal
IsLegible (FunctionTerm takes c body) = IsLegible body
IsLegible (TypeFunctionTerm bound body) = IsLegible body
IsLegible (BoxTerm content) = Unit {0}
IsLegible (Application function argument) = Unit {0}
IsLegible (TypeApplication function argument) = Unit {0}
IsLegible (Unboxing set box) = IsWrittenSet set
IsLegible (Let note right body) = IsLegibleNote note × IsLegible right × IsLegible body
IsLegible (Primitive operator left right) = Unit {0}
IsLegible (Conditional note test positive negative) = IsWritten note × IsLegible positive × IsLegible negative
IsLegible (Repetition count function) = Unit {0}
IsLegible (Operation operation receiver argument) = Unit {0}
IsLegible (Boundary gives body) = IsLegible body
IsLegible (Leave gives c exit value) = Unit {0}

-- each variable in the term is one of those positions or has its binder
abbrev pub IsTermOver : ℕ → ℕ → Term → Type 0
IsTermOver positions locals term = MeetsInTerm (placed positions locals) locals term

-- the same of a claim
abbrev pub IsClaimOver : ℕ → ℕ → Claim → Type 0
IsClaimOver positions locals (OfType type) = MeetsInType (placed positions locals) locals type
IsClaimOver positions locals (TypeBelow left right) =
    MeetsInType (placed positions locals) locals left × MeetsInType (placed positions locals) locals right
IsClaimOver positions locals (ShapeBelow left right) =
    Meets (placed positions locals) locals left × Meets (placed positions locals) locals right
IsClaimOver positions locals (SetBelow left right) =
    MeetsInSet (placed positions locals) locals left × MeetsInSet (placed positions locals) locals right

-- The claims are of one kind. Those of two kinds may have one text, as that a shape is below another, and that the type
-- of the shape and the empty set is; the rule of a node tells its kind.
abbrev pub AreOfOneKind : Claim → Claim → Type 0
AreOfOneKind (OfType type) (OfType type') = Unit {0}
AreOfOneKind (TypeBelow left right) (TypeBelow left' right') = Unit {0}
AreOfOneKind (ShapeBelow left right) (ShapeBelow left' right') = Unit {0}
AreOfOneKind (SetBelow left right) (SetBelow left' right') = Unit {0}
AreOfOneKind _ _ = ⊥

-- the claim is one that nodes of the rule have
abbrev pub IsClaimOf : Rule → Claim → Type 0
IsClaimOf ByElement (SetBelow left right) = Unit {0}
IsClaimOf ByVariable (SetBelow left right) = Unit {0}
IsClaimOf BySet (SetBelow left right) = Unit {0}
IsClaimOf ByReflexivity (ShapeBelow left right) = Unit {0}
IsClaimOf ByTransitivity (ShapeBelow left right) = Unit {0}
IsClaimOf ByTypeVariable (ShapeBelow left right) = Unit {0}
IsClaimOf ByTop (ShapeBelow left right) = Unit {0}
IsClaimOf ByFunction (ShapeBelow left right) = Unit {0}
IsClaimOf ByTypeFunction (ShapeBelow left right) = Unit {0}
IsClaimOf ByBox (ShapeBelow left right) = Unit {0}
IsClaimOf ByCapturing (TypeBelow left right) = Unit {0}
IsClaimOf t-var (OfType type) = Unit {0}
IsClaimOf t-lit (OfType type) = Unit {0}
IsClaimOf t-abs (OfType type) = Unit {0}
IsClaimOf t-tabs (OfType type) = Unit {0}
IsClaimOf t-app (OfType type) = Unit {0}
IsClaimOf t-tapp (OfType type) = Unit {0}
IsClaimOf t-box (OfType type) = Unit {0}
IsClaimOf t-unbox (OfType type) = Unit {0}
IsClaimOf t-let (OfType type) = Unit {0}
IsClaimOf t-prim (OfType type) = Unit {0}
IsClaimOf t-if (OfType type) = Unit {0}
IsClaimOf t-repeat (OfType type) = Unit {0}
IsClaimOf t-op (OfType type) = Unit {0}
IsClaimOf t-boundary (OfType type) = Unit {0}
IsClaimOf t-exit (OfType type) = Unit {0}
IsClaimOf t-sub (OfType type) = Unit {0}
IsClaimOf _ _ = ⊥

-- Filled terms over one list of different names, and so many local binders, are one where their texts are.
abbrev pub DifferentTermsHaveDifferentTexts : Type 0
DifferentTermsHaveDifferentTexts =
    (names : List (List ℕ)) (locals : ℕ) (a b : Term) → AllByRecursion IsName names → IsDistinct bytes_eq names
    → IsTermOver (length names) locals a → IsTermOver (length names) locals b → IsLegible a → IsLegible b
    → term_text names locals a ≡ term_text names locals b → a ≡ b

-- So are claims of one kind.
abbrev pub DifferentClaimsHaveDifferentTexts : Type 0
DifferentClaimsHaveDifferentTexts =
    (names : List (List ℕ)) (locals : ℕ) (a b : Claim) → AllByRecursion IsName names → IsDistinct bytes_eq names
    → IsClaimOver (length names) locals a → IsClaimOver (length names) locals b → AreOfOneKind a b
    → claim_text names locals a ≡ claim_text names locals b → a ≡ b

-- A node's line tells all of it where its claim is one that its rule has, and numbers have 64 bits.
abbrev pub LinesTellTheirNodes : Type 0
LinesTellTheirNodes =
    (names : List (List ℕ)) (locals : ℕ) (number number' : ℕ) (rule rule' : Rule) (premises premises' : List ℕ)
    (claim claim' : Claim) → AllByRecursion IsName names → IsDistinct bytes_eq names
    → number < 2 ^ 64 → number' < 2 ^ 64
    → AllByRecursion (λ n. n < 2 ^ 64) premises → AllByRecursion (λ n. n < 2 ^ 64) premises'
    → IsClaimOver (length names) locals claim → IsClaimOver (length names) locals claim'
    → IsClaimOf rule claim → IsClaimOf rule' claim'
    → node_line names locals number rule premises claim ≡ node_line names locals number' rule' premises' claim'
    → (number ≡ number') × (rule ≡ rule') × (premises ≡ premises') × (claim ≡ claim')

-- no byte of the text is a line feed
abbrev pub IsOneLine : List ℕ → Type 0
IsOneLine text = AllByRecursion (λ byte. byte ≢ 10) text

-- none is one of a literal that is a text
abbrev pub IsLiteralOfOneLine : Literal → Type 0
IsLiteralOfOneLine UnitLiteral = Unit {0}
IsLiteralOfOneLine (TruthLiteral truth) = Unit {0}
IsLiteralOfOneLine (NumberLiteral number) = Unit {0}
IsLiteralOfOneLine (TextLiteral text) = IsOneLine (encode_utf8_all text)

-- the same of the literals of a term
abbrev pub HasLiteralsOfOneLine : Term → Type 0
HasLiteralsOfOneLine (VariableTerm variable) = Unit {0}
HasLiteralsOfOneLine (LiteralTerm literal) = IsLiteralOfOneLine literal
HasLiteralsOfOneLine (FunctionTerm takes c body) = HasLiteralsOfOneLine body
HasLiteralsOfOneLine (TypeFunctionTerm bound body) = HasLiteralsOfOneLine body
HasLiteralsOfOneLine (BoxTerm content) = Unit {0}
HasLiteralsOfOneLine (Application function argument) = Unit {0}
HasLiteralsOfOneLine (TypeApplication function argument) = Unit {0}
HasLiteralsOfOneLine (Unboxing set box) = Unit {0}
HasLiteralsOfOneLine (Let note right body) = HasLiteralsOfOneLine right × HasLiteralsOfOneLine body
HasLiteralsOfOneLine (Primitive operator left right) = Unit {0}
HasLiteralsOfOneLine (Conditional note test positive negative) =
    HasLiteralsOfOneLine positive × HasLiteralsOfOneLine negative
HasLiteralsOfOneLine (Repetition count function) = Unit {0}
HasLiteralsOfOneLine (Operation operation receiver argument) = Unit {0}
HasLiteralsOfOneLine (Boundary gives body) = HasLiteralsOfOneLine body
HasLiteralsOfOneLine (Leave gives c exit value) = Unit {0}

-- No line of a certificate has a line feed within where names and literals have none.
abbrev pub LinesHaveNoLineFeed : Type 0
LinesHaveNoLineFeed =
    (names : List (List ℕ)) (context : Context) (term : Term) (derivation : Derivation)
    → AllByRecursion (λ name. IsOneLine (encode_utf8_all name)) names → HasLiteralsOfOneLine term
    → AllByRecursion IsOneLine (certificate_lines names context term derivation)
