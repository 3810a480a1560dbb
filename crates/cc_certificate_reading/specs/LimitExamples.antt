-- The limits of certificates: at each one a certificate, and one more that is none.
use Rattle.std.specs.Prelude.{ℕ, zero, suc, ◌≤◌, ◌<◌, List, [], ◌∷◌, ◌++◌, codes, replicate, None}
use Rattle.cc_base.specs.Literals.{UnitLiteral, TextLiteral}
use Rattle.cc_base.specs.declared.literal.Base.TheVariants as bases
use Rattle.cc_capture.specs.declared.var.Var.TheVariants.{Bound}
use Rattle.cc_capture.specs.declared.var.Elem.TheVariants.{Var as Variable}
use Rattle.cc_capture.specs.Sets.{from_list}
use Rattle.cc_core.specs.Shapes.{Shape, BaseShape, BoxShape, capturing}
use Rattle.cc_core.specs.Terms.{LiteralTerm, VariableTerm, FunctionTerm}
use Rattle.cc_core.specs.Derivations.{t-var, t-lit, t-box, OfType}
use Rattle.cc_certificate_text.specs.Certificates.{CertificateNode, Line, Opens, Binds, States, Concludes, Start}
use Rattle.cc_certificate_text.specs.Certificates.{lines_text, IsCertificate, IsBadLine}
use Rattle.cc_certificate_reading.specs.ReadingExamples.{text, opening, statement, none, nothing, identity}

-- a leaf that concludes the shape with no captures
abbrev pub leaf_of : Shape → CertificateNode
leaf_of shape = record { rule = t-lit; premises = []; first = None; claim = OfType (capturing shape none) }

-- A STRING

-- the line that states a string of so many letters `a`
abbrev pub string_line : ℕ → List ℕ
string_line length = codes "term \"" ++ (replicate length 97 ++ 34 ∷ [])

abbrev pub string_leaf : List ℕ
string_leaf = codes "1 t-lit [] : Str"

-- a string has at most 200 characters
abbrev pub StringOf200IsRead : Type 0
StringOf200IsRead =
    IsCertificate (text (opening ∷ string_line 200 ∷ string_leaf ∷ []))
    (Opens ∷ States (LiteralTerm (TextLiteral (replicate 200 97))) ∷ Concludes (leaf_of (BaseShape bases.Str)) ∷ [])

abbrev pub StringOf201IsBad : Type 0
StringOf201IsBad = IsBadLine (text (opening ∷ string_line 201 ∷ string_leaf ∷ [])) 2

-- THE NUMBER OF A LOCAL VARIABLE

-- it is below 2^32
abbrev pub GreatestLocalIsRead : Type 0
GreatestLocalIsRead =
    IsCertificate (text (opening ∷ statement ∷ codes "1 t-var [] : Unit^{_4294967295}" ∷ []))
    (Opens ∷ States identity ∷
    Concludes (record {
      rule = t-var;
      premises = [];
      first = None;
      claim = OfType (capturing nothing (from_list (Variable (Bound 4294967295) ∷ [])));
    }) ∷ [])

abbrev pub GreaterLocalIsBad : Type 0
GreaterLocalIsBad = IsBadLine (text (opening ∷ statement ∷ codes "1 t-var [] : Unit^{_4294967296}" ∷ [])) 3

-- HOW MANY NODES THERE ARE

-- a node over the one before it
abbrev pub over : ℕ → CertificateNode
over number = record { rule = t-box; premises = number ∷ []; first = None; claim = OfType (capturing nothing none) }

-- a leaf, and so many nodes, each over the one before it; the first of them is over the node of the number
unfoldable pub chain : ℕ → ℕ → List Line
chain number zero = []
chain number (suc count) = Concludes (over number) ∷ chain (suc number) count

-- the lines with so many nodes over a leaf
abbrev pub chain_lines : ℕ → List Line
chain_lines count = Opens ∷ States (LiteralTerm UnitLiteral) ∷ Concludes (leaf_of nothing) ∷ chain 1 count

-- there are at most 100,000 nodes, of which here one is the leaf
abbrev pub ManyNodesAreRead : Type 0
ManyNodesAreRead =
    (count : ℕ) → count < 100000 → IsCertificate (lines_text Start (chain_lines count)) (chain_lines count)

-- with one more, its line is bad, behind two lines and 100,000 nodes
abbrev pub OneNodeMoreIsBad : Type 0
OneNodeMoreIsBad =
    (count : ℕ) → 100000 ≤ count → IsBadLine (lines_text Start (chain_lines count)) 100003

-- THE HEIGHT OF A TYPE AND OF A TERM

-- Unit in so many boxes, which is one higher, and its text
unfoldable pub boxed : ℕ → Shape
boxed zero = nothing
boxed (suc count) = BoxShape (boxed count) none

unfoldable pub boxed_text : ℕ → List ℕ
boxed_text zero = codes "Unit"
boxed_text (suc count) = codes "Box[" ++ (boxed_text count ++ codes "]")

-- a bind, a term and a node with this type
abbrev pub bind_with : ℕ → List ℕ
bind_with count = codes "bind a: " ++ boxed_text count

abbrev pub term_with : ℕ → List ℕ
term_with count = codes "term fun (_0: " ++ (boxed_text count ++ codes ") => _0")

abbrev pub node_with : ℕ → List ℕ
node_with count = codes "1 t-lit [] : " ++ boxed_text count

-- A type has at most the height 5,000, in a bind and in a node. A term does too, and a function is one higher than what
-- it takes.
abbrev pub HighSyntaxIsRead : Type 0
HighSyntaxIsRead =
    (types terms : ℕ) → types < 5000 → terms < 4999
    → IsCertificate (text (opening ∷ bind_with types ∷ term_with terms ∷ node_with types ∷ []))
    (Opens ∷ Binds (codes "a") (capturing (boxed types) none) ∷
    States (FunctionTerm (boxed terms) none (VariableTerm (Bound 0))) ∷ Concludes (leaf_of (boxed types)) ∷ [])

-- one box more in one of them, and its line is bad
abbrev pub HigherNodeIsBad : Type 0
HigherNodeIsBad = (count : ℕ) → 5000 ≤ count → IsBadLine (text (opening ∷ statement ∷ node_with count ∷ [])) 3

abbrev pub HigherBindIsBad : Type 0
HigherBindIsBad = (count : ℕ) → 5000 ≤ count → IsBadLine (text (opening ∷ bind_with count ∷ statement ∷ [])) 2

abbrev pub HigherTermIsBad : Type 0
HigherTermIsBad = (count : ℕ) → 4999 ≤ count → IsBadLine (text (opening ∷ term_with count ∷ [])) 2
