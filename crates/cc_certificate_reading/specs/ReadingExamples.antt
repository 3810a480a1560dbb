-- Worked certificates, and bytes that are none.
use Rattle.std.specs.Prelude.{ℕ, List, [], ◌∷◌, ◌++◌, codes, Some, None}
use Rattle.cc_base.specs.declared.literal.Base.TheVariants as bases
use Rattle.cc_capture.specs.declared.var.Var.TheVariants.{Bound}
use Rattle.cc_capture.specs.declared.var.Elem.TheVariants.{Var as Variable}
use Rattle.cc_capture.specs.Sets.{Set, from_list}
use Rattle.cc_core.specs.Shapes.{Shape, BaseShape, FunctionShape, capturing}
use Rattle.cc_core.specs.Terms.{Term, VariableTerm, FunctionTerm}
use Rattle.cc_core.specs.Derivations.{t-var, t-abs, OfType}
use Rattle.cc_certificate_text.specs.Certificates.{Line, Opens, States, Concludes, IsCertificate, IsBadLine}

-- lines, each with its line feed
abbrev pub text : List (List ℕ) → List ℕ
text [] = []
text (line ∷ lines) = line ++ 10 ∷ text lines

-- those of the identity on the unit value
abbrev pub opening : List ℕ
opening = codes "cert 1"

abbrev pub statement : List ℕ
statement = codes "term fun (_0: Unit) => _0"

abbrev pub body_node : List ℕ
body_node = codes "1 t-var [] : Unit^{_0}"

abbrev pub none : Set
none = from_list []

abbrev pub parameter : Set
parameter = from_list (Variable (Bound 0) ∷ [])

abbrev pub nothing : Shape
nothing = BaseShape bases.Unit

abbrev pub identity : Term
identity = FunctionTerm nothing none (VariableTerm (Bound 0))

-- the line of the body, and that of the function
abbrev pub body_line : Line
body_line =
    Concludes (record { rule = t-var; premises = []; first = None; claim = OfType (capturing nothing parameter) })

abbrev pub function_line : Line
function_line = Concludes (record {
  rule = t-abs;
  premises = 1 ∷ [];
  first = Some 0;
  claim = OfType (capturing (FunctionShape nothing none nothing parameter) none);
})

-- the certificate of the identity
abbrev pub IdentityIsCertified : Type 0
IdentityIsCertified =
    IsCertificate (text (opening ∷ statement ∷ body_node ∷ codes "2 t-abs [1] : (_0: Unit) -> Unit^{_0}" ∷ []))
    (Opens ∷ States identity ∷ body_line ∷ function_line ∷ [])

-- a node without the set of its variable says something else, and can be read
abbrev pub WrongTypeIsRead : Type 0
WrongTypeIsRead =
    IsCertificate (text (opening ∷ statement ∷ codes "1 t-var [] : Unit" ∷ []))
    (Opens ∷ States identity ∷
    Concludes (record { rule = t-var; premises = []; first = None; claim = OfType (capturing nothing none) }) ∷ [])

-- a premise is no node before it
abbrev pub WrongPremiseIsBad : Type 0
WrongPremiseIsBad =
    IsBadLine (text (opening ∷ statement ∷ body_node ∷ codes "2 t-abs [2] : (_0: Unit) -> Unit^{_0}" ∷ [])) 4

-- there is no node
abbrev pub NoNodeIsBad : Type 0
NoNodeIsBad = IsBadLine (text (opening ∷ statement ∷ [])) 3

-- two nodes are a premise of no other
abbrev pub TwoRootsAreBad : Type 0
TwoRootsAreBad = IsBadLine (text (opening ∷ statement ∷ body_node ∷ codes "2 t-var [] : Unit^{_0}" ∷ [])) 5

-- a number has a leading zero
abbrev pub LeadingZeroIsBad : Type 0
LeadingZeroIsBad = IsBadLine (text (opening ∷ statement ∷ codes "01 t-var [] : Unit^{_0}" ∷ [])) 3

-- no bytes
abbrev pub NothingIsBad : Type 0
NothingIsBad = IsBadLine [] 1
