-- What is found of worked certificates, and the texts of it.
use Rattle.std.specs.Prelude.{◌≡◌, ℕ, List, [], ◌∷◌, codes}
use Rattle.cc_core.specs.Shapes.{capturing}
use Rattle.cc_capture.specs.Sets.{empty}
use Rattle.cc_certificate_reading.specs.ReadingExamples.{text, opening, statement, body_node}
use Rattle.cc_certificate_judging.specs.Answers.{Found, ProvesType, HasBadLine, HasBadNode, IsFound, found_text}
use Rattle.cc_certificate_judging.specs.JudgingExamples.{identity_shape}

-- This is found of the lines, each with its line feed, and this is written of it.
abbrev pub Finds : List (List ℕ) → Found → List ℕ → Type 0
Finds lines found written = IsFound (text lines) found × (found_text found ≡ written)

-- the line of the function, over the node of the body
abbrev pub function_node : List ℕ
function_node = codes "2 t-abs [1] : (_0: Unit) -> Unit^{_0}"

-- the certificate of the identity on the unit value
abbrev pub IdentityIsValid : Type 0
IdentityIsValid =
    Finds (opening ∷ statement ∷ body_node ∷ function_node ∷ []) (ProvesType [] (capturing identity_shape empty))
    (codes "valid (_0: Unit) -> Unit^{_0}")

-- without the set of the variable
abbrev pub WrongTypeIsABadNode : Type 0
WrongTypeIsABadNode =
    Finds (opening ∷ statement ∷ codes "1 t-var [] : Unit" ∷ function_node ∷ []) (HasBadNode 1) (codes "bad node 1")

-- with a premise that is no node before
abbrev pub WrongPremiseIsABadLine : Type 0
WrongPremiseIsABadLine =
    Finds (opening ∷ statement ∷ body_node ∷ codes "2 t-abs [2] : (_0: Unit) -> Unit^{_0}" ∷ []) (HasBadLine 4)
    (codes "bad line 4")

-- without a node
abbrev pub NoNodeIsABadLine : Type 0
NoNodeIsABadLine = Finds (opening ∷ statement ∷ []) (HasBadLine 3) (codes "bad line 3")

-- no bytes
abbrev pub NothingIsABadLine : Type 0
NothingIsABadLine = Finds [] (HasBadLine 1) (codes "bad line 1")
