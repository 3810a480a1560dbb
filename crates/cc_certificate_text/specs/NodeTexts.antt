-- How the node of a derivation is written.
use Rattle.std.specs.Prelude.{ℕ, List, [], ◌∷◌, ◌++◌, codes}
use Rattle.std.specs.Fmt.{decimal}
use Rattle.std.specs.List.{flat_map}
use Rattle.cc_core.specs.Derivations.{Rule, ByElement, ByVariable, BySet, ByReflexivity, ByTransitivity, ByTypeVariable}
use Rattle.cc_core.specs.Derivations.{ByTop, ByFunction, ByTypeFunction, ByBox, ByCapturing, t-var, t-lit, t-abs}
use Rattle.cc_core.specs.Derivations.{t-tabs}
use Rattle.cc_core.specs.Derivations.{t-app, t-tapp, t-box, t-unbox, t-let, t-prim, t-if, t-repeat, t-op, t-boundary}
use Rattle.cc_core.specs.Derivations.{t-exit, t-sub, Claim, SetBelow, ShapeBelow, TypeBelow, OfType}
use Rattle.cc_print.specs.TypeTexts.{set_text, shape_text, type_text}

abbrev pub rule_text : Rule → List ℕ
rule_text ByElement = codes "elem"
rule_text ByVariable = codes "var"
rule_text BySet = codes "set"
rule_text ByReflexivity = codes "refl"
rule_text ByTransitivity = codes "tran"
rule_text ByTypeVariable = codes "tvar"
rule_text ByTop = codes "top"
rule_text ByFunction = codes "fun"
rule_text ByTypeFunction = codes "tfun"
rule_text ByBox = codes "boxed"
rule_text ByCapturing = codes "capt"
rule_text t-var = codes "t-var"
rule_text t-lit = codes "t-lit"
rule_text t-abs = codes "t-abs"
rule_text t-tabs = codes "t-tabs"
rule_text t-app = codes "t-app"
rule_text t-tapp = codes "t-tapp"
rule_text t-box = codes "t-box"
rule_text t-unbox = codes "t-unbox"
rule_text t-let = codes "t-let"
rule_text t-prim = codes "t-prim"
rule_text t-if = codes "t-if"
rule_text t-repeat = codes "t-repeat"
rule_text t-op = codes "t-op"
rule_text t-boundary = codes "t-boundary"
rule_text t-exit = codes "t-exit"
rule_text t-sub = codes "t-sub"

-- what a node concludes, where so many local binders stand behind the names
abbrev pub claim_text : List (List ℕ) → ℕ → Claim → List ℕ
claim_text names locals (OfType type) = codes ": " ++ type_text names locals type
claim_text names locals (TypeBelow left right) =
    type_text names locals left ++ codes " <: " ++ type_text names locals right
claim_text names locals (ShapeBelow left right) =
    shape_text names locals left ++ codes " <: " ++ shape_text names locals right
claim_text names locals (SetBelow left right) =
    set_text names locals left ++ codes " <: " ++ set_text names locals right

-- numbers behind a first one
abbrev pub other_numbers : List ℕ → List ℕ
other_numbers others = flat_map (λ other. codes " " ++ decimal other) others

-- numbers with a space between them
abbrev pub numbers_text : List ℕ → List ℕ
numbers_text [] = []
numbers_text (first ∷ others) = decimal first ++ other_numbers others

-- the line of a node: its number, its rule, the numbers of its premises, and what it concludes
abbrev pub node_line : List (List ℕ) → ℕ → ℕ → Rule → List ℕ → Claim → List ℕ
node_line names locals number rule premises claim =
    decimal number ++ codes " " ++ rule_text rule ++ codes " [" ++ numbers_text premises ++ codes "] "
    ++ claim_text names locals claim
