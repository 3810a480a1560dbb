-- The plain derivations that the program's values stand for. Sharing is left out.
use Rattle.cc_core.specs.Derivations as plain
use Rattle.cc_core.specs.Derivations.{Node, NoPremise, Premise, SetBelow, ShapeBelow, TypeBelow, OfType, Derivation}
use Rattle.cc_core.specs.TermViews.{shape_of, type_of}
use Rattle.cc_derivation.specs.declared.derivation.Rule.{Rule}
use Rattle.cc_derivation.specs.declared.derivation.Rule.TheVariants as rules
use Rattle.cc_derivation.specs.declared.derivation.Claim.{Claim}
use Rattle.cc_derivation.specs.declared.derivation.Claim.TheVariants as claims
use Rattle.cc_derivation.specs.declared.derivation.Premises.{Premises}
use Rattle.cc_derivation.specs.declared.derivation.Premises.TheVariants as lists
use Rattle.cc_derivation.specs.declared.derivation.Der.{Der}

-- the rule
abbrev pub rule_of : Rule → plain.Rule
rule_of rules.ByElement = plain.ByElement
rule_of rules.ByVariable = plain.ByVariable
rule_of rules.BySet = plain.BySet
rule_of rules.ByReflexivity = plain.ByReflexivity
rule_of rules.ByTransitivity = plain.ByTransitivity
rule_of rules.ByTypeVariable = plain.ByTypeVariable
rule_of rules.ByTop = plain.ByTop
rule_of rules.ByFunction = plain.ByFunction
rule_of rules.ByTypeFunction = plain.ByTypeFunction
rule_of rules.ByBox = plain.ByBox
rule_of rules.ByCapturing = plain.ByCapturing
rule_of rules.Variable = plain.t-var
rule_of rules.Literal = plain.t-lit
rule_of rules.Function = plain.t-abs
rule_of rules.TypeFunction = plain.t-tabs
rule_of rules.Application = plain.t-app
rule_of rules.TypeApplication = plain.t-tapp
rule_of rules.Boxing = plain.t-box
rule_of rules.Unboxing = plain.t-unbox
rule_of rules.Let = plain.t-let
rule_of rules.Primitive = plain.t-prim
rule_of rules.Choice = plain.t-if
rule_of rules.Repetition = plain.t-repeat
rule_of rules.Operation = plain.t-op
rule_of rules.Boundary = plain.t-boundary
rule_of rules.Exit = plain.t-exit
rule_of rules.Subsumption = plain.t-sub

-- the claim
abbrev pub claim_of : Claim → plain.Claim
claim_of (claims.Typed type) = OfType (type_of type)
claim_of (claims.TypeBelow left right) = TypeBelow (type_of left) (type_of right)
claim_of (claims.ShapeBelow left right) = ShapeBelow (shape_of left.value) (shape_of right.value)
claim_of (claims.SetBelow left right) = SetBelow left right

-- the premises
abbrev pub premises_of : Premises → plain.Premises
premises_of lists.End = NoPremise
premises_of (lists.More' p rule claim premises q rest) =
    Premise (Node (rule_of rule) (premises_of premises) (claim_of claim)) (premises_of rest)

-- the derivation
abbrev pub der_of : Der → Derivation
der_of der = Node (rule_of der.rule) (premises_of der.premises) (claim_of der.claim)
