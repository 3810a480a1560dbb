use Rattle.std.proofs.Common.{◌≡◌, drop}
use Rattle.cc_elaboration_reasons.specs.ExplainedElaboration.{elements_refusal}
use Rattle.cc_elaboration_reasoning.specs.ScopeViews.{scope_of}
use Rattle.cc_elaboration_reasoning.proofs.types.elements.Given as goal
use Rattle.cc_parse.specs.Trees.{elements_syntax}

-- what is refused of the elements that are left is what is refused of all
abbrev pub invariant-loop-one : goal.invariant-loop-one
invariant-loop-one l =
    elements_refusal (scope_of l.scope) (elements_syntax (drop l.one-index l.elements))
    ≡ elements_refusal (scope_of l.scope) (elements_syntax l.elements)
