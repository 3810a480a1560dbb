-- What is answered where a definition is explained: why each element is in the outermost set of its signature.
use Rattle.std.specs.Prelude.{◌≡◌, ℕ, List, [], ◌∷◌, Some, Result, Ok, Err}
use Rattle.cc_base.specs.declared.code.Code.{Code}
use Rattle.cc_base.specs.declared.device.DeviceDecl.{DeviceDecl}
use Rattle.cc_capture.specs.declared.var.Elem.{Elem}
use Rattle.cc_explain.specs.Chains.{IsFirstShortest}
use Rattle.cc_entry_laws.specs.PresentLinks.{Target, DefinitionOf, element_of, entry_in}
use Rattle.cc_verdicts.specs.ModuleVerdicts.{ModuleVerdict}
use Rattle.cc_verdicts.specs.PresentTexts.{Texts}
use Rattle.cc_verdicts.specs.StandingDefinitions.{Standing}
use Rattle.cc_replies.specs.ReplyTexts.{Reply, Explanation, Explained, ExplainRefused}

-- The explanation of an element: its target is the element, and its chain is the first of the shortest ones that lead to it
-- from another target, by these entries.
pub record Explains (entry : Target → List Target) (from : Target) (element : Elem) (it : Explanation) : Type 0 where
  pub is_element : element_of it.target ≡ Some element
  pub has_chain : IsFirstShortest entry from it.target it.chain

-- an explanation of each of these elements, in order
abbrev pub AreExplained : (Target → List Target) → Target → List Elem → List Explanation → Type 0
AreExplained entry from [] explanations = explanations ≡ []
AreExplained entry from (first ∷ others) explanations =
    (it : Explanation) × (later : List Explanation) × Explains entry from first it
    × AreExplained entry from others later × (explanations ≡ it ∷ later)

-- The explanations of the elements of the outermost set of a definition's signature, by what present definitions link
-- to, where there is this one, or why there is none.
abbrev pub IsExplainAnswer : List DeviceDecl → Texts → (List ℕ → ModuleVerdict) → List ℕ → List ℕ
    → Result Standing Code → Reply → Type 0
IsExplainAnswer devices texts verdicts module_name name (Ok it) reply =
    (explanations : List Explanation)
    × AreExplained (entry_in devices texts verdicts) (DefinitionOf module_name name)
    it.definition.accepted.signature.set.list explanations
    × (reply ≡ Explained module_name name explanations)
IsExplainAnswer devices texts verdicts module_name name (Err code) reply = reply ≡ ExplainRefused module_name name code
