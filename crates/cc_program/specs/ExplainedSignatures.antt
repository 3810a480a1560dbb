-- What is told of a signature explains it.
use Rattle.std.specs.Prelude.{◌≡◌, ◌↔◌, ℕ, List, Some, Ok}
use Rattle.cc_base.specs.declared.device.DeviceDecl.{DeviceDecl}
use Rattle.cc_capture.specs.Sets.{Member}
use Rattle.cc_capture.specs.declared.var.Elem.{Elem}
use Rattle.cc_explain.specs.Chains.{IsChain}
use Rattle.cc_entry_laws.specs.PresentLinks.{Target, DefinitionOf, element_of, entry_in}
use Rattle.cc_verdicts.specs.ModuleLaws.{NamesOfDevicesDiffer}
use Rattle.cc_verdicts.specs.ModuleVerdicts.{ModuleVerdict}
use Rattle.cc_verdicts.specs.PresentTexts.{Texts, ArePresent, AreVerdicts}
use Rattle.cc_verdicts.specs.StandingDefinitions.{Standing, standing_in}
use Rattle.cc_replies.specs.Replies.{Replies}
use Rattle.cc_replies.specs.ReplyTexts.{Explanation, Explained}
use Rattle.cc_replies.specs.Requests.{JobState, ExplainDefinition, Ask}
use Rattle.cc_program.specs.SoundJobs.{NamesDefinition}
use Rattle.cc_program.specs.TrueReplies.{HasLine}

-- These are the lines about the outermost set of the signature of a definition of an accepted present module: an element
-- stands in the set exactly where it has a line, and also exactly where a chain of links leads to it.
pub record ExplainsSignature (devices : List DeviceDecl) (texts : Texts) (module_name name : List ℕ)
    (explanations : List Explanation) : Type 0 where
  pub verdicts : List ℕ → ModuleVerdict
  pub are : AreVerdicts devices texts verdicts
  pub it : Standing
  pub stands : standing_in texts verdicts module_name name ≡ Ok it
  pub lines : (element : Elem)
      → Member element it.definition.accepted.signature.set
      ↔ HasLine (entry_in devices texts verdicts) (DefinitionOf module_name name) explanations element
  pub chains : (element : Elem)
      → Member element it.definition.accepted.signature.set
      ↔ ((target : Target) × (chain : List Target) × (element_of target ≡ Some element)
      × IsChain (entry_in devices texts verdicts) (DefinitionOf module_name name) target chain)

-- So does each reply that explains a signature, of the definition that is asked for.
abbrev pub ExplainedSignaturesAreExplained : Type 0
ExplainedSignaturesAreExplained =
    (devices : List DeviceDecl) (state : JobState) → NamesOfDevicesDiffer devices → ArePresent state.texts
    → (module_name name owner definition : List ℕ) (explanations : List Explanation)
    → Replies devices state (Ask (ExplainDefinition module_name name)) (Explained owner definition explanations)
    → NamesDefinition owner definition module_name name
    × ExplainsSignature devices state.texts module_name name explanations
