-- Explanations as the code has them, where definitions have numbers. It serves the code alone.
use Rattle.std.specs.Prelude.{ℕ, List, [], map, Option, Some, None, slice_get}
use Rattle.cc_explain.specs.declared.target.Target.{Target as NumberedTarget}
use Rattle.cc_explain.specs.declared.target.Target.TheVariants.{Definition, Device, Cap}
use Rattle.cc_entry_laws.specs.PresentLinks.{Target, DefinitionOf, DeviceAt, Universal}
use Rattle.cc_replies.specs.ReplyTexts.{Explanation}
use Rattle.cc_replies.specs.declared.chains.DefinitionName.{DefinitionName}
use Rattle.cc_replies.specs.declared.chains.FoundChain.{FoundChain}

-- the names of a module and of its definition
abbrev pub names_of : DefinitionName → List ℕ × List ℕ
names_of it = (it.«module».now, it.def.now)

-- the definition of these names, if there is one
abbrev pub definition_or : Option (List ℕ × List ℕ) → Target
definition_or (Some names) = DefinitionOf names.0 names.1
definition_or None = DefinitionOf [] []

-- what a target is, where these are the names of the definitions by their numbers
abbrev pub target_named : List (List ℕ × List ℕ) → NumberedTarget → Target
target_named definitions (Definition number) = definition_or (slice_get definitions number)
target_named definitions (Device number) = DeviceAt number
target_named definitions Cap = Universal

-- an explanation with these names
abbrev pub explanation_named : List (List ℕ × List ℕ) → FoundChain → Explanation
explanation_named definitions it = record {
  target = target_named definitions it.target;
  chain = map (target_named definitions) it.chain.items;
}
