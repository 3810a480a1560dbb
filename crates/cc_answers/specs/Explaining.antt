-- What the code finds where a definition is explained. It serves the code alone.
use Rattle.std.specs.Prelude.{◌≡◌, ◌≢◌, ℕ, List, [], ◌∷◌, ◌++◌, map, Option, Some, None, slice_get}
use Rattle.std.specs.List.{flat_map}
use Rattle.std.specs.Option.{option_to_list}
use Rattle.cc_base.specs.declared.device.DeviceDecl.{DeviceDecl}
use Rattle.cc_capture.specs.declared.var.Var.{Var}
use Rattle.cc_capture.specs.declared.var.Var.TheVariants.{Bound, Free}
use Rattle.cc_capture.specs.declared.var.Elem.{Elem}
use Rattle.cc_capture.specs.declared.var.Elem.TheVariants.{Var as Variable, Cap, Hole}
use Rattle.cc_explain.specs.Chains.{IsChain, IsFirstShortest}
use Rattle.cc_explain.specs.Entries.{Entries, targets_of}
use Rattle.cc_explain.specs.declared.target.Target.{Target}
use Rattle.cc_explain.specs.declared.target.Target.TheVariants as targets
use Rattle.cc_entry_laws.specs.PresentEntries.{CheckedModule}
use Rattle.cc_entry_laws.specs.PresentLinks.{DefinitionOf, entry_in}
use Rattle.cc_verdicts.specs.ModuleVerdicts.{ModuleVerdict}
use Rattle.cc_verdicts.specs.PresentTexts.{Texts, AreVerdicts}
use Rattle.cc_link.specs.ModuleLinks.{links_in}
use Rattle.cc_replies.specs.ExplainReplies.{AreExplained}
use Rattle.cc_replies.specs.ReplyTexts.{Explanation, Explained, reply_text}
use Rattle.cc_replies.specs.declared.chains.FoundChain.{FoundChain}

-- the names of the definitions of a module, and of modules, in order
abbrev pub names_in : CheckedModule → List (List ℕ × List ℕ)
names_in current = map (λ one. (current.name, one.name)) current.definitions

abbrev pub definition_names : List CheckedModule → List (List ℕ × List ℕ)
definition_names modules = flat_map names_in modules

-- the definition of these names stands at the place, if it stands anywhere
abbrev pub StandsAt : List (List ℕ × List ℕ) → List ℕ × List ℕ → Option ℕ → Type 0
StandsAt definitions names (Some place) = slice_get definitions place ≡ Some names
StandsAt definitions names None = (place : ℕ) → slice_get definitions place ≢ Some names

-- what an element of a set over devices is
abbrev pub variable_element : Var → Option Target
variable_element (Free position) = Some (targets.Device position)
variable_element (Bound index) = None

abbrev pub element_target : Elem → Option Target
element_target (Variable variable) = variable_element variable
element_target Cap = Some targets.Cap
element_target (Hole number) = None

-- a chain to the element, or that there is none
abbrev pub FindsChain : Entries → ℕ → Elem → Option FoundChain → Type 0
FindsChain links from element (Some it) =
    (element_target element ≡ Some it.target)
    × IsFirstShortest (targets_of links) (targets.Definition from) it.target it.chain.items
FindsChain links from element None =
    (target : Target) → element_target element ≡ Some target
    → (chain : List Target) → IsChain (targets_of links) (targets.Definition from) target chain → ⊥

-- the chains to elements, in order, where those to which none leads are left out
abbrev pub FindsAll : Entries → ℕ → List Elem → List FoundChain → Type 0
FindsAll links from [] found = found ≡ []
FindsAll links from (element ∷ elements) found =
    (one : Option FoundChain) × (later : List FoundChain) × FindsChain links from element one
    × FindsAll links from elements later × (found ≡ option_to_list one ++ later)

-- the chains that are found to elements from the definition, where modules are linked so
abbrev pub FindsLinked : ℕ → List CheckedModule → List ℕ → List ℕ → List Elem → List FoundChain → Type 0
FindsLinked devices modules module_name name elements found =
    (place : ℕ) × (slice_get (definition_names modules) place ≡ Some (module_name, name))
    × FindsAll (links_in devices modules) place elements found

-- The text is that of the explanations of elements of a definition.
abbrev pub TellsExplanations : List DeviceDecl → Texts → (List ℕ → ModuleVerdict) → List (List ℕ) → List ℕ → List ℕ
    → List Elem → List ℕ → Type 0
TellsExplanations devices texts verdicts names module_name name elements text =
    (explanations : List Explanation)
    × AreExplained (entry_in devices texts verdicts) (DefinitionOf module_name name) elements explanations
    × (text ≡ reply_text names (Explained module_name name explanations))
