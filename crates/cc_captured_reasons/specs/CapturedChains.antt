-- The chains of what was captured, one for each element, and how they are told.
use Rattle.std.specs.Prelude.{ℕ, Bool, List, [], ◌∷◌, ◌++◌, codes}
use Rattle.cc_capture.specs.declared.var.Elem.{Elem}
use Rattle.cc_capture.specs.Sets.{Set}
use Rattle.cc_core.specs.Contexts.{Context}
use Rattle.cc_core.specs.WellFormed.{IsWellFormedContext}
use Rattle.cc_mnf.specs.Scopes.{Name}
use Rattle.cc_reasons.specs.Causes.{Scene}
use Rattle.cc_reasons.specs.DefinitionReasons.{NotBelow}
use Rattle.cc_reasons.specs.ReasonTexts.{with_locals, element_there, set_there, spaced, AreBeyond, is_end, LeadsOn, AreLines}
use Rattle.cc_reasons.specs.ShortestChains.{IsFirstShortestToEnd}

-- For each element in order, the first of the shortest chains from it to an end. That of an end is the end alone.
pub data AreChains (entry : Elem → List Elem) (ends : Elem → Bool) : List Elem → List (List Elem) → Type 0 where
  no_chain : AreChains entry ends [] []
  one_chain : {e : Elem} {rest chain : List Elem} {chains : List (List Elem)} → IsFirstShortestToEnd entry ends e chain
      → AreChains entry ends rest chains → AreChains entry ends (e ∷ rest) (chain ∷ chains)

-- the lines of chains: one for each that goes on
abbrev pub chain_lines : List Name → Context → List (List Elem) → List (List ℕ)
chain_lines names context [] = []
chain_lines names context ([] ∷ chains) = chain_lines names context chains
chain_lines names context ((e ∷ []) ∷ chains) = chain_lines names context chains
chain_lines names context ((e ∷ next ∷ behind) ∷ chains) =
    (element_there names context e ++ codes ":" ++ spaced names context (next ∷ behind)) ∷ chain_lines names context chains

-- What is not below, with a chain for each, gives the lines of the reason.
abbrev pub CapturedIsTold : Type 0
CapturedIsTold =
    (devices : ℕ) (names : List Name) (scene : Scene) (left right : Set) (captured : List Elem)
    (chains : List (List Elem))
    → IsWellFormedContext scene.context → AreBeyond scene.context right left.list captured
    → ((entry : Elem → List Elem) → LeadsOn devices scene.context right entry
    → AreChains entry (is_end devices) captured chains)
    → AreLines devices names (NotBelow scene left right)
    ((codes "captured" ++ spaced (with_locals names scene.locals) scene.context captured)
    ∷ (codes "allowed " ++ set_there (with_locals names scene.locals) scene.context right)
    ∷ chain_lines (with_locals names scene.locals) scene.context chains)
