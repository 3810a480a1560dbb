-- What the program answers where it is asked which definition of a module is refused first, and why.
use Rattle.std.specs.Prelude.{ℕ, List, [], ◌∷◌, ◌++◌, map, take, drop, Option, Some, None}
use Rattle.cc_base.specs.declared.place.Place.{Place}
use Rattle.cc_core.specs.Contexts.{Context}
use Rattle.cc_mnf.specs.ElaboratedModules.{CoreDefinition}
use Rattle.cc_mnf.specs.Scopes.{Name}
use Rattle.cc_reasons.specs.DefinitionReasons.{DefinitionReason}
use Rattle.cc_reasons.specs.ExplainedInference.{BinderNames}
use Rattle.cc_reasons.specs.RefusedDefinitions.{names_inside, IsRefusedFirst}
use Rattle.cc_definition_reasoning.specs.Reasons.{reason_of}
use Rattle.cc_module_reasoning.specs.declared.definitions.RefusedDefinition.{RefusedDefinition}

-- the names behind these and those of so many definitions
abbrev pub names_behind : List Name → List CoreDefinition → ℕ → List Name
names_behind names definitions count = names ++ map (λ one. one.name) (take count definitions)

-- the names that are visible inside the first of definitions, if there is one
abbrev pub names_inside_first : List Name → List CoreDefinition → List Name
names_inside_first names [] = names
names_inside_first names (first ∷ rest) = names_inside names first

-- those inside the definition behind so many
abbrev pub names_inside_at : List Name → List CoreDefinition → ℕ → List Name
names_inside_at names definitions count =
    names_inside_first (names_behind names definitions count) (drop count definitions)

-- The answer is which of the definitions is refused first, behind how many, why and where; there is none where none is.
abbrev pub AreExplained : ℕ → Context → List CoreDefinition → List BinderNames → Option RefusedDefinition → Type 0
AreExplained devices context definitions binders None =
    (names : List Name) (reason : DefinitionReason) (at : Place) (inside : List Name)
    → IsRefusedFirst devices context names definitions binders reason at inside → ⊥
AreExplained devices context definitions binders (Some found) =
    (names : List Name)
    → IsRefusedFirst devices context names definitions binders (reason_of found.reason) found.at
    (names_inside_at names definitions found.before)
