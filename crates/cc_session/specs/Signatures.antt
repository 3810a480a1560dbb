-- What is answered of the signatures of modules, and of what was found for their imports.
use Rattle.std.specs.Prelude.{ℕ, List, [], ◌∷◌, Option, Some, None, Result, Ok, Err, if◌then◌else◌}
use Rattle.std.specs.Str.{bytes_eq}
use Rattle.cc_base.specs.declared.code.Code.{Code}
use Rattle.cc_base.specs.declared.code.Code.TheVariants.{E32, E33, E34}
use Rattle.cc_judge.specs.Judgements.{Judgement}
use Rattle.cc_verdicts.specs.ModuleVerdicts.{CheckedDefinition, Finding, ModuleVerdict, IsAccepted, IsRefused}
use Rattle.cc_verdicts.specs.PresentTexts.{definition_named}

-- the verdict of the module, if it was judged
abbrev pub verdict_named : List ℕ → List Judgement → Option ModuleVerdict
verdict_named name [] = None
verdict_named name (first ∷ rest) = if bytes_eq name first.name then Some first.verdict else verdict_named name rest

-- what was found for the imports of the module, if it was judged
abbrev pub findings_named : List ℕ → List Judgement → Option (List Finding)
findings_named name [] = None
findings_named name (first ∷ rest) = if bytes_eq name first.name then Some first.findings else findings_named name rest

-- the definitions of an accepted module
abbrev pub shown_definitions : ModuleVerdict → Result (List CheckedDefinition) Code
shown_definitions (IsAccepted definitions) = Ok definitions
shown_definitions (IsRefused code at) = Err E34

-- those of the module with this verdict, if there is one
abbrev pub definitions_or : Option ModuleVerdict → Result (List CheckedDefinition) Code
definitions_or (Some verdict) = shown_definitions verdict
definitions_or None = Err E32

-- the definitions of the module, or why there are none: there is no such module, or it is not accepted
abbrev pub signature_of : List Judgement → List ℕ → Result (List CheckedDefinition) Code
signature_of last name = definitions_or (verdict_named name last)

-- the definition, if there is one
abbrev pub definition_or : Option CheckedDefinition → Result CheckedDefinition Code
definition_or (Some definition) = Ok definition
definition_or None = Err E33

abbrev pub definition_among : List ℕ → Result (List CheckedDefinition) Code → Result CheckedDefinition Code
definition_among name (Ok definitions) = definition_or (definition_named name definitions)
definition_among name (Err code) = Err code

-- the definition of the module, or why there is none: besides, the module has no definition of the name
abbrev pub definition_in : List Judgement → List ℕ → List ℕ → Result CheckedDefinition Code
definition_in last module_name name = definition_among name (signature_of last module_name)
