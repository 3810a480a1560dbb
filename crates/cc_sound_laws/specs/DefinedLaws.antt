-- The laws of definitions that are defined under a filling, and of texts that are modules.
use Rattle.std.specs.Prelude.{◌↔◌, ℕ, List, length}
use Rattle.cc_base.specs.declared.code.Code.{Code}
use Rattle.cc_base.specs.declared.place.Place.{Place}
use Rattle.cc_core.specs.Shapes.{CapturingType}
use Rattle.cc_core.specs.Terms.{Term}
use Rattle.cc_core.specs.Contexts.{Context}
use Rattle.cc_core.specs.Holes.{HolesAreOfParameters}
use Rattle.cc_core.specs.Occurrences.{HasNoHoleInType}
use Rattle.cc_core.specs.Typing.{HasType}
use Rattle.cc_core.specs.WellFormed.{IsWellFormedType}
use Rattle.cc_grammar.specs.Syntax.{ModuleSyntax}
use Rattle.cc_checking.specs.Fillings.{Filling, IsOverGlobals}
use Rattle.cc_checking.specs.Verdicts.{Accepted, IsAccepted, IsRefused, HasVerdict}
use Rattle.cc_checking_laws.specs.AcceptedDefinitions.{definition_context}
use Rattle.cc_checking_laws.specs.CheckingLaws.{Fits, oldest}
use Rattle.cc_calculus_laws.specs.DirectedTypes.{HasDirectedDefinition}
use Rattle.cc_mnf.specs.ElaboratedModules.{CoreDefinition}
use Rattle.cc_verdicts.specs.ModuleVerdicts.{to_be_checked, checked_as, in_program}
use Rattle.cc_verdicts.specs.Readings.{IsTree, HasReading}
use Rattle.cc_sound_laws.specs.DefinedAs.{IsDefinedAs, IsAcceptedAs}
use Rattle.cc_sound_laws.specs.ModuleTexts.{IsModuleText}

-- A definition is defined as something exactly where it has a directed type.
abbrev pub DefinedWhereDirected : Type 0
DefinedWhereDirected =
    (devices : ℕ) (globals : Context) (definition : CoreDefinition) (filling : Filling)
    → HasDirectedDefinition devices globals (to_be_checked definition) filling
    ↔ ((value : Term) × (signature : CapturingType) × IsDefinedAs devices globals definition filling value signature)

-- What it is defined as is typed by the rules of the calculus, with a signature over the devices that has no hole.
abbrev pub DefinedDefinitionsAreTyped : Type 0
DefinedDefinitionsAreTyped =
    (devices : ℕ) (globals : Context) (definition : CoreDefinition) (filling : Filling) (value : Term)
    (signature : CapturingType) → Fits globals (to_be_checked definition) → HolesAreOfParameters definition.right
    → IsOverGlobals (length globals) filling → IsDefinedAs devices globals definition filling value signature
    → HasType (definition_context globals (to_be_checked definition) signature) value signature
    × IsWellFormedType (oldest devices globals) signature × HasNoHoleInType signature

-- What the checker accepts is accepted by its types, with the same value and the same signature.
abbrev pub AcceptedVerdictsAreByTypes : Type 0
AcceptedVerdictsAreByTypes =
    (devices : ℕ) (globals : Context) (definition : CoreDefinition) (accepted : Accepted)
    → Fits globals (to_be_checked definition) → HolesAreOfParameters definition.right
    → HasVerdict devices globals (to_be_checked definition) (IsAccepted accepted)
    → IsAcceptedAs devices globals definition (in_program (checked_as definition accepted))

-- What it refuses is defined as nothing, under no filling over the globals.
abbrev pub RefusedVerdictsHaveNoTypes : Type 0
RefusedVerdictsHaveNoTypes =
    (devices : ℕ) (globals : Context) (definition : CoreDefinition) (code : Code) (at : Place)
    → Fits globals (to_be_checked definition) → HolesAreOfParameters definition.right
    → HasVerdict devices globals (to_be_checked definition) (IsRefused code at)
    → (filling : Filling) (value : Term) (signature : CapturingType) → IsOverGlobals (length globals) filling
    → IsDefinedAs devices globals definition filling value signature → ⊥

-- A text is a module with a tree exactly where it is read as one.
abbrev pub ModuleTextsAreRead : Type 0
ModuleTextsAreRead =
    (text : List ℕ) (tree : ModuleSyntax) → IsModuleText text tree ↔ HasReading text (IsTree tree)
