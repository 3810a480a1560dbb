-- The laws of directed types: they are what the checker finds.
use Rattle.std.specs.Prelude.{◌↔◌, ℕ, length}
use Rattle.cc_base.specs.declared.code.Code.{Code}
use Rattle.cc_base.specs.declared.place.Place.{Place}
use Rattle.cc_core.specs.Shapes.{CapturingType}
use Rattle.cc_core.specs.Terms.{Term}
use Rattle.cc_core.specs.Contexts.{Context}
use Rattle.cc_core.specs.Substitution.{filled_type, filled_term}
use Rattle.cc_core.specs.WellFormed.{IsWellFormedContext, IsWellFormedTerm}
use Rattle.cc_core.specs.Typing.{HasType}
use Rattle.cc_core.specs.Holes.{HolesAreOfParameters}
use Rattle.cc_checking.specs.Fillings.{Filling, IsOverGlobals}
use Rattle.cc_checking.specs.Verdicts.{Definition, Accepted, IsAccepted, IsRefused, HasVerdict, HasAlgorithmicType}
use Rattle.cc_checking_laws.specs.FillingLaws.{AreGlobals}
use Rattle.cc_checking_laws.specs.CheckingLaws.{Fits}
use Rattle.cc_calculus_laws.specs.DirectedTypes.{HasDirectedType, HasDirectedDefinition}

-- A directed type is a type by the declarative rules, of the term with its omitted sets put in, once both are filled.
abbrev pub DirectedTypesAreTypes : Type 0
DirectedTypesAreTypes =
    (globals : Context) (term completed : Term) (type : CapturingType) (filling : Filling)
    → IsWellFormedContext globals → AreGlobals globals → IsWellFormedTerm globals term → HolesAreOfParameters term
    → IsOverGlobals (length globals) filling → HasDirectedType filling (length globals) globals term completed type
    → HasType globals (filled_term filling completed) (filled_type filling type)

-- Under a filling over the globals a definition has an algorithmic type exactly where it has a directed one.
abbrev pub AlgorithmicTypesAreDirected : Type 0
AlgorithmicTypesAreDirected =
    (devices : ℕ) (globals : Context) (definition : Definition) (filling : Filling) → Fits globals definition
    → HolesAreOfParameters definition.right → IsOverGlobals (length globals) filling
    → HasAlgorithmicType devices globals definition filling
    ↔ HasDirectedDefinition devices globals definition filling

-- So a definition is accepted exactly where some filling over the globals gives it a directed type,
abbrev pub AcceptedWhereSomeFillingTypes : Type 0
AcceptedWhereSomeFillingTypes =
    (devices : ℕ) (globals : Context) (definition : Definition) → Fits globals definition
    → HolesAreOfParameters definition.right
    → ((accepted : Accepted) × HasVerdict devices globals definition (IsAccepted accepted))
    ↔ ((filling : Filling) × IsOverGlobals (length globals) filling
    × HasDirectedDefinition devices globals definition filling)

-- and refused exactly where none does.
abbrev pub RefusedWhereNoFillingTypes : Type 0
RefusedWhereNoFillingTypes =
    (devices : ℕ) (globals : Context) (definition : Definition) → Fits globals definition
    → HolesAreOfParameters definition.right
    → ((code : Code) × (at : Place) × HasVerdict devices globals definition (IsRefused code at))
    ↔ ((filling : Filling) → IsOverGlobals (length globals) filling
    → HasDirectedDefinition devices globals definition filling → ⊥)
