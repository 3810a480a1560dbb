-- The laws of checking a definition.
use Rattle.std.specs.Prelude.{◌≡◌, ◌↔◌, ◌⊎◌, ℕ, ◌≤◌, nat_lt, Bool, List, [], ◌∷◌, length, Some, IsTrue}
use Rattle.std.specs.Prelude.{if◌then◌else◌}
use Rattle.cc_capture.specs.declared.var.Var.TheVariants.{Free}
use Rattle.cc_capture.specs.declared.var.Elem.{Elem}
use Rattle.cc_capture.specs.declared.var.Elem.TheVariants.{Var as Variable}
use Rattle.cc_capture.specs.Sets.{Set, Member}
use Rattle.cc_core.specs.Shapes.{Shape}
use Rattle.cc_core.specs.Contexts.{TermEntry, Context, lookup}
use Rattle.cc_core.specs.Occurrences.{MeetsInNote, without_holes, HasNoHoleInType, HasNoHoleInTerm}
use Rattle.cc_core.specs.WellFormed.{Kind, TermKind, kinds_of, is_well_formed_term, IsWellFormedContext}
use Rattle.cc_core.specs.WellFormed.{IsWellFormedNote}
use Rattle.cc_core.specs.WellFormed.{IsWellFormedType}
use Rattle.cc_core.specs.Typing.{HasType}
use Rattle.cc_base.specs.declared.code.Code.{Code}
use Rattle.cc_base.specs.declared.place.Place.{Place}
use Rattle.cc_checking.specs.Outcomes.{Placed, Refused, Found}
use Rattle.cc_checking.specs.Fillings.{Filling, IsLeast, IsGlobal, IsOverGlobals, FailsFirst}
use Rattle.cc_checking.specs.Verdicts.{Definition, Checking, Accepted, Verdict, IsAccepted, IsRefused, IsChecked}
use Rattle.cc_checking.specs.Verdicts.{HasVerdict}
use Rattle.cc_checking.specs.Verdicts.{HasAlgorithmicType}
use Rattle.cc_core.specs.Holes.{HolesAreOfParameters}
use Rattle.cc_checking_laws.specs.FillingLaws.{AreGlobals, AreFit}
use Rattle.cc_checking_laws.specs.AcceptedDefinitions.{definition_context}

-- the kinds of what a definition's right side may name: the globals, and its own name where it is recursive
abbrev pub visible_kinds : Bool → Context → List Kind
visible_kinds recursive globals = if recursive then TermKind ∷ kinds_of globals else kinds_of globals

-- The definition fits the globals: they are variables of terms without holes, and what is written and the right side
-- are well formed; what is written has no hole.
pub record Fits (globals : Context) (definition : Definition) : Type 0 where
  pub formed : IsWellFormedContext globals
  pub globals_alone : AreGlobals globals
  pub note_formed : IsWellFormedNote globals definition.note
  pub note_closed : MeetsInNote without_holes 0 definition.note
  pub right_formed : IsTrue (is_well_formed_term (visible_kinds definition.recursive globals) [] definition.right)

-- the entries of the devices alone
abbrev pub oldest : ℕ → Context → Context
oldest devices [] = []
oldest devices (newest ∷ older) = if nat_lt (length older) devices then newest ∷ older else oldest devices older

-- the filled right side of an accepted definition has its type, and the type that others see
abbrev pub AcceptedDefinitionsAreTyped : Type 0
AcceptedDefinitionsAreTyped =
    (devices : ℕ) (globals : Context) (definition : Definition) (accepted : Accepted) → Fits globals definition
    → HasVerdict devices globals definition (IsAccepted accepted)
    → HasType (definition_context globals definition accepted.signature) accepted.filled accepted.type
    × HasType (definition_context globals definition accepted.signature) accepted.filled accepted.signature

-- the type that others see is well formed over the devices alone, and has no hole
abbrev pub SignaturesAreOverDevices : Type 0
SignaturesAreOverDevices =
    (devices : ℕ) (globals : Context) (definition : Definition) (accepted : Accepted) → Fits globals definition
    → HasVerdict devices globals definition (IsAccepted accepted)
    → IsWellFormedType (oldest devices globals) accepted.signature × HasNoHoleInType accepted.signature

-- no hole is left in an accepted definition
abbrev pub AcceptedDefinitionsHaveNoHole : Type 0
AcceptedDefinitionsHaveNoHole =
    (devices : ℕ) (globals : Context) (definition : Definition) (accepted : Accepted) → Fits globals definition
    → HasVerdict devices globals definition (IsAccepted accepted)
    → HasNoHoleInTerm accepted.filled × HasNoHoleInType accepted.type

-- a definition has at most one verdict
abbrev pub VerdictsAreUnique : Type 0
VerdictsAreUnique =
    (devices : ℕ) (globals : Context) (definition : Definition) (first second : Verdict)
    → HasVerdict devices globals definition first → HasVerdict devices globals definition second → first ≡ second

-- what is refused while it is inferred or compared has no algorithmic type under any filling
abbrev pub RefusalsOfInferenceAreFinal : Type 0
RefusalsOfInferenceAreFinal =
    (devices : ℕ) (globals : Context) (definition : Definition) (code : Code) (at : Place) (filling : Filling)
    → IsChecked devices globals definition (Refused code at)
    → HasAlgorithmicType devices globals definition filling → ⊥

-- All that is asked of a definition whose holes are of parameters is fit for a filling.
abbrev pub WhatIsAskedIsFit : Type 0
WhatIsAskedIsFit =
    (devices : ℕ) (globals : Context) (definition : Definition) (found : Checking) (asked : List Placed)
    → Fits globals definition → HolesAreOfParameters definition.right
    → IsChecked devices globals definition (Found found asked) → AreFit globals asked

-- So where the least filling does not serve all that is asked, there is no algorithmic type under any filling.
abbrev pub FailedDemandsAreFinal : Type 0
FailedDemandsAreFinal =
    (devices : ℕ) (globals : Context) (definition : Definition) (found : Checking) (asked : List Placed)
    (code : Code) (at : Place) (least filling : Filling)
    → Fits globals definition → HolesAreOfParameters definition.right
    → IsChecked devices globals definition (Found found asked)
    → IsLeast (length globals) asked least → FailsFirst least asked code at → IsOverGlobals (length globals) filling
    → HasAlgorithmicType devices globals definition filling → ⊥

-- A refused definition has no algorithmic type under any filling over the globals, whatever the code.
abbrev pub RefusedDefinitionsHaveNoType : Type 0
RefusedDefinitionsHaveNoType =
    (devices : ℕ) (globals : Context) (definition : Definition) (code : Code) (at : Place) (filling : Filling)
    → Fits globals definition → HolesAreOfParameters definition.right
    → HasVerdict devices globals definition (IsRefused code at) → IsOverGlobals (length globals) filling
    → HasAlgorithmicType devices globals definition filling → ⊥

-- each definition among the globals has a set of devices and the universal capability, as signatures have
abbrev pub SetsAreOverDevices : ℕ → Context → Type 0
SetsAreOverDevices devices globals =
    (position : ℕ) (shape : Shape) (declared : Set) (e : Elem) → devices ≤ position
    → lookup globals position ≡ Some (TermEntry shape declared) → Member e declared → IsGlobal devices e

-- the element comes from the set: it is a member, or a member of the set of a definition in it
abbrev pub IsOfSetOrItsDefinitions : ℕ → Context → Set → Elem → Type 0
IsOfSetOrItsDefinitions devices globals set e =
    Member e set
    ⊎ ((position : ℕ) × (shape : Shape) × (declared : Set) × (devices ≤ position)
    × Member (Variable (Free position)) set × (lookup globals position ≡ Some (TermEntry shape declared))
    × Member e declared)

-- The outermost set of a signature has the devices and the universal capability of the type's set, and those of the
-- sets of the definitions in it, and nothing else.
abbrev pub SignatureSetsAreOfDevices : Type 0
SignatureSetsAreOfDevices =
    (devices : ℕ) (globals : Context) (definition : Definition) (accepted : Accepted) (e : Elem)
    → Fits globals definition → SetsAreOverDevices devices globals
    → HasVerdict devices globals definition (IsAccepted accepted)
    → Member e accepted.signature.set
    ↔ (IsGlobal devices e × IsOfSetOrItsDefinitions devices globals accepted.type.set e)
