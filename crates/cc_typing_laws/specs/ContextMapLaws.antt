-- The laws of maps of contexts: what they keep, and which there are.
use Rattle.std.specs.Prelude.{◌≡◌, ℕ, ◌∷◌, ◌++◌, length, Some, IsTrue}
use Rattle.cc_capture.specs.declared.var.Var.TheVariants.{Free}
use Rattle.cc_capture.specs.declared.var.Elem.TheVariants.{Var as Variable}
use Rattle.cc_capture.specs.Sets.{Set}
use Rattle.cc_core.specs.Shapes.{Shape, TypeVariable, CapturingType, capturing}
use Rattle.cc_core.specs.Contexts.{Bind, TermEntry, TypeEntry, Context, lookup}
use Rattle.cc_core.specs.Traversal.{act, act_type}
use Rattle.cc_core.specs.Substitution.{freely, overridden, renaming, opened_type, replaced_type_by_shape, single}
use Rattle.cc_core.specs.WellFormed.{TermKind, TypeKind, kinds_of, is_well_formed_entry, IsWellFormedShape}
use Rattle.cc_core.specs.WellFormed.{IsWellFormedType, IsWellFormedContext, IsWellFormedTypeUnder}
use Rattle.cc_core.specs.Subcapturing.{SubcapturesSet}
use Rattle.cc_core.specs.Subtyping.{Subtypes, SubtypesType}
use Rattle.cc_typing_laws.specs.ContextMaps.{Extends, mapped, mapped_set, mapped_entry, RenamesEntries, IsContextMap}
use Rattle.cc_typing_laws.specs.ContextMaps.{MapsEntries}

-- sets that are below each other become sets that are
abbrev pub SubcapturingAlongMaps : Type 0
SubcapturingAlongMaps =
    (source target : Context) (to : ℕ → ℕ) (shapes : ℕ → Shape) → IsContextMap source target to shapes
    → (left right : Set) → SubcapturesSet source left right
    → SubcapturesSet target (mapped_set to shapes left) (mapped_set to shapes right)

-- shapes that are below each other become shapes that are
abbrev pub SubtypingAlongMaps : Type 0
SubtypingAlongMaps =
    (source target : Context) (to : ℕ → ℕ) (shapes : ℕ → Shape) → IsContextMap source target to shapes
    → IsWellFormedContext source
    → (left right : Shape) → IsWellFormedShape source left → IsWellFormedShape source right
    → Subtypes source left right → Subtypes target (mapped to shapes left) (mapped to shapes right)

-- the same of types
abbrev pub SubtypingOfTypesAlongMaps : Type 0
SubtypingOfTypesAlongMaps =
    (source target : Context) (to : ℕ → ℕ) (shapes : ℕ → Shape) → IsContextMap source target to shapes
    → IsWellFormedContext source
    → (left right : CapturingType) → IsWellFormedType source left → IsWellFormedType source right
    → SubtypesType source left right
    → SubtypesType target (act_type (freely to shapes) 0 left) (act_type (freely to shapes) 0 right)

-- under a binder the new position of the one context becomes that of the other
abbrev pub MapsGoUnderBinders : Type 0
MapsGoUnderBinders =
    (source target : Context) (to : ℕ → ℕ) (shapes : ℕ → Shape) → IsContextMap source target to shapes
    → (entry : Bind) → IsWellFormedContext source → IsTrue (is_well_formed_entry (kinds_of source) entry)
    → IsContextMap (entry ∷ source) (mapped_entry to shapes entry ∷ target)
    (overridden to (length source) (length target))
    (overridden shapes (length source) (TypeVariable (Free (length target))))

-- between well-formed contexts it is enough to ask of the target
abbrev pub EntriesMakeAMap : Type 0
EntriesMakeAMap =
    (source target : Context) (to : ℕ → ℕ) (shapes : ℕ → Shape) → IsWellFormedContext source
    → IsWellFormedContext target
    → MapsEntries source target to shapes → IsContextMap source target to shapes

-- each position as a type variable
abbrev pub itself : ℕ → Shape
itself position = TypeVariable (Free position)

-- entries are added
abbrev pub LongerContextIsAMap : Type 0
LongerContextIsAMap =
    (context longer : Context) → Extends context longer → IsContextMap context longer (λ position. position) itself

-- each entry is found, renamed, at its new position
abbrev pub RenamingIsAMap : Type 0
RenamingIsAMap =
    (source target : Context) (to : ℕ → ℕ)
    → RenamesEntries source target to
    → IsContextMap source target to (λ position. TypeVariable (Free (to position)))

-- a variable whose type as an operand is below that of the newest variable is put in the place of that one
abbrev pub VariableForAVariable : Type 0
VariableForAVariable =
    (context : Context) (shape shape' : Shape) (set set' : Set) (position : ℕ)
    → IsWellFormedContext (TermEntry shape set ∷ context) → lookup context position ≡ Some (TermEntry shape' set')
    → SubtypesType context (capturing shape' (single (Variable (Free position)))) (capturing shape set)
    → IsContextMap (TermEntry shape set ∷ context) context
    (overridden (λ p. p) (length context) position) (overridden itself (length context) (TypeVariable (Free position)))

-- a shape below the bound of the newest type variable is put in the place of that one
abbrev pub ShapeForATypeVariable : Type 0
ShapeForATypeVariable =
    (context : Context) (bound shape : Shape)
    → IsWellFormedContext (TypeEntry bound ∷ context) → IsWellFormedShape context shape → Subtypes context shape bound
    → IsContextMap (TypeEntry bound ∷ context) context (λ p. p) (overridden itself (length context) shape)

-- the newest variable gets a smaller type
abbrev pub SmallerTypeForALargerOne : Type 0
SmallerTypeForALargerOne =
    (context : Context) (shape shape' : Shape) (set set' : Set)
    → IsWellFormedContext (TermEntry shape set ∷ context) → IsWellFormedContext (TermEntry shape' set' ∷ context)
    → SubtypesType context (capturing shape' set') (capturing shape set)
    → IsContextMap (TermEntry shape set ∷ context) (TermEntry shape' set' ∷ context) (λ p. p) itself

-- What follows for subtyping.
abbrev pub SubtypingWeakens : Type 0
SubtypingWeakens =
    (context later : Context) (left right : Shape) → IsWellFormedContext context → IsWellFormedShape context left
    → IsWellFormedShape context right
    → Subtypes context left right → Subtypes (later ++ context) left right

-- what is below stays below where a variable gets a smaller set, whatever its shape
abbrev pub SubtypingNarrows : Type 0
SubtypingNarrows =
    (context later : Context) (shape shape' : Shape) (set set' : Set) (left right : Shape)
    → SubcapturesSet context set' set
    → Subtypes (later ++ (TermEntry shape set ∷ context)) left right
    → Subtypes (later ++ (TermEntry shape' set' ∷ context)) left right

-- renamed, where each entry is found, renamed, at its new position
abbrev pub SubtypingRenames : Type 0
SubtypingRenames =
    (source target : Context) (to : ℕ → ℕ) (left right : Shape)
    → RenamesEntries source target to
    → IsWellFormedContext source → IsWellFormedShape source left → IsWellFormedShape source right
    → Subtypes source left right → Subtypes target (act (renaming to) 0 left) (act (renaming to) 0 right)

-- What a function gives, under its parameter, compares alike with an argument in the place of the parameter.
abbrev pub SubtypingPutsVariables : Type 0
SubtypingPutsVariables =
    (context : Context) (shape shape' : Shape) (set set' : Set) (position : ℕ) (left right : CapturingType)
    → IsWellFormedContext (TermEntry shape set ∷ context) → lookup context position ≡ Some (TermEntry shape' set')
    → SubtypesType context (capturing shape' (single (Variable (Free position)))) (capturing shape set)
    → IsWellFormedTypeUnder context TermKind left → IsWellFormedTypeUnder context TermKind right
    → SubtypesType (TermEntry shape set ∷ context) (opened_type (length context) left)
    (opened_type (length context) right)
    → SubtypesType context (opened_type position left) (opened_type position right)

-- What a type function gives, under its bound, compares alike with a shape below the bound in the place of the type
-- variable.
abbrev pub SubtypingPutsShapes : Type 0
SubtypingPutsShapes =
    (context : Context) (bound shape : Shape) (left right : CapturingType)
    → IsWellFormedContext (TypeEntry bound ∷ context) → IsWellFormedShape context shape → Subtypes context shape bound
    → IsWellFormedTypeUnder context TypeKind left → IsWellFormedTypeUnder context TypeKind right
    → SubtypesType (TypeEntry bound ∷ context) (opened_type (length context) left) (opened_type (length context) right)
    → SubtypesType context (replaced_type_by_shape shape left) (replaced_type_by_shape shape right)
