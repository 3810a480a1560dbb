-- The laws of typing.
use Rattle.std.specs.Prelude.{zero, length, [], ◌∷◌, ◌++◌, IsTrue}
use Rattle.cc_capture.specs.declared.var.Var.{Var}
use Rattle.cc_capture.specs.Sets.{empty}
use Rattle.cc_core.specs.Shapes.{Shape, BoxShape, CapturingType, capturing}
use Rattle.cc_core.specs.Terms.{Term, VariableTerm, BoxTerm}
use Rattle.cc_core.specs.Contexts.{TypeEntry, Context, entry_of}
use Rattle.cc_core.specs.Traversal.{act_type, act_term}
use Rattle.cc_core.specs.Substitution.{putting, putting_shape, opened_type, opened_term}
use Rattle.cc_core.specs.WellFormed.{TermKind, TypeKind, kinds_of, is_well_formed_term, is_well_formed_type}
use Rattle.cc_core.specs.WellFormed.{IsWellFormedContext, IsWellFormedShape}
use Rattle.cc_core.specs.Captured.{is_value, captured_variables}
use Rattle.cc_core.specs.Subcapturing.{SubcapturesSet}
use Rattle.cc_core.specs.Subtyping.{Subtypes, SubtypesType}
use Rattle.cc_core.specs.Typing.{HasType}

-- what is typed stays so when entries are added
abbrev pub TypingWeakens : Type 0
TypingWeakens =
    (context added : Context) (term : Term) (type : CapturingType)
    → IsWellFormedContext (added ++ context) → HasType context term type → HasType (added ++ context) term type

-- what is typed stays so where the newest variable has a smaller type
abbrev pub TypingNarrows : Type 0
TypingNarrows =
    (context : Context) (wide narrow type : CapturingType) (term : Term)
    → SubtypesType context narrow wide → IsWellFormedContext (entry_of narrow ∷ context)
    → HasType (entry_of wide ∷ context) term type → HasType (entry_of narrow ∷ context) term type

-- A body has its type with each variable that has the type of its binder.
abbrev pub VariablesSubstitute : Type 0
VariablesSubstitute =
    (context : Context) (takes type : CapturingType) (body : Term) (variable : Var)
    → IsTrue (is_well_formed_term (kinds_of context) (TermKind ∷ []) body)
    → IsTrue (is_well_formed_type (kinds_of context) (TermKind ∷ []) type)
    → HasType (entry_of takes ∷ context) (opened_term (length context) body) (opened_type (length context) type)
    → HasType context (VariableTerm variable) takes
    → HasType context (act_term (putting variable) zero body) (act_type (putting variable) zero type)

-- A body has its type with each shape below the bound of its binder.
abbrev pub ShapesSubstitute : Type 0
ShapesSubstitute =
    (context : Context) (bound shape : Shape) (type : CapturingType) (body : Term)
    → IsTrue (is_well_formed_term (kinds_of context) (TypeKind ∷ []) body)
    → IsTrue (is_well_formed_type (kinds_of context) (TypeKind ∷ []) type)
    → HasType (TypeEntry bound ∷ context) (opened_term (length context) body) (opened_type (length context) type)
    → IsWellFormedShape context shape → Subtypes context shape bound
    → HasType context (act_term (putting_shape shape) zero body) (act_type (putting_shape shape) zero type)

-- a value captures no more than the set of its type
abbrev pub ValuesCaptureTheirSets : Type 0
ValuesCaptureTheirSets =
    (context : Context) (value : Term) (type : CapturingType)
    → IsTrue (is_value value) → HasType context value type → SubcapturesSet context (captured_variables value) type.set

-- A box may be one of any type that its content has, also with the universal capability: a box of the content's own
-- set, which has none, is below it.
abbrev pub BoxesAreOfAnyTypeOfTheirContent : Type 0
BoxesAreOfAnyTypeOfTheirContent =
    (context : Context) (content : Var) (type : CapturingType)
    → HasType context (VariableTerm content) type
    → HasType context (BoxTerm content) (capturing (BoxShape type.shape type.set) empty)
