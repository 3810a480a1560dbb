-- Well-formedness: each variable has its binder or its entry, and is of the kind that its place asks for.
use Rattle.std.specs.Prelude.{Bool, true, false, ◌&&◌, List, [], ◌∷◌, map, Option, Some, None, slice_get, IsTrue}
use Rattle.std.specs.List.{list_all}
use Rattle.cc_capture.specs.declared.var.Var.{Var}
use Rattle.cc_capture.specs.declared.var.Var.TheVariants.{Bound, Free}
use Rattle.cc_capture.specs.declared.var.Elem.{Elem}
use Rattle.cc_capture.specs.declared.var.Elem.TheVariants.{Var as Variable, Cap, Hole}
use Rattle.cc_capture.specs.Sets.{Set}
use Rattle.cc_core.specs.Shapes.{Shape, BaseShape, AnyShape, TypeVariable, FunctionShape, TypeFunctionShape, BoxShape}
use Rattle.cc_core.specs.Shapes.{ExitShape, CapturingType}
use Rattle.cc_core.specs.Terms.{Note, Absent, Written, Own, Term, VariableTerm, LiteralTerm, FunctionTerm}
use Rattle.cc_core.specs.Terms.{TypeFunctionTerm, BoxTerm, Application, TypeApplication, Unboxing, Let, Primitive}
use Rattle.cc_core.specs.Terms.{Conditional, Repetition, Operation, Boundary, Leave}
use Rattle.cc_core.specs.Contexts.{Bind, TermEntry, TypeEntry, Context, lookup}

-- what a variable stands for: a value, or a shape
pub data Kind : Type 0 where
  TermKind : Kind
  TypeKind : Kind

-- whether there is a kind, and it is that of terms
abbrev pub is_term_kind : Option Kind → Bool
is_term_kind (Some TermKind) = true
is_term_kind (Some TypeKind) = false
is_term_kind None = false

-- whether there is a kind, and it is that of types
abbrev pub is_type_kind : Option Kind → Bool
is_type_kind (Some TermKind) = false
is_type_kind (Some TypeKind) = true
is_type_kind None = false

-- the kind of what an entry stands for
abbrev pub kind_of : Bind → Kind
kind_of (TermEntry shape set) = TermKind
kind_of (TypeEntry bound) = TypeKind

-- the kinds of a context's entries, the newest first
abbrev pub kinds_of : Context → List Kind
kinds_of context = map kind_of context

-- The kind of a variable where the free positions have kinds, and the binders passed have theirs, the innermost first.
abbrev pub kind_at : List Kind → List Kind → Var → Option Kind
kind_at kinds passed (Free position) = lookup kinds position
kind_at kinds passed (Bound index) = slice_get passed index

-- the variable is there, and stands for a value
abbrev pub is_term_variable : List Kind → List Kind → Var → Bool
is_term_variable kinds passed variable = is_term_kind (kind_at kinds passed variable)

-- the variable is there, and stands for a shape
abbrev pub is_type_variable : List Kind → List Kind → Var → Bool
is_type_variable kinds passed variable = is_type_kind (kind_at kinds passed variable)

-- an element's variable is a variable of terms; the universal capability and holes may stand anywhere
abbrev pub is_well_formed_element : List Kind → List Kind → Elem → Bool
is_well_formed_element kinds passed (Variable variable) = is_term_variable kinds passed variable
is_well_formed_element kinds passed Cap = true
is_well_formed_element kinds passed (Hole number) = true

-- each of its elements is well formed
abbrev pub is_well_formed_set : List Kind → List Kind → Set → Bool
is_well_formed_set kinds passed set = list_all (is_well_formed_element kinds passed) set.list

-- each element of its sets and each type variable is well formed
abbrev pub is_well_formed_shape : List Kind → List Kind → Shape → Bool
is_well_formed_shape kinds passed (BaseShape base) = true
is_well_formed_shape kinds passed AnyShape = true
is_well_formed_shape kinds passed (TypeVariable variable) = is_type_variable kinds passed variable
is_well_formed_shape kinds passed (FunctionShape takes c gives e) =
    is_well_formed_shape kinds passed takes && is_well_formed_set kinds passed c
    && is_well_formed_shape kinds (TermKind ∷ passed) gives && is_well_formed_set kinds (TermKind ∷ passed) e
is_well_formed_shape kinds passed (TypeFunctionShape bound gives e) =
    is_well_formed_shape kinds passed bound && is_well_formed_shape kinds (TypeKind ∷ passed) gives
    && is_well_formed_set kinds (TypeKind ∷ passed) e
is_well_formed_shape kinds passed (BoxShape content c) =
    is_well_formed_shape kinds passed content && is_well_formed_set kinds passed c
is_well_formed_shape kinds passed (ExitShape gives) = is_well_formed_shape kinds passed gives

-- its shape and its set are
abbrev pub is_well_formed_type : List Kind → List Kind → CapturingType → Bool
is_well_formed_type kinds passed type =
    is_well_formed_shape kinds passed type.shape && is_well_formed_set kinds passed type.set

-- what is written is well formed
abbrev pub is_well_formed_note : List Kind → List Kind → Note → Bool
is_well_formed_note kinds passed Absent = true
is_well_formed_note kinds passed (Written shape set) =
    is_well_formed_shape kinds passed shape && is_well_formed_set kinds passed set
is_well_formed_note kinds passed (Own shape) = is_well_formed_shape kinds passed shape

-- a set that is written is well formed
abbrev pub is_well_formed_optional_set : List Kind → List Kind → Option Set → Bool
is_well_formed_optional_set kinds passed (Some set) = is_well_formed_set kinds passed set
is_well_formed_optional_set kinds passed None = true

-- an argument, where there is one, is a variable of terms
abbrev pub is_optional_term_variable : List Kind → List Kind → Option Var → Bool
is_optional_term_variable kinds passed (Some variable) = is_term_variable kinds passed variable
is_optional_term_variable kinds passed None = true

-- each of its variables is a variable of terms, and all that is written in it is well formed
abbrev pub is_well_formed_term : List Kind → List Kind → Term → Bool
is_well_formed_term kinds passed (VariableTerm variable) = is_term_variable kinds passed variable
is_well_formed_term kinds passed (LiteralTerm literal) = true
is_well_formed_term kinds passed (FunctionTerm takes c body) =
    is_well_formed_shape kinds passed takes && is_well_formed_set kinds passed c
    && is_well_formed_term kinds (TermKind ∷ passed) body
is_well_formed_term kinds passed (TypeFunctionTerm bound body) =
    is_well_formed_shape kinds passed bound && is_well_formed_term kinds (TypeKind ∷ passed) body
is_well_formed_term kinds passed (BoxTerm content) = is_term_variable kinds passed content
is_well_formed_term kinds passed (Application function argument) =
    is_term_variable kinds passed function && is_term_variable kinds passed argument
is_well_formed_term kinds passed (TypeApplication function argument) =
    is_term_variable kinds passed function && is_well_formed_shape kinds passed argument
is_well_formed_term kinds passed (Unboxing set box) =
    is_well_formed_optional_set kinds passed set && is_term_variable kinds passed box
is_well_formed_term kinds passed (Let note right body) =
    is_well_formed_note kinds passed note && is_well_formed_term kinds passed right
    && is_well_formed_term kinds (TermKind ∷ passed) body
is_well_formed_term kinds passed (Primitive operator left right) =
    is_term_variable kinds passed left && is_term_variable kinds passed right
is_well_formed_term kinds passed (Conditional note test positive negative) =
    is_well_formed_note kinds passed note && is_term_variable kinds passed test
    && is_well_formed_term kinds passed positive && is_well_formed_term kinds passed negative
is_well_formed_term kinds passed (Repetition count function) =
    is_term_variable kinds passed count && is_term_variable kinds passed function
is_well_formed_term kinds passed (Operation operation receiver argument) =
    is_term_variable kinds passed receiver && is_optional_term_variable kinds passed argument
is_well_formed_term kinds passed (Boundary gives body) =
    is_well_formed_shape kinds passed gives && is_well_formed_term kinds (TermKind ∷ passed) body
is_well_formed_term kinds passed (Leave gives c exit value) =
    is_well_formed_shape kinds passed gives && is_well_formed_set kinds passed c
    && is_term_variable kinds passed exit && is_term_variable kinds passed value

-- the type of a variable, or the bound of a type variable, is well formed where the entries before have the kinds
abbrev pub is_well_formed_entry : List Kind → Bind → Bool
is_well_formed_entry kinds (TermEntry shape set) =
    is_well_formed_shape kinds [] shape && is_well_formed_set kinds [] set
is_well_formed_entry kinds (TypeEntry bound) = is_well_formed_shape kinds [] bound

-- each entry is well formed in the entries before it
abbrev pub is_well_formed_context : Context → Bool
is_well_formed_context [] = true
is_well_formed_context (newest ∷ older) = is_well_formed_entry (kinds_of older) newest && is_well_formed_context older

-- as facts, in a context and under no binder: the set is well formed
abbrev pub IsWellFormedSet : Context → Set → Type 0
IsWellFormedSet context set = IsTrue (is_well_formed_set (kinds_of context) [] set)

-- the same of a shape
abbrev pub IsWellFormedShape : Context → Shape → Type 0
IsWellFormedShape context shape = IsTrue (is_well_formed_shape (kinds_of context) [] shape)

-- the same of a type
abbrev pub IsWellFormedType : Context → CapturingType → Type 0
IsWellFormedType context type = IsTrue (is_well_formed_type (kinds_of context) [] type)

-- the same of a term
abbrev pub IsWellFormedTerm : Context → Term → Type 0
IsWellFormedTerm context term = IsTrue (is_well_formed_term (kinds_of context) [] term)

-- the same of what is written for a type
abbrev pub IsWellFormedNote : Context → Note → Type 0
IsWellFormedNote context note = IsTrue (is_well_formed_note (kinds_of context) [] note)

-- the context is well formed: each entry is, in those before it
abbrev pub IsWellFormedContext : Context → Type 0
IsWellFormedContext context = IsTrue (is_well_formed_context context)

-- the same of a type under one binder, of a variable of the kind
abbrev pub IsWellFormedTypeUnder : Context → Kind → CapturingType → Type 0
IsWellFormedTypeUnder context kind type = IsTrue (is_well_formed_type (kinds_of context) (kind ∷ []) type)

-- the same of a term
abbrev pub IsWellFormedTermUnder : Context → Kind → Term → Type 0
IsWellFormedTermUnder context kind term = IsTrue (is_well_formed_term (kinds_of context) (kind ∷ []) term)
