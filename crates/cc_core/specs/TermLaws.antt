-- The laws of types, terms and contexts.
use Rattle.std.specs.Prelude.{◌≡◌, ◌↔◌, ◌⊎◌, ℕ, zero, ◌<◌, [], ◌∷◌, ◌++◌, length, Some}
use Rattle.cc_capture.specs.declared.var.Var.{Var}
use Rattle.cc_capture.specs.declared.var.Var.TheVariants.{Free}
use Rattle.cc_capture.specs.declared.var.Elem.{Elem}
use Rattle.cc_capture.specs.declared.var.Elem.TheVariants.{Var as Variable}
use Rattle.cc_capture.specs.Sets.{Set, Member}
use Rattle.cc_core.specs.Shapes.{Shape, TypeVariable, CapturingType, capturing}
use Rattle.cc_core.specs.Terms.{Term}
use Rattle.cc_core.specs.Contexts.{Bind, TermEntry, TypeEntry, Context, lookup}
use Rattle.cc_core.specs.Traversal.{Action, act, act_set, act_type, act_term, keeping, composed}
use Rattle.cc_core.specs.Substitution.{freely, overridden, filling_in, opened_set, opened_type, opened_term, closed_set}
use Rattle.cc_core.specs.Substitution.{closed_type, closed_term, replaced_type, replaced_term, replaced_type_by_shape}
use Rattle.cc_core.specs.Substitution.{replaced_term_by_shape, renamed_set, renamed_type, renamed_term, filled_set}
use Rattle.cc_core.specs.Substitution.{filled, filled_type, filled_term}
use Rattle.cc_core.specs.Captured.{captured_variables, without_binder}
use Rattle.cc_core.specs.WellFormed.{Kind, TermKind, TypeKind, kind_of, kinds_of, kind_at, IsWellFormedSet}
use Rattle.cc_core.specs.WellFormed.{IsWellFormedShape, IsWellFormedType, IsWellFormedTerm, IsWellFormedContext}
use Rattle.cc_core.specs.WellFormed.{IsWellFormedTypeUnder, IsWellFormedTermUnder}
use Rattle.cc_core.specs.Occurrences.{Meets, MeetsInSet, MeetsInType, MeetsInTerm, agreement, without, bound_within}
use Rattle.cc_core.specs.Occurrences.{positions_below, under_type_binder, no_outermost_type, under_term_binder}
use Rattle.cc_core.specs.Sizes.{shape_size, type_size, size_with, counted_type}

-- none of the shapes has an open index
abbrev pub AreClosed : (ℕ → Shape) → Type 0
AreClosed shapes = (position : ℕ) → Meets (bound_within 0) zero (shapes position)

-- none of the sets has an index
abbrev pub HaveNoIndex : (ℕ → Set) → Type 0
HaveNoIndex filling = (hole : ℕ) → MeetsInSet (bound_within 0) zero (filling hole)

-- each position is sent to one of its kind
abbrev pub KeepsEachKind : Context → Context → (ℕ → ℕ) → Type 0
KeepsEachKind context other to =
    (position : ℕ) (kind : Kind) → lookup (kinds_of context) position ≡ Some kind
    → lookup (kinds_of other) (to position) ≡ Some kind

-- each variable of terms is sent to one
abbrev pub KeepsTermKind : Context → Context → (ℕ → ℕ) → Type 0
KeepsTermKind context other to =
    (position : ℕ) → lookup (kinds_of context) position ≡ Some TermKind
    → lookup (kinds_of other) (to position) ≡ Some TermKind

-- each type variable is sent to a well-formed shape
abbrev pub GivesWellFormedShapes : Context → Context → (ℕ → Shape) → Type 0
GivesWellFormedShapes context other shapes =
    (position : ℕ) → lookup (kinds_of context) position ≡ Some TypeKind → IsWellFormedShape other (shapes position)

-- actions do the same to what they agree on
abbrev pub AgreeingActionsDoTheSameToTypes : Type 0
AgreeingActionsDoTheSameToTypes =
    (one other : Action) (depth : ℕ) (type : CapturingType) → MeetsInType (agreement one other) depth type
    → act_type one depth type ≡ act_type other depth type

-- the same of terms
abbrev pub AgreeingActionsDoTheSameToTerms : Type 0
AgreeingActionsDoTheSameToTerms =
    (one other : Action) (depth : ℕ) (term : Term) → MeetsInTerm (agreement one other) depth term
    → act_term one depth term ≡ act_term other depth term

-- two actions in a row are one
abbrev pub ActionsComposeOnTypes : Type 0
ActionsComposeOnTypes =
    (later earlier : Action) (depth : ℕ) (type : CapturingType)
    → act_type later depth (act_type earlier depth type) ≡ act_type (composed later earlier) depth type

-- the same of terms
abbrev pub ActionsComposeOnTerms : Type 0
ActionsComposeOnTerms =
    (later earlier : Action) (depth : ℕ) (term : Term)
    → act_term later depth (act_term earlier depth term) ≡ act_term (composed later earlier) depth term

-- the action that leaves each element and each variable leaves all
abbrev pub KeepingLeavesTypes : Type 0
KeepingLeavesTypes =
    (depth : ℕ) (type : CapturingType) → act_type keeping depth type ≡ type

-- the same of terms
abbrev pub KeepingLeavesTerms : Type 0
KeepingLeavesTerms =
    (depth : ℕ) (term : Term) → act_term keeping depth term ≡ term

-- closing undoes opening at a position that does not occur
abbrev pub ClosingUndoesOpeningOfTypes : Type 0
ClosingUndoesOpeningOfTypes =
    (position : ℕ) (type : CapturingType) → MeetsInType (without position) zero type
    → closed_type position (opened_type position type) ≡ type

-- the same of terms
abbrev pub ClosingUndoesOpeningOfTerms : Type 0
ClosingUndoesOpeningOfTerms =
    (position : ℕ) (term : Term) → MeetsInTerm (without position) zero term
    → closed_term position (opened_term position term) ≡ term

-- opening undoes closing where no index is open
abbrev pub OpeningUndoesClosingOfTypes : Type 0
OpeningUndoesClosingOfTypes =
    (position : ℕ) (type : CapturingType) → MeetsInType (bound_within 0) zero type
    → opened_type position (closed_type position type) ≡ type

-- the same of terms
abbrev pub OpeningUndoesClosingOfTerms : Type 0
OpeningUndoesClosingOfTerms =
    (position : ℕ) (term : Term) → MeetsInTerm (bound_within 0) zero term
    → opened_term position (closed_term position term) ≡ term

-- a position that was closed does not occur
abbrev pub ClosedPositionIsGoneFromTypes : Type 0
ClosedPositionIsGoneFromTypes =
    (position : ℕ) (type : CapturingType) → MeetsInType (without position) zero (closed_type position type)

-- the same of terms
abbrev pub ClosedPositionIsGoneFromTerms : Type 0
ClosedPositionIsGoneFromTerms =
    (position : ℕ) (term : Term) → MeetsInTerm (without position) zero (closed_term position term)

-- what has one open index has none once it is opened
abbrev pub OpeningFillsTheIndexOfTypes : Type 0
OpeningFillsTheIndexOfTypes =
    (position : ℕ) (type : CapturingType) → MeetsInType (bound_within 1) zero type
    → MeetsInType (bound_within 0) zero (opened_type position type)

-- the same of terms
abbrev pub OpeningFillsTheIndexOfTerms : Type 0
OpeningFillsTheIndexOfTerms =
    (position : ℕ) (term : Term) → MeetsInTerm (bound_within 1) zero term
    → MeetsInTerm (bound_within 0) zero (opened_term position term)

-- an action on free positions commutes with opening at a position that it sends to another
abbrev pub FreeActionsCommuteWithOpeningTypes : Type 0
FreeActionsCommuteWithOpeningTypes =
    (to : ℕ → ℕ) (shapes : ℕ → Shape) (position : ℕ) (type : CapturingType) → AreClosed shapes
    → shapes position ≡ TypeVariable (Free (to position))
    → act_type (freely to shapes) zero (opened_type position type)
    ≡ opened_type (to position) (act_type (freely to shapes) zero type)

-- the same of terms
abbrev pub FreeActionsCommuteWithOpeningTerms : Type 0
FreeActionsCommuteWithOpeningTerms =
    (to : ℕ → ℕ) (shapes : ℕ → Shape) (position : ℕ) (term : Term) → AreClosed shapes
    → shapes position ≡ TypeVariable (Free (to position))
    → act_term (freely to shapes) zero (opened_term position term)
    ≡ opened_term (to position) (act_term (freely to shapes) zero term)

-- an action on free positions commutes with putting a shape
abbrev pub FreeActionsCommuteWithPuttingShapesInTypes : Type 0
FreeActionsCommuteWithPuttingShapesInTypes =
    (to : ℕ → ℕ) (shapes : ℕ → Shape) (by : Shape) (type : CapturingType) → AreClosed shapes
    → act_type (freely to shapes) zero (replaced_type_by_shape by type)
    ≡ replaced_type_by_shape (act (freely to shapes) zero by) (act_type (freely to shapes) zero type)

-- the same of terms
abbrev pub FreeActionsCommuteWithPuttingShapesInTerms : Type 0
FreeActionsCommuteWithPuttingShapesInTerms =
    (to : ℕ → ℕ) (shapes : ℕ → Shape) (by : Shape) (term : Term) → AreClosed shapes
    → act_term (freely to shapes) zero (replaced_term_by_shape by term)
    ≡ replaced_term_by_shape (act (freely to shapes) zero by) (act_term (freely to shapes) zero term)

-- An action on free positions commutes with opening the body of a binder of terms, where no type variable has the
-- outermost index, whatever the position becomes as a type variable.
abbrev pub FreeActionsCommuteWithOpeningBodiesInTypes : Type 0
FreeActionsCommuteWithOpeningBodiesInTypes =
    (to : ℕ → ℕ) (shapes : ℕ → Shape) (position : ℕ) (type : CapturingType) → AreClosed shapes
    → MeetsInType no_outermost_type zero type
    → act_type (freely to shapes) zero (opened_type position type)
    ≡ opened_type (to position) (act_type (freely to shapes) zero type)

-- the same of terms
abbrev pub FreeActionsCommuteWithOpeningBodiesInTerms : Type 0
FreeActionsCommuteWithOpeningBodiesInTerms =
    (to : ℕ → ℕ) (shapes : ℕ → Shape) (position : ℕ) (term : Term) → AreClosed shapes
    → MeetsInTerm no_outermost_type zero term
    → act_term (freely to shapes) zero (opened_term position term)
    ≡ opened_term (to position) (act_term (freely to shapes) zero term)

-- A body that is opened at a fresh position, and acted on by an action that sends this position to another, is opened
-- at that other one, and acted on as before.
abbrev pub FreshPositionSentToAnotherOpensBodiesInTypes : Type 0
FreshPositionSentToAnotherOpensBodiesInTypes =
    (to other : ℕ → ℕ) (shapes others : ℕ → Shape) (fresh : ℕ) (type : CapturingType) → AreClosed shapes
    → ((position : ℕ) → position < fresh → other position ≡ to position)
    → ((position : ℕ) → position < fresh → others position ≡ shapes position)
    → MeetsInType (under_term_binder fresh) zero type
    → act_type (freely other others) zero (opened_type fresh type)
    ≡ opened_type (other fresh) (act_type (freely to shapes) zero type)

-- the same of terms
abbrev pub FreshPositionSentToAnotherOpensBodiesInTerms : Type 0
FreshPositionSentToAnotherOpensBodiesInTerms =
    (to other : ℕ → ℕ) (shapes others : ℕ → Shape) (fresh : ℕ) (term : Term) → AreClosed shapes
    → ((position : ℕ) → position < fresh → other position ≡ to position)
    → ((position : ℕ) → position < fresh → others position ≡ shapes position)
    → MeetsInTerm (under_term_binder fresh) zero term
    → act_term (freely other others) zero (opened_term fresh term)
    ≡ opened_term (other fresh) (act_term (freely to shapes) zero term)

-- What is opened at a fresh position, and acted on by an action that sends this position to another, is opened at
-- that other one, and acted on as before.
abbrev pub FreshPositionSentToAnotherOpensTypes : Type 0
FreshPositionSentToAnotherOpensTypes =
    (to : ℕ → ℕ) (shapes : ℕ → Shape) (fresh : ℕ) (position : ℕ) (type : CapturingType) → AreClosed shapes
    → MeetsInType (positions_below fresh) zero type
    → act_type (freely (overridden to fresh position) (overridden shapes fresh (TypeVariable (Free position)))) zero
    (opened_type fresh type)
    ≡ opened_type position (act_type (freely to shapes) zero type)

-- the same of terms
abbrev pub FreshPositionSentToAnotherOpensTerms : Type 0
FreshPositionSentToAnotherOpensTerms =
    (to : ℕ → ℕ) (shapes : ℕ → Shape) (fresh : ℕ) (position : ℕ) (term : Term) → AreClosed shapes
    → MeetsInTerm (positions_below fresh) zero term
    → act_term (freely (overridden to fresh position) (overridden shapes fresh (TypeVariable (Free position)))) zero
    (opened_term fresh term)
    ≡ opened_term position (act_term (freely to shapes) zero term)

-- The same of a fresh type variable that is sent to a shape. As a variable of terms the position may become anything.
abbrev pub FreshPositionSentToAShapePutsItInTypes : Type 0
FreshPositionSentToAShapePutsItInTypes =
    (to other : ℕ → ℕ) (shapes : ℕ → Shape) (fresh : ℕ) (by : Shape) (type : CapturingType) → AreClosed shapes
    → ((position : ℕ) → position < fresh → other position ≡ to position)
    → MeetsInType (under_type_binder fresh) zero type
    → act_type (freely other (overridden shapes fresh by)) zero (opened_type fresh type)
    ≡ replaced_type_by_shape by (act_type (freely to shapes) zero type)

-- the same of terms
abbrev pub FreshPositionSentToAShapePutsItInTerms : Type 0
FreshPositionSentToAShapePutsItInTerms =
    (to other : ℕ → ℕ) (shapes : ℕ → Shape) (fresh : ℕ) (by : Shape) (term : Term) → AreClosed shapes
    → ((position : ℕ) → position < fresh → other position ≡ to position)
    → MeetsInTerm (under_type_binder fresh) zero term
    → act_term (freely other (overridden shapes fresh by)) zero (opened_term fresh term)
    ≡ replaced_term_by_shape by (act_term (freely to shapes) zero term)

-- an action on free positions does the same under any number of binders
abbrev pub FreeActionsDoTheSameToTheTypesAtEachDepth : Type 0
FreeActionsDoTheSameToTheTypesAtEachDepth =
    (to : ℕ → ℕ) (shapes : ℕ → Shape) (depth other : ℕ) (type : CapturingType) → AreClosed shapes
    → act_type (freely to shapes) depth type ≡ act_type (freely to shapes) other type

-- the same of terms
abbrev pub FreeActionsDoTheSameToTheTermsAtEachDepth : Type 0
FreeActionsDoTheSameToTheTermsAtEachDepth =
    (to : ℕ → ℕ) (shapes : ℕ → Shape) (depth other : ℕ) (term : Term) → AreClosed shapes
    → act_term (freely to shapes) depth term ≡ act_term (freely to shapes) other term

-- the action that sends each position to itself leaves all
abbrev pub LeavingEachPositionLeavesTypes : Type 0
LeavingEachPositionLeavesTypes =
    (type : CapturingType)
    → act_type (freely (λ position. position) (λ position. TypeVariable (Free position))) zero type ≡ type

-- the same of terms
abbrev pub LeavingEachPositionLeavesTerms : Type 0
LeavingEachPositionLeavesTerms =
    (term : Term)
    → act_term (freely (λ position. position) (λ position. TypeVariable (Free position))) zero term ≡ term

-- filling does the same under any number of binders
abbrev pub FillingDoesTheSameToTheTypesAtEachDepth : Type 0
FillingDoesTheSameToTheTypesAtEachDepth =
    (filling : ℕ → Set) (depth other : ℕ) (type : CapturingType) → HaveNoIndex filling
    → act_type (filling_in filling) depth type ≡ act_type (filling_in filling) other type

-- the same of terms
abbrev pub FillingDoesTheSameToTheTermsAtEachDepth : Type 0
FillingDoesTheSameToTheTermsAtEachDepth =
    (filling : ℕ → Set) (depth other : ℕ) (term : Term) → HaveNoIndex filling
    → act_term (filling_in filling) depth term ≡ act_term (filling_in filling) other term

-- renamings compose
abbrev pub RenamingsComposeOnTypes : Type 0
RenamingsComposeOnTypes =
    (later earlier : ℕ → ℕ) (type : CapturingType)
    → renamed_type later (renamed_type earlier type) ≡ renamed_type (λ position. later (earlier position)) type

-- the same of terms
abbrev pub RenamingsComposeOnTerms : Type 0
RenamingsComposeOnTerms =
    (later earlier : ℕ → ℕ) (term : Term)
    → renamed_term later (renamed_term earlier term) ≡ renamed_term (λ position. later (earlier position)) term

-- renaming commutes with opening
abbrev pub RenamingCommutesWithOpeningTypes : Type 0
RenamingCommutesWithOpeningTypes =
    (to : ℕ → ℕ) (position : ℕ) (type : CapturingType)
    → renamed_type to (opened_type position type) ≡ opened_type (to position) (renamed_type to type)

-- the same of terms
abbrev pub RenamingCommutesWithOpeningTerms : Type 0
RenamingCommutesWithOpeningTerms =
    (to : ℕ → ℕ) (position : ℕ) (term : Term)
    → renamed_term to (opened_term position term) ≡ opened_term (to position) (renamed_term to term)

-- filling with sets that have no index commutes with opening
abbrev pub FillingCommutesWithOpeningTypes : Type 0
FillingCommutesWithOpeningTypes =
    (filling : ℕ → Set) (position : ℕ) (type : CapturingType) → HaveNoIndex filling
    → filled_type filling (opened_type position type) ≡ opened_type position (filled_type filling type)

-- the same of terms
abbrev pub FillingCommutesWithOpeningTerms : Type 0
FillingCommutesWithOpeningTerms =
    (filling : ℕ → Set) (position : ℕ) (term : Term) → HaveNoIndex filling
    → filled_term filling (opened_term position term) ≡ opened_term position (filled_term filling term)

-- filling commutes with putting a shape
abbrev pub FillingCommutesWithPuttingShapesInTypes : Type 0
FillingCommutesWithPuttingShapesInTypes =
    (filling : ℕ → Set) (by : Shape) (type : CapturingType) → HaveNoIndex filling
    → filled_type filling (replaced_type_by_shape by type)
    ≡ replaced_type_by_shape (filled filling by) (filled_type filling type)

-- the same of terms
abbrev pub FillingCommutesWithPuttingShapesInTerms : Type 0
FillingCommutesWithPuttingShapesInTerms =
    (filling : ℕ → Set) (by : Shape) (term : Term) → HaveNoIndex filling
    → filled_term filling (replaced_term_by_shape by term)
    ≡ replaced_term_by_shape (filled filling by) (filled_term filling term)

-- what is well formed under a binder is so once it is opened at the position of a new entry of the binder's kind
abbrev pub OpenedTypesAreWellFormed : Type 0
OpenedTypesAreWellFormed =
    (context : Context) (entry : Bind) (type : CapturingType) → IsWellFormedTypeUnder context (kind_of entry) type
    → IsWellFormedType (entry ∷ context) (opened_type (length context) type)

-- the same of terms
abbrev pub OpenedTermsAreWellFormed : Type 0
OpenedTermsAreWellFormed =
    (context : Context) (entry : Bind) (term : Term) → IsWellFormedTermUnder context (kind_of entry) term
    → IsWellFormedTerm (entry ∷ context) (opened_term (length context) term)

-- what is well formed is so under a binder once the newest position is closed
abbrev pub ClosedTypesAreWellFormed : Type 0
ClosedTypesAreWellFormed =
    (context : Context) (entry : Bind) (type : CapturingType) → IsWellFormedType (entry ∷ context) type
    → IsWellFormedTypeUnder context (kind_of entry) (closed_type (length context) type)

-- the same of terms
abbrev pub ClosedTermsAreWellFormed : Type 0
ClosedTermsAreWellFormed =
    (context : Context) (entry : Bind) (term : Term) → IsWellFormedTerm (entry ∷ context) term
    → IsWellFormedTermUnder context (kind_of entry) (closed_term (length context) term)

-- what is well formed when opened at a position that does not occur in it is well formed under a binder
abbrev pub UnopenedTypesAreWellFormed : Type 0
UnopenedTypesAreWellFormed =
    (context : Context) (entry : Bind) (type : CapturingType) → MeetsInType (without (length context)) zero type
    → IsWellFormedType (entry ∷ context) (opened_type (length context) type)
    → IsWellFormedTypeUnder context (kind_of entry) type

-- the same of terms
abbrev pub UnopenedTermsAreWellFormed : Type 0
UnopenedTermsAreWellFormed =
    (context : Context) (entry : Bind) (term : Term) → MeetsInTerm (without (length context)) zero term
    → IsWellFormedTerm (entry ∷ context) (opened_term (length context) term)
    → IsWellFormedTermUnder context (kind_of entry) term

-- putting a variable of the binder's kind
abbrev pub PuttingAVariableKeepsTypesWellFormed : Type 0
PuttingAVariableKeepsTypesWellFormed =
    (context : Context) (kind : Kind) (by : Var) (type : CapturingType) → kind_at (kinds_of context) [] by ≡ Some kind
    → IsWellFormedTypeUnder context kind type → IsWellFormedType context (replaced_type by type)

-- the same of terms
abbrev pub PuttingAVariableKeepsTermsWellFormed : Type 0
PuttingAVariableKeepsTermsWellFormed =
    (context : Context) (kind : Kind) (by : Var) (term : Term) → kind_at (kinds_of context) [] by ≡ Some kind
    → IsWellFormedTermUnder context kind term → IsWellFormedTerm context (replaced_term by term)

-- putting a well-formed shape
abbrev pub PuttingAShapeKeepsTypesWellFormed : Type 0
PuttingAShapeKeepsTypesWellFormed =
    (context : Context) (by : Shape) (type : CapturingType) → IsWellFormedShape context by
    → IsWellFormedTypeUnder context TypeKind type → IsWellFormedType context (replaced_type_by_shape by type)

-- the same of terms
abbrev pub PuttingAShapeKeepsTermsWellFormed : Type 0
PuttingAShapeKeepsTermsWellFormed =
    (context : Context) (by : Shape) (term : Term) → IsWellFormedShape context by
    → IsWellFormedTermUnder context TypeKind term → IsWellFormedTerm context (replaced_term_by_shape by term)

-- renaming to positions of the same kinds in another context
abbrev pub RenamedTypesAreWellFormed : Type 0
RenamedTypesAreWellFormed =
    (context other : Context) (to : ℕ → ℕ) (type : CapturingType) → KeepsEachKind context other to
    → IsWellFormedType context type → IsWellFormedType other (renamed_type to type)

-- the same of terms
abbrev pub RenamedTermsAreWellFormed : Type 0
RenamedTermsAreWellFormed =
    (context other : Context) (to : ℕ → ℕ) (term : Term) → KeepsEachKind context other to
    → IsWellFormedTerm context term → IsWellFormedTerm other (renamed_term to term)

-- an action on free positions that sends variables of terms to such variables, and type variables to well-formed shapes
abbrev pub ActedOnTypesAreWellFormed : Type 0
ActedOnTypesAreWellFormed =
    (context other : Context) (to : ℕ → ℕ) (shapes : ℕ → Shape) (type : CapturingType)
    → KeepsTermKind context other to → GivesWellFormedShapes context other shapes
    → IsWellFormedType context type → IsWellFormedType other (act_type (freely to shapes) zero type)

-- the same of terms
abbrev pub ActedOnTermsAreWellFormed : Type 0
ActedOnTermsAreWellFormed =
    (context other : Context) (to : ℕ → ℕ) (shapes : ℕ → Shape) (term : Term) → KeepsTermKind context other to
    → GivesWellFormedShapes context other shapes
    → IsWellFormedTerm context term → IsWellFormedTerm other (act_term (freely to shapes) zero term)

-- filling with well-formed sets
abbrev pub FilledTypesAreWellFormed : Type 0
FilledTypesAreWellFormed =
    (context : Context) (filling : ℕ → Set) (type : CapturingType)
    → ((hole : ℕ) → IsWellFormedSet context (filling hole)) → IsWellFormedType context type
    → IsWellFormedType context (filled_type filling type)

-- the same of terms
abbrev pub FilledTermsAreWellFormed : Type 0
FilledTermsAreWellFormed =
    (context : Context) (filling : ℕ → Set) (term : Term) → ((hole : ℕ) → IsWellFormedSet context (filling hole))
    → IsWellFormedTerm context term → IsWellFormedTerm context (filled_term filling term)

-- what is well formed stays so when entries are added
abbrev pub MoreEntriesKeepTypesWellFormed : Type 0
MoreEntriesKeepTypesWellFormed =
    (more context : Context) (type : CapturingType) → IsWellFormedType context type
    → IsWellFormedType (more ++ context) type

-- the same of terms
abbrev pub MoreEntriesKeepTermsWellFormed : Type 0
MoreEntriesKeepTermsWellFormed =
    (more context : Context) (term : Term) → IsWellFormedTerm context term → IsWellFormedTerm (more ++ context) term

-- the free positions of what is well formed are below the length of the context, and no index is open
abbrev pub PositionsOfWellFormedTypesAreBelow : Type 0
PositionsOfWellFormedTypesAreBelow =
    (context : Context) (type : CapturingType) → IsWellFormedType context type
    → MeetsInType (positions_below (length context)) zero type × MeetsInType (bound_within 0) zero type

-- the same of terms
abbrev pub PositionsOfWellFormedTermsAreBelow : Type 0
PositionsOfWellFormedTermsAreBelow =
    (context : Context) (term : Term) → IsWellFormedTerm context term
    → MeetsInTerm (positions_below (length context)) zero term × MeetsInTerm (bound_within 0) zero term

-- under a binder one index is open
abbrev pub PositionsOfBodyTypesAreBelow : Type 0
PositionsOfBodyTypesAreBelow =
    (context : Context) (kind : Kind) (type : CapturingType) → IsWellFormedTypeUnder context kind type
    → MeetsInType (positions_below (length context)) zero type × MeetsInType (bound_within 1) zero type

-- the same of terms
abbrev pub PositionsOfBodyTermsAreBelow : Type 0
PositionsOfBodyTermsAreBelow =
    (context : Context) (kind : Kind) (term : Term) → IsWellFormedTermUnder context kind term
    → MeetsInTerm (positions_below (length context)) zero term × MeetsInTerm (bound_within 1) zero term

-- under the binder of a variable of terms that index stands at no type variable
abbrev pub BodyOfATermBinderKeepsKindsInTypes : Type 0
BodyOfATermBinderKeepsKindsInTypes =
    (context : Context) (type : CapturingType) → IsWellFormedTypeUnder context TermKind type
    → MeetsInType (under_term_binder (length context)) zero type × MeetsInType no_outermost_type zero type

-- the same of terms
abbrev pub BodyOfATermBinderKeepsKindsInTerms : Type 0
BodyOfATermBinderKeepsKindsInTerms =
    (context : Context) (term : Term) → IsWellFormedTermUnder context TermKind term
    → MeetsInTerm (under_term_binder (length context)) zero term × MeetsInTerm no_outermost_type zero term

-- under the binder of a type variable that index stands at type variables alone
abbrev pub BodyOfATypeBinderKeepsKindsInTypes : Type 0
BodyOfATypeBinderKeepsKindsInTypes =
    (context : Context) (type : CapturingType) → IsWellFormedTypeUnder context TypeKind type
    → MeetsInType (under_type_binder (length context)) zero type

-- the same of terms
abbrev pub BodyOfATypeBinderKeepsKindsInTerms : Type 0
BodyOfATypeBinderKeepsKindsInTerms =
    (context : Context) (term : Term) → IsWellFormedTermUnder context TypeKind term
    → MeetsInTerm (under_type_binder (length context)) zero term

-- the type of a variable in a well-formed context is well formed in it
abbrev pub EntriesAreWellFormed : Type 0
EntriesAreWellFormed =
    (context : Context) (position : ℕ) (shape : Shape) (set : Set) → IsWellFormedContext context
    → lookup context position ≡ Some (TermEntry shape set) → IsWellFormedType context (capturing shape set)

-- so is the bound of a type variable
abbrev pub BoundsAreWellFormed : Type 0
BoundsAreWellFormed =
    (context : Context) (position : ℕ) (bound : Shape) → IsWellFormedContext context
    → lookup context position ≡ Some (TypeEntry bound) → IsWellFormedShape context bound

-- the type of a variable names earlier positions alone
abbrev pub EntriesNameEarlierPositions : Type 0
EntriesNameEarlierPositions =
    (context : Context) (position : ℕ) (shape : Shape) (set : Set) → IsWellFormedContext context
    → lookup context position ≡ Some (TermEntry shape set)
    → MeetsInType (positions_below position) zero (capturing shape set)

-- so does the bound of a type variable
abbrev pub BoundsNameEarlierPositions : Type 0
BoundsNameEarlierPositions =
    (context : Context) (position : ℕ) (bound : Shape) → IsWellFormedContext context
    → lookup context position ≡ Some (TypeEntry bound) → Meets (positions_below position) zero bound

-- the newest entry stands at the position that the length of the context was
abbrev pub NewestEntryIsFound : Type 0
NewestEntryIsFound =
    (entry : Bind) (context : Context) → lookup (entry ∷ context) (length context) ≡ Some entry

-- what is found stays where it is when entries are added
abbrev pub OlderEntriesStay : Type 0
OlderEntriesStay =
    (more context : Context) (position : ℕ) (entry : Bind) → lookup context position ≡ Some entry
    → lookup (more ++ context) position ≡ Some entry

-- an entry is found at a position exactly where it is below the length
abbrev pub EntriesStandBelowTheLength : Type 0
EntriesStandBelowTheLength =
    (context : Context) (position : ℕ)
    → (position < length context) ↔ ((entry : Bind) × (lookup context position ≡ Some entry))

-- the captured variables of an opened term are those of the term, opened
abbrev pub CapturedVariablesOfOpenedTerms : Type 0
CapturedVariablesOfOpenedTerms =
    (position : ℕ) (term : Term)
    → captured_variables (opened_term position term) ≡ opened_set position (captured_variables term)

-- the same of closing
abbrev pub CapturedVariablesOfClosedTerms : Type 0
CapturedVariablesOfClosedTerms =
    (position : ℕ) (term : Term)
    → captured_variables (closed_term position term) ≡ closed_set position (captured_variables term)

-- the same of renaming
abbrev pub CapturedVariablesOfRenamedTerms : Type 0
CapturedVariablesOfRenamedTerms =
    (to : ℕ → ℕ) (term : Term) → captured_variables (renamed_term to term) ≡ renamed_set to (captured_variables term)

-- the same of an action on free positions
abbrev pub CapturedVariablesOfActedOnTerms : Type 0
CapturedVariablesOfActedOnTerms =
    (to : ℕ → ℕ) (shapes : ℕ → Shape) (term : Term)
    → captured_variables (act_term (freely to shapes) zero term)
    ≡ act_set (freely to shapes) zero (captured_variables term)

-- the same of filling with sets that have no index
abbrev pub CapturedVariablesOfFilledTerms : Type 0
CapturedVariablesOfFilledTerms =
    (filling : ℕ → Set) (term : Term) → HaveNoIndex filling
    → captured_variables (filled_term filling term) ≡ filled_set filling (captured_variables term)

-- putting a shape changes no captured variable
abbrev pub CapturedVariablesAfterPuttingAShape : Type 0
CapturedVariablesAfterPuttingAShape =
    (by : Shape) (term : Term) → captured_variables (replaced_term_by_shape by term) ≡ captured_variables term

-- the captured variables of a well-formed term are well formed
abbrev pub CapturedVariablesAreWellFormed : Type 0
CapturedVariablesAreWellFormed =
    (context : Context) (term : Term) → IsWellFormedTerm context term
    → IsWellFormedSet context (captured_variables term)

-- an element of a set that was opened is the position, or stands outside of the binder; and all that stands outside
-- is there
abbrev pub MembersOfOpenedSets : Type 0
MembersOfOpenedSets =
    (position : ℕ) (set : Set) (e : Elem) → MeetsInSet (bound_within 1) zero set
    → (Member e (opened_set position set) → Member e (without_binder set) ⊎ (e ≡ Variable (Free position)))
    × (Member e (without_binder set) → Member e (opened_set position set))

-- the size with a shape put for the outermost index is counted without building the type
abbrev pub SizeWithAShapeIsCounted : Type 0
SizeWithAShapeIsCounted =
    (by : Shape) (type : CapturingType) → size_with by type ≡ counted_type (shape_size by) type

-- opening keeps the size where the position does not occur; where it occurs, two elements of a set may become one
abbrev pub OpeningKeepsSizes : Type 0
OpeningKeepsSizes =
    (position : ℕ) (type : CapturingType) → MeetsInType (without position) zero type
    → type_size (opened_type position type) ≡ type_size type

-- closing keeps the size where no index is open
abbrev pub ClosingKeepsSizes : Type 0
ClosingKeepsSizes =
    (position : ℕ) (type : CapturingType) → MeetsInType (bound_within 0) zero type
    → type_size (closed_type position type) ≡ type_size type
