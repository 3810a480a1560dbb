-- The five sorts of syntax. What holds of sets, shapes, types, notes and terms alike is said once, of any sort, and each
-- of the five is an instance by computation. Here are the facts that each sort has from its own induction.
use Rattle.std.proofs.Common.{◌≡◌, ℕ, Bool, true, List, ◌++◌, length}
use Rattle.cc_capture.specs.Sets.{Set}
use Rattle.cc_core.specs.Shapes.{Shape, CapturingType}
use Rattle.cc_core.specs.Terms.{Note, Term}
use Rattle.cc_core.specs.Traversal.{Action, act, act_set, act_type, act_note, act_term, keeping, composed}
use Rattle.cc_core.specs.Occurrences.{Condition, agreement, Meets, MeetsInSet, MeetsInType, MeetsInNote, MeetsInTerm}
use Rattle.cc_core.specs.WellFormed.{Kind, is_well_formed_set, is_well_formed_shape, is_well_formed_type, is_well_formed_note, is_well_formed_term}
use Rattle.cc_core.proofs.Actions.{act_set-congruent, act-congruent, act_type-congruent, act_set-act_set, act-act, act_type-act_type, act_set-keeping, act-keeping, act_type-keeping}
use Rattle.cc_core.proofs.TermActions.{act_note-congruent, act_term-congruent, act_note-act_note, act_term-act_term, act_note-keeping, act_term-keeping}
use Rattle.cc_core.proofs.Conditions.{GivesHere, MeetsInSet-here, Meets-here, MeetsInType-here, MeetsInNote-here, MeetsInTerm-here, Brings, MeetsInSet-act, Meets-act, MeetsInType-act, MeetsInNote-act, MeetsInTerm-act, Always, MeetsInSet-always, Meets-always, MeetsInType-always, MeetsInNote-always, MeetsInTerm-always}
use Rattle.cc_core.proofs.KindFacts.{IsKindedSet, IsKinded, IsKindedType, IsKindedNote, IsKindedTerm, IsKindedSet-from, IsKinded-from, IsKindedType-from, IsKindedNote-from, IsKindedTerm-from, IsKindedSet-test, IsKinded-test, IsKindedType-test, IsKindedNote-test, IsKindedTerm-test}
use Rattle.cc_core.proofs.KindedActions.{KeepsKinds, IsKindedSet-act, IsKinded-act, IsKindedType-act, IsKindedNote-act, IsKindedTerm-act, KindsGive, IsKindedSet-meets, IsKinded-meets, IsKindedType-meets, IsKindedNote-meets, IsKindedTerm-meets}

pub data Sort : Type 0 where
  SetSort ShapeSort TypeSort NoteSort TermSort : Sort

-- what is of the sort
abbrev pub Syntax : Sort → Type 0
Syntax SetSort = Set
Syntax ShapeSort = Shape
Syntax TypeSort = CapturingType
Syntax NoteSort = Note
Syntax TermSort = Term

-- that in which an action was taken everywhere
abbrev pub acted : (sort : Sort) → Action → ℕ → Syntax sort → Syntax sort
acted SetSort = act_set
acted ShapeSort = act
acted TypeSort = act_type
acted NoteSort = act_note
acted TermSort = act_term

-- each element and each variable meets the condition
abbrev pub MeetsIn : (sort : Sort) → Condition → ℕ → Syntax sort → Type 0
MeetsIn SetSort = MeetsInSet
MeetsIn ShapeSort = Meets
MeetsIn TypeSort = MeetsInType
MeetsIn NoteSort = MeetsInNote
MeetsIn TermSort = MeetsInTerm

-- each variable is there and of its kind, as facts
abbrev pub HasKinds : (sort : Sort) → List Kind → List Kind → Syntax sort → Type 0
HasKinds SetSort = IsKindedSet
HasKinds ShapeSort = IsKinded
HasKinds TypeSort = IsKindedType
HasKinds NoteSort = IsKindedNote
HasKinds TermSort = IsKindedTerm

-- and as the test
abbrev pub is_formed : (sort : Sort) → List Kind → List Kind → Syntax sort → Bool
is_formed SetSort = is_well_formed_set
is_formed ShapeSort = is_well_formed_shape
is_formed TypeSort = is_well_formed_type
is_formed NoteSort = is_well_formed_note
is_formed TermSort = is_well_formed_term

abbrev pub IsFormed : (sort : Sort) → List Kind → List Kind → Syntax sort → Type 0
IsFormed sort kinds passed x = is_formed sort kinds passed x ≡ true

-- actions that agree on what occurs do the same, two in a row are one, and one leaves all
pub acted-congruent : (sort : Sort) (f g : Action) (d : ℕ) (x : Syntax sort) → MeetsIn sort (agreement f g) d x
    → acted sort f d x ≡ acted sort g d x
acted-congruent SetSort = act_set-congruent
acted-congruent ShapeSort = act-congruent
acted-congruent TypeSort = act_type-congruent
acted-congruent NoteSort = act_note-congruent
acted-congruent TermSort = act_term-congruent

pub acted-acted : (sort : Sort) (f g : Action) (d : ℕ) (x : Syntax sort)
    → acted sort f d (acted sort g d x) ≡ acted sort (composed f g) d x
acted-acted SetSort = act_set-act_set
acted-acted ShapeSort = act-act
acted-acted TypeSort = act_type-act_type
acted-acted NoteSort = act_note-act_note
acted-acted TermSort = act_term-act_term

pub acted-keeping : (sort : Sort) (d : ℕ) (x : Syntax sort) → acted sort keeping d x ≡ x
acted-keeping SetSort = act_set-keeping
acted-keeping ShapeSort = act-keeping
acted-keeping TypeSort = act_type-keeping
acted-keeping NoteSort = act_note-keeping
acted-keeping TermSort = act_term-keeping

-- a condition that gives another is met where that one is, and so is one that an action brings or that always holds
pub MeetsIn-here : (sort : Sort) (one other : Condition) → GivesHere one other → (d : ℕ) (x : Syntax sort)
    → MeetsIn sort one d x → MeetsIn sort other d x
MeetsIn-here SetSort = MeetsInSet-here
MeetsIn-here ShapeSort = Meets-here
MeetsIn-here TypeSort = MeetsInType-here
MeetsIn-here NoteSort = MeetsInNote-here
MeetsIn-here TermSort = MeetsInTerm-here

pub MeetsIn-act : (sort : Sort) (action : Action) (one other : Condition) → Brings action one other
    → (d : ℕ) (x : Syntax sort) → MeetsIn sort one d x → MeetsIn sort other d (acted sort action d x)
MeetsIn-act SetSort = MeetsInSet-act
MeetsIn-act ShapeSort = Meets-act
MeetsIn-act TypeSort = MeetsInType-act
MeetsIn-act NoteSort = MeetsInNote-act
MeetsIn-act TermSort = MeetsInTerm-act

pub MeetsIn-always : (sort : Sort) (condition : Condition) → Always condition → (d : ℕ) (x : Syntax sort)
    → MeetsIn sort condition d x
MeetsIn-always SetSort = MeetsInSet-always
MeetsIn-always ShapeSort = Meets-always
MeetsIn-always TypeSort = MeetsInType-always
MeetsIn-always NoteSort = MeetsInNote-always
MeetsIn-always TermSort = MeetsInTerm-always

-- the test is the facts
pub HasKinds-from : (sort : Sort) (kinds passed : List Kind) (x : Syntax sort) → IsFormed sort kinds passed x
    → HasKinds sort kinds passed x
HasKinds-from SetSort = IsKindedSet-from
HasKinds-from ShapeSort = IsKinded-from
HasKinds-from TypeSort = IsKindedType-from
HasKinds-from NoteSort = IsKindedNote-from
HasKinds-from TermSort = IsKindedTerm-from

pub HasKinds-test : (sort : Sort) (kinds passed : List Kind) (x : Syntax sort) → HasKinds sort kinds passed x
    → IsFormed sort kinds passed x
HasKinds-test SetSort = IsKindedSet-test
HasKinds-test ShapeSort = IsKinded-test
HasKinds-test TypeSort = IsKindedType-test
HasKinds-test NoteSort = IsKindedNote-test
HasKinds-test TermSort = IsKindedTerm-test

-- an action that keeps kinds keeps them everywhere, and kinds give what each variable of its kind meets
pub HasKinds-act : (sort : Sort) (action : Action) (kinds beyond new_kinds new_beyond : List Kind)
    → KeepsKinds action kinds beyond new_kinds new_beyond → (passed : List Kind) (x : Syntax sort)
    → HasKinds sort kinds (passed ++ beyond) x
    → HasKinds sort new_kinds (passed ++ new_beyond) (acted sort action (length passed) x)
HasKinds-act SetSort = IsKindedSet-act
HasKinds-act ShapeSort = IsKinded-act
HasKinds-act TypeSort = IsKindedType-act
HasKinds-act NoteSort = IsKindedNote-act
HasKinds-act TermSort = IsKindedTerm-act

pub HasKinds-meets : (sort : Sort) (kinds beyond : List Kind) (condition : Condition) → KindsGive kinds beyond condition
    → (passed : List Kind) (x : Syntax sort) → HasKinds sort kinds (passed ++ beyond) x
    → MeetsIn sort condition (length passed) x
HasKinds-meets SetSort = IsKindedSet-meets
HasKinds-meets ShapeSort = IsKinded-meets
HasKinds-meets TypeSort = IsKindedType-meets
HasKinds-meets NoteSort = IsKindedNote-meets
HasKinds-meets TermSort = IsKindedTerm-meets
