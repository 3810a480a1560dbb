-- What holds of each configuration of a well-typed program, and what each step keeps.
use Rattle.std.specs.Prelude.{◌≡◌, ℕ, zero, suc, ◌<◌, ◌≤◌, List, [], ◌∷◌, length, Option, Some, None, IsTrue}
use Rattle.cc_base.specs.declared.literal.Base.{Base}
use Rattle.cc_base.specs.declared.literal.Base.TheVariants as bases
use Rattle.cc_base.specs.declared.literal.Op.{Op}
use Rattle.cc_capture.specs.declared.var.Var.{Var}
use Rattle.cc_capture.specs.declared.var.Elem.TheVariants.{Cap}
use Rattle.cc_capture.specs.Sets.{Set, empty}
use Rattle.cc_core.specs.Shapes.{Shape, BaseShape, FunctionShape, ExitShape, capturing}
use Rattle.cc_base.specs.Literals.{Literal}
use Rattle.cc_core.specs.Terms.{Term, VariableTerm}
use Rattle.cc_core.specs.Contexts.{TermEntry, Context, lookup}
use Rattle.cc_core.specs.Substitution.{single, opened_term}
use Rattle.cc_core.specs.WellFormed.{TermKind, kinds_of, is_well_formed_term, IsWellFormedType}
use Rattle.cc_core.specs.Captured.{captured_variables}
use Rattle.cc_core.specs.Subtyping.{SubtypesType}
use Rattle.cc_core.specs.Typing.{base_of, base_operated, base_taken, base_answered, HasType}
use Rattle.cc_core.specs.Stores.{ValueCell, DeviceCell, LabelCell, Store, HasStoreTyping}
use Rattle.cc_device.specs.Events.{Event, Operated, Entered, Ended, Exited, Follows}
use Rattle.cc_runs.specs.Machine.{LetFrame, ScopeFrame, RepetitionFrame, Stack, Configuration, StepOutcome, Stuck}
use Rattle.cc_runs.specs.Machine.{Final, Next, Ask, is_taken, step}
use Rattle.cc_runs.specs.Reach.{SetReaches, captured_by_frame, captured_set}
use Rattle.cc_runs.specs.SafeRuns.{scopes_of, IsListed}

-- the type of a function that a repetition calls
abbrev pub repeated : Shape
repeated = FunctionShape (BaseShape bases.Int) empty (BaseShape bases.Unit) empty

-- The stack takes an answer of the type of the shape and the set. The body of a let has the type that the frame below
-- takes; what a boundary or a repetition gives is below that type.
pub data HasStackTyping (store : Store) (context : Context) : Stack → Shape → Set → Type 0 where
  no_frame : {shape : Shape} {set : Set} → IsWellFormedType context (capturing shape set)
      → HasStackTyping store context [] shape set
  let_frame : {stack : Stack} {body : Term} {takes gives : Shape} {c e : Set}
      → IsTrue (is_well_formed_term (kinds_of context) (TermKind ∷ []) body)
      → HasType (TermEntry takes c ∷ context) (opened_term (length context) body) (capturing gives e)
      → HasStackTyping store context stack gives e
      → HasStackTyping store context (LetFrame body ∷ stack) takes c
  scope_frame : (position : ℕ) {stack : Stack} {label : ℕ} {gives below : Shape} {e : Set}
      → lookup store position ≡ Some (LabelCell label)
      → lookup context position ≡ Some (TermEntry (ExitShape gives) (single Cap))
      → SubtypesType context (capturing gives empty) (capturing below e)
      → HasStackTyping store context stack below e
      → HasStackTyping store context (ScopeFrame label ∷ stack) gives empty
  repetition_frame : {stack : Stack} {function : Var} {begun wanted : ℕ} {below : Shape} {d e : Set}
      → HasType context (VariableTerm function) (capturing repeated d)
      → 1 ≤ begun
      → begun ≤ wanted
      → SubtypesType context (capturing (BaseShape bases.Unit) empty) (capturing below e)
      → HasStackTyping store context stack below e
      → HasStackTyping store context (RepetitionFrame function begun wanted ∷ stack) (BaseShape bases.Unit) empty

-- the labels in the cells of a store, the newest first
abbrev pub labels_in : Store → List ℕ
labels_in [] = []
labels_in (ValueCell value ∷ store) = labels_in store
labels_in (DeviceCell device base ∷ store) = labels_in store
labels_in (LabelCell label ∷ store) = label ∷ labels_in store

-- the numbers below a number, from the greatest down to 0
abbrev pub countdown : ℕ → List ℕ
countdown zero = []
countdown (suc number) = number ∷ countdown number

-- each number is greater than all that follow it
abbrev pub IsFalling : List ℕ → Type 0
IsFalling [] = Unit {0}
IsFalling (first ∷ others) = ((number : ℕ) → IsListed number others → number < first) × IsFalling others

-- the set reaches only labels of scopes on the stack
abbrev pub ReachesOnlyScopes : Store → Set → Stack → Type 0
ReachesOnlyScopes store set stack =
    (label : ℕ) → SetReaches store set (LabelCell label) → IsListed label (scopes_of stack)

-- each frame reaches only labels of scopes below it
abbrev pub FramesReachScopes : Store → Stack → Type 0
FramesReachScopes store [] = Unit {0}
FramesReachScopes store (frame ∷ stack) =
    ReachesOnlyScopes store (captured_by_frame frame) stack × FramesReachScopes store stack

-- The configuration is sound: its store, its term and its stack are typed in one context, the term with the type that
-- the stack takes; its labels have the numbers from 0 on in the order of the store; the labels of its scopes rise
-- towards the top of the stack; and its term and each frame reach only labels of scopes that stand below.
pub record IsSound (configuration : Configuration) : Type 0 where
  pub context : Context
  pub shape : Shape
  pub set : Set
  pub store_typing : HasStoreTyping configuration.store context
  pub term_typing : HasType context configuration.term (capturing shape set)
  pub stack_typing : HasStackTyping configuration.store context configuration.stack shape set
  pub labels_counted : labels_in configuration.store ≡ countdown configuration.labels_made
  pub scopes_rise : IsFalling (scopes_of configuration.stack)
  pub term_reach : ReachesOnlyScopes configuration.store (captured_variables configuration.term) configuration.stack
  pub frames_reach : FramesReachScopes configuration.store configuration.stack

-- the second configuration reaches no device that the first does not reach
abbrev pub ReachesNoNewDevice : Configuration → Configuration → Type 0
ReachesNoNewDevice before after =
    (device : ℕ) (base : Base)
    → SetReaches after.store (captured_set after) (DeviceCell device base)
    → SetReaches before.store (captured_set before) (DeviceCell device base)

-- the event, if there is one, leads from the scopes before to those after; without an event they stay
abbrev pub FitsScopes : List ℕ → Option Event → List ℕ → Type 0
FitsScopes before None after = before ≡ after
FitsScopes before (Some event) after = Follows before event after

-- each cell of a device in the second configuration stands in the first
abbrev pub HasNoNewDeviceCell : Configuration → Configuration → Type 0
HasNoNewDeviceCell before after =
    (position device : ℕ) (base : Base)
    → lookup after.store position ≡ Some (DeviceCell device base)
    → lookup before.store position ≡ Some (DeviceCell device base)

-- the event, if there is one, is no operation of a device
abbrev pub OperatesNoDevice : Option Event → Type 0
OperatesNoDevice None = Unit {0}
OperatesNoDevice (Some (Operated device operation literal)) = ⊥
OperatesNoDevice (Some (Entered label)) = Unit {0}
OperatesNoDevice (Some (Ended label)) = Unit {0}
OperatesNoDevice (Some (Exited label)) = Unit {0}

-- What a step keeps where it asks no device.
pub record IsSoundStep (before : Configuration) (event : Option Event) (after : Configuration) : Type 0 where
  pub sound : IsSound after
  pub devices : ReachesNoNewDevice before after
  pub device_cells : HasNoNewDeviceCell before after
  pub scopes : FitsScopes (scopes_of before.stack) event (scopes_of after.stack)
  pub operates_none : OperatesNoDevice event

-- A device is asked only if the term reaches it and it is of the operation's kind, with an argument that the operation
-- takes; and each answer of the operation's kind is gone on from soundly.
pub record IsSoundQuestion (before : Configuration) (device : ℕ) (operation : Op) (argument : Option Literal)
    (resume : Literal → Configuration) : Type 0 where
  pub reached : SetReaches before.store (captured_variables before.term) (DeviceCell device (base_operated operation))
  pub taken : IsTrue (is_taken (base_taken operation) argument)
  pub answered : (answer : Literal) → base_of answer ≡ base_answered operation → IsSoundStep before None (resume answer)

-- a sound configuration is not stuck, and what comes of it is sound
abbrev pub IsSoundOutcome : Configuration → StepOutcome → Type 0
IsSoundOutcome before Stuck = ⊥
IsSoundOutcome before Final = Unit {0}
IsSoundOutcome before (Next event after) = IsSoundStep before event after
IsSoundOutcome before (Ask device operation argument resume) = IsSoundQuestion before device operation argument resume

-- Progress and preservation, for every answer of a device.
abbrev pub StepsAreSound : Type 0
StepsAreSound =
    (configuration : Configuration) → IsSound configuration → IsSoundOutcome configuration (step configuration)
