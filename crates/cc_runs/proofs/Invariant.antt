-- The invariant of runs, with typing by form, and how it goes along as the store grows.
use Rattle.cc_core.proofs.SubcapturingContexts.{IsKinded-added, IsKindedContext, IsKindedContext-from, IsKindedSet-added, entry_kinded}
use Rattle.cc_core.proofs.Sorts.{TermSort}
use Rattle.std.proofs.Common.{◌≡◌, ℕ, suc, ◌≤◌, true, List, [], ◌∷◌, length, Option, Some, None, inl, inr, ap, ◌∙◌, subst}
use Rattle.std.proofs.lemmas.Bool.{and_parts}
use Rattle.cc_base.specs.declared.literal.Base.TheVariants as bases
use Rattle.cc_base.specs.declared.literal.Op.{Op}
use Rattle.cc_capture.specs.declared.var.Var.{Var}
use Rattle.cc_capture.specs.declared.var.Var.TheVariants.{Free}
use Rattle.cc_capture.specs.declared.var.Elem.TheVariants.{Var as Variable, Cap}
use Rattle.cc_capture.specs.Sets.{Set, empty, union}
use Rattle.cc_capture.proofs.Membership.{Member-empty, Member-union}
use Rattle.cc_core.specs.Shapes.{Shape, BaseShape, TypeVariable, ExitShape, capturing}
use Rattle.cc_base.specs.Literals.{Literal}
use Rattle.cc_core.specs.Terms.{Term}
use Rattle.cc_core.specs.Contexts.{TermEntry, Context, lookup}
use Rattle.cc_core.specs.Traversal.{act_set}
use Rattle.cc_core.specs.Substitution.{single, opened_term, overridden, freely}
use Rattle.cc_core.specs.WellFormed.{Kind, TermKind, kinds_of}
use Rattle.cc_core.specs.Captured.{captured_variables, without_binder, variable_set}
use Rattle.cc_core.specs.Subcapturing.{SubcapturesSet}
use Rattle.cc_core.specs.Typing.{base_of, base_operated, base_taken, base_answered}
use Rattle.cc_core.specs.Stores.{Cell, DeviceCell, LabelCell, Store, HasStoreTyping, none_stored, value_stored, recursive_stored, device_stored, label_stored}
use Rattle.cc_core.proofs.Lookups.{lookup-older}
use Rattle.cc_core.proofs.KindFacts.{IsOfKind, IsKindedElement, IsKindedSet, IsKinded, IsKindedTerm, IsKinded-from, IsKinded-test, IsKindedSet-from, IsKindedTerm-from, IsKindedTerm-test}
use Rattle.cc_device.specs.Events.{Event}
use Rattle.cc_runs.specs.Machine.{LetFrame, ScopeFrame, RepetitionFrame, Stack, Configuration, StepOutcome, Stuck, Final, Next, Ask, is_taken}
use Rattle.cc_runs.specs.Reach.{SetReaches, captured_by_stack}
use Rattle.cc_runs.specs.Soundness.{repeated, HasStackTyping, no_frame, let_frame, scope_frame, repetition_frame, labels_in, countdown, IsFalling, ReachesOnlyScopes, FramesReachScopes, IsSound, ReachesNoNewDevice, HasNoNewDeviceCell, FitsScopes, OperatesNoDevice, IsSoundStep, IsSoundOutcome}
use Rattle.cc_runs.specs.SafeRuns.{scopes_of}
use Rattle.cc_typing_laws.proofs.DirectSubtyping.{SubtypesDirectly, direct_from, direct_to}
use Rattle.cc_typing_laws.proofs.FormedContexts.{length-kinds_of, kinded_single, IsKindedTerm-added, HasKinds-opened}
use Rattle.cc_typing_laws.proofs.FreeMaps.{as_is, more, subtypes-kept, same_position, same_variable, still, still_set, still_term, maps_longer, maps_under}
use Rattle.cc_typing_laws.proofs.InternalTyping.{HasVariable, Typed, kinded_without_binder, captured_kinded}
use Rattle.cc_typing_laws.proofs.TypingMaps.{typed_is, typed_kinded_term, map_typed, opened_term_map, same_under, same_set_under}
use Rattle.cc_typing_laws.proofs.TypingLemmas.{has_variable_longer, variable_typed, has_variable_typed}
use Rattle.cc_typing_laws.proofs.InternalConversions.{typed_from, type_from, formed_type_from}
use Rattle.cc_runs.proofs.StoreTyping.{StoreTyped, no_cell, value_cell, recursive_cell, device_cell, label_cell, store_formed, store_typed_from}
use Rattle.cc_runs.proofs.ReachLemmas.{set_reaches-older}

-- what is typed below the newest entry is so with an entry put below it
pub body_longer : (g : Context) (u : Shape) (d : Set) → IsKindedContext g → (body : Term) {takes gives : Shape} {c e : Set}
    → IsKinded (kinds_of g) [] takes → IsKindedSet (kinds_of g) [] c → IsKindedTerm (kinds_of g) (TermKind ∷ []) body → IsKinded (kinds_of g) [] gives → IsKindedSet (kinds_of g) [] e
    → Typed (TermEntry takes c ∷ g) (opened_term (length g) body) gives e
    → Typed (TermEntry takes c ∷ TermEntry u d ∷ g) (opened_term (suc (length g)) body) gives e
body_longer g u d formed body {takes = takes} {gives = gives} {c = c} {e = e} kt kc kb kg ke typed =
    let g' : Context = TermEntry u d ∷ g in
    let weak = maps_longer g g' (more (TermEntry u d) as_is) in
    let under = maps_under g g' same_position same_variable weak formed (TermEntry takes c) (kt, kc) in
    let typed' = map_typed typed _ (overridden same_position (length g) (length g')) (overridden same_variable (length g) (TypeVariable (Free (length g')))) under ((kt, kc), formed) in
    let moved = typed_is (opened_term_map g g' same_position same_variable weak formed TermKind body kb ∙ ap (opened_term (length g')) (still_term 1 body))
    (same_under g g' same_position same_variable weak formed gives kg ∙ still 0 gives)
    (same_set_under g g' same_position same_variable weak formed e ke ∙ still_set 0 e) typed' in
    subst (λ x. Typed (TermEntry takes x ∷ g') (opened_term (suc (length g)) body) gives e) (still_set 0 c)
    (subst (λ x. Typed (TermEntry x (act_set (freely same_position same_variable) 0 c) ∷ g') (opened_term (suc (length g)) body) gives e) (still 0 takes) moved)

-- the stack, with typing by form
pub data StackTyped (st : Store) (g : Context) : Stack → Shape → Set → Type 0 where
  bottom : {s : Shape} {c : Set} → IsKinded (kinds_of g) [] s → IsKindedSet (kinds_of g) [] c → StackTyped st g [] s c
  let_on : {stack : Stack} {body : Term} {takes gives : Shape} {c e : Set}
      → IsKindedTerm (kinds_of g) (TermKind ∷ []) body → IsKinded (kinds_of g) [] takes → IsKindedSet (kinds_of g) [] c
      → Typed (TermEntry takes c ∷ g) (opened_term (length g) body) gives e → StackTyped st g stack gives e
      → StackTyped st g (LetFrame body ∷ stack) takes c
  scope_on : (p : ℕ) {stack : Stack} {k : ℕ} {s below : Shape} {e : Set}
      → lookup st p ≡ Some (LabelCell k) → lookup g p ≡ Some (TermEntry (ExitShape s) (single Cap)) → IsKinded (kinds_of g) [] s
      → SubtypesDirectly g s below → StackTyped st g stack below e
      → StackTyped st g (ScopeFrame k ∷ stack) s empty
  repetition_on : {stack : Stack} {f : Var} {begun wanted : ℕ} {below : Shape} {d e : Set}
      → HasVariable g f repeated d → 1 ≤ begun → begun ≤ wanted → SubtypesDirectly g (BaseShape bases.Unit) below → StackTyped st g stack below e
      → StackTyped st g (RepetitionFrame f begun wanted ∷ stack) (BaseShape bases.Unit) empty

pub nothing_kinded : (kinds passed : List Kind) → IsKindedSet kinds passed empty
nothing_kinded kinds passed x h = absurd (Member-empty x h)

pub stack_takes_kinded : {st : Store} {g : Context} {stack : Stack} {s : Shape} {c : Set} → StackTyped st g stack s c → IsKinded (kinds_of g) [] s × IsKindedSet (kinds_of g) [] c
stack_takes_kinded (bottom ks kc) = (ks, kc)
stack_takes_kinded (let_on kb kt kc typed stacked) = (kt, kc)
stack_takes_kinded {g = g} (scope_on p at entry ks below stacked) = (ks, nothing_kinded (kinds_of g) [])
stack_takes_kinded {g = g} (repetition_on has one most below stacked) = (tt, nothing_kinded (kinds_of g) [])

-- the stack is typed where the store has one cell more
pub stack_longer : {st : Store} {g : Context} {stack : Stack} {s : Shape} {c : Set} → StackTyped st g stack s c → IsKindedContext g → (y : Cell) (u : Shape) (d : Set) → StackTyped (y ∷ st) (TermEntry u d ∷ g) stack s c
stack_longer {g = g} (bottom {s = s} {c = c} ks kc) formed y u d = bottom (IsKinded-added TermKind (kinds_of g) [] s ks) (IsKindedSet-added TermKind (kinds_of g) [] c kc)
stack_longer {g = g} (let_on {body = body} {takes = takes} {gives = gives} {c = c} {e = e} kb kt kc typed stacked) formed y u d =
    let top = stack_takes_kinded stacked in
    let_on (IsKindedTerm-added TermKind (kinds_of g) (TermKind ∷ []) body kb) (IsKinded-added TermKind (kinds_of g) [] takes kt) (IsKindedSet-added TermKind (kinds_of g) [] c kc)
    (body_longer g u d formed body kt kc kb top.0 top.1 typed) (stack_longer stacked formed y u d)
stack_longer {st = st} {g = g} (scope_on p {k = k} {s = s} {below = below} at entry ks less stacked) formed y u d =
    scope_on p (lookup-older y st p (LabelCell k) at) (lookup-older (TermEntry u d) g p (TermEntry (ExitShape s) (single Cap)) entry) (IsKinded-added TermKind (kinds_of g) [] s ks)
    (subtypes-kept (more (TermEntry u d) as_is) formed s below ks (stack_takes_kinded stacked).0 less) (stack_longer stacked formed y u d)
stack_longer {g = g} (repetition_on {below = below} {d = d'} has one most less stacked) formed y u d =
    repetition_on
    (has_variable_longer (more (TermEntry u d) as_is) formed has (IsKinded-added TermKind (kinds_of g) [] repeated has.kinded) (IsKindedSet-added TermKind (kinds_of g) [] d' has.kinded_set))
    one most (subtypes-kept (more (TermEntry u d) as_is) formed (BaseShape bases.Unit) below tt (stack_takes_kinded stacked).0 less) (stack_longer stacked formed y u d)

pub has_variable_kind : {g : Context} {v : Var} {s : Shape} {c : Set} → HasVariable g v s c → IsOfKind (kinds_of g) [] v TermKind
has_variable_kind has = typed_kinded_term (has_variable_typed has)

union_kinded : (kinds : List Kind) (a b : Set) → IsKindedSet kinds [] a → IsKindedSet kinds [] b → IsKindedSet kinds [] (union a b)
union_kinded kinds a b ka kb x h = elim ((Member-union x a b).0 h) as (λ _. IsKindedElement kinds [] x) [ inl m ↦ ka x m | inr m ↦ kb x m ]

-- what a frame, and the stack, captures is well formed
pub stack_kinded : {st : Store} {g : Context} {stack : Stack} {s : Shape} {c : Set} → StackTyped st g stack s c → IsKindedSet (kinds_of g) [] (captured_by_stack stack)
stack_kinded {g = g} (bottom ks kc) = nothing_kinded (kinds_of g) []
stack_kinded {g = g} (let_on {stack = stack} {body = body} kb kt kc typed stacked) =
    union_kinded (kinds_of g) (without_binder (captured_variables body)) (captured_by_stack stack)
    (kinded_without_binder (kinds_of g) [] TermKind (captured_variables body) (captured_kinded (kinds_of g) (TermKind ∷ []) body kb)) (stack_kinded stacked)
stack_kinded {g = g} (scope_on p {stack = stack} at entry ks less stacked) = union_kinded (kinds_of g) empty (captured_by_stack stack) (nothing_kinded (kinds_of g) []) (stack_kinded stacked)
stack_kinded {g = g} (repetition_on {stack = stack} {f = f} has one most less stacked) =
    union_kinded (kinds_of g) (variable_set f) (captured_by_stack stack) (kinded_single (kinds_of g) [] (Variable f) (has_variable_kind has)) (stack_kinded stacked)

-- with a new cell the frames reach what they reached
pub frames_added : {st : Store} {g : Context} {stack : Stack} {s : Shape} {c : Set} → StackTyped st g stack s c → StoreTyped st g → (y : Cell) → FramesReachScopes st stack → FramesReachScopes (y ∷ st) stack
frames_added (bottom ks kc) stored y reach = tt
frames_added {g = g} (let_on {body = body} kb kt kc typed stacked) stored y reach = (
  λ k r. reach.0 k (set_reaches-older stored y (without_binder (captured_variables body)) (kinded_without_binder (kinds_of g) [] TermKind (captured_variables body) (captured_kinded (kinds_of g) (TermKind ∷ []) body kb)) r),
  frames_added stacked stored y reach.1,
)
frames_added {g = g} (scope_on p at entry ks less stacked) stored y reach =
    (λ k r. reach.0 k (set_reaches-older stored y empty (nothing_kinded (kinds_of g) []) r), frames_added stacked stored y reach.1)
frames_added {g = g} (repetition_on {f = f} has one most less stacked) stored y reach =
    (λ k r. reach.0 k (set_reaches-older stored y (variable_set f) (kinded_single (kinds_of g) [] (Variable f) (has_variable_kind has)) r), frames_added stacked stored y reach.1)

-- The invariant: what is around a term in a configuration, and the term.
pub record Around (st : Store) (stack : Stack) (made : ℕ) (t : Term) (g : Context) (s : Shape) (c : Set) : Type 0 where
  pub stored : StoreTyped st g
  pub stacked : StackTyped st g stack s c
  pub counted : labels_in st ≡ countdown made
  pub rise : IsFalling (scopes_of stack)
  pub term_reach : ReachesOnlyScopes st (captured_variables t) stack
  pub frames_reach : FramesReachScopes st stack

pub record Ok (configuration : Configuration) : Type 0 where
  pub context : Context
  pub shape : Shape
  pub set : Set
  pub typed : Typed context configuration.term shape set
  pub around : Around configuration.store configuration.stack configuration.labels_made configuration.term context shape set

pub record Went (before : Configuration) (event : Option Event) (after : Configuration) : Type 0 where
  pub ok : Ok after
  pub devices : ReachesNoNewDevice before after
  pub device_cells : HasNoNewDeviceCell before after
  pub scopes : FitsScopes (scopes_of before.stack) event (scopes_of after.stack)
  pub operates_none : OperatesNoDevice event

pub record Asks (before : Configuration) (device : ℕ) (operation : Op) (argument : Option Literal) (resume : Literal → Configuration) : Type 0 where
  pub reached : SetReaches before.store (captured_variables before.term) (DeviceCell device (base_operated operation))
  pub taken : is_taken (base_taken operation) argument ≡ true
  pub answered : (answer : Literal) → base_of answer ≡ base_answered operation → Went before None (resume answer)

abbrev pub OkOutcome : Configuration → StepOutcome → Type 0
OkOutcome before Stuck = ⊥
OkOutcome before Final = Unit {0}
OkOutcome before (Next event after) = Went before event after
OkOutcome before (Ask device operation argument resume) = Asks before device operation argument resume

-- The invariant with typing by form is the invariant.
stack_typed_from : {st : Store} {g : Context} {stack : Stack} {s : Shape} {c : Set} → HasStackTyping st g stack s c → IsKindedContext g → StackTyped st g stack s c
stack_typed_from {g = g} (no_frame {shape = s} {set = c} wf) formed =
    let parts = and_parts _ _ wf in bottom (IsKinded-from (kinds_of g) [] s parts.0) (IsKindedSet-from (kinds_of g) [] c parts.1)
stack_typed_from {g = g} (let_frame {body = body} {takes = takes} {c = c} wf h stacked) formed =
    let entry = IsKindedContext-from (TermEntry takes c ∷ g) h.context_formed in
    let_on (IsKindedTerm-from (kinds_of g) (TermKind ∷ []) body wf) entry.0.0 entry.0.1 (typed_from h) (stack_typed_from stacked formed)
stack_typed_from {g = g} (scope_frame p {gives = s} at entry below stacked) formed =
    scope_on p at entry (entry_kinded g p (TermEntry (ExitShape s) (single Cap)) formed entry).0 (direct_from below.1) (stack_typed_from stacked formed)
stack_typed_from (repetition_frame h one most below stacked) formed = repetition_on (variable_typed (typed_from h)) one most (direct_from below.1) (stack_typed_from stacked formed)

pub nothing_captures : (g : Context) (e : Set) → SubcapturesSet g empty e
nothing_captures g e x h = absurd (Member-empty x h)

stack_typing_from : {st : Store} {g : Context} {stack : Stack} {s : Shape} {c : Set} → StackTyped st g stack s c → IsKindedContext g → HasStackTyping st g stack s c
stack_typing_from {g = g} (bottom {s = s} {c = c} ks kc) formed = no_frame (formed_type_from g s c ks kc)
stack_typing_from {g = g} (let_on {body = body} kb kt kc typed stacked) formed =
    let_frame (IsKindedTerm-test (kinds_of g) (TermKind ∷ []) body kb)
    (type_from ((kt, kc), formed) (HasKinds-opened (length g) TermKind (kinds_of g) (length-kinds_of g) TermSort body kb) typed) (stack_typing_from stacked formed)
stack_typing_from {g = g} (scope_on p {e = e} at entry ks less stacked) formed = scope_frame p at entry (nothing_captures g e, direct_to less) (stack_typing_from stacked formed)
stack_typing_from {g = g} (repetition_on {e = e} has one most less stacked) formed =
    let typed = has_variable_typed has in
    repetition_frame (type_from formed (typed_kinded_term typed) typed) one most (nothing_captures g e, direct_to less) (stack_typing_from stacked formed)

store_typing_from : {st : Store} {g : Context} → StoreTyped st g → HasStoreTyping st g
store_typing_from no_cell = none_stored
store_typing_from (value_cell {g = g} {s = s} {c = c} stored isv typed) = value_stored {type = capturing s c} (store_typing_from stored) isv (type_from (store_formed stored) (typed_kinded_term typed) typed)
store_typing_from (recursive_cell {g = g} {s = s} {c = c} stored isf ks kc typed) =
    recursive_stored {type = capturing s c} (store_typing_from stored) isf (formed_type_from g s c ks kc) (type_from ((ks, kc), store_formed stored) (typed_kinded_term typed) typed)
store_typing_from (device_cell stored isd) = device_stored (store_typing_from stored) isd
store_typing_from (label_cell {g = g} {s = s} stored ks) = label_stored (store_typing_from stored) (IsKinded-test (kinds_of g) [] s ks)

pub ok_from : (configuration : Configuration) → IsSound configuration → Ok configuration
ok_from configuration sound =
    let stored = store_typed_from sound.store_typing in
    record {
      context = sound.context;
      shape = sound.shape;
      set = sound.set;
      typed = typed_from sound.term_typing;
      around = record {
        stored = stored;
        stacked = stack_typed_from sound.stack_typing (store_formed stored);
        counted = sound.labels_counted;
        rise = sound.scopes_rise;
        term_reach = sound.term_reach;
        frames_reach = sound.frames_reach;
      };
    }

pub sound_from : (configuration : Configuration) → Ok configuration → IsSound configuration
sound_from configuration ok =
    let formed = store_formed ok.around.stored in
    record {
      context = ok.context;
      shape = ok.shape;
      set = ok.set;
      store_typing = store_typing_from ok.around.stored;
      term_typing = type_from formed (typed_kinded_term ok.typed) ok.typed;
      stack_typing = stack_typing_from ok.around.stacked formed;
      labels_counted = ok.around.counted;
      scopes_rise = ok.around.rise;
      term_reach = ok.around.term_reach;
      frames_reach = ok.around.frames_reach;
    }

sound_step : (before : Configuration) (event : Option Event) (after : Configuration) → Went before event after → IsSoundStep before event after
sound_step before event after went = record { sound = sound_from after went.ok; devices = went.devices; device_cells = went.device_cells; scopes = went.scopes; operates_none = went.operates_none }

pub sound_outcome : (before : Configuration) (outcome : StepOutcome) → OkOutcome before outcome → IsSoundOutcome before outcome
sound_outcome before Stuck h = h
sound_outcome before Final h = h
sound_outcome before (Next event after) h = sound_step before event after h
sound_outcome before (Ask device operation argument resume) h = record {
  reached = h.reached;
  taken = h.taken;
  answered = λ answer fits. sound_step before None (resume answer) (h.answered answer fits);
}
