-- Runs of sound states.
use Rattle.std.proofs.Common.{◌≡◌, ◌<◌, ℕ, Bool, true, false, List, [], Option, Some, None, inl, inr, ◌⊎◌, refl, sym, ap, ◌∙◌, subst}
use Rattle.std.specs.Prelude.{slice_get, slice_set}
use Rattle.std.specs.Option.{option_map}
use Rattle.std.proofs.lemmas.Bool.{cases_eq}
use Rattle.cc_base.specs.declared.literal.Base.{Base}
use Rattle.cc_base.specs.declared.literal.Op.{Op}
use Rattle.cc_capture.specs.declared.var.Var.TheVariants.{Free}
use Rattle.cc_capture.specs.declared.var.Elem.TheVariants.{Var as Variable, Cap}
use Rattle.cc_capture.specs.Sets.{Member, contains, empty, union}
use Rattle.cc_capture.proofs.Membership.{Member-empty}
use Rattle.cc_base.specs.Literals.{Literal, UnitLiteral}
use Rattle.cc_core.specs.Terms.{LiteralTerm}
use Rattle.cc_core.specs.Contexts.{lookup}
use Rattle.cc_core.specs.Captured.{captured_variables, variable_set}
use Rattle.cc_core.specs.Typing.{base_operated}
use Rattle.cc_core.specs.Stores.{Cell, ValueCell, DeviceCell, LabelCell, Store}
use Rattle.cc_device.specs.Devices.{DeviceState, base_of_device, Answer, Devices, replying, reply_of, operate}
use Rattle.cc_device.specs.Events.{Event, Operated, Follows, operated, FollowsAll, no_event, then_event, literal_shown}
use Rattle.cc_runs.specs.Machine.{Configuration, StepOutcome, Stuck, Final, Next, Ask, step}
use Rattle.cc_runs.specs.Reach.{IsEnd, Reaches, here, through, SetReaches, captured_set, captured_by_stack}
use Rattle.cc_runs.specs.Runs as runs
use Rattle.cc_runs.specs.Runs.{State, Move, IsStuck, IsFinal, Moves, answered, closed, move, with_event, Ending, Ends, IsStopped, Run, ended, after_move, ending_of, run_on, run, LeadsIn}
use Rattle.cc_runs.specs.Soundness.{labels_in, ReachesNoNewDevice, FitsScopes, IsSoundQuestion, IsSoundOutcome, OperatesNoDevice, no_frame}
use Rattle.cc_runs.specs.SafeRuns.{scopes_of, IsListed, IsAmong}
use Rattle.cc_runs.specs.SoundRuns.{FitsDevices, IsSoundState, TypedProgramsStartSoundly, SoundnessIsKept, SoundStatesNeverGetStuck, OperatedDevicesAreReached, ReachNeverGrows, ScopesFollowEvents, RunsNeverStop, RunsAreSteps, EventsAreWellScoped, EntriesKeepTheirAuthority}
use Rattle.cc_runs.proofs.ReachLemmas.{set_reaches-left, set_reaches-either, set_reaches-none, variable_reaches, declared_reach}
use Rattle.cc_runs.proofs.StoreTyping.{store_typed_from}
use Rattle.cc_runs.proofs.StepHelpers.{listed_label}
use Rattle.cc_runs.proofs.StepTheorem.{steps_are_sound}
use Rattle.cc_device.specs.Endings.{Shown}
use Rattle.cc_device.proofs.Operations.{set_at, set_elsewhere, shapes_of_devices_stay}
use Rattle.cc_core.specs.Typing.{HasNoCap}
use Rattle.cc_runs.specs.Answers.{shown}
use Rattle.cc_runs.specs.Runs.{end_with}
use Rattle.cc_runs.specs.SoundRuns.{IsSoundMove, IsKeptSound, MovesAreSound, FittingIsByShapes, start}
use Rattle.cc_runs.proofs.Authority.{authority_is_what_is_named}
use Rattle.cc_runs.proofs.DeviceTable.{Fits, table_answers}
use Rattle.cc_runs.proofs.Finality.{final_exactly_where_answered}
use Rattle.cc_runs.proofs.RunSteps.{runs_are_exact}
use Rattle.cc_runs.proofs.ShownAnswers.{shown_from}

-- what fits
same_option : (o : Option DeviceState) (b : Base) → option_map base_of_device o ≡ Some b → (device : DeviceState) × (o ≡ Some device) × (base_of_device device ≡ b)
same_option (Some device) b is = (device, refl, let same : base_of_device device ≡ b = cc in same)
same_option None b is = cc

pub fitting_is_by_shapes : FittingIsByShapes
fitting_is_by_shapes store devices = (
  λ fits position number base at. let found = fits position number base at in ap (option_map base_of_device) found.1 ∙ ap (λ b. Some b) found.2,
  λ shapes position number base at. same_option (slice_get devices number) base (shapes position number base at),
)

fits_changed : (st : Store) (devices : Devices) (i : ℕ) (old new : DeviceState) → FitsDevices st devices → slice_get devices i ≡ Some old → base_of_device new ≡ base_of_device old → FitsDevices st (slice_set devices i new)
fits_changed st devices i old new fits there same p n b at =
    let found = fits p n b at in
    elim (cases_eq n i) as (λ _. (device : DeviceState) × (slice_get (slice_set devices i new) n ≡ Some device) × (base_of_device device ≡ b)) [
      | inl is ↦
          let both : Some found.0 ≡ Some old = sym found.1 ∙ ap (slice_get devices) is ∙ there in
          let one : found.0 ≡ old = cc in
          (new, ap (slice_get (slice_set devices i new)) is ∙ set_at devices i old new there, same ∙ ap base_of_device (sym one) ∙ found.2)
      | inr other ↦ (found.0, set_elsewhere devices i n new other ∙ found.1, found.2)
    ]

fits_kept : (st st' : Store) (devices : Devices) → FitsDevices st devices → ((p n : ℕ) (b : Base) → lookup st' p ≡ Some (DeviceCell n b) → lookup st p ≡ Some (DeviceCell n b)) → FitsDevices st' devices
fits_kept st st' devices fits kept p n b at = fits p n b (kept p n b at)

operated_parts : {n n' : ℕ} {op op' : Op} {l l' : Literal} → Some (Operated n op l) ≡ Some (Operated n' op' l') → (n ≡ n') × (op ≡ op')
operated_parts e = (cc, cc)

-- a device that is asked answers
question_move : (state : State) (number : ℕ) (op : Op) (argument : Option Literal) (resume : Literal → Configuration) → IsSoundState state
    → IsSoundQuestion state.configuration number op argument resume → IsSoundMove state (answered number op argument resume (operate state.devices number op argument))
question_move state number op argument resume sound asked =
    by_cell (reaches_cell asked.reached.2)
  where
    reaches_cell : {st : Store} {p : ℕ} {n : ℕ} {b : Base} → Reaches st p (DeviceCell n b) → (q : ℕ) × (lookup st q ≡ Some (DeviceCell n b))
    reaches_cell (here {position = q} there end) = (q, there)
    reaches_cell (through there m rest) = reaches_cell rest

    by_answer : (device : DeviceState) → slice_get state.devices number ≡ Some device → Fits device op argument → IsSoundMove state (answered number op argument resume (operate state.devices number op argument))
    by_answer device there fits =
        let answer : Answer = fits.0 in
        let is : operate state.devices number op argument ≡ Some (replying state.devices number answer) =
        ap (reply_of state.devices number op argument) there ∙ ap (option_map (replying state.devices number)) fits.1 in
        let went = asked.answered answer.literal fits.2 in
        subst (λ r. IsSoundMove state (answered number op argument resume r)) (sym is)
        (record {
          sound = record {
            configuration = went.sound;
            devices = fits_changed (resume answer.literal).store state.devices number device answer.device
                (fits_kept state.configuration.store (resume answer.literal).store state.devices sound.devices went.device_cells) there fits.3;
          };
          reach = went.devices;
          shapes = shapes_of_devices_stay state.devices number op argument (replying state.devices number answer) is;
          scopes = subst (λ z. Follows (scopes_of state.configuration.stack) (Operated number op (literal_shown argument answer.literal)) z) went.scopes operated;
          operated = λ device' operation literal e.
              let parts = operated_parts e in
              subst (λ n. SetReaches state.configuration.store (captured_set state.configuration) (DeviceCell n (base_operated operation))) parts.0
              (subst (λ o. SetReaches state.configuration.store (captured_set state.configuration) (DeviceCell number (base_operated o))) parts.1
              (set_reaches-left (captured_variables state.configuration.term) (captured_by_stack state.configuration.stack) asked.reached));
        })

    by_cell : (q : ℕ) × (lookup state.configuration.store q ≡ Some (DeviceCell number (base_operated op))) → IsSoundMove state (answered number op argument resume (operate state.devices number op argument))
    by_cell at =
        let found = sound.devices at.0 number (base_operated op) at.1 in
        by_answer found.0 found.1 (table_answers found.0 op argument found.2 asked.taken)

no_operation : (event : Option Event) → (n : ℕ) (op : Op) (l : Literal) → (event ≡ Some (Operated n op l)) → OperatesNoDevice event → ⊥
no_operation event n op l e silent = subst OperatesNoDevice e silent

step_move : (state : State) (outcome : StepOutcome) → step state.configuration ≡ outcome → IsSoundState state → IsSoundOutcome state.configuration outcome → IsSoundMove state (closed state.devices outcome)
step_move state Stuck is sound went = went
step_move state Final is sound went =
    let answer = (final_exactly_where_answered state.configuration).0 is in
    shown_from state.configuration sound.configuration answer.0
step_move state (Next event next) is sound went = record {
  sound = record { configuration = went.sound; devices = fits_kept state.configuration.store next.store state.devices sound.devices went.device_cells };
  reach = went.devices;
  shapes = λ number. refl;
  scopes = went.scopes;
  operated = λ n op l e. absurd (no_operation event n op l e went.operates_none);
}
step_move state (Ask number op argument resume) is sound asked = question_move state number op argument resume sound asked

pub moves_are_sound : MovesAreSound
moves_are_sound state sound = step_move state (step state.configuration) refl sound (steps_are_sound state.configuration sound.configuration)

sound_next : (state : State) → IsSoundState state → (event : Option Event) (next : State) → move state ≡ Moves event next → IsKeptSound state event next
sound_next state sound event next is = subst (IsSoundMove state) is (moves_are_sound state sound)

-- Over many steps.
pub soundness_is_kept : SoundnessIsKept
soundness_is_kept state next events sound leads = kept leads.1 sound
  where
    kept : {n : ℕ} {a b : State} {es : List Event} → LeadsIn n a es b → IsSoundState a → IsSoundState b
    kept runs.none s = s
    kept (runs.more {state = a} {next = m} {event = e} is rest) s = kept rest (sound_next a s e m is).sound

pub sound_states_never_get_stuck : SoundStatesNeverGetStuck
sound_states_never_get_stuck state next events sound leads stuck =
    subst (IsSoundMove next) stuck (moves_are_sound next (soundness_is_kept state next events sound leads))

reach_kept : {steps : ℕ} {a b : State} {es : List Event} → LeadsIn steps a es b → IsSoundState a → ReachesNoNewDevice a.configuration b.configuration
reach_kept runs.none s n base r = r
reach_kept (runs.more {state = a} {next = m} {event = e} is rest) s n base r =
    let first = sound_next a s e m is in
    first.reach n base (reach_kept rest first.sound n base r)

pub reach_never_grows : ReachNeverGrows
reach_never_grows state next events sound leads = reach_kept leads.1 sound

pub among : (event : Option Event) (events : List Event) (x : Event) → IsAmong x (with_event event events) → (event ≡ Some x) ⊎ IsAmong x events
among None events x h = inr h
among (Some e) events x (inl same) = inl (ap (λ y. Some y) (sym same))
among (Some e) events x (inr h) = inr h

operated_reached : {steps : ℕ} {a b : State} {es : List Event} → LeadsIn steps a es b → IsSoundState a → (n : ℕ) (op : Op) (l : Literal) → IsAmong (Operated n op l) es
    → SetReaches a.configuration.store (captured_set a.configuration) (DeviceCell n (base_operated op))
operated_reached runs.none s n op l h = absurd h
operated_reached (runs.more {state = a} {next = m} {event = e} {events = es} is rest) s n op l h =
    let first = sound_next a s e m is in
    elim (among e es (Operated n op l) h) as (λ _. SetReaches a.configuration.store (captured_set a.configuration) (DeviceCell n (base_operated op))) [
      | inl now ↦ first.operated n op l now
      | inr later ↦ first.reach n (base_operated op) (operated_reached rest first.sound n op l later)
    ]

pub operated_devices_are_reached : OperatedDevicesAreReached
operated_devices_are_reached state next events sound leads = operated_reached leads.1 sound

pub follow : (before after last : List ℕ) (event : Option Event) (events : List Event) → FitsScopes before event after → FollowsAll after events last → FollowsAll before (with_event event events) last
follow before after last None events same rest = subst (λ z. FollowsAll z events last) (sym same) rest
follow before after last (Some e) events fits rest = then_event fits rest

scopes_follow : {steps : ℕ} {a b : State} {es : List Event} → LeadsIn steps a es b → IsSoundState a → FollowsAll (scopes_of a.configuration.stack) es (scopes_of b.configuration.stack)
scopes_follow runs.none s = no_event
scopes_follow (runs.more {state = a} {next = m} {last = b} {event = e} {events = es} is rest) s =
    let first = sound_next a s e m is in
    follow (scopes_of a.configuration.stack) (scopes_of m.configuration.stack) (scopes_of b.configuration.stack) e es first.scopes (scopes_follow rest first.sound)

pub scopes_follow_events : ScopesFollowEvents
scopes_follow_events state next events sound leads = scopes_follow leads.1 sound

-- Runs.
pub runs_are_steps : RunsAreSteps
runs_are_steps fuel state = ((run fuel state).steps, (runs_are_exact fuel state).0.led)

shows_something : (o : Option Shown) (shows : Shown) → o ≡ Some shows → end_with o ≡ IsStopped → ⊥
shows_something (Some s) shows is e = cc
shows_something None shows is e = cc

not_stopped : (state : State) (m : Move) → IsSoundMove state m → ending_of state m ≡ IsStopped → ⊥
not_stopped state IsStuck s e = s
not_stopped state IsFinal s e = shows_something (shown state.configuration) s.0 s.1 e
not_stopped state (Moves event next) s e = cc

pub runs_never_stop : RunsNeverStop
runs_never_stop fuel state sound e =
    let r = (runs_are_exact fuel state).0 in
    let last = (run fuel state).last in
    let sound_last = soundness_is_kept state last (run fuel state).events sound ((run fuel state).steps, r.led) in
    not_stopped last (move last) (moves_are_sound last sound_last) (sym r.ending ∙ e)

pub events_are_well_scoped : EventsAreWellScoped
events_are_well_scoped fuel state sound empty_stack = (
  scopes_of (run fuel state).last.configuration.stack,
  subst (λ z. FollowsAll z (run fuel state).events (scopes_of (run fuel state).last.configuration.stack)) empty_stack
      (scopes_follow_events state (run fuel state).last (run fuel state).events sound (runs_are_steps fuel state)),
)

-- Starts.
no_label : (st : Store) → labels_in st ≡ [] → (k p : ℕ) → lookup st p ≡ Some (LabelCell k) → ⊥
no_label st none k p there = subst (IsListed k) none (listed_label st p k there)

no_label_reached : {st : Store} {p : ℕ} {x : Cell} → Reaches st p x → labels_in st ≡ [] → (k : ℕ) → x ≡ LabelCell k → ⊥
no_label_reached {st = st} (here {position = p} there end) none k is = no_label st none k p (there ∙ ap (λ z. Some z) is)
no_label_reached (through there m rest) none k is = no_label_reached rest none k is

pub typed_programs_start_soundly : TypedProgramsStartSoundly
typed_programs_start_soundly store context term type stored typed none = record {
  context = context;
  shape = type.shape;
  set = type.set;
  store_typing = stored;
  term_typing = typed;
  stack_typing = no_frame typed.type_formed;
  labels_counted = none;
  scopes_rise = tt;
  term_reach = λ k r. absurd (no_label_reached r.2 none k refl);
  frames_reach = tt;
}

-- Authority.
pub device_reached : {st : Store} {p : ℕ} {x : Cell} → Reaches st p x → (n m : ℕ) (b b' : Base) → x ≡ DeviceCell n b → lookup st p ≡ Some (DeviceCell m b') → m ≡ n
device_reached (here there end) n m b b' is at = let both : Some (DeviceCell m b') ≡ Some (DeviceCell n b) = sym at ∙ there ∙ ap (λ z. Some z) is in cc
device_reached (through {value = v} there m' rest) n m b b' is at = let clash : Some (DeviceCell m b') ≡ Some (ValueCell v) = sym at ∙ there in cc

pub literal_reaches_nothing : {st : Store} {p : ℕ} {x : Cell} → Reaches st p x → (l : Literal) → lookup st p ≡ Some (ValueCell (LiteralTerm l)) → ⊥
literal_reaches_nothing {st = st} (here {position = p} {cell = x} there end) l at = value_end x (sym at ∙ there) end
  where
    value_end : (y : Cell) → Some (ValueCell (LiteralTerm l)) ≡ Some y → IsEnd y → ⊥
    value_end (ValueCell w) e end' = end'
    value_end (DeviceCell n b) e end' = cc
    value_end (LabelCell n) e end' = cc
literal_reaches_nothing {st = st} (through {position = p} {next = q} {value = v} there m rest) l at =
    let same : Some (ValueCell (LiteralTerm l)) ≡ Some (ValueCell v) = sym at ∙ there in
    let is : LiteralTerm l ≡ v = cc in
    Member-empty (Variable (Free q)) (subst (λ t. Member (Variable (Free q)) (captured_variables t)) (sym is) m)

pub reached_cell : {st : Store} {p n : ℕ} {b : Base} → Reaches st p (DeviceCell n b) → (q : ℕ) × (lookup st q ≡ Some (DeviceCell n b))
reached_cell (here {position = q} there end) = (q, there)
reached_cell (through there m rest) = reached_cell rest

pub entries_keep_their_authority : EntriesKeepTheirAuthority
entries_keep_their_authority store context entry unit count shape set devices begins fuel device operation literal among_events =
    let state : State = start store entry unit devices in
    let reached = operated_devices_are_reached state (run fuel state).last (run fuel state).events begins.sound (runs_are_steps fuel state) device operation literal among_events in
    let cell = reached_cell reached.2 in
    let below : device < count = (begins.first cell.0 device (base_operated operation) cell.1).1 in
    (authority_is_what_is_named count set device).1 (below, by_cap (contains Cap set) refl reached)
  where
    named : HasNoCap set → SetReaches store (union (union (variable_set (Free entry)) (variable_set (Free unit))) empty) (DeviceCell device (base_operated operation)) → Member (Variable (Free device)) set
    named no_cap reached =
        elim (set_reaches-either (union (variable_set (Free entry)) (variable_set (Free unit))) empty reached) as (λ _. Member (Variable (Free device)) set) [
          | inl r ↦ elim (set_reaches-either (variable_set (Free entry)) (variable_set (Free unit)) r) as (λ _. Member (Variable (Free device)) set) [
            | inl e ↦
                let by = declared_reach (store_typed_from begins.stored) entry shape set (DeviceCell device (base_operated operation)) begins.declared no_cap (variable_reaches e) in
                let at = begins.names by.0 by.1 in
                let is : at.0 ≡ device = device_reached by.2 device at.0 (base_operated operation) at.1 refl at.2 in
                let position : by.0 ≡ device = (begins.first by.0 at.0 at.1 at.2).0 ∙ is in
                subst (λ p. Member (Variable (Free p)) set) position by.1
            | inr u ↦ absurd (literal_reaches_nothing (variable_reaches u) UnitLiteral begins.applied)
          ]
          | inr none_reached ↦ absurd (set_reaches-none none_reached)
        ]

    by_cap : (b : Bool) → contains Cap set ≡ b → SetReaches store (union (union (variable_set (Free entry)) (variable_set (Free unit))) empty) (DeviceCell device (base_operated operation)) → Member Cap set ⊎ Member (Variable (Free device)) set
    by_cap true cap reached = inl cap
    by_cap false without reached = inr (named (λ cap. let clash : true ≡ false = sym cap ∙ without in cc) reached)
