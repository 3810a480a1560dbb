-- Calls along a chain of functions, step by step.
use Rattle.std.proofs.Common.{◌≡◌, ℕ, zero, suc, ◌+◌, ◌*◌, ◌≤◌, pos, List, [], ◌∷◌, length, Some, None, refl, ap, ◌∙◌, arith, FitsSigned}
use Rattle.std.specs.Int.{w64, int_wrap}
use Rattle.std.specs.Option.{option_map}
use Rattle.std.proofs.lemmas.Int.{int_wrap_fits}
use Rattle.cc_base.specs.Literals.{UnitLiteral, NumberLiteral}
use Rattle.cc_base.specs.declared.literal.Base.TheVariants as bases
use Rattle.cc_base.specs.declared.literal.Op.TheVariants as operations
use Rattle.cc_base.specs.declared.literal.Operator.TheVariants as operators
use Rattle.cc_capture.specs.declared.var.Var.TheVariants.{Bound, Free}
use Rattle.cc_core.specs.Stores.{Cell, ValueCell, DeviceCell, Store}
use Rattle.cc_core.specs.Terms.{Absent, Term, LiteralTerm, FunctionTerm, Application, Let, Primitive, Operation}
use Rattle.cc_core.proofs.Lookups.{lookup-newest, lookup-older}
use Rattle.cc_device.specs.Devices.{Devices, Console, Counter}
use Rattle.cc_device.specs.Events.{Event, Operated}
use Rattle.cc_runs.specs.Interleavings.{state_of}
use Rattle.cc_runs.specs.Machine.{LetFrame, Stack, configured, apply_step, operation_step, primitive_step, literal_in, put_in}
use Rattle.cc_runs.specs.Runs as runs
use Rattle.cc_runs.specs.Runs.{State, Move, Moves, closed, move, LeadsIn}
use Rattle.cc_workload_outputs.proofs.ChainRuns.{console_and_counter, counting_body, adding_body, HasFunction, HasNumber, HasChain, applying, added, steps_of, counted_and_printed, Finishes}

-- STORES

-- a cell more changes none below
pub kept_function : (cell : Cell) (store : Store) (position : ℕ) (body : Term) → HasFunction store position body
    → HasFunction (cell ∷ store) position body
kept_function cell store position body (takes, set, is) = (
  takes,
  set,
  lookup-older cell store position (ValueCell (FunctionTerm takes set body)) is,
)

pub kept_number : (cell : Cell) (store : Store) (position number : ℕ) → HasNumber store position number
    → HasNumber (cell ∷ store) position number
kept_number cell store position number is =
    lookup-older cell store position (ValueCell (LiteralTerm (NumberLiteral (pos number)))) is

pub kept_chain : (cell : Cell) (store : Store) (count : ℕ) → HasChain store count → HasChain (cell ∷ store) count
kept_chain cell store count has = record {
  out = lookup-older cell store 0 (DeviceCell 0 bases.Console) has.out;
  hits = lookup-older cell store 1 (DeviceCell 1 bases.Counter) has.hits;
  first = kept_function cell store 2 counting_body has.first;
  others = λ before less.
      kept_function cell store (suc (suc (suc before))) (adding_body (suc (suc before)) (suc (suc before)))
      (has.others before less);
}

-- a shorter chain stands in a longer one
pub shorter_chain : (store : Store) (less more : ℕ) → less ≤ more → HasChain store more → HasChain store less
shorter_chain store less more below has = record {
  out = has.out;
  hits = has.hits;
  first = has.first;
  others = λ before within. has.others before (omega (arith, below, within));
}

-- NUMBERS

-- small numbers do not wrap
not_wrapped : (number : ℕ) → number ≤ 41000 → int_wrap w64 (pos number) ≡ pos number
not_wrapped number small =
    let fits : FitsSigned w64 (pos number) = omega (arith, small) in int_wrap_fits w64 (pos number) fits

-- STEPS

-- a function is applied
pub applied : (store : Store) (function argument : ℕ) (body : Term) → HasFunction store function body
    → move (applying store function argument)
    ≡ Moves None (state_of console_and_counter (configured store [] 0 (put_in (Free argument) body)))
applied store function argument body (takes, set, is) =
    ap (λ cell. closed console_and_counter (apply_step store [] 0 (Free argument) cell)) is

-- two numbers are added, for a let that waits
added_up : (store : Store) (stack : Stack) (left right first second : ℕ) → HasNumber store left first
    → HasNumber store right second → first + second ≤ 41000
    → move (state_of console_and_counter (configured store stack 0 (Primitive operators.Add (Free left) (Free right))))
    ≡ Moves None (state_of console_and_counter (configured store stack 0 (LiteralTerm (NumberLiteral (pos (first + second))))))
added_up store stack left right first second is_left is_right small =
    (λ i. closed console_and_counter (primitive_step store stack 0 operators.Add (literal_in (is_left i)) (literal_in (is_right i))))
    ∙ ap (λ number. Moves None (state_of console_and_counter (configured store stack 0 (LiteralTerm (NumberLiteral number)))))
    (not_wrapped (first + second) small)

-- the store when a call has added its number
abbrev grown : Store → ℕ → ℕ → Store
grown store number sum =
    ValueCell (LiteralTerm (NumberLiteral (pos sum))) ∷ ValueCell (LiteralTerm (NumberLiteral (pos number))) ∷ store

-- a call behind the first one leads to the call of the one before it, with its number added
call_leads : (store : Store) (function argument value number next : ℕ) → HasFunction store function (adding_body number next)
    → HasNumber store argument value → value + number ≤ 41000
    → (steps : ℕ) (events : List Event) (last : State)
    → LeadsIn steps (applying (grown store number (value + number)) next (suc (length store))) events last
    → LeadsIn (suc (suc (suc (suc (suc steps))))) (applying store function argument) events last
call_leads store function argument value number next is_function is_number small steps events last rest =
    let D = console_and_counter in
    let numbered : Store = ValueCell (LiteralTerm (NumberLiteral (pos number))) ∷ store in
    let called : Term = Application (Free next) (Bound 0) in
    let waiting : Stack = LetFrame called ∷ [] in
    let third : State = state_of D (configured store waiting 0 (Let Absent (LiteralTerm (NumberLiteral (pos number))) (Primitive operators.Add (Free argument) (Bound 0)))) in
    let fourth : State = state_of D (configured numbered waiting 0 (Primitive operators.Add (Free argument) (Free (length store)))) in
    let fifth : State = state_of D (configured numbered waiting 0 (LiteralTerm (NumberLiteral (pos (value + number))))) in
    runs.more {event = None} (applied store function argument (adding_body number next) is_function)
    (runs.more {next = third} {event = None} refl
    (runs.more {next = fourth} {event = None} refl
    (runs.more {next = fifth} {event = None}
    (added_up numbered waiting argument (length store) value number
    (kept_number (ValueCell (LiteralTerm (NumberLiteral (pos number)))) store argument value is_number)
    (lookup-newest (ValueCell (LiteralTerm (NumberLiteral (pos number)))) store) small)
    (runs.more {event = None} refl rest))))

-- the first one counts and prints
first_finishes : (store : Store) (argument number : ℕ) → HasChain store 1 → HasNumber store argument number
    → Finishes 5 (applying store 2 argument) (counted_and_printed number)
unfolding int_wrap
first_finishes store argument number has is_number =
    let D = console_and_counter in
    let counted : Devices = Console [] ∷ Counter (pos 1) ∷ [] in
    let one : Cell = ValueCell (LiteralTerm (NumberLiteral (pos 1))) in
    let printing : Term = Operation operations.Print (Free 0) (Some (Free argument)) in
    let waiting : Stack = LetFrame printing ∷ [] in
    let third : State = state_of D (configured store waiting 0 (Operation operations.Tick (Free 1) None)) in
    let fourth : State = state_of counted (configured store waiting 0 (LiteralTerm (NumberLiteral (pos 1)))) in
    let fifth : State = state_of counted (configured (one ∷ store) [] 0 printing) in
    let last : State =
    state_of (Console (NumberLiteral (pos number) ∷ []) ∷ Counter (pos 1) ∷ []) (configured (one ∷ store) [] 0 (LiteralTerm UnitLiteral)) in
    let ticks : move third ≡ Moves (Some (Operated 1 operations.Tick (NumberLiteral (pos 1)))) fourth =
    ap (λ cell. closed D (operation_step store waiting 0 operations.Tick cell (Some None))) has.hits in
    let prints : move fifth ≡ Moves (Some (Operated 0 operations.Print (NumberLiteral (pos number)))) last =
    λ i. closed counted (operation_step (one ∷ store) [] 0 operations.Print
    (lookup-older one store 0 (DeviceCell 0 bases.Console) has.out i)
    (option_map (λ literal. Some literal) (literal_in (kept_number one store argument number is_number i)))) in
    record {
      last = last;
      leads =
          runs.more {event = None} (applied store 2 argument counting_body has.first)
          (runs.more {next = third} {event = None} refl
          (runs.more ticks
          (runs.more {next = fifth} {event = None} refl
          (runs.more prints runs.none))));
      final = refl;
      shows = refl;
    }

-- all of them
pub chains_run : (before : ℕ) (store : Store) (argument number : ℕ) → HasChain store (suc before)
    → HasNumber store argument number → before ≤ 199 → number + before * 200 ≤ 40000
    → Finishes (steps_of (suc before)) (applying store (suc (suc before)) argument)
    (counted_and_printed (added number before))
chains_run zero store argument number has is_number few small = first_finishes store argument number has is_number
chains_run (suc before) store argument number has is_number few small =
    let here = suc (suc before) in
    let cell : Cell = ValueCell (LiteralTerm (NumberLiteral (pos here))) in
    let sum : Cell = ValueCell (LiteralTerm (NumberLiteral (pos (number + here)))) in
    let longer : suc before ≤ suc (suc before) = omega arith in
    let shorter : HasChain store (suc before) = shorter_chain store (suc before) (suc (suc before)) longer has in
    let behind : Finishes (steps_of (suc before)) (applying (grown store here (number + here)) here (suc (length store)))
    (counted_and_printed (added (number + here) before)) =
    chains_run before (grown store here (number + here)) (suc (length store)) (number + here)
    (kept_chain sum (cell ∷ store) (suc before) (kept_chain cell store (suc before) shorter))
    (lookup-newest sum (cell ∷ store)) (omega (arith, few)) (omega (arith, few, small)) in
    record {
      last = behind.last;
      leads =
          call_leads store (suc here) argument number here here (has.others before (omega arith)) is_number (omega (arith, few, small))
          (steps_of (suc before)) (counted_and_printed (added (number + here) before)) behind.last behind.leads;
      final = behind.final;
      shows = behind.shows;
    }
