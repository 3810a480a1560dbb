-- Runs are their steps, and follow one another.
use Rattle.std.proofs.Common.{◌≡◌, ◌<◌, ◌≤◌, ◌+◌, arith, ℕ, zero, suc, List, ◌++◌, Option, Some, None, refl, sym, ap, ◌∙◌, subst}
use Rattle.cc_device.specs.Endings.{Shown, Done, OutOfFuel}
use Rattle.cc_device.specs.Events.{Event}
use Rattle.cc_runs.specs.Answers.{shown}
use Rattle.cc_runs.specs.Runs as runs
use Rattle.cc_runs.specs.Runs.{State, Move, IsStuck, IsFinal, Moves, move, with_event, Ending, Ends, IsStopped, Run, ended, after_move, end_with, ending_of, run_on, run, LeadsIn}
use Rattle.cc_runs.specs.RunLaws.{GoesOn, IsRun, RunsAreExact, StepsAreWithinFuel, OutOfFuelExactly, DoneExactly, followed_by, RunsFollowRuns}

-- a run is its steps
stopped_run : (fuel : ℕ) (state : State) (m : Move) → move state ≡ m → (GoesOn state → ⊥) → IsRun fuel state (ended (ending_of state m) state)
stopped_run fuel state m is stops = record {
  led = runs.none;
  within_fuel = omega arith;
  fewer = λ less goes. stops goes;
  ending = ap (ending_of state) (sym is);
}

no_move : (state : State) (m : Move) → move state ≡ m → ((event : Option Event) (next : State) → m ≡ Moves event next → ⊥) → GoesOn state → ⊥
no_move state m is none goes = none goes.0 goes.1 (sym is ∙ goes.2)

run_from : (fuel : ℕ) (state : State) (m : Move) → move state ≡ m → ((next : State) → IsRun fuel next (run fuel next)) → IsRun (suc fuel) state (run_on (run fuel) state m)
run_from fuel state IsStuck is rest = stopped_run (suc fuel) state IsStuck is (no_move state IsStuck is (λ e n same. cc))
run_from fuel state IsFinal is rest = stopped_run (suc fuel) state IsFinal is (no_move state IsFinal is (λ e n same. cc))
run_from fuel state (Moves event next) is rest =
    let later = rest next in
    let within = later.within_fuel in
    record {
      led = runs.more is later.led;
      within_fuel = omega arith;
      fewer = λ less goes. later.fewer (let l : (run fuel next).steps < fuel = omega arith in l) goes;
      ending = later.ending;
    }

no_fuel_run : (state : State) → IsRun zero state (run zero state)
no_fuel_run state = record { led = runs.none; within_fuel = omega arith; fewer = λ less goes. absurd (omega arith); ending = refl }

is_run : (fuel : ℕ) (state : State) → IsRun fuel state (run fuel state)
is_run zero state = no_fuel_run state
is_run (suc fuel) state = run_from fuel state (move state) refl (is_run fuel)

-- the run with these steps
abbrev run_with : ℕ → List Event → State → Run
run_with steps events last = record { events = events; ending = ending_of last (move last); steps = steps; last = last }

at_once : (fuel : ℕ) (state : State) (m : Move) → move state ≡ m → (GoesOn state → ⊥) → run_on (run fuel) state m ≡ ended (ending_of state m) state
at_once fuel state IsStuck is stops = refl
at_once fuel state IsFinal is stops = refl
at_once fuel state (Moves event next) is stops = absurd (stops (event, next, is))

only : (fuel : ℕ) {steps : ℕ} {state last : State} {events : List Event} → LeadsIn steps state events last → steps ≤ fuel → (steps < fuel → GoesOn last → ⊥)
    → run fuel state ≡ run_with steps events last
only zero runs.none within fewer = refl
only zero (runs.more is rest) within fewer = absurd (omega arith)
only (suc fuel) (runs.none {state = state}) within fewer = at_once fuel state (move state) refl (fewer (let l : 0 < suc fuel = omega arith in l))
only (suc fuel) (runs.more {steps = n} {state = state} {next = next} {last = last} {event = event} {events = events} is rest) within fewer =
    let fewer' : n < fuel → GoesOn last → ⊥ = λ less. fewer (let l : suc n < suc fuel = omega arith in l) in
    ap (run_on (run fuel) state) is ∙ ap (after_move event) (only fuel rest (let l : n ≤ fuel = omega arith in l) fewer')

pub runs_are_exact : RunsAreExact
runs_are_exact fuel state = (
  is_run fuel state,
  λ other is. ap (λ e. record { events = other.events; ending = e; steps = other.steps; last = other.last }) is.ending
      ∙ sym (only fuel is.led is.within_fuel is.fewer),
)

-- the ends
done_or_stopped : (o : Option Shown) → end_with o ≡ Ends OutOfFuel → ⊥
done_or_stopped (Some s) is = cc
done_or_stopped None is = cc

goes_on_at : (state : State) (m : Move) → move state ≡ m → ending_of state m ≡ Ends OutOfFuel → GoesOn state
goes_on_at state IsStuck is at = cc
goes_on_at state IsFinal is at = absurd (done_or_stopped (shown state.configuration) at)
goes_on_at state (Moves event next) is at = (event, next, is)

pub steps_are_within_fuel : StepsAreWithinFuel
steps_are_within_fuel fuel state =
    let r = is_run fuel state in
    let last = (run fuel state).last in
    (r.within_fuel, λ less out. r.fewer less (goes_on_at last (move last) refl (sym r.ending ∙ out)))

same_steps : (m n : ℕ) → m ≤ n → (m < n → ⊥) → m ≡ n
same_steps m n within not_less =
    first_of (omega (arith, not_less), grind (arith, not_less))

pub out_of_fuel_exactly : OutOfFuelExactly
out_of_fuel_exactly fuel state = (
  λ out.
      let r = is_run fuel state in
      let last = (run fuel state).last in
      let goes = goes_on_at last (move last) refl (sym r.ending ∙ out) in
      let all : (run fuel state).steps ≡ fuel = same_steps (run fuel state).steps fuel r.within_fuel (λ less. r.fewer less goes) in
      ((run fuel state).events, last, subst (λ n. LeadsIn n state (run fuel state).events last) all r.led, goes),
  λ still.
      let is = only fuel still.2 (let l : fuel ≤ fuel = omega arith in l) (λ less. absurd (omega arith)) in
      ap (λ r. r.ending) is ∙ ap (ending_of still.1) still.3.2,
)

shown_done : (o : Option Shown) (s : Shown) → end_with o ≡ Ends (Done s) → o ≡ Some s
shown_done (Some s') s is = cc
shown_done None s is = cc

done_at : (state : State) (m : Move) (s : Shown) → move state ≡ m → ending_of state m ≡ Ends (Done s) → (move state ≡ IsFinal) × (shown state.configuration ≡ Some s)
done_at state IsStuck s is at = cc
done_at state IsFinal s is at = (is, shown_done (shown state.configuration) s at)
done_at state (Moves event next) s is at = cc

final_stays : (state : State) → move state ≡ IsFinal → GoesOn state → ⊥
final_stays state is goes = let clash : IsFinal ≡ Moves goes.0 goes.1 = sym is ∙ goes.2 in cc

pub done_exactly : DoneExactly
done_exactly fuel state s = (
  λ done.
      let r = is_run fuel state in
      let last = (run fuel state).last in
      let at = done_at last (move last) s refl (sym r.ending ∙ done) in
      ((run fuel state).steps, (run fuel state).events, last, r.within_fuel, r.led, at.0, at.1),
  λ comes.
      let is = only fuel comes.4 comes.3 (λ less. final_stays comes.2 comes.5) in
      ap (λ r. r.ending) is ∙ ap (ending_of comes.2) comes.5 ∙ ap end_with comes.6,
)

-- runs after runs
with_events : (event : Option Event) (xs ys : List Event) → with_event event (xs ++ ys) ≡ with_event event xs ++ ys
with_events None xs ys = refl
with_events (Some e) xs ys = refl

after_followed : (event : Option Event) (first second : Run) → after_move event (followed_by first second) ≡ followed_by (after_move event first) second
after_followed event first second =
    let steps : suc (first.steps + second.steps) ≡ suc first.steps + second.steps = omega arith in
    λ i. record { events = with_events event first.events second.events i; ending = second.ending; steps = steps i; last = second.last }

nothing_first : (r : Run) (ending : Ending) (state : State) → r ≡ followed_by (ended ending state) r
nothing_first r ending state =
    let steps : r.steps ≡ 0 + r.steps = omega arith in
    λ i. record { events = r.events; ending = r.ending; steps = steps i; last = r.last }

stays_ended : (fuel : ℕ) (state : State) (m : Move) → move state ≡ m → (GoesOn state → ⊥) → run fuel state ≡ ended (ending_of state m) state
stays_ended zero state m is stops = ap (λ x. ended (ending_of state x) state) is
stays_ended (suc fuel) state m is stops = ap (run_on (run fuel) state) is ∙ at_once fuel state m is stops

follow_from : (fuel further : ℕ) (state : State) (m : Move) → move state ≡ m
    → ((next : State) → run (fuel + further) next ≡ followed_by (run fuel next) (run further (run fuel next).last))
    → run_on (run (fuel + further)) state m ≡ followed_by (run_on (run fuel) state m) (run further (run_on (run fuel) state m).last)
follow_from fuel further state IsStuck is rest =
    let stops = no_move state IsStuck is (λ e n same. cc) in
    sym (stays_ended further state IsStuck is stops) ∙ nothing_first (run further state) (ending_of state IsStuck) state
follow_from fuel further state IsFinal is rest =
    let stops = no_move state IsFinal is (λ e n same. cc) in
    sym (stays_ended further state IsFinal is stops) ∙ nothing_first (run further state) (ending_of state IsFinal) state
follow_from fuel further state (Moves event next) is rest =
    ap (after_move event) (rest next) ∙ after_followed event (run fuel next) (run further (run fuel next).last)

pub runs_follow_runs : RunsFollowRuns
runs_follow_runs zero further state =
    let none : 0 + further ≡ further = omega arith in
    ap (λ n. run n state) none ∙ nothing_first (run further state) (ending_of state (move state)) state
runs_follow_runs (suc fuel) further state =
    let one : suc fuel + further ≡ suc (fuel + further) = omega arith in
    ap (λ n. run n state) one ∙ follow_from fuel further state (move state) refl (runs_follow_runs fuel further)
