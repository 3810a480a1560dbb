-- The run of the entry that calls a chain, whole.
use Rattle.std.proofs.Common.{◌≡◌, ℕ, zero, suc, ◌+◌, ◌*◌, ◌≤◌, List, [], ◌∷◌, length, codes, None, pos, refl, sym, ap, ◌∙◌, arith}
use Rattle.std.specs.List.{fold, range_with_len, sum}
use Rattle.std.specs.Option.{unwrap_or}
use Rattle.cc_base.specs.Literals.{UnitLiteral, NumberLiteral}
use Rattle.cc_capture.specs.declared.var.Var.TheVariants.{Bound, Free}
use Rattle.cc_core.specs.Programs.{Module}
use Rattle.cc_core.specs.Stores.{Cell, ValueCell, Store}
use Rattle.cc_core.specs.Terms.{Absent, LiteralTerm, Application, Let}
use Rattle.cc_core.proofs.Lookups.{lookup-newest}
use Rattle.cc_device.specs.Declarations.{declared_devices}
use Rattle.cc_device.specs.Endings.{ShownLiteral, Done}
use Rattle.cc_device.specs.Events.{Event}
use Rattle.cc_entry_laws.specs.PresentEntries.{program_entry}
use Rattle.cc_runs.specs.Interleavings.{state_of}
use Rattle.cc_runs.specs.Links.{position_in, linked_store, program_start}
use Rattle.cc_runs.specs.Machine.{Configuration, configured}
use Rattle.cc_runs.specs.RunLaws.{GoesOn, IsRun}
use Rattle.cc_runs.specs.Runs as runs
use Rattle.cc_runs.specs.Runs.{State, IsFinal, Moves, move, Ends, Run, end_with, ending_of, run}
use Rattle.cc_runs.proofs.RunSteps.{runs_are_exact}
use Rattle.cc_verdicts.specs.ModuleVerdicts.{CheckedDefinition, ModuleVerdict}
use Rattle.cc_verdicts.specs.PresentTexts.{Texts}
use Rattle.cc_workload_outputs.proofs.ChainModules.{device_bases, Signed}
use Rattle.cc_workload.specs.Workloads.{workload_devices}
use Rattle.cc_workload_outputs.proofs.ChainRuns.{console_and_counter, starting_body, HasChain, applying, added, steps_of, counted_and_printed, Finishes}
use Rattle.cc_workload_outputs.proofs.PresentChains.{HasModules}
use Rattle.cc_workload_outputs.proofs.ChainCalls.{kept_chain, kept_function, applied, chains_run}
use Rattle.cc_workload_outputs.proofs.ChainEntries.{signed_as, signed_by, chain_entry, turned_modules}
use Rattle.cc_workload_outputs.proofs.ChainStores.{all_modules, whole_store, main_position, main_stored, whole_chain}

-- THE CALL OF THE CHAIN

module _ (signed : ℕ → Signed) (main : Signed) (last : ℕ) where
  abbrev store : Store
  store = whole_store signed main last

  abbrev program : Store
  program = ValueCell (LiteralTerm UnitLiteral) ∷ store

  -- the definition that is run calls the chain with 0
  main_finishes : suc last ≤ 200
      → Finishes (suc (suc (steps_of (suc last)))) (applying program (suc (suc (suc last))) (length store))
      (counted_and_printed (added 0 last))
  main_finishes few =
      let start : Cell = ValueCell (LiteralTerm (NumberLiteral (pos 0))) in
      let unit : Cell = ValueCell (LiteralTerm UnitLiteral) in
      let second : State =
      state_of console_and_counter
      (configured program [] 0 (Let Absent (LiteralTerm (NumberLiteral (pos 0))) (Application (Free (suc (suc last))) (Bound 0)))) in
      let chain : HasChain (start ∷ program) (suc last) =
      kept_chain start program (suc last) (kept_chain unit store (suc last) (whole_chain signed main last)) in
      let behind =
      chains_run last (start ∷ program) (length program) 0 chain (lookup-newest start program) (omega (arith, few)) (omega (arith, few)) in
      record {
        last = behind.last;
        leads =
            runs.more {next = second} {event = None}
            (applied program (suc (suc (suc last))) (length store) (starting_body 0 (suc (suc last)))
            (kept_function unit store (suc (suc (suc last))) (starting_body 0 (suc (suc last))) (main_stored signed main last)))
            (runs.more {event = None} refl behind.leads);
        final = behind.final;
        shows = behind.shows;
      }

-- THE START

-- the start of the program of these modules, newest first
abbrev start_with : List Module → Configuration
start_with turned =
    configured (ValueCell (LiteralTerm UnitLiteral) ∷ linked_store device_bases turned) [] 0
    (Application (Free (unwrap_or (position_in 2 (codes "app") (codes "main") turned) 0)) (Free (length (linked_store device_bases turned))))

start_applies : (signed : ℕ → Signed) (main : Signed) (last : ℕ)
    → state_of console_and_counter (start_with (all_modules signed main (suc last)))
    ≡ applying (program signed main last) (suc (suc (suc last))) (length (store signed main last))
start_applies signed main last =
    ap (λ found. applying (program signed main last) (unwrap_or found 0) (length (store signed main last))) (main_position signed main last)

-- THE RUN

final_stays : (state : State) → move state ≡ IsFinal → GoesOn state → ⊥
final_stays state is goes = let clash : IsFinal ≡ Moves goes.0 goes.1 = sym is ∙ goes.2 in cc

-- what comes to its end with enough fuel is the run
finished_run : (fuel steps : ℕ) (state : State) (events : List Event) (it : Finishes steps state events) → steps ≤ fuel
    → run fuel state ≡ record { events = events; ending = Ends (Done (ShownLiteral UnitLiteral)); steps = steps; last = it.last }
finished_run fuel steps state events it enough =
    let whole : Run = record { events = events; ending = Ends (Done (ShownLiteral UnitLiteral)); steps = steps; last = it.last } in
    let is : IsRun fuel state whole = record {
      led = it.leads;
      within_fuel = enough;
      fewer = λ less goes. final_stays it.last it.final goes;
      ending = sym (ap (ending_of it.last) it.final ∙ ap end_with it.shows);
    } in
    sym ((runs_are_exact fuel state).1 whole is)

-- so many calls take five steps each
steps_counted : (calls : ℕ) → steps_of calls ≡ 5 * calls
steps_counted zero = refl
steps_counted (suc calls) = omega (arith, steps_counted calls)

-- what is added is the sum
sum_more : (sofar first count : ℕ) → fold (λ a x. a + x) sofar (range_with_len first (suc count))
    ≡ fold (λ a x. a + x) sofar (range_with_len first count) + (first + count)
sum_more sofar first zero = omega arith
sum_more sofar first (suc count) =
    let behind : fold (λ a x. a + x) (sofar + first) (range_with_len (first + 1) (suc count))
    ≡ fold (λ a x. a + x) (sofar + first) (range_with_len (first + 1) count) + (first + 1 + count) =
    sum_more (sofar + first) (first + 1) count in
    omega (arith, behind)

added_up_to : (last number : ℕ) → added number last ≡ number + sum (range_with_len 2 last)
added_up_to zero number = omega arith
added_up_to (suc before) number =
    let behind = added_up_to before (number + suc (suc before)) in
    let more : sum (range_with_len 2 (suc before)) ≡ sum (range_with_len 2 before) + (2 + before) = sum_more 0 2 before in
    omega (arith, behind, more)

module _ (texts : Texts) (verdicts : List ℕ → ModuleVerdict) (checked : ℕ → CheckedDefinition) (main : CheckedDefinition)
    (last : ℕ) (has : HasModules texts verdicts checked main (suc last)) where
  -- the start of the program
  abbrev pub entry_start : State
  entry_start =
      state_of (declared_devices workload_devices) (program_start (program_entry (chain_entry texts verdicts checked main last has)))

  start_is : entry_start
      ≡ applying (program (signed_by texts verdicts checked main last has) (signed_as main) last) (suc (suc (suc last)))
      (length (store (signed_by texts verdicts checked main last has) (signed_as main) last))
  start_is =
      ap (λ turned. state_of console_and_counter (start_with turned)) (turned_modules texts verdicts checked main last has)
      ∙ start_applies (signed_by texts verdicts checked main last has) (signed_as main) last

  -- its run
  pub entry_run : (fuel : ℕ) → suc last ≤ 200 → 5 * suc last + 2 ≤ fuel
      → (end : State) × (run fuel entry_start
      ≡ record {
        events = counted_and_printed (sum (range_with_len 2 last));
        ending = Ends (Done (ShownLiteral UnitLiteral));
        steps = 5 * suc last + 2;
        last = end;
      })
  entry_run fuel few enough =
      let signed = signed_by texts verdicts checked main last has in
      let finishes = main_finishes signed (signed_as main) last few in
      let counted : suc (suc (steps_of (suc last))) ≡ 5 * suc last + 2 = omega (arith, steps_counted (suc last)) in
      let within : suc (suc (steps_of (suc last))) ≤ fuel = omega (arith, counted, enough) in
      let summed : added 0 last ≡ sum (range_with_len 2 last) = omega (arith, added_up_to last 0) in (
        finishes.last,
        ap (run fuel) start_is
            ∙ finished_run fuel (suc (suc (steps_of (suc last))))
            (applying (program signed (signed_as main) last) (suc (suc (suc last))) (length (store signed (signed_as main) last)))
            (counted_and_printed (added 0 last)) finishes within
            ∙ (λ i. record {
              events = counted_and_printed (summed i);
              ending = Ends (Done (ShownLiteral UnitLiteral));
              steps = counted i;
              last = finishes.last;
            }),
      )
