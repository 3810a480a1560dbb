use Rattle.cc_runs.proofs.RunSteps.{runs_are_exact, steps_are_within_fuel, out_of_fuel_exactly, done_exactly, runs_follow_runs}
use Rattle.cc_runs.proofs.runs.runs_are_their_steps.Goals as goal

pub returns : goal.returns
returns c =
    record {
      exact = runs_are_exact;
      within_fuel = steps_are_within_fuel;
      out_of_fuel = out_of_fuel_exactly;
      done = done_exactly;
      follow = runs_follow_runs;
    }
