use Rattle.cc_runs.proofs.Erasure.{alike_capture_the_same, alike_step_alike, alike_show_the_same, alike_run_alike}
use Rattle.cc_runs.proofs.soundness.annotations_decide_nothing.Goals as goal

pub returns : goal.returns
returns c =
    record {
      captured = alike_capture_the_same;
      steps = alike_step_alike;
      shows = alike_show_the_same;
      runs = alike_run_alike;
    }
