use Rattle.cc_runs.proofs.RunTheorems.{scopes_follow_events, events_are_well_scoped}
use Rattle.cc_runs.proofs.soundness.scopes_are_kept.Goals as goal

pub returns : goal.returns
returns c =
    record {
      followed = scopes_follow_events;
      well_scoped = events_are_well_scoped;
    }
