use Rattle.cc_runs.proofs.Authority.{authority_is_what_is_named}
use Rattle.cc_runs.proofs.RunTheorems.{operated_devices_are_reached, reach_never_grows, entries_keep_their_authority}
use Rattle.cc_runs.proofs.soundness.runs_keep_their_authority.Goals as goal

pub returns : goal.returns
returns c =
    record {
      operated = operated_devices_are_reached;
      reached = reach_never_grows;
      authority = entries_keep_their_authority;
      named = authority_is_what_is_named;
    }
