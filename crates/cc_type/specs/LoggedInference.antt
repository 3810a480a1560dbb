-- Inference over a log.
use Rattle.std.specs.Prelude.{◌≡◌, ℕ, List}
use Rattle.cc_core.specs.Terms.{Term}
use Rattle.cc_core.specs.Contexts.{Context}
use Rattle.cc_core.specs.Places.{Places}
use Rattle.cc_checking.specs.Outcomes.{Placed}
use Rattle.cc_checking.specs.Inference.{inferred}
use Rattle.cc_known.specs.Logs.{after}
use Rattle.cc_type.specs.Rows.{ways, inferred_log}

-- as the program goes through a term, it comes to what inference comes to, and keeps what that asks
abbrev pub InferenceOverLogs : Type 0
InferenceOverLogs =
    (root : ℕ) (term : Term) (context : Context) (places : Places) (log : List Placed)
    → inferred_log root context term places log ≡ after log (inferred ways root context term places)
