-- Checking a definition over a log is checking it, and what that asks is kept behind the log.
use Rattle.std.proofs.Common.{◌≡◌, ℕ, suc, Bool, true, false, cond, List, ◌∷◌, length, Some, None, refl, ap, ◌∙◌}
use Rattle.cc_base.specs.declared.code.Code.TheVariants.{E17}
use Rattle.cc_core.specs.Shapes.{CapturingType, capturing}
use Rattle.cc_core.specs.Terms.{Note, Absent, Written, Own}
use Rattle.cc_core.specs.Contexts.{Context, entry_of}
use Rattle.cc_core.specs.Places.{spots}
use Rattle.cc_checking.specs.Outcomes.{Placed}
use Rattle.cc_checking.specs.Inference.{Result, below, noted, inferred}
use Rattle.cc_checking.specs.Verdicts.{Definition, checking, signature_of, plain_checked, recursion_checked}
use Rattle.cc_checking.specs.Verdicts.{recursive_checked, checked}
use Rattle.cc_known.specs.Logs.{Got, after, followed}
use Rattle.cc_type.specs.Rows.{comparing, ways}
use Rattle.cc_check.specs.Rows.{plain_log, recursion_log, recursive_log, checked_log}
use Rattle.cc_type.proofs.InferredLogs.{noted_logs}
use Rattle.cc_check.proofs.LoggedSteps.{after_steps, after_option, got_end}

pub plain_logs : (globals : Context) (definition : Definition) (log : List Placed)
    → plain_log globals definition log ≡ after log (plain_checked ways globals definition)
plain_logs globals definition log =
    after_steps log (inferred ways (length globals) globals definition.right definition.places) _ _ (λ (found : Result) l.
    ap (λ s. followed s (λ named k. Got (checking named.note found.completed named.type None) k))
    (noted_logs (length globals) (spots definition.places).at globals definition.note found.type l)
    ∙ after_steps l (noted comparing (length globals) (spots definition.places).at globals definition.note found.type) _ _
    (λ named k. got_end (checking named.note found.completed named.type None) k))

pub recursion_logs : (globals : Context) (definition : Definition) (signature : CapturingType) (log : List Placed)
    → recursion_log globals definition signature log ≡ after log (recursion_checked ways globals definition signature)
recursion_logs globals definition signature log =
    after_steps log
    (inferred ways (suc (length globals)) (entry_of signature ∷ globals) definition.right definition.places) _ _
    (λ (found : Result) l.
    after_steps l (below comparing (spots definition.places).at (entry_of signature ∷ globals) found.type signature) _ _
    (λ done k.
    got_end (checking (Written signature.shape signature.set) found.completed signature (Some signature)) k))

pub recursive_logs : (devices : ℕ) (globals : Context) (definition : Definition) (note : Note) (log : List Placed)
    → recursive_log devices globals definition note log
    ≡ after log (recursive_checked ways devices globals definition note)
recursive_logs devices globals definition (Written s c) log =
    after_option log E17 definition.name_at (signature_of devices globals (capturing s c)) _ _
    (λ signature. recursion_logs globals definition signature log)
recursive_logs devices globals definition Absent log = refl
recursive_logs devices globals definition (Own s) log = refl

pub checked_logs : (devices : ℕ) (globals : Context) (definition : Definition) (log : List Placed)
    → checked_log devices globals definition log ≡ after log (checked ways devices globals definition)
checked_logs devices globals definition log = by_kind definition.recursive
  where
    by_kind : (b : Bool)
        → cond b (recursive_log devices globals definition definition.note log) (plain_log globals definition log)
        ≡ after log
        (cond b (recursive_checked ways devices globals definition definition.note)
        (plain_checked ways globals definition))
    by_kind true = recursive_logs devices globals definition definition.note log
    by_kind false = plain_logs globals definition log
