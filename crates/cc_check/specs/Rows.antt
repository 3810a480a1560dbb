-- Checking a definition as the program goes through it, where a step that asks something goes on from the log of those
-- before. What stands here is what is checked again (`CheckedLogs`), and serves proofs alone.
use Rattle.std.specs.Prelude.{ℕ, List, ◌∷◌, length, Some, None, if◌then◌else◌}
use Rattle.cc_base.specs.declared.code.Code.TheVariants.{E14, E17}
use Rattle.cc_core.specs.Shapes.{CapturingType, capturing}
use Rattle.cc_core.specs.Terms.{Note, Absent, Written, Own}
use Rattle.cc_core.specs.Contexts.{Context, entry_of}
use Rattle.cc_core.specs.Places.{spots}
use Rattle.cc_checking.specs.Outcomes.{Placed, found_or}
use Rattle.cc_checking.specs.Inference.{below, inferred}
use Rattle.cc_checking.specs.Verdicts.{Definition, Checking, checking, signature_of}
use Rattle.cc_known.specs.Logs.{Logged, Stopped, Got, after, followed, plainly}
use Rattle.cc_type.specs.Rows.{comparing, ways, noted_log}

-- a definition whose own name is not visible
abbrev pub plain_log : Context → Definition → List Placed → Logged Checking
plain_log globals definition log =
    followed (after log (inferred ways (length globals) globals definition.right definition.places)) λ found log.
    followed (noted_log (length globals) (spots definition.places).at globals definition.note found.type log)
    λ named log.
    Got (checking named.note found.completed named.type None) log

-- a right side below its signature, in the context that has the definition's own name
abbrev pub below_log : Context → Definition → CapturingType → List Placed → Logged Checking
below_log context definition signature log =
    followed (after log (inferred ways (length context) context definition.right definition.places)) λ found log.
    followed (after log (below comparing (spots definition.places).at context found.type signature)) λ done log.
    Got (checking (Written signature.shape signature.set) found.completed signature (Some signature)) log

-- the same over the globals
abbrev pub recursion_log : Context → Definition → CapturingType → List Placed → Logged Checking
recursion_log globals definition signature log =
    below_log (entry_of signature ∷ globals) definition signature log

-- a recursive definition
abbrev pub recursive_log : ℕ → Context → Definition → Note → List Placed → Logged Checking
recursive_log devices globals definition (Written shape set) log =
    plainly (found_or E17 definition.name_at (signature_of devices globals (capturing shape set))) λ signature.
    recursion_log globals definition signature log
recursive_log devices globals definition Absent log = Stopped E14 definition.name_at
recursive_log devices globals definition (Own shape) log = Stopped E14 definition.name_at

-- any definition
abbrev pub checked_log : ℕ → Context → Definition → List Placed → Logged Checking
checked_log devices globals definition log =
    if definition.recursive
    then recursive_log devices globals definition definition.note log
    else plain_log globals definition log
