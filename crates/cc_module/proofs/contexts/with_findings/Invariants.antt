use Rattle.std.proofs.Common.{◌≡◌, map, drop}
use Rattle.cc_core.specs.TermViews.{context_of}
use Rattle.cc_verdicts.specs.ModuleVerdicts.{with_findings}
use Rattle.cc_module.specs.Findings.{finding_of}
use Rattle.cc_module.proofs.contexts.with_findings.Given as goal

-- the context so far with what is left is that with all
abbrev pub invariant-loop-finding : goal.invariant-loop-finding
invariant-loop-finding l =
    with_findings (context_of l.more) (map finding_of (drop l.finding-index l.findings))
    ≡ with_findings (context_of l.fn.ctx) (map finding_of l.findings)
