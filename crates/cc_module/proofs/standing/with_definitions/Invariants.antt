use Rattle.std.proofs.Common.{◌≡◌, map, drop}
use Rattle.cc_core.specs.TermViews.{context_of}
use Rattle.cc_verdicts.specs.StandingDefinitions.{with_definitions}
use Rattle.cc_module.specs.Judgements.{checked_definition_of}
use Rattle.cc_module.proofs.standing.with_definitions.Given as goal

-- the context so far with what is left is that with all
abbrev pub invariant-loop-def : goal.invariant-loop-def
invariant-loop-def l =
    with_definitions (context_of l.more) (map checked_definition_of (drop l.def-index l.defs))
    ≡ with_definitions (context_of l.fn.ctx) (map checked_definition_of l.defs)
