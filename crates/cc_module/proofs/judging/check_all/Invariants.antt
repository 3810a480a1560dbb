use Rattle.std.proofs.Common.{map, drop}
use Rattle.cc_core.specs.TermViews.{context_of}
use Rattle.cc_mnf.specs.CoreModules.{definition_of}
use Rattle.cc_module.specs.Judgements.{checked_definition_of}
use Rattle.cc_module.proofs.JudgedTexts.{StandsAt}
use Rattle.cc_known.specs.Measures.{AreAllMeasuresOf}
use Rattle.cc_module.proofs.judging.check_all.Given as goal

-- the definitions so far are accepted, and those that are left decide; what is kept is known of the entries so far
abbrev pub invariant-loop-def : goal.invariant-loop-def
invariant-loop-def l =
    StandsAt l.fn.devices (context_of l.fn.ctx) (map definition_of l.defs) (context_of l.globals)
    (map definition_of (drop l.def-index l.defs)) (map checked_definition_of l.checked.items)
    × AreAllMeasuresOf l.fn.devices l.measures (context_of l.globals)
