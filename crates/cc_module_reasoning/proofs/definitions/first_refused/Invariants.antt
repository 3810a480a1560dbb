use Rattle.std.proofs.Common.{map, drop}
use Rattle.cc_core.specs.TermViews.{context_of}
use Rattle.cc_known.specs.Measures.{AreAllMeasuresOf}
use Rattle.cc_mnf.specs.CoreModules.{definition_of}
use Rattle.cc_parse.specs.Trees.{def_syntax}
use Rattle.cc_reasons.specs.RefusedDefinitions.{names_of_binders}
use Rattle.cc_module_reasoning.proofs.FirstRefused.{StandsAt}
use Rattle.cc_module_reasoning.proofs.definitions.first_refused.Given as goal

-- those so far are accepted, and the first of the others that is refused is the first of all; what is kept is known of the
-- entries so far
abbrev pub invariant-loop-index : goal.invariant-loop-index
invariant-loop-index l =
    record {
      stands : StandsAt l.fn.devices (context_of l.fn.ctx) (map definition_of l.defs) (names_of_binders (map def_syntax l.trees))
          l.index (context_of l.globals) (map definition_of (drop l.index l.defs));
      measured : AreAllMeasuresOf l.fn.devices l.measures (context_of l.globals);
    }
