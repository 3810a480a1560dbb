-- What the program's parts stand for.
use Rattle.cc_core.specs.TermViews.{shape_of, context_of}
use Rattle.cc_reasons.specs.Mismatches.{Pair, pair}
use Rattle.cc_mismatch.specs.declared.parts.Parts.{Parts}

-- the two shapes in their context
abbrev pub pair_of : Parts → Pair
pair_of parts = pair (context_of parts.ctx) (shape_of parts.found.value) (shape_of parts.wanted.value)
