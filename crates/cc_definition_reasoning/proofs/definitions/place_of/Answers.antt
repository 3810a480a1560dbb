use Rattle.std.proofs.Common.{sym, ap}
use Rattle.cc_core.specs.Places.{Spots, spots_at}
use Rattle.cc_type.proofs.StandingTerms.{spots_around}
use Rattle.cc_definition_reasoning.proofs.definitions.place_of.Goals as goal

pub returns : goal.returns
returns c =
    sym
    (ap (λ (own : Spots). own.at)
    (spots_around (spots_at c.args.node.now.at c.args.node.now.first c.args.node.now.second) c.args.node.now.form))
