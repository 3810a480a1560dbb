use Rattle.cc_core.proofs.ContextEntries.{bound-positions_below, bound-well_formed, entry-positions_below, entry-well_formed}
use Rattle.cc_core.proofs.Lookups.{lookup-below, lookup-more, lookup-newest, lookup-within}
use Rattle.cc_core.proofs.term_laws.entries_of_contexts.Goals as goal

pub returns : goal.returns
returns c =
    record {
      types = entry-well_formed;
      bounds = bound-well_formed;
      earlier_types = entry-positions_below;
      earlier_bounds = bound-positions_below;
      newest = lookup-newest;
      older = lookup-more;
      below = λ g p. (lookup-within g p, λ found. lookup-below g p found.0 found.1);
    }
