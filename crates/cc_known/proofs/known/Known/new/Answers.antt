use Rattle.cc_core.specs.TermViews.{context_of}
use Rattle.cc_capture.specs.Sets.{empty}
use Rattle.cc_known.proofs.KnownSets.{known_as, none_known}
use Rattle.cc_known.proofs.EndedLists.{none_ended}
use Rattle.cc_known.proofs.known.Known.new.Goals as goal

pub invariant_of-result : goal.invariant_of-result
invariant_of-result c =
    let g = context_of c.args.base in
    record {
      known = known_as g empty empty c.new.result c.new-2.result c.new.ensures c.new-2.ensures (none_known g);
      ended = none_ended g c.new-5.result.items c.new-5.ensures.items;
    }
