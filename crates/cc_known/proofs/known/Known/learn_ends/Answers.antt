use Rattle.cc_core.specs.TermViews.{context_of}
use Rattle.cc_known.specs.EndedDemands.{is_known_end}
use Rattle.cc_known.proofs.EndedLists.{passes-set}
use Rattle.cc_known.proofs.known.Known.learn_ends.Goals as goal

pub invariant_of-self-clause-ended : goal.invariant_of-self-clause-ended
invariant_of-self-clause-ended c =
    let known = c.make_room.new.self in
    passes-set (is_known_end (context_of known.base)) known.sets.items c.place_of-place.result c.known_ends-known.result known.ended
    c.known_ends-known.ensures
