use Rattle.cc_judge.proofs.PushedPlaces.{UnreadTo}
use Rattle.cc_judge.proofs.dependencies.push_unread.Given as goal

abbrev pub invariant-loop-place : goal.invariant-loop-place
invariant-loop-place l = UnreadTo l.readings l.place l.places.items
