use Rattle.std.proofs.Common.{refl}
use Rattle.cc_core.specs.TermViews.{context_of}
use Rattle.cc_known.proofs.EndedLists.{known_ended}
use Rattle.cc_known.proofs.known.known_ends.Goals as goal

pub returns : goal.returns
returns c =
    known_ended (context_of c.args.base.now) (record { left = c.args.left; right = c.args.right; demand = c.args.demand }) c.args.left
    c.args.right c.args.demand refl refl refl c.requires
