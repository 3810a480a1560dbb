use Rattle.cc_core.specs.TermViews.{context_of}
use Rattle.cc_known.proofs.EndedLists.{base_formed}
use Rattle.cc_known.proofs.keys.pair_of.Goals as goal

pub entries_of-requires : goal.entries_of-requires
entries_of-requires c =
    base_formed (context_of c.args.base.now) (context_of c.args.ctx.now) c.requires.base c.requires.context
