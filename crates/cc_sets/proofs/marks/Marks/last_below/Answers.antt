use Rattle.std.proofs.Common.{sym}
use Rattle.cc_sets.proofs.MarkedWords.{up_to_words}
use Rattle.cc_sets.proofs.marks.Marks.last_below.Goals as goal

pub last_marked-requires-clause-within : goal.last_marked-requires-clause-within
last_marked-requires-clause-within c = up_to_words c.args.self.now c.as_slice.result.now c.self.inside.words.items c.args.limit (sym c.self.view_is) c.as_slice.ensures.value c.requires.within
