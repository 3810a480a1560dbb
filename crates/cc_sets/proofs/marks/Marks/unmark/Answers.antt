use Rattle.std.proofs.Common.{sym}
use Rattle.cc_sets.proofs.MarkedWords.{within_words}
use Rattle.cc_sets.proofs.marks.Marks.unmark.Goals as goal

pub unmark_in-requires : goal.unmark_in-requires
unmark_in-requires c = within_words c.args.self.now c.as_mut_slice.result.now c.self.inside.words.items c.args.position (sym c.self.view_is) c.as_mut_slice.ensures.value c.requires
