use Rattle.cc_sets.proofs.MarkedWords.{marked_word}
use Rattle.cc_sets.proofs.marks.mark_in.Goals as goal

pub returns : goal.returns
returns c = marked_word c.args.words.now c.args.position c.requires
