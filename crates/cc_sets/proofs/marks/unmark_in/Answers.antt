use Rattle.cc_sets.proofs.MarkedWords.{unmarked_word}
use Rattle.cc_sets.proofs.marks.unmark_in.Goals as goal

pub returns : goal.returns
returns c = unmarked_word c.args.words.now c.args.position c.requires
