use Rattle.cc_words.proofs.LineLists.{text_cut_found}
use Rattle.cc_words.proofs.lines.text_cut.Goals as goal

pub returns-then-left-eq0 : goal.returns-then-left-eq0
returns-then-left-eq0 c = text_cut_found c.args.bytes.now c.loop-at.at c.loop-at.left _ c.if-left-eq0.true c.loop-at.invariant
