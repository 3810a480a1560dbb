use Rattle.cc_graph.proofs.BitLemmas.{put_word}
use Rattle.cc_graph.proofs.bits.put.Goals as goal

pub returns : goal.returns
returns c = λ other. put_word c.args.words.now c.args.place other c.requires
