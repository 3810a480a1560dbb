use Rattle.cc_arguments.proofs.WordLaws.{one_thing}
use Rattle.cc_arguments.proofs.word_laws.words_ask_for_one_thing.Goals as goal

pub returns : goal.returns
returns c = one_thing
