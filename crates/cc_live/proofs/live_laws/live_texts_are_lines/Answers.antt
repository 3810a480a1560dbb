use Rattle.cc_live.proofs.AnsweredLives.{live_texts_are_lines}
use Rattle.cc_live.proofs.live_laws.live_texts_are_lines.Goals as goal

pub returns : goal.returns
returns c = live_texts_are_lines
