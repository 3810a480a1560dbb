use Rattle.std.proofs.lemmas.Result.{on_ok_weaker}
use Rattle.cc_live.proofs.telling.put_text.Goals as goal
use Rattle.cc_replay.proofs.TextPieces.{text_put}

pub returns : goal.returns
returns c = on_ok_weaker c.put.result (text_put c.args.text.now _ _ c.utf8.text) c.put.ensures
