use Rattle.std.proofs.Common.{codes}
use Rattle.std.proofs.lemmas.Result.{on_ok_weaker}
use Rattle.cc_replay.specs.RunTexts.{devices_text}
use Rattle.cc_replay.proofs.TextPieces.{three_pieces}
use Rattle.cc_replay.proofs.run_texts.put_authority.Goals as goal

pub returns : goal.returns
returns c =
    on_ok_weaker c.put-2.result
    (three_pieces _ (codes "authority {") (devices_text c.args.names.now.names.items c.args.authority.now) (codes "}") _ _ _ c.in_ok-put.ensures
    c.in_ok-put_devices.ensures)
    c.put-2.ensures
