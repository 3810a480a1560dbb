use Rattle.cc_parse.proofs.AsciiNames.{bytes_eq-ascii}
use Rattle.cc_parse.proofs.heads.is_text.Goals as goal

pub returns : goal.returns
returns c =
    let same = bytes_eq-ascii c.args.name.now c.args.text.now c.requires in
    cc
