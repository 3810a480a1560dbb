use Rattle.std.specs.Map.{keys_of}
use Rattle.cc_judge.proofs.Entries.{found_or_absent}
use Rattle.cc_judge.proofs.names.place_of_text.Goals as goal

pub returns : goal.returns
returns c =
    rw c.ok.ensures.value
    (found_or_absent (keys_of c.args.texts.now) c.args.name.now c.search_texts.result c.search_texts.ensures)
