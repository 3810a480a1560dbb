use Rattle.std.proofs.lemmas.Result.{IfOk-weaker}
use Rattle.cc_judge.specs.Kept.{judgements_of}
use Rattle.cc_judge.proofs.StillFound.{more_known}
use Rattle.cc_judge.proofs.staying.know.Goals as goal

pub returns : goal.returns
returns c =
    IfOk-weaker c.add_name.result _ _
    (λ unit put.
    more_known c.args.devices.now c.args.texts.now (judgements_of c.args.last.now) c.args.known.now.items
    c.add_name.new.known.items c.requires.known c.args.at c.requires.within c.args.name.now c.requires.found put)
    c.add_name.ensures
