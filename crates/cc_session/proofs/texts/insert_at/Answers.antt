use Rattle.cc_session.proofs.TextChanges.{insert_at_gap}
use Rattle.std.proofs.Common.{arith, ◌∙◌}
use Rattle.std.proofs.lemmas.Map.Entries.{length-keys_of}
use Rattle.cc_session.proofs.texts.insert_at.Goals as goal

pub insert-requires : goal.insert-requires
insert-requires c =
    omega (arith, c.requires.within, length-keys_of c.args.texts.now.items, c.args.texts.now.ok.0)

pub returns-clause-ok : goal.returns-clause-ok
returns-clause-ok c =
    c.in_ok-insert.ensures.items
    ∙ insert_at_gap c.args.texts.now.items c.args.name c.args.text c.args.gap c.requires
