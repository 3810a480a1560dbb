use Rattle.std.proofs.Common.{◌∙◌, arith}
use Rattle.std.proofs.lemmas.Map.Entries.{length-keys_of}
use Rattle.std.proofs.lemmas.Option.{slice_get_within}
use Rattle.std.specs.Map.{keys_of}
use Rattle.cc_session.proofs.TextChanges.{remove_at_name}
use Rattle.cc_session.proofs.texts.remove_at.Goals as goal

pub remove-requires : goal.remove-requires
remove-requires c =
    let texts = c.args.texts.now.items in
    omega (
      arith,
      slice_get_within (keys_of texts) c.args.at c.args.name.now c.requires.stands,
      length-keys_of texts,
      c.args.texts.now.ok.0,
    )

pub returns : goal.returns
returns c =
    c.remove.ensures.items
    ∙ remove_at_name c.args.texts.now.items c.args.name.now c.args.at c.requires.present c.requires.stands
