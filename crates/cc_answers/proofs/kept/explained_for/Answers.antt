use Rattle.std.proofs.Common.{length, ap, ◌∙◌}
use Rattle.cc_answers.specs.KeptEntries.{IsExplained}
use Rattle.cc_answers.proofs.KeptFacts.{is_explained, is_explained_own}
use Rattle.cc_answers.proofs.MadeFacts.{all_kept, left_stay}
use Rattle.cc_answers.proofs.kept.explained_for.Goals as goal

pub returns-clause-explained : goal.returns-clause-explained
returns-clause-explained c =
    let session = c.args.session.now in
    is_explained session.devices session.present c.args.«module».now c.args.def.now c.args.set.now c.in_ok-modules.modules c.in_ok-devices.devices
    (c.in_ok-devices.ensures ∙ ap length c.devices.ensures) c.in_ok-modules.ensures c.in_ok-it.it.value c.in_ok-it.ensures.modules c.in_ok-it.ensures.finds

pub returns-clause-kept : goal.returns-clause-kept
returns-clause-kept c =
    let session = c.args.session.now in
    record {
      linked = c.requires.kept.linked;
      explained = all_kept (IsExplained session.devices session.present) c.make_room.new.made.items c.in_ok-it.it.value c.texts_size-size.result c.keep.new.made.items
          c.keep.ensures
          (left_stay (IsExplained session.devices session.present) c.texts_size-size.result c.args.kept.now.explained.items c.make_room.new.made.items c.make_room.ensures
          c.requires.kept.explained)
          (is_explained_own session.devices session.present c.args.«module».now c.args.def.now c.args.set.now c.in_ok-modules.modules c.in_ok-devices.devices
          (c.in_ok-devices.ensures ∙ ap length c.devices.ensures) c.in_ok-modules.ensures c.in_ok-it.it.value c.in_ok-it.ensures.modules c.in_ok-it.ensures.finds
          c.in_ok-it.ensures.named);
    }
