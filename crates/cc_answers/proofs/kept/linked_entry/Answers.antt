use Rattle.cc_answers.specs.KeptEntries.{IsLinked}
use Rattle.cc_answers.proofs.KeptFacts.{is_linked, is_linked_own}
use Rattle.cc_answers.proofs.MadeFacts.{all_kept, left_stay}
use Rattle.cc_answers.proofs.kept.linked_entry.Goals as goal

pub returns-in-Ok-linked-clause-answer : goal.returns-in-Ok-linked-clause-answer
returns-in-Ok-linked-clause-answer c =
    let session = c.args.session.now in
    is_linked session.devices session.present c.args.module.now c.args.def.now c.in-Ok.entry c.in-Ok-linked.it.value c.in-Ok-linked.ensures.entry
    c.in-Ok.ensures c.in-Ok-linked.ensures.program

pub returns-in-Ok-linked-clause-kept : goal.returns-in-Ok-linked-clause-kept
returns-in-Ok-linked-clause-kept c =
    let session = c.args.session.now in
    record {
      linked = all_kept (IsLinked session.devices session.present) c.make_room.new.made.items c.in-Ok-linked.it.value c.texts_size-size.result c.keep.new.made.items
          c.keep.ensures
          (left_stay (IsLinked session.devices session.present) c.texts_size-size.result c.args.kept.now.linked.items c.make_room.new.made.items c.make_room.ensures
          c.requires.kept.linked)
          (is_linked_own session.devices session.present c.args.module.now c.args.def.now c.in-Ok.entry c.in-Ok-linked.it.value c.in-Ok-linked.ensures.entry
          c.in-Ok.ensures c.in-Ok-linked.ensures.program);
      explained = c.requires.kept.explained;
    }

pub returns-in-Err-linked-clause-answer : goal.returns-in-Err-linked-clause-answer
returns-in-Err-linked-clause-answer c = λ verdicts are.
    let it = c.in-Ok.ensures verdicts are in
    (it.0, it.1)

pub returns-in-Err-linked-clause-kept : goal.returns-in-Err-linked-clause-kept
returns-in-Err-linked-clause-kept c =
    let session = c.args.session.now in
    record {
      linked = left_stay (IsLinked session.devices session.present) c.texts_size-size.result c.args.kept.now.linked.items c.make_room.new.made.items c.make_room.ensures
          c.requires.kept.linked;
      explained = c.requires.kept.explained;
    }
