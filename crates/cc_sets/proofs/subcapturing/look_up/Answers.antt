use Rattle.std.proofs.Common.{false, set, Some, length, sym, ap, subst, refl, ◌∙◌}
use Rattle.std.proofs.lemmas.List.{length-set}
use Rattle.cc_core.specs.TermViews.{bind_of}
use Rattle.cc_sets.specs.Marking.{HasRoomForEntry, MarksEntry}
use Rattle.cc_sets.proofs.Markings.{HasRoomForEntry-same}
use Rattle.cc_sets.proofs.subcapturing.look_up.Goals as goal

pub mark_declared-requires : goal.mark_declared-requires
mark_declared-requires g c =
    HasRoomForEntry-same c.args.marks.now c.unmark.new.self (Some (bind_of c.in-Some.bind.now))
    (ap length c.unmark.ensures ∙ length-set c.args.marks.now c.args.position false)
    (subst (HasRoomForEntry c.args.marks.now) (sym c.in-Some.ensures) c.requires.room)

pub returns-in-Some-clause-marks : goal.returns-in-Some-clause-marks
returns-in-Some-clause-marks g c =
    subst (λ entry. MarksEntry entry c.args.right.now (set c.args.marks.now c.args.position false) c.mark_declared.new.marks c.mark_declared.result) c.in-Some.ensures
    (subst (λ m. MarksEntry (Some (bind_of c.in-Some.bind.now)) c.args.right.now m c.mark_declared.new.marks c.mark_declared.result) c.unmark.ensures c.mark_declared.ensures)

pub returns-in-None-clause-marks : goal.returns-in-None-clause-marks
returns-in-None-clause-marks g c =
    subst (λ entry. MarksEntry entry c.args.right.now (set c.args.marks.now c.args.position false) c.unmark.new.self false) c.in-None.ensures (c.unmark.ensures, refl)
