use Rattle.std.proofs.Common.{◌-◌, ◌∙◌, arith}
use Rattle.std.proofs.lemmas.Result.{err_from_is_err_and}
use Rattle.cc_certificate_reading.specs.Numberings.{locals_of}
use Rattle.cc_certificate_reading.specs.WaitingShapes.{in_turn}
use Rattle.cc_certificate_reading.proofs.TypeRooms.{shape_above, shape_nowhere}
use Rattle.cc_certificate_reading.proofs.Waiting.{leads_to, leads_wrong}
use Rattle.cc_certificate_reading.proofs.WaitingShapes.{down_further, descends_stopped}
use Rattle.cc_certificate_reading.proofs.types.descend.Goals as goal

pub returns-in_err-beginning : goal.returns-in_err-beginning
returns-in_err-beginning c =
    λ names.
    let error = err_from_is_err_and c.from_residual.result c.from_residual.ensures.1 in
    rw (error.1, error.2)
    (descends_stopped (locals_of c.args.locals) names (c.loop-room.room - 1) c.args.depth _ (in_turn c.loop-room.waiting.items) c.in_err-beginning.field-0.0
    (c.loop-room.invariant names) (shape_above _ names c.loop-room.room c.args.depth _ (omega arith)) (c.in_err-beginning.ensures names))

pub returns-in-Whole : goal.returns-in-Whole
returns-in-Whole c =
    λ names.
    leads_to (c.loop-room.invariant names)
    (shape_above _ names c.loop-room.room c.args.depth _ (omega arith)
    ∙ rw c.in-Whole.is at (c.in_ok-beginning.ensures names))

pub loop-room-preserved : goal.loop-room-preserved
loop-room-preserved c =
    λ names.
    down_further (locals_of c.args.locals) names c.loop-room.waiting.items c.in-Waits.next _ (c.loop-room.invariant names)
    (shape_above _ names c.loop-room.room c.args.depth _ (omega arith)) c.in_ok-push-in-Waits.ensures.items
    (rw c.in-Waits.is at (c.in_ok-beginning.ensures names))

pub returns : goal.returns
returns c =
    λ names. leads_wrong (c.loop-room.invariant names) (shape_nowhere _ names c.loop-room.room c.args.depth _ (omega arith))
