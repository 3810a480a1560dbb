use Rattle.cc_io.proofs.Acknowledgements.{one_taken, one_failed}
use Rattle.cc_io.proofs.standard.StdSinkSink.write.Goals as goal

pub invariant_of-self : goal.invariant_of-self
invariant_of-self g c =
    one_taken _ _ c.self.inside.begun.value c.self.inside.writer c.write_and_flush.new.writer c.self.inside.faults
    c.self.inside.acknowledged.text c.append.new.self.text c.args.piece.now c.in-Ok.taken c.self.invariant
    c.in-Ok.ensures.taken.0 c.in-Ok.ensures.std_calls c.append.ensures

pub invariant_of-self-in-Err : goal.invariant_of-self-in-Err
invariant_of-self-in-Err g c =
    one_failed _ _ c.self.inside.begun.value c.self.inside.writer c.write_and_flush.new.writer c.self.inside.faults
    c.self.inside.acknowledged.text c.args.piece.now c.in-Err.error c.self.invariant c.in-Err.ensures.std_calls
