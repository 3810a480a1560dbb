use Rattle.cc_io.proofs.Acknowledgements.{nothing_yet}
use Rattle.cc_io.proofs.standard.StdSink.new.Goals as goal

pub invariant_of-result : goal.invariant_of-result
invariant_of-result g c = nothing_yet _ _ c.of-begun.result.value c.args.writer c.new.result.text c.of-begun.ensures c.new.ensures
