use Rattle.cc_type.proofs.InferredLogs.{inferred_logs}
use Rattle.cc_type.proofs.keeping_laws.inference_over_logs.Goals as goal

pub returns : goal.returns
returns c = inferred_logs
