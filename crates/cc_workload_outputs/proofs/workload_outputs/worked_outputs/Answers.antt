use Rattle.std.proofs.Common.{refl}
use Rattle.std.specs.Fmt.{digits}
use lib.Utf8.{encode}
use Rattle.cc_workload_outputs.proofs.workload_outputs.worked_outputs.Goals as goal

pub returns : goal.returns
unfolding digits encode
returns c = record { one_and_two = (refl, refl); names_of_ten = refl; run_of_most = refl }
