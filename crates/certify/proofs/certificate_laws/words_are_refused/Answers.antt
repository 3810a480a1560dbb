use Rattle.std.proofs.Common.{ap}
use Rattle.certify.specs.Status.{number_of}
use Rattle.certify.proofs.certificate_laws.words_are_refused.Goals as goal

pub returns : goal.returns
returns g c = λ source source' sink sink' word words status call. (ap number_of call.0, call.1, call.2)
