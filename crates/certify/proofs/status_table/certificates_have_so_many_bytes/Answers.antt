use Rattle.std.proofs.Common.{refl}
use Rattle.certify.proofs.status_table.certificates_have_so_many_bytes.Goals as goal

pub returns : goal.returns
returns c = (refl, λ before after outcome. outcome.0)
