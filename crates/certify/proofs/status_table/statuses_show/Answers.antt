use Rattle.std.proofs.Common.{refl}
use Rattle.certify.proofs.status_table.statuses_show.Goals as goal

pub returns : goal.returns
returns c = record {
  valid = (refl, refl);
  invalid = (refl, refl);
  read_fault = (refl, refl);
  too_long = (refl, refl);
  no_memory = (refl, refl);
  write_fault = (refl, refl);
  bad_words = (refl, refl);
}
