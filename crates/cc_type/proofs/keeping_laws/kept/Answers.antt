use Rattle.cc_known.proofs.KeptLists.{kept_forces_the_same, repeated_is_served, kept_is_served_alike, kept_fails_alike}
use Rattle.cc_known.proofs.KeptLists.{kept_is_fit}
use Rattle.cc_type.proofs.keeping_laws.kept.Goals as goal

pub returns : goal.returns
returns c = record {
  forces = kept_forces_the_same;
  repeated = repeated_is_served;
  served = kept_is_served_alike;
  fails = kept_fails_alike;
  fit = kept_is_fit;
}
