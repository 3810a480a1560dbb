use Rattle.cc_checking_laws.proofs.CanonicalSets.{set_derived_valid}
use Rattle.cc_checking_laws.proofs.CanonicalShapes.{canonical_shapes_valid}
use Rattle.cc_checking_laws.proofs.canonical_laws.canonical_comparisons.Goals as goal

pub returns : goal.returns
returns c = record { sets = set_derived_valid; shapes = canonical_shapes_valid }
