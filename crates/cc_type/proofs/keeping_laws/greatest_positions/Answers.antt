use Rattle.cc_type.proofs.GreatestEntries.{greatest_position_has_an_entry}
use Rattle.cc_known.proofs.GreatestPositions.{greatest_is_greatest}
use Rattle.cc_type.proofs.keeping_laws.greatest_positions.Goals as goal

pub returns : goal.returns
returns c = record { greatest = greatest_is_greatest; entry = greatest_position_has_an_entry }
