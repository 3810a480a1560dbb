use Rattle.cc_verdicts.proofs.FoundStanding.{definitions_stand, definitions_found, found_by_texts}
use Rattle.cc_verdicts.proofs.standing_laws.definitions_are_found_where_they_stand.Goals as goal

pub returns : goal.returns
returns c = record { stand = definitions_stand; found = definitions_found; of_texts = found_by_texts }
