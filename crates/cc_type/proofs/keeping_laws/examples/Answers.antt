use Rattle.cc_type.proofs.KeptExamples.{numbers_are_below_nothing, consoles_are_kept, numbers_are_forced}
use Rattle.cc_type.proofs.KeptExamples.{holes_are_below_themselves, holes_may_have_cap, consoles_are_lost}
use Rattle.cc_type.proofs.KeptExamples.{one_lost_and_what_forces_are_kept, what_may_fail_is_kept, repeated_is_kept_once}
use Rattle.cc_type.proofs.KeptExamples.{one_of_alike_ends_is_kept, locals_above_are_not_seen, greatest_is_found}
use Rattle.cc_type.proofs.keeping_laws.examples.Goals as goal

pub returns : goal.returns
returns c =
    record {
      numbers = numbers_are_below_nothing;
      consoles = consoles_are_kept;
      forced = numbers_are_forced;
      holes = holes_are_below_themselves;
      capless = holes_may_have_cap;
      lost = consoles_are_lost;
      kept = one_lost_and_what_forces_are_kept;
      may_fail = what_may_fail_is_kept;
      repeated = repeated_is_kept_once;
      alike = one_of_alike_ends_is_kept;
      above = locals_above_are_not_seen;
      greatest = greatest_is_found;
    }
