use Rattle.cc_entry_laws.proofs.Worked.{positions_in_order, own_position_is_last, entries_of_two_modules, chain_through_the_library}
use Rattle.cc_entry_laws.proofs.present_link_examples.links.Goals as goal

pub returns : goal.returns
returns c =
    record {
      positions = positions_in_order;
      own = own_position_is_last;
      entries = entries_of_two_modules;
      chain = chain_through_the_library;
    }
