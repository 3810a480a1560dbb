use Rattle.cc_explain.proofs.Worked.{through_the_one_that_has_it, in_turn, least_length, first_of_as_long, universal_capability, no_chain}
use Rattle.cc_explain.proofs.chain_laws.worked_chains.Goals as goal

pub returns : goal.returns
returns c =
    record {
      through_the_one_that_has_it = through_the_one_that_has_it;
      in_turn = in_turn;
      least_length = least_length;
      first_of_as_long = first_of_as_long;
      universal_capability = universal_capability;
      no_chain = no_chain;
    }
