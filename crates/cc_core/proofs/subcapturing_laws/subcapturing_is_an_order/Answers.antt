use Rattle.cc_core.proofs.SubcapturingLemmas.{subcaptures_reflexive, subcaptures_transitive, subcaptures_subset}
use Rattle.cc_core.proofs.subcapturing_laws.subcapturing_is_an_order.Goals as goal

pub returns : goal.returns
returns c =
    record {
      reflexive = subcaptures_reflexive;
      transitive = subcaptures_transitive;
      subsets = subcaptures_subset;
    }
