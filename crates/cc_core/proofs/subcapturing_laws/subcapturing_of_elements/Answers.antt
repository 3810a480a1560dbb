use Rattle.cc_core.proofs.SubcapturingLemmas.{subcaptures_variable, subcaptures_other}
use Rattle.cc_core.proofs.subcapturing_laws.subcapturing_of_elements.Goals as goal

pub returns : goal.returns
returns c =
    record {
      variables = subcaptures_variable;
      others = subcaptures_other;
    }
