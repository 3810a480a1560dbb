use Rattle.cc_core.proofs.SubcapturingLemmas.{subcaptures_longer, subcaptures_narrow, subcaptures_shorter}
use Rattle.cc_core.proofs.subcapturing_laws.subcapturing_in_other_contexts.Goals as goal

pub returns : goal.returns
returns c =
    record {
      weakens = subcaptures_longer;
      narrows = subcaptures_narrow;
      strengthens = subcaptures_shorter;
    }
