use Rattle.cc_calculus_laws.proofs.DirectedDefinitions.{same_types, accepted_where, refused_where}
use Rattle.cc_calculus_laws.proofs.directed_laws.algorithmic_types_are_directed.Goals as goal

pub returns : goal.returns
returns c =
    record {
      directed = λ devices globals definition filling fits holes over. same_types devices globals definition filling over fits holes;
      accepted = accepted_where;
      refused = refused_where;
    }
