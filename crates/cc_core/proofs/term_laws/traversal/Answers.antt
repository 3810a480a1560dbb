use Rattle.cc_core.proofs.Actions.{act_type-act_type, act_type-congruent, act_type-keeping}
use Rattle.cc_core.proofs.TermActions.{act_term-act_term, act_term-congruent, act_term-keeping}
use Rattle.cc_core.proofs.term_laws.traversal.Goals as goal

pub returns : goal.returns
returns c =
    record {
      agreeing_types = act_type-congruent;
      agreeing_terms = act_term-congruent;
      composed_types = act_type-act_type;
      composed_terms = act_term-act_term;
      kept_types = act_type-keeping;
      kept_terms = act_term-keeping;
    }
