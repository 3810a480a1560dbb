use Rattle.cc_core.proofs.Sorts.{TermSort, TypeSort}
use Rattle.cc_core.proofs.Opening.{closed-opened, closed-without, opened-bound_within, opened-closed}
use Rattle.cc_core.proofs.term_laws.opening_and_closing.Goals as goal

pub returns : goal.returns
returns c =
    record {
      closed_types = λ n x m. closed-opened TypeSort n 0 x m;
      closed_terms = λ n x m. closed-opened TermSort n 0 x m;
      opened_types = λ n x m. opened-closed TypeSort n 0 x m;
      opened_terms = λ n x m. opened-closed TermSort n 0 x m;
      gone_types = λ n x. closed-without TypeSort n 0 x;
      gone_terms = λ n x. closed-without TermSort n 0 x;
      no_index_types = λ n x m. opened-bound_within TypeSort n 0 x m;
      no_index_terms = λ n x m. opened-bound_within TermSort n 0 x m;
    }
