use Rattle.cc_core.proofs.CapturedActions.{captured_variables-act, captured_variables-putting_shape, PassesBinders-closing, PassesBinders-filling_in, PassesBinders-freely, PassesBinders-putting, PassesBinders-renaming}
use Rattle.cc_core.proofs.CapturedKinds.{opened_set-members, opened_set-outside}
use Rattle.cc_core.specs.Substitution.{closing, filling_in, freely, opening, renaming}
use Rattle.cc_core.proofs.WellFormedness.{captured_variables-well_formed}
use Rattle.cc_core.proofs.term_laws.captured_variables.Goals as goal

pub returns : goal.returns
returns c =
    record {
      opened = λ p t. captured_variables-act (opening p) (PassesBinders-putting p) 0 t;
      closed = λ p t. captured_variables-act (closing p) (PassesBinders-closing p) 0 t;
      renamed = λ to t. captured_variables-act (renaming to) (PassesBinders-renaming to) 0 t;
      acted = λ to shapes t. captured_variables-act (freely to shapes) (PassesBinders-freely to shapes) 0 t;
      filled = λ filling t closed. captured_variables-act (filling_in filling) (PassesBinders-filling_in filling closed) 0 t;
      put_shape = λ by t. captured_variables-putting_shape by 0 t;
      well_formed = captured_variables-well_formed;
      members = λ q c e m. (opened_set-members q c m e, opened_set-outside q c m e);
    }
