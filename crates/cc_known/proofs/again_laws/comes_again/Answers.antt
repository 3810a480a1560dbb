use Rattle.cc_known.proofs.EndsAgain.{kept_again, comes_needless}
use Rattle.cc_known.proofs.NeedlessLater.{comes_behind_more}
use Rattle.cc_known.proofs.again_laws.comes_again.Goals as goal

pub returns-clause-compared : goal.returns-clause-compared
returns-clause-compared c = kept_again

pub returns-clause-more : goal.returns-clause-more
returns-clause-more c = comes_behind_more

pub returns-clause-needless : goal.returns-clause-needless
returns-clause-needless c = comes_needless
