use Rattle.cc_known.proofs.KeptDemands.{test_of_sets_decides}
use Rattle.cc_type.proofs.LoggedDemands.{same_tests}
use Rattle.cc_type.proofs.log.is_below.Goals as goal

pub returns-clause-below : goal.returns-clause-below
returns-clause-below c =
    same_tests _ _ c.decides.ensures.decides
    (test_of_sets_decides _ c.args.left.now c.args.right.now c.requires.context c.requires.left)
