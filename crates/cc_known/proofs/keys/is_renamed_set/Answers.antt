use Rattle.std.proofs.Common.{sym, ◌∙◌}
use Rattle.cc_capture.proofs.Equality.{same_set-decides}
use Rattle.cc_known.proofs.keys.is_renamed_set.Goals as goal

pub returns : goal.returns
returns c = λ holds.
    (same_set-decides c.args.other.now c.in_ok-set.set).0 (sym c.eq.ensures ∙ holds) ∙ c.in_ok-set.ensures
