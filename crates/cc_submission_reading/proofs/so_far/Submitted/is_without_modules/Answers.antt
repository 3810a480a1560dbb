use Rattle.std.proofs.Common.{◌==◌, length, ap, ◌∙◌}
use Rattle.cc_submission_reading.proofs.LastNames.{none_last}
use Rattle.cc_submission_reading.proofs.so_far.Submitted.is_without_modules.Goals as goal

pub returns : goal.returns
returns c =
    none_last c.self.inside.modules c.self.inside.last c.is_none.result c.self.invariant c.is_none.ensures
    ∙ ap (λ it. length it.modules == 0) c.self.view_is
