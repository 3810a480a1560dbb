-- Where a command that puts or removes a module leaves the texts as they are.
use Rattle.std.proofs.Common.{◌≡◌, Bool, true, false, Result, Ok, Err}
use Rattle.std.specs.Prelude.{IfOk}
use Rattle.cc_verdicts.specs.PresentTexts.{Texts}
use Rattle.cc_answers.specs.KeptEntries.{StayWhereRefused}

-- what is not answered by a refusal need not leave them so
pub not_refused_changes : {E : Type 0} (result : Result Bool E) (old new : Texts) → IfOk result (λ answer. answer ≡ false) → StayWhereRefused result old new
not_refused_changes (Ok true) old new is = λ yes. cc
not_refused_changes (Ok false) old new is = λ yes. cc
not_refused_changes (Err error) old new is = tt

pub refused_stay : {E : Type 0} (result : Result Bool E) (old new : Texts) → new ≡ old → StayWhereRefused result old new
refused_stay (Ok answer) old new same = λ yes. same
refused_stay (Err error) old new same = tt
