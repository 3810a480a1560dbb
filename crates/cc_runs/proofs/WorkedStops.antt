-- What is stuck, by computation.
use Rattle.std.proofs.Common.{refl}
use Rattle.std.specs.Int.{int_wrap}
use Rattle.cc_runs.specs.ExampleStops.{CellsAreNeeded, ArgumentsAreAsWanted, ScopesAreFound, ExitsNeedTheirScopes, AnswersAreNeeded, ShownCellsAreNeeded}

pub cells_are_needed : CellsAreNeeded
cells_are_needed = (λ stack. refl, λ stack. refl, λ stack. refl, λ stack. refl, λ stack. refl, λ stack. refl, λ stack. refl, λ stack. refl, λ stack. refl, λ stack. refl)

pub arguments_are_as_wanted : ArgumentsAreAsWanted
arguments_are_as_wanted = (λ stack. refl, λ stack. refl, λ stack. refl)

pub scopes_are_found : ScopesAreFound
scopes_are_found = (refl, refl, refl, refl, refl)

pub exits_need_their_scopes : ExitsNeedTheirScopes
exits_need_their_scopes = (refl, refl, refl)

pub answers_are_needed : AnswersAreNeeded
unfolding int_wrap
answers_are_needed = (refl, refl, λ resume. refl)

pub shown_cells_are_needed : ShownCellsAreNeeded
shown_cells_are_needed = (refl, refl, refl)
