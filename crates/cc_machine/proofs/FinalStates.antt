-- What a machine shows at its end.
use Rattle.std.proofs.Common.{◌≡◌, [], Option, Some, None, sym, ap, ◌∙◌}
use Rattle.std.proofs.Math.Logic.{∥∥₁_elim}
use Rattle.cc_device.specs.Endings.{Shown}
use Rattle.cc_machine.specs.Standing.{StandsSoundly, with_devices}
use Rattle.cc_runs.specs.Answers.{shown}
use Rattle.cc_runs.specs.Machine.{Configuration, Final, step}
use Rattle.cc_runs.specs.Runs.{closed, move}
use Rattle.cc_runs.proofs.Erasure.{shown-erased}
use Rattle.cc_runs.proofs.Finality.{final_states_are_answered}
use Rattle.cc_runs.proofs.ShownAnswers.{shown_from}
use Rattle.cc_machine.proofs.StandingLemmas.{move_held, final_back}

some_none : (s : Shown) (o : Option Shown) → o ≡ Some s → o ≡ None → ⊥
some_none s o a b = cc

shown_at_end : (held : Configuration) → step held ≡ Final → shown held ≡ None → StandsSoundly held → ⊥
shown_at_end held final none (c, sound, stands) =
    let over = final_back (move (with_devices c [])) (sym (move_held held c stands []) ∙ ap (closed []) final) in
    let answer = (final_states_are_answered (with_devices c [])).0 over in
    let found = shown_from c sound answer.0 in
    some_none found.0 (shown c) found.1 (sym (shown-erased c) ∙ ap shown stands ∙ none)

-- something is shown
pub shows_something : (held : Configuration) → ∥ StandsSoundly held ∥₁ → step held ≡ Final → shown held ≡ None → ⊥
shows_something held sound final none = ∥∥₁_elim sound (hlevel) (shown_at_end held final none)
