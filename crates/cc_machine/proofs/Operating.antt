-- Going on with the answer of a device.
use Rattle.std.proofs.Common.{◌≡◌, ℕ, suc, Option, Some, refl, sym, ap, ◌∙◌, subst, arith}
use Rattle.cc_base.specs.declared.literal.Op.{Op}
use Rattle.cc_base.specs.Literals.{Literal}
use Rattle.cc_device.specs.Devices.{Devices, operate}
use Rattle.cc_device.specs.Events.{Event, Operated, literal_shown}
use Rattle.cc_runs.specs.Machine.{Configuration, StepOutcome, Stuck, Final, Next, Ask, step}
use Rattle.cc_runs.specs.Runs.{Moves, answered, closed, move}
use Rattle.cc_machine.specs.declared.parts.Parts.{Parts}
use Rattle.cc_machine.specs.Asking.{Question, question_in, resumed_with, Resumes}
use Rattle.cc_machine.specs.Lines.{MovesAs, GoesWith, state_in}
use Rattle.cc_machine.specs.Parts.{configuration_of, HasRoom}

-- the move of an outcome that asks, where the device answers
module _ (devices devices' : Devices) where
  asked_moves : (n : ℕ) (op : Op) (a : Option Literal) (resume : Literal → Configuration) (answer : Literal) (after : Configuration) → Some (resume answer) ≡ Some after
      → operate devices n op a ≡ Some (record { literal = answer; devices = devices' })
      → closed devices (Ask n op a resume)
      ≡ Moves (Some (Operated n op (literal_shown a answer))) (record { configuration = after; devices = devices' })
  asked_moves n op a resume answer after resumed replies =
      let next : resume answer ≡ after = cc in
      ap (answered n op a resume) replies
      ∙ ap (λ c. Moves (Some (Operated n op (literal_shown a answer))) (record { configuration = c; devices = devices' })) next

  pub answered_moves : (x : StepOutcome) (q : Question) (answer : Literal) (after : Configuration) → Some q ≡ question_in x → resumed_with answer x ≡ Some after
      → operate devices q.device q.operation q.argument ≡ Some (record { literal = answer; devices = devices' })
      → closed devices x
      ≡ Moves (Some (Operated q.device q.operation (literal_shown q.argument answer))) (record { configuration = after; devices = devices' })
  answered_moves Stuck q answer after is resumed replies = cc
  answered_moves Final q answer after is resumed replies = cc
  answered_moves (Next e n) q answer after is resumed replies = cc
  answered_moves (Ask n op a resume) q answer after is resumed replies =
      let same : (record { device = n; operation = op; argument = a }) ≡ q = cc in
      subst (λ p. operate devices p.device p.operation p.argument ≡ Some (record { literal = answer; devices = devices' })
      → closed devices (Ask n op a resume)
      ≡ Moves (Some (Operated p.device p.operation (literal_shown p.argument answer))) (record { configuration = after; devices = devices' }))
      same (asked_moves n op a resume answer after resumed) replies

fewer_room : (parts : Parts) (n : ℕ) → HasRoom parts (suc n) → HasRoom parts n
fewer_room parts n room = record {
  links = let h = room.links in omega arith;
  cells = let h = room.cells in omega arith;
  frames = let h = room.frames in omega arith;
  positions = let h = room.positions in omega arith;
}

-- the device that is asked answers
module _ {before : Parts} (q : Question) (devices devices' : Devices) (asked : Some q ≡ question_in (step (configuration_of before))) where
  pub answered_goes : {after : Parts} (answer : Literal) (event : Option Event) → Resumes (step (configuration_of before)) answer before after
      → operate devices q.device q.operation q.argument ≡ Some (record { literal = answer; devices = devices' })
      → Some (Operated q.device q.operation (literal_shown q.argument answer)) ≡ event
      → GoesWith (move (state_in before devices)) before event after devices'
  answered_goes {after} answer event resumes replies shows = record {
    linked = resumes.linked;
    uses = record {
      program = resumes.program;
      cells = let h = resumes.cells in omega arith;
      room = λ n room. fewer_room after n (resumes.room (suc n) room);
    };
    moves = subst (λ m. MovesAs m event (state_in after devices'))
        (sym (answered_moves devices devices' (step (configuration_of before)) q answer (configuration_of after) asked resumes.resumed replies)) (shows, refl);
  }
