use Rattle.std.proofs.Common.{refl, ap, ◌∙◌}
use Rattle.cc_base.specs.Literals.{literal_of}
use Rattle.cc_device.specs.Events.{Operated, literal_shown}
use Rattle.cc_device.specs.DeviceViews.{event_of}
use Rattle.cc_machine.specs.Machines.{held_by}
use Rattle.cc_machine.specs.Asking.{question_of}
use Rattle.cc_machine.specs.Parts.{configuration_of}
use Rattle.cc_machine.proofs.GivenAnswers.{goes_on_with, answers_alike, answers_soundly}
use Rattle.cc_machine.proofs.machine.Machine.answer.Goals as goal

pub invariant_of-self : goal.invariant_of-self
invariant_of-self c =
    let q = question_of c.in-Some.wanted in
    let answer = literal_of c.args.answer in
    let event = Operated q.device q.operation (literal_shown q.argument answer) in
    let goes =
    goes_on_with answer (held_by c.args.self.now) (configuration_of c.resume.new.self) event q c.in-Some.ensures c.requires c.resume.ensures.resumed refl in
    record {
      linked = c.resume.ensures.linked;
      room = c.resume.ensures.room c.args.self.now.spare c.args.self.now.room;
      sound = answers_soundly (held_by c.args.self.now) answer event (configuration_of c.resume.new.self) goes c.args.self.now.sound;
    }

pub returns-clause-next : goal.returns-clause-next
returns-clause-next c =
    let q = question_of c.in-Some.wanted in
    let answer = literal_of c.args.answer in
    goes_on_with answer (held_by c.args.self.now) (configuration_of c.resume.new.self) (event_of c.event.result) q c.in-Some.ensures c.requires
    c.resume.ensures.resumed
    (c.event.ensures ∙ ap (λ a. Operated q.device q.operation (literal_shown a answer)) c.in_ok-argument-in-Some.ensures.argument)

pub returns-clause-steps : goal.returns-clause-steps
returns-clause-steps c =
    let q = question_of c.in-Some.wanted in
    let answer = literal_of c.args.answer in
    answers_alike (held_by c.args.self.now) answer (event_of c.event.result) (configuration_of c.resume.new.self)
    (goes_on_with answer (held_by c.args.self.now) (configuration_of c.resume.new.self) (event_of c.event.result) q c.in-Some.ensures c.requires
    c.resume.ensures.resumed
    (c.event.ensures ∙ ap (λ a. Operated q.device q.operation (literal_shown a answer)) c.in_ok-argument-in-Some.ensures.argument))
