use Rattle.std.proofs.Common.{option_map, sym, ap, ◌∙◌}
use Rattle.std.proofs.lemmas.Result.{IfOk-weaker}
use Rattle.cc_base.specs.Literals.{literal_of}
use Rattle.cc_device.specs.DeviceViews.{event_of}
use Rattle.cc_machine.specs.Machines.{held_by}
use Rattle.cc_runs.specs.Machine.{step}
use Rattle.cc_replay.specs.Replays.{replay_on}
use Rattle.cc_machine.specs.Asking.{question_of}
use Rattle.cc_words.specs.Lines.{lines_of}
use Rattle.cc_replay.proofs.LineByLine.{first_line, answer_suits, answered_on, unanswered}
use Rattle.cc_replay.proofs.replaying.answer_from.Goals as goal

pub answer-requires : goal.answer-requires
answer-requires c =
    answer_suits c.args.names.now.names.items (held_by c.args.machine.now) (question_of c.args.wanted) c.requires c.next_line.result.0.now (literal_of c.in-Some.answer)
    (sym c.in_ok-answer.ensures ∙ ap (option_map literal_of) c.in-Some.is)

pub returns-in_ok-event-in-Some-clause-told : goal.returns-in_ok-event-in-Some-clause-told
returns-in_ok-event-in-Some-clause-told c =
    let names = c.args.names.now.names.items in
    let first = first_line c.args.lines.now c.next_line.result.0.now c.next_line.result.1.now c.next_line.ensures (sym c.is_empty.ensures ∙ c.if-is_empty.false) in
    IfOk-weaker c.event_told.result _ _
    (λ it h steps rest.
    answered_on names (held_by c.args.machine.now) (question_of c.args.wanted) c.requires c.next_line.result.0.now (literal_of c.in-Some.answer)
    (event_of c.in_ok-event-in-Some.event) (held_by c.answer.new.self) c.args.lines.now (lines_of c.next_line.result.1.now)
    (sym c.in_ok-answer.ensures ∙ ap (option_map literal_of) c.in-Some.is) c.in_ok-event-in-Some.ensures.next first steps rest
    ∙ h (rest (held_by c.answer.new.self)))
    c.event_told.ensures

pub returns-in-None-clause-told : goal.returns-in-None-clause-told
returns-in-None-clause-told c steps rest =
    let names = c.args.names.now.names.items in
    let first = first_line c.args.lines.now c.next_line.result.0.now c.next_line.result.1.now c.next_line.ensures (sym c.is_empty.ensures ∙ c.if-is_empty.false) in
    ap (λ ls. replay_on names steps rest (held_by c.args.machine.now) (step (held_by c.args.machine.now)) ls) first
    ∙ unanswered names (held_by c.args.machine.now) (question_of c.args.wanted) c.requires c.next_line.result.0.now (step (held_by c.args.machine.now)) c.requires
    (lines_of c.next_line.result.1.now) (sym c.in_ok-answer.ensures ∙ ap (option_map literal_of) c.in-None.is) steps rest
