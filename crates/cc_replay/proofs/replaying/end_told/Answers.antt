use Rattle.std.proofs.Common.{sym, ◌∙◌}
use Rattle.std.specs.String.{string_bytes}
use Rattle.cc_device.specs.DeviceViews.{end_of}
use Rattle.cc_machine.specs.Machines.{held_by}
use Rattle.cc_runs.specs.Runs.{Ends}
use Rattle.cc_replay.specs.Replays.{no_line}
use Rattle.cc_replay.specs.RunTexts.{end_text}
use Rattle.cc_replay.proofs.LineByLine.{written, end_differs, end_agrees, more_stands}
use Rattle.cc_replay.proofs.replaying.end_told.Goals as goal

pub returns-then-is_empty : goal.returns-then-is_empty
returns-then-is_empty c =
    end_agrees c.args.names.now.names.items c.args.steps c.args.met (held_by c.args.machine.now) (end_of c.end.result) c.args.lines.now c.as_str.result.now c.end.ensures
    c.args.machine.now.sound (written c.as_str.result.now _ _ _ c.as_str.ensures.value c.in_ok-put_end.ensures c.clear.ensures.bytes)
    c.in-Some.others.now (c.in-Some.ensures no_line) (sym c.is_empty.ensures ∙ c.if-is_empty.true)

pub returns-in-Some-checked_add : goal.returns-in-Some-checked_add
returns-in-Some-checked_add c =
    more_stands c.args.names.now.names.items c.args.steps c.args.met (held_by c.args.machine.now) (end_of c.end.result) c.args.lines.now c.as_str.result.now c.end.ensures
    c.args.machine.now.sound (written c.as_str.result.now _ _ _ c.as_str.ensures.value c.in_ok-put_end.ensures c.clear.ensures.bytes)
    c.in-Some.others.now c.in-Some-checked_add.line (c.in-Some.ensures no_line) (sym c.is_empty.ensures ∙ c.if-is_empty.false) c.in-Some-checked_add.ensures.1

pub returns-in-None : goal.returns-in-None
returns-in-None c =
    end_differs c.args.names.now.names.items c.args.steps c.args.met (held_by c.args.machine.now) (end_of c.end.result) c.args.lines.now c.as_str.result.now c.end.ensures
    c.args.machine.now.sound (written c.as_str.result.now _ _ _ c.as_str.ensures.value c.in_ok-put_end.ensures c.clear.ensures.bytes)
    (c.in-None.ensures no_line)
