use Rattle.std.proofs.Common.{◌≡◌, option_map, subst}
use Rattle.std.specs.String.{string_bytes}
use Rattle.cc_device.specs.DeviceViews.{event_of}
use Rattle.cc_io.specs.declared.whole.WriteAll.TheVariants as write_errors
use Rattle.cc_live.proofs.AskedTurns.{advanced_told, advanced_silently, advanced_never}
use Rattle.cc_live.proofs.running.advance.Goals as goal
use Rattle.cc_machine.specs.Machines.{held_by}
use Rattle.cc_runs.specs.Machine.{Next, step}

pub returns-in-Ok-Some-clause-advances : goal.returns-in-Ok-Some-clause-advances
returns-in-Ok-Some-clause-advances g c =
    advanced_told c.args.names.now.names.items (held_by c.args.machine.now) (held_by c.advance.new.self) (event_of c.in-Ok-Some.event)
    (g.K.Sink.written c.args.sink.now) (g.K.Sink.written c.tell_event.new.sink) (string_bytes c.args.waiting.now) (string_bytes c.tell_event.new.waiting) c.tell_event.result
    (subst (λ it. step (held_by c.args.machine.now) ≡ Next (option_map event_of it) (held_by c.advance.new.self)) c.in-Ok-Some.field-0-is c.in-Ok-Some.ensures.next)
    c.tell_event.ensures.streams

pub returns-in-Ok-None-clause-advances : goal.returns-in-Ok-None-clause-advances
returns-in-Ok-None-clause-advances g c =
    advanced_silently c.args.names.now.names.items (held_by c.args.machine.now) (held_by c.advance.new.self) (g.K.Sink.written c.args.sink.now) (string_bytes c.args.waiting.now)
    (subst (λ it. step (held_by c.args.machine.now) ≡ Next (option_map event_of it) (held_by c.advance.new.self)) c.in-Ok-None.field-0-is c.in-Ok-None.ensures.next)

pub returns-in-Err-clause-advances : goal.returns-in-Err-clause-advances
returns-in-Err-clause-advances g c =
    advanced_never c.args.names.now.names.items (held_by c.args.machine.now) (held_by c.advance.new.self) (g.K.Sink.written c.args.sink.now) (string_bytes c.args.waiting.now)
    (string_bytes c.args.waiting.now) write_errors.NoMemory
