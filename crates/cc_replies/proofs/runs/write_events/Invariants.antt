use Rattle.std.proofs.Common.{◌≡◌, take, flat_map}
use Rattle.std.specs.String.{string_bytes}
use Rattle.cc_device.specs.DeviceViews.{event_of}
use Rattle.cc_io.specs.Pieces.{IsPassedOn}
use Rattle.cc_replies.specs.ReplyTexts.{inner_line}
use Rattle.cc_replay.specs.RunTexts.{event_text}
use Rattle.cc_replies.proofs.runs.write_events.Given as goal

-- the lines of the events up to here are appended or wait, and no write failed
abbrev pub invariant-loop-event : goal.invariant-loop-event
invariant-loop-event g l = record {
  passed : IsPassedOn (g.K.Sink.written l.initial.sink) (g.K.Sink.written l.sink) (string_bytes l.initial.waiting) (string_bytes l.waiting)
      (flat_map (λ event. inner_line (event_text l.names.names.items (event_of event))) (take l.event-index l.events));
  no_fault : g.K.Sink.faults l.sink ≡ g.K.Sink.faults l.initial.sink;
}
