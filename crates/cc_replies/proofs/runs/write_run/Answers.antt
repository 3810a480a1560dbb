use Rattle.std.proofs.Common.{◌++◌, flat_map, subst}
use Rattle.cc_device.specs.DeviceViews.{end_of}
use Rattle.cc_machine.specs.Reports.{events_of}
use Rattle.cc_runs.specs.Runs.{Ends}
use Rattle.cc_io.specs.Wholes.{WritesWhole}
use Rattle.cc_io.proofs.PassedPieces.{front_none}
use Rattle.cc_replies.specs.ReplyTexts.{inner_line}
use Rattle.cc_replay.specs.RunTexts.{run_lines}
use Rattle.cc_replies.proofs.runs.write_run.Goals as goal

pub returns-in-Ok-clause-written : goal.returns-in-Ok-clause-written
returns-in-Ok-clause-written g c =
    let report = c.args.report.now in
    subst (λ head. WritesWhole (g.K.Sink.written c.args.sink.now) (g.K.Sink.written c.write_behind.new.sink) c.write_behind.result
    (head ++ flat_map inner_line (run_lines c.args.names.now.names.items c.args.authority.now (events_of report) (Ends (end_of report.end)) report.steps)))
    c.in-Ok.ensures c.write_behind.ensures.written

pub returns-in-Err-clause-written : goal.returns-in-Err-clause-written
returns-in-Err-clause-written g c = front_none (g.K.Sink.written c.args.sink.now) _
