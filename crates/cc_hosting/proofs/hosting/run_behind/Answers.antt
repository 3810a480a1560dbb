use Rattle.std.proofs.Common.{[], refl, sym, ap, subst}
use Rattle.cc_entry_laws.specs.PresentEntries.{program_entry}
use Rattle.cc_hosting.specs.HostedRuns.{course_behind}
use Rattle.cc_hosting.proofs.HostedCourses.{not_told, reads_any, runs_behind}
use Rattle.cc_hosting.proofs.hosting.run_behind.Goals as goal
use Rattle.cc_live.proofs.TakenTurns.{runs_never}
use Rattle.cc_live.specs.LiveEnds.{RunsLive}
use Rattle.cc_live.specs.LiveRuns.{live}
use Rattle.cc_runs.specs.Links.{program_start}
use Rattle.cc_session.specs.Entries.{entry_of}

pub returns-then-not-has_positions-clause-runs : goal.returns-then-not-has_positions-clause-runs
returns-then-not-has_positions-clause-runs g c = λ bytes is.
    runs_never (course_behind c.args.names.now.names.items c.args.fuel bytes (entry_of c.args.linked.now.entry)) c.args.reader.now
    (g.S.Source.left c.args.source.now) c.args.lines.now (g.K.Sink.written c.args.sink.now)

pub returns-in-Ok-clause-runs : goal.returns-in-Ok-clause-runs
returns-in-Ok-clause-runs g c = λ bytes is.
    runs_behind (live c.args.names.now.names.items c.args.fuel (program_start (program_entry (entry_of c.args.linked.now.entry)))) bytes c.args.reader.now
    c.run_live.new.reader (g.S.Source.left c.args.source.now) (g.S.Source.left c.run_live.new.source) c.args.lines.now c.run_live.new.lines
    (g.K.Sink.written c.args.sink.now) (g.K.Sink.written c.tell.new.sink) (g.K.Sink.written c.run_live.new.sink) c.run_live.result
    (c.in-Ok.ensures.told bytes is)
    (subst (λ start. RunsLive (live c.args.names.now.names.items c.args.fuel start) c.args.reader.now c.run_live.new.reader (g.S.Source.left c.args.source.now)
    (g.S.Source.left c.run_live.new.source) c.args.lines.now c.run_live.new.lines (g.K.Sink.written c.tell.new.sink) (g.K.Sink.written c.run_live.new.sink) c.run_live.result)
    c.requires.program.start c.run_live.ensures.runs)

pub returns-in-Err-clause-runs : goal.returns-in-Err-clause-runs
returns-in-Err-clause-runs g c = λ bytes is.
    not_told (course_behind c.args.names.now.names.items c.args.fuel bytes (entry_of c.args.linked.now.entry)) bytes c.in-Err.error c.args.reader.now
    (g.S.Source.left c.args.source.now) c.args.lines.now (g.K.Sink.written c.args.sink.now) (g.K.Sink.written c.tell.new.sink)
    ((live c.args.names.now.names.items c.args.fuel (program_start (program_entry (entry_of c.args.linked.now.entry))) []).text, refl)
    (c.in-Err.ensures.told bytes is)

pub returns-in-Err-clause-reads : goal.returns-in-Err-clause-reads
returns-in-Err-clause-reads g c = reads_any c.in-Err.error (g.S.Source.faults c.args.source.now) (c.in-Err.ensures.reads (g.S.Source.faults c.args.source.now))
