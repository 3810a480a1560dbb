use Rattle.std.proofs.Common.{◌≡◌, map, refl}
use Rattle.std.specs.String.{string_bytes}
use Rattle.cc_program.specs.Outcome.{ends}
use Rattle.cc_program.proofs.CallFacts.{workload_words, workload_call}
use Rattle.cc_program.proofs.run.capc.Goals as goal

pub returns-in-Workload-clause-words : goal.returns-in-Workload-clause-words
returns-in-Workload-clause-words g c =
    let left = g.S.Source.left c.args.source.now in let faults = g.S.Source.faults c.args.source.now in
    workload_words (map string_bytes c.args.words.now)
    (ends left faults (g.K.Sink.written c.args.sink.now) (g.K.Sink.faults c.args.sink.now) c.args.steps.now)
    (ends left faults (g.K.Sink.written c.summarize.new.sink) (g.K.Sink.faults c.summarize.new.sink) c.summarize.new.steps)
    c.summarize.result c.in-Workload.number c.in-Workload.ensures (c.summarize.ensures left faults)

pub returns-in-Workload-clause-call : goal.returns-in-Workload-clause-call
returns-in-Workload-clause-call g c =
    let left = g.S.Source.left c.args.source.now in let faults = g.S.Source.faults c.args.source.now in
    workload_call (c.args.source.now ≡ c.args.source.now) (c.summarize.new.sink ≡ c.args.sink.now)
    (ends left faults (g.K.Sink.written c.args.sink.now) (g.K.Sink.faults c.args.sink.now) c.args.steps.now)
    (ends left faults (g.K.Sink.written c.summarize.new.sink) (g.K.Sink.faults c.summarize.new.sink) c.summarize.new.steps)
    (map string_bytes c.args.words.now) c.summarize.result c.in-Workload.number c.in-Workload.ensures refl
    (c.summarize.ensures left faults)
