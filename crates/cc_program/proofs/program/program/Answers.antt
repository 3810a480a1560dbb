use Rattle.std.proofs.Common.{◌≡◌, map, subst}
use Rattle.std.specs.String.{string_bytes}
use Rattle.cc_program.specs.Calls.{IsCall}
use Rattle.cc_program.specs.Outcome.{ends}
use Rattle.cc_program.specs.Endings.{EndsBy}
use Rattle.cc_program.proofs.program.program.Goals as goal

-- The counter begins at 0, and tells in the end how many modules were judged.
pub returns-clause-call : goal.returns-clause-call
returns-clause-call g c =
    let counted = c.carried-status.new.steps in (
      counted,
      c.count-judged.ensures,
      subst (λ begun.
          EndsBy
          (λ words status.
          IsCall (c.carried-status.new.source ≡ c.args.source.now) (c.carried-status.new.sink ≡ c.args.sink.now)
          (ends (g.S.Source.left c.args.source.now) (g.S.Source.faults c.args.source.now) (g.K.Sink.written c.args.sink.now)
          (g.K.Sink.faults c.args.sink.now) begun)
          (ends (g.S.Source.left c.carried-status.new.source) (g.S.Source.faults c.carried-status.new.source)
          (g.K.Sink.written c.carried-status.new.sink) (g.K.Sink.faults c.carried-status.new.sink) counted)
          (map string_bytes words) status)
          ((c.carried-status.new.source ≡ c.args.source.now) × (c.carried-status.new.sink ≡ c.args.sink.now)) c.args.answer
          c.carried-status.result)
          c.new-steps.ensures c.carried-status.ensures,
    )
