use Rattle.std.proofs.Common.{subst}
use Rattle.std.proofs.lemmas.Result.{err_from_is_err_and}
use Rattle.std.specs.String.{string_bytes}
use Rattle.cc_io.specs.Wholes.{WritesWhole}
use Rattle.cc_io.proofs.PassedPieces.{whole_written, front_written}
use Rattle.cc_vouch_replies.proofs.signatures.write_behind.Goals as goal

pub returns-in_err-write_lines-clause-written : goal.returns-in_err-write_lines-clause-written
returns-in_err-write_lines-clause-written g c =
    let error = err_from_is_err_and c.from_residual.result c.from_residual.ensures.1 in
    rw error.1
    (front_written (Unit {0}) (g.K.Sink.written c.args.sink.now) (g.K.Sink.written c.write_lines.new.sink) _ error.0 c.in_err-write_lines.ensures.streams)

pub returns-clause-written : goal.returns-clause-written
returns-clause-written g c =
    whole_written (g.K.Sink.written c.args.sink.now) (g.K.Sink.written c.write_lines.new.sink) (g.K.Sink.written c.write_all.new.sink)
    (string_bytes c.args.waiting.now) (string_bytes c.write_lines.new.waiting) _ c.write_all.result c.in_ok-write_lines.ensures.streams
    (subst (WritesWhole (g.K.Sink.written c.write_lines.new.sink) (g.K.Sink.written c.write_all.new.sink) c.write_all.result) c.as_bytes.ensures.value
    c.write_all.ensures.written)
