use Rattle.std.proofs.Common.{◌≡◌, take}
use Rattle.std.specs.String.{string_bytes}
use Rattle.cc_core.specs.TermViews.{context_of}
use Rattle.cc_io.specs.Pieces.{IsPassedOn}
use Rattle.cc_certificate_writing.specs.Certificates.{lines_behind, bind_lines}
use Rattle.cc_certificate_writing.proofs.certificates.write_binds.Given as goal

-- the lines of the positions below are appended or wait, and no write failed
abbrev pub invariant-loop-position : goal.invariant-loop-position
invariant-loop-position g l = record {
  passed : IsPassedOn (g.K.Sink.written l.initial.sink) (g.K.Sink.written l.sink) (string_bytes l.initial.waiting) (string_bytes l.waiting)
      (lines_behind l.front (take l.position (bind_lines l.names.names.items (context_of l.ctx))));
  no_fault : g.K.Sink.faults l.sink ≡ g.K.Sink.faults l.initial.sink;
}
