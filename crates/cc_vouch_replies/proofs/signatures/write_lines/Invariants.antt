use Rattle.std.proofs.Common.{◌≡◌, take, flat_map}
use Rattle.std.specs.String.{string_bytes}
use Rattle.cc_io.specs.Pieces.{IsPassedOn}
use Rattle.cc_vouching.specs.VouchingReplies.{signature_line}
use Rattle.cc_vouch.specs.VouchViews.{definition_of}
use Rattle.cc_vouch_replies.proofs.signatures.write_lines.Given as goal

-- the lines of the definitions up to here are appended or wait, and no write failed
abbrev pub invariant-loop-def : goal.invariant-loop-def
invariant-loop-def g l = record {
  passed : IsPassedOn (g.K.Sink.written l.initial.sink) (g.K.Sink.written l.sink) (string_bytes l.initial.waiting) (string_bytes l.waiting)
      (flat_map (λ one. signature_line l.names.names.items (definition_of one)) (take l.def-index l.defs));
  no_fault : g.K.Sink.faults l.sink ≡ g.K.Sink.faults l.initial.sink;
}
