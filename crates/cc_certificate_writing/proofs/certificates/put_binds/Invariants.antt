use Rattle.std.proofs.Common.{◌≡◌, ◌++◌, take}
use Rattle.std.specs.String.{string_bytes}
use Rattle.cc_core.specs.TermViews.{context_of}
use Rattle.cc_certificate_writing.specs.Certificates.{lines_behind, bind_lines}
use Rattle.cc_certificate_writing.proofs.certificates.put_binds.Given as goal

abbrev pub invariant-loop-position : goal.invariant-loop-position
invariant-loop-position l =
    string_bytes l.out
    ≡ string_bytes l.fn.out ++ lines_behind l.front (take l.position (bind_lines l.names.names.items (context_of l.ctx)))
