use Rattle.std.proofs.Common.{◌≡◌, take}
use Rattle.cc_certificate_writing.proofs.writing.same_names.Given as goal

abbrev pub invariant-loop-name : goal.invariant-loop-name
invariant-loop-name l = l.copy.items ≡ take l.name-index l.names
