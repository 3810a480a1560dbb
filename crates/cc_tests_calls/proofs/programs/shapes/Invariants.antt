use Rattle.std.proofs.Common.{◌≡◌, take}
use Rattle.cc_device.specs.Declarations.{declared_bases}
use Rattle.cc_tests_calls.proofs.programs.shapes.Given as goal

abbrev pub invariant-loop-decl : goal.invariant-loop-decl
invariant-loop-decl l = l.shapes.items ≡ declared_bases (take l.decl-index l.decls)
