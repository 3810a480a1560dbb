use Rattle.std.proofs.Common.{◌≡◌, map, take}
use Rattle.cc_module.specs.Judgements.{checked_definition_of}
use Rattle.cc_session.proofs.copies.copy_defs.Given as goal

abbrev pub invariant-loop-def : goal.invariant-loop-def
invariant-loop-def l = map checked_definition_of l.copies.items ≡ map checked_definition_of (take l.def-index l.defs)
