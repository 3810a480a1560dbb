use Rattle.std.proofs.Common.{◌≡◌, map, take}
use Rattle.cc_session.specs.Modules.{module_of}
use Rattle.cc_replies.specs.Explanations.{names_of}
use Rattle.cc_answers.specs.Explaining as plain
use Rattle.cc_answers.proofs.explaining.definition_names.Given as goal

abbrev pub invariant-loop-module : goal.invariant-loop-module
invariant-loop-module l = map names_of l.names.items ≡ plain.definition_names (map module_of (take l.module-index l.modules))
