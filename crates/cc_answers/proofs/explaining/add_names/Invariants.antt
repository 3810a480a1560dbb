use Rattle.std.proofs.Common.{◌≡◌, ◌++◌, map, take}
use Rattle.cc_module.specs.declared.judgement.CheckedDef.{CheckedDef}
use Rattle.cc_replies.specs.Explanations.{names_of}
use Rattle.cc_answers.proofs.explaining.add_names.Given as goal

abbrev pub invariant-loop-def : goal.invariant-loop-def
invariant-loop-def l =
    map names_of l.names.items
    ≡ map names_of l.initial.names.items ++ map (λ (def : CheckedDef). (l.«module», def.name)) (take l.def-index l.defs)
