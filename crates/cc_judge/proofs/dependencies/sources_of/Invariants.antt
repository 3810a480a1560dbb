use Rattle.std.proofs.Common.{◌≡◌, map, take}
use Rattle.cc_judge.proofs.dependencies.sources_of.Given as goal

abbrev pub invariant-loop-import : goal.invariant-loop-import
invariant-loop-import l = l.names.items ≡ map (λ it. it.module) (take l.import-index l.imports)
