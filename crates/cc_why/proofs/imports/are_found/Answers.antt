use Rattle.std.proofs.Common.{◌≡◌, Bool, true, None, map, sym, subst}
use Rattle.std.specs.Prelude.{◌↔◌}
use Rattle.cc_module.specs.Findings.{finding_of}
use Rattle.cc_verdicts.specs.ModuleVerdicts.{first_missing}
use Rattle.cc_why.proofs.FoundTrees.{none_missing}
use Rattle.cc_why.proofs.imports.are_found.Goals as goal

pub returns : goal.returns
returns c = λ imports even.
    subst (λ (found : Bool). (found ≡ true) ↔ (first_missing imports (map finding_of c.args.findings.now) ≡ None)) (sym c.all_found.ensures)
    (none_missing c.args.findings.now imports even)
