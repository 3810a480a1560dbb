use Rattle.std.proofs.Common.{◌∙◌}
use Rattle.std.proofs.lemmas.Result.{IfOk-weaker}
use Rattle.std.specs.Option.{option_map}
use Rattle.cc_module.specs.Judgements.{checked_definition_of, module_verdict_of}
use Rattle.cc_judge.proofs.FoundImports.{found_definition}
use Rattle.cc_judge.proofs.findings.finding_in.Goals as goal

pub returns-in-Ok : goal.returns-in-Ok
returns-in-Ok c =
    IfOk-weaker c.found_or_none.result _ _
    (λ f same.
    same
    ∙ found_definition (module_verdict_of c.args.verdict.now) c.args.def.now
    (option_map (λ d. checked_definition_of d.now) c.in-Ok.found) c.in-Ok.ensures.ok)
    c.found_or_none.ensures
