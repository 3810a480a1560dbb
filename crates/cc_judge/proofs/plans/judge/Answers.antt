use Rattle.std.proofs.Common.{refl, ap, map, List, ℕ, sym, subst, ◌∙◌}
use Rattle.cc_verdicts.specs.ModuleLaws.{AreFit}
use Rattle.cc_verdicts.specs.ModuleVerdicts.{Finding, HasModuleVerdict}
use Rattle.cc_module.specs.Findings.{finding_of}
use Rattle.cc_module.specs.Judgements.{module_verdict_of}
use Rattle.cc_judge.specs.Kept.{judged_on}
use Rattle.cc_judge.proofs.plans.judge.Goals as goal

pub returns-clause-plan : goal.returns-clause-plan
returns-clause-plan g c =
    λ last.
    let text = c.in_ok-text.text in
    let found = c.new.result in
    let T : List ℕ → Type 0 = λ t. HasModuleVerdict c.args.devices.now t (map finding_of c.as_slice.result.now)
    (module_verdict_of c.in_ok-verdict.verdict) in
    let F : List Finding → Type 0 = λ fs. HasModuleVerdict c.args.devices.now text fs
    (module_verdict_of c.in_ok-verdict.verdict) in
    let U : List ℕ → Type 0 = λ t. AreFit c.args.devices.now t (map finding_of c.args.findings.items) in
    let V : List Finding → Type 0 = λ fs. AreFit c.args.devices.now text fs in
    let same_text = c.in_ok-text.ensures in
    let same_found = ap (map finding_of) c.new.ensures in
    record {
      one = judged_on (c.in_ok-key.key, c.in_ok-verdict.verdict) (record { text = text; findings = found });
      planned = refl;
      judged = record {
        deserved = subst F (ap (map finding_of) c.as_slice.ensures.value ∙ sym same_found)
            (subst T (sym same_text) c.in_ok-verdict.ensures.verdict);
        fit = subst V (sym same_found) (subst U (sym same_text) c.requires.fit);
      };
      same_name = c.in_ok-key.ensures.cases;
      same_text = same_text;
      same_findings = same_found;
    }
