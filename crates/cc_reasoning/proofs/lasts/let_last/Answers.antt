use Rattle.std.proofs.Common.{Err, length, sym, ap, subst, ◌∙◌}
use Rattle.cc_core.specs.TermViews.{type_of}
use Rattle.cc_checking.specs.Avoidance.{Positive, avoided_type}
use Rattle.cc_known.specs.Logs as logs
use Rattle.cc_known.specs.Parts.{found_of, named_of}
use Rattle.cc_type.specs.Rows as rows
use Rattle.cc_reasons.specs.Causes.{Refused}
use Rattle.cc_reasoning.specs.ExplainedLogs.{let_cause}
use Rattle.cc_causes.specs.Views.{scene_of, binder_names_of, cause_of}
use Rattle.cc_reasoning.proofs.LastSteps as last
use Rattle.cc_reasoning.proofs.lasts.let_last.Goals as goal

pub returns-in-Err-Refused-clause-exact : goal.returns-in-Err-Refused-clause-exact
returns-in-Err-Refused-clause-exact c =
    let scene = scene_of c.args.scene.now in
    let node = c.args.node.now.value in
    let named = named_of c.args.named in
    let one = found_of c.args.one in
    let two = found_of c.args.two in
    let code = c.in-Err-Refused.diag.code in
    let place = c.in-Err-Refused.diag.place in
    let inner = scene_of c.args.inner.now in
    let n = length scene.context in
    let stopped = subst (λ e. logs.Answers found_of (Err e) (rows.let_end scene.context node.at node.first named one two))
    c.in-Err-Refused.field-0-is c.in-Err-Refused.ensures.exact in
    last.let_refused scene node.at node.first (binder_names_of c.args._binders.now) named one two code place stopped
    ∙ ap (λ k. Refused k place)
    (sym (ap cause_of c.in_ok-cause-in-Err-Refused-2.ensures.ok ∙ c.in_ok-cause-in-Err-Refused.ensures
    ∙ ap (λ d. let_cause (avoided_type Positive n d (type_of c.in_ok-ty.ty)) scene inner (type_of c.in_ok-ty.ty))
    c.in_ok-declared.ensures.cases
    ∙ ap (λ t. let_cause (avoided_type Positive n named.type.set t) scene inner t) c.in_ok-ty.ensures.cases
    ∙ ap (λ i. let_cause (avoided_type Positive n named.type.set two.type) scene i two.type) c.requires.inner))
