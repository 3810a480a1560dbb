use Rattle.std.proofs.Common.{◌≡◌, sym, subst, IfOk}
use Rattle.cc_core.specs.declared.terms.Form.{Form}
use Rattle.cc_core.specs.declared.terms.Node.{Node}
use Rattle.cc_core.specs.Reading.{read_term}
use Rattle.cc_core.specs.TermViews.{type_of, form_of, context_of}
use Rattle.cc_derivation.specs.declared.derivation.Rule.{Rule}
use Rattle.cc_derivation.specs.declared.derivation.Rule.TheVariants as rules
use Rattle.cc_derivation.specs.DerivationViews.{rule_of, premises_of}
use Rattle.cc_validity.specs.ClaimedPremises.{instance_of}
use Rattle.cc_derivation.specs.Broken.{claims_of}
use Rattle.cc_derivation.specs.Rows.{typing_row}
use Rattle.cc_validity.proofs.typings.typing_instance.Goals as goal

pub returns-in-Fun : goal.returns-in-Fun
returns-in-Fun c =
    subst
    (λ (rule : Rule). IfOk c.function.result (λ b. b ≡ instance_of (typing_row (context_of c.args.ctx.now) (rule_of rule) (read_term c.args.entries (form_of c.args.term.now.node.value.form)) (type_of c.args.ty.now)) (claims_of (premises_of c.args.premises.now))))
    (sym c.in-Function.is)
    (subst
    (λ (node : Node). IfOk c.function.result (λ b. b ≡ instance_of (typing_row (context_of c.args.ctx.now) (rule_of rules.Function) (read_term c.args.entries (form_of node.form)) (type_of c.args.ty.now)) (claims_of (premises_of c.args.premises.now))))
    c.deref-in-Function.ensures
    (subst
    (λ (form : Form). IfOk c.function.result (λ b. b ≡ instance_of (typing_row (context_of c.args.ctx.now) (rule_of rules.Function) (read_term c.args.entries (form_of form)) (type_of c.args.ty.now)) (claims_of (premises_of c.args.premises.now))))
    (sym c.in-Fun.is)
    c.function.ensures))

pub returns-in-TFun : goal.returns-in-TFun
returns-in-TFun c =
    subst
    (λ (rule : Rule). IfOk c.type_function.result (λ b. b ≡ instance_of (typing_row (context_of c.args.ctx.now) (rule_of rule) (read_term c.args.entries (form_of c.args.term.now.node.value.form)) (type_of c.args.ty.now)) (claims_of (premises_of c.args.premises.now))))
    (sym c.in-TypeFunction.is)
    (subst
    (λ (node : Node). IfOk c.type_function.result (λ b. b ≡ instance_of (typing_row (context_of c.args.ctx.now) (rule_of rules.TypeFunction) (read_term c.args.entries (form_of node.form)) (type_of c.args.ty.now)) (claims_of (premises_of c.args.premises.now))))
    c.deref-in-TypeFunction.ensures
    (subst
    (λ (form : Form). IfOk c.type_function.result (λ b. b ≡ instance_of (typing_row (context_of c.args.ctx.now) (rule_of rules.TypeFunction) (read_term c.args.entries (form_of form)) (type_of c.args.ty.now)) (claims_of (premises_of c.args.premises.now))))
    (sym c.in-TFun.is)
    c.type_function.ensures))
