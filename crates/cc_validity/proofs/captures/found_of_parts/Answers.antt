use Rattle.std.proofs.Common.{sym, ap, ◌∙◌, subst}
use Rattle.std.proofs.lemmas.Result.{IfOk-weaker}
use Rattle.cc_core.specs.Terms.{Term, Let}
use Rattle.cc_core.specs.TermViews.{form_of, note_of, term_of}
use Rattle.cc_core.specs.declared.terms.Node.{Node}
use Rattle.cc_validity.specs.Captures.{parts_in}
use Rattle.cc_validity.specs.Gathering.{IsFound}
use Rattle.cc_validity.proofs.GatheredTerms.{found_parts}
use Rattle.cc_validity.proofs.captures.found_of_parts.Goals as goal

pub returns-in-Let : goal.returns-in-Let
returns-in-Let c =
    let is = ap form_of c.in-Let.is
    ∙ sym (ap (λ (n : Node). Let (note_of c.in-Let.field-0) (term_of n) (term_of c.in-Let.field-2.value)) c.deref.ensures) in
    IfOk-weaker c.found_let.result _ _
    (λ f told. found_parts c.args.first c.args.second f (term_of c.args.node.now) (ap parts_in is)
    (λ own inner. subst (λ (t : Term). IsFound f t) (sym is) (told _ _ own inner)))
    c.found_let.ensures

pub returns-in-If : goal.returns-in-If
returns-in-If c =
    let is = ap form_of c.in-If.is in
    IfOk-weaker c.found_choice.result _ _
    (λ f told. found_parts c.args.first c.args.second f (term_of c.args.node.now) (ap parts_in is)
    (λ own inner. subst (λ (t : Term). IsFound f t) (sym is) (told _ _ _ own inner)))
    c.found_choice.ensures
