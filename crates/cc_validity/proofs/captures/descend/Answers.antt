use Rattle.std.proofs.Common.{Some, refl, sym, ap, ◌∙◌}
use Rattle.std.proofs.lemmas.Result.{IfOk-weaker}
use Rattle.cc_core.specs.TermViews.{form_of, term_of}
use Rattle.cc_core.specs.declared.terms.Form.{Form}
use Rattle.cc_core.specs.declared.terms.Node.{Node}
use Rattle.cc_validity.specs.Captures.{body_in, parts_in}
use Rattle.cc_validity.proofs.GatheredTerms.{down_start, down_body, down_first, down_ends}
use Rattle.cc_validity.proofs.captures.descend.Goals as goal

pub loop-inner-init : goal.loop-inner-init
loop-inner-init c = down_start

pub loop-inner-preserved-in-Fun : goal.loop-inner-preserved-in-Fun
loop-inner-preserved-in-Fun c =
    let is = ap (λ (f : Form). body_in (form_of f)) c.in-Fun.is ∙ sym (ap (λ (n : Node). Some (term_of n)) c.deref-inner.ensures) in
    down_body c.loop-inner.waiting.items _ c.in_ok-push-in-Fun.ensures.items c.loop-inner.invariant refl refl is is

pub loop-inner-preserved-in-TFun : goal.loop-inner-preserved-in-TFun
loop-inner-preserved-in-TFun c =
    let is = ap (λ (f : Form). body_in (form_of f)) c.in-TFun.is ∙ sym (ap (λ (n : Node). Some (term_of n)) c.deref-inner-in-TFun.ensures) in
    down_body c.loop-inner.waiting.items _ c.in_ok-push-in-TFun.ensures.items c.loop-inner.invariant refl refl is is

pub loop-inner-preserved-in-Boundary : goal.loop-inner-preserved-in-Boundary
loop-inner-preserved-in-Boundary c =
    let is = ap (λ (f : Form). body_in (form_of f)) c.in-Boundary.is ∙ sym (ap (λ (n : Node). Some (term_of n)) c.deref-inner-in-Boundary.ensures) in
    down_body c.loop-inner.waiting.items _ c.in_ok-push-in-Boundary.ensures.items c.loop-inner.invariant refl refl is is

pub loop-inner-preserved-in-Let : goal.loop-inner-preserved-in-Let
loop-inner-preserved-in-Let c =
    let is = ap (λ (f : Form). parts_in (form_of f)) c.in-Let.is
    ∙ sym (ap (λ (n : Node). Some (term_of n, term_of c.in-Let.body.value)) c.deref-inner-in-Let.ensures) in
    down_first c.loop-inner.waiting.items _ c.in_ok-push-in-Let.ensures.items c.loop-inner.invariant refl refl is is

pub loop-inner-preserved : goal.loop-inner-preserved
loop-inner-preserved c =
    let is = ap (λ (f : Form). parts_in (form_of f)) c.in-If.is
    ∙ sym (ap (λ (n : Node). Some (term_of n, term_of c.in-If.negative.value)) c.deref-inner-in-If.ensures) in
    down_first c.loop-inner.waiting.items _ c.in_ok-push-in-If.ensures.items c.loop-inner.invariant refl refl is is

pub returns-in_default : goal.returns-in_default
returns-in_default c =
    IfOk-weaker c.found_alone.result _ _ (λ f is. down_ends c.loop-inner.invariant is) c.found_alone.ensures
