use Rattle.std.proofs.Common.{map, ap, sym, ◌∙◌}
use Rattle.std.proofs.lemmas.List.{at_drop_all}
use Rattle.cc_core.specs.TermViews.{context_of}
use Rattle.cc_certificate_judging.specs.Judging.{with_binds, bind_type}
use Rattle.cc_certificate_judging.proofs.JudgedAnswers.{bind_step}
use Rattle.cc_certificate_judging.proofs.judging.context_of_binds.Goals as goal

pub loop-bind-init : goal.loop-bind-init
loop-bind-init c = ap (λ x. with_binds (context_of x) (map bind_type c.args.binds.now)) c.new-ctx.ensures

pub loop-bind-preserved : goal.loop-bind-preserved
loop-bind-preserved c =
    bind_step c.args.binds.now c.loop-bind.bind-index c.bind-item.result (context_of c.loop-bind.ctx) (context_of c.in_ok-ctx.ctx) _
    c.loop-bind-test.true c.bind-item.is c.in_ok-ctx.ensures c.loop-bind.invariant

pub returns : goal.returns
returns c =
    sym (at_drop_all (λ l. with_binds (context_of c.loop-bind.ctx) (map bind_type l)) c.args.binds.now c.loop-bind.bind-index c.loop-bind-test.false)
    ∙ c.loop-bind.invariant
