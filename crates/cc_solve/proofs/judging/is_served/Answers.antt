use Rattle.std.proofs.Common.{[], ◌∷◌, subst}
use Rattle.cc_subty.specs.Demands.{demand_of}
use Rattle.cc_solve.specs.Solutions.{filling_of, CanBeJudged}
use Rattle.cc_solve.proofs.Judgements.{judged_context, judged_left, served_below, served_capless}
use Rattle.cc_solve.proofs.judging.is_served.Goals as goal

pub is_below-answer-requires-clause-context : goal.is_below-answer-requires-clause-context
is_below-answer-requires-clause-context c =
    judged_context (filling_of c.args.filling.now) c.in-Sub.ctx c.in-Sub.left c.in-Sub.right c.in-Sub.at
    (subst (λ d. CanBeJudged (filling_of c.args.filling.now) (demand_of d ∷ [])) c.in-Sub.is c.requires.judged)

pub is_below-answer-requires-clause-left : goal.is_below-answer-requires-clause-left
is_below-answer-requires-clause-left c =
    judged_left (filling_of c.args.filling.now) c.in-Sub.ctx c.in-Sub.left c.in-Sub.right c.in-Sub.at
    (subst (λ d. CanBeJudged (filling_of c.args.filling.now) (demand_of d ∷ [])) c.in-Sub.is c.requires.judged)

pub returns-in_ok-reserve-in-Sub-clause-served : goal.returns-in_ok-reserve-in-Sub-clause-served
returns-in_ok-reserve-in-Sub-clause-served c =
    served_below (filling_of c.args.filling.now) c.args.demand.now c.in-Sub.ctx c.in-Sub.left c.in-Sub.right c.in_ok-whole-in-Sub.whole c.in-Sub.at c.in-Sub.is c.in_ok-whole-in-Sub.ensures
    c.is_below-answer.result c.is_below-answer.ensures.decides

pub returns-in_ok-whole-in-NoCap-clause-served : goal.returns-in_ok-whole-in-NoCap-clause-served
returns-in_ok-whole-in-NoCap-clause-served c =
    served_capless (filling_of c.args.filling.now) c.args.demand.now c.in-NoCap.set c.in_ok-whole-in-NoCap.whole c.in-NoCap.at c.in-NoCap.is c.in_ok-whole-in-NoCap.ensures c.contains.result
    c.contains.ensures
