use Rattle.std.proofs.Common.{◌≡◌, true, sym, ◌∙◌, subst}
use Rattle.std.proofs.lemmas.List.{length-map}
use Rattle.cc_checking.specs.Comparison.{demanded}
use Rattle.cc_core.specs.TermViews.{bind_of, context_of}
use Rattle.cc_subty.specs.Demands.{demand_of, asked_of}
use Rattle.cc_known.specs.EndsAgain.{comes_again}
use Rattle.cc_type.proofs.RememberedLater.{repeats, kept_comes}
use Rattle.cc_type.proofs.log.keep_below.Goals as goal

pub returns-clause-again : goal.returns-clause-again
returns-clause-again c = λ again.
    let base = c.args.log.now.known.base in
    let demand = demanded (context_of c.args.ctx.now) c.args.left.now c.args.right.now in
    subst (λ n. comes_again n (asked_of c.add.new.log.demands) demand ≡ true)
    (c.len-oldest.ensures ∙ sym (length-map base bind_of))
    (kept_comes c.len-oldest.result (asked_of c.args.log.now.demands) (asked_of c.add.new.log.demands) c.args.at demand
    (demand_of c.in_ok-demand.demand) c.in_ok-add.ensures.added c.in_ok-demand.ensures
    (c.kept_with-2.ensures.again again c.args.left.now) (c.kept_with-2.ensures.again_hole again))

pub returns-then-branch-2-clause-again : goal.returns-then-branch-2-clause-again
returns-then-branch-2-clause-again c = λ again.
    let base = c.args.log.now.known.base in
    let demand = demanded (context_of c.args.ctx.now) c.args.left.now c.args.right.now in
    subst (λ n. comes_again n (asked_of c.args.log.now.demands) demand ≡ true)
    (c.len-oldest.ensures ∙ sym (length-map base bind_of))
    (repeats c.len-oldest.result (asked_of c.args.log.now.demands) demand (c.kept_with.ensures.again again c.args.left.now)
    (sym c.in_ok-is_repeated.ensures ∙ c.if-branch-2.true))
