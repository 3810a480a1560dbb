use Rattle.std.proofs.Common.{sym, ap, ◌∙◌}
use Rattle.std.proofs.lemmas.Result.{MatchResult-weaker}
use Rattle.cc_core.specs.TermViews.{term_of}
use Rattle.cc_core.proofs.NothingFilled.{filled_term-nothing}
use Rattle.cc_core.proofs.substitution.fill_term.Goals as goal

pub returns-then-is_empty-clause-term : goal.returns-then-is_empty-clause-term
returns-then-is_empty-clause-term c =
    let stays = filled_term-nothing c.args.filling.now (term_of c.args.node.now.value) (sym c.is_empty.ensures ∙ c.if-is_empty.true) in
    MatchResult-weaker c.clone.result c.clone.ensures.cases (λ copy same. ap term_of same ∙ sym stays) (λ error no. tt)
