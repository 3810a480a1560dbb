use Rattle.std.proofs.Common.{true, false, [], ◌∷◌, ◌++◌, sym, ap, ◌∙◌}
use Rattle.std.proofs.lemmas.List.{append-nil}
use Rattle.cc_summary.proofs.Tallies.{tally-grown}
use Rattle.cc_summary.proofs.tally.Tally.take.Goals as goal

pub returns-in_ok-push : goal.returns-in_ok-push
returns-in_ok-push c = λ text is.
    let next = tally-grown text c.args.byte _ _ _ _ is false c.if-not-self.true in (
      c.begin_line.ensures.lines ∙ next.0,
      cc,
      c.in_ok-push.ensures.items ∙ (ap (λ line. line ++ c.args.byte ∷ []) c.begin_line.ensures.last ∙ next.2),
      next.3,
    )

pub returns-else-not-self : goal.returns-else-not-self
returns-else-not-self c = λ text is.
    let next = tally-grown text c.args.byte _ _ _ _ is true c.if-not-self.false in (
      c.begin_line.ensures.lines ∙ next.0,
      cc,
      c.begin_line.ensures.last ∙ (sym (append-nil _) ∙ next.2),
      next.3,
    )
