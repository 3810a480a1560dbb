use Rattle.std.proofs.Common.{refl, sym, ◌∙◌}
use Rattle.std.specs.Prelude.{codes}
use Rattle.std.specs.Str.{bytes_eq}
use Rattle.cc_conversation.proofs.OrderTurns.{first_heard}
use Rattle.cc_conversation.proofs.conversing.hear_first.Goals as goal
use Rattle.cc_job.proofs.HeadLaws.{is_word}

pub returns-then-eq-clause-heard : goal.returns-then-eq-clause-heard
returns-then-eq-clause-heard g c = (
  first_heard c.args.reader.now c.next_line.new.self (g.S.Source.left c.args.source.now) (g.S.Source.left c.next_line.new.source) c.new-line.result.items
      c.next_line.new.line.items _ _ c.new-line.ensures.items c.in-Ok-true.field-0-test c.in-Ok-true.ensures.heard
      (is_word c.next_line.new.line.items (codes "capc 1\n") (sym (c.eq.ensures ∙ (λ i. bytes_eq (c.as_slice.ensures.value i) (c.as_slice-in-Ok-true.ensures i))) ∙ c.if-eq.true)),
  refl,
)
