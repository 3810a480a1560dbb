use Rattle.std.proofs.Common.{sym, ◌∙◌}
use Rattle.cc_replay.proofs.LineByLine.{text_stands, text_differs}
use Rattle.cc_replay.proofs.replaying.behind_text.Goals as goal

pub returns-then-eq : goal.returns-then-eq
returns-then-eq c rest =
    text_stands c.args.lines.now c.next_line.result.0.now c.next_line.result.1.now c.args.text.now c.as_bytes.result.now c.next_line.ensures
    (sym c.is_empty.ensures ∙ c.if-is_empty.false) c.as_bytes.ensures.value rest (sym c.eq.ensures ∙ c.if-eq.true)

pub returns-else-eq : goal.returns-else-eq
returns-else-eq c rest =
    text_differs c.args.lines.now c.next_line.result.0.now c.next_line.result.1.now c.args.text.now c.as_bytes.result.now c.next_line.ensures
    (sym c.is_empty.ensures ∙ c.if-is_empty.false) c.as_bytes.ensures.value rest (sym c.eq.ensures ∙ c.if-eq.false)
