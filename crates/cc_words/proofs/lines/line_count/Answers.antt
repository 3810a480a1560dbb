use Rattle.std.proofs.Common.{sym, ◌∙◌, arith}
use Rattle.cc_words.proofs.LineLists.{lines-length, line_shorter, line_counted}
use Rattle.cc_words.proofs.lines.line_count.Goals as goal

pub overflow_add-count : goal.overflow_add-count
overflow_add-count c =
    omega (
      arith,
      c.loop-rest.invariant,
      lines-length c.args.bytes.now,
      line_counted c.loop-rest.rest.now c.next_line.result.0.now c.next_line.result.1.now c.next_line.ensures (sym c.is_empty.ensures ∙ c.loop-rest-test.true),
    )

pub loop-rest-smaller : goal.loop-rest-smaller
loop-rest-smaller c = line_shorter c.loop-rest.rest.now c.next_line.result.0.now c.next_line.result.1.now c.next_line.ensures (sym c.is_empty.ensures ∙ c.loop-rest-test.true)

pub loop-rest-preserved : goal.loop-rest-preserved
loop-rest-preserved c =
    omega (
      arith,
      c.loop-rest.invariant,
      line_counted c.loop-rest.rest.now c.next_line.result.0.now c.next_line.result.1.now c.next_line.ensures (sym c.is_empty.ensures ∙ c.loop-rest-test.true),
    )
