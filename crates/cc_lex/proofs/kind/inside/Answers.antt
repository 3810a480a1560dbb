use Rattle.std.proofs.Common.{arith}
use Rattle.cc_lex.proofs.QuotedTexts.{quoted, quoted-length, quoted-start, quoted-end, chars-inside}
use Rattle.cc_lex.proofs.kind.inside.Goals as goal

pub overflow_sub-text : goal.overflow_sub-text
overflow_sub-text c = omega (arith, quoted-length c.args.text.now (quoted c.args.text.now c.utf8.text c.requires))

pub range-requires-clause-start_le_end : goal.range-requires-clause-start_le_end
range-requires-clause-start_le_end c =
    omega (arith, quoted-length c.args.text.now (quoted c.args.text.now c.utf8.text c.requires))

pub range-requires-clause-start_boundary : goal.range-requires-clause-start_boundary
range-requires-clause-start_boundary c l =
    quoted-start c.args.text.now c.utf8.text (quoted c.args.text.now c.utf8.text c.requires)

pub range-requires-clause-end_boundary : goal.range-requires-clause-end_boundary
range-requires-clause-end_boundary c = quoted-end c.args.text.now (quoted c.args.text.now c.utf8.text c.requires)

pub returns : goal.returns
returns c =
    chars-inside c.args.text.now c.range.result.now (quoted c.args.text.now c.utf8.text c.requires) c.range.ensures.value
