use Rattle.std.proofs.Common.{arith, ap, ◌∙◌, length, get_or}
use Rattle.std.specs.Char.{is_ascii}
use Rattle.cc_lex.proofs.AsciiWords.{start_behind}
use Rattle.cc_lex.proofs.size.first_and_rest.Goals as goal

pub range_from-requires : goal.range_from-requires
range_from-requires c some =
    let bytes = c.as_bytes.ensures.value in
    let count = ap length bytes in (
      omega (arith, count, c.in-len1-up.len_at_least),
      start_behind c.args.text.now c.is_ascii.result c.utf8.text (c.is_ascii.ensures ∙ ap (λ bs. is_ascii (get_or bs 0 0)) bytes) c.if-is_ascii.true,
    )
