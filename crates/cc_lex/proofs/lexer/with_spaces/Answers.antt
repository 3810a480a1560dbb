use Rattle.std.proofs.Common.{arith, ap, ◌∙◌}
use Rattle.std.specs.Str.{chars}
use Rattle.cc_lex.specs.declared.size.Class.TheVariants as classes
use Rattle.cc_lex.specs.Cutting.{size_of, front_in}
use Rattle.cc_lex.proofs.Sizes.{IsWithSpaces, with-spaces}
use Rattle.cc_lex.proofs.TextFronts.{behind-front}
use Rattle.cc_lex.proofs.lexer.with_spaces.Goals as goal

pub range_from-requires : goal.range_from-requires
range_from-requires c l = (behind-front c.args.after.now c.args.front.characters c.args.front.bytes c.utf8.after (ap (λ s. s.bytes) c.requires)).boundary

sizes : (c : goal.After-struct_known-4-1) → IsWithSpaces c.args.after.now c.args.front c.size_in-spaces.result
sizes c =
    with-spaces c.args.after.now c.args.front c.size_in-spaces.result c.utf8.after c.requires
    (c.size_in-spaces.ensures ∙ ap (λ bs. size_of (front_in classes.Spaces (chars bs))) c.range_from.ensures.value)

pub overflow_add-result : goal.overflow_add-result
overflow_add-result c =
    omega (
      arith,
      (with-spaces c.args.after.now c.args.front c.size_in-spaces.result c.utf8.after c.requires
          (c.size_in-spaces.ensures ∙ ap (λ bs. size_of (front_in classes.Spaces (chars bs))) c.range_from.ensures.value)).characters,
    )

pub overflow_add-result-2 : goal.overflow_add-result-2
overflow_add-result-2 c = omega (arith, (sizes c).bytes)

pub returns : goal.returns
returns c = (sizes c).size
