use Rattle.std.proofs.Common.{sym, ap, ◌∙◌, ◌==◌, refl, arith}
use Rattle.std.specs.Str.{chars}
use Rattle.cc_base.specs.Names.{first_passes}
use Rattle.cc_lex.proofs.Sizes.{string-behind, not-closed, closed}
use Rattle.cc_lex.proofs.form.string_front.Goals as goal

pub range_from-behind-requires : goal.range_from-behind-requires
range_from-behind-requires c l = (string-behind c.args.after.now c.size_in-inside.result c.utf8.after c.size_in-inside.ensures).boundary

pub returns-then-not-begins_with : goal.returns-then-not-begins_with
returns-then-not-begins_with c =
    not-closed c.args.after.now c.size_in-inside.result c.utf8.after c.size_in-inside.ensures
    (ap (λ bs. first_passes (λ character. character == 34) (chars bs)) (sym c.range_from-behind.ensures.value) ∙ (sym c.begins_with.ensures ∙ c.if-not-begins_with.true))

pub returns : goal.returns
returns c =
    closed c.args.after.now c.size_in-inside.result _ _ c.utf8.after c.size_in-inside.ensures c.if-inside-gt200.false
    (ap (λ bs. first_passes (λ character. character == 34) (chars bs)) (sym c.range_from-behind.ensures.value) ∙ (sym c.begins_with.ensures ∙ c.if-not-begins_with.false))
    refl (omega (arith, c.range_from-behind.ensures.len))
