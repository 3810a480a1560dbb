use Rattle.std.proofs.Common.{length, Some, ap, refl, sym, ◌∙◌}
use Rattle.std.proofs.lemmas.Bool.{ltb-true}
use Rattle.std.proofs.lemmas.Option.{slice_get_read, slice_get-map, same_Some}
use Rattle.std.specs.Cmp.Lexicographic.{bytes_decides}
use Rattle.std.specs.Option.{option_map}
use Rattle.cc_judge.proofs.names.is_text_at.Goals as goal

pub returns-in-Some : goal.returns-in-Some
returns-in-Some c =
    let texts = c.args.texts.now in
    let entry = c.in-Some.entry.now in
    let found = c.in-Some.ensures.lookup in
    let there = slice_get_read texts (length texts) c.args.at entry refl
    (ltb-true c.args.at (length texts) (sym found.0)) found.1 in
    let named = slice_get-map (λ e. e.0) texts c.args.at ∙ ap (option_map (λ e. e.0)) there in (
      λ same. named ∙ ap Some ((bytes_decides entry.0 c.args.name.now).0 (sym c.eq.ensures ∙ same)),
      λ stands.
          c.eq.ensures
          ∙ (bytes_decides entry.0 c.args.name.now).1 (same_Some entry.0 c.args.name.now (sym named ∙ stands)),
    )
