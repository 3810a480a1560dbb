use Rattle.std.proofs.Common.{◌∙◌, ap, length, List, ℕ, Some, refl, sym}
use Rattle.std.proofs.lemmas.Bool.{ltb-true}
use Rattle.std.proofs.lemmas.Option.{slice_get_read, slice_get-map, same_Some}
use Rattle.std.specs.Cmp.Lexicographic.{bytes_decides}
use Rattle.std.specs.Option.{option_map}
use Rattle.cc_judge.specs.declared.importing.Importing.{Importing}
use Rattle.cc_judge.proofs.known_graph.is_module.Goals as goal

pub returns-then-eq : goal.returns-then-eq
returns-then-eq c =
    let modules = c.args.modules.now in
    let one = c.in-Some.module.now in
    let entry : Importing → List ℕ × List (List ℕ) = λ one. (one.name, one.sources.items) in
    let found = c.in-Some.ensures.lookup in
    let there = slice_get_read modules (length modules) c.args.at one refl
    (ltb-true c.args.at (length modules) (sym found.0)) found.1 in
    let named = (bytes_decides one.name c.args.name.now).0 (sym c.eq.ensures ∙ c.if-eq.true) in
    let listed = slice_get-map entry modules c.args.at ∙ ap (option_map entry) there in (
      λ same.
          let from = sym c.as_slice.ensures.value ∙ c.are_from.ensures.0 same in
          listed ∙ (λ i. Some (named i, from i)),
      λ stands.
          c.are_from.ensures.1
          (c.as_slice.ensures.value ∙ ap (λ e. e.1) (same_Some (entry one) _ (sym listed ∙ stands))),
    )

pub returns-else-eq : goal.returns-else-eq
returns-else-eq c =
    let modules = c.args.modules.now in
    let one = c.in-Some.module.now in
    let entry : Importing → List ℕ × List (List ℕ) = λ one. (one.name, one.sources.items) in
    let found = c.in-Some.ensures.lookup in
    let there = slice_get_read modules (length modules) c.args.at one refl
    (ltb-true c.args.at (length modules) (sym found.0)) found.1 in
    let listed = slice_get-map entry modules c.args.at ∙ ap (option_map entry) there in (
      λ same. cc,
      λ stands.
          absurd
          (let yes = (bytes_decides one.name c.args.name.now).1
          (ap (λ e. e.0) (same_Some (entry one) _ (sym listed ∙ stands))) in
          let no = sym c.eq.ensures ∙ c.if-eq.false in cc),
    )
