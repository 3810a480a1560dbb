use Rattle.std.proofs.Common.{length, refl, sym, ◌∙◌}
use Rattle.std.proofs.lemmas.Bool.{ltb-true}
use Rattle.std.proofs.lemmas.Option.{slice_get_read}
use Rattle.std.specs.Cmp.Lexicographic.{bytes_decides}
use Rattle.cc_import_reasoning.proofs.FoundPlaces.{stands_at}
use Rattle.cc_import_reasoning.proofs.places.is_at.Goals as goal

pub returns-in-Some : goal.returns-in-Some
returns-in-Some c = λ same.
    let modules = c.args.modules.now in
    let one = c.in-Some.module.now in
    let found = c.in-Some.ensures.lookup in
    let there = slice_get_read modules (length modules) c.args.at one refl (ltb-true c.args.at (length modules) (sym found.0)) found.1 in
    let (low, is) = stands_at modules c.args.at one there in
    (low, is ∙ (bytes_decides one.name c.args.name.now).0 (sym c.eq.ensures ∙ same))
