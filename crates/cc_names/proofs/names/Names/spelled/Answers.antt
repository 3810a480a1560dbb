use Rattle.std.proofs.Common.{length, arith, ◌<◌, ◌∙◌, sym}
use Rattle.cc_names.proofs.PlacedNames.{spells, place_within}
use Rattle.cc_names.proofs.names.Names.spelled.Goals as goal

pub overflow_cast-result : goal.overflow_cast-result
overflow_cast-result c =
    let within : c.in-Some.index < length c.args.self.now =
    place_within (spells c.args.word.now) c.args.self.now c.in-Some.index (sym c.in-Some.is ∙ c.place_of.ensures)
    in
    omega (arith, within, c.requires)
