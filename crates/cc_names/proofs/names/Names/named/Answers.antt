use Rattle.std.proofs.Common.{ap, ◌∙◌}
use Rattle.std.specs.Prelude.{position}
use Rattle.cc_names.proofs.PlacedNames.{spells, name_found}
use Rattle.cc_names.proofs.names.Names.named.Goals as goal

pub returns : goal.returns
returns c =
    let names = c.args.self.now in
    c.place_of.ensures
    ∙ ap (λ text. position (spells text) names) (c.as_bytes.ensures.value ∙ c.as_str.ensures.bytes)
    ∙ name_found c.args.name.now names
