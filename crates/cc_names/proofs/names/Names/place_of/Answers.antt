use Rattle.std.proofs.Common.{ap, ◌∙◌}
use Rattle.std.specs.Prelude.{position}
use Rattle.cc_names.proofs.PlacedNames.{spells, found_place}
use Rattle.cc_names.proofs.names.Names.place_of.Goals as goal

pub returns : goal.returns
returns c =
    let text = c.args.text.now in
    let names = c.self.inside.names.items in
    found_place text names c.copied.result (c.copied.ensures ∙ c.get.ensures.value ∙ c.self.invariant text)
    ∙ ap (position (spells text)) c.self.view_is
