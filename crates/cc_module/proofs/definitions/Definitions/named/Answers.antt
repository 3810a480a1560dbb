use Rattle.std.proofs.Common.{◌∙◌, ap, List}
use Rattle.cc_module.specs.declared.judgement.CheckedDef.{CheckedDef}
use Rattle.cc_module.specs.DefinitionPlaces.{definition_at}
use Rattle.cc_module.proofs.definitions.Definitions.named.Goals as goal

pub returns : goal.returns
returns c =
    let self = c.args.self.now in
    c.definition_at.ensures
    ∙ ap (λ (ds : List CheckedDef). definition_at ds c.place.result) c.as_slice.ensures.value
    ∙ ap (definition_at self.defs.items) c.place.ensures
    ∙ self.found c.args.name.now
