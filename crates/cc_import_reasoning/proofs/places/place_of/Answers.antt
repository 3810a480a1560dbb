use Rattle.std.proofs.Common.{rules}
use Rattle.std.proofs.lemmas.Fn.{always_returns_same}
use Rattle.cc_base.specs.Names.{compare_names}
use Rattle.cc_import_reasoning.proofs.FoundPlaces.{found_place}
use Rattle.cc_import_reasoning.proofs.places.place_of.Goals as goal

pub returns : goal.returns
returns c =
    let found = c.binary_search_by.ensures.position (λ m. compare_names m.name c.args.name.now)
    (always_returns_same _ _ _ (λ a r f' k. search rules)) in
    rw c.ok.ensures.value (found_place c.args.modules.now c.requires c.args.name.now c.binary_search_by.result
    c.binary_search_by.ensures.bound found)
