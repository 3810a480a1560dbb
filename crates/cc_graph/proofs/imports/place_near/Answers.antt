use Rattle.std.proofs.Common.{ap, sym, ◌∙◌}
use Rattle.std.specs.Str.{bytes_eq}
use Rattle.cc_graph.specs.Places.{name_at}
use Rattle.cc_graph.proofs.NameLemmas.{same_name, names_apart}
use Rattle.cc_graph.proofs.imports.place_near.Goals as goal

pub returns-then-is_at : goal.returns-then-is_at
returns-then-is_at c =
    let modules = c.args.modules.now in
    let at = c.is_at.ensures c.if-is_at.true in
    let same = same_name (name_at modules c.args.near) c.args.name.now at.1 in (
      at.0,
      λ place inside. ap (bytes_eq (name_at modules place)) (sym same)
          ∙ names_apart modules c.requires place c.args.near inside at.0,
    )
