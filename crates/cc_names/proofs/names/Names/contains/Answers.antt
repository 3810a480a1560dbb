use Rattle.std.proofs.Common.{ap, ◌∙◌}
use Rattle.std.specs.Option.{is_some}
use Rattle.std.specs.Str.{bytes_eq}
use Rattle.cc_names.proofs.PlacedNames.{any_found}
use Rattle.cc_names.proofs.names.Names.contains.Goals as goal

pub returns : goal.returns
returns c =
    c.is_some.ensures ∙ ap is_some c.named.ensures ∙ any_found (bytes_eq c.args.name.now) c.args.self.now
