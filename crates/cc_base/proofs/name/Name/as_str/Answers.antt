use Rattle.std.proofs.Common.{sym, ap, ◌∙◌}
use Rattle.std.specs.Str.{chars}
use Rattle.std.proofs.lemmas.Str.{encodes-chars}
use Rattle.cc_base.proofs.name.Name.as_str.Goals as goal
use lib.Utf8.{encodes}

pub returns-clause-bytes : goal.returns-clause-bytes
returns-clause-bytes c =
    let spells = ap chars c.as_str.ensures.value ∙ c.self.view_is in
    sym (encodes-chars c.as_str.result.now c.as_str.utf8) ∙ ap encodes spells
