use Rattle.std.proofs.Common.{◌∙◌, ap, Some, option_map}
use Rattle.cc_core.specs.WellFormed as plain
use Rattle.cc_core.proofs.CallLemmas.{lookup-map}
use Rattle.cc_core.proofs.wellformed.entry_kind.Goals as goal

pub returns-in-Some : goal.returns-in-Some
returns-in-Some c = rw lookup-map (ap Some c.kind_of.ensures ∙ ap (option_map plain.kind_of) c.in-Some.ensures)

pub returns-in-None : goal.returns-in-None
returns-in-None c = rw lookup-map (ap (option_map plain.kind_of) c.in-None.ensures)
