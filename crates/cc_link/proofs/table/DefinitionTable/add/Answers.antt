use Rattle.std.proofs.Common.{Some}
use Rattle.cc_module.proofs.PlacedNames.{given_name}
use Rattle.cc_link.proofs.table.DefinitionTable.add.Goals as goal

pub returns : goal.returns
returns c =
    given_name c.args.self.now.positions c.insert.new.self c.in_ok-copy.copy c.args.name.now (Some c.args.position)
    c.in_ok-copy.ensures.cases c.in_ok-insert.ensures.updates
