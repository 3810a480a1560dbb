use Rattle.std.proofs.Common.{Some}
use Rattle.cc_module_vouching.proofs.PlacedNames.{given_name}
use Rattle.cc_module_vouching.proofs.claims.ClaimPlaces.put.Goals as goal

pub returns : goal.returns
returns c =
    given_name c.args.self.now.places c.insert.new.self c.in_ok-copy.copy c.args.name.now (Some c.args.place)
    c.in_ok-copy.ensures.cases c.in_ok-insert.ensures.updates
