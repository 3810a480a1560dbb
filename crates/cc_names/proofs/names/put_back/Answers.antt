use Rattle.std.proofs.Common.{Some}
use Rattle.cc_names.proofs.PlacedNames.{given}
use Rattle.cc_names.proofs.names.put_back.Goals as goal

pub returns-in-Some : goal.returns-in-Some
returns-in-Some c =
    given c.args.places.now (c.get_mut.follows.lender c.args.place) c.args.text.now (Some c.args.place)
    ((c.get_mut.follows.holds c.args.place).3 c.requires)
