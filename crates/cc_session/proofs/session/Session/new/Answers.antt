use Rattle.cc_session.proofs.SessionFacts.{new_session}
use Rattle.cc_session.proofs.session.Session.new.Goals as goal

pub invariant_of-result : goal.invariant_of-result
invariant_of-result c =
    new_session c.args.devices.items c.new.result.items c.new-2.result c.requires c.new.ensures.items
    c.new-2.ensures.verdicts c.new-2.ensures.grounds
