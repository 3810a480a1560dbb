use Rattle.std.proofs.Common.{◌<◌, length, sym, subst}
use Rattle.cc_explain.proofs.Targets.{named_earlier}
use Rattle.cc_explain.proofs.links.Links.entry.Goals as goal

pub returns-clause-earlier : goal.returns-clause-earlier
returns-clause-earlier c =
    named_earlier (λ entry. entry.items) c.self.inside.entries.items c.args.number c.index.result.now
    c.as_slice.result.now c.self.invariant
    (subst (λ entries. c.args.number < length entries) (sym c.self.view_is) c.requires) c.index.ensures
    c.as_slice.ensures.value
