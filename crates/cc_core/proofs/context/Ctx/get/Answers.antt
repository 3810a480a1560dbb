use Rattle.cc_core.specs.TermViews.{bind_of}
use Rattle.cc_core.specs.Entries.{entries}
use Rattle.cc_core.proofs.IndexedLookups.{found-past, found-at}
use Rattle.cc_core.proofs.context.Ctx.get.Goals as goal

pub returns-then-position-self : goal.returns-then-position-self
returns-then-position-self c = found-past bind_of (entries c.self.inside.head) c.args.self.now c.self.inside.len c.args.position c.self.invariant.0 c.self.view_is c.if-position-self.true

pub returns : goal.returns
returns c = found-at bind_of (λ b. b.now) c.entry_at.result (entries c.self.inside.head) c.args.self.now c.self.inside.len c.args.position c.self.invariant.0 c.self.view_is c.if-position-self.false c.entry_at.ensures
