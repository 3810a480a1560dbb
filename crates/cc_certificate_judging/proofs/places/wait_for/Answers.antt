use Rattle.std.proofs.Common.{map, sym}
use Rattle.std.proofs.lemmas.List.{append-nil}
use Rattle.cc_derivation.specs.DerivationViews.{rule_of}
use Rattle.cc_certificate_judging.specs.PassViews.{kinds_in}
use Rattle.cc_certificate_judging.proofs.PassSteps.{waits_more}
use Rattle.cc_certificate_judging.proofs.places.wait_for.Goals as goal

pub loop-index-init : goal.loop-index-init
loop-index-init c = sym (append-nil (map kinds_in c.args.waiting.now.items))

pub loop-index-preserved : goal.loop-index-preserved
loop-index-preserved c =
    waits_more kinds_in c.args.waiting.now.items c.loop-index.waiting.items c.push.new.self.items c.in_ok-inner.inner (kinds_in c.args.ctx.now) (rule_of c.args.rule) c.loop-index.index
    c.loop-index.invariant c.in_ok-push.ensures.items c.in_ok-inner.ensures
