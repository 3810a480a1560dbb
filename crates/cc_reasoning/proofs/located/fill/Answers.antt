use Rattle.std.proofs.Common.{◌≡◌, ◌<◌, length, rules}
use Rattle.cc_causes.specs.Views.{locals_of}
use Rattle.cc_reasoning.proofs.LocatedSteps.{filled_more}
use Rattle.cc_reasoning.proofs.located.fill.Goals as goal

pub loop-known-preserved : goal.loop-known-preserved
loop-known-preserved c =
    let same : locals_of c.in_ok-clone.field-0.value ≡ locals_of c.args.locals.now.value = search rules in
    let fewer : length c.loop-known.known.items < c.args.count = search rules in
    filled_more (λ x. locals_of x.value) c.loop-known.known.items c.push.new.self.items c.in_ok-clone.field-0
    (locals_of c.args.locals.now.value) c.args.count _ c.in_ok-push.ensures.items
    same fewer c.loop-known.invariant
