use Rattle.std.proofs.Common.{◌≤◌, subst}
use Rattle.cc_validity.specs.declared.captures.Captures.{Captures}
use Rattle.cc_validity.specs.DroppedCaptures.{NoneLarger}
use Rattle.cc_validity.proofs.captures.Captures.TheLaws.{the_size}
use Rattle.cc_validity.proofs.captures.Captures.+drops.Goals as goal

pub loop-self-preserved-in-Some : goal.loop-self-preserved-in-Some
loop-self-preserved-in-Some t c =
    let limit = the_size c.args.self in
    let none = subst (λ (x : Captures). the_size x ≤ limit) c.in-Unknown.is c.loop-self.invariant.own in
    let both : (the_size c.in-Some.first ≤ limit) × NoneLarger the_size limit c.in-Some.others =
    c.in-Some.ensures.no_larger the_size limit none c.loop-self.invariant.others in
    record { own = both.0; others = both.1 }
