use Rattle.std.proofs.Common.{Option, arith, subst}
use Rattle.std.specs.Option.{option_map}
use Rattle.cc_mismatch.specs.declared.parts.Parts.{Parts}
use Rattle.cc_mismatch.specs.Descents.{LeadsTo}
use Rattle.cc_mismatch.specs.Views.{pair_of}
use Rattle.cc_mismatch.proofs.LeadingParts.{way_begins, way_goes_on, way_ends, steps_left}
use Rattle.cc_mismatch.proofs.descent.descend.Goals as goal

pub loop-parts-init : goal.loop-parts-init
loop-parts-init c = way_begins (pair_of c.args.from) c.args.steps c.requires.formed c.requires.apart

pub loop-parts-preserved : goal.loop-parts-preserved
loop-parts-preserved c =
    let parts = pair_of c.loop-parts.parts in
    way_goes_on (pair_of c.args.from) parts (pair_of c.in-Some.inner) c.loop-parts.left
    (subst (λ (o : Option Parts). LeadsTo parts (option_map pair_of o)) c.in-Some.is c.in_ok-inner.ensures) c.loop-parts.invariant

pub returns : goal.returns
returns c =
    let parts = pair_of c.loop-parts.parts in
    way_ends (pair_of c.args.from) parts c.loop-parts.left
    (subst (λ (o : Option Parts). LeadsTo parts (option_map pair_of o)) c.in_default.is c.in_ok-inner.ensures) c.loop-parts.invariant

pub overflow_sub-left : goal.overflow_sub-left
overflow_sub-left c = steps_left (pair_of c.args.from) (pair_of c.loop-parts.parts) c.loop-parts.left c.loop-parts.invariant

pub loop-parts-smaller : goal.loop-parts-smaller
loop-parts-smaller c =
    let some = steps_left (pair_of c.args.from) (pair_of c.loop-parts.parts) c.loop-parts.left c.loop-parts.invariant in
    omega (arith, some)
