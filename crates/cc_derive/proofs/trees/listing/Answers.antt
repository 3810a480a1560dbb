use Rattle.std.proofs.Common.{map, ap, ◌∙◌}
use Rattle.cc_core.specs.Derivations.{Premise}
use Rattle.cc_derivation.specs.declared.derivation.Premises.{Premises}
use Rattle.cc_derivation.specs.DerivationViews.{premises_of, der_of}
use Rattle.cc_derive.specs.Trees.{listed_before}
use Rattle.cc_derive.proofs.Counts.{listed_before-popped}
use Rattle.cc_derive.proofs.trees.listing.Goals as goal

pub loop-der-preserved : goal.loop-der-preserved
loop-der-preserved c =
    ap (λ (r : Premises). listed_before (map (λ d. der_of d.value) c.pop.new.self.items) (Premise (der_of c.in-Some.der.value) (premises_of r)))
    c.in_ok-new.ensures.ok
    ∙ listed_before-popped c.loop-der.left.items c.pop.new.self.items c.in-Some.der (λ d. der_of d.value) (premises_of c.loop-der.list) c.in-Some.ensures.items
    ∙ c.loop-der.invariant
