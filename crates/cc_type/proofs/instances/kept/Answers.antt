use Rattle.cc_type.proofs.RememberedInstances.{kept_is, kept_fits}
use Rattle.cc_type.proofs.instances.kept.Goals as goal

pub invariant_of-result : goal.invariant_of-result
invariant_of-result c = record {
  is = kept_is c.in_ok-ty.ty c.args.ty.now c.args.gives.now.value c.in_ok-gives.gives.value c.in_ok-by.by.value c.args.by.now.value
      c.requires.is c.in_ok-ty.ensures.cases c.in_ok-gives.ensures.cases c.in_ok-by.ensures.cases;
  fits = kept_fits c.in_ok-ty.ty c.args.ty.now c.requires.fits c.in_ok-ty.ensures.cases;
}
