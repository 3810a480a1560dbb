use Rattle.cc_type.proofs.RememberedInstances.{kept_call_is}
use Rattle.cc_type.proofs.instances.kept_call.Goals as goal

pub invariant_of-result : goal.invariant_of-result
invariant_of-result c = record {
  is = kept_call_is c.in_ok-ty.ty c.args.ty.now c.args.gives.now.value c.in_ok-gives.gives.value c.args.by c.requires
      c.in_ok-ty.ensures.cases c.in_ok-gives.ensures.cases;
}
