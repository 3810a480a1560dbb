use Rattle.std.proofs.Common.{◌∙◌, arith, sym}
use Rattle.cc_binding.specs.Binding.{is_beyond}
use Rattle.cc_binding.proofs.Lists.{finds_first, finds_nothing}
use Rattle.cc_session.specs.Modules.{module_of}
use Rattle.cc_binding.proofs.beyond.first_device.Goals as goal

pub returns-then-is_beyond : goal.returns-then-is_beyond
returns-then-is_beyond c =
    let current = module_of c.args.«module».now in
    sym
    (finds_first (is_beyond c.args.names.now.names.items c.args.policy.now current) 0 c.args.count c.loop-device.device (record {
      low = omega arith;
      high = omega arith;
      passes = sym c.is_beyond.ensures.beyond ∙ c.if-is_beyond.true;
      none = λ k low below. c.loop-device.invariant.none k below;
    }))

pub returns : goal.returns
returns c =
    let current = module_of c.args.«module».now in
    sym
    (finds_nothing (is_beyond c.args.names.now.names.items c.args.policy.now current) 0 c.args.count
    (λ k low high. c.loop-device.invariant.none k (omega arith)))
