use Rattle.std.proofs.Common.{◌≡◌, take}
use Rattle.cc_core.specs.TermViews.{context_of}
use Rattle.cc_verdicts.specs.ModuleVerdicts.{declared_context}
use Rattle.cc_module.proofs.contexts.declared_context.Given as goal

-- the context so far is that of the devices so far
abbrev pub invariant-loop-device : goal.invariant-loop-device
invariant-loop-device l = context_of l.ctx ≡ declared_context (take l.device-index l.devices)
