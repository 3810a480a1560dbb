use Rattle.std.proofs.Common.{map, drop}
use Rattle.cc_mnf.specs.CoreModules as core
use Rattle.cc_vouch.specs.VouchViews.{definition_of}
use Rattle.cc_module_vouching.specs.ClaimViews.{claim_of}
use Rattle.cc_module_vouching.proofs.VouchedInOrder.{StandsAt}
use Rattle.cc_module_vouching.proofs.definitions.answer_all.Given as goal

-- the definitions so far are vouched for, and those that are left decide
abbrev pub invariant-loop-def : goal.invariant-loop-def
invariant-loop-def l =
    StandsAt l.fn.devices l.fn.known.items (map claim_of l.claims) (map core.definition_of l.defs) l.known.items
    (map definition_of l.vouched.items) (map core.definition_of (drop l.def-index l.defs))
