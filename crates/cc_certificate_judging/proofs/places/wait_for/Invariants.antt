use Rattle.std.proofs.Common.{◌≡◌, ◌++◌, map}
use Rattle.cc_derivation.specs.DerivationViews.{rule_of}
use Rattle.cc_certificate_judging.specs.Passes.{kinds_above}
use Rattle.cc_certificate_judging.specs.PassViews.{kinds_in}
use Rattle.cc_certificate_judging.proofs.places.wait_for.Given as goal

abbrev pub invariant-loop-index : goal.invariant-loop-index
invariant-loop-index l = map kinds_in l.waiting.items ≡ map kinds_in l.fn.waiting.items ++ kinds_above (kinds_in l.ctx) (rule_of l.rule) 0 l.index
