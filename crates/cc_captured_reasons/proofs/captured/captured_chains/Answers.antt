use Rattle.std.proofs.Common.{List, map, subst}
use Rattle.cc_capture.specs.declared.var.Elem.{Elem}
use Rattle.cc_reasons.specs.ReasonTexts.{is_end}
use Rattle.cc_captured_reasons.specs.CapturedChains.{AreChains}
use Rattle.cc_captured_reasons.proofs.captured.captured_chains.Goals as goal

pub returns-clause-chains : goal.returns-clause-chains
returns-clause-chains c =
    λ entry leads.
    subst (λ (list : List Elem). AreChains entry (is_end c.args.devices) list (map (λ chain. chain.items) c.in_ok-chains.chains.items)) c.as_slice-3.ensures.value
    (c.in_ok-chains.ensures entry leads)
