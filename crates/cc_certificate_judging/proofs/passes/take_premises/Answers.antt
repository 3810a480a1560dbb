use Rattle.std.proofs.Common.{◌≡◌, length, ap, sym, ◌∙◌, arith}
use Rattle.cc_derivation.specs.DerivationViews.{der_of, premises_of}
use Rattle.cc_validity.specs.Counting.{premise_list}
use Rattle.cc_certificate_judging.proofs.PassSteps.{none_short, taken_more}
use Rattle.cc_certificate_judging.proofs.passes.take_premises.Goals as goal

pub unreachable-requires : goal.unreachable-requires
unreachable-requires c =
    none_short (λ d. der_of d.value) c.args.built.now.items c.loop.built.items (premise_list (premises_of c.loop.premises)) c.loop.counter c.args.count
    (sym c.loop.built.ok.0 ∙ c.in_default.ensures.cases.0) c.loop.invariant.taken c.loop.invariant.count c.loop-test.true c.requires

pub loop-preserved : goal.loop-preserved
loop-preserved c =
    let same = ap (λ p. premise_list (premises_of p)) c.in_ok-rest.ensures.ok in
    let counted : length (premise_list (premises_of c.in_ok-rest.rest.value)) ≡ c.loop.counter = ap length same ∙ c.loop.invariant.count in
    record {
      count = omega (arith, counted);
      taken = taken_more (λ d. der_of d.value) c.args.built.now.items c.loop.built.items c.pop.new.self.items c.in-Some.last (premise_list (premises_of c.loop.premises)) _ c.loop.invariant.taken c.in-Some.ensures.items same;
    }
