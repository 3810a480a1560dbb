use Rattle.std.proofs.Common.{◌≡◌, ◌++◌, length, map}
use Rattle.cc_derivation.specs.DerivationViews.{der_of, premises_of}
use Rattle.cc_validity.specs.Counting.{premise_list}
use Rattle.cc_certificate_judging.proofs.passes.take_premises.Given as goal

abbrev pub invariant-loop : goal.invariant-loop
invariant-loop l =
    record {
      count : length (premise_list (premises_of l.premises)) ≡ l.counter;
      taken : map (λ d. der_of d.value) l.fn.built.items ≡ map (λ d. der_of d.value) l.built.items ++ premise_list (premises_of l.premises);
    }
