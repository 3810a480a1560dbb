-- Worked submissions, by computation.
use Rattle.std.proofs.Common.{refl}
use Rattle.cc_certificate_examples.proofs.ComputedLines.{line_computing}
use Rattle.cc_worked_texts.proofs.ComputedModules.{text_computing}
use Rattle.cc_worked_vouching.specs.VouchingExamples as example
use Rattle.cc_worked_vouching.proofs.ComputedReplies.{replied}

pub vouched_for : example.VouchedFor
unfolding text_computing line_computing
vouched_for = record {
  two_definitions = replied 40 _ _ _ (((refl, refl), ((refl, refl), tt)), tt) refl;
  claims_in_another_order = replied 40 _ _ _ (((tt, tt), ((refl, refl), ((refl, refl), tt))), tt) refl;
  import = replied 40 _ _ _ (((refl, refl), ((refl, refl), tt)), (((refl, refl), tt), tt)) refl;
  omitted_set = replied 40 _ _ _ (((refl, refl), tt), tt) refl;
  recursion = replied 40 _ _ _ (((refl, refl), tt), tt) refl;
  nothing = replied 40 _ _ _ (tt, tt) refl;
}
