-- Each reason, by computation.
use Rattle.std.proofs.Common.{refl}
use Rattle.cc_certificate_examples.proofs.ComputedLines.{line_computing}
use Rattle.cc_worked_texts.proofs.ComputedModules.{text_computing}
use Rattle.cc_worked_vouching.specs.VouchingExamples as example
use Rattle.cc_worked_vouching.proofs.ComputedReplies.{replied}

pub reasons : example.Reasons
unfolding text_computing line_computing
reasons = record {
  no_claim = replied 40 _ _ _ (((refl, refl), tt), tt) refl;
  bad_line = replied 40 _ _ _ (((tt, tt), tt), tt) refl;
  bad_node = replied 40 _ _ _ (((refl, tt), tt), tt) refl;
  no_module = replied 40 _ _ _ (tt, tt) refl;
  no_such_module = replied 40 _ _ _ (((refl, refl), tt), tt) refl;
  no_such_definition = replied 40 _ _ _ (tt, (((refl, refl), tt), tt)) refl;
  refused_module = replied 40 _ _ _ (tt, (((refl, refl), tt), tt)) refl;
  itself = replied 40 _ _ _ (tt, tt) refl;
  second_name = replied 40 _ _ _ (tt, tt) refl;
  another_set = replied 40 _ _ _ (((refl, refl), tt), tt) refl;
  another_shape = replied 40 _ _ _ (((refl, refl), tt), tt) refl;
  no_signature = replied 40 _ _ _ (((refl, refl), ((refl, refl), tt)), tt) refl;
}

pub forgeries : example.Forgeries
unfolding text_computing line_computing
forgeries = record {
  better_import = replied 40 _ _ _ (((refl, refl), ((refl, refl), tt)), (((refl, refl), tt), tt)) refl;
  better_definition = replied 40 _ _ _ (((refl, refl), ((refl, refl), tt)), tt) refl;
  another_device = replied 40 _ _ _ (((refl, refl), tt), tt) refl;
  pure_device = replied 40 _ _ _ (((refl, refl), tt), tt) refl;
  more_binds = replied 40 _ _ _ (((refl, refl), tt), tt) refl;
  fewer_binds = replied 40 _ _ _ (((refl, refl), tt), tt) refl;
  another_name = replied 40 _ _ _ (((refl, refl), tt), tt) refl;
  exchanged = replied 40 _ _ _ (((refl, refl), ((refl, refl), tt)), tt) refl;
  older_text = replied 40 _ _ _ (((refl, refl), tt), tt) refl;
  another_written_set = replied 40 _ _ _ (((refl, refl), tt), tt) refl;
  better_self = replied 40 _ _ _ (((refl, refl), tt), tt) refl;
}
