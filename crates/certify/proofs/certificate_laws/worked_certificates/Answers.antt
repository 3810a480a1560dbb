use Rattle.std.proofs.Common.{[], ◌++◌, ap, refl, arith}
use Rattle.std.specs.Prelude.{codes}
use Rattle.cc_capture.specs.Sets.{empty}
use Rattle.cc_core.specs.Shapes.{capturing}
use Rattle.cc_certificate_judging.specs.Answers.{ProvesType, HasBadLine, HasBadNode}
use Rattle.cc_certificate_judging.specs.JudgingExamples.{identity_shape}
use Rattle.certify.proofs.Exact.{example_answered}
use Rattle.certify.proofs.certificate_laws.worked_certificates.Goals as goal

pub returns : goal.returns
returns c = record {
  valid = example_answered _ _ 0 (ProvesType [] (capturing identity_shape empty)) (omega arith)
      c.worked_answers.ensures.valid.0 (ap (λ text. text ++ codes "\n") c.worked_answers.ensures.valid.1) refl;
  bad_node = example_answered _ _ 1 (HasBadNode 1) (omega arith) c.worked_answers.ensures.node.0
      (ap (λ text. text ++ codes "\n") c.worked_answers.ensures.node.1) refl;
  bad_line = example_answered _ _ 1 (HasBadLine 4) (omega arith) c.worked_answers.ensures.premise.0
      (ap (λ text. text ++ codes "\n") c.worked_answers.ensures.premise.1) refl;
}
