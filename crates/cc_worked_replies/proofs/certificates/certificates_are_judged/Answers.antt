use Rattle.std.proofs.Common.{codes, true, false, [], ◌∷◌, refl}
use Rattle.cc_capture.specs.Sets.{empty}
use Rattle.cc_certificate_judging.specs.AnswerExamples.{function_node}
use Rattle.cc_certificate_judging.specs.Answers.{ProvesType, HasBadLine, HasBadNode}
use Rattle.cc_certificate_judging.specs.JudgingExamples.{identity_shape}
use Rattle.cc_certificate_reading.specs.ReadingExamples.{opening, statement, body_node}
use Rattle.cc_core.specs.Shapes.{capturing}
use Rattle.cc_worked_replies.proofs.WorkedCertificates.{found_is_told}
use Rattle.cc_worked_replies.proofs.certificates.certificates_are_judged.Goals as goal

pub returns-clause-valid : goal.returns-clause-valid
returns-clause-valid c =
    found_is_told (opening ∷ statement ∷ body_node ∷ function_node ∷ []) (ProvesType [] (capturing identity_shape empty))
    (codes "valid (_0: Unit) -> Unit^{_0}") false refl c.worked_answers.ensures.valid

pub returns-clause-node : goal.returns-clause-node
returns-clause-node c =
    found_is_told (opening ∷ statement ∷ codes "1 t-var [] : Unit" ∷ function_node ∷ []) (HasBadNode 1) (codes "bad node 1") true refl
    c.worked_answers.ensures.node

pub returns-clause-premise : goal.returns-clause-premise
returns-clause-premise c =
    found_is_told (opening ∷ statement ∷ body_node ∷ codes "2 t-abs [2] : (_0: Unit) -> Unit^{_0}" ∷ []) (HasBadLine 4) (codes "bad line 4") true refl
    c.worked_answers.ensures.premise

pub returns-clause-no_node : goal.returns-clause-no_node
returns-clause-no_node c =
    found_is_told (opening ∷ statement ∷ []) (HasBadLine 3) (codes "bad line 3") true refl c.worked_answers.ensures.no_node

pub returns-clause-nothing : goal.returns-clause-nothing
returns-clause-nothing c = found_is_told [] (HasBadLine 1) (codes "bad line 1") true refl c.worked_answers.ensures.nothing
