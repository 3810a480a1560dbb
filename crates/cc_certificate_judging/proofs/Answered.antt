-- What is found of the certificate that bytes are is found of the bytes.
use Rattle.std.proofs.Common.{◌≡◌, ℕ, true, List, ◌++◌, codes, map, refl, ap, subst, ◌∙◌}
use Rattle.std.specs.Fmt.{decimal}
use Rattle.cc_core.specs.Shapes.{CapturingType}
use Rattle.cc_core.specs.Typing.{HasType}
use Rattle.cc_core.specs.TermViews.{term_of}
use Rattle.cc_print.specs.TypeTexts.{type_text}
use Rattle.cc_certificate_text.specs.Certificates.{IsCertificate, IsBadLine}
use Rattle.cc_certificate_reading.specs.declared.certificate.Cert.{Cert}
use Rattle.cc_certificate_reading.specs.CertificateViews.{node_of, lines_of}
use Rattle.cc_certificate_judging.specs.CertificateParts.{bound_names}
use Rattle.cc_certificate_judging.specs.Judging.{binds_of, IsValidAt, IsBadNode, IsJudged}
use Rattle.cc_certificate_judging.specs.declared.answer.Answer.{Answer}
use Rattle.cc_certificate_judging.specs.declared.answer.Answer.TheVariants.{BadLine, BadNode}
use Rattle.cc_certificate_judging.specs.Answers.{ProvesType, HasBadLine, HasBadNode}
use Rattle.cc_certificate_judging.specs.ToldAnswers.{answer_text, is_positive, IsAnswered}
use Rattle.cc_certificate_judging.proofs.PartsTrees.{plain_bind, cert_lines, cert_context, cert_names}

pub proof_answered : (bytes : List ℕ) (cert : Cert) → IsCertificate bytes (lines_of cert) → (type : CapturingType) (answer : Answer)
    → IsJudged (binds_of cert) (term_of cert.term.value) (map node_of cert.nodes.items) (IsValidAt type)
    → HasType (binds_of cert) (term_of cert.term.value) type
    → answer_text answer ≡ codes "valid " ++ type_text (map (λ bind. bind.0) cert.binds.items) 0 type
    → is_positive answer ≡ true → IsAnswered bytes answer
proof_answered bytes cert is type answer judged typed text positive = record {
  found = ProvesType (bound_names (map plain_bind cert.binds.items)) type;
  is_found = record {
    binds = map plain_bind cert.binds.items;
    term = term_of cert.term.value;
    nodes = map node_of cert.nodes.items;
    certificate = subst (IsCertificate bytes) (cert_lines cert) is;
    named = refl;
    judged =
        subst (λ g. IsJudged g (term_of cert.term.value) (map node_of cert.nodes.items) (IsValidAt type)) (cert_context cert) judged;
    typed = subst (λ g. HasType g (term_of cert.term.value) type) (cert_context cert) typed;
  };
  text = text ∙ ap (λ names. codes "valid " ++ type_text names 0 type) (cert_names cert);
  valid = positive;
}

pub broken_answered : (bytes : List ℕ) (cert : Cert) → IsCertificate bytes (lines_of cert) → (number : ℕ)
    → IsJudged (binds_of cert) (term_of cert.term.value) (map node_of cert.nodes.items) (IsBadNode number)
    → IsAnswered bytes (BadNode number)
broken_answered bytes cert is number judged = record {
  found = HasBadNode number;
  is_found = record {
    binds = map plain_bind cert.binds.items;
    term = term_of cert.term.value;
    nodes = map node_of cert.nodes.items;
    certificate = subst (IsCertificate bytes) (cert_lines cert) is;
    judged =
        subst (λ g. IsJudged g (term_of cert.term.value) (map node_of cert.nodes.items) (IsBadNode number)) (cert_context cert) judged;
  };
  text = refl;
  valid = refl;
}

pub bad_line_answered : (bytes : List ℕ) (line : ℕ) → IsBadLine bytes line → IsAnswered bytes (BadLine line)
bad_line_answered bytes line bad = record { found = HasBadLine line; is_found = bad; text = refl; valid = refl }
