-- What is found of the certificate that bytes are is found of the bytes.
use Rattle.std.proofs.Common.{◌≡◌, ℕ, List, [], ◌∷◌, ◌++◌, map, refl, ap, subst, Option, Some}
use Rattle.cc_core.specs.TermViews.{type_of, term_of}
use Rattle.cc_core.specs.declared.types.Ty.{Ty}
use Rattle.cc_certificate_text.specs.Certificates.{Opens, States, Concludes, IsCertificate}
use Rattle.cc_certificate_reading.specs.declared.certificate.CertNode.{CertNode}
use Rattle.cc_certificate_reading.specs.declared.certificate.Cert.{Cert}
use Rattle.cc_certificate_reading.specs.CertificateViews.{node_of, node_line_of, bind_line_of, lines_of}
use Rattle.cc_certificate_judging.specs.CertificateParts.{bind_line, parts_lines, bound_context}
use Rattle.cc_certificate_judging.specs.Judging.{with_binds, bind_type, binds_of as context_of_cert, IsValidAt, IsBadNode, IsJudged}
use Rattle.cc_vouching.specs.ClaimedOutcomes.{Broken, Proven, IsClaimedAs}
use Rattle.cc_vouch.specs.BindViews.{bind_of, binds_of}
use Rattle.cc_vouch.specs.VouchViews.{proof_of}

bind_lines : (binds : List (List ℕ × Ty)) → map bind_line_of binds ≡ map bind_line (binds_of binds)
bind_lines [] = refl
bind_lines (bind ∷ binds) = ap (λ l. bind_line_of bind ∷ l) (bind_lines binds)

node_lines : (nodes : List CertNode) → map node_line_of nodes ≡ map Concludes (map node_of nodes)
node_lines [] = refl
node_lines (node ∷ nodes) = ap (λ l. Concludes (node_of node) ∷ l) (node_lines nodes)

bind_types : (binds : List (List ℕ × Ty)) → map bind_type binds ≡ map (λ bind. bind.1) (binds_of binds)
bind_types [] = refl
bind_types (bind ∷ binds) = ap (λ l. type_of bind.1 ∷ l) (bind_types binds)

cert_lines : (cert : Cert)
    → lines_of cert ≡ parts_lines (binds_of cert.binds.items) (term_of cert.term.value) (map node_of cert.nodes.items)
cert_lines cert =
    λ i. Opens ∷ (bind_lines cert.binds.items i ++ States (term_of cert.term.value) ∷ node_lines cert.nodes.items i)

cert_context : (cert : Cert) → context_of_cert cert ≡ bound_context (binds_of cert.binds.items)
cert_context cert = ap (with_binds []) (bind_types cert.binds.items)

pub proven_claimed : (cert : Cert) (type : Ty)
    → IsJudged (context_of_cert cert) (term_of cert.term.value) (map node_of cert.nodes.items) (IsValidAt (type_of type))
    → (bytes : List ℕ) → IsCertificate bytes (lines_of cert) → IsClaimedAs (Some bytes) (Proven (proof_of cert type))
proven_claimed cert type judged bytes is = record {
  nodes = map node_of cert.nodes.items;
  certificate = subst (IsCertificate bytes) (cert_lines cert) is;
  judged =
      subst (λ g. IsJudged g (term_of cert.term.value) (map node_of cert.nodes.items) (IsValidAt (type_of type)))
      (cert_context cert) judged;
}

pub broken_claimed : (cert : Cert) (number : ℕ)
    → IsJudged (context_of_cert cert) (term_of cert.term.value) (map node_of cert.nodes.items) (IsBadNode number)
    → (bytes : List ℕ) → IsCertificate bytes (lines_of cert) → IsClaimedAs (Some bytes) (Broken number)
broken_claimed cert number judged bytes is = record {
  binds = binds_of cert.binds.items;
  term = term_of cert.term.value;
  nodes = map node_of cert.nodes.items;
  certificate = subst (IsCertificate bytes) (cert_lines cert) is;
  judged =
      subst (λ g. IsJudged g (term_of cert.term.value) (map node_of cert.nodes.items) (IsBadNode number))
      (cert_context cert) judged;
}
