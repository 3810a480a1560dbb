-- What is written for a derivation is a certificate of its lines.
use Rattle.std.proofs.Common.{ℕ, ◌≤◌, List, [], ◌∷◌, ◌++◌, length, take, codes, refl, sym, ap, subst, arith}
use Rattle.std.proofs.lemmas.List.{take_all}
use Rattle.cc_core.specs.Contexts.{Context}
use Rattle.cc_core.specs.Terms.{Term}
use Rattle.cc_core.specs.Derivations.{Derivation}
use Rattle.cc_derivation.specs.Numbers.{own_number}
use Rattle.cc_checking.specs.DerivationSizes.{nodes}
use Rattle.cc_certificate_writing.specs.Certificates.{certificate_text, certificate_lines, bind_lines}
use Rattle.cc_print.specs.TermTexts.{term_text}
use Rattle.cc_certificate_text.specs.Certificates.{Opens, States, Start, Binding, Proving, IsWhole}
use Rattle.cc_certificate_laws.specs.CertificateLines.{bound_lines, lines_of}
use Rattle.cc_certificate_laws.specs.CertificateLaws.{IsPresentable, IsPresentableContext, IsPresentableTerm, WrittenTextsAreCertificates, WrittenTextsAreReadBack}
use Rattle.cc_certificate_text.proofs.Certified.{one_certificate}
use Rattle.cc_certificate_laws.proofs.LinesThatFit.{Leads, one_line, and_then, leads_to}
use Rattle.cc_certificate_laws.proofs.NodeLines.{nodes_lead}
use Rattle.cc_certificate_laws.proofs.BindLines.{binds_lead}

certificates_lead : (names : List (List ℕ)) (context : Context) (term : Term) (derivation : Derivation)
    → IsPresentableContext names context → IsPresentableTerm context term → IsPresentable (length names) 0 derivation
    → nodes derivation ≤ 100000
    → Leads Start (lines_of names context term derivation) (certificate_lines names context term derivation)
    (Proving names (own_number 0 derivation) (own_number 0 derivation ∷ []))
certificates_lead names context term derivation open_context open_term can few =
    and_then Start (Binding [] []) _ (Opens ∷ []) _ (codes "cert 1" ∷ []) _
    (one_line Start Opens (codes "cert 1") (Binding [] []) tt refl refl)
    (and_then (Binding [] []) (Binding names context) _ (bound_lines names context) _ (bind_lines names context) _
    (leads_to (Binding [] []) (Binding (take (length context) names) context) (Binding names context) _ _
    (ap (λ front. Binding front context) (take_all (length context) names (omega (arith, open_context.each))))
    (binds_lead names open_context.named open_context.apart context (omega (arith, open_context.each)) open_context.formed
    open_context.entries))
    (and_then (Binding names context) (Proving names 0 []) _ (States term ∷ []) _
    ((codes "term " ++ term_text names 0 term) ∷ []) _
    (one_line (Binding names context) (States term) (codes "term " ++ term_text names 0 term) (Proving names 0 [])
    (open_term.formed, open_term.whole, open_term.low) refl refl)
    (nodes_lead names 0 0 [] derivation can (omega (arith, few)) (omega (arith, few)))))

pub written_are_certificates : WrittenTextsAreCertificates
written_are_certificates names context term derivation open_context open_term can few =
    let leads = certificates_lead names context term derivation open_context open_term can few in record {
      fit = leads.fit;
      whole = subst IsWhole (sym leads.behind) refl;
      written = sym leads.written;
    }

pub written_are_read_back : WrittenTextsAreReadBack
written_are_read_back names context term derivation lines open_context open_term can few other =
    one_certificate (certificate_text names context term derivation) lines (lines_of names context term derivation) other
    (written_are_certificates names context term derivation open_context open_term can few)
