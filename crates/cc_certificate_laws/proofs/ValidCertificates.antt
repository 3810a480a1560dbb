-- What is written for a valid derivation is a certificate.
use Rattle.std.proofs.Common.{[], ◌∷◌, sym, subst}
use Rattle.std.specs.List.{AllByRecursion}
use Rattle.cc_core.specs.Contexts.{TermEntry, TypeEntry, Context}
use Rattle.cc_certificate_laws.specs.CertificateLaws.{IsPresentable, IsPresentableEntry, IsTermEntry, ValidDerivationsHaveCertificates}
use Rattle.cc_certificate_laws.proofs.PresentableTypings.{valid_presentable}
use Rattle.cc_certificate_laws.proofs.WholeCertificates.{written_are_certificates}

pub term_entries : (g : Context) → AllByRecursion IsPresentableEntry g → AllByRecursion IsTermEntry g
term_entries [] all = tt
term_entries (TermEntry shape set ∷ older) all = (tt, term_entries older all.1)
term_entries (TypeEntry bound ∷ older) all = absurd all.0

pub valid_have_certificates : ValidDerivationsHaveCertificates
valid_have_certificates names context term derivation open_context open_term valid done few =
    written_are_certificates names context term derivation open_context open_term
    (subst (λ n. IsPresentable n 0 derivation) (sym open_context.each)
    (valid_presentable context term derivation (term_entries context open_context.entries) open_context.formed open_term.formed valid done)) few
