-- What is found of the certificate of a definition.
use Rattle.std.proofs.Common.{◌≡◌, ◌≢◌, ℕ, ◌≤◌, Bool, true, false, ◌==◌, List, [], ◌∷◌, ◌++◌, refl, sym, subst, ◌∙◌, ap}
use Rattle.std.specs.List.{AllByRecursion}
use Rattle.std.proofs.lemmas.List.{append_assoc}
use Rattle.std.proofs.lemmas.Bool.Decides.{Decides-eqb}
use Rattle.cc_words.proofs.Steps.{Lacks}
use Rattle.cc_words.proofs.Splits.{AllLack}
use Rattle.cc_words.proofs.LineLists.{terminated, lines_of-whole, whole-terminated}
use Rattle.cc_words.specs.Lines.{lines_of, AreWholeLines}
use Rattle.cc_core.specs.Contexts.{Context}
use Rattle.cc_core.specs.Terms.{Term}
use Rattle.cc_checking.specs.Verdicts.{Accepted}
use Rattle.cc_certificate_writing.specs.Certificates.{lines_text}
use Rattle.cc_certificate_writing.specs.DefinitionCertificates.{definition_certificate, definition_certificate_lines}
use Rattle.cc_certificate_writing.specs.CertificateTextLaws.{IsOneLine}
use Rattle.cc_certificate_text.specs.Certificates.{IsCertificate}
use Rattle.cc_certificate_judging.specs.Answers.{ProvesType, IsProof}
use Rattle.cc_certificate_judging.specs.CertificateParts.{parts_lines, bound_context}
use Rattle.cc_certificate_judging.specs.Judging.{listed, IsValidAt, IsJudged}
use Rattle.cc_certificate_judging.proofs.BytesFound.{one_thing_is_found}
use Rattle.cc_certificate_judging.proofs.FormedAnswers.{parts_have_type}
use Rattle.cc_verdicts.proofs.FoundStanding.{definitions_stand}
use Rattle.cc_certificate_laws.specs.FoundCertificates.{IsOnlyFound, HasWholeLines, LinesProveSignature, RightCertificatesProveSignatures, CertificatesOfPresentTextsProveSignatures, CertificatesOfNamedDefinitionsProveSignatures}
use Rattle.cc_certificate_laws.specs.ModuleCertificates.{IsCertified}
use Rattle.cc_certificate_laws.proofs.CertifiedModules.{present_certified, lines_of_definitions_whole}

pub right_prove : RightCertificatesProveSignatures
right_prove names context accepted certified =
    let bytes = definition_certificate names context accepted in
    let is : IsCertificate bytes (parts_lines certified.binds accepted.filled (listed 0 certified.tree)) =
    subst (IsCertificate bytes) certified.parts certified.written in
    let judged : IsJudged (bound_context certified.binds) accepted.filled (listed 0 certified.tree) (IsValidAt accepted.signature) =
    subst (λ g. IsJudged g accepted.filled (listed 0 certified.tree) (IsValidAt accepted.signature)) (sym certified.bound)
    certified.valid in
    let found : IsProof bytes names accepted.signature = record {
      binds = certified.binds;
      term = accepted.filled;
      nodes = listed 0 certified.tree;
      certificate = is;
      named = certified.named;
      judged = judged;
      typed =
          parts_have_type certified.binds accepted.filled (listed 0 certified.tree) accepted.signature is.fit judged;
    } in
    record {
      is_found = found;
      only = λ other h. one_thing_is_found bytes other (ProvesType names accepted.signature) h found;
    }

-- ---- whole lines
no_feed : (b : ℕ) (test : Bool) → (b == 10) ≡ test → b ≢ 10 → (b == 10) ≡ false
no_feed b true e apart = absurd (apart ((Decides-eqb b 10).0 e))
no_feed b false e apart = e

line_lacks : (line : List ℕ) → IsOneLine line → Lacks 10 line
line_lacks [] one = tt
line_lacks (b ∷ line) one = (no_feed b (b == 10) refl one.0, line_lacks line one.1)

lines_lack : (lines : List (List ℕ)) → AllByRecursion IsOneLine lines → AllLack 10 lines
lines_lack [] all = tt
lines_lack (line ∷ lines) all = (line_lacks line all.0, lines_lack lines all.1)

terminated-lines_text : (lines : List (List ℕ)) → terminated lines ≡ lines_text lines
terminated-lines_text [] = refl
terminated-lines_text (line ∷ lines) =
    sym (append_assoc line (10 ∷ []) (terminated lines)) ∙ ap (λ rest. (line ++ 10 ∷ []) ++ rest) (terminated-lines_text lines)

whole_lines : (lines : List (List ℕ)) → AllByRecursion IsOneLine lines → HasWholeLines (lines_text lines) lines
whole_lines lines all = record {
  whole = subst AreWholeLines (terminated-lines_text lines) (whole-terminated lines);
  lines_are = ap lines_of (sym (terminated-lines_text lines)) ∙ lines_of-whole lines (lines_lack lines all);
}

lines_prove : (names : List (List ℕ)) (context : Context) (accepted : Accepted) → IsCertified names context accepted
    → AllByRecursion IsOneLine (definition_certificate_lines names context accepted)
    → LinesProveSignature names context accepted
lines_prove names context accepted certified all = record {
  text = refl;
  whole = whole_lines (definition_certificate_lines names context accepted) all;
  found = right_prove names context accepted certified;
}

pub present_prove : CertificatesOfPresentTextsProveSignatures
present_prove devices texts verdicts imports findings before one names present are stands few =
    lines_prove _ _ one.accepted
    (present_certified devices texts verdicts imports findings before one names present are stands few)
    (lines_of_definitions_whole devices texts verdicts imports findings before one names present are stands)

pub named_prove : CertificatesOfNamedDefinitionsProveSignatures
named_prove devices texts verdicts module_name name it names present are found few =
    let stands = definitions_stand devices texts verdicts module_name name it are found in
    present_prove devices texts verdicts it.imports it.findings it.before it.definition names present are stands.0 few
