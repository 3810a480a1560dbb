-- What is judged is well formed.
use Rattle.std.proofs.Common.{◌≡◌, ℕ, Bool, true, false, ◌&&◌, List, [], ◌∷◌, ◌++◌, length, map, Option, None, refl, ap, sym, ◌∙◌, subst, Result, Ok, Err, IfOk, if◌then◌else◌}
use Rattle.cc_core.specs.declared.types.Ty.{Ty}
use Rattle.cc_core.specs.TermViews.{type_of, term_of}
use Rattle.cc_core.specs.Shapes.{CapturingType}
use Rattle.cc_core.specs.Terms.{Term}
use Rattle.cc_core.specs.Contexts.{Context, entry_of}
use Rattle.cc_core.specs.Typing.{HasType}
use Rattle.cc_core.specs.WellFormed.{Kind, kinds_of, is_well_formed_type, IsWellFormedContext, IsWellFormedTerm, IsWellFormedType}
use Rattle.cc_core.specs.Derivations.{Rule, Claim, OfType, Node, Premises, Concludes, IsValidTyping}
use Rattle.cc_derivation.specs.Numbers.{own_number}
use Rattle.cc_derivation.specs.Rows.{TypeOf, Row, row_at}
use Rattle.cc_derivation.specs.Broken.{broken, broken_at, broken_among, claims_of}
use Rattle.cc_derivation.proofs.BrokenNodes.{valid_typings}
use Rattle.cc_certificate_text.specs.Certificates.{CertificateNode, Line, States, Binding, Start, AllFit, rule_kind}
use Rattle.cc_certificate_reading.specs.declared.certificate.Cert.{Cert}
use Rattle.cc_certificate_reading.specs.CertificateViews.{node_of, lines_of}
use Rattle.cc_certificate_judging.specs.CertificateParts.{CertificateBind, bind_line, parts_lines, bound_context}
use Rattle.cc_certificate_judging.specs.Judging.{NodeTree, Grown, is_in_scope, fits_place, claim_of_another_kind, claim_at, read_tree, read_trees, with_binds, binds_of, IsValidAt, IsJudged}
use Rattle.cc_certificate_judging.specs.JudgedResults.{OnJudgement}
use Rattle.cc_certificate_judging.specs.declared.error.JudgeError.{JudgeError}
use Rattle.cc_certificate_judging.proofs.PartsTrees.{plain_bind, cert_lines, cert_context}
use Rattle.cc_certificate_judging.proofs.JudgedTypes.{claims_of_another_kind_fit_no_place, judged_types_are_given}

both_hold : (a b : Bool) → a ≡ true → b ≡ true → (a && b) ≡ true
both_hold true b p q = q
both_hold false b p q = p

second_holds : (a b : Bool) → (a && b) ≡ true → b ≡ true
second_holds true b p = p
second_holds false b p = cc

some_broken : {B : Type 0} (n : ℕ) → n ∷ [] ≡ [] → B
some_broken n e = cc

-- a node that claims another kind of claim than its rule concludes breaks its rule
misfit_breaks : (context : Context) (term : Term) (rule : Rule) (premises : Premises) (claim : Claim)
    → claim ≡ claim_of_another_kind (rule_kind rule) → broken 0 (TypeOf context term) (Node rule premises claim) ≡ [] → ⊥
misfit_breaks context term rule premises claim same whole =
    let none : row_at (TypeOf context term) rule claim ≡ None = ap (row_at (TypeOf context term) rule) same ∙ claims_of_another_kind_fit_no_place (TypeOf context term) rule in
    let number = own_number 0 (Node rule premises claim) in
    let breaks : broken 0 (TypeOf context term) (Node rule premises claim) ≡ number ∷ [] =
    ap (λ (o : Option Row). broken_at number o (claims_of premises) (λ places. broken_among 0 places premises)) none in
    some_broken number (sym breaks ∙ whole)

-- a claim that was read is well formed
formed_claim : (kinds : List Kind) (begins : Bool) (read other : Claim) (type : CapturingType) (test : Bool)
    → test ≡ (begins && is_in_scope kinds read) → (test ≡ false → ⊥)
    → (if test then read else other) ≡ OfType type → is_well_formed_type kinds [] type ≡ true
formed_claim kinds begins read other type true e not is =
    subst (λ (c : Claim). is_in_scope kinds c ≡ true) is (second_holds begins (is_in_scope kinds read) (sym e))
formed_claim kinds begins read other type false e not is = absurd (not refl)

else_other : (test : Bool) (read other : Claim) → test ≡ false → (if test then read else other) ≡ other
else_other true read other e = cc
else_other false read other e = refl

root_formed : (context : Context) (term : Term) (tree : NodeTree) (type : CapturingType)
    → IsValidTyping context term (read_tree (length context) (kinds_of context) tree)
    → Concludes (read_tree (length context) (kinds_of context) tree) (OfType type) → IsWellFormedType context type
root_formed context term (Grown rule first claim premises) type valid is =
    let names = length context in
    let kinds = kinds_of context in
    let above = read_trees names kinds rule 0 premises in
    let own = claim_at names kinds rule first claim in
    let test = fits_place names kinds first claim in
    let whole : broken 0 (TypeOf context term) (Node rule above own) ≡ [] = (valid_typings 0 context term (Node rule above own)).1 valid in
    formed_claim kinds _ _ (claim_of_another_kind (rule_kind rule)) type test refl
    (λ no. misfit_breaks context term rule above own (else_other test _ (claim_of_another_kind (rule_kind rule)) no) whole) is

-- so are the binds and the term of a certificate
formed_binds : (binds : List CertificateBind) (names : List (List ℕ)) (context : Context) (rest : List Line)
    → IsWellFormedContext context → AllFit (Binding names context) (map bind_line binds ++ rest)
    → IsWellFormedContext (with_binds context (map (λ bind. bind.1) binds))
formed_binds [] names context rest formed fit = formed
formed_binds (bind ∷ binds) names context rest formed fit =
    formed_binds binds (names ++ bind.0 ∷ []) (entry_of bind.1 ∷ context) rest (both_hold _ _ fit.0.2 formed) fit.1

formed_term : (binds : List CertificateBind) (names : List (List ℕ)) (context : Context) (term : Term) (rest : List Line)
    → AllFit (Binding names context) (map bind_line binds ++ States term ∷ rest)
    → IsWellFormedTerm (with_binds context (map (λ bind. bind.1) binds)) term
formed_term [] names context term rest fit = fit.0.0
formed_term (bind ∷ binds) names context term rest fit =
    formed_term binds (names ++ bind.0 ∷ []) (entry_of bind.1 ∷ context) term rest fit.1

-- the term has the type at which it is judged to be valid
pub parts_have_type : (binds : List CertificateBind) (term : Term) (nodes : List CertificateNode) (type : CapturingType)
    → AllFit Start (parts_lines binds term nodes) → IsJudged (bound_context binds) term nodes (IsValidAt type)
    → HasType (bound_context binds) term type
parts_have_type binds term nodes type fit j = record {
  context_formed = formed_binds binds [] [] _ refl fit.1;
  term_formed = formed_term binds [] [] term _ fit.1;
  type_formed = root_formed (bound_context binds) term j.tree type j.told.0 j.told.1;
  typing = judged_types_are_given (bound_context binds) term nodes type j;
}

pub has_type : (cert : Cert) (result : Result Ty JudgeError) → AllFit Start (lines_of cert)
    → OnJudgement (IsJudged (binds_of cert) (term_of cert.term.value) (map node_of cert.nodes.items)) result
    → IfOk result (λ ty. HasType (binds_of cert) (term_of cert.term.value) (type_of ty))
has_type cert (Ok type) fit j =
    subst (λ g. HasType g (term_of cert.term.value) (type_of type)) (sym (cert_context cert))
    (parts_have_type (map plain_bind cert.binds.items) (term_of cert.term.value) (map node_of cert.nodes.items) (type_of type)
    (subst (AllFit Start) (cert_lines cert) fit)
    (subst (λ g. IsJudged g (term_of cert.term.value) (map node_of cert.nodes.items) (IsValidAt (type_of type))) (cert_context cert) j))
has_type cert (Err error) fit j = tt
