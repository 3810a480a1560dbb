-- A definition has one outcome, by what is found of its claim.
use Rattle.std.proofs.Common.{◌≡◌, ◌↔◌, ℕ, Bool, true, false, cond, List, [], ◌∷◌, Option, Some, None, Result, Ok, Err, refl, ap, sym, subst, ◌∙◌}
use Rattle.std.proofs.lemmas.Bool.{false_from_ne_true, true≢false}
use Rattle.cc_core.specs.Shapes.{CapturingType}
use Rattle.cc_core.specs.Terms.{Term}
use Rattle.cc_filled.specs.FilledTerms.{IsFilledAs}
use Rattle.cc_filled.specs.FilledTests.{is_filled_as}
use Rattle.cc_filled.proofs.DecidedFillings.{filled_decides}
use Rattle.cc_mnf.specs.ElaboratedModules.{CoreDefinition}
use Rattle.cc_verdicts.specs.ModuleVerdicts.{Refusal}
use Rattle.cc_certificate_text.proofs.Certified.{one_certificate, one_bad_line, never_both}
use Rattle.cc_certificate_judging.specs.Answers.{Found, ProvesType, HasBadLine, HasBadNode, IsBroken, IsFound}
use Rattle.cc_certificate_judging.specs.CertificateParts.{bound_context, bound_names}
use Rattle.cc_certificate_judging.specs.Judging.{IsValidAt, IsBadNode, IsJudged, Judgement}
use Rattle.cc_certificate_judging.proofs.BytesFound.{something_is_found, one_thing_is_found}
use Rattle.cc_certificate_judging.proofs.FormedAnswers.{parts_have_type}
use Rattle.cc_certificate_judging.proofs.SameParts.{same_tail, same_parts}
use Rattle.cc_vouching.specs.ClaimedOutcomes.{Claimed, Unclaimed, Misread, Broken, Proven, IsClaimedAs, outcome_signed, outcome_bound, outcome_by, OutcomesGoByClaims}
use Rattle.cc_vouching.specs.Submissions.{Claim}
use Rattle.cc_vouching.specs.VouchedDefinitions.{Proof, IsProofOf, Reason, NoClaim, BadLine, BadNode, AnotherTerm, AnotherBind, Refused, Outcome, IsVouchedFor, IsNotVouchedFor, Surroundings, claim_named, known_binds, first_difference, signature_by, vouched_signature, vouched_definition, IsAbout, HasOutcome, has_no_claim, has_bad_line, has_bad_node, has_another_term, has_another_bind, is_refused, is_vouched_for}
use Rattle.cc_vouching.specs.VouchingLaws.{OutcomesExist, OutcomesAreUnique}

if_yes : {A : Type 0} (b : Bool) (x y : A) → b ≡ true → cond b x y ≡ x
if_yes true x y e = refl
if_yes false x y e = cc

if_no : {A : Type 0} (b : Bool) (x y : A) → b ≡ false → cond b x y ≡ y
if_no true x y e = cc
if_no false x y e = refl

module _ (it : Surroundings) (definition : CoreDefinition) (claims : List Claim) where
  -- the first difference of the binds
  abbrev difference : Proof → Option ℕ
  difference proof =
      first_difference proof.binds (known_binds it definition (signature_by it.devices proof proof.type))

  -- what is found of the claim, with what comes of it
  abbrev Comes : Outcome → Type 0
  Comes outcome =
      (claimed : Claimed) × IsClaimedAs (claim_named definition.name claims) claimed
      × (outcome ≡ outcome_by it definition claimed)

  claimed_here : (bytes : List ℕ) (claimed : Claimed) → claim_named definition.name claims ≡ Some bytes
      → IsClaimedAs (Some bytes) claimed → IsClaimedAs (claim_named definition.name claims) claimed
  claimed_here bytes claimed e is = subst (λ o. IsClaimedAs o claimed) (sym e) is

  filled_here : (proof : Proof) → IsFilledAs definition.right proof.term
      → outcome_by it definition (Proven proof) ≡ outcome_bound it definition proof (difference proof)
  filled_here proof fills =
      if_yes (is_filled_as definition.right proof.term) (outcome_bound it definition proof (difference proof))
      (IsNotVouchedFor AnotherTerm) ((filled_decides definition.right proof.term).1 fills)

  about_here : (proof : Proof) → IsAbout it definition proof
      → outcome_by it definition (Proven proof)
      ≡ outcome_signed definition proof (vouched_signature it.devices definition proof)
  about_here proof about =
      filled_here proof about.filled ∙ ap (outcome_bound it definition proof) about.known

  comes : (outcome : Outcome) → HasOutcome it definition claims outcome → Comes outcome
  comes _ (has_no_claim e) = (Unclaimed, subst (λ o. IsClaimedAs o Unclaimed) (sym e) tt, refl)
  comes _ (has_bad_line {bytes = bytes} {line = line} e is) = (Misread line, claimed_here bytes (Misread line) e is, refl)
  comes _ (has_bad_node {bytes = bytes} {number = number} e is) =
      (Broken number, claimed_here bytes (Broken number) e is, refl)
  comes _ (has_another_term {bytes = bytes} {proof = proof} e is not) = (
    Proven proof,
    claimed_here bytes (Proven proof) e is,
    sym (if_no (is_filled_as definition.right proof.term) (outcome_bound it definition proof (difference proof))
        (IsNotVouchedFor AnotherTerm)
        (false_from_ne_true (is_filled_as definition.right proof.term)
        (λ t. not ((filled_decides definition.right proof.term).0 t)))),
  )
  comes _ (has_another_bind {bytes = bytes} {proof = proof} {number = number} e is fills other) = (
    Proven proof,
    claimed_here bytes (Proven proof) e is,
    sym (filled_here proof fills ∙ ap (outcome_bound it definition proof) other),
  )
  comes _ (is_refused {bytes = bytes} {proof = proof} {refusal = refusal} e is about refused) = (
    Proven proof,
    claimed_here bytes (Proven proof) e is,
    sym (about_here proof about ∙ ap (outcome_signed definition proof) refused),
  )
  comes _ (is_vouched_for {bytes = bytes} {proof = proof} {signature = signature} e is about agreed) = (
    Proven proof,
    claimed_here bytes (Proven proof) e is,
    sym (about_here proof about ∙ ap (outcome_signed definition proof) agreed),
  )

  -- BACK

  signed : (bytes : List ℕ) (proof : Proof) → claim_named definition.name claims ≡ Some bytes → IsProofOf bytes proof
      → IsAbout it definition proof → (result : Result CapturingType Refusal)
      → vouched_signature it.devices definition proof ≡ result
      → HasOutcome it definition claims (outcome_signed definition proof result)
  signed bytes proof e is about (Ok signature) agreed = is_vouched_for e is about agreed
  signed bytes proof e is about (Err refusal) refused = is_refused e is about refused

  bound : (bytes : List ℕ) (proof : Proof) → claim_named definition.name claims ≡ Some bytes → IsProofOf bytes proof
      → IsFilledAs definition.right proof.term → (o : Option ℕ) → difference proof ≡ o
      → HasOutcome it definition claims (outcome_bound it definition proof o)
  bound bytes proof e is fills (Some number) other = has_another_bind e is fills other
  bound bytes proof e is fills None known =
      signed bytes proof e is (record { filled = fills; known = known })
      (vouched_signature it.devices definition proof) refl

  filled : (bytes : List ℕ) (proof : Proof) → claim_named definition.name claims ≡ Some bytes → IsProofOf bytes proof
      → (b : Bool) → is_filled_as definition.right proof.term ≡ b
      → HasOutcome it definition claims
      (cond b (outcome_bound it definition proof (difference proof)) (IsNotVouchedFor AnotherTerm))
  filled bytes proof e is true test =
      bound bytes proof e is ((filled_decides definition.right proof.term).0 test) (difference proof) refl
  filled bytes proof e is false test =
      has_another_term e is
      (λ fills. true≢false (sym ((filled_decides definition.right proof.term).1 fills) ∙ test))

  outcome_from : (o : Option (List ℕ)) → claim_named definition.name claims ≡ o → (claimed : Claimed)
      → IsClaimedAs o claimed → HasOutcome it definition claims (outcome_by it definition claimed)
  outcome_from None e Unclaimed is = has_no_claim e
  outcome_from None e (Misread line) is = absurd is
  outcome_from None e (Broken number) is = absurd is
  outcome_from None e (Proven proof) is = absurd is
  outcome_from (Some bytes) e Unclaimed is = absurd is
  outcome_from (Some bytes) e (Misread line) is = has_bad_line e is
  outcome_from (Some bytes) e (Broken number) is = has_bad_node e is
  outcome_from (Some bytes) e (Proven proof) is =
      filled bytes proof e is (is_filled_as definition.right proof.term) refl

pub outcomes_go_by_claims : OutcomesGoByClaims
outcomes_go_by_claims it definition claims outcome = (
  comes it definition claims outcome,
  λ c. subst (HasOutcome it definition claims) (sym c.2)
      (outcome_from it definition claims (claim_named definition.name claims) refl c.0 c.1),
)

-- ONE CLAIM

-- what is found of bytes
found_claimed : (bytes : List ℕ) (found : Found) → IsFound bytes found
    → (claimed : Claimed) × IsClaimedAs (Some bytes) claimed
found_claimed bytes (ProvesType names type) is = (
  Proven (record { binds = is.binds; term = is.term; type = type }),
  record { nodes = is.nodes; certificate = is.certificate; judged = is.judged },
)
found_claimed bytes (HasBadLine line) is = (Misread line, is)
found_claimed bytes (HasBadNode number) is = (Broken number, is)

pub is_claimed : (o : Option (List ℕ)) → (claimed : Claimed) × IsClaimedAs o claimed
is_claimed None = (Unclaimed, tt)
is_claimed (Some bytes) = let found = something_is_found bytes in found_claimed bytes found.0 found.1

proof_found : (bytes : List ℕ) (proof : Proof) → IsProofOf bytes proof → IsFound bytes (ProvesType (bound_names proof.binds) proof.type)
proof_found bytes proof is = record {
  binds = proof.binds;
  term = proof.term;
  nodes = is.nodes;
  certificate = is.certificate;
  named = refl;
  judged = is.judged;
  typed = parts_have_type proof.binds proof.term is.nodes proof.type is.certificate.fit is.judged;
}

same_found_type : (names others : List (List ℕ)) (type other : CapturingType)
    → ProvesType names type ≡ ProvesType others other → type ≡ other
same_found_type names others type other e = cc

not_broken : {B : Type 0} (names : List (List ℕ)) (type : CapturingType) (number : ℕ)
    → ProvesType names type ≡ HasBadNode number → B
not_broken names type number e = cc

same_found_node : (one other : ℕ) → HasBadNode one ≡ HasBadNode other → one ≡ other
same_found_node one other e = cc

one_proof : (bytes : List ℕ) (proof other : Proof) → IsProofOf bytes proof → IsProofOf bytes other → proof ≡ other
one_proof bytes proof other is also =
    let parts =
    same_parts proof.binds other.binds proof.term other.term is.nodes also.nodes
    (same_tail (one_certificate bytes _ _ is.certificate also.certificate)) in
    let types =
    same_found_type _ _ proof.type other.type
    (one_thing_is_found bytes _ _ (proof_found bytes proof is) (proof_found bytes other also)) in
    λ i. record { binds = parts.0 i; term = parts.1 i; type = types i }

claimed_once : (o : Option (List ℕ)) (one other : Claimed) → IsClaimedAs o one → IsClaimedAs o other → one ≡ other
claimed_once None Unclaimed Unclaimed is also = refl
claimed_once None Unclaimed (Misread line) is also = absurd also
claimed_once None Unclaimed (Broken number) is also = absurd also
claimed_once None Unclaimed (Proven proof) is also = absurd also
claimed_once None (Misread line) other is also = absurd is
claimed_once None (Broken number) other is also = absurd is
claimed_once None (Proven proof) other is also = absurd is
claimed_once (Some bytes) Unclaimed other is also = absurd is
claimed_once (Some bytes) (Misread line) Unclaimed is also = absurd also
claimed_once (Some bytes) (Misread line) (Misread other) is also = ap Misread (one_bad_line bytes line other is also)
claimed_once (Some bytes) (Misread line) (Broken number) is also = absurd (never_both bytes _ line also.certificate is)
claimed_once (Some bytes) (Misread line) (Proven proof) is also = absurd (never_both bytes _ line also.certificate is)
claimed_once (Some bytes) (Broken number) Unclaimed is also = absurd also
claimed_once (Some bytes) (Broken number) (Misread line) is also = absurd (never_both bytes _ line is.certificate also)
claimed_once (Some bytes) (Broken number) (Broken other) is also =
    ap Broken (same_found_node number other (one_thing_is_found bytes (HasBadNode number) (HasBadNode other) is also))
claimed_once (Some bytes) (Broken number) (Proven proof) is also =
    not_broken _ proof.type number (one_thing_is_found bytes _ (HasBadNode number) (proof_found bytes proof also) is)
claimed_once (Some bytes) (Proven proof) Unclaimed is also = absurd also
claimed_once (Some bytes) (Proven proof) (Misread line) is also = absurd (never_both bytes _ line is.certificate also)
claimed_once (Some bytes) (Proven proof) (Broken number) is also =
    not_broken _ proof.type number (one_thing_is_found bytes _ (HasBadNode number) (proof_found bytes proof is) also)
claimed_once (Some bytes) (Proven proof) (Proven other) is also = ap Proven (one_proof bytes proof other is also)

-- OUTCOMES

pub outcomes_exist : OutcomesExist
outcomes_exist it definition claims =
    let claimed = is_claimed (claim_named definition.name claims) in (
      outcome_by it definition claimed.0,
      outcome_from it definition claims (claim_named definition.name claims) refl claimed.0 claimed.1,
    )

pub outcomes_unique : OutcomesAreUnique
outcomes_unique it definition claims first second one other =
    let came = comes it definition claims first one in
    let also = comes it definition claims second other in
    came.2
    ∙ ap (outcome_by it definition) (claimed_once (claim_named definition.name claims) came.0 also.0 came.1 also.1)
    ∙ sym also.2
