-- What comes of a definition by the first bind that is another one.
use Rattle.std.proofs.Common.{◌≡◌, ℕ, true, false, cond, List, ◌++◌, Option, Some, None, sym, ap, ◌∙◌}
use Rattle.cc_core.specs.Shapes.{CapturingType}
use Rattle.cc_filled.specs.FilledTests.{is_filled_as}
use Rattle.cc_mnf.specs.ElaboratedModules.{CoreDefinition}
use Rattle.cc_certificate_judging.specs.CertificateParts.{CertificateBind}
use Rattle.cc_vouching.specs.VouchedDefinitions.{Proof, AnotherTerm, AnotherBind, Outcome, IsNotVouchedFor}
use Rattle.cc_vouching.specs.VouchedDefinitions.{own_bind, first_difference}
use Rattle.cc_vouch.specs.KnownOutcomes.{signature_behind, outcome_about, outcome_different, outcome_proven}
use Rattle.cc_vouch.specs.declared.definitions.Outcome.TheVariants as outcomes

-- the term is another one
pub proven_other_term : (devices : ℕ) (known : List CertificateBind) (definition : CoreDefinition) (proof : Proof)
    → is_filled_as definition.right proof.term ≡ false
    → IsNotVouchedFor AnotherTerm ≡ outcome_proven devices known definition proof
proven_other_term devices known definition proof other =
    sym (ap
    (λ b. cond b
    (outcome_different devices definition proof
    (first_difference proof.binds (known ++ own_bind definition (signature_behind devices proof proof.type))))
    (IsNotVouchedFor AnotherTerm))
    other)

-- by the first difference
by_difference : (devices : ℕ) (known middle : List CertificateBind) (definition : CoreDefinition) (proof : Proof)
    (proved : Option CapturingType) → is_filled_as definition.right proof.term ≡ true
    → proved ≡ signature_behind devices proof proof.type → middle ≡ known ++ own_bind definition proved
    → outcome_different devices definition proof (first_difference proof.binds middle)
    ≡ outcome_proven devices known definition proof
by_difference devices known middle definition proof proved filled signs grown =
    ap (λ m. outcome_different devices definition proof (first_difference proof.binds m))
    (grown ∙ ap (λ s. known ++ own_bind definition s) signs)
    ∙ sym (ap
    (λ b. cond b
    (outcome_different devices definition proof
    (first_difference proof.binds (known ++ own_bind definition (signature_behind devices proof proof.type))))
    (IsNotVouchedFor AnotherTerm))
    filled)

pub proven_other_bind : (devices : ℕ) (known middle : List CertificateBind) (definition : CoreDefinition) (proof : Proof)
    (proved : Option CapturingType) (number : ℕ) → is_filled_as definition.right proof.term ≡ true
    → proved ≡ signature_behind devices proof proof.type → middle ≡ known ++ own_bind definition proved
    → Some number ≡ first_difference proof.binds middle
    → IsNotVouchedFor (AnotherBind number) ≡ outcome_proven devices known definition proof
proven_other_bind devices known middle definition proof proved number filled signs grown differs =
    ap (outcome_different devices definition proof) differs
    ∙ by_difference devices known middle definition proof proved filled signs grown

pub proven_about : (devices : ℕ) (known middle : List CertificateBind) (definition : CoreDefinition) (proof : Proof)
    (proved : Option CapturingType) (outcome : Outcome) → is_filled_as definition.right proof.term ≡ true
    → proved ≡ signature_behind devices proof proof.type → middle ≡ known ++ own_bind definition proved
    → None ≡ first_difference proof.binds middle → outcome ≡ outcome_about devices definition proof proved
    → outcome ≡ outcome_proven devices known definition proof
proven_about devices known middle definition proof proved outcome filled signs grown same is =
    is ∙ ap (outcome_about devices definition proof) signs ∙ ap (outcome_different devices definition proof) same
    ∙ by_difference devices known middle definition proof proved filled signs grown
