-- Definitions are vouched for one after another.
use Rattle.std.proofs.Common.{◌≡◌, ℕ, ◌+◌, ◌<◌, List, [], ◌∷◌, ◌++◌, length, get_or, map, drop}
use Rattle.std.proofs.Common.{Some, None, sym, ap, ◌∙◌, subst, append_assoc}
use Rattle.std.proofs.lemmas.List.{append-nil, map-append}
use Rattle.cc_base.specs.declared.device.DeviceDecl.{DeviceDecl}
use Rattle.cc_core.specs.Programs.{Definition}
use Rattle.cc_core.specs.declared.terms.CoreDef.{CoreDef}
use Rattle.cc_core.specs.declared.types.Ty.{Ty}
use Rattle.cc_grammar.specs.Syntax.{ImportSyntax}
use Rattle.cc_mnf.proofs.ModuleLoops.{drop_next}
use Rattle.cc_mnf.specs.CoreModules as core
use Rattle.cc_mnf.specs.ElaboratedModules.{CoreDefinition}
use Rattle.cc_verdicts.specs.ModuleVerdicts.{Finding}
use Rattle.cc_vouching.specs.ClaimedOutcomes.{Claimed, IsClaimedAs}
use Rattle.cc_vouching.specs.Submissions.{Claim}
use Rattle.cc_vouching.specs.VouchedDefinitions.{NoClaim, Outcome, IsVouchedFor, IsNotVouchedFor, claim_named, definition_bind, HasOutcome, has_no_claim}
use Rattle.cc_vouching.specs.VouchedModules.{Answer, Vouches, RefusesDefinition, AreAnswered, no_more, refused_first, vouched_first}
use Rattle.cc_vouch.proofs.StandingOutcomes.{known_outcomes_are_them}
use Rattle.cc_vouch.specs.BindViews.{binds_of}
use Rattle.cc_vouch.specs.KnownOutcomes.{outcome_known}
use Rattle.cc_vouch.specs.VouchViews.{definition_of, reason_of}
use Rattle.cc_vouch.specs.declared.definitions.Reason.{Reason as DeclaredReason}
use Rattle.cc_vouch.specs.declared.definitions.Vouched.{Vouched}
use Rattle.cc_module_vouching.specs.AnsweredDefinitions.{ComesOf, GoesOn, StartsWith, AnswersAll}

-- what comes of a definition whose claim has these bytes
pub comes_judged : (devices : ℕ) (known : List (List ℕ × Ty)) (definition : CoreDefinition) (claims : List Claim)
    (claimed : Claimed) (outcome : Outcome) (bytes : List ℕ) → IsClaimedAs (Some bytes) claimed
    → outcome ≡ outcome_known devices (binds_of known) definition claimed
    → claim_named definition.name claims ≡ Some bytes → ComesOf devices known definition claims outcome
comes_judged devices known definition claims claimed outcome bytes found is named it size stands =
    subst (HasOutcome it definition claims)
    (sym (is ∙ (λ i. outcome_known (sym size i) (sym stands i) definition claimed)))
    (known_outcomes_are_them it definition claims claimed (subst (λ o. IsClaimedAs o claimed) (sym named) found))

-- and where there is none
pub comes_unclaimed : (devices : ℕ) (known : List (List ℕ × Ty)) (definition : CoreDefinition) (claims : List Claim)
    → claim_named definition.name claims ≡ None → ComesOf devices known definition claims (IsNotVouchedFor NoClaim)
comes_unclaimed devices known definition claims none it size stands = has_no_claim none

-- Definitions are vouched for so far: what is answered to those that are left, behind them, is answered to all.
pub record StandsAt (size : ℕ) (start : List (List ℕ × Ty)) (claims : List Claim) (all : List CoreDefinition)
    (known : List (List ℕ × Ty)) (before : List Definition) (left : List CoreDefinition) : Type 0 where
  pub grown : binds_of known ≡ binds_of start ++ map definition_bind before
  pub answered : (devices : List DeviceDecl) (imports : List ImportSyntax) (findings : List Finding) (answer : Answer)
      → StartsWith size start devices imports findings → AreAnswered devices imports findings claims before left answer
      → AreAnswered devices imports findings claims [] all answer

pub stands_first : (size : ℕ) (start : List (List ℕ × Ty)) (claims : List Claim) (all : List CoreDefinition)
    → StandsAt size start claims all start [] all
stands_first size start claims all = record {
  grown = sym (append-nil (binds_of start));
  answered = λ devices imports findings answer starts is. is;
}

-- what is known is what stands before the next definition
standing : (size : ℕ) (start : List (List ℕ × Ty)) (claims : List Claim) (all : List CoreDefinition)
    (known : List (List ℕ × Ty)) (before : List Definition) (first : CoreDefinition) (left : List CoreDefinition)
    (outcome : Outcome) → StandsAt size start claims all known before left → ComesOf size known first claims outcome
    → (devices : List DeviceDecl) (imports : List ImportSyntax) (findings : List Finding)
    → StartsWith size start devices imports findings
    → HasOutcome (record { devices = devices; imports = imports; findings = findings; before = before }) first claims outcome
standing size start claims all known before first left outcome stands comes devices imports findings starts =
    comes (record { devices = devices; imports = imports; findings = findings; before = before }) starts.counted
    (sym (stands.grown ∙ ap (λ b. b ++ map definition_bind before) starts.bound))

-- the next one is vouched for
stands_behind : (size : ℕ) (start : List (List ℕ × Ty)) (claims : List Claim) (all : List CoreDefinition)
    (known more : List (List ℕ × Ty)) (before : List Definition) (first : CoreDefinition) (left : List CoreDefinition)
    (definition : Definition) → StandsAt size start claims all known before (first ∷ left)
    → ComesOf size known first claims (IsVouchedFor definition)
    → binds_of more ≡ binds_of known ++ definition_bind definition ∷ []
    → StandsAt size start claims all more (before ++ definition ∷ []) left
stands_behind size start claims all known more before first left definition stands comes longer = record {
  grown =
      longer ∙ ap (λ b. b ++ definition_bind definition ∷ []) stands.grown
      ∙ append_assoc (binds_of start) (map definition_bind before) (definition_bind definition ∷ [])
      ∙ ap (λ b. binds_of start ++ b) (sym (map-append definition_bind before (definition ∷ [])));
  answered = λ devices imports findings answer starts is.
      stands.answered devices imports findings answer starts
      (vouched_first (standing size start claims all known before first (first ∷ left) (IsVouchedFor definition) stands
      comes devices imports findings starts) is);
}

next_left : (defs : List CoreDef) (index : ℕ) (def : CoreDef) → index < length defs → def ≡ get_or defs index def
    → map core.definition_of (drop index defs)
    ≡ core.definition_of def ∷ map core.definition_of (drop (index + 1) defs)
next_left defs index def below is = ap (map core.definition_of) (drop_next defs index def below is)

pub stands_more : (size : ℕ) (start : List (List ℕ × Ty)) (claims : List Claim) (defs : List CoreDef) (index : ℕ)
    (def : CoreDef) (known more : List (List ℕ × Ty)) (vouched longer : List Vouched) → index < length defs
    → def ≡ get_or defs index def
    → StandsAt size start claims (map core.definition_of defs) known (map definition_of vouched)
    (map core.definition_of (drop index defs))
    → GoesOn size claims (core.definition_of def) known vouched more longer None
    → StandsAt size start claims (map core.definition_of defs) more (map definition_of longer)
    (map core.definition_of (drop (index + 1) defs))
stands_more size start claims defs index def known more vouched longer below is stands next =
    let all = map core.definition_of defs in
    let left = map core.definition_of (drop (index + 1) defs) in
    let here = subst (StandsAt size start claims all known (map definition_of vouched))
    (next_left defs index def below is) stands in
    subst (λ b. StandsAt size start claims all more b left)
    (sym (ap (map definition_of) next.put ∙ map-append definition_of vouched (next.next ∷ [])))
    (stands_behind size start claims all known more (map definition_of vouched) (core.definition_of def) left
    (definition_of next.next) here next.comes next.grown)

-- the next one is not vouched for
pub stands_refused : (size : ℕ) (start : List (List ℕ × Ty)) (claims : List Claim) (defs : List CoreDef) (index : ℕ)
    (def : CoreDef) (known more : List (List ℕ × Ty)) (vouched longer : List Vouched) (reason : DeclaredReason)
    (answer : Answer) → index < length defs → def ≡ get_or defs index def
    → StandsAt size start claims (map core.definition_of defs) known (map definition_of vouched)
    (map core.definition_of (drop index defs))
    → GoesOn size claims (core.definition_of def) known vouched more longer (Some reason)
    → answer ≡ RefusesDefinition def.name (reason_of reason)
    → AnswersAll size start claims (map core.definition_of defs) answer
stands_refused size start claims defs index def known more vouched longer reason answer below is stands comes refuses =
    λ devices imports findings starts.
    let all = map core.definition_of defs in
    let left = map core.definition_of (drop (index + 1) defs) in
    let before = map definition_of vouched in
    let here = subst (StandsAt size start claims all known before) (next_left defs index def below is) stands in
    subst (AreAnswered devices imports findings claims [] all) (sym refuses)
    (here.answered devices imports findings (RefusesDefinition def.name (reason_of reason)) starts
    (refused_first (standing size start claims all known before (core.definition_of def) (core.definition_of def ∷ left)
    (IsNotVouchedFor (reason_of reason)) here comes devices imports findings starts)))

-- none is left
pub stands_last : (size : ℕ) (start : List (List ℕ × Ty)) (claims : List Claim) (defs : List CoreDef) (index : ℕ)
    (known : List (List ℕ × Ty)) (vouched : List Vouched) → drop index defs ≡ []
    → StandsAt size start claims (map core.definition_of defs) known (map definition_of vouched)
    (map core.definition_of (drop index defs))
    → AnswersAll size start claims (map core.definition_of defs) (Vouches (map definition_of vouched))
stands_last size start claims defs index known vouched none stands =
    λ devices imports findings starts.
    let end = subst (λ l. StandsAt size start claims (map core.definition_of defs) known (map definition_of vouched)
    (map core.definition_of l)) none stands in
    end.answered devices imports findings (Vouches (map definition_of vouched)) starts no_more
