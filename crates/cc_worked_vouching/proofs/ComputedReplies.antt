-- What is replied to a submission, by computation.
use Rattle.std.proofs.Common.{◌≡◌, ℕ, Bool, true, false, cond, List, [], ◌∷◌, ◌++◌, Option, Some, None, refl, sym, subst}
use Rattle.std.specs.List.{AllByRecursion}
use Rattle.std.specs.Str.{bytes_eq}
use Rattle.cc_base.specs.Literals.{UnitLiteral}
use Rattle.cc_base.specs.declared.device.DeviceDecl.{DeviceDecl}
use Rattle.cc_core.specs.Programs.{Definition}
use Rattle.cc_core.specs.Terms.{Term, LiteralTerm}
use Rattle.cc_grammar.specs.Syntax.{ImportSyntax, ModuleSyntax}
use Rattle.cc_mnf.specs.ElaboratedModules.{CoreDefinition, Elaboration, elaboration, device_names}
use Rattle.cc_mnf.specs.ElaboratedModules as elaborated
use Rattle.cc_verdicts.specs.ModuleVerdicts.{Finding, Refusal, first_missing}
use Rattle.cc_verdicts.specs.Readings.{TextReading, IsTree, IsNoModule, HasReading}
use Rattle.cc_verdicts.proofs.ReadingLaws.{text_has_one_reading}
use Rattle.cc_worked_texts.proofs.QuickTokens.{quick_reading, same_reading}
use Rattle.cc_certificate_text.specs.Certificates.{CertificateNode, Line, Binds, States, Concludes, Start, IsCertificate}
use Rattle.cc_certificate_text.proofs.Certified.{one_certificate, come-nowhere}
use Rattle.cc_certificate_judging.specs.Answers.{Found, ProvesType, HasBadLine, HasBadNode, IsProof}
use Rattle.cc_certificate_judging.specs.CertificateParts.{CertificateBind, parts_lines}
use Rattle.cc_certificate_judging.proofs.SameParts.{same_tail, same_parts}
use Rattle.cc_certificate_examples.proofs.ComputedAnswers.{answer_in, Lists, found_in}
use Rattle.cc_certificate_examples.proofs.ComputedLines.{Outcome, AllLines, BadLine, TooFew, ComesTo, read_from, read_comes}
use Rattle.cc_vouching.specs.ClaimedOutcomes.{Claimed, Unclaimed, Misread, Broken, Proven, IsClaimedAs, outcome_by}
use Rattle.cc_vouching.specs.Submissions.{Claim, ClaimedModule}
use Rattle.cc_vouching.specs.VouchedDefinitions.{Proof, IsProofOf, Outcome as DefinitionOutcome, IsVouchedFor, IsNotVouchedFor, Surroundings, claim_named, HasOutcome}
use Rattle.cc_vouching.specs.VouchedModules.{Answer, Vouches, RefusesText, RefusesDefinition, Answered, vouched_findings, AreAnswered, no_more, refused_first, vouched_first, HasAnswer, is_no_module, import_is_missing, is_not_elaborated, is_gone_through, HaveAnswers, none_left, and_then}
use Rattle.cc_vouching.specs.VouchingReplies.{replies_text}
use Rattle.cc_vouching.proofs.ClaimedOutcomes.{outcomes_go_by_claims}

-- CLAIMS

abbrev lines_of : Outcome → List Line
lines_of (AllLines lines) = lines
lines_of (BadLine number) = []
lines_of TooFew = []

abbrev binds_in : List Line → List CertificateBind
binds_in [] = []
binds_in (Binds name type ∷ lines) = (name, type) ∷ binds_in lines
binds_in (_ ∷ lines) = binds_in lines

abbrev term_in : List Line → Term
term_in [] = LiteralTerm UnitLiteral
term_in (States term ∷ lines) = term
term_in (_ ∷ lines) = term_in lines

abbrev nodes_in : List Line → List CertificateNode
nodes_in [] = []
nodes_in (Concludes node ∷ lines) = node ∷ nodes_in lines
nodes_in (_ ∷ lines) = nodes_in lines

-- what is found of bytes of these lines
abbrev claimed_by : List Line → Option Found → Claimed
claimed_by lines (Some (ProvesType names type)) =
    Proven (record { binds = binds_in lines; term = term_in lines; type = type })
claimed_by lines (Some (HasBadLine line)) = Misread line
claimed_by lines (Some (HasBadNode number)) = Broken number
claimed_by lines None = Unclaimed

abbrev claimed_of : ℕ → Option (List ℕ) → Claimed
claimed_of steps None = Unclaimed
claimed_of steps (Some bytes) = claimed_by (lines_of (read_from steps [] Start bytes)) (answer_in steps bytes)

-- something is found, and where it is a proof, the lines have parts
abbrev HasParts : List Line → Option Found → Type 0
HasParts lines (Some (ProvesType names type)) = lines ≡ parts_lines (binds_in lines) (term_in lines) (nodes_in lines)
HasParts lines (Some (HasBadLine line)) = Unit {0}
HasParts lines (Some (HasBadNode number)) = Unit {0}
HasParts lines None = ⊥

abbrev pub IsComputed : ℕ → Claim → Type 0
IsComputed steps claim =
    Lists steps claim.certificate
    × HasParts (lines_of (read_from steps [] Start claim.certificate)) (answer_in steps claim.certificate)

certificate_from : (bytes : List ℕ) (outcome : Outcome) → ComesTo bytes outcome → (binds : List CertificateBind)
    (term : Term) (nodes : List CertificateNode) → lines_of outcome ≡ parts_lines binds term nodes
    → IsCertificate bytes (parts_lines binds term nodes)
certificate_from bytes (AllLines lines) comes binds term nodes e = subst (IsCertificate bytes) e comes
certificate_from bytes (BadLine number) comes binds term nodes e = cc
certificate_from bytes TooFew comes binds term nodes e = cc

proof_from : (bytes : List ℕ) (names : List (List ℕ)) (proof : Proof) (nodes : List CertificateNode)
    → IsProof bytes names proof.type → IsCertificate bytes (parts_lines proof.binds proof.term nodes)
    → IsProofOf bytes proof
proof_from bytes names proof nodes is certificate =
    let parts =
    same_parts is.binds proof.binds is.term proof.term is.nodes nodes
    (same_tail (one_certificate bytes _ _ is.certificate certificate)) in
    subst (IsProofOf bytes) (λ i. record { binds = parts.0 i; term = parts.1 i; type = proof.type })
    (record { nodes = is.nodes; certificate = is.certificate; judged = is.judged })

found_claim : (steps : ℕ) (bytes : List ℕ) → Lists steps bytes → (answer : Option Found)
    → answer_in steps bytes ≡ answer → HasParts (lines_of (read_from steps [] Start bytes)) answer
    → IsClaimedAs (Some bytes) (claimed_by (lines_of (read_from steps [] Start bytes)) answer)
found_claim steps bytes lists None e parts = absurd parts
found_claim steps bytes lists (Some (HasBadLine line)) e parts = found_in steps bytes (HasBadLine line) lists e
found_claim steps bytes lists (Some (HasBadNode number)) e parts = found_in steps bytes (HasBadNode number) lists e
found_claim steps bytes lists (Some (ProvesType names type)) e parts =
    let outcome = read_from steps [] Start bytes in
    let lines = lines_of outcome in
    let comes = read_comes bytes steps [] Start bytes (come-nowhere Start bytes) tt in
    proof_from bytes names (record { binds = binds_in lines; term = term_in lines; type = type }) (nodes_in lines)
    (found_in steps bytes (ProvesType names type) lists e)
    (certificate_from bytes outcome comes (binds_in lines) (term_in lines) (nodes_in lines) parts)

named_by : (steps : ℕ) (name : List ℕ) (first : Claim) (rest : Option (List ℕ)) (test : Bool) → IsComputed steps first
    → IsClaimedAs rest (claimed_of steps rest)
    → IsClaimedAs (cond test (Some first.certificate) rest)
    (claimed_of steps (cond test (Some first.certificate) rest))
named_by steps name first rest true computed others =
    found_claim steps first.certificate computed.0 (answer_in steps first.certificate) refl computed.1
named_by steps name first rest false computed others = others

claim_computed : (steps : ℕ) (name : List ℕ) (claims : List Claim) → AllByRecursion (IsComputed steps) claims
    → IsClaimedAs (claim_named name claims) (claimed_of steps (claim_named name claims))
claim_computed steps name [] all = tt
claim_computed steps name (first ∷ rest) all =
    named_by steps name first (claim_named name rest) (bytes_eq first.definition name) all.0
    (claim_computed steps name rest all.1)

-- DEFINITIONS

abbrev goes_on : (List Definition → Answer) → List Definition → List ℕ → DefinitionOutcome → Answer
goes_on next before name (IsVouchedFor definition) = next (before ++ definition ∷ [])
goes_on next before name (IsNotVouchedFor reason) = RefusesDefinition name reason

module _ (steps : ℕ) (devices : List DeviceDecl) (imports : List ImportSyntax) (findings : List Finding)
    (claims : List Claim) where
  abbrev behind : List Definition → Surroundings
  behind before = record { devices = devices; imports = imports; findings = findings; before = before }

  abbrev gone_through : List Definition → List CoreDefinition → Answer
  gone_through before [] = Vouches before
  gone_through before (first ∷ rest) =
      goes_on (λ more. gone_through more rest) before first.name
      (outcome_by (behind before) first (claimed_of steps (claim_named first.name claims)))

  first_goes : (before : List Definition) (first : CoreDefinition) (rest : List CoreDefinition)
      (next : List Definition → Answer)
      → ((more : List Definition) → AreAnswered devices imports findings claims more rest (next more))
      → (outcome : DefinitionOutcome) → HasOutcome (behind before) first claims outcome
      → AreAnswered devices imports findings claims before (first ∷ rest) (goes_on next before first.name outcome)
  first_goes before first rest next others (IsVouchedFor definition) has =
      vouched_first has (others (before ++ definition ∷ []))
  first_goes before first rest next others (IsNotVouchedFor reason) has = refused_first has

  are_gone_through : AllByRecursion (IsComputed steps) claims → (before : List Definition)
      (definitions : List CoreDefinition)
      → AreAnswered devices imports findings claims before definitions (gone_through before definitions)
  are_gone_through all before [] = no_more
  are_gone_through all before (first ∷ rest) =
      let claimed = claimed_of steps (claim_named first.name claims) in
      first_goes before first rest (λ more. gone_through more rest) (λ more. are_gone_through all more rest)
      (outcome_by (behind before) first claimed)
      ((outcomes_go_by_claims (behind before) first claims (outcome_by (behind before) first claimed)).1
      (claimed, claim_computed steps first.name claims all, refl))

-- MODULES

module _ (steps : ℕ) (devices : List DeviceDecl) (answered : Answered) (it : ClaimedModule) where
  abbrev of_elaboration : ModuleSyntax → Elaboration → Answer
  of_elaboration tree (elaborated.IsRefused code at) = RefusesText code at
  of_elaboration tree (elaborated.IsElaborated core) =
      gone_through steps devices tree.imports (vouched_findings answered tree.imports) it.claims [] core.definitions

  abbrev of_missing : ModuleSyntax → Option Refusal → Answer
  of_missing tree (Some missing) = RefusesText missing.code missing.at
  of_missing tree None = of_elaboration tree (elaboration (device_names devices) tree)

  abbrev of_reading : TextReading → Answer
  of_reading (IsNoModule code at) = RefusesText code at
  of_reading (IsTree tree) =
      of_missing tree (first_missing tree.imports (vouched_findings answered tree.imports))

  module _ (all : AllByRecursion (IsComputed steps) it.claims) where
    by_elaboration : (tree : ModuleSyntax) → HasReading it.source (IsTree tree)
        → first_missing tree.imports (vouched_findings answered tree.imports) ≡ None → (o : Elaboration)
        → elaboration (device_names devices) tree ≡ o → HasAnswer devices answered it (of_elaboration tree o)
    by_elaboration tree reading found (elaborated.IsRefused code at) e = is_not_elaborated reading found e
    by_elaboration tree reading found (elaborated.IsElaborated core) e =
        is_gone_through reading found e
        (are_gone_through steps devices tree.imports (vouched_findings answered tree.imports) it.claims all []
        core.definitions)

    by_missing : (tree : ModuleSyntax) → HasReading it.source (IsTree tree) → (missing : Option Refusal)
        → first_missing tree.imports (vouched_findings answered tree.imports) ≡ missing
        → HasAnswer devices answered it (of_missing tree missing)
    by_missing tree reading (Some missing) is = import_is_missing reading is
    by_missing tree reading None is =
        by_elaboration tree reading is (elaboration (device_names devices) tree) refl

    by_reading : (r : TextReading) → HasReading it.source r → HasAnswer devices answered it (of_reading r)
    by_reading (IsNoModule code at) reading = is_no_module reading
    by_reading (IsTree tree) reading =
        by_missing tree reading (first_missing tree.imports (vouched_findings answered tree.imports)) refl

    is_answer : HasAnswer devices answered it (of_reading (quick_reading it.source))
    is_answer =
        by_reading (quick_reading it.source)
        ((text_has_one_reading it.source (quick_reading it.source)).1 (sym (same_reading it.source)))

-- what is answered to modules
abbrev pub answers_of : ℕ → List DeviceDecl → Answered → List ClaimedModule → List Answer
answers_of steps devices answered [] = []
answers_of steps devices answered (first ∷ rest) =
    let own = of_reading steps devices answered first (quick_reading first.source) in
    own ∷ answers_of steps devices (answered ++ (first.name, own) ∷ []) rest

abbrev pub AreComputed : ℕ → List ClaimedModule → Type 0
AreComputed steps modules = AllByRecursion (λ it. AllByRecursion (IsComputed steps) it.claims) modules

have_answers : (steps : ℕ) (devices : List DeviceDecl) (answered : Answered) (modules : List ClaimedModule)
    → AreComputed steps modules → HaveAnswers devices answered modules (answers_of steps devices answered modules)
have_answers steps devices answered [] all = none_left
have_answers steps devices answered (first ∷ rest) all =
    and_then (is_answer steps devices answered first all.0)
    (have_answers steps devices
    (answered ++ (first.name, of_reading steps devices answered first (quick_reading first.source)) ∷ []) rest all.1)

-- what is computed is replied
pub replied : (steps : ℕ) (devices : List DeviceDecl) (modules : List ClaimedModule) (reply : List ℕ)
    → AreComputed steps modules
    → replies_text (device_names devices) modules (answers_of steps devices [] modules) ≡ reply
    → (answers : List Answer) × HaveAnswers devices [] modules answers
    × (replies_text (device_names devices) modules answers ≡ reply)
replied steps devices modules reply all e =
    (answers_of steps devices [] modules, have_answers steps devices [] modules all, e)
