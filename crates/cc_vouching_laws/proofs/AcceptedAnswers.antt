-- An accepted module is vouched for with the certificates that are written for its definitions.
use Rattle.std.proofs.Common.{◌≡◌, ℕ, ◌+◌, ◌≤◌, Bool, true, false, cond, List, [], ◌∷◌, ◌++◌, map, length, Option, Some, None, Ok, refl, sym, ap, subst, ◌∙◌, append_assoc, arith}
use Rattle.std.specs.List.{AllByRecursion, IsDistinct}
use Rattle.std.specs.Option.{unwrap_or}
use Rattle.std.specs.Str.{bytes_eq}
use Rattle.std.proofs.lemmas.List.{map-append, append-nil, length-append}
use Rattle.std.proofs.lemmas.Slice.Eq.{bytes_eq-Decides}
use Rattle.cc_base.specs.declared.device.DeviceDecl.{DeviceDecl}
use Rattle.cc_core.specs.Contexts.{Context, entry_of}
use Rattle.cc_core.specs.Equality.{same_type}
use Rattle.cc_core.specs.Occurrences.{MeetsInType, positions_below}
use Rattle.cc_core.specs.Programs.{NamesDevicesOnly}
use Rattle.cc_core.specs.WellFormed.{IsWellFormedType}
use Rattle.cc_core.proofs.Lookups.{length_map}
use Rattle.cc_device.specs.Declarations.{declared_base, declared_bases}
use Rattle.cc_core.specs.Places.{spots}
use Rattle.cc_core.specs.Shapes.{CapturingType}
use Rattle.cc_core.proofs.Comparisons.{same_type-decides}
use Rattle.cc_grammar.specs.Syntax.{ImportSyntax}
use Rattle.cc_checking.specs.Verdicts.{Accepted, signature_of}
use Rattle.cc_checking.specs.Verdicts as definitions
use Rattle.cc_checking_laws.proofs.CheckedDefinitions.{accepted_sound}
use Rattle.cc_mnf.specs.ElaboratedModules.{CoreDefinition}
use Rattle.cc_verdicts.specs.ModuleVerdicts.{Finding, CheckedDefinition, ModuleVerdict, IsAccepted, first_missing, declared_context, with_findings, to_be_checked, checked_as, AreJudged, no_more, refused_first, accepted_first, HasModuleVerdict, is_no_module, import_is_missing, is_not_elaborated, is_judged, in_program}
use Rattle.cc_verdicts.specs.PresentTexts.{Texts, ArePresent, text_of, finding_for, findings_for, AreVerdicts}
use Rattle.cc_verdicts.specs.ReadyDefinitions.{AreReady}
use Rattle.cc_verdicts.specs.Readings.{IsTree, imports_in, imports_of}
use Rattle.cc_verdicts.specs.StandingDefinitions.{with_definitions, context_behind, names_behind}
use Rattle.cc_verdicts.proofs.GlobalContexts.{HasBase, base_more, found_base, oldest_of_base, count_devices, module_ready}
use Rattle.cc_verdicts.proofs.JudgedDefinitions.{first_fits, ready_more, after_parts, accepted_parts}
use Rattle.cc_verdicts.proofs.ModuleVerdictLaws.{fits_tree, accepted_modules_are_sound}
use Rattle.cc_verdicts.proofs.PresentLaws.{present_findings_fit}
use Rattle.cc_verdicts.proofs.ReadingLaws.{text_has_one_reading}
use Rattle.cc_certificate_writing.specs.Certificates.{lines_text}
use Rattle.cc_certificate_writing.specs.DefinitionCertificates.{definition_certificate_lines}
use Rattle.cc_certificate_text.specs.Certificates.{IsCertificate}
use Rattle.cc_certificate_judging.specs.CertificateParts.{bound_context}
use Rattle.cc_certificate_judging.specs.Judging.{listed, IsValidAt, IsJudged}
use Rattle.cc_certificate_laws.specs.ModuleCertificates.{AreNamed, IsCertified}
use Rattle.cc_certificate_laws.proofs.CertifiedModules.{present_certified}
use Rattle.cc_certificate_laws.proofs.ProgramContexts.{contexts_of_programs}
use Rattle.cc_vouching.specs.Submissions.{Claim}
use Rattle.cc_vouching.specs.VouchedDefinitions.{Proof, IsProofOf, Surroundings, claim_named, known_binds, first_difference, signature_by, agreed_signature, HasOutcome, is_vouched_for, IsVouchedFor, written_type, refused_at, code_of_difference}
use Rattle.cc_vouching.specs.VouchedModules.{Vouches, Answered, vouched_findings, AreAnswered, HasAnswer, is_gone_through}
use Rattle.cc_vouching.specs.VouchedModules as vouched
use Rattle.cc_vouching.proofs.FirstDifferences.{differences_found}
use Rattle.cc_vouching.proofs.KnownContexts.{known_bound}
use Rattle.cc_vouching_laws.specs.Completeness.{claims_behind, AreFew, AcceptedModulesAreVouchedFor}
use Rattle.cc_vouching_laws.proofs.FilledRights.{accepted_fills}
use Rattle.cc_vouching_laws.proofs.SameBinds.{same_binds, known_names}
use Rattle.cc_vouching_laws.proofs.SignedNotes.{accepted_signs, signs_itself, type_below}

-- SIGNATURES

if_yes : {A : Type 0} (b : Bool) (x y : A) → b ≡ true → cond b x y ≡ x
if_yes true x y e = refl
if_yes false x y e = cc

if_no : {A : Type 0} (b : Bool) (x y : A) → b ≡ false → cond b x y ≡ y
if_no true x y e = cc
if_no false x y e = refl

agrees : (definition : CoreDefinition) (proved written : Option CapturingType) (signature : CapturingType)
    → proved ≡ Some signature → written ≡ Some signature
    → agreed_signature definition proved written ≡ Ok signature
agrees definition proved written signature e f =
    (λ i. agreed_signature definition (e i) (f i))
    ∙ if_yes (same_type signature signature) (Ok signature)
    (refused_at (code_of_difference signature signature) (spots definition.places).at)
    ((same_type-decides signature signature).1 refl)

-- CLAIMS

not_same : (a b : List ℕ) → (a ≡ b → ⊥) → bytes_eq a b ≡ false
not_same a b apart = by_test (bytes_eq a b) refl
  where
    by_test : (test : Bool) → bytes_eq a b ≡ test → test ≡ false
    by_test true e = absurd (apart ((bytes_eq-Decides a b).0 e))
    by_test false e = refl

-- CONTEXTS

one_more : (g : Context) (before : List CheckedDefinition) (one : CheckedDefinition)
    → with_definitions g (before ++ one ∷ []) ≡ entry_of one.accepted.signature ∷ with_definitions g before
one_more g [] one = refl
one_more g (first ∷ before) one = one_more (entry_of first.accepted.signature ∷ g) before one

others_apart : (x : List ℕ) (front back : List CheckedDefinition) (one : CheckedDefinition)
    → AllByRecursion (λ y. bytes_eq x y ≡ false) (map (λ (it : CheckedDefinition). it.name) (front ++ one ∷ back))
    → bytes_eq x one.name ≡ false
others_apart x [] back one all = all.0
others_apart x (first ∷ front) back one all = others_apart x front back one all.1

module _ (devices : List DeviceDecl) (imports : List ImportSyntax) (findings : List Finding) where
  -- the bytes of the certificate of a definition behind these
  abbrev bytes_behind : List CheckedDefinition → CheckedDefinition → List ℕ
  bytes_behind before one =
      lines_text
      (definition_certificate_lines (names_behind devices imports before one)
      (context_behind devices findings before one) one.accepted)

  claim_found : (start front back : List CheckedDefinition) (one : CheckedDefinition)
      → IsDistinct bytes_eq (map (λ (it : CheckedDefinition). it.name) (front ++ one ∷ back))
      → claim_named one.name (claims_behind devices imports findings start (front ++ one ∷ back))
      ≡ Some (bytes_behind (start ++ front) one)
  unfolding IsDistinct
  claim_found start [] back one apart =
      if_yes (bytes_eq one.name one.name) (Some (bytes_behind start one))
      (claim_named one.name (claims_behind devices imports findings (start ++ one ∷ []) back))
      ((bytes_eq-Decides one.name one.name).1 refl)
      ∙ ap (λ l. Some (bytes_behind l one)) (sym (append-nil start))
  claim_found start (first ∷ front) back one apart =
      if_no (bytes_eq first.name one.name) (Some (bytes_behind start first))
      (claim_named one.name (claims_behind devices imports findings (start ++ first ∷ []) (front ++ one ∷ back)))
      (others_apart first.name front back one apart.0)
      ∙ claim_found (start ++ first ∷ []) front back one apart.1
      ∙ ap (λ l. Some (bytes_behind l one)) (append_assoc start (first ∷ []) front)

-- MODULES

-- A present module that is accepted, with what its text is.
record Accepts (devices : List DeviceDecl) (texts : Texts) (verdicts : List ℕ → ModuleVerdict) (name text : List ℕ)
    (imports : List ImportSyntax) (checked : List CheckedDefinition) : Type 0 where
  named : AreNamed devices
  there : ArePresent texts
  are : AreVerdicts devices texts verdicts
  present : text_of texts name ≡ Some text
  imports_are : imports_of text ≡ Some imports
  accepted : verdicts name ≡ IsAccepted checked
  findings_are : findings_for texts verdicts name text ≡ map (finding_for texts verdicts name) imports
  apart : IsDistinct bytes_eq (map (λ (one : CheckedDefinition). one.name) checked)
  below : AllByRecursion
      (λ (one : CheckedDefinition). MeetsInType (positions_below (length devices)) 0 one.accepted.signature) checked

all_at : (P : CheckedDefinition → Type 0) (front back : List CheckedDefinition) (one : CheckedDefinition)
    → AllByRecursion P (front ++ one ∷ back) → P one
all_at P [] back one all = all.0
all_at P (first ∷ front) back one all = all_at P front back one all.1

few_at : (devices : List DeviceDecl) (findings : List Finding) (start front back : List CheckedDefinition)
    (one : CheckedDefinition) → AreFew devices findings start (front ++ one ∷ back)
    → AreFew devices findings (start ++ front) (one ∷ back)
few_at devices findings start [] back one few =
    subst (λ l. AreFew devices findings l (one ∷ back)) (sym (append-nil start)) few
few_at devices findings start (first ∷ front) back one few =
    subst (λ l. AreFew devices findings l (one ∷ back)) (append_assoc start (first ∷ []) front)
    (few_at devices findings (start ++ first ∷ []) front back one few.1)

low_base : (devices : List DeviceDecl) (g : Context) → HasBase (declared_context devices) g
    → length devices ≤ length g
low_base devices g base =
    let whole = ap (λ (c : Context). length c) base.is in
    let parts = length-append base.later (declared_context devices) in
    let declared = count_devices devices in
    omega arith

module _ (devices : List DeviceDecl) (texts : Texts) (verdicts : List ℕ → ModuleVerdict) (name text : List ℕ)
    (imports : List ImportSyntax) (checked : List CheckedDefinition)
    (it : Accepts devices texts verdicts name text imports checked) where
  abbrev found : ImportSyntax → Finding
  found = finding_for texts verdicts name

  abbrev findings : List Finding
  findings = map found imports

  abbrev base : Context
  base = with_findings (declared_context devices) findings

  abbrev claims : List Claim
  claims = claims_behind devices imports findings [] checked

  abbrev behind : List CheckedDefinition → Surroundings
  behind before =
      record { devices = devices; imports = imports; findings = findings; before = map in_program before }

  one_outcome : (before back : List CheckedDefinition) (first : CoreDefinition) (rest : List CoreDefinition)
      (accepted : Accepted) → checked ≡ before ++ checked_as first accepted ∷ back → (g : Context)
      → g ≡ with_definitions base before → AreReady g (first ∷ rest) → HasBase (declared_context devices) g
      → definitions.HasVerdict (length devices) g (to_be_checked first) (definitions.IsAccepted accepted)
      → AreFew devices findings before (checked_as first accepted ∷ back) → first_missing imports findings ≡ None
      → length findings ≡ length imports
      → HasOutcome (behind before) first claims (IsVouchedFor (in_program (checked_as first accepted)))
  one_outcome before back first rest accepted are g g_is ready over has few missing each =
      let one : CheckedDefinition = checked_as first accepted in
      let sig : CapturingType = accepted.signature in
      let n = length devices in
      let cert : IsCertified (names_behind devices imports before one) (context_behind devices findings before one) accepted =
      present_certified devices texts verdicts imports findings before one it.named it.there it.are
      (record {
        name = name;
        text = text;
        present = it.present;
        imports_are = it.imports_are;
        findings_are = sym it.findings_are;
        after = back;
        accepted = it.accepted ∙ ap IsAccepted are;
      }) few.0 in
      let proof : Proof = record { binds = cert.binds; term = accepted.filled; type = sig } in
      let bytes : List ℕ = bytes_behind devices imports findings before one in
      let is : IsProofOf bytes proof = record {
        nodes = listed 0 cert.tree;
        certificate = subst (IsCertificate bytes) cert.parts cert.written;
        judged =
            subst (λ c. IsJudged c accepted.filled (listed 0 cert.tree) (IsValidAt sig)) (sym cert.bound) cert.valid;
      } in
      let claim : claim_named first.name claims ≡ Some bytes =
      ap (λ l. claim_named first.name (claims_behind devices imports findings [] l)) are
      ∙ claim_found devices imports findings [] before back one
      (subst (λ l. IsDistinct bytes_eq (map (λ (x : CheckedDefinition). x.name) l)) are it.apart) in
      let below : MeetsInType (positions_below n) 0 sig =
      all_at (λ (x : CheckedDefinition). MeetsInType (positions_below n) 0 x.accepted.signature) before back one
      (subst (AllByRecursion (λ (x : CheckedDefinition). MeetsInType (positions_below n) 0 x.accepted.signature)) are it.below) in
      let fits = first_fits g first rest ready in
      let signs =
      accepted_signs n g (to_be_checked first) accepted (low_base devices g over) fits.note_formed fits.note_closed below has in
      let context : bound_context cert.binds ≡ cond first.recursive (entry_of sig ∷ g) g =
      cert.bound ∙ ap (λ c. cond first.recursive (entry_of sig ∷ c) c) (sym g_is) in
      let written : signature_by devices proof (written_type first.note sig) ≡ Some sig =
      ap (λ c. signature_of n c (written_type first.note sig)) context ∙ signs in
      let proved : signature_by devices proof sig ≡ Some sig =
      signs_itself n (bound_context cert.binds) sig (λ q le. type_below n q sig le below) in
      let binds : cert.binds ≡ known_binds (behind before) first (Some sig) =
      same_binds cert.binds (known_binds (behind before) first (Some sig))
      (cert.named ∙ sym (known_names devices imports findings before first sig each missing))
      (cert.bound ∙ contexts_of_programs devices findings before one
      ∙ sym (known_bound devices found imports (map in_program before) first proof sig)) in
      let known : first_difference proof.binds (known_binds (behind before) first (signature_by devices proof sig)) ≡ None =
      (differences_found proof.binds (known_binds (behind before) first (signature_by devices proof sig))).1
      (binds ∙ ap (known_binds (behind before) first) (sym proved)) in
      is_vouched_for {bytes = bytes} {proof = proof} {signature = sig} claim is
      (record { filled = accepted_fills n g (to_be_checked first) accepted ready.each.0.holes has; known = known })
      (agrees first _ _ sig proved written)

  abbrev Gone : List CheckedDefinition → List CoreDefinition → Type 0
  Gone before cores =
      AreAnswered devices imports findings claims (map in_program before) cores (Vouches (map in_program checked))

  all_vouched : (before : List CheckedDefinition) (cores : List CoreDefinition) (rest : List CheckedDefinition)
      (v : ModuleVerdict) (g : Context) → g ≡ with_definitions base before → checked ≡ before ++ rest → AreReady g cores
      → HasBase (declared_context devices) g → AreFew devices findings before rest
      → first_missing imports findings ≡ None → length findings ≡ length imports
      → AreJudged (length devices) g cores v → v ≡ IsAccepted rest → Gone before cores
  all_vouched before [] rest v g g_is are ready over few missing each no_more e =
      let ends : checked ≡ before =
      are ∙ ap (λ l. before ++ l) (sym (accepted_parts [] rest e)) ∙ append-nil before in
      subst (λ l. AreAnswered devices imports findings claims (map in_program before) [] (Vouches (map in_program l)))
      (sym ends) vouched.no_more
  all_vouched before (first ∷ cores) rest v g g_is are ready over few missing each (refused_first has) e = cc
  all_vouched before (first ∷ cores) rest v g g_is are ready over few missing each (accepted_first {accepted = accepted} {verdict = next} has others) e =
      let one : CheckedDefinition = checked_as first accepted in
      let parts = after_parts one next rest e in
      let here : checked ≡ before ++ one ∷ parts.0 = are ∙ ap (λ l. before ++ l) parts.2 in
      let fewer = subst (AreFew devices findings before) parts.2 few in
      let sound = accepted_sound (length devices) g (to_be_checked first) accepted (first_fits g first cores ready) has in
      let more =
      all_vouched (before ++ one ∷ []) cores parts.0 next (entry_of accepted.signature ∷ g)
      (ap (λ c. entry_of accepted.signature ∷ c) g_is ∙ sym (one_more base before one))
      (here ∙ sym (append_assoc before (one ∷ []) parts.0))
      (ready_more (length devices) g first cores accepted ready has)
      (base_more (declared_context devices) g accepted.signature over
      (subst (λ c. IsWellFormedType c accepted.signature) (oldest_of_base devices g over) sound.over_devices)
      sound.signature_closed) fewer.1 missing each others parts.1 in
      vouched.vouched_first
      (one_outcome before parts.0 first cores accepted here g g_is ready over has fewer missing each)
      (subst (λ l. AreAnswered devices imports findings claims l cores (Vouches (map in_program checked)))
      (map-append in_program before (one ∷ [])) more)

-- THE LAW

same_imports : (a b : List ImportSyntax) → Some a ≡ Some b → a ≡ b
same_imports a b e = cc

devices_counted : (devices : List DeviceDecl) (checked : List CheckedDefinition)
    → AllByRecursion (λ (it : CheckedDefinition). NamesDevicesOnly (declared_bases devices) it.accepted.signature) checked
    → AllByRecursion (λ (it : CheckedDefinition). MeetsInType (positions_below (length devices)) 0 it.accepted.signature) checked
devices_counted devices [] all = tt
devices_counted devices (one ∷ checked) all = (
  subst (λ n. MeetsInType (positions_below n) 0 one.accepted.signature)
      (length_map (λ (device : DeviceDecl). declared_base device.kind) devices) all.0,
  devices_counted devices checked all.1,
)

-- what is vouched for where the text has these imports
IsFollowed : List DeviceDecl → Answered → Texts → (List ℕ → ModuleVerdict) → List ℕ → List ℕ → List CheckedDefinition
    → List ImportSyntax → Type 0
IsFollowed devices answered texts verdicts name text checked imports =
    vouched_findings answered imports ≡ findings_for texts verdicts name text
    → HasAnswer devices answered
    (record {
      name = name;
      source = text;
      claims = claims_behind devices imports (findings_for texts verdicts name text) [] checked;
    }) (Vouches (map in_program checked))

judged_vouched : (devices : List DeviceDecl) (texts : Texts) (verdicts : List ℕ → ModuleVerdict) (answered : Answered)
    (name text : List ℕ) (imports : List ImportSyntax) (checked : List CheckedDefinition) → AreNamed devices
    → ArePresent texts → AreVerdicts devices texts verdicts → text_of texts name ≡ Some text
    → imports_of text ≡ Some imports → verdicts name ≡ IsAccepted checked
    → AreFew devices (findings_for texts verdicts name text) [] checked → (v : ModuleVerdict)
    → HasModuleVerdict devices text (findings_for texts verdicts name text) v → v ≡ IsAccepted checked
    → IsFollowed devices answered texts verdicts name text checked imports
unfolding IsFollowed
judged_vouched devices texts verdicts answered name text imports checked named there are present imports_are accepted few v (is_no_module reading) e = cc
judged_vouched devices texts verdicts answered name text imports checked named there are present imports_are accepted few v (import_is_missing reading missing) e = cc
judged_vouched devices texts verdicts answered name text imports checked named there are present imports_are accepted few v (is_not_elaborated reading found is) e = cc
judged_vouched devices texts verdicts answered name text imports checked named there are present imports_are accepted few v (is_judged {tree = tree} {core = core} reading missing elaborated judged) e =
    let all = findings_for texts verdicts name text in
    let own : Some tree.imports ≡ imports_of text =
    ap imports_in ((text_has_one_reading text (IsTree tree)).0 reading) in
    let found = finding_for texts verdicts name in
    let fit = present_findings_fit devices texts verdicts named.apart there are name text present in
    let counted = fits_tree devices text all tree fit reading in
    let sound =
    accepted_modules_are_sound devices text all checked named.apart fit
    (subst (HasModuleVerdict devices text all) accepted (are name text present)) in
    let ready = module_ready devices tree all core counted fit.over_devices missing elaborated in
    let found_are : all ≡ map found tree.imports =
    ap (λ o. map found (unwrap_or o [])) (sym own) in
    let it : Accepts devices texts verdicts name text tree.imports checked = record {
      named = named;
      there = there;
      are = are;
      present = present;
      imports_are = sym own;
      accepted = accepted;
      findings_are = found_are;
      apart = sound.names;
      below = devices_counted devices checked sound.name_devices;
    } in
    let gone =
    all_vouched devices texts verdicts name text tree.imports checked it [] core.definitions checked v
    (with_findings (declared_context devices) (map found tree.imports)) refl refl
    (subst (λ l. AreReady (with_findings (declared_context devices) l) core.definitions) found_are ready)
    (subst (λ l. HasBase (declared_context devices) (with_findings (declared_context devices) l)) found_are
    (found_base devices all fit.over_devices))
    (subst (λ l. AreFew devices l [] checked) found_are few)
    (subst (λ l. first_missing tree.imports l ≡ None) found_are missing)
    (subst (λ l. length l ≡ length tree.imports) found_are counted)
    (subst (λ l. AreJudged (length devices) (with_findings (declared_context devices) l) core.definitions v) found_are judged)
    e in
    let back =
    subst (λ l. AreAnswered devices tree.imports l (claims_behind devices tree.imports l [] checked) []
    core.definitions (Vouches (map in_program checked))) (sym found_are) gone in
    let here : IsFollowed devices answered texts verdicts name text checked tree.imports =
    λ agree.
    is_gone_through reading (ap (first_missing tree.imports) agree ∙ missing) elaborated
    (subst (λ l. AreAnswered devices tree.imports l (claims_behind devices tree.imports all [] checked) []
    core.definitions (Vouches (map in_program checked))) (sym agree) back) in
    subst (IsFollowed devices answered texts verdicts name text checked)
    (same_imports tree.imports imports (own ∙ imports_are)) here

pub accepted_modules_vouched : AcceptedModulesAreVouchedFor
unfolding IsFollowed
accepted_modules_vouched devices texts verdicts answered name text imports checked named there are present imports_are accepted few agree =
    judged_vouched devices texts verdicts answered name text imports checked named there are present imports_are accepted
    few (verdicts name) (are name text present) accepted agree
