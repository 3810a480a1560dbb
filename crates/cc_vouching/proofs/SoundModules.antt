-- What is vouched for is typed.
use Rattle.std.proofs.Common.{◌≡◌, ℕ, suc, Bool, true, false, cond, List, [], ◌∷◌, ◌++◌, length, map, reverse, Option, Some, None, Result, Ok, Err, refl, sym, ap, subst, ◌∙◌, append_assoc}
use Rattle.std.specs.Prelude.{IsTrue}
use Rattle.std.specs.List.{AllByRecursion, IsDistinct}
use Rattle.std.specs.Option.{unwrap_or}
use Rattle.std.specs.Str.{bytes_eq}
use Rattle.std.proofs.lemmas.List.{reverse-append, append-nil}
use Rattle.cc_base.specs.declared.device.DeviceDecl.{DeviceDecl}
use Rattle.cc_core.specs.Captured.{is_value}
use Rattle.cc_core.specs.Contexts.{Bind, Context, entry_of}
use Rattle.cc_core.specs.Equality.{same_type}
use Rattle.cc_core.specs.Occurrences.{HasNoHoleInType, MeetsInType, positions_below}
use Rattle.cc_core.specs.Programs.{Definition, definition_context, own_context, AreTyped, is_definable, NamesDevicesOnly}
use Rattle.cc_core.specs.Shapes.{CapturingType}
use Rattle.cc_core.specs.Stores.{is_function}
use Rattle.cc_core.specs.Terms.{Term}
use Rattle.cc_core.specs.Typing.{HasType, t-sub}
use Rattle.cc_core.specs.WellFormed.{kinds_of, IsWellFormedType}
use Rattle.cc_core.proofs.KindFacts.{IsKindedType-from, IsKindedType-test}
use Rattle.cc_core.proofs.Lookups.{length_map}
use Rattle.cc_core.proofs.Sorts.{TypeSort}
use Rattle.cc_core.proofs.SubcapturingContexts.{IsKindedContext-from}
use Rattle.cc_core.proofs.WellFormedness.{well_formed-positions_below}
use Rattle.cc_device.specs.Declarations.{declared_base, declared_bases}
use Rattle.cc_filled.proofs.FilledValues.{values_stay}
use Rattle.cc_grammar.specs.Syntax.{ImportSyntax, ModuleSyntax}
use Rattle.cc_checking.specs.Verdicts.{signature_of}
use Rattle.cc_checking_laws.specs.CheckingLaws.{oldest}
use Rattle.cc_checking_laws.specs.FillingLaws.{AreGlobals}
use Rattle.cc_checking_laws.proofs.Signatures.{signed}
use Rattle.cc_mnf.specs.ElaboratedModules.{CoreDefinition, CoreModule, IsElaborated, elaboration, device_names, import_names, definition_names, is_right_side}
use Rattle.cc_mnf.proofs.SecondNames.{names_differ}
use Rattle.cc_verdicts.specs.ModuleLaws.{NamesOfDevicesDiffer, IsOverDevices}
use Rattle.cc_verdicts.specs.ModuleVerdicts.{Finding, Refusal, declared_context, with_findings}
use Rattle.cc_verdicts.specs.ReadyDefinitions.{EachIsReady}
use Rattle.cc_verdicts.specs.Readings.{IsTree, imports_in, imports_of}
use Rattle.cc_verdicts.proofs.GlobalContexts.{count_devices, oldest_of_base}
use Rattle.cc_verdicts.proofs.ReadingLaws.{text_has_one_reading}
use Rattle.cc_verdicts.proofs.ReadyModules.{values, elaborated_ready}
use Rattle.cc_certificate_judging.specs.CertificateParts.{bound_context}
use Rattle.cc_certificate_judging.proofs.FormedAnswers.{parts_have_type}
use Rattle.cc_vouching.specs.Submissions.{Claim, ClaimedModule}
use Rattle.cc_vouching.specs.VouchedDefinitions.{Proof, Surroundings, IsVouchedFor, known_binds, signature_by, agreed_signature, refused_at, code_of_difference, vouched_definition, HasOutcome, is_vouched_for}
use Rattle.cc_vouching.specs.VouchedModules.{Answer, Vouches, Answered, vouched_finding, vouched_findings, AreAnswered, no_more, refused_first, vouched_first, HasAnswer, is_gone_through}
use Rattle.cc_vouching.specs.VouchingLaws.{AreSound, VouchedModulesAreSound}
use Rattle.cc_vouching.proofs.ClosedTypes.{proven_closed, proven_globals}
use Rattle.cc_vouching.proofs.FirstDifferences.{differences_found}
use Rattle.cc_vouching.proofs.KnownContexts.{known_globals, known_bound, own_later}

-- SIGNATURES

agreed_by : (test : Bool) (refusal : Refusal) (claimed signature : CapturingType)
    → cond test (Ok claimed) (Err refusal) ≡ Ok signature → claimed ≡ signature
agreed_by true refusal claimed signature e = cc
agreed_by false refusal claimed signature e = cc

-- the signature that is vouched for is that of the certificate's type
agreed_some : (definition : CoreDefinition) (claimed written : Option CapturingType) (signature : CapturingType)
    → agreed_signature definition claimed written ≡ Ok signature → claimed ≡ Some signature
agreed_some definition None written signature e = cc
agreed_some definition (Some claimed) None signature e = cc
agreed_some definition (Some claimed) (Some written) signature e =
    ap (λ s. Some s) (agreed_by (same_type written claimed) _ claimed signature e)

-- What holds of a term at the signature of its type.
record Signs (devices : ℕ) (context : Context) (term : Term) (signature : CapturingType) : Type 0 where
  typed : HasType context term signature
  over : IsWellFormedType (oldest devices context) signature
  closed : HasNoHoleInType signature

signs : (devices : ℕ) (context : Context) (term : Term) (type signature : CapturingType) → HasType context term type
    → AreGlobals context → HasNoHoleInType type → signature_of devices context type ≡ Some signature
    → Signs devices context term signature
signs devices context term type signature typed alone closed is =
    let formed = IsKindedContext-from context typed.context_formed in
    let kinded = IsKindedType-from (kinds_of context) [] type typed.type_formed in
    let sg =
    signed devices context context (λ q b h. h) formed formed alone type signature kinded typed.type_formed is in
    let test = IsKindedType-test (kinds_of context) [] signature sg.kinded in
    record {
      typed = record {
        context_formed = typed.context_formed;
        term_formed = typed.term_formed;
        type_formed = test;
        typing = t-sub typed.typing sg.above.0 sg.above.1 test;
      };
      over = sg.over_devices;
      closed = sg.closed closed;
    }

-- DEFINITIONS

-- What holds of a definition that is vouched for where it stands.
record Stands (devices : List DeviceDecl) (globals : Context) (definition : CoreDefinition) (one : Definition) :
    Type 0 where
  named : one.name ≡ definition.name
  recursive : one.is_recursive ≡ definition.recursive
  right : is_right_side definition.recursive one.value ≡ is_right_side definition.recursive definition.right
  typed : HasType (own_context globals one) one.value one.signature
  over_devices : IsOverDevices devices one.signature

right_by : (b : Bool) (t u : Term) → is_value t ≡ is_value u → is_function t ≡ is_function u
    → is_right_side b t ≡ is_right_side b u
right_by true t u v f = f
right_by false t u v f = v

stands : (devices : List DeviceDecl) (found : ImportSyntax → Finding) (imports : List ImportSyntax)
    (before : List Definition) (definition : CoreDefinition) (claims : List Claim) (one : Definition)
    → HasOutcome (record { devices = devices; imports = imports; findings = map found imports; before = before })
    definition claims (IsVouchedFor one)
    → Stands devices (known_globals devices (map found imports) before) definition one
stands devices found imports before definition claims _ (is_vouched_for {bytes = bytes} {proof = proof} {signature = signature} e is about agreed) =
    let it : Surroundings =
    record { devices = devices; imports = imports; findings = map found imports; before = before } in
    let globals = known_globals devices (map found imports) before in
    let one : Definition = vouched_definition definition proof signature in
    let claimed : signature_by devices proof proof.type ≡ Some signature =
    agreed_some definition _ _ signature agreed in
    let binds =
    (differences_found proof.binds (known_binds it definition (signature_by devices proof proof.type))).0 about.known
    ∙ ap (known_binds it definition) claimed in
    let context : bound_context proof.binds ≡ own_context globals one =
    ap bound_context binds ∙ known_bound devices found imports before definition proof signature in
    let typed = parts_have_type proof.binds proof.term is.nodes proof.type is.certificate.fit is.judged in
    let alone = proven_globals bytes proof is in
    let sign =
    signs (length devices) (bound_context proof.binds) proof.term proof.type signature typed alone
    (proven_closed bytes proof is) claimed in
    let later = own_later devices (map found imports) before one in
    let base =
    oldest_of_base devices (bound_context proof.binds) (record {
      later = later.0;
      is = context ∙ later.1;
      formed = typed.context_formed;
      globals_alone = alone;
    }) in
    let stay = values_stay definition.right proof.term about.filled in
    record {
      named = refl;
      recursive = refl;
      right = right_by definition.recursive proof.term definition.right stay.0 stay.1;
      typed = subst (λ c. HasType c proof.term signature) context sign.typed;
      over_devices = (subst (λ c. IsWellFormedType c signature) base sign.over, sign.closed);
    }

-- MODULES

-- What holds of the definitions that are vouched for so far.
record SoFar (devices : List DeviceDecl) (base : Context) (before : List Definition) : Type 0 where
  values : AllByRecursion (λ one. IsTrue (is_definable one)) before
  over_devices : AllByRecursion (λ one. IsOverDevices devices one.signature) before
  typed : AreTyped base (reverse before)

all_and_one : {A : Type 0} (P : A → Type 0) (xs : List A) (x : A) → AllByRecursion P xs → P x
    → AllByRecursion P (xs ++ x ∷ [])
all_and_one P [] x all own = (own, tt)
all_and_one P (y ∷ xs) x all own = (all.0, all_and_one P xs x all.1 own)

names_of : List Definition → List (List ℕ)
names_of definitions = map (λ (one : Definition). one.name) definitions

one_name_more : (before : List Definition) (one : Definition) (names : List (List ℕ))
    → names_of (before ++ one ∷ []) ++ names ≡ names_of before ++ one.name ∷ names
unfolding names_of
one_name_more [] one names = refl
one_name_more (first ∷ before) one names = ap (λ l. first.name ∷ l) (one_name_more before one names)

one_more : (devices : List DeviceDecl) (base : Context) (before : List Definition) (definition : CoreDefinition)
    (one : Definition) → SoFar devices base before
    → Stands devices (definition_context base (reverse before)) definition one
    → IsTrue (is_right_side definition.recursive definition.right) → SoFar devices base (before ++ one ∷ [])
one_more devices base before definition one so here may =
    let value : IsTrue (is_definable one) =
    ap (λ b. is_right_side b one.value) here.recursive ∙ here.right ∙ may in
    record {
      values = all_and_one (λ (it : Definition). IsTrue (is_definable it)) before one so.values value;
      over_devices =
          all_and_one (λ (it : Definition). IsOverDevices devices it.signature) before one so.over_devices here.over_devices;
      typed = subst (AreTyped base) (sym (reverse-append before (one ∷ []))) (here.typed, so.typed);
    }

gone_sound : (devices : List DeviceDecl) (found : ImportSyntax → Finding) (imports : List ImportSyntax)
    (claims : List Claim) (before : List Definition) (rest : List CoreDefinition) (n : ℕ)
    → EachIsReady (values n) rest
    → SoFar devices (with_findings (declared_context devices) (map found imports)) before
    → (definitions : List Definition)
    → AreAnswered devices imports (map found imports) claims before rest (Vouches definitions)
    → SoFar devices (with_findings (declared_context devices) (map found imports)) definitions
    × (names_of definitions ≡ names_of before ++ definition_names rest)
gone_sound devices found imports claims before [] n ready so _ no_more = (so, sym (append-nil (names_of before)))
gone_sound devices found imports claims before (first ∷ rest) n ready so definitions (vouched_first {definition = one} has others) =
    let here = stands devices found imports before first claims one has in
    let more =
    gone_sound devices found imports claims (before ++ one ∷ []) rest (suc n) ready.1
    (one_more devices (with_findings (declared_context devices) (map found imports)) before first one so here
    ready.0.may_be_defined) definitions others in (
      more.0,
      more.1 ∙ one_name_more before one (definition_names rest)
          ∙ ap (λ name. names_of before ++ name ∷ definition_names rest) here.named,
    )

-- what stands behind is apart too
distinct_behind : (xs ys : List (List ℕ)) → IsDistinct bytes_eq (xs ++ ys) → IsDistinct bytes_eq ys
unfolding IsDistinct
distinct_behind [] ys h = h
distinct_behind (x ∷ xs) ys h = distinct_behind xs ys h.1

names_devices : (devices : List DeviceDecl) (definitions : List Definition)
    → AllByRecursion (λ one. IsOverDevices devices one.signature) definitions
    → AllByRecursion (λ one. NamesDevicesOnly (declared_bases devices) one.signature) definitions
names_devices devices [] all = tt
names_devices devices (one ∷ definitions) all = (
  subst (λ n. MeetsInType (positions_below n) 0 one.signature)
      (count_devices devices ∙ sym (length_map (λ (device : DeviceDecl). declared_base device.kind) devices))
      (well_formed-positions_below TypeSort (declared_context devices) one.signature all.0.0),
  names_devices devices definitions all.1,
)

sound_in_tree : (devices : List DeviceDecl) (answered : Answered) (tree : ModuleSyntax) (core : CoreModule)
    (claims : List Claim) (definitions : List Definition) → elaboration (device_names devices) tree ≡ IsElaborated core
    → AreAnswered devices tree.imports (vouched_findings answered tree.imports) claims [] core.definitions
    (Vouches definitions)
    → AreSound devices (vouched_findings answered tree.imports) definitions
unfolding names_of
sound_in_tree devices answered tree core claims definitions e gone =
    let ready = elaborated_ready (device_names devices) tree core e in
    let all =
    gone_sound devices (vouched_finding answered) tree.imports claims [] core.definitions _ ready
    (record { values = tt; over_devices = tt; typed = tt }) definitions gone in
    record {
      names = λ differ.
          subst (IsDistinct bytes_eq) (sym all.1)
          (distinct_behind (device_names devices ++ import_names core.imports) (definition_names core.definitions)
          (names_differ (device_names devices) tree core e differ));
      values = all.0.values;
      over_devices = all.0.over_devices;
      name_devices = names_devices devices definitions all.0.over_devices;
      typed = all.0.typed;
    }

pub vouched_modules_sound : VouchedModulesAreSound
vouched_modules_sound devices answered it definitions (is_gone_through {tree = tree} {core = core} reading found e gone) =
    subst (λ r. AreSound devices (vouched_findings answered (unwrap_or (imports_in r) [])) definitions)
    ((text_has_one_reading it.source (IsTree tree)).0 reading)
    (sound_in_tree devices answered tree core it.claims definitions e gone)
