-- Entries of modules that were vouched for are entries of typed modules.
use Rattle.std.proofs.Common.{◌≡◌, ℕ, suc, Bool, true, false, List, [], ◌∷◌, ◌++◌, map, reverse, length, Option, Some, None, refl, sym, ap, ◌∙◌, subst, inl, inr, append_assoc, cond}
use Rattle.std.specs.Prelude.{IsTrue}
use Rattle.std.specs.List.{AllByRecursion, IsDistinct, list_all}
use Rattle.std.specs.Map.{lookup}
use Rattle.std.specs.Option.{is_some, unwrap_or}
use Rattle.std.specs.Str.{bytes_eq}
use Rattle.std.proofs.lemmas.Bool.{cases_Bool, or_left}
use Rattle.std.proofs.lemmas.Cmp.{nat_list_eq_equiv}
use Rattle.std.proofs.lemmas.List.{reverse-append, reverse-reverse}
use Rattle.std.proofs.lemmas.List.Sorted.{IsPermutation-reverse}
use Rattle.std.proofs.lemmas.Map.Keys.{IsDistinct-IsPermutation}
use Rattle.std.proofs.lemmas.Slice.Eq.{bytes_eq-Decides}
use Rattle.cc_base.specs.declared.device.DeviceDecl.{DeviceDecl}
use Rattle.cc_base.specs.declared.device.Kind.{Kind}
use Rattle.cc_base.specs.declared.device.Kind.TheVariants as kinds
use Rattle.cc_base.specs.declared.literal.Base.{Base}
use Rattle.cc_core.specs.Programs.{Definition, Import, Module, Entry, is_definable, definition_named, definition_in, imported, device_context, import_context, AreTyped, NamesDevicesOnly, OfEachModule, AreDefinable, NamesDiffer, SignaturesNameDevices, ImportsAreThere, IsTypedModule, is_listed, IsEntry}
use Rattle.cc_core.specs.Shapes.{CapturingType}
use Rattle.cc_core.specs.Stores.{is_device_base, authority}
use Rattle.cc_device.specs.Declarations.{declared_base, declared_bases}
use Rattle.cc_device.specs.Devices.{Devices}
use Rattle.cc_entry_laws.proofs.EntryLinks.{IsImported, imports_alike}
use Rattle.cc_entry_laws.proofs.EntryModules.{all_turned}
use Rattle.cc_entry_laws.specs.PresentEntries.{import_of}
use Rattle.cc_graph.proofs.Paths.{IsAmong}
use Rattle.cc_grammar.specs.Syntax.{ImportSyntax}
use Rattle.cc_runs.specs.SafeRuns.{HaveShapes}
use Rattle.cc_runs.specs.TaskLaws.{AreEntries}
use Rattle.cc_sound_laws.proofs.JudgedModules.{each_found}
use Rattle.cc_sound_laws.proofs.Running.{programs_run_together}
use Rattle.cc_verdicts.specs.ModuleLaws.{NamesOfDevicesDiffer}
use Rattle.cc_verdicts.specs.ModuleVerdicts.{FoundDefinition, declared_context, first_missing}
use Rattle.cc_verdicts.specs.Readings.{IsTree, imports_in, imports_of}
use Rattle.cc_verdicts.proofs.ReadingLaws.{text_has_one_reading}
use Rattle.cc_verdicts.proofs.Asking.{map-reverse}
use Rattle.cc_vouching.specs.Submissions.{ClaimedModule}
use Rattle.cc_vouching.specs.VouchedModules.{Answer, Vouches, RefusesText, RefusesDefinition, Answered, found_or_none, found_in, vouched_finding, vouched_findings, HasAnswer, is_gone_through, HaveAnswers, none_left, and_then}
use Rattle.cc_vouching.specs.VouchingLaws.{AreSound}
use Rattle.cc_vouching.proofs.SoundModules.{vouched_modules_sound}
use Rattle.cc_vouched_programs.specs.VouchedPrograms.{all_answered, IsVouchedModule, IsVouchedBehind, IsVouchedEntry, VouchedEntriesAreEntries, VouchedProgramsRunTogether}

-- LOOKING UP

-- what is found in front is found in all
found_in_front : {A : Type 0} (test : List ℕ → Bool) (front back : List (List ℕ × A)) (x : A) → lookup test front ≡ Some x
    → lookup test (front ++ back) ≡ Some x
found_in_front test [] back x e = cc
found_in_front test (first ∷ front) back x e =
    elim (cases_Bool (test first.0)) [
      | inl hit ↦ rw hit (rw hit at e)
      | inr miss ↦ rw miss (found_in_front test front back x (rw miss at e))
    ]

some_same : {A : Type 0} (a b : A) → Some a ≡ Some b → a ≡ b
some_same a b e = cc

vouches_same : (a b : List Definition) → Vouches a ≡ Vouches b → a ≡ b
vouches_same a b e = cc

-- DEFINITIONS OF DIFFERENT NAMES, TURNED ROUND

abbrev or_else : Option Definition → Option Definition → Option Definition
or_else (Some d) other = Some d
or_else None other = other

named_append : (name : List ℕ) (xs : List Definition) (y : Definition)
    → definition_named name (xs ++ y ∷ []) ≡ or_else (definition_named name xs) (cond (bytes_eq y.name name) (Some y) None)
named_append name [] y = refl
named_append name (x ∷ xs) y =
    elim (cases_Bool (bytes_eq x.name name)) [
      | inl hit ↦ rw hit refl
      | inr miss ↦ rw miss (named_append name xs y)
    ]

-- no other has the name
others_none : (name x : List ℕ) (xs : List Definition) → bytes_eq x name ≡ true
    → AllByRecursion (λ y. bytes_eq x y ≡ false) (map (λ (one : Definition). one.name) xs) → definition_named name xs ≡ None
others_none name x [] hit all = refl
others_none name x (first ∷ xs) hit all =
    let same : x ≡ name = (bytes_eq-Decides x name).0 hit in
    let other : bytes_eq first.name name ≡ false = ap (bytes_eq first.name) (sym same) ∙ nat_list_eq_equiv.symm first.name x ∙ all.0 in
    rw other (others_none name x xs hit all.1)

named_turned : (name : List ℕ) (xs : List Definition) → IsDistinct bytes_eq (map (λ (one : Definition). one.name) xs)
    → definition_named name (reverse xs) ≡ definition_named name xs
unfolding IsDistinct
named_turned name [] differ = refl
named_turned name (x ∷ xs) differ =
    ap (definition_named name) (reverse-append (x ∷ []) xs) ∙ named_append name (reverse xs) x
    ∙ ap (λ o. or_else o (cond (bytes_eq x.name name) (Some x) None)) (named_turned name xs differ.1)
    ∙ (elim (cases_Bool (bytes_eq x.name name)) as (λ _. or_else (definition_named name xs) (cond (bytes_eq x.name name) (Some x) None)
    ≡ cond (bytes_eq x.name name) (Some x) (definition_named name xs)) [
      | inl hit ↦ rw hit (rw (others_none name x.name xs hit differ.0) refl)
      | inr miss ↦ rw miss (nothing_else (definition_named name xs))
    ])
  where
    nothing_else : (o : Option Definition) → or_else o None ≡ o
    nothing_else (Some d) = refl
    nothing_else None = refl

-- WHAT WAS ANSWERED

-- The module of a text and its answer: behind a front of the answers, it was answered so.
record IsAnsweredAt (devices : List DeviceDecl) (all : Answered) (source : List ℕ) (answer : Answer) : Type 0 where
  it : ClaimedModule
  of_source : it.source ≡ source
  front : Answered
  back : Answered
  parts : all ≡ front ++ back
  has : HasAnswer devices front it answer

answered_at : (devices : List DeviceDecl) (before : Answered) (modules : List ClaimedModule) (answers : List Answer)
    → HaveAnswers devices before modules answers → (name source : List ℕ) (answer : Answer)
    → lookup (bytes_eq name) (map (λ (it : ClaimedModule). (it.name, it.source)) modules) ≡ Some source
    → lookup (bytes_eq name) (all_answered modules answers) ≡ Some answer
    → IsAnsweredAt devices (before ++ all_answered modules answers) source answer
answered_at devices before [] [] none_left name source answer e f = cc
answered_at devices before [] (given ∷ answers) have name source answer e f = cc
answered_at devices before (first ∷ rest) [] have name source answer e f = cc
answered_at devices before (first ∷ rest) (given ∷ answers) (and_then has others) name source answer e f =
    elim (cases_Bool (bytes_eq name first.name)) as (λ _. IsAnsweredAt devices (before ++ (first.name, given) ∷ all_answered rest answers) source answer) [
      | inl hit ↦
          record {
            it = first;
            of_source = some_same first.source source (rw hit at e);
            front = before;
            back = (first.name, given) ∷ all_answered rest answers;
            parts = refl;
            has = subst (HasAnswer devices before first) (some_same given answer (rw hit at f)) has;
          }
      | inr miss ↦
          (let later = answered_at devices (before ++ (first.name, given) ∷ []) rest answers others name source answer (rw miss at e) (rw miss at f) in
          record {
            it = later.it;
            of_source = later.of_source;
            front = later.front;
            back = later.back;
            parts = ◌∙◌ {c = later.front ++ later.back} (sym (append_assoc before ((first.name, given) ∷ []) (all_answered rest answers))) later.parts;
            has = later.has;
          })
    ]

-- for each import of a module that is vouched for a definition is found
vouched_found : (devices : List DeviceDecl) (front : Answered) (it : ClaimedModule) (definitions : List Definition)
    → HasAnswer devices front it (Vouches definitions)
    → first_missing (unwrap_or (imports_of it.source) []) (vouched_findings front (unwrap_or (imports_of it.source) [])) ≡ None
vouched_found devices front it definitions (is_gone_through {tree = tree} reading found e gone) =
    subst (λ r. first_missing (unwrap_or (imports_in r) []) (vouched_findings front (unwrap_or (imports_in r) [])) ≡ None)
    ((text_has_one_reading it.source (IsTree tree)).0 reading) found

-- what is found for an import is a definition of a module that is vouched for
record IsFoundIn (all : Answered) (one : ImportSyntax) (signature : CapturingType) : Type 0 where
  definitions : List Definition
  vouched : lookup (bytes_eq one.source) all ≡ Some (Vouches definitions)
  definition : Definition
  named : definition_named one.name definitions ≡ Some definition
  signed : definition.signature ≡ signature

found_there : (all : Answered) (one : ImportSyntax) (signature : CapturingType) (definitions : List Definition)
    → lookup (bytes_eq one.source) all ≡ Some (Vouches definitions) → (o : Option Definition)
    → definition_named one.name definitions ≡ o → found_or_none o ≡ FoundDefinition signature → IsFoundIn all one signature
found_there all one signature definitions vouched (Some definition) named e =
    record { definitions = definitions; vouched = vouched; definition = definition; named = named; signed = signature_of definition e }
  where
    signature_of : (d : Definition) → FoundDefinition d.signature ≡ FoundDefinition signature → d.signature ≡ signature
    signature_of d e = cc
found_there all one signature definitions vouched None named e = cc

found_by : (front back : Answered) (one : ImportSyntax) (signature : CapturingType) (o : Option Answer)
    → lookup (bytes_eq one.source) front ≡ o → found_in o one.name ≡ FoundDefinition signature
    → IsFoundIn (front ++ back) one signature
found_by front back one signature None is e = cc
found_by front back one signature (Some (Vouches definitions)) is e =
    found_there (front ++ back) one signature definitions (found_in_front (bytes_eq one.source) front back (Vouches definitions) is)
    (definition_named one.name definitions) refl e
found_by front back one signature (Some (RefusesText code at)) is e = cc
found_by front back one signature (Some (RefusesDefinition name reason)) is e = cc

-- ONE MODULE OF A PROGRAM

-- What holds of it behind the earlier ones.
record IsSoundModule (devices : List DeviceDecl) (earlier : List Module) (current : Module) : Type 0 where
  values : AreDefinable earlier current
  names : NamesDiffer earlier current
  name_devices : SignaturesNameDevices (declared_bases devices) earlier current
  imports : ImportsAreThere earlier current
  typed : IsTypedModule (declared_bases devices) earlier current

module _ (devices : List DeviceDecl) (modules : List ClaimedModule) (answers : List Answer) (differ : NamesOfDevicesDiffer devices)
    (have : HaveAnswers devices [] modules answers) where
  abbrev all : Answered
  all = all_answered modules answers

  abbrev Behind : List Module → Module → Type 0
  Behind = IsVouchedBehind modules answers

  -- the definitions of a module that is vouched for are sound with what was answered before it
  record IsSoundAt (current : Module) (imports : List ImportSyntax) : Type 0 where
    front : Answered
    back : Answered
    parts : all ≡ front ++ back
    sound : AreSound devices (vouched_findings front imports) current.definitions
    found : first_missing imports (vouched_findings front imports) ≡ None

  sound_at : (current : Module) (is : IsVouchedModule modules answers current) → IsSoundAt current (unwrap_or (imports_of is.source) [])
  sound_at current is =
      let at = answered_at devices [] modules answers have current.name is.source (Vouches current.definitions) is.there is.vouched in
      let sound = vouched_modules_sound devices at.front at.it current.definitions at.has in
      let found = vouched_found devices at.front at.it current.definitions at.has in
      record {
        front = at.front;
        back = at.back;
        parts = at.parts;
        sound = subst (λ s. AreSound devices (vouched_findings at.front (unwrap_or (imports_of s) [])) current.definitions) at.of_source sound;
        found = subst (λ s. first_missing (unwrap_or (imports_of s) []) (vouched_findings at.front (unwrap_or (imports_of s) [])) ≡ None) at.of_source found;
      }

  -- what a listed name stands for among earlier modules
  listed_definition : (earlier : List Module) → OfEachModule Behind earlier → (source name : List ℕ) (definitions : List Definition)
      → is_listed earlier source ≡ true → lookup (bytes_eq source) all ≡ Some (Vouches definitions)
      → definition_in source name earlier ≡ definition_named name (reverse definitions)
  listed_definition [] each source name definitions listed vouched = cc
  listed_definition (newest ∷ older) each source name definitions listed vouched =
      elim (cases_Bool (bytes_eq newest.name source)) [
        | inl hit ↦
            (let same : newest.name ≡ source = (bytes_eq-Decides newest.name source).0 hit in
            let one : lookup (bytes_eq source) all ≡ Some (Vouches newest.definitions) =
            subst (λ n. lookup (bytes_eq n) all ≡ Some (Vouches newest.definitions)) same each.0.is_vouched.vouched in
            let alike : newest.definitions ≡ definitions =
            vouches_same newest.definitions definitions (some_same (Vouches newest.definitions) (Vouches definitions) (sym one ∙ vouched)) in
            rw hit (ap (λ ds. definition_named name (reverse ds)) alike))
        | inr miss ↦ rw miss (listed_definition older each.1 source name definitions (rw miss at listed) vouched)
      ]

  listed_names : (earlier : List Module) → OfEachModule Behind earlier → (source : List ℕ) (definitions : List Definition)
      → is_listed earlier source ≡ true → lookup (bytes_eq source) all ≡ Some (Vouches definitions)
      → IsDistinct bytes_eq (map (λ (one : Definition). one.name) definitions)
  listed_names [] each source definitions listed vouched = cc
  listed_names (newest ∷ older) each source definitions listed vouched =
      elim (cases_Bool (bytes_eq newest.name source)) [
        | inl hit ↦
            (let same : newest.name ≡ source = (bytes_eq-Decides newest.name source).0 hit in
            let one : lookup (bytes_eq source) all ≡ Some (Vouches newest.definitions) =
            subst (λ n. lookup (bytes_eq n) all ≡ Some (Vouches newest.definitions)) same each.0.is_vouched.vouched in
            let alike : newest.definitions ≡ definitions =
            vouches_same newest.definitions definitions (some_same (Vouches newest.definitions) (Vouches definitions) (sym one ∙ vouched)) in
            let D : List Definition → Type 0 = λ ds. IsDistinct bytes_eq (map (λ (one : Definition). one.name) ds) in
            subst D alike ((sound_at newest each.0.is_vouched).sound.names differ))
        | inr miss ↦ listed_names older each.1 source definitions (rw miss at listed) vouched
      ]

  is_imported : (earlier : List Module) → OfEachModule Behind earlier → (front back : Answered) → all ≡ front ++ back
      → (one : ImportSyntax) (signature : CapturingType) → vouched_finding front one ≡ FoundDefinition signature
      → is_listed earlier one.source ≡ true → IsImported earlier (vouched_finding front one) (import_of one)
  is_imported earlier each front back parts one signature finds listed =
      let is = found_by front back one signature (lookup (bytes_eq one.source) front) refl finds in
      let vouched = subst (λ (a : Answered). lookup (bytes_eq one.source) a ≡ Some (Vouches is.definitions)) (sym parts) is.vouched in
      let distinct = listed_names earlier each one.source is.definitions listed vouched in
      record {
        definition = is.definition;
        there = listed_definition earlier each one.source one.name is.definitions listed vouched ∙ named_turned one.name is.definitions distinct ∙ is.named;
        found = finds ∙ ap FoundDefinition (sym is.signed);
      }

  among_listed : (earlier : List Module) (imports : List ImportSyntax)
      → AllByRecursion (λ one. IsTrue (is_listed earlier one.module_name)) (map import_of imports)
      → (one : ImportSyntax) → IsAmong one imports → is_listed earlier one.source ≡ true
  among_listed earlier [] every one among = absurd among
  among_listed earlier (first ∷ rest) every one (inl same) = subst (λ (i : ImportSyntax). is_listed earlier i.source ≡ true) same every.0
  among_listed earlier (first ∷ rest) every one (inr among) = among_listed earlier rest every.1 one among

  all_there : (earlier : List Module) (imports : List ImportSyntax)
      → ((one : ImportSyntax) → IsAmong one imports → is_some (imported earlier (import_of one)) ≡ true)
      → AllByRecursion (λ names. IsTrue (is_some (imported earlier names))) (map import_of imports)
  all_there earlier [] every = tt
  all_there earlier (first ∷ rest) every = (every first (inl refl), all_there earlier rest (λ one among. every one (inr among)))

  sound_module : (earlier : List Module) → OfEachModule Behind earlier → (current : Module) → Behind earlier current
      → IsSoundModule devices earlier current
  sound_module earlier each current is =
      let imports = unwrap_or (imports_of is.is_vouched.source) [] in
      let has : current.imports ≡ map import_of imports = is.is_vouched.has_imports in
      let at = sound_at current is.is_vouched in
      let listed = among_listed earlier imports
      (subst (AllByRecursion (λ (one : Import). IsTrue (is_listed earlier one.module_name))) has is.behind) in
      let finds = each_found (vouched_finding at.front) imports at.found in
      let each_imported : (one : ImportSyntax) → IsAmong one imports → IsImported earlier (vouched_finding at.front one) (import_of one) =
      λ one among. is_imported earlier each at.front at.back at.parts one (finds one among).0 (finds one among).1 (listed one among) in
      let globals = imports_alike (declared_context devices) earlier (vouched_finding at.front) imports each_imported in
      let R : List Import → Type 0 = λ is. AllByRecursion (λ names. IsTrue (is_some (imported earlier names))) (reverse is) in
      let T : List Import → Type 0 = λ is. AreTyped (import_context (device_context (declared_bases devices)) earlier (reverse is)) (reverse current.definitions) in
      record {
        values = all_turned (λ (d : Definition). IsTrue (is_definable d)) current.definitions at.sound.values;
        names = at.sound.names differ;
        name_devices = all_turned (λ (d : Definition). NamesDevicesOnly (declared_bases devices) d.signature) current.definitions at.sound.name_devices;
        imports =
            subst R (sym has)
            (all_turned (λ (names : Import). IsTrue (is_some (imported earlier names))) (map import_of imports)
            (all_there earlier imports (λ one among. ap (λ o. is_some o) (each_imported one among).there)));
        typed = subst T (sym has) (subst (λ c. AreTyped c (reverse current.definitions)) (sym globals) at.sound.typed);
      }

  each_sound : (earlier : List Module) → OfEachModule Behind earlier → OfEachModule (IsSoundModule devices) earlier
  each_sound [] each = tt
  each_sound (newest ∷ older) each = (sound_module older each.1 newest each.0, each_sound older each.1)

  -- ENTRIES

  of_each : (P Q : List Module → Module → Type 0) → ((older : List Module) (current : Module) → P older current → Q older current)
      → (earlier : List Module) → OfEachModule P earlier → OfEachModule Q earlier
  of_each P Q more [] every = tt
  of_each P Q more (newest ∷ older) every = (more older newest every.0, of_each P Q more older every.1)

  -- a name that is not listed is apart from each one that is
  not_listed : (earlier : List Module) (name : List ℕ) → is_listed earlier name ≡ false
      → AllByRecursion (λ y. bytes_eq name y ≡ false) (map (λ (current : Module). current.name) earlier)
  not_listed [] name e = tt
  not_listed (first ∷ rest) name e =
      elim (cases_Bool (bytes_eq first.name name)) [
        | inl same ↦ absurd (clash (is_listed (first ∷ rest) name) (or_left _ _ same) e)
        | inr other ↦ (nat_list_eq_equiv.symm name first.name ∙ other, not_listed rest name (rw other at e))
      ]
    where
      clash : (b : Bool) → b ≡ true → b ≡ false → ⊥
      clash b hit miss = cc

  turned_distinct : (earlier : List Module) → OfEachModule Behind earlier
      → IsDistinct bytes_eq (map (λ (current : Module). current.name) earlier)
  unfolding IsDistinct
  turned_distinct [] each = tt
  turned_distinct (newest ∷ older) each = (not_listed older newest.name each.0.is_new, turned_distinct older each.1)

  device_base : (kind : Kind) → is_device_base (declared_base kind) ≡ true
  device_base kinds.Console = refl
  device_base (kinds.File numbers) = refl
  device_base kinds.Counter = refl

  device_bases : (others : List DeviceDecl) → list_all is_device_base (declared_bases others) ≡ true
  device_bases [] = refl
  device_bases (first ∷ rest) = rw (device_base first.kind) (device_bases rest)

  count_bases : (others : List DeviceDecl) → length others ≡ length (declared_bases others)
  count_bases [] = refl
  count_bases (first ∷ rest) = ap suc (count_bases rest)

  entry_is : (entry : Entry) → IsVouchedEntry devices modules answers entry → IsEntry entry
  entry_is entry is =
      let bases = declared_bases devices in
      let back = reverse entry.modules in
      let sound = each_sound back is.vouched in
      let over_bases : (holds : List Base → Type 0) → holds bases → holds entry.devices =
      λ holds it. subst holds (sym is.same_shapes) it in
      let names = map (λ (current : Module). current.name) entry.modules in
      let N : List (List ℕ) → Type 0 = λ ns. IsDistinct bytes_eq ns in
      record {
        devices = over_bases (λ bs. list_all is_device_base bs ≡ true) (device_bases devices);
        values = of_each (IsSoundModule devices) AreDefinable (λ older current s. s.values) back sound;
        module_names =
            subst N (reverse-reverse names)
            (IsDistinct-IsPermutation bytes_eq nat_list_eq_equiv.symm (reverse names) (reverse (reverse names))
            (IsPermutation-reverse (reverse names))
            (subst N (map-reverse (λ (current : Module). current.name) entry.modules) (turned_distinct back is.vouched)));
        names = of_each (IsSoundModule devices) NamesDiffer (λ older current s. s.names) back sound;
        signatures =
            over_bases (λ bs. OfEachModule (SignaturesNameDevices bs) back)
            (of_each (IsSoundModule devices) (SignaturesNameDevices bases) (λ older current s. s.name_devices) back sound);
        imports = of_each (IsSoundModule devices) ImportsAreThere (λ older current s. s.imports) back sound;
        typed =
            over_bases (λ bs. OfEachModule (IsTypedModule bs) back)
            (of_each (IsSoundModule devices) (IsTypedModule bases) (λ older current s. s.typed) back sound);
        started = is.started;
        found = is.found;
        takes_set = is.takes_unit.0;
        gives = is.takes_unit.1;
        gives_set = is.takes_unit.2;
        takes_unit = is.takes_unit.3;
        authority =
            is.permits ∙ ap (λ n. authority n is.started.signature.set)
            (count_bases devices ∙ ap (λ (bs : List Base). length bs) (sym is.same_shapes));
      }

  entries_are : (entries : List Entry) → AllByRecursion (IsVouchedEntry devices modules answers) entries
      → (states : Devices) → HaveShapes states (declared_bases devices) → AreEntries entries states
  entries_are [] every states shapes = tt
  entries_are (first ∷ rest) every states shapes =
      ((entry_is first every.0, shapes ∙ sym every.0.same_shapes), entries_are rest every.1 states shapes)

pub vouched_entries_are_entries : VouchedEntriesAreEntries
vouched_entries_are_entries devices modules answers differ have entry is = entry_is devices modules answers differ have entry is

pub vouched_programs_run_together : VouchedProgramsRunTogether
vouched_programs_run_together devices modules answers differ have entries every states shapes =
    programs_run_together entries states (entries_are devices modules answers differ have entries every states shapes)
