-- Accepted modules are sound, one behind another: their definitions are values of different names, typed by the rules, and
-- their signatures are over the devices.
use Rattle.std.proofs.Common.{◌≡◌, ℕ, List, [], ◌∷◌, ◌++◌, map, reverse, length, Option, Some, None, refl, sym, ap, ◌∙◌, subst, inl, inr}
use Rattle.std.specs.Prelude.{IsTrue}
use Rattle.std.specs.List.{AllByRecursion, IsDistinct}
use Rattle.std.specs.Option.{is_some}
use Rattle.std.specs.Str.{bytes_eq}
use Rattle.std.proofs.lemmas.Bool.{cases_Bool}
use Rattle.std.proofs.lemmas.List.{append-nil}
use Rattle.cc_base.specs.declared.device.DeviceDecl.{DeviceDecl}
use Rattle.cc_core.specs.Programs.{Import, Definition, Module, definition_named, definition_in, imported, device_context, import_context, AreTyped, is_definable, OfEachModule, AreDefinable, NamesDiffer, ImportsAreThere, IsTypedModule}
use Rattle.cc_core.proofs.Lookups.{length_map}
use Rattle.cc_device.specs.Declarations.{declared_base, declared_bases}
use Rattle.cc_graph.proofs.Paths.{IsAmong}
use Rattle.cc_grammar.specs.Syntax.{ImportSyntax, ModuleSyntax}
use Rattle.cc_mnf.specs.ElaboratedModules.{device_names, import_names, definition_names}
use Rattle.cc_mnf.proofs.SecondNames.{names_differ}
use Rattle.cc_verdicts.specs.ModuleLaws.{NamesOfDevicesDiffer, IsOverDevices, FitsDevices}
use Rattle.cc_verdicts.specs.ModuleVerdicts.{Finding, FoundDefinition, NoDefinition, first_missing, missing_or, code_of, declared_context, with_findings}
use Rattle.cc_verdicts.specs.PresentTexts.{Texts}
use Rattle.cc_verdicts.proofs.Asking.{some_of, all_mapped}
use Rattle.cc_verdicts.proofs.GlobalContexts.{found_base, module_ready}
use Rattle.cc_entry_laws.specs.PresentEntries.{import_of}
use Rattle.cc_entry_laws.proofs.EntryLinks.{IsImported, imports_alike}
use Rattle.cc_entry_laws.proofs.EntryModules.{all_turned}
use Rattle.cc_sound_laws.specs.DefinedAs.{AreAcceptedAs}
use Rattle.cc_sound_laws.specs.AcceptedModules.{imports_in, globals_behind, IsAcceptedBehind, AreAccepted}
use Rattle.cc_sound_laws.proofs.AcceptedAs.{accepted_follow}

-- ---- lists
pub each_at : {A B : Type 0} (P : B → Type 0) (f : A → B) (xs : List A) → AllByRecursion P (map f xs) → (x : A)
    → IsAmong x xs → P (f x)
each_at P f [] all x among = absurd among
each_at P f (y ∷ xs) all x (inl same) = subst (λ z. P (f z)) same all.0
each_at P f (y ∷ xs) all x (inr among) = each_at P f xs all.1 x among

distinct_behind : (xs ys : List (List ℕ)) → IsDistinct bytes_eq (xs ++ ys) → IsDistinct bytes_eq ys
unfolding IsDistinct
distinct_behind [] ys h = h
distinct_behind (x ∷ xs) ys h = distinct_behind xs ys h.1

pub count_shapes : (devices : List DeviceDecl) → length (declared_bases devices) ≡ length devices
count_shapes devices = length_map (λ (device : DeviceDecl). declared_base device.kind) devices

some_is : (a b : Definition) → Some a ≡ Some b → a ≡ b
some_is a b e = cc

-- ---- what an import names
-- the signatures of the modules are over the devices
abbrev pub AreOver : List DeviceDecl → List Module → Type 0
AreOver devices modules =
    AllByRecursion (λ current. AllByRecursion (λ one. IsOverDevices devices one.signature) current.definitions) modules

named_is : (P : Definition → Type 0) (name : List ℕ) (ones : List Definition) (d : Definition) → AllByRecursion P ones
    → definition_named name ones ≡ Some d → P d
named_is P name [] d all e = cc
named_is P name (first ∷ rest) d all e =
    elim (cases_Bool (bytes_eq first.name name)) as (λ _. P d) [
      | inl same ↦ (let here : Some first ≡ Some d = rw same at e in subst P (some_is first d here) all.0)
      | inr other ↦ named_is P name rest d all.1 (rw other at e)
    ]

imported_is : (devices : List DeviceDecl) (modules : List Module) (source name : List ℕ) (d : Definition)
    → AreOver devices modules → definition_in source name modules ≡ Some d → IsOverDevices devices d.signature
imported_is devices [] source name d all e = cc
imported_is devices (newest ∷ older) source name d all e =
    let P : Definition → Type 0 = λ one. IsOverDevices devices one.signature in
    elim (cases_Bool (bytes_eq newest.name source)) as (λ _. IsOverDevices devices d.signature) [
      | inl same ↦ named_is P name (reverse newest.definitions) d (all_turned P newest.definitions all.0) (rw same at e)
      | inr other ↦ imported_is devices older source name d all.1 (rw other at e)
    ]

-- what is found for an import among modules
abbrev pub found_of : Option Definition → Finding
found_of (Some definition) = FoundDefinition definition.signature
found_of None = NoDefinition

abbrev pub finding_of : List Module → ImportSyntax → Finding
finding_of modules one = found_of (imported modules (import_of one))

pub none_missing : (f : ImportSyntax → Finding) (imports : List ImportSyntax)
    → ((one : ImportSyntax) → IsAmong one imports → code_of (f one) ≡ None) → first_missing imports (map f imports) ≡ None
none_missing f [] each = refl
none_missing f (first ∷ rest) each =
    ap (λ c. missing_or first.at c (first_missing rest (map f rest))) (each first (inl refl))
    ∙ none_missing f rest (λ one among. each one (inr among))

-- ---- one module
pub record IsSoundModule (devices : List DeviceDecl) (earlier : List Module) (current : Module) : Type 0 where
  pub values : AreDefinable earlier current
  pub names : NamesDiffer earlier current
  pub over_devices : AllByRecursion (λ one. IsOverDevices devices one.signature) current.definitions
  pub imports : ImportsAreThere earlier current
  pub typed : IsTypedModule (declared_bases devices) earlier current

module _ (devices : List DeviceDecl) (differ : NamesOfDevicesDiffer devices) (texts : Texts) where
  module _ (earlier : List Module) (over : AreOver devices earlier) (tree : ModuleSyntax)
      (found : AllByRecursion (λ one. IsTrue (is_some (imported earlier one))) (imports_in tree)) where
    each_imported : (one : ImportSyntax) → IsAmong one tree.imports → IsImported earlier (finding_of earlier one) (import_of one)
    each_imported one among =
        let it = some_of (imported earlier (import_of one))
        (each_at (λ (names : Import). IsTrue (is_some (imported earlier names))) import_of tree.imports found one among) in
        record { definition = it.0; there = it.1; found = ap found_of it.1 }

    findings : List Finding
    findings = map (finding_of earlier) tree.imports

    globals_are : globals_behind (declared_bases devices) earlier tree ≡ with_findings (declared_context devices) (map (finding_of earlier) tree.imports)
    globals_are = imports_alike (declared_context devices) earlier (finding_of earlier) tree.imports each_imported

    fit : AllByRecursion (FitsDevices devices) (map (finding_of earlier) tree.imports)
    fit =
        all_mapped (FitsDevices devices) (finding_of earlier) tree.imports
        (λ one among.
        let it = each_imported one among in
        subst (FitsDevices devices) (sym it.found)
        (imported_is devices earlier one.source one.name it.definition over it.there))

    found_all : first_missing tree.imports (map (finding_of earlier) tree.imports) ≡ None
    found_all = none_missing (finding_of earlier) tree.imports (λ one among. ap code_of (each_imported one among).found)

  sound_module : (earlier : List Module) (current : Module) → AreOver devices earlier
      → IsAcceptedBehind (device_names devices) (declared_bases devices) texts earlier current
      → IsSoundModule devices earlier current
  sound_module earlier current over is =
      let found = is.reads.found in
      let bases = declared_bases devices in
      let all = map (finding_of earlier) is.tree.imports in
      let g = with_findings (declared_context devices) all in
      let same = globals_are earlier over is.tree found in
      let ready = module_ready devices is.tree all is.core (length_map (finding_of earlier) is.tree.imports)
      (fit earlier over is.tree found) (found_all earlier over is.tree found) is.reads.elaborated in
      let accepted : AreAcceptedAs (length devices) g is.core.definitions current.definitions =
      subst (λ c. AreAcceptedAs (length devices) c is.core.definitions current.definitions) same
      (subst (λ n. AreAcceptedAs n (globals_behind bases earlier is.tree) is.core.definitions current.definitions)
      (count_shapes devices) is.accepted) in
      let follow = accepted_follow devices g [] is.core.definitions current.definitions
      (found_base devices all (fit earlier over is.tree found)) ready tt accepted in
      let I : List Import → Type 0 = λ is. AreTyped (import_context (device_context bases) earlier (reverse is)) (reverse current.definitions) in
      let R : List Import → Type 0 = λ is. AllByRecursion (λ names. IsTrue (is_some (imported earlier names))) (reverse is) in
      record {
        values = all_turned (λ (d : Definition). IsTrue (is_definable d)) current.definitions follow.values;
        names =
            subst (IsDistinct bytes_eq) (sym follow.names)
            (distinct_behind (device_names devices ++ import_names is.core.imports) (definition_names is.core.definitions)
            (names_differ (device_names devices) is.tree is.core is.reads.elaborated differ));
        over_devices = follow.over_devices;
        imports =
            subst R (sym is.has_imports)
            (all_turned (λ (names : Import). IsTrue (is_some (imported earlier names))) (imports_in is.tree) found);
        typed =
            subst I (sym is.has_imports)
            (subst (λ c. AreTyped c (reverse current.definitions)) (sym same)
            (subst (AreTyped g) (append-nil (reverse current.definitions)) follow.typed));
      }

  each_over : (modules : List Module) → OfEachModule (IsSoundModule devices) modules → AreOver devices modules
  each_over [] sound = tt
  each_over (newest ∷ older) sound = (sound.0.over_devices, each_over older sound.1)

  pub each_sound : (modules : List Module) → AreAccepted (device_names devices) (declared_bases devices) texts modules
      → OfEachModule (IsSoundModule devices) modules
  each_sound [] are = tt
  each_sound (newest ∷ older) are =
      let behind = each_sound older are.1 in
      (sound_module older newest (each_over older behind) are.0, behind)
