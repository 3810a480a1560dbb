-- The modules of an entry one after another: what holds of each after those before it.
use Rattle.std.proofs.Common.{◌≡◌, ℕ, true, List, [], ◌∷◌, ◌++◌, reverse, map}
use Rattle.std.proofs.Common.{Some, refl, sym, ap, ◌∙◌, subst, inl, inr}
use Rattle.std.proofs.lemmas.Bool.{cases_Bool, and_parts, and_from}
use Rattle.std.proofs.lemmas.Grind.{reverse_onto}
use Rattle.std.proofs.lemmas.Simd.{map-map}
use Rattle.std.specs.List.{AllByRecursion, IsDistinct, list_all}
use Rattle.std.specs.Option.{is_some, option_map}
use Rattle.std.specs.Prelude.{IsTrue}
use Rattle.std.specs.Str.{bytes_eq}
use Rattle.cc_base.specs.declared.device.DeviceDecl.{DeviceDecl}
use Rattle.cc_core.specs.Contexts.{Context}
use Rattle.cc_core.specs.Programs.{Import, Definition, Module, definition_named, definition_in, imported, with_signature}
use Rattle.cc_core.specs.Programs.{import_context, AreTyped, is_definable, NamesDevicesOnly, OfEachModule}
use Rattle.cc_core.specs.Programs.{AreDefinable, NamesDiffer, SignaturesNameDevices, ImportsAreThere, IsTypedModule}
use Rattle.cc_core.specs.Programs.{is_listed, is_ready, are_in_order}
use Rattle.cc_core.specs.Shapes.{CapturingType}
use Rattle.cc_device.specs.Declarations.{declared_bases}
use Rattle.cc_entry_laws.specs.PresentEntries.{import_of}
use Rattle.cc_grammar.specs.Syntax.{ImportSyntax}
use Rattle.cc_graph.proofs.OrderLemmas.{list_all_at}
use Rattle.cc_graph.proofs.Paths.{IsAmong}
use Rattle.cc_verdicts.specs.ModuleLaws.{NamesOfDevicesDiffer}
use Rattle.cc_verdicts.specs.ModuleVerdicts.{Finding, FoundDefinition, CheckedDefinition, ModuleVerdict, IsAccepted}
use Rattle.cc_verdicts.specs.ModuleVerdicts.{declared_context, with_finding, with_findings, in_program}
use Rattle.cc_verdicts.specs.PresentTexts.{Texts, ArePresent, finding_for, AreVerdicts}
use Rattle.cc_verdicts.proofs.Asking.{all_mapped}
use Rattle.cc_verdicts.proofs.Schedules.{among_map}
use Rattle.cc_graph.proofs.NameLemmas.{same_name}
use Rattle.cc_entry_laws.specs.LinkOrders.{is_accepted, is_accepted_module}
use Rattle.cc_entry_laws.proofs.EntryModules.{all_turned, all_over, found_by_import, named_alike, IsModule}
use Rattle.cc_entry_laws.proofs.EntryModules.{accepted_module, its_imports, its_definitions}
use Rattle.cc_entry_laws.proofs.PlainEntries.{definitions_of, present_module}

-- each module is as its text and its verdict say
abbrev pub AllPresent : Texts → (List ℕ → ModuleVerdict) → List Module → Type 0
AllPresent texts all modules = AllByRecursion (λ current. current ≡ present_module texts all current.name) modules

-- a definition of a listed module
pub definition_there : (texts : Texts) (all : List ℕ → ModuleVerdict) (older : List Module) (source name : List ℕ)
    → AllPresent texts all older → is_listed older source ≡ true
    → definition_in source name older ≡ definition_named name (reverse (definitions_of (all source)))
definition_there texts all [] source name present listed = cc
definition_there texts all (newest ∷ older) source name present listed =
    elim (cases_Bool (bytes_eq newest.name source)) [
      | inl same ↦
          rw same
          (ap (λ (m : Module). definition_named name (reverse m.definitions)) present.0
          ∙ ap (λ n. definition_named name (reverse (definitions_of (all n)))) (same_name newest.name source same))
      | inr other ↦ rw other (definition_there texts all older source name present.1 (rw other at listed))
    ]

-- what an import names stands among the modules before, and has the signature that is found
pub record IsImported (older : List Module) (finding : Finding) (one : Import) : Type 0 where
  pub definition : Definition
  pub there : imported older one ≡ Some definition
  pub found : finding ≡ FoundDefinition definition.signature

import_append : (context : Context) (older : List Module) (ys zs : List Import)
    → import_context context older (ys ++ zs) ≡ import_context (import_context context older zs) older ys
import_append context older [] zs = refl
import_append context older (y ∷ ys) zs =
    ap (λ c. with_signature (imported older y) c) (import_append context older ys zs)

one_import : (context : Context) (older : List Module) (finding : Finding) (one : Import)
    → IsImported older finding one → import_context context older (one ∷ []) ≡ with_finding context finding
one_import context older finding one is =
    ap (λ o. with_signature o context) is.there ∙ sym (ap (λ f. with_finding context f) is.found)

pub imports_alike : (context : Context) (older : List Module) (f : ImportSyntax → Finding) (imports : List ImportSyntax)
    → ((one : ImportSyntax) → IsAmong one imports → IsImported older (f one) (import_of one))
    → import_context context older (reverse (map import_of imports)) ≡ with_findings context (map f imports)
imports_alike context older f [] each = refl
imports_alike context older f (first ∷ rest) each =
    ap (λ is. import_context context older is) (reverse_onto (map import_of rest) (import_of first) [])
    ∙ import_append context older (reverse (map import_of rest)) (import_of first ∷ [])
    ∙ ap (λ c. import_context c older (reverse (map import_of rest)))
    (one_import context older (f first) (import_of first) (each first (inl refl)))
    ∙ imports_alike (with_finding context (f first)) older f rest (λ one among. each one (inr among))

module _ (devices : List DeviceDecl) (texts : Texts) (all : List ℕ → ModuleVerdict) (differ : NamesOfDevicesDiffer devices)
    (sorted : ArePresent texts) (are : AreVerdicts devices texts all) where
  import_there : (older : List Module) (name : List ℕ) → AllPresent texts all older → (one : ImportSyntax)
      → is_listed older one.source ≡ true
      → ((signature : CapturingType) × (finding_for texts all name one ≡ FoundDefinition signature))
      → IsImported older (finding_for texts all name one) (import_of one)
  import_there older name present one listed (signature, finds) =
      let (there, found) = found_by_import texts all name one signature finds in
      let accepted : is_accepted_module texts all one.source ≡ true =
      and_from _ _ there (ap is_accepted found.accepted) in
      let source = accepted_module devices texts all differ sorted are one.source accepted in
      let same : source.definitions ≡ found.definitions = (
      let both : IsAccepted source.definitions ≡ IsAccepted found.definitions = sym source.accepted ∙ found.accepted in
      cc
      ) in
      let D : List CheckedDefinition → Type 0 = λ ds. IsDistinct bytes_eq (map (λ d. d.name) ds) in
      record {
        definition = in_program found.one;
        there =
            definition_there texts all older one.source one.name present listed
            ∙ ap (λ v. definition_named one.name (reverse (definitions_of v))) found.accepted
            ∙ named_alike one.name found.definitions (subst D same source.sound.names)
            ∙ ap (option_map in_program) found.named;
        found = finds ∙ ap FoundDefinition (sym found.typed);
      }

  -- a module whose imports are from listed modules
  listed_imports : (older : List Module) (name : List ℕ) (it : IsModule devices texts all name)
      → is_ready older (present_module texts all name) ≡ true → (one : ImportSyntax) → IsAmong one it.imports
      → is_listed older one.source ≡ true
  listed_imports older name it ready one among =
      list_all_at (λ names. is_listed older names.module_name) (map import_of it.imports) (import_of one)
      (among_map import_of one it.imports among)
      (sym (ap (λ is. list_all (λ names. is_listed older names.module_name) is) (its_imports devices texts all name it))
      ∙ ready)

  each_imported : (older : List Module) (name : List ℕ) (it : IsModule devices texts all name)
      → AllPresent texts all older → is_ready older (present_module texts all name) ≡ true
      → (one : ImportSyntax) → IsAmong one it.imports
      → IsImported older (finding_for texts all name one) (import_of one)
  each_imported older name it present ready one among =
      import_there older name present one (listed_imports older name it ready one among) (it.found one among)

  pub are_definable : (older : List Module) (name : List ℕ) (it : IsModule devices texts all name)
      → AreDefinable older (present_module texts all name)
  are_definable older name it =
      let P : Definition → Type 0 = λ d. IsTrue (is_definable d) in
      let R : List Definition → Type 0 = λ ds. AllByRecursion P (reverse ds) in
      subst R (sym (its_definitions devices texts all name it))
      (all_turned P (map in_program it.definitions) (all_over P in_program it.definitions it.sound.values))

  pub names_differ : (older : List Module) (name : List ℕ) (it : IsModule devices texts all name)
      → NamesDiffer older (present_module texts all name)
  names_differ older name it =
      let R : List Definition → Type 0 = λ ds. IsDistinct bytes_eq (map (λ d. d.name) ds) in
      let N : List (List ℕ) → Type 0 = λ ns. IsDistinct bytes_eq ns in
      subst R (sym (its_definitions devices texts all name it))
      (subst N (sym (map-map (λ (d : Definition). d.name) in_program it.definitions)) it.sound.names)

  pub signatures_name_devices : (older : List Module) (name : List ℕ) (it : IsModule devices texts all name)
      → SignaturesNameDevices (declared_bases devices) older (present_module texts all name)
  signatures_name_devices older name it =
      let P : Definition → Type 0 = λ d. NamesDevicesOnly (declared_bases devices) d.signature in
      let R : List Definition → Type 0 = λ ds. AllByRecursion P (reverse ds) in
      subst R (sym (its_definitions devices texts all name it))
      (all_turned P (map in_program it.definitions) (all_over P in_program it.definitions it.sound.name_devices))

  pub imports_are_there : (older : List Module) (name : List ℕ) (it : IsModule devices texts all name)
      → AllPresent texts all older → is_ready older (present_module texts all name) ≡ true
      → ImportsAreThere older (present_module texts all name)
  imports_are_there older name it present ready =
      let P : Import → Type 0 = λ names. IsTrue (is_some (imported older names)) in
      let R : List Import → Type 0 = λ is. AllByRecursion P (reverse is) in
      subst R (sym (its_imports devices texts all name it))
      (all_turned P (map import_of it.imports)
      (all_mapped P import_of it.imports
      (λ one among. ap (λ o. is_some o) (each_imported older name it present ready one among).there)))

  pub is_typed : (older : List Module) (name : List ℕ) (it : IsModule devices texts all name)
      → AllPresent texts all older → is_ready older (present_module texts all name) ≡ true
      → IsTypedModule (declared_bases devices) older (present_module texts all name)
  is_typed older name it present ready =
      let context = declared_context devices in
      let C : Context → Type 0 = λ c. AreTyped c (reverse (map in_program it.definitions)) in
      let I : List Import → Type 0 = λ is. AreTyped (import_context context older (reverse is))
      (reverse (map in_program it.definitions)) in
      let R : List Definition → Type 0 = λ ds. AreTyped
      (import_context context older (reverse (present_module texts all name).imports)) (reverse ds) in
      subst R (sym (its_definitions devices texts all name it))
      (subst I (sym (its_imports devices texts all name it))
      (subst C
      (sym (imports_alike context older (finding_for texts all name) it.imports
      (each_imported older name it present ready)))
      it.sound.typed))

  -- what holds of each accepted module after present ones that it imports from holds of each module in order
  pub of_each : (P : List Module → Module → Type 0)
      → ((older : List Module) (name : List ℕ) → IsModule devices texts all name → AllPresent texts all older
      → is_ready older (present_module texts all name) ≡ true → P older (present_module texts all name))
      → (waiting turned : List Module) → AllPresent texts all turned
      → AllByRecursion (λ current. is_accepted_module texts all current.name ≡ true) turned
      → are_in_order waiting turned ≡ true → OfEachModule P turned
  of_each P each waiting [] present accepted order = tt
  of_each P each waiting (newest ∷ older) present accepted order =
      let parts = and_parts _ _ order in
      let ready : is_ready older newest ≡ true = (and_parts _ _ parts.0).0 in
      let Q : Module → Type 0 = λ m. P older m in
      let R : Module → Type 0 = λ m. is_ready older m ≡ true in (
        subst Q (sym present.0)
            (each older newest.name (accepted_module devices texts all differ sorted are newest.name accepted.0)
            present.1 (subst R present.0 ready)),
        of_each P each (newest ∷ waiting) older present.1 accepted.1 parts.1,
      )
