-- An entry of accepted modules has all that an entry has.
use Rattle.std.proofs.Common.{◌≡◌, ℕ, true, false, List, [], ◌∷◌, map, reverse, length, refl, sym, ap, ◌∙◌, subst, inl, inr}
use Rattle.std.specs.List.{AllByRecursion, IsDistinct, list_all}
use Rattle.std.specs.Str.{bytes_eq}
use Rattle.std.proofs.lemmas.Bool.{cases_Bool, or_left}
use Rattle.std.proofs.lemmas.Cmp.{nat_list_eq_equiv}
use Rattle.std.proofs.lemmas.List.{reverse-reverse}
use Rattle.std.proofs.lemmas.List.Sorted.{IsPermutation-reverse}
use Rattle.std.proofs.lemmas.Map.Keys.{IsDistinct-IsPermutation}
use Rattle.cc_base.specs.declared.device.DeviceDecl.{DeviceDecl}
use Rattle.cc_base.specs.declared.device.Kind.{Kind}
use Rattle.cc_base.specs.declared.device.Kind.TheVariants as kinds
use Rattle.cc_base.specs.declared.literal.Base.{Base}
use Rattle.cc_core.specs.Occurrences.{MeetsInType, positions_below}
use Rattle.cc_core.specs.Programs.{Definition, Module, Entry, is_listed, NamesDevicesOnly, OfEachModule, AreDefinable, NamesDiffer, SignaturesNameDevices, ImportsAreThere, IsTypedModule, IsEntry}
use Rattle.cc_core.specs.Stores.{is_device_base, authority}
use Rattle.cc_core.proofs.Lookups.{length_map}
use Rattle.cc_core.proofs.Sorts.{TypeSort}
use Rattle.cc_core.proofs.WellFormedness.{well_formed-positions_below}
use Rattle.cc_device.specs.Declarations.{declared_base, declared_bases}
use Rattle.cc_graph.proofs.OrderLemmas.{clash}
use Rattle.cc_mnf.specs.ElaboratedModules.{device_names}
use Rattle.cc_verdicts.specs.ModuleLaws.{NamesOfDevicesDiffer, IsOverDevices}
use Rattle.cc_verdicts.specs.ModuleVerdicts.{declared_context}
use Rattle.cc_verdicts.specs.PresentTexts.{Texts}
use Rattle.cc_verdicts.proofs.Asking.{map-reverse}
use Rattle.cc_verdicts.proofs.GlobalContexts.{count_devices}
use Rattle.cc_entry_laws.proofs.EntryModules.{all_turned}
use Rattle.cc_sound_laws.specs.AcceptedModules.{AreAccepted}
use Rattle.cc_sound_laws.specs.AcceptedEntries.{IsAcceptedEntry}
use Rattle.cc_sound_laws.proofs.AcceptedSoundness.{IsSoundModule, each_sound}

device_base : (kind : Kind) → is_device_base (declared_base kind) ≡ true
device_base kinds.Console = refl
device_base (kinds.File numbers) = refl
device_base kinds.Counter = refl

device_bases : (devices : List DeviceDecl) → list_all is_device_base (declared_bases devices) ≡ true
device_bases [] = refl
device_bases (first ∷ rest) = rw (device_base first.kind) (device_bases rest)

-- what is said of each module is said in other words
of_each : (P Q : List Module → Module → Type 0) → ((older : List Module) (current : Module) → P older current → Q older current)
    → (modules : List Module) → OfEachModule P modules → OfEachModule Q modules
of_each P Q each [] all = tt
of_each P Q each (newest ∷ older) all = (each older newest all.0, of_each P Q each older all.1)

-- a name that is not listed is apart from each one that is
not_listed : (modules : List Module) (name : List ℕ) → is_listed modules name ≡ false
    → AllByRecursion (λ y. bytes_eq name y ≡ false) (map (λ (current : Module). current.name) modules)
not_listed [] name e = tt
not_listed (first ∷ rest) name e =
    elim (cases_Bool (bytes_eq first.name name)) [
      | inl same ↦ absurd (clash (is_listed (first ∷ rest) name) (or_left _ _ same) e)
      | inr other ↦ (nat_list_eq_equiv.symm name first.name ∙ other, not_listed rest name (rw other at e))
    ]

names_devices : (devices : List DeviceDecl) (ones : List Definition) → AllByRecursion (λ one. IsOverDevices devices one.signature) ones
    → AllByRecursion (λ one. NamesDevicesOnly (declared_bases devices) one.signature) ones
names_devices devices [] all = tt
names_devices devices (one ∷ ones) all = (
  subst (λ n. MeetsInType (positions_below n) 0 one.signature)
      (count_devices devices ∙ sym (length_map (λ (device : DeviceDecl). declared_base device.kind) devices))
      (well_formed-positions_below TypeSort (declared_context devices) one.signature all.0.0),
  names_devices devices ones all.1,
)

module _ (devices : List DeviceDecl) (differ : NamesOfDevicesDiffer devices) (texts : Texts) where
  turned_distinct : (modules : List Module) → AreAccepted (device_names devices) (declared_bases devices) texts modules
      → IsDistinct bytes_eq (map (λ (current : Module). current.name) modules)
  unfolding IsDistinct
  turned_distinct [] are = tt
  turned_distinct (newest ∷ older) are = (not_listed older newest.name are.0.is_new, turned_distinct older are.1)

  pub accepted_entry_is : (entry : Entry) → IsAcceptedEntry (device_names devices) (declared_bases devices) texts entry
      → IsEntry entry
  accepted_entry_is entry is =
      let bases = declared_bases devices in
      let back = reverse entry.modules in
      let sound = each_sound devices differ texts back is.accepted in
      let over_bases : (holds : List Base → Type 0) → holds bases → holds entry.devices =
      λ holds it. subst holds (sym is.same_shapes) it in
      let names = map (λ (current : Module). current.name) entry.modules in
      let N : List (List ℕ) → Type 0 = λ ns. IsDistinct bytes_eq ns in
      record {
        devices = over_bases (λ bs. list_all is_device_base bs ≡ true) (device_bases devices);
        values = of_each (IsSoundModule devices) AreDefinable (λ older current s. s.values) back sound;
        module_names =
            subst N (reverse-reverse names)
            (IsDistinct-IsPermutation bytes_eq nat_list_eq_equiv.symm (reverse names) (reverse (reverse names))
            (IsPermutation-reverse (reverse names))
            (subst N (map-reverse (λ (current : Module). current.name) entry.modules) (turned_distinct back is.accepted)));
        names = of_each (IsSoundModule devices) NamesDiffer (λ older current s. s.names) back sound;
        signatures =
            over_bases (λ bs. OfEachModule (SignaturesNameDevices bs) back)
            (of_each (IsSoundModule devices) (SignaturesNameDevices bases)
            (λ older current s.
            all_turned (λ (one : Definition). NamesDevicesOnly bases one.signature) current.definitions
            (names_devices devices current.definitions s.over_devices)) back sound);
        imports = of_each (IsSoundModule devices) ImportsAreThere (λ older current s. s.imports) back sound;
        typed =
            over_bases (λ bs. OfEachModule (IsTypedModule bs) back)
            (of_each (IsSoundModule devices) (IsTypedModule bases) (λ older current s. s.typed) back sound);
        started = is.started;
        found = is.found;
        takes_set = is.takes_unit.0;
        gives = is.takes_unit.1;
        gives_set = is.takes_unit.2;
        takes_unit = is.takes_unit.3;
        authority =
            is.permits ∙ ap (λ (bs : List Base). authority (length bs) is.started.signature.set) (sym is.same_shapes);
      }
