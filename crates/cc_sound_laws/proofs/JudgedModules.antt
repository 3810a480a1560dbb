-- Modules whose verdicts are accepted are accepted one behind another.
use Rattle.std.proofs.Common.{◌≡◌, ℕ, true, false, List, [], ◌∷◌, map, reverse, length, Option, Some, None, refl, sym, ap, ◌∙◌, subst, inl, inr}
use Rattle.std.specs.Prelude.{IsTrue}
use Rattle.std.specs.List.{AllByRecursion, IsDistinct, list_all}
use Rattle.std.specs.Option.{is_some, option_map, unwrap_or}
use Rattle.std.specs.Str.{bytes_eq}
use Rattle.std.proofs.lemmas.Bool.{and_from}
use Rattle.std.proofs.lemmas.Cmp.{nat_list_eq_equiv}
use Rattle.std.proofs.lemmas.List.Sorted.{IsPermutation-reverse}
use Rattle.std.proofs.lemmas.Map.Keys.{IsDistinct-IsPermutation}
use Rattle.cc_base.specs.declared.code.Code.{Code}
use Rattle.cc_base.specs.declared.device.DeviceDecl.{DeviceDecl}
use Rattle.cc_base.specs.declared.place.Place.{Place}
use Rattle.cc_core.specs.Programs.{Import, Definition, Module, definition_named, imported, is_listed, is_ready, are_in_order, OfEachModule}
use Rattle.cc_core.specs.Shapes.{CapturingType}
use Rattle.cc_device.specs.Declarations.{declared_bases}
use Rattle.cc_graph.proofs.OrderLemmas.{list_all_at}
use Rattle.cc_graph.proofs.Paths.{IsAmong}
use Rattle.cc_grammar.specs.Syntax.{ImportSyntax, ModuleSyntax}
use Rattle.cc_mnf.specs.ElaboratedModules.{CoreModule, IsElaborated, elaboration, device_names}
use Rattle.cc_verdicts.specs.ModuleLaws.{NamesOfDevicesDiffer}
use Rattle.cc_verdicts.specs.ModuleVerdicts.{Finding, FoundDefinition, NoModule, InCycle, RefusedModule, NoDefinition, CheckedDefinition, ModuleVerdict, IsAccepted, Refusal, code_of, missing_or, first_missing, declared_context, with_findings, AreJudged, HasModuleVerdict, is_no_module, import_is_missing, is_not_elaborated, is_judged, in_program}
use Rattle.cc_verdicts.specs.PresentTexts.{Texts, ArePresent, text_of, finding_for, findings_for, AreVerdicts}
use Rattle.cc_verdicts.specs.ReadyDefinitions.{AreReady}
use Rattle.cc_verdicts.specs.Readings.{IsTree, HasReading, imports_in, imports_of}
use Rattle.cc_verdicts.proofs.Asking.{map-reverse, all_mapped}
use Rattle.cc_verdicts.proofs.GlobalContexts.{module_ready}
use Rattle.cc_verdicts.proofs.ModuleVerdictLaws.{fits_tree}
use Rattle.cc_verdicts.proofs.PresentLaws.{present_findings_fit}
use Rattle.cc_verdicts.proofs.ReadingLaws.{text_has_one_reading}
use Rattle.cc_verdicts.proofs.Schedules.{among_map}
use Rattle.cc_entry_laws.specs.LinkOrders.{is_accepted, is_accepted_module}
use Rattle.cc_entry_laws.specs.PresentEntries.{import_of}
use Rattle.cc_entry_laws.proofs.EntryLinks.{AllPresent, IsImported, definition_there, imports_alike, of_each}
use Rattle.cc_entry_laws.proofs.EntryModules.{found_by_import, named_alike, IsModule, accepted_module, its_imports, its_definitions}
use Rattle.cc_entry_laws.proofs.PlainEntries.{definitions_of, present_module}
use Rattle.cc_sound_laws.specs.DefinedAs.{AreAcceptedAs}
use Rattle.cc_sound_laws.specs.AcceptedModules.{globals_behind, IsAcceptedBehind, AreAccepted}
use Rattle.cc_sound_laws.proofs.AcceptedAs.{judged_accepted}
use Rattle.cc_sound_laws.proofs.AcceptedSoundness.{count_shapes}
use Rattle.cc_sound_laws.proofs.ReadTexts.{read_is_module}

-- ---- lists
-- names that differ differ when they are turned round
pub distinct_turned : (modules : List Module) → IsDistinct bytes_eq (map (λ (current : Module). current.name) modules)
    → IsDistinct bytes_eq (map (λ (current : Module). current.name) (reverse modules))
distinct_turned modules distinct =
    let names = map (λ (current : Module). current.name) modules in
    let N : List (List ℕ) → Type 0 = λ ns. IsDistinct bytes_eq ns in
    subst N (sym (map-reverse (λ (current : Module). current.name) modules))
    (IsDistinct-IsPermutation bytes_eq nat_list_eq_equiv.symm names (reverse names) (IsPermutation-reverse names) distinct)

-- a name that is apart from each listed one is not listed
apart_listed : (modules : List Module) (name : List ℕ)
    → AllByRecursion (λ y. bytes_eq name y ≡ false) (map (λ (current : Module). current.name) modules)
    → is_listed modules name ≡ false
apart_listed [] name apart = refl
apart_listed (first ∷ rest) name apart =
    rw (nat_list_eq_equiv.symm first.name name ∙ apart.0) (apart_listed rest name apart.1)

-- ---- what is found for imports
none_missing : (at : Place) (code : Option Code) (others : Option Refusal) → missing_or at code others ≡ None
    → (code ≡ None) × (others ≡ None)
none_missing at None others none = (refl, none)
none_missing at (Some code) others none = cc

code_found : (finding : Finding) → code_of finding ≡ None
    → (signature : CapturingType) × (finding ≡ FoundDefinition signature)
code_found (FoundDefinition signature) none = (signature, refl)
code_found NoModule none = cc
code_found InCycle none = cc
code_found RefusedModule none = cc
code_found NoDefinition none = cc

pub each_found : (f : ImportSyntax → Finding) (imports : List ImportSyntax) → first_missing imports (map f imports) ≡ None
    → (one : ImportSyntax) → IsAmong one imports → (signature : CapturingType) × (f one ≡ FoundDefinition signature)
each_found f [] none one among = absurd among
each_found f (first ∷ rest) none one (inl same) =
    let P : ImportSyntax → Type 0 = λ i. (signature : CapturingType) × (f i ≡ FoundDefinition signature) in
    subst P same
    (code_found (f first) (none_missing first.at (code_of (f first)) (first_missing rest (map f rest)) none).0)
each_found f (first ∷ rest) none one (inr among) =
    each_found f rest (none_missing first.at (code_of (f first)) (first_missing rest (map f rest)) none).1 one among

-- ---- a text that is judged by its definitions
pub record JudgedTree (devices : List DeviceDecl) (text : List ℕ) (findings : List Finding) (verdict : ModuleVerdict) :
    Type 0 where
  pub tree : ModuleSyntax
  pub reading : HasReading text (IsTree tree)
  pub none : first_missing tree.imports findings ≡ None
  pub core : CoreModule
  pub elaborated : elaboration (device_names devices) tree ≡ IsElaborated core
  pub judged : AreJudged (length devices) (with_findings (declared_context devices) findings) core.definitions verdict

judged_tree : (devices : List DeviceDecl) (text : List ℕ) (findings : List Finding) (verdict : ModuleVerdict)
    (ones : List CheckedDefinition) → HasModuleVerdict devices text findings verdict → verdict ≡ IsAccepted ones
    → JudgedTree devices text findings verdict
judged_tree devices text findings verdict ones (is_no_module reading) e = cc
judged_tree devices text findings verdict ones (import_is_missing reading missing) e = cc
judged_tree devices text findings verdict ones (is_not_elaborated reading found is) e = cc
judged_tree devices text findings verdict ones (is_judged {tree = tree} {core = core} reading none is judged) e =
    record { tree = tree; reading = reading; none = none; core = core; elaborated = is; judged = judged }

-- the imports of a text are those of its tree
pub tree_imports : (text : List ℕ) (tree : ModuleSyntax) → HasReading text (IsTree tree) → imports_of text ≡ Some tree.imports
tree_imports text tree reading = sym (ap (λ r. imports_in r) ((text_has_one_reading text (IsTree tree)).0 reading))

module _ (devices : List DeviceDecl) (texts : Texts) (all : List ℕ → ModuleVerdict) (differ : NamesOfDevicesDiffer devices)
    (sorted : ArePresent texts) (are : AreVerdicts devices texts all) where
  -- what is found for the imports of a text, by its tree
  pub findings_are : (name text : List ℕ) (tree : ModuleSyntax) → HasReading text (IsTree tree)
      → findings_for texts all name text ≡ map (finding_for texts all name) tree.imports
  findings_are name text tree reading =
      ap (λ o. map (finding_for texts all name) (unwrap_or o [])) (tree_imports text tree reading)

  -- an import for which a definition is found names one in a list that has its module
  pub import_there : (older : List Module) (name : List ℕ) → AllPresent texts all older → (one : ImportSyntax)
      → is_listed older one.source ≡ true
      → ((signature : CapturingType) × (finding_for texts all name one ≡ FoundDefinition signature))
      → IsImported older (finding_for texts all name one) (import_of one)
  import_there older name present one listed (signature, finds) =
      let (there, found) = found_by_import texts all name one signature finds in
      let its : is_accepted_module texts all one.source ≡ true = and_from _ _ there (ap is_accepted found.accepted) in
      let source = accepted_module devices texts all differ sorted are one.source its in
      let same : source.definitions ≡ found.definitions = (
      let both : IsAccepted source.definitions ≡ IsAccepted found.definitions = sym source.accepted ∙ found.accepted in
      cc
      ) in
      let D : List CheckedDefinition → Type 0 = λ ds. IsDistinct bytes_eq (map (λ d. d.name) ds) in
      record {
        definition = in_program found.one;
        there =
            definition_there texts all older one.source one.name present listed
            ∙ ap (λ v. definition_named one.name (reverse (definitions_of v))) found.accepted
            ∙ named_alike one.name found.definitions (subst D same source.sound.names)
            ∙ ap (option_map in_program) found.named;
        found = finds ∙ ap FoundDefinition (sym found.typed);
      }

  -- definitions are ready behind what is found
  pub tree_ready : (name text : List ℕ) (tree : ModuleSyntax) (core : CoreModule) → text_of texts name ≡ Some text
      → HasReading text (IsTree tree) → first_missing tree.imports (findings_for texts all name text) ≡ None
      → elaboration (device_names devices) tree ≡ IsElaborated core
      → AreReady (with_findings (declared_context devices) (findings_for texts all name text)) core.definitions
  tree_ready name text tree core there reading none elaborated =
      let fit = present_findings_fit devices texts all differ sorted are name text there in
      module_ready devices tree (findings_for texts all name text) core
      (fits_tree devices text (findings_for texts all name text) tree fit reading) fit.over_devices none elaborated

  same_imports : (a b : List ImportSyntax) → Some a ≡ Some b → a ≡ b
  same_imports a b e = cc

  module _ (older : List Module) (name : List ℕ) (it : IsModule devices texts all name) (present : AllPresent texts all older)
      (ready : is_ready older (present_module texts all name) ≡ true) where
    source_listed : (one : ImportSyntax) → IsAmong one it.imports → is_listed older one.source ≡ true
    source_listed one among =
        list_all_at (λ (names : Import). is_listed older names.module_name) (map import_of it.imports) (import_of one)
        (among_map import_of one it.imports among)
        (sym (ap (λ is. list_all (λ (names : Import). is_listed older names.module_name) is) (its_imports devices texts all name it))
        ∙ ready)

    accepted_here : is_listed older name ≡ false
        → IsAcceptedBehind (device_names devices) (declared_bases devices) texts older (present_module texts all name)
    accepted_here new =
        let findings = findings_for texts all name it.text in
        let t = judged_tree devices it.text findings (all name) it.definitions (are name it.text it.is_text) it.accepted in
        let alike : it.imports ≡ t.tree.imports = same_imports it.imports t.tree.imports (sym it.reads ∙ tree_imports it.text t.tree t.reading) in
        let mapped = findings_are name it.text t.tree t.reading in
        let none : first_missing t.tree.imports (map (finding_for texts all name) t.tree.imports) ≡ None =
        ap (λ fs. first_missing t.tree.imports fs) (sym mapped) ∙ t.none in
        let each : (one : ImportSyntax) → IsAmong one t.tree.imports → IsImported older (finding_for texts all name one) (import_of one) =
        λ one among.
        import_there older name present one (source_listed one (subst (IsAmong one) (sym alike) among))
        (each_found (finding_for texts all name) t.tree.imports none one among) in
        let globals : with_findings (declared_context devices) findings ≡ globals_behind (declared_bases devices) older t.tree =
        ap (λ fs. with_findings (declared_context devices) fs) mapped
        ∙ sym (imports_alike (declared_context devices) older (finding_for texts all name) t.tree.imports each) in
        let chain : AreAcceptedAs (length devices) (with_findings (declared_context devices) findings) t.core.definitions (map in_program it.definitions) =
        judged_accepted (length devices) (with_findings (declared_context devices) findings) t.core.definitions it.definitions (all name)
        (tree_ready name it.text t.tree t.core it.is_text t.reading t.none t.elaborated) t.judged it.accepted in
        record {
          is_new = new;
          text = it.text;
          there = it.is_text;
          tree = t.tree;
          core = t.core;
          reads = record {
            is_module = read_is_module it.text t.tree t.reading;
            found = all_mapped (λ (one : Import). IsTrue (is_some (imported older one))) import_of t.tree.imports
                (λ one among. ap (λ o. is_some o) (each one among).there);
            elaborated = t.elaborated;
          };
          has_imports = its_imports devices texts all name it ∙ ap (map import_of) alike;
          accepted =
              subst (λ (ds : List Definition). AreAcceptedAs (length (declared_bases devices)) (globals_behind (declared_bases devices) older t.tree) t.core.definitions ds)
              (sym (its_definitions devices texts all name it))
              (subst (λ n. AreAcceptedAs n (globals_behind (declared_bases devices) older t.tree) t.core.definitions (map in_program it.definitions))
              (sym (count_shapes devices))
              (subst (λ c. AreAcceptedAs (length devices) c t.core.definitions (map in_program it.definitions)) globals chain));
        }

  -- each is, unless it stands behind itself
  abbrev IsUnlessListed : List Module → Module → Type 0
  IsUnlessListed older current =
      is_listed older current.name ≡ false
      → IsAcceptedBehind (device_names devices) (declared_bases devices) texts older current

  all_new : (turned : List Module) → OfEachModule IsUnlessListed turned
      → IsDistinct bytes_eq (map (λ (current : Module). current.name) turned)
      → AreAccepted (device_names devices) (declared_bases devices) texts turned
  unfolding IsDistinct
  all_new [] each distinct = tt
  all_new (newest ∷ older) each distinct =
      (each.0 (apart_listed older newest.name distinct.0), all_new older each.1 distinct.1)

  pub judged_modules : (turned : List Module) → AllPresent texts all turned
      → AllByRecursion (λ current. is_accepted_module texts all current.name ≡ true) turned
      → are_in_order [] turned ≡ true → IsDistinct bytes_eq (map (λ (current : Module). current.name) turned)
      → AreAccepted (device_names devices) (declared_bases devices) texts turned
  judged_modules turned present accepted order distinct =
      all_new turned
      (of_each devices texts all differ sorted are IsUnlessListed
      (λ older name it is_present ready new. accepted_here older name it is_present ready new) [] turned present accepted order)
      distinct
