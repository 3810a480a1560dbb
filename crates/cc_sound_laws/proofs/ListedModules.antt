-- The modules of present texts whose verdicts are accepted, one behind another, and what the others are.
use Rattle.std.proofs.Common.{◌≡◌, ℕ, Bool, true, false, List, [], ◌∷◌, map, reverse, length, Option, Some, None, refl, sym, ap, ◌∙◌, subst, inl, inr}
use Rattle.std.specs.Prelude.{IsTrue}
use Rattle.std.specs.List.{AllByRecursion, IsDistinct, filter}
use Rattle.std.specs.Option.{is_some, option_map, unwrap_or}
use Rattle.std.specs.Str.{bytes_eq}
use Rattle.std.proofs.lemmas.Bool.{cases_Bool, and_from, and_parts, or_left, or_right}
use Rattle.std.proofs.lemmas.List.{reverse-reverse}
use Rattle.std.proofs.lemmas.Simd.{map-map}
use Rattle.cc_base.specs.declared.code.Code.{Code}
use Rattle.cc_base.specs.declared.device.DeviceDecl.{DeviceDecl}
use Rattle.cc_base.specs.declared.place.Place.{Place}
use Rattle.cc_core.specs.Programs.{Import, Definition, Module, definition_named, definition_in, imported, is_listed, are_in_order}
use Rattle.cc_device.specs.Declarations.{declared_bases}
use Rattle.cc_graph.specs.Graph.{imported as imported_by, is_present, IsOrder, reaches, one_step}
use Rattle.cc_graph.proofs.NameLemmas.{same_name, is_same_name}
use Rattle.cc_graph.proofs.OrderLaws.{orders_list_present_modules}
use Rattle.cc_graph.proofs.OrderLemmas.{clash, among_listed, listed-reverse}
use Rattle.cc_graph.proofs.Paths.{IsAmong}
use Rattle.cc_grammar.specs.Syntax.{ImportSyntax, ModuleSyntax}
use Rattle.cc_mnf.specs.ElaboratedModules.{CoreModule, Elaboration, IsElaborated, elaboration, device_names}
use Rattle.cc_mnf.specs.ElaboratedModules as elaborated
use Rattle.cc_verdicts.specs.ModuleLaws.{NamesOfDevicesDiffer}
use Rattle.cc_verdicts.specs.ModuleVerdicts.{FoundDefinition, CheckedDefinition, ModuleVerdict, IsAccepted, IsRefused, code_of, first_missing, declared_context, with_findings, AreJudged, HasModuleVerdict, is_no_module, import_is_missing, is_not_elaborated, is_judged, in_program}
use Rattle.cc_verdicts.specs.PresentTexts.{Texts, ArePresent, text_of, graph_of, found_or_none, finding_in, finding_for, findings_for, AreVerdicts}
use Rattle.cc_verdicts.specs.PresentTexts as present
use Rattle.cc_verdicts.specs.Readings.{IsTree, IsNoModule, reading_of_text}
use Rattle.cc_verdicts.proofs.Asking.{some_of, found_by}
use Rattle.cc_verdicts.proofs.ReadingLaws.{text_has_one_reading}
use Rattle.cc_verdicts.proofs.Schedules.{lookup_graph}
use Rattle.cc_entry_laws.specs.LinkOrders.{are_linked_in_order, AreClosed, is_accepted, is_accepted_module}
use Rattle.cc_entry_laws.specs.LinkedModules.{AreModulesOf}
use Rattle.cc_entry_laws.specs.PresentEntries.{import_of}
use Rattle.cc_entry_laws.proofs.AcceptedEntries.{reached_test}
use Rattle.cc_entry_laws.proofs.AcceptedModules.{reach_accepted}
use Rattle.cc_entry_laws.proofs.ChosenOrders.{chosen_order}
use Rattle.cc_entry_laws.proofs.EntryLinks.{AllPresent, IsImported, definition_there, imports_alike}
use Rattle.cc_entry_laws.proofs.EntryModules.{named_alike, IsModule, accepted_module, its_imports}
use Rattle.cc_entry_laws.proofs.EntryNames.{ordered_distinct}
use Rattle.cc_entry_laws.proofs.LinkedModules.{linked_modules}
use Rattle.cc_entry_laws.proofs.PlainEntries.{definitions_of, present_module}
use Rattle.cc_sound_laws.specs.DefinedAs.{OneHasNoType}
use Rattle.cc_sound_laws.specs.AcceptedModules.{IsReadBehind, globals_behind, AreAccepted}
use Rattle.cc_sound_laws.specs.SoundTexts.{OthersHaveNoTypes}
use Rattle.cc_sound_laws.proofs.AcceptedAs.{judged_refused}
use Rattle.cc_sound_laws.proofs.AcceptedSoundness.{each_at, none_missing, count_shapes}
use Rattle.cc_sound_laws.proofs.JudgedModules.{distinct_turned, findings_are, tree_ready, judged_modules}
use Rattle.cc_sound_laws.proofs.ReadTexts.{module_is_read}

-- ---- lists
kept_among : (p : List ℕ → Bool) (xs : List (List ℕ)) (x : List ℕ) → IsAmong x xs → p x ≡ true → IsAmong x (filter p xs)
kept_among p [] x among is = absurd among
kept_among p (y ∷ ys) x (inl same) is = rw (ap p same ∙ is) (inl same)
kept_among p (y ∷ ys) x (inr among) is =
    elim (cases_Bool (p y)) [
      | inl kept ↦ rw kept (inr (kept_among p ys x among is))
      | inr gone ↦ rw gone (kept_among p ys x among is)
    ]

all_kept : (p : List ℕ → Bool) (xs : List (List ℕ)) → AllByRecursion (λ x. p x ≡ true) (filter p xs)
all_kept p [] = tt
all_kept p (x ∷ xs) =
    elim (cases_Bool (p x)) [
      | inl kept ↦ rw kept (kept, all_kept p xs)
      | inr gone ↦ rw gone (all_kept p xs)
    ]

all_among : {A : Type 0} (P : A → Type 0) (xs : List A) (x : A) → IsAmong x xs → AllByRecursion P xs → P x
all_among P [] x among all = absurd among
all_among P (y ∷ xs) x (inl same) all = subst P same all.0
all_among P (y ∷ xs) x (inr among) all = all_among P xs x among all.1

map_itself : {A : Type 0} (xs : List A) → map (λ x. x) xs ≡ xs
map_itself [] = refl
map_itself (x ∷ xs) = ap (λ ys. x ∷ ys) (map_itself xs)

-- what holds of each listed name holds of that of each module
pub each_listed : (P : List ℕ → Type 0) (modules : List Module)
    → ((name : List ℕ) → is_listed modules name ≡ true → P name) → AllByRecursion (λ current. P current.name) modules
each_listed P [] all = tt
each_listed P (first ∷ rest) all = (
  all first.name (or_left _ _ (is_same_name first.name first.name refl)),
  each_listed P rest (λ name listed. all name (or_right _ _ listed)),
)

-- a definition of a list stands in a module of the list
definition_listed : (modules : List Module) (source name : List ℕ) (d : Definition)
    → definition_in source name modules ≡ Some d → is_listed modules source ≡ true
definition_listed [] source name d e = cc
definition_listed (newest ∷ older) source name d e =
    elim (cases_Bool (bytes_eq newest.name source)) [
      | inl same ↦ or_left _ _ same
      | inr other ↦ or_right _ _ (definition_listed older source name d (rw other at e))
    ]

of_option : (o : Option CheckedDefinition) (d : Definition) → option_map in_program o ≡ Some d
    → (one : CheckedDefinition) × (o ≡ Some one) × (in_program one ≡ d)
of_option None d e = cc
of_option (Some one) d e = (one, refl, some_is (in_program one) d e)
  where
    some_is : (a b : Definition) → Some a ≡ Some b → a ≡ b
    some_is a b e = cc

same_tree : (one other : ModuleSyntax) → IsTree one ≡ IsTree other → one ≡ other
same_tree one other e = cc

same_core : (one other : CoreModule) → IsElaborated one ≡ IsElaborated other → one ≡ other
same_core one other e = cc

no_tree : (tree : ModuleSyntax) (code : Code) (at : Place) → IsTree tree ≡ IsNoModule code at → ⊥
no_tree tree code at e = cc

none_is : {A : Type 0} (x : A) → None ≡ Some x → ⊥
none_is x e = cc

not_refused : (core : CoreModule) (code : Code) (at : Place) → elaborated.IsRefused code at ≡ IsElaborated core → ⊥
not_refused core code at e = cc

module _ (devices : List DeviceDecl) (texts : Texts) (all : List ℕ → ModuleVerdict) (differ : NamesOfDevicesDiffer devices)
    (sorted : ArePresent texts) (are : AreVerdicts devices texts all) where
  -- ---- the list
  chosen_closed : AreClosed (graph_of texts) (is_accepted_module texts all)
  chosen_closed = record {
    imports_chosen = λ name other is by.
        (reach_accepted devices texts all are name is).0 other (reached_test (graph_of texts) name other (inr (one_step by)));
    imports_present = λ name other is by.
        let it = accepted_module devices texts all differ sorted are other
        ((reach_accepted devices texts all are name is).0 other (reached_test (graph_of texts) name other (inr (one_step by)))) in
        ap (λ o. is_some o) (lookup_graph texts other it.text it.imports it.is_text it.reads);
    no_cycle = λ name is. (reach_accepted devices texts all are name is).1;
  }

  imports_by_graph : (name : List ℕ) (it : IsModule devices texts all name)
      → map (λ (names : Import). names.module_name) (present_module texts all name).imports ≡ imported_by (graph_of texts) name
  imports_by_graph name it =
      ap (map (λ (names : Import). names.module_name)) (its_imports devices texts all name it)
      ∙ map-map (λ (names : Import). names.module_name) import_of it.imports
      ∙ sym (ap (λ o. unwrap_or o []) (lookup_graph texts name it.text it.imports it.is_text it.reads))

  all_by_graph : (names : List (List ℕ)) → AllByRecursion (λ name. is_accepted_module texts all name ≡ true) names
      → AreModulesOf (graph_of texts) (map (present_module texts all) names)
  all_by_graph [] accepted = tt
  all_by_graph (first ∷ rest) accepted = (
    imports_by_graph first (accepted_module devices texts all differ sorted are first accepted.0),
    all_by_graph rest accepted.1,
  )

  all_present : (names : List (List ℕ)) → AllPresent texts all (map (present_module texts all) names)
  all_present [] = tt
  all_present (first ∷ rest) = (refl, all_present rest)

  all_accepted : (names : List (List ℕ)) → AllByRecursion (λ name. is_accepted_module texts all name ≡ true) names
      → AllByRecursion (λ (current : Module). is_accepted_module texts all current.name ≡ true) (map (present_module texts all) names)
  all_accepted [] accepted = tt
  all_accepted (first ∷ rest) accepted = (accepted.0, all_accepted rest accepted.1)

  listed_names : (names : List (List ℕ)) (other : List ℕ) → is_listed (map (present_module texts all) names) other ≡ true
      → IsAmong other names
  listed_names [] other listed = cc
  listed_names (first ∷ rest) other listed =
      elim (cases_Bool (bytes_eq first other)) [
        | inl same ↦ inl (same_name first other same)
        | inr apart ↦ inr (listed_names rest other (rw apart at listed))
      ]

  names_listed : (names : List (List ℕ)) (other : List ℕ) → IsAmong other names
      → is_listed (map (present_module texts all) names) other ≡ true
  names_listed [] other among = absurd among
  names_listed (first ∷ rest) other (inl same) = or_left _ _ (is_same_name first other same)
  names_listed (first ∷ rest) other (inr among) = or_right _ _ (names_listed rest other among)

  -- The accepted modules by an order of the graph, the newest first.
  module _ (names : List (List ℕ)) (order : IsOrder (graph_of texts) names) where
    abbrev chosen : List (List ℕ)
    chosen = filter (is_accepted_module texts all) (reverse names)

    abbrev pub table : List Module
    table = map (present_module texts all) chosen

    chosen_accepted : AllByRecursion (λ name. is_accepted_module texts all name ≡ true) chosen
    chosen_accepted = all_kept (is_accepted_module texts all) (reverse names)

    in_order : are_in_order [] table ≡ true
    in_order =
        let A : List Module → Type 0 = λ ms. AreModulesOf (graph_of texts) ms in
        let L : List (List ℕ) → Type 0 = λ ns. are_linked_in_order (graph_of texts) [] ns ≡ true in
        let O : List Module → Type 0 = λ ms. are_in_order [] ms ≡ true in
        let back = reverse-reverse table in
        let its_names : map (λ (current : Module). current.name) (reverse (reverse table)) ≡ chosen =
        ap (map (λ (current : Module). current.name)) back
        ∙ map-map (λ (current : Module). current.name) (present_module texts all) chosen ∙ map_itself chosen in
        subst O back
        (linked_modules (graph_of texts) (reverse table) (subst A (sym back) (all_by_graph chosen chosen_accepted))
        (subst L (sym its_names)
        (chosen_order (graph_of texts) names (is_accepted_module texts all) order chosen_closed)))

    distinct : IsDistinct bytes_eq (map (λ (current : Module). current.name) table)
    distinct =
        let O : List Module → Type 0 = λ ms. are_in_order [] ms ≡ true in
        let P : List Module → Type 0 = λ ms. AllPresent texts all ms in
        let D : List Module → Type 0 = λ ms. IsDistinct bytes_eq (map (λ (current : Module). current.name) ms) in
        let back = reverse-reverse table in
        subst D back
        (distinct_turned (reverse table)
        (ordered_distinct texts all (reverse table) (subst P (sym back) (all_present chosen)) (subst O (sym back) in_order)))

    pub table_accepted : AreAccepted (device_names devices) (declared_bases devices) texts table
    table_accepted =
        judged_modules devices texts all differ sorted are table (all_present chosen) (all_accepted chosen chosen_accepted)
        in_order distinct

    pub listed_is : (name : List ℕ) → is_listed table name ≡ true → is_accepted_module texts all name ≡ true
    listed_is name listed =
        all_among (λ n. is_accepted_module texts all n ≡ true) chosen name (listed_names chosen name listed) chosen_accepted

    pub is_in_table : (name : List ℕ) → is_accepted_module texts all name ≡ true → is_listed table name ≡ true
    is_in_table name is =
        let it = accepted_module devices texts all differ sorted are name is in
        let there : is_present (graph_of texts) name ≡ true =
        ap (λ o. is_some o) (lookup_graph texts name it.text it.imports it.is_text it.reads) in
        names_listed chosen name
        (kept_among (is_accepted_module texts all) (reverse names) name
        (among_listed (reverse names) name
        (listed-reverse names name ∙ (orders_list_present_modules (graph_of texts) names order).1 name ∙ there)) is)

    pub table_present : AllPresent texts all table
    table_present = all_present chosen

    -- ---- the others
    -- the definition that an import names is found, for a module that is not accepted
    import_found : (name : List ℕ) → is_accepted_module texts all name ≡ false → (one : ImportSyntax)
        → is_some (imported table (import_of one)) ≡ true
        → IsImported table (finding_for texts all name one) (import_of one)
    unfolding finding_for
    import_found name other one there =
        let (d, is) = some_of (imported table (import_of one)) there in
        let listed = definition_listed table one.source one.name d is in
        let accepted = listed_is one.source listed in
        let source = accepted_module devices texts all differ sorted are one.source accepted in
        let named : option_map in_program (present.definition_named one.name source.definitions) ≡ Some d =
        sym (named_alike one.name source.definitions source.sound.names)
        ∙ sym (ap (λ v. definition_named one.name (reverse (definitions_of v))) source.accepted)
        ∙ sym (definition_there texts all table one.source one.name (all_present chosen) listed) ∙ is in
        let (it, found, same) = of_option (present.definition_named one.name source.definitions) d named in
        let present_there : is_some (text_of texts one.source) ≡ true = ap (λ o. is_some o) source.is_text in
        let ahead : reaches (graph_of texts) one.source name ≡ false =
        elim (cases_Bool (reaches (graph_of texts) one.source name)) [
          | inl back ↦
              clash (is_accepted_module texts all name)
              ((reach_accepted devices texts all are one.source accepted).0 name (or_right _ _ back)) other
          | inr ahead ↦ ahead
        ] in
        record {
          definition = d;
          there = is;
          found =
              ap (λ b. found_by b (reaches (graph_of texts) one.source name) (finding_in (all one.source) one.name)) present_there
              ∙ ap (λ b. found_by true b (finding_in (all one.source) one.name)) ahead
              ∙ ap (λ v. finding_in v one.name) source.accepted
              ∙ ap (λ o. found_or_none o) found
              ∙ ap (λ (x : Definition). FoundDefinition x.signature) same;
        }

    module _ (name text : List ℕ) (is_text : text_of texts name ≡ Some text) (tree : ModuleSyntax) (core : CoreModule)
        (reads : IsReadBehind (device_names devices) table text tree core) where
      its_reading : IsTree tree ≡ reading_of_text text
      its_reading = (text_has_one_reading text (IsTree tree)).0 (module_is_read text tree reads.is_module)

      each_import : is_accepted_module texts all name ≡ false → (one : ImportSyntax) → IsAmong one tree.imports
          → IsImported table (finding_for texts all name one) (import_of one)
      each_import other one among =
          import_found name other one
          (each_at (λ (names : Import). IsTrue (is_some (imported table names))) import_of tree.imports reads.found one among)

      none_is_missing : is_accepted_module texts all name ≡ false
          → first_missing tree.imports (findings_for texts all name text) ≡ None
      none_is_missing other =
          ap (λ fs. first_missing tree.imports fs)
          (findings_are devices texts all differ sorted are name text tree (module_is_read text tree reads.is_module))
          ∙ none_missing (finding_for texts all name) tree.imports
          (λ one among. ap code_of (each_import other one among).found)

      globals_are : is_accepted_module texts all name ≡ false
          → with_findings (declared_context devices) (findings_for texts all name text)
          ≡ globals_behind (declared_bases devices) table tree
      globals_are other =
          ap (λ fs. with_findings (declared_context devices) fs)
          (findings_are devices texts all differ sorted are name text tree (module_is_read text tree reads.is_module))
          ∙ sym (imports_alike (declared_context devices) table (finding_for texts all name) tree.imports (each_import other))

      by_judged : is_accepted_module texts all name ≡ false → (code : Code) (at : Place) (v : ModuleVerdict)
          → AreJudged (length devices) (with_findings (declared_context devices) (findings_for texts all name text)) core.definitions v
          → v ≡ IsRefused code at
          → OneHasNoType (length (declared_bases devices)) (globals_behind (declared_bases devices) table tree) core.definitions
      by_judged other code at v judged e =
          subst (λ n. OneHasNoType n (globals_behind (declared_bases devices) table tree) core.definitions) (sym (count_shapes devices))
          (subst (λ c. OneHasNoType (length devices) c core.definitions) (globals_are other)
          (judged_refused (length devices) (with_findings (declared_context devices) (findings_for texts all name text)) core.definitions
          code at v
          (tree_ready devices texts all differ sorted are name text tree core is_text (module_is_read text tree reads.is_module)
          (none_is_missing other) reads.elaborated)
          judged e))

      by_verdict : is_accepted_module texts all name ≡ false → (code : Code) (at : Place) (v : ModuleVerdict)
          → HasModuleVerdict devices text (findings_for texts all name text) v → v ≡ IsRefused code at
          → OneHasNoType (length (declared_bases devices)) (globals_behind (declared_bases devices) table tree) core.definitions
      by_verdict other code at v (is_no_module {code = code'} {at = at'} reading) e =
          absurd (no_tree tree code' at' (its_reading ∙ sym ((text_has_one_reading text (IsNoModule code' at')).0 reading)))
      by_verdict other code at v (import_is_missing {tree = tree'} {missing = missing} reading is) e =
          let same = same_tree tree tree' (its_reading ∙ sym ((text_has_one_reading text (IsTree tree')).0 reading)) in
          absurd (none_is missing (sym (none_is_missing other) ∙ ap (λ (t : ModuleSyntax). first_missing t.imports (findings_for texts all name text)) same ∙ is))
      by_verdict other code at v (is_not_elaborated {tree = tree'} {code = code'} {at = at'} reading found is) e =
          let same = same_tree tree tree' (its_reading ∙ sym ((text_has_one_reading text (IsTree tree')).0 reading)) in
          absurd (not_refused core code' at' (sym is ∙ ap (elaboration (device_names devices)) (sym same) ∙ reads.elaborated))
      by_verdict other code at v (is_judged {tree = tree'} {core = core'} {verdict = verdict} reading found is judged) e =
          let same = same_tree tree tree' (its_reading ∙ sym ((text_has_one_reading text (IsTree tree')).0 reading)) in
          let alike = same_core core' core (sym is ∙ ap (elaboration (device_names devices)) (sym same) ∙ reads.elaborated) in
          by_judged other code at verdict
          (subst (λ (c : CoreModule). AreJudged (length devices) (with_findings (declared_context devices) (findings_for texts all name text)) c.definitions verdict) alike judged)
          e

      not_accepted : (code : Code) (at : Place) → all name ≡ IsRefused code at → is_accepted_module texts all name ≡ false
      not_accepted code at e =
          elim (cases_Bool (is_accepted_module texts all name)) [
            | inl holds ↦
                clash (is_accepted (all name)) (and_parts (is_some (text_of texts name)) (is_accepted (all name)) holds).1
                (ap is_accepted e)
            | inr fails ↦ fails
          ]

      pub refused_has_no_type : (code : Code) (at : Place) → all name ≡ IsRefused code at
          → OneHasNoType (length (declared_bases devices)) (globals_behind (declared_bases devices) table tree) core.definitions
      refused_has_no_type code at e =
          by_verdict (not_accepted code at e) code at (all name) (are name text is_text) e

    pub others_have_none : OthersHaveNoTypes (device_names devices) (declared_bases devices) texts table
    others_have_none name text is_text new tree core reads = by_case (all name) refl
      where
        by_case : (v : ModuleVerdict) → all name ≡ v
            → OneHasNoType (length (declared_bases devices)) (globals_behind (declared_bases devices) table tree) core.definitions
        by_case (IsRefused code at) e = refused_has_no_type name text is_text tree core reads code at e
        by_case (IsAccepted ones) e =
            clash (is_listed table name)
            (is_in_table name (and_from _ _ (ap (λ o. is_some o) is_text) (ap is_accepted e))) new
