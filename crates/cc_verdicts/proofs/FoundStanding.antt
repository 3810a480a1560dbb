-- Definitions of present modules are found where they stand.
use Rattle.std.proofs.Common.{◌≡◌, ℕ, Bool, true, false, List, [], ◌∷◌, ◌++◌, map, Option, Some, None, Result, Ok}
use Rattle.std.proofs.Common.{refl, sym, ap, ◌∙◌, subst, if◌then◌else◌}
use Rattle.std.specs.List.{AllByRecursion, IsDistinct}
use Rattle.std.proofs.lemmas.Map.Keys.{IsDistinct-head}
use Rattle.std.specs.Option.{option_map, unwrap_or}
use Rattle.std.specs.Str.{bytes_eq}
use Rattle.cc_base.specs.declared.code.Code.{Code}
use Rattle.cc_base.specs.declared.device.DeviceDecl.{DeviceDecl}
use Rattle.cc_graph.proofs.NameLemmas.{same_name, is_same_name}
use Rattle.cc_verdicts.specs.ModuleVerdicts.{Finding, CheckedDefinition, ModuleVerdict, IsAccepted, IsRefused, HasModuleVerdict, is_no_module, import_is_missing, is_not_elaborated, is_judged}
use Rattle.cc_verdicts.specs.PresentTexts.{Texts, ArePresent, text_of, findings_for, AreVerdicts}
use Rattle.cc_verdicts.specs.Readings.{IsTree, imports_in, imports_of}
use Rattle.cc_verdicts.specs.StandingDefinitions.{StandsInPresentModule, Standing, first_named, standing_or, standing_by, standing_from}
use Rattle.cc_verdicts.specs.StandingLaws.{StandingDefinitionsStand, StandingDefinitionsAreFound, StandingDefinitionsAreOfTexts}
use Rattle.cc_verdicts.proofs.Asking.{some_of, findings_same}
use Rattle.cc_verdicts.proofs.ModuleVerdictLaws.{accepted_modules_are_sound}
use Rattle.cc_verdicts.proofs.PresentLaws.{present_verdicts_are_unique, present_findings_fit}
use Rattle.cc_verdicts.proofs.ReadingLaws.{text_has_one_reading}

-- ---- in a list
-- the definition has the name, and stands behind these
record IsFirst (name : List ℕ) (definitions : List CheckedDefinition)
    (found : List CheckedDefinition × CheckedDefinition) : Type 0 where
  after : List CheckedDefinition
  is : definitions ≡ found.0 ++ found.1 ∷ after
  named : found.1.name ≡ name

same_found : (a b : List CheckedDefinition × CheckedDefinition) → Some a ≡ Some b → a ≡ b
same_found a b e = cc

more_found : (first : CheckedDefinition) (o : Option (List CheckedDefinition × CheckedDefinition))
    (found : List CheckedDefinition × CheckedDefinition)
    → option_map (λ it. (first ∷ it.0, it.1)) o ≡ Some found
    → (it : List CheckedDefinition × CheckedDefinition) × (o ≡ Some it) × ((first ∷ it.0, it.1) ≡ found)
more_found first None found e = cc
more_found first (Some it) found e = (it, refl, same_found (first ∷ it.0, it.1) found e)

first_by : (name : List ℕ) (first : CheckedDefinition) (rest : List CheckedDefinition)
    (found : List CheckedDefinition × CheckedDefinition) (b : Bool) → bytes_eq first.name name ≡ b
    → ((it : List CheckedDefinition × CheckedDefinition) → first_named name rest ≡ Some it → IsFirst name rest it)
    → (if b then Some ([], first) else option_map (λ it. (first ∷ it.0, it.1)) (first_named name rest)) ≡ Some found
    → IsFirst name (first ∷ rest) found
first_by name first rest found true same others e =
    subst (IsFirst name (first ∷ rest)) (same_found ([], first) found e)
    (record { after = rest; is = refl; named = same_name first.name name same })
first_by name first rest found false other others e =
    let (it, at, same) = more_found first (first_named name rest) found e in
    let is = others it at in
    subst (IsFirst name (first ∷ rest)) same
    (record { after = is.after; is = ap (λ l. first ∷ l) is.is; named = is.named })

first_is : (name : List ℕ) (definitions : List CheckedDefinition) (found : List CheckedDefinition × CheckedDefinition)
    → first_named name definitions ≡ Some found → IsFirst name definitions found
first_is name [] found e = cc
first_is name (first ∷ rest) found e =
    first_by name first rest found (bytes_eq first.name name) refl (first_is name rest) e

-- the names of definitions
abbrev names_in : List CheckedDefinition → List (List ℕ)
names_in definitions = map (λ (one : CheckedDefinition). one.name) definitions

apart_from : (name : List ℕ) (before : List CheckedDefinition) (one : CheckedDefinition) (after : List CheckedDefinition)
    → AllByRecursion (λ other. bytes_eq name other ≡ false) (names_in (before ++ one ∷ after))
    → bytes_eq name one.name ≡ false
apart_from name [] one after all = all.0
apart_from name (first ∷ before) one after all = apart_from name before one after all.1

behind_first : (x : List ℕ) (xs : List (List ℕ)) → IsDistinct bytes_eq (x ∷ xs) → IsDistinct bytes_eq xs
unfolding IsDistinct
behind_first x xs h = h.1

found_at : (before : List CheckedDefinition) (one : CheckedDefinition) (after : List CheckedDefinition)
    → IsDistinct bytes_eq (names_in (before ++ one ∷ after))
    → first_named one.name (before ++ one ∷ after) ≡ Some (before, one)
found_at [] one after apart = rw (is_same_name one.name one.name refl) refl
found_at (first ∷ before) one after apart =
    let other : bytes_eq first.name one.name ≡ false =
    apart_from first.name before one after
    (IsDistinct-head bytes_eq first.name (names_in (before ++ one ∷ after)) apart) in
    rw other
    (ap (option_map (λ (it : List CheckedDefinition × CheckedDefinition). (first ∷ it.0, it.1)))
    (found_at before one after (behind_first first.name (names_in (before ++ one ∷ after)) apart)))

-- ---- in a module
-- the text of an accepted module has imports
accepted_reads : (devices : List DeviceDecl) (text : List ℕ) (findings : List Finding)
    (definitions : List CheckedDefinition) (v : ModuleVerdict) → HasModuleVerdict devices text findings v
    → v ≡ IsAccepted definitions → imports_of text ≡ Some (unwrap_or (imports_of text) [])
accepted_reads devices text findings definitions v (is_no_module reading) e = cc
accepted_reads devices text findings definitions v (import_is_missing reading missing) e = cc
accepted_reads devices text findings definitions v (is_not_elaborated reading found is) e = cc
accepted_reads devices text findings definitions v (is_judged {tree = tree} reading found is judged) e =
    let reads : imports_of text ≡ Some tree.imports =
    ap imports_in (sym ((text_has_one_reading text (IsTree tree)).0 reading)) in
    reads ∙ ap Some (sym (ap (λ o. unwrap_or o []) reads))

same_standing : (a b : Standing) → ◌≡◌ {A = Result Standing Code} (Ok a) (Ok b) → a ≡ b
same_standing a b e = cc

module _ (devices : List DeviceDecl) (texts : Texts) (verdicts : List ℕ → ModuleVerdict)
    (are : AreVerdicts devices texts verdicts) (module_name name : List ℕ) (it : Standing) where
  abbrev Stands : Type 0
  Stands =
      (stands : StandsInPresentModule devices texts verdicts it.imports it.findings it.before it.definition)
      × (stands.name ≡ module_name) × (it.definition.name ≡ name)

  stands_at : (text : List ℕ) → text_of texts module_name ≡ Some text → (definitions : List CheckedDefinition)
      → verdicts module_name ≡ IsAccepted definitions
      → (found : Option (List CheckedDefinition × CheckedDefinition)) → first_named name definitions ≡ found
      → standing_or (unwrap_or (imports_of text) []) (findings_for texts verdicts module_name text) found ≡ Ok it
      → Stands
  stands_at text present definitions accepted None is e = cc
  stands_at text present definitions accepted (Some found) is e =
      let first = first_is name definitions found is in
      let same : record {
        imports = unwrap_or (imports_of text) [];
        findings = findings_for texts verdicts module_name text;
        before = found.0;
        definition = found.1;
      } ≡ it = same_standing _ it e in
      let P : Standing → Type 0 = λ s.
      (stands : StandsInPresentModule devices texts verdicts s.imports s.findings s.before s.definition)
      × (stands.name ≡ module_name) × (s.definition.name ≡ name) in
      subst P same (
        record {
          name = module_name;
          text = text;
          present = present;
          imports_are =
              accepted_reads devices text (findings_for texts verdicts module_name text) definitions
              (verdicts module_name) (are module_name text present) accepted;
          findings_are = refl;
          after = first.after;
          accepted = accepted ∙ ap IsAccepted first.is;
        },
        refl,
        first.named,
      )

  stands_by_verdict : (text : List ℕ) → text_of texts module_name ≡ Some text → (v : ModuleVerdict)
      → verdicts module_name ≡ v
      → standing_by (unwrap_or (imports_of text) []) (findings_for texts verdicts module_name text) v name ≡ Ok it
      → Stands
  stands_by_verdict text present (IsAccepted definitions) is e =
      stands_at text present definitions is (first_named name definitions) refl e
  stands_by_verdict text present (IsRefused code at) is e = cc

  stands_by_text : (text : Option (List ℕ)) → text_of texts module_name ≡ text
      → standing_from texts verdicts module_name name text ≡ Ok it → Stands
  stands_by_text (Some text) is e = stands_by_verdict text is (verdicts module_name) refl e
  stands_by_text None is e = cc

pub definitions_stand : StandingDefinitionsStand
definitions_stand devices texts verdicts module_name name it are e =
    stands_by_text devices texts verdicts are module_name name it (text_of texts module_name) refl e

pub definitions_found : StandingDefinitionsAreFound
definitions_found devices texts verdicts imports findings before one differ present are stands =
    let has : HasModuleVerdict devices stands.text (findings_for texts verdicts stands.name stands.text)
    (IsAccepted (before ++ one ∷ stands.after)) =
    subst (HasModuleVerdict devices stands.text (findings_for texts verdicts stands.name stands.text)) stands.accepted
    (are stands.name stands.text stands.present) in
    let sound =
    accepted_modules_are_sound devices stands.text (findings_for texts verdicts stands.name stands.text)
    (before ++ one ∷ stands.after) differ
    (present_findings_fit devices texts verdicts differ present are stands.name stands.text stands.present) has in
    ap (standing_from texts verdicts stands.name one.name) stands.present
    ∙ ap (λ v. standing_by (unwrap_or (imports_of stands.text) [])
    (findings_for texts verdicts stands.name stands.text) v one.name) stands.accepted
    ∙ ap (standing_or (unwrap_or (imports_of stands.text) []) (findings_for texts verdicts stands.name stands.text))
    (found_at before one stands.after sound.names)
    ∙ (λ j. Ok (record {
      imports = unwrap_or (stands.imports_are j) [];
      findings = sym stands.findings_are j;
      before = before;
      definition = one;
    }))

-- ---- the texts decide
module _ (devices : List DeviceDecl) (texts : Texts) (first second : List ℕ → ModuleVerdict)
    (present : ArePresent texts) (are : AreVerdicts devices texts first) (others : AreVerdicts devices texts second) where
  -- what is found is that of the texts
  pub findings_of_texts : (name text : List ℕ) → text_of texts name ≡ Some text
      → findings_for texts first name text ≡ findings_for texts second name text
  findings_of_texts name text is =
      findings_same texts first second name text is
      (λ other asks.
      let (its_text, is_its) = some_of (text_of texts other) asks.present in
      present_verdicts_are_unique devices texts first second present are others other its_text is_its)

  same_from : (module_name name : List ℕ) (text : Option (List ℕ)) → text_of texts module_name ≡ text
      → standing_from texts first module_name name text ≡ standing_from texts second module_name name text
  same_from module_name name None is = refl
  same_from module_name name (Some text) is =
      let verdict = present_verdicts_are_unique devices texts first second present are others module_name text is in
      let found = findings_of_texts module_name text is in
      (λ j. standing_by (unwrap_or (imports_of text) []) (found j) (verdict j) name)

pub found_by_texts : StandingDefinitionsAreOfTexts
found_by_texts devices texts first second present are others module_name name =
    same_from devices texts first second present are others module_name name (text_of texts module_name) refl
