-- The verdicts of a chain of modules: each module is accepted.
use Rattle.std.proofs.Common.{◌≡◌, ◌∙◌, ℕ, zero, suc, ◌+◌, ◌-◌, ◌≤◌, Bool, true, false, List, [], ◌∷◌, map, Some, None, codes, refl, sym, ap, subst, inl, inr, arith, if◌then◌else◌}
use Rattle.std.proofs.lemmas.Bool.{cases_eq}
use Rattle.std.specs.Option.{is_some, unwrap_or}
use Rattle.std.specs.Str.{bytes_eq}
use Rattle.cc_capture.specs.Sets.{Set}
use Rattle.cc_graph.specs.Graph.{reaches}
use Rattle.cc_graph.proofs.NameLemmas.{is_same_name}
use Rattle.cc_grammar.specs.Syntax.{ImportSyntax}
use Rattle.cc_verdicts.specs.ModuleVerdicts.{CheckedDefinition, Finding, FoundDefinition, InCycle, NoModule, ModuleVerdict, IsAccepted, HasModuleVerdict}
use Rattle.cc_verdicts.specs.PresentTexts.{Texts, text_of, graph_of, finding_for, finding_in, found_or_none, findings_for, AreVerdicts}
use Rattle.cc_verdicts.specs.Readings.{imports_of}
use Rattle.cc_verdicts.proofs.ModuleVerdictLaws.{verdicts_are_unique}
use Rattle.cc_workload.specs.Workloads.{module_name, definition_name, calling_module, entry_module, workload_devices}
use Rattle.cc_workload_outputs.proofs.ChainDefinitions.{to_unit, integer, calling_definition, main_definition, import_of_module, HaveVerdicts}
use Rattle.cc_workload_outputs.proofs.ChainGraph.{HaveImports, reaches_below, reaches_chain}
use Rattle.cc_workload_outputs.proofs.ChainTexts.{AreChained}

-- what is found for the one import of a module of a chain that captures this
abbrev pub found_of : Set → List Finding
found_of set = FoundDefinition (to_unit integer set) ∷ []

-- Texts of a chain that captures this are accepted: the first, those behind it, and that which is run, where what they
-- import is found.
pub record AreAccepted (first : List ℕ) (definition : CheckedDefinition) (set : Set) : Type 0 where
  pub alone : imports_of first ≡ Some []
  pub of_first : HasModuleVerdict workload_devices first [] (IsAccepted (definition ∷ []))
  pub named : definition.name ≡ definition_name 1
  pub signed : definition.accepted.signature ≡ to_unit integer set
  pub of_calling : (k : ℕ) → 2 ≤ k → k ≤ 200
      → HasModuleVerdict workload_devices (calling_module k) (found_of set) (IsAccepted (calling_definition set k ∷ []))
  pub of_entry : (n : ℕ) → 1 ≤ n → n ≤ 200
      → HasModuleVerdict workload_devices (entry_module n) (found_of set) (IsAccepted (main_definition set ∷ []))

-- what is found for an import of the one definition of an accepted module
finding_of : (texts : Texts) (verdicts : List ℕ → ModuleVerdict) (name text : List ℕ) (j : ℕ) (definition : CheckedDefinition)
    → text_of texts (module_name j) ≡ Some text → reaches (graph_of texts) (module_name j) name ≡ false
    → verdicts (module_name j) ≡ IsAccepted (definition ∷ []) → definition.name ≡ definition_name j
    → finding_for texts verdicts name (import_of_module j) ≡ FoundDefinition definition.accepted.signature
unfolding finding_for
finding_of texts verdicts name text j definition is_text ahead accepted named =
    ap (λ o. if is_some o then (if reaches (graph_of texts) (module_name j) name then InCycle else finding_in (verdicts (module_name j)) (definition_name j)) else NoModule) is_text
    ∙ ap (λ b. if b then InCycle else finding_in (verdicts (module_name j)) (definition_name j)) ahead
    ∙ ap (λ v. finding_in v (definition_name j)) accepted
    ∙ ap (λ b. found_or_none (if b then Some definition else None)) (is_same_name definition.name (definition_name j) named)

-- a module has the verdict that it has for what is found
has_verdict : (texts : Texts) (verdicts : List ℕ → ModuleVerdict) → AreVerdicts workload_devices texts verdicts
    → (name text : List ℕ) (imports : List ImportSyntax) (findings : List Finding) (verdict : ModuleVerdict)
    → text_of texts name ≡ Some text → imports_of text ≡ Some imports → map (finding_for texts verdicts name) imports ≡ findings
    → HasModuleVerdict workload_devices text findings verdict → verdicts name ≡ verdict
has_verdict texts verdicts are name text imports findings verdict is_text is_imports is_found has =
    verdicts_are_unique workload_devices text (findings_for texts verdicts name text) (verdicts name) verdict (are name text is_text)
    (subst (λ fs. HasModuleVerdict workload_devices text fs verdict)
    (sym (ap (λ o. map (finding_for texts verdicts name) (unwrap_or o [])) is_imports ∙ is_found)) has)

module _ (have : HaveImports) (first : List ℕ) (definition : CheckedDefinition) (set : Set) (accepted : AreAccepted first definition set)
    (n : ℕ) (some : 1 ≤ n) (few : n ≤ 200) (texts : Texts) (chained : AreChained first n texts)
    (verdicts : List ℕ → ModuleVerdict) (are : AreVerdicts workload_devices texts verdicts) where
  -- the module of this number is accepted with one definition, which has the type that the ones behind it expect
  record StandsAt (j : ℕ) : Type 0 where
    text : List ℕ
    is_text : text_of texts (module_name j) ≡ Some text
    its : CheckedDefinition
    is : verdicts (module_name j) ≡ IsAccepted (its ∷ [])
    named : its.name ≡ definition_name j
    signed : its.accepted.signature ≡ to_unit integer set

  first_stands : StandsAt 1
  first_stands = record {
    text = first;
    is_text = chained.of_first;
    its = definition;
    is = has_verdict texts verdicts are (module_name 1) first [] [] (IsAccepted (definition ∷ [])) chained.of_first accepted.alone refl accepted.of_first;
    named = accepted.named;
    signed = accepted.signed;
  }

  -- what is found for an import of it
  found_at : (j : ℕ) → StandsAt j → (name : List ℕ) → reaches (graph_of texts) (module_name j) name ≡ false
      → map (finding_for texts verdicts name) (import_of_module j ∷ []) ≡ found_of set
  found_at j stands name ahead =
      ap (λ f. f ∷ []) (finding_of texts verdicts name stands.text j stands.its stands.is_text ahead stands.is stands.named)
      ∙ ap (λ t. FoundDefinition t ∷ []) stands.signed

  calling_accepted : (k : ℕ) → 2 ≤ k → k ≤ n → StandsAt (k - 1) → verdicts (module_name k) ≡ IsAccepted (calling_definition set k ∷ [])
  calling_accepted k more within before =
      has_verdict texts verdicts are (module_name k) (calling_module k) (import_of_module (k - 1) ∷ []) (found_of set)
      (IsAccepted (calling_definition set k ∷ [])) (chained.of_calling k more within) (have.of_calling k more (omega (arith, within, few)))
      (found_at (k - 1) before (module_name k)
      (reaches_below have first accepted.alone n some few texts chained (k - 1) k (omega arith) (omega arith) within))
      (accepted.of_calling k more (omega (arith, within, few)))

  calling_stands : (k : ℕ) → 2 ≤ k → k ≤ n → StandsAt (k - 1) → StandsAt k
  calling_stands k more within before = record {
    text = calling_module k;
    is_text = chained.of_calling k more within;
    its = calling_definition set k;
    is = calling_accepted k more within before;
    named = refl;
    signed = refl;
  }

  each_stands : (m j : ℕ) → j ≡ m + 1 → j ≤ n → StandsAt j
  each_stands zero j is within = let at_first : 1 ≡ j = omega (arith, is) in subst StandsAt at_first first_stands
  each_stands (suc m) j is within =
      calling_stands j (omega (arith, is)) within (each_stands m (j - 1) (omega (arith, is)) (omega (arith, within)))

  -- each module has its verdict
  pub chain_verdicts : HaveVerdicts definition set n verdicts
  unfolding first_stands
  chain_verdicts = record {
    of_first = first_stands.is;
    of_calling = λ k more within. calling_accepted k more within (each_stands (k - 1 - 1) (k - 1) (omega (arith, more)) (omega (arith, within)));
    of_entry =
        has_verdict texts verdicts are (codes "app") (entry_module n) (import_of_module n ∷ []) (found_of set)
        (IsAccepted (main_definition set ∷ [])) chained.of_entry (have.of_entry n some few)
        (found_at n (each_stands (n - 1) n (omega (arith, some)) (omega arith)) (codes "app")
        (reaches_chain have first accepted.alone n some few texts chained n some (omega arith)))
        (accepted.of_entry n some few);
  }
