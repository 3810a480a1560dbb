-- What is found of imports, from what the calls for their parts answer.
use Rattle.std.proofs.Common.{◌≡◌, ℕ, ◌<◌, Bool, false, true, List, [], map, length, get_or, slice_get, Option, Some, None, Result, IsTrue, refl, sym, ap, subst, ◌∙◌, arith}
use Rattle.std.proofs.lemmas.Bool.{ltb-false, ltb-true}
use Rattle.std.proofs.lemmas.List.{length-map}
use Rattle.std.proofs.lemmas.Option.{same_Some, slice_get_within}
use Rattle.std.proofs.lemmas.Result.{IfOk-weaker}
use Rattle.std.specs.Prelude.{nat_lt, IfOk}
use Rattle.std.specs.declared.alloc.AllocError.{AllocError}
use Rattle.cc_base.specs.declared.device.DeviceDecl.{DeviceDecl}
use Rattle.cc_base.specs.declared.literal.Import.{Import}
use Rattle.cc_base.specs.declared.place.Place.{Place}
use Rattle.cc_core.proofs.Lookups.{length_map}
use Rattle.cc_graph.specs.Graph.{ImportMap, is_present}
use Rattle.cc_grammar.specs.Syntax.{ImportSyntax}
use Rattle.cc_import_reasoning.proofs.GivenImports.{import_at}
use Rattle.cc_import_reasoning.specs.ToldImports.{reason_of, TellsFirst}
use Rattle.cc_import_reasoning.specs.declared.reason.MissingImport.{MissingImport}
use Rattle.cc_judge.specs.Judgements.{Judgement, judgements}
use Rattle.cc_module.specs.Findings.{finding_of}
use Rattle.cc_module.specs.declared.finding.Finding.{Finding as DeclaredFinding}
use Rattle.cc_module_reasons.specs.ImportReasons.{ImportReason, IsMissingFirst}
use Rattle.cc_module_reasons.specs.ImportReasonTexts.{import_reason_lines}
use Rattle.cc_parse.specs.Trees.{import_syntax, module_syntax}
use Rattle.cc_parse.specs.declared.tree.Module.{Module}
use Rattle.cc_verdicts.proofs.ReadingLaws.{text_has_one_reading}
use Rattle.cc_verdicts.proofs.Schedules.{parsed_present}
use Rattle.cc_verdicts.specs.ModuleVerdicts.{ModuleVerdict, first_missing}
use Rattle.cc_verdicts.specs.PresentTexts.{Texts, text_of, graph_of, finding_for, findings_for}
use Rattle.cc_verdicts.specs.Readings.{IsTree, HasReading, imports_in, reading_of_text}
use Rattle.std.specs.Option.{is_some, unwrap_or}
use Rattle.cc_why.proofs.FoundReasons.{found_of_tree, imports_told}
use Rattle.cc_why.specs.ToldReasons.{TellsReason, TellsImports}
use Rattle.cc_why.specs.declared.why.ReasonLines.{ReasonLines}

module _ (texts : Texts) (all : List ℕ → ModuleVerdict) (graph : ImportMap) (name : List ℕ) (imports : List Import) where
  -- the lines are those of the first import that finds no definition
  pub missing_told : (missing : MissingImport) → TellsFirst texts all graph name (map import_syntax imports) (Some missing)
      → (one : Import) → missing.import < length imports → one ≡ get_or imports missing.import one → (lines : List (List ℕ))
      → lines ≡ import_reason_lines (reason_of graph name (import_syntax one) missing.cause)
      → (reason : ImportReason) × (at : Place) × IsMissingFirst texts all name (map import_syntax imports) reason at
      × (lines ≡ import_reason_lines reason)
  missing_told missing (told, stands, first) one low is lines are =
      let same : told ≡ import_syntax one = same_Some told (import_syntax one) (sym stands ∙ import_at imports missing.import one low is) in (
        reason_of graph name (import_syntax one) missing.cause,
        (import_syntax one).at,
        subst (λ (it : ImportSyntax). IsMissingFirst texts all name (map import_syntax imports) (reason_of graph name it missing.cause) it.at) same first,
        are,
      )

  -- and it stands among them
  pub stands_there : (missing : MissingImport) → TellsFirst texts all graph name (map import_syntax imports) (Some missing)
      → false ≡ nat_lt missing.import (length imports) → ⊥
  stands_there missing (told, stands, first) past =
      let high = ltb-false missing.import (length imports) (sym past) in
      let low = slice_get_within (map import_syntax imports) missing.import told stands in
      omega (arith, length-map imports import_syntax)

-- a module whose text is a tree is among the modules
in_graph : (texts : Texts) (name text : List ℕ) (tree : Module) → text_of texts name ≡ Some text → HasReading text (IsTree (module_syntax tree))
    → IsTrue (is_present (graph_of texts) name)
in_graph texts name text tree there reads =
    parsed_present texts name (ap is_some there)
    (ap (λ o. is_some (imports_in (reading_of_text (unwrap_or o [])))) there
    ∙ ap (λ r. is_some (imports_in r)) (sym ((text_has_one_reading text (IsTree (module_syntax tree))).0 reads)))

-- it is told of the tree, where an import of it finds no definition
pub imports_found : (devices : List DeviceDecl) (texts : Texts) (last : List Judgement) (name : List ℕ) (tree : Module) (findings : List DeclaredFinding)
    (imports : List Import) (answer : Result (Option ReasonLines) AllocError) → imports ≡ tree.imports.items
    → (first_missing (module_syntax tree).imports (map finding_of findings) ≡ None → ⊥)
    → IfOk answer (λ told. (all : List ℕ → ModuleVerdict) → last ≡ judgements texts all → IsTrue (is_present (graph_of texts) name)
    → map finding_of findings ≡ map (finding_for texts all name) (map import_syntax imports)
    → TellsImports texts all name (map import_syntax imports) told)
    → IfOk answer (λ told. (all : List ℕ → ModuleVerdict) (text : List ℕ) → last ≡ judgements texts all → text_of texts name ≡ Some text
    → HasReading text (IsTree (module_syntax tree)) → map finding_of findings ≡ findings_for texts all name text
    → TellsReason devices texts all name text told)
imports_found devices texts last name tree findings imports answer same missing =
    IfOk-weaker answer _ _
    (λ told it all text current there reads are.
    let here = it all current (in_graph texts name text tree there reads)
    (are ∙ found_of_tree devices texts all name text (module_syntax tree) reads ∙ ap (λ is. map (finding_for texts all name) (map import_syntax is)) (sym same)) in
    imports_told devices texts all name text (module_syntax tree) reads
    (λ none. missing (ap (first_missing (module_syntax tree).imports) are ∙ none)) told
    (subst (λ is. TellsImports texts all name (map import_syntax is) told) same here))
