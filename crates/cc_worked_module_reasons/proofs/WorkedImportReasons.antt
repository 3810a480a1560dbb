-- Worked reasons of imports, by computation.
use Rattle.std.proofs.Common.{◌≡◌, ◌∙◌, ℕ, Bool, true, false, cond, List, [], ◌∷◌, map, Option, Some, None, IsTrue, refl, sym, ap, subst, inl, inr, if◌then◌else◌, codes}
use Rattle.std.specs.Cmp.Lexicographic.{bytes_decides}
use Rattle.std.specs.Fmt.{digits}
use Rattle.std.specs.List.{AllByRecursion}
use Rattle.std.specs.List.Sorted.{IsStrictlySortedBy}
use Rattle.std.specs.Map.{lookup}
use Rattle.std.specs.Option.{unwrap_or, is_some}
use Rattle.std.specs.Str.{bytes_eq}
use Rattle.std.proofs.lemmas.Bool.{cases_Bool}
use Rattle.std.proofs.lemmas.Option.{same_Some}
use lib.Utf8.{encode}
use Rattle.cc_base.specs.declared.code.Code.{Code}
use Rattle.cc_base.specs.declared.code.Code.TheVariants.{E01, E03, E05, E06, E07, E08, E10, E14}
use Rattle.cc_base.specs.declared.place.Place.{Place}
use Rattle.cc_graph.specs.Graph.{ImportMap, does_import, imported, reaches}
use Rattle.cc_grammar.specs.Syntax.{ImportSyntax, ModuleSyntax}
use Rattle.cc_lex.specs.Lexical.{start}
use Rattle.cc_mnf.specs.Scopes.{Name}
use Rattle.cc_module_reasons.specs.ImportReasons as reasons
use Rattle.cc_module_reasons.specs.ImportReasons.{ImportReason, InCircle, IsMissing, no_module, no_definition, refused_module, in_circle, IsMissingFirst, missing_first, found_first, HasImportReason}
use Rattle.cc_reasons.specs.ShortestChains.{IsFirstShortestToEnd}
use Rattle.cc_verdicts.proofs.PresentLaws.{present_verdicts_are_unique}
use Rattle.cc_verdicts.proofs.ReadingLaws.{text_has_one_reading}
use Rattle.cc_verdicts.specs.ModuleVerdicts.{Finding, FoundDefinition, NoModule, InCycle, RefusedModule, NoDefinition, ModuleVerdict, IsAccepted, IsRefused, HasModuleVerdict, code_of}
use Rattle.cc_verdicts.specs.PresentTexts.{Texts, ArePresent, text_of, with_module, graph_of, finding_in, finding_for, findings_for, AreVerdicts}
use Rattle.cc_verdicts.specs.Readings.{TextReading, IsTree, IsNoModule, HasReading, imports_in, imports_of}
use Rattle.cc_worked_texts.specs.TextVerdicts.{devices, place, lines}
use Rattle.cc_worked_texts.proofs.ComputedModules.{text_computing, text_verdict_in, text_verdict_in_steps}
use Rattle.cc_worked_texts.proofs.QuickTokens.{quick_reading, same_reading}
use Rattle.cc_worked_module_reasons.proofs.ComputedChains.{some_passes, is_near, is_nearest, is_first_way, first_chain_found}
use Rattle.cc_worked_module_reasons.specs.ImportReasonRows.{Misses, a, b, c, d, m, n, x, import_of}
use Rattle.cc_worked_module_reasons.specs.ImportReasonRows as example

same_names : (one other : List ℕ) → bytes_eq one other ≡ true → one ≡ other
same_names one other e = (bytes_decides one other).0 e

-- TEXTS

-- the imports of a text, with less computation
abbrev quick_imports : List ℕ → Option (List ImportSyntax)
quick_imports text = imports_in (quick_reading text)

same_imports : (text : List ℕ) → imports_of text ≡ quick_imports text
same_imports text = ap imports_in (same_reading text)

-- the import graph, with less computation
unfoldable quick_graph : Texts → ImportMap
quick_graph [] = []
quick_graph (first ∷ rest) = with_module first.0 (quick_imports first.1) (quick_graph rest)

same_graph : (texts : Texts) → graph_of texts ≡ quick_graph texts
unfolding graph_of quick_graph
same_graph [] = refl
same_graph (first ∷ rest) = λ i. with_module first.0 (same_imports first.1 i) (same_graph rest i)

-- what is found for an import where this is the import graph
abbrev finding_by : ImportMap → Texts → (List ℕ → ModuleVerdict) → List ℕ → ImportSyntax → Finding
finding_by graph texts verdicts name one =
    if is_some (text_of texts one.source)
    then (if reaches graph one.source name then InCycle else finding_in (verdicts one.source) one.name)
    else NoModule

abbrev findings_by : ImportMap → Texts → (List ℕ → ModuleVerdict) → List ℕ → List ℕ → List Finding
findings_by graph texts verdicts name text = map (finding_by graph texts verdicts name) (unwrap_or (quick_imports text) [])

same_findings : (texts : Texts) (graph : ImportMap) → graph_of texts ≡ graph → (verdicts : List ℕ → ModuleVerdict)
    → (name text : List ℕ) → findings_for texts verdicts name text ≡ findings_by graph texts verdicts name text
unfolding finding_for
same_findings texts graph is verdicts name text = λ i. map (finding_by (is i) texts verdicts name) (unwrap_or (same_imports text i) [])

-- each text has its verdict, which is found in so many steps
abbrev AllFound : Texts → ImportMap → (List ℕ → ModuleVerdict) → Texts → Type 0
AllFound texts graph verdicts some =
    AllByRecursion (λ one. text_verdict_in devices 9 (findings_by graph texts verdicts one.0 one.1) one.1 ≡ Some (verdicts one.0)) some

module _ (texts : Texts) (graph : ImportMap) (is : graph_of texts ≡ graph) (verdicts : List ℕ → ModuleVerdict) where
  found_of : (some : Texts) → AllFound texts graph verdicts some → (name text : List ℕ) → text_of some name ≡ Some text
      → HasModuleVerdict devices text (findings_for texts verdicts name text) (verdicts name)
  found_of [] all name text at = cc
  found_of (first ∷ rest) all name text at =
      elim (cases_Bool (bytes_eq name first.0)) [
        | inl same ↦
            (let found = rw same at at in
            subst (λ k. HasModuleVerdict devices text (findings_for texts verdicts k text) (verdicts k)) (sym (same_names name first.0 same))
            (subst (λ t. HasModuleVerdict devices t (findings_for texts verdicts first.0 t) (verdicts first.0)) (same_Some first.1 text found)
            (subst (λ fs. HasModuleVerdict devices first.1 fs (verdicts first.0)) (sym (same_findings texts graph is verdicts first.0 first.1))
            (text_verdict_in_steps devices 9 (findings_by graph texts verdicts first.0 first.1) first.1 (verdicts first.0) all.0))))
        | inr other ↦ found_of rest all.1 name text (rw other at at)
      ]

  are_verdicts : AllFound texts graph verdicts texts → AreVerdicts devices texts verdicts
  are_verdicts all name text at = found_of texts all name text at

-- REASONS

-- a refused module as a reason, where it has this verdict
abbrev refused_by : ImportSyntax → ModuleVerdict → Option (ImportReason × Place)
refused_by one (IsAccepted definitions) = None
refused_by one (IsRefused code at) = Some (reasons.RefusedModule one code at, one.at)

-- a circle as a reason, where it goes this way on behind the import
abbrev circle_by : ImportMap → Name → List Name → ImportSyntax → Option (ImportReason × Place)
circle_by graph name circle one =
    cond (is_first_way (imported graph) (bytes_eq name) bytes_eq same_names one.source circle) (Some (InCircle one (name ∷ one.source ∷ circle), one.at)) None

-- the reason of an import where this is found, or else a later one
abbrev reason_by : ImportMap → Name → List Name → ModuleVerdict → ImportSyntax → Finding → Option (ImportReason × Place) → Option (ImportReason × Place)
reason_by graph name circle verdict one (FoundDefinition signature) later = later
reason_by graph name circle verdict one NoModule later = Some (reasons.NoModule one, one.at)
reason_by graph name circle verdict one NoDefinition later = Some (reasons.NoDefinition one, one.at)
reason_by graph name circle verdict one RefusedModule later = refused_by one verdict
reason_by graph name circle verdict one InCycle later = circle_by graph name circle one

-- the reason of the first import that finds no definition
abbrev first_reason : ImportMap → Texts → (List ℕ → ModuleVerdict) → Name → List Name → List ImportSyntax → Option (ImportReason × Place)
first_reason graph texts verdicts name circle [] = None
first_reason graph texts verdicts name circle (one ∷ rest) =
    reason_by graph name circle (verdicts one.source) one (finding_by graph texts verdicts name one) (first_reason graph texts verdicts name circle rest)

abbrev reason_in : ImportMap → Texts → (List ℕ → ModuleVerdict) → Name → List Name → TextReading → Option (ImportReason × Place)
reason_in graph texts verdicts name circle (IsTree tree) = first_reason graph texts verdicts name circle tree.imports
reason_in graph texts verdicts name circle (IsNoModule code at) = None

abbrev reason_at : ImportReason → Place → Option (ImportReason × Place)
reason_at reason at = Some (reason, at)

same_reason : (one other : ImportReason) (at there : Place) → reason_at one at ≡ reason_at other there → one ≡ other
same_reason one other at there e = ap (λ p. p.0) (same_Some (one, at) (other, there) e)

same_place : (one other : ImportReason) (at there : Place) → reason_at one at ≡ reason_at other there → at ≡ there
same_place one other at there e = ap (λ p. p.1) (same_Some (one, at) (other, there) e)

module _ (texts : Texts) (graph : ImportMap) (is : graph_of texts ≡ graph) (found verdicts : List ℕ → ModuleVerdict)
    (same : (name text : List ℕ) → text_of texts name ≡ Some text → verdicts name ≡ found name) (name : Name) (circle : List Name) where
  agrees : (one : ImportSyntax) → finding_for texts verdicts name one ≡ finding_by graph texts found name one
  unfolding finding_for
  agrees one = by (text_of texts one.source) refl
    where
      by : (o : Option (List ℕ)) → text_of texts one.source ≡ o
          → (if is_some o then (if reaches (graph_of texts) one.source name then InCycle else finding_in (verdicts one.source) one.name) else NoModule)
          ≡ (if is_some o then (if reaches graph one.source name then InCycle else finding_in (found one.source) one.name) else NoModule)
      by None e = refl
      by (Some text) e = λ i. if reaches (is i) one.source name then InCycle else finding_in (same one.source text e i) one.name

  -- a module that is refused is present
  verdict_is : (one : ImportSyntax) → finding_by graph texts found name one ≡ RefusedModule → verdicts one.source ≡ found one.source
  verdict_is one e = by (text_of texts one.source) refl e
    where
      by : (o : Option (List ℕ)) → text_of texts one.source ≡ o
          → (if is_some o then (if reaches graph one.source name then InCycle else finding_in (found one.source) one.name) else NoModule) ≡ RefusedModule
          → verdicts one.source ≡ found one.source
      by None there e = cc
      by (Some text) there e = same one.source text there

  first : (one : ImportSyntax) (rest : List ImportSyntax) (reason told : ImportReason) (at : Place) → IsMissing texts verdicts name one told
      → reason_at told one.at ≡ reason_at reason at → IsMissingFirst texts verdicts name (one ∷ rest) reason at
  first one rest reason told at it e =
      subst (λ q. IsMissingFirst texts verdicts name (one ∷ rest) reason q) (same_place told reason one.at at e)
      (missing_first (subst (λ r. IsMissing texts verdicts name one r) (same_reason told reason one.at at e) it))

  is_missing_first : (imports : List ImportSyntax) (reason : ImportReason) (at : Place)
      → first_reason graph texts found name circle imports ≡ Some (reason, at) → IsMissingFirst texts verdicts name imports reason at
  is_missing_first [] reason at e = cc
  is_missing_first (one ∷ rest) reason at e =
      by (is_missing_first rest reason at) (finding_by graph texts found name one) refl e
    where
      refused : finding_by graph texts found name one ≡ RefusedModule → (verdict : ModuleVerdict) → found one.source ≡ verdict
          → refused_by one verdict ≡ Some (reason, at) → IsMissingFirst texts verdicts name (one ∷ rest) reason at
      refused finds (IsAccepted definitions) is_it e = cc
      refused finds (IsRefused code there) is_it e =
          first one rest reason (reasons.RefusedModule one code there) at (refused_module (agrees one ∙ finds) (verdict_is one finds ∙ is_it)) e

      circled : finding_by graph texts found name one ≡ InCycle
          → (way : Bool) → is_first_way (imported graph) (bytes_eq name) bytes_eq same_names one.source circle ≡ way
          → cond way (reason_at (InCircle one (name ∷ one.source ∷ circle)) one.at) None ≡ reason_at reason at
          → IsMissingFirst texts verdicts name (one ∷ rest) reason at
      circled finds true way e =
          first one rest reason (InCircle one (name ∷ one.source ∷ circle)) at
          (in_circle (agrees one ∙ finds)
          (subst (λ g. IsFirstShortestToEnd (imported g) (bytes_eq name) one.source (one.source ∷ circle)) (sym is)
          (first_chain_found (imported graph) (bytes_eq name) bytes_eq same_names one.source circle way))) e
      circled finds false way e = cc

      by : (first_reason graph texts found name circle rest ≡ Some (reason, at) → IsMissingFirst texts verdicts name rest reason at)
          → (finding : Finding) → finding_by graph texts found name one ≡ finding
          → reason_by graph name circle (found one.source) one finding (first_reason graph texts found name circle rest) ≡ Some (reason, at)
          → IsMissingFirst texts verdicts name (one ∷ rest) reason at
      by later (FoundDefinition signature) finds e = found_first (ap code_of (agrees one ∙ finds)) (later e)
      by later NoModule finds e = first one rest reason (reasons.NoModule one) at (no_module (agrees one ∙ finds)) e
      by later NoDefinition finds e = first one rest reason (reasons.NoDefinition one) at (no_definition (agrees one ∙ finds)) e
      by later RefusedModule finds e = refused finds (found one.source) refl e
      by later InCycle finds e = circled finds (is_first_way (imported graph) (bytes_eq name) bytes_eq same_names one.source circle) refl e

  has_reason : (text : List ℕ) (reason : ImportReason) (at : Place) (reading : TextReading) → reading ≡ quick_reading text
      → reason_in graph texts found name circle reading ≡ Some (reason, at) → HasImportReason texts verdicts name text reason at
  has_reason text reason at (IsNoModule code there) reads e = cc
  has_reason text reason at (IsTree tree) reads e =
      record {
        tree = tree;
        reads = (text_has_one_reading text (IsTree tree)).1 (reads ∙ sym (same_reading text));
        first = is_missing_first tree.imports reason at e;
      }

-- An import of the present module of the name finds no definition, for this reason, where the texts have this import graph
-- and these verdicts, and a circle goes this way on behind the import.
misses : (texts : Texts) (graph : ImportMap) (found : List ℕ → ModuleVerdict) (name text : List ℕ) (circle : List Name) (reason : ImportReason) (at : Place)
    → ArePresent texts → quick_graph texts ≡ graph → AllFound texts graph found texts → text_of texts name ≡ Some text
    → reason_in graph texts found name circle (quick_reading text) ≡ Some (reason, at) → Misses texts name reason at
misses texts graph found name text circle reason at sorted is all there e = (
  text,
  there,
  λ verdicts are.
      has_reason texts graph (same_graph texts ∙ is) found verdicts
      (λ other its_text is_there. present_verdicts_are_unique devices texts verdicts found sorted are
      (are_verdicts texts graph (same_graph texts ∙ is) found all) other its_text is_there)
      name circle text reason at (quick_reading text) refl e,
)

-- verdicts by name
abbrev by_name : List (List ℕ × ModuleVerdict) → List ℕ → ModuleVerdict
by_name table name = unwrap_or (lookup (bytes_eq name) table) (IsRefused E01 start)

-- the verdict of a text that imports nothing
abbrev own : List ℕ → ModuleVerdict
own text = unwrap_or (text_verdict_in devices 9 [] text) (IsRefused E01 start)

pub absent_modules : example.AbsentModules
unfolding text_computing encode IsStrictlySortedBy quick_graph reaches does_import some_passes is_near is_nearest is_first_way
absent_modules = record {
  alone =
      misses ((m, codes "import n.x") ∷ [])
      ((m, n ∷ []) ∷ [])
      (by_name ((m, IsRefused E05 (place 1 8)) ∷ []))
      m (codes "import n.x") [] (reasons.NoModule (import_of n 8)) (place 1 8) (tt, tt) refl (refl, tt) refl refl;
  among_others =
      misses ((a, codes "def x = 1") ∷ (m, codes "import n.x") ∷ [])
      ((a, []) ∷ (m, n ∷ []) ∷ [])
      (by_name ((a, own (codes "def x = 1")) ∷ (m, IsRefused E05 (place 1 8)) ∷ []))
      m (codes "import n.x") [] (reasons.NoModule (import_of n 8)) (place 1 8) ((refl, tt), (tt, tt)) refl (refl, (refl, tt)) refl refl;
  second =
      misses ((a, codes "def x = 1") ∷ (m, codes "import a.x import n.x") ∷ [])
      ((a, []) ∷ (m, a ∷ n ∷ []) ∷ [])
      (by_name ((a, own (codes "def x = 1")) ∷ (m, IsRefused E05 (place 1 19)) ∷ []))
      m (codes "import a.x import n.x") [] (reasons.NoModule (import_of n 19)) (place 1 19) ((refl, tt), (tt, tt)) refl (refl, (refl, tt)) refl refl;
  first_of_two =
      misses ((m, codes "import n.x import a.x") ∷ [])
      ((m, n ∷ a ∷ []) ∷ [])
      (by_name ((m, IsRefused E05 (place 1 8)) ∷ []))
      m (codes "import n.x import a.x") [] (reasons.NoModule (import_of n 8)) (place 1 8) (tt, tt) refl (refl, tt) refl refl;
  first_of_kinds =
      misses ((a, codes "def") ∷ (m, codes "import n.x import a.x import m.x") ∷ [])
      ((m, n ∷ a ∷ m ∷ []) ∷ [])
      (by_name ((a, IsRefused E03 (place 1 4)) ∷ (m, IsRefused E05 (place 1 8)) ∷ []))
      m (codes "import n.x import a.x import m.x") [] (reasons.NoModule (import_of n 8)) (place 1 8) ((refl, tt), (tt, tt)) refl (refl, (refl, tt)) refl refl;
}

pub absent_definitions : example.AbsentDefinitions
unfolding text_computing encode IsStrictlySortedBy quick_graph reaches does_import some_passes is_near is_nearest is_first_way
absent_definitions = record {
  of_another_name =
      misses ((a, codes "def y = 1") ∷ (m, codes "import a.x") ∷ [])
      ((a, []) ∷ (m, a ∷ []) ∷ [])
      (by_name ((a, own (codes "def y = 1")) ∷ (m, IsRefused E06 (place 1 8)) ∷ []))
      m (codes "import a.x") [] (reasons.NoDefinition (import_of a 8)) (place 1 8) ((refl, tt), (tt, tt)) refl (refl, (refl, tt)) refl refl;
  no_definitions =
      misses ((a, []) ∷ (m, codes "import a.x") ∷ [])
      ((a, []) ∷ (m, a ∷ []) ∷ [])
      (by_name ((a, own []) ∷ (m, IsRefused E06 (place 1 8)) ∷ []))
      m (codes "import a.x") [] (reasons.NoDefinition (import_of a 8)) (place 1 8) ((refl, tt), (tt, tt)) refl (refl, (refl, tt)) refl refl;
  imported_there =
      misses ((a, codes "import b.x") ∷ (b, codes "def x = 1") ∷ (m, codes "import a.x") ∷ [])
      ((a, b ∷ []) ∷ (b, []) ∷ (m, a ∷ []) ∷ [])
      (by_name ((a, IsAccepted []) ∷ (b, own (codes "def x = 1")) ∷ (m, IsRefused E06 (place 1 8)) ∷ []))
      m (codes "import a.x") [] (reasons.NoDefinition (import_of a 8)) (place 1 8) ((refl, (refl, tt)), ((refl, tt), (tt, tt))) refl (refl, (refl, (refl, tt))) refl refl;
  defined_here =
      misses ((a, codes "def y = 1") ∷ (m, codes "import a.x def x = 1") ∷ [])
      ((a, []) ∷ (m, a ∷ []) ∷ [])
      (by_name ((a, own (codes "def y = 1")) ∷ (m, IsRefused E06 (place 1 8)) ∷ []))
      m (codes "import a.x def x = 1") [] (reasons.NoDefinition (import_of a 8)) (place 1 8) ((refl, tt), (tt, tt)) refl (refl, (refl, tt)) refl refl;
}

pub refused_modules : example.RefusedModules
unfolding text_computing encode IsStrictlySortedBy quick_graph reaches does_import some_passes is_near is_nearest is_first_way
refused_modules = record {
  no_module_text =
      misses ((a, codes "def") ∷ (m, codes "import a.x") ∷ [])
      ((m, a ∷ []) ∷ [])
      (by_name ((a, IsRefused E03 (place 1 4)) ∷ (m, IsRefused E07 (place 1 8)) ∷ []))
      m (codes "import a.x") [] (reasons.RefusedModule (import_of a 8) E03 (place 1 4)) (place 1 8) ((refl, tt), (tt, tt)) refl (refl, (refl, tt)) refl refl;
  unknown_name =
      misses ((a, lines (codes "def y = 1" ∷ codes "def z = w" ∷ [])) ∷ (m, codes "import a.x") ∷ [])
      ((a, []) ∷ (m, a ∷ []) ∷ [])
      (by_name ((a, IsRefused E10 (place 2 9)) ∷ (m, IsRefused E07 (place 1 8)) ∷ []))
      m (codes "import a.x") [] (reasons.RefusedModule (import_of a 8) E10 (place 2 9)) (place 1 8) ((refl, tt), (tt, tt)) refl (refl, (refl, tt)) refl refl;
  ill_typed =
      misses ((a, codes "def y: Int = true") ∷ (m, codes "import a.x") ∷ [])
      ((a, []) ∷ (m, a ∷ []) ∷ [])
      (by_name ((a, IsRefused E14 (place 1 14)) ∷ (m, IsRefused E07 (place 1 8)) ∷ []))
      m (codes "import a.x") [] (reasons.RefusedModule (import_of a 8) E14 (place 1 14)) (place 1 8) ((refl, tt), (tt, tt)) refl (refl, (refl, tt)) refl refl;
  behind_the_definition =
      misses ((a, codes "def x = 1 def y = z") ∷ (m, codes "import a.x") ∷ [])
      ((a, []) ∷ (m, a ∷ []) ∷ [])
      (by_name ((a, IsRefused E10 (place 1 19)) ∷ (m, IsRefused E07 (place 1 8)) ∷ []))
      m (codes "import a.x") [] (reasons.RefusedModule (import_of a 8) E10 (place 1 19)) (place 1 8) ((refl, tt), (tt, tt)) refl (refl, (refl, tt)) refl refl;
  two_deep =
      misses ((a, codes "  import n.x") ∷ (m, codes "import a.x") ∷ [])
      ((a, n ∷ []) ∷ (m, a ∷ []) ∷ [])
      (by_name ((a, IsRefused E05 (place 1 10)) ∷ (m, IsRefused E07 (place 1 8)) ∷ []))
      m (codes "import a.x") [] (reasons.RefusedModule (import_of a 8) E05 (place 1 10)) (place 1 8) ((refl, tt), (tt, tt)) refl (refl, (refl, tt)) refl refl;
  three_deep =
      misses ((a, codes " import b.x") ∷ (b, codes "  import c.x") ∷ (c, codes "def x = y") ∷ (m, codes "import a.x") ∷ [])
      ((a, b ∷ []) ∷ (b, c ∷ []) ∷ (c, []) ∷ (m, a ∷ []) ∷ [])
      (by_name ((a, IsRefused E07 (place 1 9)) ∷ (b, IsRefused E07 (place 1 10)) ∷ (c, IsRefused E10 (place 1 9)) ∷ (m, IsRefused E07 (place 1 8)) ∷ []))
      m (codes "import a.x") [] (reasons.RefusedModule (import_of a 8) E07 (place 1 9)) (place 1 8) ((refl, (refl, (refl, tt))), ((refl, (refl, tt)), ((refl, tt), (tt, tt)))) refl (refl, (refl, (refl, (refl, tt)))) refl refl;
  within_three =
      misses ((a, codes " import b.x") ∷ (b, codes "  import c.x") ∷ (c, codes "def x = y") ∷ (m, codes "import a.x") ∷ [])
      ((a, b ∷ []) ∷ (b, c ∷ []) ∷ (c, []) ∷ (m, a ∷ []) ∷ [])
      (by_name ((a, IsRefused E07 (place 1 9)) ∷ (b, IsRefused E07 (place 1 10)) ∷ (c, IsRefused E10 (place 1 9)) ∷ (m, IsRefused E07 (place 1 8)) ∷ []))
      b (codes "  import c.x") [] (reasons.RefusedModule (import_of c 10) E10 (place 1 9)) (place 1 10) ((refl, (refl, (refl, tt))), ((refl, (refl, tt)), ((refl, tt), (tt, tt)))) refl (refl, (refl, (refl, (refl, tt)))) refl refl;
  first_import =
      misses ((a, codes "def") ∷ (b, codes "def x = y") ∷ (m, codes "import b.x import a.x") ∷ [])
      ((b, []) ∷ (m, b ∷ a ∷ []) ∷ [])
      (by_name ((a, IsRefused E03 (place 1 4)) ∷ (b, IsRefused E10 (place 1 9)) ∷ (m, IsRefused E07 (place 1 8)) ∷ []))
      m (codes "import b.x import a.x") [] (reasons.RefusedModule (import_of b 8) E10 (place 1 9)) (place 1 8) ((refl, (refl, tt)), ((refl, tt), (tt, tt))) refl (refl, (refl, (refl, tt))) refl refl;
  into_a_circle =
      misses ((a, codes "import b.x") ∷ (b, codes " import a.x") ∷ (m, codes "  import b.x") ∷ [])
      ((a, b ∷ []) ∷ (b, a ∷ []) ∷ (m, b ∷ []) ∷ [])
      (by_name ((a, IsRefused E08 (place 1 8)) ∷ (b, IsRefused E08 (place 1 9)) ∷ (m, IsRefused E07 (place 1 10)) ∷ []))
      m (codes "  import b.x") [] (reasons.RefusedModule (import_of b 10) E08 (place 1 9)) (place 1 10) ((refl, (refl, tt)), ((refl, tt), (tt, tt))) refl (refl, (refl, (refl, tt))) refl refl;
  to_what_leads_into_one =
      misses ((a, codes "import a.x") ∷ (b, codes " import a.x") ∷ (m, codes "  import b.x") ∷ [])
      ((a, a ∷ []) ∷ (b, a ∷ []) ∷ (m, b ∷ []) ∷ [])
      (by_name ((a, IsRefused E08 (place 1 8)) ∷ (b, IsRefused E07 (place 1 9)) ∷ (m, IsRefused E07 (place 1 10)) ∷ []))
      m (codes "  import b.x") [] (reasons.RefusedModule (import_of b 10) E07 (place 1 9)) (place 1 10) ((refl, (refl, tt)), ((refl, tt), (tt, tt))) refl (refl, (refl, (refl, tt))) refl refl;
}

pub circles : example.Circles
unfolding text_computing encode IsStrictlySortedBy quick_graph reaches does_import some_passes is_near is_nearest is_first_way
circles = record {
  itself =
      misses ((m, codes "import m.x") ∷ [])
      ((m, m ∷ []) ∷ [])
      (by_name ((m, IsRefused E08 (place 1 8)) ∷ []))
      m (codes "import m.x") [] (InCircle (import_of m 8) (m ∷ m ∷ [])) (place 1 8) (tt, tt) refl (refl, tt) refl refl;
  of_two =
      misses ((a, codes "import m.x") ∷ (m, codes "import a.x") ∷ [])
      ((a, m ∷ []) ∷ (m, a ∷ []) ∷ [])
      (by_name ((a, IsRefused E08 (place 1 8)) ∷ (m, IsRefused E08 (place 1 8)) ∷ []))
      m (codes "import a.x") (m ∷ []) (InCircle (import_of a 8) (m ∷ a ∷ m ∷ [])) (place 1 8) ((refl, tt), (tt, tt)) refl (refl, (refl, tt)) refl refl;
  of_two_from_the_other =
      misses ((a, codes "import m.x") ∷ (m, codes "import a.x") ∷ [])
      ((a, m ∷ []) ∷ (m, a ∷ []) ∷ [])
      (by_name ((a, IsRefused E08 (place 1 8)) ∷ (m, IsRefused E08 (place 1 8)) ∷ []))
      a (codes "import m.x") (a ∷ []) (InCircle (import_of m 8) (a ∷ m ∷ a ∷ [])) (place 1 8) ((refl, tt), (tt, tt)) refl (refl, (refl, tt)) refl refl;
  of_three =
      misses ((a, codes "import b.x") ∷ (b, codes "import m.x") ∷ (m, codes "import a.x") ∷ [])
      ((a, b ∷ []) ∷ (b, m ∷ []) ∷ (m, a ∷ []) ∷ [])
      (by_name ((a, IsRefused E08 (place 1 8)) ∷ (b, IsRefused E08 (place 1 8)) ∷ (m, IsRefused E08 (place 1 8)) ∷ []))
      m (codes "import a.x") (b ∷ m ∷ []) (InCircle (import_of a 8) (m ∷ a ∷ b ∷ m ∷ [])) (place 1 8) ((refl, (refl, tt)), ((refl, tt), (tt, tt))) refl (refl, (refl, (refl, tt))) refl refl;
  shorter =
      misses ((a, codes "import b.x import m.x") ∷ (b, codes "import m.x") ∷ (m, codes "import a.x") ∷ [])
      ((a, b ∷ m ∷ []) ∷ (b, m ∷ []) ∷ (m, a ∷ []) ∷ [])
      (by_name ((a, IsRefused E08 (place 1 8)) ∷ (b, IsRefused E08 (place 1 8)) ∷ (m, IsRefused E08 (place 1 8)) ∷ []))
      m (codes "import a.x") (m ∷ []) (InCircle (import_of a 8) (m ∷ a ∷ m ∷ [])) (place 1 8) ((refl, (refl, tt)), ((refl, tt), (tt, tt))) refl (refl, (refl, (refl, tt))) refl refl;
  as_long =
      misses ((a, codes "import c.x import b.x") ∷ (b, codes "import m.x") ∷ (c, codes "import m.x") ∷ (m, codes "import a.x") ∷ [])
      ((a, c ∷ b ∷ []) ∷ (b, m ∷ []) ∷ (c, m ∷ []) ∷ (m, a ∷ []) ∷ [])
      (by_name ((a, IsRefused E08 (place 1 8)) ∷ (b, IsRefused E08 (place 1 8)) ∷ (c, IsRefused E08 (place 1 8)) ∷ (m, IsRefused E08 (place 1 8)) ∷ []))
      m (codes "import a.x") (c ∷ m ∷ []) (InCircle (import_of a 8) (m ∷ a ∷ c ∷ m ∷ [])) (place 1 8) ((refl, (refl, (refl, tt))), ((refl, (refl, tt)), ((refl, tt), (tt, tt)))) refl (refl, (refl, (refl, (refl, tt)))) refl refl;
  nowhere =
      misses ((a, codes "import n.x import c.x import b.x") ∷ (b, codes "import m.x") ∷ (c, codes "import d.x") ∷ (d, codes "import m.x") ∷ (m, codes "import a.x") ∷ [])
      ((a, n ∷ c ∷ b ∷ []) ∷ (b, m ∷ []) ∷ (c, d ∷ []) ∷ (d, m ∷ []) ∷ (m, a ∷ []) ∷ [])
      (by_name ((a, IsRefused E05 (place 1 8)) ∷ (b, IsRefused E08 (place 1 8)) ∷ (c, IsRefused E08 (place 1 8)) ∷ (d, IsRefused E08 (place 1 8)) ∷ (m, IsRefused E08 (place 1 8)) ∷ []))
      m (codes "import a.x") (b ∷ m ∷ []) (InCircle (import_of a 8) (m ∷ a ∷ b ∷ m ∷ [])) (place 1 8) ((refl, (refl, (refl, (refl, tt)))), ((refl, (refl, (refl, tt))), ((refl, (refl, tt)), ((refl, tt), (tt, tt))))) refl (refl, (refl, (refl, (refl, (refl, tt))))) refl refl;
  through_the_first =
      misses ((a, codes "import b.x") ∷ (b, codes "import m.x") ∷ (m, codes "import a.x import m.x") ∷ [])
      ((a, b ∷ []) ∷ (b, m ∷ []) ∷ (m, a ∷ m ∷ []) ∷ [])
      (by_name ((a, IsRefused E08 (place 1 8)) ∷ (b, IsRefused E08 (place 1 8)) ∷ (m, IsRefused E08 (place 1 8)) ∷ []))
      m (codes "import a.x import m.x") (b ∷ m ∷ []) (InCircle (import_of a 8) (m ∷ a ∷ b ∷ m ∷ [])) (place 1 8) ((refl, (refl, tt)), ((refl, tt), (tt, tt))) refl (refl, (refl, (refl, tt))) refl refl;
  behind_another =
      misses ((a, codes "def x = 1") ∷ (m, codes "import a.x import m.x") ∷ [])
      ((a, []) ∷ (m, a ∷ m ∷ []) ∷ [])
      (by_name ((a, own (codes "def x = 1")) ∷ (m, IsRefused E08 (place 1 19)) ∷ []))
      m (codes "import a.x import m.x") [] (InCircle (import_of m 19) (m ∷ m ∷ [])) (place 1 19) ((refl, tt), (tt, tt)) refl (refl, (refl, tt)) refl refl;
  refused_besides =
      misses ((a, codes "import n.x import m.x") ∷ (m, codes "import a.x") ∷ [])
      ((a, n ∷ m ∷ []) ∷ (m, a ∷ []) ∷ [])
      (by_name ((a, IsRefused E05 (place 1 8)) ∷ (m, IsRefused E08 (place 1 8)) ∷ []))
      m (codes "import a.x") (m ∷ []) (InCircle (import_of a 8) (m ∷ a ∷ m ∷ [])) (place 1 8) ((refl, tt), (tt, tt)) refl (refl, (refl, tt)) refl refl;
}

pub told_imports : example.ToldImports
unfolding digits encode
told_imports = record {
  no_module = refl;
  no_definition = refl;
  refused = refl;
  itself = refl;
  of_three = refl;
  other_letters = refl;
}
