-- The first import that finds no definition has one reason, with the code and the place of the refusal.
use Rattle.std.proofs.Common.{◌≡◌, ℕ, Bool, true, false, cond, List, [], ◌∷◌, map, Option, Some, None, refl, sym, ap, subst, ◌∙◌}
use Rattle.std.specs.Cmp.Lexicographic.{bytes_decides}
use Rattle.std.specs.Option.{unwrap_or, is_some}
use Rattle.std.specs.Str.{bytes_eq}
use Rattle.std.proofs.lemmas.Map.Views.{Contains-from_any}
use Rattle.cc_base.specs.declared.code.Code.{Code}
use Rattle.cc_base.specs.declared.place.Place.{Place}
use Rattle.cc_explain.specs.Chains.{LeadsAlong}
use Rattle.cc_graph.proofs.Paths.{reaches-path}
use Rattle.cc_graph.specs.Graph.{ImportMap, imported, does_import, one_step, more_steps, Reaches, reaches}
use Rattle.cc_grammar.specs.Syntax.{ImportSyntax, ModuleSyntax}
use Rattle.cc_mnf.specs.Scopes.{Name}
use Rattle.cc_module_reasons.specs.ImportReasonLaws.{ImportReasonsAreOfRefusals, MissingImportsHaveAReason, ImportReasonsAreUnique}
use Rattle.cc_module_reasons.specs.ImportReasons as reasons
use Rattle.cc_module_reasons.specs.ImportReasons.{ImportReason, import_code, IsMissing, no_module, no_definition, refused_module, in_circle, IsMissingFirst, missing_first, found_first, HasImportReason}
use Rattle.cc_reasons.proofs.ShortestChains.{first_shortest_exists, first_shortest_is_one}
use Rattle.cc_verdicts.proofs.ReadingLaws.{text_has_one_reading}
use Rattle.cc_verdicts.specs.ModuleVerdicts as judged
use Rattle.cc_verdicts.specs.ModuleVerdicts.{Finding, FoundDefinition, NoModule, InCycle, RefusedModule, NoDefinition, CheckedDefinition, ModuleVerdict, code_of, Refusal, missing_or, first_missing, import_is_missing}
use Rattle.cc_verdicts.specs.PresentTexts.{Texts, text_of, graph_of, definition_named, found_or_none, finding_in, finding_for}
use Rattle.cc_verdicts.specs.Readings.{HasReading, IsTree, imports_in, imports_of}

same_names : (one other : List ℕ) → bytes_eq one other ≡ true → one ≡ other
same_names one other e = (bytes_decides one other).0 e

same_itself : (name : List ℕ) → bytes_eq name name ≡ true
same_itself name = (bytes_decides name name).1 refl

imports_are : {text : List ℕ} {tree : ModuleSyntax} → HasReading text (IsTree tree) → imports_of text ≡ Some tree.imports
imports_are {text = text} {tree = tree} reads = ap imports_in (sym ((text_has_one_reading text (IsTree tree)).0 reads))

-- a path in the graph leads along what modules import
path_leads : (graph : ImportMap) {from to : List ℕ} → Reaches graph from to → (others : List Name) × LeadsAlong (imported graph) from others to
unfolding does_import
path_leads graph {from = from} {to = to} (one_step h) = (to ∷ [], (Contains-from_any same_names to (imported graph from) h, refl))
path_leads graph {from = from} (more_steps {between = between} h rest) =
    let (others, leads) = path_leads graph rest in
    (between ∷ others, (Contains-from_any same_names between (imported graph from) h, leads))

module _ (texts : Texts) (verdicts : List ℕ → ModuleVerdict) (name : Name) where
  finding : ImportSyntax → Finding
  finding one = finding_for texts verdicts name one

  code_is : (one : ImportSyntax) (reason : ImportReason) → IsMissing texts verdicts name one reason
      → code_of (finding_for texts verdicts name one) ≡ Some (import_code reason)
  code_is one reason (no_module e) = ap code_of e
  code_is one reason (no_definition e) = ap code_of e
  code_is one reason (refused_module e is) = ap code_of e
  code_is one reason (in_circle e chain) = ap code_of e

  refusal_is : (imports : List ImportSyntax) (reason : ImportReason) (at : Place) → IsMissingFirst texts verdicts name imports reason at
      → first_missing imports (map (finding_for texts verdicts name) imports) ≡ Some (record { code = import_code reason; at = at })
  refusal_is imports reason at (missing_first {one = one} {rest = rest} it) =
      ap (λ o. missing_or one.at o (first_missing rest (map (finding_for texts verdicts name) rest))) (code_is one reason it)
  refusal_is imports reason at (found_first {one = one} {rest = rest} none it) =
      ap (λ o. missing_or one.at o (first_missing rest (map (finding_for texts verdicts name) rest))) none
      ∙ refusal_is rest reason at it

  -- what is found is a refused module only where it is refused
  refused_is : (one : ImportSyntax) → finding_for texts verdicts name one ≡ RefusedModule
      → (code : Code) × (at : Place) × (verdicts one.source ≡ judged.IsRefused code at)
  unfolding finding_for
  refused_is one e = by (is_some (text_of texts one.source)) (reaches (graph_of texts) one.source name) (verdicts one.source) refl e
    where
      none_refused : {B : Type 0} (o : Option CheckedDefinition) → found_or_none o ≡ RefusedModule → B
      none_refused (Some definition) e = cc
      none_refused None e = cc

      by : (present reaching : Bool) (verdict : ModuleVerdict) → verdicts one.source ≡ verdict
          → cond present (cond reaching InCycle (finding_in verdict one.name)) NoModule ≡ RefusedModule
          → (code : Code) × (at : Place) × (verdicts one.source ≡ judged.IsRefused code at)
      by false reaching verdict is e = cc
      by true true verdict is e = cc
      by true false (judged.IsAccepted definitions) is e = none_refused (definition_named one.name definitions) e
      by true false (judged.IsRefused code at) is e = (code, at, is)

  circle_is : (one : ImportSyntax) → finding_for texts verdicts name one ≡ InCycle → reaches (graph_of texts) one.source name ≡ true
  unfolding finding_for
  circle_is one e = by (is_some (text_of texts one.source)) (reaches (graph_of texts) one.source name) (verdicts one.source) e
    where
      none_circle : {B : Type 0} (o : Option CheckedDefinition) → found_or_none o ≡ InCycle → B
      none_circle (Some definition) e = cc
      none_circle None e = cc

      by : (present reaching : Bool) (verdict : ModuleVerdict)
          → cond present (cond reaching InCycle (finding_in verdict one.name)) NoModule ≡ InCycle → reaching ≡ true
      by false reaching verdict e = cc
      by true true verdict e = refl
      by true false (judged.IsAccepted definitions) e = none_circle (definition_named one.name definitions) e
      by true false (judged.IsRefused code at) e = cc

  -- the reason of an import that finds no definition
  has_reason : (one : ImportSyntax) (code : Code) → code_of (finding_for texts verdicts name one) ≡ Some code
      → (reason : ImportReason) × (code ≡ import_code reason) × IsMissing texts verdicts name one reason
  has_reason one code e = by (finding_for texts verdicts name one) refl e
    where
      by : (it : Finding) → finding_for texts verdicts name one ≡ it → code_of it ≡ Some code
          → (reason : ImportReason) × (code ≡ import_code reason) × IsMissing texts verdicts name one reason
      by (FoundDefinition signature) is e = cc
      by NoModule is e = (reasons.NoModule one, cc, no_module is)
      by NoDefinition is e = (reasons.NoDefinition one, cc, no_definition is)
      by RefusedModule is e =
          let (code, at, verdict) = refused_is one is in
          (reasons.RefusedModule one code at, cc, refused_module is verdict)
      by InCycle is e =
          let (others, leads) = path_leads (graph_of texts) (reaches-path (graph_of texts) one.source name (circle_is one is)) in
          let (chain, first) = first_shortest_exists (imported (graph_of texts)) (bytes_eq name) one.source name others (same_itself name) leads in
          (reasons.InCircle one (name ∷ one.source ∷ chain), cc, in_circle is first)

  first_has_reason : (imports : List ImportSyntax) (missing : Refusal)
      → first_missing imports (map (finding_for texts verdicts name) imports) ≡ Some missing
      → (reason : ImportReason) × (missing.code ≡ import_code reason) × IsMissingFirst texts verdicts name imports reason missing.at
  first_has_reason [] missing e = cc
  first_has_reason (one ∷ rest) missing e = by (first_has_reason rest missing) (code_of (finding_for texts verdicts name one)) refl e
    where
      by : (first_missing rest (map (finding_for texts verdicts name) rest) ≡ Some missing
          → (reason : ImportReason) × (missing.code ≡ import_code reason) × IsMissingFirst texts verdicts name rest reason missing.at)
          → (o : Option Code) → code_of (finding_for texts verdicts name one) ≡ o
          → missing_or one.at o (first_missing rest (map (finding_for texts verdicts name) rest)) ≡ Some missing
          → (reason : ImportReason) × (missing.code ≡ import_code reason) × IsMissingFirst texts verdicts name (one ∷ rest) reason missing.at
      by later (Some code) is e =
          let (reason, same, it) = has_reason one code is in
          let here : record { code = code; at = one.at } ≡ missing = cc in
          subst (λ m. (r : ImportReason) × (m.code ≡ import_code r) × IsMissingFirst texts verdicts name (one ∷ rest) r m.at) here
          (reason, same, missing_first it)
      by later None is e =
          let (reason, same, it) = later e in
          (reason, same, found_first is it)

  one_missing : (one : ImportSyntax) (reason other : ImportReason) → IsMissing texts verdicts name one reason
      → IsMissing texts verdicts name one other → reason ≡ other
  one_missing one reason other (no_module e) (no_module f) = refl
  one_missing one reason other (no_module e) (no_definition f) = cc
  one_missing one reason other (no_module e) (refused_module f is) = cc
  one_missing one reason other (no_module e) (in_circle f is) = cc
  one_missing one reason other (no_definition e) (no_module f) = cc
  one_missing one reason other (no_definition e) (no_definition f) = refl
  one_missing one reason other (no_definition e) (refused_module f is) = cc
  one_missing one reason other (no_definition e) (in_circle f is) = cc
  one_missing one reason other (refused_module e is) (no_module f) = cc
  one_missing one reason other (refused_module e is) (no_definition f) = cc
  one_missing one reason other (refused_module e is) (refused_module f that) = cc
  one_missing one reason other (refused_module e is) (in_circle f that) = cc
  one_missing one reason other (in_circle e is) (no_module f) = cc
  one_missing one reason other (in_circle e is) (no_definition f) = cc
  one_missing one reason other (in_circle e is) (refused_module f that) = cc
  one_missing one reason other (in_circle {chain = chain} e is) (in_circle {chain = more} f that) =
      ap (λ c. reasons.InCircle one (name ∷ c))
      (first_shortest_is_one bytes_eq same_names same_itself (imported (graph_of texts)) (bytes_eq name) one.source chain more is that)

  not_found : {B : Type 0} (one : ImportSyntax) (reason : ImportReason) → IsMissing texts verdicts name one reason
      → code_of (finding_for texts verdicts name one) ≡ None → B
  not_found one reason it none = let some = code_is one reason it in cc

  one_first : (imports : List ImportSyntax) (reason other : ImportReason) (at place : Place)
      → IsMissingFirst texts verdicts name imports reason at → IsMissingFirst texts verdicts name imports other place
      → (reason ≡ other) × (at ≡ place)
  one_first imports reason other at place (missing_first {one = one} it) (missing_first that) = (one_missing one reason other it that, refl)
  one_first imports reason other at place (missing_first {one = one} it) (found_first none that) = not_found one reason it none
  one_first imports reason other at place (found_first none it) (missing_first {one = one} that) = not_found one other that none
  one_first imports reason other at place (found_first {rest = rest} none it) (found_first none' that) = one_first rest reason other at place it that

pub import_reasons_are_of_refusals : ImportReasonsAreOfRefusals
import_reasons_are_of_refusals devices texts verdicts name text reason at it =
    import_is_missing {tree = it.tree} {missing = record { code = import_code reason; at = at }} it.reads
    (ap (λ o. first_missing it.tree.imports (map (finding_for texts verdicts name) (unwrap_or o []))) (imports_are it.reads)
    ∙ refusal_is texts verdicts name it.tree.imports reason at it.first)

pub missing_imports_have_a_reason : MissingImportsHaveAReason
missing_imports_have_a_reason texts verdicts name text tree missing reads e =
    let (reason, same, first) = first_has_reason texts verdicts name tree.imports missing
    (sym (ap (λ o. first_missing tree.imports (map (finding_for texts verdicts name) (unwrap_or o []))) (imports_are reads)) ∙ e) in
    (reason, same, record { tree = tree; reads = reads; first = first })

pub import_reasons_are_unique : ImportReasonsAreUnique
import_reasons_are_unique texts verdicts name text one other at place it that =
    one_first texts verdicts name it.tree.imports one other at place it.first
    (subst (λ imports. IsMissingFirst texts verdicts name imports other place) (imports_same (sym (imports_are that.reads) ∙ imports_are it.reads)) that.first)
  where
    imports_same : {a b : List ImportSyntax} → Some a ≡ Some b → a ≡ b
    imports_same e = cc
