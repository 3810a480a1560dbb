-- What is told of imports, from what is given of them.
use Rattle.std.proofs.Common.{◌≡◌, ℕ, zero, suc, ◌+◌, ◌<◌, Bool, true, false, cond, List, [], ◌∷◌, length, map, get_or, slice_get, Option, Some, None, IsTrue, inl, inr, refl, sym, ap, subst, ◌∙◌, arith}
use Rattle.std.specs.Prelude.{Vec, nat_lt}
use Rattle.std.specs.declared.alloc.Global.{Global}
use Rattle.std.specs.Map.{keys_of}
use Rattle.std.specs.Option.{is_some, MatchOption}
use Rattle.std.specs.Str.{bytes_eq}
use Rattle.std.specs.Cmp.Lexicographic.{bytes_decides}
use Rattle.std.proofs.lemmas.Bool.{cases_eq, ltb-false}
use Rattle.std.proofs.lemmas.Map.Views.{Contains-from_any}
use Rattle.std.proofs.lemmas.Option.{same_Some}
use Rattle.cc_base.specs.declared.code.Code.{Code}
use Rattle.cc_base.specs.declared.code.Diag.{Diag}
use Rattle.cc_base.specs.declared.literal.Import.{Import}
use Rattle.cc_base.specs.declared.place.Place.{Place}
use Rattle.cc_explain.specs.Chains.{LeadsAlong, IsChain}
use Rattle.cc_graph.specs.Graph.{ImportMap, imported, does_import, is_present, reaches, Reaches, one_step, more_steps}
use Rattle.cc_graph.specs.Places.{name_at}
use Rattle.cc_graph.proofs.NameLemmas.{place_among, present_among}
use Rattle.cc_graph.proofs.Paths.{importer_is_present, reaches-path}
use Rattle.cc_grammar.specs.Syntax.{ImportSyntax}
use Rattle.cc_judge.specs.Kept.{named_verdicts}
use Rattle.cc_judge.specs.Places.{IsAbsentKey}
use Rattle.cc_judge.proofs.Entries.{lookup_absent}
use Rattle.cc_module.specs.declared.judgement.ModuleVerdict.{ModuleVerdict as DeclaredVerdict}
use Rattle.cc_module.specs.declared.finding.Finding.{Finding as DeclaredFinding}
use Rattle.cc_module.specs.Findings.{finding_of}
use Rattle.cc_module.specs.Judgements.{module_verdict_of}
use Rattle.cc_parse.specs.Trees.{import_syntax}
use Rattle.cc_import_reasoning.specs.Circles.{IsPlaceOf, FindsCircle}
use Rattle.cc_import_reasoning.specs.ToldImports.{TellsRefusal, TellsOne}
use Rattle.cc_import_reasoning.specs.declared.reason.ImportCause.TheVariants as causes
use Rattle.cc_module_reasons.specs.ImportReasons.{ImportReason, IsMissing, no_module, no_definition, refused_module, in_circle, IsMissingFirst, missing_first, found_first}
use Rattle.cc_reasons.specs.ShortestChains.{IsFirstShortestToEnd}
use Rattle.cc_verdicts.specs.ModuleVerdicts.{Finding, NoModule, InCycle, RefusedModule, NoDefinition, CheckedDefinition, ModuleVerdict, IsAccepted, IsRefused, code_of, missing_or, first_missing}
use Rattle.cc_verdicts.specs.PresentTexts.{Texts, text_of, graph_of, definition_named, found_or_none, finding_in, finding_for}

same_names : (one other : List ℕ) → bytes_eq one other ≡ true → one ≡ other
same_names one other e = (bytes_decides one other).0 e

head_is : {A : Type 0} {x y : A} {xs ys : List A} → x ∷ xs ≡ y ∷ ys → x ≡ y
head_is e = cc

tail_is : {A : Type 0} {x y : A} {xs ys : List A} → x ∷ xs ≡ y ∷ ys → xs ≡ ys
tail_is e = cc

-- REFUSALS

-- the verdict at the place of a name
pub verdict_at : (verdicts : List (List ℕ × DeclaredVerdict)) (texts : Texts) (all : List ℕ → ModuleVerdict)
    → named_verdicts verdicts ≡ map (λ one. (one.0, all one.0)) texts
    → (at : ℕ) (source : List ℕ) (entry : List ℕ × DeclaredVerdict) → slice_get (keys_of verdicts) at ≡ Some source → slice_get verdicts at ≡ Some entry
    → module_verdict_of entry.1 ≡ all source
verdict_at [] texts all are at source entry stands is = cc
verdict_at (first ∷ verdicts) [] all are at source entry stands is = cc
verdict_at (first ∷ verdicts) (one ∷ texts) all are zero source entry stands is =
    let pair = head_is are in
    let name : first.0 ≡ source = same_Some first.0 source stands in
    ap (λ e. module_verdict_of e.1) (sym (same_Some first entry is)) ∙ ap (λ p. p.1) pair ∙ ap all (sym (ap (λ p. p.0) pair) ∙ name)
verdict_at (first ∷ verdicts) (one ∷ texts) all are (suc at) source entry stands is =
    verdict_at verdicts texts all (tail_is are) at source entry stands is

-- a place of a name is one of the verdicts
place_low : (verdicts : List (List ℕ × DeclaredVerdict)) (at : ℕ) (source : List ℕ) → slice_get (keys_of verdicts) at ≡ Some source → at < length verdicts
place_low [] at source stands = cc
place_low (first ∷ verdicts) zero source stands = omega arith
place_low (first ∷ verdicts) (suc at) source stands = let low = place_low verdicts at source stands in omega arith

pub not_past : (verdicts : List (List ℕ × DeclaredVerdict)) (at : ℕ) (source : List ℕ) → slice_get (keys_of verdicts) at ≡ Some source
    → false ≡ nat_lt at (length verdicts) → ⊥
not_past verdicts at source stands past =
    let high = ltb-false at (length verdicts) (sym past) in
    let low = place_low verdicts at source stands in
    omega arith

pub keys_same : (verdicts : List (List ℕ × DeclaredVerdict)) (texts : Texts) (all : List ℕ → ModuleVerdict)
    → named_verdicts verdicts ≡ map (λ one. (one.0, all one.0)) texts → keys_of verdicts ≡ keys_of texts
keys_same [] [] all are = refl
keys_same [] (one ∷ texts) all are = cc
keys_same (first ∷ verdicts) [] all are = cc
keys_same (first ∷ verdicts) (one ∷ texts) all are =
    let name : first.0 ≡ one.0 = ap (λ p. p.0) (head_is are) in
    let rest = keys_same verdicts texts all (tail_is are) in
    λ i. name i ∷ rest i

pub absent_tells : (verdicts : List (List ℕ × DeclaredVerdict)) (texts : Texts) (all : List ℕ → ModuleVerdict)
    → named_verdicts verdicts ≡ map (λ one. (one.0, all one.0)) texts → (source : List ℕ) → IsAbsentKey (keys_of verdicts) source
    → TellsRefusal texts all source None
absent_tells verdicts texts all are source absent text code at there refused =
    nothing (lookup_absent texts source (subst (λ keys. IsAbsentKey keys source) (keys_same verdicts texts all are) absent)) there
  where
    nothing : text_of texts source ≡ None → text_of texts source ≡ Some text → ⊥
    nothing e f = cc

pub accepted_tells : (texts : Texts) (all : List ℕ → ModuleVerdict) (source : List ℕ) (verdict : ModuleVerdict) (definitions : List CheckedDefinition)
    → verdict ≡ IsAccepted definitions → verdict ≡ all source → TellsRefusal texts all source None
accepted_tells texts all source verdict definitions accepted is text code at there refused = apart (sym accepted ∙ is ∙ refused)
  where
    apart : IsAccepted definitions ≡ IsRefused code at → ⊥
    apart e = cc

-- CIRCLES

pub none_importing : (graph : ImportMap) (name source : List ℕ) → IsPlaceOf graph name None → FindsCircle graph name source None
none_importing graph name source none present reaching =
    let (place, low, is) = place_among graph name (present_among graph name present) in
    none place low is

path_leads : (graph : ImportMap) {from to : List ℕ} → Reaches graph from to → (others : List (List ℕ)) × LeadsAlong (imported graph) from others to
unfolding does_import
path_leads graph {from = from} {to = to} (one_step h) = (to ∷ [], (Contains-from_any same_names to (imported graph from) h, refl))
path_leads graph {from = from} (more_steps {between = between} h rest) =
    let (others, leads) = path_leads graph rest in
    (between ∷ others, (Contains-from_any same_names between (imported graph from) h, leads))

first_link : (graph : ImportMap) {from to : List ℕ} → Reaches graph from to → (next : List ℕ) × (does_import graph from next ≡ true)
first_link graph {to = to} (one_step h) = (to, h)
first_link graph (more_steps {between = between} h rest) = (between, h)

pub none_imported : (graph : ImportMap) (name source : List ℕ) → IsPlaceOf graph source None → FindsCircle graph name source None
none_imported graph name source none present reaching =
    let (next, imports) = first_link graph (reaches-path graph source name reaching) in
    let (place, low, is) = place_among graph source (importer_is_present graph source next imports) in
    none place low is

pub circle_told : (graph : ImportMap) (name source : List ℕ) (end from : ℕ) → name_at graph end ≡ name → name_at graph from ≡ source
    → (found : Option (Vec ℕ Global))
    → MatchOption found ((chain : List (List ℕ)) (to : List ℕ) → IsTrue (bytes_eq (name_at graph end) to) → IsChain (imported graph) (name_at graph from) to chain → ⊥)
    (λ places. IsFirstShortestToEnd (imported graph) (bytes_eq (name_at graph end)) (name_at graph from) (map (name_at graph) places.items))
    → FindsCircle graph name source found
circle_told graph name source end from is_end is_from None none = λ present reaching.
    let (others, leads) = path_leads graph (reaches-path graph source name reaching) in
    none (source ∷ others) name (subst (λ n. IsTrue (bytes_eq n name)) (sym is_end) ((bytes_decides name name).1 refl)) (sym is_from, leads)
circle_told graph name source end from is_end is_from (Some places) it =
    subst (λ n. IsFirstShortestToEnd (imported graph) (bytes_eq n) source (map (name_at graph) places.items)) is_end
    (subst (λ n. IsFirstShortestToEnd (imported graph) (bytes_eq (name_at graph end)) n (map (name_at graph) places.items)) is_from it)

-- CAUSES

module _ (texts : Texts) (all : List ℕ → ModuleVerdict) (graph : ImportMap) (name : List ℕ) (one : ImportSyntax) where
  record IsRefusedThere : Type 0 where
    text : List ℕ
    code : Code
    at : Place
    there : text_of texts one.source ≡ Some text
    refused : all one.source ≡ IsRefused code at

  refused_there : finding_for texts all name one ≡ RefusedModule → IsRefusedThere
  unfolding finding_for
  refused_there e = by (text_of texts one.source) (reaches (graph_of texts) one.source name) (all one.source) refl refl e
    where
      none_refused : {B : Type 0} (o : Option CheckedDefinition) → found_or_none o ≡ RefusedModule → B
      none_refused (Some definition) e = cc
      none_refused None e = cc

      by : (o : Option (List ℕ)) (reaching : Bool) (verdict : ModuleVerdict) → text_of texts one.source ≡ o → all one.source ≡ verdict
          → cond (is_some o) (cond reaching InCycle (finding_in verdict one.name)) NoModule ≡ RefusedModule → IsRefusedThere
      by None reaching verdict there is e = cc
      by (Some text) true verdict there is e = cc
      by (Some text) false (IsAccepted definitions) there is e = none_refused (definition_named one.name definitions) e
      by (Some text) false (IsRefused code at) there is e = record { text = text; code = code; at = at; there = there; refused = is }

  cycle_reaches : finding_for texts all name one ≡ InCycle → reaches (graph_of texts) one.source name ≡ true
  unfolding finding_for
  cycle_reaches e = by (is_some (text_of texts one.source)) (reaches (graph_of texts) one.source name) (all one.source) e
    where
      none_circle : {B : Type 0} (o : Option CheckedDefinition) → found_or_none o ≡ InCycle → B
      none_circle (Some definition) e = cc
      none_circle None e = cc

      by : (present reaching : Bool) (verdict : ModuleVerdict)
          → cond present (cond reaching InCycle (finding_in verdict one.name)) NoModule ≡ InCycle → reaching ≡ true
      by false reaching verdict e = cc
      by true true verdict e = refl
      by true false (IsAccepted definitions) e = none_circle (definition_named one.name definitions) e
      by true false (IsRefused code at) e = cc

  pub tells_found : (finding : Finding) → finding ≡ finding_for texts all name one → code_of finding ≡ None → TellsOne texts all graph name one None
  tells_found finding is none = ap code_of (sym is) ∙ none

  pub tells_no_module : NoModule ≡ finding_for texts all name one → TellsOne texts all graph name one (Some causes.NoModule)
  tells_no_module is = no_module (sym is)

  pub tells_no_definition : NoDefinition ≡ finding_for texts all name one → TellsOne texts all graph name one (Some causes.NoDefinition)
  tells_no_definition is = no_definition (sym is)

  pub tells_refused : (diag : Diag) → TellsRefusal texts all one.source (Some diag) → RefusedModule ≡ finding_for texts all name one
      → TellsOne texts all graph name one (Some (causes.RefusedModule diag))
  tells_refused diag told is = refused_module (sym is) told

  pub tells_no_refusal : TellsRefusal texts all one.source None → RefusedModule ≡ finding_for texts all name one → TellsOne texts all graph name one None
  tells_no_refusal told is = let it = refused_there (sym is) in absurd (told it.text it.code it.at it.there it.refused)

  pub tells_circle : graph ≡ graph_of texts → (places : Vec ℕ Global) → FindsCircle graph name one.source (Some places)
      → InCycle ≡ finding_for texts all name one → TellsOne texts all graph name one (Some (causes.InCircle places))
  tells_circle same places told is =
      in_circle (sym is)
      (subst (λ g. IsFirstShortestToEnd (imported g) (bytes_eq name) one.source (map (name_at graph) places.items)) same told)

  pub tells_no_circle : graph ≡ graph_of texts → IsTrue (is_present graph name) → FindsCircle graph name one.source None
      → InCycle ≡ finding_for texts all name one → TellsOne texts all graph name one None
  tells_no_circle same present told is =
      absurd (told present (subst (λ g. reaches g one.source name ≡ true) (sym same) (cycle_reaches (sym is))))

-- THE FIRST

module _ (texts : Texts) (all : List ℕ → ModuleVerdict) (name : List ℕ) where
  -- each import before a place finds a definition
  abbrev pub AllFind : ℕ → List ImportSyntax → Type 0
  AllFind at imports = (other : ℕ) (one : ImportSyntax) → other < at → slice_get imports other ≡ Some one → code_of (finding_for texts all name one) ≡ None

  pub none_missing : (imports : List ImportSyntax) → AllFind (length imports) imports
      → first_missing imports (map (finding_for texts all name) imports) ≡ None
  none_missing [] found = refl
  none_missing (one ∷ imports) found =
      ap (λ o. missing_or one.at o (first_missing imports (map (finding_for texts all name) imports))) (found 0 one (omega arith) refl)
      ∙ none_missing imports (λ other next low stands. found (suc other) next (omega arith) stands)

  pub first_told : (imports : List ImportSyntax) (at : ℕ) (one : ImportSyntax) (reason : ImportReason) → slice_get imports at ≡ Some one
      → IsMissing texts all name one reason → AllFind at imports → IsMissingFirst texts all name imports reason one.at
  first_told [] at one reason stands it found = cc
  first_told (first ∷ imports) zero one reason stands it found =
      let same : first ≡ one = same_Some first one stands in
      subst (λ o. IsMissingFirst texts all name (o ∷ imports) reason one.at) (sym same) (missing_first it)
  first_told (first ∷ imports) (suc at) one reason stands it found =
      found_first (found 0 first (omega arith) refl)
      (first_told imports at one reason stands it (λ other next low is. found (suc other) next (omega arith) is))

  pub one_more : (imports : List ImportSyntax) (at : ℕ) (one : ImportSyntax) → slice_get imports at ≡ Some one → AllFind at imports
      → code_of (finding_for texts all name one) ≡ None → AllFind (at + 1) imports
  one_more imports at one stands found none other next low is =
      elim (cases_eq other at) [
        | inl same ↦
            subst (λ o. code_of (finding_for texts all name o) ≡ None)
            (same_Some one next (sym stands ∙ ap (slice_get imports) (sym same) ∙ is)) none
        | inr apart ↦ found other next (omega arith) is
      ]

-- the import at a place
pub import_at : (imports : List Import) (at : ℕ) (one : Import) → at < length imports → one ≡ get_or imports at one
    → slice_get (map import_syntax imports) at ≡ Some (import_syntax one)
import_at [] at one low is = absurd (omega arith)
import_at (first ∷ imports) zero one low is = ap (λ o. Some (import_syntax o)) (sym is)
import_at (first ∷ imports) (suc at) one low is = import_at imports at one (omega arith) is

-- what is found for it
pub found_at : (findings : List DeclaredFinding) (imports : List ImportSyntax) (finds : ImportSyntax → Finding) → map finding_of findings ≡ map finds imports
    → (at : ℕ) (finding : DeclaredFinding) (one : ImportSyntax) → at < length findings → finding ≡ get_or findings at finding
    → slice_get imports at ≡ Some one → finding_of finding ≡ finds one
found_at [] imports finds are at finding one low is stands = absurd (omega arith)
found_at (first ∷ findings) [] finds are at finding one low is stands = cc
found_at (first ∷ findings) (next ∷ imports) finds are zero finding one low is stands =
    ap finding_of is ∙ head_is are ∙ ap finds (same_Some next one stands)
found_at (first ∷ findings) (next ∷ imports) finds are (suc at) finding one low is stands =
    found_at findings imports finds (tail_is are) at finding one (omega arith) is stands
