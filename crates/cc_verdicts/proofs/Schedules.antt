-- Lists of modules in which each comes after those that are asked for its verdict.
use Rattle.std.proofs.Common.{◌≡◌, ℕ, Bool, true, false, List, [], ◌∷◌, ◌++◌, map, reverse, Option, Some, None}
use Rattle.std.proofs.Common.{ap, ◌∙◌, sym, subst, refl, inl, inr, append_assoc, append-nil}
use Rattle.std.proofs.lemmas.Bool.{cases_Bool}
use Rattle.std.proofs.lemmas.List.{reverse-append, reverse-reverse}
use Rattle.std.specs.List.{AllByRecursion, list_any}
use Rattle.std.specs.List.Sorted.{IsStrictlySortedBy}
use Rattle.std.specs.Map.{keys_of, lookup}
use Rattle.std.specs.Option.{unwrap_or, is_some}
use Rattle.std.specs.Str.{bytes_eq}
use Rattle.std.specs.declared.cmp.Ordering.TheVariants.{Less}
use Rattle.cc_grammar.specs.Syntax.{ImportSyntax}
use Rattle.cc_graph.specs.Graph.{ImportMap, IsImportMap, is_present, does_import, IsOrder, reaches}
use Rattle.cc_base.specs.Names.{compare_names}
use Rattle.cc_graph.proofs.NameLemmas.{same_name}
use Rattle.cc_graph.proofs.OrderExistence.{orders_exist}
use Rattle.cc_graph.proofs.OrderLaws.{orders_put_imports_first, orders_list_present_modules}
use Rattle.cc_graph.proofs.OrderLemmas.{clash, listed_among, among_listed, listed-reverse}
use Rattle.cc_graph.proofs.Paths.{IsAmong, path-reaches}
use Rattle.cc_verdicts.specs.Readings.{imports_of}
use Rattle.cc_verdicts.specs.PresentTexts.{Texts, ArePresent, text_of, with_module, graph_of}
use Rattle.cc_verdicts.proofs.Asking.{Asks, some_of}

-- each module, the latest first, comes after those that are asked for its verdict
abbrev pub IsSchedule : Texts → List (List ℕ) → Type 0
IsSchedule texts [] = Unit {0}
IsSchedule texts (newest ∷ older) =
    ((other : List ℕ) → Asks texts newest other → IsAmong other older) × IsSchedule texts older

pub among_left : {A : Type 0} (x : A) (xs ys : List A) → IsAmong x xs → IsAmong x (xs ++ ys)
among_left x [] ys among = absurd among
among_left x (y ∷ xs) ys (inl same) = inl same
among_left x (y ∷ xs) ys (inr among) = inr (among_left x xs ys among)

pub among_right : {A : Type 0} (x : A) (xs ys : List A) → IsAmong x ys → IsAmong x (xs ++ ys)
among_right x [] ys among = among
among_right x (y ∷ xs) ys among = inr (among_right x xs ys among)

pub among_map : {A B : Type 0} (f : A → B) (x : A) (xs : List A) → IsAmong x xs → IsAmong (f x) (map f xs)
among_map f x [] among = absurd among
among_map f x (y ∷ xs) (inl same) = inl (ap f same)
among_map f x (y ∷ xs) (inr among) = inr (among_map f x xs among)

-- what a listed module asks is listed
pub schedule_closed : (texts : Texts) (names : List (List ℕ)) → IsSchedule texts names → (name other : List ℕ)
    → IsAmong name names → Asks texts name other → IsAmong other names
schedule_closed texts [] orderly name other among asks = absurd among
schedule_closed texts (newest ∷ older) orderly name other (inl same) asks =
    let P : List ℕ → Type 0 = λ x. Asks texts x other in inr (orderly.0 other (subst P (sym same) asks))
schedule_closed texts (newest ∷ older) orderly name other (inr among) asks =
    inr (schedule_closed texts older orderly.1 name other among asks)

-- a present module is one of the names
present_key : (texts : Texts) (name : List ℕ) → is_some (text_of texts name) ≡ true → IsAmong name (keys_of texts)
present_key [] name present = cc
present_key (first ∷ rest) name present =
    elim (cases_Bool (bytes_eq name first.0)) [
      | inl same ↦ inl (sym (same_name name first.0 same))
      | inr other ↦ inr (present_key rest name (rw other at present))
    ]

found_first : (name at : List ℕ) (sources : List (List ℕ)) (graph : ImportMap) → bytes_eq name at ≡ true
    → lookup (bytes_eq name) ((at, sources) ∷ graph) ≡ Some sources
found_first name at sources graph same = rw same refl

lookup_with : (name at : List ℕ) (imports : Option (List ImportSyntax)) (graph : ImportMap) → bytes_eq name at ≡ false
    → lookup (bytes_eq name) (with_module at imports graph) ≡ lookup (bytes_eq name) graph
lookup_with name at None graph other = refl
lookup_with name at (Some imports) graph other = rw other refl

-- a present text that is a module is in the graph, with the modules that it imports from
pub lookup_graph : (texts : Texts) (name text : List ℕ) (imports : List ImportSyntax) → text_of texts name ≡ Some text
    → imports_of text ≡ Some imports
    → lookup (bytes_eq name) (graph_of texts) ≡ Some (map (λ one. one.source) imports)
unfolding graph_of
lookup_graph [] name text imports is_text is = cc
lookup_graph (first ∷ rest) name text imports is_text is =
    elim (cases_Bool (bytes_eq name first.0)) [
      | inl same ↦
          let found : Some first.1 ≡ Some text = rw same at is_text in
          let here : first.1 ≡ text = cc in
          let parses : imports_of first.1 ≡ Some imports = ap imports_of here ∙ is in
          ap (λ o. lookup (bytes_eq name) (with_module first.0 o (graph_of rest))) parses
          ∙ found_first name first.0 (map (λ one. one.source) imports) (graph_of rest) same
      | inr other ↦
          lookup_with name first.0 (imports_of first.1) (graph_of rest) other
          ∙ lookup_graph rest name text imports (rw other at is_text) is
    ]

-- what holds of each name holds of each one in the graph
with_each : (P : List ℕ → Type 0) (name : List ℕ) (imports : Option (List ImportSyntax)) (graph : ImportMap) → P name
    → AllByRecursion P (keys_of graph) → AllByRecursion P (keys_of (with_module name imports graph))
with_each P name None graph here all = all
with_each P name (Some imports) graph here all = (here, all)

pub each_in_graph : (P : List ℕ → Type 0) (texts : Texts) → AllByRecursion P (keys_of texts)
    → AllByRecursion P (keys_of (graph_of texts))
unfolding graph_of
each_in_graph P [] all = tt
each_in_graph P (first ∷ rest) all =
    with_each P first.0 (imports_of first.1) (graph_of rest) all.0 (each_in_graph P rest all.1)

with_sorted : (name : List ℕ) (imports : Option (List ImportSyntax)) (graph : ImportMap)
    → AllByRecursion (λ y. compare_names name y ≡ Less) (keys_of graph) → IsImportMap graph
    → IsImportMap (with_module name imports graph)
unfolding IsStrictlySortedBy
with_sorted name None graph below sorted = sorted
with_sorted name (Some imports) graph below sorted = (below, sorted)

-- the names in the graph stand in order
pub graph_sorted : (texts : Texts) → ArePresent texts → IsImportMap (graph_of texts)
unfolding graph_of IsStrictlySortedBy
graph_sorted [] sorted = tt
graph_sorted (first ∷ rest) sorted =
    with_sorted first.0 (imports_of first.1) (graph_of rest)
    (each_in_graph (λ y. compare_names first.0 y ≡ Less) rest sorted.0)
    (graph_sorted rest sorted.1)

-- whether the text of the module is one
abbrev pub does_parse : Texts → List ℕ → Bool
does_parse texts name = is_some (imports_of (unwrap_or (text_of texts name) []))

no_imports : (imports : Option (List ImportSyntax)) (one : ImportSyntax) → is_some imports ≡ false
    → IsAmong one (unwrap_or imports []) → ⊥
no_imports None one none among = among
no_imports (Some imports) one none among = cc

-- a text that is no module asks nothing
unparsed_silent : (texts : Texts) (name other : List ℕ) → does_parse texts name ≡ false → Asks texts name other → ⊥
unparsed_silent texts name other not_parsed asks =
    let none : is_some (imports_of asks.text) ≡ false =
    sym (ap (λ o. is_some (imports_of (unwrap_or o []))) asks.is_text) ∙ not_parsed in
    no_imports (imports_of asks.text) asks.one none asks.among

-- the present modules whose texts are none
pub record AreUnparsed (texts : Texts) (names : List (List ℕ)) : Type 0 where
  pub silent : (name : List ℕ) → IsAmong name names → does_parse texts name ≡ false
  pub whole : (name : List ℕ) → is_some (text_of texts name) ≡ true → does_parse texts name ≡ false → IsAmong name names

silent_scheduled : (texts : Texts) (names : List (List ℕ))
    → ((name : List ℕ) → IsAmong name names → does_parse texts name ≡ false) → IsSchedule texts names
silent_scheduled texts [] silent = tt
silent_scheduled texts (first ∷ rest) silent = (
  λ other asks. absurd (unparsed_silent texts first other (silent first (inl refl)) asks),
  silent_scheduled texts rest (λ name among. silent name (inr among)),
)

-- the names with one more, unless its text is a module
abbrev unless_parsed : Bool → List ℕ → List (List ℕ) → List (List ℕ)
unless_parsed true name names = names
unless_parsed false name names = name ∷ names

-- those of the names whose texts are no modules
abbrev unparsed_of : Texts → List (List ℕ) → List (List ℕ)
unparsed_of texts [] = []
unparsed_of texts (first ∷ rest) = unless_parsed (does_parse texts first) first (unparsed_of texts rest)

unless_silent : (texts : Texts) (parsed : Bool) (first name : List ℕ) (names : List (List ℕ))
    → does_parse texts first ≡ parsed → ((other : List ℕ) → IsAmong other names → does_parse texts other ≡ false)
    → IsAmong name (unless_parsed parsed first names) → does_parse texts name ≡ false
unless_silent texts true first name names is silent among = silent name among
unless_silent texts false first name names is silent (inl same) = sym (ap (does_parse texts) same) ∙ is
unless_silent texts false first name names is silent (inr among) = silent name among

unparsed_are_silent : (texts : Texts) (names : List (List ℕ)) (name : List ℕ) → IsAmong name (unparsed_of texts names)
    → does_parse texts name ≡ false
unparsed_are_silent texts [] name among = absurd among
unparsed_are_silent texts (first ∷ rest) name among =
    unless_silent texts (does_parse texts first) first name (unparsed_of texts rest) refl
    (unparsed_are_silent texts rest) among

unless_here : (parsed : Bool) (name : List ℕ) (names : List (List ℕ)) → parsed ≡ false
    → IsAmong name (unless_parsed parsed name names)
unless_here false name names not_parsed = inl refl
unless_here true name names not_parsed = cc

unless_later : (parsed : Bool) (first name : List ℕ) (names : List (List ℕ)) → IsAmong name names
    → IsAmong name (unless_parsed parsed first names)
unless_later false first name names among = inr among
unless_later true first name names among = among

unparsed_among : (texts : Texts) (names : List (List ℕ)) (name : List ℕ) → IsAmong name names
    → does_parse texts name ≡ false → IsAmong name (unparsed_of texts names)
unparsed_among texts [] name among not_parsed = absurd among
unparsed_among texts (first ∷ rest) name (inl same) not_parsed =
    let P : List ℕ → Type 0 = λ x. IsAmong x (unless_parsed (does_parse texts first) first (unparsed_of texts rest)) in
    subst P same
    (unless_here (does_parse texts first) first (unparsed_of texts rest) (ap (does_parse texts) same ∙ not_parsed))
unparsed_among texts (first ∷ rest) name (inr among) not_parsed =
    unless_later (does_parse texts first) first name (unparsed_of texts rest)
    (unparsed_among texts rest name among not_parsed)

unparsed_exist : (texts : Texts) → AreUnparsed texts (unparsed_of texts (keys_of texts))
unparsed_exist texts = record {
  silent = unparsed_are_silent texts (keys_of texts);
  whole = λ name present not_parsed. unparsed_among texts (keys_of texts) name (present_key texts name present)
      not_parsed;
}

-- a present module whose text is one is in the graph
pub parsed_present : (texts : Texts) (name : List ℕ) → is_some (text_of texts name) ≡ true
    → does_parse texts name ≡ true → is_present (graph_of texts) name ≡ true
parsed_present texts name present parsed =
    let (text, is_text) = some_of (text_of texts name) present in
    let reads : is_some (imports_of text) ≡ true =
    sym (ap (λ o. is_some (imports_of (unwrap_or o []))) is_text) ∙ parsed in
    let (imports, is) = some_of (imports_of text) reads in
    ap is_some (lookup_graph texts name text imports is_text is)

import_in_graph : (texts : Texts) (name other text : List ℕ) → text_of texts name ≡ Some text → (one : ImportSyntax)
    → (imports : Option (List ImportSyntax)) → imports_of text ≡ imports → IsAmong one (unwrap_or imports [])
    → one.source ≡ other → does_import (graph_of texts) name other ≡ true
unfolding does_import
import_in_graph texts name other text is_text one None is among source = absurd among
import_in_graph texts name other text is_text one (Some imports) is among source =
    let P : List ℕ → Type 0 = λ x. IsAmong x (map (λ i. i.source) imports) in
    ap (λ o. list_any (bytes_eq other) (unwrap_or o [])) (lookup_graph texts name text imports is_text is)
    ∙ listed_among (map (λ i. i.source) imports) other
    (subst P source (among_map (λ i. i.source) one imports among))

-- a module imports from those that it asks
pub asked_imported : (texts : Texts) (name other : List ℕ) → Asks texts name other
    → does_import (graph_of texts) name other ≡ true
asked_imported texts name other asks =
    import_in_graph texts name other asks.text asks.is_text asks.one (imports_of asks.text) refl asks.among asks.source

-- what a module asks stands before it in an order of the graph, or is no module
asked_before : (texts : Texts) (unparsed older after : List (List ℕ)) (name other : List ℕ) → AreUnparsed texts unparsed
    → IsOrder (graph_of texts) (reverse older ++ name ∷ after) → Asks texts name other
    → IsAmong other (older ++ unparsed)
asked_before texts unparsed older after name other are order asks =
    elim (cases_Bool (does_parse texts other)) [
      | inl parsed ↦
          among_left other older unparsed
          (among_listed older other
          (sym (listed-reverse older other)
          ∙ orders_put_imports_first (graph_of texts) (reverse older) after name other order
          (asked_imported texts name other asks) (parsed_present texts other asks.present parsed)
          (λ path. clash (reaches (graph_of texts) other name) (path-reaches (graph_of texts) other name path)
          asks.ahead)))
      | inr not_parsed ↦ among_right other older unparsed (are.whole other asks.present not_parsed)
    ]

ordered_front : (texts : Texts) (unparsed : List (List ℕ)) → AreUnparsed texts unparsed
    → (turned after : List (List ℕ)) → IsOrder (graph_of texts) (reverse turned ++ after)
    → IsSchedule texts (turned ++ unparsed)
ordered_front texts unparsed are [] after order = silent_scheduled texts unparsed are.silent
ordered_front texts unparsed are (newest ∷ older) after order =
    let pieces : reverse (newest ∷ older) ++ after ≡ reverse older ++ newest ∷ after =
    ap (λ names. names ++ after) (reverse-append (newest ∷ []) older)
    ∙ append_assoc (reverse older) (newest ∷ []) after in
    let P : List (List ℕ) → Type 0 = λ names. IsOrder (graph_of texts) names in
    let moved : IsOrder (graph_of texts) (reverse older ++ newest ∷ after) = subst P pieces order in (
      λ other asks. asked_before texts unparsed older after newest other are moved asks,
      ordered_front texts unparsed are older (newest ∷ after) moved,
    )

-- an order of the graph, turned round, after the texts that are no modules
pub order_scheduled : (texts : Texts) (names unparsed : List (List ℕ)) → IsOrder (graph_of texts) names
    → AreUnparsed texts unparsed → IsSchedule texts (reverse names ++ unparsed)
order_scheduled texts names unparsed order are =
    let P : List (List ℕ) → Type 0 = λ xs. IsOrder (graph_of texts) xs in
    ordered_front texts unparsed are (reverse names) []
    (subst P (sym (append-nil (reverse (reverse names)) ∙ reverse-reverse names)) order)

-- each present module is in it
pub order_whole : (texts : Texts) (names unparsed : List (List ℕ)) → IsOrder (graph_of texts) names
    → AreUnparsed texts unparsed → (name : List ℕ) → is_some (text_of texts name) ≡ true
    → IsAmong name (reverse names ++ unparsed)
order_whole texts names unparsed order are name present =
    elim (cases_Bool (does_parse texts name)) [
      | inl parsed ↦
          among_left name (reverse names) unparsed
          (among_listed (reverse names) name
          (listed-reverse names name ∙ (orders_list_present_modules (graph_of texts) names order).1 name
          ∙ parsed_present texts name present parsed))
      | inr not_parsed ↦ among_right name (reverse names) unparsed (are.whole name present not_parsed)
    ]

-- what comes before a module in a schedule
pub schedule_at : (texts : Texts) (newer : List (List ℕ)) (name : List ℕ) (older : List (List ℕ))
    → IsSchedule texts (newer ++ name ∷ older) → (other : List ℕ) → Asks texts name other → IsAmong other older
schedule_at texts [] name older orderly other asks = orderly.0 other asks
schedule_at texts (newest ∷ newer) name older orderly other asks =
    schedule_at texts newer name older orderly.1 other asks

-- a schedule of all present modules
pub record Schedule (texts : Texts) : Type 0 where
  pub names : List (List ℕ)
  pub orderly : IsSchedule texts names
  pub whole : (name : List ℕ) → is_some (text_of texts name) ≡ true → IsAmong name names

pub schedule_exists : (texts : Texts) → ArePresent texts → Schedule texts
schedule_exists texts sorted =
    let (names, order) = orders_exist (graph_of texts) (graph_sorted texts sorted) in
    record {
      names = reverse names ++ unparsed_of texts (keys_of texts);
      orderly = order_scheduled texts names (unparsed_of texts (keys_of texts)) order (unparsed_exist texts);
      whole = order_whole texts names (unparsed_of texts (keys_of texts)) order (unparsed_exist texts);
    }
