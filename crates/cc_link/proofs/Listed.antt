-- Positions and entries, one after the other.
use Rattle.std.proofs.Common.{◌≡◌, ℕ, suc, ◌+◌, ◌<◌, ◌≤◌, List, [], ◌∷◌, ◌++◌, map, take, drop, get_or, length, Option, Some, None, refl, sym, ap, subst, ◌∙◌, append_assoc, append-nil, drop-cons, if◌then◌else◌, arith}
use Rattle.std.specs.Prelude.{reverse}
use Rattle.std.specs.List.{cons_option}
use Rattle.std.specs.Option.{option_to_list}
use Rattle.std.specs.Str.{bytes_eq}
use Rattle.cc_base.specs.declared.literal.Import.{Import}
use Rattle.std.proofs.lemmas.List.{drop_all, length-map}
use Rattle.std.proofs.lemmas.List.Elements.{filter_map-append}
use Rattle.cc_capture.specs.declared.var.Elem.{Elem}
use Rattle.cc_core.specs.Programs.{Module}
use Rattle.cc_session.specs.declared.modules.EntryModule.{EntryModule}
use Rattle.cc_session.specs.Modules.{module_of}
use Rattle.cc_explain.specs.declared.target.Target.{Target}
use Rattle.cc_explain.specs.declared.target.Target.TheVariants as targets
use Rattle.cc_explain.specs.Entries.{Entries}
use Rattle.cc_grammar.specs.Syntax.{ImportSyntax}
use Rattle.cc_link.specs.declared.table.ModuleTable.{ModuleTable}
use Rattle.cc_link.specs.declared.table.DefinitionTable.{DefinitionTable}
use Rattle.cc_link.specs.Linking.{definition_of, module_in_program}
use Rattle.cc_link.specs.Tables.{Finds, definition_position, module_position}
use Rattle.cc_link.proofs.LinkedEntries.{definitions_listed}
use Rattle.cc_link.proofs.Placements.{turned_more, items_more}
use Rattle.cc_runs.specs.Links.{count_definitions, position_among}
use Rattle.cc_module.specs.declared.judgement.CheckedDef.{CheckedDef}
use Rattle.cc_module.specs.Judgements.{checked_definition_of}
use Rattle.cc_link.proofs.EarlierEntries.{count_more}
use Rattle.cc_parse.specs.Trees.{import_syntax}
use Rattle.cc_link.specs.EntryLists.{Added, AddsModule}
use Rattle.cc_link.specs.ModuleLinks.{Positions, device_positions, imported_target, with_imports, element_target, definition_entry, definition_entries, module_entries, entries_behind, links_in}

-- ---- positions
pub one_turned : (old new : Positions) (target : Option Target) → new ≡ old ++ target ∷ []
    → reverse new ≡ target ∷ reverse old
one_turned old new target is = ap reverse is ∙ turned_more old target

with_imports_more : (find : List ℕ → List ℕ → Option ℕ) (positions : Positions) (imports : List ImportSyntax)
    (one : ImportSyntax)
    → with_imports find positions (imports ++ one ∷ []) ≡ imported_target find one ∷ with_imports find positions imports
with_imports_more find positions [] one = refl
with_imports_more find positions (first ∷ imports) one =
    with_imports_more find (imported_target find first ∷ positions) imports one

pub import_more : {I : Type 0} (syntax : I → ImportSyntax) (find : List ℕ → List ℕ → Option ℕ) (positions : Positions)
    (imports : List I) (index : ℕ) (one : I) (old new : Positions) (target : Option Target)
    → index < length imports → one ≡ get_or imports index one
    → reverse old ≡ with_imports find positions (map syntax (take index imports))
    → new ≡ old ++ target ∷ [] → target ≡ imported_target find (syntax one)
    → reverse new ≡ with_imports find positions (map syntax (take (index + 1) imports))
import_more syntax find positions imports index one old new target below is was more names =
    one_turned old new target more ∙ ap (λ t. t ∷ reverse old) names
    ∙ ap (λ ps. imported_target find (syntax one) ∷ ps) was
    ∙ sym (with_imports_more find positions (map syntax (take index imports)) (syntax one))
    ∙ sym (ap (with_imports find positions) (items_more syntax imports index one below is))

-- ---- the entry of a definition
one_or_none : (target : Option Target) → cons_option target [] ≡ option_to_list target
one_or_none None = refl
one_or_none (Some target) = refl

pub element_more : (positions : Positions) (elements : List Elem) (one : Elem) (old new : List Target)
    (target : Option Target)
    → old ≡ definition_entry positions elements → new ≡ old ++ option_to_list target
    → target ≡ element_target positions one → new ≡ definition_entry positions (elements ++ one ∷ [])
element_more positions elements one old new target was more is =
    more ∙ ap (λ xs. xs ++ option_to_list target) was
    ∙ ap (λ ys. definition_entry positions elements ++ ys) (ap option_to_list is ∙ sym (one_or_none (element_target positions one)))
    ∙ sym (filter_map-append (element_target positions) elements (one ∷ []))

drop_one : {A : Type 0} (xs : List A) (k : ℕ) (x : A) → k < length xs → x ≡ get_or xs k x
    → drop k xs ≡ x ∷ drop (k + 1) xs
drop_one xs k x low same =
    let next : suc k ≡ k + 1 = omega arith in
    drop-cons xs k x low ∙ ap (λ y. y ∷ drop (suc k) xs) (sym same) ∙ ap (λ n. x ∷ drop n xs) next

-- ---- the entries of definitions
pub definition_more : (old new : Entries) (positions after : Positions) (number : ℕ) (defs : List CheckedDef) (index : ℕ)
    (def : CheckedDef) (all : Entries)
    → index < length defs → def ≡ get_or defs index def
    → old ++ definition_entries (reverse positions) (number + index) (map checked_definition_of (drop index defs)) ≡ all
    → new ≡ old ++ definition_entry (reverse positions) (checked_definition_of def).accepted.type.set.list ∷ []
    → after ≡ positions ++ Some (targets.Definition (number + index)) ∷ []
    → new ++ definition_entries (reverse after) (number + (index + 1)) (map checked_definition_of (drop (index + 1) defs)) ≡ all
definition_more old new positions after number defs index def all below is was more moved =
    let rest : drop index defs ≡ def ∷ drop (index + 1) defs = drop_one defs index def below is in
    let next : number + (index + 1) ≡ number + index + 1 = omega arith in
    let entry = definition_entry (reverse positions) (checked_definition_of def).accepted.type.set.list in
    let tail : Entries = definition_entries (Some (targets.Definition (number + index)) ∷ reverse positions) (number + index + 1) (map checked_definition_of (drop (index + 1) defs)) in
    (λ j. more j ++ definition_entries (one_turned positions after (Some (targets.Definition (number + index))) moved j) (next j) (map checked_definition_of (drop (index + 1) defs)))
    ∙ append_assoc old (entry ∷ []) tail
    ∙ sym (ap (λ ds. old ++ definition_entries (reverse positions) (number + index) (map checked_definition_of ds)) rest)
    ∙ was

-- ---- the entries of modules
-- the table with a module's definitions finds those of the modules with it
finds_more : (earlier : List Module) (current : EntryModule) (defs : List CheckedDef) (first : ℕ)
    (table after : ModuleTable) (definitions : DefinitionTable)
    → Finds 0 earlier table → first ≡ count_definitions earlier → defs ≡ current.defs.items
    → ((name : List ℕ) → definition_position definitions name ≡ position_among first name (reverse (map definition_of defs)))
    → ((module_name other : List ℕ) → module_position after module_name other
    ≡ (if bytes_eq current.name module_name then definition_position definitions other else module_position table module_name other))
    → Finds 0 (module_in_program current ∷ earlier) after
finds_more earlier current defs first table after definitions finds at are found adds module_name name =
    let listed = definitions_listed current defs are in
    let number : first ≡ 0 + count_definitions earlier = omega arith in
    let own : definition_position definitions name
    ≡ position_among (0 + count_definitions earlier) name (reverse (module_in_program current).definitions) =
    found name ∙ (λ j. position_among (number j) name (reverse (listed j))) in
    adds module_name name
    ∙ (λ j. if bytes_eq current.name module_name then own j else finds module_name name j)

pub module_added : (devices : ℕ) (earlier : List Module) (first : ℕ) (current : EntryModule) (table after : ModuleTable)
    (definitions : DefinitionTable) (positions : Positions) (old new : Entries) (imports : List Import)
    (defs again : List CheckedDef) (next : ℕ)
    → Finds 0 earlier table → first ≡ count_definitions earlier
    → imports ≡ current.imports.items
    → reverse positions ≡ with_imports (module_position table) (device_positions devices) (map import_syntax imports)
    → defs ≡ current.defs.items
    → new ≡ old ++ definition_entries (reverse positions) first (map checked_definition_of defs)
    → again ≡ current.defs.items
    → ((name : List ℕ) → definition_position definitions name ≡ position_among first name (reverse (map definition_of again)))
    → ((module_name other : List ℕ) → module_position after module_name other
    ≡ (if bytes_eq current.name module_name then definition_position definitions other else module_position table module_name other))
    → next ≡ first + length current.defs.items
    → Added devices earlier (module_of current) old new after next
module_added devices earlier first current table after definitions positions old new imports defs again next finds at
    imports_are stand defs_are more again_are found adds next_is =
    let count = count_more (module_of current) earlier in
    let mapped = length-map current.defs.items checked_definition_of in
    record {
      entries = more
          ∙ ap (λ ps. old ++ definition_entries ps first (map checked_definition_of defs)) stand
          ∙ (λ j. old ++ definition_entries (with_imports (λ m n. finds m n j) (device_positions devices) (map import_syntax (imports_are j))) (at j) (map checked_definition_of (defs_are j)));
      finds = finds_more earlier current again first table after definitions finds at again_are found adds;
      number = omega arith;
    }

-- one module more
pub record Stands (devices : ℕ) (modules : List EntryModule) (index : ℕ) (entries : Entries) (table : ModuleTable) (first : ℕ) : Type 0 where
  pub entries_are : entries ++ entries_behind devices (reverse (map module_in_program (take index modules))) (map module_of (drop index modules))
      ≡ links_in devices (map module_of modules)
  pub finds : Finds 0 (reverse (map module_in_program (take index modules))) table
  pub number : first ≡ count_definitions (reverse (map module_in_program (take index modules)))

pub begins : (devices : ℕ) (modules : List EntryModule) (entries : Entries) (table : ModuleTable) → entries ≡ []
    → ((module_name name : List ℕ) → module_position table module_name name ≡ None)
    → Stands devices modules 0 entries table 0
begins devices modules entries table none empty =
    record {
      entries_are = ap (λ es. es ++ entries_behind devices [] (map module_of modules)) none ∙ nil-append (links_in devices (map module_of modules));
      finds = empty;
      number = refl;
    }
  where
    nil-append : {A : Type 0} (xs : List A) → [] ++ xs ≡ xs
    nil-append xs = refl

pub module_more : (devices : ℕ) (modules : List EntryModule) (index : ℕ) (current : EntryModule) (old new : Entries)
    (table after : ModuleTable) (first next : ℕ)
    → index < length modules → current ≡ get_or modules index current
    → Stands devices modules index old table first
    → ((earlier : List Module) → AddsModule devices earlier first (module_of current) table old after new next)
    → Stands devices modules (index + 1) new after next
module_more devices modules index current old new table after first next below is stands adds =
    let earlier : List Module = reverse (map module_in_program (take index modules)) in
    let added : Added devices earlier (module_of current) old new after next = adds earlier stands.finds stands.number in
    let turned : reverse (map module_in_program (take (index + 1) modules)) ≡ module_in_program current ∷ earlier =
    ap reverse (items_more module_in_program modules index current below is)
    ∙ turned_more (map module_in_program (take index modules)) (module_in_program current) in
    let rest : drop index modules ≡ current ∷ drop (index + 1) modules = drop_one modules index current below is in
    let tail : Entries = entries_behind devices (module_in_program current ∷ earlier) (map module_of (drop (index + 1) modules)) in
    record {
      entries_are =
          (λ j. added.entries j ++ entries_behind devices (turned j) (map module_of (drop (index + 1) modules)))
          ∙ append_assoc old (module_entries devices earlier (module_of current)) tail
          ∙ sym (ap (λ ms. old ++ entries_behind devices earlier (map module_of ms)) rest)
          ∙ stands.entries_are;
      finds = subst (λ ms. Finds 0 ms after) (sym turned) added.finds;
      number = added.number ∙ sym (ap count_definitions turned);
    }

pub all_linked : (devices : ℕ) (modules : List EntryModule) (index : ℕ) (entries : Entries) (table : ModuleTable) (first : ℕ)
    → length modules ≤ index → Stands devices modules index entries table first
    → entries ≡ links_in devices (map module_of modules)
all_linked devices modules index entries table first past stands =
    sym (append-nil entries)
    ∙ sym (ap (λ ms. entries ++ entries_behind devices (reverse (map module_in_program (take index modules))) (map module_of ms)) (drop_all index modules past))
    ∙ stands.entries_are
