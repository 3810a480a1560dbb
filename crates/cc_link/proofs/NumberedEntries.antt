-- The entry of a definition among those of modules is what it links to by its names, numbered.
use Rattle.std.proofs.Common.{◌≡◌, ℕ, zero, suc, ◌+◌, ◌-◌, ◌<◌, ◌≤◌, List, [], ◌∷◌, ◌++◌, map, length, get_or, Option, Some, None, option_map, refl, sym, ap, subst, ◌∙◌, append_assoc, length-append, arith}
use Rattle.std.specs.Prelude.{reverse}
use Rattle.std.specs.List.{AllByRecursion, filter_map, cons_option}
use Rattle.std.specs.Option.{unwrap_or}
use Rattle.std.proofs.Math.ListN.{get_or-append}
use Rattle.std.proofs.Math.Seq.{get_or-append_right}
use Rattle.cc_base.specs.declared.device.DeviceDecl.{DeviceDecl}
use Rattle.cc_capture.specs.declared.var.Var.{Var}
use Rattle.cc_capture.specs.declared.var.Var.TheVariants.{Bound, Free}
use Rattle.cc_capture.specs.declared.var.Elem.{Elem}
use Rattle.cc_capture.specs.declared.var.Elem.TheVariants.{Var as Variable, Cap, Hole}
use Rattle.cc_core.specs.Contexts.{lookup}
use Rattle.cc_core.specs.Programs.{Module}
use Rattle.cc_core.proofs.Lookups.{lookup-map}
use Rattle.cc_explain.specs.declared.target.Target.{Target}
use Rattle.cc_explain.specs.declared.target.Target.TheVariants as targets
use Rattle.cc_explain.specs.Entries.{Entries}
use Rattle.cc_grammar.specs.Syntax.{ImportSyntax}
use Rattle.cc_link.proofs.Placements.{turned_more}
use Rattle.cc_entry_laws.specs.PresentEntries.{CheckedModule, program_module}
use Rattle.cc_entry_laws.specs.PresentLinks as names
use Rattle.cc_verdicts.specs.ModuleVerdicts.{CheckedDefinition}
use Rattle.cc_verdicts.specs.StandingDefinitions.{Standing}
use Rattle.cc_runs.specs.Links.{count_definitions, position_in}
use Rattle.cc_link.proofs.EarlierEntries.{entries_count, count_more}
use Rattle.cc_link.specs.ModuleLinkLaws.{AreNumbered, numbered, modules_turned, EntriesAreNumbered}
use Rattle.cc_link.specs.ModuleLinks.{Positions, device_positions, imported_target, with_imports, variable_target, element_target, definition_entry, definition_entries, module_entries, entries_behind, links_in}

module _ (number : List ℕ → List ℕ → ℕ) where
  -- positions with what they stand for by names
  abbrev placed : List names.Target → Positions
  placed targets = map (λ target. Some (numbered number target)) targets

  devices_placed : (count : ℕ) → device_positions count ≡ placed (names.device_targets count)
  devices_placed zero = refl
  devices_placed (suc count) = ap (λ ps. Some (targets.Device count) ∷ ps) (devices_placed count)

  imports_placed : (find : List ℕ → List ℕ → Option ℕ) (imports : List ImportSyntax)
      → AllByRecursion (λ one. find one.source one.name ≡ Some (number one.source one.name)) imports
      → (stand : List names.Target)
      → with_imports find (placed stand) imports ≡ placed (names.with_imports stand imports)
  imports_placed find [] found stand = refl
  imports_placed find (one ∷ rest) found stand =
      ap (λ o. with_imports find (option_map (λ k. targets.Definition k) o ∷ placed stand) rest) found.0
      ∙ imports_placed find rest found.1 (names.DefinitionOf one.source one.name ∷ stand)

  definitions_placed : (module_name : List ℕ) (first : ℕ) (before : List CheckedDefinition) (one : CheckedDefinition)
      (after : List CheckedDefinition) (stand : List names.Target)
      → AreNumbered number module_name first before
      → get_or (definition_entries (placed stand) first (before ++ one ∷ after)) (length before) []
      ≡ definition_entry (placed (names.with_names module_name stand before)) one.accepted.type.set.list
  definitions_placed module_name first [] one after stand numbers = refl
  definitions_placed module_name first (d ∷ before) one after stand numbers =
      ap (λ n. get_or (definition_entries (Some (targets.Definition n) ∷ placed stand) (first + 1) (before ++ one ∷ after)) (length before) [])
      (sym numbers.0)
      ∙ definitions_placed module_name (first + 1) before one after (names.DefinitionOf module_name d.name ∷ stand) numbers.1

  by_found : (found : Option names.Target)
      → unwrap_or (option_map (λ target. Some (numbered number target)) found) None ≡ option_map (numbered number) found
  by_found None = refl
  by_found (Some target) = refl

  variable_placed : (stand : List names.Target) (variable : Var)
      → variable_target (placed stand) variable ≡ option_map (numbered number) (names.variable_target stand variable)
  variable_placed stand (Free position) =
      ap (λ o. unwrap_or o None) (lookup-map (λ target. Some (numbered number target)) stand position)
      ∙ by_found (lookup stand position)
  variable_placed stand (Bound index) = refl

  element_placed : (stand : List names.Target) (e : Elem)
      → element_target (placed stand) e ≡ option_map (numbered number) (names.target_of stand e)
  element_placed stand (Variable variable) = variable_placed stand variable
  element_placed stand Cap = refl
  element_placed stand (Hole hole) = refl

  put_placed : (found : Option names.Target) (rest : List names.Target)
      → cons_option (option_map (numbered number) found) (map (numbered number) rest)
      ≡ map (numbered number) (cons_option found rest)
  put_placed None rest = refl
  put_placed (Some target) rest = refl

  entry_placed : (stand : List names.Target) (elements : List Elem)
      → definition_entry (placed stand) elements ≡ map (numbered number) (filter_map (names.target_of stand) elements)
  entry_placed stand [] = refl
  entry_placed stand (e ∷ rest) =
      (λ j. cons_option (element_placed stand e j) (entry_placed stand rest j))
      ∙ put_placed (names.target_of stand e) (filter_map (names.target_of stand) rest)

counts_grow : (front : List Module) (earlier : List CheckedModule)
    → count_definitions front ≤ count_definitions (modules_turned front earlier)
counts_grow front [] = omega arith
counts_grow front (one ∷ earlier) =
    let more = count_more one front in
    let rest = counts_grow (program_module one ∷ front) earlier in
    omega arith

-- where a module's entries begin
entries_from : (devices : ℕ) (front : List Module) (earlier : List CheckedModule) (current : CheckedModule)
    (later : List CheckedModule) (first place : ℕ)
    → first ≡ count_definitions (modules_turned front earlier) → place < length current.definitions
    → get_or (entries_behind devices front (earlier ++ current ∷ later)) (first + place - count_definitions front) []
    ≡ get_or (module_entries devices (modules_turned front earlier) current) place []
entries_from devices front [] current later first place at below =
    let entries = module_entries devices front current in
    let count : length entries ≡ length current.definitions =
    entries_count (with_imports (λ m n. position_in 0 m n front) (device_positions devices) current.imports) (count_definitions front) current.definitions in
    let here : first + place - count_definitions front ≡ place = omega arith in
    ap (λ k. get_or (entries_behind devices front (current ∷ later)) k []) here
    ∙ get_or-append entries (entries_behind devices (program_module current ∷ front) later) [] place (omega arith)
entries_from devices front (one ∷ earlier) current later first place at below =
    let entries = module_entries devices front one in
    let count : length entries ≡ length one.definitions =
    entries_count (with_imports (λ m n. position_in 0 m n front) (device_positions devices) one.imports) (count_definitions front) one.definitions in
    let more = count_more one front in
    let low = counts_grow (program_module one ∷ front) earlier in
    let past : length entries ≤ first + place - count_definitions front = omega arith in
    let moved : first + place - count_definitions front - length entries ≡ first + place - count_definitions (program_module one ∷ front) = omega arith in
    get_or-append_right entries (entries_behind devices (program_module one ∷ front) (earlier ++ current ∷ later)) (first + place - count_definitions front) [] past
    ∙ ap (λ k. get_or (entries_behind devices (program_module one ∷ front) (earlier ++ current ∷ later)) k []) moved
    ∙ entries_from devices (program_module one ∷ front) earlier current later first place at below

pub entries_are_numbered : EntriesAreNumbered
entries_are_numbered declared earlier current later findings before one after number is imported numbers =
    let front : List Module = modules_turned [] earlier in
    let first = count_definitions front in
    let below : length before < length current.definitions =
    omega (arith, ap length is, length-append before (one ∷ after)) in
    let from_start : first + length before ≡ first + length before - 0 = omega arith in
    let find : List ℕ → List ℕ → Option ℕ = λ m n. position_in 0 m n front in
    ap (λ k. get_or (links_in (length declared) (earlier ++ current ∷ later)) k []) from_start
    ∙ entries_from (length declared) [] earlier current later first (length before) refl below
    ∙ (λ j. get_or (definition_entries (with_imports find (devices_placed number (length declared) j) current.imports) first (is j)) (length before) [])
    ∙ ap (λ ps. get_or (definition_entries ps first (before ++ one ∷ after)) (length before) [])
    (imports_placed number find current.imports imported (names.device_targets (length declared)))
    ∙ definitions_placed number current.name first before one after (names.with_imports (names.device_targets (length declared)) current.imports) numbers
    ∙ entry_placed number (names.with_names current.name (names.with_imports (names.device_targets (length declared)) current.imports) before) one.accepted.type.set.list
