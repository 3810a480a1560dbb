-- The entries of modules name earlier entries alone.
use Rattle.std.proofs.Common.{◌≡◌, ℕ, zero, suc, ◌+◌, ◌-◌, ◌<◌, List, [], ◌∷◌, map, length, get_or, Option, Some, None, option_map, inl, inr, refl, ap, subst, ◌∙◌, arith}
use Rattle.std.specs.Prelude.{reverse}
use Rattle.std.specs.List.{Contains}
use Rattle.std.specs.Option.{unwrap_or}
use Rattle.std.specs.Str.{bytes_eq}
use Rattle.std.proofs.lemmas.Bool.{cases_Bool, cases_lt}
use Rattle.std.proofs.lemmas.List.{length-map, length-reverse}
use Rattle.std.proofs.Math.ListN.{get_or-append}
use Rattle.std.proofs.Math.Seq.{get_or-append_right}
use Rattle.cc_capture.specs.declared.var.Var.{Var}
use Rattle.cc_capture.specs.declared.var.Var.TheVariants.{Bound, Free}
use Rattle.cc_capture.specs.declared.var.Elem.{Elem}
use Rattle.cc_capture.specs.declared.var.Elem.TheVariants.{Var as Variable, Cap, Hole}
use Rattle.cc_core.specs.Contexts.{lookup}
use Rattle.cc_core.specs.Programs.{Definition, Module}
use Rattle.cc_core.proofs.Lookups.{lookup-cases}
use Rattle.cc_explain.specs.declared.target.Target.{Target}
use Rattle.cc_explain.specs.declared.target.Target.TheVariants as targets
use Rattle.cc_grammar.specs.Syntax.{ImportSyntax}
use Rattle.cc_entry_laws.specs.PresentEntries.{CheckedModule, program_module}
use Rattle.cc_verdicts.specs.ModuleVerdicts.{CheckedDefinition, in_program}
use Rattle.cc_runs.specs.Links.{count_definitions, position_among, position_in}
use Rattle.cc_entry_laws.proofs.Positions.{in_nothing, from_given}
use Rattle.cc_link.specs.ModuleLinkLaws.{EntriesNameEarlier}
use Rattle.cc_link.specs.ModuleLinks.{Positions, device_positions, imported_target, with_imports, variable_target, element_target, definition_entry, definition_entries, module_entries, entries_behind}

-- what stands at positions are definitions below a number
abbrev Below : ℕ → Positions → Type 0
Below number positions =
    (position named : ℕ) → lookup positions position ≡ Some (Some (targets.Definition named)) → named < number

same_number : (number named : ℕ) → Some (targets.Definition number) ≡ Some (targets.Definition named) → number ≡ named
same_number number named is = cc

no_device : {B : Type 0} (number named : ℕ) → Some (targets.Device number) ≡ Some (targets.Definition named) → B
no_device number named is = cc

devices_below : (count number : ℕ) → Below number (device_positions count)
devices_below zero number position named is = cc
devices_below (suc count) number position named is =
    elim (lookup-cases (Some (targets.Device count)) (device_positions count) position (Some (targets.Definition named)) is) [
      | inl (at, same) ↦ no_device count named same
      | inr there ↦ devices_below count number position named there
    ]

imported_below : (number : ℕ) (found : Option ℕ) → ((k : ℕ) → found ≡ Some k → k < number)
    → (named : ℕ) → option_map (λ k. targets.Definition k) found ≡ Some (targets.Definition named) → named < number
imported_below number None low named is = cc
imported_below number (Some k) low named is =
    subst (λ n. n < number) (same_number k named is) (low k refl)

imports_below : (find : List ℕ → List ℕ → Option ℕ) (number : ℕ)
    → ((module_name name : List ℕ) (k : ℕ) → find module_name name ≡ Some k → k < number)
    → (positions : Positions) (imports : List ImportSyntax) → Below number positions
    → Below number (with_imports find positions imports)
imports_below find number low positions [] below = below
imports_below find number low positions (one ∷ rest) below =
    imports_below find number low (imported_target find one ∷ positions) rest
    (λ position named is.
    elim (lookup-cases (imported_target find one) positions position (Some (targets.Definition named)) is) [
      | inl (at, same) ↦
          imported_below number (find one.source one.name) (low one.source one.name) named same
      | inr there ↦ below position named there
    ])

among_below : (before : ℕ) (name : List ℕ) (definitions : List Definition) (k : ℕ)
    → position_among before name definitions ≡ Some k → k < before + length definitions
among_below before name [] k is = cc
among_below before name (newest ∷ older) k is =
    elim (cases_Bool (bytes_eq newest.name name)) [
      | inl same ↦ let at : before + length older ≡ k = some_same (before + length older) k (rw same at is) in omega arith
      | inr other ↦ let rest = among_below before name older k (rw other at is) in omega arith
    ]
  where
    some_same : (a b : ℕ) → Some a ≡ Some b → a ≡ b
    some_same a b e = cc

found_below : (module_name name : List ℕ) (earlier : List Module) (k : ℕ)
    → position_in 0 module_name name earlier ≡ Some k → k < count_definitions earlier
found_below module_name name [] k is = cc
found_below module_name name (newest ∷ older) k is =
    elim (cases_Bool (bytes_eq newest.name module_name)) [
      | inl same ↦
          let here = among_below (0 + count_definitions older) name (reverse newest.definitions) k (rw same at is) in
          omega arith
      | inr other ↦ let rest = found_below module_name name older k (rw other at is) in omega arith
    ]

variable_below : (number : ℕ) (positions : Positions) → Below number positions → (variable : Var) (named : ℕ)
    → variable_target positions variable ≡ Some (targets.Definition named) → named < number
variable_below number positions below (Free position) named is =
    by_option (lookup positions position) refl is
  where
    by_option : (found : Option (Option Target)) → lookup positions position ≡ found
        → unwrap_or found None ≡ Some (targets.Definition named) → named < number
    by_option None at given = cc
    by_option (Some target) at given = below position named (at ∙ ap (λ t. Some t) given)
variable_below number positions below (Bound index) named is = cc

element_below : (number : ℕ) (positions : Positions) → Below number positions → (e : Elem) (named : ℕ)
    → element_target positions e ≡ Some (targets.Definition named) → named < number
element_below number positions below (Variable variable) named is = variable_below number positions below variable named is
element_below number positions below Cap named is = cc
element_below number positions below (Hole hole) named is = cc

entry_below : (number : ℕ) (positions : Positions) → Below number positions → (elements : List Elem) (named : ℕ)
    → Contains (definition_entry positions elements) (targets.Definition named) → named < number
entry_below number positions below elements named among =
    let (e, listed, is) = from_given (element_target positions) elements (targets.Definition named) among in
    element_below number positions below e named is

one_below : (number : ℕ) (positions : Positions) → Below number positions
    → Below (number + 1) (Some (targets.Definition number) ∷ positions)
one_below number positions below position named is =
    elim (lookup-cases (Some (targets.Definition number)) positions position (Some (targets.Definition named)) is) [
      | inl (at, same) ↦ let it = same_number number named same in omega arith
      | inr there ↦ let low = below position named there in omega arith
    ]

definitions_below : (positions : Positions) (number : ℕ) (definitions : List CheckedDefinition) → Below number positions
    → (place named : ℕ) → Contains (get_or (definition_entries positions number definitions) place []) (targets.Definition named)
    → named < number + place
definitions_below positions number [] below place named among = in_nothing (targets.Definition named) among
definitions_below positions number (one ∷ rest) below zero named among =
    let low = entry_below number positions below one.accepted.type.set.list named among in omega arith
definitions_below positions number (one ∷ rest) below (suc place) named among =
    let low =
    definitions_below (Some (targets.Definition number) ∷ positions) (number + 1) rest (one_below number positions below)
    place named among in
    omega arith

pub entries_count : (positions : Positions) (number : ℕ) (definitions : List CheckedDefinition)
    → length (definition_entries positions number definitions) ≡ length definitions
entries_count positions number [] = refl
entries_count positions number (one ∷ rest) =
    ap suc (entries_count (Some (targets.Definition number) ∷ positions) (number + 1) rest)

pub count_more : (current : CheckedModule) (earlier : List Module)
    → count_definitions (program_module current ∷ earlier) ≡ count_definitions earlier + length current.definitions
count_more current earlier =
    let turned = length-reverse (map in_program current.definitions) in
    let mapped = length-map current.definitions in_program in
    omega arith

behind_below : (devices : ℕ) (earlier : List Module) (modules : List CheckedModule) (place named : ℕ)
    → Contains (get_or (entries_behind devices earlier modules) place []) (targets.Definition named)
    → named < count_definitions earlier + place
behind_below devices earlier [] place named among = in_nothing (targets.Definition named) among
behind_below devices earlier (current ∷ rest) place named among =
    let find : List ℕ → List ℕ → Option ℕ = λ module_name name. position_in 0 module_name name earlier in
    let positions : Positions = with_imports find (device_positions devices) current.imports in
    let below : Below (count_definitions earlier) positions =
    imports_below find (count_definitions earlier) (λ module_name name k is. found_below module_name name earlier k is)
    (device_positions devices) current.imports (devices_below devices (count_definitions earlier)) in
    let count = entries_count positions (count_definitions earlier) current.definitions in
    let more = count_more current earlier in
    elim (cases_lt place (length (module_entries devices earlier current))) [
      | inl low ↦
          definitions_below positions (count_definitions earlier) current.definitions below place named
          (subst (λ entry. Contains entry (targets.Definition named))
          (get_or-append (module_entries devices earlier current) (entries_behind devices (program_module current ∷ earlier) rest) [] place low)
          among)
      | inr high ↦
          let behind =
          behind_below devices (program_module current ∷ earlier) rest (place - length (module_entries devices earlier current)) named
          (subst (λ entry. Contains entry (targets.Definition named))
          (get_or-append_right (module_entries devices earlier current) (entries_behind devices (program_module current ∷ earlier) rest) place [] high)
          among) in
          omega arith
    ]

pub entries_name_earlier : EntriesNameEarlier
entries_name_earlier devices modules number named among =
    let low = behind_below devices [] modules number named among in omega arith
