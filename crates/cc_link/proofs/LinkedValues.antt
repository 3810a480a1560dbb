-- Values that are linked by a list of positions.
use Rattle.std.proofs.Common.{◌≡◌, ◌<◌, ◌≤◌, ◌+◌, arith, ℕ, suc, true, false, List, [], ◌∷◌, ◌++◌, map, length, take, drop, get_or, None, Some, Option, refl, sym, ap, ◌∙◌, subst}
use Rattle.std.specs.Prelude.{reverse, slice_index_or, if◌then◌else◌}
use Rattle.std.proofs.Math.Bool.{Bool-set}
use Rattle.std.proofs.lemmas.List.{length-reverse}
use Rattle.std.proofs.lemmas.List.FromFn.{get_or-map-range_with_len}
use Rattle.cc_base.specs.declared.literal.Base.{Base}
use Rattle.cc_capture.specs.declared.var.Var.{Var}
use Rattle.cc_capture.specs.declared.var.Var.TheVariants.{Bound, Free}
use Rattle.cc_core.specs.Actions.{renamed_by}
use Rattle.cc_core.specs.Contexts.{Context, entry_of}
use Rattle.cc_core.specs.Occurrences.{IsPositionBelow, positions_below, on_variables}
use Rattle.cc_core.specs.Programs.{Import, Definition, Module, device_entry, device_context, imported, with_signature, import_context, definition_context, own_context, AreTyped, OfEachModule, IsTypedModule}
use Rattle.cc_core.specs.Stores.{ValueCell}
use Rattle.cc_core.specs.Substitution.{renamed_variable, renamed_term}
use Rattle.cc_core.specs.Terms.{Term}
use Rattle.cc_core.specs.WellFormed.{IsWellFormedTerm}
use Rattle.cc_core.proofs.Conditions.{gives_here, MeetsInTerm-here}
use Rattle.cc_core.proofs.Lookups.{length_map}
use Rattle.cc_core.proofs.Moving.{moving-congruent}
use Rattle.cc_core.proofs.Sorts.{TermSort}
use Rattle.cc_core.proofs.WellFormedness.{well_formed-positions_below}
use Rattle.cc_link.specs.Linking.{ArePositions}
use Rattle.cc_link.proofs.Placements.{turned_more, turned_at}
use Rattle.cc_runs.specs.Links.{linked_position, linked_cell}

-- The variables of each value have their entries in the context that it was checked in.
abbrev pub AreFormed : Context → List Definition → Type 0
AreFormed context [] = Unit {0}
AreFormed context (newest ∷ older) =
    IsWellFormedTerm (own_context (definition_context context older) newest) newest.value × AreFormed context older

-- the same of the definitions of a module, behind the devices and its imports from earlier modules
abbrev pub IsFormed : List Base → List Module → Module → Type 0
IsFormed devices earlier current =
    AreFormed (import_context (device_context devices) earlier (reverse current.imports)) (reverse current.definitions)

-- one value more
pub linked_more : {A B C : Type 0} (g : A → C) (h : B → C) (values new : List A) (value : A) (done more : List B) (next : B) (old : List C)
    → map g (reverse values) ≡ map h (reverse done) ++ old → g value ≡ h next → new ≡ values ++ value ∷ [] → more ≡ done ++ next ∷ []
    → map g (reverse new) ≡ map h (reverse more) ++ old
linked_more g h values new value done more next old so_far one is are =
    ap (λ xs. map g (reverse xs)) is ∙ ap (map g) (turned_more values value)
    ∙ (λ j. one j ∷ so_far j)
    ∙ sym (ap (λ xs. map h (reverse xs) ++ old) are ∙ ap (λ xs. map h xs ++ old) (turned_more done next))

-- what a list of positions has for a position
pub position_listed : (devices : ℕ) (earlier : List Module) (imports : List Import) (to : List ℕ) → ArePositions devices earlier imports to
    → (p : ℕ) → p < length to → renamed_by to p ≡ linked_position devices earlier (reverse imports) p
position_listed devices earlier imports to are p below =
    ap (λ xs. slice_index_or xs p p) are
    ∙ get_or-map-range_with_len (linked_position devices earlier (reverse imports)) 0 (length to) p p p below (omega arith)

-- Two renamings that agree below a limit do the same to a term that is well formed in a context that is not longer.
module _ (limit : ℕ) (f h : ℕ → ℕ) (same : (p : ℕ) → p < limit → f p ≡ h p) where
  same_variable : (n : ℕ) → n ≤ limit → (v : Var) → IsPositionBelow n v → renamed_variable f v ≡ renamed_variable h v
  same_variable n fits (Bound i) below = refl
  same_variable n fits (Free p) below = ap (λ q. Free q) (same p (omega arith))

  renamed_alike : (context : Context) (t : Term) → length context ≤ limit → IsWellFormedTerm context t → renamed_term f t ≡ renamed_term h t
  renamed_alike context t fits formed =
      moving-congruent (λ d v. renamed_variable f v) (λ d v. renamed_variable h v) TermSort 0 t
      (MeetsInTerm-here (positions_below (length context)) (on_variables (λ d v. renamed_variable f v ≡ renamed_variable h v))
      (gives_here (λ d v. IsPositionBelow (length context) v) (λ d v. renamed_variable f v ≡ renamed_variable h v)
      (λ d v m. same_variable (length context) fits v m)) 0 t (well_formed-positions_below TermSort context t formed))

  own_length : (context : Context) (d : Definition) → length (own_context context d) ≤ length context + 1
  own_length context d =
      elim d.is_recursive as (λ r. length (if r then entry_of d.signature ∷ context else context) ≤ length context + 1) [
        | true ↦ omega arith
        | false ↦ omega arith
      ]

  definitions_length : (context : Context) (ds : List Definition) → length (definition_context context ds) ≡ length context + length ds
  definitions_length context [] = omega arith
  definitions_length context (d ∷ ds) = let rest = definitions_length context ds in omega arith

  pub cells_alike : (context : Context) (ds : List Definition) → length context + length ds ≤ limit → AreFormed context ds → map (linked_cell f) ds ≡ map (linked_cell h) ds
  cells_alike context [] fits formed = refl
  cells_alike context (d ∷ ds) fits formed =
      let before = definitions_length context ds in
      let own = own_length (definition_context context ds) d in
      let one : renamed_term f d.value ≡ renamed_term h d.value =
      renamed_alike (own_context (definition_context context ds) d) d.value (omega arith) formed.0 in
      let rest : map (linked_cell f) ds ≡ map (linked_cell h) ds = cells_alike context ds (omega arith) formed.1 in
      λ j. ValueCell (one j) ∷ rest j

-- no more entries than devices and imports
with_signature_length : (o : Option Definition) (context : Context) → length (with_signature o context) ≤ length context + 1
with_signature_length None context = omega arith
with_signature_length (Some d) context = omega arith

imports_length : (context : Context) (earlier : List Module) (imports : List Import) → length (import_context context earlier imports) ≤ length context + length imports
imports_length context earlier [] = omega arith
imports_length context earlier (i ∷ imports) =
    let rest = imports_length context earlier imports in
    let one = with_signature_length (imported earlier i) (import_context context earlier imports) in
    omega arith

-- the cells of a module that are linked by the list are those of the linked store
pub module_cells : (devices : List Base) (earlier : List Module) (current : Module) (to : List ℕ)
    → length to ≡ length devices + length current.imports + length current.definitions
    → ArePositions (length devices) earlier current.imports to → IsFormed devices earlier current
    → map (linked_cell (renamed_by to)) (reverse current.definitions)
    ≡ map (linked_cell (linked_position (length devices) earlier (reverse current.imports))) (reverse current.definitions)
module_cells devices earlier current to count are formed =
    let base : length (device_context devices) ≡ length devices = length_map device_entry (reverse devices) ∙ length-reverse devices in
    let context = imports_length (device_context devices) earlier (reverse current.imports) in
    let imports = length-reverse current.imports in
    let own = length-reverse current.definitions in
    cells_alike (length to) (renamed_by to) (linked_position (length devices) earlier (reverse current.imports))
    (position_listed (length devices) earlier current.imports to are)
    (import_context (device_context devices) earlier (reverse current.imports)) (reverse current.definitions) (omega arith) formed

-- Definitions that have types are well formed, and that they are is a proposition.
formed_from : (context : Context) (ds : List Definition) → AreTyped context ds → AreFormed context ds
formed_from context [] typed = tt
formed_from context (d ∷ ds) typed = (typed.0.term_formed, formed_from context ds typed.1)

AreFormed-prop : (context : Context) (ds : List Definition) → IsProp (AreFormed context ds)
AreFormed-prop context [] = hlevel
AreFormed-prop context (d ∷ ds) = hlevel (Bool-set, AreFormed-prop context ds)

pub IsFormed-prop : (devices : List Base) (earlier : List Module) (current : Module) → IsProp (IsFormed devices earlier current)
IsFormed-prop devices earlier current =
    AreFormed-prop (import_context (device_context devices) earlier (reverse current.imports)) (reverse current.definitions)

holds_at : (holds : List Module → Module → Type 0) (front back : List Module) (current : Module) → OfEachModule holds (front ++ current ∷ back) → holds back current
holds_at holds [] back current all = all.0
holds_at holds (m ∷ front) back current all = holds_at holds front back current all.1

-- so each module of an entry is well formed behind those before it
pub module_formed : {A : Type 0} (f : A → Module) (devices : List Base) (xs : List A) (k : ℕ) (x : A) → k < length xs → x ≡ get_or xs k x
    → OfEachModule (IsTypedModule devices) (reverse (map f xs)) → IsFormed devices (reverse (map f (take k xs))) (f x)
module_formed f devices xs k x below is all =
    formed_from (import_context (device_context devices) (reverse (map f (take k xs))) (reverse (f x).imports)) (reverse (f x).definitions)
    (holds_at (IsTypedModule devices) (reverse (map f (drop (suc k) xs))) (reverse (map f (take k xs))) (f x)
    (subst (OfEachModule (IsTypedModule devices)) (turned_at f xs k x below is) all))
