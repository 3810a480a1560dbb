-- The modules of a chain stand in the order in which they are linked: at each place one alone is ready.
use Rattle.std.proofs.Common.{◌≡◌, ℕ, zero, suc, ◌^◌, ◌<◌, ◌≤◌, Bool, true, false, ◌&&◌, ◌||◌, List, [], ◌∷◌, drop, refl, ap, ◌∙◌, arith, if◌then◌else◌}
use Rattle.std.proofs.lemmas.Bool.{false_from_ne_true, or_left}
use Rattle.std.proofs.lemmas.Fmt.{decimal_injective}
use Rattle.std.specs.List.{AllByRecursion, list_all}
use Rattle.std.specs.Str.{bytes_eq}
use Rattle.cc_base.specs.Names.{is_name_before}
use Rattle.cc_core.specs.Programs.{Module, is_listed, is_ready, are_in_order}
use Rattle.cc_graph.proofs.NameLemmas.{same_name}
use Rattle.cc_workload_outputs.proofs.ChainModules.{chain_import, Signed, chain_module, app_module, chain_modules}
use Rattle.cc_workload.specs.Workloads.{module_name}
use Rattle.cc_workload_outputs.proofs.ChainStores.{same_bytes, all_modules}

-- NAMES

-- different numbers have different names
pub same_number : (i k : ℕ) → i ≤ 200 → k ≤ 200 → module_name i ≡ module_name k → i ≡ k
same_number i k few many same =
    let first : i < 2 ^ 64 = omega (arith, few) in
    let second : k < 2 ^ 64 = omega (arith, many) in
    decimal_injective i k first second (ap (drop 1) same)

pub other_name : (i k : ℕ) → i ≤ 200 → k ≤ 200 → (i ≡ k → ⊥) → bytes_eq (module_name i) (module_name k) ≡ false
other_name i k few many apart =
    false_from_ne_true (bytes_eq (module_name i) (module_name k))
    (λ same. apart (same_number i k few many (same_name (module_name i) (module_name k) same)))

or_false : (a b : Bool) → a ≡ false → b ≡ false → (a || b) ≡ false
or_false a b left right = rw (left, right) refl

and_true : (a b : Bool) → a ≡ true → b ≡ true → (a && b) ≡ true
and_true a b left right = rw (left, right) refl

chosen_true : (test other : Bool) → test ≡ false → (if test then other else true) ≡ true
chosen_true test other none = rw none refl

module _ (signed : ℕ → Signed) where
  -- a module with a number above is not among the first ones
  not_listed : (count number : ℕ) → count < number → number ≤ 200 → is_listed (chain_modules signed count) (module_name number) ≡ false
  not_listed zero number less few = refl
  not_listed (suc before) number less few =
      or_false (bytes_eq (module_name (suc before)) (module_name number)) (is_listed (chain_modules signed before) (module_name number))
      (other_name (suc before) number (omega (arith, less, few)) few (λ same. omega (arith, same, less)))
      (not_listed before number (omega (arith, less)) few)

  -- the last one is
  last_listed : (before : ℕ) → is_listed (chain_modules signed (suc before)) (module_name (suc before)) ≡ true
  last_listed before = or_left _ _ (same_bytes (module_name (suc before)))

  -- the module is not ready behind fewer than so many
  abbrev Waits : ℕ → Module → Type 0
  Waits number current = (count : ℕ) → count < number → is_ready (chain_modules signed count) current ≡ false

  imports_wait : (number : ℕ) (current : Module) → current.imports ≡ chain_import number ∷ [] → number ≤ 200 → Waits number current
  imports_wait number current imports few count less =
      ap (λ them. list_all (λ names. is_listed (chain_modules signed count) names.module_name) them) imports
      ∙ ap (λ b. b && true) (not_listed count number less few)

  fewer_wait : (number : ℕ) (waiting : List Module) → AllByRecursion (Waits (suc number)) waiting → AllByRecursion (Waits number) waiting
  fewer_wait number [] wait = tt
  fewer_wait number (first ∷ rest) wait =
      ((λ count less. wait.0 count (omega (arith, less))), fewer_wait number rest wait.1)

  -- what waits does not come first
  none_first : (before : ℕ) (newest : Module) (waiting : List Module) → AllByRecursion (Waits (suc before)) waiting
      → list_all (λ other. if is_ready (chain_modules signed before) other then is_name_before newest.name other.name else true) waiting ≡ true
  none_first before newest [] wait = refl
  none_first before newest (first ∷ rest) wait =
      and_true
      (if is_ready (chain_modules signed before) first then is_name_before newest.name first.name else true)
      (list_all (λ other. if is_ready (chain_modules signed before) other then is_name_before newest.name other.name else true) rest)
      (chosen_true (is_ready (chain_modules signed before) first) (is_name_before newest.name first.name) (wait.0 before (omega arith)))
      (none_first before newest rest wait.1)

  module_ready : (before : ℕ) → is_ready (chain_modules signed before) (chain_module signed (suc before)) ≡ true
  module_ready zero = refl
  module_ready (suc before) = and_true _ _ (last_listed before) refl

  module_waits : (before : ℕ) → suc before ≤ 200 → Waits before (chain_module signed (suc before))
  module_waits zero few count less = absurd (omega (arith, less))
  module_waits (suc before) few count less =
      imports_wait (suc before) (chain_module signed (suc (suc before))) refl (omega (arith, few)) count less

  chain_ordered : (number : ℕ) (waiting : List Module) → number ≤ 200 → AllByRecursion (Waits number) waiting
      → are_in_order waiting (chain_modules signed number) ≡ true
  chain_ordered zero waiting few wait = refl
  chain_ordered (suc before) waiting few wait =
      let newest = chain_module signed (suc before) in
      let ready = is_ready (chain_modules signed before) newest in
      let first = list_all (λ other. if is_ready (chain_modules signed before) other then is_name_before newest.name other.name else true) waiting in
      and_true (ready && first) (are_in_order (newest ∷ waiting) (chain_modules signed before))
      (and_true ready first (module_ready before) (none_first before newest waiting wait))
      (chain_ordered before (newest ∷ waiting) (omega (arith, few)) (module_waits before few, fewer_wait before waiting wait))

  -- so do all
  pub all_ordered : (main : Signed) (before : ℕ) → suc before ≤ 200
      → are_in_order [] (all_modules signed main (suc before)) ≡ true
  all_ordered main before few =
      let app = app_module main (suc before) in
      and_true (is_ready (chain_modules signed (suc before)) app && true) (are_in_order (app ∷ []) (chain_modules signed (suc before)))
      (and_true (is_ready (chain_modules signed (suc before)) app) true (and_true _ _ (last_listed before) refl) refl)
      (chain_ordered (suc before) (app ∷ []) few (imports_wait (suc before) app refl few, tt))
