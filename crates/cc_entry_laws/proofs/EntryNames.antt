-- The names of modules that stand in the order in which they are linked differ.
use Rattle.std.proofs.Common.{◌≡◌, ℕ, Bool, true, false, List, [], ◌∷◌, reverse, map, refl, sym, ap, ◌∙◌}
use Rattle.std.proofs.Common.{subst, inl, inr, if◌then◌else◌}
use Rattle.std.proofs.lemmas.Bool.{and_parts, false_from_ne_true}
use Rattle.std.proofs.lemmas.Cmp.{nat_list_eq_equiv}
use Rattle.std.proofs.lemmas.List.{reverse-reverse}
use Rattle.std.proofs.lemmas.List.Sorted.{IsPermutation-reverse}
use Rattle.std.proofs.lemmas.Map.Keys.{IsDistinct-IsPermutation}
use Rattle.std.specs.Cmp.{tied_itself}
use Rattle.std.specs.List.{AllByRecursion, IsDistinct}
use Rattle.std.specs.Ordering.{is_lt}
use Rattle.std.specs.Str.{bytes_eq}
use Rattle.cc_base.specs.Names.{is_name_before}
use Rattle.cc_core.specs.Programs.{Module, is_ready, are_in_order}
use Rattle.cc_graph.proofs.NameLemmas.{names_total, same_name}
use Rattle.cc_graph.proofs.OrderLemmas.{clash, list_all_at}
use Rattle.cc_graph.proofs.Paths.{IsAmong}
use Rattle.cc_verdicts.proofs.Asking.{map-reverse}
use Rattle.cc_verdicts.specs.ModuleVerdicts.{ModuleVerdict}
use Rattle.cc_verdicts.specs.PresentTexts.{Texts}
use Rattle.cc_entry_laws.proofs.EntryLinks.{AllPresent}
use Rattle.cc_entry_laws.proofs.PlainEntries.{present_module}

-- no name comes before itself
pub not_before_itself : (name : List ℕ) → is_name_before name name ≡ false
not_before_itself name = ap is_lt (tied_itself names_total name)

-- the modules of one name are one
pub one_module : (texts : Texts) (all : List ℕ → ModuleVerdict) (first second : Module)
    → first ≡ present_module texts all first.name → second ≡ present_module texts all second.name
    → first.name ≡ second.name → first ≡ second
one_module texts all first second is_first is_second same =
    is_first ∙ ap (present_module texts all) same ∙ sym is_second

if_true : (b c : Bool) → b ≡ true → (if b then c else true) ≡ true → c ≡ true
if_true b c is holds = rw is at holds

-- a module that waits is none of those that are listed before it
waiting_apart : (texts : Texts) (all : List ℕ → ModuleVerdict) (newest : Module)
    → newest ≡ present_module texts all newest.name → (waiting turned : List Module) → IsAmong newest waiting
    → AllPresent texts all turned → are_in_order waiting turned ≡ true
    → AllByRecursion (λ y. bytes_eq newest.name y ≡ false) (map (λ current. current.name) turned)
waiting_apart texts all newest is waiting [] among present order = tt
waiting_apart texts all newest is waiting (next ∷ older) among present order =
    let parts = and_parts _ _ order in
    let first = and_parts _ _ parts.0 in (
      false_from_ne_true (bytes_eq newest.name next.name)
          (λ same.
          let names = same_name newest.name next.name same in
          let R : Module → Type 0 = λ m. is_ready older m ≡ true in
          let ready = subst R (one_module texts all next newest present.0 is (sym names)) first.0 in
          let before : is_name_before next.name newest.name ≡ true = if_true (is_ready older newest)
          (is_name_before next.name newest.name) ready
          (list_all_at (λ other. if is_ready older other then is_name_before next.name other.name else true)
          waiting newest among first.1) in
          clash (is_name_before next.name newest.name) before
          (ap (λ n. is_name_before next.name n) names ∙ not_before_itself next.name)),
      waiting_apart texts all newest is (next ∷ waiting) older (inr among) present.1 parts.1,
    )

turned_distinct : (texts : Texts) (all : List ℕ → ModuleVerdict) (waiting turned : List Module)
    → AllPresent texts all turned → are_in_order waiting turned ≡ true
    → IsDistinct bytes_eq (map (λ current. current.name) turned)
unfolding IsDistinct
turned_distinct texts all waiting [] present order = tt
turned_distinct texts all waiting (newest ∷ older) present order =
    let rest = (and_parts _ _ order).1 in (
      waiting_apart texts all newest present.0 (newest ∷ waiting) older (inl refl) present.1 rest,
      turned_distinct texts all (newest ∷ waiting) older present.1 rest,
    )

-- the names of modules in order differ
pub ordered_distinct : (texts : Texts) (all : List ℕ → ModuleVerdict) (modules : List Module)
    → AllPresent texts all (reverse modules) → are_in_order [] (reverse modules) ≡ true
    → IsDistinct bytes_eq (map (λ current. current.name) modules)
ordered_distinct texts all modules present order =
    let names = map (λ (current : Module). current.name) modules in
    let N : List (List ℕ) → Type 0 = λ ns. IsDistinct bytes_eq ns in
    subst N (reverse-reverse names)
    (IsDistinct-IsPermutation bytes_eq nat_list_eq_equiv.symm (reverse names) (reverse (reverse names))
    (IsPermutation-reverse (reverse names))
    (subst N (map-reverse (λ (current : Module). current.name) modules)
    (turned_distinct texts all [] (reverse modules) present order)))
