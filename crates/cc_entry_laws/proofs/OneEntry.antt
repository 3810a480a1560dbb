-- A definition of a present module has one entry.
use Rattle.std.proofs.Common.{◌≡◌, ℕ, Bool, true, false, ◌||◌, List, [], ◌∷◌, ◌++◌, map}
use Rattle.std.proofs.Common.{refl, sym, ap, ◌∙◌, subst, inl, inr, if◌then◌else◌}
use Rattle.std.proofs.lemmas.Bool.{cases_Bool, and_parts, or_left, or_right}
use Rattle.std.proofs.lemmas.Cmp.{nat_list_eq_equiv}
use Rattle.std.proofs.lemmas.Simd.{map-map}
use Rattle.std.specs.List.{AllByRecursion, IsDistinct}
use Rattle.std.specs.Ordering.{is_lt}
use mathlib.Core.List.{reverse_aux}
use Rattle.std.specs.Str.{bytes_eq}
use Rattle.std.specs.declared.cmp.Ordering.{Ordering}
use Rattle.std.specs.declared.cmp.Ordering.TheVariants.{Less, Equal, Greater}
use Rattle.cc_core.specs.Programs.{Module, is_listed, is_ready, are_in_order}
use Rattle.cc_entry_laws.specs.PresentEntries as checked
use Rattle.cc_entry_laws.specs.PresentEntries.{CheckedModule, program_module}
use Rattle.cc_base.specs.Names.{compare_names, is_name_before}
use Rattle.cc_graph.proofs.NameLemmas.{same_name, is_same_name, turned}
use Rattle.cc_graph.proofs.OrderLemmas.{clash, list_all_at}
use Rattle.cc_graph.proofs.Paths.{IsAmong}
use Rattle.cc_verdicts.specs.ModuleVerdicts.{ModuleVerdict}
use Rattle.cc_verdicts.specs.PresentTexts.{Texts}
use Rattle.cc_verdicts.proofs.Schedules.{among_left}
use Rattle.cc_entry_laws.specs.EntryLaws.{EntriesOfTextsAreUnique}
use Rattle.cc_entry_laws.proofs.EntryLinks.{AllPresent}
use Rattle.cc_entry_laws.proofs.EntryModules.{all_turned}
use Rattle.cc_entry_laws.proofs.EntryNames.{one_module, ordered_distinct}
use Rattle.cc_entry_laws.proofs.PlainEntries.{present_module, plain_modules}

-- of two names each cannot come before the other
less_before : (a b : List ℕ) (answer : Ordering) → compare_names a b ≡ answer → is_lt answer ≡ true
    → compare_names a b ≡ Less
less_before a b Less is before = is
less_before a b Equal is before = cc
less_before a b Greater is before = cc

not_both_before : (a b : List ℕ) → is_name_before a b ≡ true → is_name_before b a ≡ true → ⊥
not_both_before a b first second =
    clash (is_name_before b a) second
    (ap is_lt (turned a b (less_before a b (compare_names a b) refl first)))

-- the part of an order that stands in front, with those that come later waiting
order_front : (rest waiting front : List Module) → are_in_order waiting (reverse_aux rest front) ≡ true
    → are_in_order (rest ++ waiting) front ≡ true
order_front [] waiting front order = order
order_front (first ∷ rest) waiting front order = (and_parts _ _ (order_front rest waiting (first ∷ front) order)).1

if_ready : (b c : Bool) → b ≡ true → (if b then c else true) ≡ true → c ≡ true
if_ready b c is holds = rw is at holds

-- the module of a listed name
record IsThere (modules : List Module) (name : List ℕ) : Type 0 where
  one : Module
  among : IsAmong one modules
  named : one.name ≡ name

there : (modules : List Module) (name : List ℕ) → is_listed modules name ≡ true → IsThere modules name
there [] name listed = cc
there (first ∷ rest) name listed =
    elim (cases_Bool (bytes_eq first.name name)) [
      | inl same ↦ record { one = first; among = inl refl; named = same_name first.name name same }
      | inr other ↦
          (let it = there rest name (rw other at listed) in
          record { one = it.one; among = inr it.among; named = it.named })
    ]

apart_from : (first : List ℕ) (modules : List Module) (name : List ℕ)
    → AllByRecursion (λ y. bytes_eq first y ≡ false) (map (λ current. current.name) modules)
    → is_listed modules name ≡ true → bytes_eq first name ≡ false
apart_from first [] name apart listed = cc
apart_from first (next ∷ rest) name apart listed =
    elim (cases_Bool (bytes_eq next.name name)) [
      | inl same ↦ (ap (bytes_eq first) (sym (same_name next.name name same)) ∙ apart.0)
      | inr other ↦ apart_from first rest name apart.1 (rw other at listed)
    ]

later : (first : List ℕ) (modules : List Module) (name : List ℕ) → bytes_eq first name ≡ false
    → (bytes_eq first name || is_listed modules name) ≡ true → is_listed modules name ≡ true
later first modules name apart listed = rw apart at listed

module _ (texts : Texts) (all : List ℕ → ModuleVerdict) where
  present_among : (modules : List Module) (one : Module) → AllPresent texts all modules → IsAmong one modules
      → one ≡ present_module texts all one.name
  present_among [] one present among = absurd among
  present_among (first ∷ rest) one present (inl same) =
      let P : Module → Type 0 = λ m. m ≡ present_module texts all m.name in subst P same present.0
  present_among (first ∷ rest) one present (inr among) = present_among rest one present.1 among

  -- the next one comes before each other one that is ready
  next_before : (front : List Module) (first : Module) (rest : List Module) (other : Module)
      → are_in_order [] (reverse_aux (first ∷ rest) front) ≡ true → IsAmong other rest
      → is_ready front other ≡ true → is_name_before first.name other.name ≡ true
  next_before front first rest other order among ready =
      let parts = and_parts _ _ (order_front rest [] (first ∷ front) order) in
      if_ready (is_ready front other) (is_name_before first.name other.name) ready
      (list_all_at (λ m. if is_ready front m then is_name_before first.name m.name else true) (rest ++ []) other
      (among_left other rest [] among) (and_parts _ _ parts.0).1)

  next_ready : (front : List Module) (first : Module) (rest : List Module)
      → are_in_order [] (reverse_aux (first ∷ rest) front) ≡ true → is_ready front first ≡ true
  next_ready front first rest order =
      (and_parts _ _ (and_parts _ _ (order_front rest [] (first ∷ front) order)).0).0

  -- a next one of another name is ahead of the other next one
  ahead : (front : List Module) (first : Module) (rest : List Module) (other : Module) (others : List Module)
      → are_in_order [] (reverse_aux (first ∷ rest) front) ≡ true
      → are_in_order [] (reverse_aux (other ∷ others) front) ≡ true
      → AllPresent texts all (first ∷ rest) → AllPresent texts all (other ∷ others)
      → is_listed (first ∷ rest) other.name ≡ true → bytes_eq first.name other.name ≡ false
      → is_name_before first.name other.name ≡ true
  ahead front first rest other others order order' present present' listed apart =
      let it = there rest other.name (rw apart at listed) in
      let same = one_module texts all it.one other (present_among rest it.one present.1 it.among) present'.0 it.named in
      let A : Module → Type 0 = λ m. IsAmong m rest in
      next_before front first rest other order (subst A same it.among) (next_ready front other others order')

  same_modules : (front xs ys : List Module) → are_in_order [] (reverse_aux xs front) ≡ true
      → are_in_order [] (reverse_aux ys front) ≡ true → AllPresent texts all xs → AllPresent texts all ys
      → IsDistinct bytes_eq (map (λ current. current.name) xs) → IsDistinct bytes_eq (map (λ current. current.name) ys)
      → ((name : List ℕ) → is_listed xs name ≡ true → is_listed ys name ≡ true)
      → ((name : List ℕ) → is_listed ys name ≡ true → is_listed xs name ≡ true)
      → xs ≡ ys
  unfolding IsDistinct
  same_modules front [] [] order order' present present' apart apart' over back = refl
  same_modules front [] (y ∷ ys) order order' present present' apart apart' over back =
      absurd (let no = back y.name (or_left _ _ (is_same_name y.name y.name refl)) in cc)
  same_modules front (x ∷ xs) [] order order' present present' apart apart' over back =
      absurd (let no = over x.name (or_left _ _ (is_same_name x.name x.name refl)) in cc)
  same_modules front (x ∷ xs) (y ∷ ys) order order' present present' apart apart' over back =
      elim (cases_Bool (bytes_eq x.name y.name)) [
        | inl named ↦
            (let names = same_name x.name y.name named in
            let first = one_module texts all x y present.0 present'.0 names in
            let O : Module → Type 0 = λ m. are_in_order [] (reverse_aux ys (m ∷ front)) ≡ true in
            let rest = same_modules (x ∷ front) xs ys order (subst O (sym first) order') present.1 present'.1
            apart.1 apart'.1
            (λ name listed.
            later y.name ys name (ap (λ n. bytes_eq n name) (sym names) ∙ apart_from x.name xs name apart.0 listed)
            (over name (or_right _ _ listed)))
            (λ name listed.
            later x.name xs name (ap (λ n. bytes_eq n name) names ∙ apart_from y.name ys name apart'.0 listed)
            (back name (or_right _ _ listed))) in
            (λ j. first j ∷ rest j))
        | inr other ↦
            absurd
            (not_both_before x.name y.name
            (ahead front x xs y ys order order' present present'
            (back y.name (or_left _ _ (is_same_name y.name y.name refl))) other)
            (ahead front y ys x xs order' order present' present
            (over x.name (or_left _ _ (is_same_name x.name x.name refl)))
            (nat_list_eq_equiv.symm y.name x.name ∙ other)))
      ]

-- present modules are those of their names
by_names : (texts : Texts) (all : List ℕ → ModuleVerdict) (modules : List CheckedModule)
    → AllByRecursion (λ current. current ≡ checked.present_module texts all current.name) modules
    → modules ≡ map (checked.present_module texts all) (map (λ current. current.name) modules)
by_names texts all [] present = refl
by_names texts all (first ∷ rest) present =
    let behind = by_names texts all rest present.1 in λ j. present.0 j ∷ behind j

names_of : (modules : List CheckedModule)
    → map (λ (current : Module). current.name) (map program_module modules) ≡ map (λ current. current.name) modules
names_of modules = map-map (λ (current : Module). current.name) program_module modules

pub one_entry : EntriesOfTextsAreUnique
one_entry devices texts all module_name name started first second is other =
    let P : Module → Type 0 = λ current. current ≡ present_module texts all current.name in
    let left = map program_module first.modules in
    let right = map program_module second.modules in
    let is_present = plain_modules texts all first.modules is.present in
    let other_present = plain_modules texts all second.modules other.present in
    let plain = same_modules texts all [] left right is.order other.order is_present other_present
    (ordered_distinct texts all left (all_turned P left is_present) is.order)
    (ordered_distinct texts all right (all_turned P right other_present) other.order)
    (λ n listed. (other.reached n).1 ((is.reached n).0 listed))
    (λ n listed. (is.reached n).1 ((other.reached n).0 listed)) in
    let names = sym (names_of first.modules) ∙ ap (map (λ (current : Module). current.name)) plain
    ∙ names_of second.modules in
    let modules = by_names texts all first.modules is.present ∙ ap (map (checked.present_module texts all)) names
    ∙ sym (by_names texts all second.modules other.present) in
    let devices_same = is.shapes ∙ sym other.shapes in
    let modules_same = is.of_module ∙ sym other.of_module in
    let names_same = is.of_definition ∙ sym other.of_definition in
    let permits_same = is.permits ∙ sym other.permits in
    (λ j. record {
      devices = devices_same j;
      modules = modules j;
      module_name = modules_same j;
      definition_name = names_same j;
      authority = permits_same j;
    })
