-- The texts that are present once the modules of a workload are put.
use Rattle.std.proofs.Common.{◌≡◌, ◌∙◌, ◌⊎◌, ℕ, zero, suc, ◌+◌, ◌-◌, ◌^◌, ◌<◌, ◌≤◌, Bool, true, false, cond, List, [], ◌∷◌, length, Option, Some, None, codes, refl, sym, ap, subst, inl, inr, arith}
use Rattle.std.proofs.lemmas.Bool.{cases_eq}
use Rattle.std.specs.BTreeMap.{insert_entry}
use Rattle.std.specs.BTreeSet.{insert_key}
use Rattle.std.specs.List.{AllByRecursion}
use Rattle.std.specs.List.Sorted.{IsStrictlySortedBy}
use Rattle.std.specs.Map.{keys_of, lookup}
use Rattle.std.specs.Str.{bytes_eq}
use Rattle.cc_base.specs.Names.{compare_names}
use Rattle.cc_verdicts.specs.PresentTexts.{Texts, ArePresent, text_of}
use Rattle.cc_workload.specs.Workloads.{module_name, printing_module, counting_module, calling_module, entry_module}
use Rattle.cc_workload_outputs.specs.PresentNames.{chain_in_order, names_in_order}
use Rattle.cc_workload_outputs.proofs.ChainNames.{app_apart, apart_from_app, modules_apart, one_name}
use Rattle.cc_workload_outputs.proofs.InsertedNames.{lookup-insert_entry, keys_of-insert_entry, length-insert_entry}
use Rattle.cc_workload_outputs.proofs.SortedNames.{each_inserted, sorted_inserted, insert_key-present, found_among}

-- the name is that of the module that is run, or of one of the chain
abbrev pub IsMember : ℕ → List ℕ → Type 0
IsMember n name = (name ≡ codes "app") ⊎ ((k : ℕ) × (1 ≤ k) × (k ≤ n) × (name ≡ module_name k))

-- The present texts are those of a chain of so many modules, the first of which is this, and of the one that is run.
pub record AreChained (first : List ℕ) (n : ℕ) (texts : Texts) : Type 0 where
  pub in_order : keys_of texts ≡ names_in_order n
  pub of_first : text_of texts (module_name 1) ≡ Some first
  pub of_calling : (k : ℕ) → 2 ≤ k → k ≤ n → text_of texts (module_name k) ≡ Some (calling_module k)
  pub of_entry : text_of texts (codes "app") ≡ Some (entry_module n)

-- no text is too long
pub record AreShort : Type 0 where
  pub of_calling : (k : ℕ) → 2 ≤ k → k ≤ 200 → length (calling_module k) ≤ 65536
  pub of_entry : (n : ℕ) → 1 ≤ n → n ≤ 200 → length (entry_module n) ≤ 65536

-- the texts with so many modules of the chain put, from this number on
abbrev pub linked : Texts → ℕ → ℕ → Texts
linked texts a zero = texts
linked texts a (suc count) = linked (insert_entry compare_names texts (module_name a) (calling_module a)) (a + 1) count

-- the texts behind each put
abbrev pub first_text : Texts
first_text = insert_entry compare_names [] (module_name 1) printing_module

abbrev pub chain_texts : ℕ → Texts
chain_texts n = linked first_text 2 (n - 1)

abbrev pub present_texts : ℕ → Texts
present_texts n = insert_entry compare_names (chain_texts n) (codes "app") (entry_module n)

abbrev pub changed_texts : ℕ → Texts
changed_texts n = insert_entry compare_names (present_texts n) (module_name 1) counting_module

-- LOOKING UP

-- what was put is found, and what has another name is found as before
put_here : (texts : Texts) (name text : List ℕ) → text_of (insert_entry compare_names texts name text) name ≡ Some text
put_here texts name text =
    lookup-insert_entry texts name text name
    ∙ ap (λ b. cond b (Some text) (text_of texts name)) (one_name name)

put_elsewhere : (texts : Texts) (name text other : List ℕ) → bytes_eq other name ≡ false
    → text_of (insert_entry compare_names texts name text) other ≡ text_of texts other
put_elsewhere texts name text other apart =
    lookup-insert_entry texts name text other
    ∙ ap (λ b. cond b (Some text) (text_of texts other)) apart

linked_elsewhere : (count a : ℕ) (texts : Texts) (other : List ℕ)
    → ((k : ℕ) → a ≤ k → k < a + count → bytes_eq other (module_name k) ≡ false)
    → text_of (linked texts a count) other ≡ text_of texts other
linked_elsewhere zero a texts other apart = refl
linked_elsewhere (suc count) a texts other apart =
    linked_elsewhere count (a + 1) (insert_entry compare_names texts (module_name a) (calling_module a)) other
    (λ k some few. apart k (omega arith) (omega arith))
    ∙ put_elsewhere texts (module_name a) (calling_module a) other (apart a (omega arith) (omega arith))

linked_here : (count a : ℕ) (texts : Texts) (k : ℕ) → a ≤ k → k < a + count → a + count < 2 ^ 64
    → text_of (linked texts a count) (module_name k) ≡ Some (calling_module k)
linked_here zero a texts k some few small = absurd (omega arith)
linked_here (suc count) a texts k some few small =
    let next = insert_entry compare_names texts (module_name a) (calling_module a) in
    elim (cases_eq k a) [
      | inl same ↦
          subst (λ j. text_of (linked next (a + 1) count) (module_name j) ≡ Some (calling_module j)) (sym same)
          (linked_elsewhere count (a + 1) next (module_name a)
          (λ j above below. modules_apart a j (omega arith) (omega arith) (λ e. omega arith))
          ∙ put_here texts (module_name a) (calling_module a))
      | inr apart ↦ linked_here count (a + 1) next k (omega arith) (omega arith) (omega arith)
    ]

-- ORDER

linked_order : (count a : ℕ) (texts : Texts) → keys_of texts ≡ chain_in_order a
    → keys_of (linked texts (a + 1) count) ≡ chain_in_order (a + count)
linked_order zero a texts is = is ∙ ap chain_in_order (let same : a ≡ a + 0 = omega arith in same)
linked_order (suc count) a texts is =
    let next = insert_entry compare_names texts (module_name (a + 1)) (calling_module (a + 1)) in
    let one_more : a + 1 ≡ suc a = omega arith in
    let last : a + 1 + count ≡ a + suc count = omega arith in
    let order : keys_of next ≡ chain_in_order (a + 1) =
    keys_of-insert_entry texts (module_name (a + 1)) (calling_module (a + 1))
    ∙ ap (λ names. insert_key compare_names names (module_name (a + 1))) is
    ∙ ap (λ j. insert_key compare_names (chain_in_order a) (module_name j)) one_more
    ∙ ap chain_in_order (sym one_more) in
    linked_order count (a + 1) next order ∙ ap chain_in_order last

chain_order : (n : ℕ) → 1 ≤ n → keys_of (chain_texts n) ≡ chain_in_order n
chain_order n some =
    let last : 1 + (n - 1) ≡ n = omega arith in
    linked_order (n - 1) 1 first_text refl ∙ ap chain_in_order last

present_order : (n : ℕ) → 1 ≤ n → keys_of (present_texts n) ≡ names_in_order n
present_order n some =
    keys_of-insert_entry (chain_texts n) (codes "app") (entry_module n)
    ∙ ap (λ names. insert_key compare_names names (codes "app")) (chain_order n some)

chain_sorted : (n : ℕ) → IsStrictlySortedBy compare_names (chain_in_order n)
unfolding IsStrictlySortedBy
chain_sorted zero = tt
chain_sorted (suc n) = sorted_inserted (chain_in_order n) (module_name (suc n)) (chain_sorted n)

pub names_sorted : (n : ℕ) → IsStrictlySortedBy compare_names (names_in_order n)
names_sorted n = sorted_inserted (chain_in_order n) (codes "app") (chain_sorted n)

-- texts of a chain are present ones
pub are_present : (first : List ℕ) (n : ℕ) (texts : Texts) → AreChained first n texts → ArePresent texts
are_present first n texts chained = subst (IsStrictlySortedBy compare_names) (sym chained.in_order) (names_sorted n)

chain_members : (n m : ℕ) → m ≤ n → AllByRecursion (IsMember n) (chain_in_order m)
chain_members n zero few = tt
chain_members n (suc m) few =
    each_inserted (IsMember n) (chain_in_order m) (module_name (suc m)) (inr (suc m, omega arith, few, refl)) (chain_members n m (omega arith))

-- each present module is one of them
pub members : (n : ℕ) → AllByRecursion (IsMember n) (names_in_order n)
members n = each_inserted (IsMember n) (chain_in_order n) (codes "app") (inl refl) (chain_members n n (omega arith))

-- BOTH

pub present_chained : (n : ℕ) → 1 ≤ n → n ≤ 200 → AreChained printing_module n (present_texts n)
present_chained n some few = record {
  in_order = present_order n some;
  of_first =
      put_elsewhere (chain_texts n) (codes "app") (entry_module n) (module_name 1) (apart_from_app 1)
      ∙ linked_elsewhere (n - 1) 2 first_text (module_name 1) (λ k above below. modules_apart 1 k (omega arith) (omega arith) (λ e. omega arith))
      ∙ put_here [] (module_name 1) printing_module;
  of_calling = λ k above below.
      put_elsewhere (chain_texts n) (codes "app") (entry_module n) (module_name k) (apart_from_app k)
      ∙ linked_here (n - 1) 2 first_text k above (omega arith) (omega arith);
  of_entry = put_here (chain_texts n) (codes "app") (entry_module n);
}

changed_order : (n : ℕ) → 1 ≤ n → n ≤ 200 → keys_of (changed_texts n) ≡ names_in_order n
changed_order n some few =
    let chained = present_chained n some few in
    keys_of-insert_entry (present_texts n) (module_name 1) counting_module
    ∙ insert_key-present (keys_of (present_texts n)) (module_name 1) (are_present printing_module n (present_texts n) chained)
    (found_among (present_texts n) (module_name 1) printing_module chained.of_first)
    ∙ chained.in_order

pub changed_chained : (n : ℕ) → 1 ≤ n → n ≤ 200 → AreChained counting_module n (changed_texts n)
changed_chained n some few =
    let chained = present_chained n some few in
    record {
      in_order = changed_order n some few;
      of_first = put_here (present_texts n) (module_name 1) counting_module;
      of_calling = λ k above below.
          put_elsewhere (present_texts n) (module_name 1) counting_module (module_name k)
          (modules_apart k 1 (omega arith) (omega arith) (λ e. omega arith))
          ∙ chained.of_calling k above below;
      of_entry = put_elsewhere (present_texts n) (module_name 1) counting_module (codes "app") (app_apart 1) ∙ chained.of_entry;
    }

-- SIZE

linked_few : (count a : ℕ) (texts : Texts) → length (linked texts a count) ≤ length texts + count
linked_few zero a texts = omega arith
linked_few (suc count) a texts =
    let next = insert_entry compare_names texts (module_name a) (calling_module a) in
    omega (arith, linked_few count (a + 1) next, length-insert_entry texts (module_name a) (calling_module a))

pub chain_few : (n : ℕ) → 1 ≤ n → length (chain_texts n) ≤ n
chain_few n some = let all : length (chain_texts n) ≤ 1 + (n - 1) = linked_few (n - 1) 2 first_text in omega arith

pub present_few : (n : ℕ) → 1 ≤ n → length (present_texts n) ≤ n + 1
present_few n some = omega (arith, chain_few n some, length-insert_entry (chain_texts n) (codes "app") (entry_module n))
