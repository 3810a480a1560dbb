-- The names of the modules of a chain differ.
use Rattle.std.proofs.Common.{◌≡◌, ◌∙◌, ℕ, ◌^◌, ◌<◌, Bool, true, false, List, [], ◌∷◌, drop, codes, refl, sym, ap, arith}
use Rattle.std.proofs.lemmas.Bool.{false_from_ne_true}
use Rattle.std.proofs.lemmas.Fmt.{decimal_injective}
use Rattle.std.specs.Str.{bytes_eq}
use Rattle.cc_graph.proofs.NameLemmas.{same_name, is_same_name}
use Rattle.cc_workload.specs.Workloads.{module_name, definition_name}

first_of : List ℕ → ℕ
first_of [] = 0
first_of (c ∷ cs) = c

-- two modules of one name have one number
pub same_number : (j k : ℕ) → j < 2 ^ 64 → k < 2 ^ 64 → module_name j ≡ module_name k → j ≡ k
same_number j k small_j small_k same = decimal_injective j k small_j small_k (ap (drop 1) same)

-- none has the name of the module that is run
pub not_app : (k : ℕ) → module_name k ≡ codes "app" → ⊥
unfolding first_of
not_app k same = let clash : ◌≡◌ {A = ℕ} 109 97 = ap first_of same in omega arith

pub app_apart : (k : ℕ) → bytes_eq (codes "app") (module_name k) ≡ false
app_apart k = false_from_ne_true (bytes_eq (codes "app") (module_name k)) (λ same. not_app k (sym (same_name (codes "app") (module_name k) same)))

pub apart_from_app : (k : ℕ) → bytes_eq (module_name k) (codes "app") ≡ false
apart_from_app k = false_from_ne_true (bytes_eq (module_name k) (codes "app")) (λ same. not_app k (same_name (module_name k) (codes "app") same))

pub modules_apart : (j k : ℕ) → j < 2 ^ 64 → k < 2 ^ 64 → (j ≡ k → ⊥) → bytes_eq (module_name j) (module_name k) ≡ false
modules_apart j k small_j small_k apart =
    false_from_ne_true (bytes_eq (module_name j) (module_name k))
    (λ same. apart (same_number j k small_j small_k (same_name (module_name j) (module_name k) same)))

pub one_name : (name : List ℕ) → bytes_eq name name ≡ true
one_name name = is_same_name name name refl
