-- What is found by its name where one more is put in its place.
use Rattle.std.proofs.Common.{◌≡◌, ◌∙◌, ℕ, suc, ◌+◌, ◌≤◌, Bool, true, false, cond, List, [], ◌∷◌, length, Option, Some, refl, sym, ap, subst, arith}
use Rattle.std.proofs.lemmas.Bool.{true≢false}
use Rattle.std.specs.BTreeMap.{insert_entry}
use Rattle.std.specs.BTreeSet.{insert_key}
use Rattle.std.specs.Map.{keys_of, lookup}
use Rattle.std.specs.Ordering.{is_eq, match_ordering}
use Rattle.std.specs.Str.{bytes_eq}
use Rattle.std.specs.declared.cmp.Ordering.{Ordering}
use Rattle.std.specs.declared.cmp.Ordering.TheVariants.{Less, Equal, Greater}
use Rattle.cc_base.specs.Names.{compare_names}
use Rattle.cc_base.specs.NameTexts.{bytes_eq-order}
use Rattle.cc_graph.proofs.NameLemmas.{same_name}

cond_twice : {X : Type 0} (b : Bool) (x y z : X) → cond b x z ≡ cond b x (cond b y z)
cond_twice true x y z = refl
cond_twice false x y z = refl

cond_swap : {X : Type 0} (a b : Bool) (x y z : X) → (a ≡ true → b ≡ true → ⊥) → cond a x (cond b y z) ≡ cond b y (cond a x z)
cond_swap true true x y z apart = absurd (apart refl refl)
cond_swap true false x y z apart = refl
cond_swap false true x y z apart = refl
cond_swap false false x y z apart = refl

-- names between which the order finds a difference
apart_by : (k e : List ℕ) (r : Ordering) → compare_names k e ≡ r → is_eq r ≡ false → (q : List ℕ) → bytes_eq q e ≡ true → bytes_eq q k ≡ true → ⊥
apart_by k e r is apart q to_e to_k =
    let same : bytes_eq e e ≡ bytes_eq k e = ap (λ x. bytes_eq x e) (sym (same_name q e to_e) ∙ same_name q k to_k) in
    let here : bytes_eq e e ≡ true = ap (λ x. bytes_eq x e) (sym (same_name q e to_e)) ∙ to_e in
    true≢false (sym here ∙ same ∙ bytes_eq-order k e ∙ ap is_eq is ∙ apart)

lookup_at : {X : Type 0} (q k : List ℕ) (v : X) (e : List ℕ × X) (es more : List (List ℕ × X)) (r : Ordering)
    → compare_names k e.0 ≡ r → lookup (bytes_eq q) more ≡ cond (bytes_eq q k) (Some v) (lookup (bytes_eq q) es)
    → lookup (bytes_eq q) (match_ordering r ((k, v) ∷ e ∷ es) ((e.0, v) ∷ es) (e ∷ more))
    ≡ cond (bytes_eq q k) (Some v) (lookup (bytes_eq q) (e ∷ es))
lookup_at q k v e es more Less is behind = refl
lookup_at q k v e es more Equal is behind =
    let same : k ≡ e.0 = same_name k e.0 (bytes_eq-order k e.0 ∙ ap is_eq is) in
    cond_twice (bytes_eq q e.0) (Some v) (Some e.1) (lookup (bytes_eq q) es)
    ∙ ap (λ x. cond (bytes_eq q x) (Some v) (lookup (bytes_eq q) (e ∷ es))) (sym same)
lookup_at q k v e es more Greater is behind =
    ap (λ o. cond (bytes_eq q e.0) (Some e.1) o) behind
    ∙ cond_swap (bytes_eq q e.0) (bytes_eq q k) (Some e.1) (Some v) (lookup (bytes_eq q) es) (apart_by k e.0 Greater is refl q)

-- the value that was put is found at its name, and elsewhere what was found before
pub lookup-insert_entry : {X : Type 0} (es : List (List ℕ × X)) (k : List ℕ) (v : X) (q : List ℕ)
    → lookup (bytes_eq q) (insert_entry compare_names es k v) ≡ cond (bytes_eq q k) (Some v) (lookup (bytes_eq q) es)
lookup-insert_entry [] k v q = refl
lookup-insert_entry (e ∷ es) k v q =
    lookup_at q k v e es (insert_entry compare_names es k v) (compare_names k e.0) refl (lookup-insert_entry es k v q)

keys_at : {X : Type 0} (k : List ℕ) (v : X) (e : List ℕ × X) (es more : List (List ℕ × X)) (r : Ordering)
    → keys_of (match_ordering r ((k, v) ∷ e ∷ es) ((e.0, v) ∷ es) (e ∷ more))
    ≡ match_ordering r (k ∷ e.0 ∷ keys_of es) (e.0 ∷ keys_of es) (e.0 ∷ keys_of more)
keys_at k v e es more Less = refl
keys_at k v e es more Equal = refl
keys_at k v e es more Greater = refl

-- the names have that one put among them
pub keys_of-insert_entry : {X : Type 0} (es : List (List ℕ × X)) (k : List ℕ) (v : X)
    → keys_of (insert_entry compare_names es k v) ≡ insert_key compare_names (keys_of es) k
keys_of-insert_entry [] k v = refl
keys_of-insert_entry (e ∷ es) k v =
    keys_at k v e es (insert_entry compare_names es k v) (compare_names k e.0)
    ∙ ap (λ names. match_ordering (compare_names k e.0) (k ∷ e.0 ∷ keys_of es) (e.0 ∷ keys_of es) (e.0 ∷ names)) (keys_of-insert_entry es k v)

length_at : {X : Type 0} (k : List ℕ) (v : X) (e : List ℕ × X) (es more : List (List ℕ × X)) (r : Ordering) → length more ≤ length es + 1
    → length (match_ordering r ((k, v) ∷ e ∷ es) ((e.0, v) ∷ es) (e ∷ more)) ≤ length (e ∷ es) + 1
length_at k v e es more Less few = omega arith
length_at k v e es more Equal few = omega arith
length_at k v e es more Greater few = omega arith

-- and there is one more at most
pub length-insert_entry : {X : Type 0} (es : List (List ℕ × X)) (k : List ℕ) (v : X) → length (insert_entry compare_names es k v) ≤ length es + 1
length-insert_entry [] k v = omega arith
length-insert_entry (e ∷ es) k v =
    length_at k v e es (insert_entry compare_names es k v) (compare_names k e.0) (length-insert_entry es k v)
