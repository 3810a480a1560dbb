-- Where the positions of a module's context stand in the store, one after the other.
use Rattle.std.proofs.Common.{◌≡◌, ◌<◌, ◌+◌, ◌-◌, arith, ℕ, suc, List, [], ◌∷◌, ◌++◌, map, length, take, drop, get_or, refl, sym, ap, ◌∙◌, append_assoc, drop-cons, length-append, length-take}
use Rattle.std.specs.Prelude.{reverse, nat_eq, nat_lt}
use Rattle.std.specs.Option.{unwrap_or}
use Rattle.std.specs.List.{range_with_len}
use Rattle.std.proofs.lemmas.List.{reverse-append, map-append, map_more, take-append-drop, length-map, length-reverse}
use Rattle.std.proofs.lemmas.List.FromFn.{map-range_with_len_more}
use Rattle.std.proofs.lemmas.Bool.{cond-true, cond-false, eq-eqb, ne_eqb, lt-ltb, le-ltb}
use Rattle.cc_core.specs.Programs.{Import, Module}
use Rattle.cc_runs.specs.Links.{count_definitions, position_in, import_position, linked_position}

-- Lists that are turned round.
pub turned_more : {A : Type 0} (xs : List A) (x : A) → reverse (xs ++ x ∷ []) ≡ x ∷ reverse xs
turned_more xs x = reverse-append xs (x ∷ [])

-- the items before one and that one
pub items_more : {A B : Type 0} (f : A → B) (xs : List A) (k : ℕ) (x : A) → k < length xs → x ≡ get_or xs k x
    → map f (take (k + 1) xs) ≡ map f (take k xs) ++ f x ∷ []
items_more f xs k x below is = map_more f xs k x below ∙ ap (λ y. map f (take k xs) ++ f y ∷ []) (sym is)

pub items_counted : {A B : Type 0} (f : A → B) (xs : List A) (k : ℕ) → k < length xs → length (reverse (map f (take k xs))) ≡ k
items_counted f xs k below =
    length-reverse (map f (take k xs)) ∙ length-map (take k xs) f ∙ (let short = length-take k xs in let e : length (take k xs) ≡ k = omega arith in e)

-- an item stands between those behind it and those before it
pub turned_at : {A B : Type 0} (f : A → B) (xs : List A) (k : ℕ) (x : A) → k < length xs → x ≡ get_or xs k x
    → reverse (map f xs) ≡ reverse (map f (drop (suc k) xs)) ++ f x ∷ reverse (map f (take k xs))
turned_at f xs k x below is =
    let split : xs ≡ take k xs ++ x ∷ drop (suc k) xs =
    sym (take-append-drop k xs) ∙ ap (λ ys. take k xs ++ ys) (drop-cons xs k x below)
    ∙ ap (λ y. take k xs ++ y ∷ drop (suc k) xs) (sym is) in
    ap (λ ys. reverse (map f ys)) split
    ∙ ap reverse (map-append f (take k xs) (x ∷ drop (suc k) xs))
    ∙ reverse-append (map f (take k xs)) (f x ∷ map f (drop (suc k) xs))
    ∙ ap (λ ys. ys ++ reverse (map f (take k xs))) (reverse-append (f x ∷ []) (map f (drop (suc k) xs)))
    ∙ append_assoc (reverse (map f (drop (suc k) xs))) (f x ∷ []) (reverse (map f (take k xs)))

module _ (devices : ℕ) (earlier : List Module) where
  device_stays : (imports : List Import) (p : ℕ) → p < devices → import_position devices earlier imports p ≡ p
  device_stays [] p below = refl
  device_stays (i ∷ imports) p below =
      cond-false (nat_eq p (devices + length imports)) _ _ (ne_eqb p (devices + length imports) (λ same. omega arith))
      ∙ device_stays imports p below

  -- a device stands where it is
  pub device_placed : (imports : List Import) (p : ℕ) → p < devices → linked_position devices earlier imports p ≡ p
  device_placed imports p below =
      cond-true (nat_lt p (devices + length imports)) _ _ (lt-ltb p (devices + length imports) (omega arith))
      ∙ device_stays imports p below

  import_at : (front back : List Import) (i : Import) → import_position devices earlier (front ++ i ∷ back) (devices + length back)
      ≡ unwrap_or (position_in devices i.module_name i.definition_name earlier) (devices + length back)
  import_at [] back i = cond-true (nat_eq (devices + length back) (devices + length back)) _ _ (eq-eqb (devices + length back) (devices + length back) refl)
  import_at (x ∷ front) back i =
      let long : length (front ++ i ∷ back) ≡ length front + suc (length back) = length-append front (i ∷ back) in
      cond-false (nat_eq (devices + length back) (devices + length (front ++ i ∷ back))) _ _
      (ne_eqb (devices + length back) (devices + length (front ++ i ∷ back)) (λ same. omega arith))
      ∙ import_at front back i

  -- an import stands where what it names does
  pub import_placed : (front back : List Import) (i : Import) → linked_position devices earlier (front ++ i ∷ back) (devices + length back)
      ≡ unwrap_or (position_in devices i.module_name i.definition_name earlier) (devices + length back)
  import_placed front back i =
      let long : length (front ++ i ∷ back) ≡ length front + suc (length back) = length-append front (i ∷ back) in
      cond-true (nat_lt (devices + length back) (devices + length (front ++ i ∷ back))) _ _
      (lt-ltb (devices + length back) (devices + length (front ++ i ∷ back)) (omega arith))
      ∙ import_at front back i

  -- the module's own definitions stand behind all earlier ones
  pub own_placed : (imports : List Import) (k : ℕ) → linked_position devices earlier imports (devices + length imports + k) ≡ devices + count_definitions earlier + k
  own_placed imports k =
      cond-false (nat_lt (devices + length imports + k) (devices + length imports)) _ _
      (le-ltb (devices + length imports + k) (devices + length imports) (omega arith))
      ∙ (let rest : devices + count_definitions earlier + (devices + length imports + k - (devices + length imports)) ≡ devices + count_definitions earlier + k = omega arith in rest)

  -- the same of a list of imports
  pub import_listed : {A : Type 0} (f : A → Import) (xs : List A) (k : ℕ) (x : A) → k < length xs → x ≡ get_or xs k x
      → linked_position devices earlier (reverse (map f xs)) (devices + k)
      ≡ unwrap_or (position_in devices (f x).module_name (f x).definition_name earlier) (devices + k)
  import_listed f xs k x below is =
      let front = reverse (map f (drop (suc k) xs)) in
      let back = reverse (map f (take k xs)) in
      let counted = items_counted f xs k below in
      ap (λ is. linked_position devices earlier is (devices + k)) (turned_at f xs k x below is)
      ∙ ap (λ n. linked_position devices earlier (front ++ f x ∷ back) (devices + n)) (sym counted)
      ∙ import_placed front back (f x)
      ∙ ap (λ n. unwrap_or (position_in devices (f x).module_name (f x).definition_name earlier) (devices + n)) counted

  pub own_listed : (imports : List Import) (k : ℕ)
      → linked_position devices earlier (reverse imports) (devices + length imports + k) ≡ devices + count_definitions earlier + k
  own_listed imports k =
      ap (λ n. linked_position devices earlier (reverse imports) (devices + n + k)) (sym (length-reverse imports))
      ∙ own_placed (reverse imports) k

-- no position
pub placed_none : (f : ℕ → ℕ) (to : List ℕ) → to ≡ [] → to ≡ map f (range_with_len 0 (length to))
placed_none f to none = none ∙ sym (ap (λ xs. map f (range_with_len 0 (length xs))) none)

-- one position more
pub placed_more : (f : ℕ → ℕ) (to new : List ℕ) (n x : ℕ) → length to ≡ n → to ≡ map f (range_with_len 0 (length to))
    → f n ≡ x → new ≡ to ++ x ∷ [] → new ≡ map f (range_with_len 0 (length new))
placed_more f to new n x count are here more =
    let longer : length new ≡ n + 1 = ap length more ∙ length-append to (x ∷ []) ∙ ap (λ m. m + 1) count in
    more ∙ ap (λ ys. ys ++ x ∷ []) (are ∙ ap (λ m. map f (range_with_len 0 m)) count)
    ∙ ap (λ y. map f (range_with_len 0 n) ++ y ∷ []) (sym here)
    ∙ sym (map-range_with_len_more f 0 n n (omega arith)) ∙ ap (λ m. map f (range_with_len 0 m)) (sym longer)
