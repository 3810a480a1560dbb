-- Paths, and the test of them through a list of what may stand between.
use Rattle.std.proofs.Common.{◌≡◌, ◌⊎◌, ℕ, Bool, true, List, [], ◌∷◌, inl, inr, refl, sym, subst}
use Rattle.std.proofs.lemmas.Bool.{or_cases, or_left, or_right, and_parts, and_from, cases_Bool}
use Rattle.std.specs.Cmp.Lexicographic.{bytes_decides}
use Rattle.std.specs.List.{list_any}
use Rattle.std.specs.Map.{keys_of, lookup}
use Rattle.std.specs.Option.{unwrap_or}
use Rattle.std.specs.Str.{bytes_eq}
use Rattle.cc_graph.specs.Graph.{ImportMap, does_import, Path, one_step, more_steps, Reaches, reaches, LeadsAlong}
use Rattle.cc_graph.specs.Graph.{leads_through}

-- the list has the element
abbrev pub IsAmong : {A : Type 0} → A → List A → Type 0
IsAmong c [] = ⊥
IsAmong c (m ∷ ms) = (m ≡ c) ⊎ IsAmong c ms

module _ {A : Type 0} (step : A → A → Bool) where
  pub path_on : {a b c : A} → Path step a b → Path step b c → Path step a c
  path_on (one_step s) q = more_steps s q
  path_on (more_steps s p) q = more_steps s (path_on p q)

  -- the first step of a path
  pub first_step : {a b : A} → Path step a b → (c : A) × (step a c ≡ true)
  first_step (one_step {to = to} s) = (to, s)
  first_step (more_steps {between = between} s p) = (between, s)

  -- the last step of a path
  pub last_step : {a b : A} → Path step a b → (c : A) × ((c ≡ a) ⊎ Path step a c) × (step c b ≡ true)
  last_step (one_step {from = from} s) = (from, inl refl, s)
  last_step {a} (more_steps {between = between} s p) =
      let (c, where_from, final) = last_step p in (
        c,
        elim where_from [
          | inl same ↦ inr (let P : A → Type 0 = λ x. Path step a x in subst P (sym same) (one_step s))
          | inr q ↦ inr (more_steps s q)
        ],
        final,
      )

  pub path_to_last : {a b c : A} → (c ≡ a) ⊎ Path step a c → step c b ≡ true → Path step a b
  path_to_last {a} {b} (inl same) s = let P : A → Type 0 = λ x. Path step x b in subst P same (one_step s)
  path_to_last (inr q) s = path_on q (one_step s)

  -- through the list as facts
  abbrev pub Through : List A → A → A → Type 0
  Through [] a b = step a b ≡ true
  Through (m ∷ ms) a b = Through ms a b ⊎ (Through ms a m × Through ms m b)

  pub path_through : (ms : List A) (a b : A) → Through ms a b → Path step a b
  path_through [] a b s = one_step s
  path_through (m ∷ ms) a b (inl p) = path_through ms a b p
  path_through (m ∷ ms) a b (inr (p, q)) = path_on (path_through ms a m p) (path_through ms m b q)

  one_through : (ms : List A) (a b : A) → step a b ≡ true → Through ms a b
  one_through [] a b s = s
  one_through (m ∷ ms) a b s = inl (one_through ms a b s)

  to_head : (ms : List A) (m a : A) → Through (m ∷ ms) a m → Through ms a m
  to_head ms m a (inl p) = p
  to_head ms m a (inr (p, q)) = p

  from_head : (ms : List A) (m b : A) → Through (m ∷ ms) m b → Through ms m b
  from_head ms m b (inl p) = p
  from_head ms m b (inr (p, q)) = q

  -- what is among the list may stand between
  through_at : (ms : List A) (a c b : A) → IsAmong c ms → Through ms a c → Through ms c b → Through ms a b
  through_at [] a c b among p q = absurd among
  through_at (m ∷ ms) a c b (inl same) p q =
      let P : A → Type 0 = λ x. Through (m ∷ ms) a x in
      let Q : A → Type 0 = λ x. Through (m ∷ ms) x b in
      inr (to_head ms m a (subst P (sym same) p), from_head ms m b (subst Q (sym same) q))
  through_at (m ∷ ms) a c b (inr among) (inl p) (inl q) = inl (through_at ms a c b among p q)
  through_at (m ∷ ms) a c b (inr among) (inl p) (inr (q, r)) = inr (through_at ms a c m among p q, r)
  through_at (m ∷ ms) a c b (inr among) (inr (p, q)) (inl r) = inr (p, through_at ms m c b among q r)
  through_at (m ∷ ms) a c b (inr among) (inr (p, q)) (inr (r, t)) = inr (p, t)

  -- a path whose inner places are among the list leads through it
  pub through_path : (ms : List A) → ((c d : A) → step c d ≡ true → IsAmong c ms) → {a b : A} → Path step a b
      → Through ms a b
  through_path ms inner (one_step {from = from} {to = to} s) = one_through ms from to s
  through_path ms inner (more_steps {from = from} {between = between} {to = to} s p) =
      let (d, next) = first_step p in
      through_at ms from between to (inner between d next) (one_through ms from between s) (through_path ms inner p)

  -- the test, and the facts
  pub through_from_test : (ms : List A) (a b : A) → leads_through step ms a b ≡ true → Through ms a b
  through_from_test [] a b h = h
  through_from_test (m ∷ ms) a b h =
      elim (or_cases _ _ h) [
        | inl left ↦ inl (through_from_test ms a b left)
        | inr right ↦
            let parts = and_parts _ _ right in
            inr (through_from_test ms a m parts.0, through_from_test ms m b parts.1)
      ]

  pub test_from_through : (ms : List A) (a b : A) → Through ms a b → leads_through step ms a b ≡ true
  test_from_through [] a b h = h
  test_from_through (m ∷ ms) a b (inl left) = or_left _ _ (test_from_through ms a b left)
  test_from_through (m ∷ ms) a b (inr (p, q)) =
      or_right _ _ (and_from _ _ (test_from_through ms a m p) (test_from_through ms m b q))

  pub path_from_test : (ms : List A) (a b : A) → leads_through step ms a b ≡ true → Path step a b
  path_from_test ms a b h = path_through ms a b (through_from_test ms a b h)

  pub test_from_path : (ms : List A) → ((c d : A) → step c d ≡ true → IsAmong c ms) → (a b : A) → Path step a b
      → leads_through step ms a b ≡ true
  test_from_path ms inner a b p = test_from_through ms a b (through_path ms inner p)

  -- a path by the list of what stands between
  pub path_along : (between : List A) (a b : A) → LeadsAlong step a between b → Path step a b
  path_along [] a b s = one_step s
  path_along (c ∷ cs) a b (s, rest) = more_steps s (path_along cs c b rest)

  pub along_path : {a b : A} → Path step a b → (between : List A) × LeadsAlong step a between b
  along_path (one_step s) = ([], s)
  along_path (more_steps {between = between} s p) = let (others, rest) = along_path p in (between ∷ others, (s, rest))

-- a module that imports is present
importer_among : (imports : ImportMap) (from to : List ℕ)
    → list_any (bytes_eq to) (unwrap_or (lookup (bytes_eq from) imports) []) ≡ true
    → IsAmong from (keys_of imports)
importer_among [] from to h = cc
importer_among (entry ∷ rest) from to h =
    elim (cases_Bool (bytes_eq from entry.0)) [
      | inl same ↦ inl (sym ((bytes_decides from entry.0).0 same))
      | inr other ↦ inr (importer_among rest from to (rw other at h))
    ]

pub importer_is_present : (imports : ImportMap) (from to : List ℕ) → does_import imports from to ≡ true
    → IsAmong from (keys_of imports)
unfolding does_import
importer_is_present imports from to h = importer_among imports from to h

pub reaches-path : (imports : ImportMap) (from to : List ℕ) → reaches imports from to ≡ true → Reaches imports from to
unfolding reaches
reaches-path imports from to h = path_from_test (does_import imports) (keys_of imports) from to h

pub path-reaches : (imports : ImportMap) (from to : List ℕ) → Reaches imports from to → reaches imports from to ≡ true
unfolding reaches
path-reaches imports from to p = test_from_path (does_import imports) (keys_of imports)
    (importer_is_present imports) from to p
