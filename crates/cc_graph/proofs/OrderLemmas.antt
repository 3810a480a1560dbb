-- The next module by places, and the next one by names.
use Rattle.std.proofs.Common.{◌≡◌, ℕ, ◌<◌, Bool, true, false, not, ◌&&◌, List, [], ◌∷◌, length, reverse, get_or, ap}
use Rattle.std.proofs.Common.{◌∙◌, sym, subst, refl, inl, inr, arith}
use Rattle.std.proofs.lemmas.Bool.{cases_eq, cases_lt, cases_Bool, not-true, not_from_true, not_from_false, and_parts}
use Rattle.std.proofs.lemmas.Bool.{and_from, and_left, and_right, or_left, or_right, lt-ltb, ltb-true, true≢false}
use Rattle.std.proofs.lemmas.List.Sorted.{list_any-IsPermutation, IsPermutation-reverse}
use Rattle.std.specs.Cmp.{tied_itself}
use Rattle.std.specs.List.{list_all, list_any}
use Rattle.std.specs.Map.{keys_of}
use Rattle.std.specs.Ordering.{is_lt}
use Rattle.std.specs.Prelude.{ltb}
use Rattle.std.specs.Str.{bytes_eq}
use Rattle.cc_graph.specs.Graph.{ImportMap, imported, does_import, reaches, is_listed, holds_up}
use Rattle.cc_base.specs.Names.{compare_names, is_name_before}
use Rattle.cc_graph.specs.Graph.{is_ready, may_come, is_next}
use Rattle.cc_graph.specs.Places.{has_bit, has_at, name_at, HoldsUp, MayCome, IsHeld}
use Rattle.cc_graph.proofs.GraphLemmas.{Mirrors, leads-reaches}
use Rattle.cc_graph.proofs.NameLemmas.{names_total, same_name, is_same_name, less_at, turned, present_at, place_among}
use Rattle.cc_graph.proofs.NameLemmas.{present_among}
use Rattle.cc_graph.proofs.Paths.{IsAmong}
use Rattle.cc_graph.proofs.Ranks.{all_listed}

pub list_all_each : {X : Type 0} (test : X → Bool) (xs : List X) → ((x : X) → IsAmong x xs → test x ≡ true)
    → list_all test xs ≡ true
list_all_each test [] each = refl
list_all_each test (x ∷ xs) each =
    and_from _ _ (each x (inl refl)) (list_all_each test xs (λ y among. each y (inr among)))

pub list_all_at : {X : Type 0} (test : X → Bool) (xs : List X) (x : X) → IsAmong x xs → list_all test xs ≡ true
    → test x ≡ true
list_all_at test [] x among all = absurd among
list_all_at test (y ∷ xs) x (inl same) all = ap test (sym same) ∙ (and_parts _ _ all).0
list_all_at test (y ∷ xs) x (inr among) all = list_all_at test xs x among (and_parts _ _ all).1

pub listed_among : (xs : List (List ℕ)) (x : List ℕ) → IsAmong x xs → list_any (bytes_eq x) xs ≡ true
listed_among [] x among = absurd among
listed_among (y ∷ xs) x (inl same) = or_left _ _ (is_same_name x y (sym same))
listed_among (y ∷ xs) x (inr among) = or_right _ _ (listed_among xs x among)

pub among_listed : (xs : List (List ℕ)) (x : List ℕ) → list_any (bytes_eq x) xs ≡ true → IsAmong x xs
among_listed [] x h = cc
among_listed (y ∷ xs) x h =
    elim (cases_Bool (bytes_eq x y)) [
      | inl same ↦ inl (sym (same_name x y same))
      | inr other ↦ inr (among_listed xs x (rw other at h))
    ]

pub listed-reverse : (xs : List (List ℕ)) (x : List ℕ) → is_listed (reverse xs) x ≡ is_listed xs x
listed-reverse xs x = sym (list_any-IsPermutation (bytes_eq x) xs (reverse xs) (IsPermutation-reverse xs))

-- no test is both
pub clash : {A : Type 0} (b : Bool) → b ≡ true → b ≡ false → A
clash b p q = absurd (true≢false (sym p ∙ q))

module _ (imports : ImportMap) (held : List (List ℕ)) (up : HoldsUp imports held) (older : List (List ℕ))
    (listed : List ℕ)
    (same : (k : ℕ) → k < length imports → has_bit listed k ≡ is_listed older (name_at imports k)) where
  -- what holds up, by places
  held_place : (p j : ℕ) → p < length imports → has_at held p j ≡ true → j < length imports
  held_place p j within h =
      elim (cases_lt j (length imports)) [ inl inside ↦ inside | inr past ↦ clash _ h (up.inside p j past) ]

  import_of : (name other : List ℕ) → IsAmong other (imported imports name) → does_import imports name other ≡ true
  unfolding does_import
  import_of name other among = listed_among (imported imports name) other among

  among_imports : (name other : List ℕ) → does_import imports name other ≡ true → IsAmong other (imported imports name)
  unfolding does_import
  among_imports name other h = among_listed (imported imports name) other h

  ready_at : (p : ℕ) → p < length imports → ((j : ℕ) → has_at held p j ≡ true → has_bit listed j ≡ true)
      → is_ready imports older (name_at imports p) ≡ true
  unfolding is_ready
  ready_at p within inside =
      list_all_each (λ other. not (holds_up imports older (name_at imports p) other)) (imported imports
      (name_at imports p))
      (λ other among.
      elim (cases_Bool (holds_up imports older (name_at imports p) other)) [
        | inr free ↦ not_from_false _ free
        | inl holds ↦
            let parts = and_parts _ _ holds in
            let rest = and_parts _ _ parts.1 in
            let at = place_among imports other (present_among imports other parts.0) in
            let I : List ℕ → Type 0 = λ x. does_import imports (name_at imports p) x ≡ true in
            let R : List ℕ → Type 0 = λ x. not (reaches imports x (name_at imports p)) ≡ true in
            let L : List ℕ → Type 0 = λ x. is_listed older x ≡ true in
            let bit : has_at held p at.0 ≡ true =
            up.bits p at.0 within at.1
            ∙ and_from _ _ (subst I (sym at.2) (import_of (name_at imports p) other among)) (subst R
            (sym at.2) rest.1) in
            clash (is_listed older other)
            (subst L at.2 (sym (same at.0 at.1) ∙ inside at.0 bit))
            (not-true _ rest.0)
      ])

  not_ready_at : (p j : ℕ) → p < length imports → has_at held p j ≡ true → has_bit listed j ≡ false
      → is_ready imports older (name_at imports p) ≡ false
  unfolding is_ready
  not_ready_at p j within holds free =
      let inside : j < length imports = held_place p j within holds in
      let parts = and_parts _ _ (sym (up.bits p j within inside) ∙ holds) in
      let blocks : holds_up imports older (name_at imports p) (name_at imports j) ≡ true =
      and_from _ _ (present_at imports up.map j inside)
      (and_from _ _ (not_from_false _ (sym (same j inside) ∙ free)) parts.1) in
      elim (cases_Bool (list_all (λ other. not (holds_up imports older (name_at imports p) other)) (imported imports
      (name_at imports p)))) [
        | inr no_way ↦ no_way
        | inl all ↦
            clash _ (list_all_at (λ other. not (holds_up imports older (name_at imports p) other)) (imported imports
            (name_at imports p)) (name_at imports j)
            (among_imports (name_at imports p) (name_at imports j) parts.0) all)
            (not_from_true _ blocks)
      ]

  pub next_at : (p : ℕ) → p < length imports → MayCome (get_or held p []) listed p
      → ((q : ℕ) → q < p → IsHeld (get_or held q []) listed q)
      → is_next imports older (name_at imports p) ≡ true
  next_at p within free earlier =
      and_from _ _ (present_at imports up.map p within)
      (and_from _ _
      (and_from _ _ (not_from_false _ (sym (same p within) ∙ free.0)) (ready_at p within free.1))
      (list_all_each (λ other. not (may_come imports older other && is_name_before other (name_at imports p)))
      (keys_of imports)
      (λ other among.
      let at = place_among imports other among in
      let P : List ℕ → Type 0 = λ x. not (may_come imports older x && is_name_before x (name_at imports p)) ≡ true in
      subst P at.2
      (elim (cases_lt at.0 p) [
        | inl before ↦
            not_from_false _
            (and_left (may_come imports older (name_at imports at.0)) (is_name_before (name_at imports at.0)
            (name_at imports p))
            (elim (earlier at.0 before) [
              | inl is ↦ and_left (not (is_listed older (name_at imports at.0))) (is_ready imports older
                  (name_at imports at.0)) (not_from_true _ (sym (same at.0 at.1) ∙ is))
              | inr waits ↦ and_right (not (is_listed older (name_at imports at.0))) (is_ready imports older
                  (name_at imports at.0)) (not_ready_at at.0 waits.0 at.1 waits.1 waits.2)
            ]))
        | inr after ↦
            not_from_false _
            (and_right (may_come imports older (name_at imports at.0)) (is_name_before (name_at imports at.0)
            (name_at imports p))
            (elim (cases_eq at.0 p) [
              | inl here ↦
                  ap is_lt (ap (λ k. compare_names (name_at imports k) (name_at imports p)) here
                  ∙ tied_itself names_total (name_at imports p))
              | inr apart ↦ ap is_lt (turned _ _ (less_at imports up.map p at.0 (omega arith) at.1))
            ]))
      ]))))

  -- where nothing may come, all are listed
  pub none_left : ((p : ℕ) → p < length held → IsHeld (get_or held p []) listed p) → (p : ℕ) → p < length imports
      → has_bit listed p ≡ true
  none_left all p within =
      let step : ℕ → ℕ → Bool = λ i j. ltb i (length imports) && (ltb j (length imports) && does_import imports
      (name_at imports i) (name_at imports j)) in
      let mirrors : Mirrors imports step =
      record {
        bits = λ i j from to. rw (lt-ltb i (length imports) from, lt-ltb j (length imports) to) refl;
        from_inside = λ i j s. ltb-true i (length imports) (and_parts _ _ s).0;
        to_inside = λ i j s. ltb-true j (length imports) (and_parts _ _ (and_parts _ _ s).1).0;
      } in
      all_listed step (length imports) mirrors.from_inside (has_bit listed)
      (λ i from.
      elim (all i (omega (arith, up.count))) [
        | inl is ↦ inl is
        | inr waits ↦
            let to : waits.0 < length imports = held_place i waits.0 from waits.1 in
            let parts = and_parts _ _ (sym (up.bits i waits.0 from to) ∙ waits.1) in
            inr (
              waits.0,
              mirrors.bits i waits.0 from to
                  ∙ parts.0,
              leads-reaches imports step mirrors waits.0 i to from ∙ not-true _ parts.1,
              waits.2,
              to,
            )
      ]) p within

  -- then each present module is
  pub whole_at : ((p : ℕ) → p < length held → IsHeld (get_or held p []) listed p)
      → list_all (is_listed older) (keys_of imports) ≡ true
  whole_at all =
      list_all_each (is_listed older) (keys_of imports)
      (λ name among.
      let at = place_among imports name among in
      let P : List ℕ → Type 0 = λ x. is_listed older x ≡ true in
      subst P at.2 (sym (same at.0 at.1) ∙ none_left all at.0 at.1))

pub whole_turned : (names keys : List (List ℕ)) → list_all (is_listed (reverse names)) keys ≡ true
    → list_all (is_listed names) keys ≡ true
whole_turned names keys all =
    list_all_each (is_listed names) keys (λ x among. sym (listed-reverse names x)
    ∙ list_all_at (is_listed (reverse names)) keys x among all)
