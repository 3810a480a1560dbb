-- There is an order: while some module is not listed, one may come.
use Rattle.std.proofs.Common.{◌≡◌, ◌⊎◌, ℕ, ◌+◌, ◌<◌, Bool, true, false, not, ◌&&◌}
use Rattle.std.proofs.Common.{List, [], ◌∷◌, length, reverse, ap, ◌∙◌, sym, subst, refl, inl, inr, arith}
use Rattle.std.proofs.lemmas.Bool.{cases_eq, cases_lt, cases_Bool, not-true, not-false, not_from_true, not_from_false}
use Rattle.std.proofs.lemmas.Bool.{and_parts, and_from, and_cases, and_left, and_right, or_parts, lt-ltb}
use Rattle.std.proofs.lemmas.Bool.{ltb-true, true≢false}
use Rattle.std.proofs.lemmas.List.{reverse-reverse}
use Rattle.std.specs.Cmp.{tied_itself}
use Rattle.std.specs.List.{list_all}
use Rattle.std.specs.Map.{keys_of}
use Rattle.std.specs.Ordering.{is_lt}
use Rattle.std.specs.Prelude.{zero, suc, ltb}
use Rattle.cc_graph.specs.Graph.{ImportMap, IsImportMap, imported, does_import, reaches}
use Rattle.cc_base.specs.Names.{compare_names, is_name_before}
use Rattle.cc_graph.specs.Graph.{is_listed, holds_up, is_ready, may_come, is_next, are_in_order}
use Rattle.cc_graph.specs.Graph.{IsOrder}
use Rattle.cc_graph.specs.Places.{name_at}
use Rattle.cc_graph.proofs.GraphLemmas.{Mirrors, leads-reaches}
use Rattle.cc_graph.proofs.NameLemmas.{names_total, less_at, turned, present_at, place_among}
use Rattle.cc_graph.proofs.NameLemmas.{present_among}
use Rattle.cc_graph.proofs.OrderLemmas.{list_all_each, listed_among, whole_turned}
use Rattle.cc_graph.proofs.Paths.{IsAmong}
use Rattle.cc_graph.proofs.Ranks.{how_many, fewer, all_listed}

-- the first place that passes, or none does
first_place : (test : ℕ → Bool) (n : ℕ)
    → ((p : ℕ) × (p < n) × (test p ≡ true) × ((q : ℕ) → q < p → test q ≡ false))
    ⊎ ((q : ℕ) → q < n → test q ≡ false)
first_place test zero = inr (λ q below. absurd (omega arith))
first_place test (suc n) =
    elim (first_place test n) [
      | inl (p, below, passes, earlier) ↦ inl (p, omega arith, passes, earlier)
      | inr fails ↦
          elim (cases_Bool (test n)) [
            | inl passes ↦ inl (n, omega arith, passes, fails)
            | inr fails_here ↦
                inr (λ q below.
                elim (cases_eq q n) [
                  | inl last ↦ ap test last ∙ fails_here
                  | inr before ↦ fails q (omega arith)
                ])
          ]
    ]

-- one that fails, where not all pass
one_fails : {X : Type 0} (test : X → Bool) (xs : List X) → list_all test xs ≡ false
    → (x : X) × IsAmong x xs × (test x ≡ false)
one_fails test [] fails = absurd (true≢false fails)
one_fails test (x ∷ xs) fails =
    elim (cases_Bool (test x)) [
      | inr here ↦ (x, inl refl, here)
      | inl passes ↦
          let later : list_all test xs ≡ false = rw passes at fails in
          let (y, among, not_it) = one_fails test xs later in (y, inr among, not_it)
    ]

module _ (imports : ImportMap) (sorted : IsImportMap imports) where
  abbrev step : ℕ → ℕ → Bool
  step i j =
      ltb i (length imports) && (ltb j (length imports) && does_import imports (name_at imports i) (name_at imports j))

  mirrored : Mirrors imports step
  mirrored =
      record {
        bits = λ i j from to. rw (lt-ltb i (length imports) from, lt-ltb j (length imports) to) refl;
        from_inside = λ i j s. ltb-true i (length imports) (and_parts _ _ s).0;
        to_inside = λ i j s. ltb-true j (length imports) (and_parts _ _ (and_parts _ _ s).1).0;
      }

  -- what holds a module up that is not ready
  held_by : (older : List (List ℕ)) (i : ℕ) → i < length imports → is_ready imports older (name_at imports i) ≡ false
      → (j : ℕ) × (step i j ≡ true) × (reaches imports (name_at imports j) (name_at imports i) ≡ false)
      × (is_listed older (name_at imports j) ≡ false) × (j < length imports)
  unfolding is_ready does_import
  held_by older i from waits =
      let (other, among, fails) =
      one_fails (λ x. not (holds_up imports older (name_at imports i) x)) (imported imports
      (name_at imports i)) waits in
      let holds : holds_up imports older (name_at imports i) other ≡ true = not-false _ fails in
      let parts = and_parts _ _ holds in
      let rest = and_parts _ _ parts.1 in
      let (j, to, same) = place_among imports other (present_among imports other parts.0) in
      let I : List ℕ → Type 0 = λ x. does_import imports (name_at imports i) x ≡ true in
      let R : List ℕ → Type 0 = λ x. reaches imports x (name_at imports i) ≡ false in
      let L : List ℕ → Type 0 = λ x. is_listed older x ≡ false in (
        j,
        mirrored.bits i j from to ∙ subst I (sym same) (listed_among (imported imports
            (name_at imports i)) other among),
        subst R (sym same) (not-true _ rest.1),
        subst L (sym same) (not-true _ rest.0),
        to,
      )

  -- where none may come, all are listed
  none_waits : (older : List (List ℕ)) → ((i : ℕ) → i < length imports → may_come imports older
      (name_at imports i) ≡ false)
      → (i : ℕ) → i < length imports → is_listed older (name_at imports i) ≡ true
  none_waits older none i within =
      all_listed step (length imports) mirrored.from_inside (λ k. is_listed older (name_at imports k))
      (λ k from.
      elim (cases_Bool (is_listed older (name_at imports k))) [
        | inl is ↦ inl is
        | inr waits ↦
            elim (and_cases (not (is_listed older (name_at imports k))) (is_ready imports older (name_at imports k))
            (none k from)) [
              | inl is ↦ inl (not-false _ is)
              | inr unready ↦
                  let (j, s, away, free, to) = held_by older k from unready in
                  inr (j, s, leads-reaches imports step mirrored j k to from ∙ away, free, to)
            ]
      ]) i within

  -- the first that may come is the next one
  first_is_next : (older : List (List ℕ)) (p : ℕ) → p < length imports → may_come imports older
      (name_at imports p) ≡ true
      → ((q : ℕ) → q < p → may_come imports older (name_at imports q) ≡ false)
      → is_next imports older (name_at imports p) ≡ true
  first_is_next older p within free earlier =
      and_from _ _ (present_at imports sorted p within)
      (and_from _ _ free
      (list_all_each (λ other. not (may_come imports older other && is_name_before other (name_at imports p)))
      (keys_of imports)
      (λ other among.
      let (q, inside, same) = place_among imports other among in
      let P : List ℕ → Type 0 = λ x. not (may_come imports older x && is_name_before x (name_at imports p)) ≡ true in
      subst P same
      (not_from_false _
      (elim (cases_lt q p) [
        | inl before ↦ and_left (may_come imports older (name_at imports q)) (is_name_before (name_at imports q)
            (name_at imports p)) (earlier q before)
        | inr after ↦
            and_right (may_come imports older (name_at imports q)) (is_name_before (name_at imports q)
            (name_at imports p))
            (elim (cases_eq q p) [
              | inl here ↦
                  ap is_lt (ap (λ k. compare_names (name_at imports k) (name_at imports p)) here
                  ∙ tied_itself names_total (name_at imports p))
              | inr apart ↦ ap is_lt (turned _ _ (less_at imports sorted p q (omega arith) inside))
            ])
      ])))))

  abbrev unlisted : List (List ℕ) → ℕ → Bool
  unlisted older k = not (is_listed older (name_at imports k))

  -- what is listed in order is the front of an order, turned round
  order_from : (fuel : ℕ) (older : List (List ℕ)) → how_many (unlisted older) (length imports) < fuel
      → are_in_order imports older ≡ true
      → (names : List (List ℕ)) × (are_in_order imports names ≡ true) × (list_all (is_listed names)
      (keys_of imports) ≡ true)
  order_from zero older low steps = absurd (omega arith)
  order_from (suc fuel) older low steps =
      elim (first_place (λ k. may_come imports older (name_at imports k)) (length imports)) [
        | inr none ↦ (
          older,
          steps,
          list_all_each (is_listed older) (keys_of imports)
              (λ name among.
              let (i, within, same) = place_among imports name among in
              let P : List ℕ → Type 0 = λ x. is_listed older x ≡ true in
              subst P same (none_waits older none i within)),
        )
        | inl (p, within, free, earlier) ↦
            let name : List ℕ = name_at imports p in
            let fewer_left : how_many (unlisted (name ∷ older)) (length imports) < how_many (unlisted older)
            (length imports) =
            fewer (unlisted (name ∷ older)) (unlisted older) (length imports) p within
            (not_from_true _ (listed_among (name ∷ older) name (inl refl)))
            (and_parts _ _ free).0
            (λ k below still.
            let gone : is_listed (name ∷ older) (name_at imports k) ≡ false = not-true _ still in
            not_from_false _ (or_parts _ _ gone).1) in
            order_from fuel (name ∷ older) (omega arith) (and_from _ _
            (first_is_next older p within free earlier) steps)
      ]

pub orders_exist : (imports : ImportMap) → IsImportMap imports → (names : List (List ℕ)) × IsOrder imports names
orders_exist imports sorted =
    let (names, steps, whole) = order_from imports sorted (how_many (unlisted imports sorted [])
    (length imports) + 1) [] (omega arith) refl in
    let InOrder : List (List ℕ) → Type 0 = λ xs. are_in_order imports xs ≡ true in
    let Whole : List (List ℕ) → Type 0 = λ xs. list_all (is_listed xs) (keys_of imports) ≡ true in (
      reverse names,
      record {
        steps = subst InOrder (sym (reverse-reverse names)) steps;
        whole = whole_turned (reverse names) (keys_of imports) (subst Whole (sym (reverse-reverse names)) whole);
      },
    )
