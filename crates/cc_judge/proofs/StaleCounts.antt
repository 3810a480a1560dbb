-- The steps of the plans so far, against the number of stale modules.
use Rattle.std.proofs.Common.{◌≡◌, ℕ, ◌+◌, ◌<◌, ◌≤◌, Bool, true, false, ◌&&◌, List, length, get_or, take}
use Rattle.std.proofs.Common.{if◌then◌else◌, ap, ◌∙◌, subst, refl, inl, inr, arith, add-one}
use Rattle.std.proofs.lemmas.Bool.{cases_Bool, and_parts, and_from, and_left}
use Rattle.std.proofs.lemmas.List.{take_all}
use Rattle.std.proofs.lemmas.List.Sums.{count_by_more_yes, count_by_more_no}
use Rattle.std.specs.List.{count_by}
use Rattle.std.specs.Prelude.{zero, suc}
use Rattle.cc_graph.proofs.Ranks.{how_many, fewer, fewer_or_same}

-- counting by places is counting in the list
counted : {X : Type 0} (test : X → Bool) (xs : List X) (d : X) (n : ℕ) → n ≤ length xs
    → how_many (λ k. test (get_or xs k d)) n ≡ count_by test (take n xs)
counted test xs d zero within = refl
counted test xs d (suc n) within =
    let rest : how_many (λ k. test (get_or xs k d)) n ≡ count_by test (take n xs) = counted test xs d n (omega arith) in
    let P : ℕ → Type 0 = λ k. how_many (λ k. test (get_or xs k d)) (suc n) ≡ count_by test (take k xs) in
    subst P (add-one n)
    (elim (cases_Bool (test (get_or xs n d))) [
      | inl passes ↦ rw passes (omega (arith, rest, count_by_more_yes test xs n d (omega arith) passes))
      | inr fails ↦ rw fails (omega (arith, rest, count_by_more_no test xs n d (omega arith) fails))
    ])

pub counted_all : {X : Type 0} (test : X → Bool) (xs : List X) (d : X)
    → how_many (λ k. test (get_or xs k d)) (length xs) ≡ count_by test xs
counted_all test xs d =
    counted test xs d (length xs) (omega arith) ∙ ap (count_by test) (take_all (length xs) xs (omega arith))

module _ (stale : ℕ → Bool) (n : ℕ) where
  -- how many of the places that are done are stale
  abbrev pub done_stale : (ℕ → Bool) → ℕ
  done_stale done = how_many (λ k. done k && stale k) n

  -- the steps for a place that may be done already
  abbrev pub steps_at : (ℕ → Bool) → ℕ → ℕ
  steps_at done place = if done place then 0 else (if stale place then 1 else 0)

  both_stay : (old new : ℕ → Bool) → ((k : ℕ) → old k ≡ true → new k ≡ true) → (k : ℕ) → (old k && stale k) ≡ true
      → (new k && stale k) ≡ true
  both_stay old new stay k both =
      let parts = and_parts (old k) (stale k) both in and_from (new k) (stale k) (stay k parts.0) parts.1

  -- one place more is done
  pub done_more : (old new : ℕ → Bool) (place : ℕ) → place < n → ((k : ℕ) → old k ≡ true → new k ≡ true)
      → new place ≡ true → done_stale old + steps_at old place ≤ done_stale new
  done_more old new place within stay here =
      let same : done_stale old ≤ done_stale new =
      fewer_or_same (λ k. old k && stale k) (λ k. new k && stale k) n (λ k below. both_stay old new stay k) in
      elim (cases_Bool (old place)) [
        | inl before ↦ rw before (omega (arith, same))
        | inr waits ↦
            rw waits
            (elim (cases_Bool (stale place)) [
              | inr fresh ↦ rw fresh (omega (arith, same))
              | inl is ↦
                  rw is
                  (omega (
                    arith,
                    fewer (λ k. old k && stale k) (λ k. new k && stale k) n place within
                        (and_left (old place) (stale place) waits)
                        (and_from (new place) (stale place) here is)
                        (λ k below. both_stay old new stay k),
                  ))
            ])
      ]

  -- no more than are stale
  pub done_enough : (old : ℕ → Bool) (place : ℕ) → place < n → done_stale old + steps_at old place ≤ how_many stale n
  done_enough old place within =
      let right : (k : ℕ) → (old k && stale k) ≡ true → stale k ≡ true =
      λ k both. (and_parts (old k) (stale k) both).1 in
      let same : done_stale old ≤ how_many stale n =
      fewer_or_same (λ k. old k && stale k) stale n (λ k below. right k) in
      elim (cases_Bool (old place)) [
        | inl before ↦ rw before (omega (arith, same))
        | inr waits ↦
            rw waits
            (elim (cases_Bool (stale place)) [
              | inr fresh ↦ rw fresh (omega (arith, same))
              | inl is ↦
                  rw is
                  (omega (
                    arith,
                    fewer (λ k. old k && stale k) stale n place within
                        (and_left (old place) (stale place) waits) is (λ k below. right k),
                  ))
            ])
      ]

  pub done_all : (old : ℕ → Bool) → done_stale old ≤ how_many stale n
  done_all old =
      fewer_or_same (λ k. old k && stale k) stale n (λ k below both. (and_parts (old k) (stale k) both).1)

  none_done : (m : ℕ) (done : ℕ → Bool) → ((k : ℕ) → done k ≡ false) → how_many (λ k. done k && stale k) m ≡ 0
  none_done zero done none = refl
  none_done (suc m) done none =
      let rest : how_many (λ k. done k && stale k) m ≡ 0 = none_done m done none in rw (none m) (omega arith)

  pub nothing_done : (done : ℕ → Bool) → ((k : ℕ) → done k ≡ false) → done_stale done ≡ 0
  nothing_done done none = none_done n done none
