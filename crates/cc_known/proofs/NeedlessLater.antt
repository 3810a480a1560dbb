-- What is needless behind a log wherever it comes again is so behind a longer one.
use Rattle.std.proofs.Common.{◌≡◌, ℕ, Bool, true, false, ◌&&◌, ◌||◌, cond, List, [], ◌∷◌, ◌++◌, inl, inr, refl, sym, subst}
use Rattle.std.specs.List.{list_all}
use Rattle.std.proofs.lemmas.Bool.{and_from, and_parts, or_cases, or_left, or_right}
use Rattle.std.proofs.lemmas.List.{append_assoc, append-nil}
use Rattle.cc_capture.specs.Sets.{Set}
use Rattle.cc_checking.specs.Comparison.{Demand}
use Rattle.cc_checking.specs.Outcomes.{IsBelow, Placed}
use Rattle.cc_known.specs.EndsAgain.{stays_fillable, comes_again, ComesBehindMore}
use Rattle.cc_known.specs.Keeping.{ends_beyond, fillable, is_demand_settled, is_ended_so, has_ended_so, is_repeated, is_needless}
use Rattle.cc_known.specs.Keeping.{keeping}
use Rattle.cc_known.specs.KeptWalks.{put}

repeated_more : (log : List Placed) (p : Placed) (ends right : Set) → has_ended_so log ends right ≡ true
    → has_ended_so (log ++ p ∷ []) ends right ≡ true
repeated_more [] p ends right h = cc
repeated_more (q ∷ log) p ends right h =
    elim (or_cases (is_ended_so ends right q.asked) (has_ended_so log ends right) h)
    as (λ _. (is_ended_so ends right q.asked || has_ended_so (log ++ p ∷ []) ends right) ≡ true) [
      | inl here ↦ or_left (is_ended_so ends right q.asked) (has_ended_so (log ++ p ∷ []) ends right) here
      | inr later ↦ or_right (is_ended_so ends right q.asked) (has_ended_so (log ++ p ∷ []) ends right) (repeated_more log p ends right later)
    ]

pub comes_behind_more : ComesBehindMore
comes_behind_more oldest log p d h =
    elim (or_cases (is_demand_settled d) (stays_fillable oldest d && is_repeated log (IsBelow d)) h)
    as (λ _. comes_again oldest (log ++ p ∷ []) d ≡ true) [
      | inl settled ↦ or_left (is_demand_settled d) (stays_fillable oldest d && is_repeated (log ++ p ∷ []) (IsBelow d)) settled
      | inr both ↦
          let k = and_parts (stays_fillable oldest d) (is_repeated log (IsBelow d)) both in
          or_right (is_demand_settled d) (stays_fillable oldest d && is_repeated (log ++ p ∷ []) (IsBelow d))
          (and_from (stays_fillable oldest d) (is_repeated (log ++ p ∷ []) (IsBelow d)) k.0
          (repeated_more log p (ends_beyond d.context d.right d.left) (fillable d.context d.right) k.1))
    ]

module _ (oldest : ℕ) where
  pub comes_put : (whole : Bool) (log more : List Placed) (d : Demand) → comes_again oldest log d ≡ true
      → comes_again oldest (put whole log more) d ≡ true
  comes_put true log [] d h = subst (λ l. comes_again oldest l d ≡ true) (sym (append-nil log)) h
  comes_put true log (p ∷ more) d h =
      subst (λ l. comes_again oldest l d ≡ true) (append_assoc log (p ∷ []) more)
      (comes_put true (log ++ p ∷ []) more d (comes_behind_more oldest log p d h))
  comes_put false log [] d h = h
  comes_put false log (p ∷ more) d h =
      elim (is_needless log p.asked) as (λ b. comes_again oldest (keeping (cond b log (log ++ p ∷ [])) more) d ≡ true) [
        | true ↦ comes_put false log more d h
        | false ↦ comes_put false (log ++ p ∷ []) more d (comes_behind_more oldest log p d h)
      ]

  pub all_put : (whole : Bool) (log more : List Placed) (ds : List Demand) → list_all (comes_again oldest log) ds ≡ true
      → list_all (comes_again oldest (put whole log more)) ds ≡ true
  all_put whole log more [] h = refl
  all_put whole log more (d ∷ ds) h =
      let both = and_parts (comes_again oldest log d) (list_all (comes_again oldest log) ds) h in
      and_from (comes_again oldest (put whole log more) d) (list_all (comes_again oldest (put whole log more)) ds)
      (comes_put whole log more d both.0) (all_put whole log more ds both.1)

  -- what is settled is needless
  pub settled_comes : (log : List Placed) (d : Demand) → is_demand_settled d ≡ true → comes_again oldest log d ≡ true
  settled_comes log d h = or_left (is_demand_settled d) (stays_fillable oldest d && is_repeated log (IsBelow d)) h
