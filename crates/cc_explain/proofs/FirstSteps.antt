-- The step that is nearest among the targets of an entry is the first one of the first shortest path.
use Rattle.std.proofs.Common.{◌≡◌, ℕ, ◌+◌, ◌<◌, ◌≤◌, nat_le, Bool, true, false, if◌then◌else◌, List, [], ◌∷◌, ◌++◌, length, Option, Some, None, option_map, slice_index_or, inl, inr, refl, sym, ap, subst, ◌∙◌, append_assoc, length-append, arith}
use Rattle.std.specs.List.{All, Contains}
use Rattle.std.specs.Prelude.{IfSome}
use Rattle.std.proofs.lemmas.Bool.{cases_lt, leb-true, leb-false}
use Rattle.std.proofs.lemmas.List.{append-nil, get_or_past}
use Rattle.std.proofs.lemmas.List.Elements.{Contains-append_left, Contains-append_right, Contains-append_cases, Contains-get_or}
use Rattle.std.proofs.Math.ListN.{get_or-append}
use Rattle.std.proofs.Math.Seq.{get_or-append_seam}
use Rattle.cc_explain.proofs.FirstPaths.{at_end, in_head, in_tail, head_or_tail, IsNearest, path_through, no_path}
use Rattle.cc_explain.proofs.Targets.{in_none, rank_falls, same_target-true, same_target-false}
use Rattle.cc_explain.specs.Chains.{LeadsAlong}
use Rattle.cc_explain.specs.Entries.{Entries, targets_of}
use Rattle.cc_explain.specs.Paths.{IsFirstPath}
use Rattle.cc_explain.specs.Steps.{known_length, length_from, next_of, nearer, nearest_from, StepsAlong, IsFirstStep, AreFirstSteps}
use Rattle.cc_explain.specs.Targets.{IsElement, same_target, rank}
use Rattle.cc_explain.specs.declared.step.Step.{Step}
use Rattle.cc_explain.specs.declared.target.Target.{Target}
use Rattle.cc_explain.specs.declared.target.Target.TheVariants.{Definition, Device, Cap}

-- A step to one of the targets: those in front of it are farther away, those behind it no nearer.
pub record BestStep (lengths : Target → Option ℕ) (seen : List Target) (step : Step) : Type 0 where
  pub front : List Target
  pub behind : List Target
  pub number : ℕ
  pub stands : seen ≡ front ++ step.next ∷ behind
  pub number_is : lengths step.next ≡ Some number
  pub length_is : step.length ≡ number + 1
  pub longer : (target : Target) → Contains front target → (n : ℕ) → lengths target ≡ Some n → number < n
  pub as_long : (target : Target) → Contains behind target → (n : ℕ) → lengths target ≡ Some n → number ≤ n

-- the best step to one of the targets, if there is one
abbrev pub IsBestOf : (Target → Option ℕ) → List Target → Option Step → Type 0
IsBestOf lengths seen None = (target : Target) → Contains seen target → lengths target ≡ None
IsBestOf lengths seen (Some step) = BestStep lengths seen step

known_twice : {B : Type 0} (n : ℕ) (o : Option ℕ) → o ≡ None → o ≡ Some n → B
known_twice n o none some = cc

same_number : (n m : ℕ) (o : Option ℕ) → o ≡ Some n → o ≡ Some m → n ≡ m
same_number n m o left right = cc

module _ (lengths : Target → Option ℕ) where
  one_more :
      (seen : List Target) (target : Target) → lengths target ≡ None
      → ((other : Target) → Contains seen other → lengths other ≡ None)
      → (other : Target) → Contains (seen ++ target ∷ []) other → lengths other ≡ None
  one_more seen target is none other among =
      elim (Contains-append_cases seen (target ∷ []) other among) [
        | inl front ↦ none other front
        | inr last ↦
            elim (head_or_tail target [] other last) [
              | inl same ↦ ap lengths (sym same) ∙ is
              | inr nowhere ↦ in_none other nowhere
            ]
      ]

  -- a target behind, which is no nearer
  kept :
      (seen : List Target) (step : Step) (target : Target) (best : BestStep lengths seen step)
      → ((n : ℕ) → lengths target ≡ Some n → best.number ≤ n) → BestStep lengths (seen ++ target ∷ []) step
  kept seen step target best far =
      record {
        front = best.front;
        behind = best.behind ++ target ∷ [];
        number = best.number;
        stands = ap (λ s. s ++ target ∷ []) best.stands ∙ append_assoc best.front (step.next ∷ best.behind) (target ∷ []);
        number_is = best.number_is;
        length_is = best.length_is;
        longer = best.longer;
        as_long = λ other among n is.
            elim (Contains-append_cases best.behind (target ∷ []) other among) [
              | inl front ↦ best.as_long other front n is
              | inr last ↦
                  elim (head_or_tail target [] other last) [
                    | inl same ↦ far n (ap lengths same ∙ is)
                    | inr nowhere ↦ in_none other nowhere
                  ]
            ];
      }

  -- a target behind, which is nearer than all
  replaced :
      (seen : List Target) (target : Target) (number : ℕ) → lengths target ≡ Some number
      → ((other : Target) → Contains seen other → (n : ℕ) → lengths other ≡ Some n → number < n)
      → BestStep lengths (seen ++ target ∷ []) (record { length = number + 1; next = target })
  replaced seen target number is longer =
      record {
        front = seen;
        behind = [];
        number = number;
        stands = refl;
        number_is = is;
        length_is = refl;
        longer = longer;
        as_long = λ other among n h. in_none other among;
      }

  all_farther :
      (seen : List Target) (step : Step) (best : BestStep lengths seen step) (number : ℕ) → number < best.number
      → (other : Target) → Contains seen other → (n : ℕ) → lengths other ≡ Some n → number < n
  all_farther seen step best number low other among n is =
      elim (Contains-append_cases best.front (step.next ∷ best.behind) other
      (subst (λ s. Contains s other) best.stands among)) [
        | inl front ↦ let far = best.longer other front n is in omega arith
        | inr rest ↦
            elim (head_or_tail step.next best.behind other rest) [
              | inl same ↦
                  let it = same_number best.number n (lengths other) (ap lengths (sym same) ∙ best.number_is) is in
                  omega arith
              | inr behind ↦ let far = best.as_long other behind n is in omega arith
            ]
      ]

  of_two :
      (seen : List Target) (target : Target) (number : ℕ) (step : Step) → lengths target ≡ Some number
      → BestStep lengths seen step → (test : Bool) → nat_le step.length (number + 1) ≡ test
      → IsBestOf lengths (seen ++ target ∷ [])
      (if test then Some step else Some (record { length = number + 1; next = target }))
  of_two seen target number step is best true holds =
      let low = leb-true step.length (number + 1) holds in
      let at = best.length_is in
      kept seen step target best
      (λ n other. let it = same_number number n (lengths target) is other in omega arith)
  of_two seen target number step is best false fails =
      let high = leb-false step.length (number + 1) fails in
      let at = best.length_is in
      replaced seen target number is (all_farther seen step best number (omega arith))

  best_more :
      (seen : List Target) (target : Target) (best : Option Step) (length : Option ℕ) → lengths target ≡ length
      → IsBestOf lengths seen best → IsBestOf lengths (seen ++ target ∷ []) (nearer best target length)
  best_more seen target None None is best = one_more seen target is best
  best_more seen target (Some step) None is best =
      kept seen step target best (λ n other. known_twice n (lengths target) is other)
  best_more seen target None (Some number) is best =
      replaced seen target number is (λ other among n h. known_twice n (lengths other) (best other among) h)
  best_more seen target (Some step) (Some number) is best =
      of_two seen target number step is best (nat_le step.length (number + 1)) refl

  pub nearest_is :
      (seen rest : List Target) (best : Option Step) → IsBestOf lengths seen best
      → IsBestOf lengths (seen ++ rest) (nearest_from lengths best rest)
  nearest_is seen [] best is = subst (λ s. IsBestOf lengths s best) (sym (append-nil seen)) is
  nearest_is seen (target ∷ rest) best is =
      subst (λ s. IsBestOf lengths s (nearest_from lengths (nearer best target (lengths target)) rest))
      (append_assoc seen (target ∷ []) rest)
      (nearest_is (seen ++ target ∷ []) rest (nearer best target (lengths target))
      (best_more seen target best (lengths target) refl is))

-- how many steps lead on from a target, if any do
abbrev pub IsLengthFrom : Entries → Target → Target → Option ℕ → Type 0
IsLengthFrom links to target None = (path : List Target) → LeadsAlong (targets_of links) target path to → ⊥
IsLengthFrom links to target (Some number) =
    (path : List Target) × IsFirstPath links target to path × (number ≡ length path) × (number ≤ rank target)

length_of_step :
    (links : Entries) (to from : Target) (first : Option Step) → IsFirstStep links from to first
    → IsLengthFrom links to from (option_map (λ step. step.length) first)
length_of_step links to from None none = none
length_of_step links to from (Some step) is =
    let at = is.length_is in (step.next ∷ is.rest, is.path, omega arith, is.low)

known :
    (links : Entries) (to : Target) (steps : List (Option Step)) → AreFirstSteps links to steps
    → (target : Target) → rank target ≤ length steps → (target ≡ to → ⊥)
    → IsLengthFrom links to target (known_length steps target)
known links to steps are (Definition number) low differ =
    length_of_step links to (Definition number) (slice_index_or steps number None) (are number (omega arith))
known links to steps are (Device number) low differ = no_path links to (Device number) refl differ
known links to steps are Cap low differ = no_path links to Cap refl differ

by_test :
    (links : Entries) (to : Target) (steps : List (Option Step)) → AreFirstSteps links to steps
    → (target : Target) → rank target ≤ length steps → (test : Bool) → same_target target to ≡ test
    → IsLengthFrom links to target (if test then Some 0 else known_length steps target)
by_test links to steps are target low true holds =
    let same = same_target-true target to holds in (
      [],
      subst (λ t. IsFirstPath links t to []) (sym same) (at_end links to),
      refl,
      omega arith,
    )
by_test links to steps are target low false fails =
    known links to steps are target low (same_target-false target to fails)

pub length_is :
    (links : Entries) (to : Target) (steps : List (Option Step)) → AreFirstSteps links to steps
    → (target : Target) → rank target ≤ length steps → IsLengthFrom links to target (length_from steps to target)
length_is links to steps are target low = by_test links to steps are target low (same_target target to) refl

no_definition : (number : ℕ) (to : Target) → IsElement to → Definition number ≡ to → ⊥
no_definition number to is same = subst IsElement (sym same) is

-- what leads on from a target is no shorter than a number below all that are known of it
no_shorter :
    (links : Entries) (to target : Target) (low : ℕ) (found : Option ℕ) → IsLengthFrom links to target found
    → ((n : ℕ) → found ≡ Some n → low ≤ n)
    → (other : List Target) → LeadsAlong (targets_of links) target other to → low ≤ length other
no_shorter links to target low None none far other leads = absurd (none other leads)
no_shorter links to target low (Some n) (path, is, n_is, within) far other leads =
    let here = far n refl in
    let shortest = is.shortest other leads in
    omega arith

module _ (links : Entries) (to : Target) (number : ℕ) (lengths : Target → Option ℕ) (are : (target : Target) → Contains
    (targets_of links (Definition number)) target
    → IsLengthFrom links to target (lengths target)) (differ : Definition number ≡ to → ⊥) (earlier : (named : ℕ)
    → Contains (targets_of links (Definition number)) (Definition named)
    → named < number) where
  nowhere :
      ((target : Target) → Contains (targets_of links (Definition number)) target → lengths target ≡ None)
      → (path : List Target) → LeadsAlong (targets_of links) (Definition number) path to → ⊥
  nowhere none [] leads = differ leads
  nowhere none (next ∷ path) (among, leads) =
      subst (IsLengthFrom links to next) (none next among) (are next among) path leads

  along :
      (step : Step) → BestStep lengths (targets_of links (Definition number)) step
      → StepsAlong links (Definition number) to step
  along step best =
      let next_in : Contains (targets_of links (Definition number)) step.next =
      subst (λ s. Contains s step.next) (sym best.stands)
      (Contains-append_right best.front (step.next ∷ best.behind) step.next (in_head step.next best.behind)) in
      let from_next : IsLengthFrom links to step.next (Some best.number) =
      subst (IsLengthFrom links to step.next) best.number_is (are step.next next_in) in
      let (path, is, number_is, within) = from_next in
      let falls = rank_falls number (targets_of links (Definition number)) earlier step.next next_in in
      let at = best.length_is in
      let near : IsNearest links to (Definition number) step.next path =
      record {
        front = best.front;
        behind = best.behind;
        stands = best.stands;
        path_is = is;
        longer = λ target among other leads.
            let target_in : Contains (targets_of links (Definition number)) target =
            subst (λ s. Contains s target) (sym best.stands)
            (Contains-append_left best.front (step.next ∷ best.behind) target among) in
            let far : best.number + 1 ≤ length other =
            no_shorter links to target (best.number + 1) (lengths target) (are target target_in)
            (λ n h. let low = best.longer target among n h in omega arith) other leads in
            omega arith;
        as_long = λ target among other leads.
            let target_in : Contains (targets_of links (Definition number)) target =
            subst (λ s. Contains s target) (sym best.stands)
            (Contains-append_right best.front (step.next ∷ best.behind) target
            (in_tail step.next best.behind target among)) in
            let far : best.number ≤ length other =
            no_shorter links to target best.number (lengths target) (are target target_in)
            (λ n h. best.as_long target among n h) other leads in
            omega arith;
      } in
      record {
        rest = path;
        path = path_through links to (Definition number) step.next path near differ;
        length_is = omega arith;
        low = omega arith;
        earlier = falls;
      }

  first_of_best :
      (best : Option Step) → IsBestOf lengths (targets_of links (Definition number)) best
      → IsFirstStep links (Definition number) to best
  first_of_best None none = nowhere none
  first_of_best (Some step) best = along step best

-- The step to the nearest target of the next definition's entry is its first step.
pub first_step_is :
    (links : Entries) (to : Target) (steps : List (Option Step)) (number : ℕ) (entry : List Target)
    → length steps ≡ number → IsElement to → AreFirstSteps links to steps
    → entry ≡ targets_of links (Definition number)
    → ((named : ℕ) → Contains entry (Definition named) → named < number)
    → IsFirstStep links (Definition number) to (nearest_from (length_from steps to) None entry)
first_step_is links to steps number entry count element are is earlier =
    let low : (named : ℕ) → Contains (targets_of links (Definition number)) (Definition named) → named < number =
    subst (λ s. (named : ℕ) → Contains s (Definition named) → named < number) is earlier in
    subst (λ s. IsFirstStep links (Definition number) to (nearest_from (length_from steps to) None s)) (sym is)
    (first_of_best links to number (length_from steps to)
    (λ target among.
    let falls = rank_falls number (targets_of links (Definition number)) low target among in
    length_is links to steps are target (omega arith)) (no_definition number to element) low
    (nearest_from (length_from steps to) None (targets_of links (Definition number)))
    (nearest_is (length_from steps to) [] (targets_of links (Definition number)) None
    (λ target among. in_none target among)))

-- the targets of the next definition's entry have earlier entries
pub within_steps :
    (number : ℕ) (entry : List Target) → ((named : ℕ) → Contains entry (Definition named) → named < number)
    → All (λ target. rank target ≤ number) entry
within_steps number entry earlier k d below =
    let falls = rank_falls number entry earlier (slice_index_or entry k d) (Contains-get_or entry k d below) in
    omega arith

low_step :
    (links : Entries) (to : Target) (number : ℕ) (first : Option Step) → IsFirstStep links (Definition number) to first
    → IfSome (option_map (λ step. step.length) first) (λ n. n ≤ number + 1)
low_step links to number None is = tt
low_step links to number (Some step) is = is.low

weaker_bound : (found : Option ℕ) (low high : ℕ) → low ≤ high → IfSome found (λ n. n ≤ low) → IfSome found (λ n. n ≤ high)
weaker_bound None low high h is = tt
weaker_bound (Some n) low high h is = omega arith

-- the paths of so few definitions are short
pub low_lengths :
    (links : Entries) (to : Target) (steps : List (Option Step)) → AreFirstSteps links to steps
    → length steps ≤ 4294967296
    → (number : ℕ) → IfSome (known_length steps (Definition number)) (λ n. n ≤ 4294967296)
low_lengths links to steps are few number =
    elim (cases_lt number (length steps)) [
      | inl below ↦
          weaker_bound (known_length steps (Definition number)) (number + 1) 4294967296 (omega arith)
          (low_step links to number (slice_index_or steps number None) (are number below))
      | inr past ↦
          subst (λ first. IfSome (option_map (λ (step : Step). step.length) first) (λ n. n ≤ 4294967296))
          (sym (get_or_past steps number None past)) tt
    ]

-- one definition more
pub one_step_more :
    (links : Entries) (to : Target) (steps : List (Option Step)) (number : ℕ) (first : Option Step)
    → length steps ≡ number → AreFirstSteps links to steps → IsFirstStep links (Definition number) to first
    → AreFirstSteps links to (steps ++ first ∷ [])
one_step_more links to steps number first count are is other below =
    elim (cases_lt other (length steps)) [
      | inl low ↦
          subst (IsFirstStep links (Definition other) to) (sym (get_or-append steps (first ∷ []) None other low))
          (are other low)
      | inr high ↦
          let longer = length-append steps (first ∷ []) in
          let same : length steps ≡ other = omega arith in
          subst (λ k. IsFirstStep links (Definition k) to (slice_index_or (steps ++ first ∷ []) k None)) same
          (subst (IsFirstStep links (Definition (length steps)) to)
          (sym (get_or-append_seam steps first [] None))
          (subst (λ k. IsFirstStep links (Definition k) to first) (sym count) is))
    ]

some_next : {B : Type 0} (next : Target) → None ≡ Some next → B
some_next next h = cc

same_next : (left right : Target) → Some left ≡ Some right → left ≡ right
same_next left right h = cc

no_end : {B : Type 0} (next : Target) → Some next ≡ None → B
no_end next h = cc

-- where there is no first step nothing leads on to an element
end_of :
    (links : Entries) (to from : Target) (first : Option Step) (path : List Target) → IsFirstStep links from to first
    → option_map (λ step. step.next) first ≡ None → LeadsAlong (targets_of links) from path to
    → ⊥
end_of links to from None path is h leads = is path leads
end_of links to from (Some step) path is h leads = no_end step.next h

pub no_next :
    (links : Entries) (to : Target) (steps : List (Option Step)) → AreFirstSteps links to steps
    → (from : Target) → rank from ≤ length steps → next_of steps from ≡ None
    → (path : List Target) → LeadsAlong (targets_of links) from path to → path ≡ []
no_next links to steps are (Definition number) low none path leads =
    absurd (end_of links to (Definition number) (slice_index_or steps number None) path (are number (omega arith)) none leads)
no_next links to steps are (Device number) low none [] leads = refl
no_next links to steps are (Device number) low none (next ∷ path) leads = in_none next leads.0
no_next links to steps are Cap low none [] leads = refl
no_next links to steps are Cap low none (next ∷ path) leads = in_none next leads.0

-- Where there is a first step it leads on along the first shortest path.
pub record GoesOn (links : Entries) (to from next : Target) : Type 0 where
  pub rest : List Target
  pub path : IsFirstPath links from to (next ∷ rest)
  pub earlier : rank next < rank from

goes_on_along :
    (links : Entries) (to from next : Target) (first : Option Step) → IsFirstStep links from to first
    → option_map (λ step. step.next) first ≡ Some next → GoesOn links to from next
goes_on_along links to from next None is h = some_next next h
goes_on_along links to from next (Some step) is h =
    subst (GoesOn links to from) (same_next step.next next h)
    (record { rest = is.rest; path = is.path; earlier = is.earlier })

pub goes_on :
    (links : Entries) (to : Target) (steps : List (Option Step)) → AreFirstSteps links to steps
    → (from next : Target) → rank from ≤ length steps → next_of steps from ≡ Some next → GoesOn links to from next
goes_on links to steps are (Definition number) next low is =
    goes_on_along links to (Definition number) next (slice_index_or steps number None) (are number (omega arith)) is
goes_on links to steps are (Device number) next low is = some_next next is
goes_on links to steps are Cap next low is = some_next next is
