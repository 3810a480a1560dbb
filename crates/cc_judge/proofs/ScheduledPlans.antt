-- The loop over the schedule.
use Rattle.std.proofs.Common.{◌≡◌, ◌⊎◌, ℕ, ◌+◌, ◌<◌, ◌≤◌, List, [], ◌∷◌, ◌++◌, length, get_or, take, Option}
use Rattle.std.proofs.Common.{ap, ◌∙◌, sym, subst, inl, inr, arith}
use Rattle.std.proofs.lemmas.List.{take_more, take_all}
use Rattle.std.specs.Option.{is_some}
use Rattle.std.specs.Prelude.{zero, suc}
use Rattle.cc_graph.proofs.Paths.{IsAmong}
use Rattle.cc_graph.proofs.Ranks.{how_many}
use Rattle.cc_verdicts.specs.ModuleVerdicts.{ModuleVerdict}
use Rattle.cc_verdicts.specs.PresentTexts.{Texts, ArePresent, findings_for}
use Rattle.cc_judge.specs.declared.plans.Plan.{Plan}
use Rattle.cc_judge.specs.Dependencies.{IsSchedule}
use Rattle.cc_judge.specs.Judgements.{Judgement, is_stale, stale_count}
use Rattle.cc_judge.specs.Plans.{plan_at, IsPlanned, StayPlanned, is_stale_at, steps_for}
use Rattle.cc_judge.proofs.PlaceSchedules.{all_at_among, scheduled_within, scheduled_whole}
use Rattle.cc_judge.proofs.StaleCounts.{done_stale, done_more, done_enough, done_all, counted_all}

pub among_at : {A : Type 0} (xs : List A) (i : ℕ) (x : A) → i < length xs → x ≡ get_or xs i x → IsAmong x xs
among_at [] i x within is = absurd (omega arith)
among_at (y ∷ ys) zero x within is = inl (sym is)
among_at (y ∷ ys) (suc i) x within is = inr (among_at ys i x (omega arith) is)

among_pushed : {A : Type 0} (xs : List A) (x y : A) → IsAmong y (xs ++ x ∷ []) → IsAmong y xs ⊎ (x ≡ y)
among_pushed [] x y (inl same) = inr same
among_pushed [] x y (inr none) = absurd none
among_pushed (z ∷ zs) x y (inl same) = inl (inl same)
among_pushed (z ∷ zs) x y (inr among) = elim (among_pushed zs x y among) [
  | inl before ↦ inl (inr before)
  | inr last ↦ inr last
]

pub scheduled_at : (texts : Texts) → ArePresent texts → (places : List ℕ) → IsSchedule texts places → (i place : ℕ)
    → i < length places → place ≡ get_or places i place → place < length texts
scheduled_at texts sorted places schedule i place within is =
    all_at_among (λ p. p < length texts) places place (scheduled_within texts sorted places schedule)
    (among_at places i place within is)

-- with one place more planned, those so far are
pub planned_more : (places : List ℕ) (i place : ℕ) (old new : List (Option Plan)) → i < length places
    → place ≡ get_or places i place
    → ((earlier : ℕ) → IsAmong earlier (take i places) → IsPlanned old earlier) → StayPlanned old new
    → IsPlanned new place
    → (earlier : ℕ) → IsAmong earlier (take (i + 1) places) → IsPlanned new earlier
planned_more places i place old new within is planned stay here earlier among =
    let P : List ℕ → Type 0 = λ ps. IsAmong earlier ps in
    let Q : ℕ → Type 0 = λ p. IsPlanned new p in
    elim (among_pushed (take i places) place earlier
    (subst P (take_more places i place within ∙ ap (λ p. take i places ++ p ∷ []) (sym is)) among)) [
      | inl before ↦ stay earlier (planned earlier before)
      | inr last ↦ subst Q last here
    ]

pub all_places_planned : (texts : Texts) → ArePresent texts → (places : List ℕ) → IsSchedule texts places → (i : ℕ)
    (plans : List (Option Plan)) → length places ≤ i
    → ((earlier : ℕ) → IsAmong earlier (take i places) → IsPlanned plans earlier) → (place : ℕ) → place < length texts
    → IsPlanned plans place
all_places_planned texts sorted places schedule i plans past planned place within =
    let P : List ℕ → Type 0 = λ ps. IsAmong place ps in
    planned place (subst P (sym (take_all i places past)) (scheduled_whole texts sorted places schedule place within))

module _ (last : List Judgement) (texts : Texts) (all : List ℕ → ModuleVerdict) where
  abbrev pub done_by : List (Option Plan) → ℕ
  done_by plans = done_stale (is_stale_at last texts all) (length texts) (λ place. is_some (plan_at plans place))

  counted : how_many (is_stale_at last texts all) (length texts) ≡ stale_count last texts all
  counted = counted_all (λ one. is_stale last one.0 one.1 (findings_for texts all one.0 one.1)) texts ([], [])

  pub ticks_more : (start before after : ℕ) (old new : List (Option Plan)) (place : ℕ) → place < length texts
      → StayPlanned old new → IsPlanned new place → before ≤ start + done_by old
      → after ≤ before + steps_for last texts all old place → after ≤ start + done_by new
  ticks_more start before after old new place within stay here so_far one =
      omega (
        arith,
        done_more (is_stale_at last texts all) (length texts) (λ k. is_some (plan_at old k))
            (λ k. is_some (plan_at new k)) place within stay here,
      )

  pub ticks_enough : (start before after : ℕ) (old : List (Option Plan)) (place : ℕ) → place < length texts
      → before ≤ start + done_by old → after ≤ before + steps_for last texts all old place
      → after ≤ start + stale_count last texts all
  ticks_enough start before after old place within so_far one =
      omega (
        arith,
        counted,
        done_enough (is_stale_at last texts all) (length texts) (λ k. is_some (plan_at old k)) place
            within,
      )

  pub ticks_all : (start before : ℕ) (old : List (Option Plan)) → before ≤ start + done_by old
      → before ≤ start + stale_count last texts all
  ticks_all start before old so_far =
      omega (arith, counted, done_all (is_stale_at last texts all) (length texts) (λ k. is_some (plan_at old k)))
