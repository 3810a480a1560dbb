-- Carrying out plans, by the judgements.
use Rattle.std.proofs.Common.{◌≡◌, ℕ, ◌+◌, ◌<◌, List, [], ◌∷◌, ◌++◌, length, get_or, map, take, reverse, Option}
use Rattle.std.proofs.Common.{true, Some, None, ap, ◌∙◌, sym, subst, refl, arith, append_assoc}
use Rattle.std.proofs.lemmas.List.{map_push, reverse-append, length-reverse, take_more, same_from_push}
use Rattle.std.proofs.lemmas.List.{get_or_append_left, get_or_push, length_push}
use Rattle.std.proofs.lemmas.Option.{slice_get_read}
use Rattle.std.specs.List.{slice_get}
use Rattle.std.specs.Option.{is_some}
use Rattle.std.specs.Prelude.{zero, suc}
use Rattle.cc_module.specs.declared.judgement.ModuleVerdict.{ModuleVerdict as DeclaredVerdict}
use Rattle.cc_judge.specs.declared.grounds.Grounds.{Grounds}
use Rattle.cc_judge.specs.declared.plans.Plan.{Plan}
use Rattle.cc_judge.specs.declared.plans.Plan.TheVariants.{Keep, Judge}
use Rattle.cc_judge.specs.Carrying.{IsWithin, left_by, AreReady}
use Rattle.cc_judge.specs.Judgements.{Judgement}
use Rattle.cc_judge.specs.Kept.{judged_on, judgements_from}
use Rattle.cc_judge.specs.Plans.{plan_judgement, plan_at, planned}

pub judgements_push : (verdicts : List (List ℕ × DeclaredVerdict)) (grounds : List Grounds)
    (entry : List ℕ × DeclaredVerdict) (one : Grounds) → length grounds ≡ length verdicts
    → judgements_from (verdicts ++ entry ∷ []) (grounds ++ one ∷ [])
    ≡ judgements_from verdicts grounds ++ judged_on entry one ∷ []
judgements_push [] [] entry one same = refl
judgements_push [] (first ∷ rest) entry one same = absurd (omega arith)
judgements_push (other ∷ others) [] entry one same = absurd (omega arith)
judgements_push (other ∷ others) (first ∷ rest) entry one same =
    ap (λ js. judged_on other first ∷ js) (judgements_push others rest entry one (omega arith))

pub judgements_take : (verdicts : List (List ℕ × DeclaredVerdict)) (grounds : List Grounds) (at : ℕ)
    → judgements_from (take at verdicts) (take at grounds) ≡ take at (judgements_from verdicts grounds)
judgements_take verdicts grounds zero = refl
judgements_take [] grounds (suc at) = refl
judgements_take (entry ∷ entries) [] (suc at) = refl
judgements_take (entry ∷ entries) (first ∷ rest) (suc at) =
    ap (λ js. judged_on entry first ∷ js) (judgements_take entries rest at)

pub judgements_reverse : (verdicts : List (List ℕ × DeclaredVerdict)) (grounds : List Grounds)
    → length grounds ≡ length verdicts
    → judgements_from (reverse verdicts) (reverse grounds) ≡ reverse (judgements_from verdicts grounds)
judgements_reverse [] [] same = refl
judgements_reverse [] (first ∷ rest) same = absurd (omega arith)
judgements_reverse (entry ∷ entries) [] same = absurd (omega arith)
judgements_reverse (entry ∷ entries) (first ∷ rest) same =
    let fewer : length rest ≡ length entries = omega arith in
    let turned : length (reverse rest) ≡ length (reverse entries) =
    length-reverse rest ∙ fewer ∙ sym (length-reverse entries) in
    ap (λ vs. judgements_from vs (reverse (first ∷ rest))) (reverse-append (entry ∷ []) entries)
    ∙ ap (judgements_from (reverse entries ++ entry ∷ [])) (reverse-append (first ∷ []) rest)
    ∙ judgements_push (reverse entries) (reverse rest) entry first turned
    ∙ ap (λ js. js ++ judged_on entry first ∷ []) (judgements_reverse entries rest fewer)
    ∙ sym (reverse-append (judged_on entry first ∷ []) (judgements_from entries rest))

pub judgements_length : (verdicts : List (List ℕ × DeclaredVerdict)) (grounds : List Grounds)
    → length grounds ≡ length verdicts → length (judgements_from verdicts grounds) ≡ length verdicts
judgements_length [] grounds same = refl
judgements_length (entry ∷ entries) [] same = absurd (omega arith)
judgements_length (entry ∷ entries) (first ∷ rest) same = ap suc (judgements_length entries rest (omega arith))

-- what is left of a list that is cut behind a place, when the last is taken
pub cut_at : {X : Type 0} (xs cut left : List X) (at : ℕ) (x : X) → at < length xs → cut ≡ take (at + 1) xs
    → cut ≡ left ++ x ∷ [] → (left ≡ take at xs) × (slice_get xs at ≡ Some x)
cut_at xs cut left at x within is parts =
    let both = same_from_push left (take at xs) x (get_or xs at x)
    (sym parts ∙ is ∙ take_more xs at x within) in
    (both.0, slice_get_read xs (length xs) at x refl within both.1)

-- the plans in front stay what they are
pub front_at : (front : List (Option Plan)) (last : Option Plan) (place : ℕ) → place < length front
    → plan_at (front ++ last ∷ []) place ≡ plan_at front place
front_at front last place within = get_or_append_left front (last ∷ []) None place within

slice_get_taken : {X : Type 0} (xs : List X) (n i : ℕ) → i < n → slice_get (take n xs) i ≡ slice_get xs i
slice_get_taken xs zero i below = absurd (omega arith)
slice_get_taken [] (suc n) i below = refl
slice_get_taken (x ∷ xs) (suc n) zero below = refl
slice_get_taken (x ∷ xs) (suc n) (suc i) below = slice_get_taken xs n i (omega arith)

planned_taken : (last : List Judgement) (n : ℕ) (plan : Option Plan)
    → ((at : ℕ) → plan ≡ Some (Keep at) → at < n) → planned (take n last) plan ≡ planned last plan
planned_taken last n None below = refl
planned_taken last n (Some (Judge name verdict grounds)) below = refl
planned_taken last n (Some (Keep at)) below = slice_get_taken last n at (below at refl)

-- what is kept is there, where nothing that is asked is gone
pub planned_same : (last : List Judgement) (n : ℕ) (front : List (Option Plan))
    → ((place at : ℕ) → place < length front → plan_at front place ≡ Some (Keep at) → at < n)
    → map (planned (take n last)) front ≡ map (planned last) front
planned_same last n [] below = refl
planned_same last n (first ∷ rest) below =
    ap (λ j. j ∷ map (planned (take n last)) rest) (planned_taken last n first (λ at is. below 0 at (omega arith) is))
    ∙ ap (λ js. planned last first ∷ js)
    (planned_same last n rest (λ place at within is. below (suc place) at (omega arith) is))

pub front_within : (front : List (Option Plan)) (plan : Plan) (count : ℕ) → AreReady (front ++ Some plan ∷ []) count
    → (place at : ℕ) → place < length front → plan_at front place ≡ Some (Keep at) → at < left_by count plan
front_within front (Judge name verdict grounds) count ready place at within is =
    ready.within place at
    (omega (arith, length_push front (Some (Judge name verdict grounds))))
    (front_at front (Some (Judge name verdict grounds)) place within ∙ is)
front_within front (Keep last) count ready place at within is =
    ready.rising place (length front) at last within (omega (arith, length_push front (Some (Keep last))))
    (front_at front (Some (Keep last)) place within ∙ is)
    (get_or_push front (Some (Keep last)) None (length front) refl)

-- the plans in front are ready for what is left
pub front_ready : (front : List (Option Plan)) (plan : Plan) (count : ℕ) → AreReady (front ++ Some plan ∷ []) count
    → AreReady front (left_by count plan)
front_ready front plan count ready =
    let more : length (front ++ Some plan ∷ []) ≡ length front + 1 = length_push front (Some plan) in
    record {
      made = λ place within.
          let P : Option Plan → Type 0 = λ o. is_some o ≡ true in
          subst P (front_at front (Some plan) place within) (ready.made place (omega arith));
      within = λ place at within is.
          front_within front plan count ready place at within is;
      rising = λ first second at other below within is_first is_second.
          ready.rising first second at other below (omega arith)
          (front_at front (Some plan) first (omega arith) ∙ is_first)
          (front_at front (Some plan) second within ∙ is_second);
    }

-- the last plan keeps what is there
pub last_within : (front : List (Option Plan)) (plan : Plan) (count : ℕ) → AreReady (front ++ Some plan ∷ []) count
    → IsWithin count plan
last_within front (Judge name verdict grounds) count ready = tt
last_within front (Keep at) count ready =
    ready.within (length front) at (omega (arith, length_push front (Some (Keep at))))
    (get_or_push front (Some (Keep at)) None (length front) refl)

-- there is a last plan
pub last_made : (front : List (Option Plan)) (count : ℕ) → AreReady (front ++ None ∷ []) count → ⊥
last_made front count ready =
    let P : Option Plan → Type 0 = λ o. is_some o ≡ true in
    let made = subst P (get_or_push front None None (length front) refl)
    (ready.made (length front) (omega (arith, length_push {X = Option Plan} front None))) in
    cc

-- one plan more is carried out
pub carried_more : (all : List (Option Judgement)) (last left : List Judgement) (front : List (Option Plan)) (plan : Plan)
    (old new : List (Option Judgement)) (n : ℕ)
    → map (planned last) (front ++ Some plan ∷ []) ++ reverse old ≡ all
    → left ≡ take n last
    → ((place at : ℕ) → place < length front → plan_at front place ≡ Some (Keep at) → at < n)
    → new ≡ old ++ plan_judgement last plan ∷ []
    → map (planned left) front ++ reverse new ≡ all
carried_more all last left front plan old new n whole is_left below more =
    ap (λ js. map (planned js) front ++ reverse new) is_left
    ∙ ap (λ js. js ++ reverse new) (planned_same last n front below)
    ∙ ap (λ js. map (planned last) front ++ reverse js) more
    ∙ ap (λ js. map (planned last) front ++ js) (reverse-append old (plan_judgement last plan ∷ []))
    ∙ sym (append_assoc (map (planned last) front) (plan_judgement last plan ∷ []) (reverse old))
    ∙ ap (λ js. js ++ reverse old) (sym (map_push (planned last) front (Some plan)))
    ∙ whole
