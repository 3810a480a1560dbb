-- Whatever is kept was asked behind a front of all that is asked, of which what is kept before it is kept. So what fails
-- first of what is kept fails first of all.
use Rattle.std.proofs.Common.{◌≡◌, ◌⊎◌, inl, inr, ◌+◌, ◌≤◌, Bool, true, false, cond, List, [], ◌∷◌, ◌++◌, length}
use Rattle.std.proofs.Common.{refl, sym, ap, ◌∙◌, append_assoc, arith, length-append}
use Rattle.cc_known.specs.Keeping.{is_needless}
use Rattle.cc_reasons.specs.Causes.{Located}
use Rattle.cc_reasons.specs.DefinitionReasons.{placed_of}
use Rattle.cc_reasoning.specs.LocatedLogs.{with_one, keeping}

nothing-behind : (list : List Located) → list ++ [] ≡ list
nothing-behind [] = refl
nothing-behind (first ∷ list) = ap (λ l. first ∷ l) (nothing-behind list)

-- a log only grows at its end
pub keeping-grows : (asked list : List Located) → (more : List Located) × (keeping list asked ≡ list ++ more)
keeping-grows [] list = ([], sym (nothing-behind list))
keeping-grows (first ∷ asked) list =
    by_test (keeping-grows asked) (is_needless (placed_of list) first.placed.asked) refl
  where
    by_test : ((next : List Located) → (more : List Located) × (keeping next asked ≡ next ++ more)) → (b : Bool)
        → is_needless (placed_of list) first.placed.asked ≡ b
        → (more : List Located) × (keeping list (first ∷ asked) ≡ list ++ more)
    by_test grows true is =
        let same : with_one list first ≡ list = ap (λ t. cond t list (list ++ first ∷ [])) is in
        ((grows list).0, ap (λ l. keeping l asked) same ∙ (grows list).1)
    by_test grows false is =
        let same : with_one list first ≡ list ++ first ∷ [] = ap (λ t. cond t list (list ++ first ∷ [])) is in
        let later = grows (list ++ first ∷ []) in
        (first ∷ later.0, ap (λ l. keeping l asked) same ∙ later.1 ∙ append_assoc list (first ∷ []) later.0)

-- where one list ends in another
ends_here : (list before : List Located) (first failing : Located) (more later : List Located)
    → length list ≤ length before → list ++ first ∷ more ≡ before ++ failing ∷ later
    → ((list ≡ before) × (first ≡ failing)) ⊎ (length list + 1 ≤ length before)
ends_here [] [] first failing more later short e = let same : first ≡ failing = cc in inl (refl, same)
ends_here [] (b ∷ before) first failing more later short e = inr (omega arith)
ends_here (l ∷ list) [] first failing more later short e = absurd (omega (arith, short))
ends_here (l ∷ list) (b ∷ before) first failing more later short e =
    let heads : l ≡ b = cc in
    let tails : list ++ first ∷ more ≡ before ++ failing ∷ later = cc in
    elim (ends_here list before first failing more later (omega (arith, short)) tails) [
      | inl same ↦ inl (ap (λ x. x ∷ list) heads ∙ ap (λ x. b ∷ x) same.0, same.1)
      | inr shorter ↦ inr (omega (arith, shorter))
    ]

-- what is kept at some place was asked behind a front
pub kept_front : (asked list before later : List Located) (failing : Located) → length list ≤ length before
    → keeping list asked ≡ before ++ failing ∷ later
    → (front rest : List Located) × (asked ≡ front ++ failing ∷ rest) × (keeping list front ≡ before)
kept_front [] list before later failing short e =
    let count : length list ≡ length before + length (failing ∷ later) =
    ap length e ∙ length-append before (failing ∷ later) in
    absurd (omega (arith, count, short))
kept_front (first ∷ asked) list before later failing short e =
    by_test (λ next. kept_front asked next before later failing) (is_needless (placed_of list) first.placed.asked) refl
  where
    by_test : ((next : List Located) → length next ≤ length before → keeping next asked ≡ before ++ failing ∷ later
        → (front rest : List Located) × (asked ≡ front ++ failing ∷ rest) × (keeping next front ≡ before))
        → (b : Bool) → is_needless (placed_of list) first.placed.asked ≡ b
        → (front rest : List Located) × (first ∷ asked ≡ front ++ failing ∷ rest) × (keeping list front ≡ before)
    by_test again true is =
        let same : with_one list first ≡ list = ap (λ t. cond t list (list ++ first ∷ [])) is in
        let found = again list short (ap (λ l. keeping l asked) (sym same) ∙ e) in
        (first ∷ found.0, found.1, ap (λ l. first ∷ l) found.2, ap (λ l. keeping l found.0) same ∙ found.3)
    by_test again false is =
        let same : with_one list first ≡ list ++ first ∷ [] = ap (λ t. cond t list (list ++ first ∷ [])) is in
        let next : keeping (list ++ first ∷ []) asked ≡ before ++ failing ∷ later =
        ap (λ l. keeping l asked) (sym same) ∙ e in
        let grown = keeping-grows asked (list ++ first ∷ []) in
        let split : list ++ first ∷ grown.0 ≡ before ++ failing ∷ later =
        sym (append_assoc list (first ∷ []) grown.0) ∙ sym grown.1 ∙ next in
        elim (ends_here list before first failing grown.0 later short split) [
          | inl here ↦ ([], asked, ap (λ x. x ∷ asked) here.1, here.0)
          | inr shorter ↦
              let longer : length (list ++ first ∷ []) ≤ length before =
              omega (arith, shorter, length-append list (first ∷ [])) in
              let found = again (list ++ first ∷ []) longer next in
              (first ∷ found.0, found.1, ap (λ l. first ∷ l) found.2, ap (λ l. keeping l found.0) same ∙ found.3)
        ]
