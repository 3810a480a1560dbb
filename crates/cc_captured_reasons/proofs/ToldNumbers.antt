-- What is told of elements in order, with one element more.
use Rattle.std.proofs.Common.{◌≡◌, ◌⊎◌, inl, inr, ℕ, ◌+◌, ◌<◌, ◌≤◌, nat_le, nat_lt, length, length-append, Bool, true, false, cond, List, [], ◌∷◌, ◌++◌, Option, Some, None, refl, sym, ap, subst, ◌∙◌, arith}
use Rattle.std.specs.Prelude.{IfSome, slice_index_or}
use Rattle.std.proofs.Math.ListN.{get_or-append}
use Rattle.std.proofs.Math.Seq.{get_or-append_seam}
use Rattle.std.proofs.lemmas.Bool.{cases_lt}
use Rattle.std.proofs.lemmas.List.{get_or_past}
use Rattle.std.proofs.lemmas.Bool.Decides.{leb_tells, eqb_tells}
use Rattle.std.specs.Option.{is_some}
use Rattle.cc_capture.specs.declared.var.Elem.{Elem}
use Rattle.cc_capture.specs.declared.var.Elem.TheVariants.{Var as Variable, Cap, Hole}
use Rattle.cc_capture.specs.declared.var.Var.TheVariants.{Bound, Free}
use Rattle.cc_capture.specs.Sets.{Set, contains}
use Rattle.cc_core.specs.Contexts.{Bind}
use Rattle.cc_reasons.specs.ReasonTexts.{declared_members}
use Rattle.cc_capture.specs.Rising.{is_listed}
use Rattle.cc_capture.proofs.Membership.{is_listed-cases}
use Rattle.cc_reasons.proofs.ChainsToEnds.{listed_first, listed_later}
use Rattle.cc_captured_reasons.specs.Tellings.{telling_beyond, telling, lower, lowest, number_from, number_at, numbered, is_number, found_or_this, first_numbered, AreLow}

pub lowest-push : (tells : Elem → Option ℕ) (before : Option ℕ) (xs : List Elem) (x : Elem)
    → lowest tells before (xs ++ x ∷ []) ≡ lower (lowest tells before xs) (tells x)
lowest-push tells before [] x = refl
lowest-push tells before (y ∷ xs) x = lowest-push tells (lower before (tells y)) xs x

pub first_numbered-push : (tells : Elem → Option ℕ) (number : ℕ) (found : Option Elem) (xs : List Elem) (x : Elem)
    → first_numbered tells number found (xs ++ x ∷ []) ≡ found_or_this (first_numbered tells number found xs) (is_number number (tells x)) x
first_numbered-push tells number found [] x = refl
first_numbered-push tells number found (y ∷ xs) x = first_numbered-push tells number (found_or_this found (is_number number (tells y)) y) xs x

pub numbered-push : (tells : Elem → Option ℕ) (xs : List Elem) (x : Elem)
    → numbered tells (xs ++ x ∷ []) ≡ cond (is_some (tells x)) (numbered tells xs ++ x ∷ []) (numbered tells xs)
numbered-push tells [] x = refl
numbered-push tells (y ∷ xs) x = by (is_some (tells y)) (is_some (tells x)) (numbered-push tells xs x)
  where
    by : (b d : Bool) → numbered tells (xs ++ x ∷ []) ≡ cond d (numbered tells xs ++ x ∷ []) (numbered tells xs)
        → cond b (y ∷ numbered tells (xs ++ x ∷ [])) (numbered tells (xs ++ x ∷ []))
        ≡ cond d (cond b (y ∷ numbered tells xs) (numbered tells xs) ++ x ∷ []) (cond b (y ∷ numbered tells xs) (numbered tells xs))
    by true true e = ap (λ list. y ∷ list) e
    by true false e = ap (λ list. y ∷ list) e
    by false true e = e
    by false false e = e

pub lowest_more : (tells : Elem → Option ℕ) (xs : List Elem) (x : Elem) (number next told : Option ℕ) → number ≡ lowest tells None xs → next ≡ lower number told → told ≡ tells x
    → next ≡ lowest tells None (xs ++ x ∷ [])
lowest_more tells xs x number next told was is tell =
    is ∙ (λ i. lower (was i) (tell i)) ∙ sym (lowest-push tells None xs x)

pub first_more : (tells : Elem → Option ℕ) (number : ℕ) (xs : List Elem) (x : Elem) (found next : Option Elem) (passes : Bool) (told : Option ℕ)
    → found ≡ first_numbered tells number None xs → next ≡ found_or_this found passes x → passes ≡ is_number number told → told ≡ tells x
    → next ≡ first_numbered tells number None (xs ++ x ∷ [])
first_more tells number xs x found next passes told was is pass tell =
    is ∙ (λ i. found_or_this (was i) (pass i) x) ∙ (λ i. found_or_this (first_numbered tells number None xs) (is_number number (tell i)) x)
    ∙ sym (first_numbered-push tells number None xs x)

pub numbered_next : (tells : Elem → Option ℕ) (xs : List Elem) (x : Elem) (found next : List Elem) (told : Option ℕ) → found ≡ numbered tells xs
    → next ≡ cond (is_some told) (found ++ x ∷ []) found → told ≡ tells x → next ≡ numbered tells (xs ++ x ∷ [])
numbered_next tells xs x found next told was is tell =
    is ∙ (λ i. cond (is_some (tell i)) (was i ++ x ∷ []) (was i)) ∙ sym (numbered-push tells xs x)

-- THE LOWEST

lower_none : (one other : Option ℕ) → lower one other ≡ None → (one ≡ None) × (other ≡ None)
lower_none None other e = (refl, e)
lower_none (Some a) None e = cc
lower_none (Some a) (Some b) e = by (nat_le a b) e
  where
    by : (t : Bool) → cond t (Some a) (Some b) ≡ None → (Some a ≡ None) × (Some b ≡ None)
    by true e = cc
    by false e = cc

lower_either : (one other : Option ℕ) (n : ℕ) → lower one other ≡ Some n → (one ≡ Some n) ⊎ (other ≡ Some n)
lower_either None other n e = inr e
lower_either (Some a) None n e = inl e
lower_either (Some a) (Some b) n e = by (nat_le a b) e
  where
    by : (t : Bool) → cond t (Some a) (Some b) ≡ Some n → (Some a ≡ Some n) ⊎ (Some b ≡ Some n)
    by true e = inl e
    by false e = inr e

-- no higher than either
lower_left : (one other : Option ℕ) (n : ℕ) → one ≡ Some n → (m : ℕ) × (lower one other ≡ Some m) × (m ≤ n)
lower_left None other n e = cc
lower_left (Some a) None n e = (n, e, omega arith)
lower_left (Some a) (Some b) n e =
    let same : a ≡ n = cc in
    elim (leb_tells a b) [
      | inl (is, below) ↦ (a, ap (λ t. cond t (Some a) (Some b)) is, omega arith)
      | inr (is, above) ↦ (b, ap (λ t. cond t (Some a) (Some b)) is, omega arith)
    ]

lower_right : (one other : Option ℕ) (n : ℕ) → other ≡ Some n → (m : ℕ) × (lower one other ≡ Some m) × (m ≤ n)
lower_right None other n e = (n, e, omega arith)
lower_right (Some a) None n e = cc
lower_right (Some a) (Some b) n e =
    let same : b ≡ n = cc in
    elim (leb_tells a b) [
      | inl (is, below) ↦ (a, ap (λ t. cond t (Some a) (Some b)) is, omega arith)
      | inr (is, above) ↦ (b, ap (λ t. cond t (Some a) (Some b)) is, omega arith)
    ]

lowest_from_none : (tells : Elem → Option ℕ) (before : Option ℕ) (list : List Elem) → lowest tells before list ≡ None
    → (before ≡ None) × ((e : Elem) → is_listed e list ≡ true → tells e ≡ None)
lowest_from_none tells before [] is = (is, λ e here. cc)
lowest_from_none tells before (x ∷ list) is =
    let (first, rest) = lowest_from_none tells (lower before (tells x)) list is in
    let (own, told) = lower_none before (tells x) first in (
      own,
      λ e here. elim (is_listed-cases e x list here) [ inl same ↦ ap tells same ∙ told | inr later ↦ rest e later ],
    )

-- where none is lowest, none is told
pub none_lowest : (tells : Elem → Option ℕ) (list : List Elem) → lowest tells None list ≡ None → (e : Elem) → is_listed e list ≡ true → tells e ≡ None
none_lowest tells list is = (lowest_from_none tells None list is).1

-- an element of which the number is told
pub record Told (tells : Elem → Option ℕ) (list : List Elem) (number : ℕ) : Type 0 where
  pub e : Elem
  pub listed : is_listed e list ≡ true
  pub told : tells e ≡ Some number

lowest_told : (tells : Elem → Option ℕ) (before : Option ℕ) (list : List Elem) (n : ℕ) → lowest tells before list ≡ Some n → (before ≡ Some n) ⊎ Told tells list n
lowest_told tells before [] n is = inl is
lowest_told tells before (x ∷ list) n is =
    elim (lowest_told tells (lower before (tells x)) list n is) [
      | inl first ↦
          elim (lower_either before (tells x) n first) [
            | inl own ↦ inl own
            | inr told ↦ inr (record { e = x; listed = listed_first x list; told = told })
          ]
      | inr it ↦ inr (record { e = it.e; listed = listed_later it.e x list it.listed; told = it.told })
    ]

lowest_under : (tells : Elem → Option ℕ) (before : Option ℕ) (list : List Elem) (n m : ℕ) → lowest tells before list ≡ Some n → before ≡ Some m → n ≤ m
lowest_under tells before [] n m is own = let same : n ≡ m = cc in omega arith
lowest_under tells before (x ∷ list) n m is own =
    let (k, first, low) = lower_left before (tells x) m own in
    let under = lowest_under tells (lower before (tells x)) list n k is first in
    omega arith

lowest_least : (tells : Elem → Option ℕ) (before : Option ℕ) (list : List Elem) (n : ℕ) → lowest tells before list ≡ Some n
    → (e : Elem) (m : ℕ) → is_listed e list ≡ true → tells e ≡ Some m → n ≤ m
lowest_least tells before [] n is e m here told = cc
lowest_least tells before (x ∷ list) n is e m here told =
    elim (is_listed-cases e x list here) [
      | inl same ↦
          let (k, first, low) = lower_right before (tells x) m (sym (ap tells same) ∙ told) in
          let under = lowest_under tells (lower before (tells x)) list n k is first in
          omega arith
      | inr later ↦ lowest_least tells (lower before (tells x)) list n is e m later told
    ]

-- the lowest number is told of an element, and none lower is
pub told_lowest : (tells : Elem → Option ℕ) (list : List Elem) (n : ℕ) → lowest tells None list ≡ Some n
    → Told tells list n × ((e : Elem) (m : ℕ) → is_listed e list ≡ true → tells e ≡ Some m → n ≤ m)
told_lowest tells list n is = (by (lowest_told tells None list n is), lowest_least tells None list n is)
  where
    by : (None ≡ Some n) ⊎ Told tells list n → Told tells list n
    by (inl clash) = cc
    by (inr it) = it

-- THE FIRST

pub is_number-same : (n : ℕ) (o : Option ℕ) → o ≡ Some n → is_number n o ≡ true
is_number-same n None e = cc
is_number-same n (Some m) e =
    let same : m ≡ n = cc in
    elim (eqb_tells m n) [ inl (is, equal) ↦ is | inr (is, differ) ↦ absurd (differ same) ]

pub is_number-told : (n : ℕ) (o : Option ℕ) → is_number n o ≡ true → o ≡ Some n
is_number-told n None e = cc
is_number-told n (Some m) e =
    elim (eqb_tells m n) [ inl (is, equal) ↦ ap (λ k. Some k) equal | inr (is, differ) ↦ let clash : true ≡ false = sym e ∙ is in cc ]

-- what was found stays
pub first_stays : (tells : Elem → Option ℕ) (n : ℕ) (x : Elem) (list : List Elem) → first_numbered tells n (Some x) list ≡ Some x
first_stays tells n x [] = refl
first_stays tells n x (y ∷ list) = first_stays tells n x list

-- where the number is told, an element is found
pub told_found : (tells : Elem → Option ℕ) (n : ℕ) (list : List Elem) → Told tells list n → (next : Elem) × (first_numbered tells n None list ≡ Some next)
told_found tells n [] it = let none = it.listed in cc
told_found tells n (x ∷ list) it = by (λ more. told_found tells n list (record { e = it.e; listed = more; told = it.told })) (is_number n (tells x)) refl
  where
    by : (is_listed it.e list ≡ true → (next : Elem) × (first_numbered tells n None list ≡ Some next))
        → (b : Bool) → is_number n (tells x) ≡ b → (next : Elem) × (first_numbered tells n (found_or_this None b x) list ≡ Some next)
    by behind true is = (x, first_stays tells n x list)
    by behind false not =
        elim (is_listed-cases it.e x list it.listed) [
          | inl same ↦
              let clash : true ≡ false = sym (is_number-same n (tells x) (sym (ap tells same) ∙ it.told)) ∙ not in
              cc
          | inr more ↦ behind more
        ]

-- HOW HIGH NUMBERS ARE

module _ (limit : ℕ) where
  abbrev IsLow : Option ℕ → Type 0
  IsLow told = IfSome told (λ number. number < limit)

  lower_low : (one other : Option ℕ) → IsLow one → IsLow other → IsLow (lower one other)
  lower_low None other a b = b
  lower_low (Some n) None a b = a
  lower_low (Some n) (Some m) a b = by (nat_le n m)
    where
      by : (t : Bool) → IsLow (cond t (Some n) (Some m))
      by true = a
      by false = b

  lowest_low : (tells : Elem → Option ℕ) (before : Option ℕ) (list : List Elem) → IsLow before → ((e : Elem) → IsLow (tells e)) → IsLow (lowest tells before list)
  lowest_low tells before [] low each = low
  lowest_low tells before (e ∷ list) low each = lowest_low tells (lower before (tells e)) list (lower_low before (tells e) low (each e)) each

  telling_low : (told : List (Option ℕ)) (right : Set) → 0 < limit → AreLow told limit → (e : Elem) → IsLow (telling told right e)
  telling_low told right some low e = by (contains e right) (beyond e)
    where
      beyond : (e : Elem) → IsLow (telling_beyond told e)
      beyond (Variable (Free q)) = low q
      beyond (Variable (Bound i)) = some
      beyond Cap = some
      beyond (Hole n) = some

      by : (t : Bool) → IsLow (telling_beyond told e) → IsLow (cond t None (telling_beyond told e))
      by true here = tt
      by false here = here

  -- the lowest number of a list's elements is low
  pub members_low : (told : List (Option ℕ)) (right : Set) (list : List Elem) → 0 < limit → AreLow told limit → IsLow (lowest (telling told right) None list)
  members_low told right list some low = lowest_low (telling told right) None list tt (telling_low told right some low)

higher : (limit above : ℕ) (o : Option ℕ) → limit ≤ above → IsLow limit o → IsLow above o
higher limit above None under low = tt
higher limit above (Some n) under low = omega (arith, under, low)

pub all_higher : (told : List (Option ℕ)) (limit above : ℕ) → limit ≤ above → AreLow told limit → AreLow told above
all_higher told limit above under low q = higher limit above (slice_index_or told q None) under (low q)

-- with one number more, of which the declared set's are low
pub low_more : (devices : ℕ) (right : Set) (told : List (Option ℕ)) (p : ℕ) (number : Option ℕ) (entry : Option Bind) → length told ≡ p
    → number ≡ number_at devices right told p entry → AreLow told (p + 1) → AreLow (told ++ number ∷ []) (p + 1 + 1)
low_more devices right told p number entry long is low q =
    elim (cases_lt q (length told)) [
      | inl before ↦
          subst (IsLow (p + 1 + 1)) (sym (get_or-append told (number ∷ []) None q before)) (higher (p + 1) (p + 1 + 1) (slice_index_or told q None) (omega arith) (low q))
      | inr from ↦
          elim (cases_lt (length told) q) [
            | inl past ↦ subst (IsLow (p + 1 + 1)) (sym (get_or_past (told ++ number ∷ []) q None (omega (arith, past, length-append told (number ∷ []))))) tt
            | inr up_to ↦
                let here : q ≡ length told = omega arith in
                subst (IsLow (p + 1 + 1))
                (sym (ap (λ k. slice_index_or (told ++ number ∷ []) k None) here ∙ get_or-append_seam told number [] None ∙ is))
                (from_lowest (lowest (telling told right) None (declared_members entry))
                (members_low (p + 1) told right (declared_members entry) (omega arith) low))
          ]
    ]
  where
    from_lowest : (o : Option ℕ) → IsLow (p + 1) o → IsLow (p + 1 + 1) (number_from devices p o)
    from_lowest None here = tt
    from_lowest (Some n) here = by (nat_lt p devices)
      where
        by : (t : Bool) → IsLow (p + 1 + 1) (cond t (Some 0) (Some (n + 1)))
        by true = omega arith
        by false = omega (arith, here)
