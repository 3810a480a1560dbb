-- A signature avoids the definitions at each set, one after another, and at a set those that it names are enough.
use Rattle.std.proofs.Common.{◌≡◌, ℕ, suc, ◌<◌, ◌≤◌, Bool, true, false, ◌||◌, cond, List, [], ◌∷◌, length, Option, Some, None}
use Rattle.std.proofs.Common.{refl, sym, ap, ◌∙◌, subst, inl, inr, arith}
use Rattle.std.specs.Prelude.{nat_lt}
use Rattle.std.specs.Option.{option_and_then}
use Rattle.std.proofs.lemmas.Bool.{cases_eq, ltb-false, both_ways}
use Rattle.cc_capture.specs.declared.var.Var.TheVariants.{Free}
use Rattle.cc_capture.specs.declared.var.Elem.TheVariants.{Var as Variable}
use Rattle.cc_capture.specs.Sets.{Set, contains, remove, union}
use Rattle.cc_capture.proofs.Membership.{Member-union, Member-remove}
use Rattle.cc_core.specs.Shapes.{Shape, CapturingType}
use Rattle.cc_core.specs.Contexts.{Bind, TermEntry, TypeEntry, Context, lookup}
use Rattle.cc_core.specs.WellFormed.{IsWellFormedContext}
use Rattle.cc_core.proofs.Lookups.{lookup-below, lookup-cases}
use Rattle.cc_core.proofs.SubcapturingContexts.{IsKindedContext-from}
use Rattle.cc_checking.specs.Avoidance.{Sign, Positive, Negative, has_position, is_free_in, avoided_set, avoided_type}
use Rattle.cc_checking.specs.Verdicts.{declared_set, signature_of}
use Rattle.cc_typing_laws.proofs.Avoiding.{not_true}
use Rattle.cc_avoid.specs.AvoidedTogether.{set_avoiding, names_any, type_avoiding}
use Rattle.cc_avoid.proofs.AvoidedTogether.{type_none, type_more}
use Rattle.cc_avoid.proofs.AvoidingAnswers.{set_kept}
use Rattle.cc_known.specs.Signatures.{greatest_in, greatest_in_set, IsGreatest, height_of}
use Rattle.cc_type.proofs.AvoidedGreatest.{away_set, older_alone, not_below, height_below}
use Rattle.cc_known.proofs.GreatestPositions.{set_greatest, shape_greatest}
use Rattle.cc_check.specs.SignedParts.{declared_sets, AvoidsEntry}

same_next : {A B : Type 0} (f g : A → Option B) (o : Option A) → ((a : A) → f a ≡ g a)
    → option_and_then f o ≡ option_and_then g o
same_next f g None same = refl
same_next f g (Some a) same = same a

-- A signature is the type in which the definitions are avoided together.
pub signature_together : (devices : ℕ) (g : Context) (t : CapturingType)
    → signature_of devices g t ≡ type_avoiding Positive (declared_sets devices g) t
signature_together devices [] t = sym (type_none t)
signature_together devices (b ∷ older) t =
    elim (nat_lt (length older) devices)
    as (λ x. cond x (Some t) (option_and_then (signature_of devices older)
    (avoided_type Positive (length older) (declared_set b) t))
    ≡ type_avoiding Positive (cond x [] ((length older, declared_set b) ∷ declared_sets devices older)) t) [
      | true ↦ sym (type_none t)
      | false ↦
          same_next (signature_of devices older) (type_avoiding Positive (declared_sets devices older))
          (avoided_type Positive (length older) (declared_set b) t) (λ r. signature_together devices older r)
          ∙ sym (type_more (length older) (declared_set b) (declared_sets devices older) t)
    ]

-- sets

-- the newest of the definitions
module _ (devices : ℕ) (b : Bind) (older : Context) (past : nat_lt (length older) devices ≡ false) where
  newest_first : declared_sets devices (b ∷ older) ≡ (length older, declared_set b) ∷ declared_sets devices older
  newest_first = ap (λ x. cond x [] ((length older, declared_set b) ∷ declared_sets devices older)) past

  newest_skipped : (sign : Sign) (c : Set) → has_position (length older) c ≡ false
      → set_avoiding sign (declared_sets devices (b ∷ older)) c ≡ set_avoiding sign (declared_sets devices older) c
  newest_skipped sign c none =
      ap (λ ds. set_avoiding sign ds c) newest_first
      ∙ ap (set_avoiding sign (declared_sets devices older)) (sym (set_kept sign (length older) (declared_set b) c none))

-- a set that names no definition stays
pub set_stays : (sign : Sign) (devices : ℕ) (g : Context) (c : Set)
    → ((q : ℕ) → devices ≤ q → has_position q c ≡ false) → set_avoiding sign (declared_sets devices g) c ≡ c
set_stays sign devices [] c none = refl
set_stays sign devices (b ∷ older) c none =
    elim (nat_lt (length older) devices)
    as (λ x. nat_lt (length older) devices ≡ x → set_avoiding sign (declared_sets devices (b ∷ older)) c ≡ c) [
      | true ↦ λ is.
          ap (λ x. set_avoiding sign (cond x [] ((length older, declared_set b) ∷ declared_sets devices older)) c) is
      | false ↦ λ is.
          newest_skipped devices b older is sign c (none (length older) (ltb-false (length older) devices is))
          ∙ set_stays sign devices older c none
    ] refl

-- what is avoided is gone
itself_gone : (sign : Sign) (p : ℕ) (d c : Set) → has_position p d ≡ false
    → has_position p (avoided_set sign p d c) ≡ false
itself_gone Negative p d c apart =
    not_true (contains (Variable (Free p)) (remove (Variable (Free p)) c))
    (λ m. ((Member-remove (Variable (Free p)) (Variable (Free p)) c).0 m).0 refl)
itself_gone Positive p d c apart =
    elim (has_position p c)
    as (λ x. has_position p c ≡ x → has_position p (cond x (union (remove (Variable (Free p)) c) d) c) ≡ false) [
      | true ↦ λ is.
          not_true (contains (Variable (Free p)) (union (remove (Variable (Free p)) c) d))
          (λ m. elim ((Member-union (Variable (Free p)) (remove (Variable (Free p)) c) d).0 m) as (λ _. ⊥) [
            | inl old ↦ ((Member-remove (Variable (Free p)) (Variable (Free p)) c).0 old).0 refl
            | inr new ↦ both_ways (contains (Variable (Free p)) d) apart new
          ])
      | false ↦ λ is. is
    ] refl

-- and no greater one comes in
greater_gone : (sign : Sign) (g : Context) (p : ℕ) (s : Shape) (d c : Set) → IsWellFormedContext g
    → lookup g p ≡ Some (TermEntry s d) → ((q : ℕ) → p < q → has_position q c ≡ false)
    → (q : ℕ) → p ≤ q → has_position q (avoided_set sign p d c) ≡ false
greater_gone sign g p s d c formed there above q le =
    let older = older_alone g p s d (IsKindedContext-from g formed) there in
    elim (cases_eq q p) as (λ _. has_position q (avoided_set sign p d c) ≡ false) [
      | inl same ↦
          subst (λ n. has_position n (avoided_set sign p d c) ≡ false) (sym same)
          (itself_gone sign p d c (older p (omega arith)))
      | inr other ↦ away_set sign p q d c (older q le) (above q (omega arith))
    ]

-- the greatest that a set names may be avoided first
greatest_first : (sign : Sign) (devices : ℕ) (g : Context) (p : ℕ) (s : Shape) (d c : Set) → devices ≤ p
    → ((q : ℕ) → p < q → has_position q c ≡ false)
    → ((q : ℕ) → p ≤ q → has_position q (avoided_set sign p d c) ≡ false) → lookup g p ≡ Some (TermEntry s d)
    → set_avoiding sign (declared_sets devices g) c
    ≡ set_avoiding sign (declared_sets devices g) (avoided_set sign p d c)
greatest_first sign devices [] p s d c le above gone there = cc
greatest_first sign devices (b ∷ older) p s d c le above gone there =
    elim (lookup-cases b older p (TermEntry s d) there)
    as (λ _. set_avoiding sign (declared_sets devices (b ∷ older)) c
    ≡ set_avoiding sign (declared_sets devices (b ∷ older)) (avoided_set sign p d c)) [
      | inl newest ↦
          let at : p ≡ length older = newest.0 in
          let past = not_below (length older) devices (omega arith) in
          let same : avoided_set sign (length older) (declared_set b) c ≡ avoided_set sign p d c =
          ap (λ n. avoided_set sign n (declared_set b) c) (sym at)
          ∙ ap (λ x. avoided_set sign p (declared_set x) c) newest.1 in
          ap (λ ds. set_avoiding sign ds c) (newest_first devices b older past)
          ∙ ap (set_avoiding sign (declared_sets devices older)) same
          ∙ sym (newest_skipped devices b older past sign (avoided_set sign p d c) (gone (length older) (omega arith)))
      | inr old ↦
          let below : p < length older = lookup-below older p (TermEntry s d) old in
          let past = not_below (length older) devices (omega arith) in
          newest_skipped devices b older past sign c (above (length older) below)
          ∙ greatest_first sign devices older p s d c le above gone old
          ∙ sym (newest_skipped devices b older past sign (avoided_set sign p d c) (gone (length older) (omega arith)))
    ]

-- A step of the loop: the set stands for the same, and its greatest position is a lower one.
pub record IsLowerSet (sign : Sign) (devices : ℕ) (globals : Context) (set next : Set) : Type 0 where
  pub same :
      set_avoiding sign (declared_sets devices globals) set ≡ set_avoiding sign (declared_sets devices globals) next
  pub lower : height_of (greatest_in_set devices next) < height_of (greatest_in_set devices set)

entry_cases : (sign : Sign) (p : ℕ) (o : Option Bind) (c next : Set) → AvoidsEntry sign p o c next
    → (s : Shape) × (d : Set) × (o ≡ Some (TermEntry s d)) × (next ≡ avoided_set sign p d c)
entry_cases sign p (Some (TermEntry s d)) c next avoids = (s, d, refl, avoids)
entry_cases sign p (Some (TypeEntry bound)) c next avoids = absurd avoids
entry_cases sign p None c next avoids = absurd avoids

lower_set : (sign : Sign) (devices : ℕ) (g : Context) (p : ℕ) (s : Shape) (d c : Set) → IsWellFormedContext g
    → greatest_in_set devices c ≡ Some p → lookup g p ≡ Some (TermEntry s d)
    → IsLowerSet sign devices g c (avoided_set sign p d c)
lower_set sign devices g p s d c formed is there =
    let k : IsGreatest devices (λ q. has_position q c) (Some p) =
    subst (IsGreatest devices (λ q. has_position q c)) is (set_greatest devices c) in
    let gone = greater_gone sign g p s d c formed there k.2 in
    let next = avoided_set sign p d c in
    let lower : height_of (greatest_in_set devices next) < suc p =
    height_below devices (λ q. has_position q next) (greatest_in_set devices next) p (set_greatest devices next) gone in
    record {
      same = greatest_first sign devices g p s d c k.0 k.2 gone there;
      lower = subst (λ o. height_of (greatest_in_set devices next) < height_of o) (sym is) lower;
    }

pub greatest_avoided : (sign : Sign) (devices : ℕ) (g : Context) (p : ℕ) (c next : Set) → IsWellFormedContext g
    → greatest_in_set devices c ≡ Some p → AvoidsEntry sign p (lookup g p) c next → IsLowerSet sign devices g c next
greatest_avoided sign devices g p c next formed is avoids =
    let (s, d, there, same) = entry_cases sign p (lookup g p) c next avoids in
    subst (IsLowerSet sign devices g c) (sym same) (lower_set sign devices g p s d c formed is there)

-- where none is left, the set stays
pub greatest_left : (sign : Sign) (devices : ℕ) (g : Context) (c : Set) → greatest_in_set devices c ≡ None
    → set_avoiding sign (declared_sets devices g) c ≡ c
greatest_left sign devices g c is =
    set_stays sign devices g c (subst (IsGreatest devices (λ q. has_position q c)) is (set_greatest devices c))

-- bounds and the shapes of exits

no_name : (devices : ℕ) (g : Context) (s : Shape) → ((q : ℕ) → devices ≤ q → is_free_in q s ≡ false)
    → names_any (declared_sets devices g) s ≡ false
no_name devices [] s none = refl
no_name devices (b ∷ older) s none =
    elim (nat_lt (length older) devices)
    as (λ x. nat_lt (length older) devices ≡ x
    → names_any (cond x [] ((length older, declared_set b) ∷ declared_sets devices older)) s ≡ false) [
      | true ↦ λ is. refl
      | false ↦ λ is.
          (λ i. none (length older) (ltb-false (length older) devices is) i || no_name devices older s none i)
    ] refl

or_later : (a b : Bool) → b ≡ true → (a || b) ≡ true
or_later true b e = refl
or_later false b e = e

one_name : (devices : ℕ) (g : Context) (s : Shape) (p : ℕ) → devices ≤ p → p < length g → is_free_in p s ≡ true
    → names_any (declared_sets devices g) s ≡ true
one_name devices [] s p le below free = absurd (omega arith)
one_name devices (b ∷ older) s p le below free =
    let past = not_below (length older) devices (omega arith) in
    ap (λ ds. names_any ds s) (newest_first devices b older past)
    ∙ elim (cases_eq p (length older))
    as (λ _. (is_free_in (length older) s || names_any (declared_sets devices older) s) ≡ true) [
      | inl same ↦ ap (λ x. x || names_any (declared_sets devices older) s) (ap (λ n. is_free_in n s) (sym same) ∙ free)
      | inr other ↦
          or_later (is_free_in (length older) s) (names_any (declared_sets devices older) s)
          (one_name devices older s p le (omega arith) free)
    ]

-- the greatest position of the shape tells whether it names one
pub names_none : (devices : ℕ) (g : Context) (s : Shape) → greatest_in devices s ≡ None
    → names_any (declared_sets devices g) s ≡ false
names_none devices g s is =
    no_name devices g s (subst (IsGreatest devices (λ q. is_free_in q s)) is (shape_greatest devices s))

pub names_one : (devices : ℕ) (g : Context) (s : Shape) (p : ℕ) → greatest_in devices s ≡ Some p → p < length g
    → names_any (declared_sets devices g) s ≡ true
names_one devices g s p is below =
    let k : IsGreatest devices (λ q. is_free_in q s) (Some p) =
    subst (IsGreatest devices (λ q. is_free_in q s)) is (shape_greatest devices s) in
    one_name devices g s p k.0 below k.1
