-- A signature avoids the greatest position first; it is gone then, and no greater one comes in.
use Rattle.std.proofs.Common.{◌≡◌, ℕ, suc, ◌<◌, ◌≤◌, Bool, true, false, ◌||◌, cond, [], ◌∷◌, length, Option, Some, None}
use Rattle.std.proofs.Common.{refl, sym, ap, ◌∙◌, subst, inl, inr, arith}
use Rattle.std.specs.Prelude.{nat_lt}
use Rattle.std.specs.Option.{option_map, option_and_then}
use Rattle.std.proofs.lemmas.Bool.{cases_lt, cases_eq, ltb-true, ltb-false, both_ways}
use Rattle.cc_capture.specs.declared.var.Var.TheVariants.{Free}
use Rattle.cc_capture.specs.declared.var.Elem.TheVariants.{Var as Variable}
use Rattle.cc_capture.specs.Sets.{Set, contains, remove, union}
use Rattle.cc_capture.proofs.Membership.{Member-union, Member-remove}
use Rattle.cc_core.specs.Shapes.{Shape, BaseShape, AnyShape, TypeVariable, FunctionShape, TypeFunctionShape, BoxShape}
use Rattle.cc_core.specs.Shapes.{ExitShape, CapturingType}
use Rattle.cc_core.specs.Contexts.{Bind, TermEntry, Context, lookup}
use Rattle.cc_core.specs.WellFormed.{kind_of, kinds_of, IsWellFormedContext, IsWellFormedType}
use Rattle.cc_core.proofs.Lookups.{length_map, lookup-below, lookup-cases}
use Rattle.cc_core.proofs.SubcapturingContexts.{IsKindedEntry, IsKindedContext, IsKindedContext-from}
use Rattle.cc_checking.specs.Avoidance.{Sign, Positive, Negative, opposite, has_position, is_free_in, is_free_in_type}
use Rattle.cc_checking.specs.Avoidance.{avoided_set, avoided, avoided_type}
use Rattle.cc_checking.specs.Verdicts.{declared_set, signature_of}
use Rattle.cc_typing_laws.proofs.Avoiding.{both_some, map_some, unless_some, not_true, avoided_type_parts}
use Rattle.cc_typing_laws.proofs.AvoidingPlaces.{nothing_to_avoid, avoided_is_gone}
use Rattle.cc_known.specs.Signatures.{greatest_position, IsGreatest, height_of, SignatureOfDevicesAlone}
use Rattle.cc_known.specs.Signatures.{SignatureAvoidsTheGreatest, GreatestPositionFalls}
use Rattle.cc_known.proofs.GreatestPositions.{greatest_is_greatest}

or_parts_no : (a b : Bool) → (a || b) ≡ false → (a ≡ false) × (b ≡ false)
or_parts_no true b e = cc
or_parts_no false b e = (refl, e)

pub or_no : (a b : Bool) → a ≡ false → b ≡ false → (a || b) ≡ false
or_no true b e f = cc
or_no false b e f = f

-- a position that is neither in the declared set nor in what is avoided stays away
pub away_set : (sign : Sign) (p q : ℕ) (d c : Set) → has_position q d ≡ false → has_position q c ≡ false
    → has_position q (avoided_set sign p d c) ≡ false
away_set Negative p q d c no_d no_c =
    not_true (contains (Variable (Free q)) (remove (Variable (Free p)) c))
    (λ m. both_ways (contains (Variable (Free q)) c) no_c ((Member-remove (Variable (Free q)) (Variable (Free p)) c).0
    m).1)
away_set Positive p q d c no_d no_c = by_test (has_position p c)
  where
    by_test : (b : Bool) → has_position q (cond b (union (remove (Variable (Free p)) c) d) c) ≡ false
    by_test true =
        not_true (contains (Variable (Free q)) (union (remove (Variable (Free p)) c) d))
        (λ m. elim ((Member-union (Variable (Free q)) (remove (Variable (Free p)) c) d).0 m) as (λ _. ⊥) [
          | inl old ↦
              both_ways (contains (Variable (Free q)) c) no_c
              ((Member-remove (Variable (Free q)) (Variable (Free p)) c).0 old).1
          | inr new ↦ both_ways (contains (Variable (Free q)) d) no_d new
        ])
    by_test false = no_c

away : (sign : Sign) (p q : ℕ) (d : Set) → has_position q d ≡ false → (s r : Shape) → is_free_in q s ≡ false
    → avoided sign p d s ≡ Some r → is_free_in q r ≡ false
away sign p q d apart (BaseShape b) r h e = let is : r ≡ BaseShape b = cc in ap (is_free_in q) is
away sign p q d apart AnyShape r h e = let is : r ≡ AnyShape = cc in ap (is_free_in q) is
away sign p q d apart (TypeVariable v) r h e = let is : r ≡ TypeVariable v = cc in ap (is_free_in q) is ∙ h
away sign p q d apart (FunctionShape t c g x) r h e =
    let a = or_parts_no (is_free_in q t || has_position q c || is_free_in q g) (has_position q x) h in
    let b = or_parts_no (is_free_in q t || has_position q c) (is_free_in q g) a.0 in
    let k = or_parts_no (is_free_in q t) (has_position q c) b.0 in
    let parts = both_some (avoided (opposite sign) p d t) (avoided sign p d g)
    (λ t' g'. FunctionShape t' (avoided_set (opposite sign) p d c) g' (avoided_set sign p d x)) r e in
    ap (is_free_in q) parts.4
    ∙ or_no _ _ (or_no _ _ (or_no _ _ (away (opposite sign) p q d apart t parts.0 k.0 parts.2)
    (away_set (opposite sign) p q d c apart k.1))
    (away sign p q d apart g parts.1 b.1 parts.3)) (away_set sign p q d x apart a.1)
away sign p q d apart (TypeFunctionShape s g x) r h e =
    let a = or_parts_no (is_free_in q s || is_free_in q g) (has_position q x) h in
    let b = or_parts_no (is_free_in q s) (is_free_in q g) a.0 in
    let unfree = unless_some (is_free_in p s) (option_map (λ g'. TypeFunctionShape s g' (avoided_set sign p d x))
    (avoided sign p d g)) r e in
    let parts = map_some (avoided sign p d g) (λ g'. TypeFunctionShape s g' (avoided_set sign p d x)) r unfree.1 in
    ap (is_free_in q) parts.2
    ∙ or_no _ _ (or_no _ _ b.0 (away sign p q d apart g parts.0 b.1 parts.1)) (away_set sign p q d x apart a.1)
away sign p q d apart (BoxShape t c) r h e =
    let k = or_parts_no (is_free_in q t) (has_position q c) h in
    let parts = map_some (avoided sign p d t) (λ t'. BoxShape t' (avoided_set sign p d c)) r e in
    ap (is_free_in q) parts.2 ∙ or_no _ _ (away sign p q d apart t parts.0 k.0 parts.1)
    (away_set sign p q d c apart k.1)
away sign p q d apart (ExitShape g) r h e =
    let unfree = unless_some (is_free_in p g) (Some (ExitShape g)) r e in
    let is : r ≡ ExitShape g = cc in
    ap (is_free_in q) is ∙ h

away_type : (p q : ℕ) (d : Set) → has_position q d ≡ false → (t r : CapturingType) → is_free_in_type q t ≡ false
    → avoided_type Positive p d t ≡ Some r → is_free_in_type q r ≡ false
away_type p q d apart t r h e =
    let k = or_parts_no (is_free_in q t.shape) (has_position q t.set) h in
    let parts = avoided_type_parts Positive p d t r e in
    or_no (is_free_in q r.shape) (has_position q r.set) (away Positive p q d apart t.shape r.shape k.0 parts.0)
    (ap (has_position q) (sym parts.1) ∙ away_set Positive p q d t.set apart k.1)

-- the declared set of an entry names older entries alone
pub older_alone : (g : Context) (p : ℕ) (s : Shape) (d : Set) → IsKindedContext g → lookup g p ≡ Some (TermEntry s d)
    → (q : ℕ) → p ≤ q → has_position q d ≡ false
older_alone [] p s d formed there q le = cc
older_alone (b ∷ g) p s d formed there q le =
    elim (lookup-cases b g p (TermEntry s d) there) as (λ _. has_position q d ≡ false) [
      | inl newest ↦
          let own : IsKindedEntry (kinds_of g) (TermEntry s d) = subst (IsKindedEntry (kinds_of g)) newest.1 formed.0 in
          not_true (has_position q d)
          (λ m.
          let below : q < length (kinds_of g) = lookup-below (kinds_of g) q _ (own.1 (Variable (Free q)) m) in
          let lengths = length_map kind_of g in
          let at : p ≡ length g = newest.0 in
          absurd (omega arith))
      | inr old ↦ older_alone g p s d formed.1 old q le
    ]

-- after the greatest was avoided, neither it nor a greater one is free
pub greatest_gone : (g : Context) (t r : CapturingType) (p : ℕ) (s : Shape) (d : Set) → IsWellFormedContext g
    → IsWellFormedType g t → ((q : ℕ) → p < q → is_free_in_type q t ≡ false) → lookup g p ≡ Some (TermEntry s d)
    → avoided_type Positive p d t ≡ Some r → (q : ℕ) → p ≤ q → is_free_in_type q r ≡ false
greatest_gone g t r p s d formed known above there e q le =
    let older = older_alone g p s d (IsKindedContext-from g formed) there in
    elim (cases_eq q p) as (λ _. is_free_in_type q r ≡ false) [
      | inl same ↦
          subst (λ n. is_free_in_type n r ≡ false) (sym same)
          (avoided_is_gone g Positive p s d t r there (older p (omega arith)) known e)
      | inr other ↦ away_type p q d (older q le) t r (above q (omega arith)) e
    ]

-- a position that is not free changes nothing
skip_one : (devices : ℕ) (b : Bind) (older : Context) (t : CapturingType) → nat_lt (length older) devices ≡ false
    → is_free_in_type (length older) t ≡ false → signature_of devices (b ∷ older) t ≡ signature_of devices older t
skip_one devices b older t past none =
    ap (λ x. cond x (Some t) (option_and_then (signature_of devices older)
    (avoided_type Positive (length older) (declared_set b) t))) past
    ∙ ap (option_and_then (signature_of devices older)) (nothing_to_avoid Positive (length older) (declared_set b) t
    none)

pub devices_alone : (devices : ℕ) (g : Context) (t : CapturingType)
    → ((q : ℕ) → devices ≤ q → is_free_in_type q t ≡ false) → signature_of devices g t ≡ Some t
devices_alone devices [] t none = refl
devices_alone devices (b ∷ older) t none =
    elim (nat_lt (length older) devices) as (λ x. nat_lt (length older) devices ≡ x
    → signature_of devices (b ∷ older) t ≡ Some t) [
      | true ↦ λ is.
          ap (λ x. cond x (Some t) (option_and_then (signature_of devices older)
          (avoided_type Positive (length older) (declared_set b) t))) is
      | false ↦ λ is.
          skip_one devices b older t is (none (length older) (ltb-false (length older) devices is))
          ∙ devices_alone devices older t none
    ] refl

-- what comes after an answer is the same for each answer
alike_next : {A B : Type 0} (f g : A → Option B) (o : Option A) → ((a : A) → o ≡ Some a → f a ≡ g a)
    → option_and_then f o ≡ option_and_then g o
alike_next f g None same = refl
alike_next f g (Some a) same = same a refl

pub not_below : (n m : ℕ) → m ≤ n → nat_lt n m ≡ false
not_below n m le = not_true (nat_lt n m) (λ is. let less : n < m = ltb-true n m is in absurd (omega arith))

avoided_first : (devices : ℕ) (g : Context) (t : CapturingType) (p : ℕ) (s : Shape) (d : Set) → devices ≤ p
    → ((q : ℕ) → p < q → is_free_in_type q t ≡ false)
    → ((r : CapturingType) → avoided_type Positive p d t ≡ Some r → (q : ℕ) → p ≤ q → is_free_in_type q r ≡ false)
    → lookup g p ≡ Some (TermEntry s d)
    → signature_of devices g t ≡ option_and_then (signature_of devices g) (avoided_type Positive p d t)
avoided_first devices [] t p s d le above gone there = cc
avoided_first devices (b ∷ older) t p s d le above gone there =
    elim (lookup-cases b older p (TermEntry s d) there)
    as (λ _. signature_of devices (b ∷ older) t ≡ option_and_then (signature_of devices (b ∷ older))
    (avoided_type Positive p d t)) [
      | inl newest ↦
          let at : p ≡ length older = newest.0 in
          let past = not_below (length older) devices (omega arith) in
          ap (λ x. cond x (Some t) (option_and_then (signature_of devices older)
          (avoided_type Positive (length older) (declared_set b) t))) past
          ∙ ap (λ n. option_and_then (signature_of devices older) (avoided_type Positive n (declared_set b) t)) (sym at)
          ∙ ap (λ x. option_and_then (signature_of devices older) (avoided_type Positive p (declared_set x) t)) newest.1
          ∙ alike_next (signature_of devices older) (signature_of devices (b ∷ older)) (avoided_type Positive p d t)
          (λ r e. sym (skip_one devices b older r past (gone r e (length older) (omega arith))))
      | inr old ↦
          let below : p < length older = lookup-below older p (TermEntry s d) old in
          let past = not_below (length older) devices (omega arith) in
          skip_one devices b older t past (above (length older) below)
          ∙ avoided_first devices older t p s d le above gone old
          ∙ alike_next (signature_of devices older) (signature_of devices (b ∷ older)) (avoided_type Positive p d t)
          (λ r e. sym (skip_one devices b older r past (gone r e (length older) (omega arith))))
    ]

-- what the greatest position says
pub greatest_none : (devices : ℕ) (t : CapturingType) → greatest_position devices t ≡ None
    → (q : ℕ) → devices ≤ q → is_free_in_type q t ≡ false
greatest_none devices t is = subst (IsGreatest devices (λ q. is_free_in_type q t)) is (greatest_is_greatest devices t)

pub greatest_some : (devices : ℕ) (t : CapturingType) (p : ℕ) → greatest_position devices t ≡ Some p
    → (devices ≤ p) × (is_free_in_type p t ≡ true) × ((q : ℕ) → p < q → is_free_in_type q t ≡ false)
greatest_some devices t p is = subst (IsGreatest devices (λ q. is_free_in_type q t)) is (greatest_is_greatest devices t)

pub signature_of_devices_alone : SignatureOfDevicesAlone
signature_of_devices_alone devices g t is = devices_alone devices g t (greatest_none devices t is)

pub signature_avoids_the_greatest : SignatureAvoidsTheGreatest
signature_avoids_the_greatest devices g t p s d formed known is there =
    let k = greatest_some devices t p is in
    avoided_first devices g t p s d k.0 k.2 (λ r e. greatest_gone g t r p s d formed known k.2 there e) there

pub height_below : (first : ℕ) (f : ℕ → Bool) (o : Option ℕ) (p : ℕ) → IsGreatest first f o
    → ((q : ℕ) → p ≤ q → f q ≡ false) → height_of o < suc p
height_below first f None p k none = omega arith
height_below first f (Some q) p k none =
    elim (cases_lt q p) as (λ _. suc q < suc p) [
      | inl less ↦ omega arith
      | inr more ↦ absurd (both_ways (f q) (none q more) k.1)
    ]

pub greatest_position_falls : GreatestPositionFalls
greatest_position_falls devices g t r p s d formed known is there e =
    let k = greatest_some devices t p is in
    subst (λ o. height_of (greatest_position devices r) < height_of o) (sym is)
    (height_below devices (λ q. is_free_in_type q r) (greatest_position devices r) p (greatest_is_greatest devices r)
    (greatest_gone g t r p s d formed known k.2 there e))
