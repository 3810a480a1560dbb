-- When avoiding has an answer, and where the position and the kinds of variables are afterwards.
use Rattle.std.proofs.Common.{◌≡◌, ◌↔◌, ℕ, Bool, true, false, not, ◌&&◌, ◌||◌, cond, List, [], ◌∷◌, length, Option, Some, None, refl, sym, ap, ◌∙◌, subst, inl, inr, ◌⊎◌}
use Rattle.std.specs.Prelude.{nat_eq}
use Rattle.std.specs.Option.{option_map}
use Rattle.std.proofs.lemmas.Bool.{eqb-true}
use Rattle.cc_capture.specs.declared.var.Var.{Var}
use Rattle.cc_capture.specs.declared.var.Var.TheVariants.{Bound, Free}
use Rattle.cc_capture.specs.declared.var.Elem.{Elem}
use Rattle.cc_capture.specs.declared.var.Elem.TheVariants.{Var as Variable, Cap, Hole}
use Rattle.cc_capture.specs.Sets.{Set, Member, contains, remove, union}
use Rattle.cc_capture.proofs.Membership.{same_members, Member-remove, Member-union}
use Rattle.cc_core.specs.Shapes.{Shape, BaseShape, AnyShape, TypeVariable, FunctionShape, TypeFunctionShape, BoxShape, ExitShape, CapturingType}
use Rattle.cc_core.specs.Contexts.{TermEntry, Context, lookup}
use Rattle.cc_core.specs.WellFormed.{Kind, TermKind, TypeKind, kind_of, kinds_of, is_well_formed_set, is_well_formed_type}
use Rattle.cc_core.proofs.Lookups.{length_map, lookup-other}
use Rattle.cc_core.proofs.KindFacts.{IsOfKind, IsKinded, IsKindedSet, IsKindedElement, IsKindedType, IsKindedSet-from, IsKindedType-from, IsKindedType-test}
use Rattle.cc_core.proofs.SubcapturingContexts.{kind_of_entry}
use Rattle.cc_checking.specs.Avoidance.{Sign, Positive, Negative, opposite, has_position, is_position, is_free_in, is_free_in_type, is_free_in_invariant_place, avoided_set, with_both, unless_free, avoided, avoided_type}
use Rattle.cc_typing_laws.proofs.Avoiding.{both_some, map_some, unless_some, not_true, avoided_type_parts}
use Rattle.cc_core.proofs.KindRespecting.{closed_kinded}
use Rattle.cc_core.proofs.Sorts.{SetSort}

-- whether there is an answer
abbrev has_answer : {A : Type 0} → Option A → Bool
has_answer (Some a) = true
has_answer None = false

answers_both : (a b : Option Shape) (build : Shape → Shape → Shape) → has_answer (with_both a b build) ≡ (has_answer a && has_answer b)
answers_both (Some a) (Some b) build = refl
answers_both (Some a) None build = refl
answers_both None b build = refl

answers_map : {A B : Type 0} (a : Option A) (build : A → B) → has_answer (option_map build a) ≡ has_answer a
answers_map (Some a) build = refl
answers_map None build = refl

answers_unless : (t : Bool) (a : Option Shape) → has_answer (unless_free t a) ≡ (not t && has_answer a)
answers_unless true a = refl
answers_unless false a = refl

not_or : (a b : Bool) → not (a || b) ≡ (not a && not b)
not_or true b = refl
not_or false b = refl

and_true : (a : Bool) → (a && true) ≡ a
and_true true = refl
and_true false = refl

answered : (sign : Sign) (position : ℕ) (declared : Set) (shape : Shape) → has_answer (avoided sign position declared shape) ≡ not (is_free_in_invariant_place position shape)
answered sign position declared (BaseShape base) = refl
answered sign position declared AnyShape = refl
answered sign position declared (TypeVariable v) = refl
answered sign position declared (FunctionShape t c g d) =
    let one = answered (opposite sign) position declared t in
    let two = answered sign position declared g in
    answers_both (avoided (opposite sign) position declared t) (avoided sign position declared g) (λ t' g'. FunctionShape t' (avoided_set (opposite sign) position declared c) g' (avoided_set sign position declared d))
    ∙ (λ i. one i && two i) ∙ sym (not_or (is_free_in_invariant_place position t) (is_free_in_invariant_place position g))
answered sign position declared (TypeFunctionShape b g d) =
    answers_unless (is_free_in position b) (option_map (λ g'. TypeFunctionShape b g' (avoided_set sign position declared d)) (avoided sign position declared g))
    ∙ ap (λ a. not (is_free_in position b) && a) (answers_map (avoided sign position declared g) (λ g'. TypeFunctionShape b g' (avoided_set sign position declared d)) ∙ answered sign position declared g)
    ∙ sym (not_or (is_free_in position b) (is_free_in_invariant_place position g))
answered sign position declared (BoxShape t c) = answers_map (avoided sign position declared t) (λ t'. BoxShape t' (avoided_set sign position declared c)) ∙ answered sign position declared t
answered sign position declared (ExitShape g) = answers_unless (is_free_in position g) (Some (ExitShape g)) ∙ and_true (not (is_free_in position g))

no_answer : {A : Type 0} (o : Option A) (t : Bool) → has_answer o ≡ not t → (o ≡ None) ↔ (t ≡ true)
no_answer (Some a) true e = cc
no_answer (Some a) false e = ((λ x. cc), (λ x. cc))
no_answer None true e = ((λ x. refl), (λ x. refl))
no_answer None false e = cc

pub refused : (sign : Sign) (position : ℕ) (declared : Set) (type : CapturingType) → (avoided_type sign position declared type ≡ None) ↔ (is_free_in_invariant_place position type.shape ≡ true)
refused sign position declared type =
    no_answer (avoided_type sign position declared type) (is_free_in_invariant_place position type.shape)
    (answers_map (avoided sign position declared type.shape) (λ s. record { shape = s; set = avoided_set sign position declared type.set }) ∙ answered sign position declared type.shape)

-- where the position is in none of the parts
or_false : (a b : Bool) → (a || b) ≡ false → (a ≡ false) × (b ≡ false)
or_false true b e = cc
or_false false b e = (refl, e)

or_neither : (a b : Bool) → a ≡ false → b ≡ false → (a || b) ≡ false
or_neither true b e f = cc
or_neither false b e f = f

set_without : (sign : Sign) (position : ℕ) (declared set : Set) → has_position position set ≡ false → avoided_set sign position declared set ≡ set
set_without Positive position declared set e = ap (λ t. cond t (union (remove (Variable (Free position)) set) declared) set) e
set_without Negative position declared set e =
    let x : Elem = Variable (Free position) in
    same_members (remove x set) set
    (λ y here. ((Member-remove y x set).0 here).1)
    (λ y here. (Member-remove y x set).1 ((λ same. let t : contains x set ≡ true = subst (λ z. Member z set) same here in cc), here))

shape_without : (sign : Sign) (position : ℕ) (declared : Set) (shape : Shape) → is_free_in position shape ≡ false → avoided sign position declared shape ≡ Some shape
shape_without sign position declared (BaseShape base) e = refl
shape_without sign position declared AnyShape e = refl
shape_without sign position declared (TypeVariable v) e = refl
shape_without sign position declared (FunctionShape t c g d) e =
    let a = or_false (is_free_in position t || has_position position c || is_free_in position g) (has_position position d) e in
    let b = or_false (is_free_in position t || has_position position c) (is_free_in position g) a.0 in
    let p = or_false (is_free_in position t) (has_position position c) b.0 in
    let one = shape_without (opposite sign) position declared t p.0 in
    let two = set_without (opposite sign) position declared c p.1 in
    let three = shape_without sign position declared g b.1 in
    let four = set_without sign position declared d a.1 in
    λ i. with_both (one i) (three i) (λ t' g'. FunctionShape t' (two i) g' (four i))
shape_without sign position declared (TypeFunctionShape s g d) e =
    let a = or_false (is_free_in position s || is_free_in position g) (has_position position d) e in
    let b = or_false (is_free_in position s) (is_free_in position g) a.0 in
    let zero_ = b.0 in
    let three = shape_without sign position declared g b.1 in
    let four = set_without sign position declared d a.1 in
    λ i. unless_free (zero_ i) (option_map (λ g'. TypeFunctionShape s g' (four i)) (three i))
shape_without sign position declared (BoxShape t c) e =
    let p = or_false (is_free_in position t) (has_position position c) e in
    let one = shape_without sign position declared t p.0 in
    let two = set_without sign position declared c p.1 in
    λ i. option_map (λ t'. BoxShape t' (two i)) (one i)
shape_without sign position declared (ExitShape g) e = ap (λ t. unless_free t (Some (ExitShape g))) e

pub nothing_to_avoid : (sign : Sign) (position : ℕ) (declared : Set) (type : CapturingType) → is_free_in_type position type ≡ false → avoided_type sign position declared type ≡ Some type
nothing_to_avoid sign position declared type e =
    let p = or_false (is_free_in position type.shape) (has_position position type.set) e in
    let one = shape_without sign position declared type.shape p.0 in
    let two = set_without sign position declared type.set p.1 in
    λ i. option_map (λ s. record { shape = s; set = two i }) (one i)

-- The position is gone.
gone_set : (sign : Sign) (position : ℕ) (declared set : Set) → has_position position declared ≡ false → has_position position (avoided_set sign position declared set) ≡ false
gone_set Negative position declared set free =
    let x : Elem = Variable (Free position) in
    not_true (contains x (remove x set)) (λ here. ((Member-remove x x set).0 here).0 refl)
gone_set Positive position declared set free =
    let x : Elem = Variable (Free position) in
    let joined : Set = union (remove x set) declared in
    elim (has_position position set) as (λ t. has_position position set ≡ t → has_position position (cond t joined set) ≡ false) [
      | true ↦ λ _. not_true (contains x joined) (λ here. elim ((Member-union x (remove x set) declared).0 here) as (λ _. ⊥) [
        | inl kept ↦ ((Member-remove x x set).0 kept).0 refl
        | inr added ↦ cc
      ])
      | false ↦ λ e. e
    ] refl

gone_variable : (kinds passed : List Kind) (position : ℕ) (v : Var) → lookup kinds position ≡ Some TermKind → IsOfKind kinds passed v TypeKind → is_position position v ≡ false
gone_variable kinds passed position (Bound index) term type = refl
gone_variable kinds passed position (Free p) term type =
    not_true (nat_eq position p) (λ same. let known : lookup kinds p ≡ Some TermKind = ap (lookup kinds) (sym (eqb-true position p same)) ∙ term in cc)

module _ (kinds : List Kind) (position : ℕ) (declared : Set) (term : lookup kinds position ≡ Some TermKind) (free : has_position position declared ≡ false) where
  gone : (sign : Sign) (passed : List Kind) (shape result : Shape) → IsKinded kinds passed shape → avoided sign position declared shape ≡ Some result → is_free_in position result ≡ false
  gone sign passed (BaseShape base) result h e = let is : result ≡ BaseShape base = cc in ap (is_free_in position) is
  gone sign passed AnyShape result h e = let is : result ≡ AnyShape = cc in ap (is_free_in position) is
  gone sign passed (TypeVariable v) result h e = let is : result ≡ TypeVariable v = cc in ap (is_free_in position) is ∙ gone_variable kinds passed position v term h
  gone sign passed (FunctionShape t c g d) result h e =
      let parts = both_some (avoided (opposite sign) position declared t) (avoided sign position declared g)
      (λ t' g'. FunctionShape t' (avoided_set (opposite sign) position declared c) g' (avoided_set sign position declared d)) result e in
      ap (is_free_in position) parts.4
      ∙ or_neither _ _ (or_neither _ _ (or_neither _ _ (gone (opposite sign) passed t parts.0 h.0 parts.2) (gone_set (opposite sign) position declared c free)) (gone sign (TermKind ∷ passed) g parts.1 h.2 parts.3)) (gone_set sign position declared d free)
  gone sign passed (TypeFunctionShape s g d) result h e =
      let unfree = unless_some (is_free_in position s) (option_map (λ g'. TypeFunctionShape s g' (avoided_set sign position declared d)) (avoided sign position declared g)) result e in
      let parts = map_some (avoided sign position declared g) (λ g'. TypeFunctionShape s g' (avoided_set sign position declared d)) result unfree.1 in
      ap (is_free_in position) parts.2
      ∙ or_neither _ _ (or_neither _ _ unfree.0 (gone sign (TypeKind ∷ passed) g parts.0 h.1 parts.1)) (gone_set sign position declared d free)
  gone sign passed (BoxShape t c) result h e =
      let parts = map_some (avoided sign position declared t) (λ t'. BoxShape t' (avoided_set sign position declared c)) result e in
      ap (is_free_in position) parts.2 ∙ or_neither _ _ (gone sign passed t parts.0 h.0 parts.1) (gone_set sign position declared c free)
  gone sign passed (ExitShape g) result h e =
      let unfree = unless_some (is_free_in position g) (Some (ExitShape g)) result e in
      let is : result ≡ ExitShape g = cc in
      ap (is_free_in position) is ∙ unfree.0

pub avoided_is_gone : (context : Context) (sign : Sign) (position : ℕ) (shape : Shape) (declared : Set) (type result : CapturingType)
    → lookup context position ≡ Some (TermEntry shape declared) → has_position position declared ≡ false
    → is_well_formed_type (kinds_of context) [] type ≡ true → avoided_type sign position declared type ≡ Some result → is_free_in_type position result ≡ false
avoided_is_gone context sign position shape declared type result there free formed e =
    let parts = avoided_type_parts sign position declared type result e in
    let kinded = IsKindedType-from (kinds_of context) [] type formed in
    or_neither (is_free_in position result.shape) (has_position position result.set)
    (gone (kinds_of context) position declared (kind_of_entry context position (TermEntry shape declared) there) free sign [] type.shape result.shape kinded.0 parts.0)
    (ap (has_position position) (sym parts.1) ∙ gone_set sign position declared type.set free)

-- a set after it was avoided has only other members of it, and those of the declared set
members_after : (sign : Sign) (position : ℕ) (declared set : Set) (e : Elem) → Member e (avoided_set sign position declared set)
    → (Member e set × (e ≡ Variable (Free position) → ⊥)) ⊎ Member e declared
members_after Negative position declared set e here = let parts = (Member-remove e (Variable (Free position)) set).0 here in inl (parts.1, parts.0)
members_after Positive position declared set e here =
    let x : Elem = Variable (Free position) in
    elim (has_position position set) as (λ t. has_position position set ≡ t → Member e (cond t (union (remove x set) declared) set) → (Member e set × (e ≡ x → ⊥)) ⊎ Member e declared) [
      | true ↦ λ _ found. elim ((Member-union e (remove x set) declared).0 found) as (λ _. (Member e set × (e ≡ x → ⊥)) ⊎ Member e declared) [
        | inl kept ↦ let parts = (Member-remove e x set).0 kept in inl (parts.1, parts.0)
        | inr new ↦ inr new
      ]
      | false ↦ λ none found. inl (found, λ same. let t : contains x set ≡ true = subst (λ y. Member y set) same found in cc)
    ] refl here

-- Kinds are kept, also in fewer entries, where what is not the position has its kind there.
module _ (kinds kinds' : List Kind) (position : ℕ) (declared : Set) (new : IsKindedSet kinds' [] declared)
    (elements : (passed : List Kind) (e : Elem) → (e ≡ Variable (Free position) → ⊥) → IsKindedElement kinds passed e → IsKindedElement kinds' passed e)
    (types : (passed : List Kind) (v : Var) → IsOfKind kinds passed v TypeKind → IsOfKind kinds' passed v TypeKind) where
  kept_set : (sign : Sign) (passed : List Kind) (set : Set) → IsKindedSet kinds passed set → IsKindedSet kinds' passed (avoided_set sign position declared set)
  kept_set sign passed set h e here =
      elim (members_after sign position declared set e here) as (λ _. IsKindedElement kinds' passed e) [
        | inl (old, apart) ↦ elements passed e apart (h e old)
        | inr added ↦ closed_kinded SetSort kinds' passed declared new e added
      ]

  same_set : (passed : List Kind) (set : Set) → has_position position set ≡ false → IsKindedSet kinds passed set → IsKindedSet kinds' passed set
  same_set passed set none h e here =
      elements passed e (λ same. let t : contains (Variable (Free position)) set ≡ true = subst (λ y. Member y set) same here in cc) (h e here)

  -- where the position is not free
  same_shape : (passed : List Kind) (shape : Shape) → is_free_in position shape ≡ false → IsKinded kinds passed shape → IsKinded kinds' passed shape
  same_shape passed (BaseShape base) e h = tt
  same_shape passed AnyShape e h = tt
  same_shape passed (TypeVariable v) e h = types passed v h
  same_shape passed (FunctionShape t c g d) e h =
      let a = or_false (is_free_in position t || has_position position c || is_free_in position g) (has_position position d) e in
      let b = or_false (is_free_in position t || has_position position c) (is_free_in position g) a.0 in
      let p = or_false (is_free_in position t) (has_position position c) b.0 in
      (same_shape passed t p.0 h.0, same_set passed c p.1 h.1, same_shape (TermKind ∷ passed) g b.1 h.2, same_set (TermKind ∷ passed) d a.1 h.3)
  same_shape passed (TypeFunctionShape s g d) e h =
      let a = or_false (is_free_in position s || is_free_in position g) (has_position position d) e in
      let b = or_false (is_free_in position s) (is_free_in position g) a.0 in
      (same_shape passed s b.0 h.0, same_shape (TypeKind ∷ passed) g b.1 h.1, same_set (TypeKind ∷ passed) d a.1 h.2)
  same_shape passed (BoxShape t c) e h =
      let p = or_false (is_free_in position t) (has_position position c) e in
      (same_shape passed t p.0 h.0, same_set passed c p.1 h.1)
  same_shape passed (ExitShape g) e h = same_shape passed g e h

  kept : (sign : Sign) (passed : List Kind) (shape result : Shape) → IsKinded kinds passed shape → avoided sign position declared shape ≡ Some result → IsKinded kinds' passed result
  kept sign passed (BaseShape base) result h e = let is : BaseShape base ≡ result = cc in subst (IsKinded kinds' passed) is tt
  kept sign passed AnyShape result h e = let is : AnyShape ≡ result = cc in subst (IsKinded kinds' passed) is tt
  kept sign passed (TypeVariable v) result h e = let is : TypeVariable v ≡ result = cc in subst (IsKinded kinds' passed) is (types passed v h)
  kept sign passed (FunctionShape t c g d) result h e =
      let parts = both_some (avoided (opposite sign) position declared t) (avoided sign position declared g)
      (λ t' g'. FunctionShape t' (avoided_set (opposite sign) position declared c) g' (avoided_set sign position declared d)) result e in
      subst (IsKinded kinds' passed) (sym parts.4)
      (kept (opposite sign) passed t parts.0 h.0 parts.2, kept_set (opposite sign) passed c h.1, kept sign (TermKind ∷ passed) g parts.1 h.2 parts.3, kept_set sign (TermKind ∷ passed) d h.3)
  kept sign passed (TypeFunctionShape s g d) result h e =
      let unfree = unless_some (is_free_in position s) (option_map (λ g'. TypeFunctionShape s g' (avoided_set sign position declared d)) (avoided sign position declared g)) result e in
      let parts = map_some (avoided sign position declared g) (λ g'. TypeFunctionShape s g' (avoided_set sign position declared d)) result unfree.1 in
      subst (IsKinded kinds' passed) (sym parts.2)
      (same_shape passed s unfree.0 h.0, kept sign (TypeKind ∷ passed) g parts.0 h.1 parts.1, kept_set sign (TypeKind ∷ passed) d h.2)
  kept sign passed (BoxShape t c) result h e =
      let parts = map_some (avoided sign position declared t) (λ t'. BoxShape t' (avoided_set sign position declared c)) result e in
      subst (IsKinded kinds' passed) (sym parts.2) (kept sign passed t parts.0 h.0 parts.1, kept_set sign passed c h.1)
  kept sign passed (ExitShape g) result h e =
      let unfree = unless_some (is_free_in position g) (Some (ExitShape g)) result e in
      let is : ExitShape g ≡ result = cc in
      subst (IsKinded kinds' passed) is (same_shape passed g unfree.0 h)

  kept_type : (sign : Sign) (type result : CapturingType) → IsKindedType kinds [] type → avoided_type sign position declared type ≡ Some result → IsKindedType kinds' [] result
  kept_type sign type result h e =
      let parts = avoided_type_parts sign position declared type result e in
      (kept sign [] type.shape result.shape h.0 parts.0, subst (IsKindedSet kinds' []) parts.1 (kept_set sign [] type.set h.1))

pub well_formedness_kept : (context : Context) (sign : Sign) (position : ℕ) (declared : Set) (type result : CapturingType)
    → is_well_formed_set (kinds_of context) [] declared ≡ true → is_well_formed_type (kinds_of context) [] type ≡ true
    → avoided_type sign position declared type ≡ Some result → is_well_formed_type (kinds_of context) [] result ≡ true
well_formedness_kept context sign position declared type result new formed e =
    let kinds : List Kind = kinds_of context in
    IsKindedType-test kinds [] result
    (kept_type kinds kinds position declared (IsKindedSet-from kinds [] declared new) (λ passed x apart h. h) (λ passed v h. h) sign type result (IsKindedType-from kinds [] type formed) e)

-- without the newest variable
fewer_element : (kinds passed : List Kind) (position : ℕ) → length kinds ≡ position → (e : Elem) → (e ≡ Variable (Free position) → ⊥) → IsKindedElement (TermKind ∷ kinds) passed e → IsKindedElement kinds passed e
fewer_element kinds passed position last (Variable (Free p)) apart h =
    sym (lookup-other TermKind kinds p (λ same. apart (ap (λ q. Variable (Free q)) (same ∙ last)))) ∙ h
fewer_element kinds passed position last (Variable (Bound index)) apart h = h
fewer_element kinds passed position last Cap apart h = tt
fewer_element kinds passed position last (Hole n) apart h = tt

fewer_type : (kinds passed : List Kind) (v : Var) → IsOfKind (TermKind ∷ kinds) passed v TypeKind → IsOfKind kinds passed v TypeKind
fewer_type kinds passed (Bound index) h = h
fewer_type kinds passed (Free p) h =
    elim (nat_eq p (length kinds)) as (λ t. cond t (Some TermKind) (lookup kinds p) ≡ Some TypeKind → lookup kinds p ≡ Some TypeKind) [ true ↦ λ e. cc | false ↦ λ e. e ] h

pub scope_left : (context : Context) (sign : Sign) (shape : Shape) (declared : Set) (type result : CapturingType)
    → is_well_formed_set (kinds_of context) [] declared ≡ true → is_well_formed_type (kinds_of (TermEntry shape declared ∷ context)) [] type ≡ true
    → avoided_type sign (length context) declared type ≡ Some result → is_well_formed_type (kinds_of context) [] result ≡ true
scope_left context sign shape declared type result new formed e =
    let kinds : List Kind = kinds_of context in
    IsKindedType-test kinds [] result
    (kept_type (TermKind ∷ kinds) kinds (length context) declared (IsKindedSet-from kinds [] declared new)
    (λ passed x apart h. fewer_element kinds passed (length context) (length_map kind_of context) x apart h) (λ passed v h. fewer_type kinds passed v h)
    sign type result (IsKindedType-from (TermKind ∷ kinds) [] type formed) e)
