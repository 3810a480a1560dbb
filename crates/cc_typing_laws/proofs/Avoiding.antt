-- Avoiding a position is sound, and it commutes with the opening of bodies at other positions.
use Rattle.std.proofs.Common.{◌≡◌, ℕ, zero, suc, ◌<◌, Bool, true, false, ◌||◌, cond, ◌∷◌, length, Option, Some, None, refl, sym, ap, ◌∙◌, subst, inl, inr, arith}
use Rattle.std.specs.Prelude.{nat_eq}
use Rattle.std.specs.Option.{option_map}
use Rattle.std.proofs.lemmas.Bool.{eqb-true}
use Rattle.cc_capture.specs.declared.var.Var.{Var}
use Rattle.cc_capture.specs.declared.var.Var.TheVariants.{Bound, Free}
use Rattle.cc_capture.specs.declared.var.Elem.{Elem}
use Rattle.cc_capture.specs.declared.var.Elem.TheVariants.{Var as Variable, Cap, Hole}
use Rattle.cc_capture.specs.Elements.{same_element}
use Rattle.cc_capture.specs.ElementOrder.{same_element-true, same_element-itself}
use Rattle.cc_capture.specs.Sets.{Set, Member, remove, union}
use Rattle.cc_capture.proofs.Membership.{same_members, Member-remove, Member-union, Member-flat_image}
use Rattle.cc_capture.proofs.Images.{flat_image-union}
use Rattle.cc_capture.proofs.WordSets.{alike as same_test}
use Rattle.cc_core.specs.Shapes.{Shape, BaseShape, AnyShape, TypeVariable, FunctionShape, TypeFunctionShape, BoxShape, ExitShape, CapturingType}
use Rattle.cc_core.specs.Contexts.{Bind, TermEntry, TypeEntry, Context, lookup}
use Rattle.cc_core.specs.Traversal.{act, act_set}
use Rattle.cc_core.specs.Substitution.{opening, opened, opened_set, put_variable, moved_element}
use Rattle.cc_core.specs.Occurrences.{MeetsInSet, bound_within}
use Rattle.cc_core.specs.Subcapturing.{Subcaptures, element, variable, SubcapturesSet}
use Rattle.cc_core.specs.Subtyping.{SubtypesType}
use Rattle.cc_core.proofs.Lookups.{lookup-older, lookup-below}
use Rattle.cc_core.proofs.Moving.{Member-single, Member-single_itself}
use Rattle.cc_core.proofs.FreeActions.{no_open_index-deeper_set}
use Rattle.cc_checking.specs.Avoidance.{Sign, Positive, Negative, opposite, has_position, is_position, is_free_in, avoided_set, with_both, unless_free, avoided, avoided_type}
use Rattle.cc_typing_laws.proofs.DirectSubtyping.{SubtypesDirectly, alike, functions, type_functions, boxes, height, height-opened, direct_to}
use Rattle.cc_core.proofs.Sorts.{SetSort}
use Rattle.cc_core.proofs.Opening.{putting-still}

-- the answers of the parts
pub both_some : (a b : Option Shape) (build : Shape → Shape → Shape) (s : Shape) → with_both a b build ≡ Some s → (x : Shape) × (y : Shape) × (a ≡ Some x) × (b ≡ Some y) × (s ≡ build x y)
both_some (Some x) (Some y) build s e = (x, y, refl, refl, cc)
both_some (Some x) None build s e = cc
both_some None b build s e = cc

pub map_some : {A B : Type 0} (a : Option A) (build : A → B) (s : B) → option_map build a ≡ Some s → (x : A) × (a ≡ Some x) × (s ≡ build x)
map_some (Some x) build s e = (x, refl, cc)
map_some None build s e = cc

pub unless_some : (t : Bool) (a : Option Shape) (s : Shape) → unless_free t a ≡ Some s → (t ≡ false) × (a ≡ Some s)
unless_some true a s e = cc
unless_some false a s e = (refl, e)

pub not_true : (b : Bool) → (b ≡ true → ⊥) → b ≡ false
not_true true h = absurd (h refl)
not_true false h = refl

-- Opening at a position other than the one that is avoided.
module _ (at position : ℕ) (apart : at ≡ position → ⊥) where
  put_other : (depth : ℕ) (v : Var) → put_variable (Free at) depth v ≡ Free position → v ≡ Free position
  put_other depth (Free p) e = e
  put_other depth (Bound index) e =
      elim (nat_eq index depth) as (λ t. cond t (Free at) (Bound index) ≡ Free position → Bound index ≡ Free position) [
        | true ↦ λ found. absurd (apart cc)
        | false ↦ λ found. found
      ] e

  opened_other : (depth : ℕ) (e : Elem) → moved_element (put_variable (Free at) depth) e ≡ Variable (Free position) → e ≡ Variable (Free position)
  opened_other depth (Variable v) e = ap (λ w. Variable w) (put_other depth v cc)
  opened_other depth Cap e = cc
  opened_other depth (Hole n) e = cc

  opened_member : (depth : ℕ) (set : Set) → Member (Variable (Free position)) (act_set (opening at) depth set) → Member (Variable (Free position)) set
  opened_member depth set here =
      let from = (Member-flat_image ((opening at).element depth) (Variable (Free position)) set).0 here in
      subst (λ e. Member e set) (opened_other depth from.0 (sym (Member-single (Variable (Free position)) (moved_element (put_variable (Free at) depth) from.0) from.2))) from.1

  member_opened : (depth : ℕ) (set : Set) → Member (Variable (Free position)) set → Member (Variable (Free position)) (act_set (opening at) depth set)
  member_opened depth set here =
      (Member-flat_image ((opening at).element depth) (Variable (Free position)) set).1 (Variable (Free position), here, Member-single_itself (Variable (Free position)))

  has_position-opened : (depth : ℕ) (set : Set) → has_position position (act_set (opening at) depth set) ≡ has_position position set
  has_position-opened depth set = same_test _ _ (opened_member depth set) (member_opened depth set)

  remove-opened : (depth : ℕ) (set : Set) → remove (Variable (Free position)) (act_set (opening at) depth set) ≡ act_set (opening at) depth (remove (Variable (Free position)) set)
  remove-opened depth set =
      let x : Elem = Variable (Free position) in
      let f : Elem → Set = (opening at).element depth in
      same_members _ _
      (λ e here.
      let parts = (Member-remove e x (act_set (opening at) depth set)).0 here in
      let from = (Member-flat_image f e set).0 parts.1 in
      let is = Member-single e (moved_element (put_variable (Free at) depth) from.0) from.2 in
      let other : from.0 ≡ x → ⊥ = λ same. parts.0 (is ∙ ap (moved_element (put_variable (Free at) depth)) same) in
      (Member-flat_image f e (remove x set)).1 (from.0, (Member-remove from.0 x set).1 (other, from.1), from.2))
      (λ e here.
      let from = (Member-flat_image f e (remove x set)).0 here in
      let parts = (Member-remove from.0 x set).0 from.1 in
      let is = Member-single e (moved_element (put_variable (Free at) depth) from.0) from.2 in
      (Member-remove e x (act_set (opening at) depth set)).1
      ((λ same. parts.0 (opened_other depth from.0 (sym is ∙ same))), (Member-flat_image f e set).1 (from.0, parts.1, from.2)))

  is_position-opened : (depth : ℕ) (v : Var) → is_position position (put_variable (Free at) depth v) ≡ is_position position v
  is_position-opened depth (Free p) = refl
  is_position-opened depth (Bound index) =
      elim (nat_eq index depth) as (λ t. is_position position (cond t (Free at) (Bound index)) ≡ false) [
        | true ↦ not_true (nat_eq position at) (λ same. apart (sym (eqb-true position at same)))
        | false ↦ refl
      ]

  pub is_free_in-opened : (depth : ℕ) (shape : Shape) → is_free_in position (act (opening at) depth shape) ≡ is_free_in position shape
  is_free_in-opened depth (BaseShape base) = refl
  is_free_in-opened depth AnyShape = refl
  is_free_in-opened depth (TypeVariable v) = is_position-opened depth v
  is_free_in-opened depth (FunctionShape t c g e) =
      λ i. is_free_in-opened depth t i || has_position-opened depth c i || is_free_in-opened (suc depth) g i || has_position-opened (suc depth) e i
  is_free_in-opened depth (TypeFunctionShape b g e) = λ i. is_free_in-opened depth b i || is_free_in-opened (suc depth) g i || has_position-opened (suc depth) e i
  is_free_in-opened depth (BoxShape t c) = λ i. is_free_in-opened depth t i || has_position-opened depth c i
  is_free_in-opened depth (ExitShape g) = is_free_in-opened depth g

  module _ (declared : Set) (closed : MeetsInSet (bound_within 0) 0 declared) where
    pub avoided_set-opened : (sign : Sign) (depth : ℕ) (set : Set) → avoided_set sign position declared (act_set (opening at) depth set) ≡ act_set (opening at) depth (avoided_set sign position declared set)
    avoided_set-opened Negative depth set = remove-opened depth set
    avoided_set-opened Positive depth set =
        let still : act_set (opening at) depth declared ≡ declared = putting-still SetSort (Free at) depth declared (no_open_index-deeper_set depth declared closed) in
        let joined : union (remove (Variable (Free position)) (act_set (opening at) depth set)) declared ≡ act_set (opening at) depth (union (remove (Variable (Free position)) set) declared) =
        ap (λ r. union r declared) (remove-opened depth set)
        ∙ ap (union (act_set (opening at) depth (remove (Variable (Free position)) set))) (sym still)
        ∙ sym (flat_image-union ((opening at).element depth) (remove (Variable (Free position)) set) declared) in
        ap (λ t. cond t (union (remove (Variable (Free position)) (act_set (opening at) depth set)) declared) (act_set (opening at) depth set)) (has_position-opened depth set)
        ∙ (elim (has_position position set) as (λ t. cond t (union (remove (Variable (Free position)) (act_set (opening at) depth set)) declared) (act_set (opening at) depth set)
        ≡ act_set (opening at) depth (cond t (union (remove (Variable (Free position)) set) declared) set)) [ true ↦ joined | false ↦ refl ])

    pub avoided-opened : (sign : Sign) (depth : ℕ) (shape : Shape) → (result : Shape) → avoided sign position declared shape ≡ Some result
        → avoided sign position declared (act (opening at) depth shape) ≡ Some (act (opening at) depth result)
    avoided-opened sign depth (BaseShape base) result e = ap (option_map (act (opening at) depth)) e
    avoided-opened sign depth AnyShape result e = ap (option_map (act (opening at) depth)) e
    avoided-opened sign depth (TypeVariable v) result e = ap (option_map (act (opening at) depth)) e
    avoided-opened sign depth (FunctionShape t c g d) result e =
        let parts = both_some (avoided (opposite sign) position declared t) (avoided sign position declared g)
        (λ t' g'. FunctionShape t' (avoided_set (opposite sign) position declared c) g' (avoided_set sign position declared d)) result e in
        let one = avoided-opened (opposite sign) depth t parts.0 parts.2 in
        let two = avoided-opened sign (suc depth) g parts.1 parts.3 in
        let three = avoided_set-opened (opposite sign) depth c in
        let four = avoided_set-opened sign (suc depth) d in
        (λ i. with_both (one i) (two i) (λ t' g'. FunctionShape t' (three i) g' (four i))) ∙ ap (λ s. Some (act (opening at) depth s)) (sym parts.4)
    avoided-opened sign depth (TypeFunctionShape b g d) result e =
        let free = unless_some (is_free_in position b) (option_map (λ g'. TypeFunctionShape b g' (avoided_set sign position declared d)) (avoided sign position declared g)) result e in
        let parts = map_some (avoided sign position declared g) (λ g'. TypeFunctionShape b g' (avoided_set sign position declared d)) result free.1 in
        let zero_ = is_free_in-opened depth b ∙ free.0 in
        let two = avoided-opened sign (suc depth) g parts.0 parts.1 in
        let four = avoided_set-opened sign (suc depth) d in
        (λ i. unless_free (zero_ i) (option_map (λ g'. TypeFunctionShape (act (opening at) depth b) g' (four i)) (two i))) ∙ ap (λ s. Some (act (opening at) depth s)) (sym parts.2)
    avoided-opened sign depth (BoxShape t c) result e =
        let parts = map_some (avoided sign position declared t) (λ t'. BoxShape t' (avoided_set sign position declared c)) result e in
        let one = avoided-opened sign depth t parts.0 parts.1 in
        let three = avoided_set-opened sign depth c in
        (λ i. option_map (λ t'. BoxShape t' (three i)) (one i)) ∙ ap (λ s. Some (act (opening at) depth s)) (sym parts.2)
    avoided-opened sign depth (ExitShape g) result e =
        let free = unless_some (is_free_in position g) (Some (ExitShape g)) result e in
        ap (λ t. unless_free t (Some (ExitShape (act (opening at) depth g)))) (is_free_in-opened depth g ∙ free.0) ∙ ap (option_map (act (opening at) depth)) free.1

-- the sets
abbrev pub SetBetween : Sign → Context → Set → Set → Type 0
SetBetween Positive context set result = SubcapturesSet context set result
SetBetween Negative context set result = SubcapturesSet context result set

abbrev pub Between : Sign → Context → Shape → Shape → Type 0
Between Positive context shape result = SubtypesDirectly context shape result
Between Negative context shape result = SubtypesDirectly context result shape

alike_between : (sign : Sign) (context : Context) (shape result : Shape) → Some shape ≡ Some result → Between sign context shape result
alike_between Positive context shape result e = let same : shape ≡ result = cc in subst (λ s. SubtypesDirectly context shape s) same alike
alike_between Negative context shape result e = let same : shape ≡ result = cc in subst (λ s. SubtypesDirectly context s shape) same alike

widened : (context : Context) (position : ℕ) (shape : Shape) (declared set : Set) → lookup context position ≡ Some (TermEntry shape declared)
    → (e : Elem) → Member e set → Subcaptures context e (avoided_set Positive position declared set)
widened context position shape declared set there e here =
    let x : Elem = Variable (Free position) in
    let joined : Set = union (remove x set) declared in
    elim (has_position position set) as (λ t. Subcaptures context e (cond t joined set)) [
      | true ↦
          elim (same_element e x) as (λ t. same_element e x ≡ t → Subcaptures context e joined) [
            | true ↦ λ same.
                subst (λ y. Subcaptures context y joined) (sym (same_element-true e x same))
                (variable there (λ y inside. element ((Member-union y (remove x set) declared).1 (inr inside))))
            | false ↦ λ differ.
                let apart : e ≡ x → ⊥ = λ same. let t = ap (same_element e) (sym same) ∙ same_element-itself e in cc in
                element ((Member-union e (remove x set) declared).1 (inl ((Member-remove e x set).1 (apart, here))))
          ] refl
      | false ↦ element here
    ]

pub avoided_set_between : (sign : Sign) (context : Context) (position : ℕ) (shape : Shape) (declared set : Set) → lookup context position ≡ Some (TermEntry shape declared)
    → SetBetween sign context set (avoided_set sign position declared set)
avoided_set_between Negative context position shape declared set there = λ e here. element ((Member-remove e (Variable (Free position)) set).0 here).1
avoided_set_between Positive context position shape declared set there = λ e here. widened context position shape declared set there e here

abbrev SoundBelow : ℕ → Type 0
SoundBelow k = (sign : Sign) (shape result : Shape) → height shape < k → (context : Context) (position : ℕ) (own : Shape) (declared : Set)
    → lookup context position ≡ Some (TermEntry own declared) → MeetsInSet (bound_within 0) 0 declared
    → avoided sign position declared shape ≡ Some result → Between sign context shape result

-- a body, opened under its binder
body_between : (k : ℕ) → SoundBelow k → (sign : Sign) (gives result : Shape) → height gives < k → (context : Context) (entry : Bind) (position : ℕ) (own : Shape) (declared : Set)
    → lookup context position ≡ Some (TermEntry own declared) → MeetsInSet (bound_within 0) 0 declared
    → avoided sign position declared gives ≡ Some result → Between sign (entry ∷ context) (opened (length context) gives) (opened (length context) result)
body_between k sound sign gives result small context entry position own declared there closed e =
    let below = lookup-below context position (TermEntry own declared) there in
    let apart : length context ≡ position → ⊥ = λ same. omega arith in
    let same = height-opened (length context) 0 gives in
    sound sign (opened (length context) gives) (opened (length context) result) (omega arith) (entry ∷ context) position own declared
    (lookup-older entry context position (TermEntry own declared) there) closed
    (avoided-opened (length context) position apart declared closed sign 0 gives result e)

body_set_between : (sign : Sign) (set : Set) (context : Context) (entry : Bind) (position : ℕ) (own : Shape) (declared : Set)
    → lookup context position ≡ Some (TermEntry own declared) → MeetsInSet (bound_within 0) 0 declared
    → SetBetween sign (entry ∷ context) (opened_set (length context) set) (opened_set (length context) (avoided_set sign position declared set))
body_set_between sign set context entry position own declared there closed =
    let below = lookup-below context position (TermEntry own declared) there in
    let apart : length context ≡ position → ⊥ = λ same. omega arith in
    subst (SetBetween sign (entry ∷ context) (opened_set (length context) set)) (avoided_set-opened (length context) position apart declared closed sign 0 set)
    (avoided_set_between sign (entry ∷ context) position own declared (opened_set (length context) set) (lookup-older entry context position (TermEntry own declared) there))

sound_function : (k : ℕ) → SoundBelow k → (sign : Sign) (t : Shape) (c : Set) (g : Shape) (d : Set) (t' g' : Shape) → height t < k → height g < k
    → (context : Context) (position : ℕ) (own : Shape) (declared : Set)
    → lookup context position ≡ Some (TermEntry own declared) → MeetsInSet (bound_within 0) 0 declared
    → avoided (opposite sign) position declared t ≡ Some t' → avoided sign position declared g ≡ Some g'
    → Between sign context (FunctionShape t c g d) (FunctionShape t' (avoided_set (opposite sign) position declared c) g' (avoided_set sign position declared d))
sound_function k sound Positive t c g d t' g' small small' context position own declared there closed p q =
    let entry : Bind = TermEntry t' (avoided_set Negative position declared c) in
    functions (avoided_set_between Negative context position own declared c there)
    (sound Negative t t' small context position own declared there closed p)
    (body_set_between Positive d context entry position own declared there closed)
    (body_between k sound Positive g g' small' context entry position own declared there closed q)
sound_function k sound Negative t c g d t' g' small small' context position own declared there closed p q =
    let entry : Bind = TermEntry t c in
    functions (avoided_set_between Positive context position own declared c there)
    (sound Positive t t' small context position own declared there closed p)
    (body_set_between Negative d context entry position own declared there closed)
    (body_between k sound Negative g g' small' context entry position own declared there closed q)

sound_type_function : (k : ℕ) → SoundBelow k → (sign : Sign) (b g : Shape) (d : Set) (g' : Shape) → height g < k
    → (context : Context) (position : ℕ) (own : Shape) (declared : Set)
    → lookup context position ≡ Some (TermEntry own declared) → MeetsInSet (bound_within 0) 0 declared → avoided sign position declared g ≡ Some g'
    → Between sign context (TypeFunctionShape b g d) (TypeFunctionShape b g' (avoided_set sign position declared d))
sound_type_function k sound Positive b g d g' small context position own declared there closed q =
    type_functions (body_set_between Positive d context (TypeEntry b) position own declared there closed) (body_between k sound Positive g g' small context (TypeEntry b) position own declared there closed q)
sound_type_function k sound Negative b g d g' small context position own declared there closed q =
    type_functions (body_set_between Negative d context (TypeEntry b) position own declared there closed) (body_between k sound Negative g g' small context (TypeEntry b) position own declared there closed q)

sound_box : (k : ℕ) → SoundBelow k → (sign : Sign) (t : Shape) (c : Set) (t' : Shape) → height t < k
    → (context : Context) (position : ℕ) (own : Shape) (declared : Set)
    → lookup context position ≡ Some (TermEntry own declared) → MeetsInSet (bound_within 0) 0 declared → avoided sign position declared t ≡ Some t'
    → Between sign context (BoxShape t c) (BoxShape t' (avoided_set sign position declared c))
sound_box k sound Positive t c t' small context position own declared there closed q =
    boxes (avoided_set_between Positive context position own declared c there) (sound Positive t t' small context position own declared there closed q)
sound_box k sound Negative t c t' small context position own declared there closed q =
    boxes (avoided_set_between Negative context position own declared c there) (sound Negative t t' small context position own declared there closed q)

sound_step : (k : ℕ) → SoundBelow k → SoundBelow (suc k)
sound_step k sound sign (BaseShape base) result small context position own declared there closed e = alike_between sign context (BaseShape base) result e
sound_step k sound sign AnyShape result small context position own declared there closed e = alike_between sign context AnyShape result e
sound_step k sound sign (TypeVariable v) result small context position own declared there closed e = alike_between sign context (TypeVariable v) result e
sound_step k sound sign (FunctionShape t c g d) result small context position own declared there closed e =
    let parts = both_some (avoided (opposite sign) position declared t) (avoided sign position declared g)
    (λ t' g'. FunctionShape t' (avoided_set (opposite sign) position declared c) g' (avoided_set sign position declared d)) result e in
    subst (Between sign context (FunctionShape t c g d)) (sym parts.4)
    (sound_function k sound sign t c g d parts.0 parts.1 (omega arith) (omega arith) context position own declared there closed parts.2 parts.3)
sound_step k sound sign (TypeFunctionShape b g d) result small context position own declared there closed e =
    let free = unless_some (is_free_in position b) (option_map (λ g'. TypeFunctionShape b g' (avoided_set sign position declared d)) (avoided sign position declared g)) result e in
    let parts = map_some (avoided sign position declared g) (λ g'. TypeFunctionShape b g' (avoided_set sign position declared d)) result free.1 in
    subst (Between sign context (TypeFunctionShape b g d)) (sym parts.2)
    (sound_type_function k sound sign b g d parts.0 (omega arith) context position own declared there closed parts.1)
sound_step k sound sign (BoxShape t c) result small context position own declared there closed e =
    let parts = map_some (avoided sign position declared t) (λ t'. BoxShape t' (avoided_set sign position declared c)) result e in
    subst (Between sign context (BoxShape t c)) (sym parts.2) (sound_box k sound sign t c parts.0 (omega arith) context position own declared there closed parts.1)
sound_step k sound sign (ExitShape g) result small context position own declared there closed e =
    let free = unless_some (is_free_in position g) (Some (ExitShape g)) result e in alike_between sign context (ExitShape g) result free.1

sound_below : (k : ℕ) → SoundBelow k
sound_below zero sign shape result small = absurd (omega arith)
sound_below (suc k) sign shape result small = sound_step k (sound_below k) sign shape result small

pub avoided_between : (sign : Sign) (shape result : Shape) (context : Context) (position : ℕ) (own : Shape) (declared : Set)
    → lookup context position ≡ Some (TermEntry own declared) → MeetsInSet (bound_within 0) 0 declared
    → avoided sign position declared shape ≡ Some result → Between sign context shape result
avoided_between sign shape result = sound_below (suc (height shape)) sign shape result (omega arith)

pub avoided_type_parts : (sign : Sign) (position : ℕ) (declared : Set) (type result : CapturingType) → avoided_type sign position declared type ≡ Some result
    → (avoided sign position declared type.shape ≡ Some result.shape) × (avoided_set sign position declared type.set ≡ result.set)
avoided_type_parts sign position declared type result e =
    let parts = map_some (avoided sign position declared type.shape) (λ s. record { shape = s; set = avoided_set sign position declared type.set }) result e in
    (parts.1 ∙ ap (λ r. Some r.shape) (sym parts.2), ap (λ r. r.set) (sym parts.2))

pub positive_above : (context : Context) (position : ℕ) (shape : Shape) (declared : Set) (type result : CapturingType)
    → lookup context position ≡ Some (TermEntry shape declared) → MeetsInSet (bound_within 0) 0 declared
    → avoided_type Positive position declared type ≡ Some result → SubtypesType context type result
positive_above context position shape declared type result there closed e =
    let parts = avoided_type_parts Positive position declared type result e in (
      subst (SubcapturesSet context type.set) parts.1 (avoided_set_between Positive context position shape declared type.set there),
      direct_to (avoided_between Positive type.shape result.shape context position shape declared there closed parts.0),
    )

pub negative_below : (context : Context) (position : ℕ) (shape : Shape) (declared : Set) (type result : CapturingType)
    → lookup context position ≡ Some (TermEntry shape declared) → MeetsInSet (bound_within 0) 0 declared
    → avoided_type Negative position declared type ≡ Some result → SubtypesType context result type
negative_below context position shape declared type result there closed e =
    let parts = avoided_type_parts Negative position declared type result e in (
      subst (λ c. SubcapturesSet context c type.set) parts.1 (avoided_set_between Negative context position shape declared type.set there),
      direct_to (avoided_between Negative type.shape result.shape context position shape declared there closed parts.0),
    )
