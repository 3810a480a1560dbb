-- The comparison has one answer, and it has demands that hold exactly where the one shape is directly below the other.
use Rattle.std.proofs.Common.{◌≡◌, ◌↔◌, ℕ, zero, suc, ◌+◌, ◌≤◌, Bool, true, false, cond, List, [], ◌∷◌, ◌++◌, length, Option, Some, None, refl, sym, ap, ◌∙◌, subst, inl, inr, ◌⊎◌, arith}
use Rattle.cc_capture.specs.declared.var.Var.TheVariants.{Bound, Free}
use Rattle.cc_capture.specs.Sets.{Set}
use Rattle.cc_core.specs.Shapes.{Shape, BaseShape, AnyShape, TypeVariable, FunctionShape, TypeFunctionShape, BoxShape, ExitShape, CapturingType, capturing}
use Rattle.cc_core.specs.Contexts.{Bind, TermEntry, TypeEntry, Context, lookup}
use Rattle.cc_core.specs.Substitution.{opened, opened_set, opened_type}
use Rattle.cc_core.specs.Subcapturing.{SubcapturesSet}
use Rattle.cc_core.specs.Subtyping.{Subtypes, SubtypesType}
use Rattle.cc_core.specs.Equality.{same_shape}
use Rattle.cc_checking.specs.Comparison.{Demand, Comparison, Unfinished, Mismatch, Matches, and_then, Comparing, types_compared, bound_in, bound_of, bound_compared, function_compared, type_function_compared, box_compared, is_any, by_form, comparison, HasDemands, IsMismatch, TypesHaveDemands, AllHold}
use Rattle.cc_checking.proofs.ShapeEquality.{same_shape-true, same_shape-itself}
use Rattle.cc_typing_laws.proofs.DirectSubtyping.{SubtypesDirectly, alike, under_any, through_bound, functions, type_functions, boxes, direct_from, direct_to}

-- the second answer is the first one, where that is at its end
abbrev pub Keeps : Comparison → Comparison → Type 0
Keeps first second = (first ≡ Unfinished) ⊎ (first ≡ second)

pub keeps_then : (a b b' : Comparison) → Keeps b b' → Keeps (and_then a b) (and_then a b')
keeps_then Unfinished b b' k = inl refl
keeps_then Mismatch b b' k = inr refl
keeps_then (Matches ds) b b' (inl e) = inl (ap (and_then (Matches ds)) e)
keeps_then (Matches ds) b b' (inr e) = inr (ap (and_then (Matches ds)) e)

keeps_both : (a a' b b' : Comparison) → Keeps a a' → Keeps b b' → Keeps (and_then a b) (and_then a' b')
keeps_both a a' b b' (inl e) k = inl (ap (λ x. and_then x b) e)
keeps_both a a' b b' (inr e) k = subst (λ x. Keeps (and_then a b) (and_then x b')) e (keeps_then a b b' k)

keeps_cond : (t : Bool) (a b b' : Comparison) → Keeps b b' → Keeps (cond t a b) (cond t a b')
keeps_cond true a b b' k = inr refl
keeps_cond false a b b' k = k

keeps_if : (t : Bool) (a a' b : Comparison) → Keeps a a' → Keeps (cond t a b) (cond t a' b)
keeps_if true a a' b k = k
keeps_if false a a' b k = inr refl

abbrev KeepsAll : Comparing → Comparing → Type 0
KeepsAll one other = (context : Context) (left right : Shape) → Keeps (one context left right) (other context left right)

keeps_types : (one other : Comparing) → KeepsAll one other → (context : Context) (left right : CapturingType) → Keeps (types_compared one context left right) (types_compared other context left right)
keeps_types one other k context left right = keeps_then (Matches (record { context = context; left = left.set; right = right.set } ∷ [])) _ _ (k context left.shape right.shape)

keeps_bound : (one other : Comparing) → KeepsAll one other → (context : Context) (bound : Option Shape) (right : Shape) → Keeps (bound_compared one context bound right) (bound_compared other context bound right)
keeps_bound one other k context (Some bound) right = k context bound right
keeps_bound one other k context None right = inr refl

keeps_function : (one other : Comparing) → KeepsAll one other → (context : Context) (takes gives : CapturingType) (right : Shape) → Keeps (function_compared one context takes gives right) (function_compared other context takes gives right)
keeps_function one other k context takes gives (FunctionShape takes' c' gives' e') =
    keeps_both _ _ _ _
    (keeps_types one other k context (capturing takes' c') takes)
    (keeps_types one other k (TermEntry takes' c' ∷ context) (opened_type (length context) gives) (opened_type (length context) (capturing gives' e')))
keeps_function one other k context takes gives _ = inr refl

keeps_type_function : (one other : Comparing) → KeepsAll one other → (context : Context) (bound : Shape) (gives : CapturingType) (right : Shape) → Keeps (type_function_compared one context bound gives right) (type_function_compared other context bound gives right)
keeps_type_function one other k context bound gives (TypeFunctionShape bound' gives' e') =
    keeps_if (same_shape bound bound') _ _ Mismatch
    (keeps_types one other k (TypeEntry bound ∷ context) (opened_type (length context) gives) (opened_type (length context) (capturing gives' e')))
keeps_type_function one other k context bound gives _ = inr refl

keeps_box : (one other : Comparing) → KeepsAll one other → (context : Context) (content : CapturingType) (right : Shape) → Keeps (box_compared one context content right) (box_compared other context content right)
keeps_box one other k context content (BoxShape content' c') = keeps_types one other k context content (capturing content' c')
keeps_box one other k context content _ = inr refl

keeps_form : (one other : Comparing) → KeepsAll one other → KeepsAll (by_form one) (by_form other)
unfolding by_form
keeps_form one other k context (BaseShape base) right = inr refl
keeps_form one other k context AnyShape right = inr refl
keeps_form one other k context (TypeVariable v) right = keeps_bound one other k context (bound_of context v) right
keeps_form one other k context (FunctionShape takes c gives e) right = keeps_function one other k context (capturing takes c) (capturing gives e) right
keeps_form one other k context (TypeFunctionShape bound gives e) right = keeps_type_function one other k context bound (capturing gives e) right
keeps_form one other k context (BoxShape content c) right = keeps_box one other k context (capturing content c) right
keeps_form one other k context (ExitShape gives) right = inr refl

pub comparison_keeps : (few many : ℕ) → few ≤ many → KeepsAll (comparison few) (comparison many)
unfolding comparison
comparison_keeps zero many h context left right = inl refl
comparison_keeps (suc few) zero h context left right = absurd (omega arith)
comparison_keeps (suc few) (suc many) h context left right =
    keeps_cond (same_shape left right) (Matches []) _ _
    (keeps_cond (is_any right) (Matches []) _ _ (keeps_form (comparison few) (comparison many) (comparison_keeps few many (omega arith)) context left right))

pub comparison_more : (context : Context) (left right : Shape) (few many : ℕ) → few ≤ many
    → (comparison few context left right ≡ Unfinished → ⊥) → comparison many context left right ≡ comparison few context left right
comparison_more context left right few many h done =
    elim (comparison_keeps few many h context left right) [ inl e ↦ absurd (done e) | inr e ↦ sym e ]

pub comparison_same : (context : Context) (left right : Shape) (n m : ℕ) (a b : Comparison) → comparison n context left right ≡ a → comparison m context left right ≡ b
    → (a ≡ Unfinished → ⊥) → (b ≡ Unfinished → ⊥) → a ≡ b
comparison_same context left right n m a b p q done done' =
    let one = comparison_more context left right n (n + m) (omega arith) (λ e. done (sym p ∙ e)) in
    let two = comparison_more context left right m (n + m) (omega arith) (λ e. done' (sym q ∙ e)) in
    sym p ∙ sym one ∙ two ∙ q

matches_inside : (ds ds' : List Demand) → Matches ds ≡ Matches ds' → ds ≡ ds'
matches_inside ds ds' e = cc

pub demands_unique : (context : Context) (left right : Shape) (ds ds' : List Demand) → HasDemands context left right ds → HasDemands context left right ds' → ds ≡ ds'
demands_unique context left right ds ds' h h' =
    matches_inside ds ds' (comparison_same context left right h.0 h'.0 (Matches ds) (Matches ds') h.1 h'.1 (λ e. cc) (λ e. cc))

pub demands_or_mismatch : (context : Context) (left right : Shape) (ds : List Demand) → HasDemands context left right ds → IsMismatch context left right → ⊥
demands_or_mismatch context left right ds h h' =
    let same = comparison_same context left right h.0 h'.0 (Matches ds) Mismatch h.1 h'.1 (λ e. cc) (λ e. cc) in cc

-- demands of two parts
pub hold_both : (ds es : List Demand) → AllHold ds → AllHold es → AllHold (ds ++ es)
hold_both [] es h k = k
hold_both (d ∷ ds) es h k = (h.0, hold_both ds es h.1 k)

pub hold_parts : (ds es : List Demand) → AllHold (ds ++ es) → AllHold ds × AllHold es
hold_parts [] es h = (tt, h)
hold_parts (d ∷ ds) es h = let rest = hold_parts ds es h.1 in ((h.0, rest.0), rest.1)

pub then_parts : (a b : Comparison) (ds : List Demand) → and_then a b ≡ Matches ds
    → (one : List Demand) × (two : List Demand) × (a ≡ Matches one) × (b ≡ Matches two) × (ds ≡ one ++ two)
then_parts Unfinished b ds e = cc
then_parts Mismatch b ds e = cc
then_parts (Matches one) Unfinished ds e = cc
then_parts (Matches one) Mismatch ds e = cc
then_parts (Matches one) (Matches two) ds e = (one, two, refl, refl, sym (matches_inside (one ++ two) ds e))

-- a comparison that is right wherever it has demands that hold
abbrev IsSound : Comparing → Type 0
IsSound compare = (context : Context) (left right : Shape) (ds : List Demand) → compare context left right ≡ Matches ds → AllHold ds → SubtypesDirectly context left right

sound_types : (compare : Comparing) → IsSound compare → (context : Context) (left right : CapturingType) (ds : List Demand)
    → types_compared compare context left right ≡ Matches ds → AllHold ds → SubcapturesSet context left.set right.set × SubtypesDirectly context left.shape right.shape
sound_types compare sound context left right ds e h =
    let first : List Demand = record { context = context; left = left.set; right = right.set } ∷ [] in
    let parts = then_parts (Matches first) (compare context left.shape right.shape) ds e in
    let is : first ≡ parts.0 = matches_inside first parts.0 parts.2 in
    let all : AllHold (first ++ parts.1) = subst (λ one. AllHold (one ++ parts.1)) (sym is) (subst AllHold parts.4 h) in
    (all.0, sound context left.shape right.shape parts.1 parts.3 all.1)

sound_bound : (compare : Comparing) → IsSound compare → (context : Context) (position : ℕ) (found : Option Bind) (right : Shape) (ds : List Demand)
    → lookup context position ≡ found → bound_compared compare context (bound_in found) right ≡ Matches ds → AllHold ds → SubtypesDirectly context (TypeVariable (Free position)) right
sound_bound compare sound context position (Some (TypeEntry bound)) right ds there e h = through_bound there (sound context bound right ds e h)
sound_bound compare sound context position (Some (TermEntry shape set)) right ds there e h = cc
sound_bound compare sound context position None right ds there e h = cc

sound_function : (compare : Comparing) → IsSound compare → (context : Context) (takes : Shape) (c : Set) (gives : Shape) (d : Set) (right : Shape) (ds : List Demand)
    → function_compared compare context (capturing takes c) (capturing gives d) right ≡ Matches ds → AllHold ds → SubtypesDirectly context (FunctionShape takes c gives d) right
sound_function compare sound context takes c gives d (FunctionShape takes' c' gives' d') ds e h =
    let under : Context = TermEntry takes' c' ∷ context in
    let parts = then_parts (types_compared compare context (capturing takes' c') (capturing takes c))
    (types_compared compare under (opened_type (length context) (capturing gives d)) (opened_type (length context) (capturing gives' d'))) ds e in
    let all = hold_parts parts.0 parts.1 (subst AllHold parts.4 h) in
    let one = sound_types compare sound context (capturing takes' c') (capturing takes c) parts.0 parts.2 all.0 in
    let two = sound_types compare sound under (opened_type (length context) (capturing gives d)) (opened_type (length context) (capturing gives' d')) parts.1 parts.3 all.1 in
    functions one.0 one.1 two.0 two.1
sound_function compare sound context takes c gives d _ ds e h = cc

sound_type_function : (compare : Comparing) → IsSound compare → (context : Context) (bound gives : Shape) (d : Set) (right : Shape) (ds : List Demand)
    → type_function_compared compare context bound (capturing gives d) right ≡ Matches ds → AllHold ds → SubtypesDirectly context (TypeFunctionShape bound gives d) right
sound_type_function compare sound context bound gives d (TypeFunctionShape bound' gives' d') ds e h =
    let under : Context = TypeEntry bound ∷ context in
    let results : Comparison = types_compared compare under (opened_type (length context) (capturing gives d)) (opened_type (length context) (capturing gives' d')) in
    elim (same_shape bound bound') as (λ t. same_shape bound bound' ≡ t → cond t results Mismatch ≡ Matches ds → SubtypesDirectly context (TypeFunctionShape bound gives d) (TypeFunctionShape bound' gives' d')) [
      | true ↦ λ same found.
          let two = sound_types compare sound under (opened_type (length context) (capturing gives d)) (opened_type (length context) (capturing gives' d')) ds found h in
          subst (λ b. SubtypesDirectly context (TypeFunctionShape bound gives d) (TypeFunctionShape b gives' d')) (same_shape-true bound bound' same) (type_functions two.0 two.1)
      | false ↦ λ _ found. cc
    ] refl e
sound_type_function compare sound context bound gives d _ ds e h = cc

sound_box : (compare : Comparing) → IsSound compare → (context : Context) (content : Shape) (c : Set) (right : Shape) (ds : List Demand)
    → box_compared compare context (capturing content c) right ≡ Matches ds → AllHold ds → SubtypesDirectly context (BoxShape content c) right
sound_box compare sound context content c (BoxShape content' c') ds e h =
    let both = sound_types compare sound context (capturing content c) (capturing content' c') ds e h in boxes both.0 both.1
sound_box compare sound context content c _ ds e h = cc

sound_form : (compare : Comparing) → IsSound compare → IsSound (by_form compare)
unfolding by_form
sound_form compare sound context (BaseShape base) right ds e h = cc
sound_form compare sound context AnyShape right ds e h = cc
sound_form compare sound context (TypeVariable (Free position)) right ds e h = sound_bound compare sound context position (lookup context position) right ds refl e h
sound_form compare sound context (TypeVariable (Bound index)) right ds e h = cc
sound_form compare sound context (FunctionShape takes c gives d) right ds e h = sound_function compare sound context takes c gives d right ds e h
sound_form compare sound context (TypeFunctionShape bound gives d) right ds e h = sound_type_function compare sound context bound gives d right ds e h
sound_form compare sound context (BoxShape content c) right ds e h = sound_box compare sound context content c right ds e h
sound_form compare sound context (ExitShape gives) right ds e h = cc

any_shape : (shape : Shape) → is_any shape ≡ true → shape ≡ AnyShape
any_shape AnyShape e = refl
any_shape _ e = cc

pub comparison_sound : (n : ℕ) → IsSound (comparison n)
unfolding comparison
comparison_sound zero context left right ds e h = cc
comparison_sound (suc n) context left right ds e h =
    let later : Comparison = by_form (comparison n) context left right in
    elim (same_shape left right) as (λ t. same_shape left right ≡ t → cond t (Matches []) (cond (is_any right) (Matches []) later) ≡ Matches ds → SubtypesDirectly context left right) [
      | true ↦ λ same _. subst (λ s. SubtypesDirectly context left s) (same_shape-true left right same) alike
      | false ↦ λ _ found.
          elim (is_any right) as (λ t. is_any right ≡ t → cond t (Matches []) later ≡ Matches ds → SubtypesDirectly context left right) [
            | true ↦ λ any _. subst (λ s. SubtypesDirectly context left s) (sym (any_shape right any)) under_any
            | false ↦ λ _ found'. sound_form (comparison n) (comparison_sound n) context left right ds found' h
          ] refl found
    ] refl e

-- the comparison with so many steps has demands, and they hold
pub record Succeeds (n : ℕ) (context : Context) (left right : Shape) : Type 0 where
  pub demands : List Demand
  pub found : comparison n context left right ≡ Matches demands
  pub hold : AllHold demands

succeeds_more : (n m : ℕ) (context : Context) (left right : Shape) → n ≤ m → Succeeds n context left right → Succeeds m context left right
succeeds_more n m context left right h s =
    record {
      demands = s.demands;
      found = comparison_more context left right n m h (λ e. let f = s.found in cc) ∙ s.found;
      hold = s.hold;
    }

-- by the forms, unless the shapes are equal or the right one is Any
succeeds_by_form : (n : ℕ) (context : Context) (left right : Shape) (ds : List Demand) → by_form (comparison n) context left right ≡ Matches ds → AllHold ds → Succeeds (suc n) context left right
unfolding comparison
succeeds_by_form n context left right ds e h =
    let later : Comparison = by_form (comparison n) context left right in
    let answer : (found : Comparison) × (ds' : List Demand) × (found ≡ Matches ds') × AllHold ds' × (found ≡ cond (same_shape left right) (Matches []) (cond (is_any right) (Matches []) later)) =
    elim (same_shape left right) as (λ t. (found : Comparison) × (ds' : List Demand) × (found ≡ Matches ds') × AllHold ds' × (found ≡ cond t (Matches []) (cond (is_any right) (Matches []) later))) [
      | true ↦ (Matches [], [], refl, tt, refl)
      | false ↦
          elim (is_any right) as (λ t. (found : Comparison) × (ds' : List Demand) × (found ≡ Matches ds') × AllHold ds' × (found ≡ cond t (Matches []) later)) [
            | true ↦ (Matches [], [], refl, tt, refl)
            | false ↦ (later, ds, e, h, refl)
          ]
    ] in
    record { demands = answer.1; found = sym answer.4 ∙ answer.2; hold = answer.3 }

succeeds_alike : (context : Context) (shape : Shape) → Succeeds 1 context shape shape
unfolding comparison
succeeds_alike context shape =
    record {
      demands = [];
      found = ap (λ t. cond t (Matches []) (cond (is_any shape) (Matches []) (by_form (comparison 0) context shape shape))) (same_shape-itself shape);
      hold = tt;
    }

succeeds_any : (context : Context) (left : Shape) → Succeeds 1 context left AnyShape
unfolding comparison
succeeds_any context left =
    record {
      demands = [];
      found = elim (same_shape left AnyShape) as (λ t. cond t (Matches []) (Matches []) ≡ Matches []) [ true ↦ refl | false ↦ refl ];
      hold = tt;
    }

-- types with a demand that holds
types_found : (n : ℕ) (context : Context) (left right : CapturingType) → SubcapturesSet context left.set right.set → Succeeds n context left.shape right.shape
    → (ds : List Demand) × (types_compared (comparison n) context left right ≡ Matches ds) × AllHold ds
types_found n context left right sets s =
    let first : Demand = record { context = context; left = left.set; right = right.set } in
    (first ∷ s.demands, ap (and_then (Matches (first ∷ []))) s.found, (sets, s.hold))

both_found : (a b : Comparison) (ds es : List Demand) → a ≡ Matches ds → b ≡ Matches es → and_then a b ≡ Matches (ds ++ es)
both_found a b ds es p q = ap (λ x. and_then x b) p ∙ ap (and_then (Matches ds)) q

bound_found : (n : ℕ) (context : Context) (position : ℕ) (bound right : Shape) (ds : List Demand) → lookup context position ≡ Some (TypeEntry bound)
    → comparison n context bound right ≡ Matches ds → by_form (comparison n) context (TypeVariable (Free position)) right ≡ Matches ds
unfolding by_form
bound_found n context position bound right ds there e = ap (λ b. bound_compared (comparison n) context (bound_in b) right) there ∙ e

functions_found : (n : ℕ) (context : Context) (takes takes' gives gives' : Shape) (c c' e e' : Set)
    → SubcapturesSet context c' c → Succeeds n context takes' takes
    → SubcapturesSet (TermEntry takes' c' ∷ context) (opened_set (length context) e) (opened_set (length context) e')
    → Succeeds n (TermEntry takes' c' ∷ context) (opened (length context) gives) (opened (length context) gives')
    → Succeeds (suc n) context (FunctionShape takes c gives e) (FunctionShape takes' c' gives' e')
unfolding by_form
functions_found n context takes takes' gives gives' c c' e e' sets t results b =
    let under : Context = TermEntry takes' c' ∷ context in
    let one = types_found n context (capturing takes' c') (capturing takes c) sets t in
    let two = types_found n under (opened_type (length context) (capturing gives e)) (opened_type (length context) (capturing gives' e')) results b in
    succeeds_by_form n context (FunctionShape takes c gives e) (FunctionShape takes' c' gives' e') (one.0 ++ two.0)
    (both_found _ _ one.0 two.0 one.1 two.1) (hold_both one.0 two.0 one.2 two.2)

type_functions_found : (n : ℕ) (context : Context) (bound gives gives' : Shape) (e e' : Set)
    → SubcapturesSet (TypeEntry bound ∷ context) (opened_set (length context) e) (opened_set (length context) e')
    → Succeeds n (TypeEntry bound ∷ context) (opened (length context) gives) (opened (length context) gives')
    → Succeeds (suc n) context (TypeFunctionShape bound gives e) (TypeFunctionShape bound gives' e')
unfolding by_form
type_functions_found n context bound gives gives' e e' results b =
    let under : Context = TypeEntry bound ∷ context in
    let two = types_found n under (opened_type (length context) (capturing gives e)) (opened_type (length context) (capturing gives' e')) results b in
    succeeds_by_form n context (TypeFunctionShape bound gives e) (TypeFunctionShape bound gives' e') two.0
    (ap (λ t. cond t (types_compared (comparison n) under (opened_type (length context) (capturing gives e)) (opened_type (length context) (capturing gives' e'))) Mismatch) (same_shape-itself bound) ∙ two.1) two.2

boxes_found : (n : ℕ) (context : Context) (content content' : Shape) (c c' : Set)
    → SubcapturesSet context c c' → Succeeds n context content content' → Succeeds (suc n) context (BoxShape content c) (BoxShape content' c')
unfolding by_form
boxes_found n context content content' c c' sets b =
    let two = types_found n context (capturing content c) (capturing content' c') sets b in
    succeeds_by_form n context (BoxShape content c) (BoxShape content' c') two.0 two.1 two.2

-- what is directly below is found
pub comparison_complete : {context : Context} {left right : Shape} → SubtypesDirectly context left right → (n : ℕ) × Succeeds n context left right
comparison_complete (alike {context = context} {shape = shape}) = (1, succeeds_alike context shape)
comparison_complete (under_any {context = context} {shape = shape}) = (1, succeeds_any context shape)
comparison_complete (through_bound {context = context} {position = position} {bound = bound} {right = right} there rest) =
    let (n, s) = comparison_complete rest in
    (suc n, succeeds_by_form n context (TypeVariable (Free position)) right s.demands (bound_found n context position bound right s.demands there s.found) s.hold)
comparison_complete (functions {context = context} {takes = takes} {takes' = takes'} {gives = gives} {gives' = gives'} {c = c} {c' = c'} {e = e} {e' = e'} sets t results b) =
    let (n, s) = comparison_complete t in
    let (m, r) = comparison_complete b in (
      suc (n + m),
      functions_found (n + m) context takes takes' gives gives' c c' e e' sets
          (succeeds_more n (n + m) context takes' takes (omega arith) s) results
          (succeeds_more m (n + m) (TermEntry takes' c' ∷ context) (opened (length context) gives) (opened (length context) gives') (omega arith) r),
    )
comparison_complete (type_functions {context = context} {bound = bound} {gives = gives} {gives' = gives'} {e = e} {e' = e'} results b) =
    let (n, s) = comparison_complete b in
    (suc n, type_functions_found n context bound gives gives' e e' results s)
comparison_complete (boxes {context = context} {content = content} {content' = content'} {c = c} {c' = c'} sets b) =
    let (n, s) = comparison_complete b in
    (suc n, boxes_found n context content content' c c' sets s)

pub subtyping_compares : (context : Context) (left right : Shape)
    → Subtypes context left right ↔ ((ds : List Demand) × HasDemands context left right ds × AllHold ds)
subtyping_compares context left right = (
  λ below. let (n, s) = comparison_complete (direct_from below) in (s.demands, (n, s.found), s.hold),
  λ found. direct_to (comparison_sound found.1.0 context left right found.0 found.1.1 found.2),
)

pub subtyping_of_types_compares : (context : Context) (left right : CapturingType)
    → SubtypesType context left right ↔ ((ds : List Demand) × TypesHaveDemands context left right ds × AllHold ds)
subtyping_of_types_compares context left right = (
  λ below.
      let (n, s) = comparison_complete (direct_from below.1) in
      let found = types_found n context left right below.0 s in
      (found.0, (n, found.1), found.2),
  λ found.
      let both = sound_types (comparison found.1.0) (comparison_sound found.1.0) context left right found.0 found.1.1 found.2 in
      (both.0, direct_to both.1),
)

pub mismatch_not_below : (context : Context) (left right : Shape) → IsMismatch context left right → Subtypes context left right → ⊥
mismatch_not_below context left right mismatch below =
    let found = (subtyping_compares context left right).0 below in
    demands_or_mismatch context left right found.0 found.1 mismatch
