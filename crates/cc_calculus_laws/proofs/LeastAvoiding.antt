-- Avoiding is least: first in the context with the position, then without it.
use Rattle.std.proofs.Common.{◌≡◌, ◌⊎◌, ℕ, suc, ◌<◌, Bool, true, false, cond, ◌||◌, [], ◌∷◌, length, Some, refl, sym, ap, ◌∙◌, subst, inl, inr, arith}
use Rattle.std.specs.Prelude.{nat_eq}
use Rattle.std.specs.Option.{option_map}
use Rattle.std.proofs.lemmas.Bool.{both_ways, eqb-true}
use Rattle.cc_capture.specs.declared.var.Var.{Var}
use Rattle.cc_capture.specs.declared.var.Var.TheVariants.{Bound, Free}
use Rattle.cc_capture.specs.declared.var.Elem.{Elem}
use Rattle.cc_capture.specs.declared.var.Elem.TheVariants.{Var as Variable}
use Rattle.cc_capture.specs.Sets.{Set, Member, contains, remove, union}
use Rattle.cc_capture.proofs.Membership.{Member-union, Member-remove, same_members}
use Rattle.cc_core.specs.Shapes.{Shape, BaseShape, AnyShape, TypeVariable, FunctionShape, TypeFunctionShape, BoxShape, ExitShape, CapturingType, capturing}
use Rattle.cc_core.specs.Contexts.{Bind, TermEntry, TypeEntry, Context, lookup}
use Rattle.cc_core.specs.Traversal.{act, act_set}
use Rattle.cc_core.specs.Substitution.{opened, opened_set, opening, overridden}
use Rattle.cc_core.specs.Occurrences.{Meets, MeetsInSet, without, bound_within}
use Rattle.cc_core.specs.WellFormed.{TypeKind, kinds_of, IsWellFormedContext, IsWellFormedType}
use Rattle.cc_core.specs.Subcapturing.{Subcaptures, element, variable, SubcapturesSet}
use Rattle.cc_core.specs.Subtyping.{Subtypes, SubtypesType, reflexive}
use Rattle.cc_core.proofs.KindFacts.{IsKinded, IsKindedSet, IsKindedType-from, IsKindedSet-test}
use Rattle.cc_core.proofs.Lookups.{lookup-newest, lookup-older, lookup-below, lookup-cases}
use Rattle.cc_core.proofs.Renaming.{overridden-below}
use Rattle.cc_core.proofs.SubcapturingContexts.{IsKindedContext, IsKindedContext-from, entry_kinded, IsKinded-added}
use Rattle.cc_core.proofs.SubcapturingLemmas.{subcaptures_reflexive, subcaptures_shorter}
use Rattle.cc_checking.specs.Avoidance.{Sign, Positive, Negative, opposite, has_position, is_position, is_free_in, avoided_set, avoided, avoided_type}
use Rattle.cc_typing_laws.specs.ContextMaps.{mapped}
use Rattle.cc_typing_laws.specs.ContextMapLaws.{itself}
use Rattle.cc_typing_laws.proofs.Avoiding.{both_some, map_some, unless_some, not_true, is_free_in-opened, avoided_set-opened, avoided-opened, avoided_type_parts}
use Rattle.cc_typing_laws.proofs.AvoidingPlaces.{nothing_to_avoid, scope_left}
use Rattle.cc_typing_laws.proofs.ContextMapInstances.{stays_mapped, shape_map}
use Rattle.cc_typing_laws.proofs.ContextMapping.{mapped_subtypes}
use Rattle.cc_typing_laws.proofs.DirectSubtyping.{SubtypesDirectly, alike, under_any, through_bound, functions, type_functions, boxes, Narrows, narrows_newest, narrows_set, direct_narrows, direct_from, direct_to}
use Rattle.cc_typing_laws.proofs.FormedContexts.{IsKindedContext-test}
use Rattle.cc_typing_laws.proofs.InternalConversions.{fresh_in, fresh_in_set, closed_in_set}
use Rattle.cc_calculus_laws.specs.LeastAvoidance.{LosesNothingIn, LosesNothing, IsOnOneSide, NamesOnOneSide}

or_false : (a b : Bool) → (a || b) ≡ false → (a ≡ false) × (b ≡ false)
or_false true b e = cc
or_false false b e = (refl, e)

entries_same : (s s' : Shape) (c c' : Set) → Some (TermEntry s c) ≡ Some (TermEntry s' c') → c ≡ c'
entries_same s s' c c' e = cc

term_same : (s s' : Shape) (c c' : Set) → TermEntry s c ≡ TermEntry s' c' → c ≡ c'
term_same s s' c c' e = cc

some_same : (a b : Shape) → Some a ≡ Some b → a ≡ b
some_same a b e = cc

-- a position that is not free
module _ (n : ℕ) where
  abbrev at : Elem
  at = Variable (Free n)

  not_it : (y : Elem) (c : Set) → has_position n c ≡ false → Member y c → y ≡ at → ⊥
  not_it y c none m same = both_ways _ none (subst (λ z. Member z c) same m)

  function_free : (t : Shape) (c : Set) (u : Shape) (e : Set) → is_free_in n (FunctionShape t c u e) ≡ false
      → (is_free_in n t ≡ false) × (has_position n c ≡ false) × (is_free_in n u ≡ false) × (has_position n e ≡ false)
  function_free t c u e h =
      let a = or_false (is_free_in n t || has_position n c || is_free_in n u) (has_position n e) h in
      let b = or_false (is_free_in n t || has_position n c) (is_free_in n u) a.0 in
      let p = or_false (is_free_in n t) (has_position n c) b.0 in
      (p.0, p.1, b.1, a.1)

  type_function_free : (b u : Shape) (e : Set) → is_free_in n (TypeFunctionShape b u e) ≡ false → (is_free_in n b ≡ false) × (is_free_in n u ≡ false) × (has_position n e ≡ false)
  type_function_free b u e h =
      let a = or_false (is_free_in n b || is_free_in n u) (has_position n e) h in
      let p = or_false (is_free_in n b) (is_free_in n u) a.0 in
      (p.0, p.1, a.1)

  set_opened : (m : ℕ) → (m ≡ n → ⊥) → (depth : ℕ) (c : Set) → has_position n (act_set (opening m) depth c) ≡ has_position n c
  set_opened m apart depth c = is_free_in-opened m n apart depth (BoxShape AnyShape c)

  free_opened : (m : ℕ) → (m ≡ n → ⊥) → (s : Shape) → is_free_in n s ≡ false → is_free_in n (opened m s) ≡ false
  free_opened m apart s h = is_free_in-opened m n apart 0 s ∙ h

  free_set_opened : (m : ℕ) → (m ≡ n → ⊥) → (c : Set) → has_position n c ≡ false → has_position n (opened_set m c) ≡ false
  free_set_opened m apart c h = set_opened m apart 0 c ∙ h

  loses_in_opened : (sign : Sign) (m : ℕ) → (m ≡ n → ⊥) → (depth : ℕ) (c : Set) → LosesNothingIn sign n c → LosesNothingIn sign n (act_set (opening m) depth c)
  loses_in_opened Positive m apart depth c o = tt
  loses_in_opened Negative m apart depth c o = set_opened m apart depth c ∙ o

  loses_opened : (sign : Sign) (m : ℕ) → (m ≡ n → ⊥) → (depth : ℕ) (s : Shape) → LosesNothing sign n s → LosesNothing sign n (act (opening m) depth s)
  loses_opened sign m apart depth (BaseShape b) o = tt
  loses_opened sign m apart depth AnyShape o = tt
  loses_opened sign m apart depth (TypeVariable v) o = tt
  loses_opened sign m apart depth (FunctionShape t c u e) o = (
    loses_opened (opposite sign) m apart depth t o.0,
    loses_in_opened (opposite sign) m apart depth c o.1,
    loses_opened sign m apart (suc depth) u o.2,
    loses_in_opened sign m apart (suc depth) e o.3,
  )
  loses_opened sign m apart depth (TypeFunctionShape b u e) o = (loses_opened sign m apart (suc depth) u o.0, loses_in_opened sign m apart (suc depth) e o.1)
  loses_opened sign m apart depth (BoxShape t c) o = (loses_opened sign m apart depth t o.0, loses_in_opened sign m apart depth c o.1)
  loses_opened sign m apart depth (ExitShape t) o = tt

  one_side_opened : (sign : Sign) (m : ℕ) → (m ≡ n → ⊥) → (depth : ℕ) (c : Set) (u : Shape) (e : Set) → IsOnOneSide sign n c u e
      → IsOnOneSide sign n (act_set (opening m) depth c) (act (opening m) (suc depth) u) (act_set (opening m) (suc depth) e)
  one_side_opened Positive m apart depth c u e o = tt
  one_side_opened Negative m apart depth c u e (inl none) = inl (set_opened m apart depth c ∙ none)
  one_side_opened Negative m apart depth c u e (inr none) = inr (loses_opened Negative m apart (suc depth) u none.0, loses_in_opened Negative m apart (suc depth) e none.1)

  side_opened : (sign : Sign) (m : ℕ) → (m ≡ n → ⊥) → (depth : ℕ) (s : Shape) → NamesOnOneSide sign n s → NamesOnOneSide sign n (act (opening m) depth s)
  side_opened sign m apart depth (BaseShape b) o = tt
  side_opened sign m apart depth AnyShape o = tt
  side_opened sign m apart depth (TypeVariable v) o = tt
  side_opened sign m apart depth (FunctionShape t c u e) o =
      (side_opened (opposite sign) m apart depth t o.0, side_opened sign m apart (suc depth) u o.1, one_side_opened sign m apart depth c u e o.2)
  side_opened sign m apart depth (TypeFunctionShape b u e) o = side_opened sign m apart (suc depth) u o
  side_opened sign m apart depth (BoxShape t c) o = side_opened sign m apart depth t o
  side_opened sign m apart depth (ExitShape t) o = tt

  -- an entry that does not name it
  abbrev EntryFree : Bind → Type 0
  EntryFree (TermEntry s c) = has_position n c ≡ false
  EntryFree (TypeEntry b) = is_free_in n b ≡ false

  -- what is free nowhere
  free_variable : (v : Var) → (v ≡ Free n → ⊥) → is_position n v ≡ false
  free_variable (Free p) h = not_true (nat_eq n p) (λ same. h (ap (λ q. Free q) (sym (eqb-true n p same))))
  free_variable (Bound i) h = refl

  free_set : (depth : ℕ) (c : Set) → MeetsInSet (without n) depth c → has_position n c ≡ false
  free_set depth c h = not_true (contains at c) (λ m. h at m refl)

  or_neither : (a b : Bool) → a ≡ false → b ≡ false → (a || b) ≡ false
  or_neither true b e f = cc
  or_neither false b e f = f

  free_from : (depth : ℕ) (s : Shape) → Meets (without n) depth s → is_free_in n s ≡ false
  free_from depth (BaseShape b) h = refl
  free_from depth AnyShape h = refl
  free_from depth (TypeVariable v) h = free_variable v h
  free_from depth (FunctionShape t c u e) h =
      or_neither (is_free_in n t || has_position n c || is_free_in n u) (has_position n e)
      (or_neither (is_free_in n t || has_position n c) (is_free_in n u)
      (or_neither (is_free_in n t) (has_position n c) (free_from depth t h.0) (free_set depth c h.1)) (free_from (suc depth) u h.2)) (free_set (suc depth) e h.3)
  free_from depth (TypeFunctionShape b u e) h =
      or_neither (is_free_in n b || is_free_in n u) (has_position n e)
      (or_neither (is_free_in n b) (is_free_in n u) (free_from depth b h.0) (free_from (suc depth) u h.1)) (free_set (suc depth) e h.2)
  free_from depth (BoxShape t c) h = or_neither (is_free_in n t) (has_position n c) (free_from depth t h.0) (free_set depth c h.1)
  free_from depth (ExitShape t) h = free_from depth t h

  -- The position is declared with a set that does not name it.
  module _ (d : Set) (gone : has_position n d ≡ false) where
    -- where it is in neither of two sets or shapes, it may have any entry, and other sets may have its set in its place
    record Follows (g h : Context) : Type 0 where
      same_length : length g ≡ length h
      inside : n < length g
      position : (s : Shape) (c : Set) → lookup g n ≡ Some (TermEntry s c) → c ≡ d
      bounds : (p : ℕ) (b : Shape) → lookup g p ≡ Some (TypeEntry b) → (lookup h p ≡ Some (TypeEntry b)) × (is_free_in n b ≡ false)
      declared : (p : ℕ) (s : Shape) (c : Set) → (p ≡ n → ⊥) → lookup g p ≡ Some (TermEntry s c)
          → (s' : Shape) × (c' : Set) × (lookup h p ≡ Some (TermEntry s' c')) × (has_position n c' ≡ false)
          × ((y : Elem) → Member y c' → Member y c ⊎ (Member at c × Member y d))

    follow_element : {g h : Context} {e : Elem} {c : Set} → Subcaptures g e c → Follows g h → has_position n c ≡ false
        → ((e ≡ at → ⊥) → Subcaptures h e c) × (e ≡ at → (y : Elem) → Member y d → Subcaptures h y c)
    follow_element (element {e = e} {set = c} m) f none = (λ other. element m, λ same y k. absurd (not_it e c none m same))
    follow_element {g} {h} (variable {position = p} {shape = s} {declared = k} {set = c} there each) f none = (
      λ other.
          let found = f.declared p s k (λ same. other (ap (λ q. Variable (Free q)) same)) there in
          variable found.2
          (λ y m.
          elim (found.4 y m) as (λ _. Subcaptures h y c) [
            | inl l ↦ (follow_element (each y l) f none).0 (not_it y found.1 found.3 m)
            | inr r ↦ (follow_element (each at r.0) f none).1 refl y r.1
          ]),
      λ same y m.
          let is : p ≡ n = cc in
          let own : k ≡ d = f.position s k (subst (λ q. lookup g q ≡ Some (TermEntry s k)) is there) in
          (follow_element (each y (subst (Member y) (sym own) m)) f none).0 (not_it y d gone m),
    )

    follow_sets : {g h : Context} → Follows g h → (a b : Set) → has_position n a ≡ false → has_position n b ≡ false → SubcapturesSet g a b → SubcapturesSet h a b
    follow_sets f a b none none' below e m = (follow_element (below e m) f none').0 (not_it e a none m)

    follows_under : {g h : Context} (b : Bind) → EntryFree b → Follows g h → Follows (b ∷ g) (b ∷ h)
    follows_under {g} {h} b free f =
        record {
          same_length = ap suc f.same_length;
          inside = let inside = f.inside in omega arith;
          position = λ s c there.
              let inside = f.inside in
              elim (lookup-cases b g n (TermEntry s c) there) as (λ _. c ≡ d) [ inl here ↦ let is = here.0 in absurd (omega arith) | inr old ↦ f.position s c old ];
          bounds = λ p x there.
              elim (lookup-cases b g p (TypeEntry x) there) as (λ _. (lookup (b ∷ h) p ≡ Some (TypeEntry x)) × (is_free_in n x ≡ false)) [
                | inl here ↦ (ap (lookup (b ∷ h)) (here.0 ∙ f.same_length) ∙ lookup-newest b h ∙ ap (λ z. Some z) here.1, subst EntryFree here.1 free)
                | inr old ↦ let found = f.bounds p x old in (lookup-older b h p (TypeEntry x) found.0, found.1)
              ];
          declared = λ p s c other there.
              elim (lookup-cases b g p (TermEntry s c) there) as (λ _. (s' : Shape) × (c' : Set) × (lookup (b ∷ h) p ≡ Some (TermEntry s' c')) × (has_position n c' ≡ false)
              × ((y : Elem) → Member y c' → Member y c ⊎ (Member at c × Member y d))) [
                | inl here ↦ (s, c, ap (lookup (b ∷ h)) (here.0 ∙ f.same_length) ∙ lookup-newest b h ∙ ap (λ z. Some z) here.1, subst EntryFree here.1 free, λ y m. inl m)
                | inr old ↦ let found = f.declared p s c other old in (found.0, found.1, lookup-older b h p (TermEntry found.0 found.1) found.2, found.3, found.4)
              ];
        }

    other_length : {g h : Context} → Follows g h → length g ≡ n → ⊥
    other_length f same = let inside = f.inside in omega arith

    follow : {g h : Context} {l r : Shape} → SubtypesDirectly g l r → Follows g h → is_free_in n l ≡ false → is_free_in n r ≡ false → SubtypesDirectly h l r
    follow alike f nl nr = alike
    follow under_any f nl nr = under_any
    follow (through_bound {position = p} {bound = b} there rest) f nl nr = let found = f.bounds p b there in through_bound found.0 (follow rest f found.1 nr)
    follow {g} {h} (functions {takes = t} {takes' = t'} {gives = u} {gives' = u'} {c = c} {c' = c'} {e = e} {e' = e'} sets takes results body) f nl nr =
        let fl = function_free t c u e nl in
        let fr = function_free t' c' u' e' nr in
        let under = follows_under (TermEntry t' c') fr.1 f in
        let m = length g in
        let apart = other_length f in
        functions (follow_sets f c' c fr.1 fl.1 sets) (follow takes f fr.0 fl.0)
        (subst (λ k. SubcapturesSet (TermEntry t' c' ∷ h) (opened_set k e) (opened_set k e')) f.same_length
        (follow_sets under (opened_set m e) (opened_set m e') (free_set_opened m apart e fl.3) (free_set_opened m apart e' fr.3) results))
        (subst (λ k. SubtypesDirectly (TermEntry t' c' ∷ h) (opened k u) (opened k u')) f.same_length (follow body under (free_opened m apart u fl.2) (free_opened m apart u' fr.2)))
    follow {g} {h} (type_functions {bound = b} {gives = u} {gives' = u'} {e = e} {e' = e'} results body) f nl nr =
        let fl = type_function_free b u e nl in
        let fr = type_function_free b u' e' nr in
        let under = follows_under (TypeEntry b) fl.0 f in
        let m = length g in
        let apart = other_length f in
        type_functions
        (subst (λ k. SubcapturesSet (TypeEntry b ∷ h) (opened_set k e) (opened_set k e')) f.same_length
        (follow_sets under (opened_set m e) (opened_set m e') (free_set_opened m apart e fl.2) (free_set_opened m apart e' fr.2) results))
        (subst (λ k. SubtypesDirectly (TypeEntry b ∷ h) (opened k u) (opened k u')) f.same_length (follow body under (free_opened m apart u fl.1) (free_opened m apart u' fr.1)))
    follow (boxes {content = t} {content' = t'} {c = c} {c' = c'} sets body) f nl nr =
        let fl = or_false (is_free_in n t) (has_position n c) nl in
        let fr = or_false (is_free_in n t') (has_position n c') nr in
        boxes (follow_sets f c c' fl.1 fr.1 sets) (follow body f fl.0 fr.0)

    -- nothing that stands in the context names it, but for its own entry
    record Clean (g : Context) : Type 0 where
      own : Shape
      there : lookup g n ≡ Some (TermEntry own d)
      sets : (p : ℕ) (s : Shape) (c : Set) → (p ≡ n → ⊥) → lookup g p ≡ Some (TermEntry s c) → has_position n c ≡ false
      bounds : (p : ℕ) (b : Shape) → lookup g p ≡ Some (TypeEntry b) → is_free_in n b ≡ false

    clean_inside : {g : Context} → Clean g → n < length g
    clean_inside {g} k = lookup-below g n (TermEntry k.own d) k.there

    clean_apart : {g : Context} → Clean g → length g ≡ n → ⊥
    clean_apart k same = let inside = clean_inside k in omega arith

    clean_under : {g : Context} (b : Bind) → EntryFree b → Clean g → Clean (b ∷ g)
    clean_under {g} b free k =
        record {
          own = k.own;
          there = lookup-older b g n (TermEntry k.own d) k.there;
          sets = λ p s c other there. elim (lookup-cases b g p (TermEntry s c) there) as (λ _. has_position n c ≡ false) [ inl here ↦ subst EntryFree here.1 free | inr old ↦ k.sets p s c other old ];
          bounds = λ p x there. elim (lookup-cases b g p (TypeEntry x) there) as (λ _. is_free_in n x ≡ false) [ inl here ↦ subst EntryFree here.1 free | inr old ↦ k.bounds p x old ];
        }

    element_down : {g : Context} {e : Elem} {c : Set} → Subcaptures g e c → Clean g → (e ≡ at → ⊥) → Subcaptures g e (remove at c)
    element_down (element {e = e} {set = c} m) k other = element ((Member-remove e at c).1 (other, m))
    element_down (variable {position = p} {shape = s} {declared = c} there each) k other =
        variable there (λ y m. element_down (each y m) k (not_it y c (k.sets p s c (λ same. other (ap (λ q. Variable (Free q)) same)) there) m))

    set_down : {g : Context} → Clean g → (r c : Set) → has_position n r ≡ false → SubcapturesSet g r c → SubcapturesSet g r (remove at c)
    set_down k r c none below e m = element_down (below e m) k (not_it e r none m)

    -- where it is not free, nothing is avoided
    pub same_set : (sign : Sign) (c : Set) → has_position n c ≡ false → avoided_set sign n d c ≡ c
    same_set Positive c e = ap (λ t. cond t (union (remove at c) d) c) e
    same_set Negative c e =
        same_members (remove at c) c (λ y m. ((Member-remove y at c).0 m).1) (λ y m. (Member-remove y at c).1 (not_it y c e m, m))

    same_shape : (sign : Sign) (s : Shape) → is_free_in n s ≡ false → avoided sign n d s ≡ Some s
    same_shape sign s e = (avoided_type_parts sign n d (capturing s (remove at d)) (capturing s (remove at d)) (nothing_to_avoid sign n d (capturing s (remove at d)) (or_neither (is_free_in n s) (has_position n (remove at d)) e (not_true (contains at (remove at d)) (λ m. ((Member-remove at at d).0 m).0 refl))))).0

    gone_up : (c : Set) → has_position n (avoided_set Positive n d c) ≡ false
    gone_up c =
        elim (has_position n c) as (λ t. has_position n c ≡ t → has_position n (cond t (union (remove at c) d) c) ≡ false) [
          | true ↦ λ _.
              not_true (contains at (union (remove at c) d))
              (λ m. elim ((Member-union at (remove at c) d).0 m) as (λ _. ⊥) [ inl l ↦ ((Member-remove at at c).0 l).0 refl | inr l ↦ both_ways _ gone l ])
          | false ↦ λ is. is
        ] refl

    member_up : (c : Set) (y : Elem) → Member y (avoided_set Positive n d c) → Member y c ⊎ (Member at c × Member y d)
    member_up c y =
        elim (has_position n c) as (λ t. has_position n c ≡ t → Member y (cond t (union (remove at c) d) c) → Member y c ⊎ (Member at c × Member y d)) [
          | true ↦ λ is m.
              elim ((Member-union y (remove at c) d).0 m) as (λ _. Member y c ⊎ (Member at c × Member y d)) [
                | inl l ↦ inl ((Member-remove y at c).0 l).1
                | inr l ↦ inr (is, l)
              ]
          | false ↦ λ is m. inl m
        ] refl

    -- where it follows, what is below stays so as the set grows
    grown_set : {g h : Context} → Follows g h → (c r : Set) → has_position n r ≡ false → SubcapturesSet g c r → SubcapturesSet h (avoided_set Positive n d c) r
    grown_set {g} {h} f c r none below =
        elim (has_position n c) as (λ t. has_position n c ≡ t → SubcapturesSet h (cond t (union (remove at c) d) c) r) [
          | true ↦ λ is y m.
              elim ((Member-union y (remove at c) d).0 m) as (λ _. Subcaptures h y r) [
                | inl l ↦ let p = (Member-remove y at c).0 l in (follow_element (below y p.1) f none).0 p.0
                | inr l ↦ (follow_element (below at is) f none).1 refl y l
              ]
          | false ↦ λ is. follow_sets f c r is none below
        ] refl

    clean_follows : {g : Context} → Clean g → Follows g g
    clean_follows {g} k =
        record {
          same_length = refl;
          inside = clean_inside k;
          position = λ s c there. entries_same s k.own c d (sym there ∙ k.there);
          bounds = λ p b there. (there, k.bounds p b there);
          declared = λ p s c other there. (s, c, there, k.sets p s c other there, λ y m. inl m);
        }

    -- a parameter whose set grows
    follows_grown : {g h : Context} → Follows g h → (t t' : Shape) (c : Set) → Follows (TermEntry t c ∷ g) (TermEntry t' (avoided_set Positive n d c) ∷ h)
    follows_grown {g} {h} f t t' c =
        let b : Bind = TermEntry t c in
        let b' : Bind = TermEntry t' (avoided_set Positive n d c) in
        let inside = f.inside in
        record {
          same_length = ap suc f.same_length;
          inside = omega arith;
          position = λ s x there.
              elim (lookup-cases b g n (TermEntry s x) there) as (λ _. x ≡ d) [
                | inl here ↦ let is = here.0 in absurd (omega arith)
                | inr old ↦ f.position s x old
              ];
          bounds = λ p x there.
              elim (lookup-cases b g p (TypeEntry x) there) as (λ _. (lookup (b' ∷ h) p ≡ Some (TypeEntry x)) × (is_free_in n x ≡ false)) [
                | inl here ↦ let clash : TermEntry t c ≡ TypeEntry x = here.1 in cc
                | inr old ↦ let found = f.bounds p x old in (lookup-older b' h p (TypeEntry x) found.0, found.1)
              ];
          declared = λ p s x other there.
              elim (lookup-cases b g p (TermEntry s x) there) as (λ _. (s' : Shape) × (c' : Set) × (lookup (b' ∷ h) p ≡ Some (TermEntry s' c')) × (has_position n c' ≡ false)
              × ((y : Elem) → Member y c' → Member y x ⊎ (Member at x × Member y d))) [
                | inl here ↦ (
                  t',
                  avoided_set Positive n d c,
                  ap (lookup (b' ∷ h)) (here.0 ∙ f.same_length) ∙ lookup-newest b' h,
                  gone_up c,
                  λ y m. subst (λ z. Member y z ⊎ (Member at z × Member y d)) (term_same t s c x here.1) (member_up c y m),
                )
                | inr old ↦ let found = f.declared p s x other old in (found.0, found.1, lookup-older b' h p (TermEntry found.0 found.1) found.2, found.3, found.4)
              ];
        }

    module _ (closed : MeetsInSet (bound_within 0) 0 d) where
      abbrev Up : Context → Shape → Shape → Type 0
      Up g l r = (l' : Shape) → avoided Positive n d l ≡ Some l' → is_free_in n r ≡ false → NamesOnOneSide Positive n l → SubtypesDirectly g l' r

      abbrev Down : Context → Shape → Shape → Type 0
      Down g l r = (r' : Shape) → avoided Negative n d r ≡ Some r' → is_free_in n l ≡ false → NamesOnOneSide Negative n r → SubtypesDirectly g l r'

      -- where it follows, and no set loses it
      abbrev GrowsUp : Context → Shape → Shape → Type 0
      GrowsUp h l r = (l' : Shape) → avoided Positive n d l ≡ Some l' → is_free_in n r ≡ false → LosesNothing Positive n l → SubtypesDirectly h l' r

      abbrev GrowsDown : Context → Shape → Shape → Type 0
      GrowsDown h l r = (r' : Shape) → avoided Negative n d r ≡ Some r' → is_free_in n l ≡ false → LosesNothing Negative n r → SubtypesDirectly h l r'

      grow : {g h : Context} {l r : Shape} → SubtypesDirectly g l r → Follows g h → GrowsUp h l r × GrowsDown h l r
      grow {h = h} (alike {shape = s}) f = (
        λ l' e nr o. subst (λ z. SubtypesDirectly h z s) (some_same s l' (sym (same_shape Positive s nr) ∙ e)) alike,
        λ r' e nl o. subst (λ z. SubtypesDirectly h s z) (some_same s r' (sym (same_shape Negative s nl) ∙ e)) alike,
      )
      grow {h = h} (under_any {shape = s}) f = (λ l' e nr o. under_any, λ r' e nl o. let is : AnyShape ≡ r' = cc in subst (SubtypesDirectly h s) is under_any)
      grow {h = h} {r = r} (through_bound {position = p} {bound = b} there rest) f = (
        λ l' e nr o.
            let is : TypeVariable (Free p) ≡ l' = cc in
            let found = f.bounds p b there in
            subst (λ z. SubtypesDirectly h z r) is (through_bound found.0 (follow rest f found.1 nr)),
        λ r' e nl o. let found = f.bounds p b there in through_bound found.0 ((grow rest f).1 r' e found.1 o),
      )
      grow {g} {h} (functions {takes = t} {takes' = t'} {gives = u} {gives' = u'} {c = c} {c' = c'} {e = e} {e' = e'} sets takes results body) f = (
        λ l' eq nr o.
            let parts = both_some (avoided Negative n d t) (avoided Positive n d u) (λ a b. FunctionShape a (avoided_set Negative n d c) b (avoided_set Positive n d e)) l' eq in
            let fr = function_free t' c' u' e' nr in
            let m = length g in
            let apart = other_length f in
            let under = follows_under (TermEntry t' c') fr.1 f in
            let same : c ≡ remove at c = sym (same_set Negative c o.1) in
            subst (λ z. SubtypesDirectly h z (FunctionShape t' c' u' e')) (sym parts.4)
            (functions (subst (SubcapturesSet h c') same (follow_sets f c' c fr.1 o.1 sets)) ((grow takes f).1 parts.0 parts.2 fr.0 o.0)
            (subst (λ j. SubcapturesSet (TermEntry t' c' ∷ h) (opened_set j (avoided_set Positive n d e)) (opened_set j e')) f.same_length
            (subst (λ z. SubcapturesSet (TermEntry t' c' ∷ h) z (opened_set m e')) (avoided_set-opened m n apart d closed Positive 0 e)
            (grown_set under (opened_set m e) (opened_set m e') (free_set_opened m apart e' fr.3) results)))
            (subst (λ j. SubtypesDirectly (TermEntry t' c' ∷ h) (opened j parts.1) (opened j u')) f.same_length
            ((grow body under).0 (opened m parts.1) (avoided-opened m n apart d closed Positive 0 u parts.1 parts.3) (free_opened m apart u' fr.2) (loses_opened Positive m apart 0 u o.2)))),
        λ r' eq nl o.
            let parts = both_some (avoided Positive n d t') (avoided Negative n d u') (λ a b. FunctionShape a (avoided_set Positive n d c') b (avoided_set Negative n d e')) r' eq in
            let fl = function_free t c u e nl in
            let m = length g in
            let apart = other_length f in
            let under = follows_grown f t' parts.0 c' in
            let c₁ : Set = avoided_set Positive n d c' in
            let same : e' ≡ remove at e' = sym (same_set Negative e' o.3) in
            subst (SubtypesDirectly h (FunctionShape t c u e)) (sym parts.4)
            (functions (grown_set f c' c fl.1 sets) ((grow takes f).0 parts.0 parts.2 fl.0 o.0)
            (subst (λ j. SubcapturesSet (TermEntry parts.0 c₁ ∷ h) (opened_set j e) (opened_set j (remove at e'))) f.same_length
            (subst (λ z. SubcapturesSet (TermEntry parts.0 c₁ ∷ h) (opened_set m e) (opened_set m z)) same
            (follow_sets under (opened_set m e) (opened_set m e') (free_set_opened m apart e fl.3) (free_set_opened m apart e' o.3) results)))
            (subst (λ j. SubtypesDirectly (TermEntry parts.0 c₁ ∷ h) (opened j u) (opened j parts.1)) f.same_length
            ((grow body under).1 (opened m parts.1) (avoided-opened m n apart d closed Negative 0 u' parts.1 parts.3) (free_opened m apart u fl.2) (loses_opened Negative m apart 0 u' o.2)))),
      )
      grow {g} {h} (type_functions {bound = b} {gives = u} {gives' = u'} {e = e} {e' = e'} results body) f = (
        λ l' eq nr o.
            let free = unless_some (is_free_in n b) (option_map (λ z. TypeFunctionShape b z (avoided_set Positive n d e)) (avoided Positive n d u)) l' eq in
            let parts = map_some (avoided Positive n d u) (λ z. TypeFunctionShape b z (avoided_set Positive n d e)) l' free.1 in
            let fr = type_function_free b u' e' nr in
            let m = length g in
            let apart = other_length f in
            let under = follows_under (TypeEntry b) free.0 f in
            subst (λ z. SubtypesDirectly h z (TypeFunctionShape b u' e')) (sym parts.2)
            (type_functions
            (subst (λ j. SubcapturesSet (TypeEntry b ∷ h) (opened_set j (avoided_set Positive n d e)) (opened_set j e')) f.same_length
            (subst (λ z. SubcapturesSet (TypeEntry b ∷ h) z (opened_set m e')) (avoided_set-opened m n apart d closed Positive 0 e)
            (grown_set under (opened_set m e) (opened_set m e') (free_set_opened m apart e' fr.2) results)))
            (subst (λ j. SubtypesDirectly (TypeEntry b ∷ h) (opened j parts.0) (opened j u')) f.same_length
            ((grow body under).0 (opened m parts.0) (avoided-opened m n apart d closed Positive 0 u parts.0 parts.1) (free_opened m apart u' fr.1) (loses_opened Positive m apart 0 u o.0)))),
        λ r' eq nl o.
            let free = unless_some (is_free_in n b) (option_map (λ z. TypeFunctionShape b z (avoided_set Negative n d e')) (avoided Negative n d u')) r' eq in
            let parts = map_some (avoided Negative n d u') (λ z. TypeFunctionShape b z (avoided_set Negative n d e')) r' free.1 in
            let fl = type_function_free b u e nl in
            let m = length g in
            let apart = other_length f in
            let under = follows_under (TypeEntry b) free.0 f in
            let same : e' ≡ remove at e' = sym (same_set Negative e' o.1) in
            subst (SubtypesDirectly h (TypeFunctionShape b u e)) (sym parts.2)
            (type_functions
            (subst (λ j. SubcapturesSet (TypeEntry b ∷ h) (opened_set j e) (opened_set j (remove at e'))) f.same_length
            (subst (λ z. SubcapturesSet (TypeEntry b ∷ h) (opened_set m e) (opened_set m z)) same
            (follow_sets under (opened_set m e) (opened_set m e') (free_set_opened m apart e fl.2) (free_set_opened m apart e' o.1) results)))
            (subst (λ j. SubtypesDirectly (TypeEntry b ∷ h) (opened j u) (opened j parts.0)) f.same_length
            ((grow body under).1 (opened m parts.0) (avoided-opened m n apart d closed Negative 0 u' parts.0 parts.1) (free_opened m apart u fl.1) (loses_opened Negative m apart 0 u' o.0)))),
      )
      grow {h = h} (boxes {content = t} {content' = t'} {c = c} {c' = c'} sets body) f = (
        λ l' eq nr o.
            let parts = map_some (avoided Positive n d t) (λ z. BoxShape z (avoided_set Positive n d c)) l' eq in
            let fr = or_false (is_free_in n t') (has_position n c') nr in
            subst (λ z. SubtypesDirectly h z (BoxShape t' c')) (sym parts.2) (boxes (grown_set f c c' fr.1 sets) ((grow body f).0 parts.0 parts.1 fr.0 o.0)),
        λ r' eq nl o.
            let parts = map_some (avoided Negative n d t') (λ z. BoxShape z (avoided_set Negative n d c')) r' eq in
            let fl = or_false (is_free_in n t) (has_position n c) nl in
            let same : c' ≡ remove at c' = sym (same_set Negative c' o.1) in
            subst (SubtypesDirectly h (BoxShape t c)) (sym parts.2) (boxes (subst (SubcapturesSet h c) same (follow_sets f c c' fl.1 o.1 sets)) ((grow body f).1 parts.0 parts.1 fl.0 o.0)),
      )

      -- what a function gives, at a negative place
      gives_down : {g : Context} → Clean g → (t t₁ : Shape) (c : Set) (u u' u₁ : Shape) (e e' : Set) → IsOnOneSide Negative n c u' e'
          → has_position n e ≡ false → is_free_in n u ≡ false → avoided Negative n d u' ≡ Some u₁ → NamesOnOneSide Negative n u'
          → SubcapturesSet (TermEntry t c ∷ g) (opened_set (length g) e) (opened_set (length g) e')
          → SubtypesDirectly (TermEntry t c ∷ g) (opened (length g) u) (opened (length g) u')
          → (Clean (TermEntry t c ∷ g) → Down (TermEntry t c ∷ g) (opened (length g) u) (opened (length g) u'))
          → SubcapturesSet (TermEntry t₁ (avoided_set Positive n d c) ∷ g) (opened_set (length g) e) (opened_set (length g) (remove at e'))
          × SubtypesDirectly (TermEntry t₁ (avoided_set Positive n d c) ∷ g) (opened (length g) u) (opened (length g) u₁)
      gives_down {g} k t t₁ c u u' u₁ e e' (inl none) ne nu au side results body down =
          let m = length g in
          let apart = clean_apart k in
          let under = clean_under (TermEntry t c) none k in
          let same : avoided_set Positive n d c ≡ c = same_set Positive c none in
          let narrow : Narrows (TermEntry t c ∷ g) (TermEntry t₁ (avoided_set Positive n d c) ∷ g) =
          narrows_newest g t t₁ c (avoided_set Positive n d c) (subst (λ z. SubcapturesSet g z c) (sym same) (subcaptures_reflexive g c)) in (
            narrows_set narrow (opened_set m e) (opened_set m (remove at e'))
                (subst (λ z. SubcapturesSet (TermEntry t c ∷ g) (opened_set m e) z) (avoided_set-opened m n apart d closed Negative 0 e')
                (set_down under (opened_set m e) (opened_set m e') (free_set_opened m apart e ne) results)),
            direct_narrows (down under (opened m u₁) (avoided-opened m n apart d closed Negative 0 u' u₁ au) (free_opened m apart u nu) (side_opened Negative m apart 0 u' side)) narrow,
          )
      gives_down {g} k t t₁ c u u' u₁ e e' (inr none) ne nu au side results body down =
          let m = length g in
          let apart = clean_apart k in
          let f = follows_grown (clean_follows k) t t₁ c in
          let same : e' ≡ remove at e' = sym (same_set Negative e' none.1) in (
            subst (λ z. SubcapturesSet (TermEntry t₁ (avoided_set Positive n d c) ∷ g) (opened_set m e) (opened_set m z)) same
                (follow_sets f (opened_set m e) (opened_set m e') (free_set_opened m apart e ne) (free_set_opened m apart e' none.1) results),
            (grow body f).1 (opened m u₁) (avoided-opened m n apart d closed Negative 0 u' u₁ au) (free_opened m apart u nu) (loses_opened Negative m apart 0 u' none.0),
          )

      least : {g : Context} {l r : Shape} → SubtypesDirectly g l r → Clean g → Up g l r × Down g l r
      least {g} (alike {shape = s}) k = (
        λ l' e nr o. subst (λ z. SubtypesDirectly g z s) (some_same s l' (sym (same_shape Positive s nr) ∙ e)) alike,
        λ r' e nl o. subst (λ z. SubtypesDirectly g s z) (some_same s r' (sym (same_shape Negative s nl) ∙ e)) alike,
      )
      least {g} (under_any {shape = s}) k = (λ l' e nr o. under_any, λ r' e nl o. let is : AnyShape ≡ r' = cc in subst (SubtypesDirectly g s) is under_any)
      least {g} {r = r} (through_bound {position = p} {bound = b} there rest) k = (
        λ l' e nr o. let is : TypeVariable (Free p) ≡ l' = cc in subst (λ z. SubtypesDirectly g z r) is (through_bound there rest),
        λ r' e nl o. through_bound there ((least rest k).1 r' e (k.bounds p b there) o),
      )
      least {g} (functions {takes = t} {takes' = t'} {gives = u} {gives' = u'} {c = c} {c' = c'} {e = e} {e' = e'} sets takes results body) k = (
        λ l' eq nr o.
            let parts = both_some (avoided Negative n d t) (avoided Positive n d u) (λ a b. FunctionShape a (avoided_set Negative n d c) b (avoided_set Positive n d e)) l' eq in
            let fr = function_free t' c' u' e' nr in
            let m = length g in
            let apart = clean_apart k in
            let under = clean_under (TermEntry t' c') fr.1 k in
            subst (λ z. SubtypesDirectly g z (FunctionShape t' c' u' e')) (sym parts.4)
            (functions (set_down k c' c fr.1 sets) ((least takes k).1 parts.0 parts.2 fr.0 o.0)
            (subst (λ z. SubcapturesSet (TermEntry t' c' ∷ g) z (opened_set m e')) (avoided_set-opened m n apart d closed Positive 0 e)
            (grown_set (clean_follows under) (opened_set m e) (opened_set m e') (free_set_opened m apart e' fr.3) results))
            ((least body under).0 (opened m parts.1) (avoided-opened m n apart d closed Positive 0 u parts.1 parts.3) (free_opened m apart u' fr.2) (side_opened Positive m apart 0 u o.1))),
        λ r' eq nl o.
            let parts = both_some (avoided Positive n d t') (avoided Negative n d u') (λ a b. FunctionShape a (avoided_set Positive n d c') b (avoided_set Negative n d e')) r' eq in
            let fl = function_free t c u e nl in
            let gives = gives_down k t' parts.0 c' u u' parts.1 e e' o.2 fl.3 fl.2 parts.3 o.1 results body (λ under. (least body under).1) in
            subst (SubtypesDirectly g (FunctionShape t c u e)) (sym parts.4)
            (functions (grown_set (clean_follows k) c' c fl.1 sets) ((least takes k).0 parts.0 parts.2 fl.0 o.0) gives.0 gives.1),
      )
      least {g} (type_functions {bound = b} {gives = u} {gives' = u'} {e = e} {e' = e'} results body) k = (
        λ l' eq nr o.
            let free = unless_some (is_free_in n b) (option_map (λ z. TypeFunctionShape b z (avoided_set Positive n d e)) (avoided Positive n d u)) l' eq in
            let parts = map_some (avoided Positive n d u) (λ z. TypeFunctionShape b z (avoided_set Positive n d e)) l' free.1 in
            let fr = type_function_free b u' e' nr in
            let m = length g in
            let apart = clean_apart k in
            let under = clean_under (TypeEntry b) free.0 k in
            subst (λ z. SubtypesDirectly g z (TypeFunctionShape b u' e')) (sym parts.2)
            (type_functions
            (subst (λ z. SubcapturesSet (TypeEntry b ∷ g) z (opened_set m e')) (avoided_set-opened m n apart d closed Positive 0 e)
            (grown_set (clean_follows under) (opened_set m e) (opened_set m e') (free_set_opened m apart e' fr.2) results))
            ((least body under).0 (opened m parts.0) (avoided-opened m n apart d closed Positive 0 u parts.0 parts.1) (free_opened m apart u' fr.1) (side_opened Positive m apart 0 u o))),
        λ r' eq nl o.
            let free = unless_some (is_free_in n b) (option_map (λ z. TypeFunctionShape b z (avoided_set Negative n d e')) (avoided Negative n d u')) r' eq in
            let parts = map_some (avoided Negative n d u') (λ z. TypeFunctionShape b z (avoided_set Negative n d e')) r' free.1 in
            let fl = type_function_free b u e nl in
            let m = length g in
            let apart = clean_apart k in
            let under = clean_under (TypeEntry b) free.0 k in
            subst (SubtypesDirectly g (TypeFunctionShape b u e)) (sym parts.2)
            (type_functions
            (subst (λ z. SubcapturesSet (TypeEntry b ∷ g) (opened_set m e) z) (avoided_set-opened m n apart d closed Negative 0 e')
            (set_down under (opened_set m e) (opened_set m e') (free_set_opened m apart e fl.2) results))
            ((least body under).1 (opened m parts.0) (avoided-opened m n apart d closed Negative 0 u' parts.0 parts.1) (free_opened m apart u fl.1) (side_opened Negative m apart 0 u' o))),
      )
      least {g} (boxes {content = t} {content' = t'} {c = c} {c' = c'} sets body) k = (
        λ l' eq nr o.
            let parts = map_some (avoided Positive n d t) (λ z. BoxShape z (avoided_set Positive n d c)) l' eq in
            let fr = or_false (is_free_in n t') (has_position n c') nr in
            subst (λ z. SubtypesDirectly g z (BoxShape t' c')) (sym parts.2) (boxes (grown_set (clean_follows k) c c' fr.1 sets) ((least body k).0 parts.0 parts.1 fr.0 o)),
        λ r' eq nl o.
            let parts = map_some (avoided Negative n d t') (λ z. BoxShape z (avoided_set Negative n d c')) r' eq in
            let fl = or_false (is_free_in n t) (has_position n c) nl in
            subst (SubtypesDirectly g (BoxShape t c)) (sym parts.2) (boxes (set_down k c c' fl.1 sets) ((least body k).1 parts.0 parts.1 fl.0 o)),
      )

-- the context with the newest variable
module _ (g : Context) (s : Shape) (d : Set) (k : IsKindedContext (TermEntry s d ∷ g)) where
  free_shape : (x : Shape) → IsKinded (kinds_of g) [] x → is_free_in (length g) x ≡ false
  free_shape x h = free_from (length g) 0 x (fresh_in g [] x h)

  free_of : (c : Set) → IsKindedSet (kinds_of g) [] c → has_position (length g) c ≡ false
  free_of c h = free_set (length g) 0 c (fresh_in_set g [] c h)

  gone_here : has_position (length g) d ≡ false
  gone_here = free_of d k.0.1

  closed_here : MeetsInSet (bound_within 0) 0 d
  closed_here = closed_in_set g d k.0.1

  clean_here : Clean (length g) d gone_here (TermEntry s d ∷ g)
  clean_here =
      record {
        own = s;
        there = lookup-newest (TermEntry s d) g;
        sets = λ p x c other there.
            elim (lookup-cases (TermEntry s d) g p (TermEntry x c) there) as (λ _. has_position (length g) c ≡ false) [
              | inl here ↦ absurd (other here.0)
              | inr old ↦ free_of c (entry_kinded g p (TermEntry x c) k.1 old).1
            ];
        bounds = λ p b there.
            elim (lookup-cases (TermEntry s d) g p (TypeEntry b) there) as (λ _. is_free_in (length g) b ≡ false) [
              | inl here ↦ let clash : TermEntry s d ≡ TypeEntry b = here.1 in cc
              | inr old ↦ free_shape b (entry_kinded g p (TypeEntry b) k.1 old)
            ];
      }

  -- in its place there may be a type variable
  follows_here : Follows (length g) d gone_here (TermEntry s d ∷ g) (TypeEntry AnyShape ∷ g)
  follows_here =
      record {
        same_length = refl;
        inside = omega arith;
        position = λ x c there.
            elim (lookup-cases (TermEntry s d) g (length g) (TermEntry x c) there) as (λ _. c ≡ d) [
              | inl here ↦ sym (term_same s x d c here.1)
              | inr old ↦ let below = lookup-below g (length g) (TermEntry x c) old in absurd (omega arith)
            ];
        bounds = λ p b there.
            elim (lookup-cases (TermEntry s d) g p (TypeEntry b) there) as (λ _. (lookup (TypeEntry AnyShape ∷ g) p ≡ Some (TypeEntry b)) × (is_free_in (length g) b ≡ false)) [
              | inl here ↦ let clash : TermEntry s d ≡ TypeEntry b = here.1 in cc
              | inr old ↦ (lookup-older (TypeEntry AnyShape) g p (TypeEntry b) old, free_shape b (entry_kinded g p (TypeEntry b) k.1 old))
            ];
        declared = λ p x c other there.
            elim (lookup-cases (TermEntry s d) g p (TermEntry x c) there) as (λ _. (s' : Shape) × (c' : Set) × (lookup (TypeEntry AnyShape ∷ g) p ≡ Some (TermEntry s' c')) × (has_position (length g) c' ≡ false)
            × ((y : Elem) → Member y c' → Member y c ⊎ (Member (Variable (Free (length g))) c × Member y d))) [
              | inl here ↦ absurd (other here.0)
              | inr old ↦ (x, c, lookup-older (TypeEntry AnyShape) g p (TermEntry x c) old, free_of c (entry_kinded g p (TermEntry x c) k.1 old).1, λ y m. inl m)
            ];
      }

  abbrev any_there : ℕ → Shape
  any_there = overridden itself (length g) AnyShape

  stays : (x : Shape) → IsKinded (kinds_of g) [] x → mapped (λ p. p) any_there x ≡ x
  stays x h = stays_mapped (TypeEntry AnyShape) g (λ p. p) any_there (λ p _. refl) (overridden-below itself (length g) AnyShape) k.1 [] x h

  -- what does not name it compares without it
  without_it : (a b : Shape) → IsKinded (kinds_of g) [] a → IsKinded (kinds_of g) [] b → SubtypesDirectly (TermEntry s d ∷ g) a b → Subtypes g a b
  without_it a b ka kb below =
      let k' : IsKindedContext (TypeEntry AnyShape ∷ g) = (tt, k.1) in
      let there = follow (length g) d gone_here below follows_here (free_shape a ka) (free_shape b kb) in
      let map = shape_map g AnyShape AnyShape (IsKindedContext-test (TypeEntry AnyShape ∷ g) k') refl reflexive in
      subst (λ x. Subtypes g x b) (stays a ka)
      (subst (λ x. Subtypes g (mapped (λ p. p) any_there a) x) (stays b kb)
      (mapped_subtypes (TypeEntry AnyShape ∷ g) g (λ p. p) any_there map k' a b (IsKinded-added TypeKind (kinds_of g) [] a ka) (IsKinded-added TypeKind (kinds_of g) [] b kb) (direct_to there)))

pub least_supertype : (g : Context) (s : Shape) (d : Set) (type result other : CapturingType) → IsWellFormedContext (TermEntry s d ∷ g) → IsWellFormedType (TermEntry s d ∷ g) type → IsWellFormedType g other
    → NamesOnOneSide Positive (length g) type.shape → avoided_type Positive (length g) d type ≡ Some result → SubtypesType (TermEntry s d ∷ g) type other → SubtypesType g result other
least_supertype g s d type result other formed ft fo side e below =
    let n = length g in
    let k : IsKindedContext (TermEntry s d ∷ g) = IsKindedContext-from (TermEntry s d ∷ g) formed in
    let gone = gone_here g s d k in
    let parts = avoided_type_parts Positive n d type result e in
    let ko = IsKindedType-from (kinds_of g) [] other fo in
    let fr = scope_left g Positive s d type result (IsKindedSet-test (kinds_of g) [] d k.0.1) ft e in
    let kr = IsKindedType-from (kinds_of g) [] result fr in
    let sets : SubcapturesSet (TermEntry s d ∷ g) result.set other.set =
    subst (λ z. SubcapturesSet (TermEntry s d ∷ g) z other.set) parts.1 (grown_set n d gone (clean_follows n d gone (clean_here g s d k)) type.set other.set (free_of g s d k other.set ko.1) below.0) in
    let shapes = (least n d gone (closed_here g s d k) (direct_from below.1) (clean_here g s d k)).0 result.shape parts.0 (free_shape g s d k other.shape ko.0) side in (
      subcaptures_shorter g (TermEntry s d ∷ []) result.set other.set (IsKindedContext-test g k.1) (IsKindedSet-test (kinds_of g) [] result.set kr.1) sets,
      without_it g s d k result.shape other.shape kr.0 ko.0 shapes,
    )

pub greatest_subtype : (g : Context) (s : Shape) (d : Set) (type result other : CapturingType) → IsWellFormedContext (TermEntry s d ∷ g) → IsWellFormedType (TermEntry s d ∷ g) type → IsWellFormedType g other
    → NamesOnOneSide Negative (length g) type.shape → avoided_type Negative (length g) d type ≡ Some result → SubtypesType (TermEntry s d ∷ g) other type → SubtypesType g other result
greatest_subtype g s d type result other formed ft fo side e below =
    let n = length g in
    let k : IsKindedContext (TermEntry s d ∷ g) = IsKindedContext-from (TermEntry s d ∷ g) formed in
    let gone = gone_here g s d k in
    let parts = avoided_type_parts Negative n d type result e in
    let ko = IsKindedType-from (kinds_of g) [] other fo in
    let fr = scope_left g Negative s d type result (IsKindedSet-test (kinds_of g) [] d k.0.1) ft e in
    let kr = IsKindedType-from (kinds_of g) [] result fr in
    let sets : SubcapturesSet (TermEntry s d ∷ g) other.set result.set =
    subst (SubcapturesSet (TermEntry s d ∷ g) other.set) parts.1 (set_down n d gone (clean_here g s d k) other.set type.set (free_of g s d k other.set ko.1) below.0) in
    let shapes = (least n d gone (closed_here g s d k) (direct_from below.1) (clean_here g s d k)).1 result.shape parts.0 (free_shape g s d k other.shape ko.0) side in (
      subcaptures_shorter g (TermEntry s d ∷ []) other.set result.set (IsKindedContext-test g k.1) (IsKindedSet-test (kinds_of g) [] other.set ko.1) sets,
      without_it g s d k other.shape result.shape ko.0 kr.0 shapes,
    )
