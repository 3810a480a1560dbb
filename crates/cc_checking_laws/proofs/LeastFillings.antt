-- The least filling is below each that serves, and serves where one does.
use Rattle.std.proofs.Common.{◌≡◌, ◌↔◌, ◌⊎◌, ℕ, ◌<◌, List, [], ◌∷◌, ◌++◌, length, Option, Some, None, refl, sym, ap, ◌∙◌, subst, inl, inr, arith}
use Rattle.std.specs.Option.{option_map}
use Rattle.std.proofs.lemmas.Bool.{cases_lt, cases_eq}
use Rattle.cc_capture.specs.declared.var.Var.TheVariants.{Bound, Free}
use Rattle.cc_capture.specs.declared.var.Elem.{Elem}
use Rattle.cc_capture.specs.declared.var.Elem.TheVariants.{Var as Variable, Cap, Hole}
use Rattle.cc_capture.specs.Sets.{Set, Member}
use Rattle.cc_capture.proofs.Membership.{same_members, Member-flat_image}
use Rattle.cc_core.specs.Shapes.{Shape}
use Rattle.cc_core.specs.Contexts.{Bind, TermEntry, TypeEntry, Context, lookup}
use Rattle.cc_core.specs.Traversal.{keeping}
use Rattle.cc_core.specs.Substitution.{single, filled_element, filling_in, filled, filled_set}
use Rattle.cc_core.specs.Occurrences.{HasNoHoleInSet, without_holes, agreement, IsNoHole}
use Rattle.cc_core.specs.WellFormed.{TermKind, kinds_of, kind_of}
use Rattle.cc_core.specs.Subcapturing.{Subcaptures, SubcapturesSet, element, variable}
use Rattle.cc_core.proofs.Conditions.{GivesHere}
use Rattle.cc_core.proofs.KindFacts.{IsKindedElement, IsKindedSet-from, IsKindedSet-test}
use Rattle.cc_core.proofs.KindRespecting.{single_kinded}
use Rattle.cc_core.proofs.Lookups.{lookup-map, lookup-newest, lookup-older, lookup-cases, length_map}
use Rattle.cc_core.proofs.Moving.{flat_image-of_single, Member-single, Member-single_itself}
use Rattle.cc_core.proofs.Sorts.{Sort, SetSort, ShapeSort, Syntax, MeetsIn, MeetsIn-here, acted, acted-congruent, acted-keeping}
use Rattle.cc_core.proofs.SubcapturingContexts.{IsKindedEntry, IsKindedContext, IsKindedContext-from, entry_of_term}
use Rattle.cc_core.proofs.SubcapturingLemmas.{subcaptures_reflexive, subcaptures_above, subcaptures_shorter, subcaptures_longer, subcaptures_variable, cap_below}
use Rattle.cc_checking.specs.Comparison.{Demand}
use Rattle.cc_checking.specs.Outcomes.{Asked, IsBelow, IsCapless, Placed}
use Rattle.cc_checking.specs.Fillings.{Filling, filled_entry, filled_context, IsServed, AllServed, IsAskedIn, Comes, global, capability, local, forced, IsLeast, IsGlobal, IsOverGlobals}
use Rattle.cc_checking_laws.specs.FillingLaws.{AreGlobals, AreFit}
use Rattle.cc_core.specs.Holes.{HasHoleAloneOrNone}

-- what has no hole stays as it is
no_holes_give : (f : Filling) → GivesHere without_holes (agreement (filling_in f) keeping)
no_holes_give f = record { element = stays; shape = λ d v m. refl; variable = λ d v m. refl }
  where
    stays : (d : ℕ) (e : Elem) → IsNoHole e → filled_element f e ≡ single e
    stays d (Variable v) m = refl
    stays d Cap m = refl
    stays d (Hole n) m = absurd m

pub filled-still : (sort : Sort) (f : Filling) (d : ℕ) (x : Syntax sort) → MeetsIn sort without_holes d x → acted sort (filling_in f) d x ≡ x
filled-still sort f d x m =
    acted-congruent sort (filling_in f) keeping d x (MeetsIn-here sort without_holes (agreement (filling_in f) keeping) (no_holes_give f) d x m)
    ∙ acted-keeping sort d x

pub globals_still : (f : Filling) (g : Context) → AreGlobals g → filled_context f g ≡ g
globals_still f [] a = refl
globals_still f (TermEntry s c ∷ g) a =
    ap (λ s'. TermEntry s' (filled_set f c) ∷ filled_context f g) (filled-still ShapeSort f 0 s a.0)
    ∙ ap (λ c'. TermEntry s c' ∷ filled_context f g) (filled-still SetSort f 0 c a.1)
    ∙ ap (λ g'. TermEntry s c ∷ g') (globals_still f g a.2)
globals_still f (TypeEntry b ∷ g) a = absurd a

pub filled_context-append : (f : Filling) (later g : Context) → filled_context f (later ++ g) ≡ filled_context f later ++ filled_context f g
filled_context-append f [] g = refl
filled_context-append f (b ∷ later) g = ap (λ x. filled_entry f b ∷ x) (filled_context-append f later g)

-- members of a filled set
pub Member-filled : (f : Filling) (x e : Elem) (c : Set) → Member x c → Member e (filled_element f x) → Member e (filled_set f c)
Member-filled f x e c h k = (Member-flat_image (filled_element f) e c).1 (x, h, k)

pub Member-from_filled : (f : Filling) (e : Elem) (c : Set) → Member e (filled_set f c) → (x : Elem) × Member x c × Member e (filled_element f x)
Member-from_filled f e c h = (Member-flat_image (filled_element f) e c).0 h

pub lookup-filled : (f : Filling) (g : Context) (p : ℕ) (s : Shape) (d : Set) → lookup g p ≡ Some (TermEntry s d)
    → lookup (filled_context f g) p ≡ Some (TermEntry (filled f s) (filled_set f d))
lookup-filled f g p s d e = lookup-map (filled_entry f) g p ∙ ap (option_map (filled_entry f)) e

entry_from_filled : (f : Filling) (o : Option Bind) (s : Shape) (d : Set) → option_map (filled_entry f) o ≡ Some (TermEntry s d)
    → (s' : Shape) × (d' : Set) × (o ≡ Some (TermEntry s' d')) × (d ≡ filled_set f d')
entry_from_filled f (Some (TermEntry s' d')) s d e = (s', d', refl, cc)
entry_from_filled f (Some (TypeEntry b)) s d e = cc
entry_from_filled f None s d e = cc

pub lookup-from_filled : (f : Filling) (g : Context) (p : ℕ) (s : Shape) (d : Set) → lookup (filled_context f g) p ≡ Some (TermEntry s d)
    → (s' : Shape) × (d' : Set) × (lookup g p ≡ Some (TermEntry s' d')) × (d ≡ filled_set f d')
lookup-from_filled f g p s d e = entry_from_filled f (lookup g p) s d (sym (lookup-map (filled_entry f) g p) ∙ e)

-- what is forced is global
pub comes_global : {root : ℕ} {list : List Placed} {g : Context} {x e : Elem} → Comes root list g x e → IsGlobal root e
comes_global (global below) = below
comes_global capability = tt
comes_global (local from there m c) = comes_global c
comes_global (forced demand asked is m c) = comes_global c

pub least_over_globals : (root : ℕ) (list : List Placed) (least : Filling) → IsLeast root list least → IsOverGlobals root least
least_over_globals root list least is hole e m = comes_global ((is hole e).0 m)

pub least_alike : (root : ℕ) (list : List Placed) (first second : Filling) → IsLeast root list first → IsLeast root list second → (hole : ℕ) → first hole ≡ second hole
least_alike root list first second p q hole =
    same_members (first hole) (second hole) (λ e m. (q hole e).1 ((p hole e).0 m)) (λ e m. (p hole e).1 ((q hole e).0 m))

-- what a filling serves that is asked
served : (f : Filling) (list : List Placed) (asked : Asked) → IsAskedIn list asked → AllServed f list → IsServed f asked
served f list asked (before, placed, after, is, same) all =
    subst (IsServed f) same (inside before placed after (subst (AllServed f) is all))
  where
    inside : (before : List Placed) (placed : Placed) (after : List Placed) → AllServed f (before ++ placed ∷ after) → IsServed f placed.asked
    inside [] placed after all = all.0
    inside (p ∷ before) placed after all = inside before placed after all.1

pub serves_all : (f : Filling) (list : List Placed) → ((asked : Asked) → IsAskedIn list asked → IsServed f asked) → AllServed f list
serves_all f [] each = tt
serves_all f (p ∷ list) each =
    (each p.asked ([], p, list, refl, refl), serves_all f list (λ asked (before, placed, after, is, same). each asked (p ∷ before, placed, after, ap (λ l. p ∷ l) is, same)))

-- a hole's elements come to it in any context
comes_elsewhere : {root : ℕ} {list : List Placed} {g : Context} {h : ℕ} {e : Elem} (g' : Context) → Comes root list g (Hole h) e → Comes root list g' (Hole h) e
comes_elsewhere g' (forced demand asked is m c) = forced demand asked is m c

module _ (globals : Context) (list : List Placed) (fit : AreFit globals list) where
  abbrev root : ℕ
  root = length globals

  kinded : IsKindedContext globals
  kinded = IsKindedContext-from globals fit.formed

  global_kinded : (e : Elem) → IsGlobal root e → IsKindedElement (kinds_of globals) [] e
  global_kinded (Variable (Free p)) h = all_terms globals fit.globals_alone p h
    where
      all_terms : (g : Context) → AreGlobals g → (p : ℕ) → p < length g → lookup (kinds_of g) p ≡ Some TermKind
      all_terms [] a p h = absurd (omega arith)
      all_terms (TermEntry s c ∷ g) a p h =
          elim (cases_eq p (length g)) as (λ _. lookup (TermKind ∷ kinds_of g) p ≡ Some TermKind) [
            | inl same ↦ ap (lookup (TermKind ∷ kinds_of g)) (same ∙ sym (length_map kind_of g)) ∙ lookup-newest TermKind (kinds_of g)
            | inr other ↦ lookup-older TermKind (kinds_of g) p TermKind (all_terms g a.2 p (omega arith))
          ]
      all_terms (TypeEntry b ∷ g) a p h = absurd a
  global_kinded (Variable (Bound i)) h = absurd h
  global_kinded Cap h = tt
  global_kinded (Hole n) h = absurd h

  filled_later : (f : Filling) (later : Context) → filled_context f (later ++ globals) ≡ filled_context f later ++ globals
  filled_later f later = filled_context-append f later globals ∙ ap (λ x. filled_context f later ++ x) (globals_still f globals fit.globals_alone)

  module _ (f : Filling) (over : IsOverGlobals root f) (serves : AllServed f list) where
    -- what is below in a demand's context is below among the globals
    among_globals : (g later : Context) → g ≡ later ++ globals → (e : Elem) (c : Set) → IsGlobal root e → Subcaptures (filled_context f g) e c → Subcaptures globals e c
    among_globals g later is e c glob below =
        subcaptures_shorter globals (filled_context f later) (single e) c fit.formed
        (IsKindedSet-test (kinds_of globals) [] (single e) (single_kinded (kinds_of globals) [] e (global_kinded e glob)))
        (subst (λ h. SubcapturesSet h (single e) c) (ap (filled_context f) is ∙ filled_later f later)
        (λ y m. subst (λ x. Subcaptures (filled_context f g) x c) (sym (Member-single y e m)) below))
        e (Member-single_itself e)

    -- where an element is filled with what is below a set of globals, so is all that comes from it
    comes_below : {g : Context} {x e : Elem} → Comes root list g x e → (later : Context) → g ≡ later ++ globals → (c : Set)
        → ((y : Elem) → Member y c → IsGlobal root y) → SubcapturesSet (filled_context f g) (filled_element f x) c → Subcaptures globals e c
    comes_below {g} (global {position = p} below) later is c glob h = among_globals g later is (Variable (Free p)) c below (h (Variable (Free p)) (Member-single_itself (Variable (Free p))))
    comes_below {g} capability later is c glob h = among_globals g later is Cap c tt (h Cap (Member-single_itself Cap))
    comes_below {g} (local {position = p} {shape = s} {declared = d} {from = x} from there m k) later is c glob h =
        comes_below k later is c glob (λ y l. through (subcaptures_variable (filled_context f g) p (filled f s) (filled_set f d) c (lookup-filled f g p s d there)) y (Member-filled f x y d m l))
      where
        through : Subcaptures (filled_context f g) (Variable (Free p)) c ↔ (Member (Variable (Free p)) c ⊎ SubcapturesSet (filled_context f g) (filled_set f d) c)
            → (y : Elem) → Member y (filled_set f d) → Subcaptures (filled_context f g) y c
        through iff y l =
            elim (iff.0 (h (Variable (Free p)) (Member-single_itself (Variable (Free p))))) as (λ _. Subcaptures (filled_context f g) y c) [
              | inl here ↦ let below : p < root = glob (Variable (Free p)) here in absurd (omega arith)
              | inr each ↦ each y l
            ]
    comes_below {g} (forced {hole = n} {from = x} {e = e} demand asked same m k) later is c glob h =
        let own = fit.each (IsBelow demand) asked in
        let serve = served f list (IsBelow demand) asked serves in
        let filled_right : filled_set f demand.right ≡ f n = ap (filled_set f) same ∙ flat_image-of_single (filled_element f) (Hole n) in
        let inside = comes_below k own.0.0 own.0.1 (f n) (over n)
        (λ y l. subst (Subcaptures (filled_context f demand.context) y) filled_right (serve y (Member-filled f x y demand.left m l))) in
        subcaptures_above inside c (λ y l. among_globals g later is y c (over n y l) (h y l))

  -- the least filling is below
  pub least_below : (least f : Filling) → IsLeast root list least → IsOverGlobals root f → AllServed f list → (hole : ℕ) → SubcapturesSet globals (least hole) (f hole)
  least_below least f is over serves hole e m =
      comes_below f over serves (comes_elsewhere globals ((is hole e).0 m)) [] refl (f hole) (over hole)
      (subcaptures_reflexive (filled_context f globals) (f hole))

  module _ (least : Filling) (is : IsLeast root list least) where
    -- an element all of whose elements are members is below
    by_element : (g : Context) (x : Elem) (c : Set) → ((i : ℕ) → x ≡ Variable (Bound i) → ⊥) → ((e : Elem) → Comes root list g x e → Member e c)
        → ((q : ℕ) → x ≡ Variable (Free q) → Subcaptures (filled_context least g) (Variable (Free q)) c)
        → SubcapturesSet (filled_context least g) (filled_element least x) c
    by_element g (Variable (Free q)) c closed gives below y m = subst (λ e. Subcaptures (filled_context least g) e c) (sym (Member-single y (Variable (Free q)) m)) (below q refl)
    by_element g (Variable (Bound i)) c closed gives below y m = absurd (closed i refl)
    by_element g Cap c closed gives below y m = subst (λ e. Subcaptures (filled_context least g) e c) (sym (Member-single y Cap m)) (element (gives Cap capability))
    by_element g (Hole n) c closed gives below y m = element (gives y (comes_elsewhere g ((is n y).0 m)))

    no_index : (g : Context) (x : Elem) → IsKindedElement (kinds_of g) [] x → (i : ℕ) → x ≡ Variable (Bound i) → ⊥
    no_index g (Variable (Free q)) k i e = cc
    no_index g (Variable (Bound j)) k i e = cc
    no_index g Cap k i e = cc
    no_index g (Hole n) k i e = cc

    kind_there : (g : Context) (x : Elem) → IsKindedElement (kinds_of g) [] x → (q : ℕ) → x ≡ Variable (Free q) → lookup (kinds_of g) q ≡ Some TermKind
    kind_there g x k q e = subst (IsKindedElement (kinds_of g) []) e k

    variable_served : (older g : Context) → ((p : ℕ) (b : Bind) → lookup older p ≡ Some b → lookup g p ≡ Some b) → IsKindedContext older
        → (p : ℕ) (s : Shape) (d : Set) → lookup older p ≡ Some (TermEntry s d) → (c : Set)
        → ((e : Elem) → Comes root list g (Variable (Free p)) e → Member e c) → Subcaptures (filled_context least g) (Variable (Free p)) c
    variable_served [] g more formed p s d there c gives = cc
    variable_served (b ∷ older) g more formed p s d there c gives =
        elim (lookup-cases b older p (TermEntry s d) there) as (λ _. Subcaptures (filled_context least g) (Variable (Free p)) c) [
          | inl newest ↦
              elim (cases_lt p root) as (λ _. Subcaptures (filled_context least g) (Variable (Free p)) c) [
                | inl below ↦ element (gives (Variable (Free p)) (global below))
                | inr from ↦
                    let own : IsKindedEntry (kinds_of older) (TermEntry s d) = subst (IsKindedEntry (kinds_of older)) newest.1 formed.0 in
                    variable (lookup-filled least g p s d (more p (TermEntry s d) there))
                    (λ y m.
                    let m' = Member-from_filled least y d m in
                    by_element g m'.0 c (no_index older m'.0 (own.1 m'.0 m'.1))
                    (λ e k. gives e (local from (more p (TermEntry s d) there) m'.1 k))
                    (λ q e.
                    let entry = entry_of_term older q (kind_there older m'.0 (own.1 m'.0 m'.1) q e) in
                    variable_served older g (λ q' b' e'. more q' b' (lookup-older b older q' b' e')) formed.1 q entry.0 entry.1 entry.2 c
                    (λ e' k. gives e' (local from (more p (TermEntry s d) there) m'.1 (subst (λ x. Comes root list g x e') (sym e) k))))
                    y m'.2)
              ]
          | inr old ↦ variable_served older g (λ q' b' e'. more q' b' (lookup-older b older q' b' e')) formed.1 p s d old c gives
        ]

    -- a demand of a hole is served
    hole_served : (demand : Demand) → IsAskedIn list (IsBelow demand) → (hole : ℕ) → demand.right ≡ single (Hole hole) → IsServed least (IsBelow demand)
    hole_served demand asked hole same y m =
        let own = fit.each (IsBelow demand) asked in
        let filled_right : filled_set least demand.right ≡ least hole = ap (filled_set least) same ∙ flat_image-of_single (filled_element least) (Hole hole) in
        let m' = Member-from_filled least y demand.left m in
        let k = IsKindedSet-from (kinds_of demand.context) [] demand.left own.2 m'.0 m'.1 in
        subst (Subcaptures (filled_context least demand.context) y) (sym filled_right)
        (by_element demand.context m'.0 (least hole) (no_index demand.context m'.0 k)
        (λ e c. (is hole e).1 (forced demand asked same m'.1 c))
        (λ q e.
        let entry = entry_of_term demand.context q (kind_there demand.context m'.0 k q e) in
        variable_served demand.context demand.context (λ p b h. h) (IsKindedContext-from demand.context own.1) q entry.0 entry.1 entry.2 (least hole)
        (λ e' c. (is hole e').1 (forced demand asked same m'.1 (subst (λ x. Comes root list demand.context x e') (sym e) c))))
        y m'.2)

    module _ (f : Filling) (over : IsOverGlobals root f) (serves : AllServed f list) where
      -- what is filled with more goes below, so does what is filled with less
      kept_set : (g later : Context) → g ≡ later ++ globals → (d c : Set) → SubcapturesSet (filled_context least g) (filled_set f d) c
          → SubcapturesSet (filled_context least g) (filled_set least d) c
      kept_set g later same d c below y m = let m' = Member-from_filled least y d m in by_case m'.0 m'.1 m'.2
        where
          in_place : (x : Elem) → Member x d → Member y (filled_element f x) → Subcaptures (filled_context least g) y c
          in_place x l k = below y (Member-filled f x y d l k)

          by_case : (x : Elem) → Member x d → Member y (filled_element least x) → Subcaptures (filled_context least g) y c
          by_case (Variable v) l k = in_place (Variable v) l k
          by_case Cap l k = in_place Cap l k
          by_case (Hole n) l k =
              let least' : SubcapturesSet globals (least n) (f n) = least_below least f is over serves n in
              let longer : SubcapturesSet (filled_context least later ++ globals) (least n) (f n) = subcaptures_longer globals (filled_context least later) (least n) (f n) least' in
              let there : SubcapturesSet (filled_context least g) (least n) (f n) =
              subst (λ h. SubcapturesSet h (least n) (f n)) (sym (ap (filled_context least) same ∙ filled_later least later)) longer in
              subcaptures_above (there y k) c (λ z z'. below z (Member-filled f (Hole n) z d l z'))

      kept : {h : Context} {e : Elem} {c : Set} → Subcaptures h e c → (g later : Context) → g ≡ later ++ globals → h ≡ filled_context f g → Subcaptures (filled_context least g) e c
      kept (element m) g later same is' = element m
      kept {c = c} (variable {position = p} {shape = s} {declared = d} there each) g later same is' =
          let own = lookup-from_filled f g p s d (subst (λ h. lookup h p ≡ Some (TermEntry s d)) is' there) in
          variable (lookup-filled least g p own.0 own.1 own.2)
          (kept_set g later same own.1 c (λ y m. kept (each y (subst (Member y) (sym own.3) m)) g later same is'))

      -- so a demand whose right side has no hole stays served
      closed_served : (demand : Demand) → IsAskedIn list (IsBelow demand) → HasNoHoleInSet demand.right → IsServed least (IsBelow demand)
      closed_served demand asked none =
          let own = fit.each (IsBelow demand) asked in
          let still : (k : Filling) → filled_set k demand.right ≡ demand.right = λ k. filled-still SetSort k 0 demand.right none in
          let all = served f list (IsBelow demand) asked serves in
          subst (SubcapturesSet (filled_context least demand.context) (filled_set least demand.left)) (sym (still least))
          (kept_set demand.context own.0.0 own.0.1 demand.left demand.right
          (λ y m. kept (subst (Subcaptures (filled_context f demand.context) y) (still f) (all y m)) demand.context own.0.0 own.0.1 refl))

      -- and a set without the universal capability keeps none
      capless_served : (set : Set) → IsAskedIn list (IsCapless set) → IsServed least (IsCapless set)
      capless_served set asked m =
          let m' = Member-from_filled least Cap set m in
          served f list (IsCapless set) asked serves (in_more m'.0 m'.1 m'.2)
        where
          in_more : (x : Elem) → Member x set → Member Cap (filled_element least x) → Member Cap (filled_set f set)
          in_more (Variable v) l k = Member-filled f (Variable v) Cap set l k
          in_more Cap l k = Member-filled f Cap Cap set l k
          in_more (Hole n) l k = Member-filled f (Hole n) Cap set l (cap_below globals (least n) (f n) (least_below least f is over serves n) k)

      pub least_serves : AllServed least list
      least_serves = serves_all least list by_asked
        where
          by_right : (demand : Demand) → IsAskedIn list (IsBelow demand) → HasHoleAloneOrNone demand.right → IsServed least (IsBelow demand)
          by_right demand asked (inl none) = closed_served demand asked none
          by_right demand asked (inr alone) = hole_served demand asked alone.0 alone.1

          by_asked : (asked : Asked) → IsAskedIn list asked → IsServed least asked
          by_asked (IsBelow demand) asked = by_right demand asked (fit.each (IsBelow demand) asked).3
          by_asked (IsCapless set) asked = capless_served set asked
