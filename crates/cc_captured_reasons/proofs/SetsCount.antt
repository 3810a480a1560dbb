-- What is below a set, and what leads on, goes by the declared sets alone.
use Rattle.std.proofs.Common.{◌≡◌, ℕ, nat_lt, true, cond, List, [], ◌∷◌, Option, Some, None, refl, sym, ap, subst, ◌∙◌}
use Rattle.std.specs.Option.{option_map}
use Rattle.cc_capture.specs.declared.var.Var.TheVariants.{Bound, Free}
use Rattle.cc_capture.specs.declared.var.Elem.{Elem}
use Rattle.cc_capture.specs.declared.var.Elem.TheVariants.{Var as Variable, Cap, Hole}
use Rattle.cc_capture.specs.Sets.{Set}
use Rattle.cc_core.specs.Contexts.{Bind, TermEntry, TypeEntry, Context, lookup}
use Rattle.cc_core.specs.Shapes.{Shape}
use Rattle.cc_core.specs.Subcapturing.{Subcaptures, element, variable}
use Rattle.cc_core.specs.WellFormed.{kind_of, kinds_of, is_well_formed_set}
use Rattle.cc_core.proofs.KindFacts.{IsKindedSet}
use Rattle.cc_core.proofs.Lookups.{lookup-map}
use Rattle.cc_core.proofs.SubcapturingContexts.{IsKindedEntry, IsKindedContext, IsKindedContext-from}
use Rattle.cc_typing_laws.proofs.FormedContexts.{IsKindedContext-test}
use Rattle.cc_reasons.specs.ReasonTexts.{AreBeyond, none, is_below, is_beyond, declared_members, members_behind}
use Rattle.cc_captured_reasons.specs.SetsAlone.{set_alone, sets_alone, SetsAloneCount, SetsAloneAreScenes, CapturedIsToldBySets}
use Rattle.cc_captured_reasons.proofs.ToldChains.{captured_is_told}

-- an entry with the same declared set stands there
there_too : (g : Context) (p : ℕ) (s : Shape) (d : Set) → lookup (sets_alone g) p ≡ Some (TermEntry s d) → (s' : Shape) × (lookup g p ≡ Some (TermEntry s' d))
there_too g p s d there = by (lookup g p) refl (sym (lookup-map set_alone g p) ∙ there)
  where
    by : (o : Option Bind) → lookup g p ≡ o → option_map set_alone o ≡ Some (TermEntry s d) → (s' : Shape) × (lookup g p ≡ Some (TermEntry s' d))
    by (Some (TermEntry s' c)) is same =
        let one : c ≡ d = cc in
        (s', is ∙ ap (λ x. Some (TermEntry s' x)) one)
    by (Some (TypeEntry b)) is same = cc
    by None is same = cc

to_alone : (g : Context) {e : Elem} {right : Set} → Subcaptures g e right → Subcaptures (sets_alone g) e right
to_alone g (element m) = element m
to_alone g (variable {position = p} there each) =
    variable (lookup-map set_alone g p ∙ ap (option_map set_alone) there) (λ e m. to_alone g (each e m))

from_alone : (g : Context) {e : Elem} {right : Set} → Subcaptures (sets_alone g) e right → Subcaptures g e right
from_alone g (element m) = element m
from_alone g (variable {position = p} {shape = s} {declared = d} there each) =
    variable (there_too g p s d there).1 (λ e m. from_alone g (each e m))

beyond_along : (g h : Context) (right : Set) → ((e : Elem) → Subcaptures g e right → Subcaptures h e right)
    → ((e : Elem) → Subcaptures h e right → Subcaptures g e right) → {list told : List Elem} → AreBeyond g right list told → AreBeyond h right list told
beyond_along g h right there back none = none
beyond_along g h right there back (is_below {e = e} below are) = is_below (there e below) (beyond_along g h right there back are)
beyond_along g h right there back (is_beyond {e = e} not are) = is_beyond (λ below. not (back e below)) (beyond_along g h right there back are)

same_members : (devices : ℕ) (g : Context) (e : Elem) → members_behind devices (sets_alone g) e ≡ members_behind devices g e
same_members devices g (Variable (Free p)) = ap (λ list. cond (nat_lt p devices) [] list) (ap declared_members (lookup-map set_alone g p) ∙ by (lookup g p))
  where
    by : (o : Option Bind) → declared_members (option_map set_alone o) ≡ declared_members o
    by (Some (TermEntry s d)) = refl
    by (Some (TypeEntry b)) = refl
    by None = refl
same_members devices g (Variable (Bound i)) = refl
same_members devices g Cap = refl
same_members devices g (Hole n) = refl

pub sets_alone_count : SetsAloneCount
sets_alone_count devices g right = (
  λ e. (from_alone g, to_alone g),
  λ list told. (
    beyond_along (sets_alone g) g right (λ e below. from_alone g below) (λ e below. to_alone g below),
    beyond_along g (sets_alone g) right (λ e below. to_alone g below) (λ e below. from_alone g below),
  ),
  λ entry. (
    λ leads e.
        subst (λ list. AreBeyond g right list (entry e)) (same_members devices g e)
        (beyond_along (sets_alone g) g right (λ x below. from_alone g below) (λ x below. to_alone g below) (leads e)),
    λ leads e.
        subst (λ list. AreBeyond (sets_alone g) right list (entry e)) (sym (same_members devices g e))
        (beyond_along g (sets_alone g) right (λ x below. to_alone g below) (λ x below. from_alone g below) (leads e)),
  ),
)

same_kinds : (g : Context) → kinds_of (sets_alone g) ≡ kinds_of g
same_kinds [] = refl
same_kinds (b ∷ g) = (λ i. by b i ∷ same_kinds g i)
  where
    by : (b : Bind) → kind_of (set_alone b) ≡ kind_of b
    by (TermEntry s d) = refl
    by (TypeEntry bound) = refl

kinded_alone : (g : Context) → IsKindedContext g → IsKindedContext (sets_alone g)
kinded_alone [] formed = tt
kinded_alone (b ∷ g) formed = (by b formed.0, kinded_alone g formed.1)
  where
    by : (b : Bind) → IsKindedEntry (kinds_of g) b → IsKindedEntry (kinds_of (sets_alone g)) (set_alone b)
    by (TermEntry s d) kinded = (tt, subst (λ kinds. IsKindedSet kinds [] d) (sym (same_kinds g)) kinded.1)
    by (TypeEntry bound) kinded = tt

pub sets_alone_are_scenes : SetsAloneAreScenes
sets_alone_are_scenes g left scene =
    record {
      formed = IsKindedContext-test (sets_alone g) (kinded_alone g (IsKindedContext-from g scene.formed));
      closed = λ p s d there. let it = there_too g p s d there in scene.closed p it.0 d it.1;
      left_formed = subst (λ kinds. is_well_formed_set kinds [] left ≡ true) (sym (same_kinds g)) scene.left_formed;
      left_closed = scene.left_closed;
    }

pub captured_is_told_by_sets : CapturedIsToldBySets
captured_is_told_by_sets devices names scene left right captured chains formed beyond chained =
    let same = sets_alone_count devices scene.context right in
    captured_is_told devices names scene left right captured chains formed ((same.1 left.list captured).0 beyond) (λ entry leads. chained entry ((same.2 entry).1 leads))
