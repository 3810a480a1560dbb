-- Whether a filling over the globals serves what is fit can be decided, and so the first that it does not serve is
-- found.
use Rattle.std.proofs.Common.{◌≡◌, ◌⊎◌, ℕ, ◌<◌, List, [], ◌∷◌, ◌++◌, length, Some, refl, sym, ap, subst, inl, inr}
use Rattle.cc_base.specs.declared.code.Code.{Code}
use Rattle.cc_base.specs.declared.place.Place.{Place}
use Rattle.cc_capture.specs.declared.var.Var.TheVariants.{Bound, Free}
use Rattle.cc_capture.specs.declared.var.Elem.{Elem}
use Rattle.cc_capture.specs.declared.var.Elem.TheVariants.{Var as Variable, Cap, Hole}
use Rattle.cc_capture.specs.Sets.{Set, Member}
use Rattle.cc_core.specs.Shapes.{Shape}
use Rattle.cc_core.specs.Contexts.{Bind, TermEntry, TypeEntry, Context, lookup}
use Rattle.cc_core.specs.Substitution.{filling_in, filled_set}
use Rattle.cc_core.specs.Subcapturing.{Subcaptures, SubcapturesSet, element, variable}
use Rattle.cc_core.specs.WellFormed.{TermKind, kind_of, kinds_of}
use Rattle.cc_core.proofs.KindFacts.{IsKindedElement, IsKindedSet, IsKindedSet-from}
use Rattle.cc_core.proofs.KindRespecting.{KeepsKinds-filling_in}
use Rattle.cc_core.proofs.Lookups.{lookup-older, lookup-cases}
use Rattle.cc_core.proofs.Sorts.{Sort, SetSort, ShapeSort, Syntax, acted, HasKinds, HasKinds-act}
use Rattle.cc_core.proofs.SubcapturingContexts.{IsKindedEntry, IsKindedContext, IsKindedContext-from, entry_of_term}
use Rattle.cc_core.proofs.SubcapturingLemmas.{subcaptures_variable, subcaptures_other}
use Rattle.cc_checking.specs.Outcomes.{Asked, IsBelow, IsCapless, Placed}
use Rattle.cc_checking.specs.Fillings.{Filling, filled_entry, filled_context, IsServed, AllServed, IsAskedIn, IsGlobal, IsOverGlobals, FailsFirst, code_of_failure}
use Rattle.cc_checking_laws.specs.FillingLaws.{AreGlobals, IsFit}
use Rattle.cc_checking_laws.proofs.LeastFillings.{globals_still}
use Rattle.cc_checking_laws.proofs.FilledSyntax.{kinds-filled}
use Rattle.cc_checking_laws.proofs.CheckedDefinitions.{all_terms}
use Rattle.cc_checking_laws.proofs.Decisions.{Decided, member_decided, each_member}

-- an element that is no declared variable is below a set only as a member
other_decided : (g : Context) (e : Elem) (c : Set) → ((p : ℕ) → e ≡ Variable (Free p) → ⊥) → Decided (Subcaptures g e c)
other_decided g e c none =
    elim (member_decided e c) as (λ _. Decided (Subcaptures g e c)) [
      | inl m ↦ inl (element m)
      | inr not_so ↦ inr (λ below. not_so (subcaptures_other g e c (λ p s d same there. none p same) below))
    ]

by_element : (g : Context) (e : Elem) (c : Set)
    → ((q : ℕ) → e ≡ Variable (Free q) → Decided (Subcaptures g (Variable (Free q)) c)) → Decided (Subcaptures g e c)
by_element g (Variable (Free q)) c free = free q refl
by_element g (Variable (Bound i)) c free = other_decided g (Variable (Bound i)) c (λ p same. cc)
by_element g Cap c free = other_decided g Cap c (λ p same. cc)
by_element g (Hole n) c free = other_decided g (Hole n) c (λ p same. cc)

kind_there : (g : Context) (x : Elem) → IsKindedElement (kinds_of g) [] x → (q : ℕ) → x ≡ Variable (Free q)
    → lookup (kinds_of g) q ≡ Some TermKind
kind_there g x k q e = subst (IsKindedElement (kinds_of g) []) e k

declared_decided : (g : Context) (p : ℕ) (s : Shape) (d c : Set) → lookup g p ≡ Some (TermEntry s d)
    → Decided (Member (Variable (Free p)) c)
    → Decided (SubcapturesSet g d c) → Decided (Subcaptures g (Variable (Free p)) c)
declared_decided g p s d c there (inl m) each = inl (element m)
declared_decided g p s d c there (inr not_so) (inl each) = inl (variable there each)
declared_decided g p s d c there (inr not_so) (inr none) =
    inr (λ below. elim ((subcaptures_variable g p s d c there).0 below) as (λ _. ⊥) [ inl m ↦ not_so m | inr each ↦ none each ])

variable_decided : (older g : Context) → ((p : ℕ) (b : Bind) → lookup older p ≡ Some b → lookup g p ≡ Some b)
    → IsKindedContext older
    → (p : ℕ) (s : Shape) (d : Set) → lookup older p ≡ Some (TermEntry s d) → (c : Set)
    → Decided (Subcaptures g (Variable (Free p)) c)
variable_decided [] g more formed p s d there c = cc
variable_decided (b ∷ older) g more formed p s d there c =
    elim (lookup-cases b older p (TermEntry s d) there) as (λ _. Decided (Subcaptures g (Variable (Free p)) c)) [
      | inl newest ↦
          let own : IsKindedEntry (kinds_of older) (TermEntry s d) = subst (IsKindedEntry (kinds_of older)) newest.1 formed.0 in
          declared_decided g p s d c (more p (TermEntry s d) there) (member_decided (Variable (Free p)) c)
          (each_member d (λ x. Subcaptures g x c)
          (λ x m.
          by_element g x c
          (λ q e.
          let entry = entry_of_term older q (kind_there older x (own.1 x m) q e) in
          variable_decided older g (λ q' b' e'. more q' b' (lookup-older b older q' b' e')) formed.1 q entry.0 entry.1 entry.2 c)))
      | inr old ↦ variable_decided older g (λ q' b' e'. more q' b' (lookup-older b older q' b' e')) formed.1 p s d old c
    ]

-- subcapturing of well-formed sets is decided
pub subcapturing_decided : (g : Context) → IsKindedContext g → (l r : Set) → IsKindedSet (kinds_of g) [] l
    → Decided (SubcapturesSet g l r)
subcapturing_decided g formed l r k =
    each_member l (λ x. Subcaptures g x r)
    (λ x m. by_element g x r (λ q e. let entry = entry_of_term g q (kind_there g x (k x m) q e) in variable_decided g g (λ p b h. h) formed q entry.0 entry.1 entry.2 r))

module _ (globals : Context) (alone : AreGlobals globals) (f : Filling) (over : IsOverGlobals (length globals) f) where
  global_there : (later : Context) (p : ℕ) → p < length globals → lookup (kinds_of (later ++ globals)) p ≡ Some TermKind
  global_there [] p below = all_terms globals alone p below
  global_there (b ∷ later) p below = lookup-older (kind_of b) (kinds_of (later ++ globals)) p TermKind (global_there later p below)

  hole_kinded : (later : Context) (h : ℕ) → IsKindedSet (kinds_of (later ++ globals)) [] (f h)
  hole_kinded later h e m = of_global e (over h e m)
    where
      of_global : (e : Elem) → IsGlobal (length globals) e → IsKindedElement (kinds_of (later ++ globals)) [] e
      of_global (Variable (Free p)) k = global_there later p k
      of_global (Variable (Bound j)) k = absurd k
      of_global Cap k = tt
      of_global (Hole j) k = tt

  -- what is well formed is so when it is filled
  pub fill_kept : (later : Context) (sort : Sort) (x : Syntax sort) → HasKinds sort (kinds_of (later ++ globals)) [] x
      → HasKinds sort (kinds_of (filled_context f (later ++ globals))) [] (acted sort (filling_in f) 0 x)
  fill_kept later sort x k =
      subst (λ ks. HasKinds sort ks [] (acted sort (filling_in f) 0 x)) (sym (kinds-filled f (later ++ globals)))
      (HasKinds-act sort (filling_in f) (kinds_of (later ++ globals)) [] (kinds_of (later ++ globals)) []
      (KeepsKinds-filling_in f (kinds_of (later ++ globals)) [] (hole_kinded later)) [] x k)

  filled_entry_kinded : (later : Context) (b : Bind) → IsKindedEntry (kinds_of (later ++ globals)) b
      → IsKindedEntry (kinds_of (filled_context f (later ++ globals))) (filled_entry f b)
  filled_entry_kinded later (TermEntry s c) k = (fill_kept later ShapeSort s k.0, fill_kept later SetSort c k.1)
  filled_entry_kinded later (TypeEntry s) k = fill_kept later ShapeSort s k

  pub filled_context_kinded : (later : Context) → IsKindedContext (later ++ globals)
      → IsKindedContext (filled_context f (later ++ globals))
  filled_context_kinded [] k = subst IsKindedContext (sym (globals_still f globals alone)) k
  filled_context_kinded (b ∷ later) k = (filled_entry_kinded later b k.0, filled_context_kinded later k.1)

  below_decided : (g later : Context) → g ≡ later ++ globals → IsKindedContext g → (l r : Set)
      → IsKindedSet (kinds_of g) [] l
      → Decided (SubcapturesSet (filled_context f g) (filled_set f l) (filled_set f r))
  below_decided g later is formed l r k =
      subst (λ h. Decided (SubcapturesSet (filled_context f h) (filled_set f l) (filled_set f r))) (sym is)
      (subcapturing_decided (filled_context f (later ++ globals)) (filled_context_kinded later (subst IsKindedContext is formed)) (filled_set f l) (filled_set f r)
      (fill_kept later SetSort l (subst (λ h. IsKindedSet (kinds_of h) [] l) is k)))

  -- whether what is fit is served
  pub served_decided : (asked : Asked) → IsFit globals asked → Decided (IsServed f asked)
  served_decided (IsBelow d) fit =
      below_decided d.context fit.0.0 fit.0.1 (IsKindedContext-from d.context fit.1) d.left d.right (IsKindedSet-from (kinds_of d.context) [] d.left fit.2)
  served_decided (IsCapless c) fit =
      elim (member_decided Cap (filled_set f c)) as (λ _. Decided (Member Cap (filled_set f c) → ⊥)) [
        | inl m ↦ inr (λ none. none m)
        | inr not_so ↦ inl not_so
      ]

-- some is the first that fails
abbrev pub SomeFails : Filling → List Placed → Type 0
SomeFails f list = (code : Code) × (at : Place) × FailsFirst f list code at

-- all is served, or there is a first that fails
pub first_failure : (f : Filling) (list : List Placed)
    → ((asked : Asked) → IsAskedIn list asked → Decided (IsServed f asked)) → SomeFails f list ⊎ AllServed f list
first_failure f [] decided = inr tt
first_failure f (p ∷ list) decided =
    by_first (decided p.asked ([], p, list, refl, refl))
    (first_failure f list (λ asked (before, placed, after, is, same). decided asked (p ∷ before, placed, after, ap (λ l. p ∷ l) is, same)))
  where
    by_first : Decided (IsServed f p.asked) → SomeFails f list ⊎ AllServed f list
        → SomeFails f (p ∷ list) ⊎ AllServed f (p ∷ list)
    by_first (inr not_so) rest = inl (code_of_failure p.asked, p.at, ([], p, list, refl, tt, not_so, refl, refl))
    by_first (inl one) (inr all) = inr (one, all)
    by_first (inl one) (inl (code, at, (before, placed, after, is, all, fails, c, a))) =
        inl (code, at, (p ∷ before, placed, after, ap (λ l. p ∷ l) is, (one, all), fails, c, a))
