-- What a list of numbers tells, and that it tells so of one position more.
use Rattle.std.proofs.Common.{◌≡◌, inl, inr, ℕ, ◌+◌, ◌<◌, ◌≤◌, nat_lt, Bool, true, false, cond, List, [], ◌∷◌, ◌++◌, length, map, Option, Some, None, IsTrue, refl, sym, ap, subst, ◌∙◌, arith}
use Rattle.std.specs.List.{Contains}
use Rattle.std.specs.Option.{is_some}
use Rattle.std.specs.Prelude.{slice_index_or}
use Rattle.std.proofs.Math.ListN.{get_or-append}
use Rattle.std.proofs.Math.Seq.{get_or-append_seam}
use Rattle.std.proofs.Common.{length-append}
use Rattle.std.proofs.lemmas.List.{length-map, map-id}
use Rattle.std.proofs.lemmas.Bool.{cases_lt}
use Rattle.cc_capture.specs.declared.var.Var.TheVariants.{Bound, Free}
use Rattle.cc_capture.specs.declared.var.Elem.{Elem}
use Rattle.cc_capture.specs.declared.var.Elem.TheVariants.{Var as Variable, Cap, Hole}
use Rattle.cc_capture.specs.Elements.{same_element}
use Rattle.cc_capture.specs.ElementOrder.{same_element-itself}
use Rattle.cc_capture.specs.Rising.{is_listed}
use Rattle.cc_capture.specs.Sets.{Set, Member, contains}
use Rattle.cc_capture.proofs.Membership.{is_listed-cases, Contains-from_is_listed}
use Rattle.cc_core.specs.Shapes.{Shape}
use Rattle.cc_core.specs.Contexts.{Bind, TermEntry, Context, lookup}
use Rattle.cc_core.specs.Subcapturing.{Subcaptures, element, variable}
use Rattle.cc_core.specs.WellFormed.{TermKind, kind_of, kinds_of, kind_at, IsWellFormedContext, IsWellFormedSet}
use Rattle.cc_core.specs.TermViews.{bind_of, context_of}
use Rattle.cc_core.specs.declared.context.Bind.{Bind as DeclaredBind}
use Rattle.cc_core.proofs.CallLemmas.{any-at}
use Rattle.cc_core.proofs.KindFacts.{IsKindedElement, IsKindedSet-from, term_kind-from}
use Rattle.cc_core.proofs.Lookups.{lookup-below}
use Rattle.cc_core.proofs.SubcapturingContexts.{IsKindedContext, IsKindedContext-from, entry_of_term, entry_kinded}
use Rattle.cc_core.proofs.SubcapturingLemmas.{subcaptures_variable, subcaptures_other}
use Rattle.cc_core.specs.Occurrences.{HasNoHoleInSet}
use Rattle.cc_explain.specs.Chains.{LeadsAlong}
use Rattle.cc_reasons.specs.ReasonTexts.{AreBeyond, none, is_below, is_beyond, is_end, declared_members, LeadsOn}
use Rattle.cc_reasons.proofs.ChainsToEnds.{Stands, listed_first, listed_later, listed_member, member_listed, told_listed}
use Rattle.cc_sets.proofs.SubcapturingSearch.{IsLower, declared_lower, set_lower}
use Rattle.cc_captured_reasons.specs.Nearness.{HasNoHoleInSets, StandsIn, IsNear, TellsOf, AreTold}
use Rattle.cc_captured_reasons.specs.Tellings.{telling, lowest, number_from, number_at, numbered}
use Rattle.cc_captured_reasons.proofs.ToldNumbers.{none_lowest, Told, told_lowest}

-- what stands in a list at some place is listed
pub contained_listed : (list : List Elem) (e : Elem) → Contains list e → is_listed e list ≡ true
contained_listed list e (k, below, is) = sym (any-at (same_element e) list k e (below, sym is) (same_element-itself e))

-- what is listed and not below is told
pub beyond_listed : {g : Context} {right : Set} {list told : List Elem} → AreBeyond g right list told → (e : Elem) → is_listed e list ≡ true → (Subcaptures g e right → ⊥)
    → is_listed e told ≡ true
beyond_listed none e here not = cc
beyond_listed {g = g} {right = right} (is_below {e = x} {rest = rest} below are) e here not =
    elim (is_listed-cases e x rest here) [
      | inl same ↦ absurd (not (subst (λ (y : Elem). Subcaptures g y right) (sym same) below))
      | inr later ↦ beyond_listed are e later not
    ]
beyond_listed (is_beyond {e = x} {rest = rest} {told = told} beyond are) e here not =
    elim (is_listed-cases e x rest here) [
      | inl same ↦ subst (λ (y : Elem). is_listed e (y ∷ told) ≡ true) same (listed_first e told)
      | inr later ↦ listed_later e x told (beyond_listed are e later not)
    ]

pub true_or_not : {b : Bool} → b ≡ true → b ≡ false → ⊥
true_or_not is not = cc

-- an end is near to itself
pub near_end : (entry : Elem → List Elem) (ends : Elem → Bool) (e : Elem) → IsTrue (ends e) → IsNear entry ends e 0
near_end entry ends e is = record { to = e; others = []; ends = is; leads = refl; counted = refl; least = λ other end at_end leads. omega arith }

module _ (devices : ℕ) (g : Context) (right : Set) (formed : IsKindedContext g) where
  -- what a list tells of what stands at its positions
  pub tells_of : (told : List (Option ℕ)) → AreTold devices g right told → (e : Elem) → Stands g e → ((q : ℕ) → e ≡ Variable (Free q) → q < length told)
      → TellsOf devices g right e (telling told right e)
  tells_of told are (Variable (Free q)) stands below = let found = entry_of_term g q stands.0 in are q found.0 found.1 (below q refl) found.2
  tells_of told are (Variable (Bound i)) stands below = let kinded = stands.0 in cc
  tells_of told are Cap stands below = by (contains Cap right) refl
    where
      by : (b : Bool) → contains Cap right ≡ b → TellsOf devices g right Cap (cond b None (Some 0))
      by true is = element is
      by false is = (
        λ under. true_or_not (subcaptures_other g Cap right (λ p s d same there. cc) under) is,
        λ entry leads. near_end entry (is_end devices) Cap refl,
      )
  tells_of told are (Hole n) stands below = absurd (stands.1 n refl)

  below_of : (e : Elem) (o : Option ℕ) → o ≡ None → TellsOf devices g right e o → Subcaptures g e right
  below_of e o is tells = subst (TellsOf devices g right e) is tells

  pub beyond_of : (e : Elem) (o : Option ℕ) (n : ℕ) → o ≡ Some n → TellsOf devices g right e o
      → (Subcaptures g e right → ⊥) × ((entry : Elem → List Elem) → LeadsOn devices g right entry → IsNear entry (is_end devices) e n)
  beyond_of e o n is tells = subst (TellsOf devices g right e) is tells

  -- the elements of which a number is told are those that are not below
  pub numbered_beyond : (tells : Elem → Option ℕ) (list : List Elem) → ((e : Elem) → is_listed e list ≡ true → TellsOf devices g right e (tells e))
      → AreBeyond g right list (numbered tells list)
  numbered_beyond tells [] told = none
  numbered_beyond tells (e ∷ list) told =
      by (tells e) (told e (listed_first e list)) (numbered_beyond tells list (λ x here. told x (listed_later x e list here)))
    where
      by : (o : Option ℕ) → TellsOf devices g right e o → AreBeyond g right list (numbered tells list)
          → AreBeyond g right (e ∷ list) (cond (is_some o) (e ∷ numbered tells list) (numbered tells list))
      by None here later = is_below here later
      by (Some n) here later = is_beyond here.0 later

  module _ (p : ℕ) (s : Shape) (d : Set) (there : lookup g p ≡ Some (TermEntry s d)) (tells : Elem → Option ℕ)
      (told : (e : Elem) → is_listed e d.list ≡ true → TellsOf devices g right e (tells e)) where
    -- what the links of the position lead to
    links : nat_lt p devices ≡ false → (entry : Elem → List Elem) → LeadsOn devices g right entry → AreBeyond g right d.list (entry (Variable (Free p)))
    links high entry leads =
        subst (λ (o : Option Bind). AreBeyond g right (declared_members o) (entry (Variable (Free p)))) there
        (subst (λ (b : Bool). AreBeyond g right (cond b [] (declared_members (lookup g p))) (entry (Variable (Free p)))) high (leads (Variable (Free p))))

    one_farther : (n : ℕ) → nat_lt p devices ≡ false → Told tells d.list n → ((e : Elem) (m : ℕ) → is_listed e d.list ≡ true → tells e ≡ Some m → n ≤ m)
        → (entry : Elem → List Elem) → LeadsOn devices g right entry → IsNear entry (is_end devices) (Variable (Free p)) (n + 1)
    one_farther n high at low entry leads =
        let (not, nearest) = beyond_of at.e (tells at.e) n at.told (told at.e at.listed) in
        let near = nearest entry leads in
        record {
          to = near.to;
          others = at.e ∷ near.others;
          ends = near.ends;
          leads = (Contains-from_is_listed at.e (entry (Variable (Free p))) (beyond_listed (links high entry leads) at.e at.listed not), near.leads);
          counted = let same = near.counted in omega arith;
          least = least;
        }
      where
        farther : (next : Elem) (other : List Elem) (end : Elem) → IsTrue (is_end devices end) → is_listed next d.list ≡ true → (Subcaptures g next right → ⊥)
            → LeadsAlong entry next other end → (o : Option ℕ) → tells next ≡ o → TellsOf devices g right next o → n + 1 ≤ length (next ∷ other)
        farther next other end at_end listed not along None is tell = absurd (not tell)
        farther next other end at_end listed not along (Some m) is tell =
            let first = low next m listed is in
            let later = (tell.1 entry leads).least other end at_end along in
            omega arith

        least : (other : List Elem) (end : Elem) → IsTrue (is_end devices end) → LeadsAlong entry (Variable (Free p)) other end → n + 1 ≤ length other
        least [] end at_end same =
            absurd (true_or_not (subst (λ (x : Elem). is_end devices x ≡ true) (sym same) at_end) high)
        least (next ∷ other) end at_end (here, along) =
            let it = told_listed (links high entry leads) next (contained_listed (entry (Variable (Free p))) next here) in
            farther next other end at_end it.0 it.1 along (tells next) refl (told next it.0)

    pub tells_position : TellsOf devices g right (Variable (Free p)) (cond (contains (Variable (Free p)) right) None (number_from devices p (lowest tells None d.list)))
    tells_position = by_member (contains (Variable (Free p)) right) refl
      where
        by_device : (n : ℕ) → (Subcaptures g (Variable (Free p)) right → ⊥)
            → (nat_lt p devices ≡ false → (entry : Elem → List Elem) → LeadsOn devices g right entry → IsNear entry (is_end devices) (Variable (Free p)) (n + 1))
            → (b : Bool) → nat_lt p devices ≡ b → TellsOf devices g right (Variable (Free p)) (cond b (Some 0) (Some (n + 1)))
        by_device n not farther true is = (not, λ entry leads. near_end entry (is_end devices) (Variable (Free p)) is)
        by_device n not farther false is = (not, farther is)

        by_lowest : contains (Variable (Free p)) right ≡ false → (o : Option ℕ) → lowest tells None d.list ≡ o
            → TellsOf devices g right (Variable (Free p)) (number_from devices p o)
        by_lowest outside None is =
            variable there (λ e here. below_of e (tells e) (none_lowest tells d.list is e (member_listed e d here)) (told e (member_listed e d here)))
        by_lowest outside (Some n) is =
            let (at, low) = told_lowest tells d.list n is in
            let beyond = beyond_of at.e (tells at.e) n at.told (told at.e at.listed) in
            by_device n
            (λ under.
            elim ((subcaptures_variable g p s d right there).0 under) as (λ _. ⊥) [
              | inl inside ↦ true_or_not inside outside
              | inr each ↦ beyond.0 (each at.e (listed_member at.e d at.listed))
            ])
            (λ high. one_farther n high at low) (nat_lt p devices) refl

        by_member : (b : Bool) → contains (Variable (Free p)) right ≡ b
            → TellsOf devices g right (Variable (Free p)) (cond b None (number_from devices p (lowest tells None d.list)))
        by_member true is = element is
        by_member false is = by_lowest is (lowest tells None d.list) refl

-- a member of a declared set stands in the context, at an older position
pub declared_stands : (g : Context) → IsWellFormedContext g → HasNoHoleInSets g → (p : ℕ) (s : Shape) (d : Set) → lookup g p ≡ Some (TermEntry s d)
    → (e : Elem) → Member e d → Stands g e × ((q : ℕ) → e ≡ Variable (Free q) → q < p)
declared_stands g formed closed p s d there e here =
    let lower : IsLower p (Some (TermEntry s d)) = subst (IsLower p) there (declared_lower g p formed) in (
      (
        (entry_kinded g p (TermEntry s d) (IsKindedContext-from g formed) there).1 e here,
        λ n is. no_hole n (subst (λ (x : Elem). Member x d) is here),
      ),
      λ q is. lower q (subst (λ (x : Elem). Member x d) is here),
    )
  where
    no_hole : (n : ℕ) → Member (Hole n) d → ⊥
    no_hole n m = closed p s d there (Hole n) m

-- a member of a well-formed set does
pub member_stands : (g : Context) (set : Set) → IsWellFormedSet g set → HasNoHoleInSet set → (e : Elem) → Member e set → Stands g e × ((q : ℕ) → e ≡ Variable (Free q) → q < length g)
member_stands g set formed closed e here = (
  (
    IsKindedSet-from (kinds_of g) [] set formed e here,
    λ n is. no_hole n (subst (λ (x : Elem). Member x set) is here),
  ),
  λ q is. set_lower g set formed q (subst (λ (x : Elem). Member x set) is here),
)
  where
    no_hole : (n : ℕ) → Member (Hole n) set → ⊥
    no_hole n m = closed (Hole n) m

-- one position more
pub one_told : (devices : ℕ) (g : Context) (right : Set) (told : List (Option ℕ)) (p : ℕ) (number : Option ℕ) → IsWellFormedContext g → HasNoHoleInSets g
    → AreTold devices g right told → length told ≡ p → number ≡ number_at devices right told p (lookup g p)
    → AreTold devices g right (told ++ number ∷ [])
one_told devices g right told p number formed closed are long is q s d below there =
    elim (cases_lt q (length told)) [
      | inl before ↦
          subst (λ (o : Option ℕ). TellsOf devices g right (Variable (Free q)) (cond (contains (Variable (Free q)) right) None o))
          (sym (get_or-append told (number ∷ []) None q before)) (are q s d before there)
      | inr from ↦
          let here : q ≡ p = at_end below from in
          let found : lookup g p ≡ Some (TermEntry s d) = ap (lookup g) (sym here) ∙ there in
          let all : (e : Elem) → is_listed e d.list ≡ true → TellsOf devices g right e (telling told right e) =
          λ e listed. (
          let it = declared_stands g formed closed p s d found e (listed_member e d listed) in
          tells_of devices g right (IsKindedContext-from g formed) told are e it.0 (λ r same. let low = it.1 r same in omega arith)
          ) in
          subst (λ (r : ℕ). TellsOf devices g right (Variable (Free r)) (telling (told ++ number ∷ []) right (Variable (Free r)))) (sym here)
          (subst (λ (o : Option ℕ). TellsOf devices g right (Variable (Free p)) (cond (contains (Variable (Free p)) right) None o))
          (sym (at_seam ∙ is ∙ ap (number_at devices right told p) found))
          (tells_position devices g right (IsKindedContext-from g formed) p s d found (telling told right) all))
    ]
  where
    at_end : q < length (told ++ number ∷ []) → length told ≤ q → q ≡ p
    at_end below from = omega (arith, long, below, from, length-append told (number ∷ []))

    at_seam : slice_index_or (told ++ number ∷ []) p None ≡ number
    at_seam = ap (λ k. slice_index_or (told ++ number ∷ []) k None) (sym long) ∙ get_or-append_seam told number [] None

-- what stands in a context is told of, and a number where it is not below
pub stands_in : (g : Context) (e : Elem) → StandsIn g e → Stands g e × ((q : ℕ) → e ≡ Variable (Free q) → q < length g)
stands_in g (Variable v) (formed, whole) =
    let kinded : IsKindedElement (kinds_of g) [] (Variable v) = term_kind-from (kind_at (kinds_of g) [] v) formed in
    ((kinded, λ n is. cc), λ q is. low q (subst (IsKindedElement (kinds_of g) []) is kinded))
  where
    low : (q : ℕ) → lookup (kinds_of g) q ≡ Some TermKind → q < length g
    low q known = omega (arith, lookup-below (kinds_of g) q TermKind known, length-map g kind_of)
stands_in g Cap (formed, whole) = ((tt, λ n is. cc), λ q is. cc)
stands_in g (Hole n) (formed, whole) = absurd whole

pub told_number : (devices : ℕ) (g : Context) (right : Set) (e : Elem) (o : Option ℕ) → TellsOf devices g right e o → (Subcaptures g e right → ⊥) → is_some o ≡ true
told_number devices g right e None below not = absurd (not below)
told_number devices g right e (Some n) tells not = refl

-- at the end of a walk over a set
pub beyond_end : (devices : ℕ) (g : Context) (right left : Set) (tells : Elem → Option ℕ) (yielded captured : List Elem) → IsKindedContext g
    → map (λ x. x) yielded ≡ left.list → captured ≡ numbered tells yielded → ((e : Elem) → Member e left → TellsOf devices g right e (tells e))
    → AreBeyond g right left.list captured
beyond_end devices g right left tells yielded captured formed all is told =
    subst (AreBeyond g right left.list) (sym (is ∙ ap (numbered tells) (sym (map-id yielded) ∙ all)))
    (numbered_beyond devices g right formed tells left.list (λ e here. told e (listed_member e left here)))

-- a position of the context is one of the list
pub told_long : {A : Type 0} (told : List A) (entries : List DeclaredBind) → length told ≡ length entries → (q : ℕ) → q < length (context_of entries) → q < length told
told_long told entries same q low = omega (arith, same, low, length-map entries bind_of)
