-- The laws of subcapturing, by induction on why an element is below a set.
use Rattle.std.proofs.Common.{◌≡◌, ℕ, true, [], ◌∷◌, ◌++◌, length, Some, refl, sym, ap, ◌∙◌, subst, inl, inr, ◌⊎◌, ◌↔◌}
use Rattle.cc_capture.specs.declared.var.Var.TheVariants.{Free}
use Rattle.cc_capture.specs.declared.var.Elem.{Elem}
use Rattle.cc_capture.specs.declared.var.Elem.TheVariants.{Var as Variable, Cap}
use Rattle.cc_capture.specs.Sets.{Set, Member}
use Rattle.cc_core.specs.Shapes.{Shape}
use Rattle.cc_core.specs.Contexts.{TermEntry, Context, lookup}
use Rattle.cc_core.specs.Subcapturing.{Subcaptures, element, variable, SubcapturesSet}
use Rattle.cc_core.proofs.Lookups.{lookup-newest, lookup-more}
use Rattle.cc_core.specs.WellFormed.{kinds_of, is_well_formed_set, is_well_formed_context}
use Rattle.cc_core.proofs.KindFacts.{IsKindedElement, IsKindedSet-from}
use Rattle.cc_core.proofs.SubcapturingContexts.{lookup-changed, entry_of_term, IsKindedContext, IsKindedContext-from, entry_kinded}

pub subcaptures_subset : (context : Context) (left right : Set) → ((e : Elem) → Member e left → Member e right) → SubcapturesSet context left right
subcaptures_subset context left right inside e here = element (inside e here)

pub subcaptures_reflexive : (context : Context) (set : Set) → SubcapturesSet context set set
subcaptures_reflexive context set e here = element here

-- what is below a set is below each set above that one
pub subcaptures_above : {context : Context} {e : Elem} {middle : Set} → Subcaptures context e middle → (right : Set) → SubcapturesSet context middle right → Subcaptures context e right
subcaptures_above (element {e = e} here) right above = above e here
subcaptures_above (variable there each) right above = variable there (λ x here. subcaptures_above (each x here) right above)

pub subcaptures_transitive : (context : Context) (left middle right : Set) → SubcapturesSet context left middle → SubcapturesSet context middle right → SubcapturesSet context left right
subcaptures_transitive context left middle right below above e here = subcaptures_above (below e here) right above

-- Each variable with a type in one context is a variable in another, below what its declared set was below there.
pub subcaptures_along : {context : Context} {e : Elem} {set : Set} → Subcaptures context e set → (other : Context)
    → ((position : ℕ) (shape : Shape) (declared above : Set) → lookup context position ≡ Some (TermEntry shape declared)
    → SubcapturesSet other declared above → Subcaptures other (Variable (Free position)) above)
    → Subcaptures other e set
subcaptures_along (element here) other kept = element here
subcaptures_along (variable {position = position} {shape = shape} {declared = declared} {set = set} there each) other kept =
    kept position shape declared set there (λ x here. subcaptures_along (each x here) other kept)

pub subcaptures_longer : (context added : Context) (left right : Set) → SubcapturesSet context left right → SubcapturesSet (added ++ context) left right
subcaptures_longer context added left right below e here =
    subcaptures_along (below e here) (added ++ context) (λ position shape declared above there each. variable (lookup-more added context position (TermEntry shape declared) there) each)

-- the universal capability is below a set only as a member
cap_is_member : {context : Context} {e : Elem} {set : Set} → Subcaptures context e set → e ≡ Cap → Member Cap set
cap_is_member (element {e = e} {set = set} here) same = subst (λ x. Member x set) same here
cap_is_member (variable there each) same = cc

pub cap_below : (context : Context) (left right : Set) → SubcapturesSet context left right → Member Cap left → Member Cap right
cap_below context left right below here = cap_is_member (below Cap here) refl

sets_of : (shape shape' : Shape) (c c' : Set) → TermEntry shape c ≡ TermEntry shape' c' → c ≡ c'
sets_of shape shape' c c' same = cc

pub subcaptures_narrow : (context later : Context) (wide narrow : Shape) (c d left right : Set)
    → SubcapturesSet context d c
    → SubcapturesSet (later ++ (TermEntry wide c ∷ context)) left right
    → SubcapturesSet (later ++ (TermEntry narrow d ∷ context)) left right
subcaptures_narrow context later wide narrow c d left right less below e here =
    let other : Context = later ++ (TermEntry narrow d ∷ context) in
    let less' : SubcapturesSet (TermEntry narrow d ∷ context) d c = subcaptures_longer context (TermEntry narrow d ∷ []) d c less in
    let less'' : SubcapturesSet other d c = subcaptures_longer (TermEntry narrow d ∷ context) later d c less' in
    let newest : lookup other (length context) ≡ Some (TermEntry narrow d) =
    lookup-more later (TermEntry narrow d ∷ context) (length context) (TermEntry narrow d) (lookup-newest (TermEntry narrow d) context) in
    subcaptures_along (below e here) other
    (λ position shape declared above there each.
    elim (lookup-changed later (TermEntry wide c) (TermEntry narrow d) context position (TermEntry shape declared) there) as (λ _. Subcaptures other (Variable (Free position)) above) [
      | inl same ↦
          let declared_is : declared ≡ c = sets_of shape wide declared c same.1 in
          let each' : SubcapturesSet other c above = subst (λ s. SubcapturesSet other s above) declared_is each in
          subst (λ p. Subcaptures other (Variable (Free p)) above) (sym same.0) (variable newest (subcaptures_transitive other d c above less'' each'))
      | inr still ↦ variable still each
    ])

-- In a longer context an element of a well-formed context is below only what it is below there.
subcaptures_shorter_element : {longer : Context} {e : Elem} {set : Set} → Subcaptures longer e set → (context later : Context) → longer ≡ later ++ context
    → IsKindedContext context → IsKindedElement (kinds_of context) [] e → Subcaptures context e set
subcaptures_shorter_element (element here) context later same formed known = element here
subcaptures_shorter_element {longer = longer} (variable {position = position} {shape = shape} {declared = declared} {set = set} there each) context later same formed known =
    let entry = entry_of_term context position known in
    let longer_entry : lookup longer position ≡ Some (TermEntry entry.0 entry.1) =
    ap (λ g. lookup g position) same ∙ lookup-more later context position (TermEntry entry.0 entry.1) entry.2 in
    let declared_is : declared ≡ entry.1 = sets_of shape entry.0 declared entry.1 cc in
    let declared_kinded = (entry_kinded context position (TermEntry entry.0 entry.1) formed entry.2).1 in
    variable entry.2
    (λ x here.
    let here' : Member x declared = subst (λ s. Member x s) (sym declared_is) here in
    subcaptures_shorter_element (each x here') context later same formed (declared_kinded x here))

pub subcaptures_shorter : (context later : Context) (left right : Set) → is_well_formed_context context ≡ true → is_well_formed_set (kinds_of context) [] left ≡ true
    → SubcapturesSet (later ++ context) left right → SubcapturesSet context left right
subcaptures_shorter context later left right formed known below e here =
    subcaptures_shorter_element (below e here) context later refl (IsKindedContext-from context formed) (IsKindedSet-from (kinds_of context) [] left known e here)

-- by which rule an element is below a set
below_cases : {context : Context} {e : Elem} {set : Set} → Subcaptures context e set
    → Member e set ⊎ ((position : ℕ) × (shape : Shape) × (declared : Set) × (e ≡ Variable (Free position)) × (lookup context position ≡ Some (TermEntry shape declared)) × SubcapturesSet context declared set)
below_cases (element here) = inl here
below_cases (variable {position = position} {shape = shape} {declared = declared} there each) = inr (position, shape, declared, refl, there, each)

pub subcaptures_variable : (context : Context) (position : ℕ) (shape : Shape) (declared set : Set) → lookup context position ≡ Some (TermEntry shape declared)
    → Subcaptures context (Variable (Free position)) set ↔ (Member (Variable (Free position)) set ⊎ SubcapturesSet context declared set)
subcaptures_variable context position shape declared set there = (
  λ below. elim (below_cases below) as (λ _. Member (Variable (Free position)) set ⊎ SubcapturesSet context declared set) [
    | inl here ↦ inl here
    | inr (other, shape', declared', same, found, each) ↦
        let at : other ≡ position = cc in
        let both : Some (TermEntry shape' declared') ≡ Some (TermEntry shape declared) = sym found ∙ ap (lookup context) at ∙ there in
        let is : declared' ≡ declared = cc in
        inr (subst (λ d. SubcapturesSet context d set) is each)
  ],
  λ found. elim found as (λ _. Subcaptures context (Variable (Free position)) set) [ inl here ↦ element here | inr each ↦ variable there each ],
)

pub subcaptures_other : (context : Context) (e : Elem) (set : Set)
    → ((position : ℕ) (shape : Shape) (declared : Set) → e ≡ Variable (Free position) → lookup context position ≡ Some (TermEntry shape declared) → ⊥)
    → Subcaptures context e set → Member e set
subcaptures_other context e set none below =
    elim (below_cases below) as (λ _. Member e set) [
      | inl here ↦ here
      | inr (position, shape, declared, same, found, each) ↦ absurd (none position shape declared same found)
    ]
