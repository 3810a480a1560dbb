-- A type with a function at a negative place that names the newest variable on both sides, where avoiding is not least.
use Rattle.std.proofs.Common.{◌≡◌, List, ℕ, false, cond, [], ◌∷◌, inl, inr, Some, refl, sym, ap, ◌∙◌, subst}
use Rattle.cc_base.specs.declared.literal.Base.TheVariants as bases
use Rattle.cc_capture.specs.declared.var.Var.TheVariants.{Bound, Free}
use Rattle.cc_capture.specs.declared.var.Elem.{Elem}
use Rattle.cc_capture.specs.declared.var.Elem.TheVariants.{Var as Variable, Cap}
use Rattle.cc_capture.specs.Sets.{Set, Member, contains, empty, remove, union}
use Rattle.cc_capture.proofs.Membership.{Member-empty, Member-flat_image, Member-remove, Member-union, same_members}
use Rattle.cc_core.specs.Shapes.{Shape, BaseShape, FunctionShape, capturing}
use Rattle.cc_core.specs.Contexts.{TermEntry, Context, lookup}
use Rattle.cc_core.specs.Substitution.{single, opened_set, opening}
use Rattle.cc_core.specs.Subcapturing.{Subcaptures, element, variable, SubcapturesSet}
use Rattle.cc_core.specs.Subtyping.{SubtypesType, reflexive, function}
use Rattle.cc_core.proofs.Moving.{Member-single, Member-single_itself, flat_image-of_single}
use Rattle.cc_core.proofs.SubcapturingLemmas.{subcaptures_reflexive}
use Rattle.cc_checking.specs.Avoidance.{Positive, Negative, has_position, avoided_set, avoided_type}
use Rattle.cc_typing_laws.proofs.Avoiding.{not_true}
use Rattle.cc_typing_laws.proofs.DirectSubtyping.{direct_from}
use Rattle.cc_calculus_laws.specs.LeastAvoidance.{takes_a_function, context_of_x, f_from_x_to_x, f_from_cap_to_y, f_from_cap_to_nothing, NotLeastOnBothSides}
use Rattle.cc_core.specs.WellFormed.{Kind, TermKind, kinds_of}
use Rattle.cc_core.proofs.CapturedKinds.{empty_kinded}
use Rattle.cc_core.proofs.KindFacts.{IsKindedElement, IsKindedSet, IsKindedType, IsKindedType-test}
use Rattle.cc_core.proofs.KindRespecting.{single_kinded}
use Rattle.cc_typing_laws.proofs.FormedContexts.{IsKindedContext-test}
use Rattle.cc_calculus_laws.proofs.FilledMatches.{functions_below}
use Rattle.cc_calculus_laws.proofs.LeastAvoiding.{same_set}

abbrev newest : Elem
newest = Variable (Free 0)

cap_without : has_position 0 (single Cap) ≡ false
cap_without = not_true (contains newest (single Cap)) (λ m. let clash = Member-single newest Cap m in cc)

empty_without : has_position 0 empty ≡ false
empty_without = not_true (contains newest empty) (λ m. Member-empty newest m)

nothing_left : remove newest (single newest) ≡ empty
nothing_left =
    same_members (remove newest (single newest)) empty
    (λ y m. let p = (Member-remove y newest (single newest)).0 m in absurd (p.0 (Member-single y newest p.1))) (λ y m. absurd (Member-empty y m))

cap_alone : union (remove newest (single newest)) (single Cap) ≡ single Cap
cap_alone =
    same_members (union (remove newest (single newest)) (single Cap)) (single Cap)
    (λ y m.
    elim ((Member-union y (remove newest (single newest)) (single Cap)).0 m) as (λ _. Member y (single Cap)) [
      | inl l ↦ let p = (Member-remove y newest (single newest)).0 l in absurd (p.0 (Member-single y newest p.1))
      | inr r ↦ r
    ])
    (λ y m. (Member-union y (remove newest (single newest)) (single Cap)).1 (inr m))

grown : avoided_set Positive 0 (single Cap) (single newest) ≡ single Cap
grown = ap (λ t. cond t (union (remove newest (single newest)) (single Cap)) (single newest)) (Member-single_itself newest) ∙ cap_alone

becomes : avoided_type Positive 0 (single Cap) f_from_x_to_x ≡ Some f_from_cap_to_nothing
becomes =
    let none : avoided_set Positive 0 (single Cap) empty ≡ empty = same_set 0 (single Cap) cap_without Positive empty empty_without in
    let none' : avoided_set Negative 0 (single Cap) empty ≡ empty = same_set 0 (single Cap) cap_without Negative empty empty_without in
    λ i. Some (capturing (FunctionShape (FunctionShape (BaseShape bases.Int) (grown i) (BaseShape bases.Int) (nothing_left i)) (none' i) (BaseShape bases.Int) (none i)) (none i))

-- one element alone, below a set
single_below : (g : Context) (e : Elem) (c : Set) → Subcaptures g e c → SubcapturesSet g (single e) c
single_below g e c below y m = subst (λ z. Subcaptures g z c) (sym (Member-single y e m)) below

opened_single : (n : ℕ) (e : Elem) → opened_set n (single e) ≡ (opening n).element 0 e
opened_single n e = flat_image-of_single ((opening n).element 0) e

abbrev inner : Context
inner = TermEntry (BaseShape bases.Int) (single newest) ∷ context_of_x

parameter_below : SubcapturesSet inner (opened_set 1 (single (Variable (Bound 0)))) (opened_set 1 (single newest))
parameter_below =
    subst (λ x. SubcapturesSet inner x (opened_set 1 (single newest))) (sym (opened_single 1 (Variable (Bound 0))))
    (subst (SubcapturesSet inner (single (Variable (Free 1)))) (sym (opened_single 1 newest))
    (single_below inner (Variable (Free 1)) (single newest) (variable {position = 1} {shape = BaseShape bases.Int} {declared = single newest} refl (λ y m. element m))))

above : SubtypesType context_of_x f_from_x_to_x f_from_cap_to_y
above = (
  subcaptures_reflexive context_of_x empty,
  function (subcaptures_reflexive context_of_x empty)
      (function (single_below context_of_x newest (single Cap) (variable {position = 0} {shape = BaseShape bases.Int} {declared = single Cap} refl (λ y m. element m))) reflexive parameter_below reflexive)
      (subcaptures_reflexive (TermEntry (FunctionShape (BaseShape bases.Int) (single Cap) (BaseShape bases.Int) (single (Variable (Bound 0)))) empty ∷ context_of_x) (opened_set 1 empty)) reflexive,
)

-- the universal capability is below no set without it
cap_below : {g : Context} {e : Elem} {c : Set} → Subcaptures g e c → e ≡ Cap → Member Cap c
cap_below (element {set = c} m) same = subst (λ z. Member z c) same m
cap_below (variable there each) same = cc

nothing_opened : (y : Elem) → Member y (opened_set 0 empty) → ⊥
nothing_opened y m = let from = (Member-flat_image ((opening 0).element 0) y empty).0 m in Member-empty from.0 from.1

declared_cap : (s : Shape) (c : Set) → lookup context_of_x 0 ≡ Some (TermEntry s c) → single Cap ≡ c
declared_cap s c e = cc

newest_not_below : {e : Elem} {c : Set} → Subcaptures context_of_x e c → e ≡ newest → c ≡ opened_set 0 empty → ⊥
newest_not_below (element {e = e} m) same is = nothing_opened e (subst (Member e) is m)
newest_not_below (variable {position = p} {shape = s} {declared = d} {set = c} there each) same is =
    let at : p ≡ 0 = cc in
    let own = declared_cap s d (subst (λ q. lookup context_of_x q ≡ Some (TermEntry s d)) at there) in
    nothing_opened Cap (subst (Member Cap) is (cap_below (each Cap (subst (Member Cap) own (Member-single_itself Cap))) refl))

not_above : SubtypesType [] f_from_cap_to_nothing f_from_cap_to_y → ⊥
not_above below =
    let one = functions_below (direct_from below.1) in
    let two = functions_below one.1 in
    newest_not_below (two.2 newest (subst (Member newest) (sym (opened_single 0 (Variable (Bound 0)))) (Member-single_itself newest))) refl refl

-- all of these are well formed
set_formed : (kinds passed : List Kind) (e : Elem) → IsKindedElement kinds passed e → IsKindedSet kinds passed (single e)
set_formed kinds passed e k = single_kinded kinds passed e k

function_formed : (kinds : List Kind) (c e : Set) → IsKindedSet kinds [] c → IsKindedSet kinds (TermKind ∷ []) e → IsKindedType kinds [] (takes_a_function c e)
function_formed kinds c e kc ke = (((tt, kc, tt, ke), empty_kinded kinds [], tt, empty_kinded kinds (TermKind ∷ [])), empty_kinded kinds [])

pub not_least : NotLeastOnBothSides
not_least = (
  IsKindedContext-test context_of_x ((tt, set_formed [] [] Cap tt), tt),
  IsKindedType-test (kinds_of context_of_x) [] f_from_x_to_x
      (function_formed (kinds_of context_of_x) (single newest) (single newest) (set_formed (kinds_of context_of_x) [] newest refl) (set_formed (kinds_of context_of_x) (TermKind ∷ []) newest refl)),
  IsKindedType-test [] [] f_from_cap_to_y
      (function_formed [] (single Cap) (single (Variable (Bound 0))) (set_formed [] [] Cap tt) (set_formed [] (TermKind ∷ []) (Variable (Bound 0)) refl)),
  above,
  becomes,
  not_above,
)
