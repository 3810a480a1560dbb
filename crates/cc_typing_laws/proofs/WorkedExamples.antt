-- The worked examples, by computation, by a short derivation, or by refuting each way in which they might hold.
use Rattle.std.proofs.Common.{◌≡◌, ℕ, [], ◌∷◌, Some, refl, sym, ap, ◌∙◌, subst}
use Rattle.cc_base.specs.declared.literal.Base.TheVariants as bases
use Rattle.cc_capture.specs.declared.var.Var.TheVariants.{Free}
use Rattle.cc_capture.specs.declared.var.Elem.{Elem}
use Rattle.cc_capture.specs.declared.var.Elem.TheVariants.{Var as Variable, Cap}
use Rattle.cc_capture.specs.Elements.{element_order}
use Rattle.cc_capture.specs.Rising.{placed}
use Rattle.cc_capture.specs.Sets.{Set, Member, empty, insert, from_list, flat_image}
use Rattle.cc_capture.proofs.Membership.{Member-empty}
use Rattle.cc_core.specs.Shapes.{Shape, BaseShape, AnyShape, BoxShape, ExitShape}
use Rattle.cc_core.specs.Contexts.{TermEntry, Context, lookup}
use Rattle.cc_core.specs.Substitution.{single, opened_set}
use Rattle.cc_core.specs.Subcapturing.{Subcaptures, element, variable, SubcapturesSet}
use Rattle.cc_core.specs.Subtyping.{reflexive, function, box}
use Rattle.cc_core.proofs.Moving.{Member-single, Member-single_itself}
use Rattle.cc_core.proofs.SubcapturingLemmas.{cap_below, subcaptures_reflexive}
use Rattle.cc_checking.specs.ComparisonExamples.{number, printing, first, second, parameter, with_console, identity_below}
use Rattle.cc_checking.proofs.ComputedExamples.{different_bounds_mismatch}
use Rattle.cc_typing_laws.specs.TypingExamples.{inside_boundary, PrintingIsNotPure, PrintingWithItsSet, ExitsDoNotLeave, BoxesDoNotHideExits, IdentityAtBoxes, DifferentBoundsAreNotBelow, ResultsAreUnderTheRightParameter}
use Rattle.cc_typing_laws.proofs.ComparisonLemmas.{mismatch_not_below}
use Rattle.cc_typing_laws.proofs.DirectSubtyping.{SubtypesDirectly, alike, under_any, through_bound, functions, type_functions, boxes, direct_from}

-- a variable that is declared with cap is below no set that has neither
pub cap_shows : (context : Context) (position : ℕ) (shape : Shape) (declared set : Set) → lookup context position ≡ Some (TermEntry shape declared) → Member Cap declared
    → (Member Cap set → ⊥) → (Member (Variable (Free position)) set → ⊥) → Subcaptures context (Variable (Free position)) set → ⊥
cap_shows context position shape declared set there has_cap no_cap not_there below = shown below refl refl
  where
    declared_is : (d : Set) (s : Shape) → Some (TermEntry s d) ≡ Some (TermEntry shape declared) → d ≡ declared
    declared_is d s e = cc

    shown : {e : Elem} {c : Set} → Subcaptures context e c → c ≡ set → e ≡ Variable (Free position) → ⊥
    shown (element {e = e} {set = c} here) is same = not_there (subst (λ x. Member x set) same (subst (Member e) is here))
    shown (variable {position = p} {shape = s} {declared = d} {set = c} found each) is same =
        let at : p ≡ position = cc in
        let known : d ≡ declared = declared_is d s (sym found ∙ ap (lookup context) at ∙ there) in
        no_cap (subst (Member Cap) is (cap_below context d c each (subst (Member Cap) (sym known) has_cap)))

pub first_shows : (context : Context) (shape : Shape) → lookup context 0 ≡ Some (TermEntry shape (single Cap)) → Subcaptures context first empty → ⊥
first_shows context shape there = cap_shows context 0 shape (single Cap) empty there (Member-single_itself Cap) (Member-empty Cap) (Member-empty first)

pub printing_is_not_pure : PrintingIsNotPure
printing_is_not_pure below = first_shows with_console (BaseShape bases.Console) refl (below.0 first (Member-single_itself first))

pub printing_with_its_set : PrintingWithItsSet
printing_with_its_set = (subcaptures_reflexive with_console (single first), reflexive)

pub exits_do_not_leave : ExitsDoNotLeave
exits_do_not_leave below = first_shows inside_boundary (ExitShape printing) refl (below.0 first (Member-single_itself first))

pub boxes_compare : {context : Context} {left right : Shape} → SubtypesDirectly context left right → (content content' : Shape) (c c' : Set) → left ≡ BoxShape content c → right ≡ BoxShape content' c' → SubcapturesSet context c c'
boxes_compare (boxes {context = context} {content = u} {content' = u'} {c = d} {c' = d'} sets below) content content' c c' l r =
    let is : d ≡ c = cc in
    let is' : d' ≡ c' = cc in
    subst (λ x. SubcapturesSet context x c') is (subst (SubcapturesSet context d) is' sets)
boxes_compare (alike {context = context}) content content' c c' l r =
    let same : BoxShape content c ≡ BoxShape content' c' = sym l ∙ r in
    let is : c ≡ c' = cc in
    subst (SubcapturesSet context c) is (subcaptures_reflexive context c)
boxes_compare under_any content content' c c' l r = cc
boxes_compare (through_bound there rest) content content' c c' l r = cc
boxes_compare (functions sets takes results body) content content' c c' l r = cc
boxes_compare (type_functions results body) content content' c c' l r = cc

pub boxes_do_not_hide_exits : BoxesDoNotHideExits
boxes_do_not_hide_exits below =
    first_shows inside_boundary (ExitShape printing) refl (boxes_compare (direct_from below) printing printing (single first) empty refl refl first (Member-single_itself first))

pub identity_at_boxes : IdentityAtBoxes
unfolding flat_image from_list insert placed element_order empty
identity_at_boxes = refl

pub different_bounds_are_not_below : DifferentBoundsAreNotBelow
different_bounds_are_not_below = mismatch_not_below [] (identity_below AnyShape) (identity_below number) different_bounds_mismatch

opened_parameter : opened_set 1 (single parameter) ≡ single second
unfolding flat_image from_list insert placed element_order empty
opened_parameter = refl

opened_first : opened_set 1 (single first) ≡ single first
unfolding flat_image from_list insert placed element_order empty
opened_first = refl

pub results_are_under_the_right_parameter : ResultsAreUnderTheRightParameter
results_are_under_the_right_parameter =
    let under : Context = TermEntry printing (single first) ∷ with_console in
    let by_declared : SubcapturesSet under (single second) (single first) =
    λ e here. subst (λ x. Subcaptures under x (single first)) (sym (Member-single e second here)) (variable refl (subcaptures_reflexive under (single first))) in
    let results : SubcapturesSet under (opened_set 1 (single parameter)) (opened_set 1 (single first)) =
    subst (λ x. SubcapturesSet under x (opened_set 1 (single first))) (sym opened_parameter) (subst (λ x. SubcapturesSet under (single second) x) (sym opened_first) by_declared) in
    function
    (λ e here. subst (λ x. Subcaptures with_console x (single Cap)) (sym (Member-single e first here)) (variable refl (subcaptures_reflexive with_console (single Cap))))
    reflexive results (box results reflexive)
