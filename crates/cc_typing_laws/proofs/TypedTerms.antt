-- Terms that have a type, by their derivations.
use Rattle.std.proofs.Common.{◌≡◌, ◌≢◌, ℕ, suc, ◌∷◌, Some, refl, subst, sym, arith, []}
use Rattle.cc_capture.specs.declared.var.Var.TheVariants.{Free}
use Rattle.cc_capture.specs.declared.var.Elem.TheVariants.{Var as Variable, Cap}
use Rattle.cc_capture.specs.Elements.{element_order}
use Rattle.cc_capture.specs.Rising.{placed}
use Rattle.cc_capture.specs.Sets.{Set, empty, insert, from_list, flat_image, union}
use Rattle.cc_capture.proofs.Membership.{Member-empty}
use Rattle.cc_core.specs.Shapes.{Shape, BoxShape, ExitShape}
use Rattle.cc_core.specs.Terms.{BoxTerm, Application, Leave}
use Rattle.cc_core.specs.Contexts.{TermEntry, Context, lookup}
use Rattle.cc_core.specs.Occurrences.{MeetsInSet, IsAskedOf, without}
use Rattle.cc_core.specs.Substitution.{single}
use Rattle.cc_core.specs.Subcapturing.{Subcaptures, variable, SubcapturesSet}
use Rattle.cc_core.specs.Subtyping.{reflexive}
use Rattle.cc_core.specs.Typing.{HasTyping, t-var, t-lit, t-abs, t-app, t-box, t-unbox, t-let, t-op, t-boundary, t-exit, t-sub, HasNoCap}
use Rattle.cc_core.proofs.Moving.{Member-single}
use Rattle.cc_core.proofs.SubcapturingLemmas.{subcaptures_reflexive}
use Rattle.cc_checking.specs.ComparisonExamples.{number, nothing, printing, first, with_console}
use Rattle.cc_typing_laws.specs.TypingExamples.{printer, PrinterHasItsSet, box_and_call, BoxOpensUnderItsSet, exit_inside, ExitsInsideAreTyped}

printer_typing : HasTyping with_console printer printing (single first)
unfolding flat_image from_list insert placed element_order empty union
printer_typing = t-abs refl (t-op (t-var refl) refl (t-var refl))

pub printer_has_its_set : PrinterHasItsSet
unfolding flat_image from_list insert placed element_order empty union
printer_has_its_set = record { context_formed = refl; term_formed = refl; type_formed = refl; typing = printer_typing }

-- a set that holds the console alone has no cap
console_is_no_cap : HasNoCap (single first)
console_is_no_cap here = cap_is_no_variable (Member-single Cap first here)
  where
    cap_is_no_variable : Cap ≡ first → ⊥
    cap_is_no_variable is = cc

-- a variable is below each set that its declared set is below
by_declared : (context : Context) (position : ℕ) (shape : Shape) (declared : Set) → lookup context position ≡ Some (TermEntry shape declared)
    → SubcapturesSet context (single (Variable (Free position))) declared
by_declared context position shape declared there e here =
    subst (λ x. Subcaptures context x declared) (sym (Member-single e (Variable (Free position)) here)) (variable there (subcaptures_reflexive context declared))

-- the context in which the inner let types its body, and that in which the outer one does
with_content : Context
with_content = TermEntry printing (single first) ∷ with_console

with_box : Context
with_box = TermEntry (BoxShape printing (single first)) empty ∷ with_console

content_boxed : HasTyping with_content (BoxTerm (Free 1)) (BoxShape printing (single first)) empty
unfolding flat_image from_list insert placed element_order empty union with_content
content_boxed =
    t-box (t-sub (t-var refl) (by_declared with_content 1 printing (single first) refl) reflexive refl) console_is_no_cap

-- the call of the box's content, on the variable after it
called : HasTyping (TermEntry number empty ∷ TermEntry printing (single first) ∷ with_box) (Application (Free 2) (Free 3)) nothing empty
unfolding flat_image from_list insert placed element_order empty union with_box
called =
    let all : Context = TermEntry number empty ∷ TermEntry printing (single first) ∷ with_box in
    t-app (t-var refl) (t-sub (t-var refl) (by_declared all 3 number empty refl) reflexive refl)

-- nothing is named in the empty set
unnamed_empty : (position : ℕ) → MeetsInSet (without position) 0 empty
unnamed_empty position e here = absurd (Member-empty e here)

-- the console is no later variable
unnamed_first : (position : ℕ) → (0 ≡ suc position → ⊥) → MeetsInSet (without (suc position)) 0 (single first)
unnamed_first position other e here = subst (IsAskedOf (λ v. v ≢ Free (suc position))) (sym (Member-single e first here)) (λ is. other (free_is is))
  where
    free_is : Free 0 ≡ Free (suc position) → 0 ≡ suc position
    free_is is = cc

box_opens : HasTyping with_console (box_and_call (single first) (Some (single first))) nothing empty
unfolding flat_image from_list insert placed element_order empty union with_box with_content
box_opens =
    t-let
    (t-let printer_typing (refl, refl) content_boxed ((tt, unnamed_empty 1, tt, unnamed_empty 1), unnamed_first 0 (λ is. omega arith)) (unnamed_empty 1))
    tt
    (t-let (t-unbox (t-var refl) refl console_is_no_cap) tt
    (t-let t-lit tt called tt (unnamed_empty 3)) tt (unnamed_empty 2))
    tt (unnamed_empty 1)

pub box_opens_under_its_set : BoxOpensUnderItsSet
unfolding flat_image from_list insert placed element_order empty union
box_opens_under_its_set = record { context_formed = refl; term_formed = refl; type_formed = refl; typing = box_opens }

-- the body of the boundary, under its exit and the number
leaves : HasTyping (TermEntry number empty ∷ TermEntry (ExitShape number) (single Cap) ∷ []) (Leave number empty (Free 0) (Free 1)) number empty
unfolding flat_image from_list insert placed element_order empty
leaves =
    let all : Context = TermEntry number empty ∷ TermEntry (ExitShape number) (single Cap) ∷ [] in
    t-exit (t-var refl) (t-sub (t-var refl) (by_declared all 1 number empty refl) reflexive refl) refl

exit_typing : HasTyping [] exit_inside number empty
unfolding flat_image from_list insert placed element_order empty
exit_typing = t-boundary refl (t-let t-lit tt leaves tt (unnamed_empty 1))

pub exits_inside_are_typed : ExitsInsideAreTyped
unfolding flat_image from_list insert placed element_order empty
exits_inside_are_typed = record { context_formed = refl; term_formed = refl; type_formed = refl; typing = exit_typing }
