-- Terms that have no type, by the inversion of each form and by what is below a set.
use Rattle.std.proofs.Common.{◌≡◌, ◌⊎◌, ℕ, zero, [], ◌∷◌, length, Some, inl, inr, refl, sym, ap, ◌∙◌, subst}
use Rattle.cc_base.specs.declared.literal.Base.TheVariants as bases
use Rattle.cc_capture.specs.declared.var.Var.TheVariants.{Free}
use Rattle.cc_capture.specs.declared.var.Elem.{Elem}
use Rattle.cc_capture.specs.declared.var.Elem.TheVariants.{Var as Variable, Cap}
use Rattle.cc_capture.specs.Elements.{element_order}
use Rattle.cc_capture.specs.Rising.{placed}
use Rattle.cc_capture.specs.Sets.{Set, Member, empty, union, insert}
use Rattle.cc_capture.proofs.Membership.{Member-empty, Member-union, Member-flat_image}
use Rattle.cc_core.specs.Shapes.{Shape, BaseShape, AnyShape, BoxShape, ExitShape, capturing}
use Rattle.cc_core.specs.Contexts.{Bind, TermEntry, Context, lookup}
use Rattle.cc_core.specs.Substitution.{single}
use Rattle.cc_core.specs.Occurrences.{Meets, MeetsInSet, without}
use Rattle.cc_core.specs.Captured.{outside, without_binder}
use Rattle.cc_core.specs.Subcapturing.{Subcaptures, SubcapturesSet}
use Rattle.cc_core.specs.Subtyping.{Subtypes}
use Rattle.cc_core.proofs.Lookups.{lookup-newest, lookup-older}
use Rattle.cc_core.proofs.Moving.{Member-single_itself}
use Rattle.cc_core.proofs.SubcapturingLemmas.{subcaptures_above, subcaptures_longer, subcaptures_reflexive, subcaptures_transitive, subcaptures_variable, cap_below}
use Rattle.cc_checking.specs.ComparisonExamples.{first, with_console}
use Rattle.cc_checking.specs.Comparison.{comparison, by_form}
use Rattle.cc_typing_laws.specs.TypingExamples.{PrinterIsNotPure, BoxOfCapIsNotOpened, FunctionsDoNotTakeExitsOut, BoxesDoNotTakeExitsOut, NotesAreHeeded, RefusedTermsAreWellFormed, acting}
use Rattle.cc_typing_laws.proofs.ComparisonLemmas.{mismatch_not_below}
use Rattle.cc_typing_laws.proofs.DirectSubtyping.{SubtypesDirectly, alike, under_any, through_bound, functions, type_functions, boxes, direct_from}
use Rattle.cc_typing_laws.proofs.Inversions.{variables_invert, literals_invert, function_bodies_invert, box_contents_invert, unboxings_invert, lets_invert, boundaries_invert}
use Rattle.cc_typing_laws.proofs.WorkedExamples.{cap_shows, first_shows, boxes_compare}

-- what is above a box is Any, or a box with a larger set
above_box : {context : Context} {left right : Shape} → SubtypesDirectly context left right → (content : Shape) (c : Set) → left ≡ BoxShape content c
    → (right ≡ AnyShape) ⊎ ((content' : Shape) × (c' : Set) × (right ≡ BoxShape content' c') × SubcapturesSet context c c')
above_box (alike {context = context}) content c is = inr (content, c, is, subcaptures_reflexive context c)
above_box under_any content c is = inl refl
above_box (through_bound there rest) content c is = cc
above_box (functions sets takes results body) content c is = cc
above_box (type_functions results body) content c is = cc
above_box (boxes {context = context} {content' = content'} {c = d} {c' = c'} sets below) content c is =
    let same : d ≡ c = cc in
    inr (content', c', refl, subst (λ x. SubcapturesSet context x c') same sets)

-- Any is below no box
any_not_below_box : {context : Context} {left right : Shape} → SubtypesDirectly context left right → (content : Shape) (c : Set) → left ≡ AnyShape → right ≡ BoxShape content c → ⊥
any_not_below_box alike content c l r = cc
any_not_below_box under_any content c l r = cc
any_not_below_box (through_bound there rest) content c l r = cc
any_not_below_box (functions sets takes results body) content c l r = cc
any_not_below_box (type_functions results body) content c l r = cc
any_not_below_box (boxes sets below) content c l r = cc

-- two boxes that are equal have the same set
set_of_box : {content content' : Shape} {c c' : Set} → BoxShape content c ≡ BoxShape content' c' → c ≡ c'
set_of_box is = cc

box_is_not_any : {content : Shape} {c : Set} → BoxShape content c ≡ AnyShape → ⊥
box_is_not_any is = cc

-- the shape is Any, or a box whose set has cap
abbrev IsAnyOrBoxOfCap : Shape → Type 0
IsAnyOrBoxOfCap shape = (shape ≡ AnyShape) ⊎ ((content : Shape) × (c : Set) × (shape ≡ BoxShape content c) × Member Cap c)

-- and so is what is above it
box_of_cap_above : {context : Context} {left right : Shape} → SubtypesDirectly context left right → IsAnyOrBoxOfCap left → IsAnyOrBoxOfCap right
box_of_cap_above alike h = h
box_of_cap_above under_any h = inl refl
box_of_cap_above (through_bound there rest) (inl is) = cc
box_of_cap_above (through_bound there rest) (inr (content, c, is, has_cap)) = cc
box_of_cap_above (functions sets takes results body) (inl is) = cc
box_of_cap_above (functions sets takes results body) (inr (content, c, is, has_cap)) = cc
box_of_cap_above (type_functions results body) (inl is) = cc
box_of_cap_above (type_functions results body) (inr (content, c, is, has_cap)) = cc
box_of_cap_above (boxes sets below) (inl is) = cc
box_of_cap_above (boxes {context = context} {content' = content'} {c = d} {c' = d'} sets below) (inr (content, c, is, has_cap)) =
    let same : c ≡ d = cc in
    inr (content', d', refl, cap_below context d d' sets (subst (Member Cap) same has_cap))

-- a box is below a shape that is below a box, maybe in another context: the sets of their contents are below one another
box_between : (context longer : Context) (middle content content' : Shape) (c c' : Set)
    → Subtypes longer (BoxShape content c) middle → Subtypes context middle (BoxShape content' c')
    → (d : Set) × SubcapturesSet longer c d × SubcapturesSet context d c'
box_between context longer middle content content' c c' above below =
    elim (above_box (direct_from above) content c refl) as (λ _. (d : Set) × SubcapturesSet longer c d × SubcapturesSet context d c') [
      | inl is ↦ absurd (any_not_below_box (direct_from below) content' c' is refl)
      | inr (content'', d, is, sets) ↦ (d, sets, boxes_compare (direct_from below) content'' content' d c' is refl)
    ]

-- a free position that is a member stays one outside a binder
outside_member : (position : ℕ) (set : Set) → Member (Variable (Free position)) set → Member (Variable (Free position)) (without_binder set)
outside_member position set here =
    (Member-flat_image outside (Variable (Free position)) set).1 (Variable (Free position), here, Member-single_itself (Variable (Free position)))

-- an element of the first set of a union
left_member : (e : Elem) (right : Set) → Member e (union (single e) right)
left_member e right = (Member-union e (single e) right).1 (inl (Member-single_itself e))

pub printer_is_not_pure : PrinterIsNotPure
printer_is_not_pure shape typed =
    let (gives, formed, formed_under, body, captures) = function_bodies_invert with_console _ _ _ (capturing shape empty) typed in
    first_shows with_console (BaseShape bases.Console) refl (captures.0 first (outside_member 0 _ (left_member first _)))

-- an exit is not below the empty set, also under one more variable
exit_shows : (context : Context) (gives : Shape) (entry : Bind)
    → Subcaptures (entry ∷ TermEntry (ExitShape gives) (single Cap) ∷ context) (Variable (Free (length context))) empty → ⊥
exit_shows context gives entry =
    let inside : Context = TermEntry (ExitShape gives) (single Cap) ∷ context in
    cap_shows (entry ∷ inside) (length context) (ExitShape gives) (single Cap) empty
    (lookup-older entry inside (length context) (TermEntry (ExitShape gives) (single Cap)) (lookup-newest (TermEntry (ExitShape gives) (single Cap)) context))
    (Member-single_itself Cap) (Member-empty Cap) (Member-empty (Variable (Free (length context))))

pub functions_do_not_take_exits_out : FunctionsDoNotTakeExitsOut
functions_do_not_take_exits_out context type typed =
    let (formed, inside, above) = boundaries_invert context acting _ type typed in
    let exits : Context = TermEntry (ExitShape acting) (single Cap) ∷ context in
    let (k, gives, right, note, body, fresh, fresh_set, formed_gives, below) = lets_invert exits _ _ _ (capturing acting empty) inside in
    let entry : Bind = TermEntry k.shape k.set in
    let (gives', formed', formed_under, leaves, captures) = function_bodies_invert (entry ∷ exits) _ _ _ gives body in
    let exit : Elem = Variable (Free (length context)) in
    exit_shows context acting entry
    (subcaptures_above (captures.0 exit (outside_member (length context) _ (left_member exit _))) empty (subcaptures_longer exits (entry ∷ []) gives.set empty below.0))

pub boxes_do_not_take_exits_out : BoxesDoNotTakeExitsOut
boxes_do_not_take_exits_out context type typed =
    let (formed, inside, above) = boundaries_invert context (BoxShape acting empty) _ type typed in
    let exits : Context = TermEntry (ExitShape (BoxShape acting empty)) (single Cap) ∷ context in
    let (k, gives, right, note, body, fresh, fresh_set, formed_gives, below) = lets_invert exits _ _ _ (capturing (BoxShape acting empty) empty) inside in
    let entry : Bind = TermEntry k.shape k.set in
    let (gives', formed', formed_under, uses, captures) = function_bodies_invert exits _ _ _ k right in
    let (held, content, no_cap, box_below) = box_contents_invert (entry ∷ exits) _ gives body in
    let (position, shape, declared, is, there, content_below) = variables_invert (entry ∷ exits) _ held content in
    let exit : Elem = Variable (Free (length context)) in
    let function : Elem = Variable (Free (length exits)) in
    let (c, held_below, c_below) = box_between exits (entry ∷ exits) gives.shape held.shape acting held.set empty box_below.1 below.1 in
    let held_empty : SubcapturesSet (entry ∷ exits) held.set empty = subcaptures_transitive (entry ∷ exits) held.set c empty held_below (subcaptures_longer exits (entry ∷ []) c empty c_below) in
    let exit_captured : Subcaptures (entry ∷ exits) exit k.set =
    subcaptures_longer exits (entry ∷ []) _ k.set captures.0 exit (outside_member (length context) _ (left_member exit _)) in
    elim ((subcaptures_variable (entry ∷ exits) (length exits) k.shape k.set empty (lookup-newest entry exits)).0
    (subcaptures_above (content_below.0 function (Member-single_itself function)) empty held_empty)) as (λ _. ⊥) [
      | inl here ↦ Member-empty function here
      | inr k_empty ↦ exit_shows context (BoxShape acting empty) entry (subcaptures_above exit_captured empty k_empty)
    ]

-- What is not named keeps its set, so a variable that was declared with cap is below a set only where that has cap.
unnamed_has_cap : (context : Context) (position : ℕ) (shape : Shape) (declared set : Set) → lookup context position ≡ Some (TermEntry shape declared) → Member Cap declared
    → MeetsInSet (without position) zero set → Subcaptures context (Variable (Free position)) set → Member Cap set
unnamed_has_cap context position shape declared set there has_cap unnamed below =
    elim ((subcaptures_variable context position shape declared set there).0 below) as (λ _. Member Cap set) [
      | inl here ↦ absurd (unnamed (Variable (Free position)) here refl)
      | inr each ↦ cap_below context declared set each has_cap
    ]

pub box_of_cap_is_not_opened : BoxOfCapIsNotOpened
box_of_cap_is_not_opened under type typed =
    let (b, gives, right, note, rest, fresh, fresh_set, formed_gives, below) = lets_invert with_console _ _ _ type typed in
    let (c, gives', prints, declared_is, boxes_c, fresh', fresh_set', formed_gives', below') = lets_invert with_console _ _ _ b right in
    let inner : Context = TermEntry c.shape c.set ∷ with_console in
    let outer : Context = TermEntry b.shape b.set ∷ with_console in
    let (held, content, no_cap, box_below) = box_contents_invert inner _ gives' boxes_c in
    let (position, shape, declared, is, there, content_below) = variables_invert inner _ held content in
    let (opened_type, gives'', opens, note'', calls, fresh'', fresh_set'', formed'', below'') = lets_invert outer _ _ _ gives rest in
    let (shape', under', d, written, box_typed, formed_under, no_cap', opened_below) = unboxings_invert outer _ _ opened_type opens in
    let (position', shape'', declared', is', there', box_below') = variables_invert outer _ (capturing (BoxShape shape' under') d) box_typed in
    let named : Elem = Variable (Free 1) in
    let has_cap : Member Cap c.set = subst (Member Cap) declared_is.1 (Member-single_itself Cap) in
    let content_shape : IsAnyOrBoxOfCap gives'.shape =
    elim (above_box (direct_from box_below.1) held.shape held.set refl) as (λ _. IsAnyOrBoxOfCap gives'.shape) [
      | inl any ↦ inl any
      | inr (s, e, box, sets) ↦
          inr (
            s,
            e,
            box,
            unnamed_has_cap inner 1 c.shape c.set e refl has_cap (subst (Meets (without 1) zero) box fresh').1
                (subcaptures_above (content_below.0 named (Member-single_itself named)) e sets),
          )
    ] in
    let same : position' ≡ 1 = cc in
    let entries : Some (TermEntry shape'' declared') ≡ Some (TermEntry b.shape b.set) = sym there' ∙ ap (lookup outer) same in
    let b_is : shape'' ≡ b.shape = cc in
    let b_below : Subtypes outer b.shape (BoxShape shape' under') = subst (λ x. Subtypes outer x (BoxShape shape' under')) b_is box_below'.1 in
    elim (box_of_cap_above (direct_from b_below) (box_of_cap_above (direct_from below'.1) content_shape)) as (λ _. ⊥) [
      | inl any ↦ box_is_not_any any
      | inr (s, e, box, cap_in) ↦ no_cap' (subst (Member Cap) (sym (set_of_box box)) cap_in)
    ]

-- the base shapes of numbers and of truth values
number_is_no_truth : (context : Context) → Subtypes context (BaseShape bases.Int) (BaseShape bases.Bool) → ⊥
unfolding comparison by_form
number_is_no_truth context below = mismatch_not_below context (BaseShape bases.Int) (BaseShape bases.Bool) (1, refl) below

pub notes_are_heeded : NotesAreHeeded
notes_are_heeded context set body type typed =
    let (bound, gives, right, note, rest, fresh, fresh_set, formed_gives, below) = lets_invert context _ _ _ type typed in
    let below_bound = literals_invert context _ bound right in
    number_is_no_truth context (subst (Subtypes context (BaseShape bases.Int)) (sym note.0) below_bound.1)

pub refused_terms_are_well_formed : RefusedTermsAreWellFormed
unfolding insert placed element_order empty
refused_terms_are_well_formed = (refl, refl, refl, refl, refl)
