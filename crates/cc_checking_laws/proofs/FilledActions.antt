-- Filling with sets of globals commutes with exposing, with avoiding a position that is not global, and with capturing.
use Rattle.std.proofs.Common.{◌≡◌, ℕ, suc, ◌<◌, ◌≤◌, true, false, ◌||◌, cond, [], ◌∷◌, length, Some, refl, sym, ap, ◌∙◌, subst, arith}
use Rattle.std.specs.Prelude.{nat_eq}
use Rattle.std.specs.Option.{option_map}
use Rattle.cc_capture.specs.declared.var.Var.TheVariants.{Bound, Free}
use Rattle.cc_capture.specs.declared.var.Elem.{Elem}
use Rattle.cc_capture.specs.declared.var.Elem.TheVariants.{Var as Variable, Cap, Hole}
use Rattle.cc_capture.specs.Sets.{Set, Member, remove, union}
use Rattle.cc_capture.proofs.Membership.{same_members, Member-remove, Member-flat_image}
use Rattle.cc_capture.proofs.Images.{flat_image-union}
use Rattle.cc_capture.proofs.WordSets.{alike}
use Rattle.cc_core.specs.Shapes.{Shape, BaseShape, AnyShape, TypeVariable, FunctionShape, TypeFunctionShape, BoxShape, ExitShape, CapturingType, capturing}
use Rattle.cc_core.specs.Terms.{Term}
use Rattle.cc_core.specs.Contexts.{Bind, TermEntry, TypeEntry, Context}
use Rattle.cc_core.specs.Traversal.{act, act_set}
use Rattle.cc_core.specs.Substitution.{filled_element, filling_in, filled, filled_set, filled_type, filled_term}
use Rattle.cc_core.specs.Captured.{captured_variables}
use Rattle.cc_core.proofs.CapturedActions.{captured_variables-act, PassesBinders-filling_in}
use Rattle.cc_core.proofs.Moving.{Member-single, Member-single_itself}
use Rattle.cc_checking.specs.Exposing.{followed, exposed}
use Rattle.cc_checking.specs.Avoidance.{Sign, Positive, Negative, opposite, has_position, is_free_in, avoided_set, with_both, unless_free, avoided, avoided_type}
use Rattle.cc_checking.specs.Fillings.{Filling, filled_entry, filled_context, IsOverGlobals}
use Rattle.cc_typing_laws.proofs.Avoiding.{both_some, map_some, unless_some}
use Rattle.cc_checking_laws.proofs.FilledSyntax.{length-filled, no_index_filled}

-- a bound that is followed
followed-filled : (f : Filling) (b : Bind) (n : ℕ) (s : Shape) → followed (filled_entry f b) n (filled f s) ≡ filled f (followed b n s)
followed-filled f (TypeEntry bound) n (TypeVariable (Free p)) =
    elim (nat_eq p n) as (λ t. cond t (filled f bound) (TypeVariable (Free p)) ≡ filled f (cond t bound (TypeVariable (Free p)))) [ true ↦ refl | false ↦ refl ]
followed-filled f (TypeEntry bound) n (TypeVariable (Bound i)) = refl
followed-filled f (TypeEntry bound) n (BaseShape base) = refl
followed-filled f (TypeEntry bound) n AnyShape = refl
followed-filled f (TypeEntry bound) n (FunctionShape t c g e) = refl
followed-filled f (TypeEntry bound) n (TypeFunctionShape b g e) = refl
followed-filled f (TypeEntry bound) n (BoxShape t c) = refl
followed-filled f (TypeEntry bound) n (ExitShape g) = refl
followed-filled f (TermEntry type set) n s = refl

-- exposing the filled shape in the filled context
pub exposed-filled : (f : Filling) (g : Context) (s : Shape) → exposed (filled_context f g) (filled f s) ≡ filled f (exposed g s)
exposed-filled f [] s = refl
exposed-filled f (b ∷ g) s =
    (λ i. exposed (filled_context f g) (followed (filled_entry f b) (length-filled f g i) (filled f s)))
    ∙ ap (exposed (filled_context f g)) (followed-filled f b (length g) s) ∙ exposed-filled f g (followed b (length g) s)

no_variable : (p : ℕ) → Variable (Free p) ≡ Cap → ⊥
no_variable p e = cc

module _ (root : ℕ) (f : Filling) (over : IsOverGlobals root f) where
  -- what the filled term captures
  pub captured-filled : (t : Term) → captured_variables (filled_term f t) ≡ filled_set f (captured_variables t)
  captured-filled t = captured_variables-act (filling_in f) (PassesBinders-filling_in f (no_index_filled root f over)) 0 t

  module _ (position : ℕ) (past : root ≤ position) where
    abbrev place : Elem
    place = Variable (Free position)

    -- no filling brings the position in
    fills_place : (e : Elem) → Member place (filled_element f e) → e ≡ place
    fills_place (Variable v) m = sym (Member-single place (Variable v) m)
    fills_place Cap m = absurd (no_variable position (Member-single place Cap m))
    fills_place (Hole h) m = let below : position < root = over h place m in absurd (omega arith)

    has_position-filled : (d : ℕ) (set : Set) → has_position position (act_set (filling_in f) d set) ≡ has_position position set
    has_position-filled d set =
        alike _ _
        (λ here.
        let from = (Member-flat_image (filled_element f) place set).0 here in
        subst (λ e. Member e set) (fills_place from.0 from.2) from.1)
        (λ here. (Member-flat_image (filled_element f) place set).1 (place, here, Member-single_itself place))

    remove-filled : (d : ℕ) (set : Set) → remove place (act_set (filling_in f) d set) ≡ act_set (filling_in f) d (remove place set)
    remove-filled d set =
        same_members _ _
        (λ e here.
        let parts = (Member-remove e place (act_set (filling_in f) d set)).0 here in
        let from = (Member-flat_image (filled_element f) e set).0 parts.1 in
        let other : from.0 ≡ place → ⊥ = λ same. parts.0 (Member-single e place (subst (λ x. Member e (filled_element f x)) same from.2)) in
        (Member-flat_image (filled_element f) e (remove place set)).1 (from.0, (Member-remove from.0 place set).1 (other, from.1), from.2))
        (λ e here.
        let from = (Member-flat_image (filled_element f) e (remove place set)).0 here in
        let parts = (Member-remove from.0 place set).0 from.1 in
        (Member-remove e place (act_set (filling_in f) d set)).1
        ((λ same. parts.0 (fills_place from.0 (subst (λ x. Member x (filled_element f from.0)) same from.2))), (Member-flat_image (filled_element f) e set).1 (from.0, parts.1, from.2)))

    is_free_in-filled : (d : ℕ) (s : Shape) → is_free_in position (act (filling_in f) d s) ≡ is_free_in position s
    is_free_in-filled d (BaseShape base) = refl
    is_free_in-filled d AnyShape = refl
    is_free_in-filled d (TypeVariable v) = refl
    is_free_in-filled d (FunctionShape t c g e) =
        λ i. is_free_in-filled d t i || has_position-filled d c i || is_free_in-filled (suc d) g i || has_position-filled (suc d) e i
    is_free_in-filled d (TypeFunctionShape b g e) = λ i. is_free_in-filled d b i || is_free_in-filled (suc d) g i || has_position-filled (suc d) e i
    is_free_in-filled d (BoxShape t c) = λ i. is_free_in-filled d t i || has_position-filled d c i
    is_free_in-filled d (ExitShape g) = is_free_in-filled d g

    avoided_set-filled : (declared : Set) (sign : Sign) (d : ℕ) (set : Set)
        → avoided_set sign position (filled_set f declared) (act_set (filling_in f) d set) ≡ act_set (filling_in f) d (avoided_set sign position declared set)
    avoided_set-filled declared Negative d set = remove-filled d set
    avoided_set-filled declared Positive d set =
        let joined : union (remove place (act_set (filling_in f) d set)) (filled_set f declared) ≡ act_set (filling_in f) d (union (remove place set) declared) =
        ap (λ r. union r (filled_set f declared)) (remove-filled d set) ∙ sym (flat_image-union (filled_element f) (remove place set) declared) in
        ap (λ t. cond t (union (remove place (act_set (filling_in f) d set)) (filled_set f declared)) (act_set (filling_in f) d set)) (has_position-filled d set)
        ∙ (elim (has_position position set) as (λ t. cond t (union (remove place (act_set (filling_in f) d set)) (filled_set f declared)) (act_set (filling_in f) d set)
        ≡ act_set (filling_in f) d (cond t (union (remove place set) declared) set)) [ true ↦ joined | false ↦ refl ])

    avoided-filled : (declared : Set) (sign : Sign) (d : ℕ) (s : Shape) → (result : Shape) → avoided sign position declared s ≡ Some result
        → avoided sign position (filled_set f declared) (act (filling_in f) d s) ≡ Some (act (filling_in f) d result)
    avoided-filled declared sign d (BaseShape base) result e = ap (option_map (act (filling_in f) d)) e
    avoided-filled declared sign d AnyShape result e = ap (option_map (act (filling_in f) d)) e
    avoided-filled declared sign d (TypeVariable v) result e = ap (option_map (act (filling_in f) d)) e
    avoided-filled declared sign d (FunctionShape t c g x) result e =
        let parts = both_some (avoided (opposite sign) position declared t) (avoided sign position declared g)
        (λ t' g'. FunctionShape t' (avoided_set (opposite sign) position declared c) g' (avoided_set sign position declared x)) result e in
        let first = avoided-filled declared (opposite sign) d t parts.0 parts.2 in
        let second = avoided-filled declared sign (suc d) g parts.1 parts.3 in
        let third = avoided_set-filled declared (opposite sign) d c in
        let fourth = avoided_set-filled declared sign (suc d) x in
        (λ i. with_both (first i) (second i) (λ t' g'. FunctionShape t' (third i) g' (fourth i))) ∙ ap (λ y. Some (act (filling_in f) d y)) (sym parts.4)
    avoided-filled declared sign d (TypeFunctionShape b g x) result e =
        let free = unless_some (is_free_in position b) (option_map (λ g'. TypeFunctionShape b g' (avoided_set sign position declared x)) (avoided sign position declared g)) result e in
        let parts = map_some (avoided sign position declared g) (λ g'. TypeFunctionShape b g' (avoided_set sign position declared x)) result free.1 in
        let first = is_free_in-filled d b ∙ free.0 in
        let second = avoided-filled declared sign (suc d) g parts.0 parts.1 in
        let fourth = avoided_set-filled declared sign (suc d) x in
        (λ i. unless_free (first i) (option_map (λ g'. TypeFunctionShape (act (filling_in f) d b) g' (fourth i)) (second i))) ∙ ap (λ y. Some (act (filling_in f) d y)) (sym parts.2)
    avoided-filled declared sign d (BoxShape t c) result e =
        let parts = map_some (avoided sign position declared t) (λ t'. BoxShape t' (avoided_set sign position declared c)) result e in
        let first = avoided-filled declared sign d t parts.0 parts.1 in
        let third = avoided_set-filled declared sign d c in
        (λ i. option_map (λ t'. BoxShape t' (third i)) (first i)) ∙ ap (λ y. Some (act (filling_in f) d y)) (sym parts.2)
    avoided-filled declared sign d (ExitShape g) result e =
        let free = unless_some (is_free_in position g) (Some (ExitShape g)) result e in
        ap (λ t. unless_free t (Some (ExitShape (act (filling_in f) d g)))) (is_free_in-filled d g ∙ free.0) ∙ ap (option_map (act (filling_in f) d)) free.1

    -- avoiding the position in a filled type
    pub avoided_type-filled : (declared : Set) (t type : CapturingType) → avoided_type Positive position declared t ≡ Some type
        → avoided_type Positive position (filled_set f declared) (filled_type f t) ≡ Some (filled_type f type)
    avoided_type-filled declared t type e =
        let parts = map_some (avoided Positive position declared t.shape) (λ s. capturing s (avoided_set Positive position declared t.set)) type e in
        let first = avoided-filled declared Positive 0 t.shape parts.0 parts.1 in
        let third = avoided_set-filled declared Positive 0 t.set in
        (λ i. option_map (λ s. capturing s (third i)) (first i)) ∙ ap (λ y. Some (filled_type f y)) (sym parts.2)
