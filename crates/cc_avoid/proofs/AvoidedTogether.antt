-- Avoiding positions together is avoiding one after another.
use Rattle.std.proofs.Common.{◌≡◌, ℕ, Bool, true, false, ◌||◌, List, [], ◌∷◌, Option, Some, None, refl, sym, ap, ◌∙◌}
use Rattle.std.specs.Option.{option_map, option_and_then}
use Rattle.cc_capture.specs.Sets.{Set}
use Rattle.cc_core.specs.Shapes.{Shape, BaseShape, AnyShape, TypeVariable, FunctionShape, TypeFunctionShape, BoxShape}
use Rattle.cc_core.specs.Shapes.{ExitShape, CapturingType, capturing}
use Rattle.cc_checking.specs.Avoidance.{Sign, Positive, opposite, is_free_in, avoided_set, with_both}
use Rattle.cc_checking.specs.Avoidance.{unless_free, avoided, avoided_type}
use Rattle.cc_avoid.specs.AvoidedTogether.{set_avoiding, names_any, shape_avoiding, type_avoiding}

-- where nothing is avoided all stays

none_avoided : (sign : Sign) (s : Shape) → shape_avoiding sign [] s ≡ Some s
none_avoided sign (BaseShape b) = refl
none_avoided sign AnyShape = refl
none_avoided sign (TypeVariable v) = refl
none_avoided sign (FunctionShape t c g e) =
    λ i. with_both (none_avoided (opposite sign) t i) (none_avoided sign g i) (λ t' g'. FunctionShape t' c g' e)
none_avoided sign (TypeFunctionShape b g e) = ap (option_map (λ g'. TypeFunctionShape b g' e)) (none_avoided sign g)
none_avoided sign (BoxShape t c) = ap (option_map (λ t'. BoxShape t' c)) (none_avoided sign t)
none_avoided sign (ExitShape g) = refl

pub type_none : (t : CapturingType) → type_avoiding Positive [] t ≡ Some t
type_none t = ap (option_map (λ s. capturing s t.set)) (none_avoided Positive t.shape)

-- the first is avoided, and then the others

with_none : (o : Option Shape) (build : Shape → Shape → Shape) → with_both o None build ≡ None
with_none None build = refl
with_none (Some s) build = refl

both_then : (F G H : Shape → Option Shape) (x y : Option Shape) (f h : Shape → Shape → Shape)
    → ((a b : Shape) → H (f a b) ≡ with_both (F a) (G b) h)
    → with_both (option_and_then F x) (option_and_then G y) h ≡ option_and_then H (with_both x y f)
both_then F G H (Some a) (Some b) f h e = sym (e a b)
both_then F G H (Some a) None f h e = with_none (F a) h
both_then F G H None y f h e = refl

map_then : {A B : Type 0} (F : A → Option A) (H : B → Option B) (x : Option A) (f h : A → B)
    → ((a : A) → H (f a) ≡ option_map h (F a))
    → option_map h (option_and_then F x) ≡ option_and_then H (option_map f x)
map_then F H (Some a) f h e = sym (e a)
map_then F H None f h e = refl

unless_none : (free : Bool) → unless_free free None ≡ None
unless_none true = refl
unless_none false = refl

unless_then : (free any : Bool) (F H : Shape → Option Shape) (x : Option Shape) (f h : Shape → Shape)
    → ((a : Shape) → H (f a) ≡ unless_free any (option_map h (F a)))
    → unless_free (free || any) (option_map h (option_and_then F x))
    ≡ option_and_then H (unless_free free (option_map f x))
unless_then true any F H x f h e = refl
unless_then false any F H (Some a) f h e = sym (e a)
unless_then false any F H None f h e = unless_none any

unless_either : (free any : Bool) (H : Shape → Option Shape) (s : Shape) → H s ≡ unless_free any (Some s)
    → unless_free (free || any) (Some s) ≡ option_and_then H (unless_free free (Some s))
unless_either true any H s e = refl
unless_either false any H s e = sym e

more_avoided : (sign : Sign) (p : ℕ) (d : Set) (ds : List (ℕ × Set)) (s : Shape)
    → shape_avoiding sign ((p, d) ∷ ds) s ≡ option_and_then (shape_avoiding sign ds) (avoided sign p d s)
more_avoided sign p d ds (BaseShape b) = refl
more_avoided sign p d ds AnyShape = refl
more_avoided sign p d ds (TypeVariable v) = refl
more_avoided sign p d ds (FunctionShape t c g e) =
    let build : Shape → Shape → Shape = λ t' g'. FunctionShape t' (set_avoiding (opposite sign) ds (avoided_set (opposite sign) p d c)) g'
    (set_avoiding sign ds (avoided_set sign p d e)) in
    (λ i. with_both (more_avoided (opposite sign) p d ds t i) (more_avoided sign p d ds g i) build)
    ∙ both_then (shape_avoiding (opposite sign) ds) (shape_avoiding sign ds) (shape_avoiding sign ds)
    (avoided (opposite sign) p d t) (avoided sign p d g)
    (λ t' g'. FunctionShape t' (avoided_set (opposite sign) p d c) g' (avoided_set sign p d e)) build (λ a b. refl)
more_avoided sign p d ds (TypeFunctionShape b g e) =
    let build : Shape → Shape = λ g'. TypeFunctionShape b g' (set_avoiding sign ds (avoided_set sign p d e)) in
    ap (λ o. unless_free (is_free_in p b || names_any ds b) (option_map build o)) (more_avoided sign p d ds g)
    ∙ unless_then (is_free_in p b) (names_any ds b) (shape_avoiding sign ds) (shape_avoiding sign ds)
    (avoided sign p d g) (λ g'. TypeFunctionShape b g' (avoided_set sign p d e)) build (λ a. refl)
more_avoided sign p d ds (BoxShape t c) =
    let build : Shape → Shape = λ t'. BoxShape t' (set_avoiding sign ds (avoided_set sign p d c)) in
    ap (option_map build) (more_avoided sign p d ds t)
    ∙ map_then (shape_avoiding sign ds) (shape_avoiding sign ds) (avoided sign p d t)
    (λ t'. BoxShape t' (avoided_set sign p d c)) build (λ a. refl)
more_avoided sign p d ds (ExitShape g) =
    unless_either (is_free_in p g) (names_any ds g) (shape_avoiding sign ds) (ExitShape g) refl

pub type_more : (p : ℕ) (d : Set) (ds : List (ℕ × Set)) (t : CapturingType)
    → type_avoiding Positive ((p, d) ∷ ds) t
    ≡ option_and_then (type_avoiding Positive ds) (avoided_type Positive p d t)
type_more p d ds t =
    let build : Shape → CapturingType = λ s. capturing s (set_avoiding Positive ds (avoided_set Positive p d t.set)) in
    ap (option_map build) (more_avoided Positive p d ds t.shape)
    ∙ map_across (avoided Positive p d t.shape)
  where
    map_across : (x : Option Shape)
        → option_map (λ s. capturing s (set_avoiding Positive ds (avoided_set Positive p d t.set)))
        (option_and_then (shape_avoiding Positive ds) x)
        ≡ option_and_then (type_avoiding Positive ds)
        (option_map (λ s. capturing s (avoided_set Positive p d t.set)) x)
    map_across (Some s) = refl
    map_across None = refl

-- one position alone is avoided as it is
pub one_avoided : (p : ℕ) (d : Set) (t : CapturingType)
    → type_avoiding Positive ((p, d) ∷ []) t ≡ avoided_type Positive p d t
one_avoided p d t = type_more p d [] t ∙ nothing_more (avoided_type Positive p d t)
  where
    nothing_more : (x : Option CapturingType) → option_and_then (type_avoiding Positive []) x ≡ x
    nothing_more (Some r) = type_none r
    nothing_more None = refl
