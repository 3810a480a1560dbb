-- Signatures of shapes of which it is known that so many steps from them there is one that names no definition.
use Rattle.std.proofs.Common.{◌≡◌, ℕ, zero, suc, ◌≤◌, ◌<◌, true, false, cond, Option, Some, None, List, [], ◌∷◌, length}
use Rattle.std.proofs.Common.{refl, sym, ap, ◌∙◌, subst, arith}
use Rattle.std.specs.Prelude.{nat_lt}
use Rattle.std.specs.Option.{option_map}
use Rattle.std.proofs.lemmas.Bool.{ltb-true, ltb-false, or_parts}
use Rattle.cc_capture.specs.Sets.{Set, empty}
use Rattle.cc_core.specs.Shapes.{Shape, BaseShape, AnyShape, TypeVariable, FunctionShape, TypeFunctionShape, BoxShape}
use Rattle.cc_core.specs.Shapes.{ExitShape, CapturingType, capturing}
use Rattle.cc_core.specs.Contexts.{Context}
use Rattle.cc_core.specs.WellFormed.{IsWellFormedType}
use Rattle.cc_checking.specs.Avoidance.{Positive, Negative, is_free_in, has_position}
use Rattle.cc_checking_laws.specs.CheckingLaws.{oldest}
use Rattle.cc_typing_laws.proofs.Avoiding.{map_some, both_some, unless_some}
use Rattle.cc_known.specs.Measures.{IsSize, Along, IsClearAlong, IsSizedAlong, IsMeasuredFrom}
use Rattle.cc_known.specs.Signatures.{greater_of, greatest_in, greatest_in_set, greatest_position, IsGreatest}
use Rattle.cc_known.specs.declared.measures.Measure.{Measure}
use Rattle.cc_type.proofs.AvoidedGreatest.{signature_of_devices_alone}
use Rattle.cc_type.proofs.GreatestEntries.{type_past}
use Rattle.cc_known.proofs.GreatestPositions.{shape_greatest}
use Rattle.cc_avoid.specs.AvoidedTogether.{set_avoiding, names_any, shape_avoiding, type_avoiding}
use Rattle.cc_check.specs.SignedParts.{declared_sets}
use Rattle.cc_check.proofs.SignedTogether.{signature_together}

same_some : {A : Type 0} (a b : A) → Some a ≡ Some b → a ≡ b
same_some a b e = cc

-- a shape that names no definition stays
pub clear_stays : (devices : ℕ) (g : Context) (s : Shape) → greatest_in devices s ≡ None
    → shape_avoiding Positive (declared_sets devices g) s ≡ Some s
unfolding empty
clear_stays devices g s none =
    let t = capturing s empty in
    let alone = sym (signature_together devices g t)
    ∙ signature_of_devices_alone devices g t (ap (λ o. greater_of o (greatest_in_set devices empty)) none) in
    let (shape, is, same) = map_some (shape_avoiding Positive (declared_sets devices g) s)
    (λ x. capturing x (set_avoiding Positive (declared_sets devices g) empty)) t alone in
    is ∙ ap Some (sym (ap (λ (r : CapturingType). r.shape) same))

-- so does what is so many steps from a shape that becomes its signature
pub along_signed : (holds : Shape → Type 0) (devices : ℕ) (g : Context) (steps : ℕ) (s new : Shape)
    → IsClearAlong devices steps s → Along holds steps s
    → shape_avoiding Positive (declared_sets devices g) s ≡ Some new → Along holds steps new
along_signed holds devices g zero s new clear has is =
    subst holds (same_some s new (sym (clear_stays devices g s clear) ∙ is)) has
along_signed holds devices g (suc steps) (BaseShape b) new clear has is =
    subst (Along holds (suc steps)) (same_some (BaseShape b) new is) tt
along_signed holds devices g (suc steps) AnyShape new clear has is =
    subst (Along holds (suc steps)) (same_some AnyShape new is) tt
along_signed holds devices g (suc steps) (TypeVariable v) new clear has is =
    subst (Along holds (suc steps)) (same_some (TypeVariable v) new is) tt
along_signed holds devices g (suc steps) (FunctionShape t c r e) new clear has is =
    let ds = declared_sets devices g in
    let (x, y, taken, given, same) = both_some (shape_avoiding Negative ds t) (shape_avoiding Positive ds r)
    (λ x y. FunctionShape x (set_avoiding Negative ds c) y (set_avoiding Positive ds e)) new is in
    subst (Along holds (suc steps)) (sym same) (along_signed holds devices g steps r y clear has given)
along_signed holds devices g (suc steps) (TypeFunctionShape b r e) new clear has is =
    let ds = declared_sets devices g in
    let (none, rest) = unless_some (names_any ds b)
    (option_map (λ y. TypeFunctionShape b y (set_avoiding Positive ds e)) (shape_avoiding Positive ds r)) new is in
    let (y, given, same) = map_some (shape_avoiding Positive ds r)
    (λ y. TypeFunctionShape b y (set_avoiding Positive ds e)) new rest in
    subst (Along holds (suc steps)) (sym same) (along_signed holds devices g steps r y clear has given)
along_signed holds devices g (suc steps) (BoxShape t c) new clear has is =
    let ds = declared_sets devices g in
    let (y, given, same) = map_some (shape_avoiding Positive ds t) (λ y. BoxShape y (set_avoiding Positive ds c)) new is in
    subst (Along holds (suc steps)) (sym same) (along_signed holds devices g steps t y clear has given)
along_signed holds devices g (suc steps) (ExitShape r) new clear has is =
    let ds = declared_sets devices g in
    let (none, rest) = unless_some (names_any ds r) (Some (ExitShape r)) new is in
    subst (Along holds (suc steps)) (same_some (ExitShape r) new rest) tt

-- what is known of a shape is known of its signature
pub measured_signed : (devices : ℕ) (g : Context) (known : Option Measure) (t new : CapturingType)
    → IsMeasuredFrom devices known t.shape → type_avoiding Positive (declared_sets devices g) t ≡ Some new
    → IsMeasuredFrom devices known new.shape
measured_signed devices g None t new has is = tt
measured_signed devices g (Some known) t new has is =
    let ds = declared_sets devices g in
    let (shape, becomes, same) = map_some (shape_avoiding Positive ds t.shape)
    (λ x. capturing x (set_avoiding Positive ds t.set)) new is in
    subst (IsMeasuredFrom devices (Some known)) (sym (ap (λ (r : CapturingType). r.shape) same)) (
      along_signed (λ end. greatest_in devices end ≡ None) devices g known.steps t.shape shape has.0 has.0 becomes,
      along_signed (IsSize known.size) devices g known.steps t.shape shape has.0 has.1 becomes,
    )

length_oldest : (devices : ℕ) (g : Context) → length (oldest devices g) ≤ devices
length_oldest devices [] = omega arith
length_oldest devices (newest ∷ older) =
    elim (nat_lt (length older) devices)
    as (λ x. nat_lt (length older) devices ≡ x → length (cond x (newest ∷ older) (oldest devices older)) ≤ devices) [
      | true ↦ λ is. let less : length older < devices = ltb-true (length older) devices is in omega arith
      | false ↦ λ is. length_oldest devices older
    ] refl

none_from : (devices : ℕ) (s : Shape) (o : Option ℕ) → ((p : ℕ) → devices ≤ p → is_free_in p s ≡ false)
    → IsGreatest devices (λ q. is_free_in q s) o → o ≡ None
none_from devices s None none is = refl
none_from devices s (Some p) none (from, here, above) = let no = none p from in cc

-- a type over the devices alone names no definition
pub over_devices_clear : (devices : ℕ) (g : Context) (t : CapturingType) → IsWellFormedType (oldest devices g) t
    → greatest_in devices t.shape ≡ None
over_devices_clear devices g t formed =
    let low = length_oldest devices g in
    none_from devices t.shape (greatest_in devices t.shape)
    (λ p from. (or_parts (is_free_in p t.shape) (has_position p t.set)
    (type_past (oldest devices g) p t (omega arith) formed)).0)
    (shape_greatest devices t.shape)
