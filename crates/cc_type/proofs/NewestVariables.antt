-- What a type becomes where the newest variable goes out of scope that its shape does not name.
use Rattle.std.proofs.Common.{◌≡◌, ◌||◌, false, length, refl, sym, ap, ◌∙◌}
use Rattle.std.specs.Option.{option_map}
use Rattle.cc_base.specs.declared.code.Code.TheVariants.{E17}
use Rattle.cc_base.specs.declared.place.Place.{Place}
use Rattle.cc_capture.specs.declared.var.Var.TheVariants.{Free}
use Rattle.cc_capture.specs.declared.var.Elem.TheVariants.{Var as Variable}
use Rattle.cc_capture.specs.Sets.{Set, empty}
use Rattle.cc_capture.proofs.Membership.{contains-empty}
use Rattle.cc_core.specs.Shapes.{CapturingType, capturing}
use Rattle.cc_core.specs.Contexts.{Context}
use Rattle.cc_core.specs.Occurrences.{Meets, without}
use Rattle.cc_checking.specs.Avoidance.{Positive, is_free_in, avoided_set, avoided}
use Rattle.cc_checking.specs.Inference.{left_behind}
use Rattle.cc_checking.specs.Outcomes.{finds, found_or}
use Rattle.cc_avoid.proofs.FreePositions.{is_free}
use Rattle.cc_typing_laws.proofs.Avoiding.{map_some}
use Rattle.cc_typing_laws.proofs.AvoidingPlaces.{nothing_to_avoid}

-- a type whose shape does not name the newest variable keeps its shape where that goes out of scope
pub shape_stays_behind : (at : Place) (g : Context) (declared : Set) (t : CapturingType)
    → Meets (without (length g)) 0 t.shape
    → left_behind at g declared t ≡ finds (capturing t.shape (avoided_set Positive (length g) declared t.set))
shape_stays_behind at g declared t m =
    let p = length g in
    let free : is_free_in p t.shape ≡ false = sym (is_free false p t.shape (λ _. m, λ _. refl)) in
    let alone = nothing_to_avoid Positive p declared (capturing t.shape empty) (λ i. free i || contains-empty (Variable (Free p)) i) in
    let (shape, is, same) = map_some (avoided Positive p declared t.shape)
    (λ s. capturing s (avoided_set Positive p declared empty)) (capturing t.shape empty) alone in
    ap (λ o. found_or E17 at (option_map (λ s. capturing s (avoided_set Positive p declared t.set)) o)) is
    ∙ ap (λ s. finds (capturing s (avoided_set Positive p declared t.set))) (sym (ap (λ (r : CapturingType). r.shape) same))
