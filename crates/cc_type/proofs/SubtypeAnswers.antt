-- What the calls of the comparison answer, in the words of its contract.
use Rattle.std.proofs.Common.{◌≡◌, ℕ, Bool, true, map, List, [], ◌∷◌, ◌++◌, Option, Some, None, Ok, Err, Result, IfOk, refl, sym}
use Rattle.std.proofs.Common.{ap, ◌∙◌, subst}
use Rattle.std.proofs.lemmas.List.{map-append}
use Rattle.cc_base.specs.declared.place.Place.{Place}
use Rattle.cc_core.specs.Shapes.{Shape, CapturingType}
use Rattle.cc_core.specs.Contexts.{Context}
use Rattle.cc_core.specs.Subtyping.{Subtypes, SubtypesType}
use Rattle.cc_checking.specs.Comparison.{Demand, demanded, Comparison, Unfinished, Mismatch, Matches, comparison}
use Rattle.cc_checking.specs.Comparison.{type_comparison, and_then, AllHold}
use Rattle.cc_checking.specs.Outcomes.{Placed}
use Rattle.cc_checking.specs.Inference.{demand_at}
use Rattle.cc_typing_laws.proofs.ComparisonLemmas.{demands_unique, then_parts, mismatch_not_below, subtyping_compares}
use Rattle.cc_typing_laws.proofs.ComparisonLemmas.{subtyping_of_types_compares}
use Rattle.cc_type.specs.declared.subtyping.SubtypeError.{SubtypeError}
use Rattle.cc_type.specs.declared.subtyping.SubtypeError.TheVariants.{NoMemory, ShapeMismatch}
use Rattle.cc_subty.specs.declared.demands.Demand.{Demand as DeclaredDemand}
use Rattle.cc_subty.specs.Demands.{demand_of, asked_of}
use Rattle.cc_type.specs.Comparing.{most_steps, asked_after, Compares, AsksWhat, IsNoMatch, Demanded, HandsOn}
use Rattle.cc_known.specs.KeptWalks.{Keeps}

some_inside : {A : Type 0} (a b : A) → Some a ≡ Some b → a ≡ b
some_inside a b e = cc

-- what a walk that keeps the whole comes to
pub whole_demanded : (oldest : ℕ) (at : Place) (c : Comparison) (was is : Bool) (before more : List DeclaredDemand) → before ≡ []
    → Keeps oldest true at c true was is (asked_of before) (asked_of more) → Demanded at c (Some more)
whole_demanded oldest at Unfinished was is before more none k = absurd k
whole_demanded oldest at Mismatch was is before more none k = cc
whole_demanded oldest at (Matches ds) was is before more none k =
    ap (λ b. Some (asked_of b ++ map (demand_at at) ds)) (sym none) ∙ ap Some (sym k.1)

-- what is handed on is what the comparison comes to
after_found : (at : Place) (c : Comparison) (before asked : List Placed) → asked_after at [] c ≡ Some asked
    → asked_after at before c ≡ Some (before ++ asked)
after_found at Unfinished before asked e = cc
after_found at Mismatch before asked e = cc
after_found at (Matches ds) before asked e = ap (λ x. Some (before ++ x)) (some_inside (map (demand_at at) ds) asked e)

pub handed_compares : (at : Place) (c : Comparison) (found : Option (List DeclaredDemand))
    (before after : List DeclaredDemand) (result : Result (Unit {0}) SubtypeError)
    → Demanded at c found → HandsOn found before after result → Compares at c before after result
handed_compares at c (Some found) before after (Ok done) h k =
    after_found at c (asked_of before) (asked_of found) h
    ∙ ap Some (sym (ap asked_of k ∙ map-append demand_of before found))
handed_compares at c None before after (Ok done) h k = absurd k
handed_compares at c (Some found) before after (Err ShapeMismatch) h k = absurd k
handed_compares at c None before after (Err ShapeMismatch) h k = (h, k)
handed_compares at c found before after (Err NoMemory) h k = tt

-- and what that says of subtyping
after_parts : (at : Place) (c : Comparison) (before after : List Placed) → asked_after at before c ≡ Some after
    → (ds : List Demand) × (c ≡ Matches ds) × (after ≡ before ++ map (demand_at at) ds)
after_parts at Unfinished before after e = cc
after_parts at Mismatch before after e = cc
after_parts at (Matches ds) before after e = (ds, refl, sym (some_inside (before ++ map (demand_at at) ds) after e))

pub shapes_below : (at : Place) (context : Context) (left right : Shape) (before after : List DeclaredDemand)
    (result : Result (Unit {0}) SubtypeError)
    → Compares at (comparison most_steps context left right) before after result
    → IfOk result (λ _. AsksWhat at (asked_of before) (asked_of after) (Subtypes context left right))
shapes_below at context left right before after (Ok done) h =
    let (ds, found, more) = after_parts at (comparison most_steps context left right) (asked_of before)
    (asked_of after) h in
    let both = subtyping_compares context left right in (
      ds,
      more,
      (
        λ below. let has = both.0 below in subst AllHold
            (demands_unique context left right has.0 ds has.1 (most_steps, found)) has.2,
        λ hold. both.1 (ds, (most_steps, found), hold),
      ),
    )
shapes_below at context left right before after (Err ShapeMismatch) h = tt
shapes_below at context left right before after (Err NoMemory) h = tt

pub shapes_not_below : (at : Place) (context : Context) (left right : Shape) (before after : List DeclaredDemand)
    (result : Result (Unit {0}) SubtypeError)
    → Compares at (comparison most_steps context left right) before after result → IsNoMatch result
    → Subtypes context left right → ⊥
shapes_not_below at context left right before after (Ok done) h no_match below = no_match
shapes_not_below at context left right before after
    (Err ShapeMismatch) h no_match below = mismatch_not_below context left right (most_steps, h.0) below
shapes_not_below at context left right before after (Err NoMemory) h no_match below = no_match

matches_inside : (ds es : List Demand) → Matches ds ≡ Matches es → ds ≡ es
matches_inside ds es e = cc

-- the demands of types are one list
types_unique : (context : Context) (left right : CapturingType) (n m : ℕ) (ds es : List Demand)
    → type_comparison n context left right ≡ Matches ds → type_comparison m context left right ≡ Matches es → ds ≡ es
types_unique context left right n m ds es e f =
    let first : List Demand = demanded context left.set right.set ∷ [] in
    let one = then_parts (Matches first) (comparison n context left.shape right.shape) ds e in
    let two = then_parts (Matches first) (comparison m context left.shape right.shape) es f in
    let begins = sym (matches_inside first one.0 one.2) in
    let begins' = matches_inside first two.0 two.2 in
    let rest = demands_unique context left.shape right.shape one.1 two.1 (n, one.3) (m, two.3) in
    one.4 ∙ ap (λ x. x ++ one.1) (begins ∙ begins') ∙ ap (λ x. two.0 ++ x) rest ∙ sym two.4

pub types_below : (at : Place) (context : Context) (left right : CapturingType) (before after : List DeclaredDemand)
    (result : Result (Unit {0}) SubtypeError)
    → Compares at (type_comparison most_steps context left right) before after result
    → IfOk result (λ _. AsksWhat at (asked_of before) (asked_of after) (SubtypesType context left right))
types_below at context left right before after (Ok done) h =
    let (ds, found, more) = after_parts at (type_comparison most_steps context left right) (asked_of before)
    (asked_of after) h in
    let both = subtyping_of_types_compares context left right in (
      ds,
      more,
      (
        λ below.
            let has = both.0 below in
            subst AllHold (types_unique context left right has.1.0 most_steps has.0 ds has.1.1 found) has.2,
        λ hold. both.1 (ds, (most_steps, found), hold),
      ),
    )
types_below at context left right before after (Err ShapeMismatch) h = tt
types_below at context left right before after (Err NoMemory) h = tt

then_mismatch : (ds : List Demand) (c : Comparison) → and_then (Matches ds) c ≡ Mismatch → c ≡ Mismatch
then_mismatch ds Unfinished e = cc
then_mismatch ds Mismatch e = refl
then_mismatch ds (Matches es) e = cc

pub types_not_below : (at : Place) (context : Context) (left right : CapturingType)
    (before after : List DeclaredDemand) (result : Result (Unit {0}) SubtypeError)
    → Compares at (type_comparison most_steps context left right) before after result → IsNoMatch result
    → SubtypesType context left right → ⊥
types_not_below at context left right before after (Ok done) h no_match below = no_match
types_not_below at context left right before after (Err ShapeMismatch) h no_match below =
    mismatch_not_below context left.shape right.shape (
      most_steps,
      then_mismatch (demanded context left.set right.set ∷ [])
          (comparison most_steps context left.shape right.shape) h.0,
    ) below.1
types_not_below at context left right before after (Err NoMemory) h no_match below = no_match
