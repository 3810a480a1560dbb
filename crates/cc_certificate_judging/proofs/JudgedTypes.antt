-- Claims of another kind than that of the rule fit no place, and what judged answers say of the term.
use Rattle.std.proofs.Common.{◌≡◌, ◌<◌, ℕ, List, [], length, refl, ap, subst, arith}
use Rattle.std.specs.Prelude.{Contains}
use Rattle.cc_core.specs.WellFormed.{kinds_of}
use Rattle.cc_core.specs.Derivations.{ByElement, ByVariable, BySet, ByReflexivity, ByTransitivity, ByTypeVariable, ByTop, ByFunction, ByTypeFunction, ByBox, ByCapturing, t-var, t-lit, t-abs, t-tabs, t-app, t-tapp, t-box, t-unbox, t-let, t-prim, t-if, t-repeat, t-op, t-boundary, t-exit, t-sub}
use Rattle.cc_core.proofs.DerivationTypings.{typing_derivations}
use Rattle.cc_derivation.specs.Rows.{Nowhere, TypeOf, SetsBelow, ShapesBelow, TypesBelow}
use Rattle.cc_derivation.specs.Broken.{broken, IsLeast}
use Rattle.cc_derivation.proofs.BrokenNodes.{valid_typings}
use Rattle.cc_certificate_judging.specs.Judging.{read_tree}
use Rattle.cc_certificate_judging.specs.JudgingLaws as law
use Rattle.cc_certificate_judging.proofs.OneTree.{one_tree}

pub claims_of_another_kind_fit_no_place : law.ClaimsOfAnotherKindFitNoPlace
claims_of_another_kind_fit_no_place Nowhere rule = refl
claims_of_another_kind_fit_no_place (TypeOf context term) ByElement = refl
claims_of_another_kind_fit_no_place (TypeOf context term) ByVariable = refl
claims_of_another_kind_fit_no_place (TypeOf context term) BySet = refl
claims_of_another_kind_fit_no_place (TypeOf context term) ByReflexivity = refl
claims_of_another_kind_fit_no_place (TypeOf context term) ByTransitivity = refl
claims_of_another_kind_fit_no_place (TypeOf context term) ByTypeVariable = refl
claims_of_another_kind_fit_no_place (TypeOf context term) ByTop = refl
claims_of_another_kind_fit_no_place (TypeOf context term) ByFunction = refl
claims_of_another_kind_fit_no_place (TypeOf context term) ByTypeFunction = refl
claims_of_another_kind_fit_no_place (TypeOf context term) ByBox = refl
claims_of_another_kind_fit_no_place (TypeOf context term) ByCapturing = refl
claims_of_another_kind_fit_no_place (TypeOf context term) t-var = refl
claims_of_another_kind_fit_no_place (TypeOf context term) t-lit = refl
claims_of_another_kind_fit_no_place (TypeOf context term) t-abs = refl
claims_of_another_kind_fit_no_place (TypeOf context term) t-tabs = refl
claims_of_another_kind_fit_no_place (TypeOf context term) t-app = refl
claims_of_another_kind_fit_no_place (TypeOf context term) t-tapp = refl
claims_of_another_kind_fit_no_place (TypeOf context term) t-box = refl
claims_of_another_kind_fit_no_place (TypeOf context term) t-unbox = refl
claims_of_another_kind_fit_no_place (TypeOf context term) t-let = refl
claims_of_another_kind_fit_no_place (TypeOf context term) t-prim = refl
claims_of_another_kind_fit_no_place (TypeOf context term) t-if = refl
claims_of_another_kind_fit_no_place (TypeOf context term) t-repeat = refl
claims_of_another_kind_fit_no_place (TypeOf context term) t-op = refl
claims_of_another_kind_fit_no_place (TypeOf context term) t-boundary = refl
claims_of_another_kind_fit_no_place (TypeOf context term) t-exit = refl
claims_of_another_kind_fit_no_place (TypeOf context term) t-sub = refl
claims_of_another_kind_fit_no_place (SetsBelow context) ByElement = refl
claims_of_another_kind_fit_no_place (SetsBelow context) ByVariable = refl
claims_of_another_kind_fit_no_place (SetsBelow context) BySet = refl
claims_of_another_kind_fit_no_place (SetsBelow context) ByReflexivity = refl
claims_of_another_kind_fit_no_place (SetsBelow context) ByTransitivity = refl
claims_of_another_kind_fit_no_place (SetsBelow context) ByTypeVariable = refl
claims_of_another_kind_fit_no_place (SetsBelow context) ByTop = refl
claims_of_another_kind_fit_no_place (SetsBelow context) ByFunction = refl
claims_of_another_kind_fit_no_place (SetsBelow context) ByTypeFunction = refl
claims_of_another_kind_fit_no_place (SetsBelow context) ByBox = refl
claims_of_another_kind_fit_no_place (SetsBelow context) ByCapturing = refl
claims_of_another_kind_fit_no_place (SetsBelow context) t-var = refl
claims_of_another_kind_fit_no_place (SetsBelow context) t-lit = refl
claims_of_another_kind_fit_no_place (SetsBelow context) t-abs = refl
claims_of_another_kind_fit_no_place (SetsBelow context) t-tabs = refl
claims_of_another_kind_fit_no_place (SetsBelow context) t-app = refl
claims_of_another_kind_fit_no_place (SetsBelow context) t-tapp = refl
claims_of_another_kind_fit_no_place (SetsBelow context) t-box = refl
claims_of_another_kind_fit_no_place (SetsBelow context) t-unbox = refl
claims_of_another_kind_fit_no_place (SetsBelow context) t-let = refl
claims_of_another_kind_fit_no_place (SetsBelow context) t-prim = refl
claims_of_another_kind_fit_no_place (SetsBelow context) t-if = refl
claims_of_another_kind_fit_no_place (SetsBelow context) t-repeat = refl
claims_of_another_kind_fit_no_place (SetsBelow context) t-op = refl
claims_of_another_kind_fit_no_place (SetsBelow context) t-boundary = refl
claims_of_another_kind_fit_no_place (SetsBelow context) t-exit = refl
claims_of_another_kind_fit_no_place (SetsBelow context) t-sub = refl
claims_of_another_kind_fit_no_place (ShapesBelow context) ByElement = refl
claims_of_another_kind_fit_no_place (ShapesBelow context) ByVariable = refl
claims_of_another_kind_fit_no_place (ShapesBelow context) BySet = refl
claims_of_another_kind_fit_no_place (ShapesBelow context) ByReflexivity = refl
claims_of_another_kind_fit_no_place (ShapesBelow context) ByTransitivity = refl
claims_of_another_kind_fit_no_place (ShapesBelow context) ByTypeVariable = refl
claims_of_another_kind_fit_no_place (ShapesBelow context) ByTop = refl
claims_of_another_kind_fit_no_place (ShapesBelow context) ByFunction = refl
claims_of_another_kind_fit_no_place (ShapesBelow context) ByTypeFunction = refl
claims_of_another_kind_fit_no_place (ShapesBelow context) ByBox = refl
claims_of_another_kind_fit_no_place (ShapesBelow context) ByCapturing = refl
claims_of_another_kind_fit_no_place (ShapesBelow context) t-var = refl
claims_of_another_kind_fit_no_place (ShapesBelow context) t-lit = refl
claims_of_another_kind_fit_no_place (ShapesBelow context) t-abs = refl
claims_of_another_kind_fit_no_place (ShapesBelow context) t-tabs = refl
claims_of_another_kind_fit_no_place (ShapesBelow context) t-app = refl
claims_of_another_kind_fit_no_place (ShapesBelow context) t-tapp = refl
claims_of_another_kind_fit_no_place (ShapesBelow context) t-box = refl
claims_of_another_kind_fit_no_place (ShapesBelow context) t-unbox = refl
claims_of_another_kind_fit_no_place (ShapesBelow context) t-let = refl
claims_of_another_kind_fit_no_place (ShapesBelow context) t-prim = refl
claims_of_another_kind_fit_no_place (ShapesBelow context) t-if = refl
claims_of_another_kind_fit_no_place (ShapesBelow context) t-repeat = refl
claims_of_another_kind_fit_no_place (ShapesBelow context) t-op = refl
claims_of_another_kind_fit_no_place (ShapesBelow context) t-boundary = refl
claims_of_another_kind_fit_no_place (ShapesBelow context) t-exit = refl
claims_of_another_kind_fit_no_place (ShapesBelow context) t-sub = refl
claims_of_another_kind_fit_no_place (TypesBelow context) ByElement = refl
claims_of_another_kind_fit_no_place (TypesBelow context) ByVariable = refl
claims_of_another_kind_fit_no_place (TypesBelow context) BySet = refl
claims_of_another_kind_fit_no_place (TypesBelow context) ByReflexivity = refl
claims_of_another_kind_fit_no_place (TypesBelow context) ByTransitivity = refl
claims_of_another_kind_fit_no_place (TypesBelow context) ByTypeVariable = refl
claims_of_another_kind_fit_no_place (TypesBelow context) ByTop = refl
claims_of_another_kind_fit_no_place (TypesBelow context) ByFunction = refl
claims_of_another_kind_fit_no_place (TypesBelow context) ByTypeFunction = refl
claims_of_another_kind_fit_no_place (TypesBelow context) ByBox = refl
claims_of_another_kind_fit_no_place (TypesBelow context) ByCapturing = refl
claims_of_another_kind_fit_no_place (TypesBelow context) t-var = refl
claims_of_another_kind_fit_no_place (TypesBelow context) t-lit = refl
claims_of_another_kind_fit_no_place (TypesBelow context) t-abs = refl
claims_of_another_kind_fit_no_place (TypesBelow context) t-tabs = refl
claims_of_another_kind_fit_no_place (TypesBelow context) t-app = refl
claims_of_another_kind_fit_no_place (TypesBelow context) t-tapp = refl
claims_of_another_kind_fit_no_place (TypesBelow context) t-box = refl
claims_of_another_kind_fit_no_place (TypesBelow context) t-unbox = refl
claims_of_another_kind_fit_no_place (TypesBelow context) t-let = refl
claims_of_another_kind_fit_no_place (TypesBelow context) t-prim = refl
claims_of_another_kind_fit_no_place (TypesBelow context) t-if = refl
claims_of_another_kind_fit_no_place (TypesBelow context) t-repeat = refl
claims_of_another_kind_fit_no_place (TypesBelow context) t-op = refl
claims_of_another_kind_fit_no_place (TypesBelow context) t-boundary = refl
claims_of_another_kind_fit_no_place (TypesBelow context) t-exit = refl
claims_of_another_kind_fit_no_place (TypesBelow context) t-sub = refl

pub judged_types_are_given : law.JudgedTypesAreGiven
judged_types_are_given context term nodes type j =
    (typing_derivations context term _ _).1 (_, j.told.0, j.told.1)

pub contains_none : {B : Type 0} (number : ℕ) (numbers : List ℕ) → numbers ≡ [] → Contains numbers number → B
contains_none number numbers e h = let at : h.0 < length numbers = h.1 in absurd (omega (arith, ap length e, at))

pub bad_nodes_are_not_valid : law.BadNodesAreNotValid
bad_nodes_are_not_valid context term tree number j valid =
    let same = one_tree j.tree tree j.whole in
    let whole = (valid_typings 0 context term _).1 valid in
    contains_none number _ whole (subst (λ t. IsLeast number (broken 0 (TypeOf context term) (read_tree (length context) (kinds_of context) t))) same j.told).0
