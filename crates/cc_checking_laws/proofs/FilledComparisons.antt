-- Where a filling serves what a comparison demands, the filled sides compare, and what they demand holds.
use Rattle.std.proofs.Common.{ℕ, List, [], ◌∷◌, ◌++◌}
use Rattle.cc_core.specs.Shapes.{Shape, CapturingType}
use Rattle.cc_core.specs.Contexts.{Context}
use Rattle.cc_core.specs.Substitution.{filled, filled_type}
use Rattle.cc_core.specs.Subtyping.{Subtypes, SubtypesType}
use Rattle.cc_checking.specs.Comparison.{Demand, HasDemands, TypesHaveDemands, AllHold}
use Rattle.cc_checking.specs.Outcomes.{Asked}
use Rattle.cc_checking.specs.Fillings.{Filling, filled_context, IsOverGlobals}
use Rattle.cc_typing_laws.proofs.ComparisonLemmas.{subtyping_compares, subtyping_of_types_compares}
use Rattle.cc_checking_laws.specs.RepetitionLaws.{Holds}
use Rattle.cc_checking_laws.proofs.Findings.{below_all}
use Rattle.cc_checking_laws.proofs.FilledSubtyping.{Serves, shapes_below, types_below}

-- each that is asked holds as it stands
abbrev pub EachHolds : List Asked → Type 0
EachHolds [] = Unit {0}
EachHolds (q ∷ qs) = Holds q × EachHolds qs

pub each_holds-append : (a b : List Asked) → EachHolds a → EachHolds b → EachHolds (a ++ b)
each_holds-append [] b h k = k
each_holds-append (q ∷ a) b h k = (h.0, each_holds-append a b h.1 k)

-- and nothing more is asked
pub each_holds-alone : (a : List Asked) → EachHolds a → EachHolds (a ++ [])
each_holds-alone a h = each_holds-append a [] h tt

each_holds-demands : (ds : List Demand) → AllHold ds → EachHolds (below_all ds)
each_holds-demands [] h = tt
each_holds-demands (d ∷ ds) h = (h.0, each_holds-demands ds h.1)

-- the comparison has demands that hold
abbrev pub Compare : Context → Shape → Shape → Type 0
Compare g l r = (ds : List Demand) × HasDemands g l r ds × EachHolds (below_all ds)

abbrev pub TypesCompare : Context → CapturingType → CapturingType → Type 0
TypesCompare g l r = (ds : List Demand) × TypesHaveDemands g l r ds × EachHolds (below_all ds)

pub shapes_compare : (g : Context) (l r : Shape) → Subtypes g l r → Compare g l r
shapes_compare g l r below = let found = (subtyping_compares g l r).0 below in (found.0, found.1, each_holds-demands found.0 found.2)

pub types_compare : (g : Context) (l r : CapturingType) → SubtypesType g l r → TypesCompare g l r
types_compare g l r below = let found = (subtyping_of_types_compares g l r).0 below in (found.0, found.1, each_holds-demands found.0 found.2)

module _ (root : ℕ) (f : Filling) (over : IsOverGlobals root f) where
  pub filled_shapes_compare : (g : Context) (l r : Shape) (ds : List Demand) → HasDemands g l r ds → Serves f (below_all ds) → Compare (filled_context f g) (filled f l) (filled f r)
  filled_shapes_compare g l r ds h s = shapes_compare (filled_context f g) (filled f l) (filled f r) (shapes_below root f over g l r ds h s)

  pub filled_types_compare : (g : Context) (l r : CapturingType) (ds : List Demand) → TypesHaveDemands g l r ds → Serves f (below_all ds)
      → TypesCompare (filled_context f g) (filled_type f l) (filled_type f r)
  filled_types_compare g l r ds h s = types_compare (filled_context f g) (filled_type f l) (filled_type f r) (types_below root f over g l r ds h s)
