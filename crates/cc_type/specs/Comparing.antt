-- What a comparison in the program answers, and what it then asks.
use Rattle.std.specs.Prelude.{◌≡◌, ◌↔◌, ℕ, List, [], ◌++◌, map, Option, Some, None, Result, Ok, Err}
use Rattle.cc_base.specs.declared.place.Place.{Place}
use Rattle.cc_checking.specs.Comparison.{Demand, Comparison, Unfinished, Mismatch, Matches, AllHold}
use Rattle.cc_checking.specs.Outcomes.{Placed}
use Rattle.cc_checking.specs.Inference.{demand_at}
use Rattle.cc_type.specs.declared.subtyping.SubtypeError.{SubtypeError}
use Rattle.cc_type.specs.declared.subtyping.SubtypeError.TheVariants.{NoMemory, ShapeMismatch}
use Rattle.cc_subty.specs.declared.demands.Demand.{Demand as DeclaredDemand}
use Rattle.cc_subty.specs.Demands.{asked_of}

-- As many steps a comparison takes at most. With more it would have the same answer.
abbrev pub most_steps : ℕ
most_steps = 4294967295

-- what is asked after a comparison that matches: what it demands, at the place, behind what was asked before
abbrev pub asked_after : Place → List Placed → Comparison → Option (List Placed)
asked_after at before Unfinished = None
asked_after at before Mismatch = None
asked_after at before (Matches demands) = Some (before ++ map (demand_at at) demands)

-- What is answered for a comparison, with what was asked before and after. Where it matches, its demands are asked;
-- where it does not, nothing is. Nothing is said where memory is wanting.
abbrev pub Compares :
    Place → Comparison → List DeclaredDemand → List DeclaredDemand → Result (Unit {0}) SubtypeError → Type 0
Compares at comparison before after (Ok done) = asked_after at (asked_of before) comparison ≡ Some (asked_of after)
Compares at comparison before after (Err ShapeMismatch) = (comparison ≡ Mismatch) × (after ≡ before)
Compares at comparison before after (Err NoMemory) = Unit {0}

-- What is asked more, at the place, holds exactly where the statement does.
abbrev pub AsksWhat : Place → List Placed → List Placed → Type 0 → Type 0
AsksWhat at before after statement =
    (demands : List Demand) × (after ≡ before ++ map (demand_at at) demands) × (statement ↔ AllHold demands)

-- the answer is that the shapes do not match
abbrev pub IsNoMatch : Result (Unit {0}) SubtypeError → Type 0
IsNoMatch (Ok done) = ⊥
IsNoMatch (Err ShapeMismatch) = Unit {0}
IsNoMatch (Err NoMemory) = ⊥

-- What is found of a comparison that begins with nothing asked: what it demands, at the place, or that there is no match.
abbrev pub Demanded : Place → Comparison → Option (List DeclaredDemand) → Type 0
Demanded at comparison (Some found) = asked_after at [] comparison ≡ Some (asked_of found)
Demanded at comparison None = comparison ≡ Mismatch

-- What is answered for that: what was found is asked behind what was asked before, and where nothing was nothing is.
abbrev pub HandsOn :
    Option (List DeclaredDemand) → List DeclaredDemand → List DeclaredDemand → Result (Unit {0}) SubtypeError → Type 0
HandsOn (Some found) before after (Ok done) = after ≡ before ++ found
HandsOn None before after (Ok done) = ⊥
HandsOn (Some found) before after (Err ShapeMismatch) = ⊥
HandsOn None before after (Err ShapeMismatch) = after ≡ before
HandsOn found before after (Err NoMemory) = Unit {0}
