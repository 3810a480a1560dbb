-- The test of findings decides whether they are one.
use Rattle.std.proofs.Common.{◌≡◌, true, ap, refl, subst, Decides}
use Rattle.std.proofs.lemmas.Slice.Eq.{slice_eq-Decides}
use Rattle.cc_core.proofs.Comparisons.{same_type-decides}
use Rattle.cc_core.specs.Shapes.{CapturingType}
use Rattle.cc_verdicts.specs.ModuleVerdicts.{Finding, FoundDefinition, NoModule, InCycle, RefusedModule, NoDefinition}
use Rattle.cc_judge.specs.SameFindings.{is_found_as, same_finding, same_findings, SameFindingsDecides}

found_as : (signature : CapturingType) (other : Finding) → is_found_as signature other ≡ true
    → FoundDefinition signature ≡ other
found_as signature (FoundDefinition other) h = ap FoundDefinition ((same_type-decides signature other).0 h)
found_as signature NoModule h = cc
found_as signature InCycle h = cc
found_as signature RefusedModule h = cc
found_as signature NoDefinition h = cc

one_finding : (left right : Finding) → same_finding left right ≡ true → left ≡ right
one_finding (FoundDefinition signature) right h = found_as signature right h
one_finding NoModule NoModule h = refl
one_finding NoModule (FoundDefinition signature) h = cc
one_finding NoModule InCycle h = cc
one_finding NoModule RefusedModule h = cc
one_finding NoModule NoDefinition h = cc
one_finding InCycle InCycle h = refl
one_finding InCycle (FoundDefinition signature) h = cc
one_finding InCycle NoModule h = cc
one_finding InCycle RefusedModule h = cc
one_finding InCycle NoDefinition h = cc
one_finding RefusedModule RefusedModule h = refl
one_finding RefusedModule (FoundDefinition signature) h = cc
one_finding RefusedModule NoModule h = cc
one_finding RefusedModule InCycle h = cc
one_finding RefusedModule NoDefinition h = cc
one_finding NoDefinition NoDefinition h = refl
one_finding NoDefinition (FoundDefinition signature) h = cc
one_finding NoDefinition NoModule h = cc
one_finding NoDefinition InCycle h = cc
one_finding NoDefinition RefusedModule h = cc

itself : (finding : Finding) → same_finding finding finding ≡ true
itself (FoundDefinition signature) = (same_type-decides signature signature).1 refl
itself NoModule = refl
itself InCycle = refl
itself RefusedModule = refl
itself NoDefinition = refl

pub finding_decides : (left right : Finding) → Decides (same_finding left right) (left ≡ right)
finding_decides left right = (
  one_finding left right,
  λ one.
      let P : Finding → Type 0 = λ f. same_finding left f ≡ true in subst P one (itself left),
)

pub same_findings_decides : SameFindingsDecides
same_findings_decides left right = slice_eq-Decides finding_decides left right (same_findings left right) refl
