-- What the program finds for an import.
use Rattle.cc_core.specs.TermViews.{type_of}
use Rattle.cc_verdicts.specs.ModuleVerdicts.{Finding, FoundDefinition, NoModule, InCycle, RefusedModule}
use Rattle.cc_verdicts.specs.ModuleVerdicts.{NoDefinition}
use Rattle.cc_module.specs.declared.finding.Finding.{Finding as DeclaredFinding}
use Rattle.cc_module.specs.declared.finding.Finding.TheVariants as findings

-- what is found
abbrev pub finding_of : DeclaredFinding → Finding
finding_of (findings.Found type) = FoundDefinition (type_of type)
finding_of findings.Unknown = NoModule
finding_of findings.Cycle = InCycle
finding_of findings.RefusedModule = RefusedModule
finding_of findings.NoDef = NoDefinition
