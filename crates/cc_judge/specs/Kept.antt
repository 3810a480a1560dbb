-- What is kept of judged modules, as the program holds it.
use Rattle.std.specs.Prelude.{ℕ, List, [], ◌∷◌, map}
use Rattle.std.specs.List.Sorted.{IsStrictlySortedBy}
use Rattle.std.specs.Map.{keys_of}
use Rattle.std.specs.Prelude.{◌≡◌, length}
use Rattle.cc_base.specs.declared.device.DeviceDecl.{DeviceDecl}
use Rattle.cc_base.specs.Names.{compare_names}
use Rattle.cc_verdicts.specs.ModuleVerdicts as plain
use Rattle.cc_module.specs.declared.judgement.ModuleVerdict.{ModuleVerdict}
use Rattle.cc_module.specs.Findings.{finding_of}
use Rattle.cc_module.specs.Judgements.{module_verdict_of}
use Rattle.cc_judge.specs.declared.grounds.Grounds.{Grounds}
use Rattle.cc_judge.specs.declared.last.Last.{Last}
use Rattle.cc_judge.specs.Judgements.{Judgement, AreJudged}
use Rattle.cc_judge.specs.Settled.{AreSettled}

-- a module's name and its verdict
abbrev pub named_verdict : List ℕ × ModuleVerdict → List ℕ × plain.ModuleVerdict
named_verdict one = (one.0, module_verdict_of one.1)

-- the same of each
abbrev pub named_verdicts : List (List ℕ × ModuleVerdict) → List (List ℕ × plain.ModuleVerdict)
named_verdicts verdicts = map named_verdict verdicts

-- the judgement of the module with this verdict, on these grounds
abbrev pub judged_on : List ℕ × ModuleVerdict → Grounds → Judgement
judged_on entry grounds = record {
  name = entry.0;
  text = grounds.text;
  findings = map finding_of grounds.findings;
  verdict = module_verdict_of entry.1;
}

-- the judgements with these verdicts, on these grounds
abbrev pub judgements_from : List (List ℕ × ModuleVerdict) → List Grounds → List Judgement
judgements_from [] grounds = []
judgements_from (entry ∷ entries) [] = []
judgements_from (entry ∷ entries) (first ∷ rest) = judged_on entry first ∷ judgements_from entries rest

-- the last judgements
abbrev pub judgements_of : Last → List Judgement
judgements_of last = judgements_from last.verdicts.items last.grounds.items

-- The names stand in order, there are grounds for each verdict, each verdict is deserved, and what was found for it is
-- found in the other verdicts.
pub record IsKept (devices : List DeviceDecl) (last : Last) : Type 0 where
  pub names : IsStrictlySortedBy compare_names (keys_of last.verdicts.items)
  pub one_each : length last.grounds.items ≡ length last.verdicts.items
  pub judged : AreJudged devices (judgements_of last)
  pub settled : AreSettled (judgements_of last)
