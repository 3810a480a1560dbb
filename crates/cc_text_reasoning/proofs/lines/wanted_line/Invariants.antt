use Rattle.std.proofs.Common.{◌≡◌, ◌++◌, take}
use Rattle.std.specs.Prelude.{codes}
use Rattle.std.specs.String.{string_bytes}
use Rattle.cc_text_reasons.specs.TextReasonTexts.{kinds_text}
use Rattle.cc_text_reasoning.proofs.lines.wanted_line.Given as goal

abbrev pub invariant-loop-kind : goal.invariant-loop-kind
invariant-loop-kind l = string_bytes l.line ≡ codes "wanted" ++ kinds_text (take l.kind-index l.wanted)
