use Rattle.std.proofs.Common.{◌≡◌, ◌∷◌, take, map, flat_map}
use Rattle.std.specs.String.{string_bytes}
use Rattle.cc_io.specs.Pieces.{IsPassedOn}
use Rattle.cc_replies.specs.Explanations.{names_of, target_named}
use Rattle.cc_replies.specs.ReplyTexts.{target_text}
use Rattle.cc_replies.proofs.explanations.write_others.Given as goal

-- the targets up to here are appended or wait, and no write failed
abbrev pub invariant-loop-target : goal.invariant-loop-target
invariant-loop-target g l = record {
  passed : IsPassedOn (g.K.Sink.written l.initial.sink) (g.K.Sink.written l.sink) (string_bytes l.initial.waiting) (string_bytes l.waiting)
      (flat_map (λ target. 32 ∷ target_text l.names.names.items (target_named (map names_of l.definitions) target)) (take l.target-index l.others));
  no_fault : g.K.Sink.faults l.sink ≡ g.K.Sink.faults l.initial.sink;
}
