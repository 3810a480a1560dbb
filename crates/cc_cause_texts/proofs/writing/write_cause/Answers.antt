use Rattle.std.proofs.Common.{List, ℕ, map, ap, ◌∙◌, subst}
use Rattle.std.specs.String.{string_bytes}
use Rattle.cc_io.specs.Pieces.{Streams}
use Rattle.cc_io.proofs.PassedPieces.{front_none}
use Rattle.cc_labels.specs.LabelledLines.{line_of, indented_lines}
use Rattle.cc_causes.specs.Views.{cause_of}
use Rattle.cc_cause_texts.proofs.ToldCauses.{compared}
use Rattle.cc_cause_texts.proofs.writing.write_cause.Goals as goal

pub returns-in-Ok-clause-streams : goal.returns-in-Ok-clause-streams
returns-in-Ok-clause-streams g c =
    let told = c.in-Ok.ensures in (
      told.0,
      told.1,
      subst (λ (t : List (List ℕ)). Streams (g.K.Sink.written c.args.sink.now) (g.K.Sink.written c.write_lines.new.sink)
          (string_bytes c.args.waiting.now) (string_bytes c.write_lines.new.waiting) c.write_lines.result (indented_lines t))
          (ap (map line_of) c.as_slice.ensures.value ∙ told.2) c.write_lines.ensures.streams,
    )

pub returns-in-Err-clause-streams : goal.returns-in-Err-clause-streams
returns-in-Err-clause-streams g c =
    let steps = compared (cause_of c.args.cause.now) c.requires.told in
    (steps.0, steps.1, front_none (g.K.Sink.written c.args.sink.now) _)
