use Rattle.std.proofs.Common.{◌∙◌, sym, subst}
use Rattle.std.proofs.lemmas.List.{length-map}
use Rattle.cc_core.specs.TermViews.{bind_of, type_of, note_of, context_of}
use Rattle.cc_subty.specs.Demands.{asked_of}
use Rattle.cc_known.specs.Logs.{Meets}
use Rattle.cc_known.specs.Parts.{named_of}
use Rattle.cc_type.specs.Rows.{noted_log}
use Rattle.cc_check.proofs.StandingDefinitions.{note_reads_well}
use Rattle.cc_check.proofs.plain.name_right.Goals as goal

pub noted-requires-clause-note : goal.noted-requires-clause-note
noted-requires-clause-note c = note_reads_well (context_of c.args.ctx.now) (note_of c.args.note.now) c.requires.note

pub returns : goal.returns
returns c =
    subst (λ root. Meets named_of c.noted.result (asked_of c.noted.new.log.demands)
    (noted_log root c.args.at (context_of c.args.ctx.now) (note_of c.args.note.now) (type_of c.args.ty.now)
    (asked_of c.args.log.now.demands)))
    (c.len.ensures ∙ sym (length-map c.args.ctx.now bind_of)) c.noted.ensures.is
