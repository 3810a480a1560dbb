use Rattle.std.proofs.Common.{map, ◌∙◌, sym, subst}
use Rattle.std.proofs.lemmas.List.{length-map}
use Rattle.cc_core.specs.TermViews.{bind_of, type_of, note_of, context_of}
use Rattle.cc_subty.specs.Demands.{asked_of}
use Rattle.cc_known.specs.Parts.{named_of}
use Rattle.cc_type.specs.Rows.{ways}
use Rattle.cc_check.proofs.StandingDefinitions.{note_reads_well}
use Rattle.cc_reasons.specs.ExplainedInference.{explained_note}
use Rattle.cc_reasoning.specs.LocatedLogs.{Meets, after, beside}
use Rattle.cc_causes.specs.Views.{locals_of, scene_of}
use Rattle.cc_definition_reasoning.proofs.definitions.name_right.Goals as goal

pub name-requires-clause-note : goal.name-requires-clause-note
name-requires-clause-note c =
    note_reads_well (context_of c.args.scene.now.ctx) (note_of c.args.note.now) c.requires.note

pub returns-clause-is : goal.returns-clause-is
returns-clause-is c =
    subst (λ root. Meets named_of c.name.result
    (beside (asked_of c.name.new.log.demands) (map (λ l. locals_of l.value) c.name.new.known.items))
    (after (beside (asked_of c.args.log.now.demands) (map (λ l. locals_of l.value) c.args.known.now.items))
    (explained_note ways root c.args.at (scene_of c.args.scene.now) (note_of c.args.note.now) (type_of c.args.ty.now))))
    (c.len-root.ensures ∙ sym (length-map c.args.scene.now.ctx bind_of)) c.name.ensures.is
